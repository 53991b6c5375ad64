-- A member takes an input: what comes of it for the script, for the keepers and for the world.
--     never_none, was_there        what is read where a member runs
--     outcome_gives        what becomes of a world by what its member answered, and the event that tells it
--     given_gone, given_full, took        what the script does, as equations: the member is gone, or full, or takes it with a fate
--     reaches_made        the world then stands for the model's next, and tells the same
--     given_by, kept_by        the answers of the keepers
--     does_given, step_does        the contract of a step, from what its call does
use Rattle.std.proofs.Common.{Result, Ok, Err, ◌≡◌, ℕ, subst, Some, ◌≢◌, suc, ◌<◌, List, [], ◌∷◌, ◌++◌, length, refl, ap, ◌∙◌, arith, Bool, true, false, Option, None, ◌+◌, ◌-◌, map, set, get_or, sym, inl, inr}
use Rattle.std.specs.Prelude.{IsErr, MatchResult, IfOk, OnErr, if◌then◌else◌, nat_lt, option_map, All, is_some, ◌==◌, not, filter}
use Rattle.std.specs.List.{range_with_len}
use Rattle.std.proofs.lemmas.Bool.Decides.{nat_tests, eqb_tells}
use Rattle.std.proofs.lemmas.Bool.{eq-eqb, ne_eqb}
use Rattle.std.proofs.lemmas.List.Elements.{All-map, All-filter}
use Rattle.base_bytes.specs.declared.memory.Memory.{Memory}
use Rattle.model_history.specs.Texts.{Text}
use Rattle.model_history.specs.Table.{identity_limit, with_at}
use Rattle.model_history.specs.History.{History, IsExactlyPruned}
use Rattle.model_history.specs.Log.{IsTakenFrom}
use Rattle.model_history.proofs.HistoryLaws.{with_at_same, with_at_other}
use Rattle.model_kinds.specs.declared.operation.Op.{Op}
use Rattle.model_kinds.specs.declared.shown.Shown.{Shown}
use Rattle.model_members.specs.Script as script
use Rattle.model_members.specs.Node as nodes
use Rattle.model_members.specs.Message as sending
use Rattle.model_members.specs.World as worlds
use Rattle.model_members.specs.View.{place_of}
use Rattle.model_members.specs.DataType.{Replication}
use Rattle.model_members.specs.Node.{Input, Fate, Stepped, KeyDecl, state_of, key_states}
use Rattle.model_members.specs.Node.Fate.{NoStore, Stored, StoreFailed}
use Rattle.model_members.specs.Step.{step, is_full, to_store}
use Rattle.model_members.specs.World.{Event, Turn, turn_of, step_in, output_of, happens, stores, FitsFate, Links, with_posts, after_step, IsRun}
use Rattle.model_members.specs.Script.{Told, Playing, did, told, given, take_turn, output_lines, next_answer, with_call, answers_between, ScriptStep, IsStep, played}
use Rattle.model_members.specs.Script.Answer.{Gone, HistoryFull, Replied}
use Rattle.model_members.specs.Entry.{Entry, is_unchanged}
use Rattle.model_members.specs.World.Event.{InputAt}
use Rattle.theorem_runs.proofs.Playing.{step_is_run, played_appends}
use Rattle.member_views.specs.Sound.{last_view}
use Rattle.member_keeper.specs.declared.keeper.Keeper.{Ghosts as Keeping}
use Rattle.data_lattice.specs.declared.replica.Replica.{Ghosts}
use Rattle.data_lattice.specs.declared.spelled.SpelledData.{Ghosts as Spelling}
use Rattle.member_messages.specs.declared.message.Message.{Message}
use Rattle.member_node.specs.declared.input.Input.TheVariants as input
use Rattle.member_node.specs.declared.reply.StepError.TheVariants as failed
use Rattle.member_node.specs.declared.input.Input as given_input
use Rattle.member_node.specs.declared.reply.Fate.TheVariants as done
use Rattle.member_node.specs.declared.node.Node.{Node}
use Rattle.member_node.specs.declared.reply.StepError.{StepError}
use Rattle.member_node.specs.Steps.{IsUnchanged, replication, IsStepOf, IsImage, TellsSame, IsCalled}
use Rattle.member_node.specs.declared.key.KeyState.{KeyState}
use Rattle.member_node.specs.declared.reply.Output.{Output}
use Rattle.member_node.specs.Keys.{AreDistinct, declared_by}
use Rattle.member_node.specs.Replies.{meant_fate, program_steps}
use Rattle.member_node.specs.Inputs.{StandsForInput}
use Rattle.member_node.specs.Members.{StandsForNode, StandsForPosts, IsSafe}
use Rattle.member_node.specs.Stores.{IsKept}
use Rattle.member_node.specs.declared.reply.Fate.{Fate as Done}
use Rattle.member_node.proofs.Fates.{entries_same}
use Rattle.script_reading.specs.Meant.{step_of}
use Rattle.script_reading.specs.declared.ask.Ask.{Ask}
use Rattle.script_reading.specs.declared.script.Step.TheVariants as form
use Rattle.script_reading.specs.declared.script.Step.{Step}
use Rattle.world_members.specs.declared.event.Answer.TheVariants as answer
use Rattle.world_members.specs.declared.event.Event.{Event as Line}
use Rattle.world_members.specs.declared.event.Head.{Head}
use Rattle.world_places.specs.declared.sending.Answered.{Answered}
use Rattle.world_members.specs.declared.world.World.{World}
use Rattle.world_places.specs.Channels.{Channels, channel_at, message_on}
use Rattle.world_members.specs.Giving.{IsToldAs, RunsAt, ChangesAt, Refuses, Gives, full, made, IsSame, Makes, gone, IsAsBefore, Does}
use Rattle.world_places.specs.Sending.{IsStepOnLinks, TakesOnLinks, told_of, AreFew}
use Rattle.world_places.specs.declared.sent.SentTo.{SentTo}
use Rattle.world_places.specs.Keeping.{Given, Keeps, KeepsAt, AreSeated}
use Rattle.world_members.specs.Lines.{IsHead, IsLine, is_damage, are_damaged}
use Rattle.world_members.specs.Standing.{StandsForWorld}
use Rattle.world_places.specs.Standing.{StandsForLink, TellsStore}
use Rattle.world_members.specs.Steps.{Foretells, HaveAnswered, Reaches, Plays, Remains, RemainsSo}
use Rattle.world_members.specs.Ways.{IsPrefix, Throughout, Means}
use Rattle.world_places.specs.Places.{item_at, seat_of, keeper_of}
use Rattle.world_places.proofs.FewSent.{few_posts, few_sent}
use Rattle.world_places.proofs.Lists.{at_one}
use Rattle.world_places.proofs.Seats.{item_found, seated_set}
use Rattle.world_places.proofs.Linking.{same_told, links_sent}
use Rattle.world_members.proofs.Onward.{safe_now, stands_before, way_logs}
use Rattle.world_members.proofs.Standings.{IsAtWork, at_work_there, place_there, stands_after, keeper_before, gone_there, stands_kept, kept_alike, stays_same, keeper_after, keeper_other, limit_before}
use Rattle.world_places.proofs.Storing.{NamesApart, IsFine, apart_filtered, states_apart, store_stands, not_called_at, becomes_none, not_called}
use Rattle.world_members.proofs.Telling.{IsEventAt, reaches_told, plays_does, input_at}

-- what is owed of an error
pub match_err : {X E : Type 0} (P : X → Type 0) (Q : Type 0) (outcome : Result X E) → IsErr outcome → Q → MatchResult outcome P (λ e. Q)
match_err P Q (Ok x) is q = absurd (cc is)
match_err P Q (Err e) is q = q

-- OUTCOMES

pub match_each : {X E : Type 0} (P : X → Type 0) (Q : Type 0) (result : Result X E) → ((x : X) → result ≡ Ok x → P x) → ((e : E) → result ≡ Err e → Q) → MatchResult result P (λ _. Q)
match_each P Q (Ok x) ok err = ok x (λ _. Ok x)
match_each P Q (Err e) ok err = err e (λ _. Err e)

told_event : (head : Head) (outcome : Result Answered StepError) (result : Result Line Memory) (event : Line) → MatchResult result (IsToldAs head outcome) (λ _. outcome ≡ Err failed.Memory) → result ≡ Ok event → IsToldAs head outcome event
told_event head outcome result event told is = subst (λ (r : Result Line Memory). MatchResult r (IsToldAs head outcome) (λ _. outcome ≡ Err failed.Memory)) is told

wanted : (head : Head) (outcome : Result Answered StepError) (result : Result Line Memory) (e : Memory) → MatchResult result (IsToldAs head outcome) (λ _. outcome ≡ Err failed.Memory) → result ≡ Err e → outcome ≡ Err failed.Memory
wanted head outcome result e told is = subst (λ (r : Result Line Memory). MatchResult r (IsToldAs head outcome) (λ _. outcome ≡ Err failed.Memory)) is told

module _ {T K Kind Op Delta : Type 0} {ghosts : Ghosts T Kind Op Delta} {keeping : Keeping K} (spelling : Spelling T Kind Op Delta) (i place : ℕ) (before after : Node T K Kind Op Delta ghosts keeping) (old new : World T K Kind Op Delta ghosts keeping) (changes : ChangesAt i place before after old new) (head : Head) (outcome : Result Answered StepError)
    (result : Result Line Memory) (told : MatchResult result (IsToldAs head outcome) (λ _. outcome ≡ Err failed.Memory)) (fills : outcome ≡ Err failed.HistoryFull → before.steps ≡ before.limit) (err : OnErr outcome (IsUnchanged before after × (new.links ≡ old.links))) where
  abbrev refused : (e : StepError) → outcome ≡ Err e → Refuses i old new
  refused e is =
      let kept = subst (λ (o : Result Answered StepError). OnErr o (IsUnchanged before after × (new.links ≡ old.links))) is err in
      record { place = place; before = before; after = after; changes = changes; links = kept.1; unchanged = kept.0 }

  pub outcome_gives : (input : given_input.Input T Kind Op Delta ghosts) → IfOk outcome (λ answered. IsStepOnLinks spelling before input answered after i old.links new.links) → (event : Line) → result ≡ Ok event → Gives spelling i head input old new event
  outcome_gives input ok event is = go outcome (λ _. outcome) (told_event head outcome result event told is) ok
    where
      go : (o : Result Answered StepError) → outcome ≡ o → IsToldAs head o event → IfOk o (λ answered. IsStepOnLinks spelling before input answered after i old.links new.links) → Gives spelling i head input old new event
      go (Ok answered) same line steps = made answered (record { place = place; before = before; after = after; changes = changes; steps = steps }) line
      go (Err failed.HistoryFull) same line steps = full (refused failed.HistoryFull same) (fills same) line
      go (Err failed.Memory) same line steps = absurd line

  pub outcome_refuses : (e : Memory) → result ≡ Err e → Refuses i old new
  outcome_refuses e is = refused failed.Memory (wanted head outcome result e told is)

-- what is read at the place where the member of an identity runs
module _ {T K Kind Op Delta : Type 0} {ghosts : Ghosts T Kind Op Delta} {keeping : Keeping K} (i place : ℕ) (old : World T K Kind Op Delta ghosts keeping) (at : RunsAt i place old) (o : Option (Node T K Kind Op Delta ghosts keeping)) (read : o ≡ get_or old.nodes.items place o) where
  pub never_none : o ≡ None → ⊥
  never_none is = at.there (item_found old.nodes.items place o None at.within read is)

  module _ (before : Node T K Kind Op Delta ghosts keeping) (is : o ≡ Some before) where
    pub was_there : item_at old.nodes.items place ≡ Some before
    was_there = item_found old.nodes.items place o (Some before) at.within read is

    pub still_seated : (after : Node T K Kind Op Delta ghosts keeping) → after.id ≡ before.id → after.limit ≡ before.limit → AreSeated old.views (set old.nodes.items place (Some after)) old.spare.items
    still_seated after same limit = seated_set old.views old.nodes.items old.spare.items old.seated place before after at.within was_there same limit

-- what a member took is the message that was there
pub taken_so : {T K Kind Op Delta : Type 0} {ghosts : Ghosts T Kind Op Delta} {keeping : Keeping K} (spelling : Spelling T Kind Op Delta) (before : Node T K Kind Op Delta ghosts keeping) (from index : ℕ) (after : Node T K Kind Op Delta ghosts keeping) (at : ℕ) (old new : Channels (Message T Kind Op Delta ghosts)) (outcome : Result Answered StepError)
    → IfOk outcome (λ answered. TakesOnLinks spelling before from index answered after at old new) → (message : Message T Kind Op Delta ghosts) → message_on (channel_at old from at) index ≡ Some message → IfOk outcome (λ answered. IsStepOnLinks spelling before (input.Take from message) answered after at old new)
taken_so spelling before from index after at old new (Ok answered) takes message is = takes message is
taken_so spelling before from index after at old new (Err e) takes message is = tt

-- THE SCRIPT

no_items : {X : Type 0} (xs : List X) → xs ≡ [] → nat_lt 0 (length xs) ≡ false
no_items xs e = ap (λ (ys : List _). nat_lt 0 (length ys)) e

some_items : {X : Type 0} (xs : List X) → xs ≢ [] → nat_lt 0 (length xs) ≡ true
some_items [] h = absurd (h refl)
some_items (x ∷ xs) h = let l : 0 < suc (length xs) = omega arith in grind (arith, nat_tests)

-- what a keeper answers where the store does this
abbrev pub answers_of : Fate → List Bool
answers_of NoStore = []
answers_of Stored = true ∷ []
answers_of StoreFailed = false ∷ []

module _ {Kind Op Shown : Type 0} where
  -- the keeper of a place was called, if there was something to store
  abbrev pub called_for : Fate → Playing Kind Op Shown → ℕ → Playing Kind Op Shown
  called_for NoStore p place = p
  called_for Stored p place = with_call p place
  called_for StoreFailed p place = with_call p place

  -- the keeper of a place is to answer so
  abbrev pub IsAnswered : Fate → Playing Kind Op Shown → ℕ → Type 0
  IsAnswered NoStore p place = Unit {0}
  IsAnswered Stored p place = next_answer p place ≡ true
  IsAnswered StoreFailed p place = next_answer p place ≡ false

  abbrev pub line_of : script.Head Op → Stepped Kind Op Shown → Told Op Shown
  line_of head stepped = record { head = head; answer = Replied stepped.output.reply; posts = stepped.output.posts; ended = stepped.output.ended }

module _ {Kind Op Shown : Type 0} (D : Replication Kind Op Shown) (p : Playing Kind Op Shown) (head : script.Head Op) (event : Fate → Event Op) where
  -- what a script does with a member's turn, if there is one
  abbrev given_turn : Option (Turn Kind Op Shown) → Playing Kind Op Shown
  given_turn o = elim o [ None ↦ told p head Gone | Some turn ↦ if is_full D turn.before then told p head HistoryFull else take_turn D p head event turn ]

  pub given_gone : turn_of p.world (event NoStore) ≡ None → given D p head event ≡ told p head Gone
  given_gone none = ap given_turn none

  module _ (i : ℕ) (input : Input Op) (node : nodes.Node Kind Op Shown) (turns : (fate : Fate) → turn_of p.world (event fate) ≡ Some (record { at = i; before = node; input = input; fate = fate })) where
    abbrev turn : Turn Kind Op Shown
    turn = record { at = i; before = node; input = input; fate = NoStore }

    pub given_full : is_full D node ≡ true → given D p head event ≡ told p head HistoryFull
    given_full filled = ap given_turn (turns NoStore) ∙ ap (λ (b : Bool). if b then told p head HistoryFull else take_turn D p head event turn) filled

    -- the member's step with a fate
    abbrev pub taken_with : Fate → Playing Kind Op Shown
    taken_with fate = did D (called_for fate p (place_of p.world.view i)) (event fate) (line_of head (step D node input fate) ∷ [])

    abbrev taken : Playing Kind Op Shown → Fate → Playing Kind Op Shown
    taken called fate = did D called (event fate) (output_lines D head (output_of D p.world (event fate)))

    -- by whether there is something to store, and what the keeper answers
    abbrev taken_by : Bool → Bool → Playing Kind Op Shown
    taken_by stored ok = taken (if stored then with_call p (place_of p.world.view i) else p) (if stored then (if ok then Stored else StoreFailed) else NoStore)

    with_lines : (called : Playing Kind Op Shown) (fate : Fate) → taken called fate ≡ did D called (event fate) (line_of head (step D node input fate) ∷ [])
    with_lines called fate = ap (λ o. did D called (event fate) (output_lines D head (option_map (λ (turn : Turn Kind Op Shown). (step_in D turn).output) o))) (turns fate)

    given_taken : is_full D node ≡ false → given D p head event ≡ taken_by (nat_lt 0 (length (stores D node input))) (next_answer p (place_of p.world.view i))
    given_taken room = ap given_turn (turns NoStore) ∙ ap (λ (b : Bool). if b then told p head HistoryFull else take_turn D p head event turn) room

    some_taken : (stored ok : Bool) → (fate : Fate) × (taken_by stored ok ≡ taken_with fate)
    some_taken false ok = (NoStore, with_lines p NoStore)
    some_taken true true = (Stored, with_lines (with_call p (place_of p.world.view i)) Stored)
    some_taken true false = (StoreFailed, with_lines (with_call p (place_of p.world.view i)) StoreFailed)

    -- with some fate
    pub took_some : is_full D node ≡ false → (fate : Fate) × (given D p head event ≡ taken_with fate)
    took_some room = let s = some_taken (nat_lt 0 (length (stores D node input))) (next_answer p (place_of p.world.view i)) in (s.0, given_taken room ∙ s.1)

    fitted : (fate : Fate) → FitsFate D node input fate → IsAnswered fate p (place_of p.world.view i) → taken_by (nat_lt 0 (length (stores D node input))) (next_answer p (place_of p.world.view i)) ≡ taken_with fate
    fitted NoStore fits answered = ap (λ b. taken_by b (next_answer p (place_of p.world.view i))) (no_items (stores D node input) fits) ∙ with_lines p NoStore
    fitted Stored fits answered =
        ap (λ b. taken_by b (next_answer p (place_of p.world.view i))) (some_items (stores D node input) fits) ∙ ap (taken_by true) answered ∙ with_lines (with_call p (place_of p.world.view i)) Stored
    fitted StoreFailed fits answered =
        ap (λ b. taken_by b (next_answer p (place_of p.world.view i))) (some_items (stores D node input) fits) ∙ ap (taken_by true) answered ∙ with_lines (with_call p (place_of p.world.view i)) StoreFailed

    -- with the fate that fits, and that the keeper answers
    pub took : is_full D node ≡ false → (fate : Fate) → FitsFate D node input fate → IsAnswered fate p (place_of p.world.view i) → given D p head event ≡ taken_with fate
    took room fate fits answered = given_taken room ∙ fitted fate fits answered

    pub world_taken : (fate : Fate) → (taken_with fate).world ≡ happens D p.world (event fate)
    world_taken NoStore = refl
    world_taken Stored = refl
    world_taken StoreFailed = refl

    pub events_taken : (fate : Fate) → (taken_with fate).events ≡ p.events ++ event fate ∷ []
    events_taken NoStore = refl
    events_taken Stored = refl
    events_taken StoreFailed = refl

    pub lines_taken : (fate : Fate) → (taken_with fate).lines ≡ p.lines ++ line_of head (step D node input fate) ∷ []
    lines_taken NoStore = refl
    lines_taken Stored = refl
    lines_taken StoreFailed = refl

-- THE STEP

-- one place's keeper gave these answers
abbrev pub given_at : ℕ → List Bool → Given
given_at place answers k = if k == place then answers else []

pub given_here : (place k : ℕ) (answers : List Bool) → k ≡ place → given_at place answers k ≡ answers
given_here place k answers e = ap (λ b. if b then answers else []) (eq-eqb k place e)

next_of : {Kind Op Shown : Type 0} (p : Playing Kind Op Shown) (place : ℕ) (b : Bool) → answers_between p.answers place (p.calls place) (p.calls place + 1) ≡ b ∷ [] → next_answer p place ≡ b
next_of p place b e =
    let one : p.calls place + 1 - p.calls place ≡ 1 = omega arith in
    let f : next_answer p place ∷ [] ≡ b ∷ [] = sym (ap (λ n. map (p.answers place) (range_with_len (p.calls place) n)) one) ∙ e in cc f

-- the keeper answers as it was foretold
pub answer_told : {Kind Op Shown : Type 0} (p : Playing Kind Op Shown) (place : ℕ) (b : Bool) → Foretells p (given_at place (b ∷ [])) → next_answer p place ≡ b
answer_told p place b foretold = next_of p place b (subst (λ (answers : List Bool). answers_between p.answers place (p.calls place) (p.calls place + length answers) ≡ answers) (given_here place place (b ∷ []) refl) (foretold place))

foretold_answer : {Kind Op Shown : Type 0} (p : Playing Kind Op Shown) (place : ℕ) (fate : Fate) → Foretells p (given_at place (answers_of fate)) → IsAnswered fate p place
foretold_answer p place NoStore foretold = tt
foretold_answer p place Stored foretold = answer_told p place true foretold
foretold_answer p place StoreFailed foretold = answer_told p place false foretold

-- so many calls more
abbrev no_answers : List Bool
no_answers = []

called_never : (n place k : ℕ) → n ≡ n + length (given_at place [] k)
called_never n place k = go (k == place)
  where
    go : (b : Bool) → n ≡ n + length (if b then no_answers else no_answers)
    go true = omega arith
    go false = omega arith

called_once : (calls : ℕ → ℕ) (place : ℕ) (b : Bool) (k : ℕ) → with_at calls place (suc (calls place)) k ≡ calls k + length (given_at place (b ∷ []) k)
called_once calls place b k = elim (eqb_tells k place) [
  | inl here ↦
      let one : length (given_at place (b ∷ []) k) ≡ 1 = ap length (given_here place k (b ∷ []) here.1) in
      let same : calls k ≡ calls place = ap calls here.1 in
      ap (with_at calls place (suc (calls place))) here.1 ∙ with_at_same calls place (suc (calls place)) ∙ (let e : suc (calls place) ≡ calls k + length (given_at place (b ∷ []) k) = omega arith in e)
  | inr other ↦
      let none : length (given_at place (b ∷ []) k) ≡ 0 = ap (λ x. length (if x then b ∷ [] else [])) other.0 in
      with_at_other calls place (suc (calls place)) k other.1 ∙ (let e : calls k ≡ calls k + length (given_at place (b ∷ []) k) = omega arith in e)
]

pub one_call : {Kind Op Shown : Type 0} (p : Playing Kind Op Shown) (place : ℕ) (b : Bool) → HaveAnswered p (with_call p place) (given_at place (b ∷ []))
one_call p place b k = called_once p.calls place b k

answered_so_often : {Kind Op Shown : Type 0} (p : Playing Kind Op Shown) (place : ℕ) (fate : Fate) → HaveAnswered p (called_for fate p place) (given_at place (answers_of fate))
answered_so_often p place NoStore k = called_never (p.calls k) place k
answered_so_often p place Stored k = one_call p place true k
answered_so_often p place StoreFailed k = one_call p place false k

-- the keeper of one place gave answers, and the others none
pub kept_one : {K : Type 0} (keeping : Keeping K) (place : ℕ) (answers : List Bool) (old new : ℕ → Option K) (before after : K) → old place ≡ Some before → new place ≡ Some after → Keeps keeping answers before after → ((k : ℕ) → k ≢ place → new k ≡ old k)
    → (k : ℕ) → KeepsAt keeping (given_at place answers k) (old k) (new k)
kept_one keeping place answers old new before after was is keeps others =
    at_one (λ k. KeepsAt keeping (given_at place answers k) (old k) (new k)) place
    (subst (λ given. KeepsAt keeping given (old place) (new place)) (sym (given_here place place answers refl)) (subst (λ o. KeepsAt keeping answers o (new place)) (sym was) (subst (KeepsAt keeping answers (Some before)) (sym is) keeps)))
    (λ k other. subst (λ given. KeepsAt keeping given (old k) (new k)) (sym (ap (λ b. if b then answers else []) (ne_eqb k place other))) (subst (KeepsAt keeping [] (old k)) (sym (others k other)) (not_called_at keeping (old k))))

-- THE ENTRIES TO STORE

module _ {T K Kind Delta : Type 0} {ghosts : Ghosts T Kind Op Delta} {keeping : Keeping K} (spelling : Spelling T Kind Op Delta) (kinds : Text → Kind) (logs : Text → History Op) (code : Node T K Kind Op Delta ghosts keeping) (old next : nodes.Node Kind Op Shown) (stands : StandsForNode ghosts.kind_of ghosts.IsDataOf kinds logs code next) where
  same_names : (ks : List (KeyState T Kind Op Delta)) → map (λ (d : KeyDecl Kind). d.name) (map declared_by ks) ≡ map (λ (state : KeyState T Kind Op Delta). state.name) ks
  same_names [] = refl
  same_names (k ∷ ks) = ap (λ names. k.name ∷ names) (same_names ks)

  pub names_apart : NamesApart (to_store old next)
  names_apart =
      apart_filtered (λ (k : nodes.KeyState Kind Op). k.durable) (filter (λ (k : nodes.KeyState Kind Op). not (is_unchanged (old.entries k.name) k.entry)) (key_states next))
      (apart_filtered (λ (k : nodes.KeyState Kind Op). not (is_unchanged (old.entries k.name) k.entry)) (key_states next)
      (states_apart next next.keys (subst AreDistinct (sym (ap (map (λ (d : KeyDecl Kind). d.name)) stands.keys ∙ same_names code.keys.items)) stands.distinct)))

  of_kinds : All (λ (k : nodes.KeyState Kind Op). kinds k.name ≡ k.kind) (to_store old next)
  of_kinds =
      All-filter (λ (k : nodes.KeyState Kind Op). k.durable) (λ (k : nodes.KeyState Kind Op). kinds k.name ≡ k.kind) (filter (λ (k : nodes.KeyState Kind Op). not (is_unchanged (old.entries k.name) k.entry)) (key_states next))
      (All-filter (λ (k : nodes.KeyState Kind Op). not (is_unchanged (old.entries k.name) k.entry)) (λ (k : nodes.KeyState Kind Op). kinds k.name ≡ k.kind) (key_states next)
      (All-map (λ (k : nodes.KeyState Kind Op). kinds k.name ≡ k.kind) (state_of next) next.keys
      (subst (All (λ (d : KeyDecl Kind). kinds d.name ≡ d.kind)) (sym stands.keys) (All-map (λ (d : KeyDecl Kind). kinds d.name ≡ d.kind) declared_by code.keys.items (λ k d within. (stands.entries k d within).kind)))))

  pub all_fine : All (λ (k : nodes.KeyState Kind Op). IsKept ghosts spelling k.kind (logs k.name) k.entry) (to_store old next) → All (IsFine ghosts spelling kinds logs) (to_store old next)
  all_fine kept k d within = record { kind = of_kinds k d within; kept = kept k d within }

-- a member with the same entries
safe_alike : {Kind : Type 0} {logs : Text → History Op} (one other : nodes.Node Kind Op Shown) → other.entries ≡ one.entries → IsSafe logs one → IsSafe logs other
safe_alike {logs = logs} one other same s =
    record {
      taken = λ key. subst (λ (entries : Text → Entry Op). IsTakenFrom (logs key) (entries key).history) (sym same) (s.taken key);
      exact = λ key. subst (λ (entries : Text → Entry Op). IsExactlyPruned (entries key).history) (sym same) (s.exact key);
    }

-- THE STEP

module _ {T K Kind Delta : Type 0} {ghosts : Ghosts T Kind Op Delta} {keeping : Keeping K} (spelling : Spelling T Kind Op Delta) (alike : (a b : K) → is_some (keeping.table a) ≡ is_some (keeping.table b)) (kinds : Text → Kind) (members : ℕ) (decls : List (KeyDecl Kind)) (old new : World T K Kind Op Delta ghosts keeping) (p : Playing Kind Op Shown) (m : Means spelling kinds members decls p old) (head : script.Head Op) (event : Fate → Event Op)
    (is_run : IsRun (replication ghosts spelling) members decls (given (replication ghosts spelling) p head event).events (given (replication ghosts spelling) p head event).world) (more : IsPrefix p.events (given (replication ghosts spelling) p head event).events) (i : ℕ) (sent : Input Op) (links : Links Op) (at : IsEventAt (replication ghosts spelling) p event i sent links) where
  abbrev D : Replication Kind Op Shown
  D = replication ghosts spelling

  abbrev pub next : Playing Kind Op Shown
  next = given D p head event

  module _ (place : ℕ) (before after : Node T K Kind Op Delta ghosts keeping) (changes : ChangesAt i place before after old new) (input : given_input.Input T Kind Op Delta ghosts) (fate : Done) (output : Output T Kind Op Delta ghosts) (makes : IsStepOf spelling before input fate output after) where
    module _ (logs : Text → History Op) (now : StandsForWorld spelling kinds logs old p.world) where
      abbrev work : IsAtWork spelling kinds logs p.world i before
      work = at_work_there spelling kinds logs old new p.world now i place before after changes

      abbrev node : nodes.Node Kind Op Shown
      node = work.node

      pub has_room : is_full D node ≡ false
      has_room = elim (eqb_tells node.steps program_steps) [
        | inl e ↦ absurd (let a = work.stands.steps in let b = makes.had_room in let c = e.1 in let d = limit_before i place before after old new changes in omega arith)
        | inr other ↦ other.0
      ]

      some_fate : (f : Fate) × (next ≡ taken_with D p head event i sent node (at.turns node work.runs) f)
      some_fate = took_some D p head event i sent node (at.turns node work.runs) has_room

      world_with : (f : Fate) → next ≡ taken_with D p head event i sent node (at.turns node work.runs) f → next.world ≡ after_step (record p.world { links = links }) i node f (step D node sent f)
      world_with f e = ap (λ (x : Playing Kind Op Shown). x.world) e ∙ world_taken D p head event i sent node (at.turns node work.runs) f ∙ at.happened node work.runs f

      module _ (input_stands : StandsForInput kinds logs before.keys.items input sent) (through : Throughout D logs members decls next) where
        safe_with : (f : Fate) → next ≡ taken_with D p head event i sent node (at.turns node work.runs) f → IsSafe logs (step D node sent f).node
        safe_with f e =
            safe_now D logs members decls next is_run through i (step D node sent f).node
            (ap (λ (w : worlds.World Kind Op Shown). w.nodes i) (world_with f e) ∙ with_at_same p.world.nodes i (Some (step D node sent f).node))

        -- the entries after the step are the same whatever the store did
        pub safe : IsSafe logs (step D node sent (meant_fate fate)).node
        safe = safe_alike (step D node sent some_fate.0).node (step D node sent (meant_fate fate)).node (entries_same D node sent (meant_fate fate) ∙ sym (entries_same D node sent some_fate.0)) (safe_with some_fate.0 some_fate.1)

        pub image : IsImage spelling kinds logs before fate output after node sent
        image = makes.image kinds logs node sent work.stands input_stands safe

        pub few : AreFew before.view input output.posts
        few =
            let stepped = step D node sent (meant_fate fate) in
            few_sent kinds logs before.keys.items before.view node.view input sent output.posts stepped.output.posts work.stands.view input_stands image.answers.posts (few_posts D node sent (meant_fate fate))

        module _ (foretold : Foretells p (given_at place (answers_of (meant_fate fate)))) where
          pub next_is : next ≡ taken_with D p head event i sent node (at.turns node work.runs) (meant_fate fate)
          next_is =
              took D p head event i sent node (at.turns node work.runs) has_room (meant_fate fate) image.fate_fits
              (subst (IsAnswered (meant_fate fate) p) (sym (place_there spelling kinds logs old new p.world now i place before after changes)) (foretold_answer p place (meant_fate fate) foretold))

          pub stands_next : ((a b : ℕ) → a < identity_limit → b < identity_limit → StandsForLink {ghosts = ghosts} kinds logs (channel_at new.links a b) (with_posts links i (step D node sent (meant_fate fate)).output.posts a b)) → StandsForWorld spelling kinds logs new next.world
          stands_next linked =
              let stepped = step D node sent (meant_fate fate) in
              subst (λ (w : worlds.World Kind Op Shown). StandsForWorld spelling kinds logs new w) (sym (world_with (meant_fate fate) next_is))
              (stands_after spelling kinds logs old new p.world now i place before after changes links node (meant_fate fate) stepped image.stands linked
              (store_stands ghosts spelling kinds logs keeping alike fate (to_store node stepped.node) before.keeper after.keeper (p.world.stores place) image.table
              (names_apart spelling kinds logs after node stepped.node image.stands) (all_fine spelling kinds logs after node stepped.node image.stands image.kept)
              (subst (λ o. TellsStore ghosts keeping spelling kinds logs o (p.world.stores place)) (keeper_before i place before after old new changes) (now.stores place))))

    module _ (input_stands : (logs : Text → History Op) → StandsForWorld spelling kinds logs old p.world → StandsForInput kinds logs before.keys.items input sent) (foretold : Foretells p (given_at place (answers_of (meant_fate fate)))) (kept : Head) (is_head : IsHead kept head) (told_sent : List SentTo)
        (tells : AreFew before.view input output.posts → told_sent ≡ map told_of output.posts)
        (linked : (logs : Text → History Op) (sents : List (sending.Post Op)) → StandsForWorld spelling kinds logs old p.world → StandsForPosts ghosts.kind_of ghosts.IsDataOf kinds logs output.posts sents → AreFew before.view input output.posts
        → (a b : ℕ) → a < identity_limit → b < identity_limit → StandsForLink {ghosts = ghosts} kinds logs (channel_at new.links a b) (with_posts links i sents a b)) where
      stands_made : (logs : Text → History Op) → Throughout D logs members decls next → StandsForWorld spelling kinds logs new next.world
      stands_made logs through =
          let now = stands_before spelling kinds members decls p next old more m logs through in
          let im = image logs now (input_stands logs now) through in
          stands_next logs now (input_stands logs now) through foretold (linked logs (step D (node logs now) sent (meant_fate fate)).output.posts now im.answers.posts (few logs now (input_stands logs now) through))

      module _ (logs : Text → History Op) (through : Throughout D logs members decls next) where
        abbrev now_in : StandsForWorld spelling kinds logs old p.world
        now_in = stands_before spelling kinds members decls p next old more m logs through

        abbrev done_by : nodes.Stepped Kind Op Shown
        done_by = step D (node logs now_in) sent (meant_fate fate)

        line_made : (line : script.Told Op Shown) × (next.lines ≡ p.lines ++ line ∷ []) × IsLine (record { head = kept; answer = answer.Reply output.reply; sent = told_sent; finished = output.finished }) line
        line_made =
            let says = (image logs now_in (input_stands logs now_in) through).answers in (
              line_of head done_by,
              ap (λ (x : Playing Kind Op Shown). x.lines) (next_is logs now_in (input_stands logs now_in) through foretold) ∙ lines_taken D p head event i sent (node logs now_in) (at.turns (node logs now_in) (work logs now_in).runs) (meant_fate fate),
              record {
                head = is_head;
                answer = ap script.Answer.Replied (sym says.reply);
                sent = tells (few logs now_in (input_stands logs now_in) through) ∙ same_told kinds logs output.posts done_by.output.posts says.posts;
                ended = says.ended;
              },
            )

        calls_made : HaveAnswered p next (given_at place (answers_of (meant_fate fate)))
        calls_made k =
            ap (λ (x : Playing Kind Op Shown). x.calls k) (next_is logs now_in (input_stands logs now_in) through foretold)
            ∙ ap (λ q. (called_for (meant_fate fate) p q).calls k) (place_there spelling kinds logs old new p.world now_in i place before after changes)
            ∙ answered_so_often p place (meant_fate fate) k

      pub reaches_made : Reaches spelling kinds members decls p next (given_at place (answers_of (meant_fate fate))) new (record { head = kept; answer = answer.Reply output.reply; sent = told_sent; finished = output.finished } ∷ [])
      reaches_made =
          let logged = way_logs D members decls next is_run in
          let line = line_made logged.0 logged.1 in
          record { means = record { run = is_run; stands = stands_made }; lines = (line.0 ∷ [], line.1, (line.2, tt)); calls = calls_made logged.0 logged.1 }

-- WHAT COMES OF IT

-- KEEPERS

module _ {K : Type 0} (keeping : Keeping K) (alike : (a b : K) → is_some (keeping.table a) ≡ is_some (keeping.table b)) where
  pub tells_keeps : (old new : K) → TellsSame keeping old new → Keeps keeping [] old new
  tells_keeps old new same = record { told = becomes_none (keeping.answers old) (keeping.answers new) same.answers; counted = (let l = same.later in omega arith); table = λ told. sym (alike old new) ∙ told }

  pub called_keeps : (fate : Done) (old new : K) → IsCalled keeping fate old new → Keeps keeping (answers_of (meant_fate fate)) old new
  called_keeps done.NoStore old new e = subst (λ (k : K). Keeps keeping [] old k) (sym e) (not_called keeping old)
  called_keeps done.Stored old new c = record { told = c.0; counted = (let l = c.1 in omega arith); table = λ told. sym (alike old new) ∙ told }
  called_keeps done.StoreFailed old new c = record { told = c.0; counted = c.1; table = λ told. sym (alike old new) ∙ told }

  module _ {T Kind Delta : Type 0} {ghosts : Ghosts T Kind Op Delta} (i place : ℕ) (before after : Node T K Kind Op Delta ghosts keeping) (old new : World T K Kind Op Delta ghosts keeping) (changes : ChangesAt i place before after old new) where
    pub kept_changed : (answers : List Bool) → Keeps keeping answers before.keeper after.keeper → (k : ℕ) → KeepsAt keeping (given_at place answers k) (keeper_of old.nodes.items old.spare.items k) (keeper_of new.nodes.items new.spare.items k)
    kept_changed answers keeps =
        kept_one keeping place answers (keeper_of old.nodes.items old.spare.items) (keeper_of new.nodes.items new.spare.items) before.keeper after.keeper (keeper_before i place before after old new changes) (keeper_after i place before after old new changes) keeps (keeper_other i place before after old new changes)

module _ {T K Kind Delta : Type 0} {ghosts : Ghosts T Kind Op Delta} {keeping : Keeping K} (spelling : Spelling T Kind Op Delta) (alike : (a b : K) → is_some (keeping.table a) ≡ is_some (keeping.table b)) where
  -- WHERE MEMORY IS WANTED

  module _ (old new : World T K Kind Op Delta ghosts keeping) where
    pub kept_refused : (i : ℕ) → Refuses i old new → (k : ℕ) → KeepsAt keeping [] (keeper_of old.nodes.items old.spare.items k) (keeper_of new.nodes.items new.spare.items k)
    kept_refused i r k =
        subst (λ a. KeepsAt keeping a (keeper_of old.nodes.items old.spare.items k) (keeper_of new.nodes.items new.spare.items k)) (nothing (k == r.place))
        (kept_changed keeping alike i r.place r.before r.after old new r.changes [] (tells_keeps keeping alike r.before.keeper r.after.keeper r.unchanged.told) k)
      where
        nothing : (b : Bool) → ◌≡◌ {A = List Bool} (if b then [] else []) []
        nothing true = refl
        nothing false = refl

    pub means_refused : (i : ℕ) (kinds : Text → Kind) (members : ℕ) (decls : List (KeyDecl Kind)) (p : Playing Kind Op Shown) → Refuses i old new → Means spelling kinds members decls p old → Means spelling kinds members decls p new
    means_refused i kinds members decls p r m = record { run = m.run; stands = λ logs through. stands_kept spelling kinds logs old new p.world (m.stands logs through) i r.place r.before r.after r.changes r.links r.unchanged alike }

    pub as_before : (i : ℕ) → Refuses i old new → IsAsBefore spelling old new
    as_before i r = record { kept = λ k. record { answers = []; keeps = kept_refused i r k }; stays = λ kinds members decls p m. means_refused i kinds members decls p r m }

  -- WHAT THE SCRIPT DOES

  module _ (old new : World T K Kind Op Delta ghosts keeping) (kinds : Text → Kind) (members : ℕ) (decls : List (KeyDecl Kind)) (p q : Playing Kind Op Shown) (m : Means spelling kinds members decls p old) (head : script.Head Op) (event : Fate → Event Op) (i : ℕ) (sent : Input Op) (links : Links Op) (at : IsEventAt (replication ghosts spelling) p event i sent links) (is : q ≡ given (replication ghosts spelling) p head event) (kept : Head) (is_head : IsHead kept head) where
    pub reaches_gone : seat_of (last_view old.views) i ≡ None → IsSame old new → Reaches spelling kinds members decls p q (λ k. []) new (record { head = kept; answer = answer.Gone; sent = []; finished = None } ∷ [])
    reaches_gone none same =
        let logged = way_logs (replication ghosts spelling) members decls p m.run in
        let now = m.stands logged.0 logged.1 in
        reaches_told spelling kinds members decls p new q kept answer.Gone head script.Answer.Gone (is ∙ given_gone (replication ghosts spelling) p head event (at.none (gone_there spelling kinds logged.0 old new p.world now i none)))
        (stays_same spelling old new same kinds members decls p m) is_head refl

    pub reaches_full : (r : Refuses i old new) → r.before.steps ≡ r.before.limit → Reaches spelling kinds members decls p q (λ k. []) new (record { head = kept; answer = answer.HistoryFull; sent = []; finished = None } ∷ [])
    reaches_full r steps =
        let logged = way_logs (replication ghosts spelling) members decls p m.run in
        let now = m.stands logged.0 logged.1 in
        let work = at_work_there spelling kinds logged.0 old new p.world now i r.place r.before r.after r.changes in
        let limit = limit_before i r.place r.before r.after old new r.changes in
        let is_full_now : is_full (replication ghosts spelling) work.node ≡ true = elim (eqb_tells work.node.steps program_steps) [ inl e ↦ e.0 | inr other ↦ absurd (other.1 (work.stands.steps ∙ steps ∙ limit)) ] in
        reaches_told spelling kinds members decls p new q kept answer.HistoryFull head script.Answer.HistoryFull (is ∙ given_full (replication ghosts spelling) p head event i sent work.node (at.turns work.node work.runs) is_full_now)
        (means_refused old new i kinds members decls p r m) is_head refl

  -- INPUTS THAT A SCRIPT GIVES

  -- the answers of the keepers
  abbrev pub given_by : (i : ℕ) (kept : Head) (input : given_input.Input T Kind Op Delta ghosts) (old new : World T K Kind Op Delta ghosts keeping) (event : Line) → Gives spelling i kept input old new event → Given
  given_by i kept input old new event (gone none same is) = λ k. []
  given_by i kept input old new event (full r steps is) = λ k. []
  given_by i kept input old new event (made answered mk is) = given_at mk.place (answers_of (meant_fate mk.steps.fate))

  pub kept_by : (i : ℕ) (kept : Head) (input : given_input.Input T Kind Op Delta ghosts) (old new : World T K Kind Op Delta ghosts keeping) (event : Line) (gives : Gives spelling i kept input old new event) (k : ℕ)
      → KeepsAt keeping (given_by i kept input old new event gives k) (keeper_of old.nodes.items old.spare.items k) (keeper_of new.nodes.items new.spare.items k)
  kept_by i kept input old new event (gone none same is) k = kept_alike old new same k
  kept_by i kept input old new event (full r steps is) k = kept_refused old new i r k
  kept_by i kept input old new event (made answered mk is) k =
      kept_changed keeping alike i mk.place mk.before mk.after old new mk.changes (answers_of (meant_fate mk.steps.fate)) (called_keeps keeping alike mk.steps.fate mk.before.keeper mk.after.keeper mk.steps.makes.called) k

  pub undamaged_by : (i : ℕ) (kept : Head) (input : given_input.Input T Kind Op Delta ghosts) (old new : World T K Kind Op Delta ghosts keeping) (event : Line) → Gives spelling i kept input old new event → are_damaged (event ∷ []) ≡ false
  undamaged_by i kept input old new event (gone none same is) = ap (λ (e : Line). is_damage e.answer) is
  undamaged_by i kept input old new event (full r steps is) = ap (λ (e : Line). is_damage e.answer) is
  undamaged_by i kept input old new event (made answered mk is) = ap (λ (e : Line). is_damage e.answer) is

  module _ (old new : World T K Kind Op Delta ghosts keeping) (kinds : Text → Kind) (members : ℕ) (decls : List (KeyDecl Kind)) (p : Playing Kind Op Shown) (m : Means spelling kinds members decls p old) (head : script.Head Op) (event : Fate → Event Op) (i : ℕ) (sent : Input Op) (links : Links Op) (at : IsEventAt (replication ghosts spelling) p event i sent links)
      (is_run : IsRun (replication ghosts spelling) members decls (given (replication ghosts spelling) p head event).events (given (replication ghosts spelling) p head event).world) (more : IsPrefix p.events (given (replication ghosts spelling) p head event).events) (kept : Head) (is_head : IsHead kept head)
      (input : given_input.Input T Kind Op Delta ghosts) (input_stands : (logs : Text → History Op) (before : Node T K Kind Op Delta ghosts keeping) → StandsForWorld spelling kinds logs old p.world → StandsForInput kinds logs before.keys.items input sent) where
    -- a member's step, from the links that there were
    pub reaches_step : links ≡ p.world.links → (answered : Answered) (mk : Makes spelling i input answered old new) → Foretells p (given_at mk.place (answers_of (meant_fate mk.steps.fate)))
        → Reaches spelling kinds members decls p (given (replication ghosts spelling) p head event) (given_at mk.place (answers_of (meant_fate mk.steps.fate))) new (record { head = kept; answer = answer.Reply answered.reply; sent = answered.sent; finished = answered.finished } ∷ [])
    reaches_step same answered mk foretold =
        reaches_made spelling alike kinds members decls old new p m head event is_run more i sent links at mk.place mk.before mk.after mk.changes input mk.steps.fate (record { reply = answered.reply; posts = mk.steps.posts; finished = answered.finished }) mk.steps.makes (λ logs now. input_stands logs mk.before now) foretold kept is_head answered.sent mk.steps.tells
        (λ logs sents now posts few a b small bounded.
        links_sent kinds logs (channel_at old.links) (channel_at new.links) links i mk.steps.posts sents posts (mk.steps.sends few) a b
        (subst (λ (l : Links Op). StandsForLink {ghosts = ghosts} kinds logs (channel_at old.links a b) (l a b)) (sym same) (now.links a b small bounded)))

    pub reaches_given : links ≡ p.world.links → (e : Line) (gives : Gives spelling i kept input old new e) → Foretells p (given_by i kept input old new e gives)
        → Reaches spelling kinds members decls p (given (replication ghosts spelling) p head event) (given_by i kept input old new e gives) new (e ∷ [])
    reaches_given same e (gone none alike_worlds is) foretold =
        subst (λ (x : Line). Reaches spelling kinds members decls p (given (replication ghosts spelling) p head event) (λ k. []) new (x ∷ [])) (sym is) (reaches_gone old new kinds members decls p (given (replication ghosts spelling) p head event) m head event i sent links at refl kept is_head none alike_worlds)
    reaches_given same e (full r steps is) foretold =
        subst (λ (x : Line). Reaches spelling kinds members decls p (given (replication ghosts spelling) p head event) (λ k. []) new (x ∷ [])) (sym is) (reaches_full old new kinds members decls p (given (replication ghosts spelling) p head event) m head event i sent links at refl kept is_head r steps)
    reaches_given same e (made answered mk is) foretold =
        subst (λ (x : Line). Reaches spelling kinds members decls p (given (replication ghosts spelling) p head event) (given_at mk.place (answers_of (meant_fate mk.steps.fate))) new (x ∷ [])) (sym is) (reaches_step same answered mk foretold)

-- CONTRACTS

-- of these steps nothing is done where memory is wanted
pub data IsWhole : Step → Type 0 where
  ask : (at : ℕ) (question : Ask) → IsWhole (form.Ask at question)
  timeout : (at op : ℕ) → IsWhole (form.Timeout at op)
  deliver : (from to : ℕ) (index : Option ℕ) → IsWhole (form.Deliver from to index)

module _ {T K Kind Delta : Type 0} {ghosts : Ghosts T Kind Op Delta} {keeping : Keeping K} (spelling : Spelling T Kind Op Delta) where
  -- THE CONTRACT OF A STEP

  stays_so : (step : Step) → IsWhole step → (old new : World T K Kind Op Delta ghosts keeping) → IsAsBefore spelling old new → RemainsSo spelling step old new
  stays_so step (ask at question) old new b = b.stays
  stays_so step _ old new b = b.stays

  pub remains_as : (step : Step) → IsWhole step → (old new : World T K Kind Op Delta ghosts keeping) → IsAsBefore spelling old new → Remains spelling step old new
  remains_as step whole old new b = record { kept = b.kept; remains = stays_so step whole old new b }

  pub step_does : (step : Step) → IsWhole step → (old new : World T K Kind Op Delta ghosts keeping) (outcome : Result Line Memory)
      → MatchResult outcome (λ event. Does spelling (λ p. played (replication ghosts spelling) p (step_of step)) old new (event ∷ [])) (λ e. IsAsBefore spelling old new) → MatchResult outcome (λ event. Plays spelling step old new (event ∷ [])) (λ e. Remains spelling step old new)
  step_does step whole old new (Ok event) d = plays_does spelling step old new (event ∷ []) d
  step_does step whole old new (Err e) b = remains_as step whole old new b

  -- INPUTS

  module _ (alike : (a b : K) → is_some (keeping.table a) ≡ is_some (keeping.table b)) (step : ScriptStep Op) (is_step : IsStep step) (head : script.Head Op) (i : ℕ) (sent : Input Op) (kept : Head) (is_head : IsHead kept head) (input : given_input.Input T Kind Op Delta ghosts) (old new : World T K Kind Op Delta ghosts keeping)
      (goes : (kinds : Text → Kind) (members : ℕ) (decls : List (KeyDecl Kind)) (p : Playing Kind Op Shown) → Means spelling kinds members decls p old → played (replication ghosts spelling) p step ≡ given (replication ghosts spelling) p head (InputAt i sent))
      (input_stands : (kinds : Text → Kind) (logs : Text → History Op) (keys : List (KeyState T Kind Op Delta)) → StandsForInput kinds logs keys input sent) where
    pub does_given : (e : Line) → Gives spelling i kept input old new e → Does spelling (λ p. played (replication ghosts spelling) p step) old new (e ∷ [])
    does_given e gives =
        record {
          given = given_by spelling alike i kept input old new e gives;
          kept = kept_by spelling alike i kept input old new e gives;
          undamaged = undamaged_by spelling alike i kept input old new e gives;
          leads = λ kinds members decls p m foretold.
              let D = replication ghosts spelling in
              let same = goes kinds members decls p m in
              subst (λ q. Reaches spelling kinds members decls p q (given_by spelling alike i kept input old new e gives) new (e ∷ [])) (sym same)
              (reaches_given spelling alike old new kinds members decls p m head (InputAt i sent) i sent p.world.links (input_at D p i sent)
              (subst (λ q. IsRun D members decls q.events q.world) same (step_is_run D members decls p step is_step m.run)) (subst (λ q. IsPrefix p.events q.events) same (played_appends D p step is_step))
              kept is_head input (λ logs before now. input_stands kinds logs before.keys.items) refl e gives foretold);
        }

    pub outcome_given : (outcome : Result Line Memory) → MatchResult outcome (Gives spelling i kept input old new) (λ e. Refuses i old new)
        → MatchResult outcome (λ event. Does spelling (λ p. played (replication ghosts spelling) p step) old new (event ∷ [])) (λ e. IsAsBefore spelling old new)
    outcome_given (Ok event) gives = does_given event gives
    outcome_given (Err e) r = as_before spelling alike old new i r
