-- Ticks, in the model and in the program.
-- The leader of a view, and those that left.
-- A tick in the model: by what it finds of an identity, what it makes of an entry.
-- A key in the course of a tick, one identity further.
-- A tick of one identity in the program, and in the model.
use Rattle.std.proofs.Common.{◌≡◌, ◌≢◌, ℕ, suc, ◌+◌, ◌<◌, ◌≤◌, List, [], ◌∷◌, ◌++◌, length, Bool, true, false, ◌||◌, not, refl, sym, ap, ◌∙◌, arith, map, filter, get_or, All, if◌then◌else◌, ◌==◌, eq-eqb, eqb-true, append-nil, take, nat_lt, Option, Some, None, subst, rules, inl, inr, max, append_assoc, fold, unwrap_or, Result, Ok, lt-ltb}
use Rattle.std.specs.List.{list_any, range_with_len}
use Rattle.std.proofs.lemmas.List.Elements.{All-cons, All-nil, filter-append}
use Rattle.std.proofs.lemmas.List.FromFn.{length-range_with_len}
use Rattle.std.proofs.lemmas.Bool.{cases_eq, cases_lt}
use Rattle.std.proofs.lemmas.List.{map-append}
use Rattle.std.proofs.lemmas.List.Sums.{fold-append}
use Rattle.member_node.proofs.Common.{identity_limit, History, at, versions, IsPartOf, IsTakenFrom, uncleaned, Text, VersionVector, IdentitySet, View, is_member, identities_of, Replication, Numbers, number_at, performed_in, mark_of, Shown, Ghosts, parts_of, Envelope, StandsFor, Parts, NextRecord, LogParts, StandsForLog, IsKeyTick, TicksIn, IsTickedAs, tick_in, KeyState, KeyTick, delta_groups, own_number, state_in, IsHeldBy}
use Rattle.model_history.specs.Table.{with_at}
use Rattle.model_history.specs.History.{Record, is_pruned, with_record}
use Rattle.model_history.specs.History.Action.{Prune}
use Rattle.model_history.proofs.HistoryLaws.{with_at_other, has_with_record}
use Rattle.model_history.proofs.CutLaws.{with_at_is}
use Rattle.model_history.proofs.PartLaws.{take_whole, take_front, part_trans, part-le}
use Rattle.model_history.proofs.Bridge.{versions-with_record}
use Rattle.model_meanings.specs.Refusal.{Shares}
use Rattle.model_members.specs.View.{Member, leader, removed_of}
use Rattle.model_members.specs.Entry as model
use Rattle.model_members.specs.Entry.{Mark, Tick, Outcome as Ticked, unseen, with_prune, Outcome as Told}
use Rattle.model_members.specs.DataType.{DataType}
use Rattle.model_members.specs.Node as nodes
use Rattle.model_members.specs.Step.{Ticking, tick_identity}
use Rattle.model_members.proofs.Cases.{with_tick, performed_unless, ticked_seen, ticked_mark}
use Rattle.base_bytes.specs.declared.memory.Memory.{Memory}
use Rattle.base_vectors.proofs.Walks.{counted_more}
use Rattle.base_vectors.specs.Vectors.{raised}
use Rattle.base_vectors.proofs.Laws.{number_at-raised_same, number_at-raised_other, number_at-numbers_of_above}
use Rattle.base_vectors.specs.IdSets.{members_in}
use Rattle.data_markers.specs.Marks.{begun}
use Rattle.data_markers.specs.declared.marker.Marker.{Marker}
use Rattle.data_markers.specs.declared.marker.Marker.TheVariants.{Initialized, Performed}
use Rattle.data_envelope.specs.Words.{init_at, init_by}
use Rattle.data_envelope.specs.declared.outcomes.Init.{Init}
use Rattle.data_envelope.specs.declared.outcomes.Init.TheVariants as initial
use Rattle.data_envelope.proofs.Judging.{init_absent}
use Rattle.data_envelope.specs.Pruning.{init_as, init_of}
use Rattle.data_envelope.specs.declared.outcomes.Perform.{Perform}
use Rattle.data_envelope.specs.declared.outcomes.Perform.TheVariants as perform
use Rattle.data_deltalog.specs.Contents.{before_with, appended, IsDeltaFor}
use Rattle.data_deltalog.specs.Words.{HasRoom, all_appended}
use Rattle.data_deltalog.proofs.Keeping.{stands_prune, stands_still}
use Rattle.data_deltalog.proofs.Following.{origin_later}
use Rattle.member_node.specs.Ticking.{tick_at, is_prune, IsAfter, IsTickOf, IsNoted, HasNoted, IsOwnCourse, IsInCourse, CanTick, IsTicked}
use Rattle.member_node.specs.declared.outcome.Outcome.{Outcome}
use Rattle.member_node.specs.declared.outcome.KeyOutcome.{KeyOutcome}
use Rattle.member_node.specs.declared.ticking.KeyTicking.{KeyTicking}
use Rattle.member_node.specs.Replies.{meant_outcome, meant_at_key}
use Rattle.member_node.proofs.Lists.{one_more}

-- THE LEADER

-- numbers that are not told apart
pub same_number : (a b : ℕ) → false ≡ not (a == b) → a ≡ b
same_number a b same = go (a == b) refl same
  where
    go : (t : Bool) → (a == b) ≡ t → false ≡ not t → a ≡ b
    go true e f = eqb-true a b e
    go false e f = absurd (cc f)

first_among : (ms : List Member) → 0 < length ms → list_any (λ j. j == get_or (map (λ (m : Member). m.identity) ms) 0 0) (map (λ (m : Member). m.identity) ms) ≡ true
first_among [] some = absurd (omega arith)
first_among (m ∷ ms) some = ap (λ b. b || list_any (λ j. j == m.identity) (map (λ (m : Member). m.identity) ms)) (eq-eqb m.identity m.identity refl)

-- a view with a member has its leader as one
pub leader_member : (view : View) → 0 < length view.members → is_member view (leader view) ≡ true
leader_member view some = first_among view.members some

filter_all : {X : Type 0} (p : X → Bool) (P : X → Type 0) → ((x : X) → p x ≡ true → P x) → (xs : List X) → All P (filter p xs)
filter_all p P holds [] = All-nil P
filter_all {X} p P holds (x ∷ xs) = go (p x) refl (filter_all p P holds xs)
  where
    go : (b : Bool) → p x ≡ b → All P (filter p xs) → All P (if b then x ∷ filter p xs else filter p xs)
    go true e rest = All-cons P x (filter p xs) (holds x e) rest
    go false e rest = rest

filter_few : {X : Type 0} (p : X → Bool) (xs : List X) → length (filter p xs) ≤ length xs
filter_few p [] = omega arith
filter_few {X} p (x ∷ xs) = go (p x) (filter_few p xs)
  where
    go : (b : Bool) → length (filter p xs) ≤ length xs → length (if b then x ∷ filter p xs else filter p xs) ≤ suc (length xs)
    go true rest = omega arith
    go false rest = omega arith

-- those that left are not the leader
pub left_others : (view : View) (id : ℕ) → 0 < length view.members → leader view ≡ id → All (λ r. r ≢ id) (removed_of view)
left_others view id some leads = filter_all (λ i. not (is_member view i)) (λ r. r ≢ id) (λ r gone e.
    let member : is_member view r ≡ true = ap (is_member view) (e ∙ sym leads) ∙ leader_member view some in
    let no : false ≡ true = sym (ap not member) ∙ gone in cc no) (range_with_len 0 view.given)

pub left_few : (view : View) → view.given ≤ identity_limit → length (removed_of view) ≤ 255
left_few view few =
    let a = filter_few (λ i. not (is_member view i)) (range_with_len 0 view.given) in
    let b = length-range_with_len 0 view.given in
    omega (arith, a, b, few)

-- those that left, one identity further
module _ (p : ℕ → Bool) (n : ℕ) where
  left_more : filter p (range_with_len 0 (n + 1)) ≡ filter p (range_with_len 0 n) ++ filter p (n ∷ [])
  left_more = ap (filter p) (counted_more n) ∙ filter-append p (range_with_len 0 n) (n ∷ [])

  pub left_one : p n ≡ true → filter p (range_with_len 0 (n + 1)) ≡ filter p (range_with_len 0 n) ++ n ∷ []
  left_one e = left_more ∙ ap (λ b. filter p (range_with_len 0 n) ++ (if b then n ∷ [] else [])) e

  pub left_none : p n ≡ false → filter p (range_with_len 0 (n + 1)) ≡ filter p (range_with_len 0 n)
  left_none e = left_more ∙ ap (λ b. filter p (range_with_len 0 n) ++ (if b then n ∷ [] else [])) e ∙ append-nil (filter p (range_with_len 0 n))

-- IN THE MODEL

not_less : (n : ℕ) → nat_lt n n ≡ false
not_less n = grind rules

-- HISTORIES

module _ {Op : Type 0} where
  pub part_same : (H : History Op) → IsPartOf H H
  part_same H i = sym (take_whole (H i))

  part_with_record : (H : History Op) (i : ℕ) (r : Record Op) → IsPartOf H (with_record H i r)
  part_with_record H i r j = elim (cases_eq j i) [
    | inl is ↦ sym (ap (take (at H j)) (with_at_is H i (H i ++ r ∷ []) j is ∙ ap (λ k. H k ++ r ∷ []) (sym is)) ∙ take_front (H j) (r ∷ []))
    | inr isnt ↦ sym (ap (take (at H j)) (with_at_other H i (H i ++ r ∷ []) j isnt) ∙ take_whole (H j))
  ]

  -- where the log has the next record too, the longer history is taken from it
  pub taken_next : (log H : History Op) (i r : ℕ) → IsTakenFrom log H → IsPartOf (with_record H i (record { action = Prune r; past = versions H })) log → IsTakenFrom log (with_record H i (record { action = Prune r; past = versions H }))
  taken_next log H i r taken part = record {
    part = part;
    closed = λ j k x has l. elim (has_with_record H i (record { action = Prune r; past = versions H }) j k x has) [
      | inl old ↦ let a = taken.closed j k x old l in let b = longer l in omega arith
      | inr new ↦ let b = longer l in subst (λ (y : Record Op). y.past l ≤ at more l) new.2 b
    ];
  }
    where
      more : History Op
      more = with_record H i (record { action = Prune r; past = versions H })

      longer : (l : ℕ) → at H l ≤ at (with_record H i (record { action = Prune r; past = versions H })) l
      longer l = part-le H (with_record H i (record { action = Prune r; past = versions H })) (part_with_record H i (record { action = Prune r; past = versions H })) l

-- ONE IDENTITY

module _ {Op : Type 0} (shares : Option Shares) (owner view : ℕ) (members : List ℕ) (before : model.Entry Op) (r : ℕ) where
  by_tests : (b c : Bool) (t : Tick Op) → (if b then initial.Marked else (if c then initial.Newer else initial.Standing)) ≡ initial.Marked
      → (if b then model.marked shares owner view members before r else (if c then record { outcome = Ticked.Newer; entry = before } else t)) ≡ model.marked shares owner view members before r
  by_tests true c t e = refl
  by_tests false true t e = absurd (cc e)
  by_tests false false t e = absurd (cc e)

  by_tests_newer : (b c : Bool) (t : Tick Op) → (if b then initial.Marked else (if c then initial.Newer else initial.Standing)) ≡ initial.Newer
      → (if b then model.marked shares owner view members before r else (if c then record { outcome = Ticked.Newer; entry = before } else t)) ≡ record { outcome = Ticked.Newer; entry = before }
  by_tests_newer true c t e = absurd (cc e)
  by_tests_newer false true t e = refl
  by_tests_newer false false t e = absurd (cc e)

  by_marked : (o : Option Mark) → init_by o view ≡ initial.Marked → ticked_mark shares owner view members before r o ≡ model.marked shares owner view members before r
  by_marked None e = refl
  by_marked (Some mark) e = by_tests (nat_lt mark.view view) (nat_lt view mark.view) (ticked_seen shares owner view members before r (unseen mark members)) e

  by_newer : (o : Option Mark) → init_by o view ≡ initial.Newer → ticked_mark shares owner view members before r o ≡ record { outcome = Ticked.Newer; entry = before }
  by_newer None e = absurd (cc e)
  by_newer (Some mark) e = by_tests_newer (nat_lt mark.view view) (nat_lt view mark.view) (ticked_seen shares owner view members before r (unseen mark members)) e

  -- where the mark of this view stands, who has not seen it decides
  pub ticked_standing : (mark : Mark) → before.marks r ≡ Some mark → mark.view ≡ view → model.ticked shares owner view members before r ≡ ticked_seen shares owner view members before r (unseen mark members)
  ticked_standing mark has same =
      ap (ticked_mark shares owner view members before r) has
      ∙ ap (λ b. if b then model.marked shares owner view members before r else (if nat_lt view mark.view then record { outcome = Ticked.Newer; entry = before } else ticked_seen shares owner view members before r (unseen mark members))) (ap (λ v. nat_lt v view) same ∙ not_less view)
      ∙ ap (λ b. if b then record { outcome = Ticked.Newer; entry = before } else ticked_seen shares owner view members before r (unseen mark members)) (ap (nat_lt view) same ∙ not_less view)

never_unknown : (o : Option Mark) (view : ℕ) → init_by o view ≡ initial.NothingKnown → ⊥
never_unknown None view e = cc e
never_unknown (Some mark) view e = go (nat_lt mark.view view) (nat_lt view mark.view) e
  where
    go : (b c : Bool) → (if b then initial.Marked else (if c then initial.Newer else initial.Standing)) ≡ initial.NothingKnown → ⊥
    go true c e = cc e
    go false true e = cc e
    go false false e = cc e

module _ {Kind Op : Type 0} (data_type : DataType Kind Op Shown) (kind : Kind) (owner view : ℕ) (members : List ℕ) (before : model.Entry Op) (r : ℕ) where
  nothing_by : (b : Bool) → (if b then initial.NothingKnown else init_by (before.marks r) view) ≡ initial.NothingKnown → ◌≡◌ {A = Option (Tick Op)} (if b then None else Some (model.ticked (data_type.blocked kind owner r before.history) owner view members before r)) None
  nothing_by true e = refl
  nothing_by false e = absurd (never_unknown (before.marks r) view e)

  pub nothing_at : init_at before r view ≡ initial.NothingKnown → tick_at data_type kind owner view members before r ≡ None
  nothing_at e = nothing_by ((at before.history r == 0) || is_pruned before.history r) e

  -- any other answer is by the mark
  something_by : (b : Bool) (init : Init) → (init ≡ initial.NothingKnown → ⊥) → (if b then initial.NothingKnown else init_by (before.marks r) view) ≡ init
      → ◌≡◌ {A = Option (Tick Op)} (if b then None else Some (model.ticked (data_type.blocked kind owner r before.history) owner view members before r)) (Some (model.ticked (data_type.blocked kind owner r before.history) owner view members before r)) × (init_by (before.marks r) view ≡ init)
  something_by true init other e = absurd (other (sym e))
  something_by false init other e = (refl, e)

  pub marked_at : init_at before r view ≡ initial.Marked → tick_at data_type kind owner view members before r ≡ Some (model.marked (data_type.blocked kind owner r before.history) owner view members before r)
  marked_at e =
      let s = something_by ((at before.history r == 0) || is_pruned before.history r) initial.Marked (λ no. cc no) e in
      s.0 ∙ ap Some (by_marked (data_type.blocked kind owner r before.history) owner view members before r (before.marks r) s.1)

  pub newer_at : init_at before r view ≡ initial.Newer → tick_at data_type kind owner view members before r ≡ Some (record { outcome = Ticked.Newer; entry = before })
  newer_at e =
      let s = something_by ((at before.history r == 0) || is_pruned before.history r) initial.Newer (λ no. cc no) e in
      s.0 ∙ ap Some (by_newer (data_type.blocked kind owner r before.history) owner view members before r (before.marks r) s.1)

  pub standing_at : init_at before r view ≡ initial.Standing → tick_at data_type kind owner view members before r ≡ Some (model.ticked (data_type.blocked kind owner r before.history) owner view members before r)
  standing_at e = (something_by ((at before.history r == 0) || is_pruned before.history r) initial.Standing (λ no. cc no) e).0

-- A KEY

module _ {Kind Op : Type 0} (D : Replication Kind Op Shown) (node : nodes.Node Kind Op Shown) (k : nodes.KeyState Kind Op) where
  abbrev pub course_by : Ticking Op → ℕ → Option (Tick Op) → Ticking Op
  course_by so_far r None = so_far
  course_by so_far r (Some tick) = with_tick D k so_far r tick

  pub tick_is : (so_far : Ticking Op) (r : ℕ) → tick_identity D node k so_far r ≡ course_by so_far r (tick_at D.data_type k.kind node.identity node.view.number (identities_of node.view) so_far.entry r)
  tick_is so_far r = go ((at so_far.entry.history r == 0) || is_pruned so_far.entry.history r)
    where
      go : (b : Bool) → (if b then so_far else with_tick D k so_far r (model.ticked (D.data_type.blocked k.kind node.identity r so_far.entry.history) node.identity node.view.number (identities_of node.view) so_far.entry r))
          ≡ course_by so_far r (if b then None else Some (model.ticked (D.data_type.blocked k.kind node.identity r so_far.entry.history) node.identity node.view.number (identities_of node.view) so_far.entry r))
      go true = refl
      go false = refl

  -- GROWING

  unless_grows : (so_far : Ticking Op) (r : ℕ) (shares o : Option Shares) → IsPartOf so_far.entry.history (performed_unless shares node.identity node.view.number (identities_of node.view) so_far.entry r o).entry.history
  unless_grows so_far r shares None = part_with_record so_far.entry.history node.identity (record { action = Prune r; past = versions so_far.entry.history })
  unless_grows so_far r shares (Some blocked) = part_same so_far.entry.history

  seen_grows : (so_far : Ticking Op) (r : ℕ) (shares : Option Shares) (o : Option ℕ) → IsPartOf so_far.entry.history (ticked_seen shares node.identity node.view.number (identities_of node.view) so_far.entry r o).entry.history
  seen_grows so_far r shares None = unless_grows so_far r shares shares
  seen_grows so_far r shares (Some j) = part_same so_far.entry.history

  mark_grows : (so_far : Ticking Op) (r : ℕ) (shares : Option Shares) (o : Option Mark) → IsPartOf so_far.entry.history (ticked_mark shares node.identity node.view.number (identities_of node.view) so_far.entry r o).entry.history
  mark_grows so_far r shares None = part_same so_far.entry.history
  mark_grows so_far r shares (Some mark) = go (nat_lt mark.view node.view.number) (nat_lt node.view.number mark.view)
    where
      go : (b c : Bool) → IsPartOf so_far.entry.history (if b then model.marked shares node.identity node.view.number (identities_of node.view) so_far.entry r
          else (if c then record { outcome = Ticked.Newer; entry = so_far.entry } else ticked_seen shares node.identity node.view.number (identities_of node.view) so_far.entry r (unseen mark (identities_of node.view)))).entry.history
      go true c = part_same so_far.entry.history
      go false true = part_same so_far.entry.history
      go false false = seen_grows so_far r shares (unseen mark (identities_of node.view))

  pub tick_grows : (so_far : Ticking Op) (r : ℕ) → IsPartOf so_far.entry.history (tick_identity D node k so_far r).entry.history
  tick_grows so_far r = go ((at so_far.entry.history r == 0) || is_pruned so_far.entry.history r)
    where
      go : (b : Bool) → IsPartOf so_far.entry.history (if b then so_far else with_tick D k so_far r (model.ticked (D.data_type.blocked k.kind node.identity r so_far.entry.history) node.identity node.view.number (identities_of node.view) so_far.entry r)).entry.history
      go true = part_same so_far.entry.history
      go false = mark_grows so_far r (D.data_type.blocked k.kind node.identity r so_far.entry.history) (so_far.entry.marks r)

  -- what the log has of an entry after a tick, it has of the entry before
  pub part_before : (log : History Op) (so_far : Ticking Op) (r : ℕ) → IsPartOf (tick_identity D node k so_far r).entry.history log → IsPartOf so_far.entry.history log
  part_before log so_far r part = part_trans so_far.entry.history (tick_identity D node k so_far r).entry.history log (tick_grows so_far r) part

-- IN ITS COURSE

-- an own record raises the number of its origin, and no other
raised_next : (numbers : Numbers) (held later : ℕ → ℕ) (id own : ℕ) → id < identity_limit → ((i : ℕ) → number_at numbers i ≡ held i) → ((i : ℕ) → identity_limit ≤ i → held i ≡ 0) → own ≡ held id + 1 → ((i : ℕ) → later i ≡ with_at held id (held id + 1) i)
    → (i : ℕ) → number_at (raised numbers id own) i ≡ later i
raised_next numbers held later id own member same few is grown i = elim (cases_lt i identity_limit) [
  | inl small ↦ elim (cases_eq i id) [
    | inl here ↦ number_at-raised_same numbers id own i small here ∙ (let e = same id in let m : max (number_at numbers id) own ≡ held id + 1 = omega arith in m) ∙ sym (grown i ∙ with_at_is held id (held id + 1) i here)
    | inr other ↦ number_at-raised_other numbers id own i small other ∙ same i ∙ sym (grown i ∙ with_at_other held id (held id + 1) i other)
  ]
  | inr large ↦ number_at-numbers_of_above (with_at (number_at numbers) id (max (number_at numbers id) own)) i large ∙ sym (grown i ∙ with_at_other held id (held id + 1) i (λ e. absurd (omega arith)) ∙ few i large)
]

-- a prune was noted, if there was one
pub noted_once : {T Kind Op Delta : Type 0} (log : LogParts Kind Delta) (id : ℕ) (pruned : Bool) (old new : KeyTicking T Kind Op Delta) → pruned ≡ true → HasNoted log id old new → IsNoted log id pruned old new
noted_once log id true old new e noted = noted
noted_once log id false old new e noted = absurd (cc e)

-- IN THE MODEL

module _ {T Kind Op Delta : Type 0} (ghosts : Ghosts T Kind Op Delta) (log : History Op) (state : KeyState T Kind Op Delta) (so_far : Ticking Op) (id r : ℕ) (old new : KeyTicking T Kind Op Delta) (course : IsInCourse ghosts log state so_far old) where
  -- no outcome
  pub course_none : StandsFor ghosts.IsDataOf (parts_of new.entry) log so_far.entry → new.known ≡ old.known → new.prunes ≡ old.prunes → IsInCourse ghosts log state so_far new
  course_none stands known prunes = record {
    entry = stands;
    known = λ i. ap (λ m. number_at m i) known ∙ course.known i;
    logged = subst (λ l. StandsForLog ghosts.IsDeltaOf (all_appended state.log l) log so_far.entry) (sym prunes) course.logged;
  }

  course_pruned : id < identity_limit → state.log.origin ≡ id → performed_in (parts_of new.entry).marks id ≡ false
      → (mid : KeyTicking T Kind Op Delta) → mid.known ≡ old.known → mid.prunes ≡ old.prunes → new.entry ≡ mid.entry
      → (next : Ticking Op) → next.entry ≡ with_prune so_far.entry id r → StandsFor ghosts.IsDataOf (parts_of new.entry) log next.entry → HasNoted state.log id mid new → IsInCourse ghosts log state next new
  course_pruned member origin unpruned mid mid_known mid_prunes same next after stands noted = record {
    entry = stands;
    known = λ i. ap (λ m. number_at m i) known_is ∙ raised_next old.known (versions so_far.entry.history) (versions next.entry.history) id (number_at (parts_of mid.entry).versions id) member course.known course.entry.holds.cut.few own_is grown i;
    logged = subst (λ l. StandsForLog ghosts.IsDeltaOf (all_appended state.log l) log next.entry) (sym pushed)
        (subst (λ (parts : LogParts Kind Delta). StandsForLog ghosts.IsDeltaOf parts log next.entry) (sym (fold-append (λ (parts : LogParts Kind Delta) (x : NextRecord Delta). appended parts x.before x.delta) state.log old.prunes (noted.next ∷ [])))
        (subst (λ (e : model.Entry Op). StandsForLog ghosts.IsDeltaOf (appended (all_appended state.log old.prunes) noted.next.before noted.next.delta) log e) (sym after)
        (subst (λ o. StandsForLog ghosts.IsDeltaOf (appended (all_appended state.log old.prunes) noted.next.before noted.next.delta) log (with_prune so_far.entry o r)) own_origin
        (stands_prune ghosts.IsDeltaOf (all_appended state.log old.prunes) log so_far.entry r noted.next.before noted.next.delta course.logged
        (subst (λ o. IsTakenFrom log (with_prune so_far.entry o r).history) (sym own_origin) (subst (λ (e : model.Entry Op). IsTakenFrom log e.history) after stands.taken))
        (λ i other. ap (λ before. number_at (before_with (all_appended state.log old.prunes) before) i) (noted.before ∙ ap Some mid_known) ∙ course.known i) noted.placeholder))));
  }
    where
      known_is : new.known ≡ raised old.known id (number_at (parts_of mid.entry).versions id)
      known_is = noted.known ∙ ap (λ m. raised m id (number_at (parts_of mid.entry).versions id)) mid_known

      pushed : new.prunes ≡ old.prunes ++ noted.next ∷ []
      pushed = noted.prunes ∙ ap (λ l. l ++ noted.next ∷ []) mid_prunes

      grown : (i : ℕ) → versions next.entry.history i ≡ with_at (versions so_far.entry.history) id (versions so_far.entry.history id + 1) i
      grown i = ap (λ (e : model.Entry Op). at e.history i) after ∙ ap (λ v. v i) (versions-with_record so_far.entry.history id (record { action = Prune r; past = versions so_far.entry.history }))

      own_is : number_at (parts_of mid.entry).versions id ≡ versions so_far.entry.history id + 1
      own_is = ap (λ (e : Envelope T Kind Op Delta). number_at (parts_of e).versions id) (sym same) ∙ stands.holds.numbers id ∙ uncleaned (performed_in (parts_of new.entry).marks) (versions next.entry.history) id unpruned
          ∙ grown id ∙ with_at_is (versions so_far.entry.history) id (versions so_far.entry.history id + 1) id refl

      own_origin : (all_appended state.log old.prunes).origin ≡ id
      own_origin = origin_later state.log old.prunes ∙ origin

  course_still : (mid : KeyTicking T Kind Op Delta) → mid.known ≡ old.known → mid.prunes ≡ old.prunes → (next : Ticking Op) → next.entry.history ≡ so_far.entry.history → StandsFor ghosts.IsDataOf (parts_of new.entry) log next.entry → IsNoted state.log id false mid new → IsInCourse ghosts log state next new
  course_still mid mid_known mid_prunes next after stands noted = record {
    entry = stands;
    known = λ i. ap (λ m. number_at m i) (noted.1 ∙ mid_known) ∙ course.known i ∙ sym (ap (λ (h : History Op). at h i) after);
    logged = subst (λ l. StandsForLog ghosts.IsDeltaOf (all_appended state.log l) log next.entry) (sym (noted.0 ∙ mid_prunes))
        (stands_still ghosts.IsDeltaOf (all_appended state.log old.prunes) log so_far.entry next.entry course.logged stands.taken (ap (λ (h : History Op). at h (all_appended state.log old.prunes).origin) after));
  }

  -- an outcome, noted if it was a prune
  pub course_more : id < identity_limit → state.log.origin ≡ id → performed_in (parts_of new.entry).marks id ≡ false
      → (mid : KeyTicking T Kind Op Delta) → mid.known ≡ old.known → mid.prunes ≡ old.prunes → new.entry ≡ mid.entry
      → (pruned : Bool) (next : Ticking Op) → IsAfter id r pruned so_far.entry next.entry → StandsFor ghosts.IsDataOf (parts_of new.entry) log next.entry → IsNoted state.log id pruned mid new → IsInCourse ghosts log state next new
  course_more member origin unpruned mid mid_known mid_prunes same true next after stands noted = course_pruned member origin unpruned mid mid_known mid_prunes same next after stands noted
  course_more member origin unpruned mid mid_known mid_prunes same false next after stands noted = course_still mid mid_known mid_prunes next after stands noted

-- what the model's key is in the course of a tick by this member
module _ {T Kind Op Delta : Type 0} (D : Replication Kind Op Shown) (node : nodes.Node Kind Op Shown) (state : KeyState T Kind Op Delta) (so_far : Ticking Op) (r id view : ℕ) (members : List ℕ) (ticks : TicksIn node id view members) (kind : Kind) (same : kind ≡ state.kind) where
  pub course_is : tick_identity D node (state_in node state) so_far r ≡ course_by D node (state_in node state) so_far r (tick_at D.data_type kind id view members so_far.entry r)
  course_is = tick_is D node (state_in node state) so_far r
      ∙ ap (λ k. course_by D node (state_in node state) so_far r (tick_at D.data_type k node.identity node.view.number (identities_of node.view) so_far.entry r)) (sym same)
      ∙ ap (λ i. course_by D node (state_in node state) so_far r (tick_at D.data_type kind i node.view.number (identities_of node.view) so_far.entry r)) ticks.identity
      ∙ ap (λ v. course_by D node (state_in node state) so_far r (tick_at D.data_type kind id v (identities_of node.view) so_far.entry r)) ticks.viewed
      ∙ ap (λ m. course_by D node (state_in node state) so_far r (tick_at D.data_type kind id view m so_far.entry r)) ticks.seats

-- ONE IDENTITY FURTHER

module _ {T Kind Op Delta : Type 0} (ghosts : Ghosts T Kind Op Delta) (digest : Kind → model.Entry Op → List ℕ) (log : History Op) (node : nodes.Node Kind Op Shown) (state : KeyState T Kind Op Delta) (so_far : Ticking Op) (id view r : ℕ) (members : List ℕ)
    (old new : KeyTicking T Kind Op Delta) (course : IsInCourse ghosts log state so_far old) (ticks : TicksIn node id view members) (kind : ghosts.kind_of old.entry.value ≡ state.kind) where
  next_is : (t : Option (Tick Op)) → tick_at ghosts.data_type (ghosts.kind_of old.entry.value) id view members so_far.entry r ≡ t
      → tick_identity (delta_groups ghosts.data_type digest) node (state_in node state) so_far r ≡ course_by (delta_groups ghosts.data_type digest) node (state_in node state) so_far r t
  next_is t is = course_is (delta_groups ghosts.data_type digest) node state so_far r id view members ticks (ghosts.kind_of old.entry.value) kind ∙ ap (course_by (delta_groups ghosts.data_type digest) node (state_in node state) so_far r) is

  none_by : (t : Option (Tick Op)) → tick_at ghosts.data_type (ghosts.kind_of old.entry.value) id view members so_far.entry r ≡ t → IsTickOf ghosts.IsDataOf log id r so_far.entry t None new.entry → new.known ≡ old.known → new.prunes ≡ old.prunes
      → IsInCourse ghosts log state (tick_identity (delta_groups ghosts.data_type digest) node (state_in node state) so_far r) new
  none_by None is stands known prunes = subst (λ (n : Ticking Op). IsInCourse ghosts log state n new) (sym (next_is None is)) (course_none ghosts log state so_far id r old new course stands known prunes)
  none_by (Some tick) is never known prunes = absurd never

  pub further_none : IsTickOf ghosts.IsDataOf log id r so_far.entry (tick_at ghosts.data_type (ghosts.kind_of old.entry.value) id view members so_far.entry r) None new.entry → new.known ≡ old.known → new.prunes ≡ old.prunes
      → IsInCourse ghosts log state (tick_identity (delta_groups ghosts.data_type digest) node (state_in node state) so_far r) new
  further_none = none_by (tick_at ghosts.data_type (ghosts.kind_of old.entry.value) id view members so_far.entry r) refl

  some_by : (t : Option (Tick Op)) → tick_at ghosts.data_type (ghosts.kind_of old.entry.value) id view members so_far.entry r ≡ t → id < identity_limit → state.log.origin ≡ id → performed_in (parts_of new.entry).marks id ≡ false
      → (mid : KeyTicking T Kind Op Delta) → mid.known ≡ old.known → mid.prunes ≡ old.prunes → new.entry ≡ mid.entry → (outcome : Outcome) → IsTickOf ghosts.IsDataOf log id r so_far.entry t (Some outcome) new.entry → IsNoted state.log id (is_prune outcome) mid new
      → IsPartOf (tick_identity (delta_groups ghosts.data_type digest) node (state_in node state) so_far r).entry.history log → IsInCourse ghosts log state (tick_identity (delta_groups ghosts.data_type digest) node (state_in node state) so_far r) new
  some_by None is member origin unpruned mid known prunes same outcome never noted part = absurd never
  some_by (Some tick) is member origin unpruned mid known prunes same outcome told noted part =
      let here : tick_identity (delta_groups ghosts.data_type digest) node (state_in node state) so_far r ≡ with_tick (delta_groups ghosts.data_type digest) (state_in node state) so_far r tick = next_is (Some tick) is in
      subst (λ (n : Ticking Op). IsInCourse ghosts log state n new) (sym here)
      (course_more ghosts log state so_far id r old new course member origin unpruned mid known prunes same (is_prune outcome) (with_tick (delta_groups ghosts.data_type digest) (state_in node state) so_far r tick) told.after
      (told.image (subst (λ (n : Ticking Op). IsPartOf n.entry.history log) here part)) noted)

  pub further_some : id < identity_limit → state.log.origin ≡ id → performed_in (parts_of new.entry).marks id ≡ false
      → (mid : KeyTicking T Kind Op Delta) → mid.known ≡ old.known → mid.prunes ≡ old.prunes → new.entry ≡ mid.entry → (outcome : Outcome)
      → IsTickOf ghosts.IsDataOf log id r so_far.entry (tick_at ghosts.data_type (ghosts.kind_of old.entry.value) id view members so_far.entry r) (Some outcome) new.entry → IsNoted state.log id (is_prune outcome) mid new
      → IsPartOf (tick_identity (delta_groups ghosts.data_type digest) node (state_in node state) so_far r).entry.history log → IsInCourse ghosts log state (tick_identity (delta_groups ghosts.data_type digest) node (state_in node state) so_far r) new
  further_some = some_by (tick_at ghosts.data_type (ghosts.kind_of old.entry.value) id view members so_far.entry r) refl

  -- WHAT IS TOLD

  module _ (first : List nodes.KeyOutcome) (before : List KeyOutcome) (same : map meant_at_key before ≡ first ++ so_far.outcomes) (entry : Envelope T Kind Op Delta) where
    untold_by : (t : Option (Tick Op)) → tick_at ghosts.data_type (ghosts.kind_of old.entry.value) id view members so_far.entry r ≡ t → IsTickOf ghosts.IsDataOf log id r so_far.entry t None entry
        → map meant_at_key before ≡ first ++ (tick_identity (delta_groups ghosts.data_type digest) node (state_in node state) so_far r).outcomes
    untold_by None is stands = same ∙ ap (λ (n : Ticking Op). first ++ n.outcomes) (sym (next_is None is))
    untold_by (Some tick) is never = absurd never

    pub untold : IsTickOf ghosts.IsDataOf log id r so_far.entry (tick_at ghosts.data_type (ghosts.kind_of old.entry.value) id view members so_far.entry r) None entry
        → map meant_at_key before ≡ first ++ (tick_identity (delta_groups ghosts.data_type digest) node (state_in node state) so_far r).outcomes
    untold = untold_by (tick_at ghosts.data_type (ghosts.kind_of old.entry.value) id view members so_far.entry r) refl

    told_by : (t : Option (Tick Op)) → tick_at ghosts.data_type (ghosts.kind_of old.entry.value) id view members so_far.entry r ≡ t → (outcome : Outcome) → IsTickOf ghosts.IsDataOf log id r so_far.entry t (Some outcome) entry
        → (after : List KeyOutcome) → after ≡ before ++ record { key = state.name; removed = r; outcome = outcome } ∷ []
        → map meant_at_key after ≡ first ++ (tick_identity (delta_groups ghosts.data_type digest) node (state_in node state) so_far r).outcomes
    told_by None is outcome never after pushed = absurd never
    told_by (Some tick) is outcome told after pushed =
        ap (map meant_at_key) pushed ∙ map-append meant_at_key before (record { key = state.name; removed = r; outcome = outcome } ∷ [])
        ∙ ap (λ (l : List nodes.KeyOutcome). l ++ record { key = state.name; removed = r; outcome = meant_outcome outcome } ∷ []) same
        ∙ append_assoc first so_far.outcomes (record { key = state.name; removed = r; outcome = meant_outcome outcome } ∷ [])
        ∙ ap (λ o. first ++ (so_far.outcomes ++ record { key = state.name; removed = r; outcome = o } ∷ [])) told.told
        ∙ ap (λ (n : Ticking Op). first ++ n.outcomes) (sym (next_is (Some tick) is))

    pub told_more : (outcome : Outcome) → IsTickOf ghosts.IsDataOf log id r so_far.entry (tick_at ghosts.data_type (ghosts.kind_of old.entry.value) id view members so_far.entry r) (Some outcome) entry
        → (after : List KeyOutcome) → after ≡ before ++ record { key = state.name; removed = r; outcome = outcome } ∷ []
        → map meant_at_key after ≡ first ++ (tick_identity (delta_groups ghosts.data_type digest) node (state_in node state) so_far r).outcomes
    told_more = told_by (tick_at ghosts.data_type (ghosts.kind_of old.entry.value) id view members so_far.entry r) refl

-- ALL IDENTITIES

module _ {T Kind Op Delta : Type 0} (D : Replication Kind Op Shown) (node : nodes.Node Kind Op Shown) (state : KeyState T Kind Op Delta) where
  -- a key after the tick of these identities
  abbrev pub course_after : List ℕ → Ticking Op
  course_after rs = fold (tick_identity D node (state_in node state)) (record { entry = node.entries state.name; outcomes = [] }) rs

  pub after_more : (rs : List ℕ) (i r : ℕ) → i < length rs → r ≡ get_or rs i r → course_after (take (i + 1) rs) ≡ tick_identity D node (state_in node state) (course_after (take i rs)) r
  after_more rs i r within is = ap (λ l. fold (tick_identity D node (state_in node state)) (record { entry = node.entries state.name; outcomes = [] }) l) (one_more rs i r within is)
      ∙ fold-append (tick_identity D node (state_in node state)) (record { entry = node.entries state.name; outcomes = [] }) (take i rs) (r ∷ [])

-- BEFORE THE FIRST, AND AFTER THE LAST

module _ {T Kind Op Delta : Type 0} (state : KeyState T Kind Op Delta) (ticking : KeyTicking T Kind Op Delta) where
  pub own_first : (kind_of : T → Kind) (id : ℕ) (removed : List ℕ) → CanTick kind_of id removed state → ticking.entry ≡ state.entry → ticking.prunes ≡ [] → IsOwnCourse kind_of id state ticking
  own_first kind_of id removed can is none = record {
    kind = ap (λ (e : Envelope T Kind Op Delta). kind_of e.value) is ∙ can.kind;
    number = (let a = ap (λ (e : Envelope T Kind Op Delta). number_at (parts_of e).versions id) is in let b = ap length none in omega (arith, a, b));
    unpruned = ap (λ (e : Envelope T Kind Op Delta). performed_in (parts_of e).marks id) is ∙ can.unpruned;
    placeholders = subst (All (λ (next : NextRecord Delta). next.delta ≡ None)) (sym none) (All-nil (λ (next : NextRecord Delta). next.delta ≡ None));
    room = subst (All (HasRoom state.log)) (sym none) (All-nil (HasRoom state.log));
  }

  pub course_first : (ghosts : Ghosts T Kind Op Delta) (log : History Op) (entry : model.Entry Op) → StandsFor ghosts.IsDataOf (parts_of state.entry) log entry → StandsForLog ghosts.IsDeltaOf state.log log entry
      → ticking.entry ≡ state.entry → ((i : ℕ) → number_at ticking.known i ≡ at entry.history i) → ticking.prunes ≡ [] → IsInCourse ghosts log state (record { entry = entry; outcomes = [] }) ticking
  course_first ghosts log entry stands logged is known none = record {
    entry = subst (λ (e : Envelope T Kind Op Delta). StandsFor ghosts.IsDataOf (parts_of e) log entry) (sym is) stands;
    known = known;
    logged = subst (λ l. StandsForLog ghosts.IsDeltaOf (all_appended state.log l) log entry) (sym none) logged;
  }

  no_delta : (ghosts : Ghosts T Kind Op Delta) (next : NextRecord Delta) → next.delta ≡ None → IsDeltaFor ghosts.IsOfOrigin ghosts.delta_fits_kind state.log.kind state.log.origin next.delta
  no_delta ghosts next none = record { made = λ made is. absurd (cc (is, none)); of_kind = λ made is. absurd (cc (is, none)) }

  pub own_last : (ghosts : Ghosts T Kind Op Delta) (id : ℕ) (removed : List ℕ) (tick : KeyTick T Kind Op Delta) → CanTick ghosts.kind_of id removed state → IsOwnCourse ghosts.kind_of id state ticking → length ticking.prunes ≤ length removed
      → tick.entry ≡ Some ticking.entry → tick.prunes.items ≡ ticking.prunes → IsKeyTick ghosts id state tick
  own_last ghosts id removed tick can own few is same = record {
    follows = record {
      small = (let l = can.logged.last in let f = can.few in let s = can.small in omega (arith, l, f, s, few, count));
      fit = subst (All (λ (next : NextRecord Delta). IsDeltaFor ghosts.IsOfOrigin ghosts.delta_fits_kind state.log.kind state.log.origin next.delta)) (sym same) (λ k d within. no_delta ghosts (get_or ticking.prunes k d) (own.placeholders k d within));
      room = subst (All (HasRoom state.log)) (sym same) own.room;
    };
    few = (let f = can.few in omega (arith, f, few, count));
    number = entry_is (λ (e : Envelope T Kind Op Delta). number_at (parts_of e).versions id) ∙ own.number ∙ ap (λ n. own_number id state + n) (sym count);
    kind = entry_is (λ (e : Envelope T Kind Op Delta). ghosts.kind_of e.value) ∙ own.kind;
    unpruned = entry_is (λ (e : Envelope T Kind Op Delta). performed_in (parts_of e).marks id) ∙ own.unpruned;
  }
    where
      count : length tick.prunes.items ≡ length ticking.prunes
      count = ap length same

      entry_is : {X : Type 0} (f : Envelope T Kind Op Delta → X) → f (unwrap_or tick.entry state.entry) ≡ f ticking.entry
      entry_is f = ap (λ o. f (unwrap_or o state.entry)) is

  pub ticked_last : (ghosts : Ghosts T Kind Op Delta) (D : Replication Kind Op Shown) (node : nodes.Node Kind Op Shown) (logs : Text → History Op) (tick : KeyTick T Kind Op Delta) (rs : List ℕ) → rs ≡ removed_of node.view
      → IsInCourse ghosts (logs state.name) state (course_after D node state rs) ticking → tick.entry ≡ Some ticking.entry → tick.prunes.items ≡ ticking.prunes → IsTickedAs D node ghosts logs state tick
  ticked_last ghosts D node logs tick rs all course is same = record {
    entry = subst (λ (e : Envelope T Kind Op Delta). StandsFor ghosts.IsDataOf (parts_of e) (logs state.name) (tick_in D node state).entry) (sym (ap (λ o. unwrap_or o state.entry) is)) here.entry;
    logged = subst (λ l. StandsForLog ghosts.IsDeltaOf (all_appended state.log l) (logs state.name) (tick_in D node state).entry) (sym same) here.logged;
    still = λ none. absurd (cc (is, none));
  }
    where
      here : IsInCourse ghosts (logs state.name) state (tick_in D node state) ticking
      here = subst (λ (l : List ℕ). IsInCourse ghosts (logs state.name) state (course_after D node state l) ticking) all course

-- WHERE NOTHING IS KNOWN

-- a test that fails throughout
each_fails : {X : Type 0} (test : X → Bool) (x : X) (xs : List X) → list_any test (x ∷ xs) ≡ false → (test x ≡ false) × (list_any test xs ≡ false)
each_fails test x xs none = go (test x) none
  where
    go : (b : Bool) → (b || list_any test xs) ≡ false → (b ≡ false) × (list_any test xs ≡ false)
    go true e = absurd (cc e)
    go false e = (refl, e)

module _ {T Kind Op Delta : Type 0} (ghosts : Ghosts T Kind Op Delta) (digest : Kind → model.Entry Op → List ℕ) (kinds : Text → Kind) (logs : Text → History Op) (node : nodes.Node Kind Op Shown) (state : KeyState T Kind Op Delta) (id view : ℕ) (members : List ℕ)
    (ticks : TicksIn node id view members) (held : IsHeldBy ghosts.kind_of ghosts.IsDataOf ghosts.IsDeltaOf kinds logs id node state) where
  -- an identity without records makes no difference
  skipped : (r : ℕ) → number_at (parts_of state.entry).versions r ≡ 0 → tick_identity (delta_groups ghosts.data_type digest) node (state_in node state) (record { entry = node.entries state.name; outcomes = [] }) r ≡ record { entry = node.entries state.name; outcomes = [] }
  skipped r none =
      course_is (delta_groups ghosts.data_type digest) node state (record { entry = node.entries state.name; outcomes = [] }) r id view members ticks state.kind refl
      ∙ ap (course_by (delta_groups ghosts.data_type digest) node (state_in node state) (record { entry = node.entries state.name; outcomes = [] }) r)
      (nothing_at ghosts.data_type state.kind id view members (node.entries state.name) r (sym (init_absent ghosts.IsDataOf (parts_of state.entry) (logs state.name) (node.entries state.name) r view held.held.held.image none)))

  pub all_skipped : (rs : List ℕ) → list_any (λ r. nat_lt 0 (number_at (parts_of state.entry).versions r)) rs ≡ false → course_after (delta_groups ghosts.data_type digest) node state rs ≡ record { entry = node.entries state.name; outcomes = [] }
  all_skipped [] none = refl
  all_skipped (r ∷ rs) none =
      let both = each_fails (λ r. nat_lt 0 (number_at (parts_of state.entry).versions r)) r rs none in
      let zero : number_at (parts_of state.entry).versions r ≡ 0 = (let e = both.0 in grind arith) in
      ap (λ (so_far : Ticking Op). fold (tick_identity (delta_groups ghosts.data_type digest) node (state_in node state)) so_far rs) (skipped r zero) ∙ all_skipped rs both.1

  pub ticked_none : (tick : KeyTick T Kind Op Delta) (rs : List ℕ) → rs ≡ removed_of node.view → list_any (λ r. nat_lt 0 (number_at (parts_of state.entry).versions r)) rs ≡ false → tick.entry ≡ None → tick.prunes.items ≡ []
      → IsTickedAs (delta_groups ghosts.data_type digest) node ghosts logs state tick × ((tick_in (delta_groups ghosts.data_type digest) node state).outcomes ≡ [])
  ticked_none tick rs all none is same = (
    record {
      entry = subst (λ (e : Envelope T Kind Op Delta). StandsFor ghosts.IsDataOf (parts_of e) (logs state.name) (tick_in (delta_groups ghosts.data_type digest) node state).entry) (sym (ap (λ o. unwrap_or o state.entry) is))
          (subst (λ (e : model.Entry Op). StandsFor ghosts.IsDataOf (parts_of state.entry) (logs state.name) e) (sym stays) held.held.held.image);
      logged = subst (λ l. StandsForLog ghosts.IsDeltaOf (all_appended state.log l) (logs state.name) (tick_in (delta_groups ghosts.data_type digest) node state).entry) (sym same)
          (subst (λ (e : model.Entry Op). StandsForLog ghosts.IsDeltaOf state.log (logs state.name) e) (sym stays) held.held.logged);
      still = λ _. stays;
    },
    ap (λ (t : Ticking Op). t.outcomes) whole,
  )
    where
      whole : tick_in (delta_groups ghosts.data_type digest) node state ≡ record { entry = node.entries state.name; outcomes = [] }
      whole = sym (ap (course_after (delta_groups ghosts.data_type digest) node state) all) ∙ all_skipped rs none

      stays : (tick_in (delta_groups ghosts.data_type digest) node state).entry ≡ node.entries state.name
      stays = ap (λ (t : Ticking Op). t.entry) (sym (ap (course_after (delta_groups ghosts.data_type digest) node state) all) ∙ all_skipped rs none)

-- a key that stays
pub own_none : {T Kind Op Delta : Type 0} (ghosts : Ghosts T Kind Op Delta) (id : ℕ) (removed : List ℕ) (state : KeyState T Kind Op Delta) (tick : KeyTick T Kind Op Delta) → CanTick ghosts.kind_of id removed state → tick.entry ≡ None → tick.prunes.items ≡ [] → IsKeyTick ghosts id state tick
own_none {T} {Kind} {Op} {Delta} ghosts id removed state tick can is none = record {
  follows = record {
    small = (let l = can.logged.last in let s = can.small in let c = ap length none in omega (arith, l, s, c));
    fit = subst (All (λ (next : NextRecord Delta). IsDeltaFor ghosts.IsOfOrigin ghosts.delta_fits_kind state.log.kind state.log.origin next.delta)) (sym none) (All-nil (λ (next : NextRecord Delta). IsDeltaFor ghosts.IsOfOrigin ghosts.delta_fits_kind state.log.kind state.log.origin next.delta));
    room = subst (All (HasRoom state.log)) (sym none) (All-nil (HasRoom state.log));
  };
  few = (let c = ap length none in omega (arith, c));
  number = (let e = ap (λ o. number_at (parts_of (unwrap_or o state.entry)).versions id) is in let c = ap length none in omega (arith, e, c));
  kind = ap (λ o. ghosts.kind_of (unwrap_or o state.entry).value) is ∙ can.kind;
  unpruned = ap (λ o. performed_in (parts_of (unwrap_or o state.entry)).marks id) is ∙ can.unpruned;
}

-- IN THE PROGRAM

pub record IsStanding {State : Type 0} (parts : Parts State) (r view : ℕ) : Type 0 where
  pub some : 1 ≤ number_at parts.versions r
  pub owner : ℕ
  pub seen : ℕ
  pub mark : mark_of parts.marks r ≡ Some (Initialized view owner seen)

same_view : (begun view : ℕ) (b c : Bool) → nat_lt begun view ≡ b → nat_lt view begun ≡ c → (if b then initial.Marked else (if c then initial.Newer else initial.Standing)) ≡ initial.Standing → begun ≡ view
same_view begun view true c is is' e = absurd (cc e)
same_view begun view false true is is' e = absurd (cc e)
same_view begun view false false is is' e = elim (cases_lt begun view) [
  | inl less ↦ absurd (let no : false ≡ true = sym is ∙ lt-ltb begun view less in cc no)
  | inr more ↦ elim (cases_lt view begun) [
    | inl less ↦ absurd (let no : false ≡ true = sym is' ∙ lt-ltb view begun less in cc no)
    | inr same ↦ omega arith
  ]
]

module _ {State : Type 0} (parts : Parts State) (r view : ℕ) where
  by_mark : (o : Option Marker) → mark_of parts.marks r ≡ o → 1 ≤ number_at parts.versions r → init_as o view ≡ initial.Standing → IsStanding parts r view
  by_mark None is some e = absurd (cc e)
  by_mark (Some (Initialized begun owner seen)) is some e = record {
    some = some;
    owner = owner;
    seen = seen;
    mark = is ∙ ap (λ v. Some (Initialized v owner seen)) (same_view begun view (nat_lt begun view) (nat_lt view begun) refl refl e);
  }
  by_mark (Some (Performed owner at upto)) is some e = absurd (cc e)

  by_number : (b : Bool) → (number_at parts.versions r == 0) ≡ b → (if b then initial.NothingKnown else init_as (mark_of parts.marks r) view) ≡ initial.Standing → IsStanding parts r view
  by_number true is e = absurd (cc e)
  by_number false is e = elim (cases_eq (number_at parts.versions r) 0) [
    | inl none ↦ absurd (let no : false ≡ true = sym is ∙ eq-eqb (number_at parts.versions r) 0 none in cc no)
    | inr some ↦ by_mark (mark_of parts.marks r) refl (omega (arith, some)) e
  ]

  pub standing : init_of parts r view ≡ initial.Standing → IsStanding parts r view
  standing e = by_number (number_at parts.versions r == 0) refl e

-- IN THE MODEL

module _ {State Op : Type 0} (D : State → History Op → VersionVector → IdentitySet → Type 0) (shares : Option Shares) (owner view : ℕ) (members : List ℕ) (parts : Parts State) (log : History Op) (before : model.Entry Op) (r : ℕ)
    (s : StandsFor D parts log before) (there : IsStanding parts r view) (result : Result Perform Memory) where
  begun_is : begun (mark_of parts.marks r) ≡ Some (record { view = view; owner = there.owner; seen = members_in there.seen })
  begun_is = ap begun there.mark

  by_seen : model.ticked shares owner view members before r ≡ ticked_seen shares owner view members before r (unseen (record { view = view; owner = there.owner; seen = members_in there.seen }) members)
  by_seen = ticked_standing shares owner view members before r (record { view = view; owner = there.owner; seen = members_in there.seen }) (s.marks r ∙ begun_is) refl

  -- who has not seen the mark is waited for
  pub ticked_waits : ((i : ℕ) (mark : Mark) → begun (mark_of parts.marks r) ≡ Some mark → result ≡ Ok (perform.Waiting i) → unseen mark members ≡ Some i) → (i : ℕ) → result ≡ Ok (perform.Waiting i) → model.ticked shares owner view members before r ≡ record { outcome = Told.WaitingFor i; entry = before }
  ticked_waits waiting i is = by_seen ∙ ap (ticked_seen shares owner view members before r) (waiting i (record { view = view; owner = there.owner; seen = members_in there.seen }) begun_is is)

  module _ (seen : (i : ℕ) (mark : Mark) → begun (mark_of parts.marks r) ≡ Some mark → mark.view ≡ view → unseen mark members ≡ Some i → result ≡ Ok (perform.Waiting i)) (some : (i : ℕ) → result ≡ Ok (perform.Waiting i) → ⊥) where
    all_seen : (o : Option ℕ) → unseen (record { view = view; owner = there.owner; seen = members_in there.seen }) members ≡ o → unseen (record { view = view; owner = there.owner; seen = members_in there.seen }) members ≡ None
    all_seen None is = is
    all_seen (Some i) is = absurd (some i (seen i (record { view = view; owner = there.owner; seen = members_in there.seen }) begun_is refl is))

    by_shares : (o : Option Shares) → shares ≡ o → model.ticked shares owner view members before r ≡ performed_unless shares owner view members before r o
    by_shares o is =
        by_seen ∙ ap (ticked_seen shares owner view members before r) (all_seen (unseen (record { view = view; owner = there.owner; seen = members_in there.seen }) members) refl)
        ∙ ap (performed_unless shares owner view members before r) is

    pub ticked_blocks : (blocked : Shares) → shares ≡ Some blocked → model.ticked shares owner view members before r ≡ record { outcome = Told.Blocked blocked; entry = before }
    ticked_blocks blocked is = by_shares (Some blocked) is

    pub ticked_performs : shares ≡ None → model.ticked shares owner view members before r ≡ record { outcome = Told.Performed; entry = with_prune before owner r }
    ticked_performs is = by_shares None is

-- what holds of the tick that the model makes
module _ {T Kind Op Delta : Type 0} (D : T → History Op → VersionVector → IdentitySet → Type 0) (log : History Op) (owner r : ℕ) (before : model.Entry Op) (new : Envelope T Kind Op Delta) where
  pub ticked_as : (tick made : Tick Op) (told : Outcome) → tick ≡ made → IsTicked D log owner r before made told new → IsTicked D log owner r before tick told new
  ticked_as tick made told same is = subst (λ t. IsTicked D log owner r before t told new) (sym same) is

  pub tick_as : (tick made : Option (Tick Op)) (told : Option Outcome) → tick ≡ made → IsTickOf D log owner r before made told new → IsTickOf D log owner r before tick told new
  tick_as tick made told same is = subst (λ t. IsTickOf D log owner r before t told new) (sym same) is
