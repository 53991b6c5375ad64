-- What clients did is a section.
use Rattle.std.proofs.Common.{◌≡◌, ◌⊎◌, inl, inr, ⊎_elim, ℕ, zero, suc, List, [], ◌∷◌, ◌++◌, map, refl, sym, ap, subst, ◌∙◌, arith, true, false, true≢false, Option, Some, None, ◌+◌}
use Rattle.std.specs.Prelude.{◌==◌, not, slice_get, is_some, option_map, IsTrue}
use Rattle.std.specs.List.{AllByRecursion}
use Rattle.std.proofs.lemmas.Bool.Decides.{Decides-eqb}
use Rattle.std.proofs.lemmas.List.{append-nil, length-map}
use Rattle.std.proofs.lemmas.Option.{slice_get_within}
use Rattle.model_history.proofs.PruneLaws.{IsIn}
use Rattle.theorem_runs.proofs.Happening.{of_all, all_of}
use Rattle.model_members.specs.View.{View, is_member}
use Rattle.model_members.specs.DataType.{Replication}
use Rattle.model_members.specs.Node.{Node, Input}
use Rattle.model_members.specs.World.{World, views_of}
use Rattle.model_members.specs.Script.{Playing}
use Rattle.theorem_sections.proofs.AskedInputs.{IsAsked, is_asked}
use Rattle.theorem_sections.specs.Sections.{Command, new_client, opened, moved_all}
use Rattle.theorem_sections.specs.Histories.{Entry, Placed, entries_at, events_of, sent_so_far, replayed, AreHistories, IsRunOrder}
use Rattle.theorem_sections.specs.Paths.{ClientStep, IsInputOf, IsTake, IsStepOf, IsPath, ArePaths, HasEntryAt, HasSection, answered_in, calls_after, HaveAnswered}
use Rattle.theorem_sections.proofs.Exploring.{some_of}
use Rattle.theorem_sections.proofs.RunOrder.{is_same, messages_on, first_going}
use Rattle.theorem_sections.proofs.Along.{Along}
use Rattle.theorem_sections.proofs.Heard.{is_not}
use Rattle.theorem_sections.proofs.Positions.{takes, is_own, own}
use Rattle.theorem_sections.proofs.Positions.Position.{Ready}
use Rattle.theorem_sections.proofs.Ordering.{filter_in, sorted_filter, in_entries, entries_in, AtStep, EntryOf, timeout_is, replied_at, path_left}
use Rattle.theorem_sections.proofs.Ends.{State, get_within}
use Rattle.theorem_sections.proofs.Sectioning.{all_end, IsKnown}
use Rattle.theorem_sections.proofs.Moves.{Keeping, IsKept, follows}
use Rattle.theorem_operations.proofs.Lists.{to_filter, first_true, second_true, both_true, not_true}

taking : {Op : Type 0} (input : Input Op) → IsTake input → takes input ≡ true
taking (Input.Take from message) t = refl
taking input t = absurd t

asked_takes_none : {Op : Type 0} (input : Input Op) → IsAsked input → takes input ≡ false
asked_takes_none (Input.Take from message) h = absurd h
asked_takes_none input h = refl

module _ {Op : Type 0} where
  commands_take_none : (views : List View) (command : Command Op) (input : Input Op) → IsInputOf views command input → takes input ≡ false
  commands_take_none views command input is = asked_takes_none input (is_asked views command.ask input is)

pub get_mapped : {X Y : Type 0} (f : X → Y) (xs : List X) (k : ℕ) (x : X) → slice_get xs k ≡ Some x → slice_get (map f xs) k ≡ Some (f x)
get_mapped f [] k x e = absurd (cc e)
get_mapped f (y ∷ xs) zero x e = let same : y ≡ x = cc e in ap (λ z. Some (f z)) same
get_mapped f (y ∷ xs) (suc k) x e = get_mapped f xs k x e

module _ {Kind Op Shown : Type 0} (D : Replication Kind Op Shown) (world : World Kind Op Shown) (histories : ℕ → List (Entry Op Shown)) (placed : List (Placed Op Shown)) (keeping : Keeping Op) (all : AreHistories D world histories)
    (runs_in : (i : ℕ) (n : Node Kind Op Shown) → world.nodes i ≡ Some n → IsTrue (is_member world.view i)) (order : IsRunOrder world.view histories placed)
    (clients : List (List (Command Op))) (paths : List (List (ClientStep Op Shown))) (are : ArePaths D world histories clients paths) where
  abbrev EntryIn : Placed Op Shown → List (Command Op) → List (ClientStep Op Shown) → Type 0
  EntryIn y commands steps = EntryOf D world histories placed keeping all runs_in y commands steps

  abbrev StandsAt : Placed Op Shown → ℕ → Option ℕ → Type 0
  StandsAt y i o = AtStep D world histories placed keeping all runs_in y i o

  -- a step of a path
  path_at : (c u n : ℕ) (commands : List (Command Op)) (steps : List (ClientStep Op Shown)) (command : Command Op) (step : ClientStep Op Shown) → IsPath D world histories c u commands steps → slice_get commands n ≡ Some command → slice_get steps n ≡ Some step → IsStepOf D world histories c command step
  path_at c u n [] steps command step path e f = absurd (cc e)
  path_at c u n (x ∷ commands) [] command step path e f = absurd (cc f)
  path_at c u zero (x ∷ commands) (y ∷ steps) command step path e f =
      let a : x ≡ command = cc e in let b : y ≡ step = cc f in subst (λ z. IsStepOf D world histories c z step) a (subst (λ z. IsStepOf D world histories c x z) b path.1)
  path_at c u (suc n) (x ∷ commands) (y ∷ steps) command step path e f = path_at c y.upto n commands steps command step path.2 e f

  entry_at : (y : Placed Op Shown) (n : ℕ) (commands : List (Command Op)) (steps : List (ClientStep Op Shown)) (command : Command Op) (step : ClientStep Op Shown) → slice_get commands n ≡ Some command → slice_get steps n ≡ Some step
      → StandsAt y command.at step.index ⊎ StandsAt y command.at step.timeout → EntryIn y commands steps
  entry_at y n [] steps command step e f h = absurd (cc e)
  entry_at y n (x ∷ commands) [] command step e f h = absurd (cc f)
  entry_at y zero (x ∷ commands) (z ∷ steps) command step e f h =
      let a : x ≡ command = cc e in let b : z ≡ step = cc f in
      ⊎_elim (λ (i : StandsAt y command.at step.index). inl (subst (λ q. StandsAt y q.at z.index) (sym a) (subst (λ q. StandsAt y command.at q.index) (sym b) i)))
      (λ t. inr (inl (subst (λ q. StandsAt y q.at z.timeout) (sym a) (subst (λ q. StandsAt y command.at q.timeout) (sym b) t)))) h
  entry_at y (suc n) (x ∷ commands) (z ∷ steps) command step e f h = inr (inr (entry_at y n commands steps command step e f h))

  -- what stands at a step is of its client, takes nothing, and is there
  pub record IsOf (c : ℕ) (y : Placed Op Shown) : Type 0 where
    pub client : y.entry.client ≡ c
    pub takes_none : takes y.entry.input ≡ false
    pub there : IsIn placed y

  running_at : (i : ℕ) → is_some (world.nodes i) ≡ true → IsTrue (is_member world.view i)
  running_at i e = let n = some_of is_some (world.nodes i) refl e in runs_in i n.0 n.1

  is_there : (y : Placed Op Shown) (i k : ℕ) → IsTrue (is_member world.view i) → y.at ≡ i → slice_get (histories i) k ≡ Some y.entry → IsIn placed y
  is_there y i k mi at stands =
      entries_in placed y (subst (λ j. IsIn (entries_at j placed) y.entry) (sym at) (subst (λ es. IsIn es y.entry) (sym (order.whole i mi)) (k, stands)))

  stands_of : (c : ℕ) (command : Command Op) (step : ClientStep Op Shown) → IsStepOf D world histories c command step → (y : Placed Op Shown) → StandsAt y command.at step.index ⊎ StandsAt y command.at step.timeout → IsOf c y
  stands_of c command step is y (inl (k, at, here, stands)) =
      let r = (replied_at D world histories placed keeping all runs_in c command step is k at).1 in
      let same_k : r.index ≡ k = cc (sym r.at ∙ at) in
      let same : r.entry ≡ y.entry = cc (sym r.made.stands ∙ ap (slice_get (histories command.at)) same_k ∙ stands) in
      record {
        client = ap (λ (e : Entry Op Shown). e.client) (sym same) ∙ r.made.of;
        takes_none = ap (λ (e : Entry Op Shown). takes e.input) (sym same) ∙ ap takes r.made.asks ∙ commands_take_none (views_of world) command r.input r.given;
        there = is_there y command.at k (running_at command.at r.runs) here stands;
      }
  stands_of c command step is y (inr (k', at, here, stands)) =
      let t = timeout_is D world histories placed keeping all runs_in c command step is k' at in
      let r = (replied_at D world histories placed keeping all runs_in c command step is t.k t.at).1 in
      let same : t.timed.timeout ≡ y.entry = cc (sym t.timed.made.stands ∙ stands) in
      record {
        client = ap (λ (e : Entry Op Shown). e.client) (sym same) ∙ t.timed.made.of;
        takes_none = ap (λ (e : Entry Op Shown). takes e.input) (sym same) ∙ ap takes t.timed.made.asks;
        there = is_there y command.at k' (running_at command.at r.runs) here stands;
      }

  path_of : (c u : ℕ) (commands : List (Command Op)) (steps : List (ClientStep Op Shown)) → IsPath D world histories c u commands steps → (y : Placed Op Shown) → EntryIn y commands steps → IsOf c y
  path_of c u [] [] path y h = absurd h
  path_of c u [] (step ∷ steps) path y h = absurd h
  path_of c u (command ∷ commands) [] path y h = absurd h
  path_of c u (command ∷ commands) (step ∷ steps) path y (inl h) = stands_of c command step path.1 y (inl h)
  path_of c u (command ∷ commands) (step ∷ steps) path y (inr (inl h)) = stands_of c command step path.1 y (inr h)
  path_of c u (command ∷ commands) (step ∷ steps) path y (inr (inr h)) = path_of c step.upto commands steps path.2 y h

  -- where an entry that takes nothing stands
  pub record Found (y : Placed Op Shown) : Type 0 where
    pub c : ℕ
    pub commands : List (Command Op)
    pub steps : List (ClientStep Op Shown)
    pub of : (slice_get clients c ≡ Some commands) × (slice_get paths c ≡ Some steps)
    pub entry : EntryIn y commands steps
    pub is : IsOf c y

  found : (y : Placed Op Shown) → IsIn placed y → (takes y.entry.input ≡ true) ⊎ Found y
  found y m =
      let my : IsTrue (is_member world.view y.at) = of_all (λ (x : Placed Op Shown). IsTrue (is_member world.view x.at)) placed y order.members m in
      let k = subst (λ es. IsIn es y.entry) (order.whole y.at my) (in_entries placed y m) in
      ⊎_elim (λ (t : IsTake y.entry.input). inl (taking y.entry.input t))
      (λ (h : HasEntryAt D world histories clients paths y.at k.0). inr (found_by k.0 k.1 h)) (are.whole y.at k.0 y.entry k.1)
    where
      found_by : (k : ℕ) → slice_get (histories y.at) k ≡ Some y.entry → HasEntryAt D world histories clients paths y.at k → Found y
      found_by k stands h =
          let at = h.at.0 in
          let here : StandsAt y h.command.at h.step.index ⊎ StandsAt y h.command.at h.step.timeout =
          ⊎_elim (λ (i : h.step.index ≡ Some k). inl (k, i, sym at, subst (λ j. slice_get (histories j) k ≡ Some y.entry) (sym at) stands)) (λ t. inr (k, t, sym at, subst (λ j. slice_get (histories j) k ≡ Some y.entry) (sym at) stands)) h.at.1 in
          let path = are.each h.client h.commands h.steps h.of.0 h.of.1 in
          record {
            c = h.client;
            commands = h.commands;
            steps = h.steps;
            of = h.of;
            entry = entry_at y h.number h.commands h.steps h.command h.step h.stands.0 h.stands.1 here;
            is = stands_of h.client h.command h.step (path_at h.client 0 h.number h.commands h.steps h.command h.step path h.stands.0 h.stands.1) y here;
          }

  own_only : (c : ℕ) (commands : List (Command Op)) (steps : List (ClientStep Op Shown)) → slice_get clients c ≡ Some commands → slice_get paths c ≡ Some steps → (y : Placed Op Shown) → IsIn (own c placed) y → EntryIn y commands steps
  own_only c commands steps e f y m =
      let in_placed = filter_in (is_own c) placed y m in
      let client = (Decides-eqb y.entry.client c).0 (first_true (y.entry.client == c) (not (takes y.entry.input)) in_placed.1) in
      let none = not_true (takes y.entry.input) (second_true (y.entry.client == c) (not (takes y.entry.input)) in_placed.1) in
      ⊎_elim (λ (t : takes y.entry.input ≡ true). absurd (true≢false (sym t ∙ none)))
      (λ (h : Found y).
      let same : h.c ≡ c = sym h.is.client ∙ client in
      let same_commands : h.commands ≡ commands = cc (sym h.of.0 ∙ ap (slice_get clients) same ∙ e) in
      let same_steps : h.steps ≡ steps = cc (sym h.of.1 ∙ ap (slice_get paths) same ∙ f) in
      subst (λ cs. EntryIn y cs steps) same_commands (subst (λ ss. EntryIn y h.commands ss) same_steps h.entry))
      (found y in_placed.0)

  own_has : (c : ℕ) (commands : List (Command Op)) (steps : List (ClientStep Op Shown)) → slice_get clients c ≡ Some commands → slice_get paths c ≡ Some steps → (y : Placed Op Shown) → EntryIn y commands steps → IsIn (own c placed) y
  own_has c commands steps e f y h =
      let is = path_of c 0 commands steps (are.each c commands steps e f) y h in
      to_filter (is_own c) placed y is.there (both_true (y.entry.client == c) (not (takes y.entry.input)) (is_same y.entry.client c is.client) (is_not (takes y.entry.input) is.takes_none))

  known : AllByRecursion (IsKnown D world histories placed keeping all runs_in paths) placed
  known = all_of (IsKnown D world histories placed keeping all runs_in paths) placed (λ y m. ⊎_elim (λ (t : takes y.entry.input ≡ true). inl t) (λ (h : Found y). inr (let a = slice_get_within paths h.c h.steps h.of.1 in let b = h.is.client in omega (arith, a, b))) (found y m))

  -- FROM THE OPENING ON

  replayed_none : (o : Option (Node Kind Op Shown)) → o ≡ option_map (λ b. replayed D b []) o
  replayed_none None = refl
  replayed_none (Some b) = refl

  plus_none : (n : ℕ) → n + 0 ≡ n
  plus_none n = omega arith

  -- a script in this world
  abbrev in_world : Playing Kind Op Shown → Playing Kind Op Shown
  in_world p = record p { world = world }

  pub paths_have_section : (p : Playing Kind Op Shown) → keeping ≡ record { answers = p.answers; ends = calls_after (in_world p) placed; early = p.events } → HaveAnswered (in_world p) placed → HasSection D (in_world p) placed clients paths
  paths_have_section p keeps answered =
      let first = opened (in_world p) clients in
      let answered' : (place : ℕ) → IsKept (record { answers = p.answers; ends = calls_after (in_world p) placed; early = p.events }) first.playing (answered_in world.view placed place) place =
      λ place. record { same = refl; follow = follows p.answers place (p.calls place) (answered_in world.view placed place) (answered place); ends = refl } in
      let along : Along D world histories placed keeping first.playing first.due [] placed =
      record {
        going = first_going D world histories placed all order;
        whole = λ i mi. order.whole i mi;
        nodes = λ i. replayed_none (world.nodes i);
        due_is = λ a b. omega arith;
        sent = λ a b. sym (append-nil (messages_on world.links a b));
        keepers = subst (λ k. (place : ℕ) → IsKept k first.playing (answered_in world.view placed place) place) (sym keeps) answered';
        lines = refl;
        events = ap (λ (k : Keeping Op). k.early ++ events_of (sent_so_far world) placed) (sym keeps);
        far = refl;
      } in
      let state : State D world histories placed keeping all runs_in paths first [] placed =
      record {
        along = along;
        count = (let a = are.as_many in let b = length-map clients (new_client {Op = Op} {Shown = Shown}) in omega (arith, a, b));
        each = λ c steps path.
            let within = slice_get_within paths c steps path in
            let a = are.as_many in
            let commands = get_within clients c (omega (arith, within, a)) in (
              new_client commands.0,
              get_mapped new_client clients c commands.0 commands.1,
              record {
                past = [];
                left = steps;
                whole = refl;
                lines = tt;
                position = Ready 0 (λ s done rest along late. refl)
                    (path_left D world histories placed keeping all runs_in world.view c 0 commands.0 steps (own c placed) (are.each c commands.0 steps commands.1 path) (sorted_filter world.view (is_own c) placed order.sorted)
                    (own_only c commands.0 steps commands.1 path) (own_has c commands.0 steps commands.1 path));
              },
            );
      } in
      let ends = all_end D world histories placed keeping all runs_in paths placed first [] known state in
      let kept = subst (λ k. (place : ℕ) → IsKept k (moved_all D first ends.moves).playing [] place) keeps ends.keepers in
      record {
        moves = ends.moves;
        end = moved_all D first ends.moves;
        section = record { lawful = ends.lawful; leads = refl; over = ends.over };
        lines = ends.lines;
        answers = (kept 0).same;
        calls = λ place. let e : (moved_all D first ends.moves).playing.calls place + 0 ≡ calls_after (in_world p) placed place = (kept place).ends in sym (plus_none _) ∙ e;
        events = ends.events ∙ ap (λ (k : Keeping Op). k.early ++ events_of (sent_so_far world) placed) keeps;
        world = ends.comes;
      }
