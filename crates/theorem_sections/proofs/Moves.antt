-- What a command, a timeout or a message plays where its fate and what comes of it are known beforehand.
use Rattle.std.proofs.Common.{◌≡◌, ◌≢◌, ℕ, suc, ◌+◌, ◌<◌, List, [], ◌∷◌, ◌++◌, length, refl, sym, ap, subst, ◌∙◌, arith, Bool, true, false, Some, None, ⊎_elim, Option}
use Rattle.std.specs.Prelude.{⊤, if◌then◌else◌, nat_lt, slice_get, is_some, option_map, ◌-◌, map}
use Rattle.std.specs.List.{range_with_len}
use Rattle.std.proofs.lemmas.Bool.Decides.{nat_tests}
use Rattle.model_history.proofs.HistoryLaws.{with_at_other}
use Rattle.model_history.proofs.CutLaws.{with_at_is}
use Rattle.model_members.specs.View.{View, place_of}
use Rattle.model_members.specs.DataType.{Replication}
use Rattle.model_members.specs.Node.{Node, Input, Fate}
use Rattle.model_members.specs.Node.Fate.{NoStore, Stored, StoreFailed}
use Rattle.model_members.specs.Step.{step, is_full}
use Rattle.model_members.specs.World.{Event, views_of, stores, FitsFate, Turn, turn_of, step_in, output_of}
use Rattle.model_members.specs.World.Event.{InputAt}
use Rattle.model_members.specs.Script.{asked_by, input_of, Playing, Head, Answer, KeeperAnswers, played, next_answer, with_call, did, output_lines, told, answers_between}
use Rattle.theorem_operations.proofs.PlayedInputs.{turn_by}
use Rattle.theorem_sections.proofs.Givens.{given_to, given_room, given_fate}
use Rattle.theorem_sections.specs.Sections.{Command, step_of}
use Rattle.theorem_sections.specs.Histories.{Placed, taken_by, event_of, due_after}
use Rattle.theorem_sections.specs.Paths.{answer_of, answered_in, IsInputOf, head_of, IsTake, LacksView}
use Rattle.theorem_sections.proofs.NextDue.{same_or_not}
use Rattle.theorem_sections.proofs.RunOrder.{is_same, is_other}

-- KEEPERS

-- what the keepers answer, and up to which call of each place; and the events of before the section
pub record Keeping (Op : Type 0) : Type 0 where
  pub answers : KeeperAnswers
  pub ends : ℕ → ℕ
  pub early : List (Event Op)

-- these are the answers from one call on
abbrev pub Follow : KeeperAnswers → ℕ → ℕ → List Bool → Type 0
Follow answers place n [] = ⊤
Follow answers place n (b ∷ bs) = (answers place n ≡ b) × Follow answers place (suc n) bs

module _ (answers : KeeperAnswers) (place : ℕ) where
  follow_on : (n : ℕ) (bs : List Bool) → map (answers place) (range_with_len n (length bs)) ≡ bs → Follow answers place n bs
  follow_on n [] e = tt
  follow_on n (b ∷ bs) e =
      let first : answers place n ≡ b = cc e in
      let rest : map (answers place) (range_with_len (n + 1) (length bs)) ≡ bs = cc e in
      let next : n + 1 ≡ suc n = omega arith in
      (first, subst (λ m. Follow answers place m bs) next (follow_on (n + 1) bs rest))

  pub follows : (n : ℕ) (bs : List Bool) → answers_between answers place n (n + length bs) ≡ bs → Follow answers place n bs
  follows n bs e = let as_many : n + length bs - n ≡ length bs = omega arith in follow_on n bs (ap (λ m. map (answers place) (range_with_len n m)) (sym as_many) ∙ e)

module _ {Op Shown : Type 0} where
  answered_here : (view : View) (x : Placed Op Shown) (rest : List (Placed Op Shown)) → answered_in view (x ∷ rest) (place_of view x.at) ≡ answer_of x.entry.fate ++ answered_in view rest (place_of view x.at)
  answered_here view x rest = ap (λ b. (if b then answer_of x.entry.fate else []) ++ answered_in view rest (place_of view x.at)) (is_same (place_of view x.at) (place_of view x.at) refl)

  answered_else : (view : View) (x : Placed Op Shown) (rest : List (Placed Op Shown)) (place : ℕ) → place_of view x.at ≢ place → answered_in view (x ∷ rest) place ≡ answered_in view rest place
  answered_else view x rest place isnt = ap (λ b. (if b then answer_of x.entry.fate else []) ++ answered_in view rest place) (is_other (place_of view x.at) place isnt)

module _ {Kind Op Shown : Type 0} where
  -- the keeper was called, or not
  abbrev pub after_fate : Playing Kind Op Shown → ℕ → Fate → Playing Kind Op Shown
  after_fate p place NoStore = p
  after_fate p place _ = with_call p place

  abbrev pub HasAnswer : Playing Kind Op Shown → ℕ → Fate → Type 0
  HasAnswer p place NoStore = ⊤
  HasAnswer p place Stored = next_answer p place ≡ true
  HasAnswer p place StoreFailed = next_answer p place ≡ false

  -- the keeper of a place goes on with these answers
  pub record IsKept (keeping : Keeping Op) (p : Playing Kind Op Shown) (bs : List Bool) (place : ℕ) : Type 0 where
    pub same : p.answers ≡ keeping.answers
    pub follow : Follow keeping.answers place (p.calls place) bs
    pub ends : p.calls place + length bs ≡ keeping.ends place

  -- that depends on its answers and its calls alone
  pub kept_as : (keeping : Keeping Op) (p q : Playing Kind Op Shown) (bs : List Bool) (place : ℕ) → q.answers ≡ p.answers → q.calls ≡ p.calls → IsKept keeping p bs place → IsKept keeping q bs place
  kept_as keeping p q bs place answers calls is =
      let e = is.ends in
      let n : q.calls place ≡ p.calls place = ap (λ (f : ℕ → ℕ). f place) calls in
      record { same = answers ∙ is.same; follow = subst (λ (f : ℕ → ℕ). Follow keeping.answers place (f place) bs) (sym calls) is.follow; ends = omega (arith, e, n) }

  answer_there : (keeping : Keeping Op) (p : Playing Kind Op Shown) (place : ℕ) (fate : Fate) (more : List Bool) → IsKept keeping p (answer_of fate ++ more) place → HasAnswer p place fate
  answer_there keeping p place NoStore more is = tt
  answer_there keeping p place Stored more is = ap (λ (f : KeeperAnswers). f place (p.calls place)) is.same ∙ is.follow.0
  answer_there keeping p place StoreFailed more is = ap (λ (f : KeeperAnswers). f place (p.calls place)) is.same ∙ is.follow.0

  pub has_answer : (keeping : Keeping Op) (p : Playing Kind Op Shown) (view : View) (x : Placed Op Shown) (rest : List (Placed Op Shown)) → ((place : ℕ) → IsKept keeping p (answered_in view (x ∷ rest) place) place) → HasAnswer p (place_of view x.at) x.entry.fate
  has_answer keeping p view x rest keeps =
      answer_there keeping p (place_of view x.at) x.entry.fate (answered_in view rest (place_of view x.at)) (subst (λ bs. IsKept keeping p bs (place_of view x.at)) (answered_here view x rest) (keeps (place_of view x.at)))

  call_here : (keeping : Keeping Op) (p : Playing Kind Op Shown) (place : ℕ) (b : Bool) (more : List Bool) → IsKept keeping p (b ∷ more) place → IsKept keeping (with_call p place) more place
  call_here keeping p place b more is =
      let now : (with_call p place).calls place ≡ suc (p.calls place) = with_at_is p.calls place (suc (p.calls place)) place refl in
      let e = is.ends in
      record { same = is.same; follow = subst (λ n. Follow keeping.answers place n more) (sym now) is.follow.1; ends = omega (arith, e, now) }

  called_here : (keeping : Keeping Op) (p : Playing Kind Op Shown) (place : ℕ) (fate : Fate) (more : List Bool) → IsKept keeping p (answer_of fate ++ more) place → IsKept keeping (after_fate p place fate) more place
  called_here keeping p place NoStore more is = is
  called_here keeping p place Stored more is = call_here keeping p place true more is
  called_here keeping p place StoreFailed more is = call_here keeping p place false more is

  call_else : (keeping : Keeping Op) (p : Playing Kind Op Shown) (place other : ℕ) (bs : List Bool) → other ≢ place → IsKept keeping p bs other → IsKept keeping (with_call p place) bs other
  call_else keeping p place other bs isnt is =
      let now : (with_call p place).calls other ≡ p.calls other = with_at_other p.calls place (suc (p.calls place)) other isnt in
      let e = is.ends in
      record { same = is.same; follow = subst (λ n. Follow keeping.answers other n bs) (sym now) is.follow; ends = omega (arith, e, now) }

  called_else : (keeping : Keeping Op) (p : Playing Kind Op Shown) (place other : ℕ) (fate : Fate) (bs : List Bool) → other ≢ place → IsKept keeping p bs other → IsKept keeping (after_fate p place fate) bs other
  called_else keeping p place other NoStore bs isnt is = is
  called_else keeping p place other Stored bs isnt is = call_else keeping p place other bs isnt is
  called_else keeping p place other StoreFailed bs isnt is = call_else keeping p place other bs isnt is

  pub keeps_on : (keeping : Keeping Op) (p : Playing Kind Op Shown) (view : View) (x : Placed Op Shown) (rest : List (Placed Op Shown)) → ((place : ℕ) → IsKept keeping p (answered_in view (x ∷ rest) place) place)
      → (place : ℕ) → IsKept keeping (after_fate p (place_of view x.at) x.entry.fate) (answered_in view rest place) place
  keeps_on keeping p view x rest keeps place = ⊎_elim
      (λ (is : place ≡ place_of view x.at). subst (λ q. IsKept keeping (after_fate p (place_of view x.at) x.entry.fate) (answered_in view rest q) q) (sym is)
      (called_here keeping p (place_of view x.at) x.entry.fate (answered_in view rest (place_of view x.at)) (subst (λ bs. IsKept keeping p bs (place_of view x.at)) (answered_here view x rest) (keeps (place_of view x.at)))))
      (λ isnt. called_else keeping p (place_of view x.at) place x.entry.fate (answered_in view rest place) isnt (subst (λ bs. IsKept keeping p bs place) (answered_else view x rest place (λ e. isnt (sym e))) (keeps place)))
      (same_or_not place (place_of view x.at))

none_less : {X : Type 0} (xs : List X) → xs ≡ [] → nat_lt 0 (length xs) ≡ false
none_less xs e = ap (λ ys. nat_lt 0 (length ys)) e

some_less : {X : Type 0} (xs : List X) → xs ≢ [] → nat_lt 0 (length xs) ≡ true
some_less [] h = absurd (h refl)
some_less (x ∷ xs) h = let p : 0 < suc (length xs) = omega arith in grind (arith, nat_tests)

module _ {Kind Op Shown : Type 0} (D : Replication Kind Op Shown) where
  -- AN INPUT

  module _ (p : Playing Kind Op Shown) (head : Head Op) (event : Fate → Event Op) (i : ℕ) (input : Input Op) (node : Node Kind Op Shown) where
    abbrev place : ℕ
    place = place_of p.world.view i

    abbrev room : Bool → Bool → Playing Kind Op Shown
    room stored answer =
        let fate = if stored then (if answer then Stored else StoreFailed) else NoStore in
        did D (if stored then with_call p place else p) (event fate) (output_lines D head (output_of D p.world (event fate)))

    room_is : (fate : Fate) → FitsFate D node input fate → HasAnswer p place fate → room (nat_lt 0 (length (stores D node input))) (next_answer p place) ≡ did D (after_fate p place fate) (event fate) (output_lines D head (output_of D p.world (event fate)))
    room_is NoStore fits has = ap (λ b. room b (next_answer p place)) (none_less (stores D node input) fits)
    room_is Stored fits has = ap (λ b. room b (next_answer p place)) (some_less (stores D node input) fits) ∙ ap (room true) has
    room_is StoreFailed fits has = ap (λ b. room b (next_answer p place)) (some_less (stores D node input) fits) ∙ ap (room true) has

    pub given_is : (fate : Fate) → FitsFate D node input fate → HasAnswer p place fate → is_full D node ≡ false → turn_of p.world (event fate) ≡ Some (turn_by i node input fate)
        → given_to D p head event i input (Some node) ≡ given_fate D (after_fate p place fate) head event (step D node input fate) fate
    given_is fate fits has has_room turn =
        ap (λ b. if b then told p head Answer.HistoryFull else given_room D p head event i input node) has_room ∙ room_is fate fits has
        ∙ ap (λ (o : Option (Turn Kind Op Shown)). did D (after_fate p place fate) (event fate) (output_lines D head (option_map (λ (turn : Turn Kind Op Shown). (step_in D turn).output) o))) turn

    pub given_full : is_full D node ≡ true → given_to D p head event i input (Some node) ≡ told p head Answer.HistoryFull
    given_full full = ap (λ b. if b then told p head Answer.HistoryFull else given_room D p head event i input node) full

  -- COMMANDS

  pub command_plays : (p : Playing Kind Op Shown) (command : Command Op) (input : Input Op) → IsInputOf (views_of p.world) command input
      → played D p (step_of command) ≡ given_to D p (head_of command) (InputAt command.at input) command.at input (p.world.nodes command.at)
  command_plays p command input is = ap (asked_by D p command.at command.ask) is

  pub command_gone : (p : Playing Kind Op Shown) (command : Command Op) → p.world.nodes command.at ≡ None → played D p (step_of command) ≡ told p (head_of command) Answer.Gone
  command_gone p command none = by_input (input_of (views_of p.world) command.ask)
    where
      by_input : (o : Option (Input Op)) → asked_by D p command.at command.ask o ≡ told p (head_of command) Answer.Gone
      by_input None = ap (λ o. told p (head_of command) (if is_some o then Answer.NoSuchView else Answer.Gone)) none
      by_input (Some input) = ap (given_to D p (head_of command) (InputAt command.at input) command.at input) none

  pub command_lacks : (p : Playing Kind Op Shown) (command : Command Op) → LacksView (views_of p.world) command → is_some (p.world.nodes command.at) ≡ true → played D p (step_of command) ≡ told p (head_of command) Answer.NoSuchView
  command_lacks p command lacks runs = ap (asked_by D p command.at command.ask) lacks ∙ ap (λ b. told p (head_of command) (if b then Answer.NoSuchView else Answer.Gone)) runs

-- an input that takes no message
pub record TakesNone {Op : Type 0} (input : Input Op) : Type 0 where
  pub none : (i stamp : ℕ) → taken_by i stamp input ≡ []
  pub event : (due : ℕ → ℕ → ℕ) (i : ℕ) (fate : Fate) → event_of due i fate input ≡ InputAt i input fate
  pub due : (due : ℕ → ℕ → ℕ) (i : ℕ) → due_after due i input ≡ due

pub takes_nothing : {Op : Type 0} (input : Input Op) → (IsTake input → ⊥) → TakesNone input
takes_nothing (Input.Update key op level) h = record { none = λ i stamp. refl; event = λ due i fate. refl; due = λ due i. refl }
takes_nothing (Input.Get key level) h = record { none = λ i stamp. refl; event = λ due i fate. refl; due = λ due i. refl }
takes_nothing (Input.Take from message) h = absurd (h tt)
takes_nothing (Input.Install view) h = record { none = λ i stamp. refl; event = λ due i fate. refl; due = λ due i. refl }
takes_nothing Input.Flush h = record { none = λ i stamp. refl; event = λ due i fate. refl; due = λ due i. refl }
takes_nothing (Input.GossipTo to) h = record { none = λ i stamp. refl; event = λ due i fate. refl; due = λ due i. refl }
takes_nothing Input.PruneTick h = record { none = λ i stamp. refl; event = λ due i fate. refl; due = λ due i. refl }
takes_nothing (Input.Timeout op) h = record { none = λ i stamp. refl; event = λ due i fate. refl; due = λ due i. refl }
