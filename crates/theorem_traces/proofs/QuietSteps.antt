-- Steps of a script that are neither updates, ticks nor settles are quiet events alone: what these keep is kept by each such step.
use Rattle.std.proofs.Common.{◌≡◌, ℕ, ◌+◌, ◌<◌, List, [], ◌∷◌, ◌++◌, length, refl, sym, ap, subst, ◌∙◌, Bool, true, false, Option, Some, None}
use Rattle.std.specs.Prelude.{⊤, if◌then◌else◌, slice_get, not, nat_lt, is_some, option_map, option_and_then}
use Rattle.std.specs.List.{range_with_len}
use Rattle.std.proofs.lemmas.Bool.{not-false, ltb-true}
use Rattle.model_history.specs.Table.{identity_limit}
use Rattle.model_members.specs.View.{View, is_member, is_taken, place_of}
use Rattle.model_members.specs.DataType.{Replication}
use Rattle.model_members.specs.Message.{Message}
use Rattle.model_members.specs.Node.{Node, Input, Fate}
use Rattle.model_members.specs.Node.Fate.{NoStore, Stored, StoreFailed}
use Rattle.model_members.specs.Step.{is_full}
use Rattle.model_members.specs.World.{World, Event, Turn, views_of, message_at, turn_at, turn_of, output_of, stores, happens, IsLawful, IsGiven, StepsAt, FitsFate}
use Rattle.model_members.specs.World.Event.{InputAt, Delivery, Loss, Removal, Joining}
use Rattle.model_members.specs.Script.{Ask, IsStep, ScriptStep, Head, Answer, Told, Playing, Due, did, did_plainly, output_lines, told, given, take_turn, next_answer, with_call, called, deliver, deliver_due, due_now, round_of, lose, remove, join, restart, asked, asked_by, played}
use Rattle.model_members.specs.Script.Head.{DeliverHead}
use Rattle.model_members.specs.Script.Answer.{HistoryFull}
use Rattle.theorem_runs.proofs.Keeping.{if_holds, if_tells, fold_all}
use Rattle.theorem_operations.proofs.Lists.{not_empty, is_empty}
use Rattle.theorem_traces.proofs.Quiet.{IsQuietInput}
use Rattle.theorem_traces.proofs.Events.{IsQuietEvent}

abbrev pub IsQuietStep : {Op : Type 0} → ScriptStep Op → Type 0
IsQuietStep (ScriptStep.Asks i (Ask.Update key op level)) = ⊥
IsQuietStep (ScriptStep.Asks i Ask.Tick) = ⊥
IsQuietStep ScriptStep.Settle = ⊥
IsQuietStep _ = ⊤

module _ {Kind Op Shown : Type 0} (D : Replication Kind Op Shown) where
  -- a turn of this input is that of a running member
  pub record IsTurnAt (world : World Kind Op Shown) (i : ℕ) (input : Input Op) (turn : Turn Kind Op Shown) : Type 0 where
    pub runs : world.nodes i ≡ Some turn.before
    pub at_is : turn.at ≡ i
    pub input_is : turn.input ≡ input

  pub turn_at_is : (world : World Kind Op Shown) (i : ℕ) (input : Input Op) (fate : Fate) (turn : Turn Kind Op Shown) → turn_at world i input fate ≡ Some turn → IsTurnAt world i input turn
  turn_at_is world i input fate turn e = by_node (world.nodes i) refl e
    where
      by_node : (o : Option (Node Kind Op Shown)) → world.nodes i ≡ o → option_map (λ (node : Node Kind Op Shown). record { at = i; before = node; input = input; fate = fate }) o ≡ Some turn → IsTurnAt world i input turn
      by_node None runs e = absurd (cc e)
      by_node (Some node) runs e =
          let same : record { at = i; before = node; input = input; fate = fate } ≡ turn = cc e in
          subst (IsTurnAt world i input) same (record { runs = runs; at_is = refl; input_is = refl })

  pub steps_at : (world : World Kind Op Shown) (i : ℕ) (input : Input Op) (fate : Fate) (turn : Turn Kind Op Shown) → IsTurnAt world i input turn → is_full D turn.before ≡ false → FitsFate D turn.before turn.input fate → StepsAt D world i input fate
  steps_at world i input fate turn is room fits = record { node = turn.before; runs = is.runs; has_room = room; fate_fits = subst (λ (x : Input Op). FitsFate D turn.before x fate) is.input_is fits }

module _ {Kind Op Shown : Type 0} (D : Replication Kind Op Shown) (Q : List (Event Op) → World Kind Op Shown → Type 0)
    (goes_on : (events : List (Event Op)) (world : World Kind Op Shown) (event : Event Op) → IsLawful D world event → IsQuietEvent event → Q events world → Q (events ++ event ∷ []) (happens D world event)) where
  abbrev Plays : Playing Kind Op Shown → Type 0
  Plays p = Q p.events p.world

  did_plays : (p : Playing Kind Op Shown) (event : Event Op) (lines : List (Told Op Shown)) → IsQuietEvent event → Plays p → IsLawful D p.world event → Plays (did D p event lines)
  did_plays p event lines quiet plays lawful = goes_on p.events p.world event lawful quiet plays

  plainly_plays : (p : Playing Kind Op Shown) (event : Event Op) (head : Head Op) (answer : Answer Shown) → IsQuietEvent event → Plays p → IsLawful D p.world event → Plays (did_plainly D p event head answer)
  plainly_plays p event head answer quiet plays lawful = goes_on p.events p.world event lawful quiet plays

  -- AN INPUT

  turn_plays : (p : Playing Kind Op Shown) (head : Head Op) (event : Fate → Event Op) (turn : Turn Kind Op Shown) → ((fate : Fate) → IsQuietEvent (event fate)) → ((fate : Fate) → FitsFate D turn.before turn.input fate → IsLawful D p.world (event fate)) → Plays p → Plays (take_turn D p head event turn)
  turn_plays p head event turn quiet lawful plays = by_test (nat_lt 0 (length (stores D turn.before turn.input))) refl
    where
      by_test : (b : Bool) → nat_lt 0 (length (stores D turn.before turn.input)) ≡ b
          → Plays (let fate = if b then (if next_answer p (place_of p.world.view turn.at) then Stored else StoreFailed) else NoStore in did D (if b then with_call p (place_of p.world.view turn.at) else p) (event fate) (output_lines D head (output_of D p.world (event fate))))
      by_test true e =
          let some = not_empty (stores D turn.before turn.input) (ltb-true 0 (length (stores D turn.before turn.input)) e) in
          let ok = next_answer p (place_of p.world.view turn.at) in
          let fate = if ok then Stored else StoreFailed in
          did_plays (with_call p (place_of p.world.view turn.at)) (event fate) (output_lines D head (output_of D p.world (event fate))) (quiet fate) plays (lawful fate (if_holds (FitsFate D turn.before turn.input) ok Stored StoreFailed some some))
      by_test false e = did_plays p (event NoStore) (output_lines D head (output_of D p.world (event NoStore))) (quiet NoStore) plays (lawful NoStore (is_empty (stores D turn.before turn.input) e))

  given_plays : (p : Playing Kind Op Shown) (head : Head Op) (event : Fate → Event Op) → ((fate : Fate) → IsQuietEvent (event fate))
      → ((turn : Turn Kind Op Shown) → turn_of p.world (event NoStore) ≡ Some turn → is_full D turn.before ≡ false → (fate : Fate) → FitsFate D turn.before turn.input fate → IsLawful D p.world (event fate)) → Plays p → Plays (given D p head event)
  given_plays p head event quiet lawful plays = by_turn (turn_of p.world (event NoStore)) refl
    where
      by_turn : (o : Option (Turn Kind Op Shown)) → turn_of p.world (event NoStore) ≡ o → Plays (elim o [ None ↦ told p head Answer.Gone | Some turn ↦ if is_full D turn.before then told p head HistoryFull else take_turn D p head event turn ])
      by_turn None e = plays
      by_turn (Some turn) e = if_tells Plays (is_full D turn.before) (told p head HistoryFull) (take_turn D p head event turn) (λ full. plays) (λ room. turn_plays p head event turn quiet (lawful turn e room) plays)

  input_plays : (p : Playing Kind Op Shown) (head : Head Op) (i : ℕ) (input : Input Op) → IsQuietInput input → IsGiven D p.world i input → Plays p → Plays (given D p head (InputAt i input))
  input_plays p head i input quiet is_given plays =
      given_plays p head (InputAt i input) (λ fate. quiet) (λ turn e room fate fits. let t = turn_at_is D p.world i input NoStore turn e in (is_given, steps_at D p.world i input fate turn t room fits)) plays

  -- DELIVERIES

  message_plays : (p : Playing Kind Op Shown) (from to index : ℕ) (message : Message Op) → message_at p.world from to index ≡ Some message → Plays p → Plays (given D p (DeliverHead from to index (Some message)) (Delivery from to index))
  message_plays p from to index message is plays =
      given_plays p (DeliverHead from to index (Some message)) (Delivery from to index) (λ fate. tt)
      (λ turn e room fate fits.
      let t = turn_at_is D p.world to (Input.Take from message) NoStore turn (sym (ap (option_and_then (λ (message : Message Op). turn_at p.world to (Input.Take from message) NoStore)) is) ∙ e) in
      (message, is, steps_at D p.world to (Input.Take from message) fate turn t room fits)) plays

  deliver_plays : (p : Playing Kind Op Shown) (from to index : ℕ) → Plays p → Plays (deliver D p from to index)
  deliver_plays p from to index plays = if_holds Plays (is_some (p.world.nodes to)) _ (told p (DeliverHead from to index None) Answer.Gone) (by_message (message_at p.world from to index) refl) plays
    where
      by_message : (o : Option (Message Op)) → message_at p.world from to index ≡ o → Plays (elim o [ None ↦ told p (DeliverHead from to index None) Answer.NoSuchMessage | Some message ↦ given D p (DeliverHead from to index (Some message)) (Delivery from to index) ])
      by_message None is = plays
      by_message (Some message) is = message_plays p from to index message is plays

  due_plays : (p : Playing Kind Op Shown) (due : Due) → Plays p → Plays (deliver_due D p due)
  due_plays p due plays = fold_all Plays (λ q index. deliver D q due.from due.to index) (λ q index h. deliver_plays q due.from due.to index h) (range_with_len due.first due.count) p plays

  round_plays : (p : Playing Kind Op Shown) (dues : List Due) → Plays p → Plays (round_of D p dues)
  round_plays p [] plays = plays
  round_plays p (due ∷ dues) plays = fold_all Plays (deliver_due D) due_plays (due ∷ dues) p plays

  -- LOSSES AND VIEWS

  lose_plays : (p : Playing Kind Op Shown) (from to : ℕ) → Plays p → Plays (lose D p from to)
  lose_plays p from to plays =
      let link = p.world.links from to in
      if_tells Plays (nat_lt link.next (length link.messages)) (did_plainly D p (Loss from to) (Head.LoseHead from to link.next) Answer.Lost) (told p (Head.LoseHead from to link.next) Answer.NoSuchMessage)
      (λ e. plainly_plays p (Loss from to) (Head.LoseHead from to link.next) Answer.Lost tt plays (ltb-true link.next (length link.messages) e)) (λ e. plays)

  remove_plays : (p : Playing Kind Op Shown) (i : ℕ) → Plays p → Plays (remove D p i)
  remove_plays p i plays =
      let view = p.world.view in
      let yes = did_plainly D p (Removal i) (Head.RemoveHead i) (Answer.NewView (view.number + 1)) in
      let no = told p (Head.RemoveHead i) Answer.LastMember in
      if_tells Plays (not (is_member view i)) (told p (Head.RemoveHead i) Answer.Gone) (if nat_lt 1 (length view.members) then yes else no) (λ e. plays)
      (λ member. if_tells Plays (nat_lt 1 (length view.members)) yes no
      (λ more. plainly_plays p (Removal i) (Head.RemoveHead i) (Answer.NewView (view.number + 1)) tt plays (not-false (is_member view i) member, ltb-true 1 (length view.members) more)) (λ e. plays))

  called_plays : (p : Playing Kind Op Shown) (place : ℕ) (event : Event Op) (head : Head Op) (answer failed : Answer Shown) → IsQuietEvent event → IsLawful D p.world event → Plays p → Plays (called D p place event head answer failed)
  called_plays p place event head answer failed quiet lawful plays =
      if_holds Plays (next_answer p place) (did_plainly D (with_call p place) event head answer) (told (with_call p place) head failed) (plainly_plays (with_call p place) event head answer quiet plays lawful) plays

  join_plays : (p : Playing Kind Op Shown) (place : ℕ) → place < 8 → Plays p → Plays (join D p place)
  join_plays p place small plays =
      let view = p.world.view in
      let yes = called D p place (Joining place) (Head.JoinHead place) (Answer.NewIdentity view.given (view.number + 1)) Answer.ClearFailed in
      let no = told p (Head.JoinHead place) Answer.TooManyIdentities in
      if_tells Plays (is_taken view place) (told p (Head.JoinHead place) Answer.PlaceTaken) (if nat_lt view.given identity_limit then yes else no) (λ e. plays)
      (λ free. if_tells Plays (nat_lt view.given identity_limit) yes no
      (λ room. called_plays p place (Joining place) (Head.JoinHead place) (Answer.NewIdentity view.given (view.number + 1)) Answer.ClearFailed tt (small, free, ltb-true view.given identity_limit room) plays) (λ e. plays))

  restart_plays : (p : Playing Kind Op Shown) (i : ℕ) → Plays p → Plays (restart D p i)
  restart_plays p i plays =
      let view = p.world.view in
      let yes = called D p (place_of view i) (Event.Restart i) (Head.RestartHead i) (Answer.NewIdentity view.given (view.number + 1)) Answer.LoadFailed in
      let no = told p (Head.RestartHead i) Answer.TooManyIdentities in
      if_tells Plays (not (is_member view i)) (told p (Head.RestartHead i) Answer.Gone) (if nat_lt view.given identity_limit then yes else no) (λ e. plays)
      (λ member. if_tells Plays (nat_lt view.given identity_limit) yes no
      (λ room. called_plays p (place_of view i) (Event.Restart i) (Head.RestartHead i) (Answer.NewIdentity view.given (view.number + 1)) Answer.LoadFailed tt (not-false (is_member view i) member, ltb-true view.given identity_limit room) plays) (λ e. plays))

  install_plays : (p : Playing Kind Op Shown) (i number : ℕ) → Plays p → Plays (asked D p i (Ask.Install number))
  install_plays p i number plays = by_view (slice_get (views_of p.world) number) refl
    where
      by_view : (o : Option View) → slice_get (views_of p.world) number ≡ o → Plays (asked_by D p i (Ask.Install number) (option_map Input.Install o))
      by_view None e = plays
      by_view (Some view) e = input_plays p (Head.Asked i (Ask.Install number)) i (Input.Install view) tt (number, e) plays

  -- A STEP

  pub step_plays : (p : Playing Kind Op Shown) (s : ScriptStep Op) → IsStep s → IsQuietStep s → Plays p → Plays (played D p s)
  step_plays p (ScriptStep.Asks i (Ask.Update key op level)) ok quiet plays = absurd quiet
  step_plays p (ScriptStep.Asks i (Ask.Get key level)) ok quiet plays = input_plays p (Head.Asked i (Ask.Get key level)) i (Input.Get key level) tt tt plays
  step_plays p (ScriptStep.Asks i Ask.Flush) ok quiet plays = input_plays p (Head.Asked i Ask.Flush) i Input.Flush tt tt plays
  step_plays p (ScriptStep.Asks i (Ask.Gossip to)) ok quiet plays = input_plays p (Head.Asked i (Ask.Gossip to)) i (Input.GossipTo to) tt tt plays
  step_plays p (ScriptStep.Deliver from to None) ok quiet plays = deliver_plays p from to (p.world.links from to).next plays
  step_plays p (ScriptStep.Deliver from to (Some index)) ok quiet plays = deliver_plays p from to index plays
  step_plays p (ScriptStep.Lose from to) ok quiet plays = lose_plays p from to plays
  step_plays p ScriptStep.Round ok quiet plays = round_plays p (due_now D p) plays
  step_plays p (ScriptStep.Asks i Ask.Tick) ok quiet plays = absurd quiet
  step_plays p (ScriptStep.Timeout i op) ok quiet plays = input_plays p (Head.TimeoutHead i op) i (Input.Timeout op) tt tt plays
  step_plays p (ScriptStep.Remove i) ok quiet plays = remove_plays p i plays
  step_plays p (ScriptStep.Join place) ok quiet plays = join_plays p place ok plays
  step_plays p (ScriptStep.Restart i) ok quiet plays = restart_plays p i plays
  step_plays p (ScriptStep.Asks i (Ask.Install view)) ok quiet plays = install_plays p i view plays
  step_plays p ScriptStep.Settle ok quiet plays = absurd quiet
