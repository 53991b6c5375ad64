-- The steps of a script leave the keepers' answers as they are.
use Rattle.std.proofs.Common.{◌≡◌, ℕ, ◌+◌, List, [], ◌∷◌, Bool, true, false, Option, Some, None}
use Rattle.std.specs.Prelude.{if◌then◌else◌, nat_lt, length, is_some, not, ◌==◌, fold, filter}
use Rattle.std.specs.List.{range_with_len}
use Rattle.model_history.specs.Table.{identity_limit}
use Rattle.model_members.specs.View.{is_member, is_taken, place_of, leader, identities_of}
use Rattle.model_members.specs.DataType.{Replication}
use Rattle.model_members.specs.Message.{Message}
use Rattle.model_members.specs.Node.{Fate, Input}
use Rattle.model_members.specs.Node.Fate.{NoStore, Stored, StoreFailed}
use Rattle.model_members.specs.Step.{is_full}
use Rattle.model_members.specs.World.{Event, Turn, turn_of, output_of, message_at, stores, views_of}
use Rattle.model_members.specs.Script.{KeeperAnswers, Playing, Ask, ScriptStep, Head, Answer, Due, did, told, with_call, next_answer, output_lines, take_turn, given, deliver, deliver_due, due_now, round_of, lose, remove, called, join, restart, input_of, asked_by, last_number, has_met_full, posted, unless_full, deliver_last, exchange, sweep, tick, is_older, install_last, settle, played}
use Rattle.theorem_runs.proofs.Keeping.{if_holds, fold_all}
use Rattle.model_kinds.specs.declared.operation.Op.{Op}

module _ {Kind Shown : Type 0} (D : Replication Kind Op Shown) (answers : KeeperAnswers) where
  abbrev pub Has : Playing Kind Op Shown → Type 0
  Has p = p.answers ≡ answers

  turn_has : (p : Playing Kind Op Shown) (h : Head Op) (event : Fate → Event Op) (turn : Turn Kind Op Shown) → Has p → Has (take_turn D p h event turn)
  turn_has p h event turn has = by_test (nat_lt 0 (length (stores D turn.before turn.input)))
    where
      by_test : (b : Bool) → Has (let fate = if b then (if next_answer p (place_of p.world.view turn.at) then Stored else StoreFailed) else NoStore in did D (if b then with_call p (place_of p.world.view turn.at) else p) (event fate) (output_lines D h (output_of D p.world (event fate))))
      by_test true = has
      by_test false = has

  given_has : (p : Playing Kind Op Shown) (h : Head Op) (event : Fate → Event Op) → Has p → Has (given D p h event)
  given_has p h event has = by_turn (turn_of p.world (event NoStore))
    where
      by_turn : (o : Option (Turn Kind Op Shown)) → Has (elim o [ None ↦ told p h Answer.Gone | Some turn ↦ if is_full D turn.before then told p h Answer.HistoryFull else take_turn D p h event turn ])
      by_turn None = has
      by_turn (Some turn) = if_holds Has (is_full D turn.before) (told p h Answer.HistoryFull) (take_turn D p h event turn) has (turn_has p h event turn has)

  deliver_has : (p : Playing Kind Op Shown) (from to index : ℕ) → Has p → Has (deliver D p from to index)
  deliver_has p from to index has = if_holds Has (is_some (p.world.nodes to)) _ (told p (Head.DeliverHead from to index None) Answer.Gone) (by_message (message_at p.world from to index)) has
    where
      by_message : (o : Option (Message Op)) → Has (elim o [ None ↦ told p (Head.DeliverHead from to index None) Answer.NoSuchMessage | Some message ↦ given D p (Head.DeliverHead from to index (Some message)) (Event.Delivery from to index) ])
      by_message None = has
      by_message (Some message) = given_has p (Head.DeliverHead from to index (Some message)) (Event.Delivery from to index) has

  due_has : (p : Playing Kind Op Shown) (due : Due) → Has p → Has (deliver_due D p due)
  due_has p due has = fold_all Has (λ q index. deliver D q due.from due.to index) (λ q index h. deliver_has q due.from due.to index h) (range_with_len due.first due.count) p has

  round_has : (p : Playing Kind Op Shown) (dues : List Due) → Has p → Has (round_of D p dues)
  round_has p [] has = has
  round_has p (due ∷ dues) has = fold_all Has (deliver_due D) due_has (due ∷ dues) p has

  lose_has : (p : Playing Kind Op Shown) (from to : ℕ) → Has p → Has (lose D p from to)
  lose_has p from to has = if_holds Has (nat_lt (p.world.links from to).next (length (p.world.links from to).messages)) _ _ has has

  remove_has : (p : Playing Kind Op Shown) (i : ℕ) → Has p → Has (remove D p i)
  remove_has p i has = if_holds Has (not (is_member p.world.view i)) _ _ has (if_holds Has (nat_lt 1 (length p.world.view.members)) _ _ has has)

  called_has : (p : Playing Kind Op Shown) (place : ℕ) (e : Event Op) (h : Head Op) (answer failed : Answer Shown) → Has p → Has (called D p place e h answer failed)
  called_has p place e h answer failed has = if_holds Has (next_answer p place) _ _ has has

  join_has : (p : Playing Kind Op Shown) (place : ℕ) → Has p → Has (join D p place)
  join_has p place has =
      if_holds Has (is_taken p.world.view place) _ _ has
      (if_holds Has (nat_lt p.world.view.given identity_limit) _ _ (called_has p place (Event.Joining place) (Head.JoinHead place) (Answer.NewIdentity p.world.view.given (p.world.view.number + 1)) Answer.ClearFailed has) has)

  restart_has : (p : Playing Kind Op Shown) (i : ℕ) → Has p → Has (restart D p i)
  restart_has p i has =
      if_holds Has (not (is_member p.world.view i)) _ _ has
      (if_holds Has (nat_lt p.world.view.given identity_limit) _ _ (called_has p (place_of p.world.view i) (Event.Restart i) (Head.RestartHead i) (Answer.NewIdentity p.world.view.given (p.world.view.number + 1)) Answer.LoadFailed has) has)

  asked_has : (p : Playing Kind Op Shown) (i : ℕ) (ask : Ask Op) (input : Option (Input Op)) → Has p → Has (asked_by D p i ask input)
  asked_has p i ask None has = has
  asked_has p i ask (Some input) has = given_has p (Head.Asked i ask) (Event.InputAt i input) has

  -- SETTLING

  unless_full_has : (f : Playing Kind Op Shown → Playing Kind Op Shown) (p : Playing Kind Op Shown) → Has p → Has (f p) → Has (unless_full D f p)
  unless_full_has f p has next = if_holds Has (has_met_full p) p (f p) has next

  last_has : (before from to : ℕ) (p : Playing Kind Op Shown) → Has p → Has (deliver_last D before from to p)
  last_has before from to p has =
      let delivers = λ (q : Playing Kind Op Shown). deliver D q from to (last_number q from to) in
      if_holds Has (before == posted p) p (unless_full D delivers p) has (unless_full_has delivers p has (deliver_has p from to (last_number p from to) has))

  exchange_has : (lead : ℕ) (p : Playing Kind Op Shown) (i : ℕ) → Has p → Has (exchange D lead p i)
  exchange_has lead p i has =
      let gossips = λ (q : Playing Kind Op Shown). given D q (Head.Asked i (Ask.Gossip lead)) (Event.InputAt i (Input.GossipTo lead)) in
      let first = unless_full D gossips p in
      let second = deliver_last D (posted p) i lead first in
      let third = deliver_last D (posted first) lead i second in
      let has_first = unless_full_has gossips p has (given_has p (Head.Asked i (Ask.Gossip lead)) (Event.InputAt i (Input.GossipTo lead)) has) in
      last_has (posted second) i lead third (last_has (posted first) lead i second (last_has (posted p) i lead first has_first))

  sweep_has : (p : Playing Kind Op Shown) → Has p → Has (sweep D p)
  sweep_has p has = fold_all Has (exchange D (leader p.world.view)) (exchange_has (leader p.world.view)) (filter (λ i. not (i == leader p.world.view)) (identities_of p.world.view)) p has

  tick_has : (p : Playing Kind Op Shown) → Has p → Has (tick D p)
  tick_has p has =
      let lead = leader p.world.view in
      unless_full_has (λ q. given D q (Head.Asked (leader q.world.view) Ask.Tick) (Event.InputAt (leader q.world.view) Input.PruneTick)) p has (given_has p (Head.Asked lead Ask.Tick) (Event.InputAt lead Input.PruneTick) has)

  install_last_has : (p : Playing Kind Op Shown) (i : ℕ) → Has p → Has (install_last D p i)
  install_last_has p i has =
      let view = p.world.view in
      let installs = λ (q : Playing Kind Op Shown). given D q (Head.Asked i (Ask.Install view.number)) (Event.InputAt i (Input.Install view)) in
      if_holds Has (is_older D view (p.world.nodes i)) (unless_full D installs p) p (unless_full_has installs p has (given_has p (Head.Asked i (Ask.Install view.number)) (Event.InputAt i (Input.Install view)) has)) has

  settle_has : (p : Playing Kind Op Shown) → Has p → Has (settle D p)
  settle_has p has =
      let installed = fold (install_last D) (record p { lines = [] }) (identities_of p.world.view) in
      let twice = sweep D (sweep D installed) in
      let pruned = tick D twice in
      let swept = sweep D pruned in
      let has_installed : Has installed = fold_all Has (install_last D) install_last_has (identities_of p.world.view) (record p { lines = [] }) has in
      let has_pruned = tick_has twice (sweep_has (sweep D installed) (sweep_has installed has_installed)) in
      sweep_has (tick D swept) (tick_has swept (sweep_has pruned has_pruned))

  pub step_has : (p : Playing Kind Op Shown) (step : ScriptStep Op) → Has p → Has (played D p step)
  step_has p (ScriptStep.Asks i ask) has = asked_has p i ask (input_of (views_of p.world) ask) has
  step_has p (ScriptStep.Deliver from to None) has = deliver_has p from to (p.world.links from to).next has
  step_has p (ScriptStep.Deliver from to (Some index)) has = deliver_has p from to index has
  step_has p (ScriptStep.Lose from to) has = lose_has p from to has
  step_has p ScriptStep.Round has = round_has p (due_now D p) has
  step_has p (ScriptStep.Timeout at op) has = given_has p (Head.TimeoutHead at op) (Event.InputAt at (Input.Timeout op)) has
  step_has p (ScriptStep.Remove id) has = remove_has p id has
  step_has p (ScriptStep.Join place) has = join_has p place has
  step_has p (ScriptStep.Restart id) has = restart_has p id has
  step_has p ScriptStep.Settle has = settle_has p has
