-- The steps of a script, and the run and the answers that they make.
use Rattle.std.specs.Prelude.{◌<◌, ℕ, suc, ◌+◌, ◌-◌, List, [], ◌∷◌, ◌++◌, length, map, filter, fold, sum_by, Bool, true, false, not, nat_lt, ◌==◌, if◌then◌else◌, Option, None, Some, is_some, option_map, unwrap_or, slice_get, flat_map}
use Rattle.std.specs.List.{list_any, range_with_len}
use Rattle.model_history.specs.Table.{identity_limit, with_at}
use Rattle.model_history.specs.Texts.{Text}
use Rattle.model_members.specs.View.{View, identities_of, is_member, is_taken, place_of, leader}
use Rattle.model_members.specs.Entry.{Outcome}
use Rattle.model_members.specs.DataType.{Replication}
use Rattle.model_members.specs.Message.{Message, Post}
use Rattle.model_members.specs.Node.{KeyDecl, Node, Level, Input, Fate, KeyOutcome, Output, Reply, Finished}
use Rattle.model_members.specs.Node.Fate.{NoStore, Stored, StoreFailed}
use Rattle.model_members.specs.Step.{is_full}
use Rattle.model_members.specs.World.{World, Event, Link, Turn, start, views_of, stores, message_at, turn_of, output_of, happens}
use Rattle.model_members.specs.World.Event.{InputAt, Delivery, Loss, Removal, Joining}

-- what a script asks of a member
pub data Ask (Op : Type 0) : Type 0 where
  Update : (key : Text) (op : Op) (level : Level) → Ask Op
  Get : (key : Text) (level : Level) → Ask Op
  Flush : Ask Op
  Gossip : (to : ℕ) → Ask Op
  Tick : Ask Op
  Install : (view : ℕ) → Ask Op

pub data ScriptStep (Op : Type 0) : Type 0 where
  Asks : (at : ℕ) (ask : Ask Op) → ScriptStep Op
  Deliver : (from to : ℕ) (index : Option ℕ) → ScriptStep Op
  Lose : (from to : ℕ) → ScriptStep Op
  Round : ScriptStep Op
  Timeout : (at op : ℕ) → ScriptStep Op
  Remove : (identity : ℕ) → ScriptStep Op
  Join : (place : ℕ) → ScriptStep Op
  Restart : (identity : ℕ) → ScriptStep Op
  Settle : ScriptStep Op

-- places are those of a script
abbrev pub IsStep : {Op : Type 0} → ScriptStep Op → Type 0
IsStep (Join place) = place < 8
IsStep _ = Unit {0}

-- the input that it is, among these views. There is none where it names none of them
abbrev pub input_of : {Op : Type 0} → List View → Ask Op → Option (Input Op)
input_of views (Update key op level) = Some (Input.Update key op level)
input_of views (Get key level) = Some (Input.Get key level)
input_of views Flush = Some Input.Flush
input_of views (Gossip to) = Some (Input.GossipTo to)
input_of views Tick = Some Input.PruneTick
input_of views (Install number) = option_map Input.Install (slice_get views number)

-- what a line of the report is about
pub data Head (Op : Type 0) : Type 0 where
  Asked : (at : ℕ) (ask : Ask Op) → Head Op
  DeliverHead : (from to index : ℕ) (message : Option (Message Op)) → Head Op
  RoundHead : Head Op
  LoseHead : (from to index : ℕ) → Head Op
  TimeoutHead : (at op : ℕ) → Head Op
  RemoveHead : (identity : ℕ) → Head Op
  JoinHead : (place : ℕ) → Head Op
  RestartHead : (identity : ℕ) → Head Op
  SettleHead : Head Op

pub data Answer (Shown : Type 0) : Type 0 where
  Replied : Reply Shown → Answer Shown
  Gone HistoryFull NoSuchView NoSuchMessage Lost Nothing LastMember PlaceTaken TooManyIdentities ClearFailed LoadFailed Stopped : Answer Shown
  NewView : (number : ℕ) → Answer Shown
  NewIdentity : (identity view : ℕ) → Answer Shown
  Settled : (messages blocked : ℕ) → Answer Shown

-- one line of a step's report
pub record Told (Op Shown : Type 0) : Type 0 where
  pub head : Head Op
  pub answer : Answer Shown
  pub posts : List (Post Op)
  pub ended : Option (Finished Shown)

-- for each place what the calls of its keeper answer, by the call's number: true is Ok. Call 0 is the clear at the start
abbrev pub KeeperAnswers : Type 0
KeeperAnswers = ℕ → ℕ → Bool

-- no call fails
abbrev pub none_fails : KeeperAnswers
none_fails place call = true

-- what the calls of a place answer, from one number on and up to another
abbrev pub answers_between : KeeperAnswers → ℕ → ℕ → ℕ → List Bool
answers_between answers place from until = map (answers place) (range_with_len from (until - from))

-- a script at work: the world, what the keepers answer, how many calls each has answered, the events so far, and the lines of the current step
pub record Playing (Kind Op Shown : Type 0) : Type 0 where
  pub world : World Kind Op Shown
  pub answers : KeeperAnswers
  pub calls : ℕ → ℕ
  pub events : List (Event Op)
  pub lines : List (Told Op Shown)

abbrev pub is_full_answer : {Shown : Type 0} → Answer Shown → Bool
is_full_answer HistoryFull = true
is_full_answer _ = false

abbrev pub is_blocked : Outcome → Bool
is_blocked (Outcome.Blocked shares) = true
is_blocked _ = false

-- how many outcomes of an answer were Blocked
abbrev pub blocked_in_answer : {Shown : Type 0} → Answer Shown → ℕ
blocked_in_answer (Replied (Reply.Ticked outcomes)) = length (filter (λ (o : KeyOutcome). is_blocked o.outcome) outcomes)
blocked_in_answer (Replied (Reply.TickedNotStored outcomes)) = length (filter (λ (o : KeyOutcome). is_blocked o.outcome) outcomes)
blocked_in_answer _ = 0

abbrev pub last_of : {X : Type 0} → List X → Option X
last_of [] = None
last_of (t ∷ []) = Some t
last_of (t ∷ u ∷ ts) = last_of (u ∷ ts)

module _ {Kind Op Shown : Type 0} where
  -- a script before its first step: members 0 and up. Each keeper has answered its first call, the clear at the start
  abbrev pub opening : KeeperAnswers → ℕ → List (KeyDecl Kind) → Playing Kind Op Shown
  opening answers members keys = record { world = start members keys; answers = answers; calls = λ place. 1; events = []; lines = [] }

  abbrev pub told : Playing Kind Op Shown → Head Op → Answer Shown → Playing Kind Op Shown
  told p head answer = record p { lines = p.lines ++ record { head = head; answer = answer; posts = []; ended = None } ∷ [] }

  -- the answer of a place's keeper to its next call
  abbrev pub next_answer : Playing Kind Op Shown → ℕ → Bool
  next_answer p place = p.answers place (p.calls place)

  abbrev pub with_call : Playing Kind Op Shown → ℕ → Playing Kind Op Shown
  with_call p place = record p { calls = with_at p.calls place (suc (p.calls place)) }

  abbrev pub last_number : Playing Kind Op Shown → ℕ → ℕ → ℕ
  last_number p from to = length (p.world.links from to).messages - 1

  abbrev pub has_met_full : Playing Kind Op Shown → Bool
  has_met_full p = list_any (λ (t : Told Op Shown). is_full_answer t.answer) p.lines

  abbrev pub last_answer_blocked : Playing Kind Op Shown → ℕ
  last_answer_blocked p = unwrap_or (option_map (λ (t : Told Op Shown). blocked_in_answer t.answer) (last_of p.lines)) 0

  abbrev pub posted : Playing Kind Op Shown → ℕ
  posted p = sum_by (λ (t : Told Op Shown). length t.posts) p.lines

-- messages due on a link when a round begins
pub record Due : Type 0 where
  pub from : ℕ
  pub to : ℕ
  pub first : ℕ
  pub count : ℕ

abbrev pub due_on : {Op : Type 0} → ℕ → ℕ → Link Op → List Due
due_on from to link =
    if nat_lt link.next (length link.messages) then record { from = from; to = to; first = link.next; count = length link.messages - link.next } ∷ [] else []

module _ {Kind Op Shown : Type 0} (D : Replication Kind Op Shown) where
  -- an event, and what it told
  abbrev pub did : Playing Kind Op Shown → Event Op → List (Told Op Shown) → Playing Kind Op Shown
  did p event lines = record p { world = happens D p.world event; events = p.events ++ event ∷ []; lines = p.lines ++ lines }

  -- an event of no member's, and its line
  abbrev pub did_plainly : Playing Kind Op Shown → Event Op → Head Op → Answer Shown → Playing Kind Op Shown
  did_plainly p event head answer = did p event (record { head = head; answer = answer; posts = []; ended = None } ∷ [])

  -- the line of what an event puts out
  abbrev pub output_lines : Head Op → Option (Output Op Shown) → List (Told Op Shown)
  output_lines head None = []
  output_lines head (Some output) = record { head = head; answer = Replied output.reply; posts = output.posts; ended = output.ended } ∷ []

  -- a member takes an input. Its keeper is called where an entry of a durable key changes
  abbrev pub take_turn : Playing Kind Op Shown → Head Op → (Fate → Event Op) → Turn Kind Op Shown → Playing Kind Op Shown
  take_turn p head event turn =
      let place = place_of p.world.view turn.at in
      let stored = nat_lt 0 (length (stores D turn.before turn.input)) in
      let fate = if stored then (if next_answer p place then Stored else StoreFailed) else NoStore in
      did (if stored then with_call p place else p) (event fate) (output_lines head (output_of D p.world (event fate)))

  -- an input is given to a member, unless it doesn't run or is full
  abbrev pub given : Playing Kind Op Shown → Head Op → (Fate → Event Op) → Playing Kind Op Shown
  given p head event = elim (turn_of p.world (event NoStore)) [
    | None ↦ told p head Gone
    | Some turn ↦ if is_full D turn.before then told p head HistoryFull else take_turn p head event turn
  ]

  abbrev pub deliver : Playing Kind Op Shown → ℕ → ℕ → ℕ → Playing Kind Op Shown
  deliver p from to index =
      if is_some (p.world.nodes to)
      then elim (message_at p.world from to index) [
        | None ↦ told p (DeliverHead from to index None) NoSuchMessage
        | Some message ↦ given p (DeliverHead from to index (Some message)) (Delivery from to index)
      ]
      else told p (DeliverHead from to index None) Gone

  -- the messages due on a link, one after another
  abbrev pub deliver_due : Playing Kind Op Shown → Due → Playing Kind Op Shown
  deliver_due p due = fold (λ q index. deliver q due.from due.to index) p (range_with_len due.first due.count)

  abbrev pub due_now : Playing Kind Op Shown → List Due
  due_now p = flat_map (λ from. flat_map (λ to. due_on from to (p.world.links from to)) (identities_of p.world.view)) (range_with_len 0 p.world.view.given)

  abbrev pub round_of : Playing Kind Op Shown → List Due → Playing Kind Op Shown
  round_of p [] = told p RoundHead Nothing
  round_of p (due ∷ dues) = fold deliver_due p (due ∷ dues)

  abbrev pub lose : Playing Kind Op Shown → ℕ → ℕ → Playing Kind Op Shown
  lose p from to =
      let link = p.world.links from to in
      if nat_lt link.next (length link.messages) then did_plainly p (Loss from to) (LoseHead from to link.next) Lost
      else told p (LoseHead from to link.next) NoSuchMessage

  abbrev pub remove : Playing Kind Op Shown → ℕ → Playing Kind Op Shown
  remove p i =
      let view = p.world.view in
      if not (is_member view i) then told p (RemoveHead i) Gone
      else (if nat_lt 1 (length view.members) then did_plainly p (Removal i) (RemoveHead i) (NewView (view.number + 1)) else told p (RemoveHead i) LastMember)

  -- a keeper is called before an event
  abbrev pub called : Playing Kind Op Shown → ℕ → Event Op → Head Op → Answer Shown → Answer Shown → Playing Kind Op Shown
  called p place event head answer failed =
      let after = with_call p place in
      if next_answer p place then did_plainly after event head answer else told after head failed

  abbrev pub join : Playing Kind Op Shown → ℕ → Playing Kind Op Shown
  join p place =
      let view = p.world.view in
      if is_taken view place then told p (JoinHead place) PlaceTaken
      else (if nat_lt view.given identity_limit then called p place (Joining place) (JoinHead place) (NewIdentity view.given (view.number + 1)) ClearFailed else told p (JoinHead place) TooManyIdentities)

  abbrev pub restart : Playing Kind Op Shown → ℕ → Playing Kind Op Shown
  restart p i =
      let view = p.world.view in
      if not (is_member view i) then told p (RestartHead i) Gone
      else (if nat_lt view.given identity_limit then called p (place_of view i) (Event.Restart i) (RestartHead i) (NewIdentity view.given (view.number + 1)) LoadFailed else told p (RestartHead i) TooManyIdentities)

  -- a member is asked, where the question is this input or names no view of the world
  abbrev pub asked_by : Playing Kind Op Shown → ℕ → Ask Op → Option (Input Op) → Playing Kind Op Shown
  asked_by p i ask None = told p (Asked i ask) (if is_some (p.world.nodes i) then NoSuchView else Gone)
  asked_by p i ask (Some input) = given p (Asked i ask) (InputAt i input)

  abbrev pub asked : Playing Kind Op Shown → ℕ → Ask Op → Playing Kind Op Shown
  asked p i ask = asked_by p i ask (input_of (views_of p.world) ask)

  -- SETTLING

  abbrev pub unless_full : (Playing Kind Op Shown → Playing Kind Op Shown) → Playing Kind Op Shown → Playing Kind Op Shown
  unless_full f p = if has_met_full p then p else f p

  -- the message just sent on a link is delivered, if one was
  abbrev pub deliver_last : ℕ → ℕ → ℕ → Playing Kind Op Shown → Playing Kind Op Shown
  deliver_last before from to p = if before == posted p then p else unless_full (λ q. deliver q from to (last_number q from to)) p

  -- a member gossips to the leader, and the messages of this exchange are delivered as they are sent, at most three
  abbrev pub exchange : ℕ → Playing Kind Op Shown → ℕ → Playing Kind Op Shown
  exchange lead p i =
      let first = unless_full (λ q. given q (Asked i (Gossip lead)) (InputAt i (Input.GossipTo lead))) p in
      let second = deliver_last (posted p) i lead first in
      let third = deliver_last (posted first) lead i second in
      deliver_last (posted second) i lead third

  abbrev pub sweep : Playing Kind Op Shown → Playing Kind Op Shown
  sweep p =
      let view = p.world.view in
      fold (exchange (leader view)) p (filter (λ i. not (i == leader view)) (identities_of view))

  abbrev pub tick : Playing Kind Op Shown → Playing Kind Op Shown
  tick p = unless_full (λ q. given q (Asked (leader q.world.view) Tick) (InputAt (leader q.world.view) Input.PruneTick)) p

  abbrev pub is_older : View → Option (Node Kind Op Shown) → Bool
  is_older view None = false
  is_older view (Some node) = nat_lt node.view.number view.number

  abbrev pub install_last : Playing Kind Op Shown → ℕ → Playing Kind Op Shown
  install_last p i =
      let view = p.world.view in
      if is_older view (p.world.nodes i) then unless_full (λ q. given q (Asked i (Install view.number)) (InputAt i (Input.Install view))) p else p

  abbrev pub settle_line : Playing Kind Op Shown → ℕ → Answer Shown
  settle_line p blocked = if has_met_full p then Stopped else Settled (posted p) blocked

  abbrev pub settle : Playing Kind Op Shown → Playing Kind Op Shown
  settle p =
      let installed = fold install_last (record p { lines = [] }) (identities_of p.world.view) in
      let ticked = tick (sweep (tick (sweep (sweep installed)))) in
      let end = sweep ticked in
      told (record end { lines = p.lines }) SettleHead (settle_line end (last_answer_blocked ticked))

  -- ONE STEP OF A SCRIPT, AND ALL

  abbrev pub played : Playing Kind Op Shown → ScriptStep Op → Playing Kind Op Shown
  played p (Asks i ask) = asked p i ask
  played p (Deliver from to None) = deliver p from to (p.world.links from to).next
  played p (Deliver from to (Some index)) = deliver p from to index
  played p (Lose from to) = lose p from to
  played p Round = round_of p (due_now p)
  played p (Timeout i op) = given p (TimeoutHead i op) (InputAt i (Input.Timeout op))
  played p (Remove i) = remove p i
  played p (Join place) = join p place
  played p (Restart i) = restart p i
  played p Settle = settle p

  -- the world and the keepers after all steps, with no lines
  abbrev pub played_all : Playing Kind Op Shown → List (ScriptStep Op) → Playing Kind Op Shown
  played_all p [] = p
  played_all p (s ∷ ss) = played_all (record (played p s) { lines = [] }) ss

  -- the lines of each step
  abbrev pub lines_of : Playing Kind Op Shown → List (ScriptStep Op) → List (List (Told Op Shown))
  lines_of p [] = []
  lines_of p (s ∷ ss) = let q = played p s in q.lines ∷ lines_of (record q { lines = [] }) ss
