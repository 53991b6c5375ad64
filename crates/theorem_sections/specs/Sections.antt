-- Client threads: what a section of them may do to a world.
-- A section is a list of moves, and each move is a plain step of a script: the next command of a client, the next message of the section on a link, or the timeout of what a client waits for.
use Rattle.std.specs.Prelude.{◌≡◌, ◌<◌, ℕ, suc, List, [], ◌∷◌, ◌++◌, length, drop, replicate, map, flat_map, Bool, true, false, ◌&&◌, ◌||◌, not, nat_le, ◌==◌, if◌then◌else◌, Option, None, Some, is_some, slice_get, slice_set, find}
use Rattle.std.specs.List.{list_any, list_all}
use Rattle.model_history.specs.Table.{with_at}
use Rattle.model_history.specs.Texts.{Text}
use Rattle.model_members.specs.View.{identities_of}
use Rattle.model_members.specs.DataType.{Replication}
use Rattle.model_members.specs.Message.{Message, Post}
use Rattle.model_members.specs.Message.Message.{WriteAck, WriteNack, ReadAnswer}
use Rattle.model_members.specs.Node.{Node, Level, OpenOperation, Finished, Reply}
use Rattle.model_members.specs.Step.{is_full}
use Rattle.model_members.specs.World.{World, message_at}
use Rattle.model_members.specs.Script as script
use Rattle.model_members.specs.Script.{Ask, Playing, ScriptStep, Told, Answer, played, last_of}

-- CLIENTS AND THEIR COMMANDS

-- what a client asks, and of which member
pub record Command (Op : Type 0) : Type 0 where
  pub at : ℕ
  pub ask : Ask Op

abbrev pub command_to : {Op : Type 0} → ℕ → Ask Op → Command Op
command_to at ask = record { at = at; ask = ask }

-- a command that stands so many times
pub record Repeated (Op : Type 0) : Type 0 where
  pub command : Command Op
  pub times : ℕ

abbrev pub commands_of : {Op : Type 0} → List (Repeated Op) → List (Command Op)
commands_of {Op} commands = flat_map (λ (c : Repeated Op). replicate c.times c.command) commands

module _ {Op : Type 0} where
  -- the plain step that gives the member the same input
  abbrev pub step_of : Command Op → ScriptStep Op
  step_of command = ScriptStep.Asks command.at command.ask

  -- a message that answers an operation of its receiver
  abbrev pub answers : ℕ → Message Op → Bool
  answers op (WriteAck o) = o == op
  answers op (WriteNack o) = o == op
  answers op (ReadAnswer o key entry) = o == op
  answers op _ = false

-- a command that was made: its member, its line, and how many messages stood then on the links from that member
pub record Made (Op Shown : Type 0) : Type 0 where
  pub at : ℕ
  pub line : Told Op Shown
  pub sent : ℕ → ℕ

-- a client: the commands to come, those that were made, and whether the timeout of the last one was called
pub record Client (Op Shown : Type 0) : Type 0 where
  pub to_come : List (Command Op)
  pub made : List (Made Op Shown)
  pub timed_out : Bool

-- a client that has made no command yet
abbrev pub new_client : {Op Shown : Type 0} → List (Command Op) → Client Op Shown
new_client commands = record { to_come = commands; made = []; timed_out = false }

-- a section at work: the script, the clients, and on each link the number of the next message of this section
pub record Section (Kind Op Shown : Type 0) : Type 0 where
  pub playing : Playing Kind Op Shown
  pub clients : List (Client Op Shown)
  pub due : ℕ → ℕ → ℕ

pub data Move : Type 0 where
  NextCommand : (client : ℕ) → Move
  NextMessage : (from to : ℕ) → Move
  ItsTimeout : (client : ℕ) → Move

-- the operation that a pending command waits for
abbrev pub pending_op : {Shown : Type 0} → Answer Shown → Option ℕ
pending_op (Answer.Replied (Reply.Pending op)) = Some op
pending_op _ = None

module _ {Kind Op Shown : Type 0} where
  abbrev pub is_open : ℕ → Option (Node Kind Op Shown) → Bool
  is_open op None = false
  is_open op (Some node) = list_any (λ (o : OpenOperation). o.op == op) node.open_operations

  abbrev pub running : World Kind Op Shown → List ℕ
  running world = identities_of world.view

  abbrev pub world_of : Section Kind Op Shown → World Kind Op Shown
  world_of s = s.playing.world

  -- WHAT WAS HEARD

  -- the messages of the section on a link that are still to be delivered
  abbrev pub unheard : Section Kind Op Shown → ℕ → ℕ → List (Message Op)
  unheard s from to = drop (s.due from to) ((world_of s).links from to).messages

  -- each message that the command sent to a running member was delivered
  abbrev pub are_posts_heard : Section Kind Op Shown → Made Op Shown → Bool
  are_posts_heard s made = list_all (λ (post : Post Op). not (is_some ((world_of s).nodes post.to)) || nat_le (made.sent post.to) (s.due made.at post.to)) made.line.posts

  -- and so was each answer of a running member to an operation
  abbrev pub are_answers_heard : Section Kind Op Shown → ℕ → ℕ → Bool
  are_answers_heard s at op = list_all (λ j. not (list_any (answers op) (unheard s j at))) (running (world_of s))

  -- A SECTION FROM ITS FIRST MOVE ON

  -- messages of before the section are not delivered in it
  abbrev pub opened : Playing Kind Op Shown → List (List (Command Op)) → Section Kind Op Shown
  opened p clients = record { playing = record p { lines = [] }; clients = map new_client clients; due = λ from to. length (p.world.links from to).messages }

  abbrev pub made_by : Command Op → World Kind Op Shown → Told Op Shown → Made Op Shown
  made_by command world line =
      let i = command.at in
      record { at = i; line = line; sent = λ to. length (world.links i to).messages }

  -- the client after its next command
  abbrev pub after_command : Client Op Shown → Command Op → List (Command Op) → Playing Kind Op Shown → Client Op Shown
  after_command client command rest p = record { to_come = rest; made = client.made ++ map (made_by command p.world) p.lines; timed_out = false }

  abbrev pub with_client : Section Kind Op Shown → ℕ → Client Op Shown → Playing Kind Op Shown → Section Kind Op Shown
  with_client s c client p = record s { playing = record p { lines = [] }; clients = slice_set s.clients c client }

module _ {Kind Op Shown : Type 0} (D : Replication Kind Op Shown) where
  abbrev pub node_full : Option (Node Kind Op Shown) → Bool
  node_full None = false
  node_full (Some node) = is_full D node

  -- one runs here, and may still make a step
  abbrev pub has_room : Option (Node Kind Op Shown) → Bool
  has_room None = false
  has_room (Some node) = not (is_full D node)

  abbrev pub some_full : World Kind Op Shown → Bool
  some_full world = list_any (λ i. node_full (world.nodes i)) (running world)

  -- WHEN A CLIENT GOES ON

  -- what a command waits for has ended, or its member is full
  abbrev pub has_ended : World Kind Op Shown → Made Op Shown → Option ℕ → Bool
  has_ended world made None = true
  has_ended world made (Some op) = not (is_open op (world.nodes made.at)) || node_full (world.nodes made.at)

  -- what the last command sent was heard, unless a running member is full, and what it waits for has ended
  abbrev pub goes_on : Section Kind Op Shown → Option (Made Op Shown) → Bool
  goes_on s None = true
  goes_on s (Some made) = (are_posts_heard s made || some_full (world_of s)) && has_ended (world_of s) made (pending_op made.line.answer)

  -- WHEN A TIMEOUT COMES

  -- all posts of the operation and all answers to them were heard, and it is still open; or a running member is full
  abbrev pub gives_up : Section Kind Op Shown → Made Op Shown → Option ℕ → Bool
  gives_up s made None = false
  gives_up s made (Some op) =
      has_room ((world_of s).nodes made.at)
      && ((is_open op ((world_of s).nodes made.at) && are_posts_heard s made && are_answers_heard s made.at op) || some_full (world_of s))

  abbrev pub may_time_out : Section Kind Op Shown → Client Op Shown → Option (Made Op Shown) → Bool
  may_time_out s client None = false
  may_time_out s client (Some made) = not client.timed_out && gives_up s made (pending_op made.line.answer)

  -- WHICH MOVES MAY COME

  abbrev pub may_command : Section Kind Op Shown → Option (Client Op Shown) → Bool
  may_command s None = false
  may_command s (Some client) = nat_le 1 (length client.to_come) && goes_on s (last_of client.made)

  abbrev pub may_call_timeout : Section Kind Op Shown → Option (Client Op Shown) → Bool
  may_call_timeout s None = false
  may_call_timeout s (Some client) = may_time_out s client (last_of client.made)

  -- a message of the section between running members, to one that isn't full
  abbrev pub may_hear : Section Kind Op Shown → ℕ → ℕ → Bool
  may_hear s from to =
      list_any (λ i. i == from) (running (world_of s)) && list_any (λ i. i == to) (running (world_of s))
      && is_some (message_at (world_of s) from to (s.due from to)) && has_room ((world_of s).nodes to)

  abbrev pub may_come : Section Kind Op Shown → Move → Bool
  may_come s (NextCommand c) = may_command s (slice_get s.clients c)
  may_come s (NextMessage from to) = may_hear s from to
  may_come s (ItsTimeout c) = may_call_timeout s (slice_get s.clients c)

  -- every client has made its commands, and may go on
  abbrev pub is_over : Section Kind Op Shown → Bool
  is_over s = list_all (λ (client : Client Op Shown). (length client.to_come == 0) && goes_on s (last_of client.made)) s.clients

  -- WHAT A MOVE DOES

  abbrev pub commanded_by : Section Kind Op Shown → ℕ → Client Op Shown → List (Command Op) → Section Kind Op Shown
  commanded_by s c client [] = s
  commanded_by s c client (command ∷ rest) = let p = played D s.playing (step_of command) in with_client s c (after_command client command rest p) p

  abbrev pub commanded : Section Kind Op Shown → ℕ → Option (Client Op Shown) → Section Kind Op Shown
  commanded s c None = s
  commanded s c (Some client) = commanded_by s c client client.to_come

  abbrev pub heard : Section Kind Op Shown → ℕ → ℕ → Section Kind Op Shown
  heard s from to =
      let index = s.due from to in
      record s { playing = record (played D s.playing (ScriptStep.Deliver from to (Some index))) { lines = [] }; due = with_at s.due from (with_at (s.due from) to (suc index)) }

  abbrev pub timed_out_op : Section Kind Op Shown → ℕ → Client Op Shown → ℕ → Option ℕ → Section Kind Op Shown
  timed_out_op s c client i None = s
  timed_out_op s c client i (Some op) = with_client s c (record client { timed_out = true }) (played D s.playing (ScriptStep.Timeout i op))

  abbrev pub timed_out_made : Section Kind Op Shown → ℕ → Client Op Shown → Option (Made Op Shown) → Section Kind Op Shown
  timed_out_made s c client None = s
  timed_out_made s c client (Some made) = timed_out_op s c client made.at (pending_op made.line.answer)

  abbrev pub timed_out : Section Kind Op Shown → ℕ → Option (Client Op Shown) → Section Kind Op Shown
  timed_out s c None = s
  timed_out s c (Some client) = timed_out_made s c client (last_of client.made)

  abbrev pub moved : Section Kind Op Shown → Move → Section Kind Op Shown
  moved s (NextCommand c) = commanded s c (slice_get s.clients c)
  moved s (NextMessage from to) = heard s from to
  moved s (ItsTimeout c) = timed_out s c (slice_get s.clients c)

  -- all moves, one after another
  abbrev pub moved_all : Section Kind Op Shown → List Move → Section Kind Op Shown
  moved_all s [] = s
  moved_all s (m ∷ ms) = moved_all (moved s m) ms

  abbrev pub may_all_come : Section Kind Op Shown → List Move → Bool
  may_all_come s [] = true
  may_all_come s (m ∷ ms) = may_come s m && may_all_come (moved s m) ms

  -- these moves of these clients lead from the script before the section to the section's end
  pub record IsSection (before : Playing Kind Op Shown) (clients : List (List (Command Op))) (moves : List Move) (end : Section Kind Op Shown) : Type 0 where
    pub lawful : may_all_come (opened before clients) moves ≡ true
    pub leads : end ≡ moved_all (opened before clients) moves
    pub over : is_over end ≡ true

  -- it holds of every section from here: of its clients, its moves and its end
  abbrev pub OfEverySection : Playing Kind Op Shown → (List (List (Command Op)) → List Move → Section Kind Op Shown → Type 0) → Type 0
  OfEverySection before Holds = (clients : List (List (Command Op))) (moves : List Move) (end : Section Kind Op Shown) → IsSection before clients moves end → Holds clients moves end

-- the message due on a link after a section: where none was pending, the next one of the section that was not heard; elsewhere the one of before
pub record IsDueAfter {Kind Op Shown : Type 0} (before : Playing Kind Op Shown) (end : Section Kind Op Shown) (from to : ℕ) : Type 0 where
  pub idle : (before.world.links from to).next ≡ length (before.world.links from to).messages → (end.playing.world.links from to).next ≡ end.due from to
  pub pending : (before.world.links from to).next < length (before.world.links from to).messages → (end.playing.world.links from to).next ≡ (before.world.links from to).next

-- so it is on every link
abbrev pub AreDueAfter : {Kind Op Shown : Type 0} → Playing Kind Op Shown → Section Kind Op Shown → Type 0
AreDueAfter before end = (from to : ℕ) → IsDueAfter before end from to

-- HOW COMMANDS ENDED

pub data Ending (Shown : Type 0) : Type 0 where
  Ended : Finished Shown → Ending Shown
  TimedOut : (op : ℕ) → Ending Shown
  LeftOpen : (op : ℕ) → Ending Shown

-- a line of a report: of a client's command, or of a step of the script itself
pub record Line (Op Shown : Type 0) : Type 0 where
  pub client : Option ℕ
  pub head : script.Head Op
  pub answer : Answer Shown
  pub posts : List (Post Op)
  pub ended : Option (Ending Shown)

module _ {Kind Op Shown : Type 0} where
  -- by what finished the operation; where nothing did, by its timeout, or not at all
  abbrev pub ending_by : ℕ → Option (Node Kind Op Shown) → Option (Finished Shown) → Ending Shown
  ending_by op at_end (Some finished) = Ended finished
  ending_by op at_end None = if is_open op at_end then LeftOpen op else TimedOut op

  abbrev pub finished_at : ℕ → Option (Node Kind Op Shown) → Option (Finished Shown)
  finished_at op None = None
  finished_at op (Some node) = find (λ (f : Finished Shown). f.op == op) node.finished

  abbrev pub ending_of : Option (Node Kind Op Shown) → Option ℕ → Option (Ending Shown)
  ending_of at_end None = None
  ending_of at_end (Some op) = Some (ending_by op at_end (finished_at op at_end))

  abbrev pub client_line : World Kind Op Shown → ℕ → Made Op Shown → Line Op Shown
  client_line world c made =
      record { client = Some c; head = made.line.head; answer = made.line.answer; posts = made.line.posts; ended = ending_of (world.nodes made.at) (pending_op made.line.answer) }

  -- all of client c in its order, then those of the next
  abbrev pub client_lines : World Kind Op Shown → ℕ → List (Client Op Shown) → List (Line Op Shown)
  client_lines world c [] = []
  client_lines world c (client ∷ clients) = map (client_line world c) client.made ++ client_lines world (suc c) clients

  abbrev pub section_lines : Section Kind Op Shown → List (Line Op Shown)
  section_lines s = client_lines (world_of s) 0 s.clients
