-- What clients did, as the histories of the members tell it. Claims of a command speak of the entries up to a stamp, so they stay true of longer histories.
use Rattle.std.specs.Prelude.{◌≡◌, ℕ, ◌+◌, ◌<◌, ◌≤◌, List, [], ◌∷◌, ◌++◌, ◌⊎◌, length, drop, map, filter, flat_map, Bool, true, false, ◌==◌, if◌then◌else◌, ◌||◌, not, nat_le, Option, None, Some, is_some, option_map, slice_get, ⊤}
use Rattle.std.specs.List.{list_any, list_all}
use Rattle.model_members.specs.View.{View, place_of}
use Rattle.model_members.specs.DataType.{Replication}
use Rattle.model_members.specs.Message.{Post}
use Rattle.model_members.specs.Node.{KeyDecl, Node, Input, Fate, Reply}
use Rattle.model_members.specs.World.{World, views_of, run, IsRun}
use Rattle.model_members.specs.Script.{Playing, input_of, Answer, Head, answers_between}
use Rattle.theorem_sections.specs.Sections.{Command, Section, Move, Line, answers, node_full, is_open, running, pending_op, ending_of, IsSection, section_lines}
use Rattle.theorem_sections.specs.Histories.{Entry, Placed, Passed, posted_to, taken_from, replayed, AreHistories, IsRunOrder, events_of, sent_so_far}

-- one command of a client: its line, the indexes of its entry and of its timeout's in the history of its member, and the client's stamp before and after
pub record ClientStep (Op Shown : Type 0) : Type 0 where
  pub line : Line Op Shown
  pub index : Option ℕ
  pub timeout : Option ℕ
  pub since : ℕ
  pub upto : ℕ

module _ {Op : Type 0} where
  -- the input that a command gives, where these are the views
  abbrev pub IsInputOf : List View → Command Op → Input Op → Type 0
  IsInputOf views command input = input_of views command.ask ≡ Some input

  abbrev pub head_of : Command Op → Head Op
  head_of command = Head.Asked command.at command.ask

  abbrev pub IsTake : Input Op → Type 0
  IsTake (Input.Take from message) = ⊤
  IsTake _ = ⊥

  -- it installs a view that the list lacks
  abbrev pub LacksView : List View → Command Op → Type 0
  LacksView views command = input_of views command.ask ≡ None

module _ {Op Shown : Type 0} where
  -- the entries up to a stamp, which begin a history whose stamps rise
  abbrev pub until : ℕ → List (Entry Op Shown) → List (Entry Op Shown)
  until stamp entries = filter (λ (e : Entry Op Shown). nat_le e.stamp stamp) entries

module _ {Kind Op Shown : Type 0} (D : Replication Kind Op Shown) (world : World Kind Op Shown) (histories : ℕ → List (Entry Op Shown)) where
  -- a member after its entries up to a stamp
  abbrev pub member_until : ℕ → ℕ → Option (Node Kind Op Shown)
  member_until i stamp = option_map (λ before. replayed D before (until stamp (histories i))) (world.nodes i)

  abbrev pub some_full_until : ℕ → Bool
  some_full_until stamp = list_any (λ i. node_full D (member_until i stamp)) (running world)

  -- j has taken, up to a stamp, all that i posted to it up to another
  abbrev pub has_taken : (i j posted stamp : ℕ) → Bool
  has_taken i j posted stamp = nat_le (length (posted_to j (until posted (histories i)))) (length (taken_from i (until stamp (histories j))))

  -- all that an entry of i posted to running members was taken up to a stamp
  abbrev pub are_posts_taken : ℕ → Entry Op Shown → ℕ → Bool
  are_posts_taken i e stamp = list_all (λ (post : Post Op). not (is_some (world.nodes post.to)) || has_taken i post.to e.stamp stamp) e.output.posts

  -- and all answers to its operation that were posted up to then
  abbrev pub are_answers_taken : ℕ → ℕ → ℕ → Bool
  are_answers_taken i op stamp =
      list_all (λ j. not (list_any (λ (p : Passed Op). answers op p.message) (drop (length (taken_from j (until stamp (histories i)))) (posted_to i (until stamp (histories j)))))) (running world)

  pub record IsEntryOf (client i index : ℕ) (input : Input Op) (e : Entry Op Shown) : Type 0 where
    pub stands : slice_get (histories i) index ≡ Some e
    pub of : e.client ≡ client
    pub asks : e.input ≡ input

  -- WHAT A COMMAND WAS ANSWERED

  -- its operation has ended up to a stamp, or its member is full
  abbrev pub has_ended_until : ℕ → ℕ → Option ℕ → Bool
  has_ended_until i stamp None = true
  has_ended_until i stamp (Some op) = not (is_open op (member_until i stamp)) || node_full D (member_until i stamp)

  pub record IsReplied (client : ℕ) (command : Command Op) (step : ClientStep Op Shown) (reply : Reply Shown) : Type 0 where
    pub index : ℕ
    pub entry : Entry Op Shown
    pub input : Input Op
    pub at : step.index ≡ Some index
    pub runs : is_some (world.nodes (command.at)) ≡ true
    pub given : IsInputOf (views_of world) command input
    pub made : IsEntryOf client (command.at) index input entry
    pub replied : entry.output.reply ≡ reply
    pub posts : step.line.posts ≡ entry.output.posts
    pub later : step.since < entry.stamp
    pub before : entry.stamp ≤ step.upto
    pub heard : (are_posts_taken (command.at) entry step.upto || some_full_until step.upto) ≡ true
    pub ended : has_ended_until (command.at) step.upto (pending_op step.line.answer) ≡ true

  abbrev pub IsAnsweredBy : ℕ → Command Op → ClientStep Op Shown → Answer Shown → Type 0
  IsAnsweredBy client command step (Answer.Replied reply) = IsReplied client command step reply
  IsAnsweredBy client command step Answer.Gone = (step.index ≡ None) × (step.line.posts ≡ []) × (world.nodes (command.at) ≡ None)
  IsAnsweredBy client command step Answer.NoSuchView = (step.index ≡ None) × (step.line.posts ≡ []) × (is_some (world.nodes (command.at)) ≡ true) × LacksView (views_of world) command
  IsAnsweredBy client command step Answer.HistoryFull =
      (step.index ≡ None) × (step.line.posts ≡ []) × ((input : Input Op) × IsInputOf (views_of world) command input) × (node_full D (member_until (command.at) step.upto) ≡ true)
  IsAnsweredBy client command step _ = ⊥

  -- WHEN A TIMEOUT WAS CALLED

  -- up to a stamp all posts of the operation and all answers to them were taken, and the timeout found it open; or some member is full
  abbrev pub HasGivenUp : ℕ → ℕ → Entry Op Shown → Entry Op Shown → ℕ → Type 0
  HasGivenUp i op entry timeout seen =
      ((timeout.output.reply ≡ Reply.TimedOut) × (are_posts_taken i entry seen ≡ true) × (are_answers_taken i op seen ≡ true)) ⊎ (some_full_until seen ≡ true)

  -- what the client had seen was below its stamp
  pub record IsTimedOut (client i op : ℕ) (step : ClientStep Op Shown) (entry : Entry Op Shown) (index : ℕ) : Type 0 where
    pub timeout : Entry Op Shown
    pub seen : ℕ
    pub made : IsEntryOf client i index (Input.Timeout op) timeout
    pub later : (entry.stamp ≤ seen) × (seen < timeout.stamp)
    pub before : timeout.stamp ≤ step.upto
    pub cause : HasGivenUp i op entry timeout seen

  -- a timeout stands only for a pending command
  abbrev pub TimesOut : ℕ → ℕ → ClientStep Op Shown → Option ℕ → Option ℕ → Type 0
  TimesOut client i step op None = ⊤
  TimesOut client i step None (Some index) = ⊥
  TimesOut client i step (Some op) (Some index) = (k : ℕ) × (entry : Entry Op Shown) × (step.index ≡ Some k) × (slice_get (histories i) k ≡ Some entry) × IsTimedOut client i op step entry index

  -- PATHS

  pub record IsStepOf (client : ℕ) (command : Command Op) (step : ClientStep Op Shown) : Type 0 where
    pub told : (step.line.client ≡ Some client) × (step.line.head ≡ head_of command)
    pub answered : IsAnsweredBy client command step step.line.answer
    pub timed_out : TimesOut client (command.at) step (pending_op step.line.answer) step.timeout
    pub ends : step.line.ended ≡ ending_of (option_map (λ before. replayed D before (histories (command.at))) (world.nodes (command.at))) (pending_op step.line.answer)
    pub forward : step.since ≤ step.upto

  -- a client's commands one after another, from a stamp on
  abbrev pub IsPath : ℕ → ℕ → List (Command Op) → List (ClientStep Op Shown) → Type 0
  IsPath client stamp [] [] = ⊤
  IsPath client stamp (command ∷ commands) (step ∷ steps) = (stamp ≤ step.since) × IsStepOf client command step × IsPath client step.upto commands steps
  IsPath client stamp _ _ = ⊥

  -- a step whose entry or timeout stands here
  pub record HasEntryAt (clients : List (List (Command Op))) (paths : List (List (ClientStep Op Shown))) (i k : ℕ) : Type 0 where
    pub client : ℕ
    pub number : ℕ
    pub commands : List (Command Op)
    pub steps : List (ClientStep Op Shown)
    pub command : Command Op
    pub step : ClientStep Op Shown
    pub of : (slice_get clients client ≡ Some commands) × (slice_get paths client ≡ Some steps)
    pub stands : (slice_get commands number ≡ Some command) × (slice_get steps number ≡ Some step)
    pub at : (command.at ≡ i) × ((step.index ≡ Some k) ⊎ (step.timeout ≡ Some k))

  -- each client has a path, and each entry that is no take is one of its commands or timeouts
  pub record ArePaths (clients : List (List (Command Op))) (paths : List (List (ClientStep Op Shown))) : Type 0 where
    pub as_many : length paths ≡ length clients
    pub each : (client : ℕ) (commands : List (Command Op)) (steps : List (ClientStep Op Shown)) → slice_get clients client ≡ Some commands → slice_get paths client ≡ Some steps → IsPath client 0 commands steps
    pub whole : (i k : ℕ) (e : Entry Op Shown) → slice_get (histories i) k ≡ Some e → IsTake e.input ⊎ HasEntryAt clients paths i k

-- what a keeper answers where the store does this
abbrev pub answer_of : Fate → List Bool
answer_of Fate.NoStore = []
answer_of Fate.Stored = true ∷ []
answer_of Fate.StoreFailed = false ∷ []

-- what the keeper of a place answers in these entries
abbrev pub answered_in : {Op Shown : Type 0} → View → List (Placed Op Shown) → ℕ → List Bool
answered_in view [] place = []
answered_in view (x ∷ placed) place = (if place_of view x.at == place then answer_of x.entry.fate else []) ++ answered_in view placed place

module _ {Kind Op Shown : Type 0} (before : Playing Kind Op Shown) (placed : List (Placed Op Shown)) where
  -- how many calls it has answered after them
  abbrev pub calls_after : ℕ → ℕ
  calls_after place = before.calls place + length (answered_in before.world.view placed place)

  -- the keepers' answers between the two counts are those of the entries, in run order
  abbrev pub HaveAnswered : Type 0
  HaveAnswered = (place : ℕ) → answers_between before.answers place (before.calls place) (calls_after place) ≡ answered_in before.world.view placed place

module _ {Kind Op Shown : Type 0} (D : Replication Kind Op Shown) where
  -- the section that paths are of: it has their lines and the entries' events, and calls the keepers as the entries tell
  pub record HasSection (before : Playing Kind Op Shown) (placed : List (Placed Op Shown)) (clients : List (List (Command Op))) (paths : List (List (ClientStep Op Shown))) : Type 0 where
    pub moves : List Move
    pub end : Section Kind Op Shown
    pub section : IsSection D before clients moves end
    pub lines : section_lines end ≡ flat_map (map (λ (step : ClientStep Op Shown). step.line)) paths
    pub answers : end.playing.answers ≡ before.answers
    pub calls : (place : ℕ) → end.playing.calls place ≡ calls_after before placed place
    pub events : end.playing.events ≡ before.events ++ events_of (sent_so_far before.world) placed
    pub world : end.playing.world ≡ run D before.world (events_of (sent_so_far before.world) placed)

  abbrev pub PathsHaveSections : Type 0
  PathsHaveSections =
      (members : ℕ) (keys : List (KeyDecl Kind)) (before : Playing Kind Op Shown) (histories : ℕ → List (Entry Op Shown)) (placed : List (Placed Op Shown)) (clients : List (List (Command Op))) (paths : List (List (ClientStep Op Shown)))
      → IsRun D members keys before.events before.world → AreHistories D before.world histories → IsRunOrder before.world.view histories placed
      → ArePaths D before.world histories clients paths → HaveAnswered before placed → HasSection before placed clients paths
