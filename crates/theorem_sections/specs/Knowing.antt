-- What clients did, by what they knew: of each history the first entries, so many as the client had come to see. Longer histories leave these claims true.
use Rattle.std.specs.Prelude.{◌≡◌, ◌≢◌, ℕ, suc, ◌<◌, ◌≤◌, ◌==◌, List, [], ◌∷◌, ◌⊎◌, length, take, map, true, false, Option, None, Some, is_some, option_map, slice_get, IsTrue, ⊤}
use Rattle.std.specs.List.{list_any}
use Rattle.model_members.specs.View.{is_member}
use Rattle.model_members.specs.DataType.{Replication}
use Rattle.model_members.specs.Message.{Post}
use Rattle.model_members.specs.Node.{KeyDecl, Node, Input, Reply}
use Rattle.model_members.specs.World.{World, Event, views_of, IsRun}
use Rattle.model_members.specs.Script.{Answer}
use Rattle.theorem_sections.specs.Sections.{Command, Ending, node_full, is_open, pending_op, finished_at, ending_of}
use Rattle.theorem_sections.specs.Histories.{Entry, posted_to, taken_from, replayed, AreHistories}
use Rattle.theorem_sections.specs.Paths.{ClientStep, IsInputOf, head_of, LacksView, IsEntryOf, IsTake, HasEntryAt, ArePaths}

-- one command of a client, and how many entries of each history the client knew when it was over
pub record KnownStep (Op Shown : Type 0) : Type 0 where
  pub step : ClientStep Op Shown
  pub known : ℕ → ℕ

-- the steps of all clients
abbrev pub steps_of : {Op Shown : Type 0} → List (List (KnownStep Op Shown)) → List (List (ClientStep Op Shown))
steps_of {Op} {Shown} paths = map (map (λ (k : KnownStep Op Shown). k.step)) paths

module _ {Kind Op Shown : Type 0} (D : Replication Kind Op Shown) (world : World Kind Op Shown) (histories : ℕ → List (Entry Op Shown)) where
  -- WHAT IS KNOWN

  -- no entry that is known has a stamp above this
  abbrev pub IsKnownBy : (ℕ → ℕ) → ℕ → Type 0
  IsKnownBy known stamp = (i k : ℕ) (e : Entry Op Shown) → slice_get (histories i) k ≡ Some e → k < known i → e.stamp ≤ stamp

  -- a member after its first entries, so many
  abbrev pub member_after : (i count : ℕ) → Option (Node Kind Op Shown)
  member_after i count = option_map (λ before. replayed D before (take count (histories i))) (world.nodes i)

  -- a member is known to be full
  abbrev pub IsKnownFull : ℕ → (ℕ → ℕ) → Type 0
  IsKnownFull i known = (count : ℕ) × (count ≤ known i) × (node_full D (member_after i count) ≡ true)

  abbrev pub KnowsFull : (ℕ → ℕ) → Type 0
  KnowsFull known = (i : ℕ) × IsKnownFull i known

  -- whatever the first entries of i posted to j, so many, j is known to have taken
  abbrev pub KnowsTaken : (i count j : ℕ) → (ℕ → ℕ) → Type 0
  KnowsTaken i count j known = length (posted_to j (take count (histories i))) ≤ length (taken_from i (take (known j) (histories j)))

  -- so has each other member to which an entry posts, up to that entry
  abbrev pub KnowsHeard : (i index : ℕ) → Entry Op Shown → (ℕ → ℕ) → Type 0
  KnowsHeard i index e known = (j : ℕ) → j ≢ i → IsTrue (is_member world.view j) → IsTrue (list_any (λ (post : Post Op). post.to == j) e.output.posts) → KnowsTaken i (suc index) j known

  -- whatever each other member was known to have posted to i, i is later known to have taken
  abbrev pub KnowsAnswered : (i : ℕ) → (ℕ → ℕ) → (ℕ → ℕ) → Type 0
  KnowsAnswered i known later = (j : ℕ) → j ≢ i → IsTrue (is_member world.view j) → KnowsTaken j (known j) i later

  -- an operation is known to be closed, or its member to be full
  abbrev pub KnowsEnded : ℕ → (ℕ → ℕ) → Option ℕ → Type 0
  KnowsEnded i known None = ⊤
  KnowsEnded i known (Some op) = (is_open op (member_after i (known i)) ≡ false) ⊎ IsKnownFull i known

  -- WHAT A COMMAND WAS ANSWERED

  -- its entry is later than the client's stamp before it, and its posts were heard; what it waits for has ended, if no timeout was called
  pub record IsKnownReply (client : ℕ) (command : Command Op) (k : KnownStep Op Shown) (reply : Reply Shown) : Type 0 where
    pub index : ℕ
    pub entry : Entry Op Shown
    pub input : Input Op
    pub at : k.step.index ≡ Some index
    pub runs : is_some (world.nodes command.at) ≡ true
    pub given : IsInputOf (views_of world) command input
    pub made : IsEntryOf D world histories client command.at index input entry
    pub replied : entry.output.reply ≡ reply
    pub posts : k.step.line.posts ≡ entry.output.posts
    pub later : k.step.since < entry.stamp
    pub known : index < k.known command.at
    pub heard : KnowsHeard command.at index entry k.known ⊎ KnowsFull k.known
    pub ended : k.step.timeout ≡ None → KnowsEnded command.at k.known (pending_op k.step.line.answer)

  abbrev pub IsKnownAnswer : ℕ → Command Op → KnownStep Op Shown → Answer Shown → Type 0
  IsKnownAnswer client command k (Answer.Replied reply) = IsKnownReply client command k reply
  IsKnownAnswer client command k Answer.Gone = (k.step.index ≡ None) × (k.step.line.posts ≡ []) × (world.nodes command.at ≡ None)
  IsKnownAnswer client command k Answer.NoSuchView = (k.step.index ≡ None) × (k.step.line.posts ≡ []) × (is_some (world.nodes command.at) ≡ true) × LacksView (views_of world) command
  IsKnownAnswer client command k Answer.HistoryFull =
      (k.step.index ≡ None) × (k.step.line.posts ≡ []) × ((input : Input Op) × IsInputOf (views_of world) command input) × IsKnownFull command.at k.known
  IsKnownAnswer client command k _ = ⊥

  -- WHEN A TIMEOUT WAS CALLED

  -- a member's first entries, so many, left an operation without a result
  abbrev pub IsUnfinished : (i op count : ℕ) → Type 0
  IsUnfinished i op count = (is_open op (member_after i count) ≡ true) ⊎ (finished_at op (member_after i count) ≡ None)

  -- the posts of the operation's entry were known to be heard; whatever the others had posted by then was later known to be taken, and the operation had no result. Or some member was known to be full
  abbrev pub KnowsGivenUp : (i op index : ℕ) → Entry Op Shown → (asked seen : ℕ → ℕ) → Type 0
  KnowsGivenUp i op index e asked seen = (KnowsHeard i index e asked × KnowsAnswered i asked seen × IsUnfinished i op (seen i)) ⊎ KnowsFull seen

  -- all of it was known below the timeout's stamp
  pub record IsKnownTimeout (client i op index : ℕ) (e : Entry Op Shown) (k : KnownStep Op Shown) (number : ℕ) : Type 0 where
    pub timeout : Entry Op Shown
    pub asked : ℕ → ℕ
    pub seen : ℕ → ℕ
    pub stamp : ℕ
    pub made : IsEntryOf D world histories client i number (Input.Timeout op) timeout
    pub known : number < k.known i
    pub early : IsKnownBy asked stamp × IsKnownBy seen stamp × (stamp < timeout.stamp)
    pub own : index < seen i
    pub cause : KnowsGivenUp i op index e asked seen

  -- a timeout stands only for a pending command
  abbrev pub TimesOutKnown : ℕ → ℕ → KnownStep Op Shown → Option ℕ → Option ℕ → Type 0
  TimesOutKnown client i k op None = ⊤
  TimesOutKnown client i k None (Some number) = ⊥
  TimesOutKnown client i k (Some op) (Some number) = (index : ℕ) × (e : Entry Op Shown) × (k.step.index ≡ Some index) × (slice_get (histories i) index ≡ Some e) × IsKnownTimeout client i op index e k number

  -- PATHS

  -- its timeout was answered that the operation was open, and its line says so
  abbrev pub EndsByTimeout : ℕ → KnownStep Op Shown → Option ℕ → Option ℕ → Type 0
  EndsByTimeout i k (Some op) (Some number) = (timeout : Entry Op Shown) × (slice_get (histories i) number ≡ Some timeout) × (timeout.output.reply ≡ Reply.TimedOut) × (k.step.line.ended ≡ Some (Ending.TimedOut op))
  EndsByTimeout i k _ _ = ⊥

  -- its line ends as its timeout was answered, or as the operation stands after what is known
  pub record IsKnownStepOf (client : ℕ) (command : Command Op) (k : KnownStep Op Shown) : Type 0 where
    pub told : (k.step.line.client ≡ Some client) × (k.step.line.head ≡ head_of command)
    pub knows : IsKnownBy k.known k.step.upto
    pub answered : IsKnownAnswer client command k k.step.line.answer
    pub timed_out : TimesOutKnown client command.at k (pending_op k.step.line.answer) k.step.timeout
    pub ends : EndsByTimeout command.at k (pending_op k.step.line.answer) k.step.timeout ⊎ (k.step.line.ended ≡ ending_of (member_after command.at (k.known command.at)) (pending_op k.step.line.answer))
    pub forward : k.step.since ≤ k.step.upto

  -- a client's commands one after another, from a stamp on
  abbrev pub IsKnownPath : ℕ → ℕ → List (Command Op) → List (KnownStep Op Shown) → Type 0
  IsKnownPath client stamp [] [] = ⊤
  IsKnownPath client stamp (command ∷ commands) (k ∷ ks) = (stamp ≤ k.step.since) × IsKnownStepOf client command k × IsKnownPath client k.step.upto commands ks
  IsKnownPath client stamp _ _ = ⊥

  -- each client has a path, and each entry that is no take is one of its commands or timeouts
  pub record AreKnownPaths (clients : List (List (Command Op))) (paths : List (List (KnownStep Op Shown))) : Type 0 where
    pub as_many : length paths ≡ length clients
    pub each : (client : ℕ) (commands : List (Command Op)) (ks : List (KnownStep Op Shown)) → slice_get clients client ≡ Some commands → slice_get paths client ≡ Some ks → IsKnownPath client 0 commands ks
    pub whole : (i k : ℕ) (e : Entry Op Shown) → slice_get (histories i) k ≡ Some e → IsTake e.input ⊎ HasEntryAt D world histories clients (steps_of paths) i k

module _ {Kind Op Shown : Type 0} (D : Replication Kind Op Shown) where
  abbrev pub KnownPathsArePaths : Type 0
  KnownPathsArePaths =
      (members : ℕ) (keys : List (KeyDecl Kind)) (events : List (Event Op)) (world : World Kind Op Shown) (histories : ℕ → List (Entry Op Shown)) (clients : List (List (Command Op))) (paths : List (List (KnownStep Op Shown)))
      → IsRun D members keys events world → AreHistories D world histories → AreKnownPaths D world histories clients paths → ArePaths D world histories clients (steps_of paths)
