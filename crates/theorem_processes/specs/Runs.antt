-- The run of the model that the processes of a cluster make.
--     lasting        what the members follow, with the highest limit of steps
--     made_of, taken_as        what a member makes of an input, and of a message, that knows some keys
--     events_of, all_events, events_from        the events of the model that something is
--     Tells, TellsOne, TellsUnknown        what a step tells is what an event puts out, or that a key is unknown
--     StandFor        the processes stand for a world
--     AreOneRun        what happened is a run, the processes stand for the world that it leads to, and what is told next is the model's
--     HoldHistories        what the members hold
--     WhateverHappens        it holds of all processes that begin so, and of all that may happen to them
--     AreAlwaysOneRun, AlwaysHoldHistories        whatever happens is one run, and the members then hold such histories
use Rattle.std.specs.Prelude.{◌≡◌, ℕ, List, [], ◌∷◌, ◌++◌, Bool, true, false, if◌then◌else◌, Option, Some, None, map, option_map, ⊤, All}
use Rattle.std.specs.List.{AllZip}
use Rattle.model_history.specs.Texts.{Text}
use Rattle.model_history.specs.History.{History, at, union, IsHistory, IsExactlyPruned}
use Rattle.model_members.specs.DataType.{Replication}
use Rattle.model_members.specs.Entry.{Entry}
use Rattle.model_members.specs.Message.{Message as Sent, part_of}
use Rattle.model_members.specs.Node as nodes
use Rattle.model_members.specs.View.{place_of}
use Rattle.model_members.specs.World as worlds
use Rattle.model_members.specs.World.{Event, start, run, message_at, output_of, views_of, IsRun}
use Rattle.model_members.specs.World.Event.{InputAt, Delivery, Removal, Joining, Restart}
use Rattle.theorem_runs.specs.Logs.{AreLogsOf}
use Rattle.model_kinds.specs.declared.operation.Op.{Op}
use Rattle.model_kinds.specs.declared.shown.Shown.{Shown}
use Rattle.data_lattice.specs.declared.replica.Replica.{Ghosts}
use Rattle.data_lattice.specs.declared.spelled.SpelledData.{Ghosts as Spelling}
use Rattle.data_delta_codec.specs.declared.spelled_delta.SpelledDelta.{Ghosts as DeltaSpelling}
use Rattle.member_keeper.specs.declared.keeper.Keeper.{Ghosts as Keeping}
use Rattle.member_quorum.specs.Levels.{level_meant}
use Rattle.member_node.specs.declared.node.Node.{Node}
use Rattle.member_node.specs.declared.key.KeyDecl.{KeyDecl}
use Rattle.member_node.specs.declared.key.KeyState.{KeyState}
use Rattle.member_node.specs.declared.input.Input.{Input}
use Rattle.member_node.specs.declared.input.Input.TheVariants as input
use Rattle.member_node.specs.declared.reply.Output.{Output}
use Rattle.member_node.specs.Keys.{declared, AreOfKinds}
use Rattle.member_node.specs.Limits.{highest_limit}
use Rattle.member_node.specs.Members.{StandsForMessage, StandsForEntry}
use Rattle.member_node.specs.Operations.{finished_meant}
use Rattle.member_node.specs.Replies.{meant, meant_fate}
use Rattle.member_node.specs.Steps.{replication}
use Rattle.world_places.specs.Standing.{TellsStore}
use Rattle.theorem_processes.specs.Declaring.{known_to, is_unknown}
use Rattle.theorem_processes.specs.Forgetting.{StandsForProcess}
use Rattle.theorem_processes.specs.Keys.{is_whole}
use Rattle.theorem_processes.specs.Processes.{Processes, Happening, Begin, MayHappen, AllHappen, happened, after_all}
use Rattle.theorem_processes.specs.Processes.Happening.{Steps, Takes, Refuses, Forgets, Limits, Declares, Leaves, Joins, Returns}

-- THE MODEL

-- what the members follow, each of which may make as many steps as the highest limit. One with a lower limit refuses earlier, and what it refuses is no event
abbrev pub lasting : {T Kind Delta : Type 0} → Ghosts T Kind Op Delta → Spelling T Kind Op Delta → Replication Kind Op Shown
lasting ghosts spelling = record (replication ghosts spelling) { most_steps = highest_limit }

-- WHAT HAPPENS, AS EVENTS OF THE MODEL

-- an input of a process. It takes no message
abbrev pub given_inputs : {T Kind Delta : Type 0} {ghosts : Ghosts T Kind Op Delta} → Input T Kind Op Delta ghosts → List (nodes.Input Op)
given_inputs (input.Update key op level) = nodes.Input.Update key op (level_meant level) ∷ []
given_inputs (input.Get key level) = nodes.Input.Get key (level_meant level) ∷ []
given_inputs (input.Take from message) = []
given_inputs (input.Install view) = nodes.Input.Install view ∷ []
given_inputs input.Flush = nodes.Input.Flush ∷ []
given_inputs (input.GossipTo to) = nodes.Input.GossipTo to ∷ []
given_inputs input.PruneTick = nodes.Input.PruneTick ∷ []
given_inputs (input.Timeout op) = nodes.Input.Timeout op ∷ []

-- what a member makes of an input of its process. A command for a key that it has not declared it refuses, and changes nothing but
-- the count of its steps: in the model, where all keys are declared, so it does with a gossip to itself
abbrev pub made_of : {T Kind Delta : Type 0} {ghosts : Ghosts T Kind Op Delta} → (Text → Bool) → (at : ℕ) → Input T Kind Op Delta ghosts → List (nodes.Input Op)
made_of known at given = if is_unknown known given then nodes.Input.GossipTo at ∷ [] else given_inputs given

-- what a member takes of a message, if there is one: it is delivered, or what it says of declared keys is given, where this is not all
abbrev pub taken_as : (Text → Bool) → (from to index : ℕ) → nodes.Fate → Option (Sent Op) → List (Event Op)
taken_as known from to index fate None = []
taken_as known from to index fate (Some sent) = (if is_whole known sent then Delivery from to index fate else InputAt to (nodes.Input.Take from (part_of known sent)) fate) ∷ []

module _ {T K Kind Delta : Type 0} {ghosts : Ghosts T Kind Op Delta} {keeping : Keeping K} where
  -- one event each in the model's world, but a refused step is none, nor is what a member forgets, another limit, or one more key
  abbrev pub events_of : worlds.World Kind Op Shown → Processes ghosts keeping → Happening ghosts keeping → List (Event Op)
  events_of world ps (Steps at given fate output after) = map (λ sent. InputAt at sent (meant_fate fate)) (made_of (known_to (ps.members at)) at given)
  events_of world ps (Takes from to index bytes read fate output after) = taken_as (known_to (ps.members to)) from to index (meant_fate fate) (message_at world from to index)
  events_of world ps (Refuses at after) = []
  events_of world ps (Forgets at before after) = []
  events_of world ps (Limits at limit after) = []
  events_of world ps (Declares at decl after) = []
  events_of world ps (Leaves i) = Removal i ∷ []
  events_of world ps (Joins place new) = Joining place ∷ []
  events_of world ps (Returns i keeper new) = Restart i ∷ []

  -- from this world and these processes on
  abbrev pub all_events : Spelling T Kind Op Delta → worlds.World Kind Op Shown → Processes ghosts keeping → List (Happening ghosts keeping) → List (Event Op)
  all_events spelling world ps [] = []
  all_events spelling world ps (h ∷ hs) = events_of world ps h ++ all_events spelling (run (lasting ghosts spelling) world (events_of world ps h)) (happened ps h) hs

  -- from the start on, where all members of the model have all keys of the catalogue
  abbrev pub events_from : Spelling T Kind Op Delta → List (KeyDecl T Kind Op Delta) → (count : ℕ) → (first : Processes ghosts keeping) → List (Happening ghosts keeping) → List (Event Op)
  events_from spelling decls count first happenings = all_events spelling (start count (map declared decls)) first happenings

-- WHAT IS TOLD

module _ {T Kind Delta : Type 0} {ghosts : Ghosts T Kind Op Delta} (spelling : Spelling T Kind Op Delta) (world : worlds.World Kind Op Shown) (output : Output T Kind Op Delta ghosts) where
  -- the reply to a step, and the operation that ended, are what the event puts out in the world
  pub record Tells (event : Event Op) : Type 0 where
    pub meaning : nodes.Output Op Shown
    pub put_out : output_of (lasting ghosts spelling) world event ≡ Some meaning
    pub reply : meaning.reply ≡ meant output.reply
    pub ended : meaning.ended ≡ option_map finished_meant output.finished

  -- of one event
  pub record TellsOne (events : List (Event Op)) : Type 0 where
    pub event : Event Op
    pub is : events ≡ event ∷ []
    pub tells : Tells event

  -- that a key is not declared, and nothing else
  pub record TellsUnknown : Type 0 where
    pub reply : meant output.reply ≡ nodes.Reply.UnknownKey
    pub posts : output.posts ≡ []
    pub ended : output.finished ≡ None

  -- of a command for a key that is not declared, this; else what the events put out
  abbrev pub TellsStep : (unknown : Bool) → List (Event Op) → Type 0
  TellsStep true events = TellsUnknown
  TellsStep false events = TellsOne events

-- WHAT PROCESSES STAND FOR

module _ {T K Kind Delta : Type 0} {ghosts : Ghosts T Kind Op Delta} {keeping : Keeping K} (spelling : Spelling T Kind Op Delta) (kinds : Text → Kind) (decls : List (KeyDecl T Kind Op Delta)) where
  -- the views, the keys, each running member but for ends that it has forgotten and keys that it has not declared, what each posted to each, and what the keepers of running members tell
  pub record StandFor (logs : Text → History Op) (ps : Processes ghosts keeping) (world : worlds.World Kind Op Shown) : Type 0 where
    pub views : views_of world ≡ ps.views
    pub keys : world.keys ≡ map declared decls
    pub running : (i : ℕ) → StandsForProcess kinds logs (ps.forgotten i) (ps.members i) (world.nodes i)
    pub links : (from to : ℕ) → AllZip (StandsForMessage ghosts.kind_of ghosts.IsDataOf kinds logs) (ps.posted from to) (world.links from to).messages
    pub stores : (i : ℕ) (member : Node T K Kind Op Delta ghosts keeping) → ps.members i ≡ Some member
        → TellsStore ghosts keeping spelling kinds logs (Some member.keeper) (world.stores (place_of world.view i))

  -- of a step, that; else nothing is told
  abbrev pub IsTold : worlds.World Kind Op Shown → Processes ghosts keeping → Happening ghosts keeping → Type 0
  IsTold world ps (Steps at given fate output after) = TellsStep spelling world output (is_unknown (known_to (ps.members at)) given) (events_of world ps (Steps at given fate output after))
  IsTold world ps (Takes from to index bytes read fate output after) = TellsOne spelling world output (events_of world ps (Takes from to index bytes read fate output after))
  IsTold world ps _ = ⊤

  -- WHAT HAPPENED IS ONE RUN

  pub record AreOneRun (deltas : DeltaSpelling T Kind Op Delta) (count : ℕ) (first : Processes ghosts keeping) (happenings : List (Happening ghosts keeping)) (ps : Processes ghosts keeping) : Type 0 where
    pub world : worlds.World Kind Op Shown
    pub is_run : IsRun (lasting ghosts spelling) count (map declared decls) (events_from spelling decls count first happenings) world
    pub stand : (logs : Text → History Op) → AreLogsOf (lasting ghosts spelling) count (map declared decls) (events_from spelling decls count first happenings) logs → StandFor logs ps world
    pub told : (next : Happening ghosts keeping) → MayHappen spelling deltas decls ps next → IsTold world ps next

  -- WHAT MEMBERS HOLD

  -- a member holds of each key an image of this history
  abbrev pub HoldsImages : (Text → History Op) → Node T K Kind Op Delta ghosts keeping → (Text → History Op) → Type 0
  HoldsImages logs member held = All (λ (state : KeyState T Kind Op Delta). (entry : Entry Op) × (entry.history ≡ held state.name) × StandsForEntry ghosts.kind_of ghosts.IsDataOf kinds logs state.name state.entry entry) member.keys.items

  -- two running members
  abbrev pub AreMembers : Processes ghosts keeping → ℕ → ℕ → Node T K Kind Op Delta ghosts keeping → Node T K Kind Op Delta ghosts keeping → Type 0
  AreMembers ps i j a b = (ps.members i ≡ Some a) × (ps.members j ≡ Some b)

  -- each running member has taken a history of each key, and holds an image of it. The union of any two is exactly pruned, and they are the same where they count as many records of each identity
  pub record HoldHistories (ps : Processes ghosts keeping) : Type 0 where
    pub logs : Text → History Op
    pub taken : ℕ → Text → History Op
    pub images : (i : ℕ) (member : Node T K Kind Op Delta ghosts keeping) → ps.members i ≡ Some member → HoldsImages logs member (taken i)
    pub histories : (i : ℕ) (member : Node T K Kind Op Delta ghosts keeping) (key : Text) → ps.members i ≡ Some member → IsHistory (taken i key)
    pub pruned : (i j : ℕ) (a b : Node T K Kind Op Delta ghosts keeping) (key : Text) → AreMembers ps i j a b → IsExactlyPruned (union (taken i key) (taken j key))
    pub alike : (i j : ℕ) (a b : Node T K Kind Op Delta ghosts keeping) (key : Text) → AreMembers ps i j a b → ((origin : ℕ) → at (taken i key) origin ≡ at (taken j key) origin) → taken i key ≡ taken j key

-- WHATEVER HAPPENS

module _ {T K Kind Delta : Type 0} (ghosts : Ghosts T Kind Op Delta) (keeping : Keeping K) (spelling : Spelling T Kind Op Delta) (deltas : DeltaSpelling T Kind Op Delta) where
  -- it holds of all processes that begin with so many members and keys of a catalogue, and of all that may happen to them
  abbrev pub WhateverHappens : ((Text → Kind) → List (KeyDecl T Kind Op Delta) → ℕ → Processes ghosts keeping → List (Happening ghosts keeping) → Type 0) → Type 0
  WhateverHappens Holds =
      (kinds : Text → Kind) (decls : List (KeyDecl T Kind Op Delta)) (count : ℕ) (first : Processes ghosts keeping) (happenings : List (Happening ghosts keeping))
      → AreOfKinds kinds decls → Begin decls count first → AllHappen spelling deltas decls first happenings → Holds kinds decls count first happenings

  -- what happened is one run
  abbrev pub AreAlwaysOneRun : Type 0
  AreAlwaysOneRun = WhateverHappens (λ kinds decls count first happenings. AreOneRun spelling kinds decls deltas count first happenings (after_all first happenings))

  -- the members then hold histories of it
  abbrev pub AlwaysHoldHistories : Type 0
  AlwaysHoldHistories = WhateverHappens (λ kinds decls count first happenings. HoldHistories spelling kinds decls (after_all first happenings))
