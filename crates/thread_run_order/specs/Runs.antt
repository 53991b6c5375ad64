-- What a section of client threads was, once its entries are put in one order.
--     StandsAfter        a member of the program stands for that of the model after its first entries
--     IsOneRun        the entries of all places are one run of the model
--     SectionsAreOneRun        so they are after every section of a world
use Rattle.std.specs.Prelude.{◌≡◌, ℕ, List, ◌++◌, take, flat_map, Bool, Option, Some}
use Rattle.model_history.specs.Texts.{Text}
use Rattle.model_history.specs.History.{History}
use Rattle.thread_machine.specs.declared.machine.Machine.{Ghosts as Machine}
use Rattle.thread_machine.specs.Replays.{Replays}
use Rattle.model_members.specs.Node as nodes
use Rattle.model_members.specs.Node.{KeyDecl}
use Rattle.model_members.specs.World as worlds
use Rattle.model_members.specs.World.{run}
use Rattle.model_members.specs.Script.{Playing}
use Rattle.theorem_sections.specs.Histories as model
use Rattle.theorem_sections.specs.Histories.{Placed, AreHistories, entries_at, events_of, sent_so_far}
use Rattle.theorem_sections.specs.Knowing.{member_after}
use Rattle.theorem_sections.specs.Paths.{answer_of, answered_in}
use Rattle.model_kinds.specs.declared.operation.Op.{Op}
use Rattle.model_kinds.specs.declared.shown.Shown.{Shown}
use Rattle.data_lattice.specs.declared.replica.Replica.{Ghosts}
use Rattle.data_lattice.specs.declared.spelled.SpelledData.{Ghosts as Spelling}
use Rattle.member_keeper.specs.declared.keeper.Keeper.{Ghosts as Keeping}
use Rattle.member_views.specs.Sound.{last_view}
use Rattle.member_node.specs.declared.input.Input.{Input}
use Rattle.member_node.specs.declared.node.Node.{Node}
use Rattle.member_node.specs.declared.reply.Fate.{Fate}
use Rattle.member_node.specs.declared.reply.Output.{Output}
use Rattle.member_node.specs.declared.reply.StepError.{StepError}
use Rattle.member_node.specs.Members.{StandsForNode}
use Rattle.member_node.specs.Replies.{meant_fate}
use Rattle.member_node.specs.Steps.{replication}
use Rattle.world_members.specs.declared.world.World.{World}
use Rattle.world_places.specs.Places.{item_at, identity_at}
use Rattle.world_members.specs.Ways.{Throughout, Means}
use Rattle.thread_run_order.specs.Orders.{AtPlace, IsRunOrder}
use Rattle.thread_run_order.specs.Images.{EntryOf, AreImages}
use Rattle.thread_run_order.specs.Section.{IsSection, IsLeft}

-- what a keeper answered in the entries of its place
abbrev pub answers_in : {T K Kind Delta : Type 0} {ghosts : Ghosts T Kind Op Delta} {keeping : Keeping K} → List (EntryOf ghosts keeping) → List Bool
answers_in {ghosts = ghosts} {keeping = keeping} es = flat_map (λ (e : EntryOf ghosts keeping). answer_of (meant_fate e.fate)) es

module _ {T K Kind Delta : Type 0} {ghosts : Ghosts T Kind Op Delta} {keeping : Keeping K} (spelling : Spelling T Kind Op Delta) (kinds : Text → Kind) (logs : Text → History Op) (world : worlds.World Kind Op Shown) (histories : ℕ → List (model.Entry Op Shown)) where
  -- in these logs the member stands for that of the model after its first entries, so many
  pub record StandsAfter (i count : ℕ) (now : Node T K Kind Op Delta ghosts keeping) : Type 0 where
    pub member : nodes.Node Kind Op Shown
    pub member_is : member_after (replication ghosts spelling) world histories i count ≡ Some member
    pub stands : StandsForNode ghosts.kind_of ghosts.IsDataOf kinds logs now member

module _ {T K Kind Delta : Type 0} {ghosts : Ghosts T Kind Op Delta} {keeping : Keeping K} (spelling : Spelling T Kind Op Delta) (kinds : Text → Kind) (members : ℕ) (decls : List (KeyDecl Kind)) (p : Playing Kind Op Shown) (world : World T K Kind Op Delta ghosts keeping) where
  -- the entries in this order have model entries, which are histories in run order, with the keepers' answers; each world that is left means where the script is after their events;
  -- and in logs of the whole way a member that replays so many first entries of its place stands for that of the model after as many
  pub record IsOneRun (meaning : Machine (Node T K Kind Op Delta ghosts keeping) (Input T Kind Op Delta ghosts) Fate (Output T Kind Op Delta ghosts) StepError) (histories : ℕ → List (EntryOf ghosts keeping)) (nows : ℕ → Option (Node T K Kind Op Delta ghosts keeping)) (xs : List (AtPlace (EntryOf ghosts keeping))) : Type 0 where
    pub placed : List (Placed Op Shown)
    pub images : AreImages (identity_at (last_view world.views)) xs placed
    pub are_histories : AreHistories (replication ghosts spelling) p.world (λ i. entries_at i placed)
    pub order : model.IsRunOrder p.world.view (λ i. entries_at i placed) placed
    pub answers : (place : ℕ) → answered_in p.world.view placed place ≡ answers_in (histories place)
    pub means : (new : World T K Kind Op Delta ghosts keeping) → IsLeft world new histories nows → (q : Playing Kind Op Shown) → q.events ≡ p.events ++ events_of (sent_so_far p.world) placed
        → q.world ≡ run (replication ghosts spelling) p.world (events_of (sent_so_far p.world) placed) → Means spelling kinds members decls q new
    pub logs : Text → History Op
    pub logged : Throughout (replication ghosts spelling) logs members decls (record p { events = p.events ++ events_of (sent_so_far p.world) placed })
    pub stand : (place i count : ℕ) (start now : Node T K Kind Op Delta ghosts keeping) → identity_at (last_view world.views) place ≡ Some i → item_at world.nodes.items place ≡ Some start
        → Replays meaning start (take count (histories place)) now → StandsAfter spelling kinds logs p.world (λ j. entries_at j placed) i count now

module _ {T K Kind Delta : Type 0} {ghosts : Ghosts T Kind Op Delta} {keeping : Keeping K} where
  -- wherever a script is that the world means, the entries of every section of it, in run order, are one run of the model
  abbrev pub SectionsAreOneRun : Spelling T Kind Op Delta → Machine (Node T K Kind Op Delta ghosts keeping) (Input T Kind Op Delta ghosts) Fate (Output T Kind Op Delta ghosts) StepError → World T K Kind Op Delta ghosts keeping → Type 0
  SectionsAreOneRun spelling meaning world =
      (kinds : Text → Kind) (members : ℕ) (decls : List (KeyDecl Kind)) (p : Playing Kind Op Shown) → Means spelling kinds members decls p world
      → (histories : ℕ → List (EntryOf ghosts keeping)) (nows : ℕ → Option (Node T K Kind Op Delta ghosts keeping)) → IsSection meaning world histories nows
      → (xs : List (AtPlace (EntryOf ghosts keeping))) → IsRunOrder histories xs → IsOneRun spelling kinds members decls p world meaning histories nows xs
