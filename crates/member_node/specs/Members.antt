-- What members of the program stand for in the model.
--     StandsForNode        a member's fields are those of the model's member, and its envelopes stand for the entries
--     IsNewMember        a member without records, in all logs
use Rattle.std.specs.Prelude.{◌≡◌, ℕ, List, map, All}
use Rattle.model_history.specs.Texts.{Text}
use Rattle.model_history.specs.Vector.{VersionVector, IdentitySet}
use Rattle.model_history.specs.History.{History, IsHistory, IsExactlyPruned}
use Rattle.model_history.specs.Log.{IsTakenFrom}
use Rattle.model_members.specs.Entry.{Entry}
use Rattle.model_members.specs.Node as nodes
use Rattle.model_members.specs.View.{View}
use Rattle.model_members.specs.World.{loaded_node, no_entries}
use Rattle.model_kinds.specs.declared.shown.Shown.{Shown}
use Rattle.base_vectors.specs.Vectors.{number_at}
use Rattle.data_lattice.specs.declared.replica.Replica.{Ghosts}
use Rattle.member_keeper.specs.declared.keeper.Keeper.{Ghosts as Keeping}
use Rattle.member_messages.specs.Standing.{StandsForEntry}
use Rattle.data_deltalog.specs.Images.{StandsForLog}
use Rattle.member_node.specs.declared.key.KeyDecl.{KeyDecl}
use Rattle.member_node.specs.declared.key.KeyState.{KeyState}
use Rattle.member_node.specs.declared.node.Node.{Node}
use Rattle.member_node.specs.Operations.{known, StandForOperations}
pub use Rattle.member_node.specs.Keys.{AreDistinct, AreOfKinds, declared, declared_by}
pub use Rattle.member_messages.specs.Standing.{StandsForEntry, StandsForKeyed, StandsForKeyedGroup, StandsForMessage, StandsForPost, StandsForPosts}
pub use Rattle.member_node.specs.Replies.{delta_groups, spelled_groups, meant}

-- WHAT LOGS HAVE

-- each history of the member is taken from the key's log
abbrev pub AreTakenFrom : {Kind Op : Type 0} → (Text → History Op) → nodes.Node Kind Op Shown → Type 0
AreTakenFrom logs node = (key : Text) → IsTakenFrom (logs key) (node.entries key).history

-- and each is exactly pruned
pub record IsSafe {Kind Op : Type 0} (logs : Text → History Op) (node : nodes.Node Kind Op Shown) : Type 0 where
  pub taken : AreTakenFrom logs node
  pub exact : (key : Text) → IsExactlyPruned (node.entries key).history

-- what is held of a key: the entry, its last own records, and the own number flushed to each peer
module _ {T Kind Op Delta : Type 0} (kind_of : T → Kind) (IsDataOf : T → History Op → VersionVector → IdentitySet → Type 0) (IsDeltaOf : Delta → History Op → ℕ → ℕ → ℕ → Type 0) (kinds : Text → Kind) (logs : Text → History Op) where
  pub record StandsForKey (state : KeyState T Kind Op Delta) (entry : Entry Op) (flushed : VersionVector) : Type 0 where
    pub kind : kinds state.name ≡ state.kind
    pub held : StandsForEntry kind_of IsDataOf kinds logs state.name state.entry entry
    pub logged : StandsForLog IsDeltaOf state.log (logs state.name) entry
    pub sent : (i : ℕ) → number_at state.flushed i ≡ flushed i

-- MEMBERS

module _ {T Kind Op Delta : Type 0} (kind_of : T → Kind) (IsDataOf : T → History Op → VersionVector → IdentitySet → Type 0) (kinds : Text → Kind) (logs : Text → History Op) where
  pub record StandsForNode {K : Type 0} {ghosts : Ghosts T Kind Op Delta} {keeping : Keeping K} (code : Node T K Kind Op Delta ghosts keeping) (node : nodes.Node Kind Op Shown) : Type 0 where
    pub identity : node.identity ≡ code.id
    pub view : node.view ≡ code.view
    pub keys : node.keys ≡ map declared_by code.keys.items
    pub distinct : AreDistinct (map (λ (state : KeyState T Kind Op Delta). state.name) code.keys.items)
    pub entries : All (λ state. StandsForKey kind_of IsDataOf ghosts.IsDeltaOf kinds logs state (node.entries state.name) (node.flushed state.name)) code.keys.items
    pub operations : StandForOperations (known code.operations) node
    pub steps : node.steps ≡ code.steps

-- a member of this identity and view, with these keys and no records
abbrev pub IsNewMember : {T K Kind Op Delta : Type 0} {ghosts : Ghosts T Kind Op Delta} {keeping : Keeping K} → List (KeyDecl T Kind Op Delta) → (id : ℕ) → View → Node T K Kind Op Delta ghosts keeping → Type 0
IsNewMember {T} {K} {Kind} {Op} {Delta} {ghosts} decls id view code =
    (kinds : Text → Kind) (logs : Text → History Op) → ((key : Text) → IsHistory (logs key)) → AreOfKinds kinds decls → StandsForNode ghosts.kind_of ghosts.IsDataOf kinds logs code (loaded_node (map declared decls) id view no_entries)
