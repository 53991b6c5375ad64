-- What a member holds of an identity that was pruned.
--     IsHeld        the envelope that a running member holds of a key
--     IsWithout        an envelope that has a prune of an identity, and nothing else of it
--     NeverReturns        an identity that a member has pruned, on the way of a script
use Rattle.std.specs.Prelude.{◌≡◌, ℕ, List, true, false, Some, slice_get}
use Rattle.model_history.specs.Texts.{Text}
use Rattle.model_members.specs.Node as nodes
use Rattle.model_members.specs.Script.{Playing}
use Rattle.model_kinds.specs.declared.shown.Shown.{Shown}
use Rattle.base_vectors.specs.Vectors.{number_at}
use Rattle.data_lattice.specs.declared.replica.Replica.{Ghosts}
use Rattle.data_lattice.specs.declared.spelled.SpelledData.{Ghosts as Spelling}
use Rattle.member_keeper.specs.declared.keeper.Keeper.{Ghosts as Keeping}
use Rattle.data_markers.specs.Marks.{performed_in}
use Rattle.data_envelope.specs.declared.envelope.Envelope.{Envelope}
use Rattle.member_views.specs.Sound.{last_view}
use Rattle.member_node.specs.declared.key.KeyState.{KeyState}
use Rattle.member_node.specs.declared.node.Node.{Node}
use Rattle.world_members.specs.declared.world.World.{World}
use Rattle.world_places.specs.Places.{member_of}
use Rattle.world_members.specs.Ways.{IsPrefix, Means}

module _ {T K Kind Op Delta : Type 0} {ghosts : Ghosts T Kind Op Delta} {keeping : Keeping K} where
  pub record IsHeld (world : World T K Kind Op Delta ghosts keeping) (id : ℕ) (key : Text) (envelope : Envelope T Kind Op Delta) : Type 0 where
    pub node : Node T K Kind Op Delta ghosts keeping
    pub state : KeyState T Kind Op Delta
    pub index : ℕ
    pub runs : member_of (last_view world.views) world.nodes.items id ≡ Some node
    pub declared : slice_get node.keys.items index ≡ Some state
    pub named : state.name ≡ key
    pub held : state.entry ≡ envelope

-- a prune of the identity was performed or taken
abbrev pub HasPruned : {T Kind Op Delta : Type 0} → ℕ → Envelope T Kind Op Delta → Type 0
HasPruned removed envelope = performed_in envelope.markers removed ≡ true

-- neither its versions nor its data mention the identity
pub record IsWithout {T Kind Op Delta : Type 0} (ghosts : Ghosts T Kind Op Delta) (removed : ℕ) (envelope : Envelope T Kind Op Delta) : Type 0 where
  pub pruned : HasPruned removed envelope
  pub uncounted : number_at envelope.versions removed ≡ 0
  pub unmentioned : ghosts.mentioned envelope.value removed ≡ false

-- on the way of a script, once a running member has a prune of an identity at a key, each later envelope of the key there is without it
abbrev pub NeverReturns : {T K Kind Op Delta : Type 0} {ghosts : Ghosts T Kind Op Delta} {keeping : Keeping K} → Spelling T Kind Op Delta → (earlier later : World T K Kind Op Delta ghosts keeping) → Type 0
NeverReturns {T} {K} {Kind} {Op} {Delta} {ghosts} spelling earlier later =
    (kinds : Text → Kind) (members : ℕ) (decls : List (nodes.KeyDecl Kind)) (p q : Playing Kind Op Shown) → Means spelling kinds members decls p earlier → Means spelling kinds members decls q later → IsPrefix p.events q.events
    → (id removed : ℕ) (key : Text) (before after : Envelope T Kind Op Delta) → IsHeld earlier id key before → HasPruned removed before → IsHeld later id key after → IsWithout ghosts removed after
