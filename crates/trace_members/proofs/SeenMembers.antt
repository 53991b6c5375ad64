-- What is looked at of each key of each running member.
use Rattle.std.proofs.Common.{◌≡◌, ℕ, ◌<◌, List, [], ◌∷◌, ◌++◌, length, map, flat_map, get_or, Some, refl, sym, ap, subst, ◌∙◌, ◌+◌, arith, length-append}
use Rattle.std.specs.Prelude.{slice_index_or, ◌-◌}
use Rattle.std.proofs.lemmas.List.{get_or-append-add}
use Rattle.member_views.specs.Views.{first_view}
use Rattle.member_views.specs.Sound.{last_view}
use Rattle.model_history.specs.Texts.{Text}
use Rattle.model_history.specs.Vector.{VersionVector, IdentitySet}
use Rattle.model_history.specs.History.{History}
use Rattle.model_members.specs.DataType.{Replication}
use Rattle.model_members.specs.View.{Member, View, identities_of}
use Rattle.model_members.specs.Node as nodes
use Rattle.model_members.specs.Node.{key_states, state_of}
use Rattle.model_members.specs.World as worlds
use Rattle.model_kinds.specs.declared.kind.Kind.{Kind}
use Rattle.model_kinds.specs.declared.operation.Op.{Op}
use Rattle.model_kinds.specs.declared.shown.Shown.{Shown}
use Rattle.data_lattice.specs.declared.replica.Replica.{Ghosts}
use Rattle.member_keeper.specs.declared.keeper.Keeper.{Ghosts as Keeping}
use Rattle.member_node.specs.declared.key.KeyState.{KeyState}
use Rattle.member_node.specs.declared.node.Node.{Node}
use Rattle.member_node.specs.Members.{declared_by, StandsForKey, StandsForNode}
use Rattle.model_traces.specs.Traces.{TraceLine}
use Rattle.model_traces.specs.Runs.{of_node, of_members}
use Rattle.trace_entries.specs.declared.entries.Look.{Look}
use Rattle.trace_entries.specs.Seeing.{looked_at}
use Rattle.trace_members.specs.Watching.{key_at}

module _ {T Delta : Type 0} (D : Replication Kind Op Shown) (look : Look) (i : ℕ) where
  -- of a key of the program's member
  abbrev pub key_seen : nodes.Node Kind Op Shown → KeyState T Kind Op Delta → List (TraceLine Op)
  key_seen node state = looked_at D look i (key_at state (node.entries state.name))

  pub keys_seen : (node : nodes.Node Kind Op Shown) (states : List (KeyState T Kind Op Delta)) → flat_map (key_seen node) states ≡ flat_map (looked_at D look i) (map (state_of node) (map declared_by states))
  keys_seen node [] = refl
  keys_seen node (state ∷ states) = ap (λ ls. key_seen node state ++ ls) (keys_seen node states)

  pub node_seen : {K : Type 0} {ghosts : Ghosts T Kind Op Delta} {keeping : Keeping K} (kind_of : T → Kind) (IsDataOf : T → History Op → VersionVector → IdentitySet → Type 0) (kinds : Text → Kind) (logs : Text → History Op) (code : Node T K Kind Op Delta ghosts keeping) (node : nodes.Node Kind Op Shown) (states : List (KeyState T Kind Op Delta))
      → StandsForNode kind_of IsDataOf kinds logs code node → states ≡ code.keys.items → flat_map (key_seen node) states ≡ of_node (looked_at D look) i (Some node)
  node_seen kind_of IsDataOf kinds logs code node states stands same =
      keys_seen node states ∙ ap (flat_map (looked_at D look i)) (ap (λ ss. map (state_of node) (map declared_by ss)) same ∙ ap (map (state_of node)) (sym stands.keys))

-- of the members of a view
module _ (D : Replication Kind Op Shown) (look : Look) (world : worlds.World Kind Op Shown) where
  abbrev pub member_seen : Member → List (TraceLine Op)
  member_seen member = of_node (looked_at D look) member.identity (world.nodes member.identity)

  members_seen : (members : List Member) → flat_map member_seen members ≡ flat_map (λ i. of_node (looked_at D look) i (world.nodes i)) (map (λ (m : Member). m.identity) members)
  members_seen [] = refl
  members_seen (m ∷ members) = ap (λ ls. member_seen m ++ ls) (members_seen members)

  pub view_seen : (view : View) → world.view ≡ view → flat_map member_seen view.members ≡ of_members (looked_at D look) world
  view_seen view same = members_seen view.members ∙ ap (λ (v : View). flat_map (λ i. of_node (looked_at D look) i (world.nodes i)) (identities_of v)) (sym same)

-- a key of a member stands for its entry
module _ {T K Kind Op Delta : Type 0} {ghosts : Ghosts T Kind Op Delta} {keeping : Keeping K} (kind_of : T → Kind) (IsDataOf : T → History Op → VersionVector → IdentitySet → Type 0) (kinds : Text → Kind) (logs : Text → History Op) where
  pub stands_at : (code : Node T K Kind Op Delta ghosts keeping) (node : nodes.Node Kind Op Shown) (states : List (KeyState T Kind Op Delta)) (i : ℕ) (state : KeyState T Kind Op Delta) → StandsForNode kind_of IsDataOf kinds logs code node → states ≡ code.keys.items → i < length states → state ≡ get_or states i state
      → StandsForKey kind_of IsDataOf ghosts.IsDeltaOf kinds logs state (node.entries state.name) (node.flushed state.name)
  stands_at code node states i state stands same here is =
      let here' : i < length code.keys.items = subst (λ (ss : List (KeyState T Kind Op Delta)). i < length ss) same here in
      let at : get_or code.keys.items i state ≡ state = ap (λ ss. get_or ss i state) (sym same) ∙ sym is in
      subst (λ (s : KeyState T Kind Op Delta). StandsForKey kind_of IsDataOf ghosts.IsDeltaOf kinds logs s (node.entries s.name) (node.flushed s.name)) at (stands.entries i state here')

-- the last view of the program's list is the world's
pub last_is : {Kind Op : Type 0} (world : worlds.World Kind Op Shown) (views : List View) → worlds.views_of world ≡ views → last_view views ≡ world.view
last_is world views same =
    let number : length world.earlier + 0 ≡ length (worlds.views_of world) - 1 = let n = length-append world.earlier (world.view ∷ []) in omega (arith, n) in
    ap last_view (sym same) ∙ ap (λ k. slice_index_or (worlds.views_of world) k (first_view 1)) (sym number) ∙ get_or-append-add world.earlier (world.view ∷ []) 0 (first_view 1)
