-- What is sent in a flush, for all members of the model that hold the keys, in all logs. Their logs keep the last fifty records.
--     MeansGroup, AddsGroups, AddsEntries        of one key, to one peer
--     ForSenders        what is so of all these members
--     MeansDeltas, MeansPost, MeansPosts        of all keys, to one peer and to all
use Rattle.std.specs.Prelude.{◌≡◌, ℕ, List, [], ◌∷◌, ◌++◌, true, Option, map, All}
use Rattle.std.specs.List.{AllZip}
use Rattle.model_history.specs.Texts.{Text}
use Rattle.model_history.specs.History.{History}
use Rattle.model_members.specs.View.{identities_of}
use Rattle.model_members.specs.Entry as model
use Rattle.model_members.specs.DataType.{Replication}
use Rattle.model_members.specs.Message as sending
use Rattle.model_members.specs.Node.{Node}
use Rattle.model_members.specs.Step as step
use Rattle.model_kinds.specs.declared.shown.Shown.{Shown}
use Rattle.data_lattice.specs.declared.replica.Replica.{Ghosts}
use Rattle.data_envelope.specs.declared.envelope.Envelope.{Envelope}
use Rattle.data_envelope.specs.declared.group.Group.{Group}
use Rattle.member_messages.specs.declared.message.Keyed.{Keyed}
use Rattle.member_messages.specs.declared.message.Message.{Message}
use Rattle.member_messages.specs.declared.message.Post.{Post}
use Rattle.member_messages.specs.Standing.{StandsForKeyed, StandsForKeyedGroup, StandsForMessage, StandsForPosts}
use Rattle.member_node.specs.declared.key.KeyState.{KeyState}
use Rattle.member_node.specs.Keys.{declared_by}
use Rattle.member_node.specs.Sending.{state_in, IsHeldBy, groups_of, entries_of, IsGroupFor, IsPostFor}

module _ {T Kind Op Delta : Type 0} (ghosts : Ghosts T Kind Op Delta) where
  -- a group exactly where the model sends the peer one, which was not sent all of the key
  abbrev pub MeansGroup : (peer : ℕ) → KeyState T Kind Op Delta → Option (Group T Kind Op Delta ghosts) → Type 0
  MeansGroup peer state group =
      (D : Replication Kind Op Shown) (kinds : Text → Kind) (logs : Text → History Op) (id : ℕ) (node : Node Kind Op Shown) → D.log_length ≡ 50
      → IsHeldBy ghosts.kind_of ghosts.IsDataOf ghosts.IsDeltaOf kinds logs id node state → step.is_behind D node peer (state_in node state) ≡ true → IsGroupFor kinds logs D node peer state group

  -- the groups are those of the model, and then those of this key
  abbrev pub AddsGroups : (id peer : ℕ) → KeyState T Kind Op Delta → (old new : List (Keyed (Group T Kind Op Delta ghosts))) → Type 0
  AddsGroups id peer state old new =
      (D : Replication Kind Op Shown) (kinds : Text → Kind) (logs : Text → History Op) (node : Node Kind Op Shown) (sent : List (sending.Keyed (model.Group Op))) → D.log_length ≡ 50
      → IsHeldBy ghosts.kind_of ghosts.IsDataOf ghosts.IsDeltaOf kinds logs id node state → AllZip (StandsForKeyedGroup kinds logs) old sent
      → AllZip (StandsForKeyedGroup kinds logs) new (sent ++ groups_of D node peer (state_in node state ∷ []))

  -- and so the whole entries
  abbrev pub AddsEntries : (id peer : ℕ) → KeyState T Kind Op Delta → (old new : List (Keyed (Envelope T Kind Op Delta))) → Type 0
  AddsEntries id peer state old new =
      (D : Replication Kind Op Shown) (kinds : Text → Kind) (logs : Text → History Op) (node : Node Kind Op Shown) (sent : List (sending.Keyed (model.Entry Op))) → D.log_length ≡ 50
      → IsHeldBy ghosts.kind_of ghosts.IsDataOf ghosts.IsDeltaOf kinds logs id node state → AllZip (StandsForKeyed ghosts.kind_of ghosts.IsDataOf kinds logs) old sent
      → AllZip (StandsForKeyed ghosts.kind_of ghosts.IsDataOf kinds logs) new (sent ++ entries_of D node peer (state_in node state ∷ []))

module _ {T Kind Op Delta : Type 0} (ghosts : Ghosts T Kind Op Delta) (id : ℕ) (keys : List (KeyState T Kind Op Delta)) where
  -- of all members of the model that hold the keys
  abbrev pub ForSenders : ((D : Replication Kind Op Shown) (kinds : Text → Kind) (logs : Text → History Op) → Node Kind Op Shown → Type 0) → Type 0
  ForSenders P =
      (D : Replication Kind Op Shown) (kinds : Text → Kind) (logs : Text → History Op) (node : Node Kind Op Shown) → D.log_length ≡ 50
      → All (IsHeldBy ghosts.kind_of ghosts.IsDataOf ghosts.IsDeltaOf kinds logs id node) keys → node.keys ≡ map declared_by keys → P D kinds logs node

  -- what the peer was not sent, as the model sends it
  abbrev pub MeansDeltas : (peer : ℕ) → Message T Kind Op Delta ghosts → Type 0
  MeansDeltas peer message = ForSenders (λ D kinds logs node. StandsForMessage ghosts.kind_of ghosts.IsDataOf kinds logs message (step.deltas_for D node peer))

  abbrev pub MeansPost : (peer : ℕ) → Option (Post T Kind Op Delta ghosts) → Type 0
  MeansPost peer post = ForSenders (λ D kinds logs node. IsPostFor ghosts.kind_of ghosts.IsDataOf kinds logs D node id peer post)

  -- all that the flush sends the other members
  abbrev pub MeansPosts : (members : List ℕ) → List (Post T Kind Op Delta ghosts) → Type 0
  MeansPosts members posts = ForSenders (λ D kinds logs node. node.identity ≡ id → identities_of node.view ≡ members → StandsForPosts ghosts.kind_of ghosts.IsDataOf kinds logs posts (step.step_of_flush D node).output.posts)
