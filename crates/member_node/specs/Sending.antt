-- What a flush sends.
--     own_number, is_behind, peers_of, flushed_to        by the fields of a member
--     IsHeldBy        what a member of the model holds of a key
--     groups_of, entries_of        what the model sends a peer of these keys
--     IsGroupFor, IsPostFor        what is sent, or not, as the model says
use Rattle.std.specs.Prelude.{◌≡◌, ℕ, List, Bool, true, false, not, nat_lt, ◌==◌, ◌&&◌, if◌then◌else◌, Option, Some, None, map, filter}
use Rattle.std.specs.List.{list_any}
use Rattle.model_history.specs.Texts.{Text}
use Rattle.model_history.specs.Vector.{VersionVector, IdentitySet}
use Rattle.model_history.specs.History.{History}
use Rattle.model_members.specs.Entry as model
use Rattle.model_members.specs.Entry.{group_after}
use Rattle.model_members.specs.DataType.{Replication}
use Rattle.model_members.specs.Message as sending
use Rattle.model_members.specs.Node as nodes
use Rattle.model_members.specs.Node.{state_of, key_states, keyed_entry}
use Rattle.model_members.specs.Step as step
use Rattle.model_members.specs.Step.{goes_as_group, deltas_for}
use Rattle.model_kinds.specs.declared.shown.Shown.{Shown}
use Rattle.base_vectors.specs.Vectors.{number_at}
use Rattle.data_markers.specs.Marks.{performed_in}
use Rattle.data_lattice.specs.declared.replica.Replica.{Ghosts}
use Rattle.data_envelope.specs.declared.group.Group.{Group}
use Rattle.data_envelope.specs.Words.{parts_of}
use Rattle.member_messages.specs.declared.message.Post.{Post}
use Rattle.member_messages.specs.Standing.{StandsForKeyedGroup, StandsForPost}
use Rattle.member_node.specs.declared.key.KeyState.{KeyState}
use Rattle.member_node.specs.Keys.{declared_by}
use Rattle.member_node.specs.Own.{IsLogged}
use Rattle.member_node.specs.Members.{StandsForKey}

-- the others among the members
abbrev pub peers_of : ℕ → List ℕ → List ℕ
peers_of id members = filter (λ j. not (j == id)) members

-- the number flushed to an identity, once the own number was flushed to these peers
abbrev pub flushed_to : ℕ → List ℕ → ℕ → ℕ → ℕ
flushed_to own peers before i = if list_any (λ j. j == i) peers then own else before

module _ {T Kind Op Delta : Type 0} where
  -- how many own records the entry counts
  abbrev pub own_number : ℕ → KeyState T Kind Op Delta → ℕ
  own_number id state = number_at (parts_of state.entry).versions id

  -- the peer wasn't sent all of them
  abbrev pub is_behind : ℕ → ℕ → KeyState T Kind Op Delta → Bool
  is_behind id peer state = nat_lt (number_at state.flushed peer) (own_number id state)

  -- the key, as the model's member has it
  abbrev pub state_in : nodes.Node Kind Op Shown → KeyState T Kind Op Delta → nodes.KeyState Kind Op
  state_in node state = state_of node (declared_by state)

module _ {T Kind Op Delta : Type 0} (kind_of : T → Kind) (IsDataOf : T → History Op → VersionVector → IdentitySet → Type 0) (IsDeltaOf : Delta → History Op → ℕ → ℕ → ℕ → Type 0) (kinds : Text → Kind) (logs : Text → History Op) where
  -- what the model's member holds of a key stands behind the state, whose log is its own
  pub record IsHeldBy (id : ℕ) (node : nodes.Node Kind Op Shown) (state : KeyState T Kind Op Delta) : Type 0 where
    pub identity : node.identity ≡ id
    pub unpruned : performed_in (parts_of state.entry).marks id ≡ false
    pub own : IsLogged kind_of id state
    pub held : StandsForKey kind_of IsDataOf IsDeltaOf kinds logs state (node.entries state.name) (node.flushed state.name)

module _ {Kind Op : Type 0} (D : Replication Kind Op Shown) (node : nodes.Node Kind Op Shown) (peer : ℕ) where
  -- the groups and the entries that a peer is sent of these keys
  abbrev pub groups_of : List (nodes.KeyState Kind Op) → List (sending.Keyed (model.Group Op))
  groups_of keys = map (λ k. record { key = k.name; item = group_after k.entry node.identity (node.flushed k.name peer) }) (filter (goes_as_group D node peer) (filter (step.is_behind D node peer) keys))

  abbrev pub entries_of : List (nodes.KeyState Kind Op) → List (sending.Keyed (model.Entry Op))
  entries_of keys = map keyed_entry (filter (λ k. not (goes_as_group D node peer k)) (filter (step.is_behind D node peer) keys))

  -- the peer is sent something
  abbrev pub is_sent : Bool
  is_sent = list_any (step.is_behind D node peer) (key_states node)

  abbrev pub post_to : sending.Post Op
  post_to = record { to = peer; message = deltas_for D node peer }

module _ {T Kind Op Delta : Type 0} {ghosts : Ghosts T Kind Op Delta} (kinds : Text → Kind) (logs : Text → History Op) (D : Replication Kind Op Shown) (node : nodes.Node Kind Op Shown) (peer : ℕ) where
  -- a group exactly where the model sends one
  abbrev pub IsGroupFor : KeyState T Kind Op Delta → Option (Group T Kind Op Delta ghosts) → Type 0
  IsGroupFor state None = goes_as_group D node peer (state_in node state) ≡ false
  IsGroupFor state (Some group) = (goes_as_group D node peer (state_in node state) ≡ true)
      × StandsForKeyedGroup {ghosts = ghosts} kinds logs (record { key = state.name; item = group }) (record { key = state.name; item = group_after (node.entries state.name) node.identity (node.flushed state.name peer) })

module _ {T Kind Op Delta : Type 0} {ghosts : Ghosts T Kind Op Delta} (kind_of : T → Kind) (IsDataOf : T → History Op → VersionVector → IdentitySet → Type 0) (kinds : Text → Kind) (logs : Text → History Op) (D : Replication Kind Op Shown) (node : nodes.Node Kind Op Shown) where
  -- a message to another exactly where the model sends one
  abbrev pub IsPostFor : ℕ → ℕ → Option (Post T Kind Op Delta ghosts) → Type 0
  IsPostFor id peer None = (not (peer == id) && is_sent D node peer) ≡ false
  IsPostFor id peer (Some post) = ((not (peer == id) && is_sent D node peer) ≡ true) × StandsForPost {ghosts = ghosts} kind_of IsDataOf kinds logs post (post_to D node peer)
