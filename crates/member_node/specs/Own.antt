-- What a member's own records are bounded by, and logged in.
use Rattle.std.specs.Prelude.{◌≡◌, ℕ, ◌*◌, ◌≤◌, List, false, All}
use Rattle.base_vectors.specs.Vectors.{number_at}
use Rattle.data_markers.specs.Marks.{performed_in}
use Rattle.data_envelope.specs.Words.{parts_of}
use Rattle.member_node.specs.declared.key.KeyState.{KeyState}

module _ {T Kind Op Delta : Type 0} where
  -- a step makes one own record of a key, or as many as identities left, which are 255 at most
  abbrev pub HasFewOwn : ℕ → ℕ → List (KeyState T Kind Op Delta) → Type 0
  HasFewOwn id steps keys = All (λ state. number_at (parts_of state.entry).versions id ≤ 255 * steps) keys

  -- and no entry has the member's own prune
  abbrev pub IsUnpruned : ℕ → List (KeyState T Kind Op Delta) → Type 0
  IsUnpruned id keys = All (λ state. performed_in (parts_of state.entry).marks id ≡ false) keys

module _ {T Kind Op Delta : Type 0} (kind_of : T → Kind) where
  -- the log is the member's, of the kind of the data, and ends with the last own record that the entry counts
  pub record IsLogged (id : ℕ) (state : KeyState T Kind Op Delta) : Type 0 where
    pub origin : state.log.origin ≡ id
    pub kind : state.log.kind ≡ kind_of state.entry.value
    pub last : state.log.last ≡ number_at (parts_of state.entry).versions id

  abbrev pub AreLogged : ℕ → List (KeyState T Kind Op Delta) → Type 0
  AreLogged id keys = All (IsLogged id) keys

  -- the data of each key are of its kind
  abbrev pub AreOfTheirKinds : List (KeyState T Kind Op Delta) → Type 0
  AreOfTheirKinds keys = All (λ state. kind_of state.entry.value ≡ state.kind) keys
