-- What a member holds of a key before its first step.
use Rattle.std.specs.Prelude.{◌≡◌, ℕ, []}
use Rattle.std.specs.FinMap as map
use Rattle.model_history.specs.Vector.{VersionVector, IdentitySet}
use Rattle.model_history.specs.History.{History, IsHistory}
use Rattle.model_members.specs.Entry.{empty_entry}
use Rattle.data_envelope.specs.Images.{StandsFor}
use Rattle.data_envelope.specs.Words.{parts_of}
use Rattle.data_deltalog.specs.Images.{StandsForLog}
use Rattle.member_node.specs.declared.key.KeyState.{KeyState}

-- it has no record, no mark, and nothing was logged or sent
pub record IsFresh {T Kind Op Delta : Type 0} (kind_of : T → Kind) (IsDataOf : T → History Op → VersionVector → IdentitySet → Type 0) (IsDeltaOf : Delta → History Op → ℕ → ℕ → ℕ → Type 0) (id : ℕ) (state : KeyState T Kind Op Delta) : Type 0 where
  pub kind_is : kind_of state.entry.value ≡ state.kind
  pub versions : (parts_of state.entry).versions ≡ map.empty
  pub marks : (parts_of state.entry).marks ≡ map.empty
  pub log : state.log ≡ record { origin = id; kind = state.kind; last = 0; before = map.empty; records = [] }
  pub sent : state.flushed ≡ map.empty
  pub image : (log : History Op) → IsHistory log → StandsFor IsDataOf (parts_of state.entry) log empty_entry
  pub logged : (log : History Op) → IsHistory log → StandsForLog IsDeltaOf state.log log empty_entry
