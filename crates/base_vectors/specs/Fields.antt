-- Identities and numbers of records at the front of bytes.
--     identity_in       an identity from a least one on that isn't barred
--     positive_in       a number from 1 to a greatest one
use Rattle.std.specs.Prelude.{ℕ, List, length, ◌&&◌, not, nat_le, nat_lt, Result, Ok}
use Rattle.model_history.specs.Table.{identity_limit}
use Rattle.model_history.specs.Vector.{IdentitySet}
use Rattle.base_bytes.specs.declared.fault.Fault.{Fault}
use Rattle.base_bytes.specs.Fields.{◌>>=◌, kept, byte_in, number_in}

unfoldable pub identity_in : ℕ → IdentitySet → List ℕ → Result (ℕ × List ℕ) Fault
identity_in least barred bytes = do
  i ← byte_in bytes
  _ ← kept (nat_le least i.0 && nat_lt i.0 identity_limit && not (barred i.0)) (length bytes)
  Ok i

unfoldable pub positive_in : ℕ → List ℕ → Result (ℕ × List ℕ) Fault
positive_in most bytes = do
  n ← number_in bytes
  _ ← kept (nat_le 1 n.0 && nat_le n.0 most) (length bytes)
  Ok n
