-- Deltas of sets in which an add wins, as bytes: the dots that were added, which are the origin's, and then those that were seen.
use Rattle.std.specs.Prelude.{ℕ, List, ◌++◌, ◌&&◌, ◌==◌, not, nat_lt, Result, Ok}
use Rattle.model_history.specs.Table.{identity_limit}
use Rattle.model_history.specs.Vector.{IdentitySet}
use Rattle.base_bytes.specs.declared.fault.Fault.{Fault}
use Rattle.base_bytes.specs.Fields.{◌>>=◌}
use Rattle.base_vectors.specs.Spelling.{nobody}
use Rattle.data_orset.specs.declared.set.SetDelta.{SetDelta}
use Rattle.data_orset.specs.Elements.{IsSoundSet, set_spelled}
use Rattle.data_orset.specs.Reading.{set_in}

-- each identity but one
abbrev pub others : ℕ → IdentitySet
others origin i = nat_lt i identity_limit && not (i == origin)

abbrev pub set_delta_spelled : SetDelta → List ℕ
set_delta_spelled x = set_spelled x.fresh ++ set_spelled x.seen

unfoldable pub set_delta_in : ℕ → List ℕ → Result (SetDelta × List ℕ) Fault
set_delta_in origin bytes = do
  fresh ← set_in (others origin) bytes
  seen ← set_in nobody fresh.1
  Ok (record { fresh = fresh.0; seen = seen.0 }, seen.1)

pub record IsSoundSetDelta (x : SetDelta) : Type 0 where
  pub fresh : IsSoundSet x.fresh
  pub seen : IsSoundSet x.seen
