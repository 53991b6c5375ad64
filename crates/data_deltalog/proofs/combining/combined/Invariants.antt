use Rattle.std.proofs.Common.{◌≡◌, ℕ, drop, Some}
use Rattle.std.specs.Prelude.{fold}
use Rattle.data_deltalog.specs.Contents.{both, combined_of, AreDeltasFor, IsDeltaFor}
use Rattle.data_deltalog.proofs.combining.combined.Given as goal

-- what was combined so far and the rest make the whole
abbrev pub invariant-loop-index : goal.invariant-loop-index
invariant-loop-index g l =
    (combined_of g.T.Replica.combined (drop l.first l.records) ≡ fold (both g.T.Replica.combined) (Some l.combined) (drop l.index l.records))
    × ((kind : g.row.T-Kind.Denot) (origin : ℕ) → AreDeltasFor g.T.Replica.IsOfOrigin g.T.Replica.delta_fits_kind kind origin l.records → IsDeltaFor g.T.Replica.IsOfOrigin g.T.Replica.delta_fits_kind kind origin (Some l.combined))
