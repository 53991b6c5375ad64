use Rattle.std.proofs.Common.{ℕ, ◌<◌, List, get_or}
use Rattle.sqlite_value.specs.declared.value.Value.{Value}
use Rattle.member_keeper.specs.declared.stored.Stored.{Stored}
use Rattle.member_sqlite.specs.Rows.{IsRowOf}
use Rattle.member_sqlite.proofs.rows.are_rows.Given as goal

abbrev pub invariant-loop-index : goal.invariant-loop-index
invariant-loop-index l = (i : ℕ) (entry : Stored) (row : List Value) → i < l.index → IsRowOf (get_or l.entries i entry) (get_or l.rows i row)
