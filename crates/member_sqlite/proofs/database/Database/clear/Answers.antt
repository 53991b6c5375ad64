use Rattle.std.proofs.Common.{subst}
use Rattle.sqlite_trees.specs.declared.memory.MemStore.{MemStore}
use Rattle.sqlite.specs.Held.{Held}
use Rattle.sqlite.proofs.Callers.{memory_is_clean}
use Rattle.member_sqlite.specs.Asked.{DeletesAll}
use Rattle.member_sqlite.proofs.database.Database.clear.Goals as goal

pub returns : goal.returns
returns c = subst (λ (h : Held MemStore). DeletesAll h c.clear_rows.new.conn c.clear_rows.result) c.self.view_is (c.clear_rows.ensures (memory_is_clean c.clear_rows.new.conn))
