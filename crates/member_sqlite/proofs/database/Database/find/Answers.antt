use Rattle.std.proofs.Common.{subst}
use Rattle.sqlite_trees.specs.declared.memory.MemStore.{MemStore}
use Rattle.sqlite.specs.Held.{Held}
use Rattle.sqlite.proofs.Callers.{memory_is_clean}
use Rattle.member_sqlite.specs.Asked.{FindsAll}
use Rattle.member_sqlite.proofs.database.Database.find.Goals as goal

pub returns : goal.returns
returns c = subst (λ (h : Held MemStore). FindsAll c.args.entries.now h c.find_rows.new.conn c.find_rows.result) c.self.view_is (c.find_rows.ensures (memory_is_clean c.find_rows.new.conn))
