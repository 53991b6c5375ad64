use Rattle.std.proofs.Common.{subst}
use Rattle.sqlite_trees.specs.declared.memory.MemStore.{MemStore}
use Rattle.sqlite.specs.Held.{Held}
use Rattle.sqlite.proofs.Callers.{memory_is_clean}
use Rattle.member_sqlite.specs.Asked.{PutsAll}
use Rattle.member_sqlite.proofs.database.Database.put_all.Goals as goal

pub returns : goal.returns
returns c = subst (λ (h : Held MemStore). PutsAll c.args.entries.now h c.put_rows.new.conn c.put_rows.result) c.self.view_is (c.put_rows.ensures (memory_is_clean c.put_rows.new.conn))
