use Rattle.std.proofs.Common.{◌≡◌, [], ap, sym, ◌∙◌, subst, arith, Ok}
use Rattle.member_keeper.specs.Tables.{Table, put_all}
use Rattle.member_write_behind.specs.Gathering.{Gathered, LoadsBehind}
use Rattle.member_write_behind.proofs.Tellings.{loads}
use Rattle.member_write_behind.proofs.write_behind.WriteBehindKeeper.load.Goals as goal

pub returns : goal.returns
returns g c = record {
  gathers = subst
      (λ (w : Gathered g.row.D.Denot). LoadsBehind g.D.Keeper w (record { inner = c.load.new.self; period = c.self.inside.period; waiting = c.self.inside.waiting; pending = c.self.inside.pending.entries }) (λ loaded. loaded.items) (Ok c.in_ok-copies-2.field-0)) c.self.view_is
      (loads g.D.Keeper (record { inner = c.self.inside.inner; period = c.self.inside.period; waiting = c.self.inside.waiting; pending = c.self.inside.pending.entries }) c.load.new.self (λ loaded. loaded.items) c.in_ok-copies-2.field-0 c.in_ok-loaded.loaded.items c.load.ensures.table c.load.ensures.cause.later c.in_ok-loaded.ensures.loaded all);
}
  where
    all : c.in_ok-copies-2.field-0.items ≡ put_all (put_all [] c.in_ok-loaded.loaded.items) c.self.inside.pending.entries
    all = grind (arith, c.in_ok-copies-2.ensures.copies, c.put_all.ensures, c.put_all-2.ensures, c.in_ok-copies.ensures.copies, c.in_ok-copies.ensures.same, c.in_ok-later.ensures.copies, c.in_ok-later.ensures.same, c.new-table.ensures, c.entries.ensures.entries, c.deref.ensures.value)
