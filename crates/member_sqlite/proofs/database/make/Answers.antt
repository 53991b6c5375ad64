use Rattle.std.proofs.Common.{inl, inr}
use Rattle.sqlite.proofs.Callers.{memory_is_clean}
use Rattle.member_sqlite.proofs.database.make.Goals as goal

pub returns-in-Err : goal.returns-in-Err
returns-in-Err c = inl (c.in-Err.ensures (memory_is_clean c.run.new.conn))

pub returns-in-Err-prepare : goal.returns-in-Err-prepare
returns-in-Err-prepare c =
    inr (c.run.new.conn, c.in-Ok.field-0, c.in-Ok.ensures (memory_is_clean c.run.new.conn), inl (c.in-Err-prepare.ensures.err (memory_is_clean c.prepare.new.conn)))

pub returns-in-Err-prepare-2 : goal.returns-in-Err-prepare-2
returns-in-Err-prepare-2 c = inr (
  c.run.new.conn,
  c.in-Ok.field-0,
  c.in-Ok.ensures (memory_is_clean c.run.new.conn),
  inr (c.prepare.new.conn, c.in-Ok-prepare.ensures.ok (memory_is_clean c.prepare.new.conn), c.in-Err-prepare-2.ensures.err (memory_is_clean c.prepare-2.new.conn)),
)

pub returns-in-Ok-prepare-2 : goal.returns-in-Ok-prepare-2
returns-in-Ok-prepare-2 c = record {
  table = c.run.new.conn;
  count = c.in-Ok.field-0;
  made = c.in-Ok.ensures (memory_is_clean c.run.new.conn);
  mid = c.prepare.new.conn;
  change = c.in-Ok-prepare.ensures.ok (memory_is_clean c.prepare.new.conn);
  add = c.in-Ok-prepare-2.ensures.ok (memory_is_clean c.prepare-2.new.conn);
}

pub invariant_of-result : goal.invariant_of-result
invariant_of-result c = record { changes = c.in-Ok-prepare.ensures.text (memory_is_clean c.prepare.new.conn); adds = c.in-Ok-prepare-2.ensures.text (memory_is_clean c.prepare-2.new.conn) }
