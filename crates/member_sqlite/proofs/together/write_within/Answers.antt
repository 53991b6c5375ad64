use Rattle.std.proofs.Common.{Ok, Err, inl, inr, refl}
use Rattle.std.proofs.lemmas.Bool.{cases_Bool}
use Rattle.sqlite.specs.Held.{state}
use Rattle.member_sqlite.specs.Rows.{values_of}
use Rattle.member_sqlite.proofs.Putting.{ran_keeps}
use Rattle.member_sqlite.proofs.together.write_within.Goals as goal

pub returns-in-Ok-clause-ran : goal.returns-in-Ok-clause-ran
returns-in-Ok-clause-ran g c clean inside =
    rw (c.params-to_sql.ensures, c.params-to_sql-2.ensures, c.as_str.ensures.value, c.as_slice.ensures) at (c.in-Ok.ensures.runs clean inside)

pub returns-in-Err-clause-ran : goal.returns-in-Err-clause-ran
returns-in-Err-clause-ran g c clean inside =
    (c.in-Err.error, c.refusal_of.ensures, rw (c.params-to_sql.ensures, c.params-to_sql-2.ensures, c.as_str.ensures.value, c.as_slice.ensures) at (c.in-Err.ensures.runs clean inside))

pub returns-in-Ok-clause-kept : goal.returns-in-Ok-clause-kept
returns-in-Ok-clause-kept g c clean = elim (cases_Bool (state g.S.Store c.args.all.now.conn.now).in_transaction) [
  | inl within ↦ ran_keeps g.S.Store c.args.statement.now.text (values_of c.args.entry.now) c.args.all.now.conn.now c.execute_prepared.new.self.conn.now (Ok c.in-Ok.count)
      (rw (c.params-to_sql.ensures, c.params-to_sql-2.ensures, c.as_str.ensures.value, c.as_slice.ensures) at (c.in-Ok.ensures.runs clean within))
  | inr outside ↦ absurd (let refused = (c.in-Ok.ensures.ended outside).0 in cc)
]

pub returns-in-Err-clause-kept : goal.returns-in-Err-clause-kept
returns-in-Err-clause-kept g c clean = elim (cases_Bool (state g.S.Store c.args.all.now.conn.now).in_transaction) [
  | inl within ↦ ran_keeps g.S.Store c.args.statement.now.text (values_of c.args.entry.now) c.args.all.now.conn.now c.execute_prepared.new.self.conn.now (Err c.refusal_of.result)
      (c.in-Err.error, c.refusal_of.ensures, rw (c.params-to_sql.ensures, c.params-to_sql-2.ensures, c.as_str.ensures.value, c.as_slice.ensures) at (c.in-Err.ensures.runs clean within))
  | inr outside ↦ rw (c.in-Err.ensures.ended outside).1 (record { was_open = λ h. h; committed = λ _. refl })
]
