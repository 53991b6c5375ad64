use Rattle.member_sqlite.proofs.statements.write.Goals as goal

pub returns-in-Ok-clause-ran : goal.returns-in-Ok-clause-ran
returns-in-Ok-clause-ran g c clean =
    rw (c.params-to_sql.ensures, c.params-to_sql-2.ensures, c.as_str.ensures.value, c.as_slice.ensures) at (c.in-Ok.ensures.runs clean)

pub returns-in-Err-clause-ran : goal.returns-in-Err-clause-ran
returns-in-Err-clause-ran g c clean =
    (c.in-Err.error, c.refusal_of.ensures, rw (c.params-to_sql.ensures, c.params-to_sql-2.ensures, c.as_str.ensures.value, c.as_slice.ensures) at (c.in-Err.ensures.runs clean))
