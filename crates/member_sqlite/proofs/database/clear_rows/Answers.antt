use Rattle.member_sqlite.proofs.database.clear_rows.Goals as goal

pub returns : goal.returns
returns g c clean = c.run_to.ensures clean
