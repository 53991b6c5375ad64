use Rattle.std.proofs.Common.{inl}
use Rattle.member_sqlite.proofs.adopting.check.Goals as goal

pub returns-clause-checked : goal.returns-clause-checked
returns-clause-checked g c clean = inl (c.in-Err.error, c.told.ensures, c.in-Err.ensures.err clean)
