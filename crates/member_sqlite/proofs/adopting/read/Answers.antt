use Rattle.std.proofs.Common.{inl}
use Rattle.member_sqlite.proofs.adopting.read.Goals as goal

pub returns-in-Err-clause-read : goal.returns-in-Err-clause-read
returns-in-Err-clause-read g c clean = inl (c.in-Err.error, c.told.ensures, c.in-Err.ensures.err clean)
