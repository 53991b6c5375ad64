use Rattle.std.proofs.Common.{◌≡◌}
use Rattle.trial_turns.proofs.hearing.all_flushed.Given as goal

-- the session stays at the table
abbrev pub invariant-loop-time : goal.invariant-loop-time
invariant-loop-time g l = l.session.seen.table ≡ g.N.Name.table
