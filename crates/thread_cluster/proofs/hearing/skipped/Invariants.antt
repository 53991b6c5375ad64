use Rattle.std.proofs.Common.{◌≡◌, ◌-◌, drop}
use Rattle.thread_cluster.proofs.hearing.skipped.Given as goal

abbrev pub invariant-loop-i : goal.invariant-loop-i
invariant-loop-i g l = drop (l.count - l._i) l.messages.items ≡ drop l.count l.initial.messages.items
