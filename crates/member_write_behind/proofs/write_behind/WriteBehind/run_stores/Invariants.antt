use Rattle.std.proofs.Common.{◌≡◌, ◌≤◌, length, take}
use Rattle.std.specs.Vec.{vec_len, vec_capacity}
use Rattle.member_write_behind.proofs.Runs.{IsAfter}
use Rattle.member_write_behind.proofs.write_behind.WriteBehind.run_stores.Given as goal

abbrev pub invariant-loop-call : goal.invariant-loop-call
invariant-loop-call g l =
    IsAfter g.D.Keeper l.initial.self l.self (take l.call-index l.calls) l.answers.items
    × (vec_len l.answers ≡ l.call-index)
    × (length l.calls ≤ vec_capacity l.answers)
