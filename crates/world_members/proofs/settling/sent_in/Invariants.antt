use Rattle.std.proofs.Common.{◌≡◌, take}
use Rattle.world_members.specs.Settling.{sent_in}
use Rattle.world_members.proofs.settling.sent_in.Given as goal

abbrev pub invariant-loop-event : goal.invariant-loop-event
invariant-loop-event l = l.sent ≡ sent_in (take l.event-index l.events)
