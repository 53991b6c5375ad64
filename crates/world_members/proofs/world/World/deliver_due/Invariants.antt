use Rattle.std.proofs.Common.{◌≤◌, max}
use Rattle.world_members.proofs.Rounding.{IsUpto}
use Rattle.world_members.proofs.world.World.deliver_due.Given as goal

abbrev pub invariant-loop-index : goal.invariant-loop-index
invariant-loop-index g l = record {
  within : l.index ≤ max l.fn.due.first l.fn.due.end;
  upto : IsUpto g.T.SpelledData l.fn.due l.index l.initial.self l.self l.initial.events l.events;
}
