use Rattle.std.proofs.Common.{length, sym, ap, ◌∙◌, false}
use Rattle.member_node.proofs.Common.{needed, level_meant}
use Rattle.member_node.proofs.Updates.{deleted_as}
use Rattle.member_node.proofs.node.Node.in_place.Goals as goal

pub returns-in-Ok : goal.returns-in-Ok
returns-in-Ok g c = record {
  at = c.index-state.result.now;
  found = c.in-Some.ensures;
  there = c.index-state.ensures;
  undeleted = deleted_as g.T.Replica c.entry.result.now c.index-state.result.now.entry c.closed.result false c.entry.ensures c.closed.ensures.image c.if-closed.false;
  fits = sym c.fits.ensures ∙ c.if-not-fits.false;
  volatile = c.if-state.false;
  number = c.in-Ok.number;
  enough = ap (needed (level_meant c.args.level)) (ap length (sym c.members-members.ensures.members)) ∙ c.in-Ok.ensures.enough;
  alone = c.if-number-le1.true;
}
