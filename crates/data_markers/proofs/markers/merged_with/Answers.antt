use Rattle.std.proofs.Common.{sym, subst, IfSome}
use Rattle.data_markers.specs.Kept.{IsMark}
use Rattle.data_markers.proofs.Keeping.{merged_mark}
use Rattle.data_markers.proofs.markers.merged_with.Goals as goal

pub returns-in-Some-clause-mark : goal.returns-in-Some-clause-mark
returns-in-Some-clause-mark c = subst IsMark (sym c.merge.ensures) (merged_mark c.in-Some.mine c.args.theirs (subst (λ o. IfSome o IsMark) c.in-Some.is c.requires.mine) c.requires.theirs)
