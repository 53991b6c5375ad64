use Rattle.std.proofs.Common.{◌≡◌, IfOk, subst}
use Rattle.data_orset.specs.Dots.{Dots}
use Rattle.data_orset.proofs.Changes.{united_is}
use Rattle.data_orset.proofs.set.OrSet.united.Goals as goal

pub returns : goal.returns
returns c = subst (λ (s : Dots). IfOk c.merged_with.result (λ all. all ≡ s)) (united_is c.args.self.now c.args.other.now) c.merged_with.ensures
