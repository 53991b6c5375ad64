use Rattle.std.proofs.Common.{ap, ◌∙◌}
use Rattle.std.specs.FinSet as set
use Rattle.data_orset.specs.Dots.{Dots}
use Rattle.data_orset.specs.Keeping.{is_other_key}
use Rattle.data_orset.proofs.set.OrSet.with_all_at.Goals as goal

pub returns : goal.returns
returns c =
    c.in_ok-next.ensures ∙ ap (λ (s : Dots). set.union s c.in_ok-moved.moved) c.in_ok-left.ensures ∙ ap (λ (s : Dots). set.union (set.retain c.args.self.now (is_other_key c.args.texts.now)) s) c.in_ok-moved.ensures
