use Rattle.std.proofs.Common.{ap, sym, ◌∙◌}
use Rattle.std.specs.Str.{bytes_eq}
use Rattle.data_orset.specs.Placing.{Placed}
use Rattle.data_orset.specs.Dots.{is_element}
use Rattle.data_orset.specs.Keeping.{set_of}
use Rattle.data_orset.proofs.SetsOfDots.{filtered_set, filtered_dots}
use Rattle.data_orset.proofs.Between.{named_run}
use Rattle.data_orset.proofs.set.OrSet.named.Goals as goal

pub invariant_of-result : goal.invariant_of-result
invariant_of-result c =
    filtered_dots (λ (p : Placed). bytes_eq c.args.element.now p.element) c.self.inside.dots c.in_ok-dots.dots c.self.invariant
    (c.in_ok-dots.ensures ∙ sym (named_run c.self.inside.dots c.args.element.now c.run_of-run.result.0 c.run_of-run.result.1 c.run_of-run.ensures))

pub returns : goal.returns
returns c =
    ap set_of (c.in_ok-dots.ensures ∙ sym (named_run c.self.inside.dots c.args.element.now c.run_of-run.result.0 c.run_of-run.result.1 c.run_of-run.ensures))
    ∙ filtered_set (is_element c.args.element.now) c.self.inside.dots c.args.self.now c.self.view_is
