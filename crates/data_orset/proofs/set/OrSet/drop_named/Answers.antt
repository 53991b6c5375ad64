use Rattle.std.proofs.Common.{not, ap, sym, ◌∙◌}
use Rattle.std.specs.List.{list_any}
use Rattle.std.specs.Str.{bytes_eq}
use Rattle.data_orset.specs.Placing.{Placed}
use Rattle.data_orset.specs.Dots.{is_element}
use Rattle.data_orset.specs.Keeping.{set_of}
use Rattle.data_orset.proofs.SetsOfDots.{filtered_set, filtered_dots}
use Rattle.data_orset.proofs.Between.{unnamed_run, none_named}
use Rattle.data_orset.proofs.set.OrSet.drop_named.Goals as goal

pub forget-requires : goal.forget-requires
forget-requires c =
    ap (list_any (λ (p : Placed). bytes_eq c.args.element.now p.element)) (c.drop_between.ensures ∙ sym (unnamed_run c.self.inside.dots c.args.element.now c.run_of-run.result.0 c.run_of-run.result.1 c.run_of-run.ensures))
    ∙ none_named c.self.inside.dots c.args.element.now

pub invariant_of-self : goal.invariant_of-self
invariant_of-self c =
    filtered_dots (λ (p : Placed). not (bytes_eq c.args.element.now p.element)) c.self.inside.dots c.forget.new.self c.self.invariant
    (c.forget.ensures ∙ c.drop_between.ensures ∙ sym (unnamed_run c.self.inside.dots c.args.element.now c.run_of-run.result.0 c.run_of-run.result.1 c.run_of-run.ensures))

pub returns : goal.returns
returns c =
    ap set_of (c.forget.ensures ∙ c.drop_between.ensures ∙ sym (unnamed_run c.self.inside.dots c.args.element.now c.run_of-run.result.0 c.run_of-run.result.1 c.run_of-run.ensures))
    ∙ filtered_set (λ k. not (is_element c.args.element.now k)) c.self.inside.dots c.args.self.now c.self.view_is
