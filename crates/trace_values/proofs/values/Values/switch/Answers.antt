use Rattle.std.proofs.Common.{ap, ◌∙◌}
use Rattle.model_history.specs.Table.{identities}
use Rattle.model_kinds.specs.declared.shown.Shown.TheVariants.{Switch}
use Rattle.base_vectors.specs.Vectors.{number_at}
use Rattle.trace_values.specs.declared.sums.Sums.{Sums}
use Rattle.trace_values.specs.Sums.{counted_sums}
use Rattle.trace_values.proofs.SumLaws.{enabled_is}
use Rattle.trace_values.proofs.values.Values.switch.Goals as goal

pub returns : goal.returns
returns c = λ made H stands taken known_is. ap Switch (
    ap (λ (s : Sums). s.enabled) (c.in_ok-sums.ensures ∙ ap (λ rows. counted_sums rows (number_at c.args.known.now) identities) c.as_slice.ensures.value)
    ∙ enabled_is c.args.self.now.sums.items made H stands.sums taken.part (number_at c.args.known.now) known_is)
