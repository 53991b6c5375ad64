use Rattle.std.proofs.Common.{ap, ◌∙◌, ap₂}
use Rattle.model_history.specs.Table.{identities}
use Rattle.std.specs.Prelude.{ℕ, pos, neg_ℤ, ◌+ℤ◌}
use Rattle.model_kinds.specs.declared.shown.Shown.TheVariants.{Signed}
use Rattle.base_vectors.specs.Vectors.{number_at}
use Rattle.trace_values.specs.declared.sums.Sums.{Sums}
use Rattle.trace_values.specs.Sums.{counted_sums}
use Rattle.trace_values.proofs.SumLaws.{added_is, taken_is}
use Rattle.trace_values.proofs.Keeping.{if_ok}
use Rattle.trace_values.proofs.values.Values.balance.Goals as goal

pub returns : goal.returns
returns c = λ made H stands taken known_is. if_ok c.difference.result _ _ (λ shown is.
    let sums = c.in_ok-sums.ensures ∙ ap (λ rows. counted_sums rows (number_at c.args.known.now) identities) c.as_slice.ensures.value in
    is ∙ ap₂ (λ (m n : ℕ). Signed (pos m +ℤ neg_ℤ (pos n)))
    (ap (λ (s : Sums). s.added) sums ∙ added_is c.args.self.now.sums.items made H stands.sums taken.part (number_at c.args.known.now) known_is)
    (ap (λ (s : Sums). s.taken) sums ∙ taken_is c.args.self.now.sums.items made H stands.sums taken.part (number_at c.args.known.now) known_is)) c.difference.ensures
