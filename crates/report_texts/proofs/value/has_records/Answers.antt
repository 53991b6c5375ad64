use Rattle.std.proofs.Common.{◌<◌, inl, inr, sym, subst, arith}
use Rattle.std.proofs.lemmas.Bool.{cases_lt}
use Rattle.model_history.specs.Table.{identity_limit}
use Rattle.model_history.specs.History.{at}
use Rattle.report_texts.proofs.Records.{has_one, has_none}
use Rattle.report_texts.proofs.value.has_records.Goals as goal

pub returns-then-at-gt0 : goal.returns-then-at-gt0
returns-then-at-gt0 g c = λ log entry stands.
    let small : c.in-Some.id < identity_limit = omega (arith, c.in-Some.ensures.value, c.loop-number-test.true, c.limit-number-end.ensures.range) in
    let some : 0 < at entry.history c.in-Some.id = subst (λ n. 0 < n) (c.at.ensures.image log entry stands) c.if-at-gt0.true in
    sym (has_one entry c.in-Some.id small some)

pub returns : goal.returns
returns g c = λ log entry stands. sym (has_none entry (λ i small. elim (cases_lt i c.loop-number.number) [
  | inl below ↦ c.loop-number.invariant log entry stands i below
  | inr above ↦ c.limit-number-end.ensures.image log entry stands i (omega (arith, c.loop-number-test.false, above))
]))
