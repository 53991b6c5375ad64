use Rattle.std.proofs.Common.{◌<◌, ◌≤◌, nat_lt, ap, sym, ◌∙◌, arith}
use Rattle.model_history.specs.Table.{identity_limit}
use Rattle.model_history.specs.History.{at}
use Rattle.base_vectors.proofs.Walks.{any_identity, none_more, any_end}
use Rattle.data_envelope.proofs.Reading.{some_test, none_test}
use Rattle.data_envelope.proofs.envelope.Envelope.has_records.Goals as goal
use Rattle.data_envelope.proofs.envelope.Envelope.has_records.Goals.{in-Some+else-at-gt0, in_default}

pub returns-then-at-gt0 : goal.returns-then-at-gt0
returns-then-at-gt0 g c = record {
  image = λ log entry s.
      let few : c.in-Some.id < identity_limit = omega (arith, c.in-Some.ensures.value) in
      let some : 0 < at entry.history c.in-Some.id = omega (arith, c.at.ensures.image log entry s) in
      sym (any_identity (λ i. nat_lt 0 (at entry.history i)) c.in-Some.id few (some_test _ some));
}

pub loop-number-preserved : goal.loop-number-preserved
loop-number-preserved g c = λ log entry s. elim c.match-new.branch [
  | in-Some+else-at-gt0 w ↦
      let none : at entry.history w.in-Some.id ≤ 0 = omega (arith, w.at.ensures.image log entry s) in
      none_more (λ i. nat_lt 0 (at entry.history i)) c.loop-number.number (c.loop-number.invariant log entry s) (ap (λ i. nat_lt 0 (at entry.history i)) (sym w.in-Some.ensures.value) ∙ none_test _ none)
  | in_default w ↦ absurd (let no = w.in_default.ensures.variant.1 (omega arith) in cc)
]

pub returns : goal.returns
returns g c = record {
  image = λ log entry s.
      sym (c.loop-number.invariant log entry s)
      ∙ any_end (λ i. nat_lt 0 (at entry.history i)) c.loop-number.number (omega arith) (λ i l. ap (nat_lt 0) (c.limit-number-end.ensures.image log entry s i (omega arith)) ∙ none_test 0 (omega arith));
}
