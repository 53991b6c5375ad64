use Rattle.std.proofs.Common.{◌<◌, ap, sym, ◌∙◌, arith}
use Rattle.model_history.specs.Table.{identity_limit}
use Rattle.base_vectors.proofs.Walks.{not_all_identities, all_one_more, all_end}
use Rattle.data_envelope.specs.Words.{parts_of, is_unchanged_at}
use Rattle.data_envelope.proofs.Reading.{unmarked, same_counts, unchanged_above}
use Rattle.data_envelope.proofs.envelope.Envelope.is_unchanged.Goals as goal
use Rattle.data_envelope.proofs.envelope.Envelope.is_unchanged.Goals.{in-Some+else-not-is_unchanged_at, in_default}

pub returns-then-not-is_unchanged_at : goal.returns-then-not-is_unchanged_at
returns-then-not-is_unchanged_at g c = record {
  image = λ log old new s t.
      let few : c.in-Some.id < identity_limit = omega (arith, c.in-Some.ensures.value) in
      sym (not_all_identities (is_unchanged_at old new) c.in-Some.id few (sym (c.is_unchanged_at.ensures.image log old new s t) ∙ c.if-not-is_unchanged_at.true));
}

pub loop-number-preserved : goal.loop-number-preserved
loop-number-preserved g c = λ log old new s t. elim c.match-new.branch [
  | in-Some+else-not-is_unchanged_at w ↦
      all_one_more (is_unchanged_at old new) c.loop-number.number (c.loop-number.invariant log old new s t)
      (ap (is_unchanged_at old new) (sym w.in-Some.ensures.value) ∙ sym (w.is_unchanged_at.ensures.image log old new s t) ∙ w.if-not-is_unchanged_at.false)
  | in_default w ↦ absurd (let no = w.in_default.ensures.variant.1 (omega arith) in cc)
]

pub returns-then-are_unmarked : goal.returns-then-are_unmarked
returns-then-are_unmarked g c = record {
  image = λ log old new s t.
      let none = c.are_unmarked.ensures.0 c.if-are_unmarked.true in
      same_counts g.T.Replica.IsDataOf (parts_of c.args.since.now) (parts_of c.args.self.now) log old new c.same.result s t (unmarked c.args.since.now.markers none.1) (unmarked c.args.self.now.markers none.0) (rw (← c.self.view_is, ← c.since.view_is) c.same.ensures);
}

pub returns : goal.returns
returns g c = record {
  image = λ log old new s t.
      sym (c.loop-number.invariant log old new s t)
      ∙ all_end (is_unchanged_at old new) c.loop-number.number (omega arith) (λ i l.
      unchanged_above g.T.Replica.IsDataOf (parts_of c.args.since.now) (parts_of c.args.self.now) log old new i s t (c.limit-2.ensures.marks i (omega arith)) (c.limit.ensures.marks i (omega arith))
      (c.limit-2.ensures.image log old s i (omega arith)) (c.limit.ensures.image log new t i (omega arith)));
}
