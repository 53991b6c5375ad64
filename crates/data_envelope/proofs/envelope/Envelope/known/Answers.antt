use Rattle.std.proofs.Common.{◌≡◌, ◌+◌, sym, ◌∙◌, arith, subst}
use Rattle.model_history.specs.History.{at, versions}
use Rattle.data_envelope.specs.Words.{parts_of}
use Rattle.data_envelope.proofs.Numbers.{copied_counts}
use Rattle.data_envelope.proofs.Reading.{IsFilledBelow, filled_none, filled_one, filled_nothing, filled_all, all_counted, unmarked}
use Rattle.data_envelope.proofs.envelope.Envelope.known.Goals as goal
use Rattle.data_envelope.proofs.envelope.Envelope.known.Goals.{in-Some+then-seq-gt0+in_ok-raise, in-Some+else-seq-gt0, in_default}

pub loop-number-init : goal.loop-number-init
loop-number-init g c = λ log entry s. filled_none (versions entry.history) c.new-known.result c.new-known.ensures

pub loop-number-preserved : goal.loop-number-preserved
loop-number-preserved g c = λ log entry s. elim c.match-new.branch [
  | in-Some+then-seq-gt0+in_ok-raise w ↦ filled_one (versions entry.history) c.loop-number.known c.match-new.known w.in-Some.id w.at-seq.result c.loop-number.number w.in-Some.ensures.value (omega arith)
      (w.at-seq.ensures.image log entry s) (w.known-is ∙ w.in_ok-raise.ensures.ok) (c.loop-number.invariant log entry s)
  | in-Some+else-seq-gt0 w ↦ subst (λ m. IsFilledBelow (versions entry.history) m (c.loop-number.number + 1)) (sym w.known-is)
      (filled_nothing (versions entry.history) c.loop-number.known w.in-Some.id c.loop-number.number w.in-Some.ensures.value (let none : at entry.history w.in-Some.id ≡ 0 = omega (arith, w.at-seq.ensures.image log entry s) in none) (c.loop-number.invariant log entry s))
  | in_default w ↦ absurd (let no = w.in_default.ensures.variant.1 (omega arith) in cc)
]

pub returns-then-is_empty : goal.returns-then-is_empty
returns-then-is_empty g c = record {
  image = λ log entry s. copied_counts c.copy.result c.args.self.now.versions (versions entry.history) (rw (← c.self.view_is) c.copy.ensures.same)
      (all_counted g.T.Replica.IsDataOf (parts_of c.args.self.now) log entry s (unmarked c.args.self.now.markers (rw (← c.self.view_is) (c.is_empty.ensures.0 c.if-is_empty.true))));
}

pub returns : goal.returns
returns g c = record {
  image = λ log entry s. filled_all (versions entry.history) c.loop-number.known c.loop-number.number (λ i l. c.limit-number-end.ensures.image log entry s i (omega arith)) (c.loop-number.invariant log entry s);
}
