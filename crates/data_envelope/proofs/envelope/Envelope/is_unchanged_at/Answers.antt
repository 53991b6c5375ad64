use Rattle.std.proofs.Common.{ap, sym, ◌∙◌}
use Rattle.std.proofs.lemmas.Bool.{eq-eqb}
use Rattle.model_members.specs.Entry.{is_same_mark}
use Rattle.data_markers.specs.Marks.{mark_of, begun}
use Rattle.data_envelope.proofs.Reading.{second_is}
use Rattle.data_envelope.proofs.envelope.Envelope.is_unchanged_at.Goals as goal

pub returns-then-at : goal.returns-then-at
returns-then-at g c = record {
  image = λ log old new s t. sym (second_is _ _ _ (eq-eqb _ _ (sym (c.at-2.ensures.image log old s) ∙ sym c.if-at.true ∙ c.at.ensures.image log new t))
      (ap (λ m. is_same_mark m (new.marks c.args.id)) (s.marks c.args.id) ∙ ap (is_same_mark (begun (mark_of c.args.since.now.markers c.args.id))) (t.marks c.args.id) ∙ rw (← c.self.view_is, ← c.since.view_is) (sym c.same_begun.ensures)));
}
