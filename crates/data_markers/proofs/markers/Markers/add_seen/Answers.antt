use Rattle.std.proofs.Common.{◌≡◌, ◌+◌, ap, sym, ◌∙◌, subst, subst₂, arith, true}
use Rattle.data_markers.specs.Marks.{mark_of, is_unseen_by, marker_seen_by}
use Rattle.data_markers.proofs.Seen.{IsSeenBelow, seen_one, seen_all, seen_any, or_true, or_false}
use Rattle.data_markers.proofs.markers.Markers.add_seen.Goals as goal
use Rattle.data_markers.proofs.markers.Markers.add_seen.Goals.{in-Some+then-add_seen_at, in-Some+else-add_seen_at, in_default}

pub loop-number-preserved : goal.loop-number-preserved
loop-number-preserved c = elim c.match-new.branch [
  | in-Some+then-add_seen_at w ↦ subst₂ (λ m b. IsSeenBelow c.args.id c.args.view c.args.self.now m b (c.loop-number.number + 1)) (sym w.self-is) (sym w.changed-is)
      (seen_one _ _ _ c.loop-number.self w.add_seen_at.new.self c.loop-number.changed true c.loop-number.number
      (subst (λ k. mark_of w.add_seen_at.new.self k ≡ marker_seen_by c.args.id c.args.view (mark_of c.loop-number.self k)) w.in-Some.ensures.value w.add_seen_at.ensures.here)
      (λ r ne. w.add_seen_at.ensures.others r (λ e. ne (e ∙ w.in-Some.ensures.value)))
      (or_true _ _ (ap (λ k. is_unseen_by c.args.id c.args.view (mark_of c.loop-number.self k)) (sym w.in-Some.ensures.value) ∙ sym w.add_seen_at.ensures.changed ∙ w.if-add_seen_at.true)) c.loop-number.invariant)
  | in-Some+else-add_seen_at w ↦ subst₂ (λ m b. IsSeenBelow c.args.id c.args.view c.args.self.now m b (c.loop-number.number + 1)) (sym w.self-is) (sym w.changed-is)
      (seen_one _ _ _ c.loop-number.self w.add_seen_at.new.self c.loop-number.changed c.loop-number.changed c.loop-number.number
      (subst (λ k. mark_of w.add_seen_at.new.self k ≡ marker_seen_by c.args.id c.args.view (mark_of c.loop-number.self k)) w.in-Some.ensures.value w.add_seen_at.ensures.here)
      (λ r ne. w.add_seen_at.ensures.others r (λ e. ne (e ∙ w.in-Some.ensures.value)))
      (or_false _ _ (ap (λ k. is_unseen_by c.args.id c.args.view (mark_of c.loop-number.self k)) (sym w.in-Some.ensures.value) ∙ sym w.add_seen_at.ensures.changed ∙ w.if-add_seen_at.false)) c.loop-number.invariant)
  | in_default w ↦ absurd (let no = w.in_default.ensures.variant.1 (omega arith) in cc)
]

pub returns-clause-marks : goal.returns-clause-marks
returns-clause-marks c = seen_all _ _ _ _ _ c.loop-number.number (λ r l. c.limit-number-end.ensures.above r (omega arith)) c.loop-number.invariant

pub returns-clause-changed : goal.returns-clause-changed
returns-clause-changed c = seen_any _ _ _ _ _ c.loop-number.number (omega arith) (λ r l. c.limit-number-end.ensures.above r (omega arith)) c.loop-number.invariant
