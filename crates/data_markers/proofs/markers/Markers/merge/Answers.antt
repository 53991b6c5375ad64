use Rattle.std.proofs.Common.{◌+◌, ap, sym, ◌∙◌, subst, Some, arith}
use Rattle.data_markers.specs.Marks.{mark_of, merged_option}
use Rattle.data_markers.proofs.Merges.{IsMergedBelow, merged_none, merged_put, merged_nothing, merged_all, merged_with_none}
use Rattle.data_markers.proofs.markers.Markers.merge.Goals as goal
use Rattle.data_markers.proofs.markers.Markers.merge.Goals.{in-Some+in-Some-get+in_ok-put, in-Some+in_default-get, in_default}

pub loop-number-init : goal.loop-number-init
loop-number-init c = merged_none _ _

pub loop-number-preserved : goal.loop-number-preserved
loop-number-preserved c = elim c.match-new.branch [
  | in-Some+in-Some-get+in_ok-put w ↦ subst (λ k. IsMergedBelow c.in_ok-merged.merged c.args.other.now c.match-new.merged (k + 1)) w.in-Some.ensures.value
      (merged_put _ _ c.loop-number.merged _ w.in-Some.id w.in-Some-get.marker w.merged_with-both.result (w.merged-is ∙ w.in_ok-put.ensures.ok) (sym w.in-Some-get.ensures.value)
      (w.merged_with-both.ensures.merged ∙ ap (λ o. merged_option o (Some w.in-Some-get.marker)) (w.get-in-Some-get.ensures.value ∙ ap (λ m. mark_of m w.in-Some.id) (sym c.in_ok-merged.ensures)))
      (subst (IsMergedBelow c.in_ok-merged.merged c.args.other.now c.loop-number.merged) (sym w.in-Some.ensures.value) c.loop-number.invariant))
  | in-Some+in_default-get w ↦ rw w.merged-is (merged_nothing _ _ _ _ (ap (mark_of c.args.other.now) (sym w.in-Some.ensures.value) ∙ sym w.in_default-get.ensures.value) c.loop-number.invariant)
  | in_default w ↦ absurd (let no = w.in_default.ensures.variant.1 (omega arith) in cc)
]

pub returns-then-is_empty-clause-ok : goal.returns-then-is_empty-clause-ok
returns-then-is_empty-clause-ok c = merged_with_none c.args.self.now c.args.other.now (c.is_empty.ensures.0 c.if-is_empty.true)

pub returns-clause-ok : goal.returns-clause-ok
returns-clause-ok c = λ i. ap (λ m. mark_of m i) c.merged-2.view_is
    ∙ merged_all c.in_ok-merged.merged c.args.other.now c.loop-number.merged c.loop-number.number (λ q l. c.limit-number-end.ensures.above q (omega arith)) c.loop-number.invariant i
    ∙ ap (λ m. merged_option (mark_of m i) (mark_of c.args.other.now i)) c.in_ok-merged.ensures
