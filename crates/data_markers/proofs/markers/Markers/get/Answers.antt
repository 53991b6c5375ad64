use Rattle.std.proofs.Common.{IfSome, subst, ap, sym, ◌∙◌}
use Rattle.data_markers.specs.Marks.{mark_of}
use Rattle.data_markers.specs.Kept.{IsMark}
use Rattle.data_markers.proofs.Keeping.{if_marks}
use Rattle.data_markers.proofs.Views.{get_view}
use Rattle.data_markers.proofs.markers.Markers.get.Goals as goal

pub returns-clause-value : goal.returns-clause-value
returns-clause-value c = c.copied.ensures ∙ c.get.ensures.value ∙ sym (get_view c.self.inside.marks.entries c.number.result)
    ∙ ap (λ m. mark_of m c.number.result) c.self.view_is ∙ ap (mark_of c.args.self.now) c.number.ensures.value

pub returns-clause-few : goal.returns-clause-few
returns-clause-few c = λ id l. ap (λ m. mark_of m id) (sym c.self.view_is) ∙ get_view c.self.inside.marks.entries id ∙ c.self.invariant.few id l

pub returns-clause-mark : goal.returns-clause-mark
returns-clause-mark c = subst (λ o. IfSome o IsMark) (sym (c.copied.ensures ∙ c.get.ensures.value)) (if_marks _ (c.self.invariant.marks c.number.result))
