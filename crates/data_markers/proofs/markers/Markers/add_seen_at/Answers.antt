use Rattle.std.proofs.Common.{ap, sym, ◌∙◌, refl}
use Rattle.data_markers.specs.Marks.{mark_of, marker_seen_by}
use Rattle.data_markers.proofs.Laws.{mark_of-insert_same, mark_of-insert_other}
use Rattle.data_markers.proofs.markers.Markers.add_seen_at.Goals as goal

pub returns-in-Some-clause-here : goal.returns-in-Some-clause-here
returns-in-Some-clause-here c =
    ap (λ m. mark_of m c.args.removed) c.replace.ensures ∙ mark_of-insert_same c.args.self.now c.args.removed c.args.removed c.in-Some.seen refl
    ∙ sym c.in-Some.ensures.some ∙ ap (marker_seen_by c.args.id c.args.view) c.get.ensures.value

pub returns-in-Some-clause-others : goal.returns-in-Some-clause-others
returns-in-Some-clause-others c = λ r ne. ap (λ m. mark_of m r) c.replace.ensures ∙ mark_of-insert_other c.args.self.now c.args.removed r c.in-Some.seen ne
