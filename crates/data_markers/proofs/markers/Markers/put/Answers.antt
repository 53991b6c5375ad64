use Rattle.std.proofs.Common.{ap, ◌∙◌}
use Rattle.std.specs.FinMap as map
use Rattle.data_markers.proofs.Views.{one_given}
use Rattle.data_markers.proofs.markers.Markers.put.Goals as goal
use Rattle.data_markers.proofs.markers.Markers.put.Goals.{in-Ok, in-Err}

pub returns-clause-ok : goal.returns-clause-ok
returns-clause-ok c = elim c.match-insert.branch [
  | in-Ok w ↦ rw w.result-is (
      one_given c.self.inside.marks.entries c.insert.new.self.entries c.number.result c.args.marker w.in-Ok.ensures.updates.0
      ∙ ap (λ m. map.insert m c.number.result c.args.marker) c.self.view_is ∙ ap (λ k. map.insert c.args.self.now k c.args.marker) c.number.ensures.value)
  | in-Err w ↦ rw w.result-is tt
]
