use Rattle.std.proofs.Common.{sym, ◌∙◌, ap, arith}
use Rattle.std.specs.Ordering.{nat_cmp}
use Rattle.std.specs.FinMap.{get-empty}
use Rattle.data_markers.specs.Marks.{mark_of}
use Rattle.data_markers.proofs.Views.{no_entries, none_there, above_last}
use Rattle.data_markers.proofs.markers.Markers.limit.Goals as goal

pub returns-in-Some-clause-above : goal.returns-in-Some-clause-above
returns-in-Some-clause-above c = λ id l. ap (λ m. mark_of m id) (sym c.self.view_is)
    ∙ above_last c.self.inside.marks.entries c.in-Some.last.now id c.in-Some.ensures.greatest (omega arith)

pub returns-in-None-clause-above : goal.returns-in-None-clause-above
returns-in-None-clause-above c = λ id l. ap (λ m. mark_of m id) (sym c.self.view_is)
    ∙ ap (λ m. mark_of m id) (no_entries c.self.inside.marks.entries (none_there _ c.in-None.ensures.variant.1)) ∙ get-empty nat_cmp id
