use Rattle.std.proofs.Common.{sym, ◌∙◌}
use Rattle.data_markers.proofs.Views.{no_entries, entries_none}
use Rattle.data_markers.proofs.markers.Markers.is_empty.Goals as goal

pub returns : goal.returns
returns c = (
  λ t. sym c.self.view_is ∙ no_entries c.self.inside.marks.entries (c.is_empty.ensures.0 t),
  λ e. c.is_empty.ensures.1 (entries_none c.self.inside.marks.entries (c.self.view_is ∙ e)),
)
