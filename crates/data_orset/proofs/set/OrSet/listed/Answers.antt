use Rattle.std.proofs.Common.{ap, ◌∙◌}
use Rattle.data_orset.specs.Dots.{shown_elements}
use Rattle.data_orset.proofs.Changes.{shown_is}
use Rattle.data_orset.proofs.set.OrSet.listed.Goals as goal

pub returns : goal.returns
returns c = c.from_vec.ensures ∙ c.in_ok-elements_of.ensures ∙ shown_is c.self.inside.dots ∙ ap shown_elements c.self.view_is
