use Rattle.std.proofs.Common.{ap, sym, ◌∙◌}
use Rattle.data_orset.specs.Dots.{Dots, set_mentioned}
use Rattle.data_orset.proofs.Changes.{mentioned_is}
use Rattle.data_orset.proofs.set.OrSet.has_dot_of.Goals as goal

pub returns : goal.returns
returns c = c.has_origin.ensures ∙ sym (mentioned_is c.self.inside.dots c.args.id) ∙ ap (λ (s : Dots). set_mentioned s c.args.id) c.self.view_is
