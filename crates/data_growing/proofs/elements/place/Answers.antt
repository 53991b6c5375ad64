use Rattle.std.proofs.Common.{ap, sym, ◌∙◌}
use Rattle.model_history.specs.Texts.{contains_text}
use Rattle.data_growing.proofs.Searching.{contains_at}
use Rattle.data_growing.proofs.elements.place.Goals as goal

pub returns-in-Ok-clause-present : goal.returns-in-Ok-clause-present
returns-in-Ok-clause-present c = ap (contains_text c.args.elements.now) (sym c.in-Ok.ensures.1) ∙ contains_at c.args.elements.now c.in-Ok.field-0 c.in-Ok.ensures.0
