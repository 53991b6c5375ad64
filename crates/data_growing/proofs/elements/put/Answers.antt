use Rattle.std.proofs.Common.{sym, ap, ◌∙◌}
use Rattle.model_history.specs.Texts.{contains_text}
use Rattle.data_growing.proofs.Merging.{present_set}
use Rattle.data_growing.proofs.elements.put.Goals as goal

pub returns-in-None-clause-ok : goal.returns-in-None-clause-ok
returns-in-None-clause-ok c = present_set c.args.texts.now.items c.args.text.now c.requires (ap (λ xs. contains_text xs c.args.text.now) (sym c.deref.ensures.value) ∙ c.in-None.ensures.present)
