use Rattle.std.proofs.Common.{◌≡◌, sym, ap, ◌∙◌, subst}
use Rattle.model_history.specs.Texts.{contains_text}
use Rattle.base_bytes.specs.TextOrder.{IsRising}
use Rattle.data_growing.proofs.Merging.{present_set}
use Rattle.data_growing.proofs.set.GSet.add.Goals as goal

pub returns-in_ok-of-in-None-clause-added : goal.returns-in_ok-of-in-None-clause-added
returns-in_ok-of-in-None-clause-added c =
    let same : c.deref.result.now ≡ c.args.self.now = c.deref.ensures.value ∙ c.self.view_is in
    present_set c.args.self.now c.args.element.now (subst IsRising c.self.view_is c.self.invariant) (ap (λ xs. contains_text xs c.args.element.now) (sym same) ∙ c.in-None.ensures.present)
