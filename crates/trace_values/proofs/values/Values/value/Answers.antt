use Rattle.std.proofs.Common.{ap, sym, ◌∙◌}
use Rattle.model_kinds.specs.SixKinds.{six_kinds}
use Rattle.model_kinds.specs.declared.kind.Kind.TheVariants.{GCounter, PnCounter, GSet, OrSet, Flag, LwwRegister}
use Rattle.trace_values.proofs.Keeping.{if_ok, value_shown}
use Rattle.trace_values.proofs.values.Values.value.Goals as goal

pub returns-in-GCounter : goal.returns-in-GCounter
returns-in-GCounter c = λ made H stands rows history taken known_is free. if_ok c.count.result _ _ (λ shown is. is ∙ value_shown GCounter H free ∙ ap (λ kind. six_kinds.shown kind H) (sym c.in-GCounter.is)) (c.count.ensures made H stands taken known_is)

pub returns-in-PnCounter : goal.returns-in-PnCounter
returns-in-PnCounter c = λ made H stands rows history taken known_is free. if_ok c.balance.result _ _ (λ shown is. is ∙ value_shown PnCounter H free ∙ ap (λ kind. six_kinds.shown kind H) (sym c.in-PnCounter.is)) (c.balance.ensures made H stands taken known_is)

pub returns-in-Flag : goal.returns-in-Flag
returns-in-Flag c = λ made H stands rows history taken known_is free. if_ok c.switch.result _ _ (λ shown is. is ∙ value_shown Flag H free ∙ ap (λ kind. six_kinds.shown kind H) (sym c.in-Flag.is)) (c.switch.ensures made H stands taken known_is)

pub returns-in-LwwRegister : goal.returns-in-LwwRegister
returns-in-LwwRegister c = λ made H stands rows history taken known_is free. c.written.ensures made H stands rows history taken known_is ∙ value_shown LwwRegister H free ∙ ap (λ kind. six_kinds.shown kind H) (sym c.in-LwwRegister.is)

pub returns-in-GSet : goal.returns-in-GSet
returns-in-GSet c = λ made H stands rows history taken known_is free. if_ok c.growing.result _ _ (λ shown is. is ∙ value_shown GSet H free ∙ ap (λ kind. six_kinds.shown kind H) (sym c.in-GSet.is)) (c.growing.ensures made H stands history taken known_is)

pub returns-in-OrSet : goal.returns-in-OrSet
returns-in-OrSet c = λ made H stands rows history taken known_is free. if_ok c.lasting.result _ _ (λ shown is. is ∙ value_shown OrSet H free ∙ ap (λ kind. six_kinds.shown kind H) (sym c.in-OrSet.is)) (c.lasting.ensures made H stands rows history taken known_is)
