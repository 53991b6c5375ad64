use Rattle.std.proofs.Common.{length, refl, sym, ap, ◌∙◌}
use Rattle.std.proofs.lemmas.Bool.{ltb-true, ltb-false}
use Rattle.std.proofs.lemmas.Option.{slice_get_past, slice_get_read}
use Rattle.member_node.specs.Planning.{entry_told}
use Rattle.member_node.proofs.plan.ticked_entry.Goals as goal

pub returns-in-Some : goal.returns-in-Some
returns-in-Some g c =
    let place = c.args.place in
    let ticks = c.args.ticks.now in
    let found = c.in-Some.ensures.lookup in
    let within = ltb-true place (length ticks) (sym found.0) in
    c.as_ref.ensures.value ∙ sym (ap entry_told (slice_get_read ticks (length ticks) place c.in-Some.tick.now refl within found.1))

pub returns-in-None : goal.returns-in-None
returns-in-None g c =
    let place = c.args.place in
    let ticks = c.args.ticks.now in
    let past = ltb-false place (length ticks) (sym c.in-None.ensures.lookup.0) in
    sym (ap entry_told (slice_get_past ticks place past))
