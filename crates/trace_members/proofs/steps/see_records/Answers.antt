use Rattle.std.proofs.Common.{◌<◌, ◌≤◌, length, flat_map, subst, arith}
use Rattle.std.proofs.lemmas.List.{take_all}
use Rattle.world_members.specs.declared.event.Event.{Event}
use Rattle.trace_entries.specs.Seeing.{Sees}
use Rattle.trace_entries.proofs.SeenLines.{sees_nothing, sees_next, formed_both}
use Rattle.trace_members.specs.Watching.{made_seen}
use Rattle.trace_members.proofs.steps.see_records.Goals as goal

pub loop-event-init : goal.loop-event-init
loop-event-init c = (sees_nothing c.args.recorder.now, λ formed. formed)

pub loop-event-preserved : goal.loop-event-preserved
loop-event-preserved c =
    let events = c.args.events.now in
    let here : c.loop-event.event-index < length events = omega (arith, c.loop-event-test.true) in (
      sees_next (λ (e : Event). made_seen c.args.step.now e.answer) events c.loop-event.event-index c.event-item.result c.args.recorder.now c.loop-event.recorder c.see_made.new.recorder here c.event-item.is c.loop-event.invariant.0 c.in_ok-see_made.ensures.saw,
      formed_both c.args.recorder.now c.loop-event.recorder c.see_made.new.recorder c.loop-event.invariant.1 c.in_ok-see_made.ensures.formed,
    )

pub returns-clause-saw : goal.returns-clause-saw
returns-clause-saw c =
    let events = c.args.events.now in
    let done : length events ≤ c.loop-event.event-index = omega (arith, c.loop-event-test.false) in
    subst (λ es. Sees c.args.recorder.now c.loop-event.recorder (flat_map (λ (e : Event). made_seen c.args.step.now e.answer) es)) (take_all c.loop-event.event-index events done) c.loop-event.invariant.0

pub returns-clause-formed : goal.returns-clause-formed
returns-clause-formed c = c.loop-event.invariant.1
