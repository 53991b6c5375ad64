use Rattle.std.proofs.Common.{flat_map, take}
use Rattle.trace_recorder.specs.Saw.{IsFormed}
use Rattle.trace_entries.specs.Seeing.{Sees}
use Rattle.world_members.specs.declared.event.Event.{Event}
use Rattle.trace_members.specs.Watching.{made_seen}
use Rattle.trace_members.proofs.steps.see_records.Given as goal

abbrev pub invariant-loop-event : goal.invariant-loop-event
invariant-loop-event l = Sees l.initial.recorder l.recorder (flat_map (λ (e : Event). made_seen l.step e.answer) (take l.event-index l.events)) × (IsFormed l.initial.recorder → IsFormed l.recorder)
