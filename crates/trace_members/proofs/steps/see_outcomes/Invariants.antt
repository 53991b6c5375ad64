use Rattle.std.proofs.Common.{flat_map, take}
use Rattle.trace_recorder.specs.Saw.{IsFormed}
use Rattle.trace_entries.specs.Seeing.{Sees}
use Rattle.trace_members.specs.Watching.{prune_seen}
use Rattle.trace_members.proofs.steps.see_outcomes.Given as goal

abbrev pub invariant-loop-told : goal.invariant-loop-told
invariant-loop-told l = Sees l.initial.recorder l.recorder (flat_map (prune_seen l.at) (take l.told-index l.outcomes)) × (IsFormed l.initial.recorder → IsFormed l.recorder)
