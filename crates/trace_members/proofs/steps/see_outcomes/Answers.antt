use Rattle.std.proofs.Common.{◌<◌, ◌≤◌, length, flat_map, subst, arith}
use Rattle.std.proofs.lemmas.List.{take_all}
use Rattle.trace_entries.specs.Seeing.{Sees}
use Rattle.trace_entries.proofs.SeenLines.{sees_nothing, sees_next, formed_both}
use Rattle.trace_members.specs.Watching.{prune_seen}
use Rattle.trace_members.proofs.steps.see_outcomes.Goals as goal

pub loop-told-init : goal.loop-told-init
loop-told-init c = (sees_nothing c.args.recorder.now, λ formed. formed)

pub loop-told-preserved : goal.loop-told-preserved
loop-told-preserved c =
    let outcomes = c.args.outcomes.now in
    let here : c.loop-told.told-index < length outcomes = omega (arith, c.loop-told-test.true) in (
      sees_next (prune_seen c.args.at) outcomes c.loop-told.told-index c.told-item.result c.args.recorder.now c.loop-told.recorder c.see_outcome.new.recorder here c.told-item.is c.loop-told.invariant.0 c.in_ok-see_outcome.ensures.saw,
      formed_both c.args.recorder.now c.loop-told.recorder c.see_outcome.new.recorder c.loop-told.invariant.1 c.in_ok-see_outcome.ensures.formed,
    )

pub returns-clause-saw : goal.returns-clause-saw
returns-clause-saw c =
    let outcomes = c.args.outcomes.now in
    let done : length outcomes ≤ c.loop-told.told-index = omega (arith, c.loop-told-test.false) in
    subst (λ os. Sees c.args.recorder.now c.loop-told.recorder (flat_map (prune_seen c.args.at) os)) (take_all c.loop-told.told-index outcomes done) c.loop-told.invariant.0

pub returns-clause-formed : goal.returns-clause-formed
returns-clause-formed c = c.loop-told.invariant.1
