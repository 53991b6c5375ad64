use Rattle.std.proofs.Common.{sym, subst}
use Rattle.model_traces.specs.Runs.{of_node}
use Rattle.world_places.specs.Standing.{StandsForRunning}
use Rattle.trace_entries.specs.Seeing.{Sees, looked_at}
use Rattle.trace_entries.proofs.SeenLines.{on_ok, sees_nothing}
use Rattle.trace_members.proofs.members.see_seat.Goals as goal

pub returns-in-Some-clause-saw : goal.returns-in-Some-clause-saw
returns-in-Some-clause-saw g c = λ D kinds logs here same stands.
    let runs = subst (λ o. StandsForRunning g.T.SpelledData kinds logs o (here.nodes c.args.at)) (sym c.in-Some.ensures) (stands.running c.args.at) in
    on_ok c.see_node.result _ _ (λ saw. subst (λ o. Sees c.args.recorder.now c.see_node.new.recorder (of_node (looked_at D c.args.look) c.args.at o)) (sym runs.1) saw)
    (c.see_node.ensures.saw D kinds logs runs.0 same runs.2)

pub returns-in-None-clause-saw : goal.returns-in-None-clause-saw
returns-in-None-clause-saw g c = λ D kinds logs here same stands.
    let gone = subst (λ o. StandsForRunning g.T.SpelledData kinds logs o (here.nodes c.args.at)) (sym c.in-None.ensures) (stands.running c.args.at) in
    subst (λ o. Sees c.args.recorder.now c.args.recorder.now (of_node (looked_at D c.args.look) c.args.at o)) (sym gone) (sees_nothing c.args.recorder.now)
