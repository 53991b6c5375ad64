use Rattle.trace_entries.proofs.SeenLines.{on_ok}
use Rattle.trace_members.proofs.SeenWorlds.{sees_step}
use Rattle.trace_members.proofs.watching.see_step.Goals as goal

pub returns-clause-saw : goal.returns-clause-saw
returns-clause-saw g c = on_ok c.see_gets.result _ _ (λ gets.
    sees_step g.T.SpelledData c.args.step.now c.args.world.now c.args.events.now c.args.recorder.now c.see_records.new.recorder c.see_members.new.recorder c.see_gets.new.recorder c.in_ok-see_records.ensures.saw c.in_ok-see_members.ensures.saw gets) c.see_gets.ensures.saw

pub returns-clause-formed : goal.returns-clause-formed
returns-clause-formed g c = on_ok c.see_gets.result _ _ (λ gets formed. gets (c.in_ok-see_members.ensures.formed (c.in_ok-see_records.ensures.formed formed))) c.see_gets.ensures.formed
