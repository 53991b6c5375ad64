use Rattle.std.proofs.Common.{◌∙◌, sym, ap, subst, rules, Some, None}
use Rattle.std.specs.Prelude.{is_some}
use Rattle.thread_machine.specs.Machines.{machine_at}
use Rattle.thread_section.specs.Worlds.{HasRun}
use Rattle.thread_section.proofs.Running.{has_run_some, has_run_none}
use Rattle.thread_section.proofs.giving.machine_of.Goals as goal

pub returns-in_default-clause-has_run : goal.returns-in_default-clause-has_run
returns-in_default-clause-has_run g c = has_run_none g.M.Machine (machine_at c.args.table.now.machines g.P.Spot.PLACE) (sym c.requires.given ∙ ap is_some {y = None} (search rules))

pub returns-clause-has_run : goal.returns-clause-has_run
returns-clause-has_run g c =
    subst (λ m. HasRun g.M.Machine (machine_at c.args.table.now.machines g.P.Spot.PLACE) (Some m)) (sym c.into_machine.ensures)
    (has_run_some g.M.Machine g.P.Spot.PLACE c.args.table.now _ _ _ (c.meet.ensures.began.0 ∙ sym c.meet.ensures.began.1 ∙ ap (λ s. s.began) c.note-note.ensures.note ∙ c.requires.began) c.facts.ensures.began)
