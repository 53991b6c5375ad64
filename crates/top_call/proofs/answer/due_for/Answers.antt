use Rattle.std.proofs.Common.{sym, subst}
use Rattle.top_call.specs.Due.{IsDueFor}
use Rattle.top_call.specs.Passages.{reading}
use Rattle.top_call.proofs.Refusals.{generated_due}
use Rattle.top_call.proofs.answer.due_for.Goals as goal

pub returns-in-Generate-clause-due : goal.returns-in-Generate-clause-due
returns-in-Generate-clause-due g c =
    let read = reading g.S.Source c.args.source.now c.args.source.now in
    subst (λ asked. IsDueFor g.K.Keeper asked read c.args.keepers.items c.args.keepers.items c.script_due.result) (sym c.in-Generate.is) (generated_due g.K.Keeper c.in-Generate.n read c.args.keepers.items c.script_due.result c.script_due.ensures)

pub returns-in-Summarize-clause-due : goal.returns-in-Summarize-clause-due
returns-in-Summarize-clause-due g c =
    let read = reading g.S.Source c.args.source.now c.args.source.now in
    subst (λ asked. IsDueFor g.K.Keeper asked read c.args.keepers.items c.summary_due.result.keepers.items c.summary_due.result.due) (sym c.in-Summarize.is) (c.summary_due.ensures.due read)
