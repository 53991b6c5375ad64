use Rattle.std.proofs.Common.{sym, subst}
use Rattle.report_lines.specs.Kept.{AreKept, IsPlayed}
use Rattle.top_call.specs.Answers.{IsSummaryOver}
use Rattle.top_call.specs.Due.{IsDueFor}
use Rattle.top_call.specs.declared.words.Asked.TheVariants.{Summarize}
use Rattle.top_call.proofs.Refusals.{summed_due}
use Rattle.top_call.proofs.answer.summary_due.Goals as goal

pub returns-in-Ok-clause-due : goal.returns-in-Ok-clause-due
returns-in-Ok-clause-due g c = λ read.
    subst (λ keepers. IsDueFor g.K.Keeper (Summarize c.args.n) read c.args.keepers.items keepers.items c.told.result.due) (sym c.told.ensures.keepers)
    (summed_due g.K.Keeper c.args.n read c.args.keepers.items c.play_to_the_end.result.keepers.items c.play_to_the_end.result.ending c.told.result.due
    (subst (λ script. IsPlayed g.K.Keeper (IsSummaryOver g.K.Keeper) script c.args.keepers.items c.play_to_the_end.result.keepers.items c.play_to_the_end.result.ending) c.in-Ok.ensures.script c.play_to_the_end.ensures) c.told.ensures.due)

pub returns-in-Ok-clause-kept : goal.returns-in-Ok-clause-kept
returns-in-Ok-clause-kept g c = subst (λ keepers. AreKept g.K.Keeper c.args.keepers.items keepers.items) (sym c.told.ensures.keepers) c.play_to_the_end.ensures.kept
