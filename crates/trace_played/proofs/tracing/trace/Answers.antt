use Rattle.std.proofs.Common.{sym, subst}
use Rattle.report_lines.specs.Kept.{IsPlayed}
use Rattle.report_lines.proofs.Runs.{gave_up, gave_back, back_as_they_are}
use Rattle.trace_played.specs.Seeing.{TracesSteps}
use Rattle.trace_played.specs.Traced.{IsTraceOver}
use Rattle.trace_played.proofs.TracedRuns.{formed_first, ends_traced}
use Rattle.trace_played.proofs.tracing.trace.Goals as goal

-- the recorder that has seen all steps keeps the bounds of traces
pub finished-requires : goal.finished-requires
finished-requires g c =
    c.in-Ok-traced_steps.ensures.formed
    (formed_first g.T.SpelledData c.args.script.now c.requires.script c.requires.named c.args.keepers.items c.in-Ok.world c.requires.keepers c.in-Ok.ensures c.in-Ok-recorder_of.recorder c.in-Ok-recorder_of.ensures.saw c.in-Ok-recorder_of.ensures.lines)

pub returns-in-Ok-traced_steps : goal.returns-in-Ok-traced_steps
returns-in-Ok-traced_steps g c =
    let first = c.in-Ok.world in
    let last = c.traced_steps.new.world in
    let before = c.in-Ok-recorder_of.recorder in
    let after = c.traced_steps.new.recorder in
    ends_traced g.T.SpelledData c.args.script.now c.requires.script c.requires.named c.args.keepers.items first c.requires.keepers c.in-Ok.ensures c.requires.plain c.requires.unsettled
    c.finished.result.keepers.items last before after c.in-Ok-recorder_of.ensures.saw
    (subst (λ steps. TracesSteps g.T.SpelledData steps first last before after) c.as_slice.ensures c.in-Ok-traced_steps.ensures.traced) c.finished.ensures.keepers c.finished.result.ending c.finished.ensures.ending

pub returns-in-Err-recorder_of : goal.returns-in-Err-recorder_of
returns-in-Err-recorder_of g c =
    subst (IsPlayed g.K.Keeper (IsTraceOver g.T.Replica.data_type g.T.SpelledData.history_byte g.T.SpelledData.history_spelled g.K.Keeper) c.args.script.now c.args.keepers.items c.ended.result.keepers.items) (sym c.ended.ensures.ending)
    (gave_back g.T.SpelledData c.args.script.now c.requires.script c.args.keepers.items c.in-Ok.world c.requires.keepers c.in-Ok.ensures
    (IsTraceOver g.T.Replica.data_type g.T.SpelledData.history_byte g.T.SpelledData.history_spelled g.K.Keeper) c.ended.result.keepers.items (back_as_they_are c.in-Ok.world c.ended.result.keepers.items c.ended.ensures.keepers))

pub returns-in-Err-traced_steps : goal.returns-in-Err-traced_steps
returns-in-Err-traced_steps g c =
    gave_up g.T.SpelledData c.args.script.now c.requires.script c.args.keepers.items c.in-Ok.world c.requires.keepers c.in-Ok.ensures
    (IsTraceOver g.T.Replica.data_type g.T.SpelledData.history_byte g.T.SpelledData.history_spelled g.K.Keeper) c.ended-in-Err-traced_steps.result.keepers.items c.traced_steps.new.world c.ended-in-Err-traced_steps.result.ending
    c.in-Err-traced_steps.ensures.traced c.ended-in-Err-traced_steps.ensures.keepers c.ended-in-Err-traced_steps.ensures.ending
