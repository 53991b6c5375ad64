use Rattle.trace_played.proofs.SeenRuns.{end_told}
use Rattle.trace_played.proofs.tracing.told.Goals as goal

pub returns : goal.returns
returns g c =
    end_told g.T.SpelledData c.args.world.now c.args.recorder c.see_end.new.recorder c.in_ok-see_end.ensures.saw c.into_trace.result c.into_trace.ensures c.trace_text.result c.trace_text.ensures.value c.trace_text.ensures.reads
