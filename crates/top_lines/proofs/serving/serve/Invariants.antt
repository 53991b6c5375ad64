use Rattle.top_lines.specs.Serving.{HasServed}
use Rattle.top_lines.proofs.serving.serve.Given as goal

abbrev pub invariant-loop-line : goal.invariant-loop-line
invariant-loop-line g l = HasServed g.T.SpelledData g.T.SpelledDelta l.initial.member l.member (g.S.Source.left l.initial.source) (g.S.Source.left l.source) (g.W.Sink.written l.initial.sink) (g.W.Sink.written l.sink)
