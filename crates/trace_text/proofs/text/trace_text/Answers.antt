use Rattle.std.proofs.Common.{sym, subst}
use Rattle.std.proofs.lemmas.Result.{IfOk-weaker}
use Rattle.trace_text.specs.Reading.{Spells}
use Rattle.trace_text.specs.Said.{AreSayable}
use Rattle.trace_text.proofs.Again.{spelled}
use Rattle.trace_text.proofs.text.trace_text.Goals as goal

pub returns-clause-reads : goal.returns-clause-reads
returns-clause-reads c =
    let says : AreSayable c.args.trace.now.lines = subst AreSayable c.as_slice.ensures c.line_texts.ensures in
    IfOk-weaker c.value_text.result _ _ (λ text e. subst (λ bytes. Spells bytes c.args.trace.now) (sym e) (spelled c.args.trace.now c.requires says)) c.value_text.ensures
