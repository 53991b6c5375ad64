use Rattle.std.proofs.Common.{Ok, Err, refl, subst}
use Rattle.top_lines.specs.Asking.{Asks}
use Rattle.top_lines.specs.Tellings.{Tells}
use Rattle.top_lines.specs.Answering.Answers.{answered, refused}
use Rattle.top_lines.specs.Answering.LeavesUntold.{same, asked}
use Rattle.top_lines.proofs.Readings.{match_more, match_ok}
use Rattle.top_lines.proofs.answering.answer_line.Goals as goal

pub returns-in-Ok : goal.returns-in-Ok
returns-in-Ok g c =
    let line = c.args.line.now in
    let input = c.in-Ok.input in
    let at_view = subst (λ view. Asks g.T.Replica g.T.SpelledData g.T.SpelledDelta view c.id.result line (Ok input)) c.view.ensures c.in-Ok.ensures in
    let asks = subst (λ id. Asks g.T.Replica g.T.SpelledData g.T.SpelledDelta c.args.member.now.view id line (Ok input)) c.id.ensures at_view in
    match_more c.made.result c.made.ensures (λ text makes. answered input asks makes) (λ error left. asked input asks left)

pub returns-in-Err-Refused : goal.returns-in-Err-Refused
returns-in-Err-Refused g c =
    let line = c.args.line.now in
    let refusal = c.in-Err-Refused.refusal in
    let told = subst (λ fault. Tells (Asks g.T.Replica g.T.SpelledData g.T.SpelledDelta c.view.result.now c.id.result line) (Err fault)) c.in-Err-Refused.field-0-is c.in-Err-Refused.ensures in
    let at_view = subst (λ view. Asks g.T.Replica g.T.SpelledData g.T.SpelledDelta view c.id.result line (Err refusal)) c.view.ensures told in
    let asks = subst (λ id. Asks g.T.Replica g.T.SpelledData g.T.SpelledDelta c.args.member.now.view id line (Err refusal)) c.id.ensures at_view in
    match_ok c.refused.result c.refused.ensures (λ text is. refused refusal asks refl is) (λ error. same refl)
