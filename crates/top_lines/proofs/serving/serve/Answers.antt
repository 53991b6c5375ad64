use Rattle.std.proofs.Common.{Ok, inr, subst, string_bytes}
use Rattle.std.specs.Io.KnownBytes.{Appends}
use Rattle.base_outside.specs.Transfers.{AppendsPrefix}
use Rattle.top_lines.specs.Answering.{Answers, LeavesUntold}
use Rattle.top_lines.specs.Rows.{ReadsNext}
use Rattle.top_lines.proofs.Served.{part_of_none, none_served, serves_next, stops_in_part, stops_by, stops_untold, stops_told_in_part}
use Rattle.top_lines.proofs.serving.serve.Goals as goal

pub loop-line-init : goal.loop-line-init
loop-line-init g c = none_served g.T.SpelledData g.T.SpelledDelta c.args.member.now (g.S.Source.left c.args.source.now) (g.W.Sink.written c.args.sink.now)

pub returns-in-Ok-None : goal.returns-in-Ok-None
returns-in-Ok-None g c =
    let left = g.S.Source.left in
    let written = g.W.Sink.written in
    let end = subst (λ found. ReadsNext (left c.loop-line.source) (left c.next_line.new.source) (Ok found)) c.in-Ok-None.field-0-is c.in-Ok-None.ensures in
    (stops_in_part g.T.SpelledData g.T.SpelledDelta c.args.member.now c.loop-line.member (left c.args.source.now) (left c.loop-line.source) (left c.next_line.new.source) (written c.args.sink.now) (written c.loop-line.sink) c.loop-line.invariant end.0, end.1)

pub returns-in-Err : goal.returns-in-Err
returns-in-Err g c =
    let left = g.S.Source.left in
    let written = g.W.Sink.written in
    rw c.stopped_by.ensures
    (stops_by g.T.SpelledData g.T.SpelledDelta c.in-Err.error c.args.member.now c.loop-line.member (left c.args.source.now) (left c.next_line.new.source) (written c.args.sink.now) (written c.loop-line.sink)
    (stops_in_part g.T.SpelledData g.T.SpelledDelta c.args.member.now c.loop-line.member (left c.args.source.now) (left c.loop-line.source) (left c.next_line.new.source) (written c.args.sink.now) (written c.loop-line.sink) c.loop-line.invariant c.in-Err.ensures))

pub returns-in-Err-answer_line : goal.returns-in-Err-answer_line
returns-in-Err-answer_line g c =
    let left = g.S.Source.left in
    let written = g.W.Sink.written in
    let read = subst (λ found. ReadsNext (left c.loop-line.source) (left c.next_line.new.source) (Ok found)) c.in-Ok-Some.field-0-is c.in-Ok-Some.ensures in
    let untold = subst (λ line. LeavesUntold g.T.SpelledData g.T.SpelledDelta c.loop-line.member line c.answer_line.new.member) c.as_slice.ensures.value c.in-Err-answer_line.ensures in
    inr (stops_untold g.T.SpelledData g.T.SpelledDelta c.args.member.now c.loop-line.member c.answer_line.new.member (left c.args.source.now) (left c.loop-line.source) (left c.next_line.new.source) (written c.args.sink.now) (written c.loop-line.sink) c.in-Ok-Some.line.items c.loop-line.invariant read untold)

pub returns-in-Err-write_all_of : goal.returns-in-Err-write_all_of
returns-in-Err-write_all_of g c =
    let left = g.S.Source.left in
    let written = g.W.Sink.written in
    let read = subst (λ found. ReadsNext (left c.loop-line.source) (left c.next_line.new.source) (Ok found)) c.in-Ok-Some.field-0-is c.in-Ok-Some.ensures in
    let text = string_bytes c.in-Ok.text in
    let answers = subst (λ line. Answers g.T.SpelledData g.T.SpelledDelta c.loop-line.member line c.answer_line.new.member text) c.as_slice.ensures.value c.in-Ok.ensures in
    let told = subst (λ bytes. AppendsPrefix (written c.loop-line.sink) (written c.write_all_of.new.sink) bytes) c.as_bytes.ensures.value c.in-Err-write_all_of.ensures.prefix in
    stops_told_in_part g.T.SpelledData g.T.SpelledDelta c.args.member.now c.loop-line.member c.answer_line.new.member (left c.args.source.now) (left c.loop-line.source) (left c.next_line.new.source) (written c.args.sink.now) (written c.loop-line.sink) (written c.write_all_of.new.sink) c.in-Ok-Some.line.items text c.loop-line.invariant read answers told

pub loop-line-preserved : goal.loop-line-preserved
loop-line-preserved g c =
    let left = g.S.Source.left in
    let written = g.W.Sink.written in
    let read = subst (λ found. ReadsNext (left c.loop-line.source) (left c.next_line.new.source) (Ok found)) c.in-Ok-Some.field-0-is c.in-Ok-Some.ensures in
    let text = string_bytes c.in-Ok.text in
    let answers = subst (λ line. Answers g.T.SpelledData g.T.SpelledDelta c.loop-line.member line c.answer_line.new.member text) c.as_slice.ensures.value c.in-Ok.ensures in
    let told = subst (λ bytes. Appends (written c.loop-line.sink) (written c.write_all_of.new.sink) bytes) c.as_bytes.ensures.value c.in-Ok-write_all_of.ensures.all in
    serves_next g.T.SpelledData g.T.SpelledDelta c.args.member.now c.loop-line.member c.answer_line.new.member (left c.args.source.now) (left c.loop-line.source) (left c.next_line.new.source) (written c.args.sink.now) (written c.loop-line.sink) (written c.write_all_of.new.sink) c.in-Ok-Some.line.items text c.loop-line.invariant read answers told

pub returns : goal.returns
returns g c =
    let left = g.S.Source.left in
    let written = g.W.Sink.written in
    stops_in_part g.T.SpelledData g.T.SpelledDelta c.args.member.now c.loop-line.member (left c.args.source.now) (left c.loop-line.source) (left c.loop-line.source) (written c.args.sink.now) (written c.loop-line.sink) c.loop-line.invariant (part_of_none (left c.loop-line.source))
