use Rattle.std.proofs.Common.{sym, ◌∙◌, ap, map, string_bytes}
use Rattle.std.specs.Prelude.{filter_map}
use Rattle.model_history.specs.Table.{identities}
use Rattle.model_members.specs.Report.{words_or_dash}
use Rattle.data_envelope.specs.Words.{parts_of}
use Rattle.report_texts.specs.Entries.{marks_text}
use Rattle.report_texts.specs.Marks.{marker_word}
use Rattle.report_texts.proofs.MarkTexts.{marks_told}
use Rattle.report_texts.proofs.marks.push_marks.Goals as goal

pub returns : goal.returns
unfolding marks_text
returns g c = λ log entry stands.
    let texts = ap (map string_bytes) c.as_slice.ensures ∙ c.in_ok-texts.ensures ∙ ap (λ marks. filter_map (marker_word marks) identities) c.markers.ensures.value in
    let told = ap words_or_dash texts ∙ sym (marks_told g.T.Replica.IsDataOf (parts_of c.args.envelope.now) log entry stands) in
    rw told at c.push_words_or_dash.ensures
