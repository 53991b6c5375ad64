use Rattle.std.proofs.Common.{◌≡◌, ◌++◌, sym, ap, subst, ◌∙◌, string_bytes}
use Rattle.std.specs.Prelude.{codes}
use Rattle.data_envelope.specs.Images.{StandsFor}
use Rattle.data_envelope.specs.Words.{parts_of}
use Rattle.report_texts.specs.Entries.{value_text, known_text, marks_text}
use Rattle.report_lines.proofs.FinalBlocks.{seven_more}
use Rattle.report_lines.proofs.members.push_key.Goals as goal

pub returns : goal.returns
returns g c = λ kinds logs entry flushed stands.
    let state = c.args.key.now in
    let name = state.name in
    let image = subst (λ envelope. StandsFor g.T.Replica.IsDataOf (parts_of envelope) (logs name) entry) (sym c.entry-entry.ensures) stands.held.image in
    let kind : g.T.Replica.kind_of c.entry-entry.result.now.value ≡ state.kind = ap (λ envelope. g.T.Replica.kind_of envelope.value) c.entry-entry.ensures ∙ stands.held.kind ∙ stands.kind in
    seven_more (string_bytes c.args.text.now) (string_bytes c.write.new.self) (string_bytes c.push_value.new.text) (string_bytes c.push_str.new.self) (string_bytes c.push_known.new.text) (string_bytes c.push_str-2.new.self)
    (string_bytes c.push_marks.new.text) (string_bytes c.push_str-3.new.self) (name ++ codes " ") (value_text (g.T.Replica.data_type.shown state.kind) entry) (codes " known ") (known_text entry) (codes " marks ") (marks_text entry) (codes "\n")
    (c.in_ok-write.ensures.bytes ∙ ap (λ n. string_bytes c.args.text.now ++ (n ++ codes " ")) (c.as_str.ensures.value ∙ c.name.ensures))
    (c.in_ok-push_value.ensures (logs name) entry image ∙ ap (λ k. string_bytes c.write.new.self ++ value_text (g.T.Replica.data_type.shown k) entry) kind)
    c.in_ok-push_str.ensures.bytes (c.in_ok-push_known.ensures (logs name) entry image) c.in_ok-push_str-2.ensures.bytes (c.in_ok-push_marks.ensures (logs name) entry image) c.in_ok-push_str-3.ensures.bytes
