use Rattle.std.proofs.Common.{◌∷◌, [], map, position, refl, sym, ap, ◌∙◌}
use Rattle.std.proofs.lemmas.List.{map-append}
use Rattle.trace_lines.specs.Meant.{line_meant}
use Rattle.trace_recorder.proofs.RowLaws.{on_ok}
use Rattle.trace_recorder.proofs.SawLaws.{is_named, saw_undeclared, saw_known, saw_news, formed_more}
use Rattle.trace_recorder.proofs.recorder.Recorder.see.Goals as goal

pub returns-in_default-clause-saw : goal.returns-in_default-clause-saw
returns-in_default-clause-saw c = λ keys seen saw.
    saw_undeclared keys c.args.self.now seen (line_meant c.args.line) saw (ap (position (is_named c.args.line.key)) (sym c.as_slice.ensures) ∙ sym c.place_of.ensures ∙ c.in_default.is)

pub returns-then-branch-clause-saw : goal.returns-then-branch-clause-saw
returns-then-branch-clause-saw c = on_ok c.push.result _ _ (λ pushed keys seen saw.
    saw_news keys c.args.self.now seen (line_meant c.args.line) saw c.number-member.ensures.range c.in-Some.place (ap (position (is_named c.args.line.key)) (sym c.as_slice.ensures) ∙ sym c.place_of.ensures ∙ c.in-Some.is) _ refl c.in_ok-count_at.field-0 c.in_ok-count_at.ensures.counted
    (ap (map line_meant) pushed ∙ map-append line_meant c.args.self.now.lines (c.args.line ∷ [])) c.if-branch.true) c.push.ensures.ok

pub returns-then-branch-clause-formed : goal.returns-then-branch-clause-formed
returns-then-branch-clause-formed c = on_ok c.push.result _ _ (λ pushed formed.
    formed_more c.args.self.now c.push.new.self c.args.line c.number-member.ensures.range c.requires c.in-Some.place (ap (position (is_named c.args.line.key)) (sym c.as_slice.ensures) ∙ sym c.place_of.ensures ∙ c.in-Some.is) pushed formed) c.push.ensures.ok

pub returns-else-branch-clause-saw : goal.returns-else-branch-clause-saw
returns-else-branch-clause-saw c = λ keys seen saw.
    saw_known keys c.args.self.now seen (line_meant c.args.line) saw c.number-member.ensures.range c.in-Some.place (ap (position (is_named c.args.line.key)) (sym c.as_slice.ensures) ∙ sym c.place_of.ensures ∙ c.in-Some.is) _ refl c.in_ok-count_at.field-0 c.in_ok-count_at.ensures.counted
    refl c.if-branch.false
