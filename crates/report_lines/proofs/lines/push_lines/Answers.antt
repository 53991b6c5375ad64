use Rattle.std.proofs.Common.{◌≤◌, ◌++◌, length, flat_map, string_bytes, ap, ◌∙◌, arith}
use Rattle.std.proofs.lemmas.List.{take_all}
use Rattle.report_lines.specs.Lines.{event_text}
use Rattle.report_lines.proofs.lines.push_lines.Goals as goal

pub returns : goal.returns
returns c =
    let done : length c.args.events.now ≤ c.loop-event.event-index = omega (arith, c.loop-event-test.false) in
    c.loop-event.invariant ∙ ap (λ events. string_bytes c.args.text.now ++ flat_map (event_text c.args.number) events) (take_all c.loop-event.event-index c.args.events.now done)
