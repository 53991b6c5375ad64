use Rattle.std.proofs.Common.{◌≤◌, ◌++◌, length, flat_map, string_bytes, ap, ◌∙◌, arith}
use Rattle.std.proofs.lemmas.List.{take_all}
use Rattle.report_followers.specs.Lines.{notice_text}
use Rattle.report_followers.proofs.lines.push_notices.Goals as goal

pub returns : goal.returns
returns c =
    let done : length c.args.notices.now ≤ c.loop-notice.notice-index = omega (arith, c.loop-notice-test.false) in
    c.loop-notice.invariant ∙ ap (λ notices. string_bytes c.args.text.now ++ flat_map (notice_text c.args.number c.args.at) notices) (take_all c.loop-notice.notice-index c.args.notices.now done)
