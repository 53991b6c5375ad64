use Rattle.std.proofs.Common.{◌<◌, ◌++◌, ◌∷◌, [], if◌then◌else◌, ◌==◌, length, ap, ◌∙◌, map, take, string_bytes, arith, append_assoc}
use Rattle.std.specs.List.{join_with_byte}
use Rattle.json.specs.Print.{quoted}
use Rattle.report_texts.proofs.Ranges.{more_word}
use Rattle.report_texts.proofs.shown.push_elements.Goals as goal

pub loop-i-preserved : goal.loop-i-preserved
loop-i-preserved c =
    let i = c.loop-i.i in
    let es = c.args.elements.now in
    let e = c.index-elements-i.result in
    let start = string_bytes c.args.text.now in
    let added = (if i == 0 then [] else 44 ∷ []) ++ quoted e in
    let here : i < length es = omega (arith, c.loop-i-test.true) in
    c.in_ok-push_element.ensures ∙ ap (λ t. t ++ added) c.loop-i.invariant ∙ append_assoc start (join_with_byte 44 (map quoted (take i es))) added
    ∙ ap (λ t. start ++ t) (more_word quoted 44 i es e here c.index-elements-i.is)
