use Rattle.std.proofs.Common.{◌≡◌, ◌++◌, ◌∷◌, [], if◌then◌else◌, ap, sym, ◌∙◌, true, string_bytes}
use Rattle.std.specs.List.{list_all}
use Rattle.json.specs.Run.{is_plain}
use Rattle.report_texts.proofs.Quoted.{plain_element}
use Rattle.report_texts.proofs.shown.push_element.Goals as goal

pub returns : goal.returns
returns c =
    let written = c.args.written.now in
    let start = string_bytes c.args.text.now in
    let comma = if c.args.is_first then [] else 44 ∷ [] in
    let same = c.as_str-written.ensures.value in
    let plain : list_all is_plain written ≡ true = ap (list_all is_plain) (sym same) ∙ sym c.is_plain.ensures ∙ c.if-not-is_plain.false in
    c.in_ok-push_str-3.ensures.bytes
    ∙ ap (λ t. t ++ 34 ∷ []) (c.in_ok-push_str-2.ensures.bytes ∙ ap (λ t. t ++ c.as_str-written.result.now) c.in_ok-push_opening.ensures)
    ∙ ap (λ s. ((start ++ (comma ++ 34 ∷ [])) ++ s) ++ 34 ∷ []) same ∙ plain_element written start comma plain
