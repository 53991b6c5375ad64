use Rattle.std.proofs.Common.{◌++◌, ◌∷◌, [], map, decimal, string_bytes, sym, ap, ◌∙◌, refl}
use Rattle.std.specs.List.{join_with_byte}
use Rattle.model_history.specs.Vector.{members_of}
use Rattle.base_vectors.specs.IdSets.{members_in}
use Rattle.report_texts.specs.Marks.{marker_text}
use Rattle.report_texts.proofs.Ranges.{performed_parts, begun_parts}
use Rattle.report_texts.proofs.marks.marker_text.Goals as goal

pub returns-in_ok-format-in-Performed : goal.returns-in_ok-format-in-Performed
returns-in_ok-format-in-Performed c =
    let p = c.in-Performed in
    c.in_ok-format-in-Performed.ensures.ok ∙ ap (λ o. decimal c.args.removed ++ (62 ∷ (decimal o ++ (64 ∷ decimal p.at)))) c.number-owner.ensures.value
    ∙ performed_parts (decimal c.args.removed) (decimal p.owner) (decimal p.at) 62 64 ∙ sym (ap (marker_text c.args.removed) p.is)

pub returns-in_ok-push_joined-in-Initialized : goal.returns-in_ok-push_joined-in-Initialized
returns-in_ok-push_joined-in-Initialized c =
    let i = c.in-Initialized in
    let removed = decimal c.args.removed in
    let seen = join_with_byte 46 (map decimal (members_of (members_in i.seen))) in
    let members = ap (map string_bytes) c.as_slice.ensures ∙ c.in_ok-members-in-Initialized.ensures in
    let pushed = c.in_ok-push_joined-in-Initialized.ensures 46 refl in
    pushed ∙ ap (λ ws. string_bytes c.in_ok-text-in-Initialized.text ++ join_with_byte 46 ws) members
    ∙ ap (λ t. t ++ seen) (c.in_ok-text-in-Initialized.ensures.ok ∙ ap (λ o. removed ++ (62 ∷ (decimal o ++ (47 ∷ (decimal i.view ++ (58 ∷ [])))))) c.number-owner-in-Initialized.ensures.value)
    ∙ begun_parts removed (decimal i.owner) (decimal i.view) seen 62 47 58 ∙ sym (ap (marker_text c.args.removed) i.is)
