use Rattle.std.proofs.Common.{◌≡◌, ℕ, List, map, sym, ap, subst, ◌∙◌}
use Rattle.model_members.specs.View.{View, first_view}
use Rattle.member_node.specs.Keys.{declared}
use Rattle.member_views.specs.Sound.{last_view}
use Rattle.theorem_declaring.proofs.Growing.{nothing_is_part}
use Rattle.theorem_processes.specs.Declaring.{HasDeclared}
use Rattle.theorem_processes.specs.Processes.{IsMade}
use Rattle.theorem_processes.specs.Worked.{IsPosting, IsTaking}
use Rattle.theorem_processes.proofs.Keys.{whole_is_part, rising_distinct}
use Rattle.theorem_processes.proofs.TwoMembers.{first_item, are_met}
use Rattle.theorem_processes.proofs.worked.a_post_is_taken_twice.Goals as goal

pub member-requires : goal.member-requires
member-requires g c = record { distinct = rising_distinct _ c.requires.rising }

pub returns : goal.returns
returns g c =
    let keys = c.args.keys.now in
    let view : c.last.result.now ≡ first_view 2 = c.last.ensures.last ∙ ap last_view c.in-Ok.ensures in
    let view' : c.last-2.result.now ≡ first_view 2 = c.last-2.ensures.last ∙ ap last_view c.in-Ok.ensures in
    let to : c.id.result ≡ 1 = c.id.ensures ∙ c.in_ok-other.ensures.identity in
    let posting = subst (λ (i : ℕ). IsPosting g.T.SpelledData g.T.SpelledDelta c.in_ok-one.one i c.in_ok-bytes.bytes.items c.posted.new.member) to c.in_ok-bytes.ensures in
    let from : c.posted.new.member.id ≡ 0 = posting.makes.identity ∙ c.in_ok-one.ensures.identity in
    let once =
    subst (λ (i : ℕ). IsTaking g.T.SpelledData g.T.SpelledDelta c.in_ok-other.other i c.in_ok-bytes.bytes.items c.taken.new.member) (c.id-2.ensures ∙ from)
    (subst (λ (bytes : List ℕ). IsTaking g.T.SpelledData g.T.SpelledDelta c.in_ok-other.other c.id-2.result bytes c.taken.new.member) c.as_slice.ensures.value c.in_ok-taken.ensures) in
    let first = c.index-keys-0 in
    let has : HasDeclared keys first.result c.taken.new.member c.declared.new.member =
    record { rising = c.requires.rising; index = 0; listed = first_item keys first.result (sym c.is_empty.ensures ∙ c.if-is_empty.false) first.is; answer = c.in_ok-declared.field-0; declares = c.in_ok-declared.ensures } in
    let again =
    subst (λ (i : ℕ). IsTaking g.T.SpelledData g.T.SpelledDelta c.declared.new.member i c.in_ok-bytes.bytes.items c.taken-2.new.member) (c.id-3.ensures ∙ from)
    (subst (λ (bytes : List ℕ). IsTaking g.T.SpelledData g.T.SpelledDelta c.declared.new.member c.id-3.result bytes c.taken-2.new.member) c.as_slice-2.ensures.value c.in_ok-taken-2.ensures) in
    are_met keys c.in_ok-one.one c.in_ok-other.other
    (subst (λ (v : View). IsMade keys 0 v c.in_ok-one.one) view (c.in_ok-one.ensures.made keys (whole_is_part (map declared keys))))
    (subst (λ (v : View). IsMade keys 1 v c.in_ok-other.other) view' (c.in_ok-other.ensures.made keys (nothing_is_part (map declared keys))))
    g.T.SpelledData g.T.SpelledDelta c.posted.new.member c.taken.new.member c.declared.new.member c.taken-2.new.member c.forget.new.self c.in_ok-bytes.bytes.items first.result posting once has again
    (record { same = c.forget.ensures.same; forgotten = c.forget.ensures.forgotten; stands = c.forget.ensures.stands })
