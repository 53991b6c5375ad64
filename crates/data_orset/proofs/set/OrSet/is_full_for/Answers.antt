use Rattle.std.proofs.Common.{◌≡◌, ◌<◌, ◌≤◌, true, false, not, ◌&&◌, nat_le, length, rules, arith, ap, sym, ◌∙◌, ℕ}
use Rattle.model_history.specs.Texts.{contains_text}
use Rattle.data_orset.specs.Dots.{Dots, shown_elements}
use Rattle.data_orset.proofs.Changes.{shown_is, named_is}
use Rattle.data_orset.proofs.ElementsInOrder.{no_more_elements}
use Rattle.data_orset.proofs.set.OrSet.is_full_for.Goals as goal

reached : (m n : ℕ) → m ≤ n → nat_le m n ≡ true
reached m n h = grind rules

below : (m n : ℕ) → n < m → nat_le m n ≡ false
below m n h = grind rules

pub returns-then-len-lt-MOST_ELEMENTS : goal.returns-then-len-lt-MOST_ELEMENTS
returns-then-len-lt-MOST_ELEMENTS c =
    let shown = ap length (shown_is c.self.inside.dots ∙ ap shown_elements c.self.view_is) in
    let few : length (shown_elements c.args.self.now) < 256 = omega (arith, no_more_elements c.self.inside.dots, shown, c.len.ensures, c.if-len-lt-MOST_ELEMENTS.true) in
    sym (ap (λ b. b && not (contains_text (shown_elements c.args.self.now) c.args.element.now)) (below 256 (length (shown_elements c.args.self.now)) few))

pub returns-then-count_elements-ge-MOST_ELEMENTS : goal.returns-then-count_elements-ge-MOST_ELEMENTS
returns-then-count_elements-ge-MOST_ELEMENTS c =
    let view = c.self.view_is in
    let then_view = c.self.view_is in
    let count = c.count_elements.ensures ∙ ap length (shown_is c.self.inside.dots ∙ ap shown_elements view) in
    let has = c.has_element.ensures ∙ sym (named_is c.self.inside.dots c.args.element.now) ∙ ap (λ (s : Dots). contains_text (shown_elements s) c.args.element.now) then_view in
    ap not has ∙ sym (ap (λ b. b && not (contains_text (shown_elements c.args.self.now) c.args.element.now)) (ap (nat_le 256) (sym count) ∙ reached 256 c.count_elements.result c.if-count_elements-ge-MOST_ELEMENTS.true))

pub returns-else-count_elements-ge-MOST_ELEMENTS : goal.returns-else-count_elements-ge-MOST_ELEMENTS
returns-else-count_elements-ge-MOST_ELEMENTS c =
    let view = c.self.view_is in
    let count = c.count_elements.ensures ∙ ap length (shown_is c.self.inside.dots ∙ ap shown_elements view) in
    let less = below 256 c.count_elements.result c.if-count_elements-ge-MOST_ELEMENTS.false in
    less ∙ sym (ap (λ b. b && not (contains_text (shown_elements c.args.self.now) c.args.element.now)) (ap (nat_le 256) (sym count) ∙ less))
