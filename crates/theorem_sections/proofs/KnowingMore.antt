-- Who comes to know more goes on knowing what it knew.
use Rattle.std.proofs.Common.{◌≡◌, ℕ, zero, suc, ◌≤◌, List, [], ◌∷◌, ◌++◌, length, sym, ap, ◌∙◌, arith, refl, length-append}
use Rattle.std.specs.Prelude.{take}
use Rattle.model_members.specs.DataType.{Replication}
use Rattle.model_members.specs.World.{World}
use Rattle.theorem_sections.specs.Histories.{Entry, posted_to, taken_from}
use Rattle.theorem_sections.specs.Knowing.{IsKnownBy, KnowsFull, KnowsTaken, KnowsHeard, KnowsAnswered}
use Rattle.theorem_sections.proofs.RunOrder.{posted-append, taken-append}

take_less : {X : Type 0} (m n : ℕ) (xs : List X) → m ≤ n → (more : List X) × (take m xs ++ more ≡ take n xs)
take_less zero n xs h = (take n xs, refl)
take_less (suc m) zero xs h = absurd (omega (arith, h))
take_less (suc m) (suc n) [] h = ([], refl)
take_less (suc m) (suc n) (x ∷ xs) h = let later = take_less m n xs (omega (arith, h)) in (later.0, ap (λ ys. x ∷ ys) later.1)

module _ {Op Shown : Type 0} where
  takes_grow : (i m n : ℕ) (es : List (Entry Op Shown)) → m ≤ n → length (taken_from i (take m es)) ≤ length (taken_from i (take n es))
  takes_grow i m n es h =
      let more = take_less m n es h in
      let e = ap length (ap (taken_from i) (sym more.1) ∙ taken-append i (take m es) more.0) ∙ length-append (taken_from i (take m es)) (taken_from i more.0) in omega (arith, e)

  posts_grow : (j m n : ℕ) (es : List (Entry Op Shown)) → m ≤ n → length (posted_to j (take m es)) ≤ length (posted_to j (take n es))
  posts_grow j m n es h =
      let more = take_less m n es h in
      let e = ap length (ap (posted_to j) (sym more.1) ∙ posted-append j (take m es) more.0) ∙ length-append (posted_to j (take m es)) (posted_to j more.0) in omega (arith, e)

module _ {Kind Op Shown : Type 0} (D : Replication Kind Op Shown) (world : World Kind Op Shown) (histories : ℕ → List (Entry Op Shown)) where
  -- less is known by the same stamp, and by a later one
  pub known_by_less : (known more : ℕ → ℕ) (stamp later : ℕ) → ((i : ℕ) → known i ≤ more i) → stamp ≤ later → IsKnownBy D world histories more stamp → IsKnownBy D world histories known later
  known_by_less known more stamp later less h by i k e at l = let a = less i in let b = by i k e at (omega (arith, a, l)) in omega (arith, b, h)

  pub full_more : (known more : ℕ → ℕ) → ((i : ℕ) → known i ≤ more i) → KnowsFull D world histories known → KnowsFull D world histories more
  full_more known more less f = (f.0, (f.1.0, (let a = less f.0 in let b = f.1.1 in omega (arith, a, b)), f.1.2))

  -- fewer posts are taken in more entries
  pub taken_more : (known more : ℕ → ℕ) (i few many j : ℕ) → known j ≤ more j → few ≤ many → KnowsTaken D world histories i many j known → KnowsTaken D world histories i few j more
  taken_more known more i few many j less h t = let a = posts_grow j few many (histories i) h in let b = takes_grow i (known j) (more j) (histories j) less in omega (arith, a, b, t)

  pub heard_more : (known more : ℕ → ℕ) (i index : ℕ) (e : Entry Op Shown) → ((j : ℕ) → known j ≤ more j) → KnowsHeard D world histories i index e known → KnowsHeard D world histories i index e more
  heard_more known more i index e less heard j isnt mj posts = taken_more known more i (suc index) (suc index) j (less j) (omega arith) (heard j isnt mj posts)

  pub answered_more : (less known later more : ℕ → ℕ) (i : ℕ) → ((j : ℕ) → less j ≤ known j) → ((j : ℕ) → later j ≤ more j) → KnowsAnswered D world histories i known later → KnowsAnswered D world histories i less more
  answered_more less known later more i a b answered j isnt mj = taken_more later more j (less j) (known j) i (b i) (a j) (answered j isnt mj)
