-- Versions follow the history.
use Rattle.std.proofs.Common.{◌≡◌, ◌≢◌, ℕ, ◌<◌, ◌≤◌, Bool, true, false, cond, max, Result, Ok, Err, OnOk, IfOk, arith, refl, ap, sym, ◌∙◌, ⊎_elim}
use Rattle.std.proofs.lemmas.Bool.{cases_eq, cases_lt, cases_Bool}
use Rattle.model_history.specs.Table.{identity_limit, with_at}
use Rattle.model_history.specs.Vector.{IdentitySet, VersionVector, join, with_member}
use Rattle.model_history.specs.Cuts.{without}
use Rattle.model_history.proofs.HistoryLaws.{with_at_other}
use Rattle.model_history.proofs.CutLaws.{with_at_is, with_member_is, with_member_other, uncleaned}
use Rattle.base_vectors.specs.Vectors.{Numbers, number_at, raised, joined, removed, IsNormal}
use Rattle.base_vectors.proofs.Laws.{number_at-raised_same, number_at-raised_other, number_at-joined, number_at-numbers_of, number_at-numbers_of_above, number_at_above}

nothing_without : (gone : IdentitySet) (held : VersionVector) (i : ℕ) → held i ≡ 0 → without gone held i ≡ 0
nothing_without gone held i e = ⊎_elim (λ (g : gone i ≡ true). ap (λ b. cond b 0 (held i)) g) (λ (g : gone i ≡ false). ap (λ b. cond b 0 (held i)) g ∙ e) (cases_Bool (gone i))

pub raised_numbers : (m n : Numbers) (held : VersionVector) (gone : IdentitySet) (id to : ℕ) → ((i : ℕ) → identity_limit ≤ i → held i ≡ 0) → id < identity_limit → gone id ≡ false → ((i : ℕ) → number_at m i ≡ without gone held i) → held id ≤ to → n ≡ raised m id to
    → (i : ℕ) → number_at n i ≡ without gone (with_at held id to) i
raised_numbers m n held gone id to few member stays is more e i = ap (λ x. number_at x i) e ∙ ⊎_elim
    (λ (l : i < identity_limit). ⊎_elim
    (λ (same : i ≡ id). number_at-raised_same m id to i l same ∙ (let a : number_at m id ≡ held id = is id ∙ uncleaned gone held id stays in omega arith)
    ∙ sym (uncleaned gone (with_at held id to) i (ap gone same ∙ stays) ∙ with_at_is held id to i same))
    (λ (ne : i ≢ id). number_at-raised_other m id to i l ne ∙ is i ∙ sym (ap (cond (gone i) 0) (with_at_other held id to i ne))) (cases_eq i id))
    (λ (l : identity_limit ≤ i). number_at-numbers_of_above _ i l ∙ sym (nothing_without gone (with_at held id to) i (with_at_other held id to i (λ same. omega arith) ∙ few i l))) (cases_lt i identity_limit)

-- a number that is raised leaves the others
pub raised_elsewhere : (m : Numbers) (id to : ℕ) → IsNormal m → (i : ℕ) → i ≢ id → number_at (raised m id to) i ≡ number_at m i
raised_elsewhere m id to normal i other = ⊎_elim
    (λ (l : i < identity_limit). number_at-raised_other m id to i l other)
    (λ (l : identity_limit ≤ i). number_at-numbers_of_above _ i l ∙ sym (number_at_above m normal i l)) (cases_lt i identity_limit)

pub removed_numbers : (m n : Numbers) (held : VersionVector) (gone : IdentitySet) (id : ℕ) → ((i : ℕ) → identity_limit ≤ i → held i ≡ 0) → ((i : ℕ) → number_at m i ≡ without gone held i) → n ≡ removed m id
    → (i : ℕ) → number_at n i ≡ without (with_member gone id) held i
removed_numbers m n held gone id few is e i = ap (λ x. number_at x i) e ∙ ⊎_elim
    (λ (l : i < identity_limit). ⊎_elim
    (λ (same : i ≡ id). number_at-numbers_of (with_at (number_at m) id 0) i l ∙ with_at_is (number_at m) id 0 i same ∙ sym (ap (λ b. cond b 0 (held i)) (with_member_is gone id i same)))
    (λ (ne : i ≢ id). number_at-numbers_of (with_at (number_at m) id 0) i l ∙ with_at_other (number_at m) id 0 i ne ∙ is i ∙ sym (ap (λ b. cond b 0 (held i)) (with_member_other gone id i ne))) (cases_eq i id))
    (λ (l : identity_limit ≤ i). number_at-numbers_of_above _ i l ∙ sym (nothing_without (with_member gone id) held i (few i l))) (cases_lt i identity_limit)

max_without : (b : Bool) (x y : ℕ) → max (cond b 0 x) (cond b 0 y) ≡ cond b 0 (max x y)
max_without true x y = omega arith
max_without false x y = refl

pub joined_numbers : (m n r : Numbers) (held also : VersionVector) (gone : IdentitySet) → ((i : ℕ) → identity_limit ≤ i → held i ≡ 0) → ((i : ℕ) → identity_limit ≤ i → also i ≡ 0) → ((i : ℕ) → number_at m i ≡ without gone held i) → ((i : ℕ) → number_at n i ≡ without gone also i) → r ≡ joined m n
    → (i : ℕ) → number_at r i ≡ without gone (join held also) i
joined_numbers m n r held also gone few few' is is' e i = ap (λ x. number_at x i) e ∙ ⊎_elim
    (λ (l : i < identity_limit). number_at-joined m n i l ∙ ap (λ x. max x (number_at n i)) (is i) ∙ ap (max (without gone held i)) (is' i) ∙ max_without (gone i) (held i) (also i))
    (λ (l : identity_limit ≤ i). number_at-numbers_of_above _ i l ∙ sym (nothing_without gone (join held also) i (ap (λ x. max x (also i)) (few i l) ∙ ap (max 0) (few' i l)))) (cases_lt i identity_limit)

at_most : (gone : IdentitySet) (held : VersionVector) (i : ℕ) → without gone held i ≤ held i
at_most gone held i = ⊎_elim (λ (g : gone i ≡ true). let e = ap (λ b. cond b 0 (held i)) g in omega (arith, e)) (λ (g : gone i ≡ false). let e = ap (λ b. cond b 0 (held i)) g in omega (arith, e)) (cases_Bool (gone i))

-- cleaned vectors, joined, count no more than either
pub joined_most : (m n v w r : Numbers) (gone : IdentitySet) → ((i : ℕ) → number_at v i ≡ without gone (number_at m) i) → ((i : ℕ) → number_at w i ≡ without gone (number_at n) i) → r ≡ joined v w → (i : ℕ) → number_at r i ≤ max (number_at m i) (number_at n i)
joined_most m n v w r gone is is' e i = ⊎_elim
    (λ (l : i < identity_limit).
    let both = ap (λ x. number_at x i) e ∙ number_at-joined v w i l in
    let one = at_most gone (number_at m) i in
    let other = at_most gone (number_at n) i in
    omega (arith, both, one, other, is i, is' i))
    (λ (l : identity_limit ≤ i). let none = ap (λ x. number_at x i) e ∙ number_at-numbers_of_above (λ k. max (number_at v k) (number_at w k)) i l in omega (arith, none)) (cases_lt i identity_limit)

-- where an identity wasn't cleaned away, they count the more of both
pub joined_greatest : (m n v w r : Numbers) (gone : IdentitySet) → IsNormal m → IsNormal n → ((i : ℕ) → number_at v i ≡ without gone (number_at m) i) → ((i : ℕ) → number_at w i ≡ without gone (number_at n) i) → r ≡ joined v w
    → (i : ℕ) → gone i ≡ false → number_at r i ≡ max (number_at m i) (number_at n i)
joined_greatest m n v w r gone normal normal' is is' e i stays = ⊎_elim
    (λ (l : i < identity_limit).
    let one : number_at v i ≡ number_at m i = is i ∙ uncleaned gone (number_at m) i stays in
    let other : number_at w i ≡ number_at n i = is' i ∙ uncleaned gone (number_at n) i stays in
    ap (λ x. number_at x i) e ∙ number_at-joined v w i l ∙ (λ j. max (one j) (other j)))
    (λ (l : identity_limit ≤ i).
    let none = ap (λ x. number_at x i) e ∙ number_at-numbers_of_above (λ k. max (number_at v k) (number_at w k)) i l in
    let one = number_at_above m normal i l in
    let other = number_at_above n normal' i l in
    omega (arith, none, one, other)) (cases_lt i identity_limit)

-- the more of both at each identity
pub joined_each : (m n r : Numbers) (limit : ℕ) → IsNormal m → limit ≤ identity_limit → ((i : ℕ) → limit ≤ i → number_at n i ≡ 0) → r ≡ joined m n → (i : ℕ) → number_at r i ≡ max (number_at m i) (number_at n i)
joined_each m n r limit normal few none e i = ap (λ x. number_at x i) e ∙ ⊎_elim
    (λ (l : i < identity_limit). number_at-joined m n i l)
    (λ (l : identity_limit ≤ i).
    let above = number_at-numbers_of_above (λ k. max (number_at m k) (number_at n k)) i l in
    let one = number_at_above m normal i l in
    let other = none i (omega arith) in
    omega (arith, above, one, other)) (cases_lt i identity_limit)

-- of an identity that was cleaned away nothing is counted
pub dropped_nothing : (gone : IdentitySet) (held : VersionVector) (i : ℕ) → gone i ≡ true → without gone held i ≡ 0
dropped_nothing gone held i g = ap (λ b. cond b 0 (held i)) g

-- neither counts a record, nor do both together
pub joined_nothing : (m n r : Numbers) (i : ℕ) → number_at m i ≡ 0 → number_at n i ≡ 0 → r ≡ joined m n → number_at r i ≡ 0
joined_nothing m n r i none none' e = ap (λ x. number_at x i) e ∙ ⊎_elim
    (λ (l : i < identity_limit). number_at-joined m n i l ∙ (λ j. max (none j) (none' j)))
    (λ (l : identity_limit ≤ i). number_at-numbers_of_above (λ k. max (number_at m k) (number_at n k)) i l) (cases_lt i identity_limit)

-- on success a number that is another is at most it
pub at_most_ok : {X E : Type 0} (r : Result X E) (a b : ℕ) → OnOk r (a ≡ b) → OnOk r (a ≤ b)
at_most_ok (Ok x) a b e = omega (arith, e)
at_most_ok (Err x) a b e = tt

-- a copy counts the same
pub copied_counts : {E : Type 0} (r : Result Numbers E) (m : Numbers) (held : VersionVector) → IfOk r (λ copy. copy ≡ m) → ((i : ℕ) → number_at m i ≡ held i) → IfOk r (λ known. (i : ℕ) → number_at known i ≡ held i)
copied_counts (Ok x) m held e same = λ i. ap (λ n. number_at n i) e ∙ same i
copied_counts (Err x) m held e same = tt
