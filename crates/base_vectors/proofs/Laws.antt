-- What the words of Vectors say at an identity.
use Rattle.std.proofs.Common.{◌≡◌, ◌≢◌, ℕ, zero, suc, ◌≤◌, ◌<◌, max, unwrap_or, Some, None, rules, arith, refl, ap, sym, ◌∙◌, cond, true, false, List, Option, nat_eq, ◌∷◌, ⊎_elim, subst}
use Rattle.std.specs.Ordering.{nat_cmp, is_eq}
use Rattle.std.specs.Cmp.{nat_cmp_total, tied_itself}
use Rattle.std.specs.FinMap as map
use Rattle.std.specs.FinMap.{gets, nat_cmp-IsAntisymmetric, find, get-from_entries, same_map, get-empty}
use Rattle.std.proofs.lemmas.Bool.{cases_eq, cases_lt}
use Rattle.model_history.specs.Table.{identity_limit, with_at}
use Rattle.base_vectors.specs.Vectors.{Numbers, number_at, numbers_of, entries_below, entry_before, raised, joined, IsNormal}

-- no value for 0
abbrev pub unless_zero : ℕ → Option ℕ
unless_zero zero = None
unless_zero (suc n) = Some (suc n)

find_head : (id n : ℕ) (es : List (ℕ × ℕ)) → find nat_cmp id ((id, n) ∷ es) ≡ Some n
find_head id n es = ap (λ r. cond (is_eq r) (Some n) (find nat_cmp id es)) (tied_itself nat_cmp_total id)

find_tail : (q id n : ℕ) (es : List (ℕ × ℕ)) → q ≢ id → find nat_cmp q ((id, n) ∷ es) ≡ find nat_cmp q es
find_tail q id n es apart = grind (gets, rules)

find_over : (q id n : ℕ) (es : List (ℕ × ℕ)) → q ≢ id → find nat_cmp q (entry_before id n es) ≡ find nat_cmp q es
find_over q id zero es apart = refl
find_over q id (suc n) es apart = find_tail q id (suc n) es apart

find_above : (q : ℕ) (f : ℕ → ℕ) (count : ℕ) → count ≤ q → find nat_cmp q (entries_below count f) ≡ None
find_above q f zero l = refl
find_above q f (suc id) l = find_over q id (f id) (entries_below id f) (λ e. omega arith) ∙ find_above q f id (omega arith)

find_at : (id : ℕ) (f : ℕ → ℕ) (n : ℕ) → find nat_cmp id (entry_before id n (entries_below id f)) ≡ unless_zero n
find_at id f zero = find_above id f id (omega arith)
find_at id f (suc n) = find_head id (suc n) (entries_below id f)

find_below : (q : ℕ) (f : ℕ → ℕ) (count : ℕ) → q < count → find nat_cmp q (entries_below count f) ≡ unless_zero (f q)
find_below q f zero l = absurd (omega arith)
find_below q f (suc id) l = ⊎_elim
    (λ (e : q ≡ id). subst (λ k. find nat_cmp k (entries_below (suc id) f) ≡ unless_zero (f k)) (sym e) (find_at id f (f id)))
    (λ (ne : q ≢ id). find_over q id (f id) (entries_below id f) ne ∙ find_below q f id (omega arith)) (cases_eq q id)

pub get-numbers_of : (f : ℕ → ℕ) (q : ℕ) → q < identity_limit → map.get (numbers_of f) q ≡ unless_zero (f q)
unfolding numbers_of
get-numbers_of f q l = get-from_entries nat_cmp_total (entries_below identity_limit f) q ∙ find_below q f identity_limit l

pub get-numbers_of_above : (f : ℕ → ℕ) (q : ℕ) → identity_limit ≤ q → map.get (numbers_of f) q ≡ None
unfolding numbers_of
get-numbers_of_above f q l = get-from_entries nat_cmp_total (entries_below identity_limit f) q ∙ find_above q f identity_limit l

or_zero : (n : ℕ) → unwrap_or (unless_zero n) 0 ≡ n
or_zero zero = refl
or_zero (suc n) = refl

pub number_at-numbers_of : (f : ℕ → ℕ) (i : ℕ) → i < identity_limit → number_at (numbers_of f) i ≡ f i
number_at-numbers_of f i l = ap (λ o. unwrap_or o 0) (get-numbers_of f i l) ∙ or_zero (f i)

pub number_at-numbers_of_above : (f : ℕ → ℕ) (i : ℕ) → identity_limit ≤ i → number_at (numbers_of f) i ≡ 0
number_at-numbers_of_above f i l = ap (λ o. unwrap_or o 0) (get-numbers_of_above f i l)

pub number_at-empty : (i : ℕ) → number_at map.empty i ≡ 0
number_at-empty i = ap (λ o. unwrap_or o 0) (get-empty nat_cmp i)

-- a map whose look-ups are those of f is the map of f
pub from_gets : (m : Numbers) (f : ℕ → ℕ) → ((q : ℕ) → q < identity_limit → map.get m q ≡ unless_zero (f q)) → ((q : ℕ) → identity_limit ≤ q → map.get m q ≡ None) → m ≡ numbers_of f
from_gets m f below above = same_map nat_cmp_total nat_cmp-IsAntisymmetric m (numbers_of f) (λ q. ⊎_elim
    (λ (l : q < identity_limit). below q l ∙ sym (get-numbers_of f q l))
    (λ (l : identity_limit ≤ q). above q l ∙ sym (get-numbers_of_above f q l)) (cases_lt q identity_limit))

-- only the numbers at identities count
pub numbers_of-same : (f g : ℕ → ℕ) → ((i : ℕ) → i < identity_limit → f i ≡ g i) → numbers_of f ≡ numbers_of g
numbers_of-same f g same = from_gets (numbers_of f) g (λ q l. get-numbers_of f q l ∙ ap unless_zero (same q l)) (λ q l. get-numbers_of_above f q l)

pub IsNormal-numbers_of : (f : ℕ → ℕ) → IsNormal (numbers_of f)
IsNormal-numbers_of f = numbers_of-same f (number_at (numbers_of f)) (λ i l. sym (number_at-numbers_of f i l))

pub empty-numbers_of : (f : ℕ → ℕ) → ((i : ℕ) → f i ≡ 0) → map.empty ≡ numbers_of f
empty-numbers_of f none = from_gets map.empty f (λ q l. get-empty nat_cmp q ∙ ap unless_zero (sym (none q))) (λ q l. get-empty nat_cmp q)

-- the numbers of two normal maps tell them apart
pub same_numbers : (m n : Numbers) → IsNormal m → IsNormal n → ((i : ℕ) → i < identity_limit → number_at m i ≡ number_at n i) → m ≡ n
same_numbers m n p q same = p ∙ numbers_of-same (number_at m) (number_at n) same ∙ sym q

pub number_at_above : (m : Numbers) → IsNormal m → (i : ℕ) → identity_limit ≤ i → number_at m i ≡ 0
number_at_above m p i l = ap (λ n. number_at n i) p ∙ number_at-numbers_of_above (number_at m) i l

pub number_at-raised_same : (m : Numbers) (id to i : ℕ) → i < identity_limit → i ≡ id → number_at (raised m id to) i ≡ max (number_at m id) to
number_at-raised_same m id to i l e = let u : nat_eq i id ≡ true = grind rules in number_at-numbers_of (with_at (number_at m) id (max (number_at m id) to)) i l ∙ rw u refl

pub number_at-raised_other : (m : Numbers) (id to i : ℕ) → i < identity_limit → i ≢ id → number_at (raised m id to) i ≡ number_at m i
number_at-raised_other m id to i l ne = let u : nat_eq i id ≡ false = grind rules in number_at-numbers_of (with_at (number_at m) id (max (number_at m id) to)) i l ∙ rw u refl

pub number_at-joined : (m n : Numbers) (i : ℕ) → i < identity_limit → number_at (joined m n) i ≡ max (number_at m i) (number_at n i)
number_at-joined m n i l = number_at-numbers_of (λ k. max (number_at m k) (number_at n k)) i l
