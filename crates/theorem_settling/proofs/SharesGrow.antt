-- Shares grow as a history grows, so what blocks a prune goes on blocking it.
use Rattle.std.proofs.Common.{◌≡◌, ℕ, zero, suc, ◌+◌, ◌≤◌, List, [], ◌∷◌, length, take, refl, sym, ap, ◌∙◌, arith, Bool, true, false, Option, Some}
use Rattle.std.specs.Prelude.{if◌then◌else◌, sum_by, nat_lt, IsSome}
use Rattle.std.proofs.lemmas.Bool.{ltb-true, lt-ltb}
use Rattle.std.proofs.lemmas.List.Sums.{sum_by-cons}
use Rattle.model_history.specs.Table.{identities}
use Rattle.model_history.specs.Vector.{VersionVector}
use Rattle.model_history.specs.History.{Action, History, at, cut, size, by_past_within, IsPartOf}
use Rattle.model_history.specs.History.Action.{Operation, Prune}
use Rattle.model_history.proofs.PartLaws.{part-le, part_with_record}
use Rattle.model_meanings.specs.Counter.{brought, share}
use Rattle.model_meanings.specs.Refusal.{Shares, greatest_share, too_much}
use Rattle.model_members.specs.Entry.{Entry, with_prune}

one_more : (n m : ℕ) → n ≤ m → suc n ≤ suc m
one_more n m less = omega arith

-- FIRST PARTS OF LISTS

take_part : {X : Type 0} (xs ys : List X) (p : ℕ) → xs ≡ take (length xs) ys → take p xs ≡ take (length (take p xs)) (take p ys)
take_part xs ys zero e = refl
take_part [] ys (suc p) e = refl
take_part (x ∷ xs) [] (suc p) e = absurd (cc e)
take_part (x ∷ xs) (y ∷ ys) (suc p) e =
    let same : x ≡ y = cc e in
    let rest : xs ≡ take (length xs) ys = cc e in
    (λ i. same i ∷ take_part xs ys p rest i)

sum_part : {X : Type 0} (f g : X → ℕ) (xs ys : List X) → ((x : X) → f x ≤ g x) → xs ≡ take (length xs) ys → sum_by f xs ≤ sum_by g ys
sum_part f g [] ys h e = omega arith
sum_part f g (x ∷ xs) [] h e = absurd (cc e)
sum_part f g (x ∷ xs) (y ∷ ys) h e =
    let same : x ≡ y = cc e in
    let rest : xs ≡ take (length xs) ys = cc e in
    let a = sum_part f g xs ys h rest in let b = h x in let c : g x ≡ g y = ap g same in let d = sum_by-cons f x xs in let k = sum_by-cons g y ys in omega arith

sum_more : {X : Type 0} (f g : X → ℕ) (xs : List X) → ((x : X) → f x ≤ g x) → sum_by f xs ≤ sum_by g xs
sum_more f g [] h = omega arith
sum_more f g (x ∷ xs) h = let a = sum_more f g xs h in let b = h x in let d = sum_by-cons f x xs in let k = sum_by-cons g x xs in omega arith

module _ {Op : Type 0} (amount : Op → ℕ) where
  part_cut : (H J : History Op) (past : VersionVector) → IsPartOf H J → IsPartOf (cut H past) (cut J past)
  part_cut H J past part i = take_part (H i) (J i) (past i) (part i)

  abbrev within : ℕ → History Op → ℕ → ℕ
  within depth H i = by_past_within 0 (λ share_before H i. sum_by (brought amount share_before H) (H i)) depth H i

  grows_within : (d d' : ℕ) → d ≤ d' → (H J : History Op) → IsPartOf H J → (i : ℕ) → within d H i ≤ within d' J i
  grows_within zero d' less H J part i = omega arith
  grows_within (suc d) zero less H J part i = absurd (omega arith)
  grows_within (suc d) (suc d') less H J part i =
      sum_part (brought amount (within d) H) (brought amount (within d') J) (H i) (J i) (λ r. one r.action r.past (λ past removed. grows_within d d' (omega arith) (cut H past) (cut J past) (part_cut H J past part) removed)) (part i)
    where
      one : (action : Action Op) (past : VersionVector) → ((past : VersionVector) (removed : ℕ) → by_past_within 0 (λ share_before H i. sum_by (brought amount share_before H) (H i)) d (cut H past) removed ≤ by_past_within 0 (λ share_before H i. sum_by (brought amount share_before H) (H i)) d' (cut J past) removed)
          → brought amount (λ K j. by_past_within 0 (λ share_before H i. sum_by (brought amount share_before H) (H i)) d K j) H (record { action = action; past = past }) ≤ brought amount (λ K j. by_past_within 0 (λ share_before H i. sum_by (brought amount share_before H) (H i)) d' K j) J (record { action = action; past = past })
      one (Operation op) past h = omega arith
      one (Prune removed) past h = h past removed

  pub share_grows : (H J : History Op) → IsPartOf H J → (i : ℕ) → share amount H i ≤ share amount J i
  share_grows H J part i =
      grows_within (suc (size H)) (suc (size J)) (one_more (size H) (size J) (sum_more (at H) (at J) identities (λ j. part-le H J part j))) H J part i

  pub share_after_prune : (entry : Entry Op) (owner other i : ℕ) → share amount entry.history i ≤ share amount (with_prune entry owner other).history i
  share_after_prune entry owner other i = share_grows entry.history (with_prune entry owner other).history (part_with_record entry.history owner _) i

-- shares that are too much are so as they grow
pub too_much_grows : (a b a' b' : ℕ) (o o' : Option Shares) → a ≤ a' → b ≤ b' → (IsSome o → IsSome o') → IsSome (too_much a b o) → IsSome (too_much a' b' o')
too_much_grows a b a' b' o o' h g rest some = by (nat_lt greatest_share (a + b)) refl (nat_lt greatest_share (a' + b')) refl some
  where
    more : nat_lt greatest_share (a + b) ≡ true → nat_lt greatest_share (a' + b') ≡ true
    more e = let x = ltb-true greatest_share (a + b) e in lt-ltb greatest_share (a' + b') (omega arith)

    by : (x : Bool) → nat_lt greatest_share (a + b) ≡ x → (y : Bool) → nat_lt greatest_share (a' + b') ≡ y → IsSome (if x then Some (record { owner = a; removed = b }) else o) → IsSome (if y then Some (record { owner = a'; removed = b' }) else o')
    by x e true f s = refl
    by true e false f s = absurd (let g = sym (more e) ∙ f in cc g)
    by false e false f s = rest s
