-- What was told is noted at one followed key after another.
use Rattle.std.proofs.Common.{◌≡◌, ℕ, suc, ◌+◌, ◌<◌, ◌≤◌, List, [], ◌∷◌, ◌++◌, length, take, drop, get_or, refl, ap, sym, ◌∙◌, arith, append_assoc, subst, take_all}
use Rattle.std.specs.Prelude.{nat_lt}
use Rattle.std.specs.List.{AllByRecursion}
use Rattle.std.proofs.Math.ListN.{set}
use Rattle.std.proofs.lemmas.List.{append-nil, drop_all, take-append-drop, drop-set-lt, length-set}
use Rattle.std.proofs.lemmas.Grind.{take-set_at}
use Rattle.model_history.specs.Texts.{text_lt}
use Rattle.member_desk.specs.declared.followed.Followed.{Followed}
use Rattle.member_desk.specs.declared.look.Told.{Told}
use Rattle.member_desk.specs.declared.look.Look.{Look}
use Rattle.member_desk.specs.Notices.{told_at_key}
use Rattle.member_desk.specs.Looks.{found_by, told_by}
use Rattle.member_desk.specs.Places.{IsRising}
use Rattle.member_desk.specs.Subscriptions.{keys_of, numbers_of, AreInOrder}
use Rattle.member_desk.proofs.Searches.{drop_here}
use Rattle.member_desk.proofs.After.{key_stays, clients_rise}

-- the keys before an index are done, and those from it on have these looks
pub record IsTaken (whole desk : List (Followed Told)) (index : ℕ) (looks : List Look) : Type 0 where
  pub within : index ≤ length desk
  pub is : whole ≡ take index desk ++ told_by (drop index desk) looks

pub taking_start : (desk : List (Followed Told)) (looks : List Look) → IsTaken (told_by desk looks) desk 0 looks
taking_start desk looks = record { within = omega arith; is = refl }

told_by_more : (desk : List (Followed Told)) → told_by desk [] ≡ desk
told_by_more [] = refl
told_by_more (followed ∷ desk) = refl

pub taking_end : (whole desk : List (Followed Told)) (index : ℕ) (looks : List Look) → length looks ≡ 0 → IsTaken whole desk index looks → desk ≡ whole
taking_end whole desk index (look ∷ looks) none h = absurd (omega arith)
taking_end whole desk index [] none h = sym (h.is ∙ ap (λ (ys : List (Followed Told)). take index desk ++ ys) (told_by_more (drop index desk)) ∙ take-append-drop index desk)

-- no key is left for a look
pub taking_none : (whole desk : List (Followed Told)) (index : ℕ) (look : Look) (looks : List Look) → length desk ≤ index → IsTaken whole desk index (look ∷ looks) → IsTaken whole desk index looks
taking_none whole desk index look looks past h = record {
  within = h.within;
  is = h.is ∙ ap (λ (ds : List (Followed Told)). take index desk ++ told_by ds (look ∷ looks)) (drop_all index desk past) ∙ ap (λ (ds : List (Followed Told)). take index desk ++ told_by ds looks) (sym (drop_all index desk past));
}

pub taking_one : (whole desk : List (Followed Told)) (index : ℕ) (here : Followed Told) (look : Look) (looks : List Look) → index < length desk → here ≡ get_or desk index here → IsTaken whole desk index (look ∷ looks)
    → IsTaken whole (set desk index (told_at_key here (found_by here.told look))) (index + 1) looks
taking_one whole desk index here look looks inside at h =
    let now : Followed Told = told_at_key here (found_by here.told look) in
    let rest : List (Followed Told) = drop (index + 1) desk in
    record {
      within = omega (arith, length-set desk index now);
      is = h.is ∙ ap (λ (ds : List (Followed Told)). take index desk ++ told_by ds (look ∷ looks)) (drop_here desk index here inside at)
          ∙ sym (append_assoc (take index desk) (now ∷ []) (told_by rest looks))
          ∙ ap (λ (ds : List (Followed Told)). ds ++ told_by rest looks) (sym (take-set_at desk index (index + 1) now refl inside))
          ∙ ap (λ (ds : List (Followed Told)). take (index + 1) (set desk index now) ++ told_by ds looks) (sym (drop-set-lt (index + 1) desk index now (omega arith)));
    }

-- keys and clients keep their order
keys_after : (desk : List (Followed Told)) (looks : List Look) → keys_of (told_by desk looks) ≡ keys_of desk
keys_after [] looks = refl
keys_after (f ∷ fs) [] = refl
keys_after (f ∷ fs) (look ∷ looks) = ap (λ k. k ∷ keys_of (told_by fs looks)) (key_stays f (found_by f.told look)) ∙ ap (λ ks. f.key ∷ ks) (keys_after fs looks)

clients_after : (desk : List (Followed Told)) (looks : List Look) → AllByRecursion (λ (f : Followed Told). IsRising nat_lt (numbers_of f.clients)) desk → AllByRecursion (λ (f : Followed Told). IsRising nat_lt (numbers_of f.clients)) (told_by desk looks)
clients_after [] looks h = tt
clients_after (f ∷ fs) [] h = h
clients_after (f ∷ fs) (look ∷ looks) h = (clients_rise f (found_by f.told look) h.0, clients_after fs looks h.1)

pub in_order_told : (desk : List (Followed Told)) (looks : List Look) → AreInOrder desk → AreInOrder (told_by desk looks)
in_order_told desk looks h = (subst (IsRising text_lt) (sym (keys_after desk looks)) h.0, clients_after desk looks h.1)

-- as many keys are followed as before
told_length : (desk : List (Followed Told)) (looks : List Look) → length (told_by desk looks) ≡ length desk
told_length [] looks = refl
told_length (f ∷ fs) [] = refl
told_length (f ∷ fs) (look ∷ looks) = ap suc (told_length fs looks)

-- what was noted in a list of which so many are lent
pub told_back : (n : ℕ) (desk new : List (Followed Told)) (looks : List Look) → n ≡ length desk → new ≡ told_by desk looks → take n (new ++ drop (length new) desk) ≡ told_by desk looks
told_back n desk new looks count is =
    let same : length new ≡ length desk = ap length is ∙ told_length desk looks in
    ap (λ (m : ℕ). take n (new ++ drop m desk)) same
    ∙ ap (λ (rest : List (Followed Told)). take n (new ++ rest)) (drop_all (length desk) desk (omega arith))
    ∙ ap (take n) (append-nil new)
    ∙ take_all n new (omega (arith, same, count))
    ∙ is

-- one look fewer is left
pub one_fewer : (xs ys : List Look) (x : Look) (m n : ℕ) → xs ≡ x ∷ ys → length xs ≡ m → n + 1 ≡ m → length ys ≡ n
one_fewer xs ys x m n is count fewer = let longer : length xs ≡ suc (length ys) = ap length is in omega (arith, longer, count, fewer)
