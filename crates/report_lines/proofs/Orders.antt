-- Keys in the byte order of their names.
use Rattle.std.proofs.Common.{◌≡◌, ◌≢◌, ℕ, zero, suc, ◌+◌, ◌<◌, ◌≤◌, List, [], ◌∷◌, ◌++◌, length, map, take, drop, get_or, Bool, true, false, Some, refl, sym, ap, ap₂, subst, ◌∙◌, arith, ⊎_elim, inl, inr, ◌⊎◌, add-one}
use Rattle.std.specs.Prelude.{fold, if◌then◌else◌, insert, slice_get, AllPairs}
use Rattle.std.specs.Ordering.{nat_cmp, is_lt}
use Rattle.std.specs.Cmp.Lexicographic.{slice_cmp}
use Rattle.std.proofs.lemmas.Bool.Decides.{nat_tests}
use Rattle.std.proofs.Math.Seq.{drop-cons}
use Rattle.std.proofs.lemmas.Cmp.{same_from_slice_cmp}
use Rattle.model_history.specs.Texts.{Text, text_lt}
use Rattle.std.proofs.lemmas.List.{take_more}
use Rattle.model_history.proofs.PruneLaws.{IsIn, in_tail}
use Rattle.model_members.specs.Node as model
use Rattle.model_kinds.specs.declared.kind.Kind.{Kind}
use Rattle.script_reading.specs.declared.script.ScriptKey.{ScriptKey}
use Rattle.member_node.specs.declared.key.KeyDecl.{KeyDecl}
use Rattle.member_node.specs.Members.{AreDistinct, declared}
use Rattle.std.proofs.lemmas.Option.{get_or_from_slice_get}
use Rattle.std.proofs.lemmas.Bool.{cases_lt}
use Rattle.report_lines.specs.Run.{place_in, placed, ordered, decl_of, in_order}

-- the order of std is byte order
pub lt_same : (xs ys : Text) → is_lt (slice_cmp nat_cmp xs ys) ≡ text_lt xs ys
lt_same xs ys = same_from_slice_cmp nat_cmp is_lt text_lt refl (λ _ _. refl) (λ _ _. refl) (λ x y xs ys o h. grind (arith, nat_tests)) xs ys (slice_cmp nat_cmp xs ys) refl

-- PLACES

module _ {X : Type 0} (name : X → Text) where
  pub placed_insert : (xs : List X) (x : X) → placed name xs x ≡ insert xs (place_in (map name xs) (name x)) x
  placed_insert [] x = refl
  placed_insert (y ∷ ys) x =
      elim (text_lt (name x) (name y)) as (λ b. (if b then x ∷ y ∷ ys else y ∷ placed name ys x) ≡ insert (y ∷ ys) (if b then 0 else suc (place_in (map name ys) (name x))) x)
      [ true ↦ refl | false ↦ ap (λ zs. y ∷ zs) (placed_insert ys x) ]

module _ {X Y : Type 0} (f : X → Y) (name : X → Text) (other : Y → Text) (same : (x : X) → other (f x) ≡ name x) where
  pub map_placed : (xs : List X) (x : X) → map f (placed name xs x) ≡ placed other (map f xs) (f x)
  map_placed [] x = refl
  map_placed (y ∷ ys) x =
      rw (same x, same y) (elim (text_lt (name x) (name y)) as (λ b. map f (if b then x ∷ y ∷ ys else y ∷ placed name ys x) ≡ (if b then f x ∷ f y ∷ map f ys else f y ∷ placed other (map f ys) (f x)))
      [ true ↦ refl | false ↦ ap (λ zs. f y ∷ zs) (map_placed ys x) ])

  map_fold : (start xs : List X) → map f (fold (placed name) start xs) ≡ fold (placed other) (map f start) (map f xs)
  map_fold start [] = refl
  map_fold start (x ∷ xs) = map_fold (placed name start x) xs ∙ ap (λ zs. fold (placed other) zs (map f xs)) (map_placed start x)

  pub map_ordered : (xs : List X) → map f (ordered name xs) ≡ ordered other (map f xs)
  map_ordered xs = map_fold [] xs

-- NAMES THAT DIFFER

IsFresh : Text → List Text → Type 0
IsFresh x ys = (i : ℕ) → slice_get ys i ≡ Some x → ⊥

fresh_empty : (x : Text) → IsFresh x []
unfolding IsFresh
fresh_empty x i e = absurd (cc e)

fresh_cons : (x y : Text) (ys : List Text) → y ≢ x → IsFresh x ys → IsFresh x (y ∷ ys)
unfolding IsFresh
fresh_cons x y ys other fresh zero e = other (cc e)
fresh_cons x y ys other fresh (suc i) e = fresh i e

fresh_tail : (x y : Text) (ys : List Text) → IsFresh x (y ∷ ys) → IsFresh x ys
unfolding IsFresh
fresh_tail x y ys fresh i e = fresh (suc i) e

fresh_head : (x y : Text) (ys : List Text) → IsFresh x (y ∷ ys) → y ≢ x
unfolding IsFresh
fresh_head x y ys fresh e = fresh zero (ap Some e)

abbrev itself : Text → Text
itself x = x

fresh_placed : (x y : Text) (ys : List Text) → y ≢ x → IsFresh x ys → IsFresh x (placed itself ys y)
fresh_placed x y [] other fresh = fresh_cons x y [] other fresh
fresh_placed x y (z ∷ zs) other fresh =
    elim (text_lt y z) as (λ b. IsFresh x (if b then y ∷ z ∷ zs else z ∷ placed itself zs y)) [
      | true ↦ fresh_cons x y (z ∷ zs) other fresh
      | false ↦ fresh_cons x z (placed itself zs y) (fresh_head x z zs fresh) (fresh_placed x y zs other (fresh_tail x z zs fresh))
    ]

distinct_cons : (x : Text) (ys : List Text) → IsFresh x ys → AreDistinct ys → AreDistinct (x ∷ ys)
unfolding IsFresh
distinct_cons x ys fresh apart zero zero n e f = refl
distinct_cons x ys fresh apart zero (suc j) n e f = absurd (fresh j (f ∙ sym e))
distinct_cons x ys fresh apart (suc i) zero n e f = absurd (fresh i (e ∙ sym f))
distinct_cons x ys fresh apart (suc i) (suc j) n e f = ap suc (apart i j n e f)

pub distinct_tail : (x : Text) (ys : List Text) → AreDistinct (x ∷ ys) → AreDistinct ys
distinct_tail x ys apart i j n e f = let s = apart (suc i) (suc j) n e f in omega (arith, s)

distinct_head : (x : Text) (ys : List Text) → AreDistinct (x ∷ ys) → IsFresh x ys
unfolding IsFresh
distinct_head x ys apart i e = let s = apart zero (suc i) x refl e in omega (arith, s)

distinct_placed : (x : Text) (ys : List Text) → IsFresh x ys → AreDistinct ys → AreDistinct (placed itself ys x)
distinct_placed x [] fresh apart = distinct_cons x [] fresh apart
distinct_placed x (y ∷ ys) fresh apart =
    elim (text_lt x y) as (λ b. AreDistinct (if b then x ∷ y ∷ ys else y ∷ placed itself ys x)) [
      | true ↦ distinct_cons x (y ∷ ys) fresh apart
      | false ↦ distinct_cons y (placed itself ys x) (fresh_placed y x ys (λ e. fresh_head x y ys fresh (sym e)) (distinct_head y ys apart)) (distinct_placed x ys (fresh_tail x y ys fresh) (distinct_tail y ys apart))
    ]

distinct_fold : (start xs : List Text) → AreDistinct start → ((i : ℕ) (x : Text) → slice_get xs i ≡ Some x → IsFresh x start) → AreDistinct xs → AreDistinct (fold (placed itself) start xs)
distinct_fold start [] apart fresh others = apart
distinct_fold start (x ∷ xs) apart fresh others =
    distinct_fold (placed itself start x) xs (distinct_placed x start (fresh zero x refl) apart)
    (λ i y e. fresh_placed y x start (λ same. not_twice x xs others i (subst (λ z. slice_get xs i ≡ Some z) (sym same) e)) (fresh (suc i) y e))
    (distinct_tail x xs others)
  where
    not_twice : (x : Text) (xs : List Text) → AreDistinct (x ∷ xs) → (i : ℕ) → slice_get xs i ≡ Some x → ⊥
    not_twice x xs others i e = let s = others zero (suc i) x refl e in omega (arith, s)

pub distinct_ordered : (xs : List Text) → AreDistinct xs → AreDistinct (ordered itself xs)
distinct_ordered xs apart = distinct_fold [] xs (λ i j n e f. absurd (cc e)) (λ i x e. fresh_empty x) apart

-- A SEARCH FOR A PLACE

module _ {X : Type 0} (name : X → Text) (xs : List X) (i : ℕ) (x : X) (n : Text) (here : i < length xs) (is : x ≡ get_or xs i x) where
  place_at : place_in (map name (drop i xs)) n ≡ (if text_lt n (name x) then 0 else suc (place_in (map name (drop (i + 1) xs)) n))
  place_at =
      ap (λ ys. place_in (map name ys) n) (drop-cons xs i x here)
      ∙ ap₂ (λ (y : X) (k : ℕ). if text_lt n (name y) then 0 else suc (place_in (map name (drop k xs)) n)) (sym is) (sym (add-one i))

  pub at_place : (less : Bool) → less ≡ is_lt (slice_cmp nat_cmp n (name x)) → less ≡ true → (all : ℕ) → i + place_in (map name (drop i xs)) n ≡ all → i ≡ all
  at_place less test yes' all known =
      let first : place_in (map name (drop i xs)) n ≡ 0 = place_at ∙ ap (λ b. if b then 0 else suc (place_in (map name (drop (i + 1) xs)) n)) (sym (lt_same n (name x)) ∙ sym test ∙ yes') in
      omega (arith, first, known)

  pub past_place : (less : Bool) → less ≡ is_lt (slice_cmp nat_cmp n (name x)) → less ≡ false → (all : ℕ) → i + place_in (map name (drop i xs)) n ≡ all → i + 1 + place_in (map name (drop (i + 1) xs)) n ≡ all
  past_place less test not' all known =
      let later : place_in (map name (drop i xs)) n ≡ suc (place_in (map name (drop (i + 1) xs)) n) =
      place_at ∙ ap (λ b. if b then 0 else suc (place_in (map name (drop (i + 1) xs)) n)) (sym (lt_same n (name x)) ∙ sym test ∙ not') in
      omega (arith, later, known)

-- ONE MORE KEY

fold_more : {X : Type 0} (name : X → Text) (start xs : List X) (x : X) → fold (placed name) start (xs ++ x ∷ []) ≡ placed name (fold (placed name) start xs) x
fold_more name start [] x = refl
fold_more name start (y ∷ ys) x = fold_more name (placed name start y) ys x

pub ordered_more : {X : Type 0} (name : X → Text) (xs : List X) (i : ℕ) (x : X) → i < length xs → x ≡ get_or xs i x → ordered name (take (i + 1) xs) ≡ placed name (ordered name (take i xs)) x
ordered_more name xs i x here is = ap (ordered name) (take_more xs i x here) ∙ fold_more name [] (take i xs) (get_or xs i x) ∙ ap (placed name (ordered name (take i xs))) (sym is)

module _ {T Op Delta : Type 0} where
  pub one_more : (keys : List ScriptKey) (i : ℕ) (key : ScriptKey) (old new : List (KeyDecl T Kind Op Delta)) (decl : KeyDecl T Kind Op Delta) (place : ℕ) → i < length keys → key ≡ get_or keys i key → decl.key ≡ key.key → decl.kind ≡ key.kind → decl.durable ≡ key.durable
      → place ≡ place_in (map (λ (d : KeyDecl T Kind Op Delta). d.key) old) key.key → new ≡ insert old place decl → map declared old ≡ map decl_of (in_order (take i keys)) → map declared new ≡ map decl_of (in_order (take (i + 1) keys))
  one_more keys i key old new decl place here is same kind durable at grown before =
      let by_key = λ (d : KeyDecl T Kind Op Delta). d.key in
      let name = λ (d : model.KeyDecl Kind). d.name in
      let place_is : place ≡ place_in (map by_key old) decl.key = at ∙ ap (place_in (map by_key old)) (sym same) in
      let decl_is : declared decl ≡ decl_of key = λ i. record { name = same i; kind = kind i; durable = durable i } in
      ap (map declared) (grown ∙ ap (λ p. insert old p decl) place_is ∙ sym (placed_insert by_key old decl)) ∙ map_placed declared by_key name (λ d. refl) old decl
      ∙ ap₂ (placed name) before decl_is ∙ sym (map_placed decl_of (λ (k : ScriptKey). k.key) name (λ k. refl) (in_order (take i keys)) key)
      ∙ ap (map decl_of) (sym (ordered_more (λ (k : ScriptKey). k.key) keys i key here is))

-- THE KEYS OF A SCRIPT

map_after : {X Y Z : Type 0} (f : X → Y) (g : Y → Z) (h : X → Z) → ((x : X) → g (f x) ≡ h x) → (xs : List X) → map g (map f xs) ≡ map h xs
map_after f g h same [] = refl
map_after f g h same (x ∷ xs) = ap₂ (λ y ys. y ∷ ys) (same x) (map_after f g h same xs)

mapped : {X Y : Type 0} (f : X → Y) (xs : List X) (i : ℕ) (y : Y) → slice_get (map f xs) i ≡ Some y → (x : X) × (slice_get xs i ≡ Some x) × (f x ≡ y) × (i < length xs)
mapped f [] i y e = absurd (cc e)
mapped f (x ∷ xs) zero y e = (x, refl, cc e, omega arith)
mapped f (x ∷ xs) (suc i) y e = let r = mapped f xs i y e in (r.0, r.1, r.2, omega (arith, r.3))

pub apart_names : (keys : List ScriptKey) → AllPairs (λ (a b : ScriptKey). a.key ≢ b.key) keys → AreDistinct (map (λ (k : ScriptKey). k.key) keys)
apart_names keys apart i j name e f =
    let a = mapped (λ (k : ScriptKey). k.key) keys i name e in
    let b = mapped (λ (k : ScriptKey). k.key) keys j name f in
    let here : get_or keys i a.0 ≡ a.0 = get_or_from_slice_get keys i a.0 a.0 a.1 in
    let there : get_or keys j a.0 ≡ b.0 = get_or_from_slice_get keys j b.0 a.0 b.1 in
    let same : (get_or keys i a.0).key ≡ (get_or keys j a.0).key = ap (λ (k : ScriptKey). k.key) here ∙ a.2 ∙ sym b.2 ∙ sym (ap (λ (k : ScriptKey). k.key) there) in
    ⊎_elim (λ (less : i < j). absurd (apart i j a.0 less b.3 same)) (λ (more : j ≤ i). ⊎_elim (λ (greater : j < i). absurd (apart j i a.0 greater a.3 (sym same))) (λ (equal : i ≤ j). omega arith) (cases_lt j i)) (cases_lt i j)

module _ {T Op Delta : Type 0} (keys : List ScriptKey) (decls : List (KeyDecl T Kind Op Delta)) (made : map declared decls ≡ map decl_of (in_order keys)) where
  pub distinct_keys : AllPairs (λ (a b : ScriptKey). a.key ≢ b.key) keys → AreDistinct (map (λ (d : KeyDecl T Kind Op Delta). d.key) decls)
  distinct_keys apart =
      let by_name = λ (d : model.KeyDecl Kind). d.name in
      let by_key = λ (k : ScriptKey). k.key in
      let names : map (λ (d : KeyDecl T Kind Op Delta). d.key) decls ≡ ordered itself (map by_key keys) =
      sym (map_after declared by_name (λ (d : KeyDecl T Kind Op Delta). d.key) (λ d. refl) decls) ∙ ap (map by_name) made ∙ map_after decl_of by_name by_key (λ k. refl) (in_order keys)
      ∙ map_ordered by_key by_key itself (λ k. refl) keys in
      subst AreDistinct (sym names) (distinct_ordered (map by_key keys) (apart_names keys apart))

-- WHAT IS IN A LIST IN ORDER

module _ {X : Type 0} (name : X → Text) where
  in_placed : (ys : List X) (x z : X) → IsIn (x ∷ ys) z → IsIn (placed name ys x) z
  in_placed [] x z m = m
  in_placed (y ∷ ys) x z m =
      elim (text_lt (name x) (name y)) as (λ b. IsIn (if b then x ∷ y ∷ ys else y ∷ placed name ys x) z) [ true ↦ m | false ↦ go (in_placed ys x z) m ]
    where
      go : (IsIn (x ∷ ys) z → IsIn (placed name ys x) z) → IsIn (x ∷ y ∷ ys) z → IsIn (y ∷ placed name ys x) z
      go among (zero, e) = in_tail y (placed name ys x) z (among (zero, e))
      go among (suc zero, e) = (zero, e)
      go among (suc (suc k), e) = in_tail y (placed name ys x) z (among (suc k, e))

  from_placed : (ys : List X) (x z : X) → IsIn (placed name ys x) z → IsIn (x ∷ ys) z
  from_placed [] x z m = m
  from_placed (y ∷ ys) x z m = (elim (text_lt (name x) (name y)) as (λ b. IsIn (if b then x ∷ y ∷ ys else y ∷ placed name ys x) z → IsIn (x ∷ y ∷ ys) z) [ true ↦ λ m. m | false ↦ go (from_placed ys x z) ]) m
    where
      later : IsIn (x ∷ ys) z → IsIn (x ∷ y ∷ ys) z
      later (zero, e) = (zero, e)
      later (suc k, e) = (suc (suc k), e)

      go : (IsIn (placed name ys x) z → IsIn (x ∷ ys) z) → IsIn (y ∷ placed name ys x) z → IsIn (x ∷ y ∷ ys) z
      go among (zero, e) = (suc zero, e)
      go among (suc k, e) = later (among (k, e))

  in_fold : (start xs : List X) (z : X) → IsIn start z ⊎ IsIn xs z → IsIn (fold (placed name) start xs) z
  in_fold start [] z (inl m) = m
  in_fold start [] z (inr m) = absurd (cc m.1)
  in_fold start (x ∷ xs) z (inl m) = in_fold (placed name start x) xs z (inl (in_placed start x z (in_tail x start z m)))
  in_fold start (x ∷ xs) z (inr (zero, e)) = in_fold (placed name start x) xs z (inl (in_placed start x z (zero, e)))
  in_fold start (x ∷ xs) z (inr (suc k, e)) = in_fold (placed name start x) xs z (inr (k, e))

  from_fold : (start xs : List X) (z : X) → IsIn (fold (placed name) start xs) z → IsIn start z ⊎ IsIn xs z
  from_fold start [] z m = inl m
  from_fold start (x ∷ xs) z m = go (from_fold (placed name start x) xs z m)
    where
      first : IsIn (x ∷ start) z → IsIn start z ⊎ IsIn (x ∷ xs) z
      first (zero, e) = inr (zero, e)
      first (suc k, e) = inl (k, e)

      go : IsIn (placed name start x) z ⊎ IsIn xs z → IsIn start z ⊎ IsIn (x ∷ xs) z
      go (inl h) = first (from_placed start x z h)
      go (inr h) = inr (in_tail x xs z h)

  pub in_ordered : (xs : List X) (z : X) → IsIn xs z → IsIn (ordered name xs) z
  in_ordered xs z m = in_fold [] xs z (inr m)

  pub from_ordered : (xs : List X) (z : X) → IsIn (ordered name xs) z → IsIn xs z
  from_ordered xs z m = go (from_fold [] xs z m)
    where
      go : IsIn [] z ⊎ IsIn xs z → IsIn xs z
      go (inl h) = absurd (cc h.1)
      go (inr h) = h

-- what is mapped is in the list that is mapped, and the other way round
pub in_mapped : {X Y : Type 0} (f : X → Y) (xs : List X) (x : X) → IsIn xs x → IsIn (map f xs) (f x)
in_mapped f [] x m = absurd (cc m.1)
in_mapped f (y ∷ xs) x (zero, e) = let same : y ≡ x = cc e in (zero, ap (λ z. Some (f z)) same)
in_mapped f (y ∷ xs) x (suc k, e) = let r = in_mapped f xs x (k, e) in (suc r.0, r.1)

pub from_mapped : {X Y : Type 0} (f : X → Y) (xs : List X) (y : Y) → IsIn (map f xs) y → (x : X) × IsIn xs x × (f x ≡ y)
from_mapped f xs y m = let r = mapped f xs m.0 y m.1 in (r.0, (m.0, r.1), r.2)
