-- Pieces that are appended one behind the other.
use Rattle.std.proofs.Common.{◌≡◌, ℕ, ◌+◌, ◌<◌, List, [], ◌∷◌, ◌++◌, length, get_or, take, refl, sym, ap, subst, ◌∙◌, append_assoc}
use Rattle.std.specs.Prelude.{map}
use Rattle.std.specs.List.{flat_map, AllByRecursion}
use Rattle.std.proofs.lemmas.List.{flat_map_more, take_more}

all_pushed : {X : Type 0} (P : X → Type 0) (xs : List X) (x : X) → AllByRecursion P xs → P x → AllByRecursion P (xs ++ x ∷ [])
all_pushed P [] x a p = (p, tt)
all_pushed P (y ∷ ys) x a p = (a.0, all_pushed P ys x a.1 p)

pub mapped : {X Y : Type 0} (f : X → Y) (xs : List X) (x : X) → map f (xs ++ x ∷ []) ≡ map f xs ++ f x ∷ []
mapped f [] x = refl
mapped f (y ∷ ys) x = ap (λ zs. f y ∷ zs) (mapped f ys x)

module _ {X Y : Type 0} (f : X → Y) (xs : List X) (i : ℕ) (x : X) (within : i < length xs) (at : x ≡ get_or xs i x) where
  -- one more was seen
  pub more : map f (take i xs) ++ f x ∷ [] ≡ map f (take (i + 1) xs)
  more = sym (mapped f (take i xs) x) ∙ ap (map f) (ap (λ (t : X). take i xs ++ t ∷ []) at ∙ sym (take_more xs i x within))

  pub all_more : (P : Y → Type 0) → AllByRecursion P (map f (take i xs)) → P (f x) → AllByRecursion P (map f (take (i + 1) xs))
  all_more P a p = subst (AllByRecursion P) more (all_pushed P (map f (take i xs)) (f x) a p)

  pub put_more : (one : Y → List ℕ) (before now after : List ℕ) → now ≡ before ++ flat_map one (map f (take i xs)) → after ≡ now ++ one (f x) → after ≡ before ++ flat_map one (map f (take (i + 1) xs))
  put_more one before now after so_far new =
      new ∙ ap (λ (bytes : List ℕ). bytes ++ one (f x)) so_far ∙ flat_map_more one before (map f (take i xs)) (f x) ∙ ap (λ (ys : List Y). before ++ flat_map one ys) more

-- the parts of a group, one behind the other
pub five_put : (old o s n d x1 x2 x3 x4 new : List ℕ) (k : ℕ) → x1 ≡ old ++ o → x2 ≡ x1 ++ s → x3 ≡ x2 ++ n → x4 ≡ x3 ++ k ∷ [] → new ≡ x4 ++ d → new ≡ old ++ ((o ++ (s ++ n)) ++ k ∷ d)
five_put old o s n d x1 x2 x3 x4 new k p q r t u =
    let three : x3 ≡ ((old ++ o) ++ s) ++ n = r ∙ ap (λ (x : List ℕ). x ++ n) (q ∙ ap (λ (x : List ℕ). x ++ s) p) in
    u ∙ ap (λ (x : List ℕ). x ++ d) t ∙ append_assoc x3 (k ∷ []) d ∙ ap (λ (x : List ℕ). x ++ k ∷ d) three
    ∙ append_assoc ((old ++ o) ++ s) n (k ∷ d) ∙ append_assoc (old ++ o) s (n ++ k ∷ d) ∙ append_assoc old o (s ++ (n ++ k ∷ d))
    ∙ ap (λ (x : List ℕ). old ++ (o ++ x)) (sym (append_assoc s n (k ∷ d))) ∙ ap (λ (x : List ℕ). old ++ x) (sym (append_assoc o (s ++ n) (k ∷ d)))

-- the parts of a view, one behind the other
pub view_put : (old x1 x2 x3 new w s : List ℕ) (g : ℕ) → x1 ≡ old ++ 1 ∷ [] → x2 ≡ x1 ++ w → x3 ≡ x2 ++ g ∷ [] → new ≡ x3 ++ s → new ≡ old ++ (1 ∷ ((w ++ g ∷ []) ++ s))
view_put old x1 x2 x3 new w s g p q r e =
    let two : x2 ≡ (old ++ 1 ∷ []) ++ w = q ∙ ap (λ (x : List ℕ). x ++ w) p in
    e ∙ ap (λ (x : List ℕ). x ++ s) (r ∙ ap (λ (x : List ℕ). x ++ g ∷ []) two) ∙ ap (λ (x : List ℕ). x ++ s) (append_assoc (old ++ 1 ∷ []) w (g ∷ []))
    ∙ append_assoc (old ++ 1 ∷ []) (w ++ g ∷ []) s ∙ append_assoc old (1 ∷ []) ((w ++ g ∷ []) ++ s)
