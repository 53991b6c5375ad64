-- Beginnings of one list.
use Rattle.std.proofs.Common.{◌≡◌, ℕ, zero, suc, ◌≤◌, List, [], ◌∷◌, ◌++◌, length, Some, slice_get, refl, ap, sym, ◌∙◌, arith, append_assoc, append-nil, length-append}
use mathlib.Core.List.{IsPrefix}
use Rattle.thread_cell.specs.Lists.{longer}

module _ {A : Type 0} where
  pub prefix_self : (xs : List A) → IsPrefix xs xs
  prefix_self xs = ([], append-nil xs)

  pub prefix_trans : (xs ys zs : List A) → IsPrefix xs ys → IsPrefix ys zs → IsPrefix xs zs
  prefix_trans xs ys zs p q = (p.0 ++ q.0, sym (append_assoc xs p.0 q.0) ∙ (ap (λ w. w ++ q.0) p.1 ∙ q.1))

  pub prefix_more : (xs ys zs : List A) → IsPrefix xs ys → IsPrefix xs (ys ++ zs)
  prefix_more xs ys zs p = prefix_trans xs ys (ys ++ zs) p (zs, refl)

  pub prefix_length : (xs ys : List A) → IsPrefix xs ys → length xs ≤ length ys
  prefix_length xs ys p = omega (arith, sym (ap length p.1) ∙ length-append xs p.0)

  -- a beginning as long as the whole is the whole
  pub prefix_whole : (xs ys : List A) → IsPrefix xs ys → length ys ≤ length xs → xs ≡ ys
  prefix_whole [] [] p le = refl
  prefix_whole [] (y ∷ ys) p le = absurd (omega arith)
  prefix_whole (x ∷ xs) [] p le = absurd (cc (p.1))
  prefix_whole (x ∷ xs) (y ∷ ys) p le = let more = prefix_whole xs ys (p.0, cc (p.1)) (omega arith) in cc (p.1, more)

  -- what stands in a beginning stands in the whole, at the same index
  pub prefix_get : (xs ys : List A) (k : ℕ) (x : A) → IsPrefix xs ys → slice_get xs k ≡ Some x → slice_get ys k ≡ Some x
  prefix_get [] ys k x p h = absurd cc
  prefix_get (y ∷ xs) [] k x p h = absurd (cc (p.1))
  prefix_get (y ∷ xs) (z ∷ ys) zero x p h = cc (p.1, h)
  prefix_get (y ∷ xs) (z ∷ ys) (suc k) x p h = prefix_get xs ys k x (p.0, cc (p.1)) h

  -- of two beginnings of one list the longer one is a beginning too, and both begin it
  pub longer_begins : (xs ys zs : List A) → IsPrefix xs zs → IsPrefix ys zs → IsPrefix (longer xs ys) zs
  longer_begins [] ys zs p q = q
  longer_begins (x ∷ xs) [] zs p q = p
  longer_begins (x ∷ xs) (y ∷ ys) [] p q = absurd (cc (p.1))
  longer_begins (x ∷ xs) (y ∷ ys) (z ∷ zs) p q =
      let more = longer_begins xs ys zs (p.0, cc (p.1)) (q.0, cc (q.1)) in
      let head : x ≡ z = cc (p.1) in (more.0, cc (head, more.1))

  pub begins_longer : (xs ys zs : List A) → IsPrefix xs zs → IsPrefix ys zs → IsPrefix xs (longer xs ys)
  begins_longer [] ys zs p q = (ys, refl)
  begins_longer (x ∷ xs) [] zs p q = prefix_self (x ∷ xs)
  begins_longer (x ∷ xs) (y ∷ ys) [] p q = absurd (cc (p.1))
  begins_longer (x ∷ xs) (y ∷ ys) (z ∷ zs) p q = let more = begins_longer xs ys zs (p.0, cc (p.1)) (q.0, cc (q.1)) in (more.0, cc (more.1))

  pub begins_longer_too : (xs ys zs : List A) → IsPrefix xs zs → IsPrefix ys zs → IsPrefix ys (longer xs ys)
  begins_longer_too [] ys zs p q = prefix_self ys
  begins_longer_too (x ∷ xs) [] zs p q = (x ∷ xs, refl)
  begins_longer_too (x ∷ xs) (y ∷ ys) [] p q = absurd (cc (p.1))
  begins_longer_too (x ∷ xs) (y ∷ ys) (z ∷ zs) p q =
      let more = begins_longer_too xs ys zs (p.0, cc (p.1)) (q.0, cc (q.1)) in
      let head : x ≡ y = cc (p.1, q.1) in (more.0, cc (head, more.1))

  -- the whole and a beginning of it: the longer one is the whole
  pub longer_whole : (xs ys : List A) → IsPrefix ys xs → longer xs ys ≡ xs
  longer_whole [] [] p = refl
  longer_whole [] (y ∷ ys) p = absurd (cc (p.1))
  longer_whole (x ∷ xs) [] p = refl
  longer_whole (x ∷ xs) (y ∷ ys) p = ap (λ w. x ∷ w) (longer_whole xs ys (p.0, cc (p.1)))

  pub longer_whole_too : (xs ys : List A) → IsPrefix xs ys → longer xs ys ≡ ys
  longer_whole_too [] ys p = refl
  longer_whole_too (x ∷ xs) [] p = absurd (cc (p.1))
  longer_whole_too (x ∷ xs) (y ∷ ys) p = let more = longer_whole_too xs ys (p.0, cc (p.1)) in cc (p.1, more)

  pub longer_length : (xs ys : List A) → length xs ≤ length (longer xs ys)
  longer_length [] ys = omega arith
  longer_length (x ∷ xs) [] = omega arith
  longer_length (x ∷ xs) (y ∷ ys) = let more = longer_length xs ys in omega arith

  pub longer_length_too : (xs ys : List A) → length ys ≤ length (longer xs ys)
  longer_length_too [] ys = omega arith
  longer_length_too (x ∷ xs) [] = omega arith
  longer_length_too (x ∷ xs) (y ∷ ys) = let more = longer_length_too xs ys in omega arith

  pub longer_nil : (xs : List A) → longer xs [] ≡ xs
  longer_nil [] = refl
  longer_nil (x ∷ xs) = refl
