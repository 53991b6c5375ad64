-- Reading at places, one part behind the other.
use Rattle.std.proofs.Common.{◌≡◌, ℕ, suc, ◌-◌, ◌+◌, ◌≤◌, ◌<◌, List, [], ◌∷◌, ◌++◌, length, drop, Result, Ok, Err, refl, sym, ap, subst, ◌∙◌, append_assoc, arith}
use Rattle.std.proofs.lemmas.List.{append-nil}
use Rattle.base_bytes.specs.declared.fault.Fault.{Fault}
use Rattle.base_bytes.specs.declared.fault.ReadError.{ReadError}
use Rattle.base_bytes.specs.declared.fault.ReadError.TheVariants as error
use Rattle.base_bytes.specs.declared.fault.FieldError.TheVariants as errors
use Rattle.base_bytes.specs.Fields.{◌>>=◌, number_in}
use Rattle.base_bytes.specs.Spelling.{AreBytes, Takes, GivesAt}
use Rattle.base_places.specs.Places.{FailsAt, GivesOn, fails_first, fails_behind, reads_behind, rest_from}
use Rattle.base_places.specs.Lists.{pair_in, items_in, list_in}

-- a place after what was read, in place of the bytes after it
pub on_at : {X : Type 0} {Sound : X → Type 0} (from : List ℕ) (place : ℕ) (spelled : X → List ℕ) (read_in : List ℕ → Result (X × List ℕ) Fault)
    → ((bytes : List ℕ) (x : X) (rest : List ℕ) → AreBytes bytes → read_in bytes ≡ Ok (x, rest) → Takes bytes (spelled x) rest × Sound x) → AreBytes (drop place from) → (result : Result (X × ℕ) ReadError)
    → GivesAt (length from) result (read_in (drop place from)) → GivesOn from (λ x. x) result (read_in (drop place from))
on_at from place spelled read_in takes fits (Ok found) h =
    let t = takes (drop place from) found.0 h.0 fits h.1 in
    h.1 ∙ ap (λ (rest : List ℕ). Ok (found.0, rest)) (sym (rest_from from place found.1 (spelled found.0) h.0 t.0 h.2))
on_at from place spelled read_in takes fits (Err e) h = h

-- memory ran out
pub no_memory : {Y : Type 0} (total : ℕ) (read : Result Y Fault) → FailsAt total error.Memory read
no_memory total read = (errors.Memory, tt, refl)

module _ {A B : Type 0} (one : List ℕ → Result (A × List ℕ) Fault) (two : List ℕ → Result (B × List ℕ) Fault) (from : List ℕ) (place : ℕ) where
  pub first_fails : (e : ReadError) → FailsAt (length from) e (one (drop place from)) → FailsAt (length from) e (pair_in one two (drop place from))
  unfolding pair_in
  first_fails e h = fails_first (length from) e (one (drop place from)) (λ a. two a.1 >>= λ b. Ok ((a.0, b.0), b.1)) h

  pub second_fails : (a : A) (middle : ℕ) → one (drop place from) ≡ Ok (a, drop middle from) → (e : ReadError) → FailsAt (length from) e (two (drop middle from)) → FailsAt (length from) e (pair_in one two (drop place from))
  unfolding pair_in
  second_fails a middle read e h =
      fails_behind (length from) e (one (drop place from)) (a, drop middle from) (λ a. two a.1 >>= λ b. Ok ((a.0, b.0), b.1)) read
      (fails_first (length from) e (two (drop middle from)) (λ b. Ok ((a, b.0), b.1)) h)

  pub both_read : (a : A) (middle : ℕ) → one (drop place from) ≡ Ok (a, drop middle from) → (b : B) (next : ℕ) → two (drop middle from) ≡ Ok (b, drop next from) → pair_in one two (drop place from) ≡ Ok ((a, b), drop next from)
  unfolding pair_in
  both_read a middle read b next h =
      reads_behind (one (drop place from)) (a, drop middle from) (λ a. two a.1 >>= λ b. Ok ((a.0, b.0), b.1)) read
      ∙ reads_behind (two (drop middle from)) (b, drop next from) (λ b. Ok ((a, b.0), b.1)) h

module _ {X : Type 0} (one : List ℕ → Result (X × List ℕ) Fault) where
  -- what was read before, and what is still read
  abbrev pub with_front : List X → Result (List X × List ℕ) Fault → Result (List X × List ℕ) Fault
  with_front front read = read >>= λ x. Ok (front ++ x.0, x.1)

  regroup : (front : List X) (x : X) (read : Result (List X × List ℕ) Fault) → with_front front (read >>= λ more. Ok (x ∷ more.0, more.1)) ≡ with_front (front ++ x ∷ []) read
  regroup front x (Ok more) = ap (λ (xs : List X). Ok (xs, more.1)) (sym (append_assoc front (x ∷ []) more.0))
  regroup front x (Err f) = refl

  pub goes_on : (front : List X) (count i : ℕ) (bytes : List ℕ) (x : X) (after : List ℕ) (total : Result (List X × List ℕ) Fault) → i < count → one bytes ≡ Ok (x, after)
      → with_front front (items_in one (count - i) bytes) ≡ total → with_front (front ++ x ∷ []) (items_in one (count - (i + 1)) after) ≡ total
  unfolding items_in
  goes_on front count i bytes x after total lt h so_far =
      let k : count - i ≡ suc (count - (i + 1)) = omega arith in
      sym (regroup front x (items_in one (count - (i + 1)) after))
      ∙ ap (λ (r : Result (X × List ℕ) Fault). with_front front (r >>= λ first. items_in one (count - (i + 1)) first.1 >>= λ more. Ok (first.0 ∷ more.0, more.1))) (sym h)
      ∙ ap (λ n. with_front front (items_in one n bytes)) (sym k) ∙ so_far

  pub item_fails : (length_of : ℕ) (e : ReadError) (front : List X) (count i : ℕ) (bytes : List ℕ) (total : Result (List X × List ℕ) Fault) → i < count → FailsAt length_of e (one bytes)
      → with_front front (items_in one (count - i) bytes) ≡ total → FailsAt length_of e total
  unfolding items_in
  item_fails length_of e front count i bytes total lt h so_far =
      let k : count - i ≡ suc (count - (i + 1)) = omega arith in
      let first : FailsAt length_of e (with_front front (one bytes >>= λ first. items_in one (count - (i + 1)) first.1 >>= λ more. Ok (first.0 ∷ more.0, more.1))) =
      fails_first length_of e (one bytes >>= λ first. items_in one (count - (i + 1)) first.1 >>= λ more. Ok (first.0 ∷ more.0, more.1)) (λ x. Ok (front ++ x.0, x.1))
      (fails_first length_of e (one bytes) (λ first. items_in one (count - (i + 1)) first.1 >>= λ more. Ok (first.0 ∷ more.0, more.1)) h) in
      subst (λ (r : Result (List X × List ℕ) Fault). FailsAt length_of e r) (ap (λ n. with_front front (items_in one n bytes)) (sym k) ∙ so_far) first

  pub is_done : (front : List X) (count i : ℕ) (bytes : List ℕ) (total : Result (List X × List ℕ) Fault) → count ≤ i → with_front front (items_in one (count - i) bytes) ≡ total → total ≡ Ok (front, bytes)
  unfolding items_in
  is_done front count i bytes total le so_far =
      let k : count - i ≡ 0 = omega arith in
      sym so_far ∙ ap (λ n. with_front front (items_in one n bytes)) k ∙ ap (λ (xs : List X). Ok (xs, bytes)) (append-nil front)

  pub nothing_yet : (read : Result (List X × List ℕ) Fault) → with_front [] read ≡ read
  nothing_yet (Ok x) = refl
  nothing_yet (Err f) = refl

  module _ (from : List ℕ) (place : ℕ) where
    pub count_fails : (e : ReadError) → FailsAt (length from) e (number_in (drop place from)) → FailsAt (length from) e (list_in one (drop place from))
    unfolding list_in
    count_fails e h = fails_first (length from) e (number_in (drop place from)) (λ n. items_in one n.0 n.1) h

    module _ (count next : ℕ) (read : number_in (drop place from) ≡ Ok (count, drop next from)) where
      pub items_read : list_in one (drop place from) ≡ items_in one count (drop next from)
      unfolding list_in
      items_read = reads_behind (number_in (drop place from)) (count, drop next from) (λ n. items_in one n.0 n.1) read
