-- Pairs and lists of parts: what is read is spelled so, and what is spelled so is read again.
use Rattle.std.proofs.Common.{◌≡◌, ℕ, zero, suc, ◌<◌, ◌^◌, List, [], ◌∷◌, ◌++◌, length, Result, Ok, refl, sym, ap, subst, ◌∙◌, append_assoc}
use Rattle.std.specs.List.{flat_map, AllByRecursion}
use Rattle.std.proofs.lemmas.List.Concat.{flat_map-cons}
use Rattle.base_bytes.specs.declared.fault.Fault.{Fault}
use Rattle.base_bytes.specs.Fields.{◌>>=◌, number_in}
use Rattle.base_bytes.specs.Spelling.{number_spelled, AreBytes, Takes}
use Rattle.base_bytes.specs.FieldLaws.{bind_ok, ok_is, takes_nothing, takes_then, number_takes, number_again}
use Rattle.base_places.specs.Spells.{Spells}
use Rattle.base_places.specs.Lists.{pair_spelled, IsSoundPair, pair_in, list_spelled, AreSound, items_in, list_in, made_in}

-- PAIRS

module _ {A B : Type 0} (One : A → Type 0) (one : A → List ℕ) (one_in : List ℕ → Result (A × List ℕ) Fault) (Two : B → Type 0) (two : B → List ℕ) (two_in : List ℕ → Result (B × List ℕ) Fault) (p : Spells One one one_in) (q : Spells Two two two_in) where
  pair_takes : (bytes : List ℕ) (x : A × B) (rest : List ℕ) → AreBytes bytes → pair_in one_in two_in bytes ≡ Ok (x, rest) → Takes bytes (pair_spelled one two x) rest × IsSoundPair One Two x
  unfolding pair_in
  pair_takes bytes x rest fits e =
      let a = bind_ok (one_in bytes) (λ a. two_in a.1 >>= λ b. Ok ((a.0, b.0), b.1)) (x, rest) e in
      let first : A × List ℕ = a.0 in
      let b = bind_ok (two_in first.1) (λ b. Ok ((first.0, b.0), b.1)) (x, rest) a.2 in
      let second : B × List ℕ = b.0 in
      let s = p.takes bytes first.0 first.1 fits a.1 in
      let t = q.takes first.1 second.0 second.1 s.0.rest_are_bytes b.1 in
      let made : (A × B) × List ℕ = ((first.0, second.0), second.1) in
      subst (λ (y : (A × B) × List ℕ). Takes bytes (pair_spelled one two y.0) y.1 × IsSoundPair One Two y.0) {x = made} {y = (x, rest)} (ok_is made (x, rest) b.2)
      (takes_then bytes (one first.0) first.1 (two second.0) second.1 s.0 t.0, (s.1, t.1))

  pair_again : (x : A × B) (rest : List ℕ) → IsSoundPair One Two x → pair_in one_in two_in (pair_spelled one two x ++ rest) ≡ Ok (x, rest)
  unfolding pair_in
  pair_again x rest sound =
      ap (λ (t : List ℕ). one_in t >>= λ a. two_in a.1 >>= λ b. Ok ((a.0, b.0), b.1)) (append_assoc (one x.0) (two x.1) rest)
      ∙ ap (λ (r : Result (A × List ℕ) Fault). r >>= λ a. two_in a.1 >>= λ b. Ok ((a.0, b.0), b.1)) (p.again x.0 (two x.1 ++ rest) sound.0)
      ∙ ap (λ (r : Result (B × List ℕ) Fault). r >>= λ b. Ok ((x.0, b.0), b.1)) (q.again x.1 rest sound.1)

  pub pair_spells : Spells (IsSoundPair One Two) (pair_spelled one two) (pair_in one_in two_in)
  pair_spells = record { takes = pair_takes; again = pair_again }

-- THE SAME, SEEN OTHERWISE

module _ {X Y : Type 0} (One : X → Type 0) (one : X → List ℕ) (one_in : List ℕ → Result (X × List ℕ) Fault) (p : Spells One one one_in) (make : X → Y) (seen : Y → X) (back : (x : X) → seen (make x) ≡ x) (forth : (y : Y) → make (seen y) ≡ y) where
  pub made_spells : Spells (λ y. One (seen y)) (λ y. one (seen y)) (made_in make one_in)
  made_spells = record {
    takes = λ bytes y rest fits e.
        let a = bind_ok (one_in bytes) (λ x. Ok (make x.0, x.1)) (y, rest) e in
        let x : X × List ℕ = a.0 in
        let t = p.takes bytes x.0 x.1 fits a.1 in
        subst (λ (z : Y × List ℕ). Takes bytes (one (seen z.0)) z.1 × One (seen z.0)) {x = (make x.0, x.1)} {y = (y, rest)} (ok_is (make x.0, x.1) (y, rest) a.2)
        (subst (λ (z : X). Takes bytes (one z) x.1 × One z) (sym (back x.0)) t);
    again = λ y rest sound. ap (λ (r : Result (X × List ℕ) Fault). r >>= λ x. Ok (make x.0, x.1)) (p.again (seen y) rest sound) ∙ ap (λ (z : Y). Ok (z, rest)) (forth y);
  }

-- LISTS

module _ {X : Type 0} (One : X → Type 0) (one : X → List ℕ) (one_in : List ℕ → Result (X × List ℕ) Fault) (p : Spells One one one_in) where
  items_take : (n : ℕ) (bytes : List ℕ) (xs : List X) (rest : List ℕ) → AreBytes bytes → items_in one_in n bytes ≡ Ok (xs, rest) → Takes bytes (flat_map one xs) rest × AllByRecursion One xs × (length xs ≡ n)
  unfolding items_in
  items_take zero bytes xs rest fits e =
      subst (λ (x : List X × List ℕ). Takes bytes (flat_map one x.0) x.1 × AllByRecursion One x.0 × (length x.0 ≡ 0)) {x = ([], bytes)} {y = (xs, rest)} (ok_is ([], bytes) (xs, rest) e)
      (takes_nothing bytes fits, tt, refl)
  items_take (suc n) bytes xs rest fits e =
      let a = bind_ok (one_in bytes) (λ first. items_in one_in n first.1 >>= λ others. Ok (first.0 ∷ others.0, others.1)) (xs, rest) e in
      let x : X × List ℕ = a.0 in
      let b = bind_ok (items_in one_in n x.1) (λ others. Ok (x.0 ∷ others.0, others.1)) (xs, rest) a.2 in
      let ys : List X × List ℕ = b.0 in
      let first = p.takes bytes x.0 x.1 fits a.1 in
      let second = items_take n x.1 ys.0 ys.1 first.0.rest_are_bytes b.1 in
      let both = takes_then bytes (one x.0) x.1 (flat_map one ys.0) ys.1 first.0 second.0 in
      let made : List X × List ℕ = (x.0 ∷ ys.0, ys.1) in
      subst (λ (y : List X × List ℕ). Takes bytes (flat_map one y.0) y.1 × AllByRecursion One y.0 × (length y.0 ≡ suc n)) {x = made} {y = (xs, rest)} (ok_is made (xs, rest) b.2)
      (rw flat_map-cons both, (first.1, second.1), ap suc second.2)

  items_again : (xs : List X) (rest : List ℕ) → AllByRecursion One xs → items_in one_in (length xs) (flat_map one xs ++ rest) ≡ Ok (xs, rest)
  unfolding items_in
  items_again [] rest each = refl
  items_again (x ∷ xs) rest each =
      let others : List ℕ = flat_map one xs ++ rest in
      let regrouped : flat_map one (x ∷ xs) ++ rest ≡ one x ++ others = ap (λ (t : List ℕ). t ++ rest) (flat_map-cons one x xs) ∙ append_assoc (one x) (flat_map one xs) rest in
      ap (items_in one_in (suc (length xs))) regrouped
      ∙ ap (λ (r : Result (X × List ℕ) Fault). r >>= λ first. items_in one_in (length xs) first.1 >>= λ more. Ok (first.0 ∷ more.0, more.1)) (p.again x others each.0)
      ∙ ap (λ (r : Result (List X × List ℕ) Fault). r >>= λ more. Ok (x ∷ more.0, more.1)) (items_again xs rest each.1)

  list_takes : (bytes : List ℕ) (xs : List X) (rest : List ℕ) → AreBytes bytes → list_in one_in bytes ≡ Ok (xs, rest) → Takes bytes (list_spelled one xs) rest × AreSound One xs
  unfolding list_in
  list_takes bytes xs rest fits e =
      let a = bind_ok (number_in bytes) (λ n. items_in one_in n.0 n.1) (xs, rest) e in
      let n : ℕ × List ℕ = a.0 in
      let first = number_takes bytes n.0 n.1 fits a.1 in
      let second = items_take n.0 n.1 xs rest first.0.rest_are_bytes a.2 in
      let same : n.0 ≡ length xs = sym second.2 in
      let both = takes_then bytes (number_spelled n.0) n.1 (flat_map one xs) rest first.0 second.0 in
      (subst (λ (k : ℕ). Takes bytes (number_spelled k ++ flat_map one xs) rest) same both, record { each = second.1; counted = subst (λ k. k < 2 ^ 64) same first.1 })

  list_again : (xs : List X) (rest : List ℕ) → AreSound One xs → list_in one_in (list_spelled one xs ++ rest) ≡ Ok (xs, rest)
  unfolding list_in
  list_again xs rest are =
      ap (λ (t : List ℕ). number_in t >>= λ n. items_in one_in n.0 n.1) (append_assoc (number_spelled (length xs)) (flat_map one xs) rest)
      ∙ ap (λ (r : Result (ℕ × List ℕ) Fault). r >>= λ n. items_in one_in n.0 n.1) (number_again (length xs) (flat_map one xs ++ rest) are.counted)
      ∙ items_again xs rest are.each

  pub list_spells : Spells (AreSound One) (list_spelled one) (list_in one_in)
  list_spells = record { takes = list_takes; again = list_again }
