-- Messages on their way, for entries of any kind: what was posted and not yet taken.
use Rattle.std.proofs.Common.{◌≡◌, ◌≢◌, ℕ, ◌≤◌, refl, sym, ap, subst, ◌∙◌, true, false, Bool, cond, List, [], ◌∷◌, ◌++◌, arith}
use Rattle.std.specs.Prelude.{◌==◌, filter, flat_map}
use Rattle.std.specs.List.{AllByRecursion}
use Rattle.std.proofs.lemmas.Bool.Decides.{Decides-eqb}
use Rattle.std.proofs.lemmas.List.{append_assoc}
use Rattle.std.proofs.lemmas.List.Elements.{filter-append}
use Rattle.std.proofs.lemmas.Grind.{flat_map-append}
use Rattle.model_history.specs.Table.{with_at}
use Rattle.theorem_sections.specs.Queues.{AreHeard, sent, taken, stamped, Waits, IsDue}
use Rattle.theorem_sections.proofs.NextDue.{table_here, table_else}
use Rattle.theorem_sections.proofs.RunOrder.{all-append, is_same, at_both}

module _ {X : Type 0} where
  abbrev Late : ℕ → List (X × ℕ) → Type 0
  Late least posts = AllByRecursion (λ (p : X × ℕ). least ≤ p.1) posts

  late_stamped : (least s : ℕ) (xs : List X) → least ≤ s → Late least (stamped s xs)
  late_stamped least s [] h = tt
  late_stamped least s (x ∷ xs) h = (h, late_stamped least s xs h)

  too_late : (least : ℕ) (x : X) (posts takes : List (X × ℕ)) → Late least posts → AreHeard posts ((x, least) ∷ takes) → ⊥
  too_late least x [] takes late h = h
  too_late least x (post ∷ posts) takes late h = let a = late.0 in let b = h.1 in omega (arith, a, b)

module _ {E X : Type 0} (at stamp : E → ℕ) (posts takes : E → ℕ → List X) where
  sent_split : (x : E) (rest : List E) (i j : ℕ) → sent at stamp posts i j (x ∷ rest) ≡ sent at stamp posts i j (x ∷ []) ++ sent at stamp posts i j rest
  sent_split x rest i j =
      ap (flat_map (λ e. stamped (stamp e) (posts e j))) (filter-append (λ e. at e == i) (x ∷ []) rest) ∙ flat_map-append (λ e. stamped (stamp e) (posts e j)) (filter (λ e. at e == i) (x ∷ [])) (filter (λ e. at e == i) rest)

  taken_split : (x : E) (rest : List E) (i j : ℕ) → taken at stamp takes i j (x ∷ rest) ≡ taken at stamp takes i j (x ∷ []) ++ taken at stamp takes i j rest
  taken_split x rest i j =
      ap (flat_map (λ e. stamped (stamp e) (takes e i))) (filter-append (λ e. at e == j) (x ∷ []) rest) ∙ flat_map-append (λ e. stamped (stamp e) (takes e i)) (filter (λ e. at e == j) (x ∷ [])) (filter (λ e. at e == j) rest)

  taken_none : (x : E) (i j : ℕ) → (at x ≡ j → takes x i ≡ []) → taken at stamp takes i j (x ∷ []) ≡ []
  taken_none x i j none = by_test (at x == j) refl
    where
      by_test : (t : Bool) → (at x == j) ≡ t → flat_map (λ e. stamped (stamp e) (takes e i)) (cond t (x ∷ []) []) ≡ []
      by_test true e = ap (λ xs. stamped (stamp x) xs ++ []) (none ((Decides-eqb (at x) j).0 e))
      by_test false e = refl

  taken_one : (x : E) (i : ℕ) (m : X) → takes x i ≡ m ∷ [] → taken at stamp takes i (at x) (x ∷ []) ≡ (m, stamp x) ∷ []
  taken_one x i m one = ap (λ t. flat_map (λ e. stamped (stamp e) (takes e i)) (cond t (x ∷ []) [])) (is_same (at x) (at x) refl) ∙ ap (λ xs. stamped (stamp x) xs ++ []) one

  late_one : (least : ℕ) (y : E) (i j : ℕ) → least ≤ stamp y → Late least (sent at stamp posts i j (y ∷ []))
  late_one least y i j h = by_test (at y == i)
    where
      by_test : (t : Bool) → Late least (flat_map (λ e. stamped (stamp e) (posts e j)) (cond t (y ∷ []) []))
      by_test true = all-append (λ (p : X × ℕ). least ≤ p.1) (stamped (stamp y) (posts y j)) [] (late_stamped least (stamp y) (posts y j) h) tt
      by_test false = tt

  late_all : (least : ℕ) (es : List E) (i j : ℕ) → AllByRecursion (λ e. least ≤ stamp e) es → Late least (sent at stamp posts i j es)
  late_all least [] i j h = tt
  late_all least (y ∷ es) i j h =
      subst (Late least) (sym (sent_split y es i j)) (all-append (λ (p : X × ℕ). least ≤ p.1) (sent at stamp posts i j (y ∷ [])) (sent at stamp posts i j es) (late_one least y i j h.0) (late_all least es i j h.1))

  -- an entry that takes nothing
  pub waits_on : (queue : ℕ → ℕ → List (X × ℕ)) (x : E) (rest : List E) → ((i : ℕ) → takes x i ≡ []) → Waits at stamp posts takes queue (x ∷ rest)
      → Waits at stamp posts takes (λ i j. queue i j ++ sent at stamp posts i j (x ∷ [])) rest
  waits_on queue x rest none waits i j =
      subst (λ ps. AreHeard ps (taken at stamp takes i j rest))
      (ap (λ ps. queue i j ++ ps) (sent_split x rest i j) ∙ sym (append_assoc (queue i j) (sent at stamp posts i j (x ∷ [])) (sent at stamp posts i j rest)))
      (subst (AreHeard (queue i j ++ sent at stamp posts i j (x ∷ rest))) (taken_split x rest i j ∙ ap (λ ts. ts ++ taken at stamp takes i j rest) (taken_none x i j (λ _. none i))) (waits i j))

  -- an entry that takes one message: it is the first on its way
  pub takes_first : (queue : ℕ → ℕ → List (X × ℕ)) (x : E) (rest : List E) (from : ℕ) (m : X) → takes x from ≡ m ∷ [] → ((i : ℕ) → i ≢ from → takes x i ≡ []) → AllByRecursion (λ y. stamp x ≤ stamp y) rest
      → Waits at stamp posts takes queue (x ∷ rest) → IsDue at stamp posts takes queue x rest from m
  takes_first queue x rest from m one others later waits =
      takes_by (queue from (at x)) refl
      (subst (AreHeard (queue from (at x) ++ sent at stamp posts from (at x) (x ∷ rest))) (taken_split x rest from (at x) ∙ ap (λ ts. ts ++ taken at stamp takes from (at x) rest) (taken_one x from m one)) (waits from (at x)))
    where
      takes_by : (q : List (X × ℕ)) → queue from (at x) ≡ q → AreHeard (queue from (at x) ++ sent at stamp posts from (at x) (x ∷ rest)) ((m, stamp x) ∷ taken at stamp takes from (at x) rest) → IsDue at stamp posts takes queue x rest from m
      takes_by [] e h =
          absurd (too_late (stamp x) m (sent at stamp posts from (at x) (x ∷ rest)) (taken at stamp takes from (at x) rest) (late_all (stamp x) (x ∷ rest) from (at x) (omega arith, later))
          (subst (λ q. AreHeard (q ++ sent at stamp posts from (at x) (x ∷ rest)) ((m, stamp x) ∷ taken at stamp takes from (at x) rest)) e h))
      takes_by (p ∷ q) e h =
          let heard = subst (λ q. AreHeard (q ++ sent at stamp posts from (at x) (x ∷ rest)) ((m, stamp x) ∷ taken at stamp takes from (at x) rest)) e h in
          record {
            posted = p.1;
            others = q;
            first = e ∙ ap (λ y. (y, p.1) ∷ q) (sym heard.0);
            earlier = heard.1;
            waits = λ i j.
                subst (λ ps. AreHeard ps (taken at stamp takes i j rest))
                (ap (λ ps. with_at queue from (with_at (queue from) (at x) q) i j ++ ps) (sent_split x rest i j) ∙ sym (append_assoc (with_at queue from (with_at (queue from) (at x) q) i j) (sent at stamp posts i j (x ∷ [])) (sent at stamp posts i j rest)))
                (at_both from (at x) (λ i j. AreHeard (with_at queue from (with_at (queue from) (at x) q) i j ++ sent at stamp posts i j (x ∷ rest)) (taken at stamp takes i j rest))
                (subst (λ ps. AreHeard (ps ++ sent at stamp posts from (at x) (x ∷ rest)) (taken at stamp takes from (at x) rest)) (sym (table_here queue from (at x) q from (at x) refl refl)) heard.2)
                (λ a b away.
                subst (λ ps. AreHeard (ps ++ sent at stamp posts a b (x ∷ rest)) (taken at stamp takes a b rest)) (sym (table_else queue from (at x) q a b away))
                (subst (AreHeard (queue a b ++ sent at stamp posts a b (x ∷ rest))) (taken_split x rest a b ∙ ap (λ ts. ts ++ taken at stamp takes a b rest) (taken_none x a b (λ here. others a (λ is. away is (sym here))))) (waits a b))) i j);
          }
