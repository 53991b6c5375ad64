-- The small path by what its client knew. The premises can be met.
use Rattle.std.proofs.Common.{◌≡◌, ◌≢◌, inl, ℕ, zero, suc, ◌<◌, ◌≤◌, List, [], ◌∷◌, refl, sym, ap, subst, ◌∙◌, arith, Some}
use Rattle.std.specs.Prelude.{◌==◌, if◌then◌else◌, slice_get, IsTrue}
use Rattle.model_members.specs.View.{is_member}
use Rattle.model_members.specs.Node.{Level}
use Rattle.theorem_sections.specs.Sections.{Command, command_to}
use Rattle.model_members.specs.Script.{Ask}
use Rattle.theorem_sections.specs.Histories.{Entry}
use Rattle.theorem_sections.specs.Paths.{ArePaths}
use Rattle.theorem_sections.specs.Knowing.{KnownStep, steps_of, IsKnownBy, KnowsHeard, KnowsAnswered, KnowsTaken, IsKnownStepOf, IsKnownPath, AreKnownPaths, KnownPathsArePaths}
use Rattle.theorem_sections.proofs.SmallPath.{D, keys, world, write, e0, e1, e2, e3, histories, clients, the_step, by_place, nothing_else, no_member, are_histories, are_paths}

-- so many entries of member 0, and of member 1
abbrev first_of : ℕ → ℕ → ℕ → ℕ
first_of m n i = if i == 0 then m else (if i == 1 then n else 0)

abbrev known : KnownStep (Unit {0}) ℕ
known = record { step = the_step; known = first_of 3 1 }

abbrev the_command : Command (Unit {0})
the_command = command_to 0 (Ask.Update (97 ∷ []) tt (Level.Majority 0))

no_entry : (k : ℕ) (e : Entry (Unit {0}) ℕ) → slice_get {X = Entry (Unit {0}) ℕ} [] k ≡ Some e → ⊥
no_entry k e at = cc at

knows_all : IsKnownBy D world histories (first_of 3 1) 4
knows_all = by_place (λ i. (k : ℕ) (e : Entry (Unit {0}) ℕ) → slice_get (histories i) k ≡ Some e → k < first_of 3 1 i → e.stamp ≤ 4) zeroth first (λ i a b k e at l. absurd (no_entry k e (ap (λ es. slice_get es k) (sym (nothing_else i a b)) ∙ at)))
  where
    zeroth : (k : ℕ) (e : Entry (Unit {0}) ℕ) → slice_get (histories 0) k ≡ Some e → k < 3 → e.stamp ≤ 4
    zeroth zero e at l = let same : e0 ≡ e = cc at in subst (λ (x : Entry (Unit {0}) ℕ). x.stamp ≤ 4) same (omega arith)
    zeroth (suc zero) e at l = let same : e2 ≡ e = cc at in subst (λ (x : Entry (Unit {0}) ℕ). x.stamp ≤ 4) same (omega arith)
    zeroth (suc (suc zero)) e at l = let same : e3 ≡ e = cc at in subst (λ (x : Entry (Unit {0}) ℕ). x.stamp ≤ 4) same (omega arith)
    zeroth (suc (suc (suc k))) e at l = absurd (cc at)

    first : (k : ℕ) (e : Entry (Unit {0}) ℕ) → slice_get (histories 1) k ≡ Some e → k < 1 → e.stamp ≤ 4
    first zero e at l = let same : e1 ≡ e = cc at in subst (λ (x : Entry (Unit {0}) ℕ). x.stamp ≤ 4) same (omega arith)
    first (suc k) e at l = absurd (cc at)

-- what it knew before it gave up: first the question, then the answer too
knows_some : (m : ℕ) → m ≤ 2 → IsKnownBy D world histories (first_of m 1) 3
knows_some m h = by_place (λ i. (k : ℕ) (e : Entry (Unit {0}) ℕ) → slice_get (histories i) k ≡ Some e → k < first_of m 1 i → e.stamp ≤ 3) zeroth first (λ i a b k e at l. absurd (no_entry k e (ap (λ es. slice_get es k) (sym (nothing_else i a b)) ∙ at)))
  where
    zeroth : (k : ℕ) (e : Entry (Unit {0}) ℕ) → slice_get (histories 0) k ≡ Some e → k < m → e.stamp ≤ 3
    zeroth zero e at l = let same : e0 ≡ e = cc at in subst (λ (x : Entry (Unit {0}) ℕ). x.stamp ≤ 3) same (omega arith)
    zeroth (suc zero) e at l = let same : e2 ≡ e = cc at in subst (λ (x : Entry (Unit {0}) ℕ). x.stamp ≤ 3) same (omega arith)
    zeroth (suc (suc k)) e at l = absurd (omega (arith, h, l))

    first : (k : ℕ) (e : Entry (Unit {0}) ℕ) → slice_get (histories 1) k ≡ Some e → k < 1 → e.stamp ≤ 3
    first zero e at l = let same : e1 ≡ e = cc at in subst (λ (x : Entry (Unit {0}) ℕ). x.stamp ≤ 3) same (omega arith)
    first (suc k) e at l = absurd (cc at)

-- the question is taken by the first entry of member 1
knows_heard : (m : ℕ) → KnowsHeard D world histories 0 0 e0 (first_of m 1)
knows_heard m = by_place (λ j. j ≢ 0 → IsTrue (is_member world.view j) → IsTrue _ → KnowsTaken D world histories 0 1 j (first_of m 1)) (λ isnt mj posts. absurd (isnt refl)) (λ isnt mj posts. omega arith) (λ j a b isnt mj posts. absurd (no_member j a b mj))

-- and its answer by the second of member 0
knows_answered : KnowsAnswered D world histories 0 (first_of 1 1) (first_of 2 1)
knows_answered = by_place (λ j. j ≢ 0 → IsTrue (is_member world.view j) → KnowsTaken D world histories j (first_of 1 1 j) 0 (first_of 2 1)) (λ isnt mj. absurd (isnt refl)) (λ isnt mj. omega arith) (λ j a b isnt mj. absurd (no_member j a b mj))

is_known_step : IsKnownStepOf D world histories 0 the_command known
is_known_step =
    record {
      told = (refl, refl);
      knows = knows_all;
      answered = record {
        index = 0;
        entry = e0;
        input = write;
        at = refl;
        runs = refl;
        given = refl;
        made = record { stands = refl; of = refl; asks = refl };
        replied = refl;
        posts = refl;
        later = omega arith;
        known = omega arith;
        heard = inl (knows_heard 3);
        ended = λ e. absurd (cc e);
      };
      timed_out = (
        0,
        e0,
        refl,
        refl,
        record {
          timeout = e3;
          asked = first_of 1 1;
          seen = first_of 2 1;
          stamp = 3;
          made = record { stands = refl; of = refl; asks = refl };
          known = omega arith;
          early = (knows_some 1 (omega arith), knows_some 2 (omega arith), omega arith);
          own = omega arith;
          cause = inl (knows_heard 1, knows_answered, inl refl);
        },
      );
      ends = inl (e3, refl, refl, refl);
      forward = omega arith;
    }

are_known_paths : AreKnownPaths D world histories clients ((known ∷ []) ∷ [])
are_known_paths = record { as_many = refl; each = λ c commands ks e f. one c commands ks e f; whole = are_paths.whole }
  where
    one : (c : ℕ) (commands : List (Command (Unit {0}))) (ks : List (KnownStep (Unit {0}) ℕ)) → slice_get clients c ≡ Some commands → slice_get ((known ∷ []) ∷ []) c ≡ Some ks → IsKnownPath D world histories c 0 commands ks
    one zero commands ks e f =
        let a : (the_command ∷ []) ≡ commands = cc e in
        let b : (known ∷ []) ≡ ks = cc f in
        subst (λ cs. IsKnownPath D world histories 0 0 cs ks) a (subst (λ ss. IsKnownPath D world histories 0 0 (the_command ∷ []) ss) b (omega arith, is_known_step, tt))
    one (suc c) commands ks e f = absurd (cc e)

-- so the theorem says something of it
pub are_paths_by_theorem : KnownPathsArePaths D → ArePaths D world histories clients (steps_of ((known ∷ []) ∷ []))
are_paths_by_theorem theorem = theorem 2 keys [] world histories clients ((known ∷ []) ∷ []) (record { some = omega arith; few = omega arith; leads = refl; lawful = tt }) are_histories are_known_paths
