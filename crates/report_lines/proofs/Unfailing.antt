-- Where no keeper's count rose, no call of one failed.
use Rattle.std.proofs.Common.{◌≡◌, ℕ, zero, suc, ◌+◌, ◌<◌, ◌≤◌, ◌⊎◌, inl, inr, List, [], ◌∷◌, length, get_or, Bool, true, false, not, cond, refl, ap, arith}
use Rattle.std.proofs.lemmas.List.Sums.{sum_by-cons}
use Rattle.std.specs.Prelude.{Some, slice_get, count_by}
use Rattle.base_outside.specs.Causes.{Rose}
use Rattle.thread_machine.specs.Faults.{RoseBy}
use Rattle.model_members.specs.Script.{none_fails}
use Rattle.member_keeper.specs.declared.keeper.Keeper.{Ghosts as Keeping}
use Rattle.world_places.specs.Keeping.{Given, Keeps, AtEachPlace}
use Rattle.report_lines.specs.Kept.{answers_by, NoneRose}

count_by_not-cons : (b : Bool) (bs : List Bool) → count_by not (b ∷ bs) ≡ cond (not b) 1 0 + count_by not bs
count_by_not-cons b bs = sum_by-cons (λ x. cond (not x) 1 0) b bs

-- a list without a failure has Ok alone, and says Ok past its end
each_ok : (answers : List Bool) → count_by not answers ≡ 0 → (call : ℕ) → get_or answers call true ≡ true
each_ok [] none call = refl
each_ok (true ∷ answers) none zero = refl
each_ok (true ∷ answers) none (suc call) = each_ok answers (omega (arith, count_by_not-cons true answers, none)) call
each_ok (false ∷ answers) none call = absurd (omega (arith, count_by_not-cons false answers, none))

-- a count that rose by at least one rose
rose : (n before now : ℕ) → 0 < n → RoseBy n before now → Rose before now
rose n before now some h = omega (arith, some, h)

none : (n before now : ℕ) → RoseBy n before now → (Rose before now → ⊥) → n ≡ 0
none zero before now h stays = refl
none (suc n) before now h stays = absurd (stays (rose (suc n) before now (omega arith) h))

-- the item at an index, or there is none
there : {X : Type 0} (xs : List X) (n : ℕ) → ((x : X) × (slice_get xs n ≡ Some x)) ⊎ (length xs ≤ n)
there [] n = inr (omega arith)
there (x ∷ xs) zero = inl (x, refl)
there (x ∷ xs) (suc n) = onward (there xs n)
  where
    onward : ((y : _) × (slice_get xs n ≡ Some y)) ⊎ (length xs ≤ n) → ((y : _) × (slice_get (x ∷ xs) (suc n) ≡ Some y)) ⊎ (length (x ∷ xs) ≤ suc n)
    onward (inl h) = inl h
    onward (inr h) = inr (omega (arith, h))

module _ {K : Type 0} (keeping : Keeping K) (given : Given) (old new : List K) (kept : AtEachPlace (λ place. Keeps keeping (given place)) old new) (others : (place : ℕ) → length old ≤ place → given place ≡ []) (stays : NoneRose keeping old new) where
  none_at : (place : ℕ) → count_by not (given place) ≡ 0
  none_at place = from (there old place) (there new place)
    where
      from : ((x : K) × (slice_get old place ≡ Some x)) ⊎ (length old ≤ place) → ((x : K) × (slice_get new place ≡ Some x)) ⊎ (length new ≤ place) → count_by not (given place) ≡ 0
      from (inl a) (inl b) = none (count_by not (given place)) (keeping.faults a.0) (keeping.faults b.0) (kept.each place a.0 b.0 a.1 b.1).counted (stays.each place a.0 b.0 a.1 b.1)
      from (inl a) (inr short) = ap (count_by not) (others place (omega (arith, short, kept.count)))
      from (inr short) b = ap (count_by not) (others place short)

  -- the keepers' answers are those of keepers that never fail
  pub none_failed : answers_by given ≡ none_fails
  none_failed = λ i place call. each_ok (given place) (none_at place) call i
