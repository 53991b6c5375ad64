-- Answers that come after one another: what keepers tell then, and what is foretold.
use Rattle.std.proofs.Common.{◌≡◌, ℕ, ◌+◌, ◌-◌, List, [], ◌∷◌, ◌++◌, length, map, Bool, cond, Option, Some, None, refl, sym, ap, ap₂, subst, ◌∙◌, arith, append_assoc}
use Rattle.std.specs.Prelude.{count_by, not, IsSome}
use Rattle.std.specs.List.{range_with_len}
use Rattle.std.proofs.lemmas.List.Sums.{sum_by-append}
use Rattle.thread_machine.specs.Faults.{RoseBy}
use Rattle.model_members.specs.Script.{KeeperAnswers, answers_between}
use Rattle.member_keeper.specs.Calls.{Becomes}
use Rattle.member_keeper.specs.declared.keeper.Keeper.{Ghosts as Keeping}
use Rattle.world_places.specs.Keeping.{Keeps, KeepsAt, IsKept}

-- KEEPERS

rose_further : (n m a b c : ℕ) → RoseBy n a b → RoseBy m b c → RoseBy (n + m) a c
rose_further n m a b c first second = omega (arith, first, second)

module _ {K : Type 0} (keeping : Keeping K) where
  told_further : (xs ys : List Bool) (a b c : Option (List Bool)) → Becomes a b (λ before. before ++ xs) → Becomes b c (λ before. before ++ ys) → Becomes a c (λ before. before ++ (xs ++ ys))
  told_further xs ys None b c first second = tt
  told_further xs ys (Some before) b c first second =
      let now : c ≡ Some ((before ++ xs) ++ ys) = subst (λ o. Becomes o c (λ before. before ++ ys)) first second in
      now ∙ ap Some (append_assoc before xs ys)

  keeps_further : (xs ys : List Bool) (a b c : K) → Keeps keeping xs a b → Keeps keeping ys b c → Keeps keeping (xs ++ ys) a c
  keeps_further xs ys a b c first second =
      record {
        told = told_further xs ys (keeping.answers a) (keeping.answers b) (keeping.answers c) first.told second.told;
        counted = subst (λ n. RoseBy n (keeping.faults a) (keeping.faults c)) (sym (counts xs ys)) (rose_further (count_by not xs) (count_by not ys) (keeping.faults a) (keeping.faults b) (keeping.faults c) first.counted second.counted);
        table = λ some. second.table (first.table some);
      }
    where
      counts : (xs ys : List Bool) → count_by not (xs ++ ys) ≡ count_by not xs + count_by not ys
      counts xs ys = sum_by-append (λ x. cond (not x) 1 0) xs ys

  pub kept_further : (xs ys : List Bool) (a b c : Option K) → KeepsAt keeping xs a b → KeepsAt keeping ys b c → KeepsAt keeping (xs ++ ys) a c
  kept_further xs ys None None None first second = ap₂ (λ (p q : List Bool). p ++ q) first second
  kept_further xs ys None None (Some c) first second = absurd second
  kept_further xs ys None (Some b) c first second = absurd first
  kept_further xs ys (Some a) None c first second = absurd first
  kept_further xs ys (Some a) (Some b) None first second = absurd second
  kept_further xs ys (Some a) (Some b) (Some c) first second = keeps_further xs ys a b c first second

  pub is_kept_further : (xs : List Bool) (a b c : Option K) → KeepsAt keeping xs a b → IsKept keeping b c → IsKept keeping a c
  is_kept_further xs a b c first second = record { answers = xs ++ second.answers; keeps = kept_further xs second.answers a b c first second.keeps }

  -- a told table goes on being told
  pub tells_further : (xs : List Bool) (a b : Option K) → KeepsAt keeping xs a b → ((keeper : K) → a ≡ Some keeper → IsSome (keeping.table keeper)) → (keeper : K) → b ≡ Some keeper → IsSome (keeping.table keeper)
  tells_further xs None b keeps tells keeper is = absurd (none b keeps is)
    where
      none : (b : Option K) → KeepsAt keeping xs None b → b ≡ Some keeper → ⊥
      none None keeps is = absurd (cc is)
      none (Some b) keeps is = keeps
  tells_further xs (Some a) b keeps tells keeper is = (subst (KeepsAt keeping xs (Some a)) is keeps).table (tells a refl)

-- WHAT IS FORETOLD

-- two lists of one length that begin two equal lists
module _ {X : Type 0} (f : ℕ → X) where
  first_mapped : (xs ys : List X) (c : ℕ) → map f (range_with_len c (length (xs ++ ys))) ≡ xs ++ ys → map f (range_with_len c (length xs)) ≡ xs
  first_mapped [] ys c e = refl
  first_mapped (x ∷ xs) ys c e =
      let here : f c ≡ x = cc e in
      let later : map f (range_with_len (c + 1) (length (xs ++ ys))) ≡ xs ++ ys = cc e in
      ap₂ (λ (y : X) ys. y ∷ ys) here (first_mapped xs ys (c + 1) later)

  then_mapped : (xs ys : List X) (c : ℕ) → map f (range_with_len c (length (xs ++ ys))) ≡ xs ++ ys → map f (range_with_len (c + length xs) (length ys)) ≡ ys
  then_mapped [] ys c e = let same : c + 0 ≡ c = omega arith in ap (λ n. map f (range_with_len n (length ys))) same ∙ e
  then_mapped (x ∷ xs) ys c e =
      let later : map f (range_with_len (c + 1) (length (xs ++ ys))) ≡ xs ++ ys = cc e in
      let same : c + length (x ∷ xs) ≡ c + 1 + length xs = omega arith in
      ap (λ n. map f (range_with_len n (length ys))) same ∙ then_mapped xs ys (c + 1) later

counted : (c n : ℕ) → c + n - c ≡ n
counted c n = omega arith

-- of answers that are foretold, the first ones
pub foretold_first : (answers : KeeperAnswers) (place c : ℕ) (xs ys : List Bool) → answers_between answers place c (c + length (xs ++ ys)) ≡ xs ++ ys → answers_between answers place c (c + length xs) ≡ xs
foretold_first answers place c xs ys e =
    ap (λ n. map (answers place) (range_with_len c n)) (counted c (length xs))
    ∙ first_mapped (answers place) xs ys c (ap (λ n. map (answers place) (range_with_len c n)) (sym (counted c (length (xs ++ ys)))) ∙ e)

-- and those that follow
pub foretold_then : (answers : KeeperAnswers) (place c : ℕ) (xs ys : List Bool) → answers_between answers place c (c + length (xs ++ ys)) ≡ xs ++ ys → answers_between answers place (c + length xs) (c + length xs + length ys) ≡ ys
foretold_then answers place c xs ys e =
    ap (λ n. map (answers place) (range_with_len (c + length xs) n)) (counted (c + length xs) (length ys))
    ∙ then_mapped (answers place) xs ys c (ap (λ n. map (answers place) (range_with_len c n)) (sym (counted c (length (xs ++ ys)))) ∙ e)
