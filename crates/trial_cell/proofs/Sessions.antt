-- Two sessions, taken out of a list and put back after they went on.
use Rattle.std.proofs.Common.{◌≡◌, ℕ, zero, suc, ◌<◌, List, [], ◌∷◌, ◌++◌, map, length, get_or, ap, sym, ◌∙◌, subst, arith}
use Rattle.std.specs.List.{All, Contains}
use Rattle.std.proofs.lemmas.List.Elements.{All-push}
use Rattle.atomic_table.specs.Seated.{TableId}
use Rattle.thread_cell.specs.Calls.{AreAll}
use Rattle.thread_cell.specs.Values.{client_calls}
use Rattle.thread_cell.specs.Views.{numbers}
use Rattle.thread_cell.proofs.Starts.{session_numbers-push}
use Rattle.trial_cell.specs.Answers.{Client, GoesOn}

module _ {A : Type 0} (P : A → Type 0) where
  all_last : (xs : List A) (x : A) → All P (xs ++ x ∷ []) → P x
  all_last [] x all = all 0 x (omega arith)
  all_last (y ∷ xs) x all = all_last xs x (λ k d lt. all (suc k) d (omega arith))

  with_first : (y : A) (xs : List A) → P y → All P xs → (k : ℕ) (d : A) → k < length (y ∷ xs) → P (get_or (y ∷ xs) k d)
  with_first y xs here more zero d lt = here
  with_first y xs here more (suc k) d lt = more k d (omega arith)

  all_before : (xs : List A) (x : A) → All P (xs ++ x ∷ []) → All P xs
  all_before [] x all = λ k d lt. absurd (omega arith)
  all_before (y ∷ xs) x all = with_first y xs (all 0 y (omega arith)) (all_before xs x (λ k d lt. all (suc k) d (omega arith)))

module _ (all one none first both : List Client) (a b a' b' : Client) (all_is : all ≡ one ++ b ∷ []) (one_is : one ≡ none ++ a ∷ []) (first_is : first ≡ none ++ a' ∷ []) (both_is : both ≡ first ++ b' ∷ [])
    (a_on : GoesOn a a') (b_on : GoesOn b b') where
  pub same_tables : (table : TableId) → All (λ (s : Client). s.seen.table ≡ table) all → All (λ (s : Client). s.seen.table ≡ table) both
  same_tables table tables =
      let P : Client → Type 0 = λ s. s.seen.table ≡ table in
      let outer : All P (one ++ b ∷ []) = subst (All P) all_is tables in
      let inner : All P (none ++ a ∷ []) = subst (All P) one_is (all_before P one b outer) in
      subst (All P) (sym both_is)
      (All-push P first b' (subst (All P) (sym first_is) (All-push P none a' (all_before P none a inner) (a_on.table ∙ all_last P none a inner))) (b_on.table ∙ all_last P one b outer))

  same_numbers : numbers (map client_calls both) ≡ numbers (map client_calls all)
  same_numbers =
      let P : List Client → List ℕ = λ sessions. numbers (map client_calls sessions) in
      ap P both_is
      ∙ (session_numbers-push first b'
      ∙ (ap (λ ns. ns ++ b'.number ∷ []) (ap P first_is ∙ session_numbers-push none a')
      ∙ (ap (λ (n : ℕ). (P none ++ a'.number ∷ []) ++ n ∷ []) b_on.number
      ∙ (ap (λ (n : ℕ). (P none ++ n ∷ []) ++ b.number ∷ []) a_on.number
      ∙ (ap (λ ns. ns ++ b.number ∷ []) (sym (ap P one_is ∙ session_numbers-push none a))
      ∙ sym (ap P all_is ∙ session_numbers-push one b))))))

  pub still_all : (count : ℕ) → AreAll count (map client_calls all) → AreAll count (map client_calls both)
  still_all count each c less = subst (λ ns. Contains ns c) (sym same_numbers) (each c less)
