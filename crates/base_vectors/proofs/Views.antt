-- The numbers that words are.
use Rattle.model_history.specs.Table.{identity_limit, with_at}
use Rattle.std.proofs.Common.{◌≡◌, ◌≢◌, ℕ, ◌<◌, ◌≤◌, max, List, [], length, slice_index, arith, refl, ap, sym, ◌∙◌, ⊎_elim, subst}
use Rattle.std.specs.FinMap as map
use Rattle.std.proofs.lemmas.Bool.{cases_eq, cases_lt}
use Rattle.std.proofs.lemmas.List.{get_or_past}
use Rattle.model_history.proofs.HistoryLaws.{with_at_other}
use Rattle.model_history.proofs.CutLaws.{with_at_is}
use Rattle.base_vectors.specs.Vectors.{Numbers, number_at, numbers_of, joined, IsNormal, IsFirstLacking}
use Rattle.model_history.specs.Vector.{Covers}
use Rattle.base_vectors.specs.Words.{of_words, IsFirstBelow}
use Rattle.base_vectors.proofs.Laws.{number_at-numbers_of, number_at-numbers_of_above, numbers_of-same, IsNormal-numbers_of, empty-numbers_of}

-- a number is its word
pub number_at-of_words : (words : List ℕ) (i : ℕ) → length words ≤ identity_limit → number_at (of_words words) i ≡ slice_index words i
number_at-of_words words i few = ⊎_elim (λ (l : i < identity_limit). number_at-numbers_of (λ k. slice_index words k) i l)
    (λ (l : identity_limit ≤ i). let past : length words ≤ i = omega arith in number_at-numbers_of_above (λ k. slice_index words k) i l ∙ sym (get_or_past words i 0 past)) (cases_lt i identity_limit)

pub number_of_word : (words : List ℕ) (m : Numbers) (i : ℕ) → of_words words ≡ m → length words ≤ identity_limit → slice_index words i ≡ number_at m i
number_of_word words m i is few = sym (number_at-of_words words i few) ∙ ap (λ n. number_at n i) is

pub view_normal : (words : List ℕ) (m : Numbers) → of_words words ≡ m → IsNormal m
view_normal words m is = subst IsNormal is (IsNormal-numbers_of (λ i. slice_index words i))

pub of_words-empty : of_words [] ≡ map.empty
of_words-empty = sym (empty-numbers_of (λ i. slice_index [] i) (λ i. refl))

-- nothing from the end of the words on
pub none_above : (words : List ℕ) (m : Numbers) (i : ℕ) → of_words words ≡ m → length words ≤ identity_limit → length words ≤ i → number_at m i ≡ 0
none_above words m i is few past = sym (number_of_word words m i is few) ∙ get_or_past words i 0 past

-- words that differ at one identity
pub one_changed : (words changed : List ℕ) (m : Numbers) (id to : ℕ) → of_words words ≡ m → length words ≤ identity_limit → slice_index changed id ≡ to → ((i : ℕ) → i ≢ id → slice_index changed i ≡ slice_index words i) → of_words changed ≡ numbers_of (with_at (number_at m) id to)
one_changed words changed m id to is few here others = numbers_of-same (λ i. slice_index changed i) (with_at (number_at m) id to) (λ i l. ⊎_elim
    (λ (e : i ≡ id). ap (slice_index changed) e ∙ here ∙ sym (with_at_is (number_at m) id to i e))
    (λ (ne : i ≢ id). others i ne ∙ number_of_word words m i is few ∙ sym (with_at_other (number_at m) id to i ne)) (cases_eq i id))

-- the greater word at each index
pub both_joined : (words others both : List ℕ) (m n : Numbers) → of_words words ≡ m → length words ≤ identity_limit → of_words others ≡ n → length others ≤ identity_limit
    → ((i : ℕ) → slice_index both i ≡ max (slice_index words i) (slice_index others i)) → of_words both ≡ joined m n
both_joined words others both m n is few are also each = numbers_of-same (λ i. slice_index both i) (λ i. max (number_at m i) (number_at n i))
    (λ i l. each i ∙ ap (λ k. max k (slice_index others i)) (number_of_word words m i is few) ∙ ap (max (number_at m i)) (number_of_word others n i are also))

-- no word is below the one that is needed
pub words_cover : (words needs : List ℕ) (m n : Numbers) → of_words words ≡ m → length words ≤ identity_limit → of_words needs ≡ n → length needs ≤ identity_limit → ((i : ℕ) → slice_index needs i ≤ slice_index words i) → Covers (number_at m) (number_at n)
words_cover words needs m n is few are also covers = λ i. rw (← (number_of_word words m i is few), ← (number_of_word needs n i are also)) (covers i)

-- the first word that is below is the one of the least identity that lacks
pub first_of_words : (words needs : List ℕ) (m n : Numbers) (index : ℕ) → of_words words ≡ m → length words ≤ identity_limit → of_words needs ≡ n → length needs ≤ identity_limit → IsFirstBelow words needs 0 index → IsFirstLacking m n index
first_of_words words needs m n index is few are also h = record {
  lacking = rw (← (number_of_word words m index is few), ← (number_of_word needs n index are also)) h.lacking;
  first = λ i l. rw (← (number_of_word words m i is few), ← (number_of_word needs n i are also)) (h.first i (omega arith) l);
}
