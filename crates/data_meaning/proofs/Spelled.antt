-- Every history is spelled by a list of records.
use Rattle.std.proofs.Common.{◌≡◌, ℕ, suc, List, [], ◌∷◌, length, map, refl, ap, subst, arith, Some, inl, inr}
use Rattle.std.specs.Prelude.{slice_get, IsPermutation}
use Rattle.std.proofs.lemmas.List.Sorted.{IsPermutation-refl}
use Rattle.std.proofs.lemmas.Bool.{cases_lt}
use Rattle.model_history.specs.Table.{identity_limit}
use Rattle.model_history.specs.History.{Action as Meant, Stamped, History, all_records, IsHistory}
use Rattle.model_meanings.proofs.EquationsOfMeanings.{Belongs, record_of}
use Rattle.base_vectors.specs.Vectors.{number_at, numbers_of}
use Rattle.base_vectors.proofs.Laws.{number_at-numbers_of, number_at-numbers_of_above}
use Rattle.model_kinds.specs.declared.operation.Op.{Op}
use Rattle.data_meaning.specs.declared.record.Action.{Action}
use Rattle.data_meaning.specs.declared.record.Action.TheVariants.{Operation, Prune}
use Rattle.data_meaning.specs.declared.record.Record.{Record}
use Rattle.data_meaning.specs.Records.{action_of, stamped, AreRecordsOf}

abbrev as_action : Meant Op → Action
as_action (Meant.Operation op) = Operation op
as_action (Meant.Prune removed) = Prune removed

same_action : (action : Meant Op) → action_of (as_action action) ≡ action
same_action (Meant.Operation op) = refl
same_action (Meant.Prune removed) = refl

abbrev as_record : Stamped Op → Record
as_record x = record { origin = x.origin; number = x.number; action = as_action x.action; past = numbers_of x.past }

map_back : (xs : List (Stamped Op)) → ((k : ℕ) (x : Stamped Op) → slice_get xs k ≡ Some x → stamped (as_record x) ≡ x) → map stamped (map as_record xs) ≡ xs
map_back [] same = refl
map_back (x ∷ xs) same =
    let first = same 0 x refl in
    let rest = map_back xs (λ k y at. same (suc k) y at) in
    λ i. first i ∷ rest i

module _ (H : History Op) (history : IsHistory H) where
  -- no past counts anything beside identities
  same_past : (x : Stamped Op) → Belongs H x → (i : ℕ) → number_at (numbers_of x.past) i ≡ x.past i
  same_past x belongs i = elim (cases_lt i identity_limit) [
    | inl small ↦ number_at-numbers_of x.past i small
    | inr large ↦
        let r = record_of H x belongs in
        let none = ap length (history.within i large) in
        let few = history.closed r.0 r.1 _ r.2 i in
        let zero_there = number_at-numbers_of_above x.past i large in
        omega arith
  ]

  same_record : (x : Stamped Op) → Belongs H x → stamped (as_record x) ≡ x
  same_record x belongs = λ j. record { origin = x.origin; number = x.number; action = same_action x.action j; past = λ i. same_past x belongs i j }

  pub spelled : (records : List Record) × AreRecordsOf records H
  spelled = (map as_record (all_records H), record { history = history; listed = subst (λ xs. IsPermutation (map stamped (map as_record (all_records H))) xs) (map_back (all_records H) (λ k x at. same_record x (k, at))) (IsPermutation-refl (map stamped (map as_record (all_records H)))) })
