-- Which record is an operation that passes a test: so what a history has, each history that holds it has, and a prune adds none.
use Rattle.std.proofs.Common.{◌≡◌, ℕ, zero, suc, ◌<◌, List, [], ◌∷◌, refl, sym, ap, ◌∙◌, arith, inl, inr, Bool, true, false}
use Rattle.std.specs.List.{list_any}
use Rattle.std.proofs.lemmas.Bool.{or_cases}
use Rattle.std.proofs.lemmas.Map.Keys.{any_passes_from_place}
use Rattle.model_history.specs.Table.{identity_limit, identities}
use Rattle.model_history.specs.History.{Action, Record, History, Stamped, versions, stamped_from, all_records, HasRecord, IsPartOf}
use Rattle.model_history.specs.History.Action.{Operation, Prune}
use Rattle.model_history.proofs.HistoryLaws.{has_with_record}
use Rattle.model_history.proofs.PartLaws.{in_whole, part_with_record}
use Rattle.model_history.proofs.PruneLaws.{IsIn, in_flat_map, in_range, to_flat_map, in_stamped, to_stamped, at_identities}
use Rattle.model_meanings.specs.Growing.{is_operation, has_operation}
use Rattle.model_meanings.specs.Prunes.{after_prune}

pub any_at : {X : Type 0} (p : X → Bool) (xs : List X) → list_any p xs ≡ true → (x : X) × IsIn xs x × (p x ≡ true)
any_at p [] e = absurd (cc e)
any_at p (x ∷ xs) e = elim (or_cases (p x) (list_any p xs) e) [
  | inl here ↦ (x, (zero, refl), here)
  | inr later ↦ let h = any_at p xs later in (h.0, (suc h.1.0, h.1.1), h.2)
]

pub same_bits : (b c : Bool) → (b ≡ true → c ≡ true) → (c ≡ true → b ≡ true) → b ≡ c
same_bits true c f g = sym (f refl)
same_bits false true f g = g refl
same_bits false false f g = refl

module _ {Op : Type 0} (test : Op → Bool) where
  -- the record
  pub operation_is : (H : History Op) → has_operation test H ≡ true → (i : ℕ) × (k : ℕ) × (r : Record Op) × (i < identity_limit) × HasRecord H i k r × (is_operation test r.action ≡ true)
  operation_is H has =
      let x = any_at (λ (x : Stamped Op). is_operation test x.action) (all_records H) has in
      let row = in_flat_map (λ i. stamped_from i 1 (H i)) identities x.0 x.1 in
      let here = in_stamped row.0 1 (H row.0) x.0 row.2 in
      let small = in_range 0 identity_limit row.0 row.1 in
      (row.0, here.0, record { action = x.0.action; past = x.0.past }, omega (arith, small.1), here.1, x.2)

  pub operation_named : (H : History Op) → has_operation test H ≡ true → (i : ℕ) × (k : ℕ) × (r : Record Op) × (op : Op) × HasRecord H i k r × (r.action ≡ Operation op) × (test op ≡ true)
  operation_named H has = let o = operation_is H has in by o.0 o.1 o.2 o.4 o.2.action refl o.5
    where
      by : (i k : ℕ) (r : Record Op) → HasRecord H i k r → (action : Action Op) → r.action ≡ action → is_operation test r.action ≡ true
          → (i : ℕ) × (k : ℕ) × (r : Record Op) × (op : Op) × HasRecord H i k r × (r.action ≡ Operation op) × (test op ≡ true)
      by i k r there (Operation op) is passes = (i, k, r, op, there, is, sym (ap (is_operation test) is) ∙ passes)
      by i k r there (Prune removed) is passes = absurd (let clash : false ≡ true = sym (ap (is_operation test) is) ∙ passes in cc clash)

  pub has_one : (H : History Op) (i k : ℕ) (r : Record Op) → i < identity_limit → HasRecord H i k r → is_operation test r.action ≡ true → has_operation test H ≡ true
  has_one H i k r small has passes =
      let s = to_stamped i 1 (H i) k r has in
      let there = to_flat_map (λ i. stamped_from i 1 (H i)) identities i s.0 (at_identities i small) s.1 in
      any_passes_from_place (λ (x : Stamped Op). is_operation test x.action) (all_records H) there.0 s.0 there.1 (ap (is_operation test) s.2 ∙ passes)

  -- what a history has stays, in each history that holds it
  pub operation_stays : (H J : History Op) → IsPartOf H J → has_operation test H ≡ true → has_operation test J ≡ true
  operation_stays H J part has =
      let o = operation_is H has in
      has_one J o.0 o.1 o.2 o.3 (in_whole H J part o.0 o.1 o.2 o.4) o.5

  -- a prune is no operation
  pub operation_alike : (H : History Op) (owner removed : ℕ) → has_operation test (after_prune H owner removed) ≡ has_operation test H
  operation_alike H owner removed = same_bits (has_operation test (after_prune H owner removed)) (has_operation test H) before (operation_stays H (after_prune H owner removed) (part_with_record H owner (record { action = Prune removed; past = versions H })))
    where
      before : has_operation test (after_prune H owner removed) ≡ true → has_operation test H ≡ true
      before has =
          let o = operation_is (after_prune H owner removed) has in
          elim (has_with_record H owner (record { action = Prune removed; past = versions H }) o.0 o.1 o.2 o.4) [
            | inl old ↦ has_one H o.0 o.1 o.2 o.3 old o.5
            | inr new ↦ absurd (let none = sym (ap (λ (r : Record Op). is_operation test r.action) new.2) in let clash : false ≡ true = sym none ∙ o.5 in cc clash)
          ]
