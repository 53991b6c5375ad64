-- What loops over identities find: which last touches see a record, and which are live.
use Rattle.std.proofs.Common.{◌≡◌, ℕ, ◌<◌, ◌≤◌, List, [], ◌∷◌, refl, ap, ◌∙◌, arith, Bool, true, false, inl, inr}
use Rattle.std.specs.Prelude.{◌&&◌, not, ◌==◌, nat_le, if◌then◌else◌, fold}
use Rattle.std.proofs.lemmas.Bool.{cases_lt, leb-true}
use Rattle.std.proofs.lemmas.Bool.Decides.{eqb_tells}
use Rattle.model_history.specs.Table.{identity_limit, identities}
use Rattle.model_history.specs.Texts.{Text}
use Rattle.model_history.specs.Vector.{VersionVector}
use Rattle.model_history.proofs.PruneLaws.{IsIn, in_range, at_identities}
use Rattle.theorem_latest.proofs.Touching.{any_holds}
use Rattle.trace_values.proofs.Unnamed.{none_pass}
use Rattle.data_meaning.specs.declared.record.Record.{Record}
use Rattle.trace_values.specs.Rows.{row_of}
use Rattle.trace_values.specs.Touches.{last_counted, last_at, past_at, sees, is_seen, adds_at, is_last_live, is_live, is_added}

small_of : (i : ℕ) → IsIn identities i → i < identity_limit
small_of i h = let r = in_range 0 identity_limit i h in omega (arith, r.1)

-- of none that is counted
none_counted : (numbers : List ℕ) (last : ℕ) → last ≡ 0 → fold (λ last n. if nat_le n 0 then n else last) last numbers ≡ 0
none_counted [] last is = is
none_counted (n ∷ numbers) last is = none_counted numbers (if nat_le n 0 then n else last) (go (nat_le n 0) refl)
  where
    go : (b : Bool) → nat_le n 0 ≡ b → (if b then n else last) ≡ 0
    go true e = let few = leb-true n 0 e in omega (arith, few)
    go false e = is

module _ (rows : List (List Record)) (touches : List (List ℕ)) (known : VersionVector) where
  last_none : (j : ℕ) → known j ≡ 0 → last_at touches known j ≡ 0
  last_none j none = ap (last_counted (row_of touches j)) none ∙ none_counted (row_of touches j) 0 refl

  module _ (i number : ℕ) where
    pub seen_found : (j : ℕ) → j < identity_limit → sees rows touches known i number j ≡ true → is_seen rows touches known i number ≡ true
    unfolding is_seen
    seen_found j small e = any_holds (sees rows touches known i number) identities j (at_identities j small) e

    pub none_seen : (n : ℕ) → ((j : ℕ) → j < n → sees rows touches known i number j ≡ false) → ((j : ℕ) → n ≤ j → known j ≡ 0) → is_seen rows touches known i number ≡ false
    unfolding is_seen
    none_seen n before beyond = none_pass (sees rows touches known i number) identities (λ j m. elim (cases_lt j n) [
      | inl near ↦ before j near
      | inr far ↦ ap (λ m. not (m == 0) && nat_le number (past_at rows j m i)) (last_none j (beyond j far))
    ])

  module _ (e : Text) where
    pub live_found : (j : ℕ) → j < identity_limit → is_last_live rows touches e known j ≡ true → is_live rows touches e known ≡ true
    unfolding is_live
    live_found j small it = any_holds (is_last_live rows touches e known) identities j (at_identities j small) it

    pub none_live : (n : ℕ) → ((j : ℕ) → j < n → is_last_live rows touches e known j ≡ false) → ((j : ℕ) → n ≤ j → known j ≡ 0) → is_live rows touches e known ≡ false
    unfolding is_live
    none_live n before beyond = none_pass (is_last_live rows touches e known) identities (λ j m. elim (cases_lt j n) [
      | inl near ↦ before j near
      | inr far ↦ ap (λ m. (not (m == 0) && adds_at rows j m e) && not (is_seen rows touches known j m)) (last_none j (beyond j far))
    ])

pub is_some : (n : ℕ) → (n ≡ 0 → ⊥) → not (n == 0) ≡ true
is_some n h = elim (eqb_tells n 0) [
  | inl none ↦ absurd (h none.1)
  | inr some ↦ ap not some.0
]

-- rows of the numbers of adding records, of which one is counted
module _ (adds : List (List ℕ)) (known : VersionVector) where
  pub added_found : (j : ℕ) → j < identity_limit → not (last_at adds known j == 0) ≡ true → is_added adds known ≡ true
  unfolding is_added
  added_found j small it = any_holds (λ i. not (last_at adds known i == 0)) identities j (at_identities j small) it

  pub none_added : (n : ℕ) → ((j : ℕ) → j < n → not (last_at adds known j == 0) ≡ false) → ((j : ℕ) → n ≤ j → known j ≡ 0) → is_added adds known ≡ false
  unfolding is_added
  none_added n before beyond = none_pass (λ i. not (last_at adds known i == 0)) identities (λ j m. elim (cases_lt j n) [
    | inl near ↦ before j near
    | inr far ↦ ap (λ m. not (m == 0)) (last_none [] adds known j (beyond j far))
  ])
