-- Rows of records, as the records of a history: which record stands where, and how many there are.
use Rattle.std.proofs.Common.{◌≡◌, ℕ, zero, suc, ◌+◌, ◌<◌, List, [], ◌∷◌, ◌++◌, length, take, refl, sym, ap, ◌∙◌, arith, Some}
use Rattle.std.specs.Prelude.{slice_get}
use Rattle.std.proofs.lemmas.List.{length-map}
use Rattle.model_history.specs.History.{Record as Meant, History, Stamped, at, stamped_from, HasRecord}
use Rattle.model_kinds.specs.declared.operation.Op.{Op}
use Rattle.base_vectors.specs.Vectors.{number_at}
use Rattle.data_meaning.specs.declared.record.Record.{Record}
use Rattle.data_meaning.specs.Records.{stamped, action_of}
use Rattle.data_meaning.proofs.Walks.{slice_get-map}
use Rattle.trace_values.specs.Rows.{row_of, AreRows}

-- STAMPED RECORDS

abbrev stamp : ℕ → ℕ → Meant Op → Stamped Op
stamp i n r = record { origin = i; number = n; action = r.action; past = r.past }

pub length-stamped : (i n : ℕ) (rs : List (Meant Op)) → length (stamped_from i n rs) ≡ length rs
length-stamped i n [] = refl
length-stamped i n (r ∷ rs) = ap suc (length-stamped i (suc n) rs)

stamped_get : (i n : ℕ) (rs : List (Meant Op)) (k : ℕ) (r : Meant Op) → slice_get rs k ≡ Some r → slice_get (stamped_from i n rs) k ≡ Some (stamp i (n + k) r)
stamped_get i n [] k r e = absurd (cc e)
stamped_get i n (s ∷ rs) zero r e =
    let same : s ≡ r = cc e in
    let number : n ≡ n + 0 = omega arith in
    ap (λ (x : Meant Op). Some (stamp i n x)) same ∙ ap (λ m. Some (stamp i m r)) number
stamped_get i n (s ∷ rs) (suc k) r e =
    let number : suc n + k ≡ n + suc k = omega arith in
    stamped_get i (suc n) rs k r e ∙ ap (λ m. Some (stamp i m r)) number

pub stamped-push : (i n : ℕ) (rs : List (Meant Op)) (r : Meant Op) → stamped_from i n (rs ++ r ∷ []) ≡ stamped_from i n rs ++ stamp i (n + length rs) r ∷ []
stamped-push i n [] r = let number : n ≡ n + 0 = omega arith in ap (λ m. stamp i m r ∷ []) number
stamped-push i n (s ∷ rs) r =
    let number : suc n + length rs ≡ n + suc (length rs) = omega arith in
    ap (λ xs. stamp i n s ∷ xs) (stamped-push i (suc n) rs r ∙ ap (λ m. stamped_from i (suc n) rs ++ stamp i m r ∷ []) number)

pub stamped-take : (i n : ℕ) (rs : List (Meant Op)) (m : ℕ) → stamped_from i n (take m rs) ≡ take m (stamped_from i n rs)
stamped-take i n [] zero = refl
stamped-take i n [] (suc m) = refl
stamped-take i n (r ∷ rs) zero = refl
stamped-take i n (r ∷ rs) (suc m) = ap (λ xs. stamp i n r ∷ xs) (stamped-take i (suc n) rs m)

pub get_some : {X : Type 0} (xs : List X) (k : ℕ) → k < length xs → (x : X) × (slice_get xs k ≡ Some x)
get_some [] k h = absurd (omega arith)
get_some (x ∷ xs) zero h = (x, refl)
get_some (x ∷ xs) (suc k) h = get_some xs k (omega arith)

pub get_below : {X : Type 0} (xs : List X) (k : ℕ) (x : X) → slice_get xs k ≡ Some x → k < length xs
get_below [] k x e = absurd (cc e)
get_below (y ∷ xs) zero x e = omega arith
get_below (y ∷ xs) (suc k) x e = let h = get_below xs k x e in omega arith

-- ROWS

module _ (rows : List (List Record)) (made : History Op) (are : AreRows rows made) where
  pub row_length : (i : ℕ) → length (row_of rows i) ≡ at made i
  row_length i = sym (length-map (row_of rows i) stamped) ∙ ap length (are i) ∙ length-stamped i 1 (made i)

  -- a record of the history that stands where a row's record does
  pub record IsAt (i k : ℕ) (r : Record) (x : Meant Op) : Type 0 where
    pub origin : r.origin ≡ i
    pub number : r.number ≡ suc k
    pub action : action_of r.action ≡ x.action
    pub past : number_at r.past ≡ x.past
    pub has : HasRecord made i k x

  same_at : (i k : ℕ) (r : Record) (x : Meant Op) → slice_get (row_of rows i) k ≡ Some r → HasRecord made i k x → IsAt i k r x
  same_at i k r x here there =
      let e : Some (stamped r) ≡ Some (stamp i (1 + k) x) = sym (slice_get-map stamped (row_of rows i) k r here) ∙ ap (λ ys. slice_get ys k) (are i) ∙ stamped_get i 1 (made i) k x there in
      let same : stamped r ≡ stamp i (1 + k) x = cc e in
      let one : 1 + k ≡ suc k = omega arith in
      record {
        origin = ap (λ (s : Stamped Op). s.origin) same;
        number = ap (λ (s : Stamped Op). s.number) same ∙ one;
        action = ap (λ (s : Stamped Op). s.action) same;
        past = ap (λ (s : Stamped Op). s.past) same;
        has = there;
      }

  -- the history has each record of a row
  pub row_has : (i k : ℕ) (r : Record) → slice_get (row_of rows i) k ≡ Some r → (x : Meant Op) × IsAt i k r x
  row_has i k r here =
      let below = get_below (row_of rows i) k r here in
      let length_is = row_length i in
      let x = get_some (made i) k (omega (arith, below, length_is)) in
      (x.0, same_at i k r x.0 here x.1)

  -- and a row each record of the history
  pub has_row : (i k : ℕ) (x : Meant Op) → HasRecord made i k x → (r : Record) × (slice_get (row_of rows i) k ≡ Some r) × IsAt i k r x
  has_row i k x there =
      let below = get_below (made i) k x there in
      let length_is = row_length i in
      let r = get_some (row_of rows i) k (omega (arith, below, length_is)) in
      (r.0, r.1, same_at i k r.0 x r.1 there)
