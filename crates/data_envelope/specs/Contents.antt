-- What contracts see of an envelope.
--     Contents        its data, the numbers of records, and the marks
--     AreForgotten        of no identity that was pruned is there a number, and the data mention none
use Rattle.std.specs.Prelude.{◌≡◌, ℕ, Bool, true, false}
use Rattle.base_vectors.specs.Vectors.{Numbers, number_at}
use Rattle.data_markers.specs.Marks.{Marks, performed_in}

-- the operations and deltas are those that its data are of
pub record Contents (T Kind Op Delta : Type 0) : Type 0 where
  pub value : T
  pub versions : Numbers
  pub markers : Marks

abbrev pub AreForgotten : {T : Type 0} → (T → ℕ → Bool) → T → Numbers → Marks → Type 0
AreForgotten mentioned value versions marks = (id : ℕ) → performed_in marks id ≡ true → (number_at versions id ≡ 0) × (mentioned value id ≡ false)
