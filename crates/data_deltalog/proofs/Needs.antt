-- A vector with another number at one identity.
use Rattle.std.proofs.Common.{◌≡◌, ◌≢◌, ℕ, ◌<◌, max, arith, refl, sym, ◌∙◌, inl, inr}
use Rattle.std.proofs.lemmas.Bool.{cases_eq, cases_lt}
use Rattle.model_history.specs.Table.{identity_limit, with_at}
use Rattle.model_history.proofs.HistoryLaws.{with_at_other}
use Rattle.model_history.proofs.CutLaws.{with_at_is}
use Rattle.base_vectors.specs.Vectors.{Numbers, number_at, raised, removed, IsNormal}
use Rattle.base_vectors.proofs.Laws.{number_at-numbers_of, number_at-numbers_of_above, number_at_above, number_at-raised_same, number_at-raised_other}

module _ (m : Numbers) (normal : IsNormal m) (id : ℕ) (member : id < identity_limit) where
  pub dropped_at : (i : ℕ) → number_at (removed m id) i ≡ with_at (number_at m) id 0 i
  dropped_at i = elim (cases_lt i identity_limit) [
    | inl low ↦ number_at-numbers_of (with_at (number_at m) id 0) i low
    | inr high ↦ number_at-numbers_of_above (with_at (number_at m) id 0) i high ∙ sym (with_at_other (number_at m) id 0 i (λ e. absurd (omega arith)) ∙ number_at_above m normal i high)
  ]

  pub set_at : (to i : ℕ) → number_at (raised (removed m id) id to) i ≡ with_at (number_at m) id to i
  set_at to i = elim (cases_lt i identity_limit) [
    | inl low ↦ elim (cases_eq i id) [
      | inl is ↦
          let before : number_at (removed m id) id ≡ 0 = dropped_at id ∙ with_at_is (number_at m) id 0 id refl in
          number_at-raised_same (removed m id) id to i low is ∙ (let e : max (number_at (removed m id) id) to ≡ to = omega (arith, before) in e) ∙ sym (with_at_is (number_at m) id to i is)
      | inr isnt ↦
          number_at-raised_other (removed m id) id to i low isnt ∙ dropped_at i ∙ with_at_other (number_at m) id 0 i isnt ∙ sym (with_at_other (number_at m) id to i isnt)
    ]
    | inr high ↦
        let other : i ≢ id = λ e. absurd (omega arith) in
        number_at-numbers_of_above _ i high ∙ sym (with_at_other (number_at m) id to i other ∙ number_at_above m normal i high)
  ]
