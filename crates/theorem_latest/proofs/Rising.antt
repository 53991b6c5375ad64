-- Where a member's history was closed under past, the pasts of identities whose number rose are enough.
use Rattle.std.proofs.Common.{◌≡◌, ℕ, ◌-◌, ◌<◌, refl, ◌∙◌, arith, Bool, true, false}
use Rattle.std.specs.Prelude.{◌||◌, ◌==◌, if◌then◌else◌}
use Rattle.std.proofs.lemmas.Bool.{eqb-true}
use Rattle.std.proofs.lemmas.Bool.Decides.{nat_tests}
use Rattle.model_history.specs.Table.{identities}
use Rattle.model_history.specs.Vector.{VersionVector, Covers, none_counted}
use Rattle.model_history.specs.Log.{IsTakenFrom}
use Rattle.model_history.specs.Cuts.{record_at, past_of}
use Rattle.model_history.specs.History.{History, at, versions, cut, IsHistory}
use Rattle.model_history.proofs.Bridge.{has_record_at}
use Rattle.model_history.proofs.PartLaws.{in_part}
use Rattle.model_traces.specs.Traces.{covers, is_closed}
use Rattle.model_traces.specs.Meaning.{last_past, covers_last_pasts}
use Rattle.model_traces.proofs.Tests.{all_pass, each_passes, covers_holds, or_right, last_pasts_are_enough}
use Rattle.theorem_latest.specs.Risen.{covers_risen_pasts}
use Rattle.theorem_latest.proofs.Touching.{bool_same}

positive : (n : ℕ) → (n == 0) ≡ false → 0 < n
positive n e = grind (arith, nat_tests)

module _ {Op : Type 0} (made H : History Op) (known : VersionVector) (history : IsHistory made) (few : Covers (versions made) known) (taken : IsTakenFrom made H) (more : Covers known (versions H)) where
  -- of an identity whose number stayed, the past was covered before
  stayed : (i : ℕ) → known i ≡ at H i → covers known (last_past made known i) ≡ true
  stayed i same = go (known i == 0) refl
    where
      go : (b : Bool) → (known i == 0) ≡ b → covers known (if b then none_counted else past_of made i (known i - 1)) ≡ true
      go true e = covers_holds known none_counted (λ l s. omega arith)
      go false e =
          let some : 0 < known i = positive (known i) e in
          let r = record_at made i (known i - 1) in
          let has = in_part H made taken.part i (known i - 1) r (omega (arith, same, some)) (has_record_at made i (known i - 1) (let a = few i in omega (arith, a, some))) in
          covers_holds known r.past (λ l s. let a = taken.closed i (known i - 1) r has l in let b = more l in omega (arith, a, b))

  pub risen_pasts_are_enough : covers_risen_pasts made (versions H) known ≡ is_closed (cut made known)
  risen_pasts_are_enough =
      bool_same (covers_risen_pasts made (versions H) known) (covers_last_pasts made known)
      (λ e. all_pass (λ i. covers known (last_past made known i)) identities (λ i m. either i (known i == at H i) refl (each_passes (λ i. (known i == at H i) || covers known (last_past made known i)) identities e i m)))
      (λ e. all_pass (λ i. (known i == at H i) || covers known (last_past made known i)) identities (λ i m. or_right (known i == at H i) (covers known (last_past made known i)) (each_passes (λ i. covers known (last_past made known i)) identities e i m)))
      ∙ last_pasts_are_enough made history known few
    where
      either : (i : ℕ) (b : Bool) → (known i == at H i) ≡ b → (b || covers known (last_past made known i)) ≡ true → covers known (last_past made known i) ≡ true
      either i true e f = stayed i (eqb-true (known i) (at H i) e)
      either i false e f = f
