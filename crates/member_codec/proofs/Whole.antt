-- What all of some bytes spell: nothing follows.
use Rattle.std.proofs.Common.{◌≡◌, ℕ, ◌-◌, ◌<◌, ◌≤◌, Bool, true, false, List, length, drop, Result, Ok, Err, ap, subst, ◌∙◌, arith, length-drop}
use Rattle.std.specs.Prelude.{◌==◌, IfOk}
use Rattle.base_bytes.specs.declared.fault.Fault.{Fault}
use Rattle.base_bytes.specs.declared.fault.Fault.TheVariants.{BadByte}
use Rattle.base_bytes.specs.declared.fault.FieldError.{FieldError}
use Rattle.base_bytes.specs.declared.fault.FieldError.TheVariants as errors
use Rattle.base_bytes.specs.declared.fault.ReadError.{ReadError}
use Rattle.base_bytes.specs.Fields.{◌>>=◌, Fails, kept}
use Rattle.base_bytes.specs.Spelling.{AreBytes, placed}
use Rattle.base_places.specs.Places.{FailsAt, fails_first, reads_behind}
use Rattle.base_places.specs.Spells.{Spells}
use Rattle.base_places.specs.Wholes.{whole_of, whole_takes, whole_again}
use Rattle.member_codec.specs.declared.error.CodecError.{CodecError}
use Rattle.member_codec.specs.declared.error.CodecError.TheVariants.{NotASpelling}
use Rattle.member_codec.specs.Answers.{refusal, IsRead}

module _ {Y : Type 0} (y_in : List ℕ → Result (Y × List ℕ) Fault) (bytes : List ℕ) where
  abbrev ended : Y × List ℕ → Result Y Fault
  ended found = kept (length found.1 == 0) (length found.1) >>= λ _. Ok found.0

  pub whole_fails : (e : ReadError) → FailsAt (length bytes) e (y_in bytes) → (fault : FieldError) × Fails fault (whole_of y_in bytes) × (refusal e ≡ refusal (placed (length bytes) fault))
  unfolding whole_of
  whole_fails e h =
      let f = fails_first (length bytes) e (y_in bytes) ended h in
      (f.0, f.1, ap refusal f.2)

  module _ (y : Y) (next : ℕ) (read : y_in bytes ≡ Ok (y, drop next bytes)) where
    pub left_over : next < length bytes → (fault : FieldError) × Fails fault (whole_of y_in bytes) × (NotASpelling next ≡ refusal (placed (length bytes) fault))
    unfolding whole_of
    left_over more =
        let left : ℕ = length (drop next bytes) in
        let is : left ≡ length bytes - next = length-drop next bytes in
        let some : (left == 0) ≡ false = grind arith in
        let at : next ≡ length bytes - left = omega (arith, is, more) in
        (errors.Fault (BadByte left), reads_behind (y_in bytes) (y, drop next bytes) ended read ∙ ap (λ (b : Bool). kept b left >>= λ _. Ok y) some, ap NotASpelling at)

    pub nothing_left : length bytes ≤ next → whole_of y_in bytes ≡ Ok y
    unfolding whole_of
    nothing_left all =
        let left : ℕ = length (drop next bytes) in
        let is : left ≡ length bytes - next = length-drop next bytes in
        let none : (left == 0) ≡ true = grind arith in
        reads_behind (y_in bytes) (y, drop next bytes) ended read ∙ ap (λ (b : Bool). kept b left >>= λ _. Ok y) none

module _ {X Y : Type 0} (IsSound : Y → Type 0) (spelled : Y → List ℕ) (y_in : List ℕ → Result (Y × List ℕ) Fault) (p : Spells IsSound spelled y_in) (parts : X → Y) (bytes : List ℕ) where
  pub found_of : AreBytes bytes → (result : Result X CodecError) → IsRead parts (length bytes) result (whole_of y_in bytes) → IfOk result (λ x. IsSound (parts x) × (bytes ≡ spelled (parts x)))
  found_of fits (Ok x) h = whole_takes IsSound spelled y_in p bytes (parts x) fits h
  found_of fits (Err e) h = tt

  pub only_of : (result : Result X CodecError) → IsRead parts (length bytes) result (whole_of y_in bytes) → (y : Y) → IsSound y → bytes ≡ spelled y → IsRead parts (length bytes) result (Ok y)
  only_of result h y is same = subst (λ (r : Result Y Fault). IsRead parts (length bytes) result r) (ap (whole_of y_in) same ∙ whole_again IsSound spelled y_in p y is) h
