-- What there may be, read at places.
use Rattle.std.proofs.Common.{◌≡◌, ℕ, ◌<◌, ◌≤◌, Bool, true, false, List, length, drop, Option, None, Some, Result, Ok, ap, ◌∙◌, arith, rules}
use Rattle.std.specs.Prelude.{nat_le, ◌==◌, if◌then◌else◌}
use Rattle.std.proofs.lemmas.Bool.{le-leb}
use Rattle.base_bytes.specs.declared.fault.Fault.{Fault}
use Rattle.base_bytes.specs.declared.fault.ReadError.{ReadError}
use Rattle.base_bytes.specs.declared.fault.ReadError.TheVariants as error
use Rattle.base_bytes.specs.Fields.{◌>>=◌, kept, byte_in}
use Rattle.base_places.specs.Places.{FailsAt, fails_first, fails_behind, reads_behind, breaks}
use Rattle.base_places.specs.Lists.{made_in}
use Rattle.base_places.specs.Options.{option_in}

module _ {X : Type 0} (one : List ℕ → Result (X × List ℕ) Fault) (from : List ℕ) (place : ℕ) where
  abbrev chosen : ℕ × List ℕ → Result (Option X × List ℕ) Fault
  chosen has = if has.0 == 0 then Ok (None, has.1) else made_in Some one has.1

  abbrev ruled : ℕ × List ℕ → Result (Option X × List ℕ) Fault
  ruled has = kept (nat_le has.0 1) (length (drop place from)) >>= λ _. chosen has

  pub flag_fails : (e : ReadError) → FailsAt (length from) e (byte_in (drop place from)) → FailsAt (length from) e (option_in one (drop place from))
  unfolding option_in
  flag_fails e h = fails_first (length from) e (byte_in (drop place from)) ruled h

  module _ (has next : ℕ) (read : byte_in (drop place from) ≡ Ok (has, drop next from)) where
    pub flag_breaks : place ≤ length from → 1 < has → FailsAt (length from) (error.BadByte place) (option_in one (drop place from))
    unfolding option_in
    flag_breaks within many =
        let broken : nat_le has 1 ≡ false = grind arith in
        fails_behind (length from) (error.BadByte place) (byte_in (drop place from)) (has, drop next from) ruled read (breaks from place (nat_le has 1) (λ _. chosen (has, drop next from)) within broken)

    behind : has ≤ 1 → option_in one (drop place from) ≡ chosen (has, drop next from)
    unfolding option_in
    behind few =
        reads_behind (byte_in (drop place from)) (has, drop next from) ruled read
        ∙ ap (λ (b : Bool). kept b (length (drop place from)) >>= λ _. chosen (has, drop next from)) (le-leb has 1 few)

    pub nothing_read : has ≡ 0 → option_in one (drop place from) ≡ Ok (None, drop next from)
    nothing_read none = behind (omega (arith, none)) ∙ ap (λ (b : Bool). if b then Ok (None, drop next from) else made_in Some one (drop next from)) (let t : (has == 0) ≡ true = grind rules in t)

    some_behind : has ≤ 1 → (has ≡ 0 → ⊥) → option_in one (drop place from) ≡ made_in Some one (drop next from)
    some_behind few some = behind few ∙ ap (λ (b : Bool). if b then Ok (None, drop next from) else made_in Some one (drop next from)) (let f : (has == 0) ≡ false = grind rules in f)

    pub some_read : has ≤ 1 → (has ≡ 0 → ⊥) → (x : X) (end : ℕ) → one (drop next from) ≡ Ok (x, drop end from) → option_in one (drop place from) ≡ Ok (Some x, drop end from)
    some_read few some x end h = some_behind few some ∙ reads_behind (one (drop next from)) (x, drop end from) (λ found. Ok (Some found.0, found.1)) h

    pub some_fails : has ≤ 1 → (has ≡ 0 → ⊥) → (e : ReadError) → FailsAt (length from) e (one (drop next from)) → FailsAt (length from) e (option_in one (drop place from))
    some_fails few some e h = rw (some_behind few some) (fails_first (length from) e (one (drop next from)) (λ found. Ok (Some found.0, found.1)) h)
