-- Groups, read at places.
use Rattle.std.proofs.Common.{◌≡◌, ℕ, ◌≤◌, Bool, true, false, List, length, drop, Result, Ok, Err, ap, ◌∙◌}
use Rattle.std.specs.Prelude.{IfOk}
use Rattle.base_bytes.specs.Spelling.{GivesAt}
use Rattle.base_bytes.specs.declared.fault.Fault.{Fault}
use Rattle.base_bytes.specs.declared.fault.ReadError.{ReadError}
use Rattle.base_bytes.specs.declared.fault.ReadError.TheVariants as error
use Rattle.base_bytes.specs.Fields.{◌>>=◌, kept, byte_in}
use Rattle.data_envelope.specs.Images.{GroupParts}
use Rattle.base_places.specs.Places.{FailsAt, fails_first, fails_behind, reads_behind, breaks}
use Rattle.member_codec.specs.Groups.{Before, before_in, with_change, change_in, group_in}

module _ {Delta : Type 0} (is_delta : ℕ → Bool) (delta_in : ℕ → ℕ → List ℕ → Result (Delta × List ℕ) Fault) (from : List ℕ) (place : ℕ) where
  module _ (origin : ℕ) where
    abbrev ruled : ℕ × List ℕ → Result (Delta × List ℕ) Fault
    ruled kind = kept (is_delta kind.0) (length (drop place from)) >>= λ _. delta_in kind.0 origin kind.1

    pub kind_fails : (e : ReadError) → FailsAt (length from) e (byte_in (drop place from)) → FailsAt (length from) e (change_in is_delta delta_in origin (drop place from))
    unfolding change_in
    kind_fails e h = fails_first (length from) e (byte_in (drop place from)) ruled h

    module _ (kind middle : ℕ) (read : byte_in (drop place from) ≡ Ok (kind, drop middle from)) where
      pub kind_unknown : place ≤ length from → is_delta kind ≡ false → FailsAt (length from) (error.BadByte place) (change_in is_delta delta_in origin (drop place from))
      unfolding change_in
      kind_unknown within broken =
          fails_behind (length from) (error.BadByte place) (byte_in (drop place from)) (kind, drop middle from) ruled read (breaks from place (is_delta kind) (λ _. delta_in kind origin (drop middle from)) within broken)

      pub change_read : is_delta kind ≡ true → change_in is_delta delta_in origin (drop place from) ≡ delta_in kind origin (drop middle from)
      unfolding change_in
      change_read known =
          reads_behind (byte_in (drop place from)) (kind, drop middle from) ruled read
          ∙ ap (λ (b : Bool). kept b (length (drop place from)) >>= λ _. delta_in kind origin (drop middle from)) known

  abbrev behind : Before × List ℕ → Result (GroupParts Delta × List ℕ) Fault
  behind before = change_in is_delta delta_in before.0.0 before.1 >>= λ delta. Ok (with_change before.0 delta.0, delta.1)

  pub before_fails : (e : ReadError) → FailsAt (length from) e (before_in (drop place from)) → FailsAt (length from) e (group_in is_delta delta_in (drop place from))
  unfolding group_in
  before_fails e h = fails_first (length from) e (before_in (drop place from)) behind h

  module _ (before : Before) (middle : ℕ) (read : before_in (drop place from) ≡ Ok (before, drop middle from)) where
    pub change_fails : (e : ReadError) → FailsAt (length from) e (change_in is_delta delta_in before.0 (drop middle from)) → FailsAt (length from) e (group_in is_delta delta_in (drop place from))
    unfolding group_in
    change_fails e h =
        fails_behind (length from) e (before_in (drop place from)) (before, drop middle from) behind read
        (fails_first (length from) e (change_in is_delta delta_in before.0 (drop middle from)) (λ delta. Ok (with_change before delta.0, delta.1)) h)

    pub group_read : (delta : Delta) (next : ℕ) → change_in is_delta delta_in before.0 (drop middle from) ≡ Ok (delta, drop next from) → group_in is_delta delta_in (drop place from) ≡ Ok (with_change before delta, drop next from)
    unfolding group_in
    group_read delta next h =
        reads_behind (before_in (drop place from)) (before, drop middle from) behind read
        ∙ reads_behind (change_in is_delta delta_in before.0 (drop middle from)) (delta, drop next from) (λ delta. Ok (with_change before delta.0, delta.1)) h

-- what was read is of its origin
pub of_origin_at : {Delta : Type 0} (delta_in : ℕ → ℕ → List ℕ → Result (Delta × List ℕ) Fault) (IsOfOrigin : Delta → ℕ → Type 0) (from : List ℕ) (place origin kind : ℕ)
    → ((x : Delta) (rest : List ℕ) → delta_in kind origin (drop place from) ≡ Ok (x, rest) → IsOfOrigin x origin) → (result : Result (Delta × ℕ) ReadError) → GivesAt (length from) result (delta_in kind origin (drop place from)) → IfOk result (λ x. IsOfOrigin x.0 origin)
of_origin_at delta_in IsOfOrigin from place origin kind law (Ok found) h = law found.0 h.0 h.1
of_origin_at delta_in IsOfOrigin from place origin kind law (Err e) h = tt
