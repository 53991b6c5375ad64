-- An envelope that stands at a place among bytes.
use Rattle.std.proofs.Common.{◌≡◌, ℕ, ◌-◌, Bool, true, false, List, length, drop, Result, Ok, sym, ap, subst, ◌∙◌}
use Rattle.model_history.specs.Vector.{IdentitySet}
use Rattle.base_bytes.specs.declared.fault.Fault.{Fault}
use Rattle.base_bytes.specs.declared.fault.ReadError.{ReadError}
use Rattle.base_bytes.specs.Fields.{◌>>=◌}
use Rattle.base_bytes.specs.Spelling.{AreBytes}
use Rattle.base_places.specs.Places.{FailsAt, fails_first, rest_from, bytes_dropped}
use Rattle.base_vectors.specs.Vectors.{number_at}
use Rattle.data_markers.specs.Marks.{performed_in}
use Rattle.data_envelope.specs.Images.{Parts}
use Rattle.data_codec.specs.declared.reading.Head.{Head}
use Rattle.data_codec.specs.Envelopes.{envelope_spelled, head_in, parts_in}
use Rattle.data_codec.proofs.Envelopes.{head_spelled, head_takes, with_value, after_data, AreLaws, parts_take}

module _ {T : Type 0} (is_known : ℕ → Bool) (data_in : ℕ → IdentitySet → List ℕ → Result (T × List ℕ) Fault) (from : List ℕ) (place : ℕ) where
  pub head_fails_at : (e : ReadError) → FailsAt (length from) e (head_in is_known 1 (drop place from)) → FailsAt (length from) e (parts_in is_known data_in 1 (drop place from))
  unfolding parts_in
  head_fails_at e h = fails_first (length from) e (head_in is_known 1 (drop place from)) (λ x. after_data x.0 (data_in x.0.kind (performed_in x.0.marks) x.1)) h

  module _ (head : Head) (rest : List ℕ) (middle : ℕ) (barred : IdentitySet) (fits : AreBytes from) (read : head_in is_known 1 (drop place from) ≡ Ok (head, rest)) (at : middle ≡ length from - length rest) (bars : barred ≡ performed_in head.marks) where
    stands : drop middle from ≡ rest
    stands = let t = head_takes is_known 1 (drop place from) (head, rest) (bytes_dropped place from fits) read in rest_from from place middle (head_spelled 1 head) rest t.0 at

    pub is_known_kind : is_known head.kind ≡ true
    is_known_kind = let t = head_takes is_known 1 (drop place from) (head, rest) (bytes_dropped place from fits) read in t.1.known

    behind : parts_in is_known data_in 1 (drop place from) ≡ after_data head (data_in head.kind barred (drop middle from))
    unfolding parts_in
    behind =
        ap (λ (r : Result (Head × List ℕ) Fault). r >>= λ x. after_data x.0 (data_in x.0.kind (performed_in x.0.marks) x.1)) read
        ∙ ap (λ (b : IdentitySet). after_data head (data_in head.kind b rest)) (sym bars) ∙ ap (λ (t : List ℕ). after_data head (data_in head.kind barred t)) (sym stands)

    pub data_fails_at : (e : ReadError) → FailsAt (length from) e (data_in head.kind barred (drop middle from)) → FailsAt (length from) e (parts_in is_known data_in 1 (drop place from))
    data_fails_at e h =
        subst (λ (r : Result (Parts T × List ℕ) Fault). FailsAt (length from) e r) (sym behind)
        (fails_first (length from) e (data_in head.kind barred (drop middle from)) (λ value. Ok (with_value head value.0, value.1)) h)

    pub parts_read : (value : T) (left : List ℕ) → data_in head.kind barred (drop middle from) ≡ Ok (value, left) → parts_in is_known data_in 1 (drop place from) ≡ Ok (with_value head value, left)
    parts_read value left h = behind ∙ ap (after_data head) h

    module _ (byte : T → ℕ) (spelled : T → List ℕ) (IsSound : T → Type 0) (mentioned : T → ℕ → Bool) (laws : AreLaws is_known data_in byte spelled IsSound mentioned) (value : T) (left : List ℕ) (got : data_in head.kind barred (drop middle from) ≡ Ok (value, left)) where
      pub are_forgotten : (id : ℕ) → performed_in head.marks id ≡ true → (number_at head.versions id ≡ 0) × (mentioned value id ≡ false)
      are_forgotten id bars =
          let p = parts_take is_known data_in byte spelled IsSound mentioned laws 1 (drop place from) (with_value head value, left) (bytes_dropped place from fits) (parts_read value left got) in
          (p.1.counted id bars, p.1.named id bars)

      pub envelope_read : (parts : Parts T) (next : ℕ) → with_value head value ≡ parts → next ≡ length from - length left → parts_in is_known data_in 1 (drop place from) ≡ Ok (parts, drop next from)
      envelope_read parts next same ends =
          let p = parts_take is_known data_in byte spelled IsSound mentioned laws 1 (drop place from) (with_value head value, left) (bytes_dropped place from fits) (parts_read value left got) in
          parts_read value left got ∙ ap (λ (x : Parts T). Ok (x, left)) same ∙ ap (λ (t : List ℕ). Ok (parts, t)) (sym (rest_from from place next (envelope_spelled byte spelled (with_value head value)) left p.0 ends))
