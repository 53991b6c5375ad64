-- What is stored in format 2 is read again, what is read was stored so, and where the fault lies.
use Rattle.std.proofs.Common.{◌≡◌, ℕ, zero, suc, ◌-◌, ◌*◌, Bool, true, false, List, [], ◌++◌, length, take, drop, take-append-drop, slice_index, Result, Ok, Err, refl, sym, ap, subst, ◌∙◌, append_assoc, arith, inl, inr}
use Rattle.std.specs.Prelude.{◌==◌, if◌then◌else◌, IfOk}
use Rattle.std.specs.Int.{w32, to_be_bytes}
use Rattle.std.specs.Str.{bytes_eq}
use Rattle.std.proofs.lemmas.Bool.{eqb-true}
use Rattle.std.proofs.lemmas.List.{append-nil, nil_from_length, length-append, length-drop, drop_at, take_at, take_all}
use Rattle.std.proofs.lemmas.Slice.Eq.{bytes_eq-Decides}
use Rattle.model_history.specs.Vector.{IdentitySet}
use Rattle.base_bytes.specs.declared.fault.Fault.{Fault}
use Rattle.base_bytes.specs.declared.fault.FieldError.{FieldError}
use Rattle.base_bytes.specs.declared.fault.FieldError.TheVariants as errors
use Rattle.base_bytes.specs.Fields.{◌>>=◌, Fails, kept}
use Rattle.base_bytes.specs.Spelling.{AreBytes}
use Rattle.base_bytes.specs.FieldLaws.{bind_ok, kept_ok, kept_on, enough_ok, enough_on, ok_is}
use Rattle.data_envelope.specs.declared.envelope.Envelope.{Envelope}
use Rattle.data_envelope.specs.Images.{Parts}
use Rattle.data_envelope.specs.Words.{parts_of}
use Rattle.data_codec.specs.declared.error.CodecError.{CodecError}
use Rattle.data_codec.specs.Answers.{IsRead}
use Rattle.data_codec.specs.Envelopes.{spelled_in, envelope_spelled, parts_in, envelope_of, IsEnvelope}
use Rattle.data_codec.specs.Stored.{envelope_stored, IsStored, seal_of, is_second, sealed_of, stored_of}
use Rattle.data_codec.proofs.Envelopes.{AreLaws, parts_take, parts_again, envelope_takes, envelope_again, rest_is, one_in_format}
use Rattle.sha1.specs.Sha1.{sha1, digest_bytes}

-- THE SEAL

words_long : (hash : List ℕ) (n : ℕ) → length (digest_bytes hash n) ≡ 4 * n
unfolding digest_bytes
words_long hash zero = refl
words_long hash (suc n) =
    let four : length (to_be_bytes w32 (slice_index hash n)) ≡ 4 = refl in
    omega (arith, length-append (digest_bytes hash n) (to_be_bytes w32 (slice_index hash n)), four, words_long hash n)

-- it has 20 bytes
seal_long : (bytes : List ℕ) → length (sha1 bytes) ≡ 20
unfolding sha1
seal_long bytes = words_long _ 5

abbrev rest_of : List ℕ → Result (Unit {0}) Fault
rest_of bytes = kept (length (drop 20 bytes) == 0) (length (drop 20 bytes))

seal_holds : (before : List ℕ) → seal_of before (sha1 before) ≡ Ok tt
unfolding seal_of
seal_holds before =
    let seal : List ℕ = sha1 before in
    let long : length seal ≡ 20 = seal_long before in
    let same : bytes_eq (take 20 seal) seal ≡ true = (bytes_eq-Decides (take 20 seal) seal).1 (take_all 20 seal (omega arith)) in
    let none : length (drop 20 seal) ≡ 0 = omega (arith, length-drop 20 seal) in
    enough_on 20 seal (λ _. kept (bytes_eq (take 20 seal) seal) (length seal) >>= λ _. rest_of seal) (omega arith)
    ∙ kept_on (bytes_eq (take 20 seal) seal) (length seal) (λ _. rest_of seal) same
    ∙ ap (λ (n : ℕ). kept (n == 0) n) none

kept_end : (rule : Bool) (left : ℕ) → kept rule left ≡ Ok tt → rule ≡ true
kept_end true left e = refl
kept_end false left e = absurd (cc e)

seal_takes : (before bytes : List ℕ) → seal_of before bytes ≡ Ok tt → bytes ≡ sha1 before
unfolding seal_of
seal_takes before bytes e =
    let a = enough_ok 20 bytes (λ _. kept (bytes_eq (take 20 bytes) (sha1 before)) (length bytes) >>= λ _. rest_of bytes) tt e in
    let b = kept_ok (bytes_eq (take 20 bytes) (sha1 before)) (length bytes) (λ _. rest_of bytes) tt a.1 in
    let none : drop 20 bytes ≡ [] = nil_from_length (drop 20 bytes) (eqb-true _ _ (kept_end (length (drop 20 bytes) == 0) (length (drop 20 bytes)) b.1)) in
    sym (take-append-drop 20 bytes) ∙ ap (λ (t : List ℕ). take 20 bytes ++ t) none ∙ append-nil (take 20 bytes) ∙ (bytes_eq-Decides (take 20 bytes) (sha1 before)).0 b.0

-- LISTS

append_cancel : (before x y : List ℕ) → before ++ x ≡ before ++ y → x ≡ y
append_cancel before x y e = sym (drop_at before x (length before) refl) ∙ ap (drop (length before)) e ∙ drop_at before y (length before) refl

-- what stands before the rest
take_front : (bytes text rest : List ℕ) → bytes ≡ text ++ rest → take (length bytes - length rest) bytes ≡ text
take_front bytes text rest parts =
    let all : length bytes ≡ length (text ++ rest) = ap length parts in
    let before : length bytes - length rest ≡ length text = omega (arith, all, length-append text rest) in
    ap (λ (n : ℕ). take n bytes) before ∙ ap (take (length text)) parts ∙ take_at text rest (length text) refl

-- FORMAT 2

module _ {T : Type 0} (is_known : ℕ → Bool) (data_in : ℕ → IdentitySet → List ℕ → Result (T × List ℕ) Fault) where
  -- the fields in front can't be read
  pub sealed_fails : (x : FieldError) (bytes : List ℕ) → Fails x (parts_in is_known data_in 2 bytes) → Fails x (sealed_of is_known data_in bytes)
  unfolding sealed_of
  sealed_fails errors.Memory bytes h = tt
  sealed_fails (errors.Fault fault) bytes h = ap (λ (r : Result (Parts T × List ℕ) Fault). r >>= λ parts. seal_of (take (length bytes - length parts.1) bytes) parts.1 >>= λ _. Ok parts.0) h

  sealed_so : (bytes rest : List ℕ) (parts : Parts T) → parts_in is_known data_in 2 bytes ≡ Ok (parts, rest) → sealed_of is_known data_in bytes ≡ (seal_of (take (length bytes - length rest) bytes) rest >>= λ _. Ok parts)
  unfolding sealed_of
  sealed_so bytes rest parts h = ap (λ (r : Result (Parts T × List ℕ) Fault). r >>= λ parts. seal_of (take (length bytes - length parts.1) bytes) parts.1 >>= λ _. Ok parts.0) h

  -- which format is read
  pub stored_second : (bytes : List ℕ) → is_second bytes ≡ true → stored_of is_known data_in bytes ≡ sealed_of is_known data_in bytes
  unfolding stored_of
  stored_second bytes is = ap (λ (b : Bool). if b then sealed_of is_known data_in bytes else envelope_of is_known data_in bytes) is

  pub stored_first : (bytes : List ℕ) → is_second bytes ≡ false → stored_of is_known data_in bytes ≡ envelope_of is_known data_in bytes
  unfolding stored_of
  stored_first bytes is = ap (λ (b : Bool). if b then sealed_of is_known data_in bytes else envelope_of is_known data_in bytes) is

module _ {T : Type 0} (is_known : ℕ → Bool) (data_in : ℕ → IdentitySet → List ℕ → Result (T × List ℕ) Fault) (byte : T → ℕ) (spelled : T → List ℕ) (IsSound : T → Type 0) (mentioned : T → ℕ → Bool)
    (laws : AreLaws is_known data_in byte spelled IsSound mentioned) where
  -- the seal is read where the rest begins
  seal_at : (bytes rest : List ℕ) (parts : Parts T) (place : ℕ) → AreBytes bytes → parts_in is_known data_in 2 bytes ≡ Ok (parts, rest) → place ≡ length bytes - length rest
      → sealed_of is_known data_in bytes ≡ (seal_of (take place bytes) (drop place bytes) >>= λ _. Ok parts)
  seal_at bytes rest parts place fits h at =
      let taken = parts_take is_known data_in byte spelled IsSound mentioned laws 2 bytes (parts, rest) fits h in
      let behind : drop place bytes ≡ rest = ap (λ (n : ℕ). drop n bytes) at ∙ rest_is bytes (spelled_in byte spelled 2 parts) rest taken.0.parts in
      sealed_so is_known data_in bytes rest parts h
      ∙ ap (λ (n : ℕ). seal_of (take n bytes) rest >>= λ _. Ok parts) (sym at)
      ∙ ap (λ (t : List ℕ). seal_of (take place bytes) t >>= λ _. Ok parts) (sym behind)

  pub sealed_whole : (bytes rest : List ℕ) (parts : Parts T) (place : ℕ) → AreBytes bytes → parts_in is_known data_in 2 bytes ≡ Ok (parts, rest) → place ≡ length bytes - length rest
      → seal_of (take place bytes) (drop place bytes) ≡ Ok tt → sealed_of is_known data_in bytes ≡ Ok parts
  sealed_whole bytes rest parts place fits h at e = seal_at bytes rest parts place fits h at ∙ ap (λ (r : Result (Unit {0}) Fault). r >>= λ _. Ok parts) e

  pub sealed_broken : (x : FieldError) (bytes rest : List ℕ) (parts : Parts T) (place : ℕ) → AreBytes bytes → parts_in is_known data_in 2 bytes ≡ Ok (parts, rest) → place ≡ length bytes - length rest
      → Fails x (seal_of (take place bytes) (drop place bytes)) → Fails x (sealed_of is_known data_in bytes)
  sealed_broken errors.Memory bytes rest parts place fits h at e = tt
  sealed_broken (errors.Fault fault) bytes rest parts place fits h at e = seal_at bytes rest parts place fits h at ∙ ap (λ (r : Result (Unit {0}) Fault). r >>= λ _. Ok parts) e

  pub sealed_takes : (bytes : List ℕ) (parts : Parts T) → AreBytes bytes → sealed_of is_known data_in bytes ≡ Ok parts → IsEnvelope IsSound mentioned parts × (bytes ≡ envelope_stored byte spelled parts)
  unfolding sealed_of
  sealed_takes bytes parts fits e =
      let a = bind_ok (parts_in is_known data_in 2 bytes) (λ x. seal_of (take (length bytes - length x.1) bytes) x.1 >>= λ _. Ok x.0) parts e in
      let x : Parts T × List ℕ = a.0 in
      let b = bind_ok (seal_of (take (length bytes - length x.1) bytes) x.1) (λ _. Ok x.0) parts a.2 in
      let taken = parts_take is_known data_in byte spelled IsSound mentioned laws 2 bytes x fits a.1 in
      let text : List ℕ = spelled_in byte spelled 2 x.0 in
      let seal : x.1 ≡ sha1 text = seal_takes (take (length bytes - length x.1) bytes) x.1 b.1 ∙ ap sha1 (take_front bytes text x.1 taken.0.parts) in
      subst (λ (p : Parts T). IsEnvelope IsSound mentioned p × (bytes ≡ envelope_stored byte spelled p)) (ok_is x.0 parts b.2) (taken.1, taken.0.parts ∙ ap (λ (t : List ℕ). text ++ t) seal)

  sealed_again : (parts : Parts T) → IsEnvelope IsSound mentioned parts → sealed_of is_known data_in (envelope_stored byte spelled parts) ≡ Ok parts
  sealed_again parts is =
      let text : List ℕ = spelled_in byte spelled 2 parts in
      let whole : List ℕ = envelope_stored byte spelled parts in
      sealed_so is_known data_in whole (sha1 text) parts (parts_again is_known data_in byte spelled IsSound mentioned laws 2 parts (sha1 text) is)
      ∙ ap (λ (t : List ℕ). seal_of t (sha1 text) >>= λ _. Ok parts) (take_front whole text (sha1 text) refl)
      ∙ ap (λ (r : Result (Unit {0}) Fault). r >>= λ _. Ok parts) (seal_holds text)

  -- EITHER FORMAT

  pub stored_takes : (bytes : List ℕ) (parts : Parts T) → AreBytes bytes → stored_of is_known data_in bytes ≡ Ok parts → IsEnvelope IsSound mentioned parts × IsStored byte spelled parts bytes
  stored_takes bytes parts fits e = go (is_second bytes) refl
    where
      go : (b : Bool) → is_second bytes ≡ b → IsEnvelope IsSound mentioned parts × IsStored byte spelled parts bytes
      go true is = let found = sealed_takes bytes parts fits (sym (stored_second is_known data_in bytes is) ∙ e) in (found.0, inr found.1)
      go false is = let found = envelope_takes is_known data_in byte spelled IsSound mentioned laws bytes parts fits (sym (stored_first is_known data_in bytes is) ∙ e) in (found.0, inl found.1)

  pub stored_again : (bytes : List ℕ) (parts : Parts T) → IsEnvelope IsSound mentioned parts → IsStored byte spelled parts bytes → stored_of is_known data_in bytes ≡ Ok parts
  stored_again bytes parts is (inl e) =
      ap (stored_of is_known data_in) e ∙ stored_first is_known data_in (envelope_spelled byte spelled parts) refl ∙ envelope_again is_known data_in byte spelled IsSound mentioned laws parts is
  stored_again bytes parts is (inr e) =
      ap (stored_of is_known data_in) e ∙ stored_second is_known data_in (envelope_stored byte spelled parts) refl ∙ sealed_again parts is

  -- what an answer that tells it promises
  pub found_is : {Kind Op Delta : Type 0} (bytes : List ℕ) (r : Result (Envelope T Kind Op Delta) CodecError) → AreBytes bytes → IsRead (length bytes) r (stored_of is_known data_in bytes)
      → IfOk r (λ envelope. IsEnvelope IsSound mentioned (parts_of envelope) × IsStored byte spelled (parts_of envelope) bytes)
  found_is bytes (Ok envelope) fits e = stored_takes bytes (parts_of envelope) fits e
  found_is bytes (Err error) fits e = tt

  pub only_is : {Kind Op Delta : Type 0} (bytes : List ℕ) (r : Result (Envelope T Kind Op Delta) CodecError) (parts : Parts T) → IsEnvelope IsSound mentioned parts → IsStored byte spelled parts bytes
      → IsRead (length bytes) r (stored_of is_known data_in bytes) → IsRead (length bytes) r (Ok parts)
  only_is bytes r parts is stored read = subst (IsRead (length bytes) r) (stored_again bytes parts is stored) read

  -- the bytes are one envelope at most
  pub stored_once : (bytes : List ℕ) (a b : Parts T) → IsEnvelope IsSound mentioned a → IsEnvelope IsSound mentioned b → IsStored byte spelled a bytes → IsStored byte spelled b bytes → a ≡ b
  stored_once bytes a b p q e f = ok_is a b (sym (stored_again bytes a p e) ∙ stored_again bytes b q f)

  -- no stored envelope is a proper prefix of another
  pub one_stored_is : (a b : Parts T) (x y : List ℕ) → IsEnvelope IsSound mentioned a → IsEnvelope IsSound mentioned b → envelope_stored byte spelled a ++ x ≡ envelope_stored byte spelled b ++ y → (a ≡ b) × (x ≡ y)
  one_stored_is a b x y p q e =
      let first : List ℕ = spelled_in byte spelled 2 a in
      let second : List ℕ = spelled_in byte spelled 2 b in
      let apart : first ++ (sha1 first ++ x) ≡ second ++ (sha1 second ++ y) = sym (append_assoc first (sha1 first) x) ∙ e ∙ append_assoc second (sha1 second) y in
      let same = one_in_format is_known data_in byte spelled IsSound mentioned laws 2 a b (sha1 first ++ x) (sha1 second ++ y) p q apart in
      let seals : sha1 second ≡ sha1 first = ap (λ (c : Parts T). sha1 (spelled_in byte spelled 2 c)) (sym same.0) in
      (same.0, append_cancel (sha1 first) x y (same.1 ∙ ap (λ (t : List ℕ). t ++ y) seals))
