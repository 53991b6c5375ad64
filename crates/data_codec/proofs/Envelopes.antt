-- An envelope that is read is spelled so, and what is spelled so is read again.
use Rattle.std.proofs.Common.{◌≡◌, ℕ, ◌-◌, ◌^◌, ◌<◌, ◌≤◌, Bool, true, false, List, [], ◌∷◌, ◌++◌, length, drop, Result, Ok, refl, sym, ap, subst, ◌∙◌, append_assoc, arith, rules, lit<}
use Rattle.std.specs.Prelude.{◌==◌}
use Rattle.std.proofs.lemmas.Bool.{eqb-true}
use Rattle.std.proofs.lemmas.List.{append-nil, nil_from_length, length-append, drop_at}
use Rattle.model_history.specs.Vector.{IdentitySet}
use Rattle.base_bytes.specs.declared.fault.Fault.{Fault}
use Rattle.base_bytes.specs.declared.fault.Fault.TheVariants.{BadByte}
use Rattle.base_bytes.specs.declared.fault.FieldError.{FieldError}
use Rattle.base_bytes.specs.declared.fault.FieldError.TheVariants as errors
use Rattle.base_bytes.specs.Fields.{◌>>=◌, Fails, kept, byte_in}
use Rattle.base_bytes.specs.Spelling.{AreBytes, Takes, placed}
use Rattle.base_bytes.specs.FieldLaws.{bind_ok, kept_ok, kept_on, ok_is, takes_then, byte_takes}
use Rattle.base_vectors.specs.Vectors.{Numbers, number_at}
use Rattle.base_vectors.specs.Spelling.{numbers_spelled, numbers_in, AreSpellable, AreFree}
use Rattle.base_vectors.proofs.Spellings.{numbers_takes, numbers_again}
use Rattle.data_markers.specs.Marks.{Marks, performed_in}
use Rattle.data_markers.specs.Spelling.{marks_spelled, marks_in}
use Rattle.data_markers.specs.SpellingLaws.{marks_takes, marks_again_read, AreSpellable as AreMarks}
use Rattle.data_envelope.specs.Images.{Parts}
use Rattle.data_codec.specs.declared.reading.Head.{Head}
use Rattle.data_codec.specs.declared.error.CodecError.TheVariants.{NotAnEnvelope}
use Rattle.data_codec.specs.Answers.{refusal}
use Rattle.data_codec.specs.Envelopes.{most_seq, spelled_in, envelope_spelled, head_in, parts_in, envelope_of, IsEnvelope}

-- THE HEAD

abbrev pub head_spelled : ℕ → Head → List ℕ
head_spelled format head = format ∷ (head.kind ∷ (marks_spelled head.marks ++ numbers_spelled (number_at head.versions)))

pub record IsHead (is_known : ℕ → Bool) (head : Head) : Type 0 where
  pub known : is_known head.kind ≡ true
  pub marks : AreMarks head.marks
  pub versions : AreSpellable most_seq head.versions
  pub counted : AreFree (performed_in head.marks) head.versions

abbrev after_marks : ℕ → Result (Marks × List ℕ) Fault → Result (Head × List ℕ) Fault
after_marks kind r = r >>= λ marks. numbers_in most_seq (performed_in marks.0) marks.1 >>= λ versions. Ok (record { kind = kind; marks = marks.0; versions = versions.0 }, versions.1)

module _ (is_known : ℕ → Bool) where
  pub head_takes : (format : ℕ) (bytes : List ℕ) (x : Head × List ℕ) → AreBytes bytes → head_in is_known format bytes ≡ Ok x → Takes bytes (head_spelled format x.0) x.1 × IsHead is_known x.0
  unfolding head_in
  head_takes format bytes x fits e =
      let a = bind_ok (byte_in bytes) (λ begun. kept (begun.0 == format) (length bytes) >>= λ _. byte_in begun.1 >>= λ kind. kept (is_known kind.0) (length begun.1) >>= λ _. after_marks kind.0 (marks_in kind.1)) x e in
      let byte : ℕ = a.0.0 in
      let one : List ℕ = a.0.1 in
      let b = kept_ok (byte == format) (length bytes) (λ _. byte_in one >>= λ kind. kept (is_known kind.0) (length one) >>= λ _. after_marks kind.0 (marks_in kind.1)) x a.2 in
      let c = bind_ok (byte_in one) (λ kind. kept (is_known kind.0) (length one) >>= λ _. after_marks kind.0 (marks_in kind.1)) x b.1 in
      let kind : ℕ = c.0.0 in
      let two : List ℕ = c.0.1 in
      let d = kept_ok (is_known kind) (length one) (λ _. after_marks kind (marks_in two)) x c.2 in
      let m = bind_ok (marks_in two) (λ marks. numbers_in most_seq (performed_in marks.0) marks.1 >>= λ versions. Ok (record { kind = kind; marks = marks.0; versions = versions.0 }, versions.1)) x d.1 in
      let n = bind_ok (numbers_in most_seq (performed_in m.0.0) m.0.1) (λ versions. Ok (record { kind = kind; marks = m.0.0; versions = versions.0 }, versions.1)) x m.2 in
      let ta = byte_takes bytes byte one fits a.1 in
      let tc = byte_takes one kind two ta.0.rest_are_bytes c.1 in
      let tm = marks_takes two m.0.0 m.0.1 tc.0.rest_are_bytes m.1 in
      let tn = numbers_takes most_seq (performed_in m.0.0) m.0.1 n.0.0 n.0.1 tm.0.rest_are_bytes n.1 in
      let first : byte ≡ format = eqb-true byte format b.0 in
      let mn = takes_then two (marks_spelled m.0.0) m.0.1 (numbers_spelled (number_at n.0.0)) n.0.1 tm.0 tn.0 in
      let cmn = takes_then one (kind ∷ []) two (marks_spelled m.0.0 ++ numbers_spelled (number_at n.0.0)) n.0.1 tc.0 mn in
      let all = takes_then bytes (byte ∷ []) one (kind ∷ (marks_spelled m.0.0 ++ numbers_spelled (number_at n.0.0))) n.0.1 ta.0 cmn in
      let made : Head × List ℕ = (record { kind = kind; marks = m.0.0; versions = n.0.0 }, n.0.1) in
      subst (λ (y : Head × List ℕ). Takes bytes (head_spelled format y.0) y.1 × IsHead is_known y.0) {x = made} {y = x} (ok_is made x n.2) (
        subst (λ (k : ℕ). Takes bytes (k ∷ (kind ∷ (marks_spelled m.0.0 ++ numbers_spelled (number_at n.0.0)))) n.0.1) {x = byte} {y = format} first all,
        record { known = d.0; marks = tm.1; versions = tn.1; counted = tn.2 },
      )

  pub head_again : (format : ℕ) (head : Head) (rest : List ℕ) → IsHead is_known head → head_in is_known format (head_spelled format head ++ rest) ≡ Ok (head, rest)
  unfolding head_in
  head_again format head rest is =
      let numbers : List ℕ = numbers_spelled (number_at head.versions) in
      let limit : most_seq < 2 ^ 64 = lit< tt in
      let regrouped : (marks_spelled head.marks ++ numbers) ++ rest ≡ marks_spelled head.marks ++ (numbers ++ rest) = append_assoc (marks_spelled head.marks) numbers rest in
      let same : (format == format) ≡ true = search rules in
      kept_on (format == format) (length (head_spelled format head ++ rest)) (λ _. kept (is_known head.kind) (length (head.kind ∷ ((marks_spelled head.marks ++ numbers) ++ rest))) >>= λ _. after_marks head.kind (marks_in ((marks_spelled head.marks ++ numbers) ++ rest))) same
      ∙ kept_on (is_known head.kind) (length (head.kind ∷ ((marks_spelled head.marks ++ numbers) ++ rest))) (λ _. after_marks head.kind (marks_in ((marks_spelled head.marks ++ numbers) ++ rest))) is.known
      ∙ ap (λ (t : List ℕ). after_marks head.kind (marks_in t)) regrouped
      ∙ ap (after_marks head.kind) (marks_again_read head.marks (numbers ++ rest) is.marks)
      ∙ ap (λ (r : Result (Numbers × List ℕ) Fault). r >>= λ versions. Ok (record { kind = head.kind; marks = head.marks; versions = versions.0 }, versions.1)) (numbers_again most_seq (performed_in head.marks) head.versions rest limit is.versions is.counted)

-- WHOLE ENVELOPES

abbrev pub with_value : {T : Type 0} → Head → T → Parts T
with_value head value = record { value = value; versions = head.versions; marks = head.marks }

abbrev pub after_data : {T : Type 0} → Head → Result (T × List ℕ) Fault → Result (Parts T × List ℕ) Fault
after_data head r = r >>= λ value. Ok (with_value head value.0, value.1)

abbrev ended : {T : Type 0} → Parts T × List ℕ → Result (Parts T) Fault
ended parts = kept (length parts.1 == 0) (length parts.1) >>= λ _. Ok parts.0

module _ {T : Type 0} (is_known : ℕ → Bool) (data_in : ℕ → IdentitySet → List ℕ → Result (T × List ℕ) Fault) (byte : T → ℕ) (spelled : T → List ℕ) (IsSound : T → Type 0) (mentioned : T → ℕ → Bool) where
  -- what the two directions of the data have to do with each other
  pub record AreLaws : Type 0 where
    pub takes : (kind : ℕ) (barred : IdentitySet) (bytes : List ℕ) (x : T) (rest : List ℕ) → is_known kind ≡ true → AreBytes bytes → data_in kind barred bytes ≡ Ok (x, rest)
        → Takes bytes (spelled x) rest × IsSound x × (byte x ≡ kind) × ((i : ℕ) → barred i ≡ true → mentioned x i ≡ false)
    pub again : (x : T) (barred : IdentitySet) (rest : List ℕ) → IsSound x → ((i : ℕ) → barred i ≡ true → mentioned x i ≡ false) → data_in (byte x) barred (spelled x ++ rest) ≡ Ok (x, rest)
    pub known : (x : T) → is_known (byte x) ≡ true

  pub parts_take : AreLaws → (format : ℕ) (bytes : List ℕ) (x : Parts T × List ℕ) → AreBytes bytes → parts_in is_known data_in format bytes ≡ Ok x → Takes bytes (spelled_in byte spelled format x.0) x.1 × IsEnvelope IsSound mentioned x.0
  unfolding parts_in
  parts_take laws format bytes x fits e =
      let a = bind_ok (head_in is_known format bytes) (λ head. after_data head.0 (data_in head.0.kind (performed_in head.0.marks) head.1)) x e in
      let head : Head = a.0.0 in
      let after : List ℕ = a.0.1 in
      let b = bind_ok (data_in head.kind (performed_in head.marks) after) (λ value. Ok (with_value head value.0, value.1)) x a.2 in
      let value : T = b.0.0 in
      let th = head_takes is_known format bytes a.0 fits a.1 in
      let td = laws.takes head.kind (performed_in head.marks) after value b.0.1 th.1.known th.0.rest_are_bytes b.1 in
      let whole = takes_then bytes (head_spelled format head) after (spelled value) b.0.1 th.0 td.0 in
      let made : Parts T × List ℕ = (with_value head value, b.0.1) in
      subst (λ (y : Parts T × List ℕ). Takes bytes (spelled_in byte spelled format y.0) y.1 × IsEnvelope IsSound mentioned y.0) (ok_is made x b.2) (
        subst (λ (k : ℕ). Takes bytes (format ∷ (k ∷ ((marks_spelled head.marks ++ numbers_spelled (number_at head.versions)) ++ spelled value))) b.0.1) (sym td.2) whole,
        record { spelled = record { marks = th.1.marks; versions = th.1.versions; value = td.1 }; counted = th.1.counted; named = td.3 },
      )

  pub parts_again : AreLaws → (format : ℕ) (parts : Parts T) (rest : List ℕ) → IsEnvelope IsSound mentioned parts → parts_in is_known data_in format (spelled_in byte spelled format parts ++ rest) ≡ Ok (parts, rest)
  unfolding parts_in
  parts_again laws format parts rest is =
      let head : Head = record { kind = byte parts.value; marks = parts.marks; versions = parts.versions } in
      let fine : IsHead is_known head = record { known = laws.known parts.value; marks = is.spelled.marks; versions = is.spelled.versions; counted = is.counted } in
      let regrouped : spelled_in byte spelled format parts ++ rest ≡ head_spelled format head ++ (spelled parts.value ++ rest) = append_assoc (head_spelled format head) (spelled parts.value) rest in
      ap (λ (t : List ℕ). head_in is_known format t >>= λ h. after_data h.0 (data_in h.0.kind (performed_in h.0.marks) h.1)) regrouped
      ∙ ap (λ (r : Result (Head × List ℕ) Fault). r >>= λ h. after_data h.0 (data_in h.0.kind (performed_in h.0.marks) h.1)) (head_again is_known format head (spelled parts.value ++ rest) fine)
      ∙ ap (after_data head) (laws.again parts.value (performed_in parts.marks) rest is.spelled.value is.named)

  pub envelope_takes : AreLaws → (bytes : List ℕ) (parts : Parts T) → AreBytes bytes → envelope_of is_known data_in bytes ≡ Ok parts → IsEnvelope IsSound mentioned parts × (bytes ≡ envelope_spelled byte spelled parts)
  unfolding envelope_of
  envelope_takes laws bytes parts fits e =
      let a = bind_ok (parts_in is_known data_in 1 bytes) (λ x. ended x) parts e in
      let x : Parts T × List ℕ = a.0 in
      let b = kept_ok (length x.1 == 0) (length x.1) (λ _. Ok x.0) parts a.2 in
      let taken = parts_take laws 1 bytes x fits a.1 in
      let nothing : x.1 ≡ [] = nil_from_length x.1 (eqb-true _ _ b.0) in
      let whole : bytes ≡ envelope_spelled byte spelled x.0 = taken.0.parts ∙ ap (λ (t : List ℕ). envelope_spelled byte spelled x.0 ++ t) nothing ∙ append-nil (envelope_spelled byte spelled x.0) in
      subst (λ (p : Parts T). IsEnvelope IsSound mentioned p × (bytes ≡ envelope_spelled byte spelled p)) (ok_is x.0 parts b.1) (taken.1, whole)

  pub envelope_again : AreLaws → (parts : Parts T) → IsEnvelope IsSound mentioned parts → envelope_of is_known data_in (envelope_spelled byte spelled parts) ≡ Ok parts
  unfolding envelope_of
  envelope_again laws parts is =
      ap (λ (t : List ℕ). parts_in is_known data_in 1 t >>= λ x. ended x) (sym (append-nil (envelope_spelled byte spelled parts)))
      ∙ ap (λ (r : Result (Parts T × List ℕ) Fault). r >>= λ x. ended x) (parts_again laws 1 parts [] is)

  -- no spelling is a proper prefix of another of its format
  pub one_in_format : AreLaws → (format : ℕ) (a b : Parts T) (x y : List ℕ) → IsEnvelope IsSound mentioned a → IsEnvelope IsSound mentioned b → spelled_in byte spelled format a ++ x ≡ spelled_in byte spelled format b ++ y → (a ≡ b) × (x ≡ y)
  one_in_format laws format a b x y p q e =
      let same = ok_is (a, x) (b, y) (sym (parts_again laws format a x p) ∙ ap (parts_in is_known data_in format) e ∙ parts_again laws format b y q) in
      (ap (λ (z : Parts T × List ℕ). z.0) same, ap (λ (z : Parts T × List ℕ). z.1) same)

  pub one_spelling_is : AreLaws → (a b : Parts T) (x y : List ℕ) → IsEnvelope IsSound mentioned a → IsEnvelope IsSound mentioned b → envelope_spelled byte spelled a ++ x ≡ envelope_spelled byte spelled b ++ y → (a ≡ b) × (x ≡ y)
  one_spelling_is laws a b x y p q e = one_in_format laws 1 a b x y p q e

-- PLACES

-- what is left is the rest from its place on
pub rest_is : (bytes text rest : List ℕ) → bytes ≡ text ++ rest → drop (length bytes - length rest) bytes ≡ rest
rest_is bytes text rest parts =
    let all : length bytes ≡ length (text ++ rest) = ap length parts in
    let before : length bytes - length rest ≡ length text = omega (arith, all, length-append text rest) in
    ap (λ (n : ℕ). drop n bytes) before ∙ ap (drop (length text)) parts ∙ drop_at text rest (length text) refl

pub shorter : (bytes text rest : List ℕ) → bytes ≡ text ++ rest → length rest ≤ length bytes
shorter bytes text rest parts = let all : length bytes ≡ length (text ++ rest) = ap length parts in omega (arith, all, length-append text rest)

module _ {T : Type 0} (is_known : ℕ → Bool) (data_in : ℕ → IdentitySet → List ℕ → Result (T × List ℕ) Fault) where
  pub head_fails : (e : FieldError) (format : ℕ) (bytes : List ℕ) → Fails e (head_in is_known format bytes) → Fails e (parts_in is_known data_in format bytes)
  unfolding parts_in
  head_fails errors.Memory format bytes h = tt
  head_fails (errors.Fault fault) format bytes h = ap (λ (r : Result (Head × List ℕ) Fault). r >>= λ x. after_data x.0 (data_in x.0.kind (performed_in x.0.marks) x.1)) h

  -- the data are read behind the head
  read_behind : (format : ℕ) (bytes rest : List ℕ) (head : Head) → head_in is_known format bytes ≡ Ok (head, rest) → parts_in is_known data_in format bytes ≡ after_data head (data_in head.kind (performed_in head.marks) rest)
  unfolding parts_in
  read_behind format bytes rest head h = ap (λ (r : Result (Head × List ℕ) Fault). r >>= λ x. after_data x.0 (data_in x.0.kind (performed_in x.0.marks) x.1)) h

  pub data_fail : (e : FieldError) (format : ℕ) (bytes rest : List ℕ) (head : Head) → head_in is_known format bytes ≡ Ok (head, rest) → Fails e (data_in head.kind (performed_in head.marks) rest) → Fails e (parts_in is_known data_in format bytes)
  data_fail errors.Memory format bytes rest head h f = tt
  data_fail (errors.Fault fault) format bytes rest head h f = read_behind format bytes rest head h ∙ ap (after_data head) f

  pub ends_so : (format : ℕ) (bytes rest left : List ℕ) (head : Head) (value : T) → head_in is_known format bytes ≡ Ok (head, rest) → data_in head.kind (performed_in head.marks) rest ≡ Ok (value, left) → parts_in is_known data_in format bytes ≡ Ok (with_value head value, left)
  ends_so format bytes rest left head value h d = read_behind format bytes rest head h ∙ ap (after_data head) d

  -- the same data, read at a place
  pub moved : (kind : ℕ) (barred pruned : IdentitySet) (from rest : List ℕ) → barred ≡ pruned → from ≡ rest → data_in kind barred from ≡ data_in kind pruned rest
  moved kind barred pruned from rest p q = ap (λ (b : IdentitySet). data_in kind b from) p ∙ ap (data_in kind pruned) q

  -- WHERE IT ENDS

  pub front_fails : (e : FieldError) (bytes : List ℕ) → Fails e (parts_in is_known data_in 1 bytes) → Fails e (envelope_of is_known data_in bytes)
  unfolding envelope_of
  front_fails errors.Memory bytes h = tt
  front_fails (errors.Fault fault) bytes h = ap (λ (r : Result (Parts T × List ℕ) Fault). r >>= λ x. ended x) h

  ended_so : (bytes left : List ℕ) (parts : Parts T) → parts_in is_known data_in 1 bytes ≡ Ok (parts, left) → envelope_of is_known data_in bytes ≡ ended (parts, left)
  unfolding envelope_of
  ended_so bytes left parts h = ap (λ (r : Result (Parts T × List ℕ) Fault). r >>= λ x. ended x) h

  -- something is left over
  pub fault_is : (bytes left : List ℕ) (parts : Parts T) (next : ℕ) → parts_in is_known data_in 1 bytes ≡ Ok (parts, left) → next ≡ length bytes - length left → (next ≡ length bytes → ⊥)
      → (x : FieldError) × Fails x (envelope_of is_known data_in bytes) × (NotAnEnvelope next ≡ refusal (placed (length bytes) x))
  fault_is bytes left parts next h at more =
      let t : (length left == 0) ≡ false = (let some : length left ≡ 0 → ⊥ = λ none. more (omega (arith, at, none)) in grind rules) in
      (errors.Fault (BadByte (length left)), ended_so bytes left parts h ∙ ap (λ (b : Bool). kept b (length left) >>= λ _. Ok parts) t, ap NotAnEnvelope at)

module _ {T : Type 0} (is_known : ℕ → Bool) (data_in : ℕ → IdentitySet → List ℕ → Result (T × List ℕ) Fault) (byte : T → ℕ) (spelled : T → List ℕ) (IsSound : T → Type 0) (mentioned : T → ℕ → Bool) where
  -- nothing is left over
  pub whole_is : AreLaws is_known data_in byte spelled IsSound mentioned → (bytes left : List ℕ) (parts : Parts T) (next : ℕ) → AreBytes bytes → parts_in is_known data_in 1 bytes ≡ Ok (parts, left) → next ≡ length bytes - length left → next ≡ length bytes
      → envelope_of is_known data_in bytes ≡ Ok parts
  whole_is laws bytes left parts next fits h at all =
      let taken = parts_take is_known data_in byte spelled IsSound mentioned laws 1 bytes (parts, left) fits h in
      let none : length left ≡ 0 = omega (arith, at, all, shorter bytes (envelope_spelled byte spelled parts) left taken.0.parts) in
      let t : (length left == 0) ≡ true = grind rules in
      ended_so is_known data_in bytes left parts h ∙ ap (λ (b : Bool). kept b (length left) >>= λ _. Ok parts) t

  -- the rest stands at its place
  pub place_is : (format : ℕ) (bytes rest : List ℕ) (head : Head) (place : ℕ) → AreBytes bytes → head_in is_known format bytes ≡ Ok (head, rest) → place ≡ length bytes - length rest → drop place bytes ≡ rest
  place_is format bytes rest head place fits h at =
      let th = head_takes is_known format bytes (head, rest) fits h in
      ap (λ (n : ℕ). drop n bytes) at ∙ rest_is bytes (head_spelled format head) rest th.0.parts
