-- Reading at places: what was read, with the place after it in place of the bytes after it.
--     FailsAt       a fault by its place among so many bytes
--     GivesOn       of these bytes a value and the place after it, or the place of the first fault
use Rattle.std.proofs.Common.{◌≡◌, ℕ, ◌+◌, ◌-◌, ◌≤◌, Bool, false, List, ◌++◌, length, take, drop, Result, Ok, Err, refl, sym, ap, subst, ◌∙◌, append_assoc, arith, length-append, length-drop}
use Rattle.std.proofs.lemmas.List.{drop_at, take-append-drop, get_or-drop}
use Rattle.base_bytes.specs.declared.fault.Fault.{Fault}
use Rattle.base_bytes.specs.declared.fault.Fault.TheVariants.{BadByte}
use Rattle.base_bytes.specs.declared.fault.FieldError.{FieldError}
use Rattle.base_bytes.specs.declared.fault.FieldError.TheVariants as errors
use Rattle.base_bytes.specs.declared.fault.ReadError.{ReadError}
use Rattle.base_bytes.specs.declared.fault.ReadError.TheVariants as error
use Rattle.base_bytes.specs.Fields.{◌>>=◌, Fails, kept}
use Rattle.base_bytes.specs.Spelling.{AreBytes, Takes, placed}

abbrev pub FailsAt : {Y : Type 0} → ℕ → ReadError → Result Y Fault → Type 0
FailsAt total e read = (fault : FieldError) × Fails fault read × (e ≡ placed total fault)

abbrev pub GivesOn : {X Y : Type 0} → List ℕ → (X → Y) → Result (X × ℕ) ReadError → Result (Y × List ℕ) Fault → Type 0
GivesOn from view (Ok found) read = read ≡ Ok (view found.0, drop found.1 from)
GivesOn from view (Err e) read = FailsAt (length from) e read

-- what fails at first fails in all
fails_then : {A B : Type 0} (fault : FieldError) (r : Result A Fault) (k : A → Result B Fault) → Fails fault r → Fails fault (r >>= k)
fails_then errors.Memory r k h = tt
fails_then (errors.Fault f) r k h = ap (λ x. x >>= k) h

pub fails_first : {A B : Type 0} (total : ℕ) (e : ReadError) (r : Result A Fault) (k : A → Result B Fault) → FailsAt total e r → FailsAt total e (r >>= k)
fails_first total e r k h = (h.0, fails_then h.0 r k h.1, h.2)

-- and what fails behind what was read
pub fails_behind : {A B : Type 0} (total : ℕ) (e : ReadError) (r : Result A Fault) (x : A) (k : A → Result B Fault) → r ≡ Ok x → FailsAt total e (k x) → FailsAt total e (r >>= k)
fails_behind total e r x k is h = subst (λ (s : Result _ Fault). FailsAt total e (s >>= k)) (sym is) h

pub reads_behind : {A B : Type 0} (r : Result A Fault) (x : A) (k : A → Result B Fault) → r ≡ Ok x → (r >>= k) ≡ k x
reads_behind r x k is = ap (λ s. s >>= k) is

-- a rule that is broken at a place
pub breaks : {B : Type 0} (from : List ℕ) (place : ℕ) (rule : Bool) (k : Unit {0} → Result B Fault) → place ≤ length from → rule ≡ false → FailsAt (length from) (error.BadByte place) (kept rule (length (drop place from)) >>= k)
breaks from place rule k within broken =
    let at : place ≡ length from - length (drop place from) = omega (arith, length-drop place from) in
    (errors.Fault (BadByte (length (drop place from))), ap (λ (b : Bool). kept b (length (drop place from)) >>= k) broken, ap error.BadByte at)

-- what follows stands at its place
pub rest_from : (from : List ℕ) (place next : ℕ) (text rest : List ℕ) → Takes (drop place from) text rest → next ≡ length from - length rest → drop next from ≡ rest
rest_from from place next text rest taken at =
    let whole : from ≡ (take place from ++ text) ++ rest = sym (take-append-drop place from) ∙ ap (λ (t : List ℕ). take place from ++ t) taken.parts ∙ sym (append_assoc (take place from) text rest) in
    let all : length from ≡ length ((take place from ++ text) ++ rest) = ap length whole in
    let before : length from - length rest ≡ length (take place from ++ text) = omega (arith, all, length-append (take place from ++ text) rest) in
    ap (λ (n : ℕ). drop n from) (at ∙ before) ∙ ap (drop (length (take place from ++ text))) whole ∙ drop_at (take place from ++ text) rest (length (take place from ++ text)) refl

pub within_from : (total rest next : ℕ) → next ≡ total - rest → next ≤ total
within_from total rest next at = omega (arith, at)

pub bytes_dropped : (n : ℕ) (bytes : List ℕ) → AreBytes bytes → AreBytes (drop n bytes)
bytes_dropped n bytes fits i = rw get_or-drop (fits (n + i))
