-- Reading texts one after the other, as a loop does.
use Rattle.std.proofs.Common.{◌≡◌, ℕ, suc, ◌-◌, ◌+◌, ◌≤◌, ◌<◌, List, [], ◌∷◌, ◌++◌, length, Option, Some, Result, Ok, Err, refl, sym, ap, ◌∙◌, append_assoc, arith}
use Rattle.std.specs.Prelude.{slice_get}
use Rattle.std.proofs.lemmas.List.{append-nil, length-append}
use Rattle.model_history.specs.Texts.{Text}
use Rattle.base_bytes.specs.declared.fault.Fault.{Fault}
use Rattle.base_bytes.specs.declared.fault.FieldError.{FieldError}
use Rattle.base_bytes.specs.declared.fault.FieldError.TheVariants as error
use Rattle.base_bytes.specs.Fields.{◌>>=◌, Fails, text_in}
use Rattle.data_growing.specs.Reading.{texts_in}

-- what was read before, and what is still read
abbrev pub with_front : List Text → Result (List Text × List ℕ) Fault → Result (List Text × List ℕ) Fault
with_front front read = read >>= λ x. Ok (front ++ x.0, x.1)

-- the last text that was read
abbrev pub last_of : List Text → Option Text
last_of texts = slice_get texts (length texts - 1)

at_end : (front : List Text) (text : Text) → slice_get (front ++ text ∷ []) (length front) ≡ Some text
at_end [] text = refl
at_end (x ∷ xs) text = at_end xs text

last_pushed : (front : List Text) (text : Text) → last_of (front ++ text ∷ []) ≡ Some text
last_pushed front text =
    let place : length (front ++ text ∷ []) - 1 ≡ length front = omega (arith, length-append front (text ∷ [])) in
    ap (slice_get (front ++ text ∷ [])) place ∙ at_end front text

regroup : (front : List Text) (text : Text) (read : Result (List Text × List ℕ) Fault) → with_front front (read >>= λ x. Ok (text ∷ x.0, x.1)) ≡ with_front (front ++ text ∷ []) read
regroup front text (Ok x) = ap (λ (texts : List Text). Ok (texts, x.1)) (sym (append_assoc front (text ∷ []) x.0))
regroup front text (Err f) = refl

pub goes_on : (front : List Text) (count i : ℕ) (before : Option Text) (bytes : List ℕ) (text : Text) (after : List ℕ) (total : Result (List Text × List ℕ) Fault) → i < count → before ≡ last_of front → text_in before bytes ≡ Ok (text, after)
    → with_front front (texts_in (count - i) (last_of front) bytes) ≡ total → with_front (front ++ text ∷ []) (texts_in (count - (i + 1)) (last_of (front ++ text ∷ [])) after) ≡ total
unfolding texts_in
goes_on front count i before bytes text after total lt same h so_far =
    let k : count - i ≡ suc (count - (i + 1)) = omega arith in
    ap (λ before. with_front (front ++ text ∷ []) (texts_in (count - (i + 1)) before after)) (last_pushed front text)
    ∙ sym (regroup front text (texts_in (count - (i + 1)) (Some text) after))
    ∙ ap (λ (r : Result (Text × List ℕ) Fault). with_front front (r >>= λ first. texts_in (count - (i + 1)) (Some first.0) first.1 >>= λ x. Ok (first.0 ∷ x.0, x.1))) (sym (ap (λ b. text_in b bytes) (sym same) ∙ h))
    ∙ ap (λ n. with_front front (texts_in n (last_of front) bytes)) (sym k) ∙ so_far

pub ends : (e : FieldError) (front : List Text) (count i : ℕ) (before : Option Text) (bytes : List ℕ) (total : Result (List Text × List ℕ) Fault) → i < count → before ≡ last_of front → Fails e (text_in before bytes)
    → with_front front (texts_in (count - i) (last_of front) bytes) ≡ total → Fails e total
unfolding texts_in
ends error.Memory front count i before bytes total lt same h so_far = tt
ends (error.Fault f) front count i before bytes total lt same h so_far =
    let k : count - i ≡ suc (count - (i + 1)) = omega arith in
    sym so_far ∙ ap (λ n. with_front front (texts_in n (last_of front) bytes)) k
    ∙ ap (λ (r : Result (Text × List ℕ) Fault). with_front front (r >>= λ first. texts_in (count - (i + 1)) (Some first.0) first.1 >>= λ x. Ok (first.0 ∷ x.0, x.1))) (ap (λ b. text_in b bytes) (sym same) ∙ h)

pub is_done : (front : List Text) (count i : ℕ) (bytes : List ℕ) (total : Result (List Text × List ℕ) Fault) → count ≤ i → with_front front (texts_in (count - i) (last_of front) bytes) ≡ total → total ≡ Ok (front, bytes)
unfolding texts_in
is_done front count i bytes total le so_far =
    let k : count - i ≡ 0 = omega arith in
    sym so_far ∙ ap (λ n. with_front front (texts_in n (last_of front) bytes)) k ∙ ap (λ (texts : List Text). Ok (texts, bytes)) (append-nil front)
