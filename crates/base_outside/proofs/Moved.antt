-- One move of known bytes after another.
use Rattle.std.proofs.Common.{◌≡◌, ℕ, ◌+◌, ◌-◌, ◌≤◌, List, ◌++◌, take, drop, length, refl, sym, ◌∙◌, ap, append_assoc, None, Some, arith}
use Rattle.std.proofs.Math.Seq.{take-add}
use Rattle.std.proofs.lemmas.List.{take_at, take_all, take-append-drop, drop-drop, length-drop, length-take, length-append}
use Rattle.std.specs.Io.KnownBytes.{Appends, Consumes}
use Rattle.std.specs.declared.option.Option.{Option}
use Rattle.base_outside.specs.Transfers.{ReadsCount}

pub appends_more : (a b c : Option (List ℕ)) (xs ys : List ℕ) → Appends a b xs → Appends b c ys → Appends a c (xs ++ ys)
appends_more None b c xs ys h k = tt
appends_more (Some a) None c xs ys h k = absurd h
appends_more (Some a) (Some b) None xs ys h k = k
appends_more (Some a) (Some b) (Some c) xs ys h k = k ∙ ap (λ l. l ++ ys) h ∙ append_assoc a xs ys

pub consumes_more : (a b c : Option (List ℕ)) (xs ys : List ℕ) → Consumes a b xs → Consumes b c ys → Consumes a c (xs ++ ys)
consumes_more None b c xs ys h k = tt
consumes_more (Some a) None c xs ys h k = absurd h
consumes_more (Some a) (Some b) None xs ys h k = k
consumes_more (Some a) (Some b) (Some c) xs ys h k = h ∙ ap (λ l. xs ++ l) k ∙ sym (append_assoc xs ys c)

-- the slice from i on
pub rest_from : (i : ℕ) (text : List ℕ) → take (length text - i) (drop i text) ≡ drop i text
rest_from i text = take_all (length text - i) (drop i text) (omega (arith, length-drop i text))

-- after the first i bytes of a text, the next n
pub appends_next : (a b c : Option (List ℕ)) (i n : ℕ) (text : List ℕ) → Appends a b (take i text) → Appends b c (take n (take (length text - i) (drop i text))) → Appends a c (take (i + n) text)
appends_next a b c i n text h k = rw take-add (appends_more a b c (take i text) (take n (drop i text)) h (rw (rest_from i text) at k))

-- What a read into a buffer leaves: n bytes were copied to its front from where the source stood.
pub reads_copied : (n i : ℕ) (all front behind : List ℕ) → n ≤ length (take (length all - i) (drop i all)) → front ≡ take n (take (length all - i) (drop i all)) → drop i all ≡ take n (front ++ behind) ++ drop (i + n) all
reads_copied n i all front behind within e =
    let e' : front ≡ take n (drop i all) = rw (rest_from i all) at e in
    let within' : n ≤ length (drop i all) = rw (rest_from i all) at within in
    let l : length front ≡ n = ap length e' ∙ omega (arith, length-take n (drop i all)) in
    sym (take-append-drop n (drop i all)) ∙ rw (take_at front behind n l, drop-drop) (ap (λ x. x ++ drop (i + n) all) (sym e'))

-- what was read before, and a read of n bytes after it
pub reads_so_far : (a b c : Option (List ℕ)) (got into : List ℕ) (n limit : ℕ) → Consumes a b got → Consumes b c (take n into) → length got + n ≤ limit + 1 → (m : ℕ) × (m ≤ limit + 1) × ReadsCount a c m
reads_so_far a b c got into n limit h k within = (
  length (got ++ take n into),
  omega (arith, length-append got (take n into), length-take n into),
  (got ++ take n into, refl, consumes_more a b c got (take n into) h k),
)
