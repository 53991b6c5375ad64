-- What a recorder sees one after another.
use Rattle.std.proofs.Common.{◌≡◌, ℕ, ◌+◌, ◌<◌, List, [], ◌∷◌, ◌++◌, length, take, flat_map, get_or, sym, ap, subst, ◌∙◌, append_assoc, append-nil, Ok, Err}
use Rattle.std.specs.Prelude.{OnOk, Result}
use Rattle.std.proofs.lemmas.List.{take_more}
use Rattle.std.proofs.lemmas.Grind.{flat_map-append}
use Rattle.model_kinds.specs.declared.operation.Op.{Op}
use Rattle.model_traces.specs.Traces.{TraceLine}
use Rattle.trace_recorder.specs.declared.recorder.Recorder.{Recorder}
use Rattle.trace_recorder.specs.Saw.{Saw, IsFormed}
use Rattle.trace_entries.specs.Seeing.{Sees}

pub on_ok : {A E : Type 0} (r : Result A E) (P Q : Type 0) → (P → Q) → OnOk r P → OnOk r Q
on_ok (Ok x) P Q f h = f h
on_ok (Err e) P Q f h = h

-- LINES ONE AFTER ANOTHER

pub sees_nothing : (code : Recorder) → Sees code code []
sees_nothing code keys seen saw = subst (Saw keys code) (sym (append-nil seen)) saw

pub sees_both : (a b c : Recorder) (xs ys : List (TraceLine Op)) → Sees a b xs → Sees b c ys → Sees a c (xs ++ ys)
sees_both a b c xs ys first rest keys seen saw = subst (Saw keys c) (append_assoc seen xs ys) (rest keys (seen ++ xs) (first keys seen saw))

-- the lines of one item more
pub sees_next : {X : Type 0} (f : X → List (TraceLine Op)) (xs : List X) (i : ℕ) (x : X) (a b c : Recorder) → i < length xs → x ≡ get_or xs i x → Sees a b (flat_map f (take i xs)) → Sees b c (f x) → Sees a c (flat_map f (take (i + 1) xs))
sees_next f xs i x a b c here is first rest =
    subst (Sees a c) (sym (ap (flat_map f) (take_more xs i x here) ∙ flat_map-append f (take i xs) (get_or xs i x ∷ []) ∙ ap (λ ys. flat_map f (take i xs) ++ ys) (append-nil (f (get_or xs i x)) ∙ ap f (sym is))))
    (sees_both a b c (flat_map f (take i xs)) (f x) first rest)

-- bounds that go on being kept
pub formed_both : (a b c : Recorder) → (IsFormed a → IsFormed b) → (IsFormed b → IsFormed c) → IsFormed a → IsFormed c
formed_both a b c first rest formed = rest (first formed)
