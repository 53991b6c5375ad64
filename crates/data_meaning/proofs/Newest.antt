-- The greatest timestamp is within what bounds them all.
use Rattle.std.proofs.Common.{Result, Ok, Err, IfOk, ◌≡◌, ℕ, suc, ◌+◌, ◌<◌, ◌≤◌, List, [], ◌∷◌, ◌++◌, length, get_or, take, map, Bool, true, false, max, ap, sym, ◌∙◌, arith, All, if◌then◌else◌, fold, Option}
use Rattle.std.proofs.lemmas.List.{take_more, map-append}
use Rattle.std.specs.List.{zip, AllByRecursion}
use Rattle.std.proofs.lemmas.List.Elements.{recursion_from_All}
use Rattle.base_vectors.specs.Vectors.{Numbers}
use Rattle.data_meaning.specs.declared.record.Record.{Record}
use Rattle.data_meaning.specs.Touching.{is_in}
use Rattle.data_meaning.specs.Stamping.{Timed, newest_in, timestamp_by, timestamps}

either : (b : Bool) (base t limit : ℕ) → base ≤ limit → t ≤ limit → (if b then max base t else base) ≤ limit
either true base t limit h g = omega arith
either false base t limit h g = h

within : (past : Option Numbers) (limit base : ℕ) (records : List Record) (ts : List ℕ) → base ≤ limit → AllByRecursion (λ t. t ≤ limit) ts
    → fold (λ newest (j : Timed). if is_in past j.0 then max newest j.1 else newest) base (zip records ts) ≤ limit
within past limit base [] ts h all = h
within past limit base (r ∷ rs) [] h all = h
within past limit base (r ∷ rs) (t ∷ ts) h all = within past limit (if is_in past r then max base t else base) rs ts (either (is_in past r) base t limit h all.0) all.1

pub newest_within : (past : Option Numbers) (limit : ℕ) (records : List Record) (ts : List ℕ) → All (λ t. t ≤ limit) ts → newest_in (zip records ts) past ≤ limit
newest_within past limit records ts all = within past limit 0 records ts (omega arith) (recursion_from_All (λ t. t ≤ limit) ts all)

-- a list that is made one by one
pub map_more : {X Y : Type 0} (f : X → Y) (xs : List X) (i : ℕ) (x : X) (y : Y) → i < length xs → x ≡ get_or xs i x → y ≡ f x → map f (take i xs) ++ y ∷ [] ≡ map f (take (i + 1) xs)
map_more f xs i x y l at e =
    ap (λ z. map f (take i xs) ++ z ∷ []) e ∙ sym (map-append f (take i xs) (x ∷ [])) ∙ ap (map f) (ap (λ z. take i xs ++ z ∷ []) at ∙ sym (take_more xs i x l))

-- one depth more
pub next_timestamps : (records : List Record) (i : ℕ) (ts more : List ℕ) → ts ≡ timestamps records i → more ≡ map (λ (r : Record). timestamp_by (zip records ts) r.past r.action) records → more ≡ timestamps records (i + 1)
next_timestamps records i ts more e is =
    let next : suc i ≡ i + 1 = omega arith in
    is ∙ ap (λ us. map (λ (r : Record). timestamp_by (zip records us) r.past r.action) records) e ∙ ap (timestamps records) next

pub ok_same : {X E : Type 0} (r : Result X E) (a b : X) → IfOk r (λ x. x ≡ a) → a ≡ b → IfOk r (λ x. x ≡ b)
ok_same (Ok x) a b h e = h ∙ e
ok_same (Err error) a b h e = tt
