-- Whether two shown values are the same.
use Rattle.std.specs.Prelude.{List, [], ◌∷◌, Bool, true, false, not, ◌&&◌, ◌==◌}
use Rattle.std.specs.Ordering.{int_eq}
use Rattle.std.specs.Str.{bytes_eq}
use Rattle.model_history.specs.Texts.{Text}
use Rattle.model_kinds.specs.declared.shown.Shown.{Shown}
use Rattle.model_kinds.specs.declared.shown.Shown.TheVariants.{Count, Signed, Elements, Switch, Written, Deleted}

abbrev pub same_texts : List Text → List Text → Bool
same_texts [] [] = true
same_texts [] (y ∷ ys) = false
same_texts (x ∷ xs) [] = false
same_texts (x ∷ xs) (y ∷ ys) = bytes_eq x y && same_texts xs ys

abbrev pub same_switch : Bool → Bool → Bool
same_switch true on = on
same_switch false on = not on

abbrev pub same_shown : Shown → Shown → Bool
same_shown (Count m) (Count n) = m == n
same_shown (Signed y) (Signed z) = int_eq y z
same_shown (Elements xs) (Elements ys) = same_texts xs ys
same_shown (Switch a) (Switch b) = same_switch a b
same_shown (Written x) (Written y) = bytes_eq x y
same_shown Deleted Deleted = true
same_shown _ _ = false
