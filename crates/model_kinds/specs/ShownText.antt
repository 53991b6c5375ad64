-- The text of a value as reports show it: numbers in decimal, texts as JSON strings in the shortest form.
use Rattle.std.specs.Prelude.{ℕ, suc, List, ◌++◌, map, if◌then◌else◌, ℤ, pos, negsuc, codes, decimal}
use Rattle.std.specs.List.{join_with_byte}
use Rattle.json.specs.Print.{quoted}
use Rattle.model_kinds.specs.declared.shown.Shown.{Shown}
use Rattle.model_kinds.specs.declared.shown.Shown.TheVariants.{Count, Signed, Elements, Switch, Written, Deleted}

abbrev pub signed_text : ℤ → List ℕ
signed_text (pos n) = decimal n
signed_text (negsuc n) = codes "-" ++ decimal (suc n)

-- a set is its elements with commas between them, in braces
abbrev pub shown_text : Shown → List ℕ
shown_text (Count n) = decimal n
shown_text (Signed z) = signed_text z
shown_text (Elements es) = codes "{" ++ join_with_byte 44 (map quoted es) ++ codes "}"
shown_text (Switch b) = if b then codes "true" else codes "false"
shown_text (Written text) = quoted text
shown_text Deleted = codes "deleted"
