-- Tables of entries: each key once, in the order of the keys' bytes.
use Rattle.std.specs.Prelude.{List, [], ◌∷◌, fold, map}
use Rattle.std.specs.Ordering.{match_ordering}
use Rattle.model_history.specs.Texts.{Text}
use Rattle.base_bytes.specs.TextOrder.{text_order, IsRising}
use Rattle.member_keeper.specs.declared.stored.Stored.{Stored}

abbrev pub Table : Type 0
Table = List Stored

-- the table with an entry in its place, instead of the one that has its key
abbrev pub put : Table → Stored → Table
put [] entry = entry ∷ []
put (first ∷ rest) entry = match_ordering (text_order first.key entry.key) (first ∷ put rest entry) (entry ∷ rest) (entry ∷ first ∷ rest)

-- the entries put one after the other
abbrev pub put_all : Table → List Stored → Table
put_all table entries = fold put table entries

abbrev pub keys_of : List Stored → List Text
keys_of entries = map (λ entry. entry.key) entries

-- each key comes before those after it
abbrev pub IsTable : List Stored → Type 0
IsTable entries = IsRising (keys_of entries)
