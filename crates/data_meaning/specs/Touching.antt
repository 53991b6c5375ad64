-- Which records touch an element, and where it has a live adding record, over a list of records that says of each whether it touches the element.
use Rattle.std.specs.Prelude.{ℕ, zero, suc, List, Bool, true, false, ◌&&◌, ◌||◌, not, ◌==◌, nat_le, map, length, replicate, Option, None, Some}
use Rattle.std.specs.List.{list_any, zip}
use Rattle.model_history.specs.Texts.{Text}
use Rattle.base_vectors.specs.Vectors.{Numbers, number_at}
use Rattle.model_kinds.specs.SixKinds.{adds, removes}
use Rattle.data_meaning.specs.declared.record.Action.{Action}
use Rattle.data_meaning.specs.declared.record.Action.TheVariants.{Operation, Prune}
use Rattle.data_meaning.specs.declared.record.Record.{Record}

-- the past counts the record
abbrev pub is_before : Numbers → Record → Bool
is_before past r = nat_le r.number (number_at past r.origin)

-- the record is in the past, or all are looked at
abbrev pub is_in : Option Numbers → Record → Bool
is_in None r = true
is_in (Some past) r = is_before past r

-- a record, and whether it touches the element
abbrev pub Judged : Type 0
Judged = Record × Bool

abbrev pub is_adding : Text → Action → Bool → Bool
is_adding e (Operation op) touches = adds op e
is_adding e (Prune removed) touches = touches

-- a record that touches the element has this one in its past: among the records of a past, or all
abbrev pub is_seen : List Judged → Option Numbers → Record → Bool
is_seen all past r = list_any (λ l. (l.1 && is_in past l.0) && is_before l.0.past r) all

abbrev pub is_live : List Judged → Option Numbers → Text → Record → Bool → Bool
is_live all past e r touches = is_adding e r.action touches && not (is_seen all past r)

abbrev pub had_live : List Judged → Numbers → Text → ℕ → Bool
had_live all past e origin = list_any (λ j. (is_before past j.0 && (j.0.origin == origin)) && is_live all (Some past) e j.0 j.1) all

abbrev pub has_live : List Judged → Text → Bool
has_live all e = list_any (λ j. is_live all None e j.0 j.1) all

abbrev pub touches_by : List Judged → Text → Numbers → Action → Bool
touches_by all e past (Operation op) = adds op e || removes op e
touches_by all e past (Prune removed) = had_live all past e removed

-- for each record whether it touches the element, where chains of pasts are shorter than a number
abbrev pub touching : List Record → Text → ℕ → List Bool
touching records e zero = replicate (length records) false
touching records e (suc depth) = map (λ r. touches_by (zip records (touching records e depth)) e r.past r.action) records

-- the element has a live adding record
abbrev pub is_shown : List Record → Text → Bool
is_shown records e = has_live (zip records (touching records e (length records))) e
