-- Timestamps, over a list of records that says of each which timestamp it has.
use Rattle.std.specs.Prelude.{ℕ, zero, suc, List, [], map, length, replicate, fold, max, if◌then◌else◌, Option, None, Some, ◌&&◌, not, ◌==◌, find}
use Rattle.std.specs.List.{zip}
use Rattle.model_history.specs.Texts.{Text}
use Rattle.base_vectors.specs.Vectors.{Numbers}
use Rattle.model_kinds.specs.SixKinds.{assigned}
use Rattle.model_meanings.specs.Growing.{Assignment, timestamp_after, found}
use Rattle.data_meaning.specs.declared.record.Action.{Action}
use Rattle.data_meaning.specs.declared.record.Record.{Record}
use Rattle.data_meaning.specs.Records.{action_of}
use Rattle.data_meaning.specs.Touching.{is_in}

-- a record, and its timestamp
abbrev pub Timed : Type 0
Timed = Record × ℕ

-- the greatest timestamp of a past, or of all records
abbrev pub newest_in : List Timed → Option Numbers → ℕ
newest_in all past = fold (λ newest j. if is_in past j.0 then max newest j.1 else newest) 0 all

abbrev pub timestamp_by : List Timed → Numbers → Action → ℕ
timestamp_by all past action = timestamp_after (newest_in all (Some past)) (found assigned (action_of action))

-- for each record its timestamp, where chains of pasts are shorter than a number
abbrev pub timestamps : List Record → ℕ → List ℕ
timestamps records zero = replicate (length records) 0
timestamps records (suc depth) = map (λ r. timestamp_by (zip records (timestamps records depth)) r.past r.action) records

-- the first record with a timestamp, unless that is 0
abbrev pub first_with : List Timed → ℕ → Option Timed
first_with all wanted = find (λ j. not (wanted == 0) && (j.1 == wanted)) all

abbrev pub winner_in : List Timed → Option Timed
winner_in all = first_with all (newest_in all None)

abbrev pub text_in : Option Assignment → Text
text_in None = []
text_in (Some assignment) = assignment.text

-- what a record writes
abbrev pub written_by : Option Timed → Text
written_by None = []
written_by (Some j) = text_in (found assigned (action_of j.0.action))
