-- The level of an update or a read: a word, or an object with one name.
use Rattle.std.specs.Prelude.{ℕ, List, [], ◌∷◌, codes, if◌then◌else◌, Option, Some, None, Result, Ok, Err}
use Rattle.std.specs.Str.{bytes_eq}
use Rattle.serde_json.specs.Data.{Data}
use Rattle.serde_json.specs.Find.{get, as_str}
use Rattle.member_quorum.specs.declared.level.Level.{Level}
use Rattle.member_quorum.specs.declared.level.Level.TheVariants.{Local, To, Majority, All}
use Rattle.script_reading.specs.declared.fault.Rule.{Rule}
use Rattle.script_reading.specs.Fields.{rule, ◌>>=◌, required, whole_of, has_names}

-- the level of a word
abbrev pub level_named : List ℕ → Option Level
level_named name =
    if bytes_eq name (codes "local") then Some Local else (
    if bytes_eq name (codes "majority") then Some (Majority 0) else (
    if bytes_eq name (codes "all") then Some All else
    None))

-- a majority with a cap, or a number of members
abbrev pub level_in : Rule → Data → Result Level Rule
level_in rule d =
    if has_names (codes "majority" ∷ []) [] d then whole_of rule 0 64 (get (codes "majority") d) >>= (λ cap. Ok (Majority cap)) else (
    if has_names (codes "to" ∷ []) [] d then whole_of rule 1 64 (get (codes "to") d) >>= (λ number. Ok (To number)) else
    Err rule)

-- what is said by a text, if it is one, and else by an object
abbrev pub level_said : Rule → Option (List ℕ) → Data → Result Level Rule
level_said rule (Some name) d = required rule (level_named name)
level_said rule None d = level_in rule d

-- a level that may be left out, and is then local
unfoldable pub level_of : ℕ → Option Data → Result Level Rule
level_of step None = Ok Local
level_of step (Some d) = level_said (rule step 12) (as_str d) d
