-- In which order the rules of a script are told: none before another that is broken.
--     HoldBelow        the rules of a script as a whole that have a lower number hold
--     IsFirstBroken, IsBrokenByStep        of its steps the first that breaks a rule breaks this one
use Rattle.std.specs.Prelude.{◌≡◌, ℕ, zero, suc, ◌<◌, [], ◌∷◌, codes, true, Result, Ok, Err}
use Rattle.serde_json.specs.Data.{Data, Items, no_items, item}
use Rattle.serde_json.specs.Find.{get}
use Rattle.script_reading.specs.declared.clients.Clients.{Clients}
use Rattle.script_reading.specs.declared.fault.Rule.{Rule}
use Rattle.script_reading.specs.Fields.{rule, has_names, whole_of, list_of}
use Rattle.script_reading.specs.Reading.{keys_after, step_list_of, step_of}

abbrev pub IsRead : {X : Type 0} → Result X Rule → Type 0
IsRead {X} read = (x : X) × (read ≡ Ok x)

-- the rules of a script as a whole that have a number below this one hold
pub record HoldBelow (n : ℕ) (d : Data) : Type 0 where
  pub names : 1 < n → has_names (codes "keys" ∷ codes "members" ∷ codes "steps" ∷ []) [] d ≡ true
  pub members : 2 < n → IsRead (whole_of (rule 0 2) 1 8 (get (codes "members") d))
  pub keys : 3 < n → (items : Items) × (list_of (rule 0 3) 1 16 (get (codes "keys") d) ≡ Ok items) × IsRead (keys_after [] items)
  pub steps : 4 < n → IsRead (step_list_of d)

-- of these steps, the first of which has a number, so many are read, and the next one breaks the rule
unfoldable pub IsFirstBroken : Clients → ℕ → ℕ → Rule → Items → Type 0
IsFirstBroken clients first k broken no_items = ⊥
IsFirstBroken clients first zero broken (item d ds) = step_of clients first d ≡ Err broken
IsFirstBroken clients first (suc k) broken (item d ds) = IsRead (step_of clients first d) × IsFirstBroken clients (suc first) k broken ds

-- the steps are a list, so many of the first of which are read, and the next one breaks the rule
abbrev pub IsBrokenByStep : Clients → Data → Rule → Type 0
IsBrokenByStep clients d broken = (items : Items) × (step_list_of d ≡ Ok items) × ((k : ℕ) × IsFirstBroken clients 1 k broken items)
