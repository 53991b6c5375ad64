-- A script begins with its opening, and goes on with its steps.
use Rattle.std.proofs.Common.{◌≡◌, ℕ, List, [], ◌∷◌, Result, Ok, Err, refl}
use Rattle.std.specs.Prelude.{codes}
use Rattle.serde_json.specs.Data.{Data, Items}
use Rattle.serde_json.specs.Find.{get}
use Rattle.script_reading.specs.declared.clients.Clients.{Clients}
use Rattle.script_reading.specs.declared.clients.RunStep.{RunStep}
use Rattle.script_reading.specs.declared.fault.Rule.{Rule}
use Rattle.script_reading.specs.declared.script.Script.{Script}
use Rattle.script_reading.specs.declared.script.ScriptKey.{ScriptKey}
use Rattle.script_reading.specs.Fields.{rule, ◌>>=◌, guard, whole_of, list_of, has_names}
use Rattle.script_reading.specs.Reading.{steps_after, keys_after, step_list_of, opening_of, script_of}

-- what follows the opening
abbrev pub with_steps : {S X : Type 0} → (ℕ → List ScriptKey → List S → X) → (Items → Result (List S) Rule) → Data → ℕ × List ScriptKey → Result X Rule
with_steps made read d opening = step_list_of d >>= (λ items. read items >>= (λ steps. Ok (made opening.0 opening.1 steps)))

-- two readers, one after the other, before a third
through : {A B C : Type 0} (x : Result A Rule) (f : A → Result B Rule) (g : B → Result C Rule) (h : A → Result C Rule) → ((a : A) → h a ≡ (f a >>= g)) → (x >>= h) ≡ ((x >>= f) >>= g)
through (Ok a) f g h same = same a
through (Err rule) f g h same = refl

module _ {S X : Type 0} (made : ℕ → List ScriptKey → List S → X) (read : Items → Result (List S) Rule) (d : Data) where
  abbrev after : ℕ × List ScriptKey → Result X Rule
  after = with_steps made read d

  abbrev pub whole : Result X Rule
  whole =
      guard (rule 0 1) (has_names (codes "keys" ∷ codes "members" ∷ codes "steps" ∷ []) [] d) >>= λ _.
      whole_of (rule 0 2) 1 8 (get (codes "members") d) >>= λ members.
      list_of (rule 0 3) 1 16 (get (codes "keys") d) >>= λ items.
      keys_after [] items >>= λ keys. after (members, keys)

  opens : whole ≡ (opening_of d >>= after)
  unfolding opening_of
  opens =
      through (guard (rule 0 1) (has_names (codes "keys" ∷ codes "members" ∷ codes "steps" ∷ []) [] d)) _ after _ (λ _.
      through (whole_of (rule 0 2) 1 8 (get (codes "members") d)) _ after _ (λ members.
      through (list_of (rule 0 3) 1 16 (get (codes "keys") d)) _ after _ (λ items.
      through (keys_after [] items) (λ keys. Ok (members, keys)) after _ (λ keys. refl))))

abbrev pub script_with : ℕ → List ScriptKey → List RunStep → Script
script_with members keys steps = record { members = members; keys = keys; steps = steps }

pub script_opens : (clients : Clients) (d : Data) → script_of clients d ≡ (opening_of d >>= with_steps script_with (steps_after clients []) d)
unfolding script_of
script_opens clients d = opens script_with (steps_after clients []) d
