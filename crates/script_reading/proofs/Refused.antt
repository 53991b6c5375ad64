-- A script that may have no clients is one that may have them, and has none.
use Rattle.std.proofs.Common.{◌≡◌, ℕ, ◌+◌, List, [], ◌∷◌, ◌++◌, length, Result, Ok, Err, All, Some, refl, sym, ap, subst, ◌∙◌}
use Rattle.std.proofs.lemmas.List.Elements.{All-nil, All-push, All-pop}
use Rattle.serde_json.specs.Data.{Data, Items, no_items, item}
use Rattle.script_reading.specs.declared.clients.Clients.TheVariants.{Allowed, Refused}
use Rattle.script_reading.specs.declared.clients.RunStep.{RunStep}
use Rattle.script_reading.specs.declared.clients.RunStep.TheVariants.{Plain, Threads, Subscribe, Unsubscribe}
use Rattle.script_reading.specs.declared.fault.Rule.{Rule}
use Rattle.script_reading.specs.declared.script.Script.{Script}
use Rattle.script_reading.specs.Fields.{rule, ◌>>=◌}
use Rattle.script_reading.specs.Reading.{form_of, if_allowed, step_of, steps_after, step_list_of, opening_of, Spells}
use Rattle.script_reading.specs.WellFormed.{IsAllowed, HasNoClients}
use Rattle.script_reading.proofs.Openings.{script_opens, script_with, with_steps}

-- what was read by two readers, one after the other
bound : {A B : Type 0} (x : Result A Rule) (f : A → Result B Rule) (b : B) → (x >>= f) ≡ Ok b → (a : A) × (x ≡ Ok a) × (f a ≡ Ok b)
bound (Ok a) f b h = (a, refl, h)
bound (Err r) f b h = absurd (cc h)

-- A STEP

form_refused : (x : Result RunStep Rule) (r : Rule) (s : RunStep) → (x >>= if_allowed Refused r) ≡ Ok s → ((x >>= if_allowed Allowed r) ≡ Ok s) × IsAllowed Refused s
form_refused (Ok (Plain step)) r s h = (h, let same : Plain step ≡ s = cc h in subst (IsAllowed Refused) same tt)
form_refused (Ok (Threads clients)) r s h = absurd (cc h)
form_refused (Ok (Subscribe at client key)) r s h = absurd (cc h)
form_refused (Ok (Unsubscribe at client key)) r s h = absurd (cc h)
form_refused (Err e) r s h = absurd (cc h)

form_allowed : (x : Result RunStep Rule) (r : Rule) (s : RunStep) → (x >>= if_allowed Allowed r) ≡ Ok s → IsAllowed Refused s → (x >>= if_allowed Refused r) ≡ Ok s
form_allowed (Ok (Plain step)) r s h none = h
form_allowed (Ok (Threads clients)) r s h none = absurd (let same : s ≡ Threads clients = sym (cc h) in subst (IsAllowed Refused) same none)
form_allowed (Ok (Subscribe at client key)) r s h none = absurd (cc h)
form_allowed (Ok (Unsubscribe at client key)) r s h none = absurd (cc h)
form_allowed (Err e) r s h none = absurd (cc h)

step_refused : (n : ℕ) (d : Data) (s : RunStep) → step_of Refused n d ≡ Ok s → (step_of Allowed n d ≡ Ok s) × IsAllowed Refused s
unfolding step_of form_of
step_refused n d s h = form_refused (form_of Refused n d) (rule n 14) s h

step_allowed : (n : ℕ) (d : Data) (s : RunStep) → step_of Allowed n d ≡ Ok s → IsAllowed Refused s → step_of Refused n d ≡ Ok s
unfolding step_of form_of
step_allowed n d s h none = form_allowed (form_of Allowed n d) (rule n 14) s h none

-- ALL STEPS

steps_refused : (before : List RunStep) (items : Items) (steps : List RunStep) → All (IsAllowed Refused) before → steps_after Refused before items ≡ Ok steps
    → (steps_after Allowed before items ≡ Ok steps) × All (IsAllowed Refused) steps
unfolding steps_after
steps_refused before no_items steps none h = (h, let same : before ≡ steps = cc h in subst (All (IsAllowed Refused)) same none)
steps_refused before (item d ds) steps none h =
    let first = bound (step_of Refused (length before + 1) d) (λ s. steps_after Refused (before ++ s ∷ []) ds) steps h in
    let allowed = step_refused (length before + 1) d first.0 first.1 in
    let rest = steps_refused (before ++ first.0 ∷ []) ds steps (All-push (IsAllowed Refused) before first.0 none allowed.1) first.2 in
    (ap (λ x. x >>= λ s. steps_after Allowed (before ++ s ∷ []) ds) allowed.0 ∙ rest.0, rest.1)

-- the steps begin with those before them
steps_begin : (P : RunStep → Type 0) (before : List RunStep) (items : Items) (steps : List RunStep) → steps_after Allowed before items ≡ Ok steps → All P steps → All P before
unfolding steps_after
steps_begin P before no_items steps h all = let same : before ≡ steps = cc h in subst (All P) (sym same) all
steps_begin P before (item d ds) steps h all =
    let first = bound (step_of Allowed (length before + 1) d) (λ s. steps_after Allowed (before ++ s ∷ []) ds) steps h in
    (All-pop P (before ++ first.0 ∷ []) before (Some first.0) refl (steps_begin P (before ++ first.0 ∷ []) ds steps first.2 all)).0

steps_allowed : (before : List RunStep) (items : Items) (steps : List RunStep) → steps_after Allowed before items ≡ Ok steps → All (IsAllowed Refused) steps → steps_after Refused before items ≡ Ok steps
unfolding steps_after
steps_allowed before no_items steps h none = h
steps_allowed before (item d ds) steps h none =
    let first = bound (step_of Allowed (length before + 1) d) (λ s. steps_after Allowed (before ++ s ∷ []) ds) steps h in
    let here = (All-pop (IsAllowed Refused) (before ++ first.0 ∷ []) before (Some first.0) refl (steps_begin (IsAllowed Refused) (before ++ first.0 ∷ []) ds steps first.2 none)).1 in
    ap (λ x. x >>= λ s. steps_after Refused (before ++ s ∷ []) ds) (step_allowed (length before + 1) d first.0 first.1 here) ∙ steps_allowed (before ++ first.0 ∷ []) ds steps first.2 none

-- A SCRIPT

-- one reader of steps in the place of another
script_read : (read other : Items → Result (List RunStep) Rule) (d : Data) (script : Script) → ((items : Items) (steps : List RunStep) → steps ≡ script.steps → read items ≡ Ok steps → other items ≡ Ok steps)
    → (opening_of d >>= with_steps script_with read d) ≡ Ok script → (opening_of d >>= with_steps script_with other d) ≡ Ok script
script_read read other d script same h =
    let opening = bound (opening_of d) (with_steps script_with read d) script h in
    let items = bound (step_list_of d) (λ items. read items >>= (λ steps. Ok (script_with opening.0.0 opening.0.1 steps))) script opening.2 in
    let steps = bound (read items.0) (λ steps. Ok (script_with opening.0.0 opening.0.1 steps)) script items.2 in
    let made : script_with opening.0.0 opening.0.1 steps.0 ≡ script = cc steps.2 in
    ap (λ x. x >>= with_steps script_with other d) opening.1
    ∙ ap (λ x. x >>= (λ items. other items >>= (λ steps. Ok (script_with opening.0.0 opening.0.1 steps)))) items.1
    ∙ ap (λ x. x >>= (λ steps. Ok (script_with opening.0.0 opening.0.1 steps))) (same items.0 steps.0 (ap (λ (s : Script). s.steps) made) steps.1)
    ∙ steps.2

-- and what is so of the steps
script_steps : (read : Items → Result (List RunStep) Rule) (P : RunStep → Type 0) (d : Data) (script : Script) → ((items : Items) (steps : List RunStep) → read items ≡ Ok steps → All P steps)
    → (opening_of d >>= with_steps script_with read d) ≡ Ok script → All P script.steps
script_steps read P d script all h =
    let opening = bound (opening_of d) (with_steps script_with read d) script h in
    let items = bound (step_list_of d) (λ items. read items >>= (λ steps. Ok (script_with opening.0.0 opening.0.1 steps))) script opening.2 in
    let steps = bound (read items.0) (λ steps. Ok (script_with opening.0.0 opening.0.1 steps)) script items.2 in
    let made : script_with opening.0.0 opening.0.1 steps.0 ≡ script = cc steps.2 in
    subst (λ (s : Script). All P s.steps) made (all items.0 steps.0 steps.1)

pub spells_refused : (bytes : List ℕ) (script : Script) → Spells Refused bytes script → Spells Allowed bytes script × HasNoClients script
spells_refused bytes script h =
    let opened = sym (script_opens Refused h.0) ∙ h.2 in (
      (h.0, h.1, script_opens Allowed h.0 ∙ script_read (steps_after Refused []) (steps_after Allowed []) h.0 script (λ items steps same is. (steps_refused [] items steps (All-nil (IsAllowed Refused)) is).0) opened),
      script_steps (steps_after Refused []) (IsAllowed Refused) h.0 script (λ items steps is. (steps_refused [] items steps (All-nil (IsAllowed Refused)) is).1) opened,
    )

pub spells_allowed : (bytes : List ℕ) (script : Script) → Spells Allowed bytes script → HasNoClients script → Spells Refused bytes script
spells_allowed bytes script h none =
    (h.0, h.1, script_opens Refused h.0 ∙ script_read (steps_after Allowed []) (steps_after Refused []) h.0 script (λ items steps same is. steps_allowed [] items steps is (subst (All (IsAllowed Refused)) (sym same) none)) (sym (script_opens Allowed h.0) ∙ h.2))
