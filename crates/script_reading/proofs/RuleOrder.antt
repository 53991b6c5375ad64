-- Which rules a reader tells, and that none of a script is told before another that is broken.
use Rattle.std.proofs.Common.{◌≡◌, ℕ, zero, suc, ◌+◌, ◌≤◌, List, [], ◌∷◌, ◌++◌, length, Bool, true, false, ◌&&◌, Option, None, Some, Result, Ok, Err, refl, sym, ap, subst, arith}
use Rattle.std.specs.Prelude.{codes, not, if◌then◌else◌, nat_le, ⊤, option_and_then}
use Rattle.std.specs.List.{list_any}
use Rattle.std.specs.Str.{bytes_eq}
use Rattle.std.proofs.lemmas.List.{length-append}
use Rattle.serde_json.specs.Data.{Data, Items, no_items, item}
use Rattle.serde_json.specs.Find.{get, as_bool, as_str, as_array, as_number, as_u64}
use Rattle.model_kinds.specs.declared.kind.Kind.{Kind}
use Rattle.script_reading.specs.declared.fault.Rule.{Rule}
use Rattle.script_reading.specs.declared.clients.RunStep.{RunStep}
use Rattle.script_reading.specs.declared.script.ScriptKey.{ScriptKey}
use Rattle.script_reading.specs.declared.clients.Clients.{Clients}
use Rattle.script_reading.specs.Fields.{rule, ◌>>=◌, guard, required, within, whole_of, flag_of, text_of, if_key_name, is_key_name, key_of, if_count, array_of, list_of, has_names, are_objects}
use Rattle.serde_json.specs.Events.{items_len}
use Rattle.script_reading.specs.Reading.{step_of, steps_after, kind_named, kind_of, key_decl, keys_after, if_objects, step_list_of, script_of}
use Rattle.script_reading.specs.Rules.{HoldBelow, IsFirstBroken}
use Rattle.script_reading.proofs.Openings.{with_steps, whole, script_with}

-- WHICH RULES ARE TOLD

-- nothing but one rule is told
abbrev Tells : {X : Type 0} → Rule → Result X Rule → Type 0
Tells r read = (e : Rule) → read ≡ Err e → e ≡ r

none : {X : Type 0} (r : Rule) (x : X) → Tells r (Ok x)
none r x e h = absurd (cc h)

that : {X : Type 0} (r : Rule) → Tells {X = X} r (Err r)
that r e h = let same : r ≡ e = cc h in sym same

joined : {A B : Type 0} (r : Rule) (x : Result A Rule) (f : A → Result B Rule) → Tells r x → ((a : A) → Tells r (f a)) → Tells r (x >>= f)
joined r (Ok a) f p q = q a
joined r (Err s) f p q = λ e h. p e (let same : s ≡ e = cc h in ap Err same)

if_holds : {X : Type 0} (r : Rule) (b : Bool) (x : X) → Tells r (if b then Ok x else Err r)
if_holds r true x = none r x
if_holds r false x = that r

of_required : {X : Type 0} (r : Rule) (x : Option X) → Tells r (required r x)
of_required r None = that r
of_required r (Some x) = none r x

of_guard : (r : Rule) (b : Bool) → Tells r (guard r b)
of_guard r true = none r tt
of_guard r false = that r

of_within : (r : Rule) (low high : ℕ) (x : Option ℕ) → Tells r (within r low high x)
of_within r low high None = that r
of_within r low high (Some n) = if_holds r (nat_le low n && nat_le n high) n

of_whole : (r : Rule) (low high : ℕ) (field : Option Data) → Tells r (whole_of r low high field)
of_whole r low high field = of_within r low high (option_and_then as_u64 (option_and_then as_number field))

of_flag : (r : Rule) (field : Option Data) → Tells r (flag_of r field)
of_flag r None = none r false
of_flag r (Some d) = of_required r (as_bool d)

of_text : (r : Rule) (field : Option Data) → Tells r (text_of r field)
of_text r field = of_required r (option_and_then as_str field)

of_key : (r : Rule) (field : Option Data) → Tells r (key_of r field)
of_key r field = joined r (text_of r field) (if_key_name r) (of_text r field) (λ text. if_holds r (is_key_name text) text)

of_list : (r : Rule) (low high : ℕ) (field : Option Data) → Tells r (list_of r low high field)
of_list r low high field = joined r (array_of r field) (if_count r low high) (of_required r (option_and_then as_array field)) (λ items. if_holds r (nat_le low (items_len items) && nat_le (items_len items) high) items)

-- THE KEYS

kind_tells : (field : Option Data) → Tells (rule 0 3) (kind_of field)
kind_tells field = joined (rule 0 3) (text_of (rule 0 3) field) (λ name. required (rule 0 3) (kind_named name)) (of_text (rule 0 3) field) (λ name. of_required (rule 0 3) (kind_named name))

module _ (before : List ScriptKey) (d : Data) where
  abbrev with_flag : List ℕ → Kind → Result ScriptKey Rule
  with_flag key kind = flag_of (rule 0 3) (get (codes "durable") d) >>= λ durable. Ok (record { key = key; kind = kind; durable = durable })

  abbrev with_kind : List ℕ → Result ScriptKey Rule
  with_kind key = kind_of (get (codes "kind") d) >>= with_flag key

  abbrev with_name : List ℕ → Result ScriptKey Rule
  with_name key = guard (rule 0 3) (not (list_any (λ (other : ScriptKey). bytes_eq other.key key) before)) >>= λ _. with_kind key

  decl_tells : Tells (rule 0 3) (key_decl before d)
  unfolding key_decl
  decl_tells =
      joined (rule 0 3) (guard (rule 0 3) (has_names (codes "key" ∷ codes "kind" ∷ []) (codes "durable" ∷ []) d)) (λ _. key_of (rule 0 3) (get (codes "key") d) >>= with_name)
      (of_guard (rule 0 3) (has_names (codes "key" ∷ codes "kind" ∷ []) (codes "durable" ∷ []) d))
      (λ _. joined (rule 0 3) (key_of (rule 0 3) (get (codes "key") d)) with_name (of_key (rule 0 3) (get (codes "key") d))
      (λ key. joined (rule 0 3) (guard (rule 0 3) (not (list_any (λ (other : ScriptKey). bytes_eq other.key key) before))) (λ _. with_kind key) (of_guard (rule 0 3) (not (list_any (λ (other : ScriptKey). bytes_eq other.key key) before)))
      (λ _. joined (rule 0 3) (kind_of (get (codes "kind") d)) (with_flag key) (kind_tells (get (codes "kind") d))
      (λ kind. joined (rule 0 3) (flag_of (rule 0 3) (get (codes "durable") d)) (λ durable. Ok (record { key = key; kind = kind; durable = durable })) (of_flag (rule 0 3) (get (codes "durable") d))
      (λ durable. none (rule 0 3) (record { key = key; kind = kind; durable = durable }))))))

keys_tell : (before : List ScriptKey) (items : Items) → Tells (rule 0 3) (keys_after before items)
unfolding keys_after
keys_tell before no_items = none (rule 0 3) before
keys_tell before (item d ds) = joined (rule 0 3) (key_decl before d) (λ key. keys_after (before ++ key ∷ []) ds) (decl_tells before d) (λ key. keys_tell (before ++ key ∷ []) ds)

-- THE STEPS

list_tells : (d : Data) → Tells (rule 0 4) (step_list_of d)
list_tells d = joined (rule 0 4) (list_of (rule 0 4) 0 4096 (get (codes "steps") d)) if_objects (of_list (rule 0 4) 0 4096 (get (codes "steps") d)) (λ items. if_holds (rule 0 4) (are_objects items) items)

-- what was told of two readers, one after the other
split : {A B : Type 0} (C : Type 0) (x : Result A Rule) (f : A → Result B Rule) (e : Rule) → (x >>= f) ≡ Err e → (x ≡ Err e → C) → ((a : A) → x ≡ Ok a → f a ≡ Err e → C) → C
split C (Ok a) f e h first second = second a refl h
split C (Err r) f e h first second = first (let same : r ≡ e = cc h in ap Err same)

-- the steps before the first that is broken are read
first_broken : (clients : Clients) (before : List RunStep) (items : Items) (e : Rule) → steps_after clients before items ≡ Err e → (k : ℕ) × IsFirstBroken clients (length before + 1) k e items
unfolding steps_after IsFirstBroken
first_broken clients before no_items e h = absurd (cc h)
first_broken clients before (item d ds) e h =
    split ((k : ℕ) × IsFirstBroken clients (length before + 1) k e (item d ds)) (step_of clients (length before + 1) d) (λ step. steps_after clients (before ++ step ∷ []) ds) e h
    (λ here. (zero, here))
    (λ step read later.
    let rest = first_broken clients (before ++ step ∷ []) ds e later in
    let longer : length (before ++ step ∷ []) + 1 ≡ suc (length before + 1) = let n = length-append before (step ∷ []) in omega (arith, n) in
    (suc rest.0, ((step, read), subst (λ n. IsFirstBroken clients n rest.0 e ds) longer rest.1)))

-- THE SCRIPT

-- what a script breaks first: one of its own rules, or one of a step, of which this is said
pub record IsLeast (SaysStep : Items → Rule → Type 0) (d : Data) (e : Rule) : Type 0 where
  pub whole : e.step ≡ 0 → HoldBelow e.number d
  pub holds : 1 ≤ e.step → HoldBelow 5 d
  pub step : 1 ≤ e.step → (items : Items) × (step_list_of d ≡ Ok items) × SaysStep items e

guard_holds : (r : Rule) (b : Bool) (u : ⊤) → guard r b ≡ Ok u → b ≡ true
guard_holds r true u h = refl
guard_holds r false u h = absurd (cc h)

module _ {S X : Type 0} (made : ℕ → List ScriptKey → List S → X) (read : Items → Result (List S) Rule) (SaysStep : Items → Rule → Type 0) (says : (items : Items) (e : Rule) → read items ≡ Err e → SaysStep items e) (d : Data) where
  own : (e : Rule) (n : ℕ) → e ≡ rule 0 n → HoldBelow n d → IsLeast SaysStep d e
  own e n same below =
      let zeroth : e.step ≡ 0 = ap (λ (r : Rule). r.step) same in
      record {
        whole = λ _. subst (λ m. HoldBelow m d) (sym (ap (λ (r : Rule). r.number) same)) below;
        holds = λ later. absurd (omega (arith, zeroth, later));
        step = λ later. absurd (omega (arith, zeroth, later));
      }

  abbrev names : Bool
  names = has_names (codes "keys" ∷ codes "members" ∷ codes "steps" ∷ []) [] d

  abbrev members : Result ℕ Rule
  members = whole_of (rule 0 2) 1 8 (get (codes "members") d)

  abbrev key_list : Result Items Rule
  key_list = list_of (rule 0 3) 1 16 (get (codes "keys") d)

  abbrev with_keys : ℕ → Items → Result X Rule
  with_keys n items = keys_after [] items >>= λ keys. with_steps made read d (n, keys)

  abbrev with_members : ℕ → Result X Rule
  with_members n = key_list >>= with_keys n

  least : (e : Rule) → whole made read d ≡ Err e → IsLeast SaysStep d e
  least e h =
      split (IsLeast SaysStep d e) (guard (rule 0 1) names) (λ _. members >>= with_members) e h
      (λ told. own e 1 (of_guard (rule 0 1) names e told) (record { names = λ l. absurd (omega (arith, l)); members = λ l. absurd (omega (arith, l)); keys = λ l. absurd (omega (arith, l)); steps = λ l. absurd (omega (arith, l)) }))
      (λ u named h. let named : names ≡ true = guard_holds (rule 0 1) names u named in
      split (IsLeast SaysStep d e) members with_members e h
      (λ told. own e 2 (of_whole (rule 0 2) 1 8 (get (codes "members") d) e told) (record { names = λ _. named; members = λ l. absurd (omega (arith, l)); keys = λ l. absurd (omega (arith, l)); steps = λ l. absurd (omega (arith, l)) }))
      (λ n counted h.
      split (IsLeast SaysStep d e) key_list (with_keys n) e h
      (λ told. own e 3 (of_list (rule 0 3) 1 16 (get (codes "keys") d) e told) (record { names = λ _. named; members = λ _. (n, counted); keys = λ l. absurd (omega (arith, l)); steps = λ l. absurd (omega (arith, l)) }))
      (λ items given h.
      split (IsLeast SaysStep d e) (keys_after [] items) (λ keys. with_steps made read d (n, keys)) e h
      (λ told. own e 3 (keys_tell [] items e told) (record { names = λ _. named; members = λ _. (n, counted); keys = λ l. absurd (omega (arith, l)); steps = λ l. absurd (omega (arith, l)) }))
      (λ keys declared h.
      split (IsLeast SaysStep d e) (step_list_of d) (λ steps. read steps >>= λ all. Ok (made n keys all)) e h
      (λ told. own e 4 (list_tells d e told) (record { names = λ _. named; members = λ _. (n, counted); keys = λ _. (items, given, (keys, declared)); steps = λ l. absurd (omega (arith, l)) }))
      (λ steps listed h.
      split (IsLeast SaysStep d e) (read steps) (λ all. Ok (made n keys all)) e h
      (λ told. record {
        whole = λ _. record { names = λ _. named; members = λ _. (n, counted); keys = λ _. (items, given, (keys, declared)); steps = λ _. (steps, listed) };
        holds = λ _. record { names = λ _. named; members = λ _. (n, counted); keys = λ _. (items, given, (keys, declared)); steps = λ _. (steps, listed) };
        step = λ _. (steps, listed, says steps e told);
      })
      (λ all read h. absurd (cc h)))))))

abbrev pub SaysFirst : Clients → Items → Rule → Type 0
SaysFirst clients items e = (k : ℕ) × IsFirstBroken clients 1 k e items

pub least_of : (clients : Clients) (d : Data) (e : Rule) → script_of clients d ≡ Err e → IsLeast (SaysFirst clients) d e
unfolding script_of
least_of clients d e h = least script_with (steps_after clients []) (SaysFirst clients) (first_broken clients []) d e h
