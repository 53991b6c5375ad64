-- The names of an object.
use Rattle.std.proofs.Common.{◌≡◌, ℕ, ◌+◌, List, [], ◌∷◌, ◌++◌, Bool, ◌==◌, ◌&&◌, cond, length, map, Bor, Option, Some, None, is_some, Ok, true, false, codes, if◌then◌else◌, refl, ap, sym, ◌∙◌}
use Rattle.std.specs.List.{list_all, count_by}
use Rattle.std.proofs.Math.Nat.{add_assoc, add_comm, zero-add}
use Rattle.std.proofs.lemmas.List.{length-map, length-append}
use Rattle.std.proofs.lemmas.List.Sums.{sum_by-cons, sum_by-append}
use Rattle.std.proofs.lemmas.List.Folds.{list_all-map, list_all-append}
use Rattle.serde_json.specs.Data.{Data}
use Rattle.serde_json.specs.Find.{as_object}
use Rattle.script_reading.specs.declared.fault.Rule.{Rule}
use Rattle.script_reading.specs.Fields.{rule, guard, is_given, has_names, given_names, names_of, name_count, text_of}

count_by-map : {X Y : Type 0} (p : X → Bool) (h : Y → X) (ys : List Y) → count_by p (map h ys) ≡ count_by (λ y. p (h y)) ys
count_by-map p h [] = refl
count_by-map p h (y ∷ ys) =
    sum_by-cons (λ x. cond (p x) 1 0) (h y) (map h ys) ∙ ap (λ rest. cond (p (h y)) 1 0 + rest) (count_by-map p h ys) ∙ sym (sum_by-cons (λ z. cond (p (h z)) 1 0) y ys)

abbrev pub has_lent_names : Data → List (Bor (List ℕ)) → List (Bor (List ℕ)) → Bool
has_lent_names d names optional =
    (name_count (as_object d) == length names + count_by (λ name. is_given d name.now) optional) && list_all (λ name. is_given d name.now) names

pub lent_names : (d : Data) (names optional : List (Bor (List ℕ))) → has_lent_names d names optional ≡ has_names (map (λ name. name.now) names) (map (λ name. name.now) optional) d
lent_names d names optional = simp (list_all-map, count_by-map, length-map) refl

count_by-append : {X : Type 0} (p : X → Bool) (xs ys : List X) → count_by p (xs ++ ys) ≡ count_by p xs + count_by p ys
count_by-append p xs ys = sum_by-append (λ x. cond (p x) 1 0) xs ys

abbrev pub has_more_names : Data → List (Bor (List ℕ)) → List (Bor (List ℕ)) → List (Bor (List ℕ)) → Bool
has_more_names d names optional more =
    (name_count (as_object d) == length names + (count_by (λ name. is_given d name.now) optional + count_by (λ name. is_given d name.now) more)) && list_all (λ name. is_given d name.now) names

pub more_names : (d : Data) (names optional more : List (Bor (List ℕ))) → has_more_names d names optional more ≡ has_names (map (λ name. name.now) names) (map (λ name. name.now) optional ++ map (λ name. name.now) more) d
more_names d names optional more = simp (list_all-map, count_by-append, count_by-map, length-map) refl

-- ---- names of which some were looked up

-- where a text is read, something is given
pub given_if_read : (r : Rule) (field : Option Data) (name : List ℕ) → text_of r field ≡ Ok name → is_some field ≡ true
given_if_read r None name read = absurd (cc read)
given_if_read r (Some d) name read = refl

-- an optional name is among those that are counted
count_by-optional : (d : Data) (name : List ℕ) (more : List (List ℕ)) → count_by (is_given d) (name ∷ more) ≡ cond (is_given d name) 1 0 + count_by (is_given d) more
count_by-optional d name more = sum_by-cons (λ x. cond (is_given d x) 1 0) name more

with_optional : (rest : ℕ) (given : Bool) → (if given then 4 else 3) + rest ≡ 3 + (cond given 1 0 + rest)
with_optional rest true = add_assoc 3 1 rest
with_optional rest false = add_assoc 3 0 rest

both_given : (at key : Bool) → (at && key) ≡ (at && (true && (key && true)))
both_given true true = refl
both_given true false = refl
both_given false key = refl

in_get : (r : Rule) (n rest : ℕ) (at key level : Bool)
    → guard r ((n == (if level then 4 else 3) + rest) && (at && key)) ≡ guard r ((n == 3 + (cond level 1 0 + rest)) && (at && (true && (key && true))))
in_get r n rest at key level =
    ap (λ c. guard r ((n == c) && (at && key))) (with_optional rest level) ∙ ap (λ b. guard r ((n == 3 + (cond level 1 0 + rest)) && b)) (both_given at key)

pub get_names : (step : ℕ) (d : Data) (more : List (List ℕ)) → is_given d (codes "do") ≡ true
    → given_names step (is_given d (codes "at") && is_given d (codes "key")) (if is_given d (codes "level") then 4 else 3) more d ≡ names_of step (codes "at" ∷ codes "do" ∷ codes "key" ∷ []) (codes "level" ∷ more) d
get_names step d more given =
    in_get (rule step 6) (name_count (as_object d)) (count_by (is_given d) more) (is_given d (codes "at")) (is_given d (codes "key")) (is_given d (codes "level"))
    ∙ ap (λ c. guard (rule step 6) ((name_count (as_object d) == 3 + c) && (is_given d (codes "at") && (true && (is_given d (codes "key") && true))))) (sym (count_by-optional d (codes "level") more))
    ∙ ap (λ b. guard (rule step 6) ((name_count (as_object d) == 3 + count_by (is_given d) (codes "level" ∷ more)) && (is_given d (codes "at") && (b && (is_given d (codes "key") && true))))) (sym given)

in_flush : (r : Rule) (n rest : ℕ) (at : Bool) → guard r ((n == 2 + rest) && at) ≡ guard r ((n == 2 + rest) && (at && (true && true)))
in_flush r n rest true = refl
in_flush r n rest false = refl

pub flush_names : (step : ℕ) (d : Data) (more : List (List ℕ)) → is_given d (codes "do") ≡ true
    → given_names step (is_given d (codes "at")) 2 more d ≡ names_of step (codes "at" ∷ codes "do" ∷ []) more d
flush_names step d more given =
    in_flush (rule step 6) (name_count (as_object d)) (count_by (is_given d) more) (is_given d (codes "at"))
    ∙ ap (λ b. guard (rule step 6) ((name_count (as_object d) == 2 + count_by (is_given d) more) && (is_given d (codes "at") && (b && true)))) (sym given)

-- the names of every update
abbrev of_updates : List (List ℕ)
of_updates = codes "at" ∷ codes "do" ∷ codes "key" ∷ codes "op" ∷ []

in_update : (own rest : ℕ) (level : Bool) → (if level then 5 else 4) + own + rest ≡ 4 + own + (cond level 1 0 + rest)
in_update own rest true = ap (λ n. n + rest) (add_comm 5 own ∙ sym (add_assoc own 4 1) ∙ ap (λ n. n + 1) (add_comm own 4)) ∙ add_assoc (4 + own) 1 rest
in_update own rest false = ap (λ n. 4 + own + n) (sym (zero-add rest))

pub update_names_given : (step : ℕ) (d : Data) (own more : List (List ℕ))
    → given_names step (list_all (is_given d) of_updates && list_all (is_given d) own) ((if is_given d (codes "level") then 5 else 4) + length own) more d ≡ names_of step (of_updates ++ own) (codes "level" ∷ more) d
update_names_given step d own more =
    ap (λ b. guard (rule step 6) ((name_count (as_object d) == (if is_given d (codes "level") then 5 else 4) + length own + count_by (is_given d) more) && b)) (sym (list_all-append (is_given d) of_updates own))
    ∙ ap (λ c. guard (rule step 6) ((name_count (as_object d) == c) && list_all (is_given d) (of_updates ++ own))) (in_update (length own) (count_by (is_given d) more) (is_given d (codes "level")))
    ∙ ap (λ c. guard (rule step 6) ((name_count (as_object d) == 4 + length own + c) && list_all (is_given d) (of_updates ++ own))) (sym (count_by-optional d (codes "level") more))
    ∙ ap (λ c. guard (rule step 6) ((name_count (as_object d) == c + count_by (is_given d) (codes "level" ∷ more)) && list_all (is_given d) (of_updates ++ own))) (sym (length-append of_updates own))
