-- The names of an object, as a list of lent texts.
use Rattle.std.proofs.Common.{◌≡◌, ℕ, ◌+◌, List, [], ◌∷◌, Bool, ◌==◌, ◌&&◌, cond, length, map, Bor, refl, ap, sym, ◌∙◌}
use Rattle.std.specs.List.{list_all, count_by}
use Rattle.std.proofs.lemmas.List.{length-map}
use Rattle.std.proofs.lemmas.List.Sums.{sum_by-cons}
use Rattle.std.proofs.lemmas.List.Folds.{list_all-map}
use Rattle.serde_json.specs.Data.{Data}
use Rattle.serde_json.specs.Find.{as_object}
use Rattle.script_reading.specs.Fields.{is_given, has_names, name_count}

count_by-map : {X Y : Type 0} (p : X → Bool) (h : Y → X) (ys : List Y) → count_by p (map h ys) ≡ count_by (λ y. p (h y)) ys
count_by-map p h [] = refl
count_by-map p h (y ∷ ys) =
    sum_by-cons (λ x. cond (p x) 1 0) (h y) (map h ys) ∙ ap (λ rest. cond (p (h y)) 1 0 + rest) (count_by-map p h ys) ∙ sym (sum_by-cons (λ z. cond (p (h z)) 1 0) y ys)

abbrev pub has_lent_names : Data → List (Bor (List ℕ)) → List (Bor (List ℕ)) → Bool
has_lent_names d names optional =
    (name_count (as_object d) == length names + count_by (λ name. is_given d name.now) optional) && list_all (λ name. is_given d name.now) names

pub lent_names : (d : Data) (names optional : List (Bor (List ℕ))) → has_lent_names d names optional ≡ has_names (map (λ name. name.now) names) (map (λ name. name.now) optional) d
lent_names d names optional = simp (list_all-map, count_by-map, length-map) refl
