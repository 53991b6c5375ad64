-- Lists of objects, and of keys with distinct names.
use Rattle.std.proofs.Common.{◌≡◌, ◌≢◌, List, [], ◌∷◌, ◌++◌, get_or, false, ◌&&◌, is_some, AllPairs, refl, sym, ap, ◌∙◌, true≢false}
use Rattle.std.specs.List.{list_all, list_any}
use Rattle.std.specs.Str.{bytes_eq}
use Rattle.std.proofs.lemmas.List.Folds.{list_any_at}
use Rattle.std.proofs.lemmas.List.Quantifiers.{all_pairs_push}
use Rattle.std.proofs.lemmas.Slice.Eq.{bytes_eq-Decides}
use Rattle.serde_json.specs.Find.{as_object}
use Rattle.serde_json.specs.View.{view, items_view}
use Rattle.serde_json.specs.declared.value.Value.{Value}
use Rattle.script_reading.specs.declared.script.ScriptKey.{ScriptKey}
use Rattle.script_reading.specs.Fields.{are_objects}

pub are_objects_items_view : (vs : List Value) → list_all (λ v. is_some (as_object (view v))) vs ≡ are_objects (items_view vs)
are_objects_items_view [] = refl
are_objects_items_view (v ∷ vs) = ap (λ rest. is_some (as_object (view v)) && rest) (are_objects_items_view vs)

-- keys with distinct names, and one more whose name is not among theirs
pub new_name : (keys : List ScriptKey) (key : ScriptKey) → AllPairs (λ a b. a.key ≢ b.key) keys → list_any (λ other. bytes_eq other.key key.key) keys ≡ false
    → AllPairs (λ a b. a.key ≢ b.key) (keys ++ key ∷ [])
new_name keys key distinct new =
    all_pairs_push (λ a b. a.key ≢ b.key) keys key distinct (λ i d within same.
    true≢false (sym (list_any_at (λ other. bytes_eq other.key key.key) keys i d within ((bytes_eq-Decides (get_or keys i d).key key.key).1 same)) ∙ new))
