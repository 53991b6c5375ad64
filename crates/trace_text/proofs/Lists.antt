-- Keys with distinct names.
use Rattle.std.proofs.Common.{◌≡◌, ◌≢◌, List, [], ◌∷◌, ◌++◌, length, get_or, true, false, AllPairs, sym, ap, ◌∙◌, arith, true≢false}
use Rattle.std.specs.List.{list_any}
use Rattle.std.proofs.Math.ListN.{get_or-append}
use Rattle.std.proofs.Math.Seq.{get_or-append_seam}
use Rattle.std.proofs.lemmas.List.{length-append}
use Rattle.std.proofs.lemmas.List.Elements.{All-from_get_or}
use Rattle.std.specs.Str.{bytes_eq}
use Rattle.std.proofs.lemmas.Bool.{false_from_ne_true}
use Rattle.std.proofs.lemmas.List.Folds.{list_any_at, list_any_none}
use Rattle.std.proofs.lemmas.List.Quantifiers.{all_pairs_push}
use Rattle.std.proofs.lemmas.Slice.Eq.{bytes_eq-Decides}
use Rattle.script_reading.specs.declared.script.ScriptKey.{ScriptKey}

-- keys with distinct names, and one more whose name is not among theirs
pub new_name : (keys : List ScriptKey) (key : ScriptKey) → AllPairs (λ a b. a.key ≢ b.key) keys → list_any (λ other. bytes_eq other.key key.key) keys ≡ false
    → AllPairs (λ a b. a.key ≢ b.key) (keys ++ key ∷ [])
new_name keys key distinct new =
    all_pairs_push (λ a b. a.key ≢ b.key) keys key distinct (λ i d within same.
    true≢false (sym (list_any_at (λ other. bytes_eq other.key key.key) keys i d within ((bytes_eq-Decides (get_or keys i d).key key.key).1 same)) ∙ new))

-- of keys with distinct names, none before one of them has its name
pub names_before : (before : List ScriptKey) (key : ScriptKey) (later : List ScriptKey) → AllPairs (λ a b. a.key ≢ b.key) (before ++ key ∷ later)
    → list_any (λ other. bytes_eq other.key key.key) before ≡ false
names_before before key later distinct =
    list_any_none (λ other. bytes_eq other.key key.key) before
    (All-from_get_or (λ other. bytes_eq other.key key.key ≡ false) before key (λ i within.
    let here : get_or (before ++ key ∷ later) i key ≡ get_or before i key = get_or-append before (key ∷ later) key i within in
    let there : get_or (before ++ key ∷ later) (length before) key ≡ key = get_or-append_seam before key later key in
    let same = λ (e : bytes_eq (get_or before i key).key key.key ≡ true). ap (λ (k : ScriptKey). k.key) here ∙ (bytes_eq-Decides (get_or before i key).key key.key).0 e ∙ sym (ap (λ (k : ScriptKey). k.key) there) in
    false_from_ne_true _ (λ e. distinct i (length before) key within (omega (arith, length-append before (key ∷ later))) (same e))))
