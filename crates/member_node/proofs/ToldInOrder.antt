-- Digests that are looked through in the order of the keys: the one of an earlier key is of no later key.
--     is_of        whether a digest is of a key
--     find_after        what is told of another key, once that of this one was passed
--     names_apart        keys at two places have two names
--     compared_alike        where the same is found of a key, it stands alike to both
use Rattle.std.proofs.Common.{◌≡◌, ◌≢◌, ℕ, ◌<◌, List, [], ◌∷◌, Bool, true, false, cond, if◌then◌else◌, Option, None, Some, find, option_map, map, slice_get, bytes_eq, is_some, not, ◌&&◌, ◌||◌, refl, sym, ap, ◌∙◌, arith}
use Rattle.member_node.proofs.Common.{Text, Replication, Shown, Keyed, KeyState, AreDistinctKeys, digest_told, bytes_eq-tells, has_records}
use Rattle.member_node.specs.Gossip.{after_told, IsComparison}
use Rattle.member_node.specs.declared.gossip.Comparison.{Comparison}
use Rattle.std.proofs.lemmas.Option.{slice_get-map}
use Rattle.model_members.specs.Node as nodes
use Rattle.model_members.specs.Step.{named_digest, is_digest, digest_of}
use Rattle.member_node.proofs.Standing.{apart}
use Rattle.member_node.proofs.Sendings.{told_named}

abbrev pub is_of : Text → Keyed (List ℕ) → Bool
is_of key told = bytes_eq told.key key

pub find_after : (key other : Text) → key ≢ other → (digests : List (Keyed (List ℕ))) → find (is_of other) (after_told key digests) ≡ find (is_of other) digests
find_after key other differ [] = refl
find_after key other differ (told ∷ digests) = go (bytes_eq told.key key) refl
  where
    go : (b : Bool) → bytes_eq told.key key ≡ b → find (is_of other) (if b then digests else told ∷ digests) ≡ find (is_of other) (told ∷ digests)
    go false e = refl
    go true e = sym (ap (λ b. cond b (Some told) (find (is_of other) digests)) (apart told.key other (λ same. differ (sym (bytes_eq-tells told.key key e) ∙ same))))

module _ {T Kind Op Delta : Type 0} where
  pub names_apart : (keys : List (KeyState T Kind Op Delta)) → AreDistinctKeys keys → (i k : ℕ) (state other : KeyState T Kind Op Delta) → slice_get keys i ≡ Some state → slice_get keys k ≡ Some other → i < k → state.name ≢ other.name
  names_apart keys distinct i k state other here there before same =
      let one = distinct i k state.name (name_at keys i state here) (name_at keys k other there ∙ ap Some (sym same)) in
      omega (arith, before, one)
    where
      name_at : (keys : List (KeyState T Kind Op Delta)) (i : ℕ) (state : KeyState T Kind Op Delta) → slice_get keys i ≡ Some state → slice_get (map (λ (s : KeyState T Kind Op Delta). s.name) keys) i ≡ Some state.name
      name_at keys i state e = slice_get-map (λ (s : KeyState T Kind Op Delta). s.name) keys i ∙ ap (option_map (λ (s : KeyState T Kind Op Delta). s.name)) e

-- where the same is found of a key, the same is told of it
named_alike : {Kind Op : Type 0} (D : Replication Kind Op Shown) (rest digests : List (Keyed (List ℕ))) (key : Text) → find (is_of key) digests ≡ find (is_of key) rest → named_digest D (map digest_told rest) key ≡ named_digest D (map digest_told digests) key
named_alike D rest digests key same = sym (told_named D rest key) ∙ ap (option_map (λ (told : Keyed (List ℕ)). told.item)) (sym same) ∙ told_named D digests key

pub compared_alike : {Kind Op : Type 0} (D : Replication Kind Op Shown) (rest digests : List (Keyed (List ℕ))) (k : nodes.KeyState Kind Op) (comparison : Comparison) → find (is_of k.name) digests ≡ find (is_of k.name) rest
    → IsComparison D (map digest_told rest) k comparison → IsComparison D (map digest_told digests) k comparison
compared_alike D rest digests k comparison same is =
    let named = named_alike D rest digests k.name same in
    record {
      news = is.news ∙ ap (λ (told : Option (List ℕ)). has_records k.entry && not (is_digest D told (digest_of D k))) named;
      wanted = is.wanted ∙ ap (λ (told : Option (List ℕ)). is_some told && (not (has_records k.entry) || not (is_digest D told (digest_of D k)))) named;
    }
