-- Keys as they are declared, and what members that have them hold.
use Rattle.std.proofs.Common.{◌≡◌, ℕ, ◌<◌, List, length, get_or, sym, ap, ◌∙◌, subst, map, All, arith}
use Rattle.std.proofs.lemmas.List.{get_or-map, length-map, get_or_default}
use Rattle.std.proofs.lemmas.List.Elements.{All-map}
use Rattle.model_members.specs.Node as nodes
use Rattle.model_members.specs.World.{Store, loaded_node}
use Rattle.member_keeper.specs.Tables.{Table}
use Rattle.member_keeper.specs.declared.stored.Stored.{Stored}
use Rattle.data_lattice.specs.declared.spelled.SpelledData.{Ghosts as Spelling}
use Rattle.member_node.proofs.Common.{Text, History, VersionVector, IdentitySet, View, Shown, Ghosts, Keeping, KeyState, Node, declared_by, AreSound, StandsForNode}
use Rattle.member_node.specs.declared.key.KeyDecl.{KeyDecl}
use Rattle.member_node.specs.Keys.{AreOfKinds, HaveKinds, declared}
use Rattle.member_node.specs.Loading.{IsSoundAt}
use Rattle.member_node.proofs.Restorings.{same_length, same_declared}

module _ {T Kind Op Delta : Type 0} where
  -- keys have the kinds with which they are declared
  pub have_kinds : (kinds : Text → Kind) (keys : List (KeyState T Kind Op Delta)) (decls : List (KeyDecl T Kind Op Delta)) → map declared_by keys ≡ map declared decls → AreOfKinds kinds decls → HaveKinds kinds keys
  have_kinds kinds keys decls same of_kinds k d within =
      let all : All (λ (decl : nodes.KeyDecl Kind). kinds decl.name ≡ decl.kind) (map declared_by keys) =
      subst (All (λ (decl : nodes.KeyDecl Kind). kinds decl.name ≡ decl.kind)) (sym same) (All-map (λ (decl : nodes.KeyDecl Kind). kinds decl.name ≡ decl.kind) declared decls of_kinds) in
      let few : k < length (map declared_by keys) = subst (λ (n : ℕ). k < n) (sym (length-map keys declared_by)) within in
      subst (λ (decl : nodes.KeyDecl Kind). kinds decl.name ≡ decl.kind) (get_or-map declared_by keys k d (declared_by d) within) (all k (declared_by d) few)

  module _ (ghosts : Ghosts T Kind Op Delta) (spelling : Spelling T Kind Op Delta) (keys others : List (KeyState T Kind Op Delta)) (same : map declared_by keys ≡ map declared_by others) (id given : ℕ) where
    sound_at : (stored : Stored) → IsSoundAt ghosts spelling keys id given stored → IsSoundAt ghosts spelling others id given stored
    sound_at stored sound =
        let some = sound.durable in
        let k = some.0 in
        let other = get_or others k some.1 in
        let few : k < length others = (let l = same_length keys others same in let w = some.2 in omega arith) in
        let alike : declared_by some.1 ≡ declared_by other = ap declared_by (sym some.3) ∙ same_declared keys others same k some.1 some.1 some.2 in
        record {
          parts = sound.parts;
          durable = (
            k,
            other,
            few,
            get_or_default others k other some.1 few,
            (ap (λ (decl : nodes.KeyDecl Kind). decl.name) (sym alike) ∙ some.4.0, ap (λ (decl : nodes.KeyDecl Kind). decl.durable) (sym alike) ∙ some.4.1, ap (λ (decl : nodes.KeyDecl Kind). decl.kind) (sym alike) ∙ some.4.2),
          );
          envelope = sound.envelope;
          spelled = sound.spelled;
          names = sound.names;
        }

    -- what is sound for keys is sound for others that are declared so
    pub sound_alike : (table : Table) → AreSound ghosts spelling keys id given table → AreSound ghosts spelling others id given table
    sound_alike table sound k d within = sound_at (get_or table k d) (sound k d within)

module _ {T K Kind Op Delta : Type 0} {ghosts : Ghosts T Kind Op Delta} {keeping : Keeping K} (kind_of : T → Kind) (IsDataOf : T → History Op → VersionVector → IdentitySet → Type 0) (kinds : Text → Kind) (logs : Text → History Op) where
  -- a member that stands for one of these keys stands for one of the keys as they were declared
  pub declared_keys : (code : Node T K Kind Op Delta ghosts keeping) (id : ℕ) (view : View) (store : Store Op) (keys : List (KeyState T Kind Op Delta)) (decls : List (KeyDecl T Kind Op Delta)) → map declared_by keys ≡ map declared decls
      → StandsForNode kind_of IsDataOf kinds logs code (loaded_node (map declared_by keys) id view store) → StandsForNode kind_of IsDataOf kinds logs code (loaded_node (map declared decls) id view store)
  declared_keys code id view store keys decls same = subst (λ (all : List (nodes.KeyDecl Kind)). StandsForNode kind_of IsDataOf kinds logs code (loaded_node all id view store)) same
