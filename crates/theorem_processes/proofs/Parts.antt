-- What members have of the keys of a catalogue.
--     kinds_of_part        a part of the keys has the kinds of the catalogue
--     no_state        no key of a member has a name that it does not know
--     stores_no_others        a store whose spellings a member has loaded has nothing of other keys
use Rattle.std.proofs.Common.{◌≡◌, ◌≢◌, ℕ, ◌<◌, List, sym, ap, subst, ◌∙◌, true, Option, Some, None, map, bytes_eq, refl}
use Rattle.std.specs.Prelude.{All, IsFalse}
use Rattle.std.proofs.lemmas.List.{get_or-map, length-map}
use Rattle.std.proofs.lemmas.List.Elements.{All-filter, All-map}
use Rattle.std.proofs.lemmas.List.Folds.{list_any_at}
use Rattle.model_history.specs.Texts.{Text}
use Rattle.model_history.specs.History.{History}
use Rattle.model_members.specs.Entry.{Entry}
use Rattle.model_members.specs.Node as nodes
use Rattle.model_members.specs.World.{Store}
use Rattle.model_members.proofs.Steps.{bytes_eq-same}
use Rattle.model_kinds.specs.declared.operation.Op.{Op}
use Rattle.data_lattice.specs.declared.replica.Replica.{Ghosts}
use Rattle.data_lattice.specs.declared.spelled.SpelledData.{Ghosts as Spelling}
use Rattle.member_keeper.specs.Tables.{Table}
use Rattle.member_keeper.specs.declared.stored.Stored.{Stored}
use Rattle.member_node.specs.declared.key.KeyDecl.{KeyDecl}
use Rattle.member_node.specs.declared.key.KeyState.{KeyState}
use Rattle.member_node.specs.Keys.{AreOfKinds, declared, declared_by}
use Rattle.member_node.specs.Loading.{AreSound}
use Rattle.member_node.specs.Stores.{SpellsStore}
use Rattle.theorem_declaring.specs.Parts.{knows, StoresNoOthers}
use Rattle.theorem_processes.specs.Declaring.{ArePart}

module _ {T Kind Delta : Type 0} where
  pub kinds_of_part : (kinds : Text → Kind) (own decls : List (KeyDecl T Kind Op Delta)) → ArePart own decls → AreOfKinds kinds decls → AreOfKinds kinds own
  kinds_of_part kinds own decls part of_kinds =
      let IsOfKind : nodes.KeyDecl Kind → Type 0 = λ decl. kinds decl.name ≡ decl.kind in
      let all : All IsOfKind (map declared own) =
      subst (All IsOfKind) (sym part) (All-filter (λ (decl : nodes.KeyDecl Kind). knows (map declared own) decl.name) IsOfKind (map declared decls) (All-map IsOfKind declared decls of_kinds)) in
      λ k d within. subst IsOfKind (get_or-map declared own k d (declared d) within) (all k (declared d) (subst (λ n. k < n) (sym (length-map own declared)) within))

  pub no_state : (states : List (KeyState T Kind Op Delta)) (key : Text) → IsFalse (knows (map declared_by states) key) → All (λ state. state.name ≢ key) states
  no_state states key unknown k d within named =
      let there : knows (map declared_by states) key ≡ true =
      list_any_at (λ (decl : nodes.KeyDecl Kind). bytes_eq decl.name key) (map declared_by states) k (declared_by d) (subst (λ n. k < n) (sym (length-map states declared_by)) within)
      (ap (λ (decl : nodes.KeyDecl Kind). bytes_eq decl.name key) (get_or-map declared_by states k d (declared_by d) within) ∙ ap (λ (name : Text). bytes_eq name key) named ∙ bytes_eq-same key) in
      absurd (let both = sym there ∙ unknown in cc both)

module _ {T Kind Delta : Type 0} (ghosts : Ghosts T Kind Op Delta) (spelling : Spelling T Kind Op Delta) (kinds : Text → Kind) (logs : Text → History Op) (states : List (KeyState T Kind Op Delta)) (id given : ℕ) where
  -- what stands in the table is of a known key
  known_there : (table : Table) (key : Text) → AreSound ghosts spelling states id given table → IsFalse (knows (map declared_by states) key) → All (λ (stored : Stored). stored.key ≢ key) table
  known_there table key sound unknown k d within named =
      let durable = (sound k d within).durable in
      let state = durable.1 in
      no_state states key unknown durable.0 state durable.2 (ap (λ (s : KeyState T Kind Op Delta). s.name) durable.3 ∙ durable.4.0 ∙ named)

  pub stores_no_others : (own all : List (nodes.KeyDecl Kind)) (table : Table) (store : Store Op) → map declared_by states ≡ own → AreSound ghosts spelling states id given table → SpellsStore ghosts spelling kinds logs table store
      → StoresNoOthers own all store
  stores_no_others own all table store same sound spells name decl unknown named durable = by (store name) refl
    where
      by : (o : Option (Entry Op)) → store name ≡ o → o ≡ None
      by None e = refl
      by (Some entry) e =
          let there = spells.all name entry e in
          absurd (known_there table name sound (subst (λ (keys : List (nodes.KeyDecl Kind)). IsFalse (knows keys name)) (sym same) unknown) there.0 there.1 there.2 (ap (λ (stored : Stored). stored.key) there.3 ∙ there.4))
