-- A new member with all keys, whose store has nothing of some durable ones, is a new member with the others.
use Rattle.std.proofs.Common.{◌≡◌, ℕ, List, refl, sym, ap, ◌∙◌, false, Option, Some, None, inl, inr, find, unwrap_or}
use Rattle.std.proofs.lemmas.Bool.{cases_Bool}
use Rattle.model_history.specs.Texts.{Text}
use Rattle.model_members.specs.Entry.{Entry, empty_entry, seen_by}
use Rattle.model_members.specs.Node.{KeyDecl}
use Rattle.model_members.specs.View.{View}
use Rattle.model_members.specs.World.{Store, loaded_entry, loaded_node}
use Rattle.base_bytes.proofs.TextLaws.{eq_texts}
use Rattle.theorem_declaring.specs.Parts.{knows, with_keys, IsPart, UsesOnly, StoresNoOthers}
use Rattle.theorem_declaring.proofs.Lists.{found}
use Rattle.theorem_declaring.proofs.Keys.{is_named, find_known, find_unknown}

module _ {Kind Op : Type 0} (part all : List (KeyDecl Kind)) (i : ℕ) (view : View) (store : Store Op) (is_part : IsPart part all) (no_others : StoresNoOthers part all store) where
  -- of another key nothing is loaded
  nothing_loaded : (name : Text) → knows part name ≡ false → (o : Option (KeyDecl Kind)) → find (is_named part name) all ≡ o → loaded_entry i view store o ≡ empty_entry
  nothing_loaded name unknown None is = refl
  nothing_loaded name unknown (Some decl) is = elim (cases_Bool decl.durable) [
    | inl durable ↦
        let none : store decl.name ≡ None = ap store (eq_texts decl.name name (found (is_named part name) all decl is)) ∙ no_others name decl unknown is durable in
        rw durable (ap (λ (o : Option (Entry Op)). seen_by i view.number (unwrap_or o empty_entry)) none)
    | inr passing ↦ rw passing refl
  ]

  loaded_alike : (name : Text) → loaded_entry i view store (find (is_named part name) all) ≡ loaded_entry i view store (find (is_named part name) part)
  loaded_alike name = elim (cases_Bool (knows part name)) [
    | inl known ↦ ap (loaded_entry i view store) (sym (find_known part all is_part name known))
    | inr unknown ↦ nothing_loaded name unknown (find (is_named part name) all) refl ∙ sym (ap (loaded_entry i view store) (find_unknown part name unknown))
  ]

module _ {Kind Op Shown : Type 0} (part all : List (KeyDecl Kind)) (i : ℕ) (view : View) (store : Store Op) (is_part : IsPart part all) (no_others : StoresNoOthers part all store) where
  pub new_uses : UsesOnly {Shown = Shown} part (loaded_node all i view store)
  new_uses = record { is_part = is_part; no_others = λ key unknown. (nothing_loaded part all i view store is_part no_others key unknown (find (is_named part key) all) refl, (λ peer. refl)) }

  pub new_alike : with_keys {Shown = Shown} part (loaded_node all i view store) ≡ loaded_node part i view store
  new_alike = λ j. record (loaded_node {Shown = Shown} part i view store) { entries = λ name. loaded_alike part all i view store is_part no_others name j }
