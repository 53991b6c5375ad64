-- What a member with a part of the keys finds of a key, and among all.
use Rattle.std.proofs.Common.{◌≡◌, List, refl, sym, ap, ◌∙◌, Bool, true, false, Option, Some, None, find, if◌then◌else◌, option_map}
use Rattle.std.specs.Str.{bytes_eq}
use Rattle.std.proofs.lemmas.Bool.{false_from_ne_true}
use Rattle.model_history.specs.Texts.{Text}
use Rattle.model_members.specs.Entry.{Entry, empty_entry}
use Rattle.model_members.specs.Node.{KeyDecl, KeyState, Node, key_state, state_of, with_entry}
use Rattle.base_bytes.proofs.TextLaws.{eq_texts}
use Rattle.theorem_declaring.specs.Parts.{knows, with_keys, IsPart, UsesOnly}
use Rattle.theorem_declaring.proofs.Lists.{find_none, found, find_part}

pub both : {b : Bool} {X : Type 0} → b ≡ true → b ≡ false → X
both holds fails = absurd (let e = sym holds ∙ fails in cc e)

module _ {Kind : Type 0} (part : List (KeyDecl Kind)) where
  -- whether a key is declared
  abbrev pub is_known : KeyDecl Kind → Bool
  is_known decl = knows part decl.name

  abbrev pub is_named : Text → KeyDecl Kind → Bool
  is_named name decl = bytes_eq decl.name name

  -- what was left out has none of the known names
  pub left_out : (name : Text) → knows part name ≡ true → (decl : KeyDecl Kind) → is_known decl ≡ false → is_named name decl ≡ false
  left_out name known decl out = false_from_ne_true (is_named name decl) (λ e. both (ap (knows part) (eq_texts decl.name name e) ∙ known) out)

  pub find_known : (all : List (KeyDecl Kind)) → IsPart part all → (name : Text) → knows part name ≡ true → find (is_named name) part ≡ find (is_named name) all
  find_known all is_part name known = ap (find (is_named name)) is_part ∙ find_part is_known (is_named name) (left_out name known) all

  pub find_unknown : (name : Text) → knows part name ≡ false → find (is_named name) part ≡ None
  find_unknown name unknown = find_none (is_named name) part unknown

module _ {Kind Op Shown : Type 0} (part : List (KeyDecl Kind)) (node : Node Kind Op Shown) where
  pub state_known : IsPart part node.keys → (key : Text) → knows part key ≡ true → key_state (with_keys part node) key ≡ key_state node key
  state_known is_part key known = ap (option_map (state_of node)) (find_known part node.keys is_part key known)

  pub state_unknown : (key : Text) → knows part key ≡ false → key_state (with_keys part node) key ≡ None
  state_unknown key unknown = ap (option_map (state_of node)) (find_unknown part key unknown)

-- the state that is found of a key has its name and its entry
pub found_state : {Kind Op Shown : Type 0} (node : Node Kind Op Shown) (key : Text) (k : KeyState Kind Op) → key_state node key ≡ Some k → (k.name ≡ key) × (k.entry ≡ node.entries key)
found_state {Kind} {Op} node key k is = go (find (λ (decl : KeyDecl Kind). bytes_eq decl.name key) node.keys) refl is
  where
    go : (o : Option (KeyDecl Kind)) → find (λ (decl : KeyDecl Kind). bytes_eq decl.name key) node.keys ≡ o → option_map (state_of node) o ≡ Some k → (k.name ≡ key) × (k.entry ≡ node.entries key)
    go None e e' = absurd (cc e')
    go (Some decl) e e' =
        let same : state_of node decl ≡ k = cc e' in
        let name = eq_texts decl.name key (found (λ (decl : KeyDecl Kind). bytes_eq decl.name key) node.keys decl e) in
        (ap (λ (x : KeyState Kind Op). x.name) (sym same) ∙ name, ap (λ (x : KeyState Kind Op). x.entry) (sym same) ∙ ap node.entries name)

-- another entry of a known key
pub uses_with_entry : {Kind Op Shown : Type 0} (part : List (KeyDecl Kind)) (node : Node Kind Op Shown) (key : Text) (entry : Entry Op) → knows part key ≡ true → UsesOnly part node → UsesOnly part (with_entry node key entry)
uses_with_entry {Kind} {Op} part node key entry known uses = record { is_part = uses.is_part; no_others = λ other unknown. (at other unknown (bytes_eq other key) refl, (uses.no_others other unknown).1) }
  where
    at : (other : Text) → knows part other ≡ false → (b : Bool) → bytes_eq other key ≡ b → (if b then entry else node.entries other) ≡ empty_entry
    at other unknown true e = both (ap (knows part) (eq_texts other key e) ∙ known) unknown
    at other unknown false e = (uses.no_others other unknown).0
