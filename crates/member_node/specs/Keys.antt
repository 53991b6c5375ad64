-- Declared keys.
use Rattle.std.specs.Prelude.{◌≡◌, ℕ, ◌<◌, List, true, Some, slice_get, slice_index_or, length, All, map}
use Rattle.std.specs.Str.{bytes_eq}
use Rattle.model_history.specs.Texts.{Text}
use Rattle.model_members.specs.Node as nodes
use Rattle.member_node.specs.declared.key.KeyDecl.{KeyDecl}
use Rattle.member_node.specs.declared.key.KeyState.{KeyState}

-- no text stands twice
abbrev pub AreDistinct : List Text → Type 0
AreDistinct names = (i j : ℕ) (name : Text) → slice_get names i ≡ Some name → slice_get names j ≡ Some name → i ≡ j

module _ {T Kind Op Delta : Type 0} where
  abbrev pub declared : KeyDecl T Kind Op Delta → nodes.KeyDecl Kind
  declared decl = record { name = decl.key; kind = decl.kind; durable = decl.durable }

  abbrev pub declared_by : KeyState T Kind Op Delta → nodes.KeyDecl Kind
  declared_by state = record { name = state.name; kind = state.kind; durable = state.durable }

  -- each key is declared with its kind
  abbrev pub AreOfKinds : (Text → Kind) → List (KeyDecl T Kind Op Delta) → Type 0
  AreOfKinds kinds keys = All (λ decl. kinds decl.key ≡ decl.kind) keys

  abbrev pub HaveKinds : (Text → Kind) → List (KeyState T Kind Op Delta) → Type 0
  HaveKinds kinds keys = All (λ state. kinds state.name ≡ state.kind) keys

  -- no key stands twice
  abbrev pub AreDistinctKeys : List (KeyState T Kind Op Delta) → Type 0
  AreDistinctKeys keys = AreDistinct (map (λ state. state.name) keys)

  -- the key of this name stands at this place
  pub record IsKeyAt (keys : List (KeyState T Kind Op Delta)) (name : Text) (place : ℕ) : Type 0 where
    pub within : place < length keys
    pub named : (d : KeyState T Kind Op Delta) → bytes_eq (slice_index_or keys place d).name name ≡ true
