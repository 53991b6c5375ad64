-- Members that have declared only a part of their keys.
--     knows, with_keys        whether a list of keys has one of the name; the member with these keys
--     IsPart, UsesOnly        a part of all keys; a member that so far used only these of its keys
--     SpeaksOf, IsForAnother        what an input says of keys is of these; a command for another key
--     stepped_with        a step, made with these keys
--     MakesSameStep, StaysPart        the member with these keys makes the same step; afterwards nothing is held or stored of others
--     OfStepsInPart, GrowsByNext, RefusesOtherKeys        of every such step; one more key of a member's; what a command for another key does
--     StoresNoOthers        a store without entries of the other durable keys
--     OfNewParts, IsSameAsPart        of every new member whose store is such; it is the new member with a part of the keys
use Rattle.std.specs.Prelude.{◌≡◌, ◌↔◌, ℕ, List, Bool, IsTrue, IsFalse, Some, None, map, filter, find, slice_get}
use Rattle.std.specs.List.{list_any}
use Rattle.std.specs.Str.{bytes_eq}
use Rattle.model_history.specs.Texts.{Text}
use Rattle.model_members.specs.DataType.{Replication}
use Rattle.model_members.specs.Entry.{empty_entry}
use Rattle.model_members.specs.Message.{part_of}
use Rattle.model_members.specs.Node.{KeyDecl, Node, Input, Fate, Stepped, keyed_entry, with_key, one_step_later}
use Rattle.model_members.specs.Node.Input.{Update, Get, Take}
use Rattle.model_members.specs.Node.Reply.{UnknownKey}
use Rattle.model_members.specs.Step.{step, answered, to_store}
use Rattle.model_members.specs.View.{View}
use Rattle.model_members.specs.World.{Store, FitsFate, after_store, loaded_node}
use Rattle.base_bytes.specs.TextOrder.{IsRising}

-- KEYS

module _ {Kind : Type 0} where
  -- whether one of the keys has the name
  abbrev pub knows : List (KeyDecl Kind) → Text → Bool
  knows keys name = list_any (λ (decl : KeyDecl Kind). bytes_eq decl.name name) keys

  -- these are the keys of all that they name, in the order of all
  abbrev pub IsPart : (part all : List (KeyDecl Kind)) → Type 0
  IsPart part all = part ≡ filter (λ (decl : KeyDecl Kind). knows part decl.name) all

-- MEMBERS

module _ {Kind Op Shown : Type 0} where
  -- the member with these keys
  abbrev pub with_keys : List (KeyDecl Kind) → Node Kind Op Shown → Node Kind Op Shown
  with_keys keys node = record node { keys = keys }

  -- the step, made by the member with these keys
  abbrev pub stepped_with : List (KeyDecl Kind) → Stepped Kind Op Shown → Stepped Kind Op Shown
  stepped_with keys stepped = record stepped { node = with_keys keys stepped.node }

  -- the member has no record of the key, and flushed none of it
  abbrev pub HoldsNothing : Node Kind Op Shown → Text → Type 0
  HoldsNothing node key = (node.entries key ≡ empty_entry) × ((peer : ℕ) → node.flushed key peer ≡ 0)

  -- so far the member used only these of its keys: it holds nothing of any other
  pub record UsesOnly (part : List (KeyDecl Kind)) (node : Node Kind Op Shown) : Type 0 where
    pub is_part : IsPart part node.keys
    pub no_others : (key : Text) → IsFalse (knows part key) → HoldsNothing node key

-- INPUTS

-- a command is for one of the keys, and all that a message says of keys is of these
abbrev pub SpeaksOf : {Kind Op : Type 0} → List (KeyDecl Kind) → Input Op → Type 0
SpeaksOf keys (Update key op level) = IsTrue (knows keys key)
SpeaksOf keys (Get key level) = IsTrue (knows keys key)
SpeaksOf keys (Take from message) = message ≡ part_of (knows keys) message
SpeaksOf keys _ = Unit {0}

-- a command for another key
abbrev pub IsForAnother : {Kind Op : Type 0} → List (KeyDecl Kind) → Input Op → Type 0
IsForAnother keys (Update key op level) = IsFalse (knows keys key)
IsForAnother keys (Get key level) = IsFalse (knows keys key)
IsForAnother keys _ = ⊥

-- STEPS

module _ {Kind Op Shown : Type 0} (D : Replication Kind Op Shown) (part : List (KeyDecl Kind)) (node : Node Kind Op Shown) (input : Input Op) (fate : Fate) where
  -- with a part of the keys the member makes the same step, has the same to store, and the same fate fits
  pub record MakesSameStep : Type 0 where
    pub same_step : step D (with_keys part node) input fate ≡ stepped_with part (step D node input fate)
    pub same_stores : to_store (with_keys part node) (step D (with_keys part node) input fate).node ≡ to_store node (step D node input fate).node
    pub same_fate : FitsFate D (with_keys part node) input fate ↔ FitsFate D node input fate

  -- after the step the member still uses only the part, and what is stored of others is as it was
  pub record StaysPart : Type 0 where
    pub uses : UsesOnly part (step D node input fate).node
    pub stored : (store : Store Op) (key : Text) → IsFalse (knows part key) → after_store fate (map keyed_entry (to_store node (step D node input fate).node)) store key ≡ store key

module _ {Kind Op Shown : Type 0} where
  -- it holds of every step of a member that so far used only a part of its keys, for an input that speaks of these alone
  abbrev pub OfStepsInPart : (List (KeyDecl Kind) → Node Kind Op Shown → Input Op → Fate → Type 0) → Type 0
  OfStepsInPart Holds = (keys : List (KeyDecl Kind)) (node : Node Kind Op Shown) (input : Input Op) (fate : Fate) → UsesOnly keys node → SpeaksOf keys input → Holds keys node input fate

  -- a member that so far used only these of its keys, which stand in the order of their names, used only these and one more of them
  abbrev pub GrowsByNext : List (KeyDecl Kind) → Node Kind Op Shown → ℕ → KeyDecl Kind → Type 0
  GrowsByNext keys node k new = UsesOnly keys node → IsRising (map (λ decl. decl.name) node.keys) → slice_get node.keys k ≡ Some new → IsFalse (knows keys new.name) → UsesOnly (with_key new keys) node

  -- a member with some keys answers a command for another key that it is unknown, and counts one step more
  abbrev pub RefusesOtherKeys : Replication Kind Op Shown → Type 0
  RefusesOtherKeys D =
      (keys : List (KeyDecl Kind)) (node : Node Kind Op Shown) (input : Input Op) (fate : Fate)
      → IsForAnother keys input → step D (with_keys keys node) input fate ≡ answered (with_keys keys (one_step_later node)) UnknownKey

-- STORES

-- the store has no entry of a durable key that is not in the part
abbrev pub StoresNoOthers : {Kind Op : Type 0} → (part all : List (KeyDecl Kind)) → Store Op → Type 0
StoresNoOthers {Kind} part all store =
    (name : Text) (decl : KeyDecl Kind) → IsFalse (knows part name) → find (λ (d : KeyDecl Kind). bytes_eq d.name name) all ≡ Some decl → IsTrue decl.durable → store name ≡ None

-- it holds of every new member over a store that has nothing of durable keys beside a part of all
abbrev pub OfNewParts : (Kind Op : Type 0) → ((part all : List (KeyDecl Kind)) → ℕ → View → Store Op → Type 0) → Type 0
OfNewParts Kind Op Holds = (part all : List (KeyDecl Kind)) (i : ℕ) (view : View) (store : Store Op) → IsPart part all → StoresNoOthers part all store → Holds part all i view store

-- with the part of the keys it is the new member that has declared only these
abbrev pub IsSameAsPart : {Kind Op : Type 0} → (Shown : Type 0) → (part all : List (KeyDecl Kind)) → ℕ → View → Store Op → Type 0
IsSameAsPart Shown part all i view store = with_keys part (loaded_node {Shown = Shown} all i view store) ≡ loaded_node part i view store
