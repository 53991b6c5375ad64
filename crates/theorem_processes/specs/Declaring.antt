-- Keys that a member of a process has declared, of those of a catalogue.
--     declared_keys, known_to        the keys of a member, and the test for their names
--     ArePart        some keys of a catalogue, in its order
--     HasDeclared        a member declares one more key of the catalogue
--     is_unknown        a command for a key that is not declared
use Rattle.std.specs.Prelude.{◌≡◌, ℕ, List, Bool, false, not, map, Option, Some, None, slice_get}
use Rattle.base_bytes.specs.TextOrder.{IsRising}
use Rattle.model_history.specs.Texts.{Text}
use Rattle.model_members.specs.Node as nodes
use Rattle.model_kinds.specs.declared.operation.Op.{Op}
use Rattle.data_lattice.specs.declared.replica.Replica.{Ghosts}
use Rattle.member_keeper.specs.declared.keeper.Keeper.{Ghosts as Keeping}
use Rattle.member_node.specs.Declaring.{Declares}
use Rattle.member_node.specs.declared.declaring.Declared.{Declared}
use Rattle.member_node.specs.declared.input.Input.{Input}
use Rattle.member_node.specs.declared.input.Input.TheVariants as input
use Rattle.member_node.specs.declared.key.KeyDecl.{KeyDecl}
use Rattle.member_node.specs.declared.node.Node.{Node}
use Rattle.member_node.specs.Keys.{declared, declared_by}
use Rattle.theorem_declaring.specs.Parts.{IsPart, knows}

module _ {T Kind Delta : Type 0} where
  -- some keys of a catalogue, in its order
  abbrev pub ArePart : (some all : List (KeyDecl T Kind Op Delta)) → Type 0
  ArePart some all = IsPart (map declared some) (map declared all)

module _ {T K Kind Delta : Type 0} {ghosts : Ghosts T Kind Op Delta} {keeping : Keeping K} where
  -- the keys that a member has declared
  abbrev pub declared_keys : Node T K Kind Op Delta ghosts keeping → List (nodes.KeyDecl Kind)
  declared_keys member = map declared_by member.keys.items

  -- whether a key of this name is declared, if the member runs
  abbrev pub known_to : Option (Node T K Kind Op Delta ghosts keeping) → Text → Bool
  known_to None key = false
  known_to (Some member) key = knows (declared_keys member) key

  -- a member is told of a key of the catalogue, as `Node::declare` says it. So that the key takes its place in the order of the
  -- catalogue, the names there rise
  pub record HasDeclared (decls : List (KeyDecl T Kind Op Delta)) (decl : KeyDecl T Kind Op Delta) (old new : Node T K Kind Op Delta ghosts keeping) : Type 0 where
    pub rising : IsRising (map (λ (key : KeyDecl T Kind Op Delta). key.key) decls)
    pub index : ℕ
    pub listed : slice_get decls index ≡ Some decl
    pub answer : Declared
    pub declares : Declares old decl new answer

-- a command for a key of which the test says that it is not declared
abbrev pub is_unknown : {T Kind Delta : Type 0} {ghosts : Ghosts T Kind Op Delta} → (Text → Bool) → Input T Kind Op Delta ghosts → Bool
is_unknown known (input.Update key op level) = not (known key)
is_unknown known (input.Get key level) = not (known key)
is_unknown known _ = false
