-- What a running member becomes when it is told of one more key.
--     declaring        the model's member with one more key
--     LacksKey        it holds nothing of a key
--     declaration_of        how a key is declared
--     place_for        where a key is to stand
--     HoldsOneMore        one key more without records, among the others as they were
--     IsDeclared        the member with one more key
--     Declares        what became of a declaration
use Rattle.std.specs.Prelude.{◌≡◌, ◌≢◌, ℕ, ◌≤◌, List, length, insert, map, find, Option, None, Some}
use Rattle.std.specs.List.{position_or_len}
use Rattle.std.specs.Str.{bytes_eq}
use Rattle.model_history.specs.Texts.{Text, text_lt}
use Rattle.model_history.specs.History.{History, IsHistory}
use Rattle.model_members.specs.Entry.{empty_entry}
use Rattle.model_members.specs.Node as nodes
use Rattle.model_members.specs.Node.{with_key}
use Rattle.model_kinds.specs.declared.shown.Shown.{Shown}
use Rattle.data_lattice.specs.declared.replica.Replica.{Ghosts}
use Rattle.member_keeper.specs.declared.keeper.Keeper.{Ghosts as Keeping}
use Rattle.member_node.specs.declared.declaring.Declared.{Declared}
use Rattle.member_node.specs.declared.declaring.Declared.TheVariants.{New, Already, Otherwise}
use Rattle.member_node.specs.declared.key.KeyDecl.{KeyDecl}
use Rattle.member_node.specs.declared.key.KeyState.{KeyState}
use Rattle.member_node.specs.declared.node.Node.{Node}
use Rattle.member_node.specs.Fresh.{IsFresh}
use Rattle.member_node.specs.Keys.{declared, declared_by}
use Rattle.member_node.specs.Members.{StandsForNode}

-- the model's member with one more key
abbrev pub declaring : {Kind Op : Type 0} → nodes.KeyDecl Kind → nodes.Node Kind Op Shown → nodes.Node Kind Op Shown
declaring decl node = record node { keys = with_key decl node.keys }

-- it has no record of the key, and has sent none
pub record LacksKey {Kind Op : Type 0} (key : Text) (node : nodes.Node Kind Op Shown) : Type 0 where
  pub entry : node.entries key ≡ empty_entry
  pub sent : (i : ℕ) → node.flushed key i ≡ 0

module _ {T Kind Op Delta : Type 0} where
  -- how the key of this name is declared, if it is
  abbrev pub declaration_of : Text → List (KeyState T Kind Op Delta) → Option (nodes.KeyDecl Kind)
  declaration_of key keys = find (λ (decl : nodes.KeyDecl Kind). bytes_eq decl.name key) (map declared_by keys)

  -- before the first with a later name
  abbrev pub place_for : Text → List (KeyState T Kind Op Delta) → ℕ
  place_for key keys = position_or_len (λ state. text_lt key state.name) keys

-- one key more stands at a place, and has no records
pub record HoldsOneMore {T Kind Op Delta : Type 0} (ghosts : Ghosts T Kind Op Delta) (id : ℕ) (old new : List (KeyState T Kind Op Delta)) : Type 0 where
  pub place : ℕ
  pub within : place ≤ length old
  pub state : KeyState T Kind Op Delta
  pub fresh : IsFresh ghosts.kind_of ghosts.IsDataOf ghosts.IsDeltaOf id state
  pub is : new ≡ insert old place state

module _ {T K Kind Op Delta : Type 0} {ghosts : Ghosts T Kind Op Delta} {keeping : Keeping K} where
  -- what it stood for, with the key, where that holds nothing of the key, in all logs
  abbrev pub StandsDeclaring : KeyDecl T Kind Op Delta → (old new : Node T K Kind Op Delta ghosts keeping) → Type 0
  StandsDeclaring decl old new =
      (kinds : Text → Kind) (logs : Text → History Op) (node : nodes.Node Kind Op Shown) → ((key : Text) → IsHistory (logs key)) → kinds decl.key ≡ decl.kind → LacksKey decl.key node
      → StandsForNode ghosts.kind_of ghosts.IsDataOf kinds logs old node → StandsForNode ghosts.kind_of ghosts.IsDataOf kinds logs new (declaring (declared decl) node)

  -- the key stands before the first with a later name, and all else is as it was
  pub record IsDeclared (decl : KeyDecl T Kind Op Delta) (old new : Node T K Kind Op Delta ghosts keeping) : Type 0 where
    pub alloc : new.alloc ≡ old.alloc
    pub identity : new.id ≡ old.id
    pub view : new.view ≡ old.view
    pub operations : new.operations ≡ old.operations
    pub steps : new.steps ≡ old.steps
    pub limit : new.limit ≡ old.limit
    pub keeper : new.keeper ≡ old.keeper
    pub keys : map declared_by new.keys.items ≡ with_key (declared decl) (map declared_by old.keys.items)
    pub held : HoldsOneMore ghosts old.id old.keys.items new.keys.items
    pub stands : StandsDeclaring decl old new

  -- a key that was not declared is now; else nothing changes, and the answer says whether it was declared so
  abbrev pub Declares : (old : Node T K Kind Op Delta ghosts keeping) → KeyDecl T Kind Op Delta → (new : Node T K Kind Op Delta ghosts keeping) → Declared → Type 0
  Declares old decl new New = (declaration_of decl.key old.keys.items ≡ None) × IsDeclared decl old new
  Declares old decl new Already = (declaration_of decl.key old.keys.items ≡ Some (declared decl)) × (new ≡ old)
  Declares old decl new Otherwise = (other : nodes.KeyDecl Kind) × (declaration_of decl.key old.keys.items ≡ Some other) × (other ≢ declared decl) × (new ≡ old)
