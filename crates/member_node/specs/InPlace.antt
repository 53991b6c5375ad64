-- Updates that change a key's entry in its place.
use Rattle.std.specs.Prelude.{◌≡◌, ℕ, ◌≤◌, [], true, false, None, Some, length, position, slice_index_or}
use Rattle.std.specs.Str.{bytes_eq}
use Rattle.model_history.specs.Texts.{Text}
use Rattle.model_members.specs.Node.{needed}
use Rattle.data_lattice.specs.declared.replica.Replica.{Ghosts}
use Rattle.member_keeper.specs.declared.keeper.Keeper.{Ghosts as Keeping}
use Rattle.member_quorum.specs.declared.level.Level.{Level}
use Rattle.member_quorum.specs.Levels.{level_meant}
use Rattle.member_node.specs.declared.key.KeyState.{KeyState}
use Rattle.member_node.specs.declared.node.Node.{Node}
use Rattle.member_node.specs.declared.in_place.Applied.{Applied}
use Rattle.member_node.specs.declared.reply.Output.{Output}
use Rattle.member_node.specs.Recording.{is_open_to}
use Rattle.member_node.specs.Updates.{reply_of, IsUndeleted}

module _ {T K Kind Op Delta : Type 0} {ghosts : Ghosts T Kind Op Delta} {keeping : Keeping K} where
  -- the key stands there and is not deleted, the operation is one of its kind, nothing of it is stored, and no other member is asked
  pub record IsInPlace (code : Node T K Kind Op Delta ghosts keeping) (key : Text) (op : Op) (level : Level) (index : ℕ) : Type 0 where
    pub at : KeyState T Kind Op Delta
    pub found : Some index ≡ position (λ (state : KeyState T Kind Op Delta). bytes_eq state.name key) code.keys.items
    pub there : at ≡ slice_index_or code.keys.items index at
    pub undeleted : IsUndeleted ghosts at.entry
    pub fits : is_open_to ghosts at.entry.value op ≡ true
    pub volatile : at.durable ≡ false
    pub number : ℕ
    pub enough : needed (level_meant level) (length code.view.members) ≡ Some number
    pub alone : number ≤ 1

module _ {T Kind Op Delta : Type 0} {ghosts : Ghosts T Kind Op Delta} where
  -- a reply alone
  abbrev pub output_of : Applied → Output T Kind Op Delta ghosts
  output_of became = record { reply = reply_of became; posts = []; finished = None }
