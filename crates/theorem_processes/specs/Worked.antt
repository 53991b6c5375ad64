-- What real calls make of two processes: one member posts; the other takes the bytes of the post, declares a key, takes them again, and then forgets.
use Rattle.std.specs.Prelude.{◌≡◌, ℕ, List, [], ◌∷◌, Some, None, ◌==◌, if◌then◌else◌}
use Rattle.model_history.specs.Texts.{Text}
use Rattle.model_members.specs.View.{first_view}
use Rattle.model_kinds.specs.declared.operation.Op.{Op}
use Rattle.data_lattice.specs.declared.replica.Replica.{Ghosts}
use Rattle.data_lattice.specs.declared.spelled.SpelledData.{Ghosts as Spelling}
use Rattle.data_delta_codec.specs.declared.spelled_delta.SpelledDelta.{Ghosts as DeltaSpelling}
use Rattle.member_keeper.specs.declared.keeper.Keeper.{Ghosts as Keeping}
use Rattle.member_messages.specs.declared.message.Message.{Message}
use Rattle.member_quorum.specs.declared.level.Level.TheVariants.{All}
use Rattle.member_node.specs.declared.node.Node.{Node}
use Rattle.member_node.specs.declared.key.KeyDecl.{KeyDecl}
use Rattle.member_node.specs.declared.input.Input.{Input}
use Rattle.member_node.specs.declared.input.Input.TheVariants as input
use Rattle.member_node.specs.declared.reply.Fate.{Fate}
use Rattle.member_node.specs.declared.reply.Output.{Output}
use Rattle.member_node.specs.Steps.{IsStepOf}
use Rattle.theorem_processes.specs.Processes.{Processes, Happening, Begin, AllHappen, IsSpelledBy}
use Rattle.theorem_processes.specs.Processes.Happening.{Steps, Takes, Declares, Forgets}

module _ {T K Kind Delta : Type 0} {ghosts : Ghosts T Kind Op Delta} {keeping : Keeping K} where
  -- two members that have posted and forgotten nothing yet
  abbrev pub two : Node T K Kind Op Delta ghosts keeping → Node T K Kind Op Delta ghosts keeping → Processes ghosts keeping
  two one other = record { views = first_view 2 ∷ []; members = λ i. if i == 0 then Some one else (if i == 1 then Some other else None); forgotten = λ i. 0; posted = λ from to. [] }

module _ {T K Kind Delta : Type 0} (ghosts : Ghosts T Kind Op Delta) (keeping : Keeping K) where
  -- what was read, and what the step made of it
  pub record Take : Type 0 where
    pub read : Message T Kind Op Delta ghosts
    pub fate : Fate
    pub output : Output T Kind Op Delta ghosts
    pub after : Node T K Kind Op Delta ghosts keeping

module _ {T K Kind Delta : Type 0} {ghosts : Ghosts T Kind Op Delta} {keeping : Keeping K} where
  -- member 1 takes bytes as of the first post of member 0 to it
  abbrev pub takes : List ℕ → Take ghosts keeping → Happening ghosts keeping
  takes bytes take = Takes 0 1 0 bytes take.read take.fate take.output take.after

module _ {T K Kind Delta : Type 0} {ghosts : Ghosts T Kind Op Delta} {keeping : Keeping K} (spelling : Spelling T Kind Op Delta) (deltas : DeltaSpelling T Kind Op Delta) where
  -- a member made a step of its own, in which it posted one message, to this member; the bytes spell it
  pub record IsPosting (old : Node T K Kind Op Delta ghosts keeping) (to : ℕ) (bytes : List ℕ) (new : Node T K Kind Op Delta ghosts keeping) : Type 0 where
    pub key : Text
    pub op : Op
    pub fate : Fate
    pub output : Output T Kind Op Delta ghosts
    pub makes : IsStepOf spelling old (input.Update key op All) fate output new
    pub message : Message T Kind Op Delta ghosts
    pub one : output.posts ≡ record { to = to; message = message } ∷ []
    pub spelled : IsSpelledBy spelling deltas message bytes

  -- a member took what it read of bytes
  pub record IsTaking (old : Node T K Kind Op Delta ghosts keeping) (from : ℕ) (bytes : List ℕ) (new : Node T K Kind Op Delta ghosts keeping) : Type 0 where
    pub read : Message T Kind Op Delta ghosts
    pub fate : Fate
    pub output : Output T Kind Op Delta ghosts
    pub read_so : IsSpelledBy spelling deltas read bytes
    pub makes : IsStepOf spelling old (input.Take from read) fate output new

  -- ALL PREMISES ARE MET: member 0 made a step; member 1, which began with no key, took the bytes of its first post, declared a key,
  -- took the bytes again and forgot its operations below 1; and this is what the two are then
  pub record AreMet (decls : List (KeyDecl T Kind Op Delta)) (one other : Node T K Kind Op Delta ghosts keeping) : Type 0 where
    pub new_one : Node T K Kind Op Delta ghosts keeping
    pub new_other : Node T K Kind Op Delta ghosts keeping
    pub begin : Begin decls 2 (two new_one new_other)
    pub given : Input T Kind Op Delta ghosts
    pub fate : Fate
    pub output : Output T Kind Op Delta ghosts
    pub bytes : List ℕ
    pub once : Take ghosts keeping
    pub decl : KeyDecl T Kind Op Delta
    pub declared : Node T K Kind Op Delta ghosts keeping
    pub again : Take ghosts keeping
    pub happen : AllHappen spelling deltas decls (two new_one new_other) (Steps 0 given fate output one ∷ takes bytes once ∷ Declares 1 decl declared ∷ takes bytes again ∷ Forgets 1 1 other ∷ [])
