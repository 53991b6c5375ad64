-- A member's limit of steps stays along its history.
--     limit_along        where it replays one
--     limit_at        at a place
use Rattle.std.proofs.Common.{◌≡◌, List, ap, sym, refl, ◌∙◌, Option, Some, None}
use Rattle.std.specs.Option.{ForSome}
use Rattle.model_kinds.specs.declared.operation.Op.{Op}
use Rattle.data_lattice.specs.declared.replica.Replica.{Ghosts}
use Rattle.data_lattice.specs.declared.spelled.SpelledData.{Ghosts as Spelling}
use Rattle.member_keeper.specs.declared.keeper.Keeper.{Ghosts as Keeping}
use Rattle.thread_machine.specs.declared.machine.Machine.{Ghosts as Machine}
use Rattle.thread_machine.specs.Replays.{Replays}
use Rattle.thread_machine.specs.Replays.Replays.{begins, refused, stepped}
use Rattle.member_node.specs.declared.input.Input.{Input}
use Rattle.member_node.specs.declared.node.Node.{Node}
use Rattle.member_node.specs.declared.reply.Fate.{Fate}
use Rattle.member_node.specs.declared.reply.Output.{Output}
use Rattle.member_node.specs.declared.reply.StepError.{StepError}
use Rattle.member_node.specs.Replies.{program_steps}
use Rattle.member_node.specs.Steps.{IsStepOf, IsUnchanged}
use Rattle.thread_run_order.specs.Images.{EntryOf}
use Rattle.thread_section.specs.Worlds.{HasRun}

module _ {T K Kind Delta : Type 0} {ghosts : Ghosts T Kind Op Delta} {keeping : Keeping K} (spelling : Spelling T Kind Op Delta) (meaning : Machine (Node T K Kind Op Delta ghosts keeping) (Input T Kind Op Delta ghosts) Fate (Output T Kind Op Delta ghosts) StepError)
    (steps_are : (old : Node T K Kind Op Delta ghosts keeping) (input : Input T Kind Op Delta ghosts) (fate : Fate) (output : Output T Kind Op Delta ghosts) (new : Node T K Kind Op Delta ghosts keeping) → meaning.Steps old input fate output new → IsStepOf spelling old input fate output new)
    (unchanged_are : (old new : Node T K Kind Op Delta ghosts keeping) → meaning.IsUnchanged old new → IsUnchanged old new) where
  abbrev Member : Type 0
  Member = Node T K Kind Op Delta ghosts keeping

  pub limit_along : (first now : Member) (es : List (EntryOf ghosts keeping)) → Replays meaning first es now → now.limit ≡ first.limit
  limit_along first now _ (begins _) = refl
  limit_along first now es (refused _ before _ _ replays u) = ap (λ (m : Member). m.limit) (unchanged_are before now u).same ∙ limit_along first before es replays
  limit_along first now _ (stepped _ before _ es e replays s) = (steps_are before e.input e.fate e.output now s).limit ∙ limit_along first before es replays

  -- a member that made the entries of some history has the limit that it had
  pub limit_at : (start now : Option Member) → HasRun meaning start now → ForSome start (λ (m : Member). m.limit ≡ program_steps) → ForSome now (λ (m : Member). m.limit ≡ program_steps)
  limit_at None now run limits n is = absurd (let x = sym is ∙ run.none refl in cc x)
  limit_at (Some m) now run limits n is =
      let r = run.replay m refl in
      let same : r.0 ≡ n = cc (sym r.2 ∙ is) in
      ap (λ (k : Member). k.limit) (sym same) ∙ limit_along m r.0 r.1 r.3.replays ∙ limits m refl
