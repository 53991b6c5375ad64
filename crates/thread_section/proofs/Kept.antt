-- What keepers answered along a section.
--     keeps_along        that of a member, along its history
--     kept_by        those of all places
use Rattle.std.proofs.Common.{◌≡◌, ℕ, ◌<◌, List, [], ◌∷◌, ◌++◌, refl, sym, ap, subst, ◌∙◌, arith, Option, Some, None}
use Rattle.std.specs.Prelude.{is_some}
use Rattle.std.proofs.lemmas.List.{append-nil, append_assoc}
use Rattle.theorem_sections.specs.Paths.{answer_of}
use Rattle.model_kinds.specs.declared.operation.Op.{Op}
use Rattle.data_lattice.specs.declared.replica.Replica.{Ghosts}
use Rattle.data_lattice.specs.declared.spelled.SpelledData.{Ghosts as Spelling}
use Rattle.member_keeper.specs.declared.keeper.Keeper.{Ghosts as Keeping}
use Rattle.thread_machine.specs.declared.machine.Machine.{Ghosts as Machine}
use Rattle.thread_machine.specs.Replays.{Replays}
use Rattle.thread_machine.specs.Replays.Replays.{begins, refused, stepped}
use Rattle.member_node.specs.declared.input.Input.{Input}
use Rattle.member_node.specs.declared.node.Node.{Node}
use Rattle.member_node.specs.declared.reply.Fate.{Fate}
use Rattle.member_node.specs.declared.reply.Fate.TheVariants as fate
use Rattle.member_node.specs.declared.reply.Output.{Output}
use Rattle.member_node.specs.declared.reply.StepError.{StepError}
use Rattle.member_node.specs.Replies.{meant_fate}
use Rattle.member_node.specs.Steps.{IsStepOf, IsUnchanged}
use Rattle.world_members.specs.declared.world.World.{World}
use Rattle.world_places.specs.Keeping.{Keeps, KeepsAt}
use Rattle.world_places.specs.Places.{item_at, keeper_of, first_keeper}
use Rattle.world_members.proofs.Answering.{tells_keeps, called_keeps, answers_of}
use Rattle.world_members.proofs.Sequences.{kept_then}
use Rattle.world_places.proofs.Storing.{not_called}
use Rattle.world_members.proofs.Entering.{item_within}
use Rattle.thread_run_order.specs.Images.{EntryOf}
use Rattle.thread_run_order.specs.Section.{IsSection, IsLeft}
use Rattle.thread_run_order.specs.Runs.{answers_in}

same_answers : (f : Fate) → answers_of (meant_fate f) ≡ answer_of (meant_fate f)
same_answers fate.NoStore = refl
same_answers fate.Stored = refl
same_answers fate.StoreFailed = refl

module _ {T K Kind Delta : Type 0} {ghosts : Ghosts T Kind Op Delta} {keeping : Keeping K} where
  answers_end : (es : List (EntryOf ghosts keeping)) (e : EntryOf ghosts keeping) → answers_in (es ++ e ∷ []) ≡ answers_in es ++ answer_of (meant_fate e.fate)
  answers_end [] e = append-nil (answer_of (meant_fate e.fate))
  answers_end (x ∷ es) e = ap (λ bs. answer_of (meant_fate x.fate) ++ bs) (answers_end es e) ∙ sym (append_assoc (answer_of (meant_fate x.fate)) (answers_in es) (answer_of (meant_fate e.fate)))

module _ {T K Kind Delta : Type 0} {ghosts : Ghosts T Kind Op Delta} {keeping : Keeping K} (spelling : Spelling T Kind Op Delta) (alike : (a b : K) → is_some (keeping.table a) ≡ is_some (keeping.table b))
    (meaning : Machine (Node T K Kind Op Delta ghosts keeping) (Input T Kind Op Delta ghosts) Fate (Output T Kind Op Delta ghosts) StepError)
    (steps_are : (old : Node T K Kind Op Delta ghosts keeping) (input : Input T Kind Op Delta ghosts) (fate : Fate) (output : Output T Kind Op Delta ghosts) (new : Node T K Kind Op Delta ghosts keeping) → meaning.Steps old input fate output new → IsStepOf spelling old input fate output new)
    (unchanged_are : (old new : Node T K Kind Op Delta ghosts keeping) → meaning.IsUnchanged old new → IsUnchanged old new) where
  abbrev Member : Type 0
  Member = Node T K Kind Op Delta ghosts keeping

  pub keeps_along : (first now : Member) (es : List (EntryOf ghosts keeping)) → Replays meaning first es now → Keeps keeping (answers_in es) first.keeper now.keeper
  keeps_along first now _ (begins _) = not_called keeping first.keeper
  keeps_along first now es (refused _ before _ _ replays u) =
      subst (λ bs. Keeps keeping bs first.keeper now.keeper) (append-nil (answers_in es))
      (kept_then keeping (Some first.keeper) (Some before.keeper) (Some now.keeper) (answers_in es) [] (keeps_along first before es replays) (tells_keeps keeping alike before.keeper now.keeper (unchanged_are before now u).told))
  keeps_along first now _ (stepped _ before _ es e replays s) =
      subst (λ bs. Keeps keeping bs first.keeper now.keeper) (sym (answers_end es e ∙ ap (λ bs. answers_in es ++ bs) (sym (same_answers e.fate))))
      (kept_then keeping (Some first.keeper) (Some before.keeper) (Some now.keeper) (answers_in es) (answers_of (meant_fate e.fate)) (keeps_along first before es replays)
      (called_keeps keeping alike e.fate before.keeper now.keeper (steps_are before e.input e.fate e.output now s).called))

  same_kept : (o : Option K) → KeepsAt keeping [] o o
  same_kept None = refl
  same_kept (Some keeper) = not_called keeping keeper

  module _ (old new : World T K Kind Op Delta ghosts keeping) (h : ℕ → List (EntryOf ghosts keeping)) (nows : ℕ → Option (Node T K Kind Op Delta ghosts keeping)) (section : IsSection meaning old h nows) (left : IsLeft old new h nows) where
    within : (w : World T K Kind Op Delta ghosts keeping) (place : ℕ) (member : Member) → item_at w.nodes.items place ≡ Some member → place < 8
    within w place member is = let l = item_within w.nodes.items place member is in let c = w.eight_nodes in let d = w.nodes.ok.0 in omega (arith, l, c, d)

    none_left : (place : ℕ) → item_at old.nodes.items place ≡ None → item_at new.nodes.items place ≡ None
    none_left place none = by (item_at new.nodes.items place) refl
      where
        by : (o : Option Member) → item_at new.nodes.items place ≡ o → o ≡ None
        by None is = refl
        by (Some member) is = sym is ∙ left.members place (within new place member is) ∙ ((section.ends place).none none).0

    pub kept_by : (place : ℕ) → KeepsAt keeping (answers_in (h place)) (keeper_of old.nodes.items old.spare.items place) (keeper_of new.nodes.items new.spare.items place)
    kept_by place = by (item_at old.nodes.items place) refl
      where
        spares : item_at new.spare.items place ≡ item_at old.spare.items place
        spares = ap (λ spare. item_at spare.items place) left.spare

        by : (o : Option Member) → item_at old.nodes.items place ≡ o → KeepsAt keeping (answers_in (h place)) (keeper_of old.nodes.items old.spare.items place) (keeper_of new.nodes.items new.spare.items place)
        by None none =
            subst (λ x. KeepsAt keeping (answers_in (h place)) (first_keeper x (item_at old.spare.items place)) (keeper_of new.nodes.items new.spare.items place)) (sym none)
            (subst (λ x. KeepsAt keeping (answers_in (h place)) (item_at old.spare.items place) (first_keeper x (item_at new.spare.items place))) (sym (none_left place none))
            (subst (λ s. KeepsAt keeping (answers_in (h place)) (item_at old.spare.items place) s) (sym spares)
            (subst (λ es. KeepsAt keeping (answers_in es) (item_at old.spare.items place) (item_at old.spare.items place)) (sym ((section.ends place).none none).1) (same_kept (item_at old.spare.items place)))))
        by (Some first) is =
            let e = (section.ends place).replay first is in
            let now_is : item_at new.nodes.items place ≡ Some e.0 = left.members place (within old place first is) ∙ e.1 in
            subst (λ x. KeepsAt keeping (answers_in (h place)) (first_keeper x (item_at old.spare.items place)) (keeper_of new.nodes.items new.spare.items place)) (sym is)
            (subst (λ x. KeepsAt keeping (answers_in (h place)) (Some first.keeper) (first_keeper x (item_at new.spare.items place))) (sym now_is)
            (keeps_along first e.0 (h place) e.2.replays))
