-- A step leaves each history a part of what it becomes, and where the records of a union or of a taken group come from.
use Rattle.std.proofs.Common.{◌≡◌, ℕ, zero, suc, ◌≤◌, List, [], ◌∷◌, ◌++◌, length, take, drop, sym, ap, ◌∙◌, Some, ◌⊎◌, inl, inr}
use Rattle.std.specs.Prelude.{slice_get, ⊤}
use Rattle.std.proofs.lemmas.Bool.Decides.{eqb_tells}
use Rattle.model_history.specs.Texts.{Text}
use Rattle.model_history.specs.History.{Record, History, at, continued, union, HasRecord, IsPartOf}
use Rattle.model_history.proofs.HistoryLaws.{with_at_same, with_at_other, append_nothing, slice_get-take}
use Rattle.model_history.proofs.PartLaws.{take_front, take_whole, part_trans, part-le, part_with_record}
use Rattle.model_history.proofs.PruneLaws.{IsIn}
use Rattle.model_members.specs.View.{View}
use Rattle.model_members.specs.Entry.{Entry, Group, with_group}
use Rattle.model_members.specs.DataType.{Replication}
use Rattle.model_members.specs.Node.{Node, Input, Fate}
use Rattle.model_members.specs.Node.Input.{Update, Get, Take, Install, Flush, GossipTo, PruneTick, Timeout}
use Rattle.model_members.specs.Step.{step}
use Rattle.theorem_runs.proofs.Keeping.{AreKept, AnyTick}
use Rattle.theorem_runs.proofs.Stepping.{BringsInput, keeps_any, all_trivial}

-- RECORDS

module _ {X : Type 0} where
  has_appended : (xs ys : List X) (k : ℕ) (x : X) → slice_get (xs ++ ys) k ≡ Some x → (slice_get xs k ≡ Some x) ⊎ IsIn ys x
  has_appended [] ys k x e = inr (k, e)
  has_appended (z ∷ xs) ys zero x e = inl e
  has_appended (z ∷ xs) ys (suc k) x e = has_appended xs ys k x e

  has_continued : (xs ys : List X) (k : ℕ) (x : X) → slice_get (xs ++ drop (length xs) ys) k ≡ Some x → (slice_get xs k ≡ Some x) ⊎ (slice_get ys k ≡ Some x)
  has_continued [] ys k x e = inr e
  has_continued (z ∷ xs) [] k x e = inl (sym (ap (λ zs. slice_get zs k) (append_nothing (z ∷ xs))) ∙ e)
  has_continued (z ∷ xs) (y ∷ ys) zero x e = inl e
  has_continued (z ∷ xs) (y ∷ ys) (suc k) x e = has_continued xs ys k x e

module _ {Op : Type 0} where
  -- a record of a union is one of either
  pub has_union : (H J : History Op) (o k : ℕ) (x : Record Op) → HasRecord (union H J) o k x → HasRecord H o k x ⊎ HasRecord J o k x
  has_union H J o k x e = has_continued (H o) (J o) k x e

  -- a record after a group was taken was there, or is one of the group
  pub has_with_group : (entry : Entry Op) (group : Group Op) (o k : ℕ) (x : Record Op) → HasRecord (with_group entry group).history o k x → HasRecord entry.history o k x ⊎ IsIn group.group_records x
  has_with_group entry group o k x e = elim (eqb_tells o group.origin) [
    | inl is ↦ here is.1 (has_continued (entry.history group.origin) (take group.after (entry.history group.origin) ++ group.group_records) k x (sym (ap (λ (xs : List (Record Op)). slice_get xs k) (ap (with_group entry group).history is.1 ∙ with_at_same entry.history group.origin _)) ∙ e))
    | inr isnt ↦ inl (sym (ap (λ (xs : List (Record Op)). slice_get xs k) (with_at_other entry.history group.origin _ o isnt.1)) ∙ e)
  ]
    where
      here : o ≡ group.origin → (slice_get (entry.history group.origin) k ≡ Some x) ⊎ (slice_get (take group.after (entry.history group.origin) ++ group.group_records) k ≡ Some x) → HasRecord entry.history o k x ⊎ IsIn group.group_records x
      here is (inl old) = inl (ap (λ j. slice_get (entry.history j) k) is ∙ old)
      here is (inr new) = elim (has_appended (take group.after (entry.history group.origin)) group.group_records k x new) [
        | inl first ↦ inl (ap (λ j. slice_get (entry.history j) k) is ∙ (slice_get-take (entry.history group.origin) group.after k x first).1)
        | inr fresh ↦ inr fresh
      ]

  -- PARTS

  pub part_same : (H : History Op) → IsPartOf H H
  part_same H j = sym (take_whole (H j))

  pub part_of_union : (H J : History Op) → IsPartOf H (union H J)
  part_of_union H J j = sym (take_front (H j) (drop (at H j) (J j)))

  pub part_with_group : (entry : Entry Op) (group : Group Op) → IsPartOf entry.history (with_group entry group).history
  part_with_group entry group j = elim (eqb_tells j group.origin) [
    | inl is ↦ rw is.1 (sym (ap (take (at entry.history group.origin)) (with_at_same entry.history group.origin (continued (entry.history group.origin) (take group.after (entry.history group.origin) ++ group.group_records))) ∙ take_front (entry.history group.origin) _))
    | inr isnt ↦ sym (ap (take (at entry.history j)) (with_at_other entry.history group.origin _ j isnt.1) ∙ take_whole (entry.history j))
  ]

  -- what was held of each key is a part
  pub record IsGrown (base : Text → Entry Op) (key : Text) (entry : Entry Op) : Type 0 where
    pub part : IsPartOf (base key).history entry.history

  pub grown_kept : (base : Text → Entry Op) (i : ℕ) (view : View) → AreKept (IsGrown base) (λ key theirs. ⊤) (λ key group. ⊤) AnyTick i view
  grown_kept base i view =
      record {
        added = λ key entry op p. record { part = part_trans (base key).history entry.history _ p.part (part_with_record entry.history i _) };
        took = λ key mine theirs p m. record { part = part_trans (base key).history mine.history _ p.part (part_of_union mine.history theirs.history) };
        grouped = λ key entry group judgement p g. record { part = part_trans (base key).history entry.history _ p.part (part_with_group entry group) };
        marks = λ key entry shares r ticks due p. record { part = p.part };
        prunes = λ key entry shares r ticks due seen p. record { part = part_trans (base key).history entry.history _ p.part (part_with_record entry.history i _) };
      }

-- A STEP

module _ {Kind Op Shown : Type 0} (D : Replication Kind Op Shown) (node : Node Kind Op Shown) where
  abbrev Nothing : Text → Group Op → Type 0
  Nothing key group = ⊤

  brings : (input : Input Op) → BringsInput D (IsGrown node.entries) (λ key theirs. ⊤) Nothing AnyTick node input
  brings (Update key op level) = tt
  brings (Get key level) = tt
  brings (Take from message) = λ member. record { entries = all_trivial _; groups = all_trivial _ }
  brings (Install view) = λ later key entry p. record { part = p.part }
  brings Flush = tt
  brings (GossipTo i) = tt
  brings PruneTick = λ key r. tt
  brings (Timeout op) = tt

  pub step_grows : (input : Input Op) (fate : Fate) (key : Text) → IsPartOf (node.entries key).history ((step D node input fate).node.entries key).history
  step_grows input fate key =
      (keeps_any D (IsGrown node.entries) (λ key theirs. ⊤) Nothing AnyTick node (grown_kept node.entries node.identity node.view) input fate (brings input) (λ k. record { part = part_same (node.entries k).history }) key).part

  pub step_no_fewer : (input : Input Op) (fate : Fate) (key : Text) (r : ℕ) → at (node.entries key).history r ≤ at ((step D node input fate).node.entries key).history r
  step_no_fewer input fate key r = part-le (node.entries key).history ((step D node input fate).node.entries key).history (step_grows input fate key) r
