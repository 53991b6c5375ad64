-- An operation whose timeout found it open has no result, and gets none.
use Rattle.std.proofs.Common.{◌≡◌, ◌≢◌, ◌⊎◌, inl, inr, ⊎_elim, ℕ, zero, suc, ◌<◌, List, [], ◌∷◌, refl, sym, ap, ◌∙◌, arith, Bool, true, false, Some, None}
use Rattle.std.specs.Prelude.{◌==◌, not, if◌then◌else◌, filter, find, slice_get}
use Rattle.model_history.proofs.PruneLaws.{IsIn, in_tail}
use Rattle.model_members.specs.DataType.{Replication}
use Rattle.model_members.specs.Node.{Node, OpenOperation, Finished, Input, Fate, Reply, Output, one_step_later}
use Rattle.model_members.specs.Node.Input.{Timeout}
use Rattle.model_members.specs.Step.{with_answer, answered, step}
use Rattle.theorem_operations.proofs.Opening.{opening_tells}
use Rattle.theorem_operations.proofs.Operations.{Change, OpenAfter, FinishedAfter, step_tells}
use Rattle.theorem_operations.proofs.Operations.Change.{Unchanged, Pushed, CountedFor, EndedFor, Dropped}
use Rattle.theorem_operations.proofs.Operations.OpenAfter.{Stays, Opened, Answered}
use Rattle.theorem_operations.proofs.Operations.FinishedAfter.{WasFinished, EndedNow}
use Rattle.theorem_sections.specs.Sections.{is_open, finished_at}
use Rattle.theorem_sections.specs.Histories.{Entry, AreSteps, replayed}
use Rattle.theorem_sections.proofs.NextDue.{same_or_not}
use Rattle.theorem_sections.proofs.RunOrder.{is_other}
use Rattle.theorem_sections.proofs.Questions.{number_grows, closed_stays}
use Rattle.theorem_sections.proofs.Standing.{has_op, any_front, counted_op, without_other, without_it, find_other, IsOpen, opened_here, opened_next, timeout_closes, finished_since}

find_none : {Shown : Type 0} (op : ℕ) (fs : List (Finished Shown)) → ((f : Finished Shown) → IsIn fs f → f.op ≢ op) → find (λ (f : Finished Shown). f.op == op) fs ≡ None
find_none op [] h = refl
find_none op (f ∷ fs) h = ap (λ b. if b then Some f else find (λ (f : Finished _). f.op == op) fs) (is_other f.op op (h f (zero, refl))) ∙ find_none op fs (λ g m. h g (in_tail f fs g m))

module _ {Kind Op Shown : Type 0} (D : Replication Kind Op Shown) where
  -- all operations of a member have numbers below the next one
  pub record AreBelow (n : Node Kind Op Shown) : Type 0 where
    pub stood : (o : OpenOperation) → IsIn n.open_operations o → o.op < n.next_op
    pub done : (f : Finished Shown) → IsIn n.finished f → f.op < n.next_op

  below_step : (n : Node Kind Op Shown) (input : Input Op) (fate : Fate) → AreBelow n → AreBelow (step D n input fate).node
  below_step n input fate below = record { stood = λ o m. by_open o ((step_tells D n input fate).operations o m); done = λ f m. by_done f ((step_tells D n input fate).finished f m) }
    where
      by_open : (o : OpenOperation) → OpenAfter n (step D n input fate).node input o → o.op < (step D n input fate).node.next_op
      by_open o (Stays m) = let a = below.stood o m in let b = number_grows D n input fate in omega (arith, a, b)
      by_open o (Opened a b) = omega (arith, a, b)
      by_open o (Answered from p counts is) = let a = below.stood p counts.stood in let b = number_grows D n input fate in let c : p.op ≡ o.op = ap (λ (x : OpenOperation). x.op) is in omega (arith, a, b, c)

      by_done : (f : Finished Shown) → FinishedAfter D n (step D n input fate).node input f → f.op < (step D n input fate).node.next_op
      by_done f (WasFinished m) = let a = below.done f m in let b = number_grows D n input fate in omega (arith, a, b)
      by_done f (EndedNow end) =
          let a = below.stood end.operation end.counts.stood in let b = number_grows D n input fate in let c : end.operation.op ≡ f.op = ap (λ (x : Finished Shown). x.op) end.is in omega (arith, a, b, c)

  -- so one that opens has no result yet
  pub opened_none : (op : ℕ) (n : Node Kind Op Shown) (input : Input Op) (fate : Fate) → AreBelow n → op ≡ n.next_op → finished_at op (Some (step D n input fate).node) ≡ None
  opened_none op n input fate below is = find_none op (step D n input fate).node.finished (λ f m. by f ((step_tells D n input fate).finished f m))
    where
      by : (f : Finished Shown) → FinishedAfter D n (step D n input fate).node input f → f.op ≢ op
      by f (WasFinished m) = λ same. let a = below.done f m in absurd (omega (arith, a, same, is))
      by f (EndedNow end) = λ same. let a = below.stood end.operation end.counts.stood in let c : end.operation.op ≡ f.op = ap (λ (x : Finished Shown). x.op) end.is in absurd (omega (arith, a, c, same, is))

  -- an open operation without a result stays so, or is closed
  open_or_closed : (op : ℕ) (n : Node Kind Op Shown) (input : Input Op) (fate : Fate) → IsOpen D op n → finished_at op (Some n) ≡ None
      → (IsOpen D op (step D n input fate).node × (finished_at op (Some (step D n input fate).node) ≡ None)) ⊎ (is_open op (Some (step D n input fate).node) ≡ false)
  open_or_closed op n input fate stood none = by (step_tells D n input fate).change
    where
      same : (step D n input fate).node.finished ≡ n.finished → finished_at op (Some (step D n input fate).node) ≡ None
      same b = ap (find (λ (f : Finished Shown). f.op == op)) b ∙ none

      by : Change D n (step D n input fate).node input → (IsOpen D op (step D n input fate).node × (finished_at op (Some (step D n input fate).node) ≡ None)) ⊎ (is_open op (Some (step D n input fate).node) ≡ false)
      by (Unchanged a b) = inl (ap (has_op op) a ∙ stood, same b)
      by (Pushed o e a b) = inl (ap (has_op op) a ∙ any_front (λ (o : OpenOperation). o.op == op) n.open_operations (o ∷ []) stood, same b)
      by (CountedFor from o c few a b) = inl (ap (has_op op) a ∙ counted_op op (with_answer from o) n.open_operations stood, same b)
      by (EndedFor from o end c e a b) = ⊎_elim
          (λ (is : o.op ≡ op). inr (ap (has_op op) a ∙ ap (λ m. has_op op (filter (λ (o : OpenOperation). not (o.op == m)) n.open_operations)) is ∙ without_it op n.open_operations))
          (λ isnt. inl (ap (has_op op) a ∙ without_other op o.op n.open_operations isnt stood, ap (find (λ (f : Finished Shown). f.op == op)) b ∙ find_other op n.finished end (λ is. isnt (sym e ∙ is)) ∙ none))
          (same_or_not o.op op)
      by (Dropped m e a b) = ⊎_elim
          (λ (is : m ≡ op). inr (ap (has_op op) a ∙ ap (λ m. has_op op (filter (λ (o : OpenOperation). not (o.op == m)) n.open_operations)) is ∙ without_it op n.open_operations))
          (λ isnt. inl (ap (has_op op) a ∙ without_other op m n.open_operations isnt stood, same b))
          (same_or_not m op)

  -- TIMEOUTS

  timeout_missed : (n : Node Kind Op Shown) (op : ℕ) (fate : Fate) → is_open op (Some n) ≡ false → (step D n (Timeout op) fate).output.reply ≡ Reply.NoSuchOp
  timeout_missed n op fate closed =
      ap (λ b. (if b then answered (record (one_step_later n) { open_operations = filter (λ (o : OpenOperation). not (o.op == op)) n.open_operations }) Reply.TimedOut else answered (one_step_later n) Reply.NoSuchOp).output.reply) closed

  timeout_finishes_none : (n : Node Kind Op Shown) (op : ℕ) (fate : Fate) → (step D n (Timeout op) fate).node.finished ≡ n.finished
  timeout_finishes_none n op fate = by (has_op op n.open_operations)
    where
      by : (b : Bool) → (if b then answered {Shown = Shown} (record (one_step_later n) { open_operations = filter (λ (o : OpenOperation). not (o.op == op)) n.open_operations }) Reply.TimedOut else answered (one_step_later n) Reply.NoSuchOp).node.finished ≡ n.finished
      by true = refl
      by false = refl

  not_both : (r : Reply Shown) → r ≡ Reply.TimedOut → r ≡ Reply.NoSuchOp → ⊥
  not_both r a b = let e = sym a ∙ b in cc e

  module _ (op : ℕ) (t : Entry Op Shown) (gives : t.input ≡ Timeout op) (found : t.output.reply ≡ Reply.TimedOut) where
    its_reply : (n : Node Kind Op Shown) (e : Entry Op Shown) (es : List (Entry Op Shown)) → AreSteps D n (e ∷ es) → e ≡ t → (step D n (Timeout op) e.fate).output.reply ≡ Reply.TimedOut
    its_reply n e es steps same = sym (ap (λ (o : Output Op Shown). o.reply) steps.2 ∙ ap (λ i. (step D n i e.fate).output.reply) (ap (λ (x : Entry Op Shown). x.input) same ∙ gives)) ∙ ap (λ (x : Entry Op Shown). x.output.reply) same ∙ found

    -- a closed operation was not found open
    not_closed : (number : ℕ) (n : Node Kind Op Shown) (es : List (Entry Op Shown)) → op < n.next_op → is_open op (Some n) ≡ false → AreSteps D n es → slice_get es number ≡ Some t → ⊥
    not_closed number n [] below closed steps at = cc at
    not_closed zero n (e ∷ es) below closed steps at = let same : e ≡ t = cc at in not_both (step D n (Timeout op) e.fate).output.reply (its_reply n e es steps same) (timeout_missed n op e.fate closed)
    not_closed (suc number) n (e ∷ es) below closed steps at =
        not_closed number (step D n e.input e.fate).node es (let a = number_grows D n e.input e.fate in omega (arith, a, below)) (closed_stays D n e.input e.fate op below closed) steps.3 at

    none_since : (number : ℕ) (n : Node Kind Op Shown) (es : List (Entry Op Shown)) → op < n.next_op → IsOpen D op n → finished_at op (Some n) ≡ None → AreSteps D n es → slice_get es number ≡ Some t → finished_at op (Some (replayed D n es)) ≡ None
    none_since number n [] below stood none steps at = absurd (cc at)
    none_since zero n (e ∷ es) below stood none steps at =
        let same : e ≡ t = cc at in
        let input : e.input ≡ Timeout op = ap (λ (x : Entry Op Shown). x.input) same ∙ gives in
        finished_since D op (step D n e.input e.fate).node es (let a = number_grows D n e.input e.fate in omega (arith, a, below))
        (ap (λ i. is_open op (Some (step D n i e.fate).node)) input ∙ timeout_closes D n op e.fate)
        ∙ ap (λ i. finished_at op (Some (step D n i e.fate).node)) input ∙ ap (find (λ (f : Finished Shown). f.op == op)) (timeout_finishes_none n op e.fate) ∙ none
    none_since (suc number) n (e ∷ es) below stood none steps at = ⊎_elim
        (λ (h : IsOpen D op (step D n e.input e.fate).node × (finished_at op (Some (step D n e.input e.fate).node) ≡ None)). none_since number (step D n e.input e.fate).node es (let a = number_grows D n e.input e.fate in omega (arith, a, below)) h.0 h.1 steps.3 at)
        (λ closed. absurd (not_closed number (step D n e.input e.fate).node es (let a = number_grows D n e.input e.fate in omega (arith, a, below)) closed steps.3 at))
        (open_or_closed op n e.input e.fate stood none)

    -- from the operation's opening on
    pub none_after_timeout : (index number : ℕ) (n : Node Kind Op Shown) (es : List (Entry Op Shown)) (e : Entry Op Shown) → AreBelow n → AreSteps D n es → slice_get es index ≡ Some e → e.output.reply ≡ Reply.Pending op → slice_get es number ≡ Some t → index < number
        → finished_at op (Some (replayed D n es)) ≡ None
    none_after_timeout index number n [] e below steps at reply at' h = absurd (cc at)
    none_after_timeout index zero n (y ∷ es) e below steps at reply at' h = absurd (omega (arith, h))
    none_after_timeout zero (suc number) n (y ∷ es) e below steps at reply at' h =
        let same : y ≡ e = cc at in
        let pending : y.output.reply ≡ Reply.Pending op = ap (λ (x : Entry Op Shown). x.output.reply) same ∙ reply in
        let said : (step D n y.input y.fate).output.reply ≡ Reply.Pending op = sym (ap (λ (o : Output Op Shown). o.reply) steps.2) ∙ pending in
        none_since number (step D n y.input y.fate).node es (opened_next D op n y es steps pending) (opened_here D op n y.input y.fate said) (opened_none op n y.input y.fate below (opening_tells D n 0 op y.input y.fate said).number) steps.3 at'
    none_after_timeout (suc index) (suc number) n (y ∷ es) e below steps at reply at' h = none_after_timeout index number (step D n y.input y.fate).node es e (below_step n y.input y.fate below) steps.3 at reply at' (omega (arith, h))
