-- Of one member along its history: a result that stands goes on standing, and an operation that was given up gets none.
use Rattle.std.proofs.Common.{◌≡◌, ◌≢◌, ◌⊎◌, inl, inr, ℕ, zero, suc, ◌<◌, List, [], ◌∷◌, ◌++◌, refl, sym, ap, subst, ◌∙◌, arith, Bool, true, false, true≢false, cond, Some, None}
use Rattle.std.specs.Prelude.{◌==◌, ◌||◌, not, filter, find, slice_get, if◌then◌else◌}
use Rattle.std.specs.List.{list_any}
use Rattle.std.proofs.lemmas.Bool.Decides.{Decides-eqb}
use Rattle.std.proofs.lemmas.List.{append-nil}
use Rattle.model_history.proofs.PruneLaws.{IsIn, in_append, in_tail}
use Rattle.model_members.specs.DataType.{Replication}
use Rattle.model_members.specs.Node.{Node, OpenOperation, Finished, Input, Fate, Reply, Output, Stepped, one_step_later}
use Rattle.model_members.specs.Step.{step, answered}
use Rattle.theorem_runs.proofs.Keeping.{if_tells}
use Rattle.theorem_operations.proofs.Opening.{opening_tells}
use Rattle.theorem_operations.proofs.Operations.{Change, OpenAfter, FinishedAfter, step_tells}
use Rattle.theorem_operations.proofs.Operations.Change.{Unchanged, Pushed, CountedFor, EndedFor, Dropped}
use Rattle.theorem_operations.proofs.Operations.OpenAfter.{Stays, Opened, Answered}
use Rattle.theorem_operations.proofs.Operations.FinishedAfter.{WasFinished, EndedNow}
use Rattle.theorem_sections.specs.Sections.{is_open, finished_at}
use Rattle.theorem_sections.specs.Histories.{Entry, AreSteps, replayed}
use Rattle.theorem_sections.proofs.Questions.{closed_stays, number_grows}

-- what is found first stays so where more comes behind
pub find_first : {X : Type 0} (p : X → Bool) (xs ys : List X) (x : X) → find p xs ≡ Some x → find p (xs ++ ys) ≡ Some x
find_first p [] ys x e = absurd (cc e)
find_first p (z ∷ xs) ys x e = go (p z) e (λ f. find_first p xs ys x f)
  where
    go : (b : Bool) → (if b then Some z else find p xs) ≡ Some x → (find p xs ≡ Some x → find p (xs ++ ys) ≡ Some x) → (if b then Some z else find p (xs ++ ys)) ≡ Some x
    go true e later = e
    go false e later = later e

-- nothing passes
pub find_none : {X : Type 0} (p : X → Bool) (xs : List X) → ((x : X) → IsIn xs x → p x ≡ false) → find p xs ≡ None
find_none p [] none = refl
find_none {X} p (z ∷ xs) none = go (p z) (none z (zero, refl)) (find_none p xs (λ x m. none x (in_tail z xs x m)))
  where
    go : (b : Bool) → b ≡ false → find p xs ≡ None → (if b then Some z else find p xs) ≡ None
    go true is later = absurd (cc is)
    go false is later = later

-- no operation of the number is left
pub all_dropped : (op : ℕ) (os : List OpenOperation) → list_any (λ (o : OpenOperation). o.op == op) (filter (λ (o : OpenOperation). not (o.op == op)) os) ≡ false
all_dropped op [] = refl
all_dropped op (o ∷ os) = go (o.op == op) refl (all_dropped op os)
  where
    rest : List OpenOperation
    rest = filter (λ (o : OpenOperation). not (o.op == op)) os

    go : (b : Bool) → (o.op == op) ≡ b → list_any (λ (o : OpenOperation). o.op == op) rest ≡ false → list_any (λ (o : OpenOperation). o.op == op) (cond (not b) (o ∷ rest) rest) ≡ false
    go true is later = later
    go false is later = ap (λ b. b || list_any (λ (o : OpenOperation). o.op == op) rest) is ∙ later

module _ {Kind Op Shown : Type 0} (D : Replication Kind Op Shown) where
  abbrev after : Node Kind Op Shown → Input Op → Fate → Node Kind Op Shown
  after n input fate = (step D n input fate).node

  -- RESULTS THAT STAND

  finished_grows : (n : Node Kind Op Shown) (input : Input Op) (fate : Fate) → (more : List (Finished Shown)) × ((after n input fate).finished ≡ n.finished ++ more)
  finished_grows n input fate = by (step_tells D n input fate).change
    where
      same : (after n input fate).finished ≡ n.finished → (more : List (Finished Shown)) × ((after n input fate).finished ≡ n.finished ++ more)
      same e = ([], e ∙ sym (append-nil n.finished))

      by : Change D n (after n input fate) input → (more : List (Finished Shown)) × ((after n input fate).finished ≡ n.finished ++ more)
      by (Unchanged a b) = same b
      by (Pushed o e a b) = same b
      by (CountedFor from o c few a b) = same b
      by (EndedFor from o end c e a b) = (end ∷ [], b)
      by (Dropped m e a b) = same b

  pub result_stands : (op : ℕ) (f : Finished Shown) (n : Node Kind Op Shown) (es : List (Entry Op Shown)) → finished_at op (Some n) ≡ Some f → finished_at op (Some (replayed D n es)) ≡ Some f
  result_stands op f n [] is = is
  result_stands op f n (e ∷ es) is =
      let grown = finished_grows n e.input e.fate in
      result_stands op f (after n e.input e.fate) es
      (ap (find (λ (f : Finished Shown). f.op == op)) grown.1 ∙ find_first (λ (f : Finished Shown). f.op == op) n.finished grown.0 f is)

  -- NUMBERS

  -- all operations of a member have numbers below its next one
  pub record AreBelow (n : Node Kind Op Shown) : Type 0 where
    pub stood : (o : OpenOperation) → IsIn n.open_operations o → o.op < n.next_op
    pub done : (f : Finished Shown) → IsIn n.finished f → f.op < n.next_op

  below_after : (n : Node Kind Op Shown) (input : Input Op) (fate : Fate) → AreBelow n → AreBelow (after n input fate)
  below_after n input fate below =
      record {
        stood = λ p m. by_open p ((step_tells D n input fate).operations p m);
        done = λ f m. by_done f ((step_tells D n input fate).finished f m);
      }
    where
      by_open : (p : OpenOperation) → OpenAfter n (after n input fate) input p → p.op < (after n input fate).next_op
      by_open p (Stays h) = let a = below.stood p h in let b = number_grows D n input fate in omega (arith, a, b)
      by_open p (Opened is new) = omega (arith, is, new)
      by_open p (Answered from o c is) =
          let a = below.stood o c.stood in let b = number_grows D n input fate in let s : o.op ≡ p.op = ap (λ (x : OpenOperation). x.op) is in omega (arith, a, b, s)

      by_done : (f : Finished Shown) → FinishedAfter D n (after n input fate) input f → f.op < (after n input fate).next_op
      by_done f (WasFinished h) = let a = below.done f h in let b = number_grows D n input fate in omega (arith, a, b)
      by_done f (EndedNow e) =
          let a = below.stood e.operation e.counts.stood in let b = number_grows D n input fate in let s : e.operation.op ≡ f.op = ap (λ (x : Finished Shown). x.op) e.is in omega (arith, a, b, s)

  -- AN OPERATION WITHOUT A RESULT

  abbrev pub HasNoResult : ℕ → Node Kind Op Shown → Type 0
  HasNoResult op n = (f : Finished Shown) → IsIn n.finished f → f.op ≢ op

  abbrev pub IsClosed : ℕ → Node Kind Op Shown → Type 0
  IsClosed op n = is_open op (Some n) ≡ false

  -- its number was given, and while it is open it has no result
  pub record HasNoneYet (op : ℕ) (n : Node Kind Op Shown) : Type 0 where
    pub given : op < n.next_op
    pub none : IsClosed op n ⊎ HasNoResult op n

  same_results : (op : ℕ) (n m : Node Kind Op Shown) → m.finished ≡ n.finished → HasNoResult op n → HasNoResult op m
  same_results op n m e none = λ f h. none f (subst (λ (fs : List (Finished Shown)). IsIn fs f) e h)

  another_result : (op : ℕ) (n m : Node Kind Op Shown) (end : Finished Shown) → m.finished ≡ n.finished ++ end ∷ [] → end.op ≢ op → HasNoResult op n → HasNoResult op m
  another_result op n m end e other none = λ f h. by f (in_append n.finished (end ∷ []) f (subst (λ (fs : List (Finished Shown)). IsIn fs f) e h))
    where
      by : (f : Finished Shown) → IsIn n.finished f ⊎ IsIn (end ∷ []) f → f.op ≢ op
      by f (inl h) = none f h
      by f (inr (zero, h)) = λ is. other (let s : end ≡ f = cc h in ap (λ (x : Finished Shown). x.op) s ∙ is)
      by f (inr (suc k, h)) = absurd (cc h)

  none_yet_after : (op : ℕ) (n : Node Kind Op Shown) (input : Input Op) (fate : Fate) → HasNoneYet op n → HasNoneYet op (after n input fate)
  none_yet_after op n input fate yet =
      record { given = (let a = number_grows D n input fate in let b = yet.given in omega (arith, a, b)); none = by yet.none }
    where
      by_change : HasNoResult op n → Change D n (after n input fate) input → IsClosed op (after n input fate) ⊎ HasNoResult op (after n input fate)
      by_change none (Unchanged a b) = inr (same_results op n (after n input fate) b none)
      by_change none (Pushed o e a b) = inr (same_results op n (after n input fate) b none)
      by_change none (CountedFor from o c few a b) = inr (same_results op n (after n input fate) b none)
      by_change none (Dropped m e a b) = inr (same_results op n (after n input fate) b none)
      by_change none (EndedFor from o end c e a b) = by_number (o.op == op) refl
        where
          by_number : (t : Bool) → (o.op == op) ≡ t → IsClosed op (after n input fate) ⊎ HasNoResult op (after n input fate)
          by_number true is =
              let same : o.op ≡ op = (Decides-eqb o.op op).0 is in
              inl (ap (list_any (λ (p : OpenOperation). p.op == op)) (a ∙ ap (λ x. filter (λ (p : OpenOperation). not (p.op == x)) n.open_operations) same) ∙ all_dropped op n.open_operations)
          by_number false is = inr (another_result op n (after n input fate) end b (λ s. absurd (true≢false (sym ((Decides-eqb o.op op).1 (sym e ∙ s)) ∙ is))) none)

      by : IsClosed op n ⊎ HasNoResult op n → IsClosed op (after n input fate) ⊎ HasNoResult op (after n input fate)
      by (inl closed) = inl (closed_stays D n input fate op yet.given closed)
      by (inr none) = by_change none (step_tells D n input fate).change

  -- it was given up, and has no result
  pub record IsDropped (op : ℕ) (n : Node Kind Op Shown) : Type 0 where
    pub given : op < n.next_op
    pub closed : IsClosed op n
    pub none : HasNoResult op n

  dropped_after : (op : ℕ) (n : Node Kind Op Shown) (input : Input Op) (fate : Fate) → IsDropped op n → IsDropped op (after n input fate)
  dropped_after op n input fate dropped =
      record { given = (let a = number_grows D n input fate in let b = dropped.given in omega (arith, a, b)); closed = closed_stays D n input fate op dropped.given dropped.closed; none = by (step_tells D n input fate).change }
    where
      by : Change D n (after n input fate) input → HasNoResult op (after n input fate)
      by (Unchanged a b) = same_results op n (after n input fate) b dropped.none
      by (Pushed o e a b) = same_results op n (after n input fate) b dropped.none
      by (CountedFor from o c few a b) = same_results op n (after n input fate) b dropped.none
      by (Dropped m e a b) = same_results op n (after n input fate) b dropped.none
      by (EndedFor from o end c e a b) = another_result op n (after n input fate) end b (λ s. stood n.open_operations o c.stood (sym e ∙ s) dropped.closed) dropped.none
        where
          stood : (os : List OpenOperation) (o : OpenOperation) → IsIn os o → o.op ≡ op → list_any (λ (p : OpenOperation). p.op == op) os ≡ false → ⊥
          stood [] o m s h = absurd (cc m.1)
          stood (p ∷ os) o (zero, m) s h =
              let is : p ≡ o = cc m in
              true≢false (sym (ap (λ b. b || list_any (λ (p : OpenOperation). p.op == op) os) ((Decides-eqb p.op op).1 (ap (λ (x : OpenOperation). x.op) is ∙ s))) ∙ h)
          stood (p ∷ os) o (suc k, m) s h = stood os o (k, m) s (later (p.op == op) h)
            where
              later : (b : Bool) → (b || list_any (λ (p : OpenOperation). p.op == op) os) ≡ false → list_any (λ (p : OpenOperation). p.op == op) os ≡ false
              later true e = absurd (cc e)
              later false e = e

  -- what opens has no result
  opened_none : (op : ℕ) (n : Node Kind Op Shown) (input : Input Op) (fate : Fate) → AreBelow n → op ≡ n.next_op → n.next_op < (after n input fate).next_op → HasNoneYet op (after n input fate)
  opened_none op n input fate below is more = record { given = omega (arith, is, more); none = inr (λ f m. by f ((step_tells D n input fate).finished f m)) }
    where
      by : (f : Finished Shown) → FinishedAfter D n (after n input fate) input f → f.op ≢ op
      by f (WasFinished h) = λ s. absurd (let a = below.done f h in omega (arith, a, is, s))
      by f (EndedNow e) = λ s. absurd (let a = below.stood e.operation e.counts.stood in let t : e.operation.op ≡ f.op = ap (λ (x : Finished Shown). x.op) e.is in omega (arith, a, is, s, t))

  -- a timeout that gave up
  given_up : (op : ℕ) (n : Node Kind Op Shown) (fate : Fate) → HasNoneYet op n → (step D n (Input.Timeout op) fate).output.reply ≡ Reply.TimedOut → IsDropped op (after n (Input.Timeout op) fate)
  given_up op n fate yet =
      if_tells (λ (s : Stepped Kind Op Shown). s.output.reply ≡ Reply.TimedOut → IsDropped op s.node) (list_any (λ (o : OpenOperation). o.op == op) n.open_operations)
      (answered (record (one_step_later n) { open_operations = filter (λ (o : OpenOperation). not (o.op == op)) n.open_operations }) Reply.TimedOut) (answered (one_step_later n) Reply.NoSuchOp)
      (λ there e. record { given = yet.given; closed = all_dropped op n.open_operations; none = by there yet.none })
      (λ closed e. absurd (cc e))
    where
      by : list_any (λ (o : OpenOperation). o.op == op) n.open_operations ≡ true → IsClosed op n ⊎ HasNoResult op n → HasNoResult op n
      by there (inl closed) = absurd (true≢false (sym there ∙ closed))
      by there (inr none) = none

  -- ALONG A HISTORY

  dropped_since : (op : ℕ) (n : Node Kind Op Shown) (es : List (Entry Op Shown)) → IsDropped op n → IsDropped op (replayed D n es)
  dropped_since op n [] dropped = dropped
  dropped_since op n (e ∷ es) dropped = dropped_since op (after n e.input e.fate) es (dropped_after op n e.input e.fate dropped)

  none_yet_since : (op : ℕ) (n : Node Kind Op Shown) (es : List (Entry Op Shown)) → HasNoneYet op n → HasNoneYet op (replayed D n es)
  none_yet_since op n [] yet = yet
  none_yet_since op n (e ∷ es) yet = none_yet_since op (after n e.input e.fate) es (none_yet_after op n e.input e.fate yet)

  -- from where none is yet, to where it was given up
  dropped_at : (op : ℕ) (n : Node Kind Op Shown) (es : List (Entry Op Shown)) (k : ℕ) (e : Entry Op Shown) → AreSteps D n es → HasNoneYet op n → slice_get es k ≡ Some e → e.input ≡ Input.Timeout op → e.output.reply ≡ Reply.TimedOut
      → IsDropped op (replayed D n es)
  dropped_at op n [] k e steps yet at asks replied = absurd (cc at)
  dropped_at op n (y ∷ es) zero e steps yet at asks replied =
      let same : y ≡ e = cc at in
      let timeout : y.input ≡ Input.Timeout op = ap (λ (x : Entry Op Shown). x.input) same ∙ asks in
      dropped_since op (after n y.input y.fate) es
      (subst (λ (input : Input Op). IsDropped op (after n input y.fate)) (sym timeout)
      (given_up op n y.fate yet (sym (ap (λ (input : Input Op). (step D n input y.fate).output.reply) timeout) ∙ sym (ap (λ (o : Output Op Shown). o.reply) steps.2) ∙ ap (λ (x : Entry Op Shown). x.output.reply) same ∙ replied)))
  dropped_at op n (y ∷ es) (suc k) e steps yet at asks replied = dropped_at op (after n y.input y.fate) es k e steps.3 (none_yet_after op n y.input y.fate yet) at asks replied

  none_at_opening : (op : ℕ) (n : Node Kind Op Shown) (y d : Entry Op Shown) → AreBelow n → y.output ≡ (step D n y.input y.fate).output → y ≡ d → d.output.reply ≡ Reply.Pending op → HasNoneYet op (after n y.input y.fate)
  none_at_opening op n y d below is same pending =
      let opens = opening_tells D n 0 op y.input y.fate (sym (ap (λ (o : Output Op Shown). o.reply) is) ∙ ap (λ (x : Entry Op Shown). x.output.reply) same ∙ pending) in
      opened_none op n y.input y.fate below opens.number opens.next

  -- from before its opening
  pub none_yet : (op : ℕ) (n : Node Kind Op Shown) (es : List (Entry Op Shown)) (opened : ℕ) (d : Entry Op Shown) → AreSteps D n es → AreBelow n → slice_get es opened ≡ Some d → d.output.reply ≡ Reply.Pending op
      → HasNoneYet op (replayed D n es)
  none_yet op n [] opened d steps below at pending = absurd (cc at)
  none_yet op n (y ∷ es) zero d steps below at pending = none_yet_since op (after n y.input y.fate) es (none_at_opening op n y d below steps.2 (cc at) pending)
  none_yet op n (y ∷ es) (suc opened) d steps below at pending = none_yet op (after n y.input y.fate) es opened d steps.3 (below_after n y.input y.fate below) at pending

  pub dropped_between : (op : ℕ) (n : Node Kind Op Shown) (es : List (Entry Op Shown)) (opened closed : ℕ) (d e : Entry Op Shown) → AreSteps D n es → AreBelow n → opened < closed
      → slice_get es opened ≡ Some d → d.output.reply ≡ Reply.Pending op → slice_get es closed ≡ Some e → e.input ≡ Input.Timeout op → e.output.reply ≡ Reply.TimedOut → IsDropped op (replayed D n es)
  dropped_between op n [] opened closed d e steps below order at pending there asks replied = absurd (cc at)
  dropped_between op n (y ∷ es) opened zero d e steps below order at pending there asks replied = absurd (omega (arith, order))
  dropped_between op n (y ∷ es) zero (suc closed) d e steps below order at pending there asks replied =
      dropped_at op (after n y.input y.fate) es closed e steps.3 (none_at_opening op n y d below steps.2 (cc at) pending) there asks replied
  dropped_between op n (y ∷ es) (suc opened) (suc closed) d e steps below order at pending there asks replied =
      dropped_between op (after n y.input y.fate) es opened closed d e steps.3 (below_after n y.input y.fate below) (omega (arith, order)) at pending there asks replied

  -- an open one has none
  pub no_result_of : (op : ℕ) (n : Node Kind Op Shown) → HasNoneYet op n → is_open op (Some n) ≡ true → finished_at op (Some n) ≡ None
  no_result_of op n yet opens = by yet.none
    where
      none_there : HasNoResult op n → (f : Finished Shown) → IsIn n.finished f → (f.op == op) ≡ false
      none_there none f m = by_test (f.op == op) refl
        where
          by_test : (b : Bool) → (f.op == op) ≡ b → b ≡ false
          by_test true is = absurd (none f m ((Decides-eqb f.op op).0 is))
          by_test false is = refl

      by : IsClosed op n ⊎ HasNoResult op n → finished_at op (Some n) ≡ None
      by (inl closed) = absurd (true≢false (sym opens ∙ closed))
      by (inr none) = find_none (λ (f : Finished Shown). f.op == op) n.finished (none_there none)
