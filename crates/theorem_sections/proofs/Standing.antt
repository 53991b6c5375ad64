-- How an operation of a member stands along its history: open, until it finishes or its timeout comes; and closed ever after.
use Rattle.std.proofs.Common.{◌≡◌, ◌≢◌, ◌⊎◌, inl, inr, ⊎_elim, ℕ, zero, suc, ◌<◌, ◌≤◌, List, [], ◌∷◌, ◌++◌, length, map, refl, sym, ap, subst, ◌∙◌, arith, Bool, true, false, true≢false, Option, Some, None}
use Rattle.std.specs.Prelude.{◌==◌, ◌||◌, not, if◌then◌else◌, filter, find, is_some, slice_get}
use Rattle.std.specs.List.{list_any}
use Rattle.std.specs.Option.{option_or}
use Rattle.std.proofs.lemmas.List.Folds.{find-append}
use Rattle.model_history.specs.Vector.{alone}
use Rattle.model_history.proofs.PruneLaws.{IsIn}
use Rattle.model_members.specs.DataType.{Replication}
use Rattle.model_members.specs.Message.{Message}
use Rattle.model_members.specs.Message.Message.{WriteAck, ReadAnswer}
use Rattle.model_members.specs.Node.{Node, OpenOperation, Finished, Input, Fate, Reply, Output, one_step_later}
use Rattle.model_members.specs.Node.Input.{Take, Timeout}
use Rattle.model_members.specs.Step.{with_answer, answered, step}
use Rattle.theorem_operations.proofs.Lists.{any_in, or_left, or_right, same_number, all_first, all_last}
use Rattle.theorem_operations.proofs.Opening.{opening_tells}
use Rattle.theorem_operations.proofs.Operations.{Change, IsAnswer, step_tells}
use Rattle.theorem_operations.proofs.Operations.IsAnswer.{Acked, ReadBack}
use Rattle.theorem_operations.proofs.Operations.Change.{Unchanged, Pushed, CountedFor, EndedFor, Dropped}
use Rattle.theorem_sections.specs.Sections.{answers, is_open, finished_at}
use Rattle.theorem_sections.specs.Histories.{Entry, Passed, taken_by, taken_from, AreSteps, replayed}
use Rattle.theorem_sections.proofs.NextDue.{same_or_not}
use Rattle.theorem_sections.proofs.RunOrder.{is_same, is_other}
use Rattle.theorem_sections.proofs.Asked.{NoneAnswers}
use Rattle.theorem_sections.proofs.Questions.{number_grows, closed_stays}

-- LISTS

pub any_front : {X : Type 0} (p : X → Bool) (xs ys : List X) → list_any p xs ≡ true → list_any p (xs ++ ys) ≡ true
any_front p [] ys e = absurd (cc e)
any_front p (x ∷ xs) ys e = by (p x) e (any_front p xs ys)
  where
    by : (b : Bool) → (b || list_any p xs) ≡ true → (list_any p xs ≡ true → list_any p (xs ++ ys) ≡ true) → (b || list_any p (xs ++ ys)) ≡ true
    by true e later = refl
    by false e later = later e

any_end : {X : Type 0} (p : X → Bool) (xs : List X) (x : X) → p x ≡ true → list_any p (xs ++ x ∷ []) ≡ true
any_end p [] x e = or_left (p x) false e
any_end p (y ∷ xs) x e = or_right (p y) (list_any p (xs ++ x ∷ [])) (any_end p xs x e)

-- operations of these numbers
abbrev pub has_op : ℕ → List OpenOperation → Bool
has_op op os = list_any (λ (o : OpenOperation). o.op == op) os

pub counted_op : (op : ℕ) (new : OpenOperation) (os : List OpenOperation) → has_op op os ≡ true → has_op op (map (λ (o : OpenOperation). if o.op == new.op then new else o) os) ≡ true
counted_op op new [] e = absurd (cc e)
counted_op op new (o ∷ os) e = by (o.op == new.op) refl (o.op == op) refl e (counted_op op new os)
  where
    rest : List OpenOperation
    rest = map (λ (o : OpenOperation). if o.op == new.op then new else o) os

    by : (b : Bool) → (o.op == new.op) ≡ b → (a : Bool) → (o.op == op) ≡ a → (a || has_op op os) ≡ true → (has_op op os ≡ true → has_op op rest ≡ true) → (((if b then new else o).op == op) || has_op op rest) ≡ true
    by true is true is' e later = or_left (new.op == op) (has_op op rest) (is_same new.op op (sym (same_number o.op new.op is) ∙ same_number o.op op is'))
    by false is true is' e later = or_left (o.op == op) (has_op op rest) is'
    by true is false is' e later = or_right (new.op == op) (has_op op rest) (later e)
    by false is false is' e later = or_right (o.op == op) (has_op op rest) (later e)

-- one of another number goes
pub without_other : (op other : ℕ) (os : List OpenOperation) → other ≢ op → has_op op os ≡ true → has_op op (filter (λ (o : OpenOperation). not (o.op == other)) os) ≡ true
without_other op other [] isnt e = absurd (cc e)
without_other op other (o ∷ os) isnt e = by (o.op == other) refl (o.op == op) refl e (without_other op other os isnt)
  where
    rest : List OpenOperation
    rest = filter (λ (o : OpenOperation). not (o.op == other)) os

    by : (b : Bool) → (o.op == other) ≡ b → (a : Bool) → (o.op == op) ≡ a → (a || has_op op os) ≡ true → (has_op op os ≡ true → has_op op rest ≡ true) → has_op op (if not b then o ∷ rest else rest) ≡ true
    by true is true is' e later = absurd (isnt (sym (same_number o.op other is) ∙ same_number o.op op is'))
    by true is false is' e later = later e
    by false is true is' e later = or_left (o.op == op) (has_op op rest) is'
    by false is false is' e later = or_right (o.op == op) (has_op op rest) (later e)

-- one goes by its number
pub without_it : (op : ℕ) (os : List OpenOperation) → has_op op (filter (λ (o : OpenOperation). not (o.op == op)) os) ≡ false
without_it op [] = refl
without_it op (o ∷ os) = by (o.op == op) refl (without_it op os)
  where
    rest : List OpenOperation
    rest = filter (λ (o : OpenOperation). not (o.op == op)) os

    by : (b : Bool) → (o.op == op) ≡ b → has_op op rest ≡ false → has_op op (if not b then o ∷ rest else rest) ≡ false
    by true is later = later
    by false is later = ap (λ b. b || has_op op rest) is ∙ later

none_has : (op : ℕ) (os : List OpenOperation) (o : OpenOperation) → IsIn os o → has_op op os ≡ false → o.op ≢ op
none_has op os o h e = λ is. true≢false (sym (any_in (λ (o : OpenOperation). o.op == op) os o h (is_same o.op op is)) ∙ e)

module _ {Shown : Type 0} where
  abbrev of_op : ℕ → Finished Shown → Bool
  of_op op f = f.op == op

  find_front : (op : ℕ) (fs gs : List (Finished Shown)) (f : Finished Shown) → find (of_op op) fs ≡ Some f → find (of_op op) (fs ++ gs) ≡ Some f
  find_front op fs gs f e = find-append (of_op op) fs gs ∙ ap (λ o. option_or o (find (of_op op) gs)) e

  find_end : (op : ℕ) (fs : List (Finished Shown)) (end : Finished Shown) → end.op ≡ op → is_some (find (of_op op) (fs ++ end ∷ [])) ≡ true
  find_end op fs end is = ap is_some (find-append (of_op op) fs (end ∷ [])) ∙ ap (λ o. is_some (option_or (find (of_op op) fs) o)) (ap (λ b. if b then Some end else None) (is_same end.op op is)) ∙ by (find (of_op op) fs)
    where
      by : (o : Option (Finished Shown)) → is_some (option_or o (Some end)) ≡ true
      by None = refl
      by (Some f) = refl

  pub find_other : (op : ℕ) (fs : List (Finished Shown)) (end : Finished Shown) → end.op ≢ op → find (of_op op) (fs ++ end ∷ []) ≡ find (of_op op) fs
  find_other op fs end isnt = find-append (of_op op) fs (end ∷ []) ∙ ap (λ o. option_or (find (of_op op) fs) o) (ap (λ b. if b then Some end else None) (is_other end.op op isnt)) ∙ by (find (of_op op) fs)
    where
      by : (o : Option (Finished Shown)) → option_or o None ≡ o
      by None = refl
      by (Some f) = refl

  some_front : (op : ℕ) (fs gs : List (Finished Shown)) → is_some (find (of_op op) fs) ≡ true → is_some (find (of_op op) (fs ++ gs)) ≡ true
  some_front op fs gs e = by (find (of_op op) fs) refl e
    where
      by : (o : Option (Finished Shown)) → find (of_op op) fs ≡ o → is_some o ≡ true → is_some (find (of_op op) (fs ++ gs)) ≡ true
      by None is e = absurd (cc e)
      by (Some f) is e = ap is_some (find_front op fs gs f is)

module _ {Kind Op Shown : Type 0} (D : Replication Kind Op Shown) where
  -- it has a result
  abbrev pub HasFinished : ℕ → Node Kind Op Shown → Type 0
  HasFinished op n = is_some (find (λ (f : Finished Shown). f.op == op) n.finished) ≡ true

  abbrev pub IsOpen : ℕ → Node Kind Op Shown → Type 0
  IsOpen op n = is_open op (Some n) ≡ true

  -- BY A STEP

  module _ (n : Node Kind Op Shown) (input : Input Op) (fate : Fate) where
    -- an open operation stays open, or is finished by the answer that is taken, unless its timeout comes
    data OpenThen (op : ℕ) : Type 0 where
      StaysOpen : IsOpen op (step D n input fate).node → OpenThen op
      Finishes : HasFinished op (step D n input fate).node → (from : ℕ) (m : Message Op) → input ≡ Take from m → answers op m ≡ true → OpenThen op

    open_then : (op : ℕ) → IsOpen op n → input ≢ Timeout op → OpenThen op
    open_then op stood no_timeout = by (step_tells D n input fate).change
      where
        after : Node Kind Op Shown
        after = (step D n input fate).node

        ends : (o : OpenOperation) (end : Finished Shown) (from : ℕ) → IsAnswer input from o → o.op ≡ op → end.op ≡ o.op → (step D n input fate).node.finished ≡ n.finished ++ end ∷ [] → OpenThen op
        ends o end from (Acked is write) same e b =
            Finishes (subst (λ (fs : List (Finished Shown)). is_some (find (λ (f : Finished Shown). f.op == op) fs) ≡ true) (sym b) (find_end op n.finished end (e ∙ same))) from (WriteAck o.op) is (is_same o.op op same)
        ends o end from (ReadBack entry is reads) same e b =
            Finishes (subst (λ (fs : List (Finished Shown)). is_some (find (λ (f : Finished Shown). f.op == op) fs) ≡ true) (sym b) (find_end op n.finished end (e ∙ same))) from (ReadAnswer o.op o.key entry) is (is_same o.op op same)

        by : Change D n (step D n input fate).node input → OpenThen op
        by (Unchanged a b) = StaysOpen (subst (λ os. has_op op os ≡ true) (sym a) stood)
        by (Pushed o e a b) = StaysOpen (subst (λ os. has_op op os ≡ true) (sym a) (any_front (λ (o : OpenOperation). o.op == op) n.open_operations (o ∷ []) stood))
        by (CountedFor from o c few a b) = StaysOpen (subst (λ os. has_op op os ≡ true) (sym a) (counted_op op (with_answer from o) n.open_operations stood))
        by (EndedFor from o end c e a b) = ⊎_elim
            (λ (same : o.op ≡ op). ends o end from c.answer same e b)
            (λ isnt. StaysOpen (subst (λ os. has_op op os ≡ true) (sym a) (without_other op o.op n.open_operations isnt stood)))
            (same_or_not o.op op)
        by (Dropped m e a b) = StaysOpen (subst (λ os. has_op op os ≡ true) (sym a) (without_other op m n.open_operations (λ is. no_timeout (e ∙ ap Timeout is)) stood))

    finished_stays : (op : ℕ) → HasFinished op n → HasFinished op (step D n input fate).node
    finished_stays op has = by (step_tells D n input fate).change
      where
        same : (step D n input fate).node.finished ≡ n.finished → HasFinished op (step D n input fate).node
        same b = subst (λ (fs : List (Finished Shown)). is_some (find (λ (f : Finished Shown). f.op == op) fs) ≡ true) (sym b) has

        by : Change D n (step D n input fate).node input → HasFinished op (step D n input fate).node
        by (Unchanged a b) = same b
        by (Pushed o e a b) = same b
        by (CountedFor from o c few a b) = same b
        by (EndedFor from o end c e a b) = subst (λ (fs : List (Finished Shown)). is_some (find (λ (f : Finished Shown). f.op == op) fs) ≡ true) (sym b) (some_front op n.finished (end ∷ []) has)
        by (Dropped m e a b) = same b

    -- a closed one gets no result
    pub closed_finished : (op : ℕ) → is_open op (Some n) ≡ false → finished_at op (Some (step D n input fate).node) ≡ finished_at op (Some n)
    closed_finished op closed = by (step_tells D n input fate).change
      where
        same : (step D n input fate).node.finished ≡ n.finished → finished_at op (Some (step D n input fate).node) ≡ finished_at op (Some n)
        same b = ap (find (λ (f : Finished Shown). f.op == op)) b

        by : Change D n (step D n input fate).node input → finished_at op (Some (step D n input fate).node) ≡ finished_at op (Some n)
        by (Unchanged a b) = same b
        by (Pushed o e a b) = same b
        by (CountedFor from o c few a b) = same b
        by (EndedFor from o end c e a b) = ap (find (λ (f : Finished Shown). f.op == op)) b ∙ find_other op n.finished end (λ is. none_has op n.open_operations o c.stood closed (sym e ∙ is))
        by (Dropped m e a b) = same b

  -- its timeout closes it, and tells whether it was open
  pub timeout_closes : (n : Node Kind Op Shown) (op : ℕ) (fate : Fate) → is_open op (Some (step D n (Timeout op) fate).node) ≡ false
  timeout_closes n op fate = by (has_op op n.open_operations) refl
    where
      by : (b : Bool) → has_op op n.open_operations ≡ b
          → is_open op (Some (if b then answered (record (one_step_later n) { open_operations = filter (λ (o : OpenOperation). not (o.op == op)) n.open_operations }) Reply.TimedOut else answered (one_step_later n) Reply.NoSuchOp).node) ≡ false
      by true is = without_it op n.open_operations
      by false is = is

  timeout_found : (n : Node Kind Op Shown) (op : ℕ) (fate : Fate) → IsOpen op n → (step D n (Timeout op) fate).output.reply ≡ Reply.TimedOut
  timeout_found n op fate stood =
      ap (λ b. (if b then answered (record (one_step_later n) { open_operations = filter (λ (o : OpenOperation). not (o.op == op)) n.open_operations }) Reply.TimedOut else answered (one_step_later n) Reply.NoSuchOp).output.reply) stood

  -- ALONG A HISTORY

  -- none of the first entries, so many, is its timeout
  abbrev pub NoTimeout : ℕ → ℕ → List (Entry Op Shown) → Type 0
  NoTimeout op count es = (k : ℕ) (x : Entry Op Shown) → slice_get es k ≡ Some x → k < count → x.input ≢ Timeout op

  abbrev pub NoAnswer : ℕ → List (Entry Op Shown) → Type 0
  NoAnswer op es = (k : ℕ) (x : Entry Op Shown) → slice_get es k ≡ Some x → (from : ℕ) (m : Message Op) → x.input ≡ Take from m → answers op m ≡ true → ⊥

  finished_along : (op : ℕ) (n : Node Kind Op Shown) (es : List (Entry Op Shown)) → HasFinished op n → HasFinished op (replayed D n es)
  finished_along op n [] h = h
  finished_along op n (e ∷ es) h = finished_along op (step D n e.input e.fate).node es (finished_stays n e.input e.fate op h)

  -- open, it stays so or finishes
  open_along : (op count : ℕ) (n : Node Kind Op Shown) (es : List (Entry Op Shown)) → IsOpen op n → NoTimeout op count es → length es ≤ count → IsOpen op (replayed D n es) ⊎ HasFinished op (replayed D n es)
  open_along op count n [] stood none h = inl stood
  open_along op zero n (e ∷ es) stood none h = absurd (omega (arith, h))
  open_along op (suc count) n (e ∷ es) stood none h = by (open_then n e.input e.fate op stood (none zero e refl (omega arith)))
      (λ stood'. open_along op count (step D n e.input e.fate).node es stood' (λ k x at l. none (suc k) x at (omega (arith, l))) (omega (arith, h)))
    where
      by : OpenThen n e.input e.fate op → (IsOpen op (step D n e.input e.fate).node → IsOpen op (replayed D (step D n e.input e.fate).node es) ⊎ HasFinished op (replayed D (step D n e.input e.fate).node es))
          → IsOpen op (replayed D (step D n e.input e.fate).node es) ⊎ HasFinished op (replayed D (step D n e.input e.fate).node es)
      by (StaysOpen stood') later = later stood'
      by (Finishes f from m is a) later = inr (finished_along op (step D n e.input e.fate).node es f)

  -- open, it stays so until its timeout, where no answer is taken
  pub found_open : (op number : ℕ) (n : Node Kind Op Shown) (es : List (Entry Op Shown)) (t : Entry Op Shown) → AreSteps D n es → IsOpen op n → NoTimeout op number es → NoAnswer op es → slice_get es number ≡ Some t → t.input ≡ Timeout op → t.output.reply ≡ Reply.TimedOut
  found_open op number n [] t steps stood none quiet at is = absurd (cc at)
  found_open op zero n (e ∷ es) t steps stood none quiet at is =
      let same : e ≡ t = cc at in
      ap (λ (x : Entry Op Shown). x.output.reply) (sym same)
      ∙ ap (λ (o : Output Op Shown). o.reply) steps.2 ∙ ap (λ i. (step D n i e.fate).output.reply) (ap (λ (x : Entry Op Shown). x.input) same ∙ is) ∙ timeout_found n op e.fate stood
  found_open op (suc number) n (e ∷ es) t steps stood none quiet at is = by (open_then n e.input e.fate op stood (none zero e refl (omega arith)))
      (λ stood'. found_open op number (step D n e.input e.fate).node es t steps.3 stood' (λ k x at' l. none (suc k) x at' (omega (arith, l))) (λ k x at'. quiet (suc k) x at') at is)
    where
      by : OpenThen n e.input e.fate op → (IsOpen op (step D n e.input e.fate).node → t.output.reply ≡ Reply.TimedOut) → t.output.reply ≡ Reply.TimedOut
      by (StaysOpen stood') later = later stood'
      by (Finishes f from m is' a) later = absurd (quiet zero e refl from m is' a)

  pub opened_here : (op : ℕ) (n : Node Kind Op Shown) (input : Input Op) (fate : Fate) → (step D n input fate).output.reply ≡ Reply.Pending op → IsOpen op (step D n input fate).node
  opened_here op n input fate reply =
      let opens = opening_tells D n 0 op input fate reply in
      ap (has_op op) opens.operations
      ∙ any_end (λ (o : OpenOperation). o.op == op) n.open_operations (record { op = n.next_op; key = opens.key; reads = opens.reads; needed = opens.n; counted = alone n.identity }) (is_same n.next_op op (sym opens.number))

  not_finished : (op : ℕ) (n : Node Kind Op Shown) → finished_at op (Some n) ≡ None → HasFinished op n → ⊥
  not_finished op n none has = true≢false (sym has ∙ ap is_some none)

  -- an operation that is opened, and not finished since, is open
  pub open_since : (op k : ℕ) (n : Node Kind Op Shown) (es : List (Entry Op Shown)) (e : Entry Op Shown) → AreSteps D n es → slice_get es k ≡ Some e → e.output.reply ≡ Reply.Pending op
      → ((j : ℕ) (x : Entry Op Shown) → slice_get es j ≡ Some x → k < j → x.input ≢ Timeout op) → finished_at op (Some (replayed D n es)) ≡ None → IsOpen op (replayed D n es)
  open_since op k n [] e steps at reply none unfinished = absurd (cc at)
  open_since op zero n (y ∷ es) e steps at reply none unfinished = ⊎_elim (λ (o : IsOpen op (replayed D (step D n y.input y.fate).node es)). o) (λ f. absurd (not_finished op (replayed D (step D n y.input y.fate).node es) unfinished f))
      (open_along op (length es) (step D n y.input y.fate).node es
      (opened_here op n y.input y.fate (sym (ap (λ (o : Output Op Shown). o.reply) steps.2) ∙ (let same : y ≡ e = cc at in ap (λ (x : Entry Op Shown). x.output.reply) same) ∙ reply))
      (λ j x at' l. none (suc j) x at' (omega arith)) (omega arith))
  open_since op (suc k) n (y ∷ es) e steps at reply none unfinished =
      open_since op k (step D n y.input y.fate).node es e steps.3 at reply (λ j x at' l. none (suc j) x at' (omega (arith, l))) unfinished

  -- a closed operation goes on without a result
  pub finished_since : (op : ℕ) (n : Node Kind Op Shown) (es : List (Entry Op Shown)) → op < n.next_op → is_open op (Some n) ≡ false → finished_at op (Some (replayed D n es)) ≡ finished_at op (Some n)
  finished_since op n [] below closed = refl
  finished_since op n (e ∷ es) below closed =
      finished_since op (step D n e.input e.fate).node es (let a = number_grows D n e.input e.fate in omega (arith, a, below)) (closed_stays D n e.input e.fate op below closed) ∙ closed_finished n e.input e.fate op closed

  -- after its timeout it is closed
  pub closed_by_timeout : (op number : ℕ) (n : Node Kind Op Shown) (es : List (Entry Op Shown)) (t : Entry Op Shown) → op < n.next_op → slice_get es number ≡ Some t → t.input ≡ Timeout op → is_open op (Some (replayed D n es)) ≡ false
  closed_by_timeout op number n [] t below at is = absurd (cc at)
  closed_by_timeout op zero n (e ∷ es) t below at is =
      let same : e ≡ t = cc at in
      closed_all op (step D n e.input e.fate).node es (let a = number_grows D n e.input e.fate in omega (arith, a, below))
      (ap (λ i. is_open op (Some (step D n i e.fate).node)) (ap (λ (x : Entry Op Shown). x.input) same ∙ is) ∙ timeout_closes n op e.fate)
    where
      closed_all : (op : ℕ) (n : Node Kind Op Shown) (es : List (Entry Op Shown)) → op < n.next_op → is_open op (Some n) ≡ false → is_open op (Some (replayed D n es)) ≡ false
      closed_all op n [] below closed = closed
      closed_all op n (e ∷ es) below closed = closed_all op (step D n e.input e.fate).node es (let a = number_grows D n e.input e.fate in omega (arith, a, below)) (closed_stays D n e.input e.fate op below closed)
  closed_by_timeout op (suc number) n (e ∷ es) t below at is = closed_by_timeout op number (step D n e.input e.fate).node es t (let a = number_grows D n e.input e.fate in omega (arith, a, below)) at is

  -- NUMBERS

  pending_from : (op k : ℕ) (n : Node Kind Op Shown) (es : List (Entry Op Shown)) (e : Entry Op Shown) → AreSteps D n es → slice_get es k ≡ Some e → e.output.reply ≡ Reply.Pending op → n.next_op ≤ op
  pending_from op k n [] e steps at reply = absurd (cc at)
  pending_from op zero n (y ∷ es) e steps at reply =
      let same : y ≡ e = cc at in
      let opens = opening_tells D n 0 op y.input y.fate (sym (ap (λ (o : Output Op Shown). o.reply) steps.2) ∙ ap (λ (x : Entry Op Shown). x.output.reply) same ∙ reply) in
      let a = opens.number in omega (arith, a)
  pending_from op (suc k) n (y ∷ es) e steps at reply =
      let a = pending_from op k (step D n y.input y.fate).node es e steps.3 at reply in let b = number_grows D n y.input y.fate in omega (arith, a, b)

  pub opened_next : (op : ℕ) (n : Node Kind Op Shown) (y : Entry Op Shown) (es : List (Entry Op Shown)) → AreSteps D n (y ∷ es) → y.output.reply ≡ Reply.Pending op → op < (step D n y.input y.fate).node.next_op
  opened_next op n y es steps reply =
      let opens = opening_tells D n 0 op y.input y.fate (sym (ap (λ (o : Output Op Shown). o.reply) steps.2) ∙ reply) in
      let a = opens.number in let b = opens.next in omega (arith, a, b)

  -- no two entries of a history open the same operation
  pub one_opens : (op k l : ℕ) (n : Node Kind Op Shown) (es : List (Entry Op Shown)) (e f : Entry Op Shown) → AreSteps D n es → slice_get es k ≡ Some e → slice_get es l ≡ Some f → e.output.reply ≡ Reply.Pending op → f.output.reply ≡ Reply.Pending op → k ≡ l
  one_opens op k l n [] e f steps at at' reply reply' = absurd (cc at)
  one_opens op zero zero n (y ∷ es) e f steps at at' reply reply' = refl
  one_opens op zero (suc l) n (y ∷ es) e f steps at at' reply reply' =
      let same : y ≡ e = cc at in
      let a = opened_next op n y es steps (ap (λ (x : Entry Op Shown). x.output.reply) same ∙ reply) in
      let b = pending_from op l (step D n y.input y.fate).node es f steps.3 at' reply' in absurd (omega (arith, a, b))
  one_opens op (suc k) zero n (y ∷ es) e f steps at at' reply reply' =
      let same : y ≡ f = cc at' in
      let a = opened_next op n y es steps (ap (λ (x : Entry Op Shown). x.output.reply) same ∙ reply') in
      let b = pending_from op k (step D n y.input y.fate).node es e steps.3 at reply in absurd (omega (arith, a, b))
  one_opens op (suc k) (suc l) n (y ∷ es) e f steps at at' reply reply' = ap suc (one_opens op k l (step D n y.input y.fate).node es e f steps.3 at at' reply reply')

  -- after its timeout an operation that was opened before is closed
  pub closed_after : (op index number : ℕ) (n : Node Kind Op Shown) (es : List (Entry Op Shown)) (e t : Entry Op Shown) → AreSteps D n es → slice_get es index ≡ Some e → e.output.reply ≡ Reply.Pending op → slice_get es number ≡ Some t → t.input ≡ Timeout op → index < number
      → is_open op (Some (replayed D n es)) ≡ false
  closed_after op index number n [] e t steps at reply at' is h = absurd (cc at)
  closed_after op index zero n (y ∷ es) e t steps at reply at' is h = absurd (omega (arith, h))
  closed_after op zero (suc number) n (y ∷ es) e t steps at reply at' is h =
      let same : y ≡ e = cc at in
      closed_by_timeout op number (step D n y.input y.fate).node es t (opened_next op n y es steps (ap (λ (x : Entry Op Shown). x.output.reply) same ∙ reply)) at' is
  closed_after op (suc index) (suc number) n (y ∷ es) e t steps at reply at' is h = closed_after op index number (step D n y.input y.fate).node es e t steps.3 at reply at' is (omega (arith, h))

module _ {Op Shown : Type 0} where
  -- who takes no answer of a member
  pub no_answer_of : (op j k : ℕ) (es : List (Entry Op Shown)) (x : Entry Op Shown) (m : Message Op) → NoneAnswers op (taken_from j es) → slice_get es k ≡ Some x → x.input ≡ Take j m → answers op m ≡ true → ⊥
  no_answer_of op j k [] x m none at is a = cc at
  no_answer_of op j zero (y ∷ es) x m none at is a =
      let same : y ≡ x = cc at in
      let first : NoneAnswers op (taken_by j y.stamp y.input) = all_first (λ (p : Passed Op). answers op p.message ≡ false) (taken_by j y.stamp y.input) (taken_from j es) none in
      let one : taken_by j y.stamp y.input ≡ record { message = m; stamp = y.stamp } ∷ [] = ap (taken_by j y.stamp) (ap (λ (z : Entry Op Shown). z.input) same ∙ is) ∙ ap (λ b. if b then record { message = m; stamp = y.stamp } ∷ [] else []) (is_same j j refl) in
      let P : List (Passed Op) → Type 0 = NoneAnswers op in
      true≢false (sym a ∙ (subst P one first).0)
  no_answer_of op j (suc k) (y ∷ es) x m none at is a = no_answer_of op j k es x m (all_last (λ (p : Passed Op). answers op p.message ≡ false) (taken_by j y.stamp y.input) (taken_from j es) none) at is a
