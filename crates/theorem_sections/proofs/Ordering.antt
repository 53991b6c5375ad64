-- A client's own entries in run order are those of its path, one after another.
use Rattle.std.proofs.Common.{◌≡◌, ◌⊎◌, inl, inr, ⊎_elim, ℕ, zero, suc, ◌<◌, ◌≤◌, List, [], ◌∷◌, refl, sym, ap, subst, ◌∙◌, arith, Bool, true, false, cond, Option, Some, None}
use Rattle.std.specs.Prelude.{filter, slice_get, IsTrue}
use Rattle.std.specs.List.{AllByRecursion}
use Rattle.model_history.proofs.PruneLaws.{IsIn, in_tail}
use Rattle.theorem_runs.proofs.Happening.{of_all}
use Rattle.model_members.specs.View.{View, is_member, place_of}
use Rattle.model_members.specs.DataType.{Replication}
use Rattle.model_members.specs.Node.{Node, Reply}
use Rattle.model_members.specs.World.{World}
use Rattle.theorem_sections.specs.Sections.{Command, pending_op}
use Rattle.theorem_sections.specs.Histories.{Entry, Placed, entries_at, AreSorted, ComesBefore, AreHistories}
use Rattle.theorem_sections.specs.Paths.{ClientStep, IsStepOf, IsReplied, IsTimedOut, TimesOut, IsPath}
use Rattle.theorem_sections.proofs.NextDue.{same_or_not}
use Rattle.theorem_sections.proofs.RunOrder.{entries_here, entries_else}
use Rattle.theorem_sections.proofs.Positions.{Stands, Left, Answers, answers_by}
use Rattle.theorem_sections.proofs.Positions.Answers.{ByEntry, ByNone}
use Rattle.theorem_sections.proofs.Moves.{Keeping}

-- LISTS

pub filter_in : {X : Type 0} (p : X → Bool) (xs : List X) (x : X) → IsIn (filter p xs) x → IsIn xs x × (p x ≡ true)
filter_in p [] x h = absurd (cc h.1)
filter_in p (y ∷ xs) x h = by (p y) refl h (λ m. filter_in p xs x m)
  where
    there : p y ≡ true → IsIn (y ∷ filter p xs) x → (IsIn (filter p xs) x → IsIn xs x × (p x ≡ true)) → IsIn (y ∷ xs) x × (p x ≡ true)
    there is (zero, e) later = ((zero, e), (let same : y ≡ x = cc e in ap p (sym same) ∙ is))
    there is (suc k, e) later = let m = later (k, e) in (in_tail y xs x m.0, m.1)

    by : (b : Bool) → p y ≡ b → IsIn (cond b (y ∷ filter p xs) (filter p xs)) x → (IsIn (filter p xs) x → IsIn xs x × (p x ≡ true)) → IsIn (y ∷ xs) x × (p x ≡ true)
    by true is m later = there is m later
    by false is m later = let r = later m in (in_tail y xs x r.0, r.1)

module _ {Op Shown : Type 0} where
  all_filter : (P : Placed Op Shown → Type 0) (p : Placed Op Shown → Bool) (xs : List (Placed Op Shown)) → AllByRecursion P xs → AllByRecursion P (filter p xs)
  all_filter P p [] all = tt
  all_filter P p (x ∷ xs) all = by (p x) (all_filter P p xs all.1)
    where
      by : (b : Bool) → AllByRecursion P (filter p xs) → AllByRecursion P (cond b (x ∷ filter p xs) (filter p xs))
      by true h = (all.0, h)
      by false h = h

  pub sorted_filter : (view : View) (p : Placed Op Shown → Bool) (xs : List (Placed Op Shown)) → AreSorted view xs → AreSorted view (filter p xs)
  sorted_filter view p [] s = tt
  sorted_filter view p (x ∷ xs) s = by (p x) (sorted_filter view p xs s.1)
    where
      by : (b : Bool) → AreSorted view (filter p xs) → AreSorted view (cond b (x ∷ filter p xs) (filter p xs))
      by true h = (all_filter (ComesBefore view x) p xs s.0, h)
      by false h = h

  no_less : (view : View) (x y : Placed Op Shown) → ComesBefore view x y → x.entry.stamp ≤ y.entry.stamp
  no_less view x y = ⊎_elim (λ (less : x.entry.stamp < y.entry.stamp). omega (arith, less)) (λ (same : (x.entry.stamp ≡ y.entry.stamp) × (place_of view x.at < place_of view y.at)). let e = same.0 in omega (arith, e))

  never_itself : (view : View) (x : Placed Op Shown) → ComesBefore view x x → ⊥
  never_itself view x = ⊎_elim (λ (less : x.entry.stamp < x.entry.stamp). absurd (omega (arith, less))) (λ (same : (x.entry.stamp ≡ x.entry.stamp) × (place_of view x.at < place_of view x.at)). let e = same.1 in absurd (omega (arith, e)))

  -- the entries of a member
  pub in_entries : (placed : List (Placed Op Shown)) (x : Placed Op Shown) → IsIn placed x → IsIn (entries_at x.at placed) x.entry
  in_entries [] x h = absurd (cc h.1)
  in_entries (y ∷ placed) x (zero, e) = let same : y ≡ x = cc e in subst (λ es. IsIn es x.entry) (sym (entries_here x.at y placed (ap (λ (z : Placed Op Shown). z.at) same))) (zero, ap (λ (z : Placed Op Shown). Some z.entry) same)
  in_entries (y ∷ placed) x (suc k, e) =
      let m = in_entries placed x (k, e) in
      ⊎_elim (λ (is : y.at ≡ x.at). subst (λ es. IsIn es x.entry) (sym (entries_here x.at y placed is)) (in_tail y.entry (entries_at x.at placed) x.entry m)) (λ isnt. subst (λ es. IsIn es x.entry) (sym (entries_else x.at y placed isnt)) m) (same_or_not y.at x.at)

  pub entries_in : (placed : List (Placed Op Shown)) (x : Placed Op Shown) → IsIn (entries_at x.at placed) x.entry → IsIn placed x
  entries_in [] x h = absurd (cc h.1)
  entries_in (y ∷ placed) x h =
      ⊎_elim
      (λ (is : y.at ≡ x.at). here is (subst (λ es. IsIn es x.entry) (entries_here x.at y placed is) h) (λ m. entries_in placed x m))
      (λ isnt. in_tail y placed x (entries_in placed x (subst (λ es. IsIn es x.entry) (entries_else x.at y placed isnt) h))) (same_or_not y.at x.at)
    where
      here : y.at ≡ x.at → IsIn (y.entry ∷ entries_at x.at placed) x.entry → (IsIn (entries_at x.at placed) x.entry → IsIn placed x) → IsIn (y ∷ placed) x
      here is (zero, e) later = let same : y.entry ≡ x.entry = cc e in (zero, ap Some (ap (λ i. record { at = i; entry = y.entry }) is ∙ ap (λ f. record { at = x.at; entry = f }) same))
      here is (suc k, e) later = in_tail y placed x (later (k, e))

  -- the first of those that are sorted
  module _ (view : View) (T T' : Placed Op Shown → Type 0) (ex : Placed Op Shown) (first : T ex) (cases : (z : Placed Op Shown) → T z → (z ≡ ex) ⊎ T' z) (back : (z : Placed Op Shown) → T' z → T z) (later : (z : Placed Op Shown) → T' z → ex.entry.stamp < z.entry.stamp) where
    pub record IsSplit (ys : List (Placed Op Shown)) : Type 0 where
      pub others : List (Placed Op Shown)
      pub is : ys ≡ ex ∷ others
      pub sorted : AreSorted view others
      pub only : (z : Placed Op Shown) → IsIn others z → T' z
      pub has : (z : Placed Op Shown) → T' z → IsIn others z

    pub split_first : (ys : List (Placed Op Shown)) → AreSorted view ys → ((z : Placed Op Shown) → IsIn ys z → T z) → ((z : Placed Op Shown) → T z → IsIn ys z) → IsSplit ys
    split_first [] sorted only has = absurd (let m = has ex first in cc m.1)
    split_first (y ∷ ys) sorted only has =
        record {
          others = ys;
          is = ap (λ z. z ∷ ys) is_first;
          sorted = sorted.1;
          only = λ z m. ⊎_elim
              (λ (e : z ≡ ex). absurd (never_itself view y (subst (ComesBefore view y) (e ∙ sym is_first) (of_all (ComesBefore view y) ys z sorted.0 m))))
              (λ t. t)
              (cases z (only z (in_tail y ys z m)));
          has = λ z t. there z t (has z (back z t));
        }
      where
        at_most : IsIn (y ∷ ys) ex → y.entry.stamp ≤ ex.entry.stamp
        at_most (zero, e) = let same : y ≡ ex = cc e in subst (λ (z : Placed Op Shown). y.entry.stamp ≤ z.entry.stamp) same (omega arith)
        at_most (suc k, e) = no_less view y ex (of_all (ComesBefore view y) ys ex sorted.0 (k, e))

        is_first : y ≡ ex
        is_first = ⊎_elim (λ (e : y ≡ ex). e) (λ t. absurd (let a = later y t in let b = at_most (has ex first) in omega (arith, a, b))) (cases y (only y (zero, refl)))

        there : (z : Placed Op Shown) → T' z → IsIn (y ∷ ys) z → IsIn ys z
        there z t (zero, e) = let same : y ≡ z = cc e in absurd (let a = later z t in let b = ap (λ (w : Placed Op Shown). w.entry.stamp) (sym is_first ∙ same) in omega (arith, a, b))
        there z t (suc k, e) = (k, e)

module _ {Kind Op Shown : Type 0} (D : Replication Kind Op Shown) (world : World Kind Op Shown) (histories : ℕ → List (Entry Op Shown)) (placed : List (Placed Op Shown)) (keeping : Keeping Op) (all : AreHistories D world histories)
    (runs_in : (i : ℕ) (n : Node Kind Op Shown) → world.nodes i ≡ Some n → IsTrue (is_member world.view i)) where
  abbrev IsStep : ℕ → Command Op → ClientStep Op Shown → Type 0
  IsStep c command step = IsStepOf D world histories c command step

  abbrev Path : ℕ → ℕ → List (Command Op) → List (ClientStep Op Shown) → Type 0
  Path c u commands steps = IsPath D world histories c u commands steps

  -- an entry stands at this index
  abbrev pub AtStep : Placed Op Shown → ℕ → Option ℕ → Type 0
  AtStep y i o = (k : ℕ) × (o ≡ Some k) × (y.at ≡ i) × (slice_get (histories i) k ≡ Some y.entry)

  -- an entry of a path
  abbrev pub EntryOf : Placed Op Shown → List (Command Op) → List (ClientStep Op Shown) → Type 0
  EntryOf y (command ∷ commands) (step ∷ steps) = AtStep y command.at step.index ⊎ (AtStep y command.at step.timeout ⊎ EntryOf y commands steps)
  EntryOf y _ _ = ⊥

  at_entry : Placed Op Shown → ℕ → Entry Op Shown → Type 0
  at_entry y i e = y ≡ record { at = i; entry = e }

  placed_is : (y : Placed Op Shown) (i : ℕ) (e : Entry Op Shown) → y.at ≡ i → y.entry ≡ e → y ≡ record { at = i; entry = e }
  placed_is y i e at is = ap (λ j. record { at = j; entry = y.entry }) at ∙ ap (λ f. record { at = i; entry = f }) is

  -- a timeout, in full
  pub record TimeoutOf (c : ℕ) (command : Command Op) (step : ClientStep Op Shown) (k' : ℕ) : Type 0 where
    pub op : ℕ
    pub entry : Entry Op Shown
    pub k : ℕ
    pub at : step.index ≡ Some k
    pub stands : slice_get (histories command.at) k ≡ Some entry
    pub timed : IsTimedOut D world histories c command.at op step entry k'

  timeout_of : (c : ℕ) (command : Command Op) (step : ClientStep Op Shown) (k' : ℕ) (o : Option ℕ) → step.timeout ≡ Some k' → (pending : Option ℕ) → step.timeout ≡ o → TimesOut D world histories c command.at step pending o → TimeoutOf c command step k'
  timeout_of c command step k' None at pending is t = absurd (let e = sym is ∙ at in cc e)
  timeout_of c command step k' (Some j) at None is t = absurd t
  timeout_of c command step k' (Some j) at (Some op) is t =
      let same : j ≡ k' = cc (sym is ∙ at) in
      record { op = op; entry = t.1; k = t.0; at = t.2; stands = t.3; timed = subst (λ n. IsTimedOut D world histories c command.at op step t.1 n) same t.4 }

  pub timeout_is : (c : ℕ) (command : Command Op) (step : ClientStep Op Shown) → IsStep c command step → (k' : ℕ) → step.timeout ≡ Some k' → TimeoutOf c command step k'
  timeout_is c command step is k' at = timeout_of c command step k' step.timeout at (pending_op step.line.answer) refl is.timed_out

  pub replied_at : (c : ℕ) (command : Command Op) (step : ClientStep Op Shown) → IsStep c command step → (k : ℕ) → step.index ≡ Some k → (reply : Reply Shown) × IsReplied D world histories c command step reply
  replied_at c command step is k at = by (answers_by D world histories placed keeping all runs_in c command step step.line.answer refl is.answered)
    where
      by : Answers D world histories placed keeping all runs_in c command step → (reply : Reply Shown) × IsReplied D world histories c command step reply
      by (ByEntry reply answered r) = (reply, r)
      by (ByNone none posts waits answered) = absurd (let e = sym none ∙ at in cc e)

  -- STAMPS

  entry_after : (c : ℕ) (command : Command Op) (step : ClientStep Op Shown) → IsStep c command step → (y : Placed Op Shown) → AtStep y command.at step.index → (step.since < y.entry.stamp) × (y.entry.stamp ≤ step.upto)
  entry_after c command step is y (k, at, here, stands) =
      let r = (replied_at c command step is k at).1 in
      let same_k : r.index ≡ k = cc (sym r.at ∙ at) in
      let same : r.entry ≡ y.entry = cc (sym r.made.stands ∙ ap (slice_get (histories command.at)) same_k ∙ stands) in
      (subst (λ (e : Entry Op Shown). step.since < e.stamp) same r.later, subst (λ (e : Entry Op Shown). e.stamp ≤ step.upto) same r.before)

  timeout_after : (c : ℕ) (command : Command Op) (step : ClientStep Op Shown) → IsStep c command step → (y : Placed Op Shown) → AtStep y command.at step.timeout → (e : Entry Op Shown) (k : ℕ) → step.index ≡ Some k → slice_get (histories command.at) k ≡ Some e
      → (e.stamp < y.entry.stamp) × (y.entry.stamp ≤ step.upto)
  timeout_after c command step is y (k', at, here, stands) e k at_k stands_k =
      let t = timeout_is c command step is k' at in
      let same_k : t.k ≡ k = cc (sym t.at ∙ at_k) in
      let same_e : t.entry ≡ e = cc (sym t.stands ∙ ap (slice_get (histories command.at)) same_k ∙ stands_k) in
      let same : t.timed.timeout ≡ y.entry = cc (sym t.timed.made.stands ∙ stands) in
      let a = ap (λ (f : Entry Op Shown). f.stamp) same_e in
      let b = ap (λ (f : Entry Op Shown). f.stamp) same in
      let l = t.timed.later.0 in
      let m = t.timed.later.1 in
      let n = t.timed.before in
      (omega (arith, a, b, l, m), omega (arith, b, n))

  path_after : (c u : ℕ) (commands : List (Command Op)) (steps : List (ClientStep Op Shown)) → Path c u commands steps → (y : Placed Op Shown) → EntryOf y commands steps → u < y.entry.stamp
  path_after c u [] [] path y h = absurd h
  path_after c u [] (step ∷ steps) path y h = absurd h
  path_after c u (command ∷ commands) [] path y h = absurd h
  path_after c u (command ∷ commands) (step ∷ steps) path y (inl h) = let a = (entry_after c command step path.1 y h).0 in let b = path.0 in omega (arith, a, b)
  path_after c u (command ∷ commands) (step ∷ steps) path y (inr (inl h)) =
      let t = timeout_is c command step path.1 h.0 h.1 in
      let a = (timeout_after c command step path.1 y h t.entry t.k t.at t.stands).0 in
      let d = (entry_after c command step path.1 (record { at = command.at; entry = t.entry }) (t.k, t.at, refl, t.stands)).0 in
      let b = path.0 in
      omega (arith, a, b, d)
  path_after c u (command ∷ commands) (step ∷ steps) path y (inr (inr h)) =
      let a = path_after c step.upto commands steps path.2 y h in let b = path.0 in let d = path.1.forward in omega (arith, a, b, d)

  -- ONE AFTER ANOTHER

  module _ (view : View) where
    stands_none : (i : ℕ) (o : Option ℕ) (ys : List (Placed Op Shown)) → o ≡ None → Stands D world histories placed keeping all runs_in i o ys ys
    stands_none i o ys none = subst (λ p. Stands D world histories placed keeping all runs_in i p ys ys) (sym none) refl

    stands_some : (i k : ℕ) (o : Option ℕ) (e : Entry Op Shown) (ys zs : List (Placed Op Shown)) → o ≡ Some k → slice_get (histories i) k ≡ Some e → ys ≡ record { at = i; entry = e } ∷ zs → Stands D world histories placed keeping all runs_in i o ys zs
    stands_some i k o e ys zs some stands is = subst (λ p. Stands D world histories placed keeping all runs_in i p ys zs) (sym some) (record { at = i; entry = e }, is, refl, stands)

    no_timeout : (c : ℕ) (command : Command Op) (step : ClientStep Op Shown) → IsStep c command step → step.index ≡ None → step.timeout ≡ None
    no_timeout c command step is none = by step.timeout refl
      where
        by : (o : Option ℕ) → step.timeout ≡ o → step.timeout ≡ None
        by None e = e
        by (Some k') e = absurd (let t = timeout_is c command step is k' e in let f = sym none ∙ t.at in cc f)

    LeftOf : ℕ → ℕ → List (Placed Op Shown) → List (Command Op) → List (ClientStep Op Shown) → Type 0
    LeftOf c u ys commands steps = Left D world histories placed keeping all runs_in c u ys commands steps

    pub path_left : (c u : ℕ) (commands : List (Command Op)) (steps : List (ClientStep Op Shown)) (ys : List (Placed Op Shown)) → Path c u commands steps → AreSorted view ys
        → ((y : Placed Op Shown) → IsIn ys y → EntryOf y commands steps) → ((y : Placed Op Shown) → EntryOf y commands steps → IsIn ys y) → Left D world histories placed keeping all runs_in c u ys commands steps
    path_left c u [] [] [] path sorted only has = refl
    path_left c u [] [] (y ∷ ys) path sorted only has = absurd (only y (zero, refl))
    path_left c u [] (step ∷ steps) ys path sorted only has = absurd path
    path_left c u (command ∷ commands) [] ys path sorted only has = absurd path
    path_left c u (command ∷ commands) (step ∷ steps) ys path sorted only has =
        by_index step.index refl (λ zs sorted' only' has'. path_left c step.upto commands steps zs path.2 sorted' only' has')
      where
        i : ℕ
        i = command.at

        Rest : Type 0
        Rest = (zs : List (Placed Op Shown)) → AreSorted view zs → ((y : Placed Op Shown) → IsIn zs y → EntryOf y commands steps) → ((y : Placed Op Shown) → EntryOf y commands steps → IsIn zs y) → Left D world histories placed keeping all runs_in c step.upto zs commands steps

        by_timeout : (k : ℕ) (e : Entry Op Shown) (mid : List (Placed Op Shown)) → step.index ≡ Some k → slice_get (histories command.at) k ≡ Some e → ys ≡ record { at = command.at; entry = e } ∷ mid → AreSorted view mid
            → ((y : Placed Op Shown) → IsIn mid y → AtStep y command.at step.timeout ⊎ EntryOf y commands steps) → ((y : Placed Op Shown) → AtStep y command.at step.timeout ⊎ EntryOf y commands steps → IsIn mid y)
            → ((zs : List (Placed Op Shown)) → AreSorted view zs → ((y : Placed Op Shown) → IsIn zs y → EntryOf y commands steps) → ((y : Placed Op Shown) → EntryOf y commands steps → IsIn zs y) → Left D world histories placed keeping all runs_in c step.upto zs commands steps)
            → (o : Option ℕ) → step.timeout ≡ o → Left D world histories placed keeping all runs_in c u ys (command ∷ commands) (step ∷ steps)
        by_timeout k e mid at stands is sorted' only' has' rest None none = (
          path.0,
          path.1,
          mid,
          mid,
          stands_some command.at k step.index e ys mid at stands is,
          stands_none command.at step.timeout mid none,
          rest mid sorted' (λ y m. ⊎_elim (λ (t : AtStep y command.at step.timeout). absurd (let f = sym none ∙ t.1 in cc f)) (λ h. h) (only' y m)) (λ y h. has' y (inr h)),
        )
        by_timeout k e mid at stands is sorted' only' has' rest (Some k') some =
            let t = timeout_is c command step path.1 k' some in
            let ex : Placed Op Shown = record { at = command.at; entry = t.timed.timeout } in
            let split = split_first view (λ y. AtStep y command.at step.timeout ⊎ EntryOf y commands steps) (λ y. EntryOf y commands steps) ex (inl (k', some, refl, t.timed.made.stands))
            (λ z h. ⊎_elim (λ (a : AtStep z command.at step.timeout). inl (placed_is z command.at t.timed.timeout a.2 (let same_k : a.0 ≡ k' = cc (sym a.1 ∙ some) in cc (sym a.3 ∙ ap (slice_get (histories command.at)) same_k ∙ t.timed.made.stands)))) (λ h. inr h) h)
            (λ z h. inr h)
            (λ z h. let a = path_after c step.upto commands steps path.2 z h in let b = t.timed.before in omega (arith, a, b))
            mid sorted' only' has' in (
              path.0,
              path.1,
              mid,
              split.others,
              stands_some command.at k step.index e ys mid at stands is,
              stands_some command.at k' step.timeout t.timed.timeout mid split.others some t.timed.made.stands split.is,
              rest split.others split.sorted split.only split.has,
            )

        by_index : (o : Option ℕ) → step.index ≡ o
            → ((zs : List (Placed Op Shown)) → AreSorted view zs → ((y : Placed Op Shown) → IsIn zs y → EntryOf y commands steps) → ((y : Placed Op Shown) → EntryOf y commands steps → IsIn zs y) → Left D world histories placed keeping all runs_in c step.upto zs commands steps)
            → Left D world histories placed keeping all runs_in c u ys (command ∷ commands) (step ∷ steps)
        by_index None none rest =
            let no_time = no_timeout c command step path.1 none in (
              path.0,
              path.1,
              ys,
              ys,
              stands_none command.at step.index ys none,
              stands_none command.at step.timeout ys no_time,
              rest ys sorted
                  (λ y m. ⊎_elim (λ (h : AtStep y command.at step.index). absurd (let f = sym none ∙ h.1 in cc f)) (λ h. ⊎_elim (λ (t : AtStep y command.at step.timeout). absurd (let f = sym no_time ∙ t.1 in cc f)) (λ h. h) h) (only y m))
                  (λ y h. has y (inr (inr h))),
            )
        by_index (Some k) some rest =
            let r = (replied_at c command step path.1 k some).1 in
            let same_k : r.index ≡ k = cc (sym r.at ∙ some) in
            let stands : slice_get (histories command.at) k ≡ Some r.entry = ap (slice_get (histories command.at)) (sym same_k) ∙ r.made.stands in
            let ex : Placed Op Shown = record { at = command.at; entry = r.entry } in
            let split = split_first view (λ y. EntryOf y (command ∷ commands) (step ∷ steps)) (λ y. AtStep y command.at step.timeout ⊎ EntryOf y commands steps) ex (inl (k, some, refl, stands))
            (λ z h. ⊎_elim (λ (a : AtStep z command.at step.index). inl (placed_is z command.at r.entry a.2 (let same : a.0 ≡ k = cc (sym a.1 ∙ some) in cc (sym a.3 ∙ ap (slice_get (histories command.at)) same ∙ stands)))) (λ h. inr h) h)
            (λ z h. inr h)
            (λ z h. ⊎_elim (λ (t : AtStep z command.at step.timeout). (timeout_after c command step path.1 z t r.entry k some stands).0) (λ h. let a = path_after c step.upto commands steps path.2 z h in let b = r.before in omega (arith, a, b)) h)
            ys sorted only has in
            by_timeout k r.entry split.others some stands split.is split.sorted split.only split.has rest step.timeout refl
