-- Claims about entries up to a stamp, once no entry up to it is to come: a client goes on, a client gives up.
use Rattle.std.proofs.Common.{◌≡◌, ◌⊎◌, inl, inr, ⊎_elim, ℕ, ◌+◌, ◌<◌, ◌≤◌, List, [], ◌∷◌, ◌++◌, length, refl, sym, ap, subst, ◌∙◌, arith, Bool, true, false, true≢false, Option, Some, None, length-append}
use Rattle.std.specs.Prelude.{◌==◌, ◌&&◌, ◌||◌, not, nat_le, if◌then◌else◌, filter, slice_get, is_some, option_map, IsTrue}
use Rattle.std.specs.List.{AllByRecursion, list_any, list_all}
use Rattle.std.proofs.lemmas.Bool.Decides.{Decides-eqb}
use Rattle.std.proofs.lemmas.Bool.{le-leb, leb-true}
use Rattle.std.proofs.lemmas.List.{append-nil}
use Rattle.model_members.specs.View.{is_member, identities_of}
use Rattle.model_members.specs.DataType.{Replication}
use Rattle.model_members.specs.Message.{Post}
use Rattle.model_members.specs.Node.{Node, OpenOperation, Input, Reply, Fate, one_step_later}
use Rattle.model_members.specs.Step.{step, is_full}
use Rattle.model_members.specs.World.{World}
use Rattle.theorem_sections.specs.Sections.{Section, Made, node_full, is_open, running, some_full, world_of, are_posts_heard, has_ended, goes_on, pending_op}
use Rattle.theorem_sections.specs.Histories.{Entry, Placed, RiseAbove, posted_to, taken_from, entries_at, AreSteps, replayed, AreHistories}
use Rattle.theorem_sections.specs.Paths.{until, member_until, some_full_until, has_taken, are_posts_taken, has_ended_until}
use Rattle.theorem_sections.proofs.NextDue.{same_or_not}
use Rattle.theorem_sections.proofs.RunOrder.{entries_here, entries_else, taken-append}
use Rattle.theorem_sections.proofs.Untils.{steps_first, until_late, until-append, until_begins, rise_last, replayed-append, full_stays, closed_since, number_below}
use Rattle.theorem_sections.proofs.Along.{Along, base}
use Rattle.theorem_sections.proofs.Moves.{Keeping}
use Rattle.theorem_operations.proofs.Lists.{any_more, both_true, or_left, or_right, or_more, not_true}

-- TESTS

pub or_either : (a b : Bool) → (a || b) ≡ true → (a ≡ true) ⊎ (b ≡ true)
or_either true b e = inl refl
or_either false b e = inr e

pub all_more : {X : Type 0} (p q : X → Bool) → ((x : X) → p x ≡ true → q x ≡ true) → (xs : List X) → list_all p xs ≡ true → list_all q xs ≡ true
all_more p q h [] e = refl
all_more p q h (x ∷ xs) e = by (p x) (list_all p xs) refl refl e (all_more p q h xs)
  where
    by : (a b : Bool) → p x ≡ a → list_all p xs ≡ b → (a && b) ≡ true → (list_all p xs ≡ true → list_all q xs ≡ true) → (q x && list_all q xs) ≡ true
    by true b is is' e later = both_true (q x) (list_all q xs) (h x is) (later (is' ∙ e))
    by false b is is' e later = absurd (cc e)

-- of these numbers alone
pub all_more_of : (p q : ℕ → Bool) (xs : List ℕ) → ((x : ℕ) → list_any (λ y. y == x) xs ≡ true → p x ≡ true → q x ≡ true) → list_all p xs ≡ true → list_all q xs ≡ true
all_more_of p q [] h e = refl
all_more_of p q (x ∷ xs) h e = by (p x) (list_all p xs) refl refl e (all_more_of p q xs (λ y m. h y (or_right (x == y) (list_any (λ z. z == y) xs) m)))
  where
    by : (a b : Bool) → p x ≡ a → list_all p xs ≡ b → (a && b) ≡ true → (list_all p xs ≡ true → list_all q xs ≡ true) → (q x && list_all q xs) ≡ true
    by true b is is' e later = both_true (q x) (list_all q xs) (h x (or_left (x == x) (list_any (λ z. z == x) xs) ((Decides-eqb x x).1 refl)) is) (later (is' ∙ e))
    by false b is is' e later = absurd (cc e)

-- none of a list
pub any_none : {X : Type 0} (p : X → Bool) (xs : List X) → AllByRecursion (λ x. p x ≡ false) xs → list_any p xs ≡ false
any_none p [] all = refl
any_none p (x ∷ xs) all = ap (λ b. b || list_any p xs) all.0 ∙ any_none p xs all.1

pub none_any : {X : Type 0} (p : X → Bool) (xs : List X) → list_any p xs ≡ false → AllByRecursion (λ x. p x ≡ false) xs
none_any p [] e = tt
none_any p (x ∷ xs) e = by (p x) refl e (none_any p xs)
  where
    by : (b : Bool) → p x ≡ b → (b || list_any p xs) ≡ false → (list_any p xs ≡ false → AllByRecursion (λ x. p x ≡ false) xs) → (p x ≡ false) × AllByRecursion (λ x. p x ≡ false) xs
    by true is e later = absurd (cc e)
    by false is e later = (is, later e)

pub is_not : (b : Bool) → b ≡ false → not b ≡ true
is_not true e = absurd (cc e)
is_not false e = refl

module _ {Op Shown : Type 0} where
  pub all_entries : (P : Entry Op Shown → Type 0) (i : ℕ) (placed : List (Placed Op Shown)) → AllByRecursion (λ (x : Placed Op Shown). P x.entry) placed → AllByRecursion P (entries_at i placed)
  all_entries P i [] all = tt
  all_entries P i (x ∷ placed) all = ⊎_elim
      (λ (is : x.at ≡ i). let Q : List (Entry Op Shown) → Type 0 = AllByRecursion P in subst Q (sym (entries_here i x placed is)) (all.0, all_entries P i placed all.1))
      (λ isnt. let Q : List (Entry Op Shown) → Type 0 = AllByRecursion P in subst Q (sym (entries_else i x placed isnt)) (all_entries P i placed all.1))
      (same_or_not x.at i)

  -- entries to come are all later than a stamp
  abbrev pub Late : ℕ → List (Placed Op Shown) → Type 0
  Late u rest = AllByRecursion (λ (y : Placed Op Shown). u < y.entry.stamp) rest

module _ {Kind Op Shown : Type 0} (D : Replication Kind Op Shown) where
  -- a timeout that is answered so found the operation open
  pub times_out_open : (n : Node Kind Op Shown) (op : ℕ) (fate : Fate) → (step D n (Input.Timeout op) fate).output.reply ≡ Reply.TimedOut → is_open op (Some n) ≡ true
  times_out_open n op fate e = by (list_any (λ (o : OpenOperation). o.op == op) n.open_operations) refl e
    where
      by : (b : Bool) → list_any (λ (o : OpenOperation). o.op == op) n.open_operations ≡ b
          → ((if b then Rattle.model_members.specs.Step.answered (record (one_step_later n) { open_operations = filter (λ (o : OpenOperation). not (o.op == op)) n.open_operations }) Reply.TimedOut
          else Rattle.model_members.specs.Step.answered (one_step_later n) Reply.NoSuchOp).output.reply ≡ Reply.TimedOut) → list_any (λ (o : OpenOperation). o.op == op) n.open_operations ≡ true
      by true is e = is
      by false is e = absurd (cc e)

  module _ (world : World Kind Op Shown) (histories : ℕ → List (Entry Op Shown)) (placed : List (Placed Op Shown)) (keeping : Keeping Op) (all : AreHistories D world histories)
      (runs_in : (i : ℕ) (n : Node Kind Op Shown) → world.nodes i ≡ Some n → IsTrue (is_member world.view i)) where
    -- what is kept of a command that was answered by an entry
    pub record IsMadeBy (made : Made Op Shown) (i : ℕ) (e : Entry Op Shown) : Type 0 where
      pub at : made.at ≡ i
      pub posts : made.line.posts ≡ e.output.posts
      pub sent : (to : ℕ) → made.sent to ≤ base D world histories placed keeping i to + length (posted_to to (until e.stamp (histories i)))

    module _ (s : Section Kind Op Shown) (done rest : List (Placed Op Shown)) (along : Along D world histories placed keeping s.playing s.due done rest) where
      abbrev done_at : ℕ → List (Entry Op Shown)
      done_at i = entries_at i done

      rises : (i : ℕ) → IsTrue (is_member world.view i) → RiseAbove 0 (done_at i)
      rises i mi = rise_last 0 (done_at i) (entries_at i rest) (subst (RiseAbove 0) (sym (along.whole i mi)) (all.rise i))

      until_now : (u i : ℕ) → IsTrue (is_member world.view i) → Late u rest → until u (histories i) ≡ until u (done_at i)
      until_now u i mi late =
          ap (until u) (sym (along.whole i mi)) ∙ until-append u (done_at i) (entries_at i rest)
          ∙ ap (λ es. until u (done_at i) ++ es) (until_late u (entries_at i rest) (all_entries (λ (e : Entry Op Shown). u < e.stamp) i rest late)) ∙ append-nil (until u (done_at i))

      pub begins : (u i : ℕ) → IsTrue (is_member world.view i) → Late u rest → (more : List (Entry Op Shown)) × (until u (histories i) ++ more ≡ done_at i)
      begins u i mi late = let b = until_begins u 0 (done_at i) (rises i mi) in (b.0, ap (λ es. es ++ b.0) (until_now u i mi late) ∙ b.1)

      steps_done : (i : ℕ) (b : Node Kind Op Shown) → world.nodes i ≡ Some b → AreSteps D b (done_at i)
      steps_done i b is =
          let at = all.steps i (runs_in i b is) in
          let same : at.0 ≡ b = cc (sym at.1 ∙ is) in
          steps_first D b (done_at i) (entries_at i rest) (subst (AreSteps D b) (sym (along.whole i (runs_in i b is))) (subst (λ n. AreSteps D n (histories i)) same at.2))

      runs_same : (j : ℕ) → is_some ((world_of s).nodes j) ≡ is_some (world.nodes j)
      runs_same j = ap is_some (along.nodes j) ∙ by (world.nodes j)
        where
          by : (o : Option (Node Kind Op Shown)) → is_some (option_map (λ b. replayed D b (done_at j)) o) ≡ is_some o
          by None = refl
          by (Some b) = refl

      running_same : running (world_of s) ≡ running world
      running_same = ap identities_of along.going.same_view

      -- FULL MEMBERS

      pub full_now : (u i : ℕ) → Late u rest → node_full D (member_until D world histories i u) ≡ true → node_full D ((world_of s).nodes i) ≡ true
      full_now u i late full = ap (node_full D) (along.nodes i) ∙ by (world.nodes i) refl full
        where
          by : (o : Option (Node Kind Op Shown)) → world.nodes i ≡ o → node_full D (option_map (λ b. replayed D b (until u (histories i))) o) ≡ true → node_full D (option_map (λ b. replayed D b (done_at i)) o) ≡ true
          by None is e = e
          by (Some b) is e =
              let more = begins u i (runs_in i b is) late in
              subst (λ es. is_full D (replayed D b es) ≡ true) more.1 (full_stays D b (until u (histories i)) more.0 (subst (AreSteps D b) (sym more.1) (steps_done i b is)) e)

      pub some_full_now : (u : ℕ) → Late u rest → some_full_until D world histories u ≡ true → some_full D (world_of s) ≡ true
      some_full_now u late full =
          any_more (λ i. node_full D (member_until D world histories i u)) (λ i. node_full D ((world_of s).nodes i)) (λ i. full_now u i late) (running (world_of s))
          (subst (λ is. list_any (λ i. node_full D (member_until D world histories i u)) is ≡ true) (sym running_same) full)

      -- CLOSED OPERATIONS

      pub closed_now : (u i op k : ℕ) (e : Entry Op Shown) → Late u rest → slice_get (histories i) k ≡ Some e → e.output.reply ≡ Reply.Pending op → e.stamp ≤ u
          → is_open op (member_until D world histories i u) ≡ false → is_open op ((world_of s).nodes i) ≡ false
      closed_now u i op k e late at reply early closed = ap (is_open op) (along.nodes i) ∙ by (world.nodes i) refl closed
        where
          by : (o : Option (Node Kind Op Shown)) → world.nodes i ≡ o → is_open op (option_map (λ b. replayed D b (until u (histories i))) o) ≡ false → is_open op (option_map (λ b. replayed D b (done_at i)) o) ≡ false
          by None is e' = refl
          by (Some b) is e' =
              let more = begins u i (runs_in i b is) late in
              let steps = all.steps i (runs_in i b is) in
              let same : steps.0 ≡ b = cc (sym steps.1 ∙ is) in
              let below = number_below D op u 0 b (histories i) k e (all.rise i) (subst (λ n. AreSteps D n (histories i)) same steps.2) at reply early in
              subst (λ es. is_open op (Some (replayed D b es)) ≡ false) more.1
              (subst (λ n. is_open op (Some n) ≡ false) (sym (replayed-append D b (until u (histories i)) more.0)) (closed_since D op (replayed D b (until u (histories i))) more.0 below e'))

      pub ended_now : (u i k : ℕ) (made : Made Op Shown) (e : Entry Op Shown) (pending : Option ℕ) → made.at ≡ i → ((op : ℕ) → pending ≡ Some op → e.output.reply ≡ Reply.Pending op) → Late u rest → slice_get (histories i) k ≡ Some e → e.stamp ≤ u
          → has_ended_until D world histories i u pending ≡ true → has_ended D (world_of s) made pending ≡ true
      ended_now u i k made e None at reply late stands early ended = refl
      ended_now u i k made e (Some op) at reply late stands early ended =
          subst (λ j. (not (is_open op ((world_of s).nodes j)) || node_full D ((world_of s).nodes j)) ≡ true) (sym at)
          (or_more (not (is_open op (member_until D world histories i u))) (node_full D (member_until D world histories i u)) (not (is_open op ((world_of s).nodes i))) (node_full D ((world_of s).nodes i))
          (λ closed. is_not (is_open op ((world_of s).nodes i)) (closed_now u i op k e late stands (reply op refl) early (not_true (is_open op (member_until D world histories i u)) closed)))
          (full_now u i late) ended)

      -- POSTS

      taken_more : (a b u : ℕ) → IsTrue (is_member world.view b) → Late u rest → length (taken_from a (until u (histories b))) ≤ length (taken_from a (done_at b))
      taken_more a b u mb late =
          let more = begins u b mb late in
          let e = ap length (ap (taken_from a) (sym more.1) ∙ taken-append a (until u (histories b)) more.0) ∙ length-append (taken_from a (until u (histories b))) (taken_from a more.0) in
          omega (arith, e)

      pub posts_now : (u i : ℕ) (made : Made Op Shown) (e : Entry Op Shown) → IsMadeBy made i e → Late u rest → are_posts_taken D world histories i e u ≡ true → are_posts_heard s made ≡ true
      posts_now u i made e by late taken =
          subst (λ posts. list_all (λ (post : Post Op). not (is_some ((world_of s).nodes post.to)) || nat_le (made.sent post.to) (s.due made.at post.to)) posts ≡ true) (sym by.posts)
          (all_more (λ (post : Post Op). not (is_some (world.nodes post.to)) || has_taken D world histories i post.to e.stamp u)
          (λ (post : Post Op). not (is_some ((world_of s).nodes post.to)) || nat_le (made.sent post.to) (s.due made.at post.to)) (λ post. one post.to (world.nodes post.to) refl) e.output.posts taken)
        where
          one : (to : ℕ) (o : Option (Node Kind Op Shown)) → world.nodes to ≡ o → (not (is_some (world.nodes to)) || has_taken D world histories i to e.stamp u) ≡ true → (not (is_some ((world_of s).nodes to)) || nat_le (made.sent to) (s.due made.at to)) ≡ true
          one to None is t = or_left (not (is_some ((world_of s).nodes to))) (nat_le (made.sent to) (s.due made.at to)) (ap not (runs_same to ∙ ap is_some is))
          one to (Some n) is t =
              or_right (not (is_some ((world_of s).nodes to))) (nat_le (made.sent to) (s.due made.at to))
              (let h : has_taken D world histories i to e.stamp u ≡ true = ⊎_elim (λ (f : not (is_some (world.nodes to)) ≡ true). absurd (true≢false (sym f ∙ ap (λ o. not (is_some o)) is))) (λ f. f) (or_either (not (is_some (world.nodes to))) (has_taken D world histories i to e.stamp u) t) in
              let a = leb-true (length (posted_to to (until e.stamp (histories i)))) (length (taken_from i (until u (histories to)))) h in
              let b = taken_more i to u (runs_in to n is) late in
              let c = by.sent to in
              let d = along.due_is i to in
              le-leb (made.sent to) (s.due made.at to) (subst (λ j. made.sent to ≤ s.due j to) (sym by.at) (omega (arith, a, b, c, d))))

      -- A CLIENT GOES ON

      pub goes_on_now : (u i k : ℕ) (made : Made Op Shown) (e : Entry Op Shown) → IsMadeBy made i e → ((op : ℕ) → pending_op made.line.answer ≡ Some op → e.output.reply ≡ Reply.Pending op) → Late u rest → slice_get (histories i) k ≡ Some e → e.stamp ≤ u
          → (are_posts_taken D world histories i e u || some_full_until D world histories u) ≡ true → has_ended_until D world histories i u (pending_op made.line.answer) ≡ true → goes_on D s (Some made) ≡ true
      goes_on_now u i k made e by reply late stands early heard ended =
          both_true (are_posts_heard s made || some_full D (world_of s)) (has_ended D (world_of s) made (pending_op made.line.answer))
          (or_more (are_posts_taken D world histories i e u) (some_full_until D world histories u) (are_posts_heard s made) (some_full D (world_of s)) (posts_now u i made e by late) (some_full_now u late) heard)
          (ended_now u i k made e (pending_op made.line.answer) by.at reply late stands early ended)
