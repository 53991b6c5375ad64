-- Paths by what clients knew are paths by stamps.
use Rattle.std.proofs.Common.{◌≡◌, inl, inr, ⊎_elim, ℕ, zero, suc, ◌<◌, ◌≤◌, List, [], ◌∷◌, ◌++◌, length, drop, map, refl, sym, ap, subst, ◌∙◌, arith, Bool, true, false, Option, Some, None}
use Rattle.std.specs.Prelude.{◌==◌, ◌||◌, not, if◌then◌else◌, slice_get, take, is_some, option_map, IsTrue}
use Rattle.std.specs.List.{list_any, list_all}
use Rattle.std.proofs.lemmas.Bool.{le-leb}
use Rattle.std.proofs.lemmas.Bool.Decides.{Decides-eqb}
use Rattle.std.proofs.lemmas.List.{append_assoc}
use Rattle.model_history.proofs.PartLaws.{take_and_drop}
use Rattle.model_members.specs.View.{is_member}
use Rattle.model_members.specs.DataType.{Replication}
use Rattle.model_members.specs.Message.{Post}
use Rattle.model_members.specs.Node.{Node, Reply, Finished}
use Rattle.model_members.specs.Step.{is_full}
use Rattle.model_members.specs.World.{World}
use Rattle.model_members.specs.Script.{Answer}
use Rattle.theorem_operations.proofs.Lists.{all_first, any_more, both_true, or_left, or_right}
use Rattle.theorem_sections.specs.Sections.{Command, Ending, answers, node_full, is_open, running, pending_op, finished_at, ending_by, ending_of}
use Rattle.theorem_sections.specs.Sections.Ending.{TimedOut, LeftOpen}
use Rattle.theorem_sections.specs.Histories.{Entry, Passed, posted_to, taken_from, AreSteps, replayed, AreHistories}
use Rattle.theorem_sections.specs.Paths.{until, member_until, some_full_until, has_taken, are_posts_taken, are_answers_taken, has_ended_until, IsReplied, IsAnsweredBy, TimesOut, IsStepOf, IsPath, ArePaths}
use Rattle.theorem_sections.specs.Knowing.{KnownStep, steps_of, IsKnownBy, member_after, IsKnownFull, KnowsFull, KnowsHeard, KnowsAnswered, KnowsEnded, IsUnfinished, IsKnownReply, IsKnownAnswer, TimesOutKnown, EndsByTimeout, IsKnownStepOf, IsKnownPath, AreKnownPaths}
use Rattle.theorem_sections.proofs.NextDue.{same_or_not}
use Rattle.theorem_sections.proofs.RunOrder.{posted-append, is_same}
use Rattle.theorem_sections.proofs.Untils.{until_begins, steps_first, steps_after, full_ends, replayed-append, closed_since}
use Rattle.theorem_sections.proofs.Asked.{NoneAnswers, all_drop}
use Rattle.theorem_sections.proofs.Asking.{answers_none}
use Rattle.theorem_sections.proofs.Heard.{any_none, is_not}
use Rattle.theorem_sections.proofs.Beginnings.{AreUpTo, until_one, stands_first, before_by_stamp, number_of_pending, steps_of_node, among, taken_until, full_until, closed_until}
use Rattle.theorem_sections.proofs.Standing.{finished_since, closed_after}
use Rattle.theorem_sections.proofs.Unfinished.{AreBelow, none_after_timeout}
use Rattle.theorem_sections.proofs.KnownTimeouts.{get_mapped, dropped_first, replied_at, is_timed_out}
use Rattle.theorem_sections.proofs.Positions.{pending_reply}

-- LISTS

-- each of these numbers
all_listed : (p : ℕ → Bool) (xs : List ℕ) → ((x : ℕ) → list_any (λ y. y == x) xs ≡ true → p x ≡ true) → list_all p xs ≡ true
all_listed p [] h = refl
all_listed p (x ∷ xs) h =
    both_true (p x) (list_all p xs) (h x (or_left (x == x) (list_any (λ y. y == x) xs) (is_same x x refl)))
    (all_listed p xs (λ y m. h y (or_right (x == y) (list_any (λ z. z == y) xs) m)))

-- each receiver of these
all_receivers : {Op : Type 0} (p : ℕ → Bool) (posts : List (Post Op)) → ((j : ℕ) → list_any (λ (post : Post Op). post.to == j) posts ≡ true → p j ≡ true) → list_all (λ (post : Post Op). p post.to) posts ≡ true
all_receivers p [] h = refl
all_receivers {Op} p (post ∷ posts) h =
    both_true (p post.to) (list_all (λ (post : Post Op). p post.to) posts) (h post.to (or_left (post.to == post.to) (list_any (λ (q : Post Op). q.to == post.to) posts) (is_same post.to post.to refl)))
    (all_receivers p posts (λ j m. h j (or_right (post.to == j) (list_any (λ (q : Post Op). q.to == j) posts) m)))

-- one of these numbers
any_listed : (p : ℕ → Bool) (xs : List ℕ) (x : ℕ) → list_any (λ y. y == x) xs ≡ true → p x ≡ true → list_any p xs ≡ true
any_listed p xs x m e = any_more (λ y. y == x) p (λ y is. ap p ((Decides-eqb y x).0 is) ∙ e) xs m

append_none : {X : Type 0} (xs ys : List X) → xs ++ ys ≡ [] → xs ≡ []
append_none [] ys e = refl
append_none (x ∷ xs) ys e = absurd (cc e)

-- what has no rest is whole
take_whole_more : {X : Type 0} (n m : ℕ) (xs : List X) → drop n xs ≡ [] → n ≤ m → take m xs ≡ xs
take_whole_more n zero [] e h = refl
take_whole_more n (suc m) [] e h = refl
take_whole_more zero m (x ∷ xs) e h = absurd (cc e)
take_whole_more (suc n) zero (x ∷ xs) e h = absurd (omega (arith, h))
take_whole_more (suc n) (suc m) (x ∷ xs) e h = ap (λ ys. x ∷ ys) (take_whole_more n m xs e (omega (arith, h)))

-- an operation ends as it stands
same_ending : {Kind Op Shown : Type 0} (op : ℕ) (x y : Option (Node Kind Op Shown)) → is_open op x ≡ is_open op y → finished_at op x ≡ finished_at op y → ending_of x (Some op) ≡ ending_of y (Some op)
same_ending {Kind} {Op} {Shown} op x y opens ends = ap (λ f. Some (ending_by op x f)) ends ∙ by (finished_at op y)
  where
    by : (f : Option (Finished Shown)) → ◌≡◌ {A = Option (Ending Shown)} (Some (ending_by op x f)) (Some (ending_by op y f))
    by None = ap (λ b. Some (if b then LeftOpen op else TimedOut op)) opens
    by (Some f) = refl

-- closed without a result
ending_none : {Kind Op Shown : Type 0} (op : ℕ) (x : Option (Node Kind Op Shown)) → is_open op x ≡ false → finished_at op x ≡ None → ending_of x (Some op) ≡ Some (TimedOut op)
ending_none op x closed none = ap (λ f. Some (ending_by op x f)) none ∙ ap (λ b. Some (if b then LeftOpen op else TimedOut op)) closed

module _ {Kind Op Shown : Type 0} (D : Replication Kind Op Shown) (world : World Kind Op Shown) (histories : ℕ → List (Entry Op Shown)) (all : AreHistories D world histories)
    (runs_in : (i : ℕ) (n : Node Kind Op Shown) → world.nodes i ≡ Some n → IsTrue (is_member world.view i)) (none_own : (i : ℕ) → IsTrue (is_member world.view i) → posted_to i (histories i) ≡ []) (below : (i : ℕ) (n : Node Kind Op Shown) → world.nodes i ≡ Some n → AreBelow D n) where
  abbrev Is : ℕ → Type 0
  Is i = IsTrue (is_member world.view i)

  member_at : (i : ℕ) → is_some (world.nodes i) ≡ true → Is i
  member_at i e = by (world.nodes i) refl e
    where
      by : (o : Option (Node Kind Op Shown)) → world.nodes i ≡ o → is_some o ≡ true → Is i
      by None is e = absurd (cc e)
      by (Some n) is e = runs_in i n is

  -- what is posted to itself up to a stamp
  own_until : (i u : ℕ) → Is i → posted_to i (until u (histories i)) ≡ []
  own_until i u mi =
      let begin = until_begins u 0 (histories i) (all.rise i) in
      append_none (posted_to i (until u (histories i))) (posted_to i begin.0) (sym (posted-append i (until u (histories i)) begin.0) ∙ ap (posted_to i) begin.1 ∙ none_own i mi)

  module _ (known : ℕ → ℕ) (u : ℕ) (knows : IsKnownBy D world histories known u) where
    early : (i count : ℕ) → count ≤ known i → AreUpTo u count (histories i)
    early i count few k e at l = knows i k e at (omega (arith, few, l))

    one_full : (i : ℕ) → IsKnownFull D world histories i known → node_full D (member_until D world histories i u) ≡ true
    one_full i f = full_until D world histories all runs_in u i f.0 (early i f.0 f.1) f.2

    some_full : KnowsFull D world histories known → some_full_until D world histories u ≡ true
    some_full f = any_listed (λ i. node_full D (member_until D world histories i u)) (running world) f.0 (by (world.nodes f.0) refl (one_full f.0 f.1)) (one_full f.0 f.1)
      where
        by : (o : Option (Node Kind Op Shown)) → world.nodes f.0 ≡ o → node_full D (member_until D world histories f.0 u) ≡ true → Is f.0
        by None is full = absurd (let e = sym (ap (λ o. node_full D (option_map (λ before. replayed D before (until u (histories f.0))) o)) is) ∙ full in cc e)
        by (Some n) is full = runs_in f.0 n is

    -- the posts of an entry
    posts_taken : (i k : ℕ) (e : Entry Op Shown) → Is i → slice_get (histories i) k ≡ Some e → KnowsHeard D world histories i k e known → are_posts_taken D world histories i e u ≡ true
    posts_taken i k e mi at heard = all_receivers (λ j. not (is_some (world.nodes j)) || has_taken D world histories i j e.stamp u) e.output.posts (λ j posts. one j (world.nodes j) refl posts)
      where
        one : (j : ℕ) (o : Option (Node Kind Op Shown)) → world.nodes j ≡ o → list_any (λ (post : Post Op). post.to == j) e.output.posts ≡ true → (not (is_some (world.nodes j)) || has_taken D world histories i j e.stamp u) ≡ true
        one j None is posts = or_left (not (is_some (world.nodes j))) (has_taken D world histories i j e.stamp u) (ap (λ o. not (is_some o)) is)
        one j (Some n) is posts =
            or_right (not (is_some (world.nodes j))) (has_taken D world histories i j e.stamp u)
            (le-leb (length (posted_to j (until e.stamp (histories i)))) (length (taken_from i (until u (histories j))))
            (⊎_elim
            (λ (same : j ≡ i). let l = ap length (ap (λ t. posted_to t (until e.stamp (histories i))) same ∙ own_until i e.stamp mi) in omega (arith, l))
            (λ isnt.
            let a = heard j isnt (runs_in j n is) posts in
            let b = taken_until D world histories all runs_in u j (known j) (early j (known j) (omega arith)) i in
            let c = ap (λ es. length (posted_to j es)) (until_one 0 k (histories i) e (all.rise i) at) in
            omega (arith, a, b, c))
            (same_or_not j i)))

    -- what a command waits for
    ended : (i k : ℕ) (e : Entry Op Shown) (pending : Option ℕ) → slice_get (histories i) k ≡ Some e → ((op : ℕ) → pending ≡ Some op → e.output.reply ≡ Reply.Pending op) → k < known i
        → KnowsEnded D world histories i known pending → has_ended_until D world histories i u pending ≡ true
    ended i k e None at reply h ends = refl
    ended i k e (Some op) at reply h ends = ⊎_elim
        (λ (closed : is_open op (member_after D world histories i (known i)) ≡ false).
        or_left (not (is_open op (member_until D world histories i u))) (node_full D (member_until D world histories i u))
        (is_not (is_open op (member_until D world histories i u)) (closed_until D world histories all runs_in u i (known i) (early i (known i) (omega arith)) op k e at (reply op refl) h closed)))
        (λ full. or_right (not (is_open op (member_until D world histories i u))) (node_full D (member_until D world histories i u)) (one_full i full))
        ends

  -- ANSWERS

  -- where a question was known to be taken, and what had been posted by then was known to be taken too, no answer is left
  module _ (asked seen : ℕ → ℕ) (u : ℕ) (knows_asked : IsKnownBy D world histories asked u) (knows : IsKnownBy D world histories seen u) (i k op : ℕ) (e : Entry Op Shown) (mi : Is i) (stands : slice_get (histories i) k ≡ Some e) (reply : e.output.reply ≡ Reply.Pending op)
      (heard : KnowsHeard D world histories i k e asked) (answered : KnowsAnswered D world histories i asked seen) where
    abbrev taken_of : ℕ → ℕ
    taken_of j = length (taken_from j (until u (histories i)))

    none_left : (j : ℕ) → Is j → NoneAnswers op (drop (taken_of j) (posted_to i (until u (histories j))))
    none_left j mj = ⊎_elim
        (λ (same : j ≡ i). (let P : List (Passed Op) → Type 0 = NoneAnswers op in
        subst (λ t. NoneAnswers op (drop (taken_of j) (posted_to i (until u (histories t))))) (sym same) (subst (λ ms. NoneAnswers op (drop (taken_of j) ms)) (sym (own_until i u mi)) (all_drop (λ (m : Passed Op). answers op m.message ≡ false) (taken_of j) [] tt))))
        (λ isnt.
        let begin = until_begins u 0 (histories j) (all.rise j) in
        let more = among D world histories all runs_in u j (asked j) (early asked u knows_asked j (asked j) (omega arith)) in
        let part = take (asked j) (histories j) in
        let whole : histories j ≡ part ++ (more.0 ++ begin.0) = sym begin.1 ∙ ap (λ es. es ++ begin.0) (sym more.1) ∙ append_assoc part more.0 begin.0 in
        let count : list_any (λ (post : Post Op). post.to == j) e.output.posts ≡ true → length (posted_to j (until e.stamp (histories i))) ≤ length (taken_from i part) =
        λ posts. subst (λ es. length (posted_to j es) ≤ length (taken_from i part)) (sym (until_one 0 k (histories i) e (all.rise i) stands)) (heard j isnt mj posts) in
        let none : NoneAnswers op (posted_to i (more.0 ++ begin.0)) = answers_none D world histories all i k op e mi stands reply j mj part (more.0 ++ begin.0) whole count in
        let none_more : NoneAnswers op (posted_to i more.0) =
        (let P : List (Passed Op) → Type 0 = NoneAnswers op in all_first (λ (m : Passed Op). answers op m.message ≡ false) (posted_to i more.0) (posted_to i begin.0) (subst P (posted-append i more.0 begin.0) none)) in
        let a = answered j isnt mj in
        let b = taken_until D world histories all runs_in u i (seen i) (early seen u knows i (seen i) (omega arith)) j in
        subst (λ ms. NoneAnswers op (drop (taken_of j) ms)) (sym (posted-append i part more.0) ∙ ap (posted_to i) more.1)
        (dropped_first (λ (m : Passed Op). answers op m.message ≡ false) (taken_of j) (posted_to i part) (posted_to i more.0) (omega (arith, a, b)) none_more))
        (same_or_not j i)

    answers_taken : are_answers_taken D world histories i op u ≡ true
    answers_taken =
        all_listed (λ j. not (list_any (λ (p : Passed Op). answers op p.message) (drop (taken_of j) (posted_to i (until u (histories j)))))) (running world)
        (λ j mj. is_not (list_any (λ (p : Passed Op). answers op p.message) (drop (taken_of j) (posted_to i (until u (histories j)))))
        (any_none (λ (p : Passed Op). answers op p.message) (drop (taken_of j) (posted_to i (until u (histories j)))) (none_left j mj)))

  -- ONE STEP

  module _ (c : ℕ) (command : Command Op) (k : KnownStep Op Shown) (is : IsKnownStepOf D world histories c command k) where
    i : ℕ
    i = command.at

    upto : ℕ
    upto = k.step.upto

    -- the entry that a timeout is for
    pub record Pends (op index : ℕ) (e : Entry Op Shown) : Type 0 where
      pub stands : slice_get (histories command.at) index ≡ Some e
      pub reply : e.output.reply ≡ Reply.Pending op
      pub of : e.client ≡ c
      pub member : Is command.at
      pub known : index < k.known command.at

    pends : (op index : ℕ) → pending_op k.step.line.answer ≡ Some op → k.step.index ≡ Some index → (e : Entry Op Shown) → slice_get (histories command.at) index ≡ Some e → Pends op index e
    pends op index waits at e stands =
        let r = replied_at D world histories c command k is index at in
        let same : r.2.index ≡ index = cc (sym r.2.at ∙ at) in
        let same_e : r.2.entry ≡ e = (let s : Some r.2.entry ≡ Some e = sym r.2.made.stands ∙ ap (slice_get (histories command.at)) same ∙ stands in cc s) in
        record {
          stands = stands;
          reply = ap (λ (x : Entry Op Shown). x.output.reply) (sym same_e) ∙ r.2.replied ∙ pending_reply r.0 op (sym (ap pending_op r.1) ∙ waits);
          of = ap (λ (x : Entry Op Shown). x.client) (sym same_e) ∙ r.2.made.of;
          member = member_at command.at r.2.runs;
          known = subst (λ n. n < k.known command.at) same r.2.known;
        }

    -- WHERE ITS TIMEOUT WAS CALLED

    abbrev at_known : Option (Node Kind Op Shown)
    at_known = member_after D world histories command.at (k.known command.at)

    steps_known : (b : Node Kind Op Shown) → world.nodes command.at ≡ Some b → AreSteps D b (take (k.known command.at) (histories command.at))
    steps_known b runs =
        steps_first D b (take (k.known command.at) (histories command.at)) (drop (k.known command.at) (histories command.at))
        (subst (AreSteps D b) (sym (take_and_drop (histories command.at) (k.known command.at))) (steps_of_node D world histories all runs_in command.at b runs))

    module _ (op number : ℕ) (waits : pending_op k.step.line.answer ≡ Some op) (t : TimesOutKnown D world histories c command.at k (Some op) (Some number)) where
      p : Pends op t.0 t.1
      p = pends op t.0 waits t.2 t.1 t.3

      timeout_later : t.0 < number
      timeout_later =
          let stamps = t.4.early.1 command.at t.0 t.1 t.3 t.4.own in
          let later = t.4.early.2 in
          before_by_stamp 0 t.0 number (histories command.at) t.1 t.4.timeout (all.rise command.at) t.3 t.4.made.stands (omega (arith, stamps, later))

      -- the operation is closed
      closed_then : is_open op at_known ≡ false
      closed_then = by (world.nodes command.at) refl
        where
          by : (o : Option (Node Kind Op Shown)) → world.nodes command.at ≡ o → is_open op (option_map (λ b. replayed D b (take (k.known command.at) (histories command.at))) o) ≡ false
          by None none = refl
          by (Some b) runs =
              closed_after D op t.0 number b (take (k.known command.at) (histories command.at)) t.1 t.4.timeout (steps_known b runs) (stands_first (k.known command.at) t.0 (histories command.at) t.1 t.3 p.known) p.reply
              (stands_first (k.known command.at) number (histories command.at) t.4.timeout t.4.made.stands t.4.known) t.4.made.asks timeout_later

      -- and has no result, if it was found open
      none_then : t.4.timeout.output.reply ≡ Reply.TimedOut → finished_at op at_known ≡ None
      none_then found = by (world.nodes command.at) refl
        where
          by : (o : Option (Node Kind Op Shown)) → world.nodes command.at ≡ o → finished_at op (option_map (λ b. replayed D b (take (k.known command.at) (histories command.at))) o) ≡ None
          by None none = refl
          by (Some b) runs =
              none_after_timeout D op t.4.timeout t.4.made.asks found t.0 number b (take (k.known command.at) (histories command.at)) t.1 (below command.at b runs) (steps_known b runs)
              (stands_first (k.known command.at) t.0 (histories command.at) t.1 t.3 p.known) p.reply (stands_first (k.known command.at) number (histories command.at) t.4.timeout t.4.made.stands t.4.known) timeout_later

    ended_now : (pending timeout : Option ℕ) → pending_op k.step.line.answer ≡ pending → TimesOutKnown D world histories c command.at k pending timeout → (timeout ≡ None → KnowsEnded D world histories command.at k.known pending) → KnowsEnded D world histories command.at k.known pending
    ended_now pending None waits t ends = ends refl
    ended_now None (Some number) waits t ends = absurd t
    ended_now (Some op) (Some number) waits t ends = inl (closed_then op number waits t)

    ends_known : (reply : Reply Shown) → IsKnownReply D world histories c command k reply → KnowsEnded D world histories command.at k.known (pending_op k.step.line.answer)
    ends_known reply r = ended_now (pending_op k.step.line.answer) k.step.timeout refl is.timed_out r.ended

    replied : (reply : Reply Shown) → k.step.line.answer ≡ Answer.Replied reply → IsKnownReply D world histories c command k reply → IsReplied D world histories c command k.step reply
    replied reply said r =
        record {
          index = r.index;
          entry = r.entry;
          input = r.input;
          at = r.at;
          runs = r.runs;
          given = r.given;
          made = r.made;
          replied = r.replied;
          posts = r.posts;
          later = r.later;
          before = is.knows command.at r.index r.entry r.made.stands r.known;
          heard = ⊎_elim
              (λ (h : KnowsHeard D world histories command.at r.index r.entry k.known).
              or_left (are_posts_taken D world histories command.at r.entry k.step.upto) (some_full_until D world histories k.step.upto) (posts_taken k.known k.step.upto is.knows command.at r.index r.entry (member_at command.at r.runs) r.made.stands h))
              (λ f. or_right (are_posts_taken D world histories command.at r.entry k.step.upto) (some_full_until D world histories k.step.upto) (some_full k.known k.step.upto is.knows f))
              r.heard;
          ended = ended k.known k.step.upto is.knows command.at r.index r.entry (pending_op k.step.line.answer) r.made.stands (λ op e. r.replied ∙ pending_reply reply op (sym (ap pending_op said) ∙ e)) r.known (ends_known reply r);
        }

    answered_by : (answer : Answer Shown) → k.step.line.answer ≡ answer → IsKnownAnswer D world histories c command k answer → IsAnsweredBy D world histories c command k.step answer
    answered_by (Answer.Replied reply) said h = replied reply said h
    answered_by Answer.Gone said h = h
    answered_by Answer.NoSuchView said h = h
    answered_by Answer.HistoryFull said h = (h.0, h.1, h.2, one_full k.known k.step.upto is.knows command.at h.3)
    answered_by answer said h = absurd h

    -- THE END OF ITS LINE

    abbrev at_end : Option (Node Kind Op Shown)
    at_end = option_map (λ before. replayed D before (histories command.at)) (world.nodes command.at)

    ends_as_known : (pending timeout : Option ℕ) → pending_op k.step.line.answer ≡ pending → TimesOutKnown D world histories c command.at k pending timeout → EndsByTimeout D world histories command.at k pending timeout → k.step.line.ended ≡ ending_of at_known pending
    ends_as_known None timeout waits t h = absurd h
    ends_as_known (Some op) None waits t h = absurd h
    ends_as_known (Some op) (Some number) waits t h =
        let same : t.4.timeout ≡ h.0 = (let s : Some t.4.timeout ≡ Some h.0 = sym t.4.made.stands ∙ h.1 in cc s) in
        h.3 ∙ sym (ending_none op at_known (closed_then op number waits t) (none_then op number waits t (ap (λ (x : Entry Op Shown). x.output.reply) same ∙ h.2)))

    line_is : k.step.line.ended ≡ ending_of at_known (pending_op k.step.line.answer)
    line_is = ⊎_elim (λ (h : EndsByTimeout D world histories command.at k (pending_op k.step.line.answer) k.step.timeout). ends_as_known (pending_op k.step.line.answer) k.step.timeout refl is.timed_out h) (λ e. e) is.ends

    -- a closed operation stands at the end as it was known to stand, and a full member makes no more steps
    stays : (op index : ℕ) (e : Entry Op Shown) → Pends op index e → KnowsEnded D world histories command.at k.known (Some op) → ending_of at_known (Some op) ≡ ending_of at_end (Some op)
    stays op index e p ends = ⊎_elim (λ (closed : is_open op at_known ≡ false). by_closed (world.nodes command.at) refl closed) (λ f. by_full (world.nodes command.at) refl f.0 f.1 f.2) ends
      where
        whole : List (Entry Op Shown)
        whole = histories command.at

        firsts : List (Entry Op Shown)
        firsts = take (k.known command.at) (histories command.at)

        others : List (Entry Op Shown)
        others = drop (k.known command.at) (histories command.at)

        by_closed : (o : Option (Node Kind Op Shown)) → world.nodes command.at ≡ o → is_open op (option_map (λ b. replayed D b (take (k.known command.at) (histories command.at))) o) ≡ false
            → ending_of (option_map (λ b. replayed D b (take (k.known command.at) (histories command.at))) o) (Some op) ≡ ending_of (option_map (λ b. replayed D b (histories command.at)) o) (Some op)
        by_closed None none closed = refl
        by_closed (Some b) runs closed =
            let split : firsts ++ others ≡ whole = take_and_drop (histories command.at) (k.known command.at) in
            let steps : AreSteps D b (firsts ++ others) = subst (AreSteps D b) (sym split) (steps_of_node D world histories all runs_in command.at b runs) in
            let below = number_of_pending D op index b firsts e (steps_first D b firsts others steps) (stands_first (k.known command.at) index (histories command.at) e p.stands p.known) p.reply in
            let same : replayed D b (histories command.at) ≡ replayed D (replayed D b firsts) others = ap (replayed D b) (sym split) ∙ replayed-append D b firsts others in
            same_ending op (Some (replayed D b firsts)) (Some (replayed D b (histories command.at)))
            (closed ∙ sym (ap (λ n. is_open op (Some n)) same ∙ closed_since D op (replayed D b firsts) others below closed))
            (sym (ap (λ n. finished_at op (Some n)) same ∙ finished_since D op (replayed D b firsts) others below closed))

        by_full : (o : Option (Node Kind Op Shown)) → world.nodes command.at ≡ o → (count : ℕ) → count ≤ k.known command.at → node_full D (member_after D world histories command.at count) ≡ true
            → ending_of (option_map (λ b. replayed D b (take (k.known command.at) (histories command.at))) o) (Some op) ≡ ending_of (option_map (λ b. replayed D b (histories command.at)) o) (Some op)
        by_full None none count few full = refl
        by_full (Some b) runs count few full =
            let split : take count whole ++ drop count whole ≡ whole = take_and_drop (histories command.at) count in
            let steps : AreSteps D b (take count whole ++ drop count whole) = subst (AreSteps D b) (sym split) (steps_of_node D world histories all runs_in command.at b runs) in
            let is_over : is_full D (replayed D b (take count whole)) ≡ true = sym (ap (λ o. node_full D (option_map (λ b. replayed D b (take count (histories command.at))) o)) runs) ∙ full in
            let none = full_ends D (replayed D b (take count whole)) (drop count whole) (steps_after D b (take count whole) (drop count whole) steps) is_over in
            ap (λ es. ending_of (Some (replayed D b es)) (Some op)) (take_whole_more count (k.known command.at) (histories command.at) none few)

    line_ends : (answer : Answer Shown) → k.step.line.answer ≡ answer → IsKnownAnswer D world histories c command k answer → (pending : Option ℕ) → pending_op k.step.line.answer ≡ pending → ending_of at_known pending ≡ ending_of at_end pending
    line_ends answer said h None waits = refl
    line_ends (Answer.Replied reply) said r (Some op) waits =
        stays op r.index r.entry (pends op r.index waits r.at r.entry r.made.stands) (subst (KnowsEnded D world histories command.at k.known) waits (ends_known reply r))
    line_ends Answer.Gone said h (Some op) waits = absurd (let e = sym (ap pending_op said) ∙ waits in cc e)
    line_ends Answer.NoSuchView said h (Some op) waits = absurd (let e = sym (ap pending_op said) ∙ waits in cc e)
    line_ends Answer.HistoryFull said h (Some op) waits = absurd (let e = sym (ap pending_op said) ∙ waits in cc e)
    line_ends answer said h (Some op) waits = absurd h

  -- PATHS

  module _ (clients : List (List (Command Op))) (paths : List (List (KnownStep Op Shown))) (are : AreKnownPaths D world histories clients paths) where
    module _ (c n : ℕ) (commands : List (Command Op)) (ks : List (KnownStep Op Shown)) (command : Command Op) (k : KnownStep Op Shown) (of_client : slice_get clients c ≡ Some commands) (of_path : slice_get paths c ≡ Some ks) (e_command : slice_get commands n ≡ Some command) (e_step : slice_get ks n ≡ Some k)
        (is : IsKnownStepOf D world histories c command k) where
      timed_out : (pending timeout : Option ℕ) → pending_op k.step.line.answer ≡ pending → k.step.timeout ≡ timeout → TimesOutKnown D world histories c command.at k pending timeout → TimesOut D world histories c command.at k.step pending timeout
      timed_out pending None waits said t = tt
      timed_out None (Some number) waits said t = absurd t
      timed_out (Some op) (Some number) waits said t =
          let o = t.4 in
          let p = pends c command k is op t.0 waits t.2 t.1 t.3 in (
            t.0,
            t.1,
            t.2,
            t.3,
            record {
              timeout = o.timeout;
              seen = o.stamp;
              made = o.made;
              later = (o.early.1 command.at t.0 t.1 t.3 o.own, o.early.2);
              before = is.knows command.at number o.timeout o.made.stands o.known;
              cause = ⊎_elim
                  (λ (h : KnowsHeard D world histories command.at t.0 t.1 o.asked × KnowsAnswered D world histories command.at o.asked o.seen × IsUnfinished D world histories command.at op (o.seen command.at)).
                  inl (
                    is_timed_out D world histories all none_own clients paths are c n commands ks command k of_client of_path e_command e_step op t.0 number t.1 t.2 said t.3 p.reply p.of p.member
                        o.asked o.seen o.stamp o.timeout o.early.1 o.early.2 o.own o.made.stands o.made.asks h.0 h.1 h.2,
                    posts_taken o.asked o.stamp o.early.0 command.at t.0 t.1 p.member t.3 h.0,
                    answers_taken o.asked o.seen o.stamp o.early.0 o.early.1 command.at t.0 op t.1 p.member t.3 p.reply h.0 h.1,
                  ))
                  (λ f. inr (some_full o.seen o.stamp o.early.1 f))
                  o.cause;
            },
          )

      step_is : IsStepOf D world histories c command k.step
      step_is =
          record {
            told = is.told;
            answered = answered_by c command k is k.step.line.answer refl is.answered;
            timed_out = timed_out (pending_op k.step.line.answer) k.step.timeout refl refl is.timed_out;
            ends = line_is c command k is ∙ line_ends c command k is k.step.line.answer refl is.answered (pending_op k.step.line.answer) refl;
            forward = is.forward;
          }

    -- the rest of a path, once each step is one
    path_is : (c stamp : ℕ) (commands : List (Command Op)) (ks : List (KnownStep Op Shown)) → ((n : ℕ) (command : Command Op) (k : KnownStep Op Shown) → slice_get commands n ≡ Some command → slice_get ks n ≡ Some k → IsKnownStepOf D world histories c command k → IsStepOf D world histories c command k.step)
        → IsKnownPath D world histories c stamp commands ks → IsPath D world histories c stamp commands (map (λ (k : KnownStep Op Shown). k.step) ks)
    path_is c stamp [] [] each path = tt
    path_is c stamp [] (k ∷ ks) each path = absurd path
    path_is c stamp (command ∷ commands) [] each path = absurd path
    path_is c stamp (command ∷ commands) (k ∷ ks) each path = (path.0, each zero command k refl refl path.1, path_is c k.step.upto commands ks (λ n command k e f. each (suc n) command k e f) path.2)

    pub paths_are : ArePaths D world histories clients (steps_of paths)
    paths_are =
        record {
          as_many = length_mapped paths ∙ are.as_many;
          each = λ client commands steps e f.
              let ks = get_mapped (map (λ (k : KnownStep Op Shown). k.step)) paths client steps f in
              subst (IsPath D world histories client 0 commands) ks.2
              (path_is client 0 commands ks.0 (λ n command k e' f' is. step_is client n commands ks.0 command k e ks.1 e' f' is) (are.each client commands ks.0 e ks.1));
          whole = are.whole;
        }
      where
        length_mapped : (paths : List (List (KnownStep Op Shown))) → length (steps_of paths) ≡ length paths
        length_mapped [] = refl
        length_mapped (p ∷ ps) = ap suc (length_mapped ps)
