-- A timeout comes where a client gives up.
use Rattle.std.proofs.Common.{◌≡◌, ⊎_elim, ℕ, zero, suc, ◌+◌, ◌<◌, ◌≤◌, List, [], ◌∷◌, ◌++◌, length, map, drop, refl, sym, ap, subst, ◌∙◌, arith, Bool, true, false, true≢false, Some, length-append}
use Rattle.std.specs.Prelude.{◌==◌, ◌&&◌, ◌||◌, not, slice_get, is_some, IsTrue}
use Rattle.std.specs.List.{AllByRecursion, list_any, list_all}
use Rattle.std.proofs.lemmas.Bool.Decides.{Decides-eqb}
use Rattle.std.proofs.lemmas.Bool.{leb-true}
use Rattle.std.proofs.lemmas.List.{append_assoc}
use Rattle.std.proofs.Math.Seq.{drop-append-add}
use Rattle.model_members.specs.View.{is_member, identities_of}
use Rattle.model_members.specs.DataType.{Replication}
use Rattle.model_members.specs.Message.{Post}
use Rattle.model_members.specs.Node.{Node, Input, Output, Reply}
use Rattle.model_members.specs.Step.{step, is_full}
use Rattle.model_members.specs.World.{World, views_of}
use Rattle.theorem_sections.specs.Sections.{Section, Made, answers, has_room, is_open, running, some_full, world_of, unheard, are_posts_heard, are_answers_heard, gives_up}
use Rattle.theorem_sections.specs.Histories.{Entry, Placed, Passed, posted_to, taken_from, entries_at, AreHistories}
use Rattle.theorem_sections.specs.Paths.{until, has_taken, are_posts_taken, are_answers_taken, HasGivenUp}
use Rattle.theorem_sections.proofs.RunOrder.{messages_on, taken-append, posted-append, its_steps, no_less}
use Rattle.theorem_operations.proofs.Lists.{all_first, both_true, or_left, or_right, not_true}
use Rattle.theorem_sections.proofs.Asked.{NoneAnswers, less_dropped, dropped_more}
use Rattle.theorem_sections.proofs.Asking.{answers_none}
use Rattle.theorem_sections.proofs.Along.{Along, base}
use Rattle.theorem_sections.proofs.Heard.{Late, IsMadeBy, begins, posts_now, some_full_now, times_out_open, or_either, all_more_of, any_none, none_any, is_not}
use Rattle.theorem_sections.proofs.Moves.{Keeping}

drop_map : {X Y : Type 0} (f : X → Y) (n : ℕ) (xs : List X) → drop n (map f xs) ≡ map f (drop n xs)
drop_map f zero xs = refl
drop_map f (suc n) [] = refl
drop_map f (suc n) (x ∷ xs) = drop_map f n xs

all_mapped : {X Y : Type 0} (f : X → Y) (P : Y → Type 0) (xs : List X) → AllByRecursion (λ x. P (f x)) xs → AllByRecursion P (map f xs)
all_mapped f P [] all = tt
all_mapped f P (x ∷ xs) all = (all.0, all_mapped f P xs all.1)

-- one of these passes, and all that pass have this
pub one_has : {Op : Type 0} (j : ℕ) (q : ℕ → Bool) (posts : List (Post Op)) → list_any (λ (post : Post Op). post.to == j) posts ≡ true → list_all (λ (post : Post Op). q post.to) posts ≡ true → q j ≡ true
one_has j q [] e h = absurd (cc e)
one_has {Op} j q (post ∷ posts) e h = by (post.to == j) refl e (q post.to) refl h (one_has j q posts)
  where
    by : (b : Bool) → (post.to == j) ≡ b → (b || list_any (λ (post : Post Op). post.to == j) posts) ≡ true → (a : Bool) → q post.to ≡ a → (a && list_all (λ (post : Post Op). q post.to) posts) ≡ true
        → (list_any (λ (post : Post Op). post.to == j) posts ≡ true → list_all (λ (post : Post Op). q post.to) posts ≡ true → q j ≡ true) → q j ≡ true
    by b is e false is' h later = absurd (cc h)
    by true is e true is' h later = ap q (sym ((Decides-eqb post.to j).0 is)) ∙ is'
    by false is e true is' h later = later e h

module _ {Kind Op Shown : Type 0} (D : Replication Kind Op Shown) (world : World Kind Op Shown) (histories : ℕ → List (Entry Op Shown)) (placed : List (Placed Op Shown)) (keeping : Keeping Op) (all : AreHistories D world histories)
    (runs_in : (i : ℕ) (n : Node Kind Op Shown) → world.nodes i ≡ Some n → IsTrue (is_member world.view i)) where
  abbrev Is : ℕ → Type 0
  Is i = IsTrue (is_member world.view i)

  module _ (s : Section Kind Op Shown) (done : List (Placed Op Shown)) (x : Placed Op Shown) (rest : List (Placed Op Shown)) (along : Along D world histories placed keeping s.playing s.due done (x ∷ rest)) where
    pub late_first : (u : ℕ) → u < x.entry.stamp → Late u (x ∷ rest)
    late_first u h = (h, later rest (no_less world.view x rest along.going.sorted.0))
      where
        later : (ys : List (Placed Op Shown)) → AllByRecursion (λ (y : Placed Op Shown). x.entry.stamp ≤ y.entry.stamp) ys → Late u ys
        later [] all = tt
        later (y ∷ ys) all = ((let a = all.0 in omega (arith, a, h)), later ys all.1)

    -- ANSWERS

    answers_now : (u i k op : ℕ) (e : Entry Op Shown) → Is i → Late u (x ∷ rest) → slice_get (histories i) k ≡ Some e → e.output.reply ≡ Reply.Pending op → are_posts_taken D world histories i e u ≡ true → are_answers_taken D world histories i op u ≡ true
        → are_answers_heard s i op ≡ true
    answers_now u i k op e mi late stands reply posts taken =
        all_more_of (λ j. not (list_any (λ (p : Passed Op). answers op p.message) (drop (length (taken_from j (until u (histories i)))) (posted_to i (until u (histories j)))))) (λ j. not (list_any (answers op) (unheard s j i))) (running (world_of s))
        (λ j m t. one j (subst (λ v. IsTrue (is_member v j)) along.going.same_view m) t)
        (subst (λ v. list_all (λ j. not (list_any (λ (p : Passed Op). answers op p.message) (drop (length (taken_from j (until u (histories i)))) (posted_to i (until u (histories j)))))) (identities_of v) ≡ true) (sym along.going.same_view) taken)
      where
        one : (j : ℕ) → Is j → not (list_any (λ (p : Passed Op). answers op p.message) (drop (length (taken_from j (until u (histories i)))) (posted_to i (until u (histories j))))) ≡ true → not (list_any (answers op) (unheard s j i)) ≡ true
        one j mj t =
            let more = begins D world histories placed keeping all runs_in s done (x ∷ rest) along u j mj late in
            let mine = begins D world histories placed keeping all runs_in s done (x ∷ rest) along u i mi late in
            let early = until u (histories j) in
            let whole : histories j ≡ early ++ (more.0 ++ entries_at j (x ∷ rest)) = sym (along.whole j mj) ∙ ap (λ es. es ++ entries_at j (x ∷ rest)) (sym more.1) ∙ append_assoc early more.0 (entries_at j (x ∷ rest)) in
            let runs : (list_any (λ (post : Post Op). post.to == j) e.output.posts ≡ true → has_taken D world histories i j e.stamp u ≡ true) =
            λ posted. ⊎_elim
            (λ (gone : not (is_some (world.nodes j)) ≡ true). absurd (true≢false (sym gone ∙ ap (λ o. not (is_some o)) (all.steps j mj).1))) (λ h. h)
            (or_either (not (is_some (world.nodes j))) (has_taken D world histories i j e.stamp u) (one_has j (λ to. not (is_some (world.nodes to)) || has_taken D world histories i to e.stamp u) e.output.posts posted posts)) in
            let count : (list_any (λ (post : Post Op). post.to == j) e.output.posts ≡ true → length (posted_to j (until e.stamp (histories i))) ≤ length (taken_from i early)) =
            λ posted. leb-true (length (posted_to j (until e.stamp (histories i)))) (length (taken_from i early)) (runs posted) in
            let P : List (Passed Op) → Type 0 = NoneAnswers op in
            let none_answers : NoneAnswers op (posted_to i more.0) =
            all_first (λ (m : Passed Op). answers op m.message ≡ false) (posted_to i more.0) (posted_to i (entries_at j (x ∷ rest)))
            (subst P (posted-append i more.0 (entries_at j (x ∷ rest))) (answers_none D world histories all i k op e mi stands reply j mj early (more.0 ++ entries_at j (x ∷ rest)) whole count)) in
            let old : NoneAnswers op (drop (length (taken_from j (until u (histories i)))) (posted_to i early)) =
            none_any (λ (p : Passed Op). answers op p.message) (drop (length (taken_from j (until u (histories i)))) (posted_to i early)) (not_true (list_any (λ (p : Passed Op). answers op p.message) (drop (length (taken_from j (until u (histories i)))) (posted_to i early))) t) in
            let l : length (taken_from j (entries_at i done)) ≡ length (taken_from j (until u (histories i))) + length (taken_from j mine.0) =
            ap length (ap (taken_from j) (sym mine.1) ∙ taken-append j (until u (histories i)) mine.0) ∙ length-append (taken_from j (until u (histories i))) (taken_from j mine.0) in
            let both : NoneAnswers op (drop (length (taken_from j (entries_at i done))) (posted_to i (entries_at j done))) =
            less_dropped (λ (m : Passed Op). answers op m.message ≡ false) (length (taken_from j (until u (histories i)))) (length (taken_from j (entries_at i done))) (posted_to i (entries_at j done)) (omega (arith, l))
            (subst (λ ms. NoneAnswers op (drop (length (taken_from j (until u (histories i)))) ms)) (sym (posted-append i early more.0) ∙ ap (posted_to i) more.1)
            (dropped_more (λ (m : Passed Op). answers op m.message ≡ false) (length (taken_from j (until u (histories i)))) (posted_to i early) (posted_to i more.0) old none_answers)) in
            let waits : unheard s j i ≡ map (λ (m : Passed Op). m.message) (drop (length (taken_from j (entries_at i done))) (posted_to i (entries_at j done))) =
            ap (λ n. drop n (messages_on (world_of s).links j i)) (along.due_is j i) ∙ ap (drop (base D world histories placed keeping j i + length (taken_from j (entries_at i done)))) (along.sent j i)
            ∙ drop-append-add (messages_on world.links j i) (map (λ (m : Passed Op). m.message) (posted_to i (entries_at j done))) (length (taken_from j (entries_at i done)))
            ∙ drop_map (λ (m : Passed Op). m.message) (length (taken_from j (entries_at i done))) (posted_to i (entries_at j done)) in
            is_not (list_any (answers op) (unheard s j i))
            (any_none (answers op) (unheard s j i)
            (subst (AllByRecursion (λ m. answers op m ≡ false)) (sym waits) (all_mapped (λ (m : Passed Op). m.message) (λ m. answers op m ≡ false) (drop (length (taken_from j (entries_at i done))) (posted_to i (entries_at j done))) both)))

    -- A CLIENT GIVES UP

    pub gives_up_now : (u i k op : ℕ) (made : Made Op Shown) (e : Entry Op Shown) → x.at ≡ i → x.entry.input ≡ Input.Timeout op → IsMadeBy D world histories placed keeping all runs_in made i e → slice_get (histories i) k ≡ Some e → e.output.reply ≡ Reply.Pending op
        → u < x.entry.stamp → HasGivenUp D world histories i op e x.entry u → gives_up D s made (Some op) ≡ true
    gives_up_now u i k op made e at input by stands reply early cause =
        let n = its_steps D world.view (views_of world) (world_of s) s.due x rest along.going in
        let late = late_first u early in
        let mi : Is i = subst Is at along.going.members.0 in
        let there : (world_of s).nodes i ≡ Some n.0 = subst (λ q. (world_of s).nodes q ≡ Some n.0) at n.1 in
        let open_heard = is_open op ((world_of s).nodes i) && are_posts_heard s made in
        let heard = are_answers_heard s i op in
        let full = some_full D (world_of s) in
        subst (λ q. (has_room D ((world_of s).nodes q) && ((is_open op ((world_of s).nodes q) && are_posts_heard s made && are_answers_heard s q op) || some_full D (world_of s))) ≡ true) (sym by.at)
        (both_true (has_room D ((world_of s).nodes i)) ((open_heard && heard) || full)
        (ap (has_room D) there ∙ is_not (is_full D n.0) n.2.0)
        (⊎_elim
        (λ (cause : (x.entry.output.reply ≡ Reply.TimedOut) × (are_posts_taken D world histories i e u ≡ true) × (are_answers_taken D world histories i op u ≡ true)).
        or_left (open_heard && heard) full
        (both_true open_heard heard
        (both_true (is_open op ((world_of s).nodes i)) (are_posts_heard s made)
        (ap (is_open op) there ∙ times_out_open D n.0 op x.entry.fate (sym (ap (λ (o : Output Op Shown). o.reply) n.2.2 ∙ ap (λ p. (step D n.0 p x.entry.fate).output.reply) input) ∙ cause.0))
        (posts_now D world histories placed keeping all runs_in s done (x ∷ rest) along u i made e by late cause.1))
        (answers_now u i k op e mi late stands reply cause.1 cause.2)))
        (λ f. or_right (open_heard && heard) full (some_full_now D world histories placed keeping all runs_in s done (x ∷ rest) along u late f))
        cause))
