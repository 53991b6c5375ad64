-- Where all questions of an operation were taken: what is taken later asks none, and is answered by none.
use Rattle.std.proofs.Common.{◌≡◌, ⊎_elim, ℕ, ◌≤◌, List, [], ◌∷◌, ◌++◌, length, map, drop, sym, ap, subst, ◌∙◌, arith, refl, Bool, true, false, cond, Some, suc, zero}
use Rattle.std.specs.Prelude.{◌==◌, ◌||◌, filter, slice_get, IsTrue}
use Rattle.std.specs.List.{list_any}
use Rattle.std.proofs.Math.Seq.{drop-append_seam}
use Rattle.model_members.specs.View.{is_member}
use Rattle.model_members.specs.DataType.{Replication}
use Rattle.model_members.specs.Message.{Post}
use Rattle.model_members.specs.Node.{Node, Output, Reply}
use Rattle.model_members.specs.Step.{step}
use Rattle.model_members.specs.World.{World}
use Rattle.theorem_operations.proofs.Opening.{opening_tells}
use Rattle.theorem_sections.specs.Histories.{Entry, Passed, posted_to, taken_from, AreSteps, replayed, AreHistories}
use Rattle.theorem_sections.specs.Paths.{until}
use Rattle.theorem_sections.proofs.RunOrder.{all-append, taken-append, posted-append}
use Rattle.theorem_sections.proofs.Untils.{until_begins, number_below, steps_after, steps_first}
use Rattle.theorem_sections.proofs.Asked.{NoneAsks, NoneAnswers, either_way, heard_none, later_asks, earlier_asks, asked_none}
use Rattle.theorem_sections.proofs.Questions.{asks}

-- an element stands between what comes before and after it
pub parted : {X : Type 0} (xs : List X) (k : ℕ) (x : X) → slice_get xs k ≡ Some x → (before : List X) × (after : List X) × (xs ≡ before ++ x ∷ after)
parted [] k x e = absurd (cc e)
parted (y ∷ xs) zero x e = let same : y ≡ x = cc e in ([], xs, ap (λ z. z ∷ xs) same)
parted (y ∷ xs) (suc k) x e = let p = parted xs k x e in (y ∷ p.0, p.1, ap (λ zs. y ∷ zs) p.2)

-- nothing posted to j
none_to : {Op : Type 0} (j stamp : ℕ) (posts : List (Post Op)) → list_any (λ (post : Post Op). post.to == j) posts ≡ false
    → ◌≡◌ {A = List (Passed Op)} (map (λ (post : Post Op). record { message = post.message; stamp = stamp }) (filter (λ (post : Post Op). post.to == j) posts)) []
none_to j stamp [] e = refl
none_to {Op} j stamp (post ∷ posts) e = by (post.to == j) e (none_to j stamp posts)
  where
    by : (b : Bool) → (b || list_any (λ (post : Post Op). post.to == j) posts) ≡ false
        → (list_any (λ (post : Post Op). post.to == j) posts ≡ false → ◌≡◌ {A = List (Passed Op)} (map (λ (post : Post Op). record { message = post.message; stamp = stamp }) (filter (λ (post : Post Op). post.to == j) posts)) [])
        → ◌≡◌ {A = List (Passed Op)} (map (λ (post : Post Op). record { message = post.message; stamp = stamp }) (cond b (post ∷ filter (λ (post : Post Op). post.to == j) posts) (filter (λ (post : Post Op). post.to == j) posts))) []
    by true e later = absurd (cc e)
    by false e later = later e

module _ {Kind Op Shown : Type 0} (D : Replication Kind Op Shown) (world : World Kind Op Shown) (histories : ℕ → List (Entry Op Shown)) (all : AreHistories D world histories) where
  -- of the posts to a member, those that ask under the number of an entry stand no later than that entry's own
  module _ (i k op : ℕ) (e : Entry Op Shown) (mi : IsTrue (is_member world.view i)) (stands : slice_get (histories i) k ≡ Some e) (reply : e.output.reply ≡ Reply.Pending op) where
    abbrev first : Node Kind Op Shown
    first = (all.steps i mi).0

    abbrev asked_to : ℕ → List (Passed Op)
    asked_to j = posted_to j (histories i)

    asks_in_time : (j : ℕ) → NoneAsks op (drop (length (posted_to j (until e.stamp (histories i)))) (asked_to j))
    asks_in_time j =
        let begin = until_begins e.stamp 0 (histories i) (all.rise i) in
        let early = until e.stamp (histories i) in
        let below = number_below D op e.stamp 0 first (histories i) k e (all.rise i) (all.steps i mi).2 stands reply (omega arith) in
        subst (λ ms. NoneAsks op (drop (length (posted_to j early)) ms)) (sym (posted-append j early begin.0) ∙ ap (posted_to j) begin.1)
        (let P : List (Passed Op) → Type 0 = NoneAsks op in
        subst P (sym (drop-append_seam (posted_to j early) (posted_to j begin.0)))
        (later_asks D op j (replayed D first early) begin.0 below (steps_after D first early begin.0 (subst (AreSteps D first) (sym begin.1) (all.steps i mi).2))))

    asks_never : (j : ℕ) → list_any (λ (post : Post Op). post.to == j) e.output.posts ≡ false → NoneAsks op (asked_to j)
    asks_never j none =
        let p = parted (histories i) k e stands in
        let steps = subst (AreSteps D first) p.2 (all.steps i mi).2 in
        let n = replayed D first p.0 in
        let here = steps_after D first p.0 (e ∷ p.1) steps in
        let opens = opening_tells D n 0 op e.input e.fate (sym (ap (λ (o : Output Op Shown). o.reply) here.2) ∙ reply) in
        let number = opens.number in
        let next = opens.next in
        let P : List (Passed Op) → Type 0 = NoneAsks op in
        subst (λ es. NoneAsks op (posted_to j es)) (sym p.2)
        (subst P (sym (posted-append j p.0 (e ∷ p.1)))
        (all-append (λ (m : Passed Op). asks op m.message ≡ false) (posted_to j p.0) (posted_to j (e ∷ p.1))
        (earlier_asks D op j first p.0 (omega (arith, number)) (steps_first D first p.0 (e ∷ p.1) steps))
        (subst (λ ms. NoneAsks op (ms ++ posted_to j p.1)) (sym (none_to j e.stamp e.output.posts none))
        (later_asks D op j (step D n e.input e.fate).node p.1 (omega (arith, number, next)) here.3))))

    module _ (j : ℕ) (mj : IsTrue (is_member world.view j)) (before after : List (Entry Op Shown)) (whole : histories j ≡ before ++ after)
        (has : list_any (λ (post : Post Op). post.to == j) e.output.posts ≡ true → length (posted_to j (until e.stamp (histories i))) ≤ length (taken_from i before)) where
      -- so what is taken after its posts were taken is no question of it
      takes_none : NoneAsks op (taken_from i after)
      takes_none =
          let heard = all.heard i j mi mj in
          let split : taken_from i (histories j) ≡ taken_from i before ++ taken_from i after = ap (taken_from i) whole ∙ taken-append i before after in
          let P : List (Passed Op) → Type 0 = NoneAsks op in
          let ended : NoneAsks op (drop (length (taken_from i before)) (taken_from i (histories j))) → NoneAsks op (taken_from i after) =
          λ none. subst P (ap (drop (length (taken_from i before))) split ∙ drop-append_seam (taken_from i before) (taken_from i after)) none in
          ⊎_elim
          (λ (posts : list_any (λ (post : Post Op). post.to == j) e.output.posts ≡ true).
          ended (heard_none op (length (posted_to j (until e.stamp (histories i)))) (length (taken_from i before)) (asked_to j) (taken_from i (histories j)) heard (asks_in_time j) (has posts)))
          (λ none. ended (heard_none op 0 (length (taken_from i before)) (asked_to j) (taken_from i (histories j)) heard (asks_never j none) (omega arith)))
          (either_way (list_any (λ (post : Post Op). post.to == j) e.output.posts))

      -- and is followed by no answer to it
      pub answers_none : NoneAnswers op (posted_to i after)
      answers_none = asked_none D op i (replayed D (all.steps j mj).0 before) after (steps_after D (all.steps j mj).0 before after (subst (AreSteps D (all.steps j mj).0) whole (all.steps j mj).2)) takes_none
