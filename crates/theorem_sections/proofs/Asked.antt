-- Of histories: who answers an operation has taken a question of it, and each question was posted by the entry that opened it.
use Rattle.std.proofs.Common.{◌≡◌, ◌⊎◌, inl, inr, ℕ, zero, suc, ◌<◌, ◌≤◌, List, [], ◌∷◌, ◌++◌, map, drop, refl, sym, ap, subst, ◌∙◌, arith, Bool, true, false, true≢false, cond}
use Rattle.std.specs.Prelude.{◌==◌, if◌then◌else◌, filter}
use Rattle.std.specs.List.{AllByRecursion}
use Rattle.std.proofs.lemmas.Bool.Decides.{Decides-eqb}
use Rattle.model_members.specs.DataType.{Replication}
use Rattle.model_members.specs.Message.{Message, Post}
use Rattle.model_members.specs.Node.{Node, Output}
use Rattle.model_members.specs.Node.Input.{Take}
use Rattle.model_members.specs.Step.{step}
use Rattle.theorem_operations.proofs.Lists.{all_first, all_last}
use Rattle.theorem_sections.specs.Sections.{answers}
use Rattle.theorem_sections.specs.Histories.{Entry, Passed, taken_by, AreHeard, posted_to, taken_from, AreSteps, replayed}
use Rattle.theorem_sections.proofs.RunOrder.{all-append, is_same}
use Rattle.theorem_sections.proofs.Untils.{numbers_grow}
use Rattle.theorem_sections.proofs.Questions.{asks, posts_answer, posts_ask, number_grows}

-- LISTS

pub all_drop : {X : Type 0} (P : X → Type 0) (n : ℕ) (xs : List X) → AllByRecursion P xs → AllByRecursion P (drop n xs)
all_drop P zero xs all = all
all_drop P (suc n) [] all = tt
all_drop P (suc n) (x ∷ xs) all = all_drop P n xs all.1

pub less_dropped : {X : Type 0} (P : X → Type 0) (m n : ℕ) (xs : List X) → m ≤ n → AllByRecursion P (drop m xs) → AllByRecursion P (drop n xs)
less_dropped P zero n xs h all = all_drop P n xs all
less_dropped P (suc m) zero xs h all = absurd (omega (arith, h))
less_dropped P (suc m) (suc n) [] h all = tt
less_dropped P (suc m) (suc n) (x ∷ xs) h all = less_dropped P m n xs (omega (arith, h)) all

pub dropped_more : {X : Type 0} (P : X → Type 0) (n : ℕ) (xs ys : List X) → AllByRecursion P (drop n xs) → AllByRecursion P ys → AllByRecursion P (drop n (xs ++ ys))
dropped_more P zero xs ys a b = all-append P xs ys a b
dropped_more P (suc n) [] ys a b = all_drop P (suc n) ys b
dropped_more P (suc n) (x ∷ xs) ys a b = dropped_more P n xs ys a b

pub either_way : (b : Bool) → (b ≡ true) ⊎ (b ≡ false)
either_way true = inl refl
either_way false = inr refl

pub is_false : (b : Bool) → (b ≡ true → ⊥) → b ≡ false
is_false true h = absurd (h refl)
is_false false h = refl

module _ {Op : Type 0} where
  abbrev pub NoneAsks : ℕ → List (Passed Op) → Type 0
  NoneAsks op ms = AllByRecursion (λ (m : Passed Op). asks op m.message ≡ false) ms

  abbrev pub NoneAnswers : ℕ → List (Passed Op) → Type 0
  NoneAnswers op ms = AllByRecursion (λ (m : Passed Op). answers op m.message ≡ false) ms

  -- takes are of the posts in order
  pub heard_all : (Q : Message Op → Type 0) (n t : ℕ) (posts takes : List (Passed Op)) → AreHeard posts takes → AllByRecursion (λ (m : Passed Op). Q m.message) (drop n posts) → n ≤ t → AllByRecursion (λ (m : Passed Op). Q m.message) (drop t takes)
  heard_all Q n zero posts [] heard all h = tt
  heard_all Q n (suc t) posts [] heard all h = tt
  heard_all Q n t [] (take ∷ takes) heard all h = absurd heard
  heard_all Q zero zero (post ∷ posts) (take ∷ takes) heard all h = (subst Q (sym heard.0) all.0, heard_all Q zero zero posts takes heard.2 all.1 (omega arith))
  heard_all Q zero (suc t) (post ∷ posts) (take ∷ takes) heard all h = heard_all Q zero t posts takes heard.2 all.1 (omega arith)
  heard_all Q (suc n) zero (post ∷ posts) (take ∷ takes) heard all h = absurd (omega (arith, h))
  heard_all Q (suc n) (suc t) (post ∷ posts) (take ∷ takes) heard all h = heard_all Q n t posts takes heard.2 all (omega (arith, h))

  pub heard_none : (op n t : ℕ) (posts takes : List (Passed Op)) → AreHeard posts takes → NoneAsks op (drop n posts) → n ≤ t → NoneAsks op (drop t takes)
  heard_none op n t posts takes heard none h = heard_all (λ m. asks op m ≡ false) n t posts takes heard none h

  -- what one entry posts on a link
  pub passed : ℕ → ℕ → List (Post Op) → List (Passed Op)
  passed j stamp posts = map (λ (post : Post Op). record { message = post.message; stamp = stamp }) (filter (λ (post : Post Op). post.to == j) posts)

  none_of_posts : (Q : Message Op → Type 0) (j stamp : ℕ) (posts : List (Post Op)) → AllByRecursion (λ (post : Post Op). post.to ≡ j → Q post.message) posts
      → AllByRecursion (λ (m : Passed Op). Q m.message) (map (λ (post : Post Op). record { message = post.message; stamp = stamp }) (filter (λ (post : Post Op). post.to == j) posts))
  none_of_posts Q j stamp [] all = tt
  none_of_posts Q j stamp (post ∷ posts) all = by_test (post.to == j) refl (none_of_posts Q j stamp posts all.1)
    where
      by_test : (b : Bool) → (post.to == j) ≡ b → AllByRecursion (λ (m : Passed Op). Q m.message) (map (λ (post : Post Op). record { message = post.message; stamp = stamp }) (filter (λ (post : Post Op). post.to == j) posts))
          → AllByRecursion (λ (m : Passed Op). Q m.message) (map (λ (post : Post Op). record { message = post.message; stamp = stamp }) (cond b (post ∷ filter (λ (post : Post Op). post.to == j) posts) (filter (λ (post : Post Op). post.to == j) posts)))
      by_test true is later = (all.0 ((Decides-eqb post.to j).0 is), later)
      by_test false is later = later

  all_of : (P Q : Post Op → Type 0) → ((post : Post Op) → P post → Q post) → (posts : List (Post Op)) → AllByRecursion P posts → AllByRecursion Q posts
  all_of P Q h [] all = tt
  all_of P Q h (post ∷ posts) all = (h post all.0, all_of P Q h posts all.1)

module _ {Kind Op Shown : Type 0} (D : Replication Kind Op Shown) where
  -- an entry asks only under the number that it opens
  entry_asks : (op j : ℕ) (n : Node Kind Op Shown) (e : Entry Op Shown) → e.output ≡ (step D n e.input e.fate).output → ((op ≡ n.next_op) → (n.next_op < (step D n e.input e.fate).node.next_op) → ⊥)
      → NoneAsks op (map (λ (post : Post Op). record { message = post.message; stamp = e.stamp }) (filter (λ (post : Post Op). post.to == j) e.output.posts))
  entry_asks op j n e is never =
      none_of_posts (λ m. asks op m ≡ false) j e.stamp e.output.posts
      (subst (λ (o : Output Op Shown). AllByRecursion (λ (post : Post Op). post.to ≡ j → asks op post.message ≡ false) o.posts) (sym is)
      (all_of (λ (post : Post Op). asks op post.message ≡ true → (op ≡ n.next_op) × (n.next_op < (step D n e.input e.fate).node.next_op)) (λ (post : Post Op). post.to ≡ j → asks op post.message ≡ false)
      (λ post tells to. is_false (asks op post.message) (λ said. never (tells said).0 (tells said).1)) (step D n e.input e.fate).output.posts (posts_ask D n e.input e.fate op)))

  -- later entries ask under later numbers
  pub later_asks : (op j : ℕ) (n : Node Kind Op Shown) (es : List (Entry Op Shown)) → op < n.next_op → AreSteps D n es → NoneAsks op (posted_to j es)
  later_asks op j n [] h steps = tt
  later_asks op j n (e ∷ es) h steps =
      all-append (λ (m : Passed Op). asks op m.message ≡ false) (map (λ (post : Post Op). record { message = post.message; stamp = e.stamp }) (filter (λ (post : Post Op). post.to == j) e.output.posts)) (posted_to j es)
      (entry_asks op j n e steps.2 (λ is more. omega (arith, h, is)))
      (later_asks op j (step D n e.input e.fate).node es (let a = number_grows D n e.input e.fate in omega (arith, h, a)) steps.3)

  -- earlier ones under earlier numbers
  pub earlier_asks : (op j : ℕ) (n : Node Kind Op Shown) (es : List (Entry Op Shown)) → (replayed D n es).next_op ≤ op → AreSteps D n es → NoneAsks op (posted_to j es)
  earlier_asks op j n [] h steps = tt
  earlier_asks op j n (e ∷ es) h steps =
      all-append (λ (m : Passed Op). asks op m.message ≡ false) (map (λ (post : Post Op). record { message = post.message; stamp = e.stamp }) (filter (λ (post : Post Op). post.to == j) e.output.posts)) (posted_to j es)
      (entry_asks op j n e steps.2 (λ is more. let a = numbers_grow D (step D n e.input e.fate).node es in omega (arith, h, is, more, a)))
      (earlier_asks op j (step D n e.input e.fate).node es h steps.3)

  -- who takes no question answers none
  pub asked_none : (op i : ℕ) (n : Node Kind Op Shown) (es : List (Entry Op Shown)) → AreSteps D n es → NoneAsks op (taken_from i es) → NoneAnswers op (posted_to i es)
  asked_none op i n [] steps none = tt
  asked_none op i n (e ∷ es) steps none =
      all-append (λ (m : Passed Op). answers op m.message ≡ false) (map (λ (post : Post Op). record { message = post.message; stamp = e.stamp }) (filter (λ (post : Post Op). post.to == i) e.output.posts)) (posted_to i es)
      (none_of_posts (λ m. answers op m ≡ false) i e.stamp e.output.posts
      (subst (λ (o : Output Op Shown). AllByRecursion (λ (post : Post Op). post.to ≡ i → answers op post.message ≡ false) o.posts) (sym steps.2)
      (all_of (λ (post : Post Op). answers op post.message ≡ true → (m : Message Op) × (e.input ≡ Take post.to m) × (asks op m ≡ true)) (λ (post : Post Op). post.to ≡ i → answers op post.message ≡ false)
      (λ post tells to. is_false (answers op post.message) (λ said. let t = tells said in no_take t.0 (t.1 ∙ ap (λ q. Take q t.0) to) t.2)) (step D n e.input e.fate).output.posts (posts_answer D n e.input e.fate op))))
      (asked_none op i (step D n e.input e.fate).node es steps.3 (all_last (λ (m : Passed Op). asks op m.message ≡ false) (taken_by i e.stamp e.input) (taken_from i es) none))
    where
      no_take : (m : Message Op) → e.input ≡ Take i m → asks op m ≡ true → ⊥
      no_take m is said =
          let first : NoneAsks op (taken_by i e.stamp e.input) = all_first (λ (m : Passed Op). asks op m.message ≡ false) (taken_by i e.stamp e.input) (taken_from i es) none in
          let one : taken_by i e.stamp e.input ≡ record { message = m; stamp = e.stamp } ∷ [] = ap (taken_by i e.stamp) is ∙ ap (λ b. if b then record { message = m; stamp = e.stamp } ∷ [] else []) (is_same i i refl) in
          let P : List (Passed Op) → Type 0 = NoneAsks op in
          true≢false (sym said ∙ (subst P one first).0)
