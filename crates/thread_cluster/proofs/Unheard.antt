-- How many messages aren't heard, and what the numbers of all books tell of that.
use Rattle.std.proofs.Common.{◌≡◌, ◌≢◌, ℕ, zero, suc, ◌+◌, ◌-◌, ◌<◌, ◌≤◌, List, [], ◌∷◌, ◌++◌, length, Option, Some, slice_get, refl, ap, sym, ◌∙◌, subst, arith, add-one}
use Rattle.std.specs.Prelude.{slice_index}
use mathlib.Core.Logic.{dite}
use native.Mathlib.Decide.{ℕ_discrete}
use Rattle.thread_cell.specs.Lists.{at}
use Rattle.thread_cell.proofs.Prefixes.{prefix_self, prefix_length}
use Rattle.thread_cluster.specs.declared.book.Counts.{Counts}
use Rattle.thread_cluster.specs.Passing.{posts, takes}
use Rattle.thread_cluster.specs.Knowing.{Known, KnowsMore}
use Rattle.thread_cluster.specs.Turning.{IsAllTaken}
use Rattle.thread_cluster.specs.Books.{IsAllHeard, IsUnheard, IsCounted, WasCounted, AreCounted, WereCounted, unheard_from, unheard_to, unheard_of, unheard}
use Rattle.thread_cluster.proofs.Lists.{get_there, get_snoc}
use Rattle.thread_cluster.proofs.Posts.{posts_begin, takes_begin, all_heard, all_heard_more}
use Rattle.thread_cluster.proofs.Growing.{knows_trans, knows_self}

module _ {M I F O R X : Type 0} (posted : ℕ → O → List X) (taken : ℕ → I → List X) (ids : ℕ → Option ℕ) where
  pub posts_known : (p q : ℕ) (now later : Known M I F O R) → KnowsMore now later → length (posts posted (ids q) (at now p)) ≤ length (posts posted (ids q) (at later p))
  posts_known p q now later more = prefix_length (posts posted (ids q) (at now p)) (posts posted (ids q) (at later p)) (posts_begin posted taken (ids q) (at now p) (at later p) (more.begins p))

  takes_more : (p q : ℕ) (now later : Known M I F O R) → KnowsMore now later → length (takes taken (ids p) (at now q)) ≤ length (takes taken (ids p) (at later q))
  takes_more p q now later more = prefix_length (takes taken (ids p) (at now q)) (takes taken (ids p) (at later q)) (takes_begin posted taken (ids p) (at now q) (at later q) (more.begins q))

  -- where more is known, no fewer are unheard
  pub from_grows : (p q : ℕ) (old now later : Known M I F O R) → KnowsMore now later → unheard_from posted taken ids p q old now ≤ unheard_from posted taken ids p q old later
  from_grows p q old now later more = let longer = posts_known p q now later more in omega arith

  pub to_grows : (p q : ℕ) (old now later : Known M I F O R) → KnowsMore now later → unheard_to posted taken ids p q old now ≤ unheard_to posted taken ids p q old later
  unfolding unheard_to
  to_grows p zero old now later more = omega arith
  to_grows p (suc q) old now later more =
      let so_far = to_grows p q old now later more in
      let here = from_grows p q old now later more in omega arith

  pub of_grows : (p : ℕ) (old now later : Known M I F O R) → KnowsMore now later → unheard_of posted taken ids p old now ≤ unheard_of posted taken ids p old later
  unfolding unheard_of
  of_grows zero old now later more = omega arith
  of_grows (suc p) old now later more =
      let so_far = of_grows p old now later more in
      let here = to_grows p 8 old now later more in omega arith

  -- one place more
  pub to_more : (p q : ℕ) (old now : Known M I F O R) → unheard_to posted taken ids p (q + 1) old now ≡ unheard_to posted taken ids p q old now + unheard_from posted taken ids p q old now
  unfolding unheard_to
  to_more p q old now = ap (λ (k : ℕ). unheard_to posted taken ids p k old now) (add-one q)

  pub of_more : (p : ℕ) (old now : Known M I F O R) → unheard_of posted taken ids (p + 1) old now ≡ unheard_of posted taken ids p old now + unheard_to posted taken ids p 8 old now
  unfolding unheard_of
  of_more p old now = ap (λ (k : ℕ). unheard_of posted taken ids k old now) (add-one p)

  -- of fewer places no more
  pub to_within : (p q n : ℕ) (old now : Known M I F O R) → q ≤ n → unheard_to posted taken ids p q old now ≤ unheard_to posted taken ids p n old now
  to_within p q zero old now le = let none : q ≡ 0 = omega arith in let same = ap (λ (k : ℕ). unheard_to posted taken ids p k old now) none in omega arith
  to_within p q (suc n) old now le =
      dite (ℕ_discrete q (suc n))
      (λ all. let same = ap (λ (k : ℕ). unheard_to posted taken ids p k old now) all in let r : unheard_to posted taken ids p q old now ≤ unheard_to posted taken ids p (suc n) old now = omega arith in r)
      (λ fewer.
      let below = to_within p q n old now (omega arith) in
      let step = to_more p n old now in
      let last = ap (λ (k : ℕ). unheard_to posted taken ids p k old now) (add-one n) in
      let r : unheard_to posted taken ids p q old now ≤ unheard_to posted taken ids p (suc n) old now = omega arith in r)

  pub of_within : (p n : ℕ) (old now : Known M I F O R) → p ≤ n → unheard_of posted taken ids p old now ≤ unheard_of posted taken ids n old now
  of_within p zero old now le = let none : p ≡ 0 = omega arith in let same = ap (λ (k : ℕ). unheard_of posted taken ids k old now) none in omega arith
  of_within p (suc n) old now le =
      dite (ℕ_discrete p (suc n))
      (λ all. let same = ap (λ (k : ℕ). unheard_of posted taken ids k old now) all in let r : unheard_of posted taken ids p old now ≤ unheard_of posted taken ids (suc n) old now = omega arith in r)
      (λ fewer.
      let below = of_within p n old now (omega arith) in
      let step = of_more n old now in
      let last = ap (λ (k : ℕ). unheard_of posted taken ids k old now) (add-one n) in
      let r : unheard_of posted taken ids p old now ≤ unheard_of posted taken ids (suc n) old now = omega arith in r)

  pub unheard_is : (old now : Known M I F O R) → unheard posted taken ids old now ≡ unheard_of posted taken ids 8 old now
  unfolding unheard
  unheard_is old now = refl

  -- numbers that were so are so, where more is known
  pub was_grows : (p : ℕ) (first now later : Known M I F O R) (counts : Counts) → KnowsMore now later → WasCounted posted taken ids p first now counts → WasCounted posted taken ids p first later counts
  was_grows p first now later counts more was = record { known = was.known; after = was.after; before = knows_trans was.known now later was.before more; counted = was.counted }

  pub counted_grows : (all : List Counts) (first now later : Known M I F O R) → KnowsMore now later → AreCounted posted taken ids all first now → AreCounted posted taken ids all first later
  counted_grows all first now later more are = record { each = λ p i counts one is. was_grows p first now later counts more (are.each p i counts one is) }

  pub were_grows : (all : List Counts) (now later : Known M I F O R) → KnowsMore now later → WereCounted posted taken ids all now → WereCounted posted taken ids all later
  were_grows all now later more were = record { first = were.first; are = counted_grows all were.first now later more were.are }

  pub counted_none : (first : Known M I F O R) → AreCounted posted taken ids [] first first
  counted_none first = record { each = λ p i counts one is. absurd (cc (is)) }

  -- the numbers of one place more
  pub counted_more : (all : List Counts) (counts : Counts) (place : ℕ) (first now later : Known M I F O R) → length all ≡ place → KnowsMore first now → KnowsMore now later → ((i : ℕ) → ids place ≡ Some i → IsCounted posted taken ids place later counts)
      → AreCounted posted taken ids all first now → AreCounted posted taken ids (all ++ counts ∷ []) first later
  counted_more all counts place first now later count more further here are =
      let grown = counted_grows all first now later further are in
      let last : (i : ℕ) → ids (length all) ≡ Some i → WasCounted posted taken ids (length all) first later counts =
      subst (λ (k : ℕ). (i : ℕ) → ids k ≡ Some i → WasCounted posted taken ids k first later counts) (sym count)
      (λ i one. record { known = later; after = knows_trans first now later more further; before = knows_self later; counted = here i one }) in
      record {
        each = λ p i c one is.
            get_snoc (λ k x. (j : ℕ) → ids k ≡ Some j → WasCounted posted taken ids k first later x) all counts (λ k x there j other. grown.each k j x other there) last p c is i one;
      }

  -- by the numbers all is heard
  pub all_taken : (all : List Counts) (p q i j : ℕ) (first now : Known M I F O R) → length all ≡ 8 → p < 8 → q < 8 → ids p ≡ Some i → ids q ≡ Some j → AreCounted posted taken ids all first now → IsAllHeard all p q → IsAllTaken taken posted ids p q first now
  all_taken all p q i j first now count lp lq one other are heard =
      let here = get_there all p (omega arith) in
      let there = get_there all q (omega arith) in
      let sender = are.each p i here.0 one here.1 in
      let receiver = are.each q j there.0 other there.1 in
      let le = heard.each here.0 there.0 here.1 there.1 in
      let sent = sender.counted.posted_is q lq in
      let took = receiver.counted.heard_is p lp in
      let few = receiver.counted.few p lp in
      let known = posts_known p q first sender.known sender.after in
      let enough : length (posts posted (ids q) (at first p)) ≤ length (takes taken (ids p) (at receiver.known q)) = omega arith in
      record {
        all = all_heard_more (posts posted (ids q) (at first p)) (posts posted (ids q) (at first p)) (takes taken (ids p) (at receiver.known q)) (takes taken (ids p) (at now q))
            (prefix_self (posts posted (ids q) (at first p)))
            (takes_begin posted taken (ids p) (at receiver.known q) (at now q) (receiver.before.begins q))
            (all_heard (posts posted (ids q) (at first p)) (posts posted (ids q) (at receiver.known p)) (takes taken (ids p) (at receiver.known q)) (receiver.counted.hears.from p)
            (posts_begin posted taken (ids q) (at first p) (at receiver.known p) (receiver.after.begins p)) enough);
      }

  -- the number of the first message that isn't heard
  pub unheard_number : (all : List Counts) (p q j number : ℕ) (first now : Known M I F O R) → p < 8 → ids q ≡ Some j → AreCounted posted taken ids all first now → IsUnheard all p q number
      → (number ≤ length (takes taken (ids p) (at now q))) × (number ≤ 16384) × (length (takes taken (ids p) (at first q)) ≤ number)
  unheard_number all p q j number first now lp other are is =
      let receiver = are.each q j is.there other is.stands in
      let took = receiver.counted.heard_is p lp in
      let few = receiver.counted.few p lp in
      let number_is = is.number_is in
      let later = takes_more p q receiver.known now receiver.before in
      let earlier = takes_more p q first receiver.known receiver.after in
      (omega arith, omega arith, omega arith)

  -- what was known first is known
  pub knew_first : (all : List Counts) (p i : ℕ) (first now : Known M I F O R) → p < length all → ids p ≡ Some i → AreCounted posted taken ids all first now → KnowsMore first now
  knew_first all p i first now lt one are =
      let here = get_there all p lt in
      let was = are.each p i here.0 one here.1 in knows_trans first was.known now was.after was.before
