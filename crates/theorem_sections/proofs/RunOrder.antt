-- Histories sorted by stamp, then place, are lawful events.
use Rattle.std.proofs.Common.{◌≡◌, ◌≢◌, ⊎_elim, ℕ, zero, suc, ◌<◌, ◌≤◌, refl, sym, ap, subst, ◌∙◌, true, false, Bool, cond, List, [], ◌∷◌, ◌++◌, length, map, drop, Some, arith, length-append}
use Rattle.std.specs.Prelude.{◌==◌, if◌then◌else◌, filter, slice_get, IsTrue}
use Rattle.std.specs.List.{AllByRecursion}
use Rattle.std.proofs.lemmas.Bool.Decides.{Decides-eqb}
use Rattle.std.proofs.lemmas.List.{append_assoc, append-nil, map-append, drop-append-le}
use Rattle.std.proofs.lemmas.List.Elements.{filter-append}
use Rattle.std.proofs.lemmas.Grind.{flat_map-append}
use Rattle.std.proofs.lemmas.Option.{slice_get_within}
use Rattle.model_history.specs.Table.{with_at}
use Rattle.model_history.proofs.HistoryLaws.{with_at_other}
use Rattle.model_history.proofs.CutLaws.{with_at_is}
use Rattle.model_history.proofs.PartLaws.{slice_get-dropped}
use Rattle.model_members.specs.View.{View, is_member, place_of}
use Rattle.model_members.specs.DataType.{Replication}
use Rattle.model_members.specs.Message.{Message, Post}
use Rattle.model_members.specs.Node.{Node, Input, Output, Stepped}
use Rattle.model_members.specs.Node.Input.{Take, Install}
use Rattle.model_members.specs.Step.{step}
use Rattle.model_members.specs.World.{World, Event, Link, Links, views_of, message_at, with_link, with_post, with_posts, moved_on, happens, after_step, run, FitsFate, IsGiven, IsLawful, AreLawful}
use Rattle.model_members.specs.World.Event.{InputAt, Delivery}
use Rattle.model_members.proofs.Cases.{stepped_at, delivered}
use Rattle.theorem_runs.proofs.Keeping.{if_holds}
use Rattle.theorem_sections.specs.Histories.{Entry, Placed, Passed, taken_by, AreHeard, event_of, due_after, IsFromClients, posted_to, taken_from, ComesBefore, entries_at, AreSorted, IsRunOrder, events_of, sent_so_far, AreSteps, replayed, AreHistories, LeadTo}
use Rattle.theorem_sections.proofs.NextDue.{same_or_not, table_here, table_else}

-- TESTS OF NUMBERS

pub is_same : (a b : ℕ) → a ≡ b → (a == b) ≡ true
is_same a b e = (Decides-eqb a b).1 e

pub is_other : (a b : ℕ) → a ≢ b → (a == b) ≡ false
is_other a b n = by_test (a == b) refl
  where
    by_test : (t : Bool) → (a == b) ≡ t → (a == b) ≡ false
    by_test true e = absurd (n ((Decides-eqb a b).0 e))
    by_test false e = e

-- ONE ENTRY OF A LIST

module _ {Op Shown : Type 0} where
  one : Placed Op Shown → List (Placed Op Shown)
  one x = x ∷ []

  pub entries-append : (i : ℕ) (xs ys : List (Placed Op Shown)) → entries_at i (xs ++ ys) ≡ entries_at i xs ++ entries_at i ys
  entries-append i xs ys = ap (map (λ (x : Placed Op Shown). x.entry)) (filter-append (λ (x : Placed Op Shown). x.at == i) xs ys) ∙ map-append (λ (x : Placed Op Shown). x.entry) (filter (λ (x : Placed Op Shown). x.at == i) xs) (filter (λ (x : Placed Op Shown). x.at == i) ys)

  pub entries_here : (i : ℕ) (x : Placed Op Shown) (rest : List (Placed Op Shown)) → x.at ≡ i → entries_at i (x ∷ rest) ≡ x.entry ∷ entries_at i rest
  entries_here i x rest is = ap (λ b. map (λ (y : Placed Op Shown). y.entry) (cond b (x ∷ filter (λ (y : Placed Op Shown). y.at == i) rest) (filter (λ (y : Placed Op Shown). y.at == i) rest))) (is_same x.at i is)

  pub entries_else : (i : ℕ) (x : Placed Op Shown) (rest : List (Placed Op Shown)) → x.at ≢ i → entries_at i (x ∷ rest) ≡ entries_at i rest
  entries_else i x rest isnt = ap (λ b. map (λ (y : Placed Op Shown). y.entry) (cond b (x ∷ filter (λ (y : Placed Op Shown). y.at == i) rest) (filter (λ (y : Placed Op Shown). y.at == i) rest))) (is_other x.at i isnt)

  pub posted-append : (j : ℕ) (es fs : List (Entry Op Shown)) → posted_to j (es ++ fs) ≡ posted_to j es ++ posted_to j fs
  posted-append j es fs = flat_map-append (λ (e : Entry Op Shown). map (λ (post : Post Op). record { message = post.message; stamp = e.stamp }) (filter (λ (post : Post Op). post.to == j) e.output.posts)) es fs

  pub taken-append : (i : ℕ) (es fs : List (Entry Op Shown)) → taken_from i (es ++ fs) ≡ taken_from i es ++ taken_from i fs
  taken-append i es fs = flat_map-append (λ (e : Entry Op Shown). taken_by i e.stamp e.input) es fs

  -- what one entry posts on a link
  abbrev pub posts_of : Placed Op Shown → ℕ → ℕ → List (Passed Op)
  posts_of x i j = posted_to j (entries_at i (x ∷ []))

  pub posts_split : (x : Placed Op Shown) (rest : List (Placed Op Shown)) (i j : ℕ) → posted_to j (entries_at i (x ∷ rest)) ≡ posts_of x i j ++ posted_to j (entries_at i rest)
  posts_split x rest i j = ap (posted_to j) (entries-append i (x ∷ []) rest) ∙ posted-append j (entries_at i (x ∷ [])) (entries_at i rest)

  pub takes_split : (x : Placed Op Shown) (rest : List (Placed Op Shown)) (i j : ℕ) → taken_from i (entries_at j (x ∷ rest)) ≡ taken_from i (entries_at j (x ∷ [])) ++ taken_from i (entries_at j rest)
  takes_split x rest i j = ap (taken_from i) (entries-append j (x ∷ []) rest) ∙ taken-append i (entries_at j (x ∷ [])) (entries_at j rest)

  -- what one entry takes, where its input is this
  takes_one : (x : Placed Op Shown) (i j : ℕ) (input : Input Op) → x.entry.input ≡ input → taken_from i (entries_at j (x ∷ [])) ≡ (if x.at == j then taken_by i x.entry.stamp input ++ [] else [])
  takes_one x i j input is = ⊎_elim
      (λ (here : x.at ≡ j). ap (taken_from i) (entries_here j x [] here) ∙ ap (λ p. taken_by i x.entry.stamp p ++ []) is ∙ sym (ap (λ b. if b then taken_by i x.entry.stamp input ++ [] else []) (is_same x.at j here)))
      (λ isnt. ap (taken_from i) (entries_else j x [] isnt) ∙ sym (ap (λ b. if b then taken_by i x.entry.stamp input ++ [] else []) (is_other x.at j isnt)))
      (same_or_not x.at j)

-- LINKS

module _ {Op : Type 0} where
  abbrev pub messages_on : Links Op → ℕ → ℕ → List (Message Op)
  messages_on links a b = (links a b).messages

  -- what posts add to a link
  abbrev pub sent_on : ℕ → List (Post Op) → ℕ → ℕ → List (Message Op)
  sent_on q posts a b = if a == q then map (λ (post : Post Op). post.message) (filter (λ (post : Post Op). post.to == b) posts) else []

  sent_here : (q : ℕ) (posts : List (Post Op)) (a b : ℕ) → a ≡ q → sent_on q posts a b ≡ map (λ (post : Post Op). post.message) (filter (λ (post : Post Op). post.to == b) posts)
  sent_here q posts a b is = ap (λ t. if t then map (λ (post : Post Op). post.message) (filter (λ (post : Post Op). post.to == b) posts) else []) (is_same a q is)

  sent_else : (q : ℕ) (posts : List (Post Op)) (a b : ℕ) → a ≢ q → sent_on q posts a b ≡ []
  sent_else q posts a b isnt = ap (λ t. if t then map (λ (post : Post Op). post.message) (filter (λ (post : Post Op). post.to == b) posts) else []) (is_other a q isnt)

  sent_cons : (q : ℕ) (post : Post Op) (posts : List (Post Op)) (a b : ℕ) → sent_on q (post ∷ posts) a b ≡ sent_on q (post ∷ []) a b ++ sent_on q posts a b
  sent_cons q post posts a b = by_test (a == q)
    where
      by_test : (t : Bool) → (if t then map (λ (post : Post Op). post.message) (filter (λ (post : Post Op). post.to == b) (post ∷ posts)) else [])
          ≡ (if t then map (λ (post : Post Op). post.message) (filter (λ (post : Post Op). post.to == b) (post ∷ [])) else []) ++ (if t then map (λ (post : Post Op). post.message) (filter (λ (post : Post Op). post.to == b) posts) else [])
      by_test true = ap (map (λ (post : Post Op). post.message)) (filter-append (λ (post : Post Op). post.to == b) (post ∷ []) posts)
          ∙ map-append (λ (post : Post Op). post.message) (filter (λ (post : Post Op). post.to == b) (post ∷ [])) (filter (λ (post : Post Op). post.to == b) posts)
      by_test false = refl

  one_here : (post : Post Op) (b : ℕ) → post.to ≡ b → map (λ (p : Post Op). p.message) (filter (λ (p : Post Op). p.to == b) (post ∷ [])) ≡ post.message ∷ []
  one_here post b is = ap (λ t. map (λ (p : Post Op). p.message) (cond t (post ∷ []) [])) (is_same post.to b is)

  one_else : (post : Post Op) (b : ℕ) → post.to ≢ b → map (λ (p : Post Op). p.message) (filter (λ (p : Post Op). p.to == b) (post ∷ [])) ≡ []
  one_else post b isnt = ap (λ t. map (λ (p : Post Op). p.message) (cond t (post ∷ []) [])) (is_other post.to b isnt)

  post_messages : (q : ℕ) (links : Links Op) (post : Post Op) (a b : ℕ) → messages_on (with_post q links post) a b ≡ messages_on links a b ++ sent_on q (post ∷ []) a b
  post_messages q links post a b =
      let link = links q post.to in
      let after = record link { messages = link.messages ++ post.message ∷ [] } in
      let same : sent_on q (post ∷ []) a b ≡ [] → messages_on (with_post q links post) a b ≡ messages_on links a b → messages_on (with_post q links post) a b ≡ messages_on links a b ++ sent_on q (post ∷ []) a b =
      λ none e. e ∙ sym (ap (λ ms. messages_on links a b ++ ms) none ∙ append-nil (messages_on links a b)) in
      ⊎_elim
      (λ (is : a ≡ q). ⊎_elim
      (λ (is' : b ≡ post.to).
      ap (λ (l : Link Op). l.messages) (table_here links q post.to after a b is is') ∙ ap (λ f. messages_on links f post.to ++ post.message ∷ []) (sym is) ∙ ap (λ t. messages_on links a t ++ post.message ∷ []) (sym is')
      ∙ ap (λ ms. messages_on links a b ++ ms) (sym (sent_here q (post ∷ []) a b is ∙ one_here post b (sym is'))))
      (λ isnt. same (sent_here q (post ∷ []) a b is ∙ one_else post b (λ e. isnt (sym e))) (ap (λ (l : Link Op). l.messages) (table_else links q post.to after a b (λ _. isnt))))
      (same_or_not b post.to))
      (λ isnt. same (sent_else q (post ∷ []) a b isnt) (ap (λ (l : Link Op). l.messages) (table_else links q post.to after a b (λ is. absurd (isnt is)))))
      (same_or_not a q)

  pub posts_messages : (q : ℕ) (links : Links Op) (posts : List (Post Op)) (a b : ℕ) → messages_on (with_posts links q posts) a b ≡ messages_on links a b ++ sent_on q posts a b
  posts_messages q links [] a b = sym (ap (λ ms. messages_on links a b ++ ms) (nothing (a == q)) ∙ append-nil (messages_on links a b))
    where
      nothing : (t : Bool) → (if t then map (λ (post : Post Op). post.message) (filter (λ (post : Post Op). post.to == b) []) else []) ≡ []
      nothing true = refl
      nothing false = refl
  posts_messages q links (post ∷ posts) a b =
      posts_messages q (with_post q links post) posts a b ∙ ap (λ ms. ms ++ sent_on q posts a b) (post_messages q links post a b)
      ∙ append_assoc (messages_on links a b) (sent_on q (post ∷ []) a b) (sent_on q posts a b) ∙ ap (λ ms. messages_on links a b ++ ms) (sym (sent_cons q post posts a b))

  -- a delivery changes no messages
  pub moved_messages : (links : Links Op) (from to index a b : ℕ) → messages_on (moved_on links from to index) a b ≡ messages_on links a b
  moved_messages links from to index a b =
      let link = links from to in
      let after = record link { next = suc index } in
      if_holds (λ (l : Links Op). messages_on l a b ≡ messages_on links a b) (link.next == index) (with_link links from to after) links
      (⊎_elim
      (λ (is : a ≡ from). ⊎_elim
      (λ (is' : b ≡ to). ap (λ (l : Link Op). l.messages) (table_here links from to after a b is is') ∙ ap (λ f. messages_on links f to) (sym is) ∙ ap (λ t. messages_on links a t) (sym is'))
      (λ isnt. ap (λ (l : Link Op). l.messages) (table_else links from to after a b (λ _. isnt)))
      (same_or_not b to))
      (λ isnt. ap (λ (l : Link Op). l.messages) (table_else links from to after a b (λ is. absurd (isnt is))))
      (same_or_not a from))
      refl

-- STAMPS

pub all-append : {X : Type 0} (P : X → Type 0) (xs ys : List X) → AllByRecursion P xs → AllByRecursion P ys → AllByRecursion P (xs ++ ys)
all-append P [] ys a b = b
all-append P (x ∷ xs) ys a b = (a.0, all-append P xs ys a.1 b)

module _ {Op : Type 0} where
  all_stamped : (stamp least : ℕ) (posts : List (Post Op)) → least ≤ stamp → AllByRecursion (λ (p : Passed Op). least ≤ p.stamp) (map (λ (post : Post Op). record { message = post.message; stamp = stamp }) posts)
  all_stamped stamp least [] h = tt
  all_stamped stamp least (post ∷ posts) h = (h, all_stamped stamp least posts h)

  too_late : (stamp : ℕ) (message : Message Op) (posts takes : List (Passed Op)) → AllByRecursion (λ (p : Passed Op). stamp ≤ p.stamp) posts → AreHeard posts (record { message = message; stamp = stamp } ∷ takes) → ⊥
  too_late stamp message [] takes late h = h
  too_late stamp message (post ∷ posts) takes late h = let a = late.0 in let b = h.1 in omega (arith, a, b)

  passed_messages : (stamp : ℕ) (posts : List (Post Op)) → map (λ (p : Passed Op). p.message) (map (λ (post : Post Op). record { message = post.message; stamp = stamp }) posts) ≡ map (λ (post : Post Op). post.message) posts
  passed_messages stamp [] = refl
  passed_messages stamp (post ∷ posts) = ap (λ ms. post.message ∷ ms) (passed_messages stamp posts)

module _ {Op Shown : Type 0} where
  pub posts_are_sent : (x : Placed Op Shown) (i j : ℕ) → map (λ (p : Passed Op). p.message) (posts_of x i j) ≡ sent_on x.at x.entry.output.posts i j
  posts_are_sent x i j = ⊎_elim
      (λ (is : i ≡ x.at).
      ap (λ es. map (λ (p : Passed Op). p.message) (posted_to j es)) (entries_here i x [] (sym is))
      ∙ ap (map (λ (p : Passed Op). p.message)) (append-nil (map (λ (post : Post Op). record { message = post.message; stamp = x.entry.stamp }) (filter (λ (post : Post Op). post.to == j) x.entry.output.posts)))
      ∙ passed_messages x.entry.stamp (filter (λ (post : Post Op). post.to == j) x.entry.output.posts) ∙ sym (sent_here x.at x.entry.output.posts i j is))
      (λ isnt. ap (λ es. map (λ (p : Passed Op). p.message) (posted_to j es)) (entries_else i x [] (λ e. isnt (sym e))) ∙ sym (sent_else x.at x.entry.output.posts i j isnt))
      (same_or_not i x.at)

  -- what one entry takes
  pub takes_none : (x : Placed Op Shown) (i j : ℕ) (input : Input Op) → x.entry.input ≡ input → taken_by i x.entry.stamp input ≡ [] → taken_from i (entries_at j (x ∷ [])) ≡ []
  takes_none x i j input is none = takes_one x i j input is ∙ by_test (x.at == j)
    where
      by_test : (t : Bool) → (if t then taken_by i x.entry.stamp input ++ [] else []) ≡ []
      by_test true = ap (λ ts. ts ++ []) none
      by_test false = refl

  pub takes_here : (x : Placed Op Shown) (i j : ℕ) (message : Message Op) → x.entry.input ≡ Take i message → x.at ≡ j → taken_from i (entries_at j (x ∷ [])) ≡ record { message = message; stamp = x.entry.stamp } ∷ []
  takes_here x i j message is here =
      takes_one x i j (Take i message) is ∙ ap (λ t. if t then taken_by i x.entry.stamp (Take i message) ++ [] else []) (is_same x.at j here)
      ∙ ap (λ t. (if t then record { message = message; stamp = x.entry.stamp } ∷ [] else []) ++ []) (is_same i i refl)

  pub takes_else : (x : Placed Op Shown) (i j from : ℕ) (message : Message Op) → x.entry.input ≡ Take from message → (i ≡ from → j ≢ x.at) → taken_from i (entries_at j (x ∷ [])) ≡ []
  takes_else x i j from message is away = takes_one x i j (Take from message) is ∙ ⊎_elim
      (λ (here : x.at ≡ j).
      ap (λ t. if t then taken_by i x.entry.stamp (Take from message) ++ [] else []) (is_same x.at j here)
      ∙ ap (λ t. (if t then record { message = message; stamp = x.entry.stamp } ∷ [] else []) ++ []) (is_other from i (λ e. away (sym e) (sym here))))
      (λ isnt. ap (λ t. if t then taken_by i x.entry.stamp (Take from message) ++ [] else []) (is_other x.at j isnt))
      (same_or_not x.at j)

  one_late : (least : ℕ) (y : Placed Op Shown) (i j : ℕ) → least ≤ y.entry.stamp → AllByRecursion (λ (p : Passed Op). least ≤ p.stamp) (posts_of y i j)
  one_late least y i j h = ⊎_elim
      (λ (is : y.at ≡ i). subst (λ es. AllByRecursion (λ (p : Passed Op). least ≤ p.stamp) (posted_to j es)) (sym (entries_here i y [] is))
      (all-append (λ (p : Passed Op). least ≤ p.stamp) (map (λ (post : Post Op). record { message = post.message; stamp = y.entry.stamp }) (filter (λ (post : Post Op). post.to == j) y.entry.output.posts)) [] (all_stamped y.entry.stamp least (filter (λ (post : Post Op). post.to == j) y.entry.output.posts) h) tt))
      (λ isnt. subst (λ es. AllByRecursion (λ (p : Passed Op). least ≤ p.stamp) (posted_to j es)) (sym (entries_else i y [] isnt)) tt)
      (same_or_not y.at i)

  all_late : (least : ℕ) (placed : List (Placed Op Shown)) (i j : ℕ) → AllByRecursion (λ (y : Placed Op Shown). least ≤ y.entry.stamp) placed → AllByRecursion (λ (p : Passed Op). least ≤ p.stamp) (posted_to j (entries_at i placed))
  all_late least [] i j h = tt
  all_late least (y ∷ placed) i j h =
      subst (AllByRecursion (λ (p : Passed Op). least ≤ p.stamp)) (sym (posts_split y placed i j))
      (all-append (λ (p : Passed Op). least ≤ p.stamp) (posts_of y i j) (posted_to j (entries_at i placed)) (one_late least y i j h.0) (all_late least placed i j h.1))

  pub no_less : (view : View) (x : Placed Op Shown) (placed : List (Placed Op Shown)) → AllByRecursion (ComesBefore view x) placed → AllByRecursion (λ (y : Placed Op Shown). x.entry.stamp ≤ y.entry.stamp) placed
  no_less view x [] h = tt
  no_less view x (y ∷ placed) h = (⊎_elim (λ (less : x.entry.stamp < y.entry.stamp). omega (arith, less)) (λ (same : (x.entry.stamp ≡ y.entry.stamp) × (place_of view x.at < place_of view y.at)). let e = same.0 in omega (arith, e)) h.0, no_less view x placed h.1)

drop_next : {X : Type 0} (d : ℕ) (xs : List X) (y : X) (ys : List X) → drop d xs ≡ y ∷ ys → drop (suc d) xs ≡ ys
drop_next zero [] y ys e = absurd (cc e)
drop_next zero (x ∷ xs) y ys e = cc e
drop_next (suc d) [] y ys e = absurd (cc e)
drop_next (suc d) (x ∷ xs) y ys e = drop_next d xs y ys e

pub at_both : (from to : ℕ) (P : ℕ → ℕ → Type 0) → P from to → ((a b : ℕ) → (a ≡ from → b ≢ to) → P a b) → (a b : ℕ) → P a b
at_both from to P here elsewhere a b = ⊎_elim
    (λ (is : a ≡ from). ⊎_elim (λ (is' : b ≡ to). subst (λ i. P i b) (sym is) (subst (λ j. P from j) (sym is') here)) (λ isnt. elsewhere a b (λ _. isnt)) (same_or_not b to))
    (λ isnt. elsewhere a b (λ is. absurd (isnt is)))
    (same_or_not a from)

-- ON THE WAY

module _ {Kind Op Shown : Type 0} (D : Replication Kind Op Shown) (view : View) (views : List View) where
  -- the world before these entries, with the messages that were posted and not taken yet
  pub record Going (world : World Kind Op Shown) (due : ℕ → ℕ → ℕ) (placed : List (Placed Op Shown)) : Type 0 where
    pub same_view : world.view ≡ view
    pub same_views : views_of world ≡ views
    pub queue : ℕ → ℕ → List (Passed Op)
    pub waiting : (i j : ℕ) → map (λ (p : Passed Op). p.message) (queue i j) ≡ drop (due i j) (messages_on world.links i j)
    pub within : (i j : ℕ) → due i j ≤ length (messages_on world.links i j)
    pub heard : (i j : ℕ) → IsTrue (is_member view i) → IsTrue (is_member view j) → AreHeard (queue i j ++ posted_to j (entries_at i placed)) (taken_from i (entries_at j placed))
    pub steps : (i : ℕ) → IsTrue (is_member view i) → (member : Node Kind Op Shown) × (world.nodes i ≡ Some member) × AreSteps D member (entries_at i placed)
    pub given : AllByRecursion (λ (x : Placed Op Shown). IsFromClients view views x.entry.input) placed
    pub members : AllByRecursion (λ (x : Placed Op Shown). IsTrue (is_member view x.at)) placed
    pub sorted : AreSorted view placed

  -- the same once the first entry's message is taken
  record Midway (world : World Kind Op Shown) (due : ℕ → ℕ → ℕ) (x : Placed Op Shown) (rest : List (Placed Op Shown)) : Type 0 where
    same_view : world.view ≡ view
    same_views : views_of world ≡ views
    queue : ℕ → ℕ → List (Passed Op)
    waiting : (i j : ℕ) → map (λ (p : Passed Op). p.message) (queue i j) ≡ drop (due i j) (messages_on world.links i j)
    within : (i j : ℕ) → due i j ≤ length (messages_on world.links i j)
    heard : (i j : ℕ) → IsTrue (is_member view i) → IsTrue (is_member view j) → AreHeard (queue i j ++ posted_to j (entries_at i (x ∷ rest))) (taken_from i (entries_at j rest))
    steps : (i : ℕ) → IsTrue (is_member view i) → (member : Node Kind Op Shown) × (world.nodes i ≡ Some member) × AreSteps D member (entries_at i (x ∷ rest))
    given : AllByRecursion (λ (y : Placed Op Shown). IsFromClients view views y.entry.input) rest
    members : AllByRecursion (λ (y : Placed Op Shown). IsTrue (is_member view y.at)) rest
    sorted : AreSorted view rest

  goes_on : (world : World Kind Op Shown) (due : ℕ → ℕ → ℕ) (x : Placed Op Shown) (rest : List (Placed Op Shown)) (n : Node Kind Op Shown) (s : Stepped Kind Op Shown) → Midway world due x rest
      → x.entry.output ≡ s.output → AreSteps D s.node (entries_at x.at rest) → Going (after_step world x.at n x.entry.fate s) due rest
  goes_on world due x rest n s mid output more =
      record {
        same_view = mid.same_view;
        same_views = mid.same_views;
        queue = λ i j. mid.queue i j ++ posts_of x i j;
        waiting = λ i j.
            map-append (λ (p : Passed Op). p.message) (mid.queue i j) (posts_of x i j)
            ∙ ap (λ ms. ms ++ map (λ (p : Passed Op). p.message) (posts_of x i j)) (mid.waiting i j)
            ∙ ap (λ ms. drop (due i j) (messages_on world.links i j) ++ ms) (posts_are_sent x i j ∙ ap (λ (o : Output Op Shown). sent_on x.at o.posts i j) output)
            ∙ sym (drop-append-le (due i j) (messages_on world.links i j) (sent_on x.at s.output.posts i j) (mid.within i j))
            ∙ ap (drop (due i j)) (sym (posts_messages x.at world.links s.output.posts i j));
        within = λ i j. let e = ap length (posts_messages x.at world.links s.output.posts i j) in let h = mid.within i j in omega (arith, e, h, length-append (messages_on world.links i j) (sent_on x.at s.output.posts i j));
        heard = λ i j mi mj.
            subst (λ ps. AreHeard ps (taken_from i (entries_at j rest)))
            (ap (λ ps. mid.queue i j ++ ps) (posts_split x rest i j) ∙ sym (append_assoc (mid.queue i j) (posts_of x i j) (posted_to j (entries_at i rest))))
            (mid.heard i j mi mj);
        steps = λ i mi. ⊎_elim
            (λ (is : i ≡ x.at). (s.node, with_at_is world.nodes x.at (Some s.node) i is, subst (λ q. AreSteps D s.node (entries_at q rest)) (sym is) more))
            (λ isnt. let before = mid.steps i mi in (before.0, with_at_other world.nodes x.at (Some s.node) i isnt ∙ before.1, subst (AreSteps D before.0) (entries_else i x rest (λ e. isnt (sym e))) before.2))
            (same_or_not i x.at);
        given = mid.given;
        members = mid.members;
        sorted = mid.sorted;
      }

  -- WHAT IS CLAIMED

  record Good (world : World Kind Op Shown) (placed : List (Placed Op Shown)) (events : List (Event Op)) : Type 0 where
    lawful : AreLawful D world events
    ends : (i : ℕ) (member : Node Kind Op Shown) → IsTrue (is_member view i) → world.nodes i ≡ Some member → (run D world events).nodes i ≡ Some (replayed D member (entries_at i placed))

  -- one event more
  good_cons : (world : World Kind Op Shown) (x : Placed Op Shown) (rest : List (Placed Op Shown)) (n : Node Kind Op Shown) (w : World Kind Op Shown) (event : Event Op) (events : List (Event Op))
      → IsLawful D world event → happens D world event ≡ after_step w x.at n x.entry.fate (step D n x.entry.input x.entry.fate) → w.nodes ≡ world.nodes → world.nodes x.at ≡ Some n
      → Good (after_step w x.at n x.entry.fate (step D n x.entry.input x.entry.fate)) rest events → Good world (x ∷ rest) (event ∷ events)
  good_cons world x rest n w event events lawful happens_so same runs good =
      let s = step D n x.entry.input x.entry.fate in
      let next = after_step w x.at n x.entry.fate s in
      record {
        lawful = (lawful, subst (λ v. AreLawful D v events) (sym happens_so) good.lawful);
        ends = λ i member mi there. subst (λ v. (run D v events).nodes i ≡ Some (replayed D member (entries_at i (x ∷ rest)))) (sym happens_so)
            (⊎_elim
            (λ (is : i ≡ x.at).
            let is_n : n ≡ member = cc (sym runs ∙ ap world.nodes (sym is) ∙ there) in
            good.ends i s.node mi (with_at_is w.nodes x.at (Some s.node) i is)
            ∙ ap Some (ap (λ m. replayed D (step D m x.entry.input x.entry.fate).node (entries_at i rest)) is_n ∙ ap (replayed D member) (sym (entries_here i x rest (sym is)))))
            (λ isnt. good.ends i member mi (with_at_other w.nodes x.at (Some s.node) i isnt ∙ ap (λ f. f i) same ∙ there) ∙ ap (λ es. Some (replayed D member es)) (sym (entries_else i x rest (λ e. isnt (sym e)))))
            (same_or_not i x.at));
      }

  module _ (world : World Kind Op Shown) (due : ℕ → ℕ → ℕ) (x : Placed Op Shown) (rest : List (Placed Op Shown)) (going : Going world due (x ∷ rest)) where
    -- the member, and its step
    pub its_steps : (n : Node Kind Op Shown) × (world.nodes x.at ≡ Some n) × AreSteps D n (x.entry ∷ entries_at x.at rest)
    its_steps =
        let at = going.steps x.at going.members.0 in
        (at.0, at.1, subst (AreSteps D at.0) (entries_here x.at x rest refl) at.2)

    -- an input of a client
    pub input_goes : (input : Input Op) → x.entry.input ≡ input → ((i : ℕ) → taken_by i x.entry.stamp input ≡ []) → Going (after_step world x.at its_steps.0 x.entry.fate (step D its_steps.0 x.entry.input x.entry.fate)) due rest
    input_goes input is none =
        let mid : Midway world due x rest =
        record {
          same_view = going.same_view;
          same_views = going.same_views;
          queue = going.queue;
          waiting = going.waiting;
          within = going.within;
          heard = λ i j mi mj. subst (AreHeard (going.queue i j ++ posted_to j (entries_at i (x ∷ rest)))) (takes_split x rest i j ∙ ap (λ ts. ts ++ taken_from i (entries_at j rest)) (takes_none x i j input is (none i))) (going.heard i j mi mj);
          steps = going.steps;
          given = going.given.1;
          members = going.members.1;
          sorted = going.sorted.1;
        } in
        goes_on world due x rest its_steps.0 (step D its_steps.0 x.entry.input x.entry.fate) mid its_steps.2.2 its_steps.2.3

    -- the message that is due
    abbrev pub due_next : ℕ → ℕ → ℕ → ℕ
    due_next from = with_at due from (with_at (due from) x.at (suc (due from x.at)))

    abbrev pub moved_world : ℕ → World Kind Op Shown
    moved_world from = record world { links = moved_on world.links from x.at (due from x.at) }

    abbrev pub TakeGoes : ℕ → Message Op → Type 0
    TakeGoes from message = (message_at world from x.at (due from x.at) ≡ Some message) × Going (after_step (moved_world from) x.at its_steps.0 x.entry.fate (step D its_steps.0 x.entry.input x.entry.fate)) (due_next from) rest

    taken_goes : (from : ℕ) (message : Message Op) → x.entry.input ≡ Take from message → IsTrue (is_member view from) → (h : Passed Op) (queue : List (Passed Op)) → going.queue from x.at ≡ h ∷ queue
        → AreHeard (h ∷ queue ++ posted_to x.at (entries_at from (x ∷ rest))) (record { message = message; stamp = x.entry.stamp } ∷ taken_from from (entries_at x.at rest)) → TakeGoes from message
    taken_goes from message is mf h queue next hears =
        let q = x.at in
        let d = due from q in
        let n = its_steps.0 in
        let runs = its_steps.1 in
        let does = its_steps.2 in
        let due' : ℕ → ℕ → ℕ = with_at due from (with_at (due from) q (suc d)) in
        let queue' : ℕ → ℕ → List (Passed Op) = with_at going.queue from (with_at (going.queue from) q queue) in
        let moved : World Kind Op Shown = record world { links = moved_on world.links from q d } in
        let waits : drop d (messages_on world.links from q) ≡ h.message ∷ map (λ (p : Passed Op). p.message) queue = sym (going.waiting from q) ∙ ap (map (λ (p : Passed Op). p.message)) next in
        let there : message_at world from q d ≡ Some message =
        ap (slice_get (messages_on world.links from q)) (omega arith) ∙ sym (slice_get-dropped (messages_on world.links from q) d 0) ∙ ap (λ ms. slice_get ms 0) waits ∙ ap Some (sym hears.0) in
        let mid : Midway moved due' x rest =
        record {
          same_view = going.same_view;
          same_views = going.same_views;
          queue = queue';
          waiting = at_both from q (λ a b. map (λ (p : Passed Op). p.message) (queue' a b) ≡ drop (due' a b) (messages_on moved.links a b))
              (ap (map (λ (p : Passed Op). p.message)) (table_here going.queue from q queue from q refl refl) ∙ sym (drop_next d (messages_on world.links from q) h.message _ waits)
              ∙ ap (λ k. drop k (messages_on world.links from q)) (sym (table_here due from q (suc d) from q refl refl)) ∙ ap (drop (due' from q)) (sym (moved_messages world.links from q d from q)))
              (λ a b away.
              ap (map (λ (p : Passed Op). p.message)) (table_else going.queue from q queue a b away) ∙ going.waiting a b ∙ ap (λ k. drop k (messages_on world.links a b)) (sym (table_else due from q (suc d) a b away))
              ∙ ap (drop (due' a b)) (sym (moved_messages world.links from q d a b)));
          within = at_both from q (λ a b. due' a b ≤ length (messages_on moved.links a b))
              (let k = slice_get_within (messages_on world.links from q) d message there in let e = table_here due from q (suc d) from q refl refl in let l = ap length (moved_messages world.links from q d from q) in omega (arith, k, e, l))
              (λ a b away. let k = going.within a b in let e = table_else due from q (suc d) a b away in let l = ap length (moved_messages world.links from q d a b) in omega (arith, k, e, l));
          heard = at_both from q (λ a b. IsTrue (is_member view a) → IsTrue (is_member view b) → AreHeard (queue' a b ++ posted_to b (entries_at a (x ∷ rest))) (taken_from a (entries_at b rest)))
              (λ _ _. subst (λ ps. AreHeard (ps ++ posted_to q (entries_at from (x ∷ rest))) (taken_from from (entries_at q rest))) (sym (table_here going.queue from q queue from q refl refl)) hears.2)
              (λ a b away ma mb.
              subst (λ ps. AreHeard (ps ++ posted_to b (entries_at a (x ∷ rest))) (taken_from a (entries_at b rest))) (sym (table_else going.queue from q queue a b away))
              (subst (AreHeard (going.queue a b ++ posted_to b (entries_at a (x ∷ rest)))) (takes_split x rest a b ∙ ap (λ ts. ts ++ taken_from a (entries_at b rest)) (takes_else x a b from message is away)) (going.heard a b ma mb)));
          steps = going.steps;
          given = going.given.1;
          members = going.members.1;
          sorted = going.sorted.1;
        } in
        (there, goes_on moved due' x rest n (step D n x.entry.input x.entry.fate) mid does.2 does.3)

    -- a message of the section
    pub take_goes : (from : ℕ) (message : Message Op) → x.entry.input ≡ Take from message → IsTrue (is_member view from) → TakeGoes from message
    take_goes from message is mf = take_by (going.queue from x.at) refl
      where
        posts : List (Passed Op)
        posts = posted_to x.at (entries_at from (x ∷ rest))

        takes : List (Passed Op)
        takes = taken_from from (entries_at x.at rest)

        hears : AreHeard (going.queue from x.at ++ posted_to x.at (entries_at from (x ∷ rest))) (record { message = message; stamp = x.entry.stamp } ∷ taken_from from (entries_at x.at rest))
        hears = subst (AreHeard (going.queue from x.at ++ posted_to x.at (entries_at from (x ∷ rest)))) (takes_split x rest from x.at ∙ ap (λ ts. ts ++ taken_from from (entries_at x.at rest)) (takes_here x from x.at message is refl)) (going.heard from x.at mf going.members.0)

        take_by : (queue : List (Passed Op)) → going.queue from x.at ≡ queue → TakeGoes from message
        take_by [] none =
            absurd (too_late x.entry.stamp message (posted_to x.at (entries_at from (x ∷ rest))) (taken_from from (entries_at x.at rest))
            (all_late x.entry.stamp (x ∷ rest) from x.at (omega arith, no_less view x rest going.sorted.0))
            (subst (λ ps. AreHeard (ps ++ posted_to x.at (entries_at from (x ∷ rest))) (record { message = message; stamp = x.entry.stamp } ∷ taken_from from (entries_at x.at rest))) none hears))
        take_by (h ∷ queue) next =
            taken_goes from message is mf h queue next
            (subst (λ ps. AreHeard (ps ++ posted_to x.at (entries_at from (x ∷ rest))) (record { message = message; stamp = x.entry.stamp } ∷ taken_from from (entries_at x.at rest))) next hears)

  module _ (world : World Kind Op Shown) (due : ℕ → ℕ → ℕ) (x : Placed Op Shown) (rest : List (Placed Op Shown)) (going : Going world due (x ∷ rest))
      (later : (w : World Kind Op Shown) (due' : ℕ → ℕ → ℕ) → Going w due' rest → Good w rest (events_of due' rest)) where
    -- an input of a client
    input_good : (input : Input Op) → x.entry.input ≡ input → ((i : ℕ) → taken_by i x.entry.stamp input ≡ []) → IsGiven D world x.at input → Good world (x ∷ rest) (InputAt x.at input x.entry.fate ∷ events_of due rest)
    input_good input is none given =
        let n = (its_steps world due x rest going).0 in
        let runs = (its_steps world due x rest going).1 in
        let does = (its_steps world due x rest going).2 in
        let s = step D n x.entry.input x.entry.fate in
        let next = after_step world x.at n x.entry.fate s in
        let happens_so : happens D world (InputAt x.at input x.entry.fate) ≡ next = ap (λ o. stepped_at D world x.at o input x.entry.fate) runs ∙ ap (λ p. after_step world x.at n x.entry.fate (step D n p x.entry.fate)) (sym is) in
        good_cons world x rest n world (InputAt x.at input x.entry.fate) (events_of due rest)
        (given, record { node = n; runs = runs; has_room = does.0; fate_fits = subst (λ p. FitsFate D n p x.entry.fate) is does.1 })
        happens_so refl runs (later next due (input_goes world due x rest going input is none))

    -- a message of the section
    take_good : (from : ℕ) (message : Message Op) → x.entry.input ≡ Take from message → IsTrue (is_member view from) → Good world (x ∷ rest) (Delivery from x.at (due from x.at) x.entry.fate ∷ events_of (with_at due from (with_at (due from) x.at (suc (due from x.at)))) rest)
    take_good from message is mf =
        let q = x.at in
        let d = due from q in
        let n = (its_steps world due x rest going).0 in
        let runs = (its_steps world due x rest going).1 in
        let does = (its_steps world due x rest going).2 in
        let due' : ℕ → ℕ → ℕ = with_at due from (with_at (due from) q (suc d)) in
        let moved : World Kind Op Shown = record world { links = moved_on world.links from q d } in
        let goes = take_goes world due x rest going from message is mf in
        let after = after_step moved q n x.entry.fate (step D n x.entry.input x.entry.fate) in
        let happens_so : happens D world (Delivery from q d x.entry.fate) ≡ after =
        ap (λ o. delivered D world from q d o x.entry.fate) goes.0 ∙ ap (λ o. stepped_at D moved q o (Take from message) x.entry.fate) runs
        ∙ ap (λ p. after_step moved q n x.entry.fate (step D n p x.entry.fate)) (sym is) in
        good_cons world x rest n moved (Delivery from q d x.entry.fate) (events_of due' rest)
        (message, goes.0, record { node = n; runs = runs; has_room = does.0; fate_fits = subst (λ p. FitsFate D n p x.entry.fate) is does.1 })
        happens_so refl runs (later after due' goes.1)

  -- ALL

  entry_good : (world : World Kind Op Shown) (due : ℕ → ℕ → ℕ) (x : Placed Op Shown) (rest : List (Placed Op Shown)) → Going world due (x ∷ rest)
      → ((w : World Kind Op Shown) (due' : ℕ → ℕ → ℕ) → Going w due' rest → Good w rest (events_of due' rest))
      → (input : Input Op) → x.entry.input ≡ input → IsFromClients view views input → Good world (x ∷ rest) (event_of due x.at x.entry.fate input ∷ events_of (due_after due x.at input) rest)
  entry_good world due x rest going later (Input.Update key op level) is given = input_good world due x rest going later (Input.Update key op level) is (λ i. refl) tt
  entry_good world due x rest going later (Input.Get key level) is given = input_good world due x rest going later (Input.Get key level) is (λ i. refl) tt
  entry_good world due x rest going later (Take from message) is given = take_good world due x rest going later from message is given
  entry_good world due x rest going later (Install other) is given = input_good world due x rest going later (Install other) is (λ i. refl) (given.0, subst (λ vs. slice_get vs given.0 ≡ Some other) (sym going.same_views) given.1)
  entry_good world due x rest going later Input.Flush is given = input_good world due x rest going later Input.Flush is (λ i. refl) tt
  entry_good world due x rest going later (Input.GossipTo i) is given = input_good world due x rest going later (Input.GossipTo i) is (λ i. refl) tt
  entry_good world due x rest going later Input.PruneTick is given = input_good world due x rest going later Input.PruneTick is (λ i. refl) tt
  entry_good world due x rest going later (Input.Timeout op) is given = input_good world due x rest going later (Input.Timeout op) is (λ i. refl) tt

  all_good : (placed : List (Placed Op Shown)) (world : World Kind Op Shown) (due : ℕ → ℕ → ℕ) → Going world due placed → Good world placed (events_of due placed)
  all_good [] world due going = record { lawful = tt; ends = λ i member mi there. there }
  all_good (x ∷ rest) world due going =
      entry_good world due x rest going (λ w due' g. all_good rest w due' g) x.entry.input refl going.given.0

-- FROM THE FIRST ENTRY ON

pub drop_all : {X : Type 0} (xs : List X) → drop (length xs) xs ≡ []
drop_all [] = refl
drop_all (x ∷ xs) = drop_all xs

module _ {Op Shown : Type 0} where
  pub all_rest : (P : Entry Op Shown → Type 0) (i : ℕ) (x : Placed Op Shown) (rest : List (Placed Op Shown)) → AllByRecursion P (entries_at i (x ∷ rest)) → AllByRecursion P (entries_at i rest)
  all_rest P i x rest h = ⊎_elim
      (λ (is : x.at ≡ i). (let Q : List (Entry Op Shown) → Type 0 = AllByRecursion P in subst Q (entries_here i x rest is) h).1)
      (λ isnt. subst (AllByRecursion P) (entries_else i x rest isnt) h)
      (same_or_not x.at i)

  pub all_placed : (P : Entry Op Shown → Type 0) (view : View) (placed : List (Placed Op Shown)) → ((i : ℕ) → IsTrue (is_member view i) → AllByRecursion P (entries_at i placed)) → AllByRecursion (λ (x : Placed Op Shown). IsTrue (is_member view x.at)) placed
      → AllByRecursion (λ (x : Placed Op Shown). P x.entry) placed
  all_placed P view [] all members = tt
  all_placed P view (x ∷ rest) all members =
      ((let Q : List (Entry Op Shown) → Type 0 = AllByRecursion P in subst Q (entries_here x.at x rest refl) (all x.at members.0)).0, all_placed P view rest (λ i mi. all_rest P i x rest (all i mi)) members.1)

module _ {Kind Op Shown : Type 0} (D : Replication Kind Op Shown) (world : World Kind Op Shown) (histories : ℕ → List (Entry Op Shown)) (placed : List (Placed Op Shown)) where
  pub first_going : AreHistories D world histories → IsRunOrder world.view histories placed → Going D world.view (views_of world) world (sent_so_far world) placed
  first_going all order =
      let view = world.view in
      record {
        same_view = refl;
        same_views = refl;
        queue = λ i j. [];
        waiting = λ i j. sym (drop_all (messages_on world.links i j));
        within = λ i j. omega arith;
        heard = λ i j mi mj. subst (λ es. AreHeard (posted_to j es) (taken_from i (entries_at j placed))) (sym (order.whole i mi)) (subst (λ es. AreHeard (posted_to j (histories i)) (taken_from i es)) (sym (order.whole j mj)) (all.heard i j mi mj));
        steps = λ i mi. let at = all.steps i mi in (at.0, at.1, subst (AreSteps D at.0) (sym (order.whole i mi)) at.2);
        given = all_placed (λ (e : Entry Op Shown). IsFromClients view (views_of world) e.input) view placed (λ i mi. subst (AllByRecursion (λ (e : Entry Op Shown). IsFromClients view (views_of world) e.input)) (sym (order.whole i mi)) (all.given i)) order.members;
        members = order.members;
        sorted = order.sorted;
      }

  pub histories_lead : AreHistories D world histories → IsRunOrder world.view histories placed → LeadTo D world histories (events_of (sent_so_far world) placed)
  histories_lead all order =
      let good = all_good D world.view (views_of world) placed world (sent_so_far world) (first_going all order) in
      record { lawful = good.lawful; members = λ i member mi there. good.ends i member mi there ∙ ap (λ es. Some (replayed D member es)) (order.whole i mi) }
