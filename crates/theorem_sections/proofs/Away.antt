-- A member posts nothing to itself.
use Rattle.std.proofs.Common.{◌≡◌, ◌≢◌, ⊎_elim, ℕ, ◌+◌, ◌<◌, ◌≤◌, List, [], ◌∷◌, ◌++◌, length, map, refl, sym, ap, subst, ◌∙◌, arith, true, false, cond, Option, Some, None}
use Rattle.std.specs.Prelude.{◌==◌, ◌&&◌, ◌||◌, not, if◌then◌else◌, filter, find, is_some, nat_le, IsTrue}
use Rattle.std.specs.List.{AllByRecursion, list_any}
use Rattle.std.specs.Str.{bytes_eq}
use Rattle.std.proofs.lemmas.Bool.{eqb-false, not-true}
use Rattle.model_history.specs.Texts.{Text}
use Rattle.model_meanings.specs.Refusal.{Refusal}
use Rattle.model_members.specs.View.{is_member, leader, others, identities_of}
use Rattle.model_members.specs.Entry.{Entry as Held}
use Rattle.model_members.specs.DataType.{Replication}
use Rattle.model_members.specs.Message.{Keyed, Message, Post}
use Rattle.model_members.specs.Message.Message.{Deltas, Nack, Status, Gossip, Write, WriteAck, WriteNack, Read, ReadAnswer}
use Rattle.model_members.specs.Node.{KeyState, Node, Level, Input, Fate, Output, Stepped, OpenOperation, key_state, key_states, needed}
use Rattle.model_members.specs.Node.Reply.{Deleted, WrongKind, Taken, NotFromMember, NotAPeer, Done}
use Rattle.model_history.specs.Vector.{members_of}
use Rattle.model_members.specs.Node.Input.{Update, Get, Take, Install, Flush, GossipTo, PruneTick, Timeout}
use Rattle.model_members.specs.Step.{is_answered_by, status_of, answer_to, value_reply, meaning_of, with_answer, KeyGap, after_entries, answered, sent, opened, to_others, step_of_take, gossip_to, nack_to, keyed_option, took, step_of_flush, deltas_for, is_behind, step_of, step, has_failed, member_count}
use Rattle.model_members.proofs.Cases.{accepted, updated, updated_undeleted, updated_needing, updated_unless, got, got_needing, counted_for}
use Rattle.model_members.specs.World.{World}
use Rattle.theorem_runs.proofs.Keeping.{if_holds, if_tells}
use Rattle.theorem_runs.proofs.Sending.{all_filtered, all_passing, all_mapped_by}
use Rattle.theorem_runs.proofs.Stepping.{moves}
use Rattle.theorem_operations.proofs.Lists.{or_left}
use Rattle.theorem_sections.specs.Histories.{Entry, Passed, taken_by, AreHeard, posted_to, taken_from, RiseAbove, AreSteps, AreHistories}
use Rattle.theorem_sections.proofs.NextDue.{same_or_not}
use Rattle.theorem_sections.proofs.RunOrder.{all-append, is_same, is_other}
use Rattle.theorem_sections.proofs.Untils.{rise_more}

module _ {Op : Type 0} where
  -- all posts go to this member
  abbrev To : ℕ → List (Post Op) → Type 0
  To from posts = AllByRecursion (λ (post : Post Op). post.to ≡ from) posts

  -- none does
  abbrev pub NoneTo : ℕ → List (Post Op) → Type 0
  NoneTo i posts = AllByRecursion (λ (post : Post Op). post.to ≢ i) posts

  away_from : (from i : ℕ) → from ≢ i → (posts : List (Post Op)) → To from posts → NoneTo i posts
  away_from from i isnt [] all = tt
  away_from from i isnt (post ∷ posts) all = ((λ e. isnt (sym all.0 ∙ e)), away_from from i isnt posts all.1)

module _ {Kind Op Shown : Type 0} (D : Replication Kind Op Shown) where
  abbrev IsAway : Node Kind Op Shown → Stepped Kind Op Shown → Type 0
  IsAway node s = NoneTo node.identity s.output.posts

  abbrev GoesTo : ℕ → Stepped Kind Op Shown → Type 0
  GoesTo from s = To from s.output.posts

  others_away : (node : Node Kind Op Shown) → AllByRecursion (λ j. j ≢ node.identity) (others node.view node.identity)
  others_away node = all_passing (λ j. j ≢ node.identity) (λ j. not (j == node.identity)) (λ j e. eqb-false j node.identity (not-true (j == node.identity) e)) (identities_of node.view)

  to_others_away : (node : Node Kind Op Shown) (message : Message Op) → NoneTo node.identity (to_others node message)
  to_others_away node message = all_mapped_by (λ j. j ≢ node.identity) (λ (post : Post Op). post.to ≢ node.identity) (λ i. record { to = i; message = message }) (λ j h. h) (others node.view node.identity) (others_away node)

  -- UPDATES AND GETS

  accepted_away : (node : Node Kind Op Shown) (key : Text) (n : ℕ) (fate : Fate) (entry : Held Op) → IsAway node (accepted D node key n fate entry)
  accepted_away node key n fate entry =
      if_holds (IsAway node) (has_failed fate) _ _ tt (if_holds (IsAway node) (nat_le n 1) _ _ tt (to_others_away node (Write node.next_op key entry)))

  unless_away : (node : Node Kind Op Shown) (k : KeyState Kind Op) (op : Op) (n : ℕ) (fate : Fate) (refusal : Option Refusal) → IsAway node (updated_unless D node k op n fate refusal)
  unless_away node k op n fate None = accepted_away node k.name n fate _
  unless_away node k op n fate (Some refusal) = tt

  needing_away : (node : Node Kind Op Shown) (k : KeyState Kind Op) (op : Op) (n : Option ℕ) (fate : Fate) → IsAway node (updated_needing D node k op n fate)
  needing_away node k op None fate = tt
  needing_away node k op (Some n) fate = unless_away node k op n fate (D.data_type.refusal k.kind node.identity op k.entry.history)

  updated_away : (node : Node Kind Op Shown) (o : Option (KeyState Kind Op)) (op : Op) (level : Level) (fate : Fate) → IsAway node (updated D node o op level fate)
  updated_away node None op level fate = tt
  updated_away node (Some k) op level fate =
      if_holds (IsAway node) (D.data_type.deleted k.entry.history) (answered node Deleted) (updated_undeleted D node k op level fate) tt
      (if_holds (IsAway node) (D.data_type.fits k.kind op) (updated_needing D node k op (needed level (member_count node)) fate) (answered node WrongKind) (needing_away node k op (needed level (member_count node)) fate) tt)

  got_needing_away : (node : Node Kind Op Shown) (k : KeyState Kind Op) (n : Option ℕ) → IsAway node (got_needing D node k n)
  got_needing_away node k None = tt
  got_needing_away node k (Some n) =
      if_holds (IsAway node) (nat_le n 1) (answered node (value_reply D (meaning_of D k))) (opened node k.name true n (Read node.next_op k.name)) tt (to_others_away node (Read node.next_op k.name))

  got_away : (node : Node Kind Op Shown) (o : Option (KeyState Kind Op)) (level : Level) → IsAway node (got D node o level)
  got_away node None level = tt
  got_away node (Some k) level = got_needing_away node k (needed level (member_count node))

  -- TAKES

  gossip_back : (from : ℕ) (entries : List (Keyed (Held Op))) (wants : List Text) → To from (gossip_to D from entries wants)
  gossip_back from [] [] = tt
  gossip_back from [] (w ∷ wants) = (refl, tt)
  gossip_back from (e ∷ entries) wants = (refl, tt)

  nack_back : (from : ℕ) (gaps : List KeyGap) → To from (nack_to D from gaps)
  nack_back from [] = tt
  nack_back from (gap ∷ gaps) = (refl, tt)

  counted_back : (s : Stepped Kind Op Shown) (from to : ℕ) (o : Option OpenOperation) → GoesTo to s → GoesTo to (counted_for D s from o)
  counted_back s from to None h = h
  counted_back s from to (Some operation) h = if_holds (GoesTo to) (nat_le operation.needed (length (members_of (with_answer from operation).counted))) _ _ h h

  goes_back : (node : Node Kind Op Shown) (from : ℕ) (fate : Fate) (message : Message Op) → GoesTo from (step_of_take D node from fate message)
  goes_back node from fate (Deltas groups entries) = nack_back from _
  goes_back node from fate (Nack keys) = gossip_back from _ []
  goes_back node from fate (Status digests) = gossip_back from _ _
  goes_back node from fate (Gossip entries wants) = gossip_back from _ []
  goes_back node from fate (Write op key entry) = if_holds (To from) (is_some (key_state node key)) _ _ (refl, tt) tt
  goes_back node from fate (WriteAck op) = counted_back (answered node Taken) from from _ tt
  goes_back node from fate (WriteNack op) = tt
  goes_back node from fate (Read op key) = (refl, tt)
  goes_back node from fate (ReadAnswer op key entry) =
      let s = took D node (after_entries node (keyed_option D key entry)) fate [] [] in
      counted_back s from from (find (λ (o : OpenOperation). is_answered_by true op o && bytes_eq o.key key) s.node.open_operations) tt

  -- ALL INPUTS

  flushed_away : (node : Node Kind Op Shown) → IsAway node (step_of_flush D node)
  flushed_away node =
      let is_late = λ (peer : ℕ). list_any (is_behind D node peer) (key_states node) in
      all_mapped_by (λ peer. peer ≢ node.identity) (λ (post : Post Op). post.to ≢ node.identity) (λ peer. record { to = peer; message = deltas_for D node peer }) (λ peer h. h) (filter is_late (others node.view node.identity))
      (all_filtered (λ peer. peer ≢ node.identity) is_late (others node.view node.identity) (others_away node))

  gossip_away : (node : Node Kind Op Shown) (i : ℕ) → ((i == node.identity) || not (is_member node.view i)) ≡ false → IsAway node (sent node Done (answer_to D i (status_of D node)))
  gossip_away node i e = ((λ same. let a = sym (or_left (i == node.identity) (not (is_member node.view i)) (is_same i node.identity same)) ∙ e in absurd (cc a)), tt)

  -- but for takes from itself
  away_of : (node : Node Kind Op Shown) (input : Input Op) (fate : Fate) → ((message : Message Op) → input ≢ Take node.identity message) → IsAway node (step_of D node input fate)
  away_of node (Update key op level) fate h = updated_away node (key_state node key) op level fate
  away_of node (Get key level) fate h = got_away node (key_state node key) level
  away_of node (Take from message) fate h =
      if_holds (IsAway node) (is_member node.view from) (step_of_take D node from fate message) (answered node NotFromMember)
      (away_from from node.identity (λ e. h message (ap (λ f. Take f message) e)) (step_of_take D node from fate message).output.posts (goes_back node from fate message)) tt
  away_of node (Install view) fate h = if_holds (IsAway node) (nat_le view.number node.view.number) _ _ tt tt
  away_of node Flush fate h = flushed_away node
  away_of node (GossipTo i) fate h =
      if_tells (IsAway node) ((i == node.identity) || not (is_member node.view i)) (answered node NotAPeer) (sent node Done (answer_to D i (status_of D node))) (λ e. tt) (gossip_away node i)
  away_of node PruneTick fate h = if_holds (IsAway node) (not (leader node.view == node.identity)) _ _ tt tt
  away_of node (Timeout op) fate h = if_holds (IsAway node) (list_any (λ (o : OpenOperation). o.op == op) node.open_operations) _ _ tt tt

  posts_away : (node : Node Kind Op Shown) (input : Input Op) (fate : Fate) → ((message : Message Op) → input ≢ Take node.identity message) → NoneTo node.identity (step D node input fate).output.posts
  posts_away node input fate h = away_of (record node { steps = node.steps + 1 }) input fate h

  -- HISTORIES

  nothing_to : (i stamp : ℕ) (posts : List (Post Op)) → NoneTo i posts → ◌≡◌ {A = List (Passed Op)} (map (λ (post : Post Op). record { message = post.message; stamp = stamp }) (filter (λ (post : Post Op). post.to == i) posts)) []
  nothing_to i stamp [] all = refl
  nothing_to i stamp (post ∷ posts) all =
      ap (λ b. map (λ (post : Post Op). record { message = post.message; stamp = stamp }) (cond b (post ∷ filter (λ (post : Post Op). post.to == i) posts) (filter (λ (post : Post Op). post.to == i) posts))) (is_other post.to i all.0) ∙ nothing_to i stamp posts all.1

  all_stamped : (stamp : ℕ) (posts : List (Post Op)) → AllByRecursion (λ (p : Passed Op). stamp ≤ p.stamp) (map (λ (post : Post Op). record { message = post.message; stamp = stamp }) posts)
  all_stamped stamp [] = tt
  all_stamped stamp (post ∷ posts) = (omega arith, all_stamped stamp posts)

  no_earlier : (n i : ℕ) (es : List (Entry Op Shown)) → RiseAbove n es → AllByRecursion (λ (p : Passed Op). n ≤ p.stamp) (posted_to i es)
  no_earlier n i [] r = tt
  no_earlier n i (e ∷ es) r =
      all-append (λ (p : Passed Op). n ≤ p.stamp) (map (λ (post : Post Op). record { message = post.message; stamp = e.stamp }) (filter (λ (post : Post Op). post.to == i) e.output.posts)) (posted_to i es)
      (less n e.stamp (filter (λ (post : Post Op). post.to == i) e.output.posts) r.0) (no_earlier n i es (rise_more n e.stamp es (let a = r.0 in omega (arith, a)) r.1))
    where
      less : (n stamp : ℕ) (posts : List (Post Op)) → n < stamp → AllByRecursion (λ (p : Passed Op). n ≤ p.stamp) (map (λ (post : Post Op). record { message = post.message; stamp = stamp }) posts)
      less n stamp [] h = tt
      less n stamp (post ∷ posts) h = (omega (arith, h), less n stamp posts h)

  -- no take is of a post that is no earlier
  no_take_yet : (m : Message Op) (stamp : ℕ) (posts takes : List (Passed Op)) → AllByRecursion (λ (p : Passed Op). stamp ≤ p.stamp) posts → AreHeard posts (record { message = m; stamp = stamp } ∷ takes) → ⊥
  no_take_yet m stamp [] takes late h = h
  no_take_yet m stamp (post ∷ posts) takes late h = let a = late.0 in let b = h.1 in omega (arith, a, b)

  -- a history whose takes of its own posts come after these posts has neither
  none_own : (i : ℕ) (n : Node Kind Op Shown) (m : ℕ) (es : List (Entry Op Shown)) → n.identity ≡ i → AreSteps D n es → RiseAbove m es → AreHeard (posted_to i es) (taken_from i es) → posted_to i es ≡ []
  none_own i n m [] here steps r heard = refl
  none_own i n m (e ∷ es) here steps r heard = by e.input refl (λ none takes. none_own i (step D n e.input e.fate).node e.stamp es ((moves D n e.input e.fate).identity ∙ here) steps.3 r.1
      (subst (λ ps. AreHeard ps (taken_from i es)) (ap (λ ps. ps ++ posted_to i es) none) (subst (λ ts. AreHeard (posted_to i (e ∷ es)) (ts ++ taken_from i es)) takes heard)))
    where
      here_posts : List (Passed Op)
      here_posts = map (λ (post : Post Op). record { message = post.message; stamp = e.stamp }) (filter (λ (post : Post Op). post.to == i) e.output.posts)

      late : AllByRecursion (λ (p : Passed Op). e.stamp ≤ p.stamp) (posted_to i (e ∷ es))
      late = all-append (λ (p : Passed Op). e.stamp ≤ p.stamp) here_posts (posted_to i es) (all_stamped e.stamp (filter (λ (post : Post Op). post.to == i) e.output.posts)) (no_earlier e.stamp i es r.1)

      none_posted : ((message : Message Op) → e.input ≢ Take n.identity message) → here_posts ≡ []
      none_posted h = nothing_to i e.stamp e.output.posts (subst (λ j. NoneTo j e.output.posts) here (subst (λ (o : Output Op Shown). NoneTo n.identity o.posts) (sym steps.2) (posts_away n e.input e.fate h)))

      finish : ((message : Message Op) → e.input ≢ Take n.identity message) → taken_by i e.stamp e.input ≡ [] → (here_posts ≡ [] → taken_by i e.stamp e.input ≡ [] → posted_to i es ≡ []) → posted_to i (e ∷ es) ≡ []
      finish h takes later = let none = none_posted h in ap (λ ps. ps ++ posted_to i es) none ∙ later none takes

      by : (input : Input Op) → e.input ≡ input → (here_posts ≡ [] → taken_by i e.stamp e.input ≡ [] → posted_to i es ≡ []) → posted_to i (e ∷ es) ≡ []
      by (Take from message) is later = ⊎_elim
          (λ (same : from ≡ i). absurd (no_take_yet message e.stamp (posted_to i (e ∷ es)) (taken_from i es) late
          (subst (λ ts. AreHeard (posted_to i (e ∷ es)) (ts ++ taken_from i es)) (ap (taken_by i e.stamp) is ∙ ap (λ b. if b then record { message = message; stamp = e.stamp } ∷ [] else []) (is_same from i same)) heard)))
          (λ isnt. finish (λ m is'. let f : Take from message ≡ Take n.identity m = sym is ∙ is' in isnt (same_from f ∙ here)) (ap (taken_by i e.stamp) is ∙ ap (λ b. if b then record { message = message; stamp = e.stamp } ∷ [] else []) (is_other from i isnt)) later)
          (same_or_not from i)
        where
          same_from : {a b : ℕ} {x y : Message Op} → ◌≡◌ {A = Input Op} (Take a x) (Take b y) → a ≡ b
          same_from f = cc f
      by (Update key op level) is later = finish (λ m is'. let f = sym is ∙ is' in cc f) (ap (taken_by i e.stamp) is) later
      by (Get key level) is later = finish (λ m is'. let f = sym is ∙ is' in cc f) (ap (taken_by i e.stamp) is) later
      by (Install view) is later = finish (λ m is'. let f = sym is ∙ is' in cc f) (ap (taken_by i e.stamp) is) later
      by Flush is later = finish (λ m is'. let f = sym is ∙ is' in cc f) (ap (taken_by i e.stamp) is) later
      by (GossipTo j) is later = finish (λ m is'. let f = sym is ∙ is' in cc f) (ap (taken_by i e.stamp) is) later
      by PruneTick is later = finish (λ m is'. let f = sym is ∙ is' in cc f) (ap (taken_by i e.stamp) is) later
      by (Timeout op) is later = finish (λ m is'. let f = sym is ∙ is' in cc f) (ap (taken_by i e.stamp) is) later

  -- so a member that has its own identity posts nothing to itself
  pub posts_none_to_itself : (world : World Kind Op Shown) (histories : ℕ → List (Entry Op Shown)) → AreHistories D world histories → ((i : ℕ) (n : Node Kind Op Shown) → world.nodes i ≡ Some n → n.identity ≡ i)
      → (i : ℕ) → IsTrue (is_member world.view i) → posted_to i (histories i) ≡ []
  posts_none_to_itself world histories all named i mi = let s = all.steps i mi in none_own i s.0 0 (histories i) (named i s.0 s.1) s.2 (all.rise i) (all.heard i i mi mi)
