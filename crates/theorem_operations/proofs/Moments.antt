-- The moments of a run: where each message comes from, and that operation numbers are never used twice.
use Rattle.std.proofs.Common.{◌≡◌, ℕ, zero, suc, ◌<◌, ◌≤◌, List, [], ◌∷◌, ◌++◌, refl, sym, ap, subst, ◌∙◌, arith, Bool, true, false, Option, Some, None, ◌⊎◌, inl, inr}
use Rattle.std.specs.Prelude.{⊤, if◌then◌else◌, slice_get, nat_lt, ◌==◌}
use Rattle.std.specs.List.{AllByRecursion}
use Rattle.std.proofs.lemmas.Bool.Decides.{eqb_tells}
use Rattle.model_history.specs.Table.{identity_limit, with_at}
use Rattle.model_history.proofs.HistoryLaws.{with_at_same, with_at_other, slice_get-push}
use Rattle.model_history.proofs.PruneLaws.{IsIn, in_append}
use Rattle.model_members.specs.View.{View, is_member, first_view}
use Rattle.model_members.specs.DataType.{Replication}
use Rattle.model_members.specs.Message.{Message, Post}
use Rattle.model_members.specs.Message.Message.{Deltas, Nack, Status, Gossip, Write, WriteAck, WriteNack, Read, ReadAnswer}
use Rattle.model_members.specs.Node.{KeyDecl, Node, OpenOperation, Finished, Input, Fate}
use Rattle.model_members.specs.Node.Input.{Take}
use Rattle.model_members.specs.Step.{step, with_answer}
use Rattle.model_members.specs.World.{World, Link, Links, Event, with_link, with_post, with_posts, moved_on, happens, run, start, message_at, loaded_node, views_of, no_entries, IsLawful, AreLawful, IsGiven, IsRun}
use Rattle.model_members.specs.World.Event.{InputAt, Delivery, Loss, Removal, Joining, Restart}
use Rattle.model_members.proofs.Cases.{stepped_at, delivered}
use Rattle.theorem_runs.specs.Pruning.{HistoryVariables, variables_of}
use Rattle.theorem_runs.proofs.Keeping.{if_holds}
use Rattle.theorem_runs.proofs.Parts.{all_known, IsUndivided, is_whole}
use Rattle.theorem_runs.proofs.Happening.{NodeAfter, ViewsAfter, Follows, event_follows}
use Rattle.theorem_runs.proofs.Happening.NodeAfter.{Same, Stepped, Started}
use Rattle.theorem_runs.proofs.Happening.ViewsAfter.{SameViews, NextViews}
use Rattle.theorem_runs.proofs.RunViews.{HasViews, same_some, at_most_last}
use Rattle.theorem_runs.proofs.Safety.{IsSafe, runs_are_safe}
use Rattle.theorem_operations.specs.Quorum.{KeepsMembers}
use Rattle.theorem_operations.proofs.Lists.{in_filtered, in_mapped, all_changed}
use Rattle.theorem_operations.proofs.Turns.{MakesStep}
use Rattle.theorem_operations.proofs.Turns.MakesStep.{ByInput, ByDelivery}
use Rattle.theorem_operations.proofs.Operations.{OpenAfter, FinishedAfter, Tells, PostTells, Change, step_tells}
use Rattle.theorem_operations.proofs.Operations.Change.{Unchanged, Pushed, CountedFor, EndedFor, Dropped}
use Rattle.theorem_operations.proofs.Operations.OpenAfter.{Stays, Opened, Answered}
use Rattle.theorem_operations.proofs.Operations.FinishedAfter.{WasFinished, EndedNow}

-- LINKS

-- what holds of all messages, by their link
module _ {Op : Type 0} (Q : ℕ → ℕ → Message Op → Type 0) where
  abbrev pub AllOn : Links Op → Type 0
  AllOn links = (from to index : ℕ) (message : Message Op) → slice_get (links from to).messages index ≡ Some message → Q from to message

  with_link_on : (links : Links Op) (from to : ℕ) (link : Link Op) → AllOn links → ((index : ℕ) (m : Message Op) → slice_get link.messages index ≡ Some m → Q from to m) → AllOn (with_link links from to link)
  with_link_on links from to link all here f t index m e = elim (eqb_tells f from) [
    | inl is ↦ elim (eqb_tells t to) [
      | inl is' ↦ subst (λ g. Q g t m) (sym is.1) (subst (λ u. Q from u m) (sym is'.1) (here index m (sym (ap (λ (l : Link Op). slice_get l.messages index) (row is.1 ∙ ap (λ (r : ℕ → Link Op). r t) (with_at_same links from _) ∙ (ap (with_at (links from) to link) is'.1 ∙ with_at_same (links from) to link))) ∙ e)))
      | inr isnt' ↦ subst (λ g. Q g t m) (sym is.1) (all from t index m (sym (ap (λ (l : Link Op). slice_get l.messages index) (row is.1 ∙ ap (λ (r : ℕ → Link Op). r t) (with_at_same links from _) ∙ with_at_other (links from) to link t isnt'.1)) ∙ e))
    ]
    | inr isnt ↦ all f t index m (sym (ap (λ (r : ℕ → Link Op). slice_get (r t).messages index) (with_at_other links from _ f isnt.1)) ∙ e)
  ]
    where
      row : f ≡ from → with_link links from to link f t ≡ with_link links from to link from t
      row is = ap (λ g. with_link links from to link g t) is

  with_post_on : (from : ℕ) (links : Links Op) (post : Post Op) → AllOn links → Q from post.to post.message → AllOn (with_post from links post)
  with_post_on from links post all q =
      with_link_on links from post.to _ all (λ index m e. elim (slice_get-push (links from post.to).messages post.message m index e) [
        | inl old ↦ all from post.to index m old
        | inr new ↦ subst (Q from post.to) new.1 q
      ])

  with_posts_on : (posts : List (Post Op)) (links : Links Op) (from : ℕ) → AllOn links → AllByRecursion (λ (post : Post Op). Q from post.to post.message) posts → AllOn (with_posts links from posts)
  with_posts_on [] links from all qs = all
  with_posts_on (post ∷ posts) links from all qs = with_posts_on posts (with_post from links post) from (with_post_on from links post all qs.0) qs.1

  moved_on_on : (links : Links Op) (from to index : ℕ) → AllOn links → AllOn (moved_on links from to index)
  moved_on_on links from to index all =
      if_holds AllOn ((links from to).next == index) _ links (with_link_on links from to _ all (λ k m e. all from to k m e)) all

-- AN EVENT

module _ {Kind Op Shown : Type 0} (D : Replication Kind Op Shown) where
  -- a message: it was sent before, or is a post of a step
  pub data MessageFrom (event : Event Op) (world next : World Kind Op Shown) (from to : ℕ) (message : Message Op) : Type 0 where
    OldOne : (index : ℕ) → message_at world from to index ≡ Some message → MessageFrom event world next from to message
    NewOne : (old : Node Kind Op Shown) (input : Input Op) (fate : Fate) → world.nodes from ≡ Some old → MakesStep world event from input fate → IsGiven D world from input → next.nodes from ≡ Some (step D old input fate).node
        → is_member old.view to ≡ true → Tells D old (step D old input fate).node input to message → MessageFrom event world next from to message

  module _ (world : World Kind Op Shown) (i : ℕ) (old : Node Kind Op Shown) (runs : world.nodes i ≡ Some old) (input : Input Op) (fate : Fate) (event : Event Op) (makes : MakesStep world event i input fate) (comes : IsGiven D world i input) (links : Links Op) where
    abbrev after : World Kind Op Shown
    after = stepped_at D (record world { links = links }) i (Some old) input fate

    step_messages : AllOn (MessageFrom event world after) links → AllOn (MessageFrom event world after) after.links
    step_messages sent =
        with_posts_on (MessageFrom event world after) (step D old input fate).output.posts links i sent
        (all_changed (PostTells D old (step D old input fate).node input) (λ (post : Post Op). MessageFrom event world after i post.to post.message)
        (λ post p. NewOne old input fate runs makes comes (with_at_same world.nodes i (Some (step D old input fate).node)) p.member p.tells)
        (step D old input fate).output.posts (step_tells D old input fate).posts)

  old_ones : (event : Event Op) (world next : World Kind Op Shown) → AllOn (MessageFrom event world next) world.links
  old_ones event world next from to index message e = OldOne index e

  -- each lawful event
  pub messages_follow : (world : World Kind Op Shown) (event : Event Op) → IsLawful D world event → AllOn (MessageFrom event world (happens D world event)) (happens D world event).links
  messages_follow world (InputAt i input fate) lawful =
      subst (λ o. AllOn (MessageFrom (InputAt i input fate) world (stepped_at D world i o input fate)) (stepped_at D world i o input fate).links) (sym lawful.1.runs)
      (step_messages world i lawful.1.node lawful.1.runs input fate (InputAt i input fate) (ByInput refl) lawful.0 world.links (old_ones (InputAt i input fate) world _))
  messages_follow world (Delivery from to index fate) lawful =
      let event : Event Op = Delivery from to index fate in
      let moved = record world { links = moved_on world.links from to index } in
      let makes : MakesStep world event to (Take from lawful.0) fate = ByDelivery from index lawful.0 refl lawful.1 refl in
      let comes : IsGiven D world to (Take from lawful.0) = (index, lawful.0, λ key. true, lawful.1, sym (all_known lawful.0)) in
      subst (λ m. AllOn (MessageFrom event world (delivered D world from to index m fate)) (delivered D world from to index m fate).links) (sym lawful.1)
      (subst (λ o. AllOn (MessageFrom event world (stepped_at D moved to o (Take from lawful.0) fate)) (stepped_at D moved to o (Take from lawful.0) fate).links) (sym lawful.2.runs)
      (step_messages world to lawful.2.node lawful.2.runs (Take from lawful.0) fate event makes comes (moved_on world.links from to index)
      (moved_on_on (MessageFrom event world (after world to lawful.2.node lawful.2.runs (Take from lawful.0) fate event makes comes (moved_on world.links from to index))) world.links from to index (old_ones event world _))))
  messages_follow world (Loss from to) lawful = moved_on_on (MessageFrom (Loss from to) world (happens D world (Loss from to))) world.links from to _ (old_ones (Loss from to) world _)
  messages_follow world (Removal i) lawful = old_ones (Removal i) world _
  messages_follow world (Joining place) lawful = old_ones (Joining place) world _
  messages_follow world (Restart i) lawful = old_ones (Restart i) world _

  stepped_view : (world : World Kind Op Shown) (i : ℕ) (o : Option (Node Kind Op Shown)) (input : Input Op) (fate : Fate) → (stepped_at D world i o input fate).view ≡ world.view
  stepped_view world i None input fate = refl
  stepped_view world i (Some node) input fate = refl

  delivered_view : (world : World Kind Op Shown) (from to index : ℕ) (o : Option (Message Op)) (fate : Fate) → (delivered D world from to index o fate).view ≡ world.view
  delivered_view world from to index None fate = refl
  delivered_view world from to index (Some message) fate = stepped_view (record world { links = moved_on world.links from to index }) to (world.nodes to) (Take from message) fate

  -- where nobody leaves or joins, the view stays
  pub view_stays : (world : World Kind Op Shown) (event : Event Op) → KeepsMembers event → (happens D world event).view ≡ world.view
  view_stays world (InputAt i input fate) leaves = stepped_view world i (world.nodes i) input fate
  view_stays world (Delivery from to index fate) leaves = delivered_view world from to index (message_at world from to index) fate
  view_stays world (Loss from to) leaves = refl
  view_stays world (Removal i) leaves = absurd leaves
  view_stays world (Joining place) leaves = absurd leaves
  view_stays world (Restart i) leaves = absurd leaves

  -- a message of an operation that is taken was sent
  pub brought : (world : World Kind Op Shown) (t i : ℕ) (message : Message Op) → IsUndivided message → (input : Input Op) → input ≡ Take i message → IsGiven D world t input → (index : ℕ) × (message_at world i t index ≡ Some message)
  brought world t i message undivided input is comes =
      let given : IsGiven D world t (Take i message) = subst (λ (x : Input Op). IsGiven D world t x) is comes in
      (given.0, given.3 ∙ ap Some (is_whole given.2 given.1 message undivided given.4))

-- NUMBERS OF OPERATIONS

-- a message that asks for answers to an operation, or answers one, has a number below this
abbrev pub AskedBelow : {Op : Type 0} → ℕ → Message Op → Type 0
AskedBelow n (Write op key entry) = op < n
AskedBelow n (Read op key) = op < n
AskedBelow n _ = ⊤

abbrev pub AnsweredBelow : {Op : Type 0} → ℕ → Message Op → Type 0
AnsweredBelow n (WriteAck op) = op < n
AnsweredBelow n (ReadAnswer op key entry) = op < n
AnsweredBelow n _ = ⊤

module _ {Op : Type 0} where
  asked_more : (n m : ℕ) (message : Message Op) → n ≤ m → AskedBelow n message → AskedBelow m message
  asked_more n m (Deltas groups entries) h b = tt
  asked_more n m (Nack keys) h b = tt
  asked_more n m (Status digests) h b = tt
  asked_more n m (Gossip entries wants) h b = tt
  asked_more n m (Write op key entry) h b = let c : op < n = b in let d : op < m = omega arith in d
  asked_more n m (WriteAck op) h b = tt
  asked_more n m (WriteNack op) h b = tt
  asked_more n m (Read op key) h b = let c : op < n = b in let d : op < m = omega arith in d
  asked_more n m (ReadAnswer op key entry) h b = tt

  answered_more : (n m : ℕ) (message : Message Op) → n ≤ m → AnsweredBelow n message → AnsweredBelow m message
  answered_more n m (Deltas groups entries) h b = tt
  answered_more n m (Nack keys) h b = tt
  answered_more n m (Status digests) h b = tt
  answered_more n m (Gossip entries wants) h b = tt
  answered_more n m (Write op key entry) h b = tt
  answered_more n m (WriteAck op) h b = let c : op < n = b in let d : op < m = omega arith in d
  answered_more n m (WriteNack op) h b = tt
  answered_more n m (Read op key) h b = tt
  answered_more n m (ReadAnswer op key entry) h b = let c : op < n = b in let d : op < m = omega arith in d

module _ {Kind Op Shown : Type 0} where
  -- links are between given identities, and each operation number in the world is below its member's next one
  pub record HasNumbers (world : World Kind Op Shown) : Type 0 where
    pub ends : (from to index : ℕ) (message : Message Op) → message_at world from to index ≡ Some message → (from < world.view.given) × (to < world.view.given)
    pub asked : (i t index : ℕ) (message : Message Op) (node : Node Kind Op Shown) → message_at world i t index ≡ Some message → world.nodes i ≡ Some node → AskedBelow node.next_op message
    pub told : (t i index : ℕ) (message : Message Op) (node : Node Kind Op Shown) → message_at world t i index ≡ Some message → world.nodes i ≡ Some node → AnsweredBelow node.next_op message
    pub stood : (i : ℕ) (node : Node Kind Op Shown) (o : OpenOperation) → world.nodes i ≡ Some node → IsIn node.open_operations o → o.op < node.next_op
    pub done : (i : ℕ) (node : Node Kind Op Shown) (f : Finished Shown) → world.nodes i ≡ Some node → IsIn node.finished f → f.op < node.next_op
    pub single : (i : ℕ) (node : Node Kind Op Shown) (o p : OpenOperation) → world.nodes i ≡ Some node → IsIn node.open_operations o → IsIn node.open_operations p → o.op ≡ p.op → o ≡ p

module _ {Kind Op Shown : Type 0} (D : Replication Kind Op Shown) where
  module _ (variables : HistoryVariables Op) (world : World Kind Op Shown) (event : Event Op) (views : HasViews D variables world) (lawful : IsLawful D world event) (numbers : HasNumbers world) where
    abbrev next : World Kind Op Shown
    next = happens D world event

    follows : Follows D world next
    follows = event_follows D world (λ t m. views.views.below world.view.number world.view t views.views.listed m) (views.views.rising world.view.number world.view views.views.listed) event lawful

    more_given : world.view.given ≤ next.view.given
    more_given = go follows.views
      where
        go : ViewsAfter D world next → world.view.given ≤ next.view.given
        go (SameViews e v) = let a : next.view.given ≡ world.view.given = ap (λ (x : View). x.given) v in omega arith
        go (NextViews e n) = n.given

    runs_given : (i : ℕ) (old : Node Kind Op Shown) → world.nodes i ≡ Some old → i < world.view.given
    runs_given i old runs = views.views.below world.view.number world.view i views.views.listed (views.running i old runs).last

    member_given : (i t : ℕ) (old : Node Kind Op Shown) → world.nodes i ≡ Some old → is_member old.view t ≡ true → t < world.view.given
    member_given i t old runs m =
        let well = views.running i old runs in
        let a = views.views.below old.view.number old.view t well.viewed m in
        let b = views.views.given old.view.number world.view.number old.view world.view (at_most_last (views_of world) world.view views.views old.view.number old.view well.viewed) well.viewed views.views.listed in
        omega arith

    -- a running member ran before, with no greater number, or its identity is new
    data Since (t : ℕ) (node : Node Kind Op Shown) : Type 0 where
      Ran : (old : Node Kind Op Shown) → world.nodes t ≡ Some old → old.next_op ≤ node.next_op → Since t node
      Fresh : t ≡ world.view.given → Since t node

    since : (t : ℕ) (node : Node Kind Op Shown) → NodeAfter D world next t node → Since t node
    since t node (Same e stays) = Ran node e (omega arith)
    since t node (Stepped old input fate e comes is same) = Ran old e (let a = (step_tells D old input fate).grows in let b = ap (λ (n : Node Kind Op Shown). n.next_op) is in omega arith)
    since t node (Started store is given member made from) = Fresh is

    asked_since : (i t index : ℕ) (message : Message Op) (node : Node Kind Op Shown) → message_at world i t index ≡ Some message → Since i node → AskedBelow node.next_op message
    asked_since i t index message node sent (Ran old e grows) = asked_more old.next_op node.next_op message grows (numbers.asked i t index message old sent e)
    asked_since i t index message node sent (Fresh is) = absurd (let a = (numbers.ends i t index message sent).0 in omega arith)

    told_since : (t i index : ℕ) (message : Message Op) (node : Node Kind Op Shown) → message_at world t i index ≡ Some message → Since i node → AnsweredBelow node.next_op message
    told_since t i index message node sent (Ran old e grows) = answered_more old.next_op node.next_op message grows (numbers.told t i index message old sent e)
    told_since t i index message node sent (Fresh is) = absurd (let a = (numbers.ends t i index message sent).1 in omega arith)

    asks : (old new : Node Kind Op Shown) (input : Input Op) (to : ℕ) (message : Message Op) → Tells D old new input to message → AskedBelow new.next_op message
    asks old new input to (Deltas groups entries) t = tt
    asks old new input to (Nack keys) t = tt
    asks old new input to (Status digests) t = tt
    asks old new input to (Gossip entries wants) t = tt
    asks old new input to (Write op key entry) t = let a : op ≡ old.next_op = t.0 in let b : old.next_op < new.next_op = t.1 in let c : op < new.next_op = omega arith in c
    asks old new input to (WriteAck op) t = tt
    asks old new input to (WriteNack op) t = tt
    asks old new input to (Read op key) t = let a : op ≡ old.next_op = t.0 in let b : old.next_op < new.next_op = t.1 in let c : op < new.next_op = omega arith in c
    asks old new input to (ReadAnswer op key entry) t = tt

    -- an answer has the number of what it answers
    answers : (t i : ℕ) (old new node : Node Kind Op Shown) (input : Input Op) → IsGiven D world t input → next.nodes i ≡ Some node → (message : Message Op) → Tells D old new input i message → AnsweredBelow node.next_op message
    answers t i old new node input comes runs (Deltas groups entries) tells = tt
    answers t i old new node input comes runs (Nack keys) tells = tt
    answers t i old new node input comes runs (Status digests) tells = tt
    answers t i old new node input comes runs (Gossip entries wants) tells = tt
    answers t i old new node input comes runs (Write op key entry) tells = tt
    answers t i old new node input comes runs (WriteAck op) tells = let b = brought D world t i (Write op tells.0 tells.1) tt input tells.2 comes in asked_since i t b.0 (Write op tells.0 tells.1) node b.1 (since i node (follows.nodes i node runs))
    answers t i old new node input comes runs (WriteNack op) tells = tt
    answers t i old new node input comes runs (Read op key) tells = tt
    answers t i old new node input comes runs (ReadAnswer op key entry) tells = let b = brought D world t i (Read op key) tt input tells.0 comes in asked_since i t b.0 (Read op key) node b.1 (since i node (follows.nodes i node runs))

    stood_after : (t : ℕ) (node : Node Kind Op Shown) (o : OpenOperation) → NodeAfter D world next t node → IsIn node.open_operations o → o.op < node.next_op
    stood_after t node o (Same e stays) h = numbers.stood t node o e h
    stood_after t node o (Stepped old input fate e comes is same) h =
        subst (λ (n : Node Kind Op Shown). o.op < n.next_op) (sym is) (by ((step_tells D old input fate).operations o (subst (λ (n : Node Kind Op Shown). IsIn n.open_operations o) is h)))
      where
        by : OpenAfter old (step D old input fate).node input o → o.op < (step D old input fate).node.next_op
        by (Stays m) = let a = numbers.stood t old o e m in let b = (step_tells D old input fate).grows in omega arith
        by (Opened a b) = omega arith
        by (Answered from p counts f) = let a = numbers.stood t old p e counts.stood in let b = (step_tells D old input fate).grows in let c : p.op ≡ o.op = ap (λ (x : OpenOperation). x.op) f in omega arith
    stood_after t node o (Started store is given member made from) h = absurd (let g = subst (λ (n : Node Kind Op Shown). IsIn n.open_operations o) made h in cc g.1)

    done_after : (t : ℕ) (node : Node Kind Op Shown) (o : Finished Shown) → NodeAfter D world next t node → IsIn node.finished o → o.op < node.next_op
    done_after t node o (Same e stays) h = numbers.done t node o e h
    done_after t node o (Stepped old input fate e comes is same) h =
        subst (λ (n : Node Kind Op Shown). o.op < n.next_op) (sym is) (by ((step_tells D old input fate).finished o (subst (λ (n : Node Kind Op Shown). IsIn n.finished o) is h)))
      where
        by : FinishedAfter D old (step D old input fate).node input o → o.op < (step D old input fate).node.next_op
        by (WasFinished m) = let a = numbers.done t old o e m in let b = (step_tells D old input fate).grows in omega arith
        by (EndedNow end) = let a = numbers.stood t old end.operation e end.counts.stood in let b = (step_tells D old input fate).grows in let c : end.operation.op ≡ o.op = ap (λ (x : Finished Shown). x.op) end.is in omega arith
    done_after t node o (Started store is given member made from) h = absurd (let g = subst (λ (n : Node Kind Op Shown). IsIn n.finished o) made h in cc g.1)

    Single : List OpenOperation → Type 0
    Single os = (o p : OpenOperation) → IsIn os o → IsIn os p → o.op ≡ p.op → o ≡ p

    single_step : (t : ℕ) (old after : Node Kind Op Shown) (input : Input Op) → world.nodes t ≡ Some old → Change D old after input → (o p : OpenOperation) → IsIn after.open_operations o → IsIn after.open_operations p → o.op ≡ p.op → o ≡ p
    single_step t old after input runs (Unchanged a b) o p ho hp same = numbers.single t old o p runs (subst (λ (os : List OpenOperation). IsIn os o) a ho) (subst (λ (os : List OpenOperation). IsIn os p) a hp) same
    single_step t old after input runs (Pushed x is a b) o p ho hp same = by (in_append old.open_operations (x ∷ []) o (subst (λ (os : List OpenOperation). IsIn os o) a ho)) (in_append old.open_operations (x ∷ []) p (subst (λ (os : List OpenOperation). IsIn os p) a hp))
      where
        only : (q : OpenOperation) → IsIn (x ∷ []) q → x ≡ q
        only q (zero, e) = cc e
        only q (suc m, e) = absurd (cc e)

        by : IsIn old.open_operations o ⊎ IsIn (x ∷ []) o → IsIn old.open_operations p ⊎ IsIn (x ∷ []) p → o ≡ p
        by (inl m) (inl m') = numbers.single t old o p runs m m' same
        by (inl m) (inr m') = absurd (let a = numbers.stood t old o runs m in let b : x.op ≡ p.op = ap (λ (y : OpenOperation). y.op) (only p m') in omega arith)
        by (inr m) (inl m') = absurd (let a = numbers.stood t old p runs m' in let b : x.op ≡ o.op = ap (λ (y : OpenOperation). y.op) (only o m) in omega arith)
        by (inr m) (inr m') = sym (only o m) ∙ only p m'
    single_step t old after input runs (CountedFor from x c few a b) o p ho hp same =
        let mo = in_mapped f old.open_operations o (subst (λ (os : List OpenOperation). IsIn os o) a ho) in
        let mp = in_mapped f old.open_operations p (subst (λ (os : List OpenOperation). IsIn os p) a hp) in
        let ops : mo.0.op ≡ mp.0.op = sym (f_op mo.0) ∙ ap (λ (y : OpenOperation). y.op) mo.2 ∙ same ∙ sym (ap (λ (y : OpenOperation). y.op) mp.2) ∙ f_op mp.0 in
        sym mo.2 ∙ ap f (numbers.single t old mo.0 mp.0 runs mo.1 mp.1 ops) ∙ mp.2
      where
        f : OpenOperation → OpenOperation
        f o = if o.op == x.op then with_answer from x else o

        f_op : (y : OpenOperation) → (if y.op == x.op then with_answer from x else y).op ≡ y.op
        f_op y = elim (eqb_tells y.op x.op) [
          | inl is ↦ ap (λ b. (if b then with_answer from x else y).op) is.0 ∙ sym is.1
          | inr isnt ↦ ap (λ b. (if b then with_answer from x else y).op) isnt.0
        ]
    single_step t old after input runs (EndedFor from x end c e a b) o p ho hp same =
        numbers.single t old o p runs (in_filtered _ old.open_operations o (subst (λ (os : List OpenOperation). IsIn os o) a ho)) (in_filtered _ old.open_operations p (subst (λ (os : List OpenOperation). IsIn os p) a hp)) same
    single_step t old after input runs (Dropped op e a b) o p ho hp same =
        numbers.single t old o p runs (in_filtered _ old.open_operations o (subst (λ (os : List OpenOperation). IsIn os o) a ho)) (in_filtered _ old.open_operations p (subst (λ (os : List OpenOperation). IsIn os p) a hp)) same

    single_after : (t : ℕ) (node : Node Kind Op Shown) (o p : OpenOperation) → NodeAfter D world next t node → IsIn node.open_operations o → IsIn node.open_operations p → o.op ≡ p.op → o ≡ p
    single_after t node o p (Same e stays) ho hp same = numbers.single t node o p e ho hp same
    single_after t node o p (Stepped old input fate e comes is views_same) ho hp same =
        single_step t old (step D old input fate).node input e (step_tells D old input fate).change o p (subst (λ (n : Node Kind Op Shown). IsIn n.open_operations o) is ho) (subst (λ (n : Node Kind Op Shown). IsIn n.open_operations p) is hp) same
    single_after t node o p (Started store is given member made from) ho hp same = absurd (let g = subst (λ (n : Node Kind Op Shown). IsIn n.open_operations o) made ho in cc g.1)

    numbers_follow : HasNumbers next
    numbers_follow =
        record {
          single = λ t node o p runs ho hp same. single_after t node o p (follows.nodes t node runs) ho hp same;
          ends = λ from to index message e. ends_after from to message (messages_follow D world event lawful from to index message e);
          asked = λ i t index message node e runs. asked_after i t message node runs (messages_follow D world event lawful i t index message e);
          told = λ t i index message node e runs. told_after t i message node runs (messages_follow D world event lawful t i index message e);
          stood = λ t node o runs h. stood_after t node o (follows.nodes t node runs) h;
          done = λ t node f runs h. done_after t node f (follows.nodes t node runs) h;
        }
      where
        ends_after : (from to : ℕ) (message : Message Op) → MessageFrom D event world next from to message → (from < next.view.given) × (to < next.view.given)
        ends_after from to message (OldOne index e) = let a = numbers.ends from to index message e in let b = more_given in (omega arith, omega arith)
        ends_after from to message (NewOne old input fate runs makes comes new member tells) = let a = runs_given from old runs in let c = member_given from to old runs member in let b = more_given in (omega arith, omega arith)

        asked_after : (i t : ℕ) (message : Message Op) (node : Node Kind Op Shown) → next.nodes i ≡ Some node → MessageFrom D event world next i t message → AskedBelow node.next_op message
        asked_after i t message node runs (OldOne index e) = asked_since i t index message node e (since i node (follows.nodes i node runs))
        asked_after i t message node runs (NewOne old input fate ran makes comes new member tells) =
            subst (λ (n : Node Kind Op Shown). AskedBelow n.next_op message) (same_some (next.nodes i) (step D old input fate).node node new runs) (asks old (step D old input fate).node input t message tells)

        told_after : (t i : ℕ) (message : Message Op) (node : Node Kind Op Shown) → next.nodes i ≡ Some node → MessageFrom D event world next t i message → AnsweredBelow node.next_op message
        told_after t i message node runs (OldOne index e) = told_since t i index message node e (since i node (follows.nodes i node runs))
        told_after t i message node runs (NewOne old input fate ran makes comes new member tells) = answers t i old (step D old input fate).node node input comes runs message tells

  -- THE MOMENTS OF A RUN

  pub pushed_run : (world : World Kind Op Shown) (events : List (Event Op)) (event : Event Op) → run D world (events ++ event ∷ []) ≡ happens D (run D world events) event
  pushed_run world [] event = refl
  pushed_run world (e ∷ events) event = pushed_run (happens D world e) events event

  pub pushed_lawful : (world : World Kind Op Shown) (events : List (Event Op)) (event : Event Op) → AreLawful D world events → IsLawful D (run D world events) event → AreLawful D world (events ++ event ∷ [])
  pushed_lawful world [] event all here = (here, tt)
  pushed_lawful world (e ∷ events) event all here = (all.0, pushed_lawful (happens D world e) events event all.1 here)

  pub run_append : (world : World Kind Op Shown) (first rest : List (Event Op)) → run D world (first ++ rest) ≡ run D (run D world first) rest
  run_append world [] rest = refl
  run_append world (e ∷ first) rest = run_append (happens D world e) first rest

  pub lawful_first : (world : World Kind Op Shown) (first rest : List (Event Op)) → AreLawful D world (first ++ rest) → AreLawful D world first
  lawful_first world [] rest all = tt
  lawful_first world (e ∷ first) rest all = (all.0, lawful_first (happens D world e) first rest all.1)

  pub lawful_rest : (world : World Kind Op Shown) (first rest : List (Event Op)) → AreLawful D world (first ++ rest) → AreLawful D (run D world first) rest
  lawful_rest world [] rest all = all
  lawful_rest world (e ∷ first) rest all = lawful_rest (happens D world e) first rest all.1

  -- a run with one more event
  pub run_pushed : (members : ℕ) (keys : List (KeyDecl Kind)) (events : List (Event Op)) (world : World Kind Op Shown) (event : Event Op) → IsRun D members keys events world → IsLawful D world event → IsRun D members keys (events ++ event ∷ []) (happens D world event)
  run_pushed members keys events world event is_run lawful =
      record {
        some = is_run.some;
        few = is_run.few;
        lawful = pushed_lawful (start members keys) events event is_run.lawful (subst (λ (w : World Kind Op Shown). IsLawful D w event) is_run.leads lawful);
        leads = ap (λ (w : World Kind Op Shown). happens D w event) is_run.leads ∙ sym (pushed_run (start members keys) events event);
      }

  module _ (members : ℕ) (keys : List (KeyDecl Kind)) where
    -- a world that a run comes to, and what is known of it
    pub record Stands (world : World Kind Op Shown) : Type 0 where
      pub events : List (Event Op)
      pub is_run : IsRun D members keys events world
      pub same_keys : world.keys ≡ keys
      pub numbers : HasNumbers world

    pub variables_at : (world : World Kind Op Shown) → Stands world → HistoryVariables Op
    variables_at world stands = variables_of D (start members keys) stands.events

    pub safe_at : (world : World Kind Op Shown) (stands : Stands world) → IsSafe D (variables_at world stands) world
    unfolding variables_at
    safe_at world stands = runs_are_safe D members keys stands.events world stands.is_run

    pub stands_next : (world : World Kind Op Shown) → Stands world → (event : Event Op) → IsLawful D world event → Stands (happens D world event)
    stands_next world stands event lawful =
        record {
          events = stands.events ++ event ∷ [];
          is_run = run_pushed members keys stands.events world event stands.is_run lawful;
          same_keys = (follows (variables_at world stands) world event (safe_at world stands).views lawful stands.numbers).keys ∙ stands.same_keys;
          numbers = numbers_follow (variables_at world stands) world event (safe_at world stands).views lawful stands.numbers;
        }

    pub stands_run : (world : World Kind Op Shown) → Stands world → (events : List (Event Op)) → AreLawful D world events → Stands (run D world events)
    stands_run world stands [] lawful = stands
    stands_run world stands (event ∷ events) lawful = stands_run (happens D world event) (stands_next world stands event lawful.0) events lawful.1

    numbers_at_start : HasNumbers (start {Op = Op} {Shown = Shown} members keys)
    numbers_at_start =
        record {
          ends = λ from to index message e. absurd (no_message index message e);
          asked = λ i t index message node e runs. absurd (no_message index message e);
          told = λ t i index message node e runs. absurd (no_message index message e);
          stood = λ t node o runs h. at_start t (nat_lt t members) node runs o h;
          done = λ t node f runs h. done_start t (nat_lt t members) node runs f h;
          single = λ t node o p runs h g same. single_start t (nat_lt t members) node runs o p h;
        }
      where
        no_message : (index : ℕ) (m : Message Op) → slice_get {X = Message Op} [] index ≡ Some m → ⊥
        no_message index m e = cc e

        at_start : (t : ℕ) (b : Bool) (node : Node Kind Op Shown) → (if b then Some (loaded_node keys t (first_view members) no_entries) else None) ≡ Some node → (o : OpenOperation) → IsIn node.open_operations o → o.op < node.next_op
        at_start t true node e o h = absurd (let same : loaded_node keys t (first_view members) no_entries ≡ node = cc e in let g = subst (λ (n : Node Kind Op Shown). IsIn n.open_operations o) (sym same) h in cc g.1)
        at_start t false node e o h = absurd (cc e)

        done_start : (t : ℕ) (b : Bool) (node : Node Kind Op Shown) → (if b then Some (loaded_node keys t (first_view members) no_entries) else None) ≡ Some node → (f : Finished Shown) → IsIn node.finished f → f.op < node.next_op
        done_start t true node e f h = absurd (let same : loaded_node keys t (first_view members) no_entries ≡ node = cc e in let g = subst (λ (n : Node Kind Op Shown). IsIn n.finished f) (sym same) h in cc g.1)
        done_start t false node e f h = absurd (cc e)

        single_start : (t : ℕ) (b : Bool) (node : Node Kind Op Shown) → (if b then Some (loaded_node keys t (first_view members) no_entries) else None) ≡ Some node → (o p : OpenOperation) → IsIn node.open_operations o → o ≡ p
        single_start t true node e o p h = absurd (let same : loaded_node keys t (first_view members) no_entries ≡ node = cc e in let g = subst (λ (n : Node Kind Op Shown). IsIn n.open_operations o) (sym same) h in cc g.1)
        single_start t false node e o p h = absurd (cc e)

    pub stands_start : 1 ≤ members → members ≤ identity_limit → Stands (start members keys)
    stands_start some few = record { events = []; is_run = record { some = some; few = few; lawful = tt; leads = refl }; same_keys = refl; numbers = numbers_at_start }

    pub follows_at : (world : World Kind Op Shown) → Stands world → (event : Event Op) → IsLawful D world event → Follows D world (happens D world event)
    follows_at world stands event lawful = follows (variables_at world stands) world event (safe_at world stands).views lawful stands.numbers
