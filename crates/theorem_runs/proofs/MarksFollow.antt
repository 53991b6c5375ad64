-- What is known of marks holds after each event.
use Rattle.std.proofs.Common.{◌≡◌, ℕ, ◌<◌, ◌≤◌, List, refl, sym, ap, subst, ◌∙◌, arith, Bool, true, false, Option, Some, None, inl, inr}
use Rattle.std.specs.Prelude.{if◌then◌else◌, ◌==◌, ◌&&◌}
use Rattle.std.proofs.lemmas.Bool.Decides.{eqb_tells}
use Rattle.std.proofs.lemmas.Bool.{and_parts, eqb-true}
use Rattle.model_history.specs.Texts.{Text}
use Rattle.model_history.specs.History.{at, is_pruned}
use Rattle.model_history.proofs.PartLaws.{part-le}
use Rattle.model_history.proofs.PruneLaws.{IsIn}
use Rattle.model_members.specs.View.{View, place_of}
use Rattle.model_members.specs.Entry.{Entry, Mark, empty_entry, seen_by}
use Rattle.model_members.specs.DataType.{Replication}
use Rattle.model_members.specs.Message.{Keyed, Message, entries_in}
use Rattle.model_members.specs.Node.{Node, Input, Fate}
use Rattle.model_members.specs.Node.Input.{Update, Get, Take, Install, Flush, GossipTo, PruneTick, Timeout}
use Rattle.model_members.specs.Step.{step}
use Rattle.model_members.specs.World.{World, message_at, views_of, IsGiven}
use Rattle.theorem_runs.specs.Pruning.{HistoryVariables, Standing, noted, joining, joined_by, first_of, view_number, HasUnprunedMarks}
use Rattle.theorem_runs.proofs.Growth.{step_no_fewer}
use Rattle.theorem_runs.proofs.Parts.{part_entries}
use Rattle.theorem_runs.proofs.Happening.{NodeAfter, MessageAfter, StoredAfter, Follows, of_all, all_of}
use Rattle.theorem_runs.proofs.Happening.NodeAfter.{Same, Stepped, Started}
use Rattle.theorem_runs.proofs.Happening.MessageAfter.{OldMessage, NewMessage}
use Rattle.theorem_runs.proofs.Happening.StoredAfter.{OldStored, NewStored}
use Rattle.theorem_runs.proofs.RunViews.{HasViews, same_some, still_listed, views_follow, later_number}
use Rattle.theorem_runs.proofs.StoredParts.{HasParts, LoadedFrom, loaded_from, given_later, held_grows, ran_before}
use Rattle.theorem_runs.proofs.StoredParts.LoadedFrom.{LoadedEmpty, LoadedStored}
use Rattle.theorem_runs.proofs.KnownMarks.{IsGone, Stands, MarksKnown, StepMarks, from_known, seen_marks, step_marks, BringsMarks, view_rises}

-- the first of two that is there
data FirstOf {X : Type 0} (o p : Option X) (x : X) : Type 0 where
  Earlier : o ≡ Some x → FirstOf o p x
  Later : o ≡ None → p ≡ Some x → FirstOf o p x

first_is : {X : Type 0} (o p : Option X) (x : X) → first_of o p ≡ Some x → FirstOf o p x
first_is None p x e = Later refl e
first_is (Some y) p x e = Earlier e

module _ {Op : Type 0} where
  -- a member that stands in a mark of this view
  pub record StandsNow (entry : Entry Op) (r v t : ℕ) (standing : Standing) : Type 0 where
    pub mark : Mark
    pub is : entry.marks r ≡ Some mark
    pub view : mark.view ≡ v
    pub seen : mark.seen t ≡ true
    pub had : standing.had ≡ at entry.history r
    pub pruned : standing.pruned ≡ is_pruned entry.history r

  pub stands_now : (entry : Entry Op) (r v t : ℕ) (o : Option Mark) (standing : Standing) → entry.marks r ≡ o → joining r v t entry o ≡ Some standing → StandsNow entry r v t standing
  stands_now entry r v t None standing is e = absurd (cc e)
  stands_now entry r v t (Some mark) standing is e = go ((mark.view == v) && mark.seen t) refl e
    where
      go : (b : Bool) → ((mark.view == v) && mark.seen t) ≡ b → (if b then Some (record { had = at entry.history r; pruned = is_pruned entry.history r }) else None) ≡ Some standing → StandsNow entry r v t standing
      go true h f =
          let two = and_parts (mark.view == v) (mark.seen t) h in
          let same : record { had = at entry.history r; pruned = is_pruned entry.history r } ≡ standing = cc f in
          record { mark = mark; is = is; view = eqb-true mark.view v two.0; seen = two.1; had = sym (ap (λ (x : Standing). x.had) same); pruned = sym (ap (λ (x : Standing). x.pruned) same) }
      go false h f = absurd (cc f)

  -- who stands in a mark joins
  joins_now : (entry : Entry Op) (r t : ℕ) (mark : Mark) → entry.marks r ≡ Some mark → mark.seen t ≡ true → joining r mark.view t entry (entry.marks r) ≡ Some (record { had = at entry.history r; pruned = is_pruned entry.history r })
  joins_now entry r t mark is s =
      let here : (mark.view == mark.view) ≡ true = (elim (eqb_tells mark.view mark.view) as (λ x. (mark.view == mark.view) ≡ true) [ inl e ↦ e.0 | inr e ↦ absurd (e.1 refl) ]) in
      ap (joining r mark.view t entry) is
      ∙ ap (λ b. if b && mark.seen t then Some (record { had = at entry.history r; pruned = is_pruned entry.history r }) else None) here
      ∙ ap (λ b. if b then Some (record { had = at entry.history r; pruned = is_pruned entry.history r }) else None) s

-- what is known of a member that has joined
pub record JoinedKnown {Kind Op Shown : Type 0} (views : List View) (variables : HistoryVariables Op) (world : World Kind Op Shown) (key : Text) (r v t : ℕ) (standing : Standing) : Type 0 where
  pub installed : v ≤ variables.installed t
  pub gone : IsGone views v r
  pub given : t < world.view.given
  pub unpruned : standing.pruned ≡ false
  pub kept : (node : Node Kind Op Shown) → world.nodes t ≡ Some node → standing.had ≤ at (node.entries key).history r

pub record HasMarks {Kind Op Shown : Type 0} (variables : HistoryVariables Op) (world : World Kind Op Shown) : Type 0 where
  pub held : (t : ℕ) (node : Node Kind Op Shown) (key : Text) → world.nodes t ≡ Some node → MarksKnown (views_of world) variables key (node.entries key)
  pub sent : (from to index : ℕ) (message : Message Op) → message_at world from to index ≡ Some message → (e : Keyed (Entry Op)) → IsIn (entries_in message) e → MarksKnown (views_of world) variables e.key e.item
  pub stored : (place : ℕ) (key : Text) (entry : Entry Op) → world.stores place key ≡ Some entry → MarksKnown (views_of world) variables key entry
  pub joined : (key : Text) (r v t : ℕ) (standing : Standing) → variables.joined key r v t ≡ Some standing → JoinedKnown (views_of world) variables world key r v t standing

module _ {Kind Op Shown : Type 0} (D : Replication Kind Op Shown) (variables : HistoryVariables Op) (world next : World Kind Op Shown) (has : HasViews D variables world) (follows : Follows D world next) (parts : HasParts D world) where
  abbrev variables' : HistoryVariables Op
  variables' = noted variables next

  abbrev then : HasViews D (noted variables next) next
  then = views_follow D variables world next has follows

  -- THE VARIABLES GROW

  installed_rises : (t : ℕ) → variables.installed t ≤ (noted variables next).installed t
  installed_rises t = go (next.nodes t) refl
    where
      go : (o : Option (Node Kind Op Shown)) → next.nodes t ≡ o → variables.installed t ≤ view_number o (variables.installed t)
      go None e = omega arith
      go (Some new) e = by_node (follows.nodes t new e)
        where
          by_node : NodeAfter D world next t new → variables.installed t ≤ new.view.number
          by_node (Same was stays) = let a = (has.running t new was).installed in omega arith
          by_node (Stepped old input fate was comes is views) =
              let a = (has.running t old was).installed in
              let b = view_rises D old input fate in
              let c : new.view.number ≡ (step D old input fate).node.view.number = ap (λ (n : Node Kind Op Shown). n.view.number) is in omega arith
          by_node (Started store is given member made from) =
              let a = has.installed t in
              let b = later_number D variables world next has follows in
              let c : new.view.number ≡ next.view.number = ap (λ (n : Node Kind Op Shown). n.view.number) made in omega arith

  pub still_joined : (key : Text) (r v t : ℕ) (standing : Standing) → variables.joined key r v t ≡ Some standing → (noted variables next).joined key r v t ≡ Some standing
  still_joined key r v t standing e = ap (λ o. first_of o (joined_by (next.nodes t) key r v t)) e

  pub stands_later : (key : Text) (r v t n : ℕ) → Stands variables key r v t n → Stands variables' key r v t n
  stands_later key r v t n s = record { installed = (let a = s.installed in let b = installed_rises t in omega arith); standing = s.standing; joined = still_joined key r v t s.standing s.joined; kept = s.kept }

  known_later : (views : List View) (key : Text) (entry : Entry Op) → MarksKnown views variables key entry → MarksKnown views variables' key entry
  known_later views key entry known = record { gone = known.gone; seen = λ r t mark e s. stands_later key r mark.view t (at entry.history r) (known.seen r t mark e s) }

  pub gone_later : (v r : ℕ) → IsGone (views_of world) v r → IsGone (views_of next) v r
  gone_later v r g = record { view = g.view; listed = still_listed D variables world next has follows v g.view g.listed; given = g.given; removed = g.removed }

  views_later : (key : Text) (entry : Entry Op) → MarksKnown (views_of world) variables' key entry → MarksKnown (views_of next) variables' key entry
  views_later key entry known = record { gone = λ r mark e. gone_later mark.view r (known.gone r mark e); seen = known.seen }

  -- WHAT A MEMBER HOLDS THEN

  module _ (marks : HasMarks variables world) where
    -- a member that now stands in a mark
    self_stands : (t : ℕ) (new : Node Kind Op Shown) (key : Text) (r : ℕ) (mark : Mark) → next.nodes t ≡ Some new → (new.entries key).marks r ≡ Some mark → mark.seen t ≡ true → mark.view ≤ new.view.number
        → ((standing : Standing) → variables.joined key r mark.view t ≡ Some standing → standing.had ≤ at (new.entries key).history r) → Stands variables' key r mark.view t (at (new.entries key).history r)
    self_stands t new key r mark runs is s late before = go (variables.joined key r mark.view t) refl
      where
        installed : mark.view ≤ (noted variables next).installed t
        installed = let a = (then.running t new runs).installed in omega arith

        go : (o : Option Standing) → variables.joined key r mark.view t ≡ o → Stands variables' key r mark.view t (at (new.entries key).history r)
        go (Some standing) e = record { installed = installed; standing = standing; joined = still_joined key r mark.view t standing e; kept = before standing e }
        go None e =
            record {
              installed = installed;
              standing = record { had = at (new.entries key).history r; pruned = is_pruned (new.entries key).history r };
              joined = ap (λ o. first_of o (joined_by (next.nodes t) key r mark.view t)) e ∙ ap (λ o. joined_by o key r mark.view t) runs ∙ joins_now (new.entries key) r t mark is s;
              kept = omega arith;
            }

    from_step : (t : ℕ) (new : Node Kind Op Shown) (key : Text) → next.nodes t ≡ Some new → ((r v : ℕ) (standing : Standing) → variables.joined key r v t ≡ Some standing → standing.had ≤ at (new.entries key).history r) → StepMarks (views_of world) variables t new.view.number key (new.entries key) → MarksKnown (views_of world) variables' key (new.entries key)
    from_step t new key runs before marks_then =
        record {
          gone = marks_then.gone;
          seen = λ r u mark e s. elim (marks_then.others r u mark e s) [
            | inl stands ↦ stands_later key r mark.view u (at (new.entries key).history r) stands
            | inr self ↦ subst (λ w. Stands variables' key r mark.view w (at (new.entries key).history r)) (sym self.0)
                (self_stands t new key r mark runs e (ap mark.seen (sym self.0) ∙ s) self.1 (before r mark.view))
          ];
        }

    brings_known : (node : Node Kind Op Shown) (fate : Fate) (t : ℕ) (input : Input Op) → IsGiven D world t input → BringsMarks D (views_of world) variables node fate input
    brings_known node fate t (Take from message) comes =
        let Known : Keyed (Entry Op) → Type 0 = λ e. MarksKnown (views_of world) variables e.key e.item in
        part_entries Known comes.2 comes.1 message comes.4 (all_of Known (entries_in comes.1) (λ e h. marks.sent from t comes.0 comes.1 comes.3 e h))
    brings_known node fate t (Update key op level) comes = tt
    brings_known node fate t (Get key level) comes = tt
    brings_known node fate t (Install view) comes = tt
    brings_known node fate t Flush comes = tt
    brings_known node fate t (GossipTo i) comes = tt
    brings_known node fate t PruneTick comes = tt
    brings_known node fate t (Timeout op) comes = tt

    stepped_known : (t : ℕ) (old new : Node Kind Op Shown) (input : Input Op) (fate : Fate) (key : Text) → next.nodes t ≡ Some new → world.nodes t ≡ Some old → IsGiven D world t input → new ≡ (step D old input fate).node → MarksKnown (views_of world) variables' key (new.entries key)
    stepped_known t old new input fate key runs was comes is =
        let well = has.running t old was in
        let after = step_marks D (views_of world) variables old fate input well.viewed (brings_known old fate t input comes) (λ k. marks.held t old k was) key in
        let here : StepMarks (views_of world) variables t new.view.number key (new.entries key) =
        subst (λ (n : Node Kind Op Shown). StepMarks (views_of world) variables t n.view.number key (n.entries key)) (sym is)
        (subst (λ j. StepMarks (views_of world) variables j (step D old input fate).node.view.number key ((step D old input fate).node.entries key)) well.identity after) in
        from_step t new key runs
        (λ r v standing e.
        let a = (marks.joined key r v t standing e).kept old was in
        let b = step_no_fewer D old input fate key r in
        let c : at (new.entries key).history r ≡ at ((step D old input fate).node.entries key).history r = ap (λ (n : Node Kind Op Shown). at (n.entries key).history r) is in omega arith) here

    empty_known : (key : Text) → MarksKnown (views_of world) variables' key empty_entry
    empty_known key = record { gone = λ r mark e. absurd (cc e); seen = λ r t mark e. absurd (cc e) }

    started_known : (t : ℕ) (new : Node Kind Op Shown) (key : Text) → next.nodes t ≡ Some new → t ≡ world.view.given → new.view ≡ next.view → LoadedFrom D world next t key (new.entries key) → MarksKnown (views_of world) variables' key (new.entries key)
    started_known t new key runs is view (LoadedEmpty empty none) = subst (λ (x : Entry Op). MarksKnown (views_of world) variables' key x) (sym empty) (empty_known key)
    started_known t new key runs is view (LoadedStored j node stored was durable place there loaded) =
        let known : MarksKnown (views_of world) variables key stored = marks.stored (place_of world.view j) key stored there in
        let seen : StepMarks (views_of world) variables t next.view.number key (seen_by t next.view.number stored) =
        seen_marks (views_of world) variables t next.view.number key stored next.view.number (omega arith) (from_known (views_of world) variables t next.view.number key stored known) in
        let here : StepMarks (views_of world) variables t new.view.number key (new.entries key) =
        subst (λ (x : Entry Op). StepMarks (views_of world) variables t new.view.number key x) (sym loaded) (subst (λ (v : View). StepMarks (views_of world) variables t v.number key (seen_by t next.view.number stored)) (sym view) seen) in
        from_step t new key runs (λ r v standing e. absurd (let a = (marks.joined key r v t standing e).given in omega arith)) here

    -- over the views from before the event
    pub held_known : (t : ℕ) (new : Node Kind Op Shown) (key : Text) → next.nodes t ≡ Some new → MarksKnown (views_of world) variables' key (new.entries key)
    held_known t new key runs = go (follows.nodes t new runs)
      where
        go : NodeAfter D world next t new → MarksKnown (views_of world) variables' key (new.entries key)
        go (Same was stays) = known_later (views_of world) key (new.entries key) (marks.held t new key was)
        go (Stepped old input fate was comes is views) = stepped_known t old new input fate key runs was comes is
        go (Started store is given member made from) = started_known t new key runs is (ap (λ (n : Node Kind Op Shown). n.view) made) (loaded_from D variables world next has follows t new store given made from key)

    -- WHO HAS JOINED THEN

    module _ (unpruned : (t : ℕ) (new : Node Kind Op Shown) (key : Text) → next.nodes t ≡ Some new → HasUnprunedMarks (new.entries key)) where
      joined_now : (key : Text) (r v t : ℕ) (standing : Standing) (new : Node Kind Op Shown) → next.nodes t ≡ Some new → StandsNow (new.entries key) r v t standing → JoinedKnown (views_of world) variables' next key r v t standing
      joined_now key r v t standing new runs now =
          let known = held_known t new key runs in
          let stands = known.seen r t now.mark now.is now.seen in
          record {
            installed = let a = stands.installed in let b = now.view in omega arith;
            gone = subst (λ w. IsGone (views_of world) w r) now.view (known.gone r now.mark now.is);
            given = then.views.below next.view.number next.view t then.views.listed (then.running t new runs).last;
            unpruned = now.pruned ∙ unpruned t new key runs r now.mark now.is;
            kept = λ node e. let same = same_some _ new node runs e in let a : at (new.entries key).history r ≡ at (node.entries key).history r = ap (λ (n : Node Kind Op Shown). at (n.entries key).history r) same in let b = now.had in omega arith;
          }

      joined_before : (key : Text) (r v t : ℕ) (standing : Standing) → JoinedKnown (views_of world) variables world key r v t standing → JoinedKnown (views_of world) variables' next key r v t standing
      joined_before key r v t standing known =
          record {
            installed = let a = known.installed in let b = installed_rises t in omega arith;
            gone = known.gone;
            given = let a = known.given in let b = given_later D variables world next has follows parts follows.views in omega arith;
            unpruned = known.unpruned;
            kept = λ node e.
                let old = ran_before D variables world next has follows parts t node (follows.nodes t node e) known.given in
                let a = known.kept old.0 old.1 in
                let b = part-le (old.0.entries key).history (node.entries key).history (held_grows D variables world next has follows parts t node (follows.nodes t node e) old.0 old.1 key) r in omega arith;
          }

      by_node : (key : Text) (r v t : ℕ) (standing : Standing) (o : Option (Node Kind Op Shown)) → next.nodes t ≡ o → joined_by o key r v t ≡ Some standing → JoinedKnown (views_of world) variables' next key r v t standing
      by_node key r v t standing None runs e = absurd (cc e)
      by_node key r v t standing (Some new) runs e = joined_now key r v t standing new runs (stands_now (new.entries key) r v t ((new.entries key).marks r) standing refl e)

      -- who has joined did so in a view from before the event
      pub joined_known : (key : Text) (r v t : ℕ) (standing : Standing) → (noted variables next).joined key r v t ≡ Some standing → JoinedKnown (views_of world) variables' next key r v t standing
      joined_known key r v t standing e = go (first_is (variables.joined key r v t) (joined_by (next.nodes t) key r v t) standing e)
        where
          go : FirstOf (variables.joined key r v t) (joined_by (next.nodes t) key r v t) standing → JoinedKnown (views_of world) variables' next key r v t standing
          go (Earlier f) = joined_before key r v t standing (marks.joined key r v t standing f)
          go (Later none f) = by_node key r v t standing (next.nodes t) refl f

      sent_known : (from to : ℕ) (message : Message Op) → MessageAfter D world next from to message → (e : Keyed (Entry Op)) → IsIn (entries_in message) e → MarksKnown (views_of next) variables' e.key e.item
      sent_known from to message (OldMessage index is) e h = views_later e.key e.item (known_later (views_of world) e.key e.item (marks.sent from to index message is e h))
      sent_known from to message (NewMessage new runs is_from) e h =
          let item : e.item ≡ new.entries e.key = of_all (λ (e : Keyed (Entry Op)). e.item ≡ new.entries e.key) (entries_in message) e is_from.entries h in
          subst (λ (x : Entry Op). MarksKnown (views_of next) variables' e.key x) (sym item) (views_later e.key (new.entries e.key) (held_known from new e.key runs))

      stored_known : (place : ℕ) (key : Text) (entry : Entry Op) → StoredAfter D world next place key entry → MarksKnown (views_of next) variables' key entry
      stored_known place key entry (OldStored h) = views_later key entry (known_later (views_of world) key entry (marks.stored place key entry h))
      stored_known place key entry (NewStored i new runs at_place views item) = subst (λ (x : Entry Op). MarksKnown (views_of next) variables' key x) (sym item) (views_later key (new.entries key) (held_known i new key runs))

      pub marks_follow : HasMarks variables' next
      marks_follow =
          record {
            held = λ t node key runs. views_later key (node.entries key) (held_known t node key runs);
            sent = λ from to index message is e h. sent_known from to message (follows.messages from to index message is) e h;
            stored = λ place key entry h. stored_known place key entry (follows.stored place key entry h);
            joined = λ key r v t standing e.
                let j = joined_known key r v t standing e in
                record { installed = j.installed; gone = gone_later v r j.gone; given = j.given; unpruned = j.unpruned; kept = j.kept };
          }
