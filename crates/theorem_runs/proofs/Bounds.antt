-- Once all members of a view have joined, no record of the removed identity comes that none of them had: until then each record is one that a member of the view had when it joined, or has now, or the members never all join.
use Rattle.std.proofs.Common.{◌≡◌, ◌≢◌, ℕ, ◌<◌, ◌≤◌, [], ◌∷◌, ◌++◌, length, refl, sym, ap, subst, ◌∙◌, arith, true, Option, Some, None, inl, inr}
use Rattle.std.specs.Prelude.{slice_get}
use Rattle.std.proofs.lemmas.Bool.{cases_lt}
use Rattle.model_history.proofs.CutLaws.{both_ways}
use Rattle.model_history.specs.Texts.{Text}
use Rattle.model_history.specs.History.{Action, at, versions, with_record}
use Rattle.model_history.proofs.HistoryLaws.{with_at_other, at-union}
use Rattle.model_history.proofs.PartLaws.{part-le}
use Rattle.model_history.proofs.PruneLaws.{IsIn}
use Rattle.model_members.specs.View.{View, is_member}
use Rattle.model_members.specs.Entry.{Entry, Group, with_group}
use Rattle.model_members.specs.DataType.{Replication}
use Rattle.model_members.specs.Message.{Keyed, Message, entries_in, groups_in}
use Rattle.model_members.specs.Node.{Node, Input, Fate}
use Rattle.model_members.specs.Node.Input.{Update, Get, Take, Install, Flush, GossipTo, PruneTick, Timeout}
use Rattle.model_members.specs.Step.{step}
use Rattle.model_members.specs.World.{World, message_at, views_of, IsGiven}
use Rattle.theorem_runs.specs.Pruning.{HistoryVariables, Standing, noted, HasUnprunedMarks}
use Rattle.theorem_runs.proofs.Keeping.{AreKept, AnyTick}
use Rattle.theorem_runs.proofs.Stepping.{Brings, BringsInput, keeps_any}
use Rattle.theorem_runs.proofs.Parts.{brings_part}
use Rattle.theorem_runs.proofs.Happening.{NodeAfter, MessageAfter, Follows, of_all, all_of}
use Rattle.theorem_runs.proofs.Happening.NodeAfter.{Same, Stepped, Started}
use Rattle.theorem_runs.proofs.Happening.MessageAfter.{OldMessage, NewMessage}
use Rattle.theorem_runs.proofs.RunViews.{HasViews, views_follow}
use Rattle.theorem_runs.proofs.StoredParts.{HasParts, LoadedFrom, loaded_from, held_grows, parts_follow}
use Rattle.theorem_runs.proofs.StoredParts.LoadedFrom.{LoadedEmpty, LoadedStored}
use Rattle.theorem_runs.proofs.MarksFollow.{HasMarks, still_joined}
use Rattle.theorem_runs.proofs.Removed.{IsPast, not_later, not_running, IsPastView, past_or_unjoined, IsListed, listed_then, still_gone, joins_no_more, JoinsNow, joins_now_or_not, member_given, is_last}
use Rattle.theorem_runs.proofs.Removed.IsPastView.{LateMember, Unjoined}
use Rattle.theorem_runs.proofs.Removed.IsListed.{WasListed, Newest}
use Rattle.theorem_runs.proofs.Removed.JoinsNow.{NotYet, Joins}

-- the record of r with so many before it is no late one for a view
pub data IsBounded {Kind Op Shown : Type 0} (variables : HistoryVariables Op) (world : World Kind Op Shown) (key : Text) (r : ℕ) (view : View) (k : ℕ) : Type 0 where
  NeverJoins : (t : ℕ) → is_member view t ≡ true → variables.joined key r view.number t ≡ None → world.nodes t ≡ None → IsBounded variables world key r view k
  HadThen : (t : ℕ) (standing : Standing) → is_member view t ≡ true → variables.joined key r view.number t ≡ Some standing → k < standing.had → IsBounded variables world key r view k
  HasNow : (t : ℕ) (node : Node Kind Op Shown) → is_member view t ≡ true → variables.joined key r view.number t ≡ None → world.nodes t ≡ Some node → k < at (node.entries key).history r → IsBounded variables world key r view k

-- of all entries that running members hold, and of those in messages of members of the view or a later one
pub record HasBounds {Kind Op Shown : Type 0} (variables : HistoryVariables Op) (world : World Kind Op Shown) : Type 0 where
  pub held : (key : Text) (r k t : ℕ) (view : View) (node : Node Kind Op Shown) → IsPast (views_of world) view r → world.nodes t ≡ Some node → k < at (node.entries key).history r → IsBounded variables world key r view k
  pub sent : (r k from to index : ℕ) (view w : View) (message : Message Op) (e : Keyed (Entry Op)) → IsPast (views_of world) view r → slice_get (views_of world) w.number ≡ Some w → view.number ≤ w.number → is_member w from ≡ true
      → message_at world from to index ≡ Some message → IsIn (entries_in message) e → k < at e.item.history r → IsBounded variables world e.key r view k

-- A STEP OF A MEMBER THAT IS PAST THE VIEW

module _ {Op : Type 0} (B : Text → ℕ → Type 0) (r : ℕ) where
  -- each record of r in the entry has B
  pub record AreWithin (key : Text) (entry : Entry Op) : Type 0 where
    pub within : (k : ℕ) → k < at entry.history r → B key k

  abbrev IsForeign : Text → Group Op → Type 0
  IsForeign key group = r ≢ group.origin

  more_of_others : (key : Text) (entry : Entry Op) (i : ℕ) (action : Action Op) → r ≢ i → AreWithin key entry → (k : ℕ) → k < at (with_record entry.history i (record { action = action; past = versions entry.history })) r → B key k
  more_of_others key entry i action other p k h = p.within k (let e = ap length (with_at_other entry.history i (entry.history i ++ record { action = action; past = versions entry.history } ∷ []) r other) in omega arith)

  within_kept : (i : ℕ) (view : View) → r ≢ i → AreKept AreWithin AreWithin IsForeign AnyTick i view
  within_kept i view other =
      record {
        added = λ key entry op p. record { within = more_of_others key entry i (Action.Operation op) other p };
        took = λ key mine theirs p m. record {
          within = λ k h. elim (cases_lt k (at mine.history r)) [
            | inl below ↦ p.within k below
            | inr above ↦ m.within k (let e = at-union mine.history theirs.history r in omega arith)
          ];
        };
        grouped = λ key entry group judgement p foreign. record { within = λ k h. p.within k (let e : at (with_group entry group).history r ≡ at entry.history r = ap length (with_at_other entry.history group.origin _ r foreign) in omega arith) };
        marks = λ key entry shares q ticks due p. record { within = p.within };
        prunes = λ key entry shares q ticks due seen p. record { within = more_of_others key entry i (Action.Prune q) other (record { within = p.within }) };
      }

-- AN EVENT

module _ {Kind Op Shown : Type 0} (D : Replication Kind Op Shown) (variables : HistoryVariables Op) (world next : World Kind Op Shown) (has : HasViews D variables world) (follows : Follows D world next) (parts : HasParts D world) (marks : HasMarks variables world)
    (unpruned : (t : ℕ) (new : Node Kind Op Shown) (key : Text) → next.nodes t ≡ Some new → HasUnprunedMarks (new.entries key)) where
  abbrev variables' : HistoryVariables Op
  variables' = noted variables next

  abbrev then : HasViews D (noted variables next) next
  then = views_follow D variables world next has follows

  -- an unjoined member that runs then
  unjoined_then : (key : Text) (r k t : ℕ) (view : View) (new : Node Kind Op Shown) → is_member view t ≡ true → variables.joined key r view.number t ≡ None → next.nodes t ≡ Some new → k < at (new.entries key).history r → IsBounded variables' next key r view k
  unjoined_then key r k t view new member e runs h = go (joins_now_or_not D variables world next has follows parts marks unpruned key r view.number t new e runs)
    where
      go : JoinsNow D variables world next has follows parts marks unpruned key r view.number t new → IsBounded variables' next key r view k
      go (NotYet none) = HasNow t new member none runs h
      go (Joins standing joined now) = HadThen t standing member joined (let a = now.had in omega arith)

  -- what was no late record isn't one then
  still_bounded : (key : Text) (r k : ℕ) (view : View) → slice_get (views_of world) view.number ≡ Some view → IsBounded variables world key r view k → IsBounded variables' next key r view k
  still_bounded key r k view listed (NeverJoins t member e none) =
      let gone = still_gone D variables world next has follows parts marks unpruned t (member_given D variables world next has follows parts marks unpruned view listed t member) none in
      NeverJoins t member (joins_no_more D variables world next has follows parts marks unpruned key r view.number t e gone) gone
  still_bounded key r k view listed (HadThen t standing member e h) = HadThen t standing member (still_joined D variables world next has follows parts key r view.number t standing e) h
  still_bounded key r k view listed (HasNow t node member e runs h) = go (next.nodes t) refl
    where
      go : (o : Option (Node Kind Op Shown)) → next.nodes t ≡ o → IsBounded variables' next key r view k
      go None gone = NeverJoins t member (joins_no_more D variables world next has follows parts marks unpruned key r view.number t e gone) gone
      go (Some new) then_runs =
          unjoined_then key r k t view new member e then_runs
          (let a = part-le (node.entries key).history (new.entries key).history (held_grows D variables world next has follows parts t new (follows.nodes t new then_runs) node runs key) r in omega arith)

  module _ (bounds : HasBounds variables world) where
    -- what an input brings to a member past the view
    module _ (view : View) (r : ℕ) (past : IsPast (views_of world) view r) (t : ℕ) (old : Node Kind Op Shown) (was : world.nodes t ≡ Some old) (late : view.number ≤ old.view.number) (fate : Fate) where
      abbrev B : Text → ℕ → Type 0
      B key k = IsBounded variables world key r view k

      message_within : (from index : ℕ) (message : Message Op) → message_at world from t index ≡ Some message → is_member old.view from ≡ true → Brings (AreWithin B r) (IsForeign B r) message
      message_within from index message sent member =
          record {
            entries = all_of (λ (e : Keyed (Entry Op)). AreWithin B r e.key e.item) (entries_in message)
                (λ e h. record { within = λ k below. bounds.sent r k from t index view old.view message e past (has.running t old was).viewed late member sent h below });
            groups = all_of (λ (g : Keyed (Group Op)). r ≢ g.item.origin) (groups_in message)
                (λ g h is. both_ways (is_member old.view r) (ap (is_member old.view) (is ∙ (parts.groups from t index message sent g h).0) ∙ member) (not_later D variables world has view r past old.view (has.running t old was).viewed late));
          }

      brings : (input : Input Op) → IsGiven D world t input → BringsInput D (AreWithin B r) (AreWithin B r) (IsForeign B r) AnyTick old input
      brings (Take from message) comes = λ member. brings_part (AreWithin B r) (IsForeign B r) comes.2 comes.1 message comes.4 (message_within from comes.0 comes.1 comes.3 member)
      brings (Update key op level) comes = tt
      brings (Get key level) comes = tt
      brings (Install v) comes = λ later key entry p. record { within = p.within }
      brings Flush comes = tt
      brings (GossipTo i) comes = tt
      brings PruneTick comes = λ key q. tt
      brings (Timeout op) comes = tt

      late_step : (input : Input Op) → IsGiven D world t input → (key : Text) → AreWithin B r key ((step D old input fate).node.entries key)
      late_step input comes key =
          keeps_any D (AreWithin B r) (AreWithin B r) (IsForeign B r) AnyTick old (within_kept B r old.identity old.view other) input fate (brings input comes)
          (λ k. record { within = λ n below. bounds.held k r n t view old past was below }) key
        where
          other : r ≢ old.identity
          other is = not_running D variables world has view r past t old was (sym (is ∙ (has.running t old was).identity))

    -- WHAT A MEMBER HOLDS THEN

    stepped_bound : (key : Text) (r k t : ℕ) (view : View) (old new : Node Kind Op Shown) (input : Input Op) (fate : Fate) → IsPast (views_of world) view r → world.nodes t ≡ Some old → next.nodes t ≡ Some new → IsGiven D world t input → new ≡ (step D old input fate).node
        → k < at (new.entries key).history r → IsPastView variables key r view t old.view.number → IsBounded variables' next key r view k
    stepped_bound key r k t view old new input fate past was runs comes is h (LateMember late) =
        still_bounded key r k view past.listed ((late_step view r past t old was late fate input comes key).within k (subst (λ (n : Node Kind Op Shown). k < at (n.entries key).history r) is h))
    stepped_bound key r k t view old new input fate past was runs comes is h (Unjoined member e) = unjoined_then key r k t view new member e runs h

    started_bound : (key : Text) (r k t : ℕ) (view : View) (new : Node Kind Op Shown) → IsPast (views_of world) view r → k < at (new.entries key).history r → LoadedFrom D world next t key (new.entries key) → IsBounded variables' next key r view k
    started_bound key r k t view new past h (LoadedEmpty empty none) = absurd (let a : at (new.entries key).history r ≡ 0 = ap (λ (e : Entry Op). at e.history r) empty in omega arith)
    started_bound key r k t view new past h (LoadedStored j node stored was durable place there loaded) =
        let part = part-le stored.history (node.entries key).history (parts.stored j node was key stored there durable) r in
        let a : at (new.entries key).history r ≡ at stored.history r = ap (λ (e : Entry Op). at e.history r) loaded in
        still_bounded key r k view past.listed (bounds.held key r k j view node past was (omega arith))

    was_past : (view : View) (r : ℕ) → IsPast (views_of next) view r → slice_get (views_of world) view.number ≡ Some view → IsPast (views_of world) view r
    was_past view r past listed = record { listed = listed; given = past.given; removed = past.removed }

    held_bound : (key : Text) (r k t : ℕ) (view : View) (new : Node Kind Op Shown) → IsPast (views_of next) view r → next.nodes t ≡ Some new → k < at (new.entries key).history r → IsBounded variables' next key r view k
    held_bound key r k t view new past runs h = by_view (listed_then D variables world next has follows parts marks unpruned view past.listed)
      where
        by_node : IsPast (views_of world) view r → NodeAfter D world next t new → IsBounded variables' next key r view k
        by_node before (Same was stays) = still_bounded key r k view before.listed (bounds.held key r k t view new before was h)
        by_node before (Stepped old input fate was comes is views) = stepped_bound key r k t view old new input fate before was runs comes is h (past_or_unjoined D variables world has marks key r view before.listed t old was)
        by_node before (Started store is given member made from) = started_bound key r k t view new before h (loaded_from D variables world next has follows t new store given made from key)

        by_view : IsListed D variables world next has follows parts marks unpruned view → IsBounded variables' next key r view k
        by_view (WasListed listed) = by_node (was_past view r past listed) (follows.nodes t new runs)
        by_view (Newest is nobody) = HasNow t new (ap (λ (v : View). is_member v t) is ∙ (then.running t new runs).last) (nobody key r t) runs h

    -- WHAT IS SENT THEN

    -- what a running member has sent it still holds
    by_sender : (r k from to index : ℕ) (view : View) (message : Message Op) (e : Keyed (Entry Op)) → IsPast (views_of next) view r → is_member next.view from ≡ true → message_at next from to index ≡ Some message → IsIn (entries_in message) e → k < at e.item.history r → IsBounded variables' next e.key r view k
    by_sender r k from to index view message e past member sent h below =
        let runs = then.all_run.runs from member in
        let part = part-le e.item.history (runs.0.entries e.key).history ((parts_follow D variables world next has follows parts).sent from to index message runs.0 runs.1 sent e h) r in
        held_bound e.key r k from view runs.0 past runs.1 (omega arith)

    sent_bound : (r k from to index : ℕ) (view w : View) (message : Message Op) (e : Keyed (Entry Op)) → IsPast (views_of next) view r → slice_get (views_of next) w.number ≡ Some w → view.number ≤ w.number → is_member w from ≡ true
        → message_at next from to index ≡ Some message → IsIn (entries_in message) e → k < at e.item.history r → IsBounded variables' next e.key r view k
    sent_bound r k from to index view w message e past listed late member sent h below =
        by_views (listed_then D variables world next has follows parts marks unpruned view past.listed) (listed_then D variables world next has follows parts marks unpruned w listed)
      where
        by_message : slice_get (views_of world) view.number ≡ Some view → slice_get (views_of world) w.number ≡ Some w → MessageAfter D world next from to message → IsBounded variables' next e.key r view k
        by_message l m (OldMessage index' is) = still_bounded e.key r k view l (bounds.sent r k from to index' view w message e (was_past view r past l) m late member is h below)
        by_message l m (NewMessage new runs is_from) =
            let item : e.item ≡ new.entries e.key = of_all (λ (x : Keyed (Entry Op)). x.item ≡ new.entries x.key) (entries_in message) e is_from.entries h in
            held_bound e.key r k from view new past runs (subst (λ (x : Entry Op). k < at x.history r) item below)

        by_views : IsListed D variables world next has follows parts marks unpruned view → IsListed D variables world next has follows parts marks unpruned w → IsBounded variables' next e.key r view k
        by_views (WasListed l) (WasListed m) = by_message l m (follows.messages from to index message sent)
        by_views (WasListed l) (Newest is nobody) = by_sender r k from to index view message e past (ap (λ (v : View). is_member v from) (sym is) ∙ member) sent h below
        by_views (Newest is nobody) any =
            let last = is_last D variables world next has follows parts marks unpruned w listed (let a : view.number ≡ next.view.number = ap (λ (v : View). v.number) is in omega arith) in
            by_sender r k from to index view message e past (ap (λ (v : View). is_member v from) (sym last) ∙ member) sent h below

    pub bounds_follow : HasBounds variables' next
    bounds_follow = record { held = held_bound; sent = sent_bound }
