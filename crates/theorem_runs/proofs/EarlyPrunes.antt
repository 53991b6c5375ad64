-- Once all members of a view have joined, no prune of the removed identity comes that was performed in an earlier view: until then, where one is held, some member of the view holds a prune and so never joins.
use Rattle.std.proofs.Common.{◌≡◌, ℕ, ◌<◌, ◌≤◌, length, refl, sym, ap, subst, ◌∙◌, arith, true, false, Option, Some, None, ◌⊎◌, inl, inr}
use Rattle.std.specs.Prelude.{slice_get}
use Rattle.std.specs.List.{list_any}
use Rattle.model_history.specs.Texts.{Text}
use Rattle.model_history.specs.Log.{IsTakenFrom}
use Rattle.model_history.specs.History.{Action, Record, History, at, versions, union, with_record, is_pruned, no_records, HasRecord, IsPartOf}
use Rattle.model_history.specs.History.Action.{Operation, Prune}
use Rattle.model_history.proofs.HistoryLaws.{has_with_record, slice_get-below}
use Rattle.model_history.proofs.PastLaws.{identity_of_record}
use Rattle.model_history.proofs.PartLaws.{in_whole, part-le, part_with_record}
use Rattle.model_history.proofs.PruneLaws.{IsIn, has_pruned, pruned_has, at_identities}
use Rattle.model_members.specs.View.{View, is_member}
use Rattle.model_members.specs.Entry.{Entry, Group, is_prune, with_group}
use Rattle.model_members.specs.DataType.{Replication}
use Rattle.model_members.specs.Message.{Keyed, Message, entries_in, groups_in}
use Rattle.model_members.specs.Node.{Node, Input, Fate}
use Rattle.model_members.specs.Node.Input.{Update, Get, Take, Install, Flush, GossipTo, PruneTick, Timeout}
use Rattle.model_members.specs.Step.{step}
use Rattle.model_members.specs.World.{World, message_at, views_of, IsGiven}
use Rattle.theorem_runs.specs.Logs.{HasLogs}
use Rattle.theorem_runs.specs.Pruning.{HistoryVariables, noted, HasUnprunedMarks}
use Rattle.theorem_runs.proofs.Keeping.{AreKept, AnyTick}
use Rattle.theorem_runs.proofs.Stepping.{Brings, BringsInput, keeps_any}
use Rattle.theorem_runs.proofs.Parts.{brings_part}
use Rattle.theorem_runs.proofs.UnprunedMarks.{plain}
use Rattle.theorem_runs.proofs.Growth.{part_of_union, part_with_group, has_union, has_with_group}
use Rattle.theorem_runs.proofs.Happening.{NodeAfter, MessageAfter, Follows, of_all, all_of}
use Rattle.theorem_runs.proofs.Happening.NodeAfter.{Same, Stepped, Started}
use Rattle.theorem_runs.proofs.Happening.MessageAfter.{OldMessage, NewMessage}
use Rattle.theorem_runs.proofs.RunViews.{HasViews, views_follow}
use Rattle.theorem_runs.proofs.StoredParts.{HasParts, LoadedFrom, loaded_from, held_grows, parts_follow}
use Rattle.theorem_runs.proofs.StoredParts.LoadedFrom.{LoadedEmpty, LoadedStored}
use Rattle.theorem_runs.proofs.KnownMarks.{view_rises}
use Rattle.theorem_runs.proofs.MarksFollow.{HasMarks}
use Rattle.theorem_runs.proofs.PrunesFollow.{made_before, made_now}
use Rattle.theorem_runs.proofs.Removed.{IsPastView, past_or_unjoined, IsListed, listed_then, still_gone, joins_no_more, JoinsNow, joins_now_or_not, member_given, is_last}
use Rattle.theorem_runs.proofs.Removed.IsPastView.{LateMember, Unjoined}
use Rattle.theorem_runs.proofs.Removed.IsListed.{WasListed, Newest}
use Rattle.theorem_runs.proofs.Removed.JoinsNow.{NotYet, Joins}

-- a prune of r that was performed in a view below this one
pub record HasEarlyPrune {Op : Type 0} (variables : HistoryVariables Op) (key : Text) (r v : ℕ) (H : History Op) : Type 0 where
  pub owner : ℕ
  pub before : ℕ
  pub prune : Record Op
  pub has : HasRecord H owner before prune
  pub prunes : prune.action ≡ Prune r
  pub early : variables.made_in key owner before < v

-- some member of the view never joins: it is gone, or its history has a prune of r
pub data IsBarred {Kind Op Shown : Type 0} (variables : HistoryVariables Op) (world : World Kind Op Shown) (key : Text) (r : ℕ) (view : View) : Type 0 where
  LeftUnjoined : (t : ℕ) → is_member view t ≡ true → variables.joined key r view.number t ≡ None → world.nodes t ≡ None → IsBarred variables world key r view
  IsPruned : (t : ℕ) (node : Node Kind Op Shown) → is_member view t ≡ true → variables.joined key r view.number t ≡ None → world.nodes t ≡ Some node → is_pruned (node.entries key).history r ≡ true → IsBarred variables world key r view

pub record HasBars {Kind Op Shown : Type 0} (variables : HistoryVariables Op) (world : World Kind Op Shown) : Type 0 where
  pub held : (key : Text) (r t : ℕ) (view : View) (node : Node Kind Op Shown) → slice_get (views_of world) view.number ≡ Some view → world.nodes t ≡ Some node → HasEarlyPrune variables key r view.number (node.entries key).history → IsBarred variables world key r view
  pub sent : (r from to index : ℕ) (view w : View) (message : Message Op) (e : Keyed (Entry Op)) → slice_get (views_of world) view.number ≡ Some view → slice_get (views_of world) w.number ≡ Some w → view.number ≤ w.number → is_member w from ≡ true
      → message_at world from to index ≡ Some message → IsIn (entries_in message) e → HasEarlyPrune variables e.key r view.number e.item.history → IsBarred variables world e.key r view

module _ {Op : Type 0} (variables : HistoryVariables Op) (key : Text) (r v : ℕ) where
  early_part : (H J : History Op) → IsPartOf H J → HasEarlyPrune variables key r v H → HasEarlyPrune variables key r v J
  early_part H J part e = record { owner = e.owner; before = e.before; prune = e.prune; has = in_whole H J part e.owner e.before e.prune e.has; prunes = e.prunes; early = e.early }

  early_union : (H J : History Op) → HasEarlyPrune variables key r v (union H J) → HasEarlyPrune variables key r v H ⊎ HasEarlyPrune variables key r v J
  early_union H J e = elim (has_union H J e.owner e.before e.prune e.has) [
    | inl mine ↦ inl (record { owner = e.owner; before = e.before; prune = e.prune; has = mine; prunes = e.prunes; early = e.early })
    | inr theirs ↦ inr (record { owner = e.owner; before = e.before; prune = e.prune; has = theirs; prunes = e.prunes; early = e.early })
  ]

-- A STEP OF A MEMBER PAST THE VIEW

module _ {Op : Type 0} (variables : HistoryVariables Op) (B : Text → Type 0) (r v i : ℕ) (base : Text → ℕ) (now : (key : Text) (k : ℕ) → base key ≤ k → v ≤ variables.made_in key i k) where
  -- where the entry has an early prune, B holds
  pub record AreBarred (key : Text) (entry : Entry Op) : Type 0 where
    pub bars : HasEarlyPrune variables key r v entry.history → B key

  pub record AreBarredNow (key : Text) (entry : Entry Op) : Type 0 where
    pub bars : HasEarlyPrune variables key r v entry.history → B key
    pub grown : base key ≤ at entry.history i

  abbrev IsPlain : Text → Group Op → Type 0
  IsPlain key group = list_any (λ (x : Record Op). is_prune x.action) group.group_records ≡ false

  -- a new record is no early prune
  more : (key : Text) (entry : Entry Op) (action : Action Op) → AreBarredNow key entry → HasEarlyPrune variables key r v (with_record entry.history i (record { action = action; past = versions entry.history })) → B key
  more key entry action p e = elim (has_with_record entry.history i (record { action = action; past = versions entry.history }) e.owner e.before e.prune e.has) [
    | inl old ↦ p.bars (record { owner = e.owner; before = e.before; prune = e.prune; has = old; prunes = e.prunes; early = e.early })
    | inr new ↦ absurd (
        let a = p.grown in
        let b = now key e.before (omega (arith, new.1)) in
        let c : variables.made_in key e.owner e.before ≡ variables.made_in key i e.before = ap (λ j. variables.made_in key j e.before) new.0 in
        let d = e.early in omega arith)
  ]

  no_fewer_with_record : (H : History Op) (x : Record Op) → at H i ≤ at (with_record H i x) i
  no_fewer_with_record H x = part-le H (with_record H i x) (part_with_record H i x) i

  bars_kept : (view : View) → AreKept AreBarredNow AreBarred IsPlain AnyTick i view
  bars_kept view =
      record {
        added = λ key entry op p. record { bars = more key entry (Operation op) p; grown = (let a = p.grown in let b = no_fewer_with_record entry.history (record { action = Operation op; past = versions entry.history }) in omega arith) };
        took = λ key mine theirs p m. record {
          bars = λ e. elim (early_union variables key r v mine.history theirs.history e) [ inl old ↦ p.bars old | inr new ↦ m.bars new ];
          grown = let a = p.grown in let b = part-le mine.history (union mine.history theirs.history) (part_of_union mine.history theirs.history) i in omega arith;
        };
        grouped = λ key entry group judgement p no_prunes. record {
          bars = λ e. elim (has_with_group entry group e.owner e.before e.prune e.has) [
            | inl old ↦ p.bars (record { owner = e.owner; before = e.before; prune = e.prune; has = old; prunes = e.prunes; early = e.early })
            | inr fresh ↦ absurd (plain group.group_records e.prune r no_prunes fresh e.prunes)
          ];
          grown = let a = p.grown in let b = part-le entry.history (with_group entry group).history (part_with_group entry group) i in omega arith;
        };
        marks = λ key entry shares q ticks due p. record { bars = p.bars; grown = p.grown };
        prunes = λ key entry shares q ticks due seen p. record {
          bars = more key entry (Prune q) p;
          grown = let a = p.grown in let b = no_fewer_with_record entry.history (record { action = Prune q; past = versions entry.history }) in omega arith;
        };
      }

-- AN EVENT

module _ {Kind Op Shown : Type 0} (D : Replication Kind Op Shown) (variables : HistoryVariables Op) (world next : World Kind Op Shown) (has : HasViews D variables world) (follows : Follows D world next) (parts : HasParts D world) (marks : HasMarks variables world) (logs : HasLogs variables.made world)
    (unpruned : (t : ℕ) (new : Node Kind Op Shown) (key : Text) → next.nodes t ≡ Some new → HasUnprunedMarks (new.entries key)) (logs_then : HasLogs (noted variables next).made next) where
  abbrev variables' : HistoryVariables Op
  variables' = noted variables next

  abbrev then : HasViews D (noted variables next) next
  then = views_follow D variables world next has follows

  -- a member with a prune hasn't joined
  unjoined_then : (key : Text) (r t : ℕ) (view : View) (new : Node Kind Op Shown) → is_member view t ≡ true → variables.joined key r view.number t ≡ None → next.nodes t ≡ Some new → is_pruned (new.entries key).history r ≡ true → IsBarred variables' next key r view
  unjoined_then key r t view new member e runs pruned = go (joins_now_or_not D variables world next has follows parts marks unpruned key r view.number t new e runs)
    where
      go : JoinsNow D variables world next has follows parts marks unpruned key r view.number t new → IsBarred variables' next key r view
      go (NotYet none) = IsPruned t new member none runs pruned
      go (Joins standing joined now) = absurd (let f = sym pruned ∙ unpruned t new key runs r now.mark now.is in cc f)

  -- a history with a prune is pruned, also when it has grown
  pruned_by : (key : Text) (r t : ℕ) (new : Node Kind Op Shown) → next.nodes t ≡ Some new → (o k : ℕ) (x : Record Op) → HasRecord (new.entries key).history o k x → x.action ≡ Prune r → is_pruned (new.entries key).history r ≡ true
  pruned_by key r t new runs o k x h e =
      let whole = in_whole (new.entries key).history ((noted variables next).made key) (logs_then.held t new key runs).part o k x h in
      has_pruned (new.entries key).history r o k x (at_identities o (identity_of_record ((noted variables next).made key) (logs_then.histories key) o k x whole)) h e

  still_pruned : (key : Text) (r t : ℕ) (old new : Node Kind Op Shown) → world.nodes t ≡ Some old → next.nodes t ≡ Some new → is_pruned (old.entries key).history r ≡ true → is_pruned (new.entries key).history r ≡ true
  still_pruned key r t old new was runs pruned =
      let p = pruned_has (old.entries key).history r pruned in
      pruned_by key r t new runs p.0 p.1 p.2 (in_whole (old.entries key).history (new.entries key).history (held_grows D variables world next has follows parts t new (follows.nodes t new runs) old was key) p.0 p.1 p.2 p.4) p.5

  still_barred : (key : Text) (r : ℕ) (view : View) → slice_get (views_of world) view.number ≡ Some view → IsBarred variables world key r view → IsBarred variables' next key r view
  still_barred key r view listed (LeftUnjoined t member e none) =
      let gone = still_gone D variables world next has follows parts marks unpruned t (member_given D variables world next has follows parts marks unpruned view listed t member) none in
      LeftUnjoined t member (joins_no_more D variables world next has follows parts marks unpruned key r view.number t e gone) gone
  still_barred key r view listed (IsPruned t node member e runs pruned) = go (next.nodes t) refl
    where
      go : (o : Option (Node Kind Op Shown)) → next.nodes t ≡ o → IsBarred variables' next key r view
      go None gone = LeftUnjoined t member (joins_no_more D variables world next has follows parts marks unpruned key r view.number t e gone) gone
      go (Some new) then_runs = unjoined_then key r t view new member e then_runs (still_pruned key r t node new runs then_runs pruned)

  -- a prune of a history of the logs from before was early before
  was_early : (key : Text) (r v : ℕ) (H : History Op) → IsTakenFrom (variables.made key) H → HasEarlyPrune variables' key r v H → HasEarlyPrune variables key r v H
  was_early key r v H taken e =
      let whole = in_whole H (variables.made key) taken.part e.owner e.before e.prune e.has in
      let a = made_before D variables world next has follows parts marks logs key e.owner e.before (slice_get-below (variables.made key e.owner) e.prune e.before whole) in
      record { owner = e.owner; before = e.before; prune = e.prune; has = e.has; prunes = e.prunes; early = (let b = e.early in omega arith) }

  module _ (bars : HasBars variables world) where
    module _ (view : View) (r : ℕ) (listed : slice_get (views_of world) view.number ≡ Some view) (t : ℕ) (old new : Node Kind Op Shown) (was : world.nodes t ≡ Some old) (runs : next.nodes t ≡ Some new) (late : view.number ≤ old.view.number) (input : Input Op) (fate : Fate) (is : new ≡ (step D old input fate).node) where
      abbrev B : Text → Type 0
      B key = IsBarred variables world key r view

      abbrev base : Text → ℕ
      base key = at (variables.made key) t

      -- what is made now is made in a view at or past it
      now : (key : Text) (k : ℕ) → base key ≤ k → view.number ≤ (noted variables next).made_in key t k
      now key k h =
          let a = made_now D variables world next has follows parts marks logs key t k new runs h in
          let b = view_rises D old input fate in
          let c : new.view.number ≡ (step D old input fate).node.view.number = ap (λ (n : Node Kind Op Shown). n.view.number) is in omega arith

      message_barred : (from index : ℕ) (message : Message Op) → message_at world from t index ≡ Some message → is_member old.view from ≡ true → Brings (AreBarred variables' B r view.number t base now) (IsPlain variables' B r view.number t base now) message
      message_barred from index message sent member =
          record {
            entries = all_of (λ (e : Keyed (Entry Op)). AreBarred variables' B r view.number t base now e.key e.item) (entries_in message)
                (λ e h. record {
                  bars = λ early. bars.sent r from t index view old.view message e listed (has.running t old was).viewed late member sent h
                      (was_early e.key r view.number e.item.history (of_all (λ (x : Keyed (Entry Op)). IsTakenFrom (variables.made x.key) x.item.history) (entries_in message) e (logs.sent from t index message sent).entries h) early);
                });
            groups = all_of (λ (g : Keyed (Group Op)). list_any (λ (x : Record Op). is_prune x.action) g.item.group_records ≡ false) (groups_in message) (λ g h. (parts.groups from t index message sent g h).1);
          }

      brings : (i : Input Op) → IsGiven D world t i → BringsInput D (AreBarredNow variables' B r view.number t base now) (AreBarred variables' B r view.number t base now) (IsPlain variables' B r view.number t base now) AnyTick old i
      brings (Take from message) comes = λ member.
          brings_part (AreBarred variables' B r view.number t base now) (IsPlain variables' B r view.number t base now) comes.2 comes.1 message comes.4 (message_barred from comes.0 comes.1 comes.3 member)
      brings (Update key op level) comes = tt
      brings (Get key level) comes = tt
      brings (Install v) comes = λ later key entry p. record { bars = p.bars; grown = p.grown }
      brings Flush comes = tt
      brings (GossipTo j) comes = tt
      brings PruneTick comes = λ key q. tt
      brings (Timeout op) comes = tt

      late_step : IsGiven D world t input → (key : Text) → AreBarredNow variables' B r view.number t base now key ((step D old input fate).node.entries key)
      late_step comes key =
          keeps_any D (AreBarredNow variables' B r view.number t base now) (AreBarred variables' B r view.number t base now) (IsPlain variables' B r view.number t base now) AnyTick old
          (subst (λ j. AreKept (AreBarredNow variables' B r view.number t base now) (AreBarred variables' B r view.number t base now) (IsPlain variables' B r view.number t base now) AnyTick j old.view) (sym (has.running t old was).identity) (bars_kept variables' B r view.number t base now old.view))
          input fate (brings input comes)
          (λ k. record {
            bars = λ early. bars.held k r t view old listed was (was_early k r view.number (old.entries k).history (logs.held t old k was) early);
            grown = let a : at (old.entries k).history t ≡ at (variables.made k) t = ap length (logs.own t old k was) in omega arith;
          }) key

    -- WHAT A MEMBER HOLDS THEN

    stepped_bar : (key : Text) (r t : ℕ) (view : View) (old new : Node Kind Op Shown) (input : Input Op) (fate : Fate) → slice_get (views_of world) view.number ≡ Some view → world.nodes t ≡ Some old → next.nodes t ≡ Some new → IsGiven D world t input → new ≡ (step D old input fate).node
        → HasEarlyPrune variables' key r view.number (new.entries key).history → IsPastView variables key r view t old.view.number → IsBarred variables' next key r view
    stepped_bar key r t view old new input fate listed was runs comes is early (LateMember late) =
        still_barred key r view listed ((late_step view r listed t old new was runs late input fate is comes key).bars (subst (λ (n : Node Kind Op Shown). HasEarlyPrune variables' key r view.number (n.entries key).history) is early))
    stepped_bar key r t view old new input fate listed was runs comes is early (Unjoined member e) = unjoined_then key r t view new member e runs (pruned_by key r t new runs early.owner early.before early.prune early.has early.prunes)

    none_early : (key : Text) (r v : ℕ) → HasEarlyPrune variables' key r v (no_records {Op = Op}) → ⊥
    none_early key r v e = let h = e.has in cc h

    started_bar : (key : Text) (r t : ℕ) (view : View) (new : Node Kind Op Shown) → slice_get (views_of world) view.number ≡ Some view → HasEarlyPrune variables' key r view.number (new.entries key).history → LoadedFrom D world next t key (new.entries key) → IsBarred variables' next key r view
    started_bar key r t view new listed early (LoadedEmpty empty none) = absurd (none_early key r view.number (subst (λ (x : Entry Op). HasEarlyPrune variables' key r view.number x.history) empty early))
    started_bar key r t view new listed early (LoadedStored j node stored was durable place there loaded) =
        let part = parts.stored j node was key stored there durable in
        let in_node = early_part variables' key r view.number stored.history (node.entries key).history part (subst (λ (x : Entry Op). HasEarlyPrune variables' key r view.number x.history) loaded early) in
        still_barred key r view listed (bars.held key r j view node listed was (was_early key r view.number (node.entries key).history (logs.held j node key was) in_node))

    held_bar : (key : Text) (r t : ℕ) (view : View) (new : Node Kind Op Shown) → slice_get (views_of next) view.number ≡ Some view → next.nodes t ≡ Some new → HasEarlyPrune variables' key r view.number (new.entries key).history → IsBarred variables' next key r view
    held_bar key r t view new listed_now runs early = by_view (listed_then D variables world next has follows parts marks unpruned view listed_now)
      where
        by_node : slice_get (views_of world) view.number ≡ Some view → NodeAfter D world next t new → IsBarred variables' next key r view
        by_node listed (Same was stays) = still_barred key r view listed (bars.held key r t view new listed was (was_early key r view.number (new.entries key).history (logs.held t new key was) early))
        by_node listed (Stepped old input fate was comes is views) = stepped_bar key r t view old new input fate listed was runs comes is early (past_or_unjoined D variables world has marks key r view listed t old was)
        by_node listed (Started store is given member made from) = started_bar key r t view new listed early (loaded_from D variables world next has follows t new store given made from key)

        by_view : IsListed D variables world next has follows parts marks unpruned view → IsBarred variables' next key r view
        by_view (WasListed listed) = by_node listed (follows.nodes t new runs)
        by_view (Newest is nobody) = IsPruned t new (ap (λ (v : View). is_member v t) is ∙ (then.running t new runs).last) (nobody key r t) runs (pruned_by key r t new runs early.owner early.before early.prune early.has early.prunes)

    -- WHAT IS SENT THEN

    by_sender : (r from to index : ℕ) (view : View) (message : Message Op) (e : Keyed (Entry Op)) → slice_get (views_of next) view.number ≡ Some view → is_member next.view from ≡ true → message_at next from to index ≡ Some message → IsIn (entries_in message) e
        → HasEarlyPrune variables' e.key r view.number e.item.history → IsBarred variables' next e.key r view
    by_sender r from to index view message e listed member sent h early =
        let runs = then.all_run.runs from member in
        held_bar e.key r from view runs.0 listed runs.1
        (early_part variables' e.key r view.number e.item.history (runs.0.entries e.key).history ((parts_follow D variables world next has follows parts).sent from to index message runs.0 runs.1 sent e h) early)

    sent_bar : (r from to index : ℕ) (view w : View) (message : Message Op) (e : Keyed (Entry Op)) → slice_get (views_of next) view.number ≡ Some view → slice_get (views_of next) w.number ≡ Some w → view.number ≤ w.number → is_member w from ≡ true
        → message_at next from to index ≡ Some message → IsIn (entries_in message) e → HasEarlyPrune variables' e.key r view.number e.item.history → IsBarred variables' next e.key r view
    sent_bar r from to index view w message e listed_view listed late member sent h early =
        by_views (listed_then D variables world next has follows parts marks unpruned view listed_view) (listed_then D variables world next has follows parts marks unpruned w listed)
      where
        by_message : slice_get (views_of world) view.number ≡ Some view → slice_get (views_of world) w.number ≡ Some w → MessageAfter D world next from to message → IsBarred variables' next e.key r view
        by_message l m (OldMessage index' is) =
            still_barred e.key r view l (bars.sent r from to index' view w message e l m late member is h
            (was_early e.key r view.number e.item.history (of_all (λ (x : Keyed (Entry Op)). IsTakenFrom (variables.made x.key) x.item.history) (entries_in message) e (logs.sent from to index' message is).entries h) early))
        by_message l m (NewMessage new runs is_from) =
            let item : e.item ≡ new.entries e.key = of_all (λ (x : Keyed (Entry Op)). x.item ≡ new.entries x.key) (entries_in message) e is_from.entries h in
            held_bar e.key r from view new listed_view runs (subst (λ (x : Entry Op). HasEarlyPrune variables' e.key r view.number x.history) item early)

        by_views : IsListed D variables world next has follows parts marks unpruned view → IsListed D variables world next has follows parts marks unpruned w → IsBarred variables' next e.key r view
        by_views (WasListed l) (WasListed m) = by_message l m (follows.messages from to index message sent)
        by_views (WasListed l) (Newest is nobody) = by_sender r from to index view message e listed_view (ap (λ (v : View). is_member v from) (sym is) ∙ member) sent h early
        by_views (Newest is nobody) any =
            let last = is_last D variables world next has follows parts marks unpruned w listed (let a : view.number ≡ next.view.number = ap (λ (v : View). v.number) is in omega arith) in
            by_sender r from to index view message e listed_view (ap (λ (v : View). is_member v from) (sym last) ∙ member) sent h early

    pub bars_follow : HasBars variables' next
    bars_follow = record { held = held_bar; sent = sent_bar }
