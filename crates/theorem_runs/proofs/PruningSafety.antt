-- What holds of marks and prunes in every run, and that the union of any two running members' histories is exactly pruned.
use Rattle.std.proofs.Common.{◌≡◌, ℕ, ◌<◌, ◌≤◌, refl, sym, ap, subst, ◌∙◌, arith, true, false, Option, Some, None, ◌⊎◌, inl, inr}
use Rattle.std.specs.Prelude.{slice_get, is_some, IsSome}
use Rattle.std.proofs.lemmas.Bool.{cases_lt}
use Rattle.model_history.proofs.CutLaws.{both_ways}
use Rattle.model_history.specs.Texts.{Text}
use Rattle.model_history.specs.Log.{IsTakenFrom}
use Rattle.model_history.specs.History.{Record, History, at, union, HasRecord, IsPartOf, IsExactlyPruned}
use Rattle.model_history.specs.History.Action.{Prune}
use Rattle.model_history.proofs.HistoryLaws.{union_same, at-union}
use Rattle.model_history.proofs.PartLaws.{in_whole, part-le}
use Rattle.model_history.proofs.PruneLaws.{pruned_has}
use Rattle.model_members.specs.View.{View, is_member, leader, place_of}
use Rattle.model_members.specs.Entry.{Entry}
use Rattle.model_members.specs.DataType.{Replication}
use Rattle.model_members.specs.Message.{Keyed, entries_in}
use Rattle.model_members.specs.Node.{Node}
use Rattle.model_members.specs.World.{World, views_of}
use Rattle.theorem_runs.specs.Pruning.{HistoryVariables, Standing, HasEntry, IsView, AllJoined, HadOne, SeenHaveInstalled, SeenAreKept, JoinedUnpruned, PrunersHaveInstalled, GroupsHaveNoPrunes, EntriesArePruned, NoLateRecord, NoLateGroup, NoEarlierPrune, PrunesFollowMarks, OnePruneAView, StoredIsHeld, UnionsArePruned}
use Rattle.theorem_runs.specs.Pruning.HasEntry.{Held, Sent, Kept}
use Rattle.theorem_runs.specs.Pruning.HasGroup.{GroupSent}
use Rattle.theorem_runs.proofs.UnprunedMarks.{plain}
use Rattle.theorem_runs.proofs.Happening.{of_all}
use Rattle.theorem_runs.proofs.Growth.{has_union}
use Rattle.theorem_runs.proofs.RunViews.{same_some}
use Rattle.theorem_runs.proofs.KnownMarks.{MarksKnown}
use Rattle.theorem_runs.proofs.PrunesFollow.{PruneKnown}
use Rattle.theorem_runs.proofs.Removed.{IsPast, not_later, IsPastView, past_or_unjoined}
use Rattle.theorem_runs.proofs.Removed.IsPastView.{LateMember, Unjoined}
use Rattle.theorem_runs.proofs.Bounds.{IsBounded}
use Rattle.theorem_runs.proofs.Bounds.IsBounded.{NeverJoins, HadThen, HasNow}
use Rattle.theorem_runs.proofs.EarlyPrunes.{HasEarlyPrune, IsBarred}
use Rattle.theorem_runs.proofs.EarlyPrunes.IsBarred.{LeftUnjoined, IsPruned}
use Rattle.theorem_runs.proofs.Safety.{IsSafe}

is_there : {X : Type 0} (o : Option X) → IsSome o → (x : X) × (o ≡ Some x)
is_there None h = absurd (cc h)
is_there (Some x) h = (x, refl)

module _ {Kind Op Shown : Type 0} (D : Replication Kind Op Shown) (variables : HistoryVariables Op) (world : World Kind Op Shown) (safe : IsSafe D variables world) where
  -- WHO STANDS IN A MARK

  entry_known : (key : Text) (entry : Entry Op) → HasEntry world key entry → MarksKnown (views_of world) variables key entry
  entry_known key entry (Held i node runs is) = subst (λ (e : Entry Op). MarksKnown (views_of world) variables key e) is (safe.marks.held i node key runs)
  entry_known key entry (Sent from to index node message runs member sent has) = safe.marks.sent from to index message sent (record { key = key; item = entry }) has
  entry_known key entry (Kept i node stored) = safe.marks.stored (place_of world.view i) key entry stored.stored

  pub seen_have_installed : SeenHaveInstalled variables world
  seen_have_installed key entry r t mark has is seen = ((entry_known key entry has).seen r t mark is seen).installed

  pub seen_are_kept : SeenAreKept variables world
  seen_are_kept key entry r t mark has is seen = let s = (entry_known key entry has).seen r t mark is seen in (s.standing, s.joined, s.kept)

  pub joined_unpruned : JoinedUnpruned variables
  joined_unpruned key r v t standing e = (safe.marks.joined key r v t standing e).unpruned

  -- WHO HAS JOINED

  -- a member of the view that has joined, and the others
  abbrev unjoined : Text → ℕ → View → ℕ → Type 0
  unjoined key r view t = variables.joined key r view.number t ≡ None

  not_unjoined : (key : Text) (r : ℕ) (view : View) → AllJoined variables key r view → (t : ℕ) → is_member view t ≡ true → variables.joined key r view.number t ≡ None → ⊥
  not_unjoined key r view all t member e = let s = is_there (variables.joined key r view.number t) (all t member) in let f : ◌≡◌ {A = Option Standing} None (Some s.0) = sym e ∙ s.1 in cc f

  -- a view that all have joined is one that has removed the identity
  is_past : (key : Text) (r : ℕ) (view : View) → IsView world view → AllJoined variables key r view → IsPast (views_of world) view r
  is_past key r view listed all =
      let some = safe.views.views.some view.number view listed in
      let s = is_there (variables.joined key r view.number some.0) (all some.0 some.1) in
      let gone = (safe.marks.joined key r view.number some.0 s.0 s.1).gone in
      let same = same_some _ gone.view view gone.listed listed in
      record { listed = listed; given = subst (λ (v : View). r < v.given) same gone.given; removed = subst (λ (v : View). is_member v r ≡ false) same gone.removed }

  -- then every running member has installed the view, or a later one
  all_past : (key : Text) (r : ℕ) (view : View) → IsView world view → AllJoined variables key r view → (t : ℕ) (node : Node Kind Op Shown) → world.nodes t ≡ Some node → view.number ≤ node.view.number
  all_past key r view listed all t node runs = go (past_or_unjoined D variables world safe.views safe.marks key r view listed t node runs)
    where
      go : IsPastView variables key r view t node.view.number → view.number ≤ node.view.number
      go (LateMember late) = late
      go (Unjoined member e) = absurd (not_unjoined key r view all t member e)

  -- NOTHING LATE

  had_one : (key : Text) (r k : ℕ) (view : View) → AllJoined variables key r view → IsBounded variables world key r view k → HadOne variables key r view k
  had_one key r k view all (NeverJoins t member e none) = absurd (not_unjoined key r view all t member e)
  had_one key r k view all (HadThen t standing member e h) = (t, standing, member, e, h)
  had_one key r k view all (HasNow t node member e runs h) = absurd (not_unjoined key r view all t member e)

  pub no_late_record : NoLateRecord variables world
  no_late_record key entry r before view listed all has below = had_one key r before view all (go has)
    where
      past : IsPast (views_of world) view r
      past = is_past key r view listed all

      go : HasEntry world key entry → IsBounded variables world key r view before
      go (Held i node runs is) = safe.bounds.held key r before i view node past runs (subst (λ (e : Entry Op). before < at e.history r) (sym is) below)
      go (Sent from to index node message runs member sent keyed) =
          safe.bounds.sent r before from to index view node.view message (record { key = key; item = entry }) past (safe.views.running to node runs).viewed (all_past key r view listed all to node runs) member sent keyed below
      go (Kept i node stored) =
          let part = part-le entry.history (node.entries key).history (safe.parts.stored i node stored.runs key entry stored.stored stored.durable) r in
          safe.bounds.held key r before i view node past stored.runs (omega arith)

  -- a group of the removed identity's records comes from itself, and no view is left that has it
  pub no_late_group : NoLateGroup variables world
  no_late_group key group before view listed all (GroupSent from to index node message runs member sent keyed) below =
      let origin = (safe.parts.groups from to index message sent (record { key = key; item = group }) keyed).0 in
      let past = is_past key group.origin view listed all in
      let gone = not_later D variables world safe.views view group.origin past node.view (safe.views.running to node runs).viewed (all_past key group.origin view listed all to node runs) in
      absurd (both_ways (is_member node.view from) member (ap (is_member node.view) (sym origin) ∙ gone))

  not_barred : (key : Text) (r : ℕ) (view : View) → AllJoined variables key r view → IsBarred variables world key r view → ⊥
  not_barred key r view all (LeftUnjoined t member e none) = not_unjoined key r view all t member e
  not_barred key r view all (IsPruned t node member e runs pruned) = not_unjoined key r view all t member e

  pub no_earlier_prune : NoEarlierPrune variables world
  no_earlier_prune key entry r view owner before x listed all has h prunes = elim (cases_lt (variables.made_in key owner before) view.number) [
    | inl early ↦ absurd (not_barred key r view all (go has (record { owner = owner; before = before; prune = x; has = h; prunes = prunes; early = early })))
    | inr late ↦ late
  ]
    where
      go : HasEntry world key entry → HasEarlyPrune variables key r view.number entry.history → IsBarred variables world key r view
      go (Held i node runs is) e = safe.bars.held key r i view node listed runs (subst (λ (y : Entry Op). HasEarlyPrune variables key r view.number y.history) (sym is) e)
      go (Sent from to index node message runs member sent keyed) e =
          safe.bars.sent r from to index view node.view message (record { key = key; item = entry }) listed (safe.views.running to node runs).viewed (all_past key r view listed all to node runs) member sent keyed e
      go (Kept i node stored) e =
          let part = safe.parts.stored i node stored.runs key entry stored.stored stored.durable in
          safe.bars.held key r i view node listed stored.runs
          (record { owner = e.owner; before = e.before; prune = e.prune; has = in_whole entry.history (node.entries key).history part e.owner e.before e.prune e.has; prunes = e.prunes; early = e.early })

  pub stored_is_held : StoredIsHeld world
  stored_is_held i node key entry stored = safe.parts.stored i node stored.runs key entry stored.stored stored.durable

  -- PRUNES

  -- an entry's history is taken from the records made
  pub entry_taken : (key : Text) (entry : Entry Op) → HasEntry world key entry → IsTakenFrom (variables.made key) entry.history
  entry_taken key entry (Held i node runs is) = subst (λ (e : Entry Op). IsTakenFrom (variables.made key) e.history) is (safe.logs.held i node key runs)
  entry_taken key entry (Sent from to index node message runs member sent has) =
      of_all (λ (e : Keyed (Entry Op)). IsTakenFrom (variables.made e.key) e.item.history) (entries_in message) (record { key = key; item = entry }) (safe.logs.sent from to index message sent).entries has
  entry_taken key entry (Kept i node stored) = safe.logs.stored (place_of world.view i) key entry stored.stored

  -- what is known of a prune that an entry has
  pub prune_of_entry : (key : Text) (entry : Entry Op) → HasEntry world key entry → (o k r : ℕ) (x : Record Op) → HasRecord entry.history o k x → x.action ≡ Prune r → PruneKnown (views_of world) variables key r o k x
  prune_of_entry key entry has o k r x h e = safe.prunes.known key o k r x (in_whole entry.history (variables.made key) (entry_taken key entry has).part o k x h) e

  all_joined : (key : Text) (r o k : ℕ) (x : Record Op) → (p : PruneKnown (views_of world) variables key r o k x) → AllJoined variables key r p.view
  all_joined key r o k x p t member = ap is_some (p.all t member).joined

  pub pruners_have_installed : PrunersHaveInstalled world
  pruners_have_installed i node key r runs pruned =
      let q = pruned_has (node.entries key).history r pruned in
      let p = prune_of_entry key (node.entries key) (Held i node runs refl) q.0 q.1 r q.2 q.4 q.5 in
      let late = all_past key r p.view p.listed (all_joined key r q.0 q.1 q.2 p) i node runs in
      let listed = (safe.views.running i node runs).viewed in (
        (let a = safe.views.views.given p.view.number node.view.number p.view node.view late p.listed listed in let b = p.given in omega arith),
        not_later D variables world safe.views p.view r (record { listed = p.listed; given = p.given; removed = p.removed }) node.view listed late,
      )

  pub groups_have_no_prunes : GroupsHaveNoPrunes world
  groups_have_no_prunes key group k r x (GroupSent from to index node message runs member sent keyed) has =
      plain group.group_records x r (safe.parts.groups from to index message sent (record { key = key; item = group }) keyed).1 (k, has)

  -- no entry has a record beyond a prune's past
  frozen : (key : Text) (r o k : ℕ) (x : Record Op) → PruneKnown (views_of world) variables key r o k x → (entry : Entry Op) → HasEntry world key entry → at entry.history r ≤ x.past r
  frozen key r o k x p entry has = elim (cases_lt (x.past r) (at entry.history r)) [
    | inl more ↦
        let one = no_late_record key entry r (x.past r) p.view p.listed (all_joined key r o k x p) has more in
        let s = p.all one.0 one.2 in
        let same = same_some _ one.1 s.standing one.3 s.joined in
        absurd (let a = one.4 in let b = s.kept in let c : one.1.had ≡ s.standing.had = ap (λ (y : Standing). y.had) same in omega arith)
    | inr enough ↦ enough
  ]

  pub prunes_follow_marks : PrunesFollowMarks variables world
  prunes_follow_marks key r o k x h e =
      let p = safe.prunes.known key o k r x h e in
      (p.view, p.listed, p.made_in, p.leads, p.given, p.removed, λ t member. let s = p.all t member in (s.standing, s.joined, s.kept))

  pub one_prune_a_view : OnePruneAView variables world
  one_prune_a_view key r o k p m x y hx hy ex ey number =
      let kx = safe.prunes.known key o k r x hx ex in
      let ky = safe.prunes.known key p m r y hy ey in
      let numbers : kx.view.number ≡ ky.view.number = sym kx.made_in ∙ number ∙ ky.made_in in
      let same = same_some _ kx.view ky.view kx.listed (ap (slice_get (views_of world)) numbers ∙ ky.listed) in
      let owner : o ≡ p = sym kx.leads ∙ ap leader same ∙ ky.leads in
      (owner, safe.prunes.once key p k m r x y (subst (λ q. HasRecord (variables.made key) q k x) owner hx) hy ex ey)

  -- two prunes of one identity that entries have are one
  module _ (key : Text) (r : ℕ) (a b : Entry Op) (has_a : HasEntry world key a) (has_b : HasEntry world key b) (o k p m : ℕ) (x y : Record Op) (hx : HasRecord a.history o k x) (hy : HasRecord b.history p m y) (ex : x.action ≡ Prune r) (ey : y.action ≡ Prune r) where
    known_x : PruneKnown (views_of world) variables key r o k x
    known_x = prune_of_entry key a has_a o k r x hx ex

    known_y : PruneKnown (views_of world) variables key r p m y
    known_y = prune_of_entry key b has_b p m r y hy ey

    -- each was performed in a view at least as late as the other's
    same_number : known_x.view.number ≡ known_y.view.number
    same_number =
        let one = no_earlier_prune key b r known_x.view p m y known_x.listed (all_joined key r o k x known_x) has_b hy ey in
        let two = no_earlier_prune key a r known_y.view o k x known_y.listed (all_joined key r p m y known_y) has_a hx ex in
        let c = known_x.made_in in let d = known_y.made_in in omega arith

    same_prune : (o ≡ p) × (k ≡ m)
    same_prune =
        one_prune_a_view key r o k p m x y (in_whole a.history (variables.made key) (entry_taken key a has_a).part o k x hx) (in_whole b.history (variables.made key) (entry_taken key b has_b).part p m y hy) ex ey
        (known_x.made_in ∙ same_number ∙ sym known_y.made_in)

  -- UNIONS

  module _ (key : Text) (a b : Entry Op) (has_a : HasEntry world key a) (has_b : HasEntry world key b) where
    once : (o k p m : ℕ) (x y : Record Op) (r : ℕ) → HasRecord a.history o k x ⊎ HasRecord b.history o k x → HasRecord a.history p m y ⊎ HasRecord b.history p m y → x.action ≡ Prune r → y.action ≡ Prune r → (o ≡ p) × (k ≡ m)
    once o k p m x y r (inl hx) (inl hy) ex ey = same_prune key r a a has_a has_a o k p m x y hx hy ex ey
    once o k p m x y r (inl hx) (inr hy) ex ey = same_prune key r a b has_a has_b o k p m x y hx hy ex ey
    once o k p m x y r (inr hx) (inl hy) ex ey = same_prune key r b a has_b has_a o k p m x y hx hy ex ey
    once o k p m x y r (inr hx) (inr hy) ex ey = same_prune key r b b has_b has_b o k p m x y hx hy ex ey

    nothing_more : (o k : ℕ) (x : Record Op) (r : ℕ) → HasRecord a.history o k x ⊎ HasRecord b.history o k x → x.action ≡ Prune r → at (union a.history b.history) r ≡ x.past r
    nothing_more o k x r (inl h) e =
        let p = prune_of_entry key a has_a o k r x h e in
        let c = frozen key r o k x p a has_a in let d = frozen key r o k x p b has_b in
        let f = (entry_taken key a has_a).closed o k x h r in omega (arith, at-union a.history b.history r)
    nothing_more o k x r (inr h) e =
        let p = prune_of_entry key b has_b o k r x h e in
        let c = frozen key r o k x p a has_a in let d = frozen key r o k x p b has_b in
        let f = (entry_taken key b has_b).closed o k x h r in omega (arith, at-union a.history b.history r)

    exactly_pruned : IsExactlyPruned (union a.history b.history)
    exactly_pruned =
        record {
          once = λ o k p m x y r hx hy ex ey. once o k p m x y r (has_union a.history b.history o k x hx) (has_union a.history b.history p m y hy) ex ey;
          nothing_more = λ o k x r h e. nothing_more o k x r (has_union a.history b.history o k x h) e;
        }

  pub entries_are_pruned : EntriesArePruned world
  entries_are_pruned key a b has_a has_b = exactly_pruned key a b has_a has_b

  pub unions_are_pruned : UnionsArePruned world
  unions_are_pruned i j a b key runs_a runs_b = exactly_pruned key (a.entries key) (b.entries key) (Held i a runs_a refl) (Held j b runs_b refl)

  -- so is what each running member holds
  pub held_is_pruned : (i : ℕ) (node : Node Kind Op Shown) (key : Text) → world.nodes i ≡ Some node → IsExactlyPruned (node.entries key).history
  held_is_pruned i node key runs = subst IsExactlyPruned (union_same (node.entries key).history) (unions_are_pruned i i node node key runs runs)

module _ {Op : Type 0} where
  -- a part of an exactly pruned history that holds the pasts of its records is exactly pruned
  pub exact_part : (log H J : History Op) → IsTakenFrom log J → IsPartOf J H → IsExactlyPruned H → IsExactlyPruned J
  exact_part log H J taken part exact =
      record {
        once = λ o k p m x y r hx hy ex ey. exact.once o k p m x y r (in_whole J H part o k x hx) (in_whole J H part p m y hy) ex ey;
        nothing_more = λ o k x r h e.
            let a = exact.nothing_more o k x r (in_whole J H part o k x h) e in
            let b = taken.closed o k x h r in
            let c = part-le J H part r in omega arith;
      }
