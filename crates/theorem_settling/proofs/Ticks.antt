-- A tick of the leader: what it marks, and that it performs or is blocked where all have seen its mark.
use Rattle.std.proofs.Common.{◌≡◌, ◌≢◌, ℕ, zero, suc, ◌+◌, ◌<◌, List, [], ◌∷◌, ◌++◌, length, refl, sym, ap, subst, ◌∙◌, arith, Bool, true, false, Option, Some, None, ◌⊎◌, inl, inr}
use Rattle.std.specs.Prelude.{if◌then◌else◌, slice_get, fold, nat_lt, ◌==◌, ◌||◌, not, IsSome, is_some, option_map}
use Rattle.std.specs.List.{range_with_len}
use Rattle.std.proofs.lemmas.Bool.Decides.{eqb_tells, nat_tests}
use Rattle.std.proofs.lemmas.Bool.{ltb-true, eq-eqb}
use Rattle.model_history.specs.Table.{identity_limit, with_at}
use Rattle.model_history.specs.Texts.{Text}
use Rattle.model_history.specs.Vector.{alone}
use Rattle.model_history.specs.History.{Record, History, at, versions, is_pruned, IsPartOf}
use Rattle.model_history.specs.History.Action.{Prune}
use Rattle.model_history.proofs.HistoryLaws.{with_at_same, with_at_other}
use Rattle.model_history.proofs.PruneLaws.{IsIn, found, pruned_has, has_pruned, at_identities, range_at}
use Rattle.model_history.proofs.PartLaws.{in_whole, part_with_record}
use Rattle.model_meanings.specs.Refusal.{Shares}
use Rattle.model_members.specs.View.{View, is_member, identities_of, removed_of, leader}
use Rattle.model_members.specs.Entry.{Entry, Mark, Tick, with_prune, unseen, ticked}
use Rattle.model_members.specs.DataType.{Replication}
use Rattle.model_members.specs.Node.{KeyState, Node, Fate, Input, HasKey, state_of, key_state, one_step_later}
use Rattle.model_members.specs.Node.Reply.{NotLeader, Ticked, TickedNotStored}
use Rattle.model_members.specs.Step.{step, Ticking, tick_identity, tick_key, answered, has_failed, outcomes_of}
use Rattle.model_members.specs.Entry.Outcome.{Newer}
use Rattle.model_members.proofs.Cases.{ticked_mark, ticked_seen, performed_unless, with_tick, entry_after_tick_of}
use Rattle.theorem_settling.specs.Settling.{BlockedStays}
use Rattle.theorem_operations.proofs.Lists.{find_in, in_any, same_number, to_filter}
use Rattle.theorem_settling.proofs.Merging.{MarkAt, UpTo}

pub pruned_grows : {Op : Type 0} (H J : History Op) (r : ℕ) → IsPartOf H J → is_pruned H r ≡ true → is_pruned J r ≡ true
pruned_grows H J r part e = let p = pruned_has H r e in has_pruned J r p.0 p.1 p.2 (at_identities p.0 p.3) (in_whole H J part p.0 p.1 p.2 p.4) p.5

-- an option that is there
is_there : {X : Type 0} (o : Option X) (x : X) → o ≡ Some x → IsSome o
is_there o x e = ap is_some e

module _ {Kind Op Shown : Type 0} (D : Replication Kind Op Shown) (node : Node Kind Op Shown) (k : KeyState Kind Op) (small : node.identity < identity_limit) where
  abbrev v : ℕ
  v = node.view.number

  abbrev blocked : ℕ → Entry Op → Option Shares
  blocked q e = D.data_type.blocked k.kind node.identity q e.history

  -- what a tick does for one identity
  data TickCase (e : Entry Op) (q : ℕ) (after : Entry Op) : Type 0 where
    Skips : (at e.history q ≡ 0) ⊎ (is_pruned e.history q ≡ true) → after ≡ e → TickCase e q after
    Marks : ((m : Mark) → e.marks q ≡ Some m → m.view < v) → after ≡ record e { marks = with_at e.marks q (Some (record { view = v; owner = node.identity; seen = alone node.identity })) } → TickCase e q after
    Newers : (m : Mark) → e.marks q ≡ Some m → v < m.view → after ≡ e → TickCase e q after
    Waits : (m : Mark) (j : ℕ) → e.marks q ≡ Some m → m.view ≡ v → unseen m (identities_of node.view) ≡ Some j → after ≡ e → TickCase e q after
    Blocks : (m : Mark) → e.marks q ≡ Some m → m.view ≡ v → IsSome (blocked q e) → after ≡ e → TickCase e q after
    Performs : after ≡ with_prune e node.identity q → TickCase e q after

  case_unless : (e : Entry Op) (q : ℕ) (m : Mark) → e.marks q ≡ Some m → m.view ≡ v → (o : Option Shares) → blocked q e ≡ o → TickCase e q (performed_unless (blocked q e) node.identity v (identities_of node.view) e q o).entry
  case_unless e q m is now None b = Performs refl
  case_unless e q m is now (Some s) b = Blocks m is now (is_there (blocked q e) s b) refl

  case_seen : (e : Entry Op) (q : ℕ) (m : Mark) → e.marks q ≡ Some m → m.view ≡ v → (o : Option ℕ) → unseen m (identities_of node.view) ≡ o → TickCase e q (ticked_seen (blocked q e) node.identity v (identities_of node.view) e q o).entry
  case_seen e q m is now None u = case_unless e q m is now (blocked q e) refl
  case_seen e q m is now (Some j) u = Waits m j is now u refl

  case_mark : (e : Entry Op) (q : ℕ) (o : Option Mark) → e.marks q ≡ o → TickCase e q (ticked_mark (blocked q e) node.identity v (identities_of node.view) e q o).entry
  case_mark e q None is = Marks (λ m f. absurd (let g = sym is ∙ f in cc g)) refl
  case_mark e q (Some m) is = by (nat_lt m.view v) refl (nat_lt v m.view) refl
    where
      both : nat_lt m.view v ≡ false → nat_lt v m.view ≡ false → m.view ≡ v
      both e f = grind (arith, nat_tests)

      by : (b : Bool) → nat_lt m.view v ≡ b → (c : Bool) → nat_lt v m.view ≡ c
          → TickCase e q (if b then Rattle.model_members.specs.Entry.marked (blocked q e) node.identity v (identities_of node.view) e q else (if c then record { outcome = Newer; entry = e } else ticked_seen (blocked q e) node.identity v (identities_of node.view) e q (unseen m (identities_of node.view)))).entry
      by true lower c f = Marks (λ n g. let same : m ≡ n = (let h = sym is ∙ g in cc h) in let a = ltb-true m.view v lower in let b : m.view ≡ n.view = ap (λ (x : Mark). x.view) same in omega arith) refl
      by false lower true f = Newers m is (ltb-true v m.view f) refl
      by false lower false f = case_seen e q m is (both lower f) (unseen m (identities_of node.view)) refl

  tick_case : (so_far : Ticking Op) (q : ℕ) → TickCase so_far.entry q (tick_identity D node k so_far q).entry
  tick_case so_far q = by (at so_far.entry.history q == 0) refl (is_pruned so_far.entry.history q) refl
    where
      by : (b : Bool) → (at so_far.entry.history q == 0) ≡ b → (c : Bool) → is_pruned so_far.entry.history q ≡ c
          → TickCase so_far.entry q (if b || c then so_far else with_tick D k so_far q (ticked (blocked q so_far.entry) node.identity v (identities_of node.view) so_far.entry q)).entry
      by true e c f = Skips (inl (same_number (at so_far.entry.history q) 0 e)) refl
      by false e true f = Skips (inr f) refl
      by false e false f = case_mark so_far.entry q (so_far.entry.marks q) refl

  -- WHAT STAYS

  module _ (r : ℕ) (other : r ≢ node.identity) where
    prune_count : (e : Entry Op) (q : ℕ) → at (with_prune e node.identity q).history r ≡ at e.history r
    prune_count e q = ap length (with_at_other e.history node.identity _ r other)

    prune_part : (e : Entry Op) (q : ℕ) → IsPartOf e.history (with_prune e node.identity q).history
    prune_part e q = part_with_record e.history node.identity _

    prune_pruned : (e : Entry Op) (q : ℕ) → is_pruned (with_prune e node.identity q).history q ≡ true
    prune_pruned e q =
        has_pruned (with_prune e node.identity q).history q node.identity (at e.history node.identity) (record { action = Prune q; past = versions e.history }) (at_identities node.identity small)
        (ap (λ (rs : List (Record Op)). slice_get rs (at e.history node.identity)) (with_at_same e.history node.identity _) ∙ last (e.history node.identity)) refl
      where
        last : (rs : List (Record Op)) → slice_get (rs ++ record { action = Prune q; past = versions e.history } ∷ []) (length rs) ≡ Some (record { action = Prune q; past = versions e.history })
        last [] = refl
        last (y ∷ rs) = last rs

    -- how many records of r there are
    count_stays : (e after : Entry Op) (q : ℕ) → TickCase e q after → at after.history r ≡ at e.history r
    count_stays e after q (Skips a is) = ap (λ (x : Entry Op). at x.history r) is
    count_stays e after q (Marks a is) = ap (λ (x : Entry Op). at x.history r) is
    count_stays e after q (Newers m a b is) = ap (λ (x : Entry Op). at x.history r) is
    count_stays e after q (Waits m j a b c is) = ap (λ (x : Entry Op). at x.history r) is
    count_stays e after q (Blocks m a b c is) = ap (λ (x : Entry Op). at x.history r) is
    count_stays e after q (Performs is) = ap (λ (x : Entry Op). at x.history r) is ∙ prune_count e q

    pruned_stays : (e after : Entry Op) (q : ℕ) → TickCase e q after → is_pruned e.history r ≡ true → is_pruned after.history r ≡ true
    pruned_stays e after q (Skips a is) p = ap (λ (x : Entry Op). is_pruned x.history r) is ∙ p
    pruned_stays e after q (Marks a is) p = ap (λ (x : Entry Op). is_pruned x.history r) is ∙ p
    pruned_stays e after q (Newers m a b is) p = ap (λ (x : Entry Op). is_pruned x.history r) is ∙ p
    pruned_stays e after q (Waits m j a b c is) p = ap (λ (x : Entry Op). is_pruned x.history r) is ∙ p
    pruned_stays e after q (Blocks m a b c is) p = ap (λ (x : Entry Op). is_pruned x.history r) is ∙ p
    pruned_stays e after q (Performs is) p = ap (λ (x : Entry Op). is_pruned x.history r) is ∙ pruned_grows e.history (with_prune e node.identity q).history r (prune_part e q) p

    -- the mark of r, after a tick for q
    mark_set : (marks : ℕ → Option Mark) (q : ℕ) (o : Option Mark) → ((r ≡ q) × (with_at marks q o r ≡ o)) ⊎ ((r ≢ q) × (with_at marks q o r ≡ marks r))
    mark_set marks q o = elim (eqb_tells r q) [
      | inl is ↦ inl (is.1, ap (with_at marks q o) is.1 ∙ with_at_same marks q o)
      | inr isnt ↦ inr (isnt.1, with_at_other marks q o r isnt.1)
    ]

    up_stays : (e after : Entry Op) (q : ℕ) → TickCase e q after → UpTo r v e → UpTo r v after
    up_stays e after q (Skips a is) up = subst (UpTo r v) (sym is) up
    up_stays e after q (Marks a is) up = subst (UpTo r v) (sym is) (λ m f. elim (mark_set e.marks q (Some (record { view = v; owner = node.identity; seen = alone node.identity }))) [
      | inl h ↦ (let same : record { view = v; owner = node.identity; seen = alone node.identity } ≡ m = (let g = sym h.1 ∙ f in cc g) in let z : v ≡ m.view = ap (λ (x : Mark). x.view) same in omega arith)
      | inr h ↦ up m (sym h.1 ∙ f)
    ])
    up_stays e after q (Newers m a b is) up = subst (UpTo r v) (sym is) up
    up_stays e after q (Waits m j a b c is) up = subst (UpTo r v) (sym is) up
    up_stays e after q (Blocks m a b c is) up = subst (UpTo r v) (sym is) up
    up_stays e after q (Performs is) up = subst (UpTo r v) (sym is) (λ m f. elim (mark_set e.marks q None) [
      | inl h ↦ absurd (let g = sym h.1 ∙ f in cc g)
      | inr h ↦ up m (sym h.1 ∙ f)
    ])

    -- IT IS PRUNED OR MARKED

    -- r has a prune, or a mark of this view in which these stand
    abbrev pub PrunedOr : (ℕ → Type 0) → Entry Op → Type 0
    PrunedOr S e = (is_pruned e.history r ≡ true) ⊎ MarkAt r v S e

    -- where a new mark would do
    marked_stays : (S : ℕ → Type 0) → ((e : Entry Op) → MarkAt r v S e → ((m : Mark) → e.marks r ≡ Some m → m.view < v) → ⊥) → (e after : Entry Op) (q : ℕ) → TickCase e q after → PrunedOr S e → PrunedOr S after
    marked_stays S never e after q c (inl p) = inl (pruned_stays e after q c p)
    marked_stays S never e after q (Skips a is) (inr m) = inr (subst (MarkAt r v S) (sym is) m)
    marked_stays S never e after q (Marks a is) (inr m) = subst (PrunedOr S) (sym is) (elim (mark_set e.marks q (Some (record { view = v; owner = node.identity; seen = alone node.identity }))) [
      | inl h ↦ absurd (never e m (λ n f. a n (ap e.marks (sym h.0) ∙ f)))
      | inr h ↦ inr (record { mark = m.mark; is = h.1 ∙ m.is; now = m.now; seen = m.seen })
    ])
    marked_stays S never e after q (Newers n a b is) (inr m) = inr (subst (MarkAt r v S) (sym is) m)
    marked_stays S never e after q (Waits n j a b c is) (inr m) = inr (subst (MarkAt r v S) (sym is) m)
    marked_stays S never e after q (Blocks n a b c is) (inr m) = inr (subst (MarkAt r v S) (sym is) m)
    marked_stays S never e after q (Performs is) (inr m) = subst (PrunedOr S) (sym is) (elim (mark_set e.marks q None) [
      | inl h ↦ inl (subst (λ x. is_pruned (with_prune e node.identity q).history x ≡ true) (sym h.0) (prune_pruned e q))
      | inr h ↦ inr (record { mark = m.mark; is = h.1 ∙ m.is; now = m.now; seen = m.seen })
    ])

    not_lower : (S : ℕ → Type 0) (e : Entry Op) → MarkAt r v S e → ((m : Mark) → e.marks r ≡ Some m → m.view < v) → ⊥
    not_lower S e m h = let a = h m.mark m.is in let b = m.now in omega arith

    -- the tick for r itself
    abbrev Nobody : ℕ → Type 0
    Nobody t = ⊥

    visited : (e after : Entry Op) → TickCase e r after → UpTo r v e → 0 < at e.history r → PrunedOr Nobody after
    visited e after (Skips (inl none) is) up more = absurd (omega arith)
    visited e after (Skips (inr p) is) up more = inl (ap (λ (x : Entry Op). is_pruned x.history r) is ∙ p)
    visited e after (Marks a is) up more = inr (subst (MarkAt r v Nobody) (sym is) (record { mark = record { view = v; owner = node.identity; seen = alone node.identity }; is = with_at_same e.marks r _; now = refl; seen = λ t s. absurd s }))
    visited e after (Newers m a b is) up more = absurd (let c = up m a in omega arith)
    visited e after (Waits m j a b c is) up more = inr (subst (MarkAt r v Nobody) (sym is) (record { mark = m; is = a; now = b; seen = λ t s. absurd s }))
    visited e after (Blocks m a b c is) up more = inr (subst (MarkAt r v Nobody) (sym is) (record { mark = m; is = a; now = b; seen = λ t s. absurd s }))
    visited e after (Performs is) up more = inl (ap (λ (x : Entry Op). is_pruned x.history r) is ∙ prune_pruned e r)

    -- all ticks of a key
    all_stay : (P : Entry Op → Type 0) → ((e after : Entry Op) (q : ℕ) → TickCase e q after → P e → P after) → (rs : List ℕ) (so_far : Ticking Op) → P so_far.entry → P (fold (tick_identity D node k) so_far rs).entry
    all_stay P stays [] so_far p = p
    all_stay P stays (q ∷ rs) so_far p = all_stay P stays rs (tick_identity D node k so_far q) (stays so_far.entry (tick_identity D node k so_far q).entry q (tick_case so_far q) p)

    all_visit : (P Q : Entry Op → Type 0) → ((e after : Entry Op) (q : ℕ) → TickCase e q after → P e → P after) → ((e after : Entry Op) → TickCase e r after → P e → Q after) → ((e after : Entry Op) (q : ℕ) → TickCase e q after → Q e → Q after)
        → (rs : List ℕ) → IsIn rs r → (so_far : Ticking Op) → P so_far.entry → Q (fold (tick_identity D node k) so_far rs).entry
    all_visit P Q stays visit keeps [] h so_far p = absurd (cc h.1)
    all_visit P Q stays visit keeps (q ∷ rs) (zero, is) so_far p =
        let same : q ≡ r = cc is in
        all_stay Q keeps rs (tick_identity D node k so_far q) (visit so_far.entry (tick_identity D node k so_far q).entry (subst (λ x. TickCase so_far.entry x (tick_identity D node k so_far q).entry) same (tick_case so_far q)) p)
    all_visit P Q stays visit keeps (q ∷ rs) (suc j, is) so_far p = all_visit P Q stays visit keeps rs (j, is) (tick_identity D node k so_far q) (stays so_far.entry (tick_identity D node k so_far q).entry q (tick_case so_far q) p)

    -- after a tick r is pruned or marked
    pub tick_marks : (rs : List ℕ) → IsIn rs r → (so_far : Ticking Op) → UpTo r v so_far.entry → 0 < at so_far.entry.history r → PrunedOr Nobody (fold (tick_identity D node k) so_far rs).entry
    tick_marks rs h so_far up more =
        all_visit (λ e. UpTo r v e × (0 < at e.history r)) (PrunedOr Nobody)
        (λ e after q c p. (up_stays e after q c p.0, (let a = count_stays e after q c in let b = p.1 in omega arith)))
        (λ e after c p. visited e after c p.0 p.1)
        (marked_stays Nobody (not_lower Nobody)) rs h so_far (up, more)

    pub tick_count : (rs : List ℕ) (so_far : Ticking Op) → at (fold (tick_identity D node k) so_far rs).entry.history r ≡ at so_far.entry.history r
    tick_count rs so_far = all_stay (λ e. at e.history r ≡ at so_far.entry.history r) (λ e after q c p. count_stays e after q c ∙ p) rs so_far refl

    -- IT IS PRUNED OR BLOCKED

    abbrev AllSeen : ℕ → Type 0
    AllSeen t = is_member node.view t ≡ true

    abbrev pub PrunedOrBlocked : Entry Op → Type 0
    PrunedOrBlocked e = (is_pruned e.history r ≡ true) ⊎ IsSome (blocked r e)

    visited_seen : (e after : Entry Op) → TickCase e r after → PrunedOr AllSeen e → 0 < at e.history r → PrunedOrBlocked after
    visited_seen e after c (inl p) more = inl (pruned_stays e after r c p)
    visited_seen e after (Skips (inl none) is) (inr m) more = absurd (omega arith)
    visited_seen e after (Skips (inr p) is) (inr m) more = inl (ap (λ (x : Entry Op). is_pruned x.history r) is ∙ p)
    visited_seen e after (Marks a is) (inr m) more = absurd (not_lower AllSeen e m a)
    visited_seen e after (Newers n a b is) (inr m) more = absurd (let same : n ≡ m.mark = (let g = sym a ∙ m.is in cc g) in let z : n.view ≡ m.mark.view = ap (λ (x : Mark). x.view) same in let w = m.now in omega arith)
    visited_seen e after (Waits n j a b u is) (inr m) more =
        let same : n ≡ m.mark = (let g = sym a ∙ m.is in cc g) in
        let member : is_member node.view j ≡ true = in_any (identities_of node.view) j (find_in (λ i. not (n.seen i)) (identities_of node.view) j u) in
        let not_seen : not (n.seen j) ≡ true = found (λ i. not (n.seen i)) (identities_of node.view) j u in
        let seen : n.seen j ≡ true = ap (λ (x : Mark). x.seen j) same ∙ m.seen j member in
        absurd (let g = sym (ap not seen) ∙ not_seen in cc g)
    visited_seen e after (Blocks n a b s is) (inr m) more = inr (subst (λ (x : Entry Op). IsSome (blocked r x)) (sym is) s)
    visited_seen e after (Performs is) (inr m) more = inl (ap (λ (x : Entry Op). is_pruned x.history r) is ∙ prune_pruned e r)

    module _ (blocked_stays : BlockedStays D) where
      stays_blocked : (e after : Entry Op) (q : ℕ) → TickCase e q after → PrunedOrBlocked e → PrunedOrBlocked after
      stays_blocked e after q c (inl p) = inl (pruned_stays e after q c p)
      stays_blocked e after q (Skips a is) (inr s) = inr (subst (λ (x : Entry Op). IsSome (blocked r x)) (sym is) s)
      stays_blocked e after q (Marks a is) (inr s) = inr (subst (λ (x : Entry Op). IsSome (blocked r x)) (sym is) s)
      stays_blocked e after q (Newers m a b is) (inr s) = inr (subst (λ (x : Entry Op). IsSome (blocked r x)) (sym is) s)
      stays_blocked e after q (Waits m j a b u is) (inr s) = inr (subst (λ (x : Entry Op). IsSome (blocked r x)) (sym is) s)
      stays_blocked e after q (Blocks m a b t is) (inr s) = inr (subst (λ (x : Entry Op). IsSome (blocked r x)) (sym is) s)
      stays_blocked e after q (Performs is) (inr s) = subst PrunedOrBlocked (sym is) (elim (eqb_tells r q) [
        | inl h ↦ inl (subst (λ x. is_pruned (with_prune e node.identity q).history x ≡ true) (sym h.1) (prune_pruned e q))
        | inr h ↦ inr (blocked_stays k.kind node.identity r q e h.1 s)
      ])

      -- after a tick r is pruned or blocked, where all members had seen its mark
      pub tick_settles : (rs : List ℕ) → IsIn rs r → (so_far : Ticking Op) → PrunedOr AllSeen so_far.entry → 0 < at so_far.entry.history r → PrunedOrBlocked (fold (tick_identity D node k) so_far rs).entry
      tick_settles rs h so_far seen more =
          all_visit (λ e. PrunedOr AllSeen e × (0 < at e.history r)) PrunedOrBlocked
          (λ e after q c p. (marked_stays AllSeen (not_lower AllSeen) e after q c p.0, (let a = count_stays e after q c in let b = p.1 in omega arith)))
          (λ e after c p. visited_seen e after c p.0 p.1)
          stays_blocked rs h so_far (seen, more)

-- THE LEADER'S STEP

module _ {Kind Op Shown : Type 0} (D : Replication Kind Op Shown) (node : Node Kind Op Shown) (leads : leader node.view ≡ node.identity) (fate : Fate) where
  pub tick_step : step D node Input.PruneTick fate
      ≡ answered (record (one_step_later node) { entries = λ key. entry_after_tick_of D (one_step_later node) (key_state (one_step_later node) key) (node.entries key) })
      (if has_failed fate then TickedNotStored (outcomes_of D (one_step_later node))
      else Ticked (outcomes_of D (one_step_later node)))
  tick_step = ap (λ b. if not b then answered (one_step_later node) (NotLeader (leader node.view)) else answered (record (one_step_later node) { entries = λ key. entry_after_tick_of D (one_step_later node) (key_state (one_step_later node) key) (node.entries key) })
      (if has_failed fate then TickedNotStored (outcomes_of D (one_step_later node))
      else Ticked (outcomes_of D (one_step_later node)))) (eq-eqb (leader node.view) node.identity leads)

  pub ticked_entry : (key : Text) (kind : Kind) (has : HasKey node key kind) → (step D node Input.PruneTick fate).node.entries key ≡ (tick_key D (one_step_later node) (state_of node (record { name = key; kind = kind; durable = has.0 }))).entry
  ticked_entry key kind has = ap (λ s. s.node.entries key) tick_step ∙ ap (λ o. entry_after_tick_of D (one_step_later node) (option_map (state_of (one_step_later node)) o) (node.entries key)) has.1

-- who is removed has a tick
pub in_removed : (view : View) (r : ℕ) → r < view.given → is_member view r ≡ false → IsIn (removed_of view) r
in_removed view r given stranger =
    let plain : 0 + r ≡ r = omega arith in
    to_filter (λ i. not (is_member view i)) (range_with_len 0 view.given) r (r, range_at 0 view.given r given ∙ ap Some plain) (ap not stranger)
