-- A step's new prunes: their owner leads its view, and every member of this view stood in the mark, with no more of the removed identity's records than the prune has in its past.
use Rattle.std.proofs.Common.{◌≡◌, ℕ, ◌<◌, ◌≤◌, List, refl, sym, ap, subst, ◌∙◌, true, false, Option, Some, ◌⊎◌, inl, inr}
use Rattle.std.specs.Prelude.{slice_get}
use Rattle.model_history.specs.Texts.{Text}
use Rattle.model_history.specs.Table.{identity_limit}
use Rattle.model_history.specs.Log.{IsTakenFrom}
use Rattle.model_history.specs.History.{Action, Record, History, at, versions, with_record, is_pruned, HasRecord, IsPartOf}
use Rattle.model_history.specs.History.Action.{Operation, Prune}
use Rattle.model_history.proofs.HistoryLaws.{has_with_record}
use Rattle.model_history.proofs.PartLaws.{part_trans, part-le, part_with_record}
use Rattle.model_history.proofs.PruneLaws.{has_pruned, at_identities}
use Rattle.model_members.specs.View.{View, is_member, leader}
use Rattle.model_members.specs.Entry.{Entry, Mark, IsGroupOf, seen_by, merged, with_group}
use Rattle.model_members.specs.DataType.{Replication}
use Rattle.model_members.specs.Node.{Node, Input, Fate}
use Rattle.model_members.specs.Node.Input.{Update, Get, Take, Install, Flush, GossipTo, PruneTick, Timeout}
use Rattle.model_members.specs.Step.{step}
use Rattle.theorem_runs.specs.Logs.{IsMessageOf}
use Rattle.theorem_runs.specs.Pruning.{HistoryVariables}
use Rattle.theorem_runs.proofs.Keeping.{AreKept, IsDue, IsSeenByAll}
use Rattle.theorem_runs.proofs.Stepping.{BringsInput, HasView, keeps_any, moves}
use Rattle.theorem_runs.proofs.Stepping.HasView.{SameView, NewView}
use Rattle.theorem_runs.proofs.Mine.{IsMine, mine_kept, union_row, group_row, no_fewer}
use Rattle.theorem_runs.proofs.Growth.{part_same, part_of_union, part_with_group}
use Rattle.theorem_runs.proofs.KnownMarks.{Stands, stands_more, MarksKnown}

module _ {Op : Type 0} (variables : HistoryVariables Op) (i : ℕ) (small : i < identity_limit) (view : View) (Stays : Type 0) (base : Text → Entry Op) where
  -- a prune that the member has just performed, in this view
  pub record IsNewPrune (key : Text) (r k : ℕ) (x : Record Op) : Type 0 where
    pub stays : Stays
    pub leads : leader view ≡ i
    pub given : r < view.given
    pub removed : is_member view r ≡ false
    pub all : (t : ℕ) → is_member view t ≡ true → Stands variables key r view.number t (x.past r)
    pub late : at (variables.made key) i ≤ k

  -- the prunes among the member's own records
  pub record StepPrunes (key : Text) (entry : Entry Op) : Type 0 where
    pub mine : IsMine (variables.made key) i entry.history
    pub part : IsPartOf (base key).history entry.history
    pub known : (k r : ℕ) (x : Record Op) → HasRecord entry.history i k x → x.action ≡ Prune r → HasRecord (variables.made key) i k x ⊎ IsNewPrune key r k x
    pub once : (k m r : ℕ) (x y : Record Op) → HasRecord entry.history i k x → HasRecord entry.history i m y → x.action ≡ Prune r → y.action ≡ Prune r → k ≡ m

  -- a tick comes to the mark that the member held
  pub record IsOldMark (key : Text) (r : ℕ) (mark : Option Mark) : Type 0 where
    pub old : mark ≡ (base key).marks r
    pub stays : Stays

  -- the own records stay
  same_row : (key : Text) (entry after : Entry Op) → IsMine (variables.made key) i after.history → IsPartOf (base key).history after.history → after.history i ≡ entry.history i → StepPrunes key entry → StepPrunes key after
  same_row key entry after mine part row p =
      let was : (k : ℕ) (x : Record Op) → HasRecord after.history i k x → HasRecord entry.history i k x = λ k x h. sym (ap (λ (xs : List (Record Op)). slice_get xs k) row) ∙ h in
      record {
        mine = mine;
        part = part;
        known = λ k r x h e. p.known k r x (was k x h) e;
        once = λ k m r x y hx hy ex ey. p.once k m r x y (was k x hx) (was m y hy) ex ey;
      }

  -- a new record that prunes nothing, or what nothing has pruned
  one_more : (key : Text) (entry after : Entry Op) (action : Action Op) → after.history ≡ with_record entry.history i (record { action = action; past = versions entry.history }) → IsMine (variables.made key) i after.history
      → ((r : ℕ) → action ≡ Prune r → IsNewPrune key r (at entry.history i) (record { action = action; past = versions entry.history })) → ((r : ℕ) → action ≡ Prune r → is_pruned entry.history r ≡ false) → StepPrunes key entry → StepPrunes key after
  one_more key entry after action is mine new fresh p =
      let row : Record Op = record { action = action; past = versions entry.history } in
      let cases : (k : ℕ) (x : Record Op) → HasRecord after.history i k x → HasRecord entry.history i k x ⊎ ((i ≡ i) × (k ≡ at entry.history i) × (row ≡ x)) =
      λ k x h. has_with_record entry.history i (record { action = action; past = versions entry.history }) i k x (subst (λ (H : History Op). HasRecord H i k x) is h) in
      record {
        mine = mine;
        part = subst (λ (H : History Op). IsPartOf (base key).history H) (sym is) (part_trans (base key).history entry.history _ p.part (part_with_record entry.history i row));
        known = λ k r x h e. elim (cases k x h) [
          | inl old ↦ p.known k r x old e
          | inr now ↦ inr (subst (λ (y : Record Op). IsNewPrune key r k y) now.2 (subst (λ n. IsNewPrune key r n row) (sym now.1) (new r (ap (λ (y : Record Op). y.action) now.2 ∙ e))))
        ];
        once = λ k m r x y hx hy ex ey. both k m r x y (cases k x hx) (cases m y hy) ex ey;
      }
    where
      never_twice : (k r : ℕ) (x : Record Op) → HasRecord entry.history i k x → x.action ≡ Prune r → is_pruned entry.history r ≡ false → ⊥
      never_twice k r x h e unpruned = let f = sym unpruned ∙ has_pruned entry.history r i k x (at_identities i small) h e in cc f

      both : (k m r : ℕ) (x y : Record Op) → HasRecord entry.history i k x ⊎ ((i ≡ i) × (k ≡ at entry.history i) × (record { action = action; past = versions entry.history } ≡ x))
          → HasRecord entry.history i m y ⊎ ((i ≡ i) × (m ≡ at entry.history i) × (record { action = action; past = versions entry.history } ≡ y)) → x.action ≡ Prune r → y.action ≡ Prune r → k ≡ m
      both k m r x y (inl hx) (inl hy) ex ey = p.once k m r x y hx hy ex ey
      both k m r x y (inl hx) (inr ny) ex ey = absurd (never_twice k r x hx ex (fresh r (ap (λ (z : Record Op). z.action) ny.2 ∙ ey)))
      both k m r x y (inr nx) (inl hy) ex ey = absurd (never_twice m r y hy ey (fresh r (ap (λ (z : Record Op). z.action) nx.2 ∙ ex)))
      both k m r x y (inr nx) (inr ny) ex ey = nx.1 ∙ sym ny.1

  -- what the marks that the member held say of the prune
  new_prune : (views : List View) → ((key : Text) → MarksKnown views variables key (base key)) → (key : Text) (entry : Entry Op) (r : ℕ) → IsOldMark key r (entry.marks r) → IsDue i view entry r → IsSeenByAll view entry r → StepPrunes key entry
      → IsNewPrune key r (at entry.history i) (record { action = Prune r; past = versions entry.history })
  new_prune views known key entry r old due seen p =
      let was : (base key).marks r ≡ Some seen.mark = sym old.old ∙ seen.is in
      record {
        stays = old.stays;
        leads = due.leads;
        given = due.given;
        removed = due.removed;
        all = λ t member.
            subst (λ v. Stands variables key r v t (at entry.history r)) seen.now
            (stands_more variables key r seen.mark.view t (at (base key).history r) (at entry.history r) (part-le (base key).history entry.history p.part r) ((known key).seen r t seen.mark was (seen.seen t member)));
        late = no_fewer (variables.made key) i entry.history small p.mine;
      }

  pub prunes_kept : (views : List View) → ((key : Text) → MarksKnown views variables key (base key)) → AreKept StepPrunes (λ key theirs. IsTakenFrom (variables.made key) theirs.history) (λ key group. IsGroupOf (variables.made key) group) IsOldMark i view
  prunes_kept views known =
      let kept = mine_kept variables.made i view small in
      record {
        added = λ key entry op p. one_more key entry _ (Operation op) refl (kept.added key entry op p.mine) (λ r e. absurd (cc e)) (λ r e. absurd (cc e)) p;
        took = λ key mine theirs p taken.
            same_row key mine (seen_by i view.number (merged mine theirs)) (kept.took key mine theirs p.mine taken)
            (part_trans (base key).history mine.history _ p.part (part_of_union mine.history theirs.history)) (union_row (variables.made key) i mine.history small p.mine theirs.history taken) p;
        grouped = λ key entry group judgement p of_log.
            same_row key entry (with_group entry group) (kept.grouped key entry group judgement p.mine of_log)
            (part_trans (base key).history entry.history _ p.part (part_with_group entry group)) (group_row (variables.made key) i entry small p.mine group of_log judgement) p;
        marks = λ key entry shares r ticks due p. record { mine = p.mine; part = p.part; known = p.known; once = p.once };
        prunes = λ key entry shares r ticks due seen p.
            one_more key entry _ (Prune r) refl (kept.prunes key entry shares r tt due seen p.mine)
            (λ q e. let same : r ≡ q = cc e in subst (λ n. IsNewPrune key n (at entry.history i) (record { action = Prune r; past = versions entry.history })) same (new_prune views known key entry r ticks due seen p))
            (λ q e. let same : r ≡ q = cc e in ap (is_pruned entry.history) (sym same) ∙ due.unpruned) p;
      }

-- A STEP

module _ {Kind Op Shown : Type 0} (D : Replication Kind Op Shown) (variables : HistoryVariables Op) (node : Node Kind Op Shown) (small : node.identity < identity_limit) (fate : Fate) where
  -- the view stays in the step
  abbrev pub ViewStays : Input Op → Type 0
  ViewStays input = (step D node input fate).node.view ≡ node.view

  ticks_stay : (after : Node Kind Op Shown) → HasView node PruneTick after → after.view ≡ node.view
  ticks_stay after (SameView e) = e
  ticks_stay after (NewView view is later e) = absurd (cc is)

  -- what an input brings
  abbrev pub BringsLogs : Input Op → Type 0
  BringsLogs (Take from message) = IsMessageOf variables.made message
  BringsLogs _ = Unit {0}

  abbrev After : Input Op → Text → Entry Op → Type 0
  After input key entry = StepPrunes variables node.identity small node.view (ViewStays input) node.entries key entry

  brings : (input : Input Op) → BringsLogs input → BringsInput D (After input) (λ key theirs. IsTakenFrom (variables.made key) theirs.history) (λ key group. IsGroupOf (variables.made key) group) (IsOldMark variables node.identity small node.view (ViewStays input) node.entries) node input
  brings (Update key op level) of_logs = tt
  brings (Get key level) of_logs = tt
  brings (Take from message) of_logs = λ member. record { entries = of_logs.entries; groups = of_logs.groups }
  brings (Install view) of_logs = λ later key entry p. record { mine = p.mine; part = p.part; known = p.known; once = p.once }
  brings Flush of_logs = tt
  brings (GossipTo i) of_logs = tt
  brings PruneTick of_logs = λ key r. record { old = refl; stays = ticks_stay (step D node PruneTick fate).node (moves D node PruneTick fate).view }
  brings (Timeout op) of_logs = tt

  pub step_prunes : (views : List View) → ((key : Text) → MarksKnown views variables key (node.entries key)) → (input : Input Op) → BringsLogs input → ((key : Text) → IsMine (variables.made key) node.identity (node.entries key).history)
      → ((key : Text) → (node.entries key).history node.identity ≡ variables.made key node.identity)
      → ((key : Text) (k m r : ℕ) (x y : Record Op) → HasRecord (variables.made key) node.identity k x → HasRecord (variables.made key) node.identity m y → x.action ≡ Prune r → y.action ≡ Prune r → k ≡ m)
      → (key : Text) → StepPrunes variables node.identity small node.view (ViewStays input) node.entries key ((step D node input fate).node.entries key)
  step_prunes views known input of_logs mine own once key =
      keeps_any D (After input) (λ key theirs. IsTakenFrom (variables.made key) theirs.history) (λ key group. IsGroupOf (variables.made key) group) (IsOldMark variables node.identity small node.view (ViewStays input) node.entries) node
      (prunes_kept variables node.identity small node.view (ViewStays input) node.entries views known) input fate (brings input of_logs)
      (λ k.
      let made : (j : ℕ) (x : Record Op) → HasRecord (node.entries k).history node.identity j x → HasRecord (variables.made k) node.identity j x = λ j x h. sym (ap (λ (xs : List (Record Op)). slice_get xs j) (own k)) ∙ h in
      record {
        mine = mine k;
        part = part_same (node.entries k).history;
        known = λ j r x h e. inl (made j x h);
        once = λ j m r x y hx hy ex ey. once k j m r x y (made j x hx) (made m y hy) ex ey;
      }) key
