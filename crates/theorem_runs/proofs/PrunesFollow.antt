-- What is known of all prunes that were ever made holds after each event, and the records made are the run's logs.
use Rattle.std.proofs.Common.{◌≡◌, ℕ, ◌<◌, ◌≤◌, List, refl, sym, ap, subst, ◌∙◌, arith, true, false, Option, Some, None, inl, inr}
use Rattle.std.specs.Prelude.{if◌then◌else◌, slice_get}
use Rattle.std.proofs.lemmas.Bool.{lt-ltb, le-ltb}
use Rattle.model_history.specs.Texts.{Text}
use Rattle.model_history.specs.Table.{identity_limit}
use Rattle.model_history.specs.History.{Record, History, at, HasRecord}
use Rattle.model_history.specs.History.Action.{Prune}
use Rattle.model_history.proofs.HistoryLaws.{slice_get-below}
use Rattle.model_history.proofs.PartLaws.{part-le}
use Rattle.model_members.specs.View.{View, is_member, leader}
use Rattle.model_members.specs.Entry.{Entry}
use Rattle.model_members.specs.DataType.{Replication}
use Rattle.model_members.specs.Node.{Node, Input, Fate}
use Rattle.model_members.specs.Node.Input.{Update, Get, Take, Install, Flush, GossipTo, PruneTick, Timeout}
use Rattle.model_members.specs.Step.{step}
use Rattle.model_members.specs.World.{World, Event, happens, views_of, IsGiven, IsLawful}
use Rattle.theorem_runs.specs.Logs.{HasLogs, IsNoTick}
use Rattle.theorem_runs.specs.Pruning.{HistoryVariables, noted, own_records, view_number}
use Rattle.theorem_runs.proofs.Mine.{IsMine}
use Rattle.theorem_runs.proofs.Agreement.{mine_before}
use Rattle.theorem_runs.proofs.AgreementOverRuns.{IsLogged, part_of_logs, happens_logged}
use Rattle.theorem_runs.proofs.Happening.{NodeAfter, Follows}
use Rattle.theorem_runs.proofs.Happening.NodeAfter.{Same, Stepped, Started}
use Rattle.theorem_runs.proofs.RunViews.{HasViews, still_listed}
use Rattle.theorem_runs.proofs.StoredParts.{HasParts, LoadedFrom, loaded_from}
use Rattle.theorem_runs.proofs.StoredParts.LoadedFrom.{LoadedEmpty, LoadedStored}
use Rattle.theorem_runs.proofs.KnownMarks.{Stands}
use Rattle.theorem_runs.proofs.MarksFollow.{HasMarks, stands_later}
use Rattle.theorem_runs.proofs.PruneRecords.{StepPrunes, IsNewPrune, BringsLogs, step_prunes}

-- THE RECORDS MADE ARE THE LOGS

module _ {Kind Op Shown : Type 0} (D : Replication Kind Op Shown) where
  module _ (variables : HistoryVariables Op) (world : World Kind Op Shown) (has : HasLogs variables.made world) (event : Event Op) (lawful : IsLawful D world event) where
    abbrev one : IsLogged D variables.made (IsNoTick event) (happens D world event)
    one = happens_logged D variables.made world has event lawful

    made_row : (key : Text) (i : ℕ) (o : Option (Node Kind Op Shown)) → (happens D world event).nodes i ≡ o → own_records o key i (variables.made key i) ≡ one.logs key i
    made_row key i None e = sym (one.others key i e)
    made_row key i (Some node) e = one.has.own i node key e

    made_logs : (noted variables (happens D world event)).made ≡ one.logs
    made_logs = λ k key i. made_row key i ((happens D world event).nodes i) refl k

    pub made_follow : HasLogs (noted variables (happens D world event)).made (happens D world event)
    made_follow = subst (λ (logs : Text → History Op). HasLogs logs (happens D world event)) (sym made_logs) one.has

-- WHAT IS KNOWN OF PRUNES

-- who made a prune led its view, and each member of this view stood in the mark, with no more of the removed identity's records than stand in the prune's past
pub record PruneKnown {Op : Type 0} (views : List View) (variables : HistoryVariables Op) (key : Text) (r o k : ℕ) (x : Record Op) : Type 0 where
  pub view : View
  pub listed : slice_get views view.number ≡ Some view
  pub made_in : variables.made_in key o k ≡ view.number
  pub leads : leader view ≡ o
  pub given : r < view.given
  pub removed : is_member view r ≡ false
  pub all : (t : ℕ) → is_member view t ≡ true → Stands variables key r view.number t (x.past r)

pub record HasPrunes {Kind Op Shown : Type 0} (variables : HistoryVariables Op) (world : World Kind Op Shown) : Type 0 where
  pub known : (key : Text) (o k r : ℕ) (x : Record Op) → HasRecord (variables.made key) o k x → x.action ≡ Prune r → PruneKnown (views_of world) variables key r o k x
  pub once : (key : Text) (o k m r : ℕ) (x y : Record Op) → HasRecord (variables.made key) o k x → HasRecord (variables.made key) o m y → x.action ≡ Prune r → y.action ≡ Prune r → k ≡ m

module _ {Kind Op Shown : Type 0} (D : Replication Kind Op Shown) (variables : HistoryVariables Op) (world next : World Kind Op Shown) (has : HasViews D variables world) (follows : Follows D world next) (parts : HasParts D world) (marks : HasMarks variables world) (logs : HasLogs variables.made world) where
  abbrev variables' : HistoryVariables Op
  variables' = noted variables next

  -- a record that was made keeps its view
  pub made_before : (key : Text) (o k : ℕ) → k < at (variables.made key) o → (noted variables next).made_in key o k ≡ variables.made_in key o k
  made_before key o k h = ap (λ b. if b then variables.made_in key o k else view_number (next.nodes o) 0) (lt-ltb k (at (variables.made key) o) h)

  -- a new record has the view of who made it
  pub made_now : (key : Text) (o k : ℕ) (new : Node Kind Op Shown) → next.nodes o ≡ Some new → at (variables.made key) o ≤ k → (noted variables next).made_in key o k ≡ new.view.number
  made_now key o k new runs h = ap (λ b. if b then variables.made_in key o k else view_number (next.nodes o) 0) (le-ltb k (at (variables.made key) o) h) ∙ ap (λ n. view_number n 0) runs

  old_prune : (prunes : HasPrunes variables world) (key : Text) (o k r : ℕ) (x : Record Op) → HasRecord (variables.made key) o k x → x.action ≡ Prune r → PruneKnown (views_of next) variables' key r o k x
  old_prune prunes key o k r x h e =
      let p = prunes.known key o k r x h e in
      record {
        view = p.view;
        listed = still_listed D variables world next has follows p.view.number p.view p.listed;
        made_in = made_before key o k (slice_get-below (variables.made key o) x k h) ∙ p.made_in;
        leads = p.leads;
        given = p.given;
        removed = p.removed;
        all = λ t member. stands_later D variables world next has follows parts key r p.view.number t (x.past r) (p.all t member);
      }

  brings_logs : (node : Node Kind Op Shown) (small : node.identity < identity_limit) (fate : Fate) (t : ℕ) (input : Input Op) → IsGiven D world t input → BringsLogs D variables node small fate input
  brings_logs node small fate t (Take from message) comes = part_of_logs variables.made comes.2 comes.1 message comes.4 (logs.sent from t comes.0 comes.1 comes.3)
  brings_logs node small fate t (Update key op level) comes = tt
  brings_logs node small fate t (Get key level) comes = tt
  brings_logs node small fate t (Install view) comes = tt
  brings_logs node small fate t Flush comes = tt
  brings_logs node small fate t (GossipTo i) comes = tt
  brings_logs node small fate t PruneTick comes = tt
  brings_logs node small fate t (Timeout op) comes = tt

  small_of : (t : ℕ) (node : Node Kind Op Shown) → world.nodes t ≡ Some node → t < identity_limit
  small_of t node runs = let a = logs.given t node runs in let b = logs.few in omega arith

  module _ (prunes : HasPrunes variables world) where
    -- the prunes among a stepping member's own records
    stepped_prunes : (t : ℕ) (old : Node Kind Op Shown) (input : Input Op) (fate : Fate) (key : Text) → (was : world.nodes t ≡ Some old) → IsGiven D world t input
        → StepPrunes variables t (small_of t old was) old.view ((step D old input fate).node.view ≡ old.view) old.entries key ((step D old input fate).node.entries key)
    stepped_prunes t old input fate key was comes =
        subst (λ j. (s : j < identity_limit) → StepPrunes variables j s old.view ((step D old input fate).node.view ≡ old.view) old.entries key ((step D old input fate).node.entries key)) ident
        (λ s. step_prunes D variables old s fate (views_of world) (λ k. marks.held t old k was) input (brings_logs old s fate t input comes)
        (λ k. subst (λ j. IsMine (variables.made k) j (old.entries k).history) (sym ident) (mine_before variables.made k t (old.entries k).history (logs.histories k) (logs.held t old k was) (logs.own t old k was)))
        (λ k. subst (λ j. (old.entries k).history j ≡ variables.made k j) (sym ident) (logs.own t old k was))
        (λ k i m r x y. prunes.once k old.identity i m r x y) key) (small_of t old was)
      where
        ident : old.identity ≡ t
        ident = (has.running t old was).identity

    -- a new prune is known by the view in which it was made
    fresh_prune : (t : ℕ) (old new : Node Kind Op Shown) (input : Input Op) (fate : Fate) (key : Text) (k r : ℕ) (x : Record Op) (was : world.nodes t ≡ Some old) → next.nodes t ≡ Some new → new ≡ (step D old input fate).node
        → IsNewPrune variables t (small_of t old was) old.view ((step D old input fate).node.view ≡ old.view) old.entries key r k x → PruneKnown (views_of next) variables' key r t k x
    fresh_prune t old new input fate key k r x was runs is p =
        record {
          view = old.view;
          listed = still_listed D variables world next has follows old.view.number old.view (has.running t old was).viewed;
          made_in = made_now key t k new runs p.late ∙ ap (λ (n : Node Kind Op Shown). n.view.number) is ∙ ap (λ (v : View). v.number) p.stays;
          leads = p.leads;
          given = p.given;
          removed = p.removed;
          all = λ u member. stands_later D variables world next has follows parts key r old.view.number u (x.past r) (p.all u member);
        }

    -- a new member has no own records
    started_none : (t : ℕ) (new : Node Kind Op Shown) (key : Text) → t ≡ world.view.given → LoadedFrom D world next t key (new.entries key) → at (new.entries key).history t ≡ 0
    started_none t new key is (LoadedEmpty empty none) = ap (λ (e : Entry Op). at e.history t) empty
    started_none t new key is (LoadedStored j node stored was durable place there loaded) =
        let part = part-le stored.history (node.entries key).history (parts.stored j node was key stored there durable) t in
        let held = part-le (node.entries key).history (variables.made key) (logs.held j node key was).part t in
        let none = logs.fresh key t (omega arith) in
        let a : at (new.entries key).history t ≡ at stored.history t = ap (λ (e : Entry Op). at e.history t) loaded in omega arith

    no_record_at : (t : ℕ) (H : History Op) (k : ℕ) (x : Record Op) → at H t ≡ 0 → HasRecord H t k x → ⊥
    no_record_at t H k x none h = let a = slice_get-below (H t) x k h in omega arith

    known_by : (key : Text) (t k r : ℕ) (x : Record Op) (o : Option (Node Kind Op Shown)) → next.nodes t ≡ o → slice_get (own_records o key t (variables.made key t)) k ≡ Some x → x.action ≡ Prune r → PruneKnown (views_of next) variables' key r t k x
    known_by key t k r x None runs h e = old_prune prunes key t k r x h e
    known_by key t k r x (Some new) runs h e = by_node (follows.nodes t new runs)
      where
        by_node : NodeAfter D world next t new → PruneKnown (views_of next) variables' key r t k x
        by_node (Same was stays) = old_prune prunes key t k r x (sym (ap (λ (xs : List (Record Op)). slice_get xs k) (logs.own t new key was)) ∙ h) e
        by_node (Stepped old input fate was comes is views) =
            elim ((stepped_prunes t old input fate key was comes).known k r x (sym (ap (λ (n : Node Kind Op Shown). slice_get ((n.entries key).history t) k) is) ∙ h) e) [
              | inl before ↦ old_prune prunes key t k r x before e
              | inr now ↦ fresh_prune t old new input fate key k r x was runs is now
            ]
        by_node (Started store is given member made from) = absurd (no_record_at t (new.entries key).history k x (started_none t new key is (loaded_from D variables world next has follows t new store given made from key)) h)

    once_by : (key : Text) (t k m r : ℕ) (x y : Record Op) (o : Option (Node Kind Op Shown)) → next.nodes t ≡ o → slice_get (own_records o key t (variables.made key t)) k ≡ Some x → slice_get (own_records o key t (variables.made key t)) m ≡ Some y
        → x.action ≡ Prune r → y.action ≡ Prune r → k ≡ m
    once_by key t k m r x y None runs hx hy ex ey = prunes.once key t k m r x y hx hy ex ey
    once_by key t k m r x y (Some new) runs hx hy ex ey = by_node (follows.nodes t new runs)
      where
        by_node : NodeAfter D world next t new → k ≡ m
        by_node (Same was stays) =
            prunes.once key t k m r x y (sym (ap (λ (xs : List (Record Op)). slice_get xs k) (logs.own t new key was)) ∙ hx) (sym (ap (λ (xs : List (Record Op)). slice_get xs m) (logs.own t new key was)) ∙ hy) ex ey
        by_node (Stepped old input fate was comes is views) =
            (stepped_prunes t old input fate key was comes).once k m r x y (sym (ap (λ (n : Node Kind Op Shown). slice_get ((n.entries key).history t) k) is) ∙ hx)
            (sym (ap (λ (n : Node Kind Op Shown). slice_get ((n.entries key).history t) m) is) ∙ hy) ex ey
        by_node (Started store is given member made from) = absurd (no_record_at t (new.entries key).history k x (started_none t new key is (loaded_from D variables world next has follows t new store given made from key)) hx)

    pub prunes_follow : HasPrunes variables' next
    prunes_follow =
        record {
          known = λ key o k r x h e. known_by key o k r x (next.nodes o) refl h e;
          once = λ key o k m r x y hx hy ex ey. once_by key o k m r x y (next.nodes o) refl hx hy ex ey;
        }
