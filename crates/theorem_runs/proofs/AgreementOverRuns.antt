-- In every run all histories are parts of one log for each key: one lemma for each kind of event.
use Rattle.std.proofs.Common.{◌≡◌, ◌≢◌, ℕ, ◌+◌, ◌-◌, ◌<◌, ◌≤◌, List, [], ◌∷◌, ◌++◌, length, take, map, refl, sym, ap, subst, ◌∙◌, arith, Bool, true, false, Option, Some, None, inl, inr}
use Rattle.std.specs.Prelude.{⊤, ◌==◌, if◌then◌else◌, slice_get, find, unwrap_or, nat_lt}
use Rattle.std.specs.List.{AllByRecursion}
use Rattle.std.specs.Str.{bytes_eq}
use Rattle.std.proofs.lemmas.Bool.Decides.{eqb_tells}
use Rattle.std.proofs.lemmas.Bool.{ltb-true}
use Rattle.model_history.proofs.Bridge.{nothing_at}
use Rattle.model_history.specs.Texts.{Text}
use Rattle.model_history.specs.Table.{identity_limit, with_at}
use Rattle.model_members.specs.View.{View, place_of, with_joined, with_replaced, without_member, first_view}
use Rattle.model_history.specs.History.{Record, History, no_records, at, IsPartOf}
use Rattle.model_members.specs.Entry.{Entry, Group, seen_by, empty_entry}
use Rattle.model_members.specs.DataType.{Replication}
use Rattle.model_members.specs.Message.{Keyed, Message, Post, entries_in, groups_in, part_of}
use Rattle.model_members.specs.Node.{KeyDecl, Node, Input, Fate, keyed_entry}
use Rattle.model_members.specs.Node.Input.{Update, Get, Take, Install, Flush, GossipTo, PruneTick, Timeout}
use Rattle.model_members.specs.Step.{step, to_store}
use Rattle.model_members.specs.World.{World, Link, Store, no_entries, with_posts, after_store, Event, run, start, happens, message_at, loaded_entry, loaded_node, moved_on, with_view, stopped, started, IsLawful, AreLawful, IsGiven, StepsAt, IsRun}
use Rattle.model_members.specs.World.Event.{InputAt, Delivery, Loss, Removal, Joining, Restart}
use Rattle.model_members.proofs.Cases.{stepped_at, delivered}
use Rattle.model_history.specs.Log.{IsTakenFrom}
use Rattle.theorem_runs.specs.Logs.{IsMessageOf, HasLogs, IsLoggedBy, HasNoPrunes, IsNoTick, AreLogsOf}
use Rattle.model_history.proofs.HistoryLaws.{with_at_same, with_at_other}
use Rattle.model_history.proofs.PartLaws.{take_none, take_whole, taken_grown, part_trans}
use Rattle.model_history.proofs.PruneLaws.{found}
use Rattle.theorem_runs.proofs.Keeping.{if_holds, same_text}
use Rattle.theorem_runs.proofs.Unpruned.{group_of_grown, unpruned_part, unpruned_row}
use Rattle.theorem_runs.proofs.Agreement.{grown, quiet_step, own_stored, own_posts, mine_before, IsFair, OwnsAfter, owns_step, logs_after, message_grown, entry_grown, with_posts_all, moved_on_all, AllStored, stored_all, found_stored}
use Rattle.theorem_runs.proofs.Sending.{all_both, AreFrom, sends_step, stores_own}
use Rattle.theorem_runs.proofs.Parts.{part_entries, part_groups}

pub with_at_holds : {X : Type 0} (Q : X → Type 0) (table : ℕ → X) (i : ℕ) (x : X) → ((j : ℕ) → Q (table j)) → Q x → (j : ℕ) → Q (with_at table i x j)
with_at_holds Q table i x all q j = if_holds Q (j == i) x (table j) q (all j)

module _ {Op : Type 0} where
  -- nothing is a part of every log
  taken_nothing : (L : History Op) → IsTakenFrom L no_records
  taken_nothing L = record { part = λ i. refl; closed = λ i k r has. absurd (none k r has) }
    where
      none : (k : ℕ) (r : Record Op) → slice_get {X = Record Op} [] k ≡ Some r → ⊥
      none k r e = cc e

  pub part_of_logs : (logs : Text → History Op) (knows : Text → Bool) (whole message : Message Op) → message ≡ part_of knows whole → IsMessageOf logs whole → IsMessageOf logs message
  part_of_logs logs knows whole message is of_logs = record { entries = part_entries _ knows whole message is of_logs.entries; groups = part_groups _ knows whole message is of_logs.groups }

module _ {Kind Op Shown : Type 0} (D : Replication Kind Op Shown) where
  -- some logs fit the world, which go on from those before, without a prune where there was none and no tick came
  pub record IsLogged (before : Text → History Op) (Calm : Type 0) (world : World Kind Op Shown) : Type 0 where
    pub logs : Text → History Op
    pub has : HasLogs logs world
    pub grown : (key : Text) → IsPartOf (before key) (logs key)
    pub unpruned : Calm → ((key : Text) → HasNoPrunes (before key)) → (key : Text) → HasNoPrunes (logs key)
    pub others : (key : Text) (i : ℕ) → world.nodes i ≡ None → logs key i ≡ before key i

  same_logs : (logs : Text → History Op) (Calm : Type 0) (world : World Kind Op Shown) → HasLogs logs world → IsLogged logs Calm world
  same_logs logs Calm world has = record { logs = logs; has = has; grown = λ key j. sym (take_whole (logs key j)); unpruned = λ calm plain. plain; others = λ key i e. refl }

  -- the input is no tick
  abbrev IsCalm : Input Op → Type 0
  IsCalm PruneTick = ⊥
  IsCalm _ = ⊤

  -- A MEMBER'S STEP

  module _ (logs : Text → History Op) (world : World Kind Op Shown) (has : HasLogs logs world) (i : ℕ) (node : Node Kind Op Shown) (runs : world.nodes i ≡ Some node) (small : i < identity_limit)
      (new : Node Kind Op Shown) (after : OwnsAfter D logs i small new) (posts : List (Post Op)) (from_new : AreFrom new.entries new.identity posts) (es : List (Keyed (Entry Op))) (es_new : AllByRecursion (λ (e : Keyed (Entry Op)). e.item ≡ new.entries e.key) es) (fate : Fate) where
    abbrev logs' : Text → History Op
    logs' = logs_after D logs i small new after

    abbrev place : ℕ
    place = place_of world.view i

    -- one member has changed
    each : (Q : ℕ → Node Kind Op Shown → Type 0) → Q i new → ((j : ℕ) (n : Node Kind Op Shown) → j ≢ i → world.nodes j ≡ Some n → Q j n) → (j : ℕ) (n : Node Kind Op Shown) → with_at world.nodes i (Some new) j ≡ Some n → Q j n
    each Q here old j n e = elim (eqb_tells j i) [
      | inl is ↦
          let same : new ≡ n = (let e' : Some new ≡ Some n = sym (with_at_same world.nodes i (Some new)) ∙ ap (with_at world.nodes i (Some new)) (sym is.1) ∙ e in cc e') in
          subst (λ k. Q k n) (sym is.1) (subst (Q i) same here)
      | inr isnt ↦ old j n isnt.1 (sym (with_at_other world.nodes i (Some new) j isnt.1) ∙ e)
    ]

    abbrev changed_world : World Kind Op Shown
    changed_world = record world { nodes = with_at world.nodes i (Some new); links = with_posts world.links i posts; stores = with_at world.stores place (after_store fate es (world.stores place)) }

    stored_then : (q : ℕ) → AllStored (λ key (entry : Entry Op). IsTakenFrom (logs' key) entry.history) (world.stores q)
    stored_then q key entry e = entry_grown D logs i small new after key entry.history (has.stored q key entry e)

    pub changed_logged : HasLogs logs' changed_world
    changed_logged =
        record {
          few = has.few;
          given = each (λ j n. j < world.view.given) (has.given i node runs) (λ j n isnt e. has.given j n e);
          identity = each (λ j n. n.identity ≡ j) after.identity (λ j n isnt e. has.identity j n e);
          fresh = λ key j h. ap length (with_at_other (logs key) i ((new.entries key).history i) j (λ e. absurd (let a = has.given i node runs in omega (arith, e)))) ∙ has.fresh key j h;
          histories = λ key. (after.mine key).log;
          own = λ j n key. each (λ j n. (n.entries key).history j ≡ logs' key j) (sym (with_at_same (logs key) i ((new.entries key).history i)))
              (λ j n isnt e. has.own j n key e ∙ sym (with_at_other (logs key) i ((new.entries key).history i) j isnt)) j n;
          held = λ j n key. each (λ j n. IsTakenFrom (logs' key) (n.entries key).history) (after.mine key).taken (λ j n isnt e. entry_grown D logs i small new after key (n.entries key).history (has.held j n key e)) j n;
          sent = with_posts_all (λ from to. IsMessageOf logs') posts world.links i (λ from to index m e. message_grown D logs i small new after m (has.sent from to index m e)) (own_posts D logs i small new after posts from_new);
          stored = with_at_holds (AllStored (λ key (entry : Entry Op). IsTakenFrom (logs' key) entry.history)) world.stores place (after_store fate es (world.stores place)) stored_then
              (stored_all (λ key (entry : Entry Op). IsTakenFrom (logs' key) entry.history) fate es (world.stores place) (own_stored D logs i small new after es es_new) (stored_then place));
        }

  step_logged : (logs : Text → History Op) (world : World Kind Op Shown) → HasLogs logs world → (i : ℕ) (node : Node Kind Op Shown) → world.nodes i ≡ Some node → (small : i < identity_limit) (input : Input Op) (fate : Fate) → IsFair logs input → IsLogged logs (IsCalm input) (stepped_at D world i (Some node) input fate)
  step_logged logs world has i node runs small input fate fair =
      let owns : OwnsAfter D logs i small node =
      record { identity = has.identity i node runs; mine = λ key. mine_before logs key i (node.entries key).history (has.histories key) (has.held i node key runs) (has.own i node key runs) } in
      let after = owns_step D logs i small node input fate owns fair in
      record {
        logs = logs_after D logs i small (step D node input fate).node after;
        has = changed_logged logs world has i node runs small (step D node input fate).node after (step D node input fate).output.posts (sends_step D node input fate)
            (map keyed_entry (to_store node (step D node input fate).node)) (stores_own D node (step D node input fate).node) fate;
        grown = grown D logs i small (step D node input fate).node after;
        unpruned = λ calm plain key.
            unpruned_row (logs key) ((step D node input fate).node.entries key).history i (plain key)
            (quiet_step D logs i small plain node input fate owns.identity calm fair
            (λ k. record { mine = owns.mine k; unpruned = unpruned_part (logs k) (node.entries k).history (has.held i node k runs).part (plain k) }) key);
        others = λ key j e. elim (eqb_tells j i) [
          | inl is ↦ absurd (let f : Some (step D node input fate).node ≡ None = sym (with_at_same world.nodes i (Some (step D node input fate).node)) ∙ ap (with_at world.nodes i (Some (step D node input fate).node)) (sym is.1) ∙ e in cc f)
          | inr isnt ↦ with_at_other (logs key) i _ j isnt.1
        ];
      }

  stepped_logged : (logs : Text → History Op) (world : World Kind Op Shown) → HasLogs logs world → (i : ℕ) (input : Input Op) (fate : Fate) → StepsAt D world i input fate → IsFair logs input → IsLogged logs (IsCalm input) (stepped_at D world i (world.nodes i) input fate)
  stepped_logged logs world has i input fate at_step fair =
      subst (λ o. IsLogged logs (IsCalm input) (stepped_at D world i o input fate)) (sym at_step.runs)
      (step_logged logs world has i at_step.node at_step.runs (let a = has.given i at_step.node at_step.runs in let b = has.few in omega arith) input fate fair)

  -- a given input brings nothing, or a part of what was sent
  given_fair : (logs : Text → History Op) (world : World Kind Op Shown) → HasLogs logs world → (i : ℕ) (input : Input Op) → IsGiven D world i input → IsFair logs input
  given_fair logs world has i (Update key op level) g = tt
  given_fair logs world has i (Get key level) g = tt
  given_fair logs world has i (Take from message) g = part_of_logs logs g.2 g.1 message g.4 (has.sent from i g.0 g.1 g.3)
  given_fair logs world has i (Install view) g = tt
  given_fair logs world has i Flush g = tt
  given_fair logs world has i (GossipTo j) g = tt
  given_fair logs world has i PruneTick g = tt
  given_fair logs world has i (Timeout op) g = tt

  -- A NEW MEMBER

  loaded_taken : (logs : Text → History Op) (i : ℕ) (view : View) (store : Store Op) (name : Text) (o : Option (KeyDecl Kind)) → ((key : KeyDecl Kind) → o ≡ Some key → key.name ≡ name) → AllStored (λ key (entry : Entry Op). IsTakenFrom (logs key) entry.history) store
      → IsTakenFrom (logs name) (loaded_entry i view store o).history
  loaded_taken logs i view store name None named all = taken_nothing (logs name)
  loaded_taken logs i view store name (Some key) named all =
      let found = unwrap_or (store key.name) empty_entry in
      if_holds (λ (e : Entry Op). IsTakenFrom (logs name) e.history) key.durable (seen_by i view.number found) empty_entry
      (subst (λ n. IsTakenFrom (logs n) found.history) (named key refl) (found_stored (λ key (entry : Entry Op). IsTakenFrom (logs key) entry.history) store key.name (taken_nothing (logs key.name)) all)) (taken_nothing (logs name))

  start_logged : (logs : Text → History Op) (world : World Kind Op Shown) → HasLogs logs world → (view : View) (place : ℕ) → view.given ≡ world.view.given + 1 → world.view.given < identity_limit → (world' : World Kind Op Shown) → world'.view ≡ view
      → world'.links ≡ world.links → ((q : ℕ) → AllStored (λ key (entry : Entry Op). IsTakenFrom (logs key) entry.history) (world'.stores q))
      → ((j : ℕ) (n : Node Kind Op Shown) → world'.nodes j ≡ Some n → world.nodes j ≡ Some n) → HasLogs logs (started world' view place)
  start_logged logs world has view place one_more room world' now links stores nodes =
      let given_now : world'.view.given ≡ world.view.given + 1 = ap (λ (v : View). v.given) now ∙ one_more in
      let i = view.given - 1 in
      let i_is : i ≡ world.view.given = omega arith in
      let new : Node Kind Op Shown = loaded_node world'.keys i view (world'.stores place) in
      let taken : (key : Text) → IsTakenFrom (logs key) (new.entries key).history =
      (λ key. loaded_taken logs i view (world'.stores place) key (find (λ (d : KeyDecl Kind). bytes_eq d.name key) world'.keys) (λ d e. same_text d.name key (found (λ (d : KeyDecl Kind). bytes_eq d.name key) world'.keys d e)) (stores place)) in
      let each : (Q : ℕ → Node Kind Op Shown → Type 0) → Q i new → ((j : ℕ) (n : Node Kind Op Shown) → world.nodes j ≡ Some n → Q j n) → (j : ℕ) (n : Node Kind Op Shown) → with_at world'.nodes i (Some new) j ≡ Some n → Q j n =
      (λ Q here old. changed_nodes world'.nodes i new Q here (λ j n e. old j n (nodes j n e))) in
      record {
        few = omega arith;
        given = each (λ j n. j < world'.view.given) (omega arith) (λ j n e. let a = has.given j n e in omega arith);
        identity = each (λ j n. n.identity ≡ j) refl has.identity;
        fresh = λ key j h. has.fresh key j (omega arith);
        histories = has.histories;
        own = λ j n key e. each (λ j n. (n.entries key).history j ≡ logs key j)
            (let none : logs key i ≡ [] = nothing_at (logs key i) (has.fresh key i (omega arith)) in (taken key).part i ∙ ap (take (at (new.entries key).history i)) none ∙ take_none _ ∙ sym none)
            (λ j n e. has.own j n key e) j n e;
        held = λ j n key e. each (λ j n. IsTakenFrom (logs key) (n.entries key).history) (taken key) (λ j n e. has.held j n key e) j n e;
        sent = λ from to index m e. has.sent from to index m (ap (λ (l : ℕ → ℕ → Link Op). slice_get (l from to).messages index) (sym links) ∙ e);
        stored = stores;
      }
    where
      changed_nodes : (nodes : ℕ → Option (Node Kind Op Shown)) (i : ℕ) (new : Node Kind Op Shown) (Q : ℕ → Node Kind Op Shown → Type 0) → Q i new → ((j : ℕ) (n : Node Kind Op Shown) → nodes j ≡ Some n → Q j n) → (j : ℕ) (n : Node Kind Op Shown) → with_at nodes i (Some new) j ≡ Some n → Q j n
      changed_nodes nodes i new Q here old j n e = elim (eqb_tells j i) [
        | inl is ↦
            let same : new ≡ n = (let e' : Some new ≡ Some n = sym (with_at_same nodes i (Some new)) ∙ ap (with_at nodes i (Some new)) (sym is.1) ∙ e in cc e') in
            subst (λ k. Q k n) (sym is.1) (subst (Q i) same here)
        | inr isnt ↦ old j n (sym (with_at_other nodes i (Some new) j isnt.1) ∙ e)
      ]

  -- AN EVENT

  calm_input : (logs : Text → History Op) (i : ℕ) (input : Input Op) (fate : Fate) (world : World Kind Op Shown) → IsLogged logs (IsCalm input) world → IsLogged logs (IsNoTick (InputAt i input fate)) world
  calm_input logs i (Update key op level) fate world logged = logged
  calm_input logs i (Get key level) fate world logged = logged
  calm_input logs i (Take from message) fate world logged = logged
  calm_input logs i (Install view) fate world logged = logged
  calm_input logs i Flush fate world logged = logged
  calm_input logs i (GossipTo j) fate world logged = logged
  calm_input logs i PruneTick fate world logged = logged
  calm_input logs i (Timeout op) fate world logged = logged

  -- a member that stops leaves the others
  others_stay : (nodes : ℕ → Option (Node Kind Op Shown)) (i j : ℕ) (n : Node Kind Op Shown) → with_at nodes i None j ≡ Some n → nodes j ≡ Some n
  others_stay nodes i j n e = elim (eqb_tells j i) [
    | inl is ↦ absurd (let e' : ◌≡◌ {A = Option (Node Kind Op Shown)} None (Some n) = sym (with_at_same nodes i None) ∙ ap (with_at nodes i None) (sym is.1) ∙ e in cc e')
    | inr isnt ↦ sym (with_at_other nodes i None j isnt.1) ∙ e
  ]

  moved_logged : (logs : Text → History Op) (world : World Kind Op Shown) → HasLogs logs world → (from to index : ℕ) → HasLogs logs (record world { links = moved_on world.links from to index })
  moved_logged logs world has from to index =
      record {
        few = has.few;
        given = has.given;
        identity = has.identity;
        fresh = has.fresh;
        histories = has.histories;
        own = has.own;
        held = has.held;
        stored = has.stored;
        sent = moved_on_all (λ from to. IsMessageOf logs) world.links from to index has.sent;
      }

  delivered_logged : (logs : Text → History Op) (world : World Kind Op Shown) (has : HasLogs logs world) (from to index : ℕ) (message : Message Op) (o : Option (Message Op)) → o ≡ Some message → IsMessageOf logs message → (fate : Fate) → StepsAt D world to (Take from message) fate → IsLogged logs ⊤ (delivered D world from to index o fate)
  delivered_logged logs world has from to index message o e of_logs fate at_step =
      subst (λ x. IsLogged logs ⊤ (delivered D world from to index x fate)) (sym e)
      (stepped_logged logs (record world { links = moved_on world.links from to index }) (moved_logged logs world has from to index) to (Take from message) fate
      (record { node = at_step.node; runs = at_step.runs; has_room = at_step.has_room; fate_fits = at_step.fate_fits }) of_logs)

  removed_logged : (logs : Text → History Op) (world : World Kind Op Shown) → HasLogs logs world → (i : ℕ) → HasLogs logs (with_view (stopped world i) (without_member world.view i))
  removed_logged logs world has i =
      record {
        few = let a = has.few in omega arith;
        given = λ j n e. let a = has.given j n (others_stay world.nodes i j n e) in omega arith;
        identity = λ j n e. has.identity j n (others_stay world.nodes i j n e);
        fresh = λ key j h. has.fresh key j (omega arith);
        histories = has.histories;
        own = λ j n key e. has.own j n key (others_stay world.nodes i j n e);
        held = λ j n key e. has.held j n key (others_stay world.nodes i j n e);
        sent = has.sent;
        stored = has.stored;
      }

  pub happens_logged : (logs : Text → History Op) (world : World Kind Op Shown) → HasLogs logs world → (event : Event Op) → IsLawful D world event → IsLogged logs (IsNoTick event) (happens D world event)
  happens_logged logs world has (InputAt i input fate) lawful = calm_input logs i input fate _ (stepped_logged logs world has i input fate lawful.1 (given_fair logs world has i input lawful.0))
  happens_logged logs world has (Delivery from to index fate) lawful =
      delivered_logged logs world has from to index lawful.0 (message_at world from to index) lawful.1 (has.sent from to index lawful.0 lawful.1) fate lawful.2
  happens_logged logs world has (Loss from to) lawful = same_logs logs ⊤ _ (moved_logged logs world has from to (world.links from to).next)
  happens_logged logs world has (Removal i) lawful = same_logs logs ⊤ _ (removed_logged logs world has i)
  happens_logged logs world has (Joining place) lawful =
      let view = with_joined world.view place in
      same_logs logs ⊤ _
      (start_logged logs world has view place refl lawful.2 (with_view (record world { stores = with_at world.stores place no_entries }) view) refl refl
      (with_at_holds (AllStored (λ key (entry : Entry Op). IsTakenFrom (logs key) entry.history)) world.stores place no_entries has.stored (λ key entry e. absurd (cc e))) (λ j n e. e))
  happens_logged logs world has (Restart i) lawful =
      let view = with_replaced world.view i in
      same_logs logs ⊤ _ (start_logged logs world has view (place_of world.view i) refl lawful.1 (with_view (stopped world i) view) refl refl has.stored (λ j n e. others_stay world.nodes i j n e))

  -- A RUN

  -- all histories of a world with logs are parts of later logs
  pub logged_by : (logs later : Text → History Op) (world : World Kind Op Shown) → HasLogs logs world → ((key : Text) → IsPartOf (logs key) (later key)) → IsLoggedBy later world
  logged_by logs later world has grown =
      record {
        held = λ i node key e. taken_grown (node.entries key).history (logs key) (later key) (has.held i node key e) (grown key);
        sent = λ from to index message e.
            let m = has.sent from to index message e in
            record {
              entries = all_both _ _ _ (λ (x : Keyed (Entry Op)) p q. taken_grown x.item.history (logs x.key) (later x.key) p (grown x.key)) (entries_in message) m.entries m.entries;
              groups = all_both _ _ _ (λ (g : Keyed (Group Op)) p q. group_of_grown (logs g.key) (later g.key) (grown g.key) g.item p) (groups_in message) m.groups m.groups;
            };
        stored = λ place key entry e. taken_grown entry.history (logs key) (later key) (has.stored place key entry e) (grown key);
      }

  pub record RunLogged (before : Text → History Op) (world : World Kind Op Shown) (events : List (Event Op)) : Type 0 where
    pub logs : Text → History Op
    pub grown : (key : Text) → IsPartOf (before key) (logs key)
    pub unpruned : AllByRecursion IsNoTick events → ((key : Text) → HasNoPrunes (before key)) → (key : Text) → HasNoPrunes (logs key)
    pub last : HasLogs logs (run D world events)
    pub throughout : (first rest : List (Event Op)) → events ≡ first ++ rest → IsLoggedBy logs (run D world first)

  run_logged : (logs : Text → History Op) (world : World Kind Op Shown) (events : List (Event Op)) → AreLawful D world events → HasLogs logs world → RunLogged logs world events
  run_logged logs world [] lawful has =
      record {
        logs = logs;
        grown = λ key j. sym (take_whole (logs key j));
        unpruned = λ calm plain. plain;
        last = has;
        throughout = λ first rest e. at_once first rest e;
      }
    where
      at_once : (first rest : List (Event Op)) → [] ≡ first ++ rest → IsLoggedBy logs (run D world first)
      at_once [] rest e = logged_by logs logs world has (λ key j. sym (take_whole (logs key j)))
      at_once (event ∷ first) rest e = absurd (cc e)
  run_logged logs world (event ∷ events) lawful has =
      let one = happens_logged logs world has event lawful.0 in
      let more = run_logged one.logs (happens D world event) events lawful.1 one.has in
      let longer : (key : Text) → IsPartOf (logs key) (more.logs key) = λ key. part_trans (logs key) (one.logs key) (more.logs key) (one.grown key) (more.grown key) in
      record {
        logs = more.logs;
        grown = longer;
        unpruned = λ calm plain. more.unpruned calm.1 (one.unpruned calm.0 plain);
        last = more.last;
        throughout = λ first rest e. later_on more.logs longer more.throughout first rest e;
      }
    where
      later_on : (later : Text → History Op) → ((key : Text) → IsPartOf (logs key) (later key)) → ((first rest : List (Event Op)) → events ≡ first ++ rest → IsLoggedBy later (run D (happens D world event) first))
          → (first rest : List (Event Op)) → event ∷ events ≡ first ++ rest → IsLoggedBy later (run D world first)
      later_on later longer through [] rest e = logged_by logs later world has longer
      later_on later longer through (other ∷ first) rest e =
          let same : event ≡ other = cc e in
          let those : events ≡ first ++ rest = cc e in
          subst (λ (x : Event Op). IsLoggedBy later (run D (happens D world x) first)) same (through first rest those)

  no_record : (k : ℕ) (r : Record Op) → slice_get {X = Record Op} [] k ≡ Some r → ⊥
  no_record k r e = cc e

  pub start_has : (members : ℕ) (keys : List (KeyDecl Kind)) → members ≤ identity_limit → HasLogs (λ key. no_records) (start {Op = Op} {Shown = Shown} members keys)
  start_has members keys few =
      record {
        few = few;
        given = λ j n e. (at_start members keys j n e).0;
        identity = λ j n e. (at_start members keys j n e).1;
        fresh = λ key j h. refl;
        histories = λ key. record { within = λ j h. refl; closed = λ j k r h. absurd (no_record k r h); numbered = λ j k r h. absurd (no_record k r h); transitive = λ j k l m r s h. absurd (no_record k r h) };
        own = λ j n key e. ap (λ (H : History Op). H j) ((at_start members keys j n e).2 key);
        held = λ j n key e. subst (λ H. IsTakenFrom no_records H) (sym ((at_start members keys j n e).2 key)) (taken_nothing no_records);
        sent = λ from to index m e. absurd (no_message index m e);
        stored = λ place key entry e. absurd (cc e);
      }
    where
      no_message : (index : ℕ) (m : Message Op) → slice_get {X = Message Op} [] index ≡ Some m → ⊥
      no_message index m e = cc e

      empty_loaded : (keys : List (KeyDecl Kind)) (j : ℕ) (v : View) (o : Option (KeyDecl Kind)) → (loaded_entry {Op = Op} j v no_entries o).history ≡ no_records
      empty_loaded keys j v None = refl
      empty_loaded keys j v (Some key) = if_holds (λ (e : Entry Op). e.history ≡ no_records) key.durable (seen_by j v.number empty_entry) empty_entry refl refl

      at_start : (members : ℕ) (keys : List (KeyDecl Kind)) (j : ℕ) (n : Node Kind Op Shown) → (start {Op = Op} {Shown = Shown} members keys).nodes j ≡ Some n → (j < members) × (n.identity ≡ j) × ((key : Text) → (n.entries key).history ≡ no_records)
      at_start members keys j n e = by_test (nat_lt j members) refl e
        where
          by_test : (b : Bool) → nat_lt j members ≡ b → (if b then Some (loaded_node {Op = Op} {Shown = Shown} keys j (first_view members) no_entries) else None) ≡ Some n → (j < members) × (n.identity ≡ j) × ((key : Text) → (n.entries key).history ≡ no_records)
          by_test true is e =
              let same : loaded_node {Op = Op} {Shown = Shown} keys j (first_view members) no_entries ≡ n = cc e in
              subst (λ (x : Node Kind Op Shown). (j < members) × (x.identity ≡ j) × ((key : Text) → (x.entries key).history ≡ no_records)) same (ltb-true j members is, refl, λ key. empty_loaded keys j (first_view members) _)
          by_test false is e = absurd (cc e)

  -- all histories of a run, on the way too, are parts of one log for each key
  pub logs_throughout : (members : ℕ) (keys : List (KeyDecl Kind)) (events : List (Event Op)) (world : World Kind Op Shown) → IsRun D members keys events world → (logs : Text → History Op) × AreLogsOf D members keys events logs
  logs_throughout members keys events world is_run =
      let all = run_logged (λ key. no_records) (start members keys) events is_run.lawful (start_has members keys is_run.few) in
      (all.logs, record { last = all.last; throughout = all.throughout; unpruned = λ calm. all.unpruned calm (λ key. record { none = λ i k removed r has e. absurd (no_record k r has) }) })
