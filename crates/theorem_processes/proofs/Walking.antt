-- Whatever happens to the processes of a cluster, they make a run.
--     begins        the start
--     advances        what comes of one thing that happens
--     one_run, hold        what comes of all
use Rattle.std.proofs.Common.{◌≡◌, ℕ, List, [], ◌∷◌, ◌++◌, map, refl, sym, ap, subst, ◌∙◌, Bool, Option, Some, None, inl, inr, append_assoc, get_or}
use Rattle.std.specs.Prelude.{is_some, if◌then◌else◌}
use Rattle.std.specs.List.{AllZip}
use Rattle.std.proofs.lemmas.Bool.{cases_lt, lt-ltb, le-ltb}
use Rattle.model_history.specs.Texts.{Text}
use Rattle.model_history.specs.History.{History, IsHistory, IsExactlyPruned, at, union, no_records}
use Rattle.model_history.proofs.HistoryLaws.{append_nothing}
use Rattle.model_members.specs.DataType.{Replication}
use Rattle.model_members.specs.Message.{Message as Sent}
use Rattle.model_members.specs.Node as nodes
use Rattle.model_members.specs.View.{first_view}
use Rattle.model_members.specs.World as worlds
use Rattle.model_members.specs.World.{Event, start, run, no_entries, loaded_node, IsRun}
use Rattle.theorem_runs.specs.Pruning.{variables_of}
use Rattle.theorem_runs.proofs.PruningSafety.{unions_are_pruned}
use Rattle.theorem_runs.proofs.Safety.{IsSafe, runs_are_safe}
use Rattle.theorem_runs.proofs.HeldHistories.{all_have}
use Rattle.theorem_runs.proofs.SameShown.{same_history}
use Rattle.theorem_operations.proofs.Moments.{run_append}
use Rattle.model_kinds.specs.declared.operation.Op.{Op}
use Rattle.model_kinds.specs.declared.shown.Shown.{Shown}
use Rattle.data_lattice.specs.declared.replica.Replica.{Ghosts}
use Rattle.data_lattice.specs.declared.spelled.SpelledData.{Ghosts as Spelling}
use Rattle.data_delta_codec.specs.declared.spelled_delta.SpelledDelta.{Ghosts as DeltaSpelling}
use Rattle.member_keeper.specs.declared.keeper.Keeper.{Ghosts as Keeping}
use Rattle.member_keeper.specs.Tables.{Table, IsTable}
use Rattle.member_messages.specs.declared.message.Message.{Message}
use Rattle.member_node.specs.declared.key.KeyDecl.{KeyDecl}
use Rattle.member_node.specs.declared.node.Node.{Node}
use Rattle.member_node.specs.Keys.{AreOfKinds, declared}
use Rattle.member_node.specs.Members.{StandsForMessage}
use Rattle.member_node.specs.Stores.{SpellsStore}
use Rattle.world_places.specs.Standing.{TellsStore}
use Rattle.world_places.proofs.Storing.{spells_nothing}
use Rattle.theorem_processes.specs.Forgetting.{StandsForProcess}
use Rattle.theorem_processes.specs.Processes.{Processes, Happening, Begin, IsSpelledBy, MayHappen, AllHappen, happened, after_all}
use Rattle.theorem_processes.specs.Processes.Happening.{Steps, Takes, Refuses, Forgets, Limits, Declares, Leaves, Joins, Returns}
use Rattle.theorem_processes.specs.Runs.{lasting, AreOneRun, HoldHistories, events_of, all_events, events_from}
use Rattle.theorem_processes.proofs.Forgetting.{loaded_in_part}
use Rattle.theorem_processes.proofs.Inputs.{Advances, gives, takes}
use Rattle.theorem_processes.proofs.Membership.{refuses, forgets_ends, limits, declares, leaves, joins, returns}
use Rattle.theorem_processes.proofs.Parts.{kinds_of_part}
use Rattle.theorem_processes.proofs.Ways.{IsWay, Reached, IsAtWork, at_work, way_of, way_by}

-- a run that goes on leads to the world to which the further events lead
goes_to : {Kind Op Shown : Type 0} (D : Replication Kind Op Shown) (count : ℕ) (keys : List (nodes.KeyDecl Kind)) (events more : List (Event Op)) (world next : worlds.World Kind Op Shown) → IsRun D count keys events world → IsRun D count keys (events ++ more) next → next ≡ run D world more
goes_to D count keys events more world next is_run then_run =
    then_run.leads ∙ run_append D (start count keys) events more ∙ ap (λ (w : worlds.World _ _ _). run D w more) (sym is_run.leads)

module _ {T K Kind Delta : Type 0} {ghosts : Ghosts T Kind Op Delta} {keeping : Keeping K} (spelling : Spelling T Kind Op Delta) (deltas : DeltaSpelling T Kind Op Delta) (alike : (a b : K) → is_some (keeping.table a) ≡ is_some (keeping.table b)) (kinds : Text → Kind) (decls : List (KeyDecl T Kind Op Delta)) (of_kinds : AreOfKinds kinds decls) (count : ℕ)
    (across : (logs : Text → History Op) (post read : Message T Kind Op Delta ghosts) (told : Sent Op) (bytes : List ℕ) → IsSpelledBy spelling deltas post bytes → IsSpelledBy spelling deltas read bytes
    → StandsForMessage ghosts.kind_of ghosts.IsDataOf kinds logs post told → StandsForMessage ghosts.kind_of ghosts.IsDataOf kinds logs read told) where
  abbrev IsReached : List (Event Op) → Processes ghosts keeping → worlds.World Kind Op Shown → Type 0
  IsReached events ps world = Reached {ghosts = ghosts} {keeping = keeping} spelling kinds decls count events ps world

  -- THE START

  module _ (ps : Processes ghosts keeping) (begin : Begin decls count ps) where
    abbrev first : worlds.World Kind Op Shown
    first = start count (map declared decls)

    running : (logs : Text → History Op) → ((key : Text) → IsHistory (logs key)) → (i : ℕ) → StandsForProcess {ghosts = ghosts} {keeping = keeping} kinds logs (ps.forgotten i) (ps.members i) (first.nodes i)
    running logs histories i = elim (cases_lt i count) [
      | inl within ↦
          let made = begin.made i within in
          subst (λ (o : Option (Node T K Kind Op Delta ghosts keeping)). StandsForProcess {ghosts = ghosts} {keeping = keeping} kinds logs (ps.forgotten i) o (first.nodes i)) (sym made.1) (
            loaded_node (map declared decls) i (first_view count) no_entries,
            ap (λ (b : Bool). if b then Some (loaded_node (map declared decls) i (first_view count) no_entries) else None) (lt-ltb i count within),
            loaded_in_part kinds logs (ps.forgotten i) made.0 (map declared made.2.own) (map declared decls) i (first_view count) no_entries made.2.part (λ name decl unknown named durable. refl)
                (made.2.is_new kinds logs histories (kinds_of_part kinds made.2.own decls made.2.part of_kinds)),
          )
      | inr past ↦
          subst (λ (o : Option (Node T K Kind Op Delta ghosts keeping)). StandsForProcess {ghosts = ghosts} {keeping = keeping} kinds logs (ps.forgotten i) o (first.nodes i)) (sym (begin.no_more i past))
          (ap (λ (b : Bool). if b then Some (loaded_node (map declared decls) i (first_view count) no_entries) else None) (le-ltb i count past))
    ]

    stores : (logs : Text → History Op) → (i : ℕ) (member : Node T K Kind Op Delta ghosts keeping) → ps.members i ≡ Some member → TellsStore ghosts keeping spelling kinds logs (Some member.keeper) no_entries
    stores logs i member is = λ table told. elim (cases_lt i count) [
      | inl within ↦
          let made = begin.made i within in
          let same : made.0 ≡ member = (let e : Some made.0 ≡ Some member = sym made.1 ∙ is in cc e) in
          let none = made.2.empty table (ap (λ (x : Node T K Kind Op Delta ghosts keeping). keeping.table x.keeper) same ∙ told) in
          (subst IsTable (sym none) tt, subst (λ (t : Table). SpellsStore ghosts spelling kinds logs t no_entries) (sym none) (spells_nothing ghosts keeping spelling kinds logs))
      | inr past ↦ absurd (let e : None ≡ Some member = sym (begin.no_more i past) ∙ is in cc e)
    ]

    pub begins : IsReached [] ps first
    begins =
        record {
          is_run = record { some = begin.some; few = begin.few; lawful = tt; leads = refl };
          stand = λ logs way. record {
            views = sym begin.view;
            keys = refl;
            running = running logs way.histories;
            links = λ from to. subst (λ (ms : List (Message T Kind Op Delta ghosts)). AllZip (StandsForMessage ghosts.kind_of ghosts.IsDataOf kinds logs) ms []) (sym (begin.silent from to)) tt;
            stores = stores logs;
          };
        }

  -- ONE THING THAT HAPPENS

  pub advances : (events : List (Event Op)) (ps : Processes ghosts keeping) (world : worlds.World Kind Op Shown) → IsReached events ps world → (h : Happening ghosts keeping) → MayHappen spelling deltas decls ps h → Advances {ghosts = ghosts} {keeping = keeping} spelling kinds decls count events ps world h
  advances events ps world r (Steps at given fate output after) ok = gives spelling alike kinds decls count events ps world r at given fate output after ok.0 ok.1
  advances events ps world r (Takes from to index bytes read fate output after) ok = takes spelling alike kinds decls count events ps world r deltas across from to index bytes read fate output after ok.0 ok.1
  advances events ps world r (Refuses at after) ok = refuses spelling alike kinds decls of_kinds count events ps world r at after ok.0 ok.1 ok.2
  advances events ps world r (Forgets at before after) ok = forgets_ends spelling alike kinds decls of_kinds count events ps world r at before after ok.0 ok.1 ok.2
  advances events ps world r (Limits at limit after) ok = limits spelling alike kinds decls of_kinds count events ps world r at limit after ok.0 ok.1 ok.2
  advances events ps world r (Declares at decl after) ok = declares spelling alike kinds decls of_kinds count events ps world r at decl after ok.0 ok.1 ok.2
  advances events ps world r (Leaves i) ok = leaves spelling alike kinds decls of_kinds count events ps world r i ok.0 ok.1
  advances events ps world r (Joins place new) ok = joins spelling alike kinds decls of_kinds count events ps world r place new ok.0 ok.1 ok.2 ok.3
  advances events ps world r (Returns i keeper new) ok = returns spelling alike kinds decls of_kinds count events ps world r i keeper new ok.0 ok.1 ok.2

  -- ALL OF IT

  walk : (hs : List (Happening ghosts keeping)) (events : List (Event Op)) (ps : Processes ghosts keeping) (world : worlds.World Kind Op Shown) → IsReached events ps world → AllHappen spelling deltas decls ps hs
      → (last : worlds.World Kind Op Shown) × IsReached (events ++ all_events spelling world ps hs) (after_all ps hs) last
  walk [] events ps world r ok = (world, subst (λ (es : List (Event Op)). IsReached es ps world) (sym (append_nothing events)) r)
  walk (h ∷ hs) events ps world r ok =
      let one = advances events ps world r h ok.0 in
      let es = events_of world ps h in
      let here = goes_to (lasting ghosts spelling) count (map declared decls) events es world one.next r.is_run one.reached.is_run in
      let rest = walk hs (events ++ es) (happened ps h) one.next one.reached ok.1 in
      let same : (events ++ es) ++ all_events spelling one.next (happened ps h) hs ≡ events ++ all_events spelling world ps (h ∷ hs) =
      append_assoc events es (all_events spelling one.next (happened ps h) hs) ∙ ap (λ (w : worlds.World Kind Op Shown). events ++ (es ++ all_events spelling w (happened ps h) hs)) here in
      (rest.0, subst (λ (fs : List (Event Op)). IsReached fs (after_all ps (h ∷ hs)) rest.0) same rest.1)

  module _ (ps : Processes ghosts keeping) (begin : Begin decls count ps) (hs : List (Happening ghosts keeping)) (ok : AllHappen spelling deltas decls ps hs) where
    abbrev end : Processes ghosts keeping
    end = after_all ps hs

    abbrev all : List (Event Op)
    all = events_from spelling decls count ps hs

    came : (last : worlds.World Kind Op Shown) × IsReached all end last
    came = walk hs [] ps (start count (map declared decls)) (begins ps begin) ok

    pub one_run : AreOneRun {ghosts = ghosts} {keeping = keeping} spelling kinds decls deltas count ps hs end
    one_run =
        record {
          world = came.0;
          is_run = came.1.is_run;
          stand = λ logs are. came.1.stand logs (way_by (lasting ghosts spelling) count (map declared decls) logs all are);
          told = λ next may. (advances all end came.0 came.1 next may).told;
        }

    -- WHAT MEMBERS HOLD

    abbrev held : Option (nodes.Node Kind Op Shown) → Text → History Op
    held None key = no_records
    held (Some node) key = (node.entries key).history

    abbrev taken : ℕ → Text → History Op
    taken i = held (came.0.nodes i)

    now : (logs : Text → History Op) × IsWay (lasting ghosts spelling) count (map declared decls) logs all
    now = way_of (lasting ghosts spelling) count (map declared decls) all came.0 came.1.is_run

    safe : IsSafe (lasting ghosts spelling) (variables_of (lasting ghosts spelling) (start count (map declared decls)) all) came.0
    safe = runs_are_safe (lasting ghosts spelling) count (map declared decls) all came.0 came.1.is_run

    work : (i : ℕ) (member : Node T K Kind Op Delta ghosts keeping) → end.members i ≡ Some member → IsAtWork {ghosts = ghosts} {keeping = keeping} spelling kinds decls count now.0 end came.0 i member
    work i member is = at_work spelling kinds decls count now.0 end came.0 (came.1.stand now.0 now.1) i member is

    is_taken : (i : ℕ) (node : nodes.Node Kind Op Shown) → came.0.nodes i ≡ Some node → (key : Text) → (node.entries key).history ≡ taken i key
    is_taken i node runs key = ap (λ (o : Option (nodes.Node Kind Op Shown)). held o key) (sym runs)

    pub hold : HoldHistories {ghosts = ghosts} {keeping = keeping} spelling kinds decls end
    hold =
        record {
          logs = now.0;
          taken = taken;
          images = λ i member is.
              let there = work i member is in
              λ k d within. (there.node.entries (get_or member.keys.items k d).name, is_taken i there.node there.runs (get_or member.keys.items k d).name, (there.stands.stands.entries k d within).held);
          histories = λ i member key is. (let there = work i member is in subst IsHistory (is_taken i there.node there.runs key) (all_have _ _ safe.logs i there.node key there.runs));
          pruned = λ i j a b key are.
              let one = work i a are.0 in
              let other = work j b are.1 in
              subst (λ (H : History Op). IsExactlyPruned (union H (taken j key))) (is_taken i one.node one.runs key)
              (subst (λ (J : History Op). IsExactlyPruned (union (one.node.entries key).history J)) (is_taken j other.node other.runs key) (unions_are_pruned (lasting ghosts spelling) _ _ safe i j one.node other.node key one.runs other.runs));
          alike = λ i j a b key are same.
              let one = work i a are.0 in
              let other = work j b are.1 in
              sym (is_taken i one.node one.runs key)
              ∙ same_history (lasting ghosts spelling) (variables_of (lasting ghosts spelling) (start count (map declared decls)) all) came.0 safe i j one.node other.node one.runs other.runs key
              (λ origin. ap (λ (H : History Op). at H origin) (is_taken i one.node one.runs key) ∙ same origin ∙ ap (λ (H : History Op). at H origin) (sym (is_taken j other.node other.runs key)))
              ∙ is_taken j other.node other.runs key;
        }
