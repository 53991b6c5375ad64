-- Members that leave, join and come back are the model's; and a step that was refused, what is forgotten, another limit and a declared key are nothing.
use Rattle.std.proofs.Common.{◌≡◌, ◌≢◌, ℕ, ◌+◌, ◌-◌, ◌<◌, List, [], ◌∷◌, ◌++◌, length, map, get_or, refl, sym, ap, subst, ◌∙◌, arith, Bool, true, false, Option, Some, None, inl, inr}
use Rattle.std.specs.Prelude.{max, is_some, if◌then◌else◌, IsTrue, IsFalse, slice_get, option_map}
use Rattle.std.proofs.lemmas.Bool.Decides.{eqb_tells}
use Rattle.std.proofs.lemmas.Option.{slice_get-map, slice_get-get_or}
use Rattle.std.proofs.lemmas.Simd.{map-map}
use Rattle.model_history.specs.Table.{identity_limit, with_at}
use Rattle.model_history.specs.Texts.{Text}
use Rattle.model_history.specs.History.{History, IsHistory}
use Rattle.model_history.proofs.HistoryLaws.{append_nothing, with_at_same, with_at_other, slice_get-below}
use Rattle.model_members.specs.DataType.{Replication}
use Rattle.model_members.specs.Node as nodes
use Rattle.model_members.specs.View.{View, is_member, is_taken, place_of, without_member, with_joined, with_replaced}
use Rattle.model_members.specs.World as worlds
use Rattle.model_members.specs.World.{Event, Store, happens, views_of, no_entries, loaded_node, stopped}
use Rattle.model_members.specs.World.Event.{Removal, Joining, Restart}
use Rattle.theorem_operations.proofs.Moments.{run_pushed}
use Rattle.theorem_runs.proofs.ViewLaws.{place_without, joins_at, replaces_at}
use Rattle.base_bytes.specs.TextOrder.{IsRising}
use Rattle.model_kinds.specs.declared.operation.Op.{Op}
use Rattle.model_kinds.specs.declared.shown.Shown.{Shown}
use Rattle.data_lattice.specs.declared.replica.Replica.{Ghosts}
use Rattle.data_lattice.specs.declared.spelled.SpelledData.{Ghosts as Spelling}
use Rattle.member_keeper.specs.declared.keeper.Keeper.{Ghosts as Keeping}
use Rattle.member_keeper.specs.Calls.{Becomes}
use Rattle.member_keeper.specs.Tables.{Table, IsTable}
use Rattle.member_views.specs.Sound.{last_view}
use Rattle.member_node.specs.declared.declaring.Declared.{Declared}
use Rattle.member_node.specs.declared.declaring.Declared.TheVariants.{New, Already, Otherwise}
use Rattle.member_node.specs.declared.key.KeyDecl.{KeyDecl}
use Rattle.member_node.specs.declared.node.Node.{Node}
use Rattle.member_node.specs.Declaring as declaring
use Rattle.member_node.specs.Declaring.{declaration_of, IsDeclared}
use Rattle.member_node.specs.Keys.{AreOfKinds, declared}
use Rattle.member_node.specs.Limits.{IsLimited}
use Rattle.member_node.specs.Members.{StandsForNode}
use Rattle.member_node.specs.Steps.{IsUnchanged}
use Rattle.member_node.specs.Stores.{SpellsStore}
use Rattle.world_places.specs.Standing.{TellsStore}
use Rattle.world_places.proofs.Lists.{at_each}
use Rattle.world_members.proofs.Standings.{last_is, still_stands}
use Rattle.world_places.proofs.Storing.{spells_nothing, store_stays}
use Rattle.theorem_processes.specs.Declaring.{declared_keys, HasDeclared}
use Rattle.theorem_processes.specs.Forgetting.{HasForgotten, StandsInPart, StandsForProcess}
use Rattle.theorem_processes.specs.Processes.{Processes, IsMade, IsMaybeLimited, IsBack, with_view, with_member, happened, next_identity, now_of}
use Rattle.theorem_processes.specs.Processes.Happening.{Refuses, Forgets, Limits, Declares, Leaves, Joins, Returns}
use Rattle.theorem_processes.specs.Runs.{lasting, StandFor}
use Rattle.theorem_processes.proofs.Forgetting.{loaded_in_part, goes_on, forgets, declares_key}
use Rattle.theorem_processes.proofs.Inputs.{Advances}
use Rattle.theorem_processes.proofs.Keys.{none_found}
use Rattle.theorem_processes.proofs.Parts.{kinds_of_part, stores_no_others}
use Rattle.theorem_processes.proofs.Tables.{both_at}
use Rattle.theorem_processes.proofs.Views.{joined_place, joined_apart, replaced_place}
use Rattle.theorem_processes.proofs.Ways.{Reached, at_work, way_of, way_before, member_of_view, members_below, keys_there, places_there}

module _ {T K Kind Delta : Type 0} {ghosts : Ghosts T Kind Op Delta} {keeping : Keeping K} where
  -- what stands in a table of members with another one at a place
  pub here_or_other : (members : ℕ → Option (Node T K Kind Op Delta ghosts keeping)) (i : ℕ) (new : Option (Node T K Kind Op Delta ghosts keeping)) (P : ℕ → Node T K Kind Op Delta ghosts keeping → Type 0)
      → ((member : Node T K Kind Op Delta ghosts keeping) → new ≡ Some member → P i member) → ((j : ℕ) (member : Node T K Kind Op Delta ghosts keeping) → j ≢ i → members j ≡ Some member → P j member)
      → (j : ℕ) (member : Node T K Kind Op Delta ghosts keeping) → with_at members i new j ≡ Some member → P j member
  here_or_other members i new P here other j member is = elim (eqb_tells j i) [
    | inl same ↦ subst (λ (k : ℕ). P k member) (sym same.1) (here member (sym (ap (λ (b : Bool). if b then new else members j) same.0) ∙ is))
    | inr apart ↦ other j member apart.1 (sym (ap (λ (b : Bool). if b then new else members j) apart.0) ∙ is)
  ]

  -- a member with another limit of steps stands for what it stood for, and has the same keeper
  limited_stands : (kinds : Text → Kind) (logs : Text → History Op) (node : nodes.Node Kind Op Shown) (made new : Node T K Kind Op Delta ghosts keeping) → IsMaybeLimited made new
      → StandsForNode ghosts.kind_of ghosts.IsDataOf kinds logs made node → StandsForNode ghosts.kind_of ghosts.IsDataOf kinds logs new node
  limited_stands kinds logs node made new (inl same) s = subst (λ (code : Node T K Kind Op Delta ghosts keeping). StandsForNode ghosts.kind_of ghosts.IsDataOf kinds logs code node) (sym same) s
  limited_stands kinds logs node made new (inr limited) s = limited.1.stands kinds logs node s

  limited_keeper : (made new : Node T K Kind Op Delta ghosts keeping) → IsMaybeLimited made new → new.keeper ≡ made.keeper
  limited_keeper made new (inl same) = ap (λ (code : Node T K Kind Op Delta ghosts keeping). code.keeper) same
  limited_keeper made new (inr limited) = limited.1.keeper

module _ {T K Kind Delta : Type 0} {ghosts : Ghosts T Kind Op Delta} {keeping : Keeping K} (spelling : Spelling T Kind Op Delta) (alike : (a b : K) → is_some (keeping.table a) ≡ is_some (keeping.table b)) (kinds : Text → Kind) (decls : List (KeyDecl T Kind Op Delta)) (of_kinds : AreOfKinds kinds decls) (count : ℕ)
    (events : List (Event Op)) (ps : Processes ghosts keeping) (world : worlds.World Kind Op Shown) (r : Reached {ghosts = ghosts} {keeping = keeping} spelling kinds decls count events ps world) where
  abbrev D : Replication Kind Op Shown
  D = lasting ghosts spelling

  abbrev keys : List (nodes.KeyDecl Kind)
  keys = map declared decls

  abbrev Stand : (Text → History Op) → Processes ghosts keeping → worlds.World Kind Op Shown → Type 0
  Stand logs qs w = StandFor {ghosts = ghosts} {keeping = keeping} spelling kinds decls logs qs w

  abbrev Running : (Text → History Op) → ℕ → Option (Node T K Kind Op Delta ghosts keeping) → Option (nodes.Node Kind Op Shown) → Type 0
  Running logs forgotten code running = StandsForProcess {ghosts = ghosts} {keeping = keeping} kinds logs forgotten code running

  abbrev Tell : (Text → History Op) → K → Store Op → Type 0
  Tell logs keeper store = TellsStore ghosts keeping spelling kinds logs (Some keeper) store

  last : last_view ps.views ≡ world.view
  last = let now = way_of D count keys events world r.is_run in last_is world ps.views (r.stand now.0 now.1).views

  -- a running member is one of the view
  in_view : (logs : Text → History Op) → Stand logs ps world → (i : ℕ) (member : Node T K Kind Op Delta ghosts keeping) → ps.members i ≡ Some member → is_member world.view i ≡ true
  in_view logs s i member runs = let there = at_work spelling kinds decls count logs ps world s i member runs in member_of_view D count keys events world r.is_run i there.node there.runs

  below : (t : ℕ) → is_member world.view t ≡ true → t < world.view.given
  below = members_below D count keys events world r.is_run

  -- THE MEMBER IS ANOTHER, AND THE WORLD THE SAME

  module _ (at : ℕ) (after before : Node T K Kind Op Delta ghosts keeping) (runs : ps.members at ≡ Some before) (forgotten : ℕ → ℕ)
      (stays : (logs : Text → History Op) (node : nodes.Node Kind Op Shown) → ((key : Text) → IsHistory (logs key)) → world.nodes at ≡ Some node → StandsInPart kinds logs (ps.forgotten at) before node → StandsInPart kinds logs (forgotten at) after node)
      (others : (j : ℕ) → j ≢ at → forgotten j ≡ ps.forgotten j) (keeps : (logs : Text → History Op) (store : Store Op) → Tell logs before.keeper store → Tell logs after.keeper store) where
    abbrev changed : Processes ghosts keeping
    changed = record (with_member ps at (Some after)) { forgotten = forgotten }

    stands_changed : (logs : Text → History Op) → ((key : Text) → IsHistory (logs key)) → Stand logs ps world → Stand logs changed world
    stands_changed logs histories s =
        let there = at_work spelling kinds decls count logs ps world s at before runs in
        record {
          views = s.views;
          keys = s.keys;
          running = at_each (λ j code. Running logs (forgotten j) code (world.nodes j)) ps.members at (Some after) (there.node, there.runs, stays logs there.node histories there.runs there.stands)
              (λ j other. subst (λ (n : ℕ). Running logs n (ps.members j) (world.nodes j)) (sym (others j other)) (s.running j));
          links = s.links;
          stores = here_or_other ps.members at (Some after) (λ j member. Tell logs member.keeper (world.stores (place_of world.view j)))
              (λ member is. (let same : after ≡ member = cc is in
              subst (λ (x : Node T K Kind Op Delta ghosts keeping). Tell logs x.keeper (world.stores (place_of world.view at))) same (keeps logs (world.stores (place_of world.view at)) (s.stores at before runs))))
              (λ j member other was. s.stores j member was);
        }

    still_reached : Reached {ghosts = ghosts} {keeping = keeping} spelling kinds decls count (events ++ []) changed world
    still_reached =
        subst (λ (es : List (Event Op)). Reached {ghosts = ghosts} {keeping = keeping} spelling kinds decls count es changed world) (sym (append_nothing events))
        (record { is_run = r.is_run; stand = λ logs way. stands_changed logs way.histories (r.stand logs way) })

  same_keeper : (logs : Text → History Op) (before after : Node T K Kind Op Delta ghosts keeping) (store : Store Op) → after.keeper ≡ before.keeper → Tell logs before.keeper store → Tell logs after.keeper store
  same_keeper logs before after store same tells = subst (λ (k : K). Tell logs k store) (sym same) tells

  pub refuses : (at : ℕ) (after before : Node T K Kind Op Delta ghosts keeping) → ps.members at ≡ Some before → IsUnchanged before after → Advances {ghosts = ghosts} {keeping = keeping} spelling kinds decls count events ps world (Refuses at after)
  refuses at after before runs unchanged =
      record {
        next = world;
        reached = still_reached at after before runs ps.forgotten
            (λ logs node histories there s. goes_on kinds logs (ps.forgotten at) before after node (λ n. still_stands spelling kinds logs before after n unchanged.same) s) (λ j other. refl)
            (λ logs store tells. store_stays ghosts spelling kinds logs keeping alike before.keeper after.keeper store unchanged.told.table tells);
        told = tt;
      }

  pub limits : (at limit : ℕ) (after before : Node T K Kind Op Delta ghosts keeping) → ps.members at ≡ Some before → IsLimited before limit after → Advances {ghosts = ghosts} {keeping = keeping} spelling kinds decls count events ps world (Limits at limit after)
  limits at limit after before runs limited =
      record {
        next = world;
        reached = still_reached at after before runs ps.forgotten
            (λ logs node histories there s. goes_on kinds logs (ps.forgotten at) before after node (λ n. limited.stands kinds logs n) s) (λ j other. refl)
            (λ logs store tells. same_keeper logs before after store limited.keeper tells);
        told = tt;
      }

  pub forgets_ends : (at before : ℕ) (after old : Node T K Kind Op Delta ghosts keeping) → ps.members at ≡ Some old → HasForgotten before old after → Advances {ghosts = ghosts} {keeping = keeping} spelling kinds decls count events ps world (Forgets at before after)
  forgets_ends at before after old runs has =
      let more = max (ps.forgotten at) after.operations.forgotten in
      record {
        next = world;
        reached = still_reached at after old runs (with_at ps.forgotten at more)
            (λ logs node histories there s. subst (λ (n : ℕ). StandsInPart kinds logs n after node) (sym (with_at_same ps.forgotten at more)) (forgets kinds logs (ps.forgotten at) old after node has.stands s))
            (λ j other. with_at_other ps.forgotten at more j other) (λ logs store tells. same_keeper logs old after store has.same.keeper tells);
        told = tt;
      }

  -- A KEY IS DECLARED

  keys_are : world.keys ≡ keys
  keys_are = let now = way_of D count keys events world r.is_run in (r.stand now.0 now.1).keys

  module _ (at : ℕ) (decl : KeyDecl T Kind Op Delta) (after before : Node T K Kind Op Delta ghosts keeping) (runs : ps.members at ≡ Some before) where
    -- nothing changed
    stays_so : after ≡ before → Advances {ghosts = ghosts} {keeping = keeping} spelling kinds decls count events ps world (Declares at decl after)
    stays_so same =
        record {
          next = world;
          reached = still_reached at after before runs ps.forgotten
              (λ logs node histories there s. subst (λ (code : Node T K Kind Op Delta ghosts keeping). StandsInPart kinds logs (ps.forgotten at) code node) (sym same) s) (λ j other. refl)
              (λ logs store tells. same_keeper logs before after store (ap (λ (code : Node T K Kind Op Delta ghosts keeping). code.keeper) same) tells);
          told = tt;
        }

    module _ (rising : IsRising (map (λ (key : KeyDecl T Kind Op Delta). key.key) decls)) (index : ℕ) (listed : slice_get decls index ≡ Some decl) where
      of_kind : kinds decl.key ≡ decl.kind
      of_kind =
          let within = slice_get-below decls decl index listed in
          let same : get_or decls index decl ≡ decl = (let e : Some (get_or decls index decl) ≡ Some decl = sym (slice_get-get_or decls index decl within) ∙ listed in cc e) in
          subst (λ (key : KeyDecl T Kind Op Delta). kinds key.key ≡ key.kind) same (of_kinds index decl within)

      module _ (node : nodes.Node Kind Op Shown) (there : world.nodes at ≡ Some node) where
        own_keys : keys ≡ node.keys
        own_keys = sym (keys_there D count keys events world r.is_run at node there ∙ keys_are)

        rising_there : IsRising (map (λ (key : nodes.KeyDecl Kind). key.name) node.keys)
        rising_there = subst (λ (ks : List (nodes.KeyDecl Kind)). IsRising (map (λ (key : nodes.KeyDecl Kind). key.name) ks)) own_keys (subst IsRising (sym (map-map (λ (key : nodes.KeyDecl Kind). key.name) declared decls)) rising)

        listed_there : slice_get node.keys index ≡ Some (declared decl)
        listed_there = ap (λ (ks : List (nodes.KeyDecl Kind)). slice_get ks index) (sym own_keys) ∙ slice_get-map declared decls index ∙ ap (option_map declared) listed

      takes_its_place : declaration_of decl.key before.keys.items ≡ None → IsDeclared decl before after → Advances {ghosts = ghosts} {keeping = keeping} spelling kinds decls count events ps world (Declares at decl after)
      takes_its_place none is =
          record {
            next = world;
            reached = still_reached at after before runs ps.forgotten
                (λ logs node histories there s. declares_key kinds logs (ps.forgotten at) before after node decl index (rising_there node there) (listed_there node there) histories of_kind (none_found (declared_keys before) decl.key none) is s)
                (λ j other. refl) (λ logs store tells. same_keeper logs before after store is.keeper tells);
            told = tt;
          }

      by_answer : (answer : Declared) → declaring.Declares before decl after answer → Advances {ghosts = ghosts} {keeping = keeping} spelling kinds decls count events ps world (Declares at decl after)
      by_answer New is = takes_its_place is.0 is.1
      by_answer Already is = stays_so is.1
      by_answer Otherwise is = stays_so is.3

  pub declares : (at : ℕ) (decl : KeyDecl T Kind Op Delta) (after before : Node T K Kind Op Delta ghosts keeping) → ps.members at ≡ Some before → HasDeclared decls decl before after → Advances {ghosts = ghosts} {keeping = keeping} spelling kinds decls count events ps world (Declares at decl after)
  declares at decl after before runs has = by_answer at decl after before runs has.rising has.index has.listed has.answer has.declares

  -- A CHANGE OF THE VIEWS

  -- the processes then stand for the world after a lawful event
  reached_by : (event : Event Op) → worlds.IsLawful D world event → (qs : Processes ghosts keeping) → ((logs : Text → History Op) → ((key : Text) → IsHistory (logs key)) → Stand logs ps world → Stand logs qs (happens D world event)) → Reached {ghosts = ghosts} {keeping = keeping} spelling kinds decls count (events ++ event ∷ []) qs (happens D world event)
  reached_by event lawful qs stands =
      record {
        is_run = run_pushed D count keys events world event r.is_run lawful;
        stand = λ logs way. stands logs way.histories (r.stand logs (way_before D count keys logs events (event ∷ []) way));
      }

  -- A MEMBER LEAVES

  module _ (i : ℕ) (there : IsTrue (is_member (now_of ps) i)) (more : 1 < length (now_of ps).members) where
    stands_left : (logs : Text → History Op) → Stand logs ps world → Stand logs (with_view (with_member ps i None) (without_member world.view i)) (happens D world (Removal i))
    stands_left logs s =
        record {
          views = ap (λ (vs : List View). vs ++ without_member world.view i ∷ []) s.views;
          keys = s.keys;
          running = both_at (λ j code running. Running logs (ps.forgotten j) code running) ps.members world.nodes i None None refl (λ j other. s.running j);
          links = s.links;
          stores = here_or_other ps.members i None (λ j member. Tell logs member.keeper (world.stores (place_of (without_member world.view i) j))) (λ member is. absurd (cc is))
              (λ j member other was. subst (λ (p : ℕ). Tell logs member.keeper (world.stores p)) (sym (place_without world.view i j other)) (s.stores j member was));
        }

    pub leaves : Advances {ghosts = ghosts} {keeping = keeping} spelling kinds decls count events ps world (Leaves i)
    leaves =
        record {
          next = happens D world (Removal i);
          reached =
              reached_by (Removal i) (subst (λ (v : View). IsTrue (is_member v i) × (1 < length v.members)) last (there, more)) (happened ps (Leaves i))
              (λ logs histories s. subst (λ (v : View). Stand logs (with_view (with_member ps i None) (without_member v i)) (happens D world (Removal i))) (sym last) (stands_left logs s));
          told = tt;
        }

  -- A MEMBER JOINS

  abbrev given : ℕ
  given = world.view.given

  one_less : given + 1 - 1 ≡ given
  one_less = omega arith

  module _ (place : ℕ) (new : Node T K Kind Op Delta ghosts keeping) (small : place < 8) (free : IsFalse (is_taken (now_of ps) place)) (room : next_identity ps < identity_limit) (is_made : IsMade decls (next_identity ps) (with_joined (now_of ps) place) new) where
    abbrev joined : View
    joined = with_joined world.view place

    free_there : is_taken world.view place ≡ false
    free_there = subst (λ (v : View). IsFalse (is_taken v place)) last free

    made_there : IsMade decls given joined new
    made_there = subst (λ (v : View). IsMade decls v.given (with_joined v place) new) last is_made

    nodes_joined : (happens D world (Joining place)).nodes ≡ with_at world.nodes given (Some (loaded_node world.keys given joined no_entries))
    nodes_joined =
        ap (λ (n : ℕ). with_at world.nodes n (Some (loaded_node world.keys n joined (with_at world.stores place no_entries place)))) one_less
        ∙ ap (λ (store : Store Op). with_at world.nodes given (Some (loaded_node world.keys given joined store))) (with_at_same world.stores place no_entries)

    module _ (logs : Text → History Op) (histories : (key : Text) → IsHistory (logs key)) (s : Stand logs ps world) where
      new_stands : StandsInPart kinds logs (ps.forgotten given) new (loaded_node world.keys given joined no_entries)
      new_stands =
          subst (λ (ks : List (nodes.KeyDecl Kind)). StandsInPart kinds logs (ps.forgotten given) new (loaded_node ks given joined no_entries)) (sym s.keys)
          (loaded_in_part kinds logs (ps.forgotten given) new (map declared made_there.own) keys given joined no_entries made_there.part (λ name decl unknown named durable. refl)
          (made_there.is_new kinds logs histories (kinds_of_part kinds made_there.own decls made_there.part of_kinds)))

      new_tells : Tell logs new.keeper no_entries
      new_tells = λ table told.
          let none = made_there.empty table told in
          (subst IsTable (sym none) tt, subst (λ (t : Table). SpellsStore ghosts spelling kinds logs t no_entries) (sym none) (spells_nothing ghosts keeping spelling kinds logs))

      stands_joined : Stand logs (with_view (with_member ps given (Some new)) joined) (happens D world (Joining place))
      stands_joined =
          record {
            views = ap (λ (vs : List View). vs ++ joined ∷ []) s.views;
            keys = s.keys;
            running = λ j. subst (λ (ns : ℕ → Option (nodes.Node Kind Op Shown)). Running logs (ps.forgotten j) (with_at ps.members given (Some new) j) (ns j)) (sym nodes_joined)
                (both_at (λ k code running. Running logs (ps.forgotten k) code running) ps.members world.nodes given (Some new) (Some (loaded_node world.keys given joined no_entries)) (loaded_node world.keys given joined no_entries, refl, new_stands) (λ k other. s.running k) j);
            links = s.links;
            stores = here_or_other ps.members given (Some new) (λ j member. Tell logs member.keeper (with_at world.stores place no_entries (place_of joined j)))
                (λ member is. (let same : new ≡ member = cc is in
                subst (λ (x : Node T K Kind Op Delta ghosts keeping). Tell logs x.keeper (with_at world.stores place no_entries (place_of joined given))) same
                (subst (λ (p : ℕ). Tell logs new.keeper (with_at world.stores place no_entries p)) (sym (joins_at world.view place below)) (subst (Tell logs new.keeper) (sym (with_at_same world.stores place no_entries)) new_tells))))
                (λ j member other was.
                let m = in_view logs s j member was in
                subst (λ (p : ℕ). Tell logs member.keeper (with_at world.stores place no_entries p)) (sym (joined_place world.view below (places_there D count keys events world r.is_run) place free_there j m))
                (subst (Tell logs member.keeper) (sym (with_at_other world.stores place no_entries (place_of world.view j) (joined_apart world.view below (places_there D count keys events world r.is_run) place free_there j m))) (s.stores j member was)));
          }

    pub joins : Advances {ghosts = ghosts} {keeping = keeping} spelling kinds decls count events ps world (Joins place new)
    joins =
        record {
          next = happens D world (Joining place);
          reached =
              reached_by (Joining place) (small, free_there, subst (λ (v : View). v.given < identity_limit) last room) (happened ps (Joins place new))
              (λ logs histories s. subst (λ (v : View). Stand logs (with_view (with_member ps v.given (Some new)) (with_joined v place)) (happens D world (Joining place))) (sym last) (stands_joined logs histories s));
          told = tt;
        }

  -- A MEMBER COMES BACK UNDER A NEW IDENTITY

  module _ (i : ℕ) (keeper : K) (new : Node T K Kind Op Delta ghosts keeping) (there : IsTrue (is_member (now_of ps) i)) (room : next_identity ps < identity_limit) (back : IsBack spelling decls ps i keeper new) where
    abbrev replaced : View
    replaced = with_replaced world.view i

    abbrev old_place : ℕ
    old_place = place_of world.view i

    is_there : is_member world.view i ≡ true
    is_there = subst (λ (v : View). IsTrue (is_member v i)) last there

    nodes_back : (happens D world (Restart i)).nodes ≡ with_at (with_at world.nodes i None) given (Some (loaded_node world.keys given replaced (world.stores old_place)))
    nodes_back = ap (λ (n : ℕ). with_at (with_at world.nodes i None) n (Some (loaded_node world.keys n replaced (world.stores old_place)))) one_less

    module _ (logs : Text → History Op) (histories : (key : Text) → IsHistory (logs key)) (s : Stand logs ps world) where
      -- the keeper tells what its place's store has
      spells : IsTable back.table × SpellsStore ghosts spelling kinds logs back.table (world.stores old_place)
      spells = s.stores i back.before back.was back.table back.kept

      back_stands : StandsInPart kinds logs (ps.forgotten given) new (loaded_node world.keys given replaced (world.stores old_place))
      back_stands =
          subst (λ (ks : List (nodes.KeyDecl Kind)). StandsInPart kinds logs (ps.forgotten given) new (loaded_node ks given replaced (world.stores old_place))) (sym s.keys)
          (subst (λ (v : View). StandsInPart kinds logs (ps.forgotten given) new (loaded_node keys v.given (with_replaced v i) (world.stores old_place))) last
          (loaded_in_part kinds logs (ps.forgotten given) new (map declared back.own) keys (now_of ps).given (with_replaced (now_of ps) i) (world.stores old_place) back.part
          (stores_no_others ghosts spelling kinds logs back.made.keys.items (next_identity ps) (with_replaced (now_of ps) i).given (map declared back.own) keys back.table (world.stores old_place) back.loaded.keys back.sound spells.1)
          (limited_stands kinds logs (loaded_node (map declared back.own) (now_of ps).given (with_replaced (now_of ps) i) (world.stores old_place)) back.made new back.limited
          (back.stands kinds logs back.table (world.stores old_place) back.told (kinds_of_part kinds back.own decls back.part of_kinds) histories spells.1))))

      back_tells : Tell logs new.keeper (world.stores old_place)
      back_tells = λ table told.
          let made : keeping.table back.made.keeper ≡ Some back.table = subst (λ (o : Option Table). Becomes o (keeping.table back.made.keeper) (λ t. t)) back.told back.loaded.table in
          let still : keeping.table new.keeper ≡ Some back.table = ap (λ (k : K). keeping.table k) (limited_keeper back.made new back.limited) ∙ made in
          let same : back.table ≡ table = (let e : Some back.table ≡ Some table = sym still ∙ told in cc e) in
          subst (λ (t : Table). IsTable t × SpellsStore ghosts spelling kinds logs t (world.stores old_place)) same spells

      stands_back : Stand logs (with_view (with_member (with_member ps i None) given (Some new)) replaced) (happens D world (Restart i))
      stands_back =
          record {
            views = ap (λ (vs : List View). vs ++ replaced ∷ []) s.views;
            keys = s.keys;
            running = λ j. subst (λ (ns : ℕ → Option (nodes.Node Kind Op Shown)). Running logs (ps.forgotten j) (with_at (with_at ps.members i None) given (Some new) j) (ns j)) (sym nodes_back)
                (both_at (λ k code running. Running logs (ps.forgotten k) code running) (with_at ps.members i None) (with_at world.nodes i None) given (Some new) (Some (loaded_node world.keys given replaced (world.stores old_place)))
                (loaded_node world.keys given replaced (world.stores old_place), refl, back_stands)
                (λ k other. both_at (λ l code running. Running logs (ps.forgotten l) code running) ps.members world.nodes i None None refl (λ l apart. s.running l) k) j);
            links = s.links;
            stores = here_or_other (with_at ps.members i None) given (Some new) (λ j member. Tell logs member.keeper (world.stores (place_of replaced j)))
                (λ member is. (let same : new ≡ member = cc is in
                subst (λ (x : Node T K Kind Op Delta ghosts keeping). Tell logs x.keeper (world.stores (place_of replaced given))) same
                (subst (λ (p : ℕ). Tell logs new.keeper (world.stores p)) (sym (replaces_at world.view i below)) back_tells)))
                (λ j member other was.
                here_or_other ps.members i None (λ k x. Tell logs x.keeper (world.stores (place_of replaced k))) (λ x is. absurd (cc is))
                (λ k x apart had. subst (λ (p : ℕ). Tell logs x.keeper (world.stores p)) (sym (replaced_place world.view below (places_there D count keys events world r.is_run) i is_there k apart (in_view logs s k x had))) (s.stores k x had)) j member was);
          }

    pub returns : Advances {ghosts = ghosts} {keeping = keeping} spelling kinds decls count events ps world (Returns i keeper new)
    returns =
        record {
          next = happens D world (Restart i);
          reached =
              reached_by (Restart i) (is_there, subst (λ (v : View). v.given < identity_limit) last room) (happened ps (Returns i keeper new))
              (λ logs histories s. subst (λ (v : View). Stand logs (with_view (with_member (with_member ps i None) v.given (Some new)) (with_replaced v i)) (happens D world (Restart i))) (sym last) (stands_back logs histories s));
          told = tt;
        }
