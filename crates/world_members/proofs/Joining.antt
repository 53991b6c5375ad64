-- A new member starts at a free place.
--     plays_anew        it starts
--     plays_failed, remains_join        no new member starts
use Rattle.std.proofs.Common.{◌≡◌, ◌≢◌, ℕ, ◌+◌, ◌-◌, ◌<◌, List, [], ◌∷◌, ◌++◌, map, refl, sym, ap, subst, ◌∙◌, arith, Bool, true, false, not, Option, None, Some, inl, inr, Vec, Global}
use Rattle.std.specs.Prelude.{option_map, is_some, if◌then◌else◌, ◌==◌, ◌||◌, nat_lt, find, option_and_then}
use Rattle.std.specs.List.{list_any}
use Rattle.std.proofs.lemmas.Bool.Decides.{eqb_tells, nat_tests}
use Rattle.model_history.specs.Texts.{Text}
use Rattle.model_history.specs.Table.{with_at, identity_limit}
use Rattle.model_history.specs.History.{History, IsHistory}
use Rattle.model_history.proofs.HistoryLaws.{with_at_same}
use Rattle.model_kinds.specs.declared.operation.Op.{Op}
use Rattle.model_kinds.specs.declared.shown.Shown.{Shown}
use Rattle.model_members.specs.Node as nodes
use Rattle.model_members.specs.World as worlds
use Rattle.model_members.specs.Script as script
use Rattle.model_members.specs.View.{View, Member, is_taken, with_joined}
use Rattle.model_members.specs.DataType.{Replication}
use Rattle.model_members.specs.World.{Store, happens, no_entries, loaded_node}
use Rattle.model_members.specs.World.Event.{Joining}
use Rattle.model_members.specs.Script.{Playing, ScriptStep, played, told, did_plainly, called, with_call, next_answer}
use Rattle.member_views.specs.Sound.{IsView, AreViews, last_view}
use Rattle.member_views.specs.Changes.{CanJoin}
use Rattle.member_views.proofs.Others.{All-find}
use Rattle.member_keeper.specs.declared.keeper.Keeper.{Ghosts as Keeping}
use Rattle.data_lattice.specs.declared.replica.Replica.{Ghosts}
use Rattle.data_lattice.specs.declared.spelled.SpelledData.{Ghosts as Spelling}
use Rattle.member_node.specs.declared.key.KeyDecl.{KeyDecl as Declared}
use Rattle.member_node.specs.declared.node.Node.{Node}
use Rattle.member_node.specs.Members.{declared}
use Rattle.member_node.specs.Replies.{program_steps}
use Rattle.member_node.specs.Steps.{replication}
use Rattle.script_reading.specs.declared.script.Step.TheVariants as form
use Rattle.world_members.specs.declared.event.Head.TheVariants as head
use Rattle.world_members.specs.declared.event.Answer.TheVariants as answer
use Rattle.world_members.specs.declared.world.World.{World}
use Rattle.world_members.specs.declared.event.Event.{Event}
use Rattle.world_places.specs.Keeping.{AreSeated, IsCleared, Keeps, KeepsAt, FailsToClear}
use Rattle.world_places.specs.Places.{item_at, identity_at, seat_of, member_of, keeper_of, first_keeper}
use Rattle.world_places.specs.Seating.{IsNewMember, SeatsAnew, ActsAt}
use Rattle.world_members.specs.Standing.{StandsForWorld}
use Rattle.world_places.specs.Standing.{StandsForRunning, TellsStore}
use Rattle.world_members.specs.Steps.{Plays, LeadsTo, Remains}
use Rattle.world_members.specs.Giving.{IsSame}
use Rattle.world_places.proofs.Seats.{identity_seated, seated, last_sound, seat_joined, new_seat}
use Rattle.world_places.proofs.Lists.{at_each, some_there, at_one, for_this}
use Rattle.world_places.proofs.Storing.{tells_nothing}
use Rattle.world_members.proofs.Answering.{given_at, answer_told, one_call, kept_one}
use Rattle.world_members.proofs.Standings.{IsReseated, member_elsewhere, member_here, keeper_elsewhere, still_seated, last_pushed, stands_in, stores_still}
use Rattle.world_members.proofs.Telling.{view_of, reaches_did, reaches_said, plays_told}

-- THE SCRIPT

module _ {Kind Op Shown : Type 0} (D : Replication Kind Op Shown) (p : Playing Kind Op Shown) (place : ℕ) where
  abbrev new_line : script.Answer Shown
  new_line = script.Answer.NewIdentity p.world.view.given (p.world.view.number + 1)

  abbrev when_free : Bool → Bool → Playing Kind Op Shown
  when_free taken room =
      if taken then told p (script.Head.JoinHead place) script.Answer.PlaceTaken
      else (if room then called D p place (Joining place) (script.Head.JoinHead place) new_line script.Answer.ClearFailed else told p (script.Head.JoinHead place) script.Answer.TooManyIdentities)

  abbrev when_called : Bool → Playing Kind Op Shown
  when_called b = if b then did_plainly D (with_call p place) (Joining place) (script.Head.JoinHead place) new_line else told (with_call p place) (script.Head.JoinHead place) script.Answer.ClearFailed

  calls_join : is_taken p.world.view place ≡ false → nat_lt p.world.view.given identity_limit ≡ true → played D p (ScriptStep.Join place) ≡ when_called (next_answer p place)
  calls_join free room = ap (λ b. when_free b (nat_lt p.world.view.given identity_limit)) free ∙ ap (when_free false) room

  pub does_join : is_taken p.world.view place ≡ false → nat_lt p.world.view.given identity_limit ≡ true → next_answer p place ≡ true → played D p (ScriptStep.Join place) ≡ did_plainly D (with_call p place) (Joining place) (script.Head.JoinHead place) new_line
  does_join free room taken = calls_join free room ∙ ap when_called taken

  pub fails_join : is_taken p.world.view place ≡ false → nat_lt p.world.view.given identity_limit ≡ true → next_answer p place ≡ false → played D p (ScriptStep.Join place) ≡ told (with_call p place) (script.Head.JoinHead place) script.Answer.ClearFailed
  fails_join free room refused = calls_join free room ∙ ap when_called refused

  pub tells_taken : is_taken p.world.view place ≡ true → played D p (ScriptStep.Join place) ≡ told p (script.Head.JoinHead place) script.Answer.PlaceTaken
  tells_taken taken = ap (λ b. when_free b (nat_lt p.world.view.given identity_limit)) taken

  pub tells_many : is_taken p.world.view place ≡ false → nat_lt p.world.view.given identity_limit ≡ false → played D p (ScriptStep.Join place) ≡ told p (script.Head.JoinHead place) script.Answer.TooManyIdentities
  tells_many free room = ap (λ b. when_free b (nat_lt p.world.view.given identity_limit)) free ∙ ap (when_free false) room

-- SEATS

-- nobody is at a free place
pub free_identity : (view : View) (place : ℕ) → is_taken view place ≡ false → identity_at view place ≡ None
free_identity view place e = go view.members e
  where
    go : (ms : List Member) → list_any (λ (m : Member). m.place == place) ms ≡ false → identity_at (record view { members = ms }) place ≡ None
    go [] e = refl
    go (m ∷ ms) e = elim (eqb_tells m.place place) [
      | inl same ↦ absurd (let there : true ≡ false = sym (ap (λ b. b || list_any (λ (n : Member). n.place == place) ms) same.0) ∙ e in cc there)
      | inr other ↦
          ap (λ b. option_map (λ (n : Member). n.identity) (if b then Some m else find (λ (n : Member). n.place == place) ms)) other.0
          ∙ go ms (sym (ap (λ b. b || list_any (λ (n : Member). n.place == place) ms) other.0) ∙ e)
    ]

pub free_seat : (view : View) → IsView view → (place : ℕ) → is_taken view place ≡ false → (j : ℕ) → seat_of view j ≡ Some place → ⊥
free_seat view sound place free j e = let there : ◌≡◌ {A = Option ℕ} (Some j) None = sym (identity_seated view sound j place e) ∙ free_identity view place free in cc there

pub seat_given : (view : View) → IsView view → (i place : ℕ) → seat_of view i ≡ Some place → i < view.given
seat_given view sound i place e =
    let s = seated view i place e in
    let less = All-find (λ (m : Member). m.identity < view.given) (λ (m : Member). m.identity == i) view.members s.member s.found sound.given in
    let same = s.identity in omega arith

no_item : {X Y : Type 0} (f : X → Y) (o : Option X) → option_map f o ≡ None → o ≡ None
no_item f None e = refl
no_item f (Some x) e = absurd (cc e)

-- nobody runs at a free place, so there is a spare keeper
module _ {T K Kind Op Delta : Type 0} {ghosts : Ghosts T Kind Op Delta} {keeping : Keeping K} (views : List View) (place : ℕ) (able : CanJoin (last_view views) place) (nodes : List (Option (Node T K Kind Op Delta ghosts keeping))) (spare : List (Option K)) (seated : AreSeated views nodes spare) (within : place < 8) where
  pub free_there : item_at nodes place ≡ None
  free_there = no_item (λ (node : Node T K Kind Op Delta ghosts keeping). node.id) (item_at nodes place) (seated.members place within ∙ free_identity (last_view views) place able.0)

  pub spare_there : (keeper : K) × (item_at spare place ≡ Some keeper)
  spare_there = some_there (item_at spare place) (seated.spares place within ∙ ap (λ (o : Option (Node T K Kind Op Delta ghosts keeping)). not (is_some o)) free_there)

module _ (views : List View) (place : ℕ) (sound : IsView (last_view views)) (is_next : IsView (with_joined (last_view views) place)) (able : CanJoin (last_view views) place) where
  seated_new : seat_of (with_joined (last_view views) place) (last_view views).given ≡ Some place
  seated_new = new_seat (last_view views) place sound.given

  seat_stays : (q j : ℕ) → seat_of (last_view views) j ≡ Some q → seat_of (with_joined (last_view views) place) j ≡ Some q
  seat_stays q j e = seat_joined (last_view views) place j (let less = seat_given (last_view views) sound j q e in omega arith) ∙ e

  seat_was : (q : ℕ) → q ≢ place → (j : ℕ) → seat_of (with_joined (last_view views) place) j ≡ Some q → seat_of (last_view views) j ≡ Some q
  seat_was q apart j e = elim (eqb_tells j (last_view views).given) [
    | inl new ↦ absurd (apart (let there : ◌≡◌ {A = Option ℕ} (Some q) (Some place) = sym e ∙ ap (seat_of (with_joined (last_view views) place)) new.1 ∙ seated_new in cc there))
    | inr other ↦ sym (seat_joined (last_view views) place j other.1) ∙ e
  ]

  module _ {T K Kind Op Delta : Type 0} {ghosts : Ghosts T Kind Op Delta} {keeping : Keeping K} (keys : List (Declared T Kind Op Delta)) (nodes new : List (Option (Node T K Kind Op Delta ghosts keeping))) (spare left : List (Option K)) (seated : AreSeated views nodes spare)
      (anew : SeatsAnew (last_view views).given (with_joined (last_view views) place) keys place nodes new spare left) (within : place < 8) where
    pub seated_joined : AreSeated (views ++ with_joined (last_view views) place ∷ []) new left
    seated_joined =
        let k = spare_there views place able nodes spare seated within in
        let s = anew.seated k.0 k.1 in
        still_seated views (with_joined (last_view views) place) sound is_next place nodes new spare left anew.others anew.spares seated (λ q apart j e. seat_stays q j e) seat_was
        (ap (option_map (λ (node : Node T K Kind Op Delta ghosts keeping). node.id)) s.3 ∙ ap Some s.4.identity ∙ sym (identity_seated (with_joined (last_view views) place) is_next (last_view views).given place seated_new))
        (ap is_some (anew.taken k.0 k.1) ∙ sym (ap (λ (o : Option (Node T K Kind Op Delta ghosts keeping)). not (is_some o)) s.3))
        (for_this (λ (node : Node T K Kind Op Delta ghosts keeping). node.limit ≡ program_steps) (item_at new place) s.2 s.3 s.4.limit)

-- THE MODEL

module _ {T K Kind Delta : Type 0} {ghosts : Ghosts T Kind Op Delta} {keeping : Keeping K} (spelling : Spelling T Kind Op Delta) (alike : (a b : K) → is_some (keeping.table a) ≡ is_some (keeping.table b)) (place : ℕ) (within : place < 8) (old new : World T K Kind Op Delta ghosts keeping) (sound : IsView (last_view old.views))
    (able : CanJoin (last_view old.views) place) (r : IsReseated (with_joined (last_view old.views) place) place old new) (anew : SeatsAnew (last_view old.views).given (with_joined (last_view old.views) place) old.keys.items place old.nodes.items new.nodes.items old.spare.items new.spare.items)
    (before after : K) (node : Node T K Kind Op Delta ghosts keeping) (empty : item_at old.nodes.items place ≡ None) (was : item_at old.spare.items place ≡ Some before) (cleared : IsCleared keeping before after) (is : item_at new.nodes.items place ≡ Some node) (member : IsNewMember (last_view old.views).given (with_joined (last_view old.views) place) old.keys.items after node) where
  abbrev id : ℕ
  id = (last_view old.views).given

  keeper_was : keeper_of old.nodes.items old.spare.items place ≡ Some before
  keeper_was = ap (λ o. first_keeper o (item_at old.spare.items place)) empty ∙ was

  keeper_is : keeper_of new.nodes.items new.spare.items place ≡ Some after
  keeper_is = ap (λ o. first_keeper o (item_at new.spare.items place)) is ∙ ap Some member.kept

  module _ (kinds : Text → Kind) (logs : Text → History Op) (histories : (key : Text) → IsHistory (logs key)) (world : worlds.World Kind Op Shown) (view_is : last_view old.views ≡ world.view) (s : StandsForWorld spelling kinds logs old world) where
    abbrev Running : Option (Node T K Kind Op Delta ghosts keeping) → Option (nodes.Node Kind Op Shown) → Type 0
    Running code running = StandsForRunning {ghosts = ghosts} {keeping = keeping} spelling kinds logs code running

    abbrev made : List (nodes.KeyDecl Kind) → ℕ → View → Store Op → nodes.Node Kind Op Shown
    made keys i view store = loaded_node keys i view store

    abbrev node_now : nodes.Node Kind Op Shown
    node_now = made (map declared old.keys.items) (last_view old.views).given (with_joined (last_view old.views) place) no_entries

    index_is : world.view.given + 1 - 1 ≡ (last_view old.views).given
    index_is = (let one : world.view.given + 1 - 1 ≡ world.view.given = omega arith in one) ∙ ap (λ (v : View). v.given) (sym view_is)

    node_is : made world.keys (world.view.given + 1 - 1) (with_joined world.view place) (with_at world.stores place no_entries place) ≡ made (map declared old.keys.items) (last_view old.views).given (with_joined (last_view old.views) place) no_entries
    node_is =
        ap (λ keys. made keys (world.view.given + 1 - 1) (with_joined world.view place) (with_at world.stores place no_entries place)) s.keys
        ∙ ap (λ i. made (map declared old.keys.items) i (with_joined world.view place) (with_at world.stores place no_entries place)) index_is
        ∙ ap (λ v. made (map declared old.keys.items) (last_view old.views).given (with_joined v place) (with_at world.stores place no_entries place)) (sym view_is)
        ∙ ap (made (map declared old.keys.items) (last_view old.views).given (with_joined (last_view old.views) place)) (with_at_same world.stores place no_entries)

    running_after : (j : ℕ) → Running (member_of (last_view new.views) new.nodes.items j) (with_at world.nodes (world.view.given + 1 - 1) (Some (made world.keys (world.view.given + 1 - 1) (with_joined world.view place) (with_at world.stores place no_entries place))) j)
    running_after j =
        let stored = Some (made world.keys (world.view.given + 1 - 1) (with_joined world.view place) (with_at world.stores place no_entries place)) in
        subst (λ i. Running (member_of (last_view new.views) new.nodes.items j) (with_at world.nodes i stored j)) (sym index_is)
        (at_each (λ k o. Running (member_of (last_view new.views) new.nodes.items k) o) world.nodes (last_view old.views).given stored
        (subst (λ o. Running o stored) (sym (member_here (with_joined (last_view old.views) place) place old new r (last_view old.views).given (Some place) (new_seat (last_view old.views) place sound.given) ∙ is)) (node_now, ap Some node_is, member.stands kinds logs histories s.of_kinds))
        (λ k other. subst (λ o. Running o (world.nodes k)) (sym (member_elsewhere (with_joined (last_view old.views) place) place old new r k (seat_joined (last_view old.views) place k other) (free_seat (last_view old.views) sound place able.0 k))) (s.running k)) j)

    stores_after : (q : ℕ) → TellsStore ghosts keeping spelling kinds logs (keeper_of new.nodes.items new.spare.items q) (with_at world.stores place no_entries q)
    stores_after =
        at_each (λ q store. TellsStore ghosts keeping spelling kinds logs (keeper_of new.nodes.items new.spare.items q) store) world.stores place no_entries
        (subst (λ o. TellsStore ghosts keeping spelling kinds logs o no_entries) (sym keeper_is) (tells_nothing ghosts keeping spelling kinds logs alike before after cleared))
        (λ q other. subst (λ o. TellsStore ghosts keeping spelling kinds logs o (world.stores q)) (sym (keeper_elsewhere (with_joined (last_view old.views) place) place old new r q other)) (s.stores q))

    stands_joined : StandsForWorld spelling kinds logs new (happens (replication ghosts spelling) world (Joining place))
    stands_joined =
        stands_in spelling kinds logs old new world s (happens (replication ghosts spelling) world (Joining place))
        (ap (λ vs. vs ++ with_joined world.view place ∷ []) s.views ∙ ap (λ v. old.views ++ with_joined v place ∷ []) (sym view_is) ∙ sym r.views) refl refl r.keys r.links running_after stores_after

  module _ (number given : ℕ) (numbered : number ≡ (last_view old.views).number + 1) (given_is : given ≡ (last_view old.views).given) where
    leads : LeadsTo spelling (λ p. played (replication ghosts spelling) p (ScriptStep.Join place)) (given_at place (true ∷ [])) old new (record { head = head.Join place; answer = answer.NewId given number; sent = []; finished = None } ∷ [])
    leads kinds members decls p m foretold =
        let view_is = view_of spelling kinds members decls p old m in
        reaches_did spelling kinds members decls p old m (ScriptStep.Join place) within (with_call p place) new (Joining place) (script.Head.JoinHead place) (new_line (replication ghosts spelling) p place) (given_at place (true ∷ [])) refl refl
        (does_join (replication ghosts spelling) p place (ap (λ v. is_taken v place) (sym view_is) ∙ able.0) (ap (λ (v : View). nat_lt v.given identity_limit) (sym view_is) ∙ (let room = able.1 in grind (arith, nat_tests))) (answer_told p place true foretold))
        (λ logs histories s. stands_joined kinds logs histories p.world view_is s) (head.Join place) (answer.NewId given number) refl
        (ap (λ (v : View). script.Answer.NewIdentity v.given (v.number + 1)) (sym view_is) ∙ ap (λ n. script.Answer.NewIdentity (last_view old.views).given n) (sym numbered) ∙ ap (λ i. script.Answer.NewIdentity i number) (sym given_is))
        (one_call p place true)

    pub plays_joined : (event : Event) → event ≡ record { head = head.Join place; answer = answer.NewId given number; sent = []; finished = None } → Plays spelling (form.Join place) old new (event ∷ [])
    plays_joined event same =
        subst (λ (e : Event). Plays spelling (form.Join place) old new (e ∷ [])) (sym same)
        (record {
          given = given_at place (true ∷ []);
          kept = kept_one keeping place (true ∷ []) (keeper_of old.nodes.items old.spare.items) (keeper_of new.nodes.items new.spare.items) before after keeper_was keeper_is cleared.answered (keeper_elsewhere (with_joined (last_view old.views) place) place old new r);
          damaged = λ e. absurd (cc e);
          does = λ took. (λ kinds members decls p m. refl, leads);
        })

-- the same, of other names for the identity, the view and the keys
pub anew_as : {T K Kind Op Delta : Type 0} {ghosts : Ghosts T Kind Op Delta} {keeping : Keeping K} (id i : ℕ) (view v : View) (keys ks : List (Declared T Kind Op Delta)) (place : ℕ) (nodes new : List (Option (Node T K Kind Op Delta ghosts keeping))) (spare left : List (Option K))
    → id ≡ i → view ≡ v → keys ≡ ks → SeatsAnew id view keys place nodes new spare left → SeatsAnew i v ks place nodes new spare left
anew_as id i view v keys ks place nodes new spare left same_id same_view same_keys h =
    subst (λ x. SeatsAnew x v ks place nodes new spare left) same_id (subst (λ x. SeatsAnew id x ks place nodes new spare left) same_view (subst (λ x. SeatsAnew id view x place nodes new spare left) same_keys h))

-- the new view is the last one
pub joined_last : (views joined : List View) (view : View) → joined ≡ views ++ view ∷ [] → (last : View) → last ≡ last_view joined → last ≡ view
joined_last views joined view is last e = e ∙ ap last_view is ∙ last_pushed views view

pub is_next_view : (views joined : List View) (view : View) → joined ≡ views ++ view ∷ [] → AreViews joined → IsView view
is_next_view views joined view is sound = subst IsView (ap last_view is ∙ last_pushed views view) (last_sound joined sound)

module _ {T K Kind Delta : Type 0} {ghosts : Ghosts T Kind Op Delta} {keeping : Keeping K} (spelling : Spelling T Kind Op Delta) (alike : (a b : K) → is_some (keeping.table a) ≡ is_some (keeping.table b)) (place : ℕ) (within : place < 8) (old new : World T K Kind Op Delta ghosts keeping) (sound : IsView (last_view old.views)) (is_next : IsView (with_joined (last_view old.views) place))
    (able : CanJoin (last_view old.views) place) (r : IsReseated (with_joined (last_view old.views) place) place old new) (anew : SeatsAnew (last_view old.views).given (with_joined (last_view old.views) place) old.keys.items place old.nodes.items new.nodes.items old.spare.items new.spare.items) where
  pub plays_anew : (number given : ℕ) → number ≡ (last_view old.views).number + 1 → given ≡ (last_view old.views).given → (event : Event) → event ≡ record { head = head.Join place; answer = answer.NewId given number; sent = []; finished = None } → Plays spelling (form.Join place) old new (event ∷ [])
  plays_anew number given numbered given_is event same =
      let nobody = free_there old.views place able old.nodes.items old.spare.items old.seated within in
      let k = spare_there old.views place able old.nodes.items old.spare.items old.seated within in
      let s = anew.seated k.0 k.1 in
      plays_joined spelling alike place within old new sound able r anew k.0 s.0 s.2 nobody k.1 s.1 s.3 s.4 number given numbered given_is event same

-- NO NEW MEMBER

-- all but a spare keeper is the same
pub record IsSpared {T K Kind Op Delta : Type 0} {ghosts : Ghosts T Kind Op Delta} {keeping : Keeping K} (Does : K → K → Type 0) (place : ℕ) (old new : World T K Kind Op Delta ghosts keeping) : Type 0 where
  pub views : new.views ≡ old.views
  pub keys : new.keys ≡ old.keys
  pub nodes : new.nodes ≡ old.nodes
  pub links : new.links ≡ old.links
  pub acts : ActsAt Does place old.spare.items new.spare.items

-- as many places have a spare keeper
pub seated_spared : {T K Kind Op Delta : Type 0} {ghosts : Ghosts T Kind Op Delta} {keeping : Keeping K} (Does : K → K → Type 0) (place : ℕ) (views now : List View) (nodes new : Vec (Option (Node T K Kind Op Delta ghosts keeping)) Global) (spare left : List (Option K)) (keeper : K) → item_at spare place ≡ Some keeper
    → ActsAt Does place spare left → now ≡ views → new ≡ nodes → AreSeated views nodes.items spare → AreSeated now new.items left
seated_spared {T} {K} {Kind} {Op} {Delta} {ghosts} {keeping} Does place views now nodes new spare left keeper was acts same_views same_nodes seated =
    subst (λ vs. AreSeated vs new.items left) (sym same_views)
    (subst (λ (ns : Vec (Option (Node T K Kind Op Delta ghosts keeping)) Global). AreSeated views ns.items left) (sym same_nodes)
    (record {
      members = seated.members;
      spares = at_one (λ q. q < 8 → is_some (item_at left q) ≡ not (is_some (item_at nodes.items q))) place
          (λ within. ap is_some (acts.there keeper was).1 ∙ sym (ap is_some was) ∙ seated.spares place within) (λ q other within. ap (λ o. is_some (option_and_then (λ (y : Option K). y) o)) (acts.others q other) ∙ seated.spares q within);
      limits = seated.limits;
    }))

module _ {T K Kind Delta : Type 0} {ghosts : Ghosts T Kind Op Delta} {keeping : Keeping K} (spelling : Spelling T Kind Op Delta) (place : ℕ) (old new : World T K Kind Op Delta ghosts keeping) (Does : K → K → Type 0) (spared : IsSpared Does place old new) (before : K) (empty : item_at old.nodes.items place ≡ None) (was : item_at old.spare.items place ≡ Some before) where
  abbrev after : K
  after = (spared.acts.there before was).0

  spared_was : keeper_of old.nodes.items old.spare.items place ≡ Some before
  spared_was = ap (λ o. first_keeper o (item_at old.spare.items place)) empty ∙ was

  spared_is : keeper_of new.nodes.items new.spare.items place ≡ Some after
  spared_is = ap (λ (nodes : Vec (Option (Node T K Kind Op Delta ghosts keeping)) Global). first_keeper (item_at nodes.items place) (item_at new.spare.items place)) spared.nodes ∙ ap (λ o. first_keeper o (item_at new.spare.items place)) empty ∙ (spared.acts.there before was).1

  elsewhere : (q : ℕ) → q ≢ place → keeper_of new.nodes.items new.spare.items q ≡ keeper_of old.nodes.items old.spare.items q
  elsewhere q apart =
      ap (λ (nodes : Vec (Option (Node T K Kind Op Delta ghosts keeping)) Global). first_keeper (item_at nodes.items q) (item_at new.spare.items q)) spared.nodes
      ∙ ap (λ o. first_keeper (item_at old.nodes.items q) (option_and_then (λ (y : Option K). y) o)) (spared.acts.others q apart)

  pub keeps_so : (answers : List Bool) → Keeps keeping answers before after → (q : ℕ) → KeepsAt keeping (given_at place answers q) (keeper_of old.nodes.items old.spare.items q) (keeper_of new.nodes.items new.spare.items q)
  keeps_so answers keeps = kept_one keeping place answers (keeper_of old.nodes.items old.spare.items) (keeper_of new.nodes.items new.spare.items) before after spared_was spared_is keeps elsewhere

  -- after want of memory
  pub remains_join : (answers : List Bool) → Keeps keeping answers before after → Remains spelling (form.Join place) old new
  remains_join answers keeps =
      record {
        kept = λ q. record { answers = given_at place answers q; keeps = keeps_so answers keeps q };
        remains = record {
          views = spared.views;
          keys = spared.keys;
          nodes = spared.nodes;
          links = spared.links;
          others = λ other apart. ap (option_and_then (λ (y : Option K). y)) (spared.acts.others other apart);
          spare = ap is_some (spared.acts.there before was).1 ∙ sym (ap is_some was);
        };
      }

  module _ (alike : (a b : K) → is_some (keeping.table a) ≡ is_some (keeping.table b)) (fails : FailsToClear keeping before after) (able : CanJoin (last_view old.views) place) (within : place < 8) where
    stands_failed : (kinds : Text → Kind) (logs : Text → History Op) (world : worlds.World Kind Op Shown) → StandsForWorld spelling kinds logs old world → StandsForWorld spelling kinds logs new world
    stands_failed kinds logs world s =
        stands_in spelling kinds logs old new world s world (s.views ∙ sym spared.views) refl refl spared.keys spared.links
        (λ i. subst (λ o. StandsForRunning {ghosts = ghosts} {keeping = keeping} spelling kinds logs o (world.nodes i)) (sym (ap (λ vs. member_of (last_view vs) new.nodes.items i) spared.views ∙ ap (λ (nodes : Vec (Option (Node T K Kind Op Delta ghosts keeping)) Global). member_of (last_view old.views) nodes.items i) spared.nodes)) (s.running i))
        (stores_still spelling kinds logs old new world s alike place before after spared_was spared_is fails.table elsewhere)

    leads_failed : LeadsTo spelling (λ p. played (replication ghosts spelling) p (ScriptStep.Join place)) (given_at place (false ∷ [])) old new (record { head = head.Join place; answer = answer.ClearFailed; sent = []; finished = None } ∷ [])
    leads_failed kinds members decls p m foretold =
        let view_is = view_of spelling kinds members decls p old m in
        reaches_said spelling kinds members decls p old m (ScriptStep.Join place) (with_call p place) new (script.Head.JoinHead place) script.Answer.ClearFailed (given_at place (false ∷ [])) refl refl refl
        (fails_join (replication ghosts spelling) p place (ap (λ v. is_taken v place) (sym view_is) ∙ able.0) (ap (λ (v : View). nat_lt v.given identity_limit) (sym view_is) ∙ (let room = able.1 in grind (arith, nat_tests))) (answer_told p place false foretold))
        (record { run = m.run; stands = λ logs through. stands_failed kinds logs p.world (m.stands logs through) }) (head.Join place) answer.ClearFailed refl refl (one_call p place false)

    pub plays_failed : (event : Event) → event ≡ record { head = head.Join place; answer = answer.ClearFailed; sent = []; finished = None } → Plays spelling (form.Join place) old new (event ∷ [])
    plays_failed event same =
        subst (λ (e : Event). Plays spelling (form.Join place) old new (e ∷ [])) (sym same)
        (record { given = given_at place (false ∷ []); kept = keeps_so (false ∷ []) fails.answered; damaged = λ e. absurd (cc e); does = λ took. (λ kinds members decls p m. refl, leads_failed) })

-- NOTHING WAS CALLED

module _ {T K Kind Delta : Type 0} {ghosts : Ghosts T Kind Op Delta} {keeping : Keeping K} (spelling : Spelling T Kind Op Delta) (place : ℕ) (old new : World T K Kind Op Delta ghosts keeping) (same : IsSame old new) where
  pub plays_taken : is_taken (last_view old.views) place ≡ true → (event : Event) → event ≡ record { head = head.Join place; answer = answer.PlaceTaken; sent = []; finished = None } → Plays spelling (form.Join place) old new (event ∷ [])
  plays_taken taken event is = plays_told spelling old new same (form.Join place) (head.Join place) answer.PlaceTaken event is refl (λ kinds members decls p m.
      let view_is = view_of spelling kinds members decls p old m in
      (script.Head.JoinHead place, script.Answer.PlaceTaken, tells_taken (replication ghosts spelling) p place (ap (λ v. is_taken v place) (sym view_is) ∙ taken), refl, refl))

  pub plays_many : (is_taken (last_view old.views) place ≡ false) × ((last_view old.views).given ≡ identity_limit) → (event : Event) → event ≡ record { head = head.Join place; answer = answer.TooManyIdentities; sent = []; finished = None } → Plays spelling (form.Join place) old new (event ∷ [])
  plays_many many event is = plays_told spelling old new same (form.Join place) (head.Join place) answer.TooManyIdentities event is refl (λ kinds members decls p m.
      let view_is = view_of spelling kinds members decls p old m in (
        script.Head.JoinHead place,
        script.Answer.TooManyIdentities,
        tells_many (replication ghosts spelling) p place (ap (λ v. is_taken v place) (sym view_is) ∙ many.0) (ap (λ (v : View). nat_lt v.given identity_limit) (sym view_is) ∙ (let full = many.1 in grind (arith, nat_tests))),
        refl,
        refl,
      ))
