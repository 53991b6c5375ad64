-- A member comes back as a new one.
--     new_replaced, seated_replaced        who sits where then
--     plays_restarted        it comes back with what its place's keeper told
--     fit_there        what the store of its place holds is fit for it
--     plays_load_failed, plays_damaged, remains_restart        it stays what it was
--     plays_back        how a restart ends, by what the place answered
use Rattle.std.proofs.Common.{◌≡◌, ◌≢◌, ℕ, ◌<◌, List, [], ◌∷◌, ◌++◌, refl, sym, ap, subst, ◌∙◌, arith, not, Option, None, Some, inl, inr, ◌+◌, ◌-◌, map, Bool, true, false}
use Rattle.std.specs.Prelude.{option_map, is_some, All, ◌==◌, option_and_then, if◌then◌else◌, nat_lt, IsSome, Result}
use Rattle.std.proofs.lemmas.Bool.Decides.{eqb_tells, nat_tests}
use Rattle.std.proofs.lemmas.List.Elements.{All-filter}
use Rattle.base_bytes.specs.declared.memory.Memory.{Memory}
use Rattle.model_history.specs.Texts.{Text}
use Rattle.model_history.specs.Table.{with_at, identity_limit}
use Rattle.model_history.specs.History.{History, IsHistory}
use Rattle.model_kinds.specs.declared.operation.Op.{Op}
use Rattle.model_kinds.specs.declared.shown.Shown.{Shown}
use Rattle.model_members.specs.Node as nodes
use Rattle.model_members.specs.World as worlds
use Rattle.model_members.specs.Script as script
use Rattle.model_members.specs.View.{View, Member, place_of, without_member, with_replaced, is_member}
use Rattle.model_members.specs.DataType.{Replication}
use Rattle.model_members.specs.World.{Event, Store, happens, loaded_node}
use Rattle.model_members.specs.Script.{Playing, ScriptStep, played, told, did_plainly, called, with_call, next_answer}
use Rattle.model_members.specs.Node.{KeyDecl}
use Rattle.member_views.specs.Sound.{IsView, last_view}
use Rattle.member_views.specs.Changes.{CanReplace}
use Rattle.member_keeper.specs.declared.keeper.Keeper.{Ghosts as Keeping}
use Rattle.member_keeper.specs.Tables.{Table}
use Rattle.data_lattice.specs.declared.replica.Replica.{Ghosts}
use Rattle.data_lattice.specs.declared.spelled.SpelledData.{Ghosts as Spelling}
use Rattle.member_node.specs.declared.loading.LoadError.TheVariants as load
use Rattle.member_node.specs.declared.node.Node.{Node}
use Rattle.member_node.specs.Keys.{declared_by, HaveKinds}
use Rattle.member_node.specs.Members.{StandsForNode}
use Rattle.member_node.specs.Replies.{program_steps}
use Rattle.member_node.specs.Steps.{replication, MayAnswer}
use Rattle.member_node.specs.Stores.{SpellsStore, AreFit}
use Rattle.member_node.specs.Loading.{ComesBack, IsRefusedLoad}
use Rattle.script_reading.specs.declared.script.Step.TheVariants as form
use Rattle.world_members.specs.declared.event.Head.TheVariants as head
use Rattle.world_members.specs.declared.event.Answer.TheVariants as answer
use Rattle.world_places.specs.Keeping.{AreSeated, Keeps, KeepsAt}
use Rattle.world_places.specs.Places.{item_at, seat_of, member_of, keeper_of, first_keeper}
use Rattle.world_members.specs.declared.world.World.{World}
use Rattle.world_members.specs.declared.event.Event.{Event as Line}
use Rattle.world_members.specs.Reloading.{IsReloaded, IsUnfit, Reloads, ReloadsSo}
use Rattle.world_members.specs.Standing.{StandsForWorld}
use Rattle.world_places.specs.Standing.{StandsForRunning, TellsStore}
use Rattle.world_members.specs.Steps.{Plays, LeadsTo, LoadsWhatItTook, HaveAnswered, Remains, Stays}
use Rattle.world_members.specs.Ways.{Means}
use Rattle.world_members.specs.Giving.{IsSame}
use Rattle.world_members.specs.declared.event.Answer.{Answer}
use Rattle.world_places.specs.Seating.{ActsAt}
use Rattle.world_places.proofs.Seats.{identity_seated, seats_apart, place_seated, seated_as, seat_without, no_seat_without, seat_joined, new_seat, no_member}
use Rattle.world_members.proofs.Joining.{seat_given}
use Rattle.world_members.proofs.Standings.{still_seated, stands_in, stores_still, IsReseated, member_elsewhere, member_here, keeper_elsewhere, running_still}
use Rattle.world_members.proofs.Onward.{well_now, way_logs}
use Rattle.world_members.proofs.Answering.{given_at, answer_told, one_call, kept_one}
use Rattle.world_members.proofs.Telling.{view_of, reaches_did, plays_told, reaches_said}
use Rattle.world_places.proofs.Lists.{some_there, at_each, for_this}
use Rattle.world_places.proofs.StoredNames.{stores_fit}
use Rattle.world_places.proofs.Storing.{becomes_none}

module _ (view : View) (id place : ℕ) (seat : seat_of view id ≡ Some place) (sound : IsView view) where
  pub given_apart : id ≢ view.given
  given_apart e = let less = seat_given view sound id place seat in omega arith

  below_rest : All (λ (m : Member). m.identity < view.given) (without_member view id).members
  below_rest = All-filter (λ (m : Member). not (m.identity == id)) (λ (m : Member). m.identity < view.given) view.members sound.given

  pub new_replaced : seat_of (with_replaced view id) view.given ≡ Some place
  new_replaced = new_seat (without_member view id) (place_of view id) below_rest ∙ ap Some (place_seated view id place seat)

  pub gone_replaced : seat_of (with_replaced view id) id ≡ None
  gone_replaced = seat_joined (without_member view id) (place_of view id) id given_apart ∙ no_seat_without view id

  pub seat_replaced : (j : ℕ) → j ≢ view.given → j ≢ id → seat_of (with_replaced view id) j ≡ seat_of view j
  seat_replaced j new old = seat_joined (without_member view id) (place_of view id) j new ∙ seat_without view id j old

  pub other_place : (j : ℕ) → j ≢ id → seat_of view j ≡ Some place → ⊥
  other_place j other e = other (seats_apart view sound j id place e seat)

  seat_stays : (q : ℕ) → q ≢ place → (j : ℕ) → seat_of view j ≡ Some q → seat_of (with_replaced view id) j ≡ Some q
  seat_stays q apart j e =
      seat_replaced j (λ new. let less = seat_given view sound j q e in omega arith) (λ old. apart (let there : ◌≡◌ {A = Option ℕ} (Some q) (Some place) = sym e ∙ ap (seat_of view) old ∙ seat in cc there)) ∙ e

  seat_was : (q : ℕ) → q ≢ place → (j : ℕ) → seat_of (with_replaced view id) j ≡ Some q → seat_of view j ≡ Some q
  seat_was q apart j e = elim (eqb_tells j view.given) [
    | inl new ↦ absurd (apart (let there : ◌≡◌ {A = Option ℕ} (Some q) (Some place) = sym e ∙ ap (seat_of (with_replaced view id)) new.1 ∙ new_replaced in cc there))
    | inr not_new ↦ elim (eqb_tells j id) [
      | inl old ↦ absurd (let there : ◌≡◌ {A = Option ℕ} (Some q) None = sym e ∙ ap (seat_of (with_replaced view id)) old.1 ∙ gone_replaced in cc there)
      | inr not_old ↦ sym (seat_replaced j not_new.1 not_old.1) ∙ e
    ]
  ]

some_mapped : {X Y : Type 0} (f : X → Y) (o : Option X) (y : Y) → option_map f o ≡ Some y → (x : X) × (o ≡ Some x)
some_mapped f None y e = absurd (cc e)
some_mapped f (Some x) y e = (x, refl)

module _ {T K Kind Op Delta : Type 0} {ghosts : Ghosts T Kind Op Delta} {keeping : Keeping K} (views : List View) (id place : ℕ) (seat : seat_of (last_view views) id ≡ Some place) (sound : IsView (last_view views)) (nodes : List (Option (Node T K Kind Op Delta ghosts keeping))) (spare : List (Option K)) (seated : AreSeated views nodes spare) (within : place < 8) where
  -- the member runs there
  pub member_there : (node : Node T K Kind Op Delta ghosts keeping) × (item_at nodes place ≡ Some node)
  member_there = some_mapped (λ (node : Node T K Kind Op Delta ghosts keeping). node.id) (item_at nodes place) id (seated.members place within ∙ identity_seated (last_view views) sound id place seat)

  -- and a new one in its place
  pub seated_replaced : (new : List (Option (Node T K Kind Op Delta ghosts keeping))) (after : Node T K Kind Op Delta ghosts keeping) → IsView (with_replaced (last_view views) id) → ((other : ℕ) → other ≢ place → item_at new other ≡ item_at nodes other) → item_at new place ≡ Some after → after.id ≡ (last_view views).given → after.limit ≡ member_there.0.limit
      → AreSeated (views ++ with_replaced (last_view views) id ∷ []) new spare
  seated_replaced new after is_next others is same limit =
      still_seated views (with_replaced (last_view views) id) sound is_next place nodes new spare spare others (λ other apart. refl) seated (seat_stays (last_view views) id place seat sound) (seat_was (last_view views) id place seat sound)
      (ap (option_map (λ (node : Node T K Kind Op Delta ghosts keeping). node.id)) is ∙ ap Some same ∙ sym (identity_seated (with_replaced (last_view views) id) is_next (last_view views).given place (new_replaced (last_view views) id place seat sound)))
      (seated.spares place within ∙ ap (λ (o : Option (Node T K Kind Op Delta ghosts keeping)). not (is_some o)) member_there.1 ∙ sym (ap (λ (o : Option (Node T K Kind Op Delta ghosts keeping)). not (is_some o)) is))
      (for_this (λ (node : Node T K Kind Op Delta ghosts keeping). node.limit ≡ program_steps) (item_at new place) after is (limit ∙ seated.limits place within member_there.0 member_there.1))

  -- the old one comes back
  pub seated_back : (now : List View) (new : List (Option (Node T K Kind Op Delta ghosts keeping))) (after : Node T K Kind Op Delta ghosts keeping) → now ≡ views → ((other : ℕ) → other ≢ place → item_at new other ≡ item_at nodes other) → item_at new place ≡ Some after → after.id ≡ member_there.0.id → after.limit ≡ member_there.0.limit
      → AreSeated now new spare
  seated_back now new after same_views others is same limit =
      subst (λ vs. AreSeated vs new spare) (sym same_views) (seated_as views nodes spare seated new place member_there.0 after others member_there.1 is same limit)

-- THE RESTART

-- THE SCRIPT

module _ {Kind Op Shown : Type 0} (D : Replication Kind Op Shown) (p : Playing Kind Op Shown) (id : ℕ) where
  abbrev new_line : script.Answer Shown
  new_line = script.Answer.NewIdentity p.world.view.given (p.world.view.number + 1)

  abbrev when_member : Bool → Bool → Playing Kind Op Shown
  when_member here room =
      if not here then told p (script.Head.RestartHead id) script.Answer.Gone
      else (if room then called D p (place_of p.world.view id) (Event.Restart id) (script.Head.RestartHead id) new_line script.Answer.LoadFailed else told p (script.Head.RestartHead id) script.Answer.TooManyIdentities)

  abbrev when_called : Bool → Playing Kind Op Shown
  when_called b = if b then did_plainly D (with_call p (place_of p.world.view id)) (Event.Restart id) (script.Head.RestartHead id) new_line else told (with_call p (place_of p.world.view id)) (script.Head.RestartHead id) script.Answer.LoadFailed

  calls_restart : is_member p.world.view id ≡ true → nat_lt p.world.view.given identity_limit ≡ true → played D p (ScriptStep.Restart id) ≡ when_called (next_answer p (place_of p.world.view id))
  calls_restart here room = ap (λ b. when_member b (nat_lt p.world.view.given identity_limit)) here ∙ ap (when_member true) room

  pub does_restart : is_member p.world.view id ≡ true → nat_lt p.world.view.given identity_limit ≡ true → next_answer p (place_of p.world.view id) ≡ true
      → played D p (ScriptStep.Restart id) ≡ did_plainly D (with_call p (place_of p.world.view id)) (Event.Restart id) (script.Head.RestartHead id) new_line
  does_restart here room taken = calls_restart here room ∙ ap when_called taken

  pub fails_restart : is_member p.world.view id ≡ true → nat_lt p.world.view.given identity_limit ≡ true → next_answer p (place_of p.world.view id) ≡ false
      → played D p (ScriptStep.Restart id) ≡ told (with_call p (place_of p.world.view id)) (script.Head.RestartHead id) script.Answer.LoadFailed
  fails_restart here room refused = calls_restart here room ∙ ap when_called refused

  pub tells_gone : is_member p.world.view id ≡ false → played D p (ScriptStep.Restart id) ≡ told p (script.Head.RestartHead id) script.Answer.Gone
  tells_gone gone = ap (λ b. when_member b (nat_lt p.world.view.given identity_limit)) gone

  pub tells_many : is_member p.world.view id ≡ true → nat_lt p.world.view.given identity_limit ≡ false → played D p (ScriptStep.Restart id) ≡ told p (script.Head.RestartHead id) script.Answer.TooManyIdentities
  tells_many here room = ap (λ b. when_member b (nat_lt p.world.view.given identity_limit)) here ∙ ap (when_member true) room

-- THE MEMBER OF THE MODEL

module _ {T K Kind Delta : Type 0} {ghosts : Ghosts T Kind Op Delta} {keeping : Keeping K} (spelling : Spelling T Kind Op Delta) (id place : ℕ) (old : World T K Kind Op Delta ghosts keeping) (before : Node T K Kind Op Delta ghosts keeping) (seat : seat_of (last_view old.views) id ≡ Some place) (was : item_at old.nodes.items place ≡ Some before) where
  pub keeper_was : keeper_of old.nodes.items old.spare.items place ≡ Some before.keeper
  keeper_was = ap (λ o. first_keeper o (item_at old.spare.items place)) was

  -- what the member that runs there stands for
  pub record IsKnownThere (kinds : Text → Kind) (logs : Text → History Op) (world : worlds.World Kind Op Shown) : Type 0 where
    pub node : nodes.Node Kind Op Shown
    pub runs : world.nodes id ≡ Some node
    pub stands : StandsForNode ghosts.kind_of ghosts.IsDataOf kinds logs before node

  pub known_there : (kinds : Text → Kind) (logs : Text → History Op) (world : worlds.World Kind Op Shown) → StandsForWorld spelling kinds logs old world → IsKnownThere kinds logs world
  known_there kinds logs world s =
      let h = subst (λ o. StandsForRunning {ghosts = ghosts} {keeping = keeping} spelling kinds logs o (world.nodes id)) (ap (option_and_then (item_at old.nodes.items)) seat ∙ was) (s.running id) in
      record { node = h.0; runs = h.1; stands = h.2 }

  pub have_kinds : (kinds : Text → Kind) (logs : Text → History Op) (world : worlds.World Kind Op Shown) → IsKnownThere kinds logs world → HaveKinds kinds before.keys.items
  have_kinds kinds logs world known = λ k d within. (known.stands.entries k d within).kind

  -- the keeper's table is the store's
  pub spells_there : (kinds : Text → Kind) (logs : Text → History Op) (world : worlds.World Kind Op Shown) → StandsForWorld spelling kinds logs old world → (table : Table) → keeping.table before.keeper ≡ Some table → SpellsStore ghosts spelling kinds logs table (world.stores place)
  spells_there kinds logs world s table is = (subst (λ o. TellsStore ghosts keeping spelling kinds logs o (world.stores place)) keeper_was (s.stores place) table is).1

-- A NEW MEMBER

module _ {T K Kind Delta : Type 0} {ghosts : Ghosts T Kind Op Delta} {keeping : Keeping K} (spelling : Spelling T Kind Op Delta) (alike : (a b : K) → is_some (keeping.table a) ≡ is_some (keeping.table b)) (id place : ℕ) (old new : World T K Kind Op Delta ghosts keeping) (before after : Node T K Kind Op Delta ghosts keeping) (seat : seat_of (last_view old.views) id ≡ Some place) (sound : IsView (last_view old.views))
    (able : CanReplace (last_view old.views) id) (was : item_at old.nodes.items place ≡ Some before) (is : item_at new.nodes.items place ≡ Some after) (r : IsReseated (with_replaced (last_view old.views) id) place old new) (reloaded : IsReloaded spelling (last_view old.views).given (with_replaced (last_view old.views) id) before after) where
  keeper_is : keeper_of new.nodes.items new.spare.items place ≡ Some after.keeper
  keeper_is = ap (λ o. first_keeper o (item_at new.spare.items place)) is

  keeps : Keeps keeping (true ∷ []) before.keeper after.keeper
  keeps = record { told = reloaded.loaded.answered; counted = (let h = reloaded.loaded.later in omega arith); table = λ told. sym (alike before.keeper after.keeper) ∙ told }

  module _ (kinds : Text → Kind) (logs : Text → History Op) (histories : (key : Text) → IsHistory (logs key)) (world : worlds.World Kind Op Shown) (view_is : last_view old.views ≡ world.view) (s : StandsForWorld spelling kinds logs old world)
      (known : IsKnownThere spelling id place old before seat was kinds logs world) (same_keys : known.node.keys ≡ world.keys) (table : Table) (table_is : keeping.table before.keeper ≡ Some table) where
    abbrev Running : Option (Node T K Kind Op Delta ghosts keeping) → Option (nodes.Node Kind Op Shown) → Type 0
    Running code running = StandsForRunning {ghosts = ghosts} {keeping = keeping} spelling kinds logs code running

    abbrev made : List (nodes.KeyDecl Kind) → ℕ → View → Store Op → nodes.Node Kind Op Shown
    made keys i view store = loaded_node keys i view store

    abbrev node_now : nodes.Node Kind Op Shown
    node_now = made (map declared_by before.keys.items) (last_view old.views).given (with_replaced (last_view old.views) id) (world.stores place)

    place_is : place_of world.view id ≡ place
    place_is = ap (λ v. place_of v id) (sym view_is) ∙ place_seated (last_view old.views) id place seat

    index_is : world.view.given + 1 - 1 ≡ (last_view old.views).given
    index_is = (let one : world.view.given + 1 - 1 ≡ world.view.given = omega arith in one) ∙ ap (λ (v : View). v.given) (sym view_is)

    node_is : made world.keys (world.view.given + 1 - 1) (with_replaced world.view id) (world.stores (place_of world.view id)) ≡ made (map declared_by before.keys.items) (last_view old.views).given (with_replaced (last_view old.views) id) (world.stores place)
    node_is =
        ap (λ keys. made keys (world.view.given + 1 - 1) (with_replaced world.view id) (world.stores (place_of world.view id))) (sym same_keys ∙ known.stands.keys)
        ∙ ap (λ i. made (map declared_by before.keys.items) i (with_replaced world.view id) (world.stores (place_of world.view id))) index_is
        ∙ ap (λ v. made (map declared_by before.keys.items) (last_view old.views).given (with_replaced v id) (world.stores (place_of world.view id))) (sym view_is)
        ∙ ap (λ q. made (map declared_by before.keys.items) (last_view old.views).given (with_replaced (last_view old.views) id) (world.stores q)) place_is

    stands_new : StandsForNode ghosts.kind_of ghosts.IsDataOf kinds logs after (made (map declared_by before.keys.items) (last_view old.views).given (with_replaced (last_view old.views) id) (world.stores place))
    stands_new = reloaded.stands kinds logs table (world.stores place) table_is (have_kinds spelling id place old before seat was kinds logs world known) histories (spells_there spelling id place old before seat was kinds logs world s table table_is)

    running_after : (j : ℕ) → Running (member_of (last_view new.views) new.nodes.items j)
        (with_at (with_at world.nodes id None) (world.view.given + 1 - 1) (Some (made world.keys (world.view.given + 1 - 1) (with_replaced world.view id) (world.stores (place_of world.view id)))) j)
    running_after j =
        let stopped = with_at world.nodes id None in
        let stored = Some (made world.keys (world.view.given + 1 - 1) (with_replaced world.view id) (world.stores (place_of world.view id))) in
        subst (λ i. Running (member_of (last_view new.views) new.nodes.items j) (with_at stopped i stored j)) (sym index_is)
        (at_each (λ k o. Running (member_of (last_view new.views) new.nodes.items k) o) stopped (last_view old.views).given stored
        (subst (λ o. Running o stored) (sym (member_here (with_replaced (last_view old.views) id) place old new r (last_view old.views).given (Some place) (new_replaced (last_view old.views) id place seat sound) ∙ is)) (node_now, ap Some node_is, stands_new))
        (λ k other. at_each (λ x o. x ≢ (last_view old.views).given → Running (member_of (last_view new.views) new.nodes.items x) o) world.nodes id None
        (λ new_one. subst (λ o. Running o None) (sym (member_here (with_replaced (last_view old.views) id) place old new r id None (gone_replaced (last_view old.views) id place seat sound))) refl)
        (λ x stays new_one. subst (λ o. Running o (world.nodes x)) (sym (member_elsewhere (with_replaced (last_view old.views) id) place old new r x (seat_replaced (last_view old.views) id place seat sound x new_one stays) (other_place (last_view old.views) id place seat sound x stays))) (s.running x)) k other) j)

    stands_restarted : StandsForWorld spelling kinds logs new (happens (replication ghosts spelling) world (Event.Restart id))
    stands_restarted =
        stands_in spelling kinds logs old new world s (happens (replication ghosts spelling) world (Event.Restart id))
        (ap (λ vs. vs ++ with_replaced world.view id ∷ []) s.views ∙ ap (λ v. old.views ++ with_replaced v id ∷ []) (sym view_is) ∙ sym r.views) refl refl r.keys r.links running_after
        (stores_still spelling kinds logs old new world s alike place before.keeper after.keeper (keeper_was spelling id place old before seat was) keeper_is reloaded.loaded.table (keeper_elsewhere (with_replaced (last_view old.views) id) place old new r))

  module _ (number given : ℕ) (numbered : number ≡ (last_view old.views).number + 1) (given_is : given ≡ (last_view old.views).given) where
    leads : LoadsWhatItTook spelling (form.Restart id) old → LeadsTo spelling (λ p. played (replication ghosts spelling) p (ScriptStep.Restart id)) (given_at place (true ∷ [])) old new (record { head = head.Restart id; answer = answer.NewId given number; sent = []; finished = None } ∷ [])
    leads took kinds members decls p m foretold =
        let view_is = view_of spelling kinds members decls p old m in
        let place_now : place_of p.world.view id ≡ place = ap (λ v. place_of v id) (sym view_is) ∙ place_seated (last_view old.views) id place seat in
        let t = some_there (keeping.table before.keeper) (took before.keeper (ap (keeper_of old.nodes.items old.spare.items) (place_seated (last_view old.views) id place seat) ∙ keeper_was spelling id place old before seat was)) in
        reaches_did spelling kinds members decls p old m (ScriptStep.Restart id) tt (with_call p (place_of p.world.view id)) new (Event.Restart id) (script.Head.RestartHead id) (new_line (replication ghosts spelling) p id) (given_at place (true ∷ [])) refl refl
        (does_restart (replication ghosts spelling) p id (ap (λ v. is_member v id) (sym view_is) ∙ able.0) (ap (λ (v : View). nat_lt v.given identity_limit) (sym view_is) ∙ (let room = able.1 in grind (arith, nat_tests))) (ap (next_answer p) place_now ∙ answer_told p place true foretold))
        (λ logs histories s.
        let known = known_there spelling id place old before seat was kinds logs p.world s in
        stands_restarted kinds logs histories p.world view_is s known (well_now (replication ghosts spelling) members decls p m.run id known.node known.runs).keys t.0 t.1)
        (head.Restart id) (answer.NewId given number) refl
        (ap (λ (v : View). script.Answer.NewIdentity v.given (v.number + 1)) (sym view_is) ∙ ap (λ n. script.Answer.NewIdentity (last_view old.views).given n) (sym numbered) ∙ ap (λ i. script.Answer.NewIdentity i number) (sym given_is))
        (subst (λ q. HaveAnswered p (with_call p q) (given_at place (true ∷ []))) (sym place_now) (one_call p place true))

    pub plays_restarted : (event : Line) → event ≡ record { head = head.Restart id; answer = answer.NewId given number; sent = []; finished = None } → Plays spelling (form.Restart id) old new (event ∷ [])
    plays_restarted event same =
        subst (λ (e : Line). Plays spelling (form.Restart id) old new (e ∷ [])) (sym same)
        (record {
          given = given_at place (true ∷ []);
          kept = kept_one keeping place (true ∷ []) (keeper_of old.nodes.items old.spare.items) (keeper_of new.nodes.items new.spare.items) before.keeper after.keeper (keeper_was spelling id place old before seat was) keeper_is keeps (keeper_elsewhere (with_replaced (last_view old.views) id) place old new r);
          damaged = λ e. absurd (cc e);
          does = λ took. (λ kinds members decls p m. refl, leads took);
        })

-- WHAT THE STORE HOLDS

module _ {T K Kind Delta : Type 0} {ghosts : Ghosts T Kind Op Delta} {keeping : Keeping K} (spelling : Spelling T Kind Op Delta) (id place : ℕ) (old : World T K Kind Op Delta ghosts keeping) (before : Node T K Kind Op Delta ghosts keeping) (seat : seat_of (last_view old.views) id ≡ Some place) (was : item_at old.nodes.items place ≡ Some before) where
  pub fit_there : (kinds : Text → Kind) (members : ℕ) (decls : List (KeyDecl Kind)) (p : Playing Kind Op Shown) → Means spelling kinds members decls p old → (logs : Text → History Op) → IsKnownThere spelling id place old before seat was kinds logs p.world
      → AreFit before.keys.items (last_view old.views).given (with_replaced (last_view old.views) id).given (p.world.stores place)
  fit_there kinds members decls p m logs known =
      let keys : p.world.keys ≡ map declared_by before.keys.items = sym (well_now (replication ghosts spelling) members decls p m.run id known.node known.runs).keys ∙ known.stands.keys in
      let same : (last_view old.views).given ≡ p.world.view.given = ap (λ (v : View). v.given) (view_of spelling kinds members decls p old m) in
      stores_fit (replication ghosts spelling) members decls p.events p.world m.run before.keys.items keys (last_view old.views).given (with_replaced (last_view old.views) id).given same (omega arith) place

-- THE MEMBER STAYS

-- all but the member at a place is the same
pub record IsReturned {T K Kind Op Delta : Type 0} {ghosts : Ghosts T Kind Op Delta} {keeping : Keeping K} (place : ℕ) (old new : World T K Kind Op Delta ghosts keeping) : Type 0 where
  pub views : new.views ≡ old.views
  pub keys : new.keys ≡ old.keys
  pub spare : new.spare ≡ old.spare
  pub links : new.links ≡ old.links
  pub others : (other : ℕ) → other ≢ place → item_at new.nodes.items other ≡ item_at old.nodes.items other

module _ {T K Kind Delta : Type 0} {ghosts : Ghosts T Kind Op Delta} {keeping : Keeping K} (spelling : Spelling T Kind Op Delta) (alike : (a b : K) → is_some (keeping.table a) ≡ is_some (keeping.table b)) (id place : ℕ) (old new : World T K Kind Op Delta ghosts keeping) (before after : Node T K Kind Op Delta ghosts keeping) (seat : seat_of (last_view old.views) id ≡ Some place) (sound : IsView (last_view old.views))
    (was : item_at old.nodes.items place ≡ Some before) (is : item_at new.nodes.items place ≡ Some after) (r : IsReturned place old new) (back : ComesBack before after) where
  keeper_back : keeper_of new.nodes.items new.spare.items place ≡ Some after.keeper
  keeper_back = ap (λ o. first_keeper o (item_at new.spare.items place)) is

  elsewhere : (q : ℕ) → q ≢ place → keeper_of new.nodes.items new.spare.items q ≡ keeper_of old.nodes.items old.spare.items q
  elsewhere q apart = ap (λ o. first_keeper o (item_at new.spare.items q)) (r.others q apart) ∙ ap (λ (spare : _). first_keeper (item_at old.nodes.items q) (item_at spare.items q)) r.spare

  member_is : member_of (last_view new.views) new.nodes.items id ≡ Some after
  member_is = ap (λ vs. member_of (last_view vs) new.nodes.items id) r.views ∙ ap (option_and_then (item_at new.nodes.items)) seat ∙ is

  others_stay : (j : ℕ) → j ≢ id → member_of (last_view new.views) new.nodes.items j ≡ member_of (last_view old.views) old.nodes.items j
  others_stay j other = ap (λ vs. member_of (last_view vs) new.nodes.items j) r.views ∙ go (seat_of (last_view old.views) j) refl
    where
      go : (o : Option ℕ) → seat_of (last_view old.views) j ≡ o → option_and_then (item_at new.nodes.items) o ≡ option_and_then (item_at old.nodes.items) o
      go None there = refl
      go (Some q) there = r.others q (λ e. other (seats_apart (last_view old.views) sound j id place (there ∙ ap Some e) seat))

  stands_back : (kinds : Text → Kind) (logs : Text → History Op) (world : worlds.World Kind Op Shown) → StandsForWorld spelling kinds logs old world → StandsForWorld spelling kinds logs new world
  stands_back kinds logs world s =
      stands_in spelling kinds logs old new world s world (s.views ∙ sym r.views) refl refl r.keys r.links
      (running_still spelling kinds logs old new world s id before after back.same (ap (option_and_then (item_at old.nodes.items)) seat ∙ was) member_is others_stay)
      (stores_still spelling kinds logs old new world s alike place before.keeper after.keeper (keeper_was spelling id place old before seat was) keeper_back back.table elsewhere)

  pub stays_back : Stays spelling old new
  stays_back kinds members decls p m = record { run = m.run; stands = λ logs through. stands_back kinds logs p.world (m.stands logs through) }

  keeps_so : (answers : List Bool) → Keeps keeping answers before.keeper after.keeper → (q : ℕ) → KeepsAt keeping (given_at place answers q) (keeper_of old.nodes.items old.spare.items q) (keeper_of new.nodes.items new.spare.items q)
  keeps_so answers keeps = kept_one keeping place answers (keeper_of old.nodes.items old.spare.items) (keeper_of new.nodes.items new.spare.items) before.keeper after.keeper (keeper_was spelling id place old before seat was) keeper_back keeps elsewhere

  table_told : IsSome (keeping.table before.keeper) → IsSome (keeping.table after.keeper)
  table_told told = sym (alike before.keeper after.keeper) ∙ told

  -- WANT OF MEMORY

  remains_by : (answers : List Bool) → Keeps keeping answers before.keeper after.keeper → Remains spelling (form.Restart id) old new
  remains_by answers keeps = record { kept = λ q. record { answers = given_at place answers q; keeps = keeps_so answers keeps q }; remains = stays_back }

  pub remains_restart : MayAnswer keeping before.keeper after.keeper → Remains spelling (form.Restart id) old new
  remains_restart (inl none) = remains_by [] (record { told = becomes_none (keeping.answers before.keeper) (keeping.answers after.keeper) none; counted = (let h = back.later in omega arith); table = table_told })
  remains_restart (inr one) = remains_by (true ∷ []) (record { told = one; counted = (let h = back.later in omega arith); table = table_told })

  -- THE KEEPER FAILED

  module _ (able : CanReplace (last_view old.views) id) where
    module _ (refused : IsRefusedLoad before (load.LoadFailed after)) where
      leads_failed : LeadsTo spelling (λ p. played (replication ghosts spelling) p (ScriptStep.Restart id)) (given_at place (false ∷ [])) old new (record { head = head.Restart id; answer = answer.LoadFailed; sent = []; finished = None } ∷ [])
      leads_failed kinds members decls p m foretold =
          let view_is = view_of spelling kinds members decls p old m in
          let place_now : place_of p.world.view id ≡ place = ap (λ v. place_of v id) (sym view_is) ∙ place_seated (last_view old.views) id place seat in
          reaches_said spelling kinds members decls p old m (ScriptStep.Restart id) (with_call p (place_of p.world.view id)) new (script.Head.RestartHead id) script.Answer.LoadFailed (given_at place (false ∷ [])) refl refl refl
          (fails_restart (replication ghosts spelling) p id (ap (λ v. is_member v id) (sym view_is) ∙ able.0) (ap (λ (v : View). nat_lt v.given identity_limit) (sym view_is) ∙ (let room = able.1 in grind (arith, nat_tests))) (ap (next_answer p) place_now ∙ answer_told p place false foretold))
          (stays_back kinds members decls p m) (head.Restart id) answer.LoadFailed refl refl (subst (λ q. HaveAnswered p (with_call p q) (given_at place (false ∷ []))) (sym place_now) (one_call p place false))

      pub plays_load_failed : (event : Line) → event ≡ record { head = head.Restart id; answer = answer.LoadFailed; sent = []; finished = None } → Plays spelling (form.Restart id) old new (event ∷ [])
      plays_load_failed event same =
          subst (λ (e : Line). Plays spelling (form.Restart id) old new (e ∷ [])) (sym same)
          (record {
            given = given_at place (false ∷ []);
            kept = keeps_so (false ∷ []) (record { told = refused.1; counted = refused.2; table = table_told });
            damaged = λ e. absurd (cc e);
            does = λ took. (λ kinds members decls p m. refl, leads_failed);
          })

    -- WHAT IT TOLD IS NOTHING THAT A MEMBER STORED

    module _ (key : Text) (unfit : IsUnfit spelling (last_view old.views).given (with_replaced (last_view old.views) id) key before after) where
      never : LoadsWhatItTook spelling (form.Restart id) old → (kinds : Text → Kind) (members : ℕ) (decls : List (KeyDecl Kind)) (p : Playing Kind Op Shown) → Means spelling kinds members decls p old → ⊥
      never took kinds members decls p m =
          let l = way_logs (replication ghosts spelling) members decls p m.run in
          let s = m.stands l.0 l.1 in
          let t = some_there (keeping.table before.keeper) (took before.keeper (ap (keeper_of old.nodes.items old.spare.items) (place_seated (last_view old.views) id place seat) ∙ keeper_was spelling id place old before seat was)) in
          let known = known_there spelling id place old before seat was kinds l.0 p.world s in
          unfit.unfit kinds l.0 t.0 (p.world.stores place) t.1 (have_kinds spelling id place old before seat was kinds l.0 p.world known) (spells_there spelling id place old before seat was kinds l.0 p.world s t.0 t.1)
          (fit_there spelling id place old before seat was kinds members decls p m l.0 known)

      pub plays_damaged : (event : Line) → event ≡ record { head = head.Restart id; answer = answer.Damaged key; sent = []; finished = None } → Plays spelling (form.Restart id) old new (event ∷ [])
      plays_damaged event same =
          subst (λ (e : Line). Plays spelling (form.Restart id) old new (e ∷ [])) (sym same)
          (record {
            given = given_at place (true ∷ []);
            kept = keeps_so (true ∷ []) (record { told = unfit.refused.1; counted = (let h = back.later in omega arith); table = table_told });
            damaged = λ e. record { id = id; restarts = refl; stays = stays_back };
            does = λ took. (λ kinds members decls p m. absurd (never took kinds members decls p m), λ kinds members decls p m foretold. absurd (never took kinds members decls p m));
          })

-- NOTHING WAS CALLED

module _ {T K Kind Delta : Type 0} {ghosts : Ghosts T Kind Op Delta} {keeping : Keeping K} (spelling : Spelling T Kind Op Delta) (id : ℕ) (old new : World T K Kind Op Delta ghosts keeping) (same : IsSame old new) where
  pub plays_gone : seat_of (last_view old.views) id ≡ None → (event : Line) → event ≡ record { head = head.Restart id; answer = answer.Gone; sent = []; finished = None } → Plays spelling (form.Restart id) old new (event ∷ [])
  plays_gone none event is = plays_told spelling old new same (form.Restart id) (head.Restart id) answer.Gone event is refl (λ kinds members decls p m.
      let view_is = view_of spelling kinds members decls p old m in
      (script.Head.RestartHead id, script.Answer.Gone, tells_gone (replication ghosts spelling) p id (ap (λ v. is_member v id) (sym view_is) ∙ no_member (last_view old.views) id none), refl, refl))

  pub plays_many : (is_member (last_view old.views) id ≡ true) × ((last_view old.views).given ≡ identity_limit) → (event : Line) → event ≡ record { head = head.Restart id; answer = answer.TooManyIdentities; sent = []; finished = None } → Plays spelling (form.Restart id) old new (event ∷ [])
  plays_many many event is = plays_told spelling old new same (form.Restart id) (head.Restart id) answer.TooManyIdentities event is refl (λ kinds members decls p m.
      let view_is = view_of spelling kinds members decls p old m in (
        script.Head.RestartHead id,
        script.Answer.TooManyIdentities,
        tells_many (replication ghosts spelling) p id (ap (λ v. is_member v id) (sym view_is) ∙ many.0) (ap (λ (v : View). nat_lt v.given identity_limit) (sym view_is) ∙ (let full = many.1 in grind (arith, nat_tests))),
        refl,
        refl,
      ))

-- BY WHAT THE PLACE ANSWERED

-- what stands at the place afterwards
pub record IsThen {T K Kind Op Delta : Type 0} {ghosts : Ghosts T Kind Op Delta} {keeping : Keeping K} (Does : Node T K Kind Op Delta ghosts keeping → Node T K Kind Op Delta ghosts keeping → Type 0) (place : ℕ) (nodes new : List (Option (Node T K Kind Op Delta ghosts keeping))) (before : Node T K Kind Op Delta ghosts keeping) : Type 0 where
  pub after : Node T K Kind Op Delta ghosts keeping
  pub is : item_at new place ≡ Some after
  pub does : Does before after
  pub others : (other : ℕ) → other ≢ place → item_at new other ≡ item_at nodes other

module _ {T K Kind Op Delta : Type 0} {ghosts : Ghosts T Kind Op Delta} {keeping : Keeping K} (spelling : Spelling T Kind Op Delta) where
  pub then_there : (id i : ℕ) (view v : View) (result r : Result (Option Answer) Memory) (place : ℕ) (nodes new : List (Option (Node T K Kind Op Delta ghosts keeping))) (before : Node T K Kind Op Delta ghosts keeping) → id ≡ i → view ≡ v → result ≡ r → item_at nodes place ≡ Some before
      → ActsAt (Reloads {ghosts = ghosts} {keeping = keeping} spelling id view result) place nodes new → IsThen (Reloads {ghosts = ghosts} {keeping = keeping} spelling i v r) place nodes new before
  then_there id i view v result r place nodes new before same_id same_view same_result was acts =
      let a = acts.there before was in
      record {
        after = a.0;
        is = a.1;
        does =
            subst (λ x. Reloads {ghosts = ghosts} {keeping = keeping} spelling x v r before a.0) same_id
            (subst (λ x. Reloads {ghosts = ghosts} {keeping = keeping} spelling id x r before a.0) same_view (subst (λ x. Reloads {ghosts = ghosts} {keeping = keeping} spelling id view x before a.0) same_result a.2));
        others = λ other apart. ap (option_and_then (λ (o : Option (Node T K Kind Op Delta ghosts keeping)). o)) (acts.others other apart);
      }

  pub came_back : (id : ℕ) (view : View) (a : Answer) (before after : Node T K Kind Op Delta ghosts keeping) → ReloadsSo spelling id view a before after → ComesBack before after
  came_back id view answer.LoadFailed before after h = h.0
  came_back id view (answer.Damaged key) before after h = h.refused.0
  came_back id view _ before after h = absurd h

  pub same_id : (before after : Node T K Kind Op Delta ghosts keeping) → ComesBack before after → after.id ≡ before.id
  same_id before after back = ap (λ (n : Node T K Kind Op Delta ghosts keeping). n.id) back.same

  pub same_limit : (before after : Node T K Kind Op Delta ghosts keeping) → ComesBack before after → after.limit ≡ before.limit
  same_limit before after back = ap (λ (n : Node T K Kind Op Delta ghosts keeping). n.limit) back.same

module _ {T K Kind Delta : Type 0} {ghosts : Ghosts T Kind Op Delta} {keeping : Keeping K} (spelling : Spelling T Kind Op Delta) (alike : (a b : K) → is_some (keeping.table a) ≡ is_some (keeping.table b)) (id place : ℕ) (old new : World T K Kind Op Delta ghosts keeping) (before after : Node T K Kind Op Delta ghosts keeping) (seat : seat_of (last_view old.views) id ≡ Some place) (sound : IsView (last_view old.views))
    (able : CanReplace (last_view old.views) id) (was : item_at old.nodes.items place ≡ Some before) (is : item_at new.nodes.items place ≡ Some after) (r : IsReturned place old new) where
  pub plays_back : (a : Answer) → ReloadsSo spelling (last_view old.views).given (with_replaced (last_view old.views) id) a before after → (event : Line) → event ≡ record { head = head.Restart id; answer = a; sent = []; finished = None } → Plays spelling (form.Restart id) old new (event ∷ [])
  plays_back answer.LoadFailed h event same = plays_load_failed spelling alike id place old new before after seat sound was is r h.0 able h event same
  plays_back (answer.Damaged key) h event same = plays_damaged spelling alike id place old new before after seat sound was is r h.refused.0 able key h event same
  plays_back _ h event same = absurd h
