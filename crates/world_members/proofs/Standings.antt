-- How a world stays one that members, links and keepers of the program stand for.
--     stands_after, stands_kept        after a member's step, and after a refusal
--     stands_with_links, stays_same        with other links, and where nothing changed
--     absent_gone, present_runs        whether a member of an identity runs, by the last view
--     IsReseated        a change of the views, where at most the member and the keeper of one place changed
use Rattle.std.proofs.Common.{◌≡◌, ◌≢◌, ℕ, ◌<◌, List, [], ◌∷◌, ◌++◌, length, map, refl, sym, ap, subst, ◌∙◌, arith, Option, Some, None, length-append, true, false, not}
use Rattle.std.specs.Prelude.{is_some, slice_index_or, option_map, option_and_then}
use Rattle.std.specs.Option.{ForSome}
use Rattle.model_history.specs.Table.{identity_limit}
use Rattle.model_history.specs.Texts.{Text}
use Rattle.model_history.specs.History.{History}
use Rattle.model_kinds.specs.declared.operation.Op.{Op}
use Rattle.model_kinds.specs.declared.shown.Shown.{Shown}
use Rattle.model_members.specs.Node as nodes
use Rattle.model_members.specs.World as worlds
use Rattle.model_members.specs.View.{View, place_of, first_view, is_member}
use Rattle.model_members.specs.Node.{Stepped, Fate, keyed_entry, KeyDecl}
use Rattle.model_members.specs.Step.{to_store}
use Rattle.model_members.specs.World.{Links, Store, views_of, with_posts, after_step, after_store}
use Rattle.model_members.specs.Script.{Playing}
use Rattle.member_views.specs.Sound.{last_view, IsView}
use Rattle.member_keeper.specs.declared.keeper.Keeper.{Ghosts as Keeping}
use Rattle.member_keeper.specs.Calls.{Becomes}
use Rattle.data_lattice.specs.declared.replica.Replica.{Ghosts}
use Rattle.data_lattice.specs.declared.spelled.SpelledData.{Ghosts as Spelling}
use Rattle.member_node.specs.declared.node.Node.{Node}
use Rattle.member_node.specs.Members.{StandsForNode, AreOfKinds, declared}
use Rattle.member_node.specs.Replies.{program_steps}
use Rattle.member_node.specs.Steps.{IsOtherwiseSame, IsUnchanged, replication}
use Rattle.world_members.specs.declared.world.World.{World}
use Rattle.world_places.specs.Channels.{channel_at}
use Rattle.world_places.specs.Places.{item_at, seat_of, member_of, keeper_of, first_keeper, identity_at}
use Rattle.world_members.specs.Standing.{StandsForWorld}
use Rattle.world_places.specs.Standing.{StandsForLink, StandsForRunning, TellsStore}
use Rattle.world_members.specs.Giving.{IsSame, IsAlikeButLinks, ChangesAt, IsAsBefore}
use Rattle.world_members.specs.Steps.{Stays}
use Rattle.world_places.specs.Keeping.{KeepsAt, AreSeated}
use Rattle.world_members.specs.Ways.{Means}
use Rattle.world_places.proofs.Seats.{member_changed, member_stays, member_seated, keeper_changed, keeper_stays, place_seated, no_seat, some_seat, never_empty, same_identity, few_places}
use Rattle.world_places.proofs.Lists.{at_one, at_each, for_same}
use Rattle.world_places.proofs.Storing.{store_stays, not_called_at}
use Rattle.world_members.proofs.Onward.{way_logs}

last_at : (views : List View) (view other : View) → slice_index_or (views ++ view ∷ []) (length views) other ≡ view
last_at [] view other = refl
last_at (v ∷ views) view other = last_at views view other

pub last_pushed : (views : List View) (view : View) → last_view (views ++ view ∷ []) ≡ view
last_pushed views view = ap (λ n. slice_index_or (views ++ view ∷ []) n (first_view 1)) (let a = length-append views (view ∷ []) in omega arith) ∙ last_at views view (first_view 1)

pub last_is : {Kind Op Shown : Type 0} (world : worlds.World Kind Op Shown) (views : List View) → views_of world ≡ views → last_view views ≡ world.view
last_is world views e = ap last_view (sym e) ∙ last_pushed world.earlier world.view

module _ {T K Kind Delta : Type 0} {ghosts : Ghosts T Kind Op Delta} {keeping : Keeping K} (i place : ℕ) (before after : Node T K Kind Op Delta ghosts keeping) (old new : World T K Kind Op Delta ghosts keeping) (changes : ChangesAt i place before after old new) where
  pub member_before : member_of (last_view old.views) old.nodes.items i ≡ Some before
  member_before = member_seated (last_view old.views) old.nodes.items i place (Some before) changes.seat changes.was

  pub member_after : member_of (last_view new.views) new.nodes.items i ≡ Some after
  member_after = (λ k. member_of (last_view (changes.views k)) (changes.nodes k) i) ∙ member_changed (last_view old.views) changes.sound old.nodes.items i place changes.seat (Some after) changes.within

  pub member_other : (j : ℕ) → j ≢ i → member_of (last_view new.views) new.nodes.items j ≡ member_of (last_view old.views) old.nodes.items j
  member_other j other = (λ k. member_of (last_view (changes.views k)) (changes.nodes k) j) ∙ member_stays (last_view old.views) changes.sound old.nodes.items i place changes.seat (Some after) changes.within j other

  -- the member has the program's limit of steps
  pub limit_before : before.limit ≡ program_steps
  limit_before = old.seated.limits place (few_places (last_view old.views) changes.sound i place changes.seat) before changes.was

  pub keeper_before : keeper_of old.nodes.items old.spare.items place ≡ Some before.keeper
  keeper_before = ap (λ o. first_keeper o (item_at old.spare.items place)) changes.was

  pub keeper_after : keeper_of new.nodes.items new.spare.items place ≡ Some after.keeper
  keeper_after = (λ k. keeper_of (changes.nodes k) (changes.spare k).items place) ∙ keeper_changed old.nodes.items old.spare.items place after changes.within

  pub keeper_other : (k : ℕ) → k ≢ place → keeper_of new.nodes.items new.spare.items k ≡ keeper_of old.nodes.items old.spare.items k
  keeper_other k other = (λ l. keeper_of (changes.nodes l) (changes.spare l).items k) ∙ keeper_stays old.nodes.items old.spare.items place k (Some after) other

module _ {T K Kind Delta : Type 0} {ghosts : Ghosts T Kind Op Delta} {keeping : Keeping K} (spelling : Spelling T Kind Op Delta) (kinds : Text → Kind) (logs : Text → History Op) where
  abbrev IsRunning : Option (Node T K Kind Op Delta ghosts keeping) → Option (nodes.Node Kind Op Shown) → Type 0
  IsRunning code running = StandsForRunning {ghosts = ghosts} {keeping = keeping} spelling kinds logs code running

  -- the model's member that a member stands for
  pub record IsAtWork (world : worlds.World Kind Op Shown) (i : ℕ) (code : Node T K Kind Op Delta ghosts keeping) : Type 0 where
    pub node : nodes.Node Kind Op Shown
    pub runs : world.nodes i ≡ Some node
    pub stands : StandsForNode ghosts.kind_of ghosts.IsDataOf kinds logs code node

  at_work : (world : worlds.World Kind Op Shown) (i : ℕ) (code : Node T K Kind Op Delta ghosts keeping) → IsRunning (Some code) (world.nodes i) → IsAtWork world i code
  at_work world i code s = record { node = s.0; runs = s.1; stands = s.2 }

  -- a member that keeps all but its keeper stands for what it stood for
  pub still_stands : (before after : Node T K Kind Op Delta ghosts keeping) (node : nodes.Node Kind Op Shown) → IsOtherwiseSame before after → StandsForNode ghosts.kind_of ghosts.IsDataOf kinds logs before node → StandsForNode ghosts.kind_of ghosts.IsDataOf kinds logs after node
  still_stands before after node same s =
      subst (λ (code : Node T K Kind Op Delta ghosts keeping). StandsForNode ghosts.kind_of ghosts.IsDataOf kinds logs code node) (sym same)
      (record { identity = s.identity; view = s.view; keys = s.keys; distinct = s.distinct; entries = s.entries; operations = s.operations; steps = s.steps })

  module _ (old new : World T K Kind Op Delta ghosts keeping) (world : worlds.World Kind Op Shown) (s : StandsForWorld spelling kinds logs old world) where
    -- no member has the identity
    pub gone_there : (i : ℕ) → seat_of (last_view old.views) i ≡ None → world.nodes i ≡ None
    gone_there i none = subst (λ o. IsRunning o (world.nodes i)) (ap (λ o. seat_item o) none) (s.running i)
      where
        seat_item : Option ℕ → Option (Node T K Kind Op Delta ghosts keeping)
        seat_item None = None
        seat_item (Some place) = item_at old.nodes.items place

    pub view_is : last_view old.views ≡ world.view
    view_is = last_is world old.views s.views

    -- by its members and stores the world stands for another of the model, with the same keys and links
    pub stands_in : (next : worlds.World Kind Op Shown) → views_of next ≡ new.views → next.keys ≡ world.keys → next.links ≡ world.links → new.keys ≡ old.keys → new.links ≡ old.links
        → ((j : ℕ) → IsRunning (member_of (last_view new.views) new.nodes.items j) (next.nodes j)) → ((k : ℕ) → TellsStore ghosts keeping spelling kinds logs (keeper_of new.nodes.items new.spare.items k) (next.stores k)) → StandsForWorld spelling kinds logs new next
    stands_in next views keys links same_keys same_links running stores =
        record {
          views = views;
          keys = keys ∙ s.keys ∙ ap (λ (decls : _). map declared decls.items) (sym same_keys);
          of_kinds = subst (λ (decls : _). AreOfKinds kinds decls.items) (sym same_keys) s.of_kinds;
          running = running;
          links = λ a b small few.
              subst (λ (ls : Links Op). StandsForLink {ghosts = ghosts} kinds logs (channel_at new.links a b) (ls a b)) (sym links)
              (subst (λ (channels : _). StandsForLink {ghosts = ghosts} kinds logs (channel_at channels a b) (world.links a b)) (sym same_links) (s.links a b small few));
          stores = stores;
        }

    -- one member is the same but for its keeper, and the others are as they were
    pub running_still : (i : ℕ) (before after : Node T K Kind Op Delta ghosts keeping) → IsOtherwiseSame before after → member_of (last_view old.views) old.nodes.items i ≡ Some before → member_of (last_view new.views) new.nodes.items i ≡ Some after
        → ((j : ℕ) → j ≢ i → member_of (last_view new.views) new.nodes.items j ≡ member_of (last_view old.views) old.nodes.items j) → (j : ℕ) → IsRunning (member_of (last_view new.views) new.nodes.items j) (world.nodes j)
    running_still i before after same was is others =
        let work = at_work world i before (subst (λ o. IsRunning o (world.nodes i)) was (s.running i)) in
        at_one (λ j. IsRunning (member_of (last_view new.views) new.nodes.items j) (world.nodes j)) i (subst (λ o. IsRunning o (world.nodes i)) (sym is) (work.node, work.runs, still_stands before after work.node same work.stands))
        (λ j other. subst (λ o. IsRunning o (world.nodes j)) (sym (others j other)) (s.running j))

    -- one keeper has the same table, and the others are as they were
    pub stores_still : ((a b : K) → is_some (keeping.table a) ≡ is_some (keeping.table b)) → (place : ℕ) (before after : K) → keeper_of old.nodes.items old.spare.items place ≡ Some before → keeper_of new.nodes.items new.spare.items place ≡ Some after → Becomes (keeping.table before) (keeping.table after) (λ table. table)
        → ((k : ℕ) → k ≢ place → keeper_of new.nodes.items new.spare.items k ≡ keeper_of old.nodes.items old.spare.items k) → (k : ℕ) → TellsStore ghosts keeping spelling kinds logs (keeper_of new.nodes.items new.spare.items k) (world.stores k)
    stores_still alike place before after was is table others =
        at_one (λ k. TellsStore ghosts keeping spelling kinds logs (keeper_of new.nodes.items new.spare.items k) (world.stores k)) place
        (subst (λ o. TellsStore ghosts keeping spelling kinds logs o (world.stores place)) (sym is)
        (store_stays ghosts spelling kinds logs keeping alike before after (world.stores place) table (subst (λ o. TellsStore ghosts keeping spelling kinds logs o (world.stores place)) was (s.stores place))))
        (λ k other. subst (λ o. TellsStore ghosts keeping spelling kinds logs o (world.stores k)) (sym (others k other)) (s.stores k))

    module _ (i place : ℕ) (before after : Node T K Kind Op Delta ghosts keeping) (changes : ChangesAt i place before after old new) where
      pub at_work_there : IsAtWork world i before
      at_work_there = at_work world i before (subst (λ o. IsRunning o (world.nodes i)) (member_before i place before after old new changes) (s.running i))

      pub place_there : place_of world.view i ≡ place
      place_there = place_seated world.view i place (ap (λ v. seat_of v i) (sym view_is) ∙ changes.seat)

      -- after a member's step, from these links
      pub stands_after : (links : Links Op) (node : nodes.Node Kind Op Shown) (fate : Fate) (stepped : Stepped Kind Op Shown) → StandsForNode ghosts.kind_of ghosts.IsDataOf kinds logs after stepped.node
          → ((a b : ℕ) → a < identity_limit → b < identity_limit → StandsForLink {ghosts = ghosts} kinds logs (channel_at new.links a b) (with_posts links i stepped.output.posts a b))
          → TellsStore ghosts keeping spelling kinds logs (Some after.keeper) (after_store fate (map keyed_entry (to_store node stepped.node)) (world.stores place))
          → StandsForWorld spelling kinds logs new (after_step (record world { links = links }) i node fate stepped)
      stands_after links node fate stepped member linked stored =
          record {
            views = s.views ∙ sym changes.views;
            keys = s.keys ∙ ap (λ (keys : _). map declared keys.items) (sym changes.keys);
            of_kinds = subst (λ (keys : _). AreOfKinds kinds keys.items) (sym changes.keys) s.of_kinds;
            running =
                at_each (λ j o. IsRunning (member_of (last_view new.views) new.nodes.items j) o) world.nodes i (Some stepped.node) (subst (λ o. IsRunning o (Some stepped.node)) (sym (member_after i place before after old new changes)) (stepped.node, refl, member))
                (λ j other. subst (λ o. IsRunning o (world.nodes j)) (sym (member_other i place before after old new changes j other)) (s.running j));
            links = linked;
            stores =
                at_each (λ k store. TellsStore ghosts keeping spelling kinds logs (keeper_of new.nodes.items new.spare.items k) store) world.stores (place_of world.view i) (then_store (place_of world.view i))
                (subst (λ k. TellsStore ghosts keeping spelling kinds logs (keeper_of new.nodes.items new.spare.items k) (then_store k)) (sym place_there) (subst (λ o. TellsStore ghosts keeping spelling kinds logs o (then_store place)) (sym (keeper_after i place before after old new changes)) stored))
                (λ k other. subst (λ o. TellsStore ghosts keeping spelling kinds logs o (world.stores k)) (sym (keeper_other i place before after old new changes k (λ e. other (e ∙ sym place_there)))) (s.stores k));
          }
        where
          then_store : ℕ → Store Op
          then_store k = after_store fate (map keyed_entry (to_store node stepped.node)) (world.stores k)

      -- after a refusal
      pub stands_kept : new.links ≡ old.links → IsUnchanged before after → (alike : (a b : K) → is_some (keeping.table a) ≡ is_some (keeping.table b)) → StandsForWorld spelling kinds logs new world
      stands_kept links unchanged alike =
          stands_in world (s.views ∙ sym changes.views) refl refl changes.keys links
          (running_still i before after unchanged.same (member_before i place before after old new changes) (member_after i place before after old new changes) (member_other i place before after old new changes))
          (stores_still alike place before.keeper after.keeper (keeper_before i place before after old new changes) (keeper_after i place before after old new changes) unchanged.told.table (keeper_other i place before after old new changes))

-- OTHER LINKS

module _ {T K Kind Delta : Type 0} {ghosts : Ghosts T Kind Op Delta} {keeping : Keeping K} (old new : World T K Kind Op Delta ghosts keeping) (same : IsAlikeButLinks old new) where
  pub keepers_alike : (k : ℕ) → keeper_of new.nodes.items new.spare.items k ≡ keeper_of old.nodes.items old.spare.items k
  keepers_alike k = λ l. keeper_of (same.nodes l) (same.spare l).items k

  pub kept_with_links : (k : ℕ) → KeepsAt keeping [] (keeper_of old.nodes.items old.spare.items k) (keeper_of new.nodes.items new.spare.items k)
  kept_with_links k = subst (KeepsAt keeping [] (keeper_of old.nodes.items old.spare.items k)) (sym (keepers_alike k)) (not_called_at keeping (keeper_of old.nodes.items old.spare.items k))

module _ {T K Kind Delta : Type 0} {ghosts : Ghosts T Kind Op Delta} {keeping : Keeping K} (spelling : Spelling T Kind Op Delta) (kinds : Text → Kind) (logs : Text → History Op) (old new : World T K Kind Op Delta ghosts keeping) (world : worlds.World Kind Op Shown) (s : StandsForWorld spelling kinds logs old world) (same : IsAlikeButLinks old new) where
  pub stands_with_links : (links : Links Op) → ((a b : ℕ) → a < identity_limit → b < identity_limit → StandsForLink {ghosts = ghosts} kinds logs (channel_at new.links a b) (links a b)) → StandsForWorld spelling kinds logs new (record world { links = links })
  stands_with_links links linked =
      record {
        views = s.views ∙ sym same.views;
        keys = s.keys ∙ ap (λ (keys : _). map declared keys.items) (sym same.keys);
        of_kinds = subst (λ (keys : _). AreOfKinds kinds keys.items) (sym same.keys) s.of_kinds;
        running = λ i. subst (λ o. StandsForRunning {ghosts = ghosts} {keeping = keeping} spelling kinds logs o (world.nodes i)) (λ l. sym (λ m. member_of (last_view (same.views m)) (same.nodes m) i) l) (s.running i);
        links = linked;
        stores = λ k. subst (λ o. TellsStore ghosts keeping spelling kinds logs o (world.stores k)) (sym (keepers_alike old new same k)) (s.stores k);
      }

-- NO CHANGE

module _ {T K Kind Delta : Type 0} {ghosts : Ghosts T Kind Op Delta} {keeping : Keeping K} where
  pub same_itself : (world : World T K Kind Op Delta ghosts keeping) → IsSame world world
  same_itself world = record { views = refl; keys = refl; spare = refl; nodes = refl; links = refl }

  pub but_links : (old new : World T K Kind Op Delta ghosts keeping) → IsSame old new → IsAlikeButLinks old new
  but_links old new same = record { views = same.views; keys = same.keys; spare = same.spare; nodes = same.nodes }

  pub kept_alike : (old new : World T K Kind Op Delta ghosts keeping) → IsSame old new → (k : ℕ) → KeepsAt keeping [] (keeper_of old.nodes.items old.spare.items k) (keeper_of new.nodes.items new.spare.items k)
  kept_alike old new same = kept_with_links old new (but_links old new same)

  -- where nothing is done
  pub as_it_was : (spelling : Spelling T Kind Op Delta) (a : World T K Kind Op Delta ghosts keeping) → IsAsBefore spelling a a
  as_it_was spelling a = record { kept = λ k. record { answers = []; keeps = not_called_at keeping (keeper_of a.nodes.items a.spare.items k) }; stays = λ kinds members decls p m. m }

  pub stays_same : (spelling : Spelling T Kind Op Delta) (old new : World T K Kind Op Delta ghosts keeping) → IsSame old new → Stays spelling old new
  stays_same spelling old new same kinds members decls p m =
      record {
        run = m.run;
        stands = λ logs through.
            let s = m.stands logs through in
            stands_with_links spelling kinds logs old new p.world s (but_links old new same) p.world.links
            (λ a b small few. subst (λ (channels : _). StandsForLink {ghosts = ghosts} kinds logs (channel_at channels a b) (p.world.links a b)) (sym same.links) (s.links a b small few));
      }

-- WHO RUNS

module _ {T K Kind Delta : Type 0} {ghosts : Ghosts T Kind Op Delta} {keeping : Keeping K} (spelling : Spelling T Kind Op Delta) (old : World T K Kind Op Delta ghosts keeping) (kinds : Text → Kind) (members : ℕ) (decls : List (KeyDecl Kind)) (p : Playing Kind Op Shown) (m : Means spelling kinds members decls p old) (i : ℕ) where
  pub absent_gone : is_member (last_view old.views) i ≡ false → p.world.nodes i ≡ None
  absent_gone absent =
      let logged = way_logs (replication ghosts spelling) members decls p m.run in
      gone_there spelling kinds logged.0 old old p.world (m.stands logged.0 logged.1) i (no_seat (last_view old.views) i absent)

  pub present_runs : IsView (last_view old.views) → is_member (last_view old.views) i ≡ true → (node : nodes.Node Kind Op Shown) × (p.world.nodes i ≡ Some node)
  present_runs sound present = by_item (item_at old.nodes.items seat.0) refl
    where
      seat : (place : ℕ) × (seat_of (last_view old.views) i ≡ Some place)
      seat = some_seat (last_view old.views) i present

      by_item : (o : Option (Node T K Kind Op Delta ghosts keeping)) → item_at old.nodes.items seat.0 ≡ o → (node : nodes.Node Kind Op Shown) × (p.world.nodes i ≡ Some node)
      by_item None e = absurd (never_empty old.views old.nodes.items old.spare.items old.seated i seat.0 sound seat.1 e)
      by_item (Some code) e =
          let logged = way_logs (replication ghosts spelling) members decls p m.run in
          let s = subst (λ o. StandsForRunning {ghosts = ghosts} {keeping = keeping} spelling kinds logged.0 o (p.world.nodes i)) (member_seated (last_view old.views) old.nodes.items i seat.0 (Some code) seat.1 e) ((m.stands logged.0 logged.1).running i) in
          (s.0, s.1)

-- ANOTHER VIEW

-- one more view, and all but one place as before
pub record IsReseated {T K Kind Op Delta : Type 0} {ghosts : Ghosts T Kind Op Delta} {keeping : Keeping K} (view : View) (place : ℕ) (old new : World T K Kind Op Delta ghosts keeping) : Type 0 where
  pub views : new.views ≡ old.views ++ view ∷ []
  pub keys : new.keys ≡ old.keys
  pub links : new.links ≡ old.links
  pub others : (other : ℕ) → other ≢ place → item_at new.nodes.items other ≡ item_at old.nodes.items other
  pub spares : (other : ℕ) → other ≢ place → item_at new.spare.items other ≡ item_at old.spare.items other

module _ {T K Kind Op Delta : Type 0} {ghosts : Ghosts T Kind Op Delta} {keeping : Keeping K} where
  module _ (view : View) (place : ℕ) (old new : World T K Kind Op Delta ghosts keeping) (r : IsReseated view place old new) where
    pub last_now : last_view new.views ≡ view
    last_now = ap last_view r.views ∙ last_pushed old.views view

    pub keeper_elsewhere : (other : ℕ) → other ≢ place → keeper_of new.nodes.items new.spare.items other ≡ keeper_of old.nodes.items old.spare.items other
    keeper_elsewhere other apart = ap (λ o. first_keeper o (item_at new.spare.items other)) (r.others other apart) ∙ ap (first_keeper (item_at old.nodes.items other)) (r.spares other apart)

    -- whose seat is the same, and another place
    pub member_elsewhere : (j : ℕ) → seat_of view j ≡ seat_of (last_view old.views) j → (seat_of (last_view old.views) j ≡ Some place → ⊥) → member_of (last_view new.views) new.nodes.items j ≡ member_of (last_view old.views) old.nodes.items j
    member_elsewhere j same apart = ap (λ v. member_of v new.nodes.items j) last_now ∙ ap (option_and_then (item_at new.nodes.items)) same ∙ go (seat_of (last_view old.views) j) refl
      where
        go : (o : Option ℕ) → seat_of (last_view old.views) j ≡ o → option_and_then (item_at new.nodes.items) o ≡ option_and_then (item_at old.nodes.items) o
        go None is = refl
        go (Some q) is = r.others q (λ e. apart (is ∙ ap Some e))

    pub member_here : (j : ℕ) (o : Option ℕ) → seat_of view j ≡ o → member_of (last_view new.views) new.nodes.items j ≡ option_and_then (item_at new.nodes.items) o
    member_here j o seat = ap (λ v. member_of v new.nodes.items j) last_now ∙ ap (option_and_then (item_at new.nodes.items)) seat

  -- the seats at a place tell who is there
  module _ (views : List View) (view : View) (is_last : IsView (last_view views)) (is_view : IsView view) (place : ℕ) (nodes new : List (Option (Node T K Kind Op Delta ghosts keeping))) (spare left : List (Option K)) (others : (other : ℕ) → other ≢ place → item_at new other ≡ item_at nodes other)
      (spares : (other : ℕ) → other ≢ place → item_at left other ≡ item_at spare other) (seated : AreSeated views nodes spare) where
    abbrev HasLimit : Node T K Kind Op Delta ghosts keeping → Type 0
    HasLimit node = node.limit ≡ program_steps

    pub still_seated : ((q : ℕ) → q ≢ place → (i : ℕ) → seat_of (last_view views) i ≡ Some q → seat_of view i ≡ Some q) → ((q : ℕ) → q ≢ place → (i : ℕ) → seat_of view i ≡ Some q → seat_of (last_view views) i ≡ Some q)
        → option_map (λ (node : Node T K Kind Op Delta ghosts keeping). node.id) (item_at new place) ≡ identity_at view place → is_some (item_at left place) ≡ not (is_some (item_at new place)) → ForSome (item_at new place) HasLimit → AreSeated (views ++ view ∷ []) new left
    still_seated forth back here spare_here limited =
        record {
          members = at_one (λ q. q < 8 → option_map (λ (node : Node T K Kind Op Delta ghosts keeping). node.id) (item_at new q) ≡ identity_at (last_view (views ++ view ∷ [])) q) place
              (λ within. here ∙ sym (ap (λ v. identity_at v place) (last_pushed views view)))
              (λ q apart within.
              ap (option_map (λ (node : Node T K Kind Op Delta ghosts keeping). node.id)) (others q apart) ∙ seated.members q within ∙ sym (same_identity (last_view views) view is_last is_view q (forth q apart) (back q apart))
              ∙ sym (ap (λ v. identity_at v q) (last_pushed views view)));
          spares = at_one (λ q. q < 8 → is_some (item_at left q) ≡ not (is_some (item_at new q))) place (λ within. spare_here)
              (λ q apart within. ap is_some (spares q apart) ∙ seated.spares q within ∙ sym (ap (λ (o : Option (Node T K Kind Op Delta ghosts keeping)). not (is_some o)) (others q apart)));
          limits = at_one (λ q. q < 8 → ForSome (item_at new q) HasLimit) place (λ within. limited) (λ q apart within. for_same HasLimit (item_at nodes q) (item_at new q) (others q apart) (seated.limits q within));
        }
