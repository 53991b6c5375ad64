-- Requests to follow a key, answered by the desks of a world as by the model.
use Rattle.std.proofs.Common.{◌≡◌, ℕ, List, [], ◌∷◌, Bool, true, false, ◌==◌, Option, None, Some, refl, sym, ap, subst, ◌∙◌}
use Rattle.std.specs.Prelude.{find, is_some, option_map, if◌then◌else◌}
use Rattle.std.specs.Ordering.{match_ordering}
use Rattle.std.specs.Str.{bytes_eq}
use Rattle.std.specs.declared.cmp.Ordering.{Ordering}
use Rattle.std.specs.declared.cmp.Ordering.TheVariants.{Less, Equal, Greater}
use Rattle.model_history.specs.Table.{with_at}
use Rattle.model_history.specs.Texts.{Text}
use Rattle.model_history.specs.History.{History}
use Rattle.model_members.specs.DataType.{DataType}
use Rattle.model_members.specs.Node as nodes
use Rattle.model_members.specs.Node.{KeyDecl}
use Rattle.model_kinds.specs.declared.shown.Shown.{Shown}
use Rattle.base_bytes.specs.TextOrder.{text_order}
use Rattle.data_lattice.specs.declared.replica.Replica.{Ghosts}
use Rattle.data_lattice.specs.declared.spelled.SpelledData.{Ghosts as Spelling}
use Rattle.member_desk.specs.declared.client.Subscribed.TheVariants.{New, Standing}
use Rattle.member_desk.specs.declared.followed.Followed.{Followed}
use Rattle.member_desk.specs.declared.look.Told.{Told}
use Rattle.member_desk.specs.Histories.{StandsForDesk}
use Rattle.member_desk.specs.Places.{sought}
use Rattle.member_desk.specs.Subscriptions.{by_key, follows, has_client, is_subscribed, with_subscription, without_subscription}
use Rattle.member_desk.proofs.Following.{stands_with, stands_without}
use Rattle.member_keeper.specs.declared.keeper.Keeper.{Ghosts as Keeping}
use Rattle.member_node.proofs.Standing.{find-map}
use Rattle.member_node.specs.Keys.{declared_by}
use Rattle.member_node.specs.Members.{StandsForNode}
use Rattle.member_node.specs.Steps.{replication}
use Rattle.member_node.specs.declared.key.KeyState.{KeyState}
use Rattle.member_node.specs.declared.node.Node.{Node}
use Rattle.member_views.specs.Sound.{last_view}
use Rattle.theorem_runs.proofs.AgreementOverRuns.{logs_throughout}
use Rattle.theorem_watching.specs.Watching.{Watching, WatchStep, watched, answered, declared_in, if_followed, with_change, subscribe_answer, unsubscribe_answer}
use Rattle.theorem_watching.specs.declared.followship.Followship.{Followship}
use Rattle.theorem_watching.specs.declared.followship.Followship.TheVariants.{Gone, UnknownKey, Subscribed, AlreadySubscribed, Unsubscribed, NotSubscribed}
use Rattle.world_members.specs.declared.world.World.{World}
use Rattle.world_places.specs.Places.{member_of}
use Rattle.world_places.specs.Standing.{StandsForRunning}
use Rattle.world_members.specs.Ways.{Throughout}
use Rattle.world_desks.specs.declared.desks.Desks.{Desks}
use Rattle.world_desks.specs.Seats.{desk_of, ChangesAt}
use Rattle.world_desks.specs.Watched.{Means, Answers, subscribes, unsubscribes}
use Rattle.world_desks.proofs.Placed.{nothing_changed}

-- WHO IS SUBSCRIBED

module _ {Kind Op : Type 0} (data_type : DataType Kind Op Shown) (kinds : Text → Kind) (logs : Text → History Op) (key : Text) (client : ℕ) where
  pub same_subscribed : (code : List (Followed Told)) (desk : List (Followed (History Op))) → StandsForDesk data_type kinds logs code desk → is_subscribed code key client ≡ is_subscribed desk key client
  same_subscribed [] [] all = refl
  same_subscribed [] (m ∷ ms) all = absurd all
  same_subscribed (c ∷ cs) [] all = absurd all
  same_subscribed (c ∷ cs) (m ∷ ms) all = by_order (text_order c.key key) (same_subscribed cs ms all.1) ∙ ap (λ (k : Text). follows (match_ordering (text_order k key) (sought (by_key key) ms) (Some m) None) client) (sym all.0.key)
    where
      by_order : (o : Ordering) → is_subscribed cs key client ≡ is_subscribed ms key client → follows (match_ordering o (sought (by_key key) cs) (Some c) None) client ≡ follows (match_ordering o (sought (by_key key) ms) (Some m) None) client
      by_order Less rest = rest
      by_order Equal rest = ap (λ cs. has_client cs client) (sym all.0.clients)
      by_order Greater rest = refl

pub new_is : (b : Bool) → New ≡ (if b then Standing else New) → b ≡ false
new_is true e = absurd (cc e)
new_is false e = refl

pub standing_is : (b : Bool) → Standing ≡ (if b then Standing else New) → b ≡ true
standing_is true e = refl
standing_is false e = absurd (cc e)

-- WHICH KEYS ARE DECLARED

-- what is answered where it is known whether a member runs and declares the key
abbrev pub answered_in : Option Bool → Followship → Followship
answered_in None answer = Gone
answered_in (Some true) answer = answer
answered_in (Some false) answer = UnknownKey

by_declared : (b : Bool) (answer : Followship) → (if b then answer else UnknownKey) ≡ answered_in (Some b) answer
by_declared true answer = refl
by_declared false answer = refl

some_mapped : {X Y : Type 0} (f : X → Y) (o : Option X) → is_some (option_map f o) ≡ is_some o
some_mapped f None = refl
some_mapped f (Some x) = refl

module _ {T K Kind Op Delta : Type 0} {ghosts : Ghosts T Kind Op Delta} {keeping : Keeping K} (spelling : Spelling T Kind Op Delta) (key : Text) where
  -- whether a member declares the key
  abbrev pub declares : Node T K Kind Op Delta ghosts keeping → Bool
  declares node = is_some (find (λ (state : KeyState T Kind Op Delta). bytes_eq state.name key) node.keys.items)

  module _ (kinds : Text → Kind) (logs : Text → History Op) where
    same_declared : (code : Node T K Kind Op Delta ghosts keeping) (node : nodes.Node Kind Op Shown) → StandsForNode ghosts.kind_of ghosts.IsDataOf kinds logs code node → is_some (declared_in node.keys key) ≡ declares code
    same_declared code node stands =
        ap (λ (keys : List (KeyDecl Kind)). is_some (declared_in keys key)) stands.keys
        ∙ ap (λ (o : Option (KeyDecl Kind)). is_some o) (find-map (λ (decl : KeyDecl Kind). bytes_eq decl.name key) declared_by code.keys.items)
        ∙ some_mapped declared_by (find (λ (state : KeyState T Kind Op Delta). bytes_eq state.name key) code.keys.items)

    same_answered : (code : Option (Node T K Kind Op Delta ghosts keeping)) (running : Option (nodes.Node Kind Op Shown)) (answer : Followship) → StandsForRunning spelling kinds logs code running → answered running key answer ≡ answered_in (option_map declares code) answer
    same_answered None running answer runs = ap (λ (r : Option (nodes.Node Kind Op Shown)). answered r key answer) runs
    same_answered (Some code) running answer runs =
        ap (λ (r : Option (nodes.Node Kind Op Shown)). answered r key answer) runs.1 ∙ ap (λ b. if b then answer else UnknownKey) (same_declared code runs.0 runs.2) ∙ by_declared (declares code) answer

-- REQUESTS

module _ {T K Kind Op Delta : Type 0} {ghosts : Ghosts T Kind Op Delta} {keeping : Keeping K} (spelling : Spelling T Kind Op Delta) (world : World T K Kind Op Delta ghosts keeping) where
  module _ (kinds : Text → Kind) (members : ℕ) (decls : List (KeyDecl Kind)) (w : Watching Kind Op) (old : Desks) (h : Means spelling kinds members decls w world old) where
    -- logs of the whole way
    pub way_logs : (logs : Text → History Op) × Throughout (replication ghosts spelling) logs members decls w.playing
    way_logs =
        let logs = logs_throughout (replication ghosts spelling) members decls w.playing.events w.playing.world h.means.run in
        (logs.0, record { histories = logs.1.last.histories; logged = logs.1.throughout })

    pub runs_now : (i : ℕ) → StandsForRunning spelling kinds way_logs.0 (member_of (last_view world.views) world.nodes.items i) (w.playing.world.nodes i)
    runs_now i = (h.means.stands way_logs.0 way_logs.1).running i

    -- the desk of one identity becomes another one, that stands for another one
    pub desks_mean : (new : Desks) (at : ℕ) (desk : List (Followed Told)) (meant : List (Followed (History Op))) → ChangesAt at desk old.seats.items new.seats.items
        → ((logs : Text → History Op) → Throughout (replication ghosts spelling) logs members decls w.playing → StandsForDesk ghosts.data_type kinds logs desk meant)
        → Means spelling kinds members decls (record w { desks = with_at w.desks at meant }) world new
    desks_mean new at desk meant changes stands =
        record {
          means = h.means;
          stand = λ logs through i.
              subst (λ (d : List (Followed Told)). StandsForDesk ghosts.data_type kinds logs d (with_at w.desks at meant i)) (sym (changes i))
              (either logs i (i == at) (stands logs through) (h.stand logs through i));
        }
      where
        either : (logs : Text → History Op) (i : ℕ) (b : Bool) → StandsForDesk ghosts.data_type kinds logs desk meant → StandsForDesk ghosts.data_type kinds logs (desk_of old.seats.items i) (w.desks i)
            → StandsForDesk ghosts.data_type kinds logs (if b then desk else desk_of old.seats.items i) (if b then meant else w.desks i)
        either logs i true here there = here
        either logs i false here there = there

    -- it becomes so by a request
    pub changed_means : (new : Desks) (at : ℕ) (answer : Followship) (change : List (Followed (History Op)) → List (Followed (History Op))) (desk : List (Followed Told)) → ChangesAt at desk old.seats.items new.seats.items
        → ((logs : Text → History Op) → StandsForDesk ghosts.data_type kinds logs (desk_of old.seats.items at) (w.desks at) → StandsForDesk ghosts.data_type kinds logs desk (if_followed answer change (w.desks at)))
        → Means spelling kinds members decls (with_change w at answer change) world new
    changed_means new at answer change desk changes stands =
        desks_mean new at desk (if_followed answer change (w.desks at)) changes (λ logs through. stands logs (h.stand logs through at))

    -- a request that is refused changes nothing
    refused_means : (at : ℕ) (answer : Followship) (change : List (Followed (History Op)) → List (Followed (History Op))) → if_followed answer change (w.desks at) ≡ w.desks at → Means spelling kinds members decls (with_change w at answer change) world old
    refused_means at answer change same =
        changed_means old at answer change (desk_of old.seats.items at) (nothing_changed old.seats.items at (desk_of old.seats.items at) refl)
        (λ logs stands. subst (StandsForDesk ghosts.data_type kinds logs (desk_of old.seats.items at)) (sym same) stands)

  module _ (at client : ℕ) (key : Text) (old : Desks) where
    abbrev declared_now : Option Bool
    declared_now = option_map (declares spelling key) (member_of (last_view world.views) world.nodes.items at)

    abbrev subscribed_now : Bool
    subscribed_now = is_subscribed (desk_of old.seats.items at) key client

    -- how the model answers
    asked_to_subscribe : (kinds : Text → Kind) (members : ℕ) (decls : List (KeyDecl Kind)) (w : Watching Kind Op) (h : Means spelling kinds members decls w world old) → subscribe_answer w at client key ≡ answered_in declared_now (if subscribed_now then AlreadySubscribed else Subscribed)
    asked_to_subscribe kinds members decls w h =
        let logs = way_logs kinds members decls w old h in
        same_answered spelling key kinds logs.0 (member_of (last_view world.views) world.nodes.items at) (w.playing.world.nodes at) (if is_subscribed (w.desks at) key client then AlreadySubscribed else Subscribed) (runs_now kinds members decls w old h at)
        ∙ ap (λ b. answered_in declared_now (if b then AlreadySubscribed else Subscribed)) (sym (same_subscribed ghosts.data_type kinds logs.0 key client (desk_of old.seats.items at) (w.desks at) (h.stand logs.0 logs.1 at)))

    asked_to_unsubscribe : (kinds : Text → Kind) (members : ℕ) (decls : List (KeyDecl Kind)) (w : Watching Kind Op) (h : Means spelling kinds members decls w world old) → unsubscribe_answer w at client key ≡ answered_in declared_now (if subscribed_now then Unsubscribed else NotSubscribed)
    asked_to_unsubscribe kinds members decls w h =
        let logs = way_logs kinds members decls w old h in
        same_answered spelling key kinds logs.0 (member_of (last_view world.views) world.nodes.items at) (w.playing.world.nodes at) (if is_subscribed (w.desks at) key client then Unsubscribed else NotSubscribed) (runs_now kinds members decls w old h at)
        ∙ ap (λ b. answered_in declared_now (if b then Unsubscribed else NotSubscribed)) (sym (same_subscribed ghosts.data_type kinds logs.0 key client (desk_of old.seats.items at) (w.desks at) (h.stand logs.0 logs.1 at)))

    -- and what follows
    module _ (answers : Watching Kind Op → Followship) (change : List (Followed (History Op)) → List (Followed (History Op))) (step : WatchStep Op) (answer : Followship) (new : Desks)
        (changes : (w : Watching Kind Op) → watched (replication ghosts spelling) w step ≡ with_change w at (answers w) change)
        (says : (kinds : Text → Kind) (members : ℕ) (decls : List (KeyDecl Kind)) (w : Watching Kind Op) → Means spelling kinds members decls w world old → answers w ≡ answer)
        (leads : (kinds : Text → Kind) (members : ℕ) (decls : List (KeyDecl Kind)) (w : Watching Kind Op) → Means spelling kinds members decls w world old → Means spelling kinds members decls (with_change w at answer change) world new) where
      all_answers : Answers spelling world answers step old new answer
      all_answers kinds members decls w h =
          let same = says kinds members decls w h in
          record {
            answered = sym same;
            means = subst (λ (v : Watching Kind Op). Means spelling kinds members decls v world new) (sym (changes w)) (subst (λ a. Means spelling kinds members decls (with_change w at a change) world new) (sym same) (leads kinds members decls w h));
          }

    abbrev with_one : List (Followed (History Op)) → List (Followed (History Op))
    with_one desk = with_subscription desk key client

    abbrev without_one : List (Followed (History Op)) → List (Followed (History Op))
    without_one desk = without_subscription desk key client

    -- a member that does not run, or does not declare the key
    pub subscribe_gone : None ≡ declared_now → Answers spelling world (subscribes at client key) (WatchStep.Subscribe at client key) old old Gone
    subscribe_gone none =
        all_answers (subscribes at client key) with_one (WatchStep.Subscribe at client key) Gone old (λ w. refl)
        (λ kinds members decls w h. asked_to_subscribe kinds members decls w h ∙ ap (λ d. answered_in d (if subscribed_now then AlreadySubscribed else Subscribed)) (sym none))
        (λ kinds members decls w h. refused_means kinds members decls w old h at Gone with_one refl)

    pub subscribe_unknown : Some false ≡ declared_now → Answers spelling world (subscribes at client key) (WatchStep.Subscribe at client key) old old UnknownKey
    subscribe_unknown is =
        all_answers (subscribes at client key) with_one (WatchStep.Subscribe at client key) UnknownKey old (λ w. refl)
        (λ kinds members decls w h. asked_to_subscribe kinds members decls w h ∙ ap (λ d. answered_in d (if subscribed_now then AlreadySubscribed else Subscribed)) (sym is))
        (λ kinds members decls w h. refused_means kinds members decls w old h at UnknownKey with_one refl)

    pub unsubscribe_gone : None ≡ declared_now → Answers spelling world (unsubscribes at client key) (WatchStep.Unsubscribe at client key) old old Gone
    unsubscribe_gone none =
        all_answers (unsubscribes at client key) without_one (WatchStep.Unsubscribe at client key) Gone old (λ w. refl)
        (λ kinds members decls w h. asked_to_unsubscribe kinds members decls w h ∙ ap (λ d. answered_in d (if subscribed_now then Unsubscribed else NotSubscribed)) (sym none))
        (λ kinds members decls w h. refused_means kinds members decls w old h at Gone without_one refl)

    pub unsubscribe_unknown : Some false ≡ declared_now → Answers spelling world (unsubscribes at client key) (WatchStep.Unsubscribe at client key) old old UnknownKey
    unsubscribe_unknown is =
        all_answers (unsubscribes at client key) without_one (WatchStep.Unsubscribe at client key) UnknownKey old (λ w. refl)
        (λ kinds members decls w h. asked_to_unsubscribe kinds members decls w h ∙ ap (λ d. answered_in d (if subscribed_now then Unsubscribed else NotSubscribed)) (sym is))
        (λ kinds members decls w h. refused_means kinds members decls w old h at UnknownKey without_one refl)

    -- one that runs and declares it
    module _ (is : Some true ≡ declared_now) (new : Desks) where
      pub subscribe_declared : (b : Bool) → subscribed_now ≡ b → ChangesAt at (with_subscription (desk_of old.seats.items at) key client) old.seats.items new.seats.items
          → Answers spelling world (subscribes at client key) (WatchStep.Subscribe at client key) old new (if b then AlreadySubscribed else Subscribed)
      subscribe_declared b stands changes =
          all_answers (subscribes at client key) with_one (WatchStep.Subscribe at client key) (if b then AlreadySubscribed else Subscribed) new (λ w. refl)
          (λ kinds members decls w h. asked_to_subscribe kinds members decls w h ∙ ap (λ d. answered_in d (if subscribed_now then AlreadySubscribed else Subscribed)) (sym is) ∙ ap (λ b. if b then AlreadySubscribed else Subscribed) stands)
          (λ kinds members decls w h. changed_means kinds members decls w old h new at (if b then AlreadySubscribed else Subscribed) with_one (with_subscription (desk_of old.seats.items at) key client) changes
          (λ logs was. subst (StandsForDesk ghosts.data_type kinds logs (with_subscription (desk_of old.seats.items at) key client)) (sym (granted b (w.desks at))) (stands_with ghosts.data_type kinds logs key client (desk_of old.seats.items at) (w.desks at) was)))
        where
          granted : (b : Bool) (desk : List (Followed (History Op))) → if_followed (if b then AlreadySubscribed else Subscribed) with_one desk ≡ with_one desk
          granted true desk = refl
          granted false desk = refl

      pub unsubscribe_declared : (b : Bool) → subscribed_now ≡ b → ChangesAt at (without_subscription (desk_of old.seats.items at) key client) old.seats.items new.seats.items
          → Answers spelling world (unsubscribes at client key) (WatchStep.Unsubscribe at client key) old new (if b then Unsubscribed else NotSubscribed)
      unsubscribe_declared b stands changes =
          all_answers (unsubscribes at client key) without_one (WatchStep.Unsubscribe at client key) (if b then Unsubscribed else NotSubscribed) new (λ w. refl)
          (λ kinds members decls w h. asked_to_unsubscribe kinds members decls w h ∙ ap (λ d. answered_in d (if subscribed_now then Unsubscribed else NotSubscribed)) (sym is) ∙ ap (λ b. if b then Unsubscribed else NotSubscribed) stands)
          (λ kinds members decls w h. changed_means kinds members decls w old h new at (if b then Unsubscribed else NotSubscribed) without_one (without_subscription (desk_of old.seats.items at) key client) changes
          (λ logs was. subst (StandsForDesk ghosts.data_type kinds logs (without_subscription (desk_of old.seats.items at) key client)) (sym (granted b (w.desks at))) (stands_without ghosts.data_type kinds logs key client (desk_of old.seats.items at) (w.desks at) was)))
        where
          granted : (b : Bool) (desk : List (Followed (History Op))) → if_followed (if b then Unsubscribed else NotSubscribed) without_one desk ≡ without_one desk
          granted true desk = refl
          granted false desk = refl
