-- Desks stay in order along a script, and a request leaves alone what a client that follows on was told.
use Rattle.std.proofs.Common.{◌≡◌, ◌≢◌, ℕ, List, [], ◌∷◌, Bool, true, false, Option, Some, None, refl, ap, sym, ◌∙◌, subst, ◌⊎◌, inl, inr}
use Rattle.std.specs.Prelude.{if◌then◌else◌, is_some, ◌==◌}
use Rattle.std.specs.Bool.{Decides}
use Rattle.std.specs.Str.{bytes_eq}
use Rattle.std.proofs.lemmas.Bool.Decides.{eqb_tells}
use Rattle.std.proofs.lemmas.Slice.Eq.{bytes_eq-Decides}
use Rattle.model_history.specs.Table.{with_at}
use Rattle.model_history.specs.Texts.{Text}
use Rattle.model_history.specs.History.{History}
use Rattle.model_history.proofs.CutLaws.{with_at_is}
use Rattle.model_history.proofs.HistoryLaws.{with_at_other}
use Rattle.model_members.specs.DataType.{Replication}
use Rattle.model_members.specs.Node.{Node}
use Rattle.model_members.specs.Script.{played}
use Rattle.model_members.specs.World.{World}
use Rattle.model_kinds.specs.declared.shown.Shown.{Shown}
use Rattle.member_desk.specs.declared.client.Client.{Client}
use Rattle.member_desk.specs.declared.followed.Followed.{Followed}
use Rattle.member_desk.specs.Places.{sought}
use Rattle.member_desk.specs.Subscriptions.{by_number, by_key, follows, is_subscribed, told_by_clients, told_of, told_to, with_subscription, without_subscription, AreInOrder}
use Rattle.member_desk.specs.Histories.{held_at}
use Rattle.member_desk.proofs.After.{in_order_after}
use Rattle.member_desk.proofs.Orders.{in_order_with, in_order_without}
use Rattle.member_desk.proofs.Subscribing.{standing_stays, new_untold, others_with, ended_untold, others_without}
use Rattle.theorem_watching.specs.declared.followship.Followship.{Followship}
use Rattle.theorem_watching.specs.declared.followship.Followship.TheVariants.{Gone, UnknownKey, Subscribed, AlreadySubscribed, Unsubscribed, NotSubscribed}
use Rattle.theorem_watching.specs.Watching.{WatchStep, Watching, Desks, answered, declared_in, if_followed, of_running, told_at, after_flush, flushed_by, subscribe_answer, unsubscribe_answer, with_change, just_played, watched, watched_all}
use Rattle.theorem_watching.specs.Watching.WatchStep.{Plain, Subscribe, Unsubscribe}

-- ORDER

abbrev pub AllInOrder : {Op : Type 0} → Desks Op → Type 0
AllInOrder desks = (i : ℕ) → AreInOrder (desks i)

module _ {Op : Type 0} where
  ordered_at : (desks : Desks Op) (at : ℕ) (desk : List (Followed (History Op))) → AllInOrder desks → AreInOrder desk → AllInOrder (with_at desks at desk)
  ordered_at desks at desk h its i = go (i == at)
    where
      go : (b : Bool) → AreInOrder (if b then desk else desks i)
      go true = its
      go false = h i

  if_followed_order : (answer : Followship) (change : List (Followed (History Op)) → List (Followed (History Op))) (desk : List (Followed (History Op))) → AreInOrder desk → AreInOrder (change desk) → AreInOrder (if_followed answer change desk)
  if_followed_order Gone change desk h its = h
  if_followed_order UnknownKey change desk h its = h
  if_followed_order Subscribed change desk h its = its
  if_followed_order AlreadySubscribed change desk h its = its
  if_followed_order Unsubscribed change desk h its = its
  if_followed_order NotSubscribed change desk h its = its

module _ {Kind Op : Type 0} (D : Replication Kind Op Shown) where
  told_order : (o : Option (Node Kind Op Shown)) (desk : List (Followed (History Op))) → AreInOrder desk → AreInOrder (told_at D.data_type o desk)
  told_order None desk h = h
  told_order (Some node) desk h = in_order_after (held_at node) desk h

  running_order : (world : World Kind Op Shown) (desks : Desks Op) → AllInOrder desks → AllInOrder (of_running world desks)
  running_order world desks h i = go (is_some (world.nodes i))
    where
      go : (b : Bool) → AreInOrder (if b then desks i else [])
      go true = h i
      go false = (tt, tt)

  flush_order : (q : Watching Kind Op) (flushed : Option ℕ) → AllInOrder q.desks → AllInOrder (after_flush D.data_type q flushed).desks
  flush_order q None h = h
  flush_order q (Some at) h = ordered_at q.desks at (told_at D.data_type (q.playing.world.nodes at) (q.desks at)) h (told_order (q.playing.world.nodes at) (q.desks at) (h at))

  pub watched_order : (w : Watching Kind Op) (step : WatchStep Op) → AllInOrder w.desks → AllInOrder (watched D w step).desks
  watched_order w (Plain step) h = flush_order (just_played D w step) (flushed_by (just_played D w step).playing.lines) (running_order (played D w.playing step).world w.desks h)
  watched_order w (Subscribe at client key) h =
      ordered_at w.desks at (if_followed (subscribe_answer w at client key) (λ desk. with_subscription desk key client) (w.desks at)) h
      (if_followed_order (subscribe_answer w at client key) (λ desk. with_subscription desk key client) (w.desks at) (h at) (in_order_with (w.desks at) key client (h at)))
  watched_order w (Unsubscribe at client key) h =
      ordered_at w.desks at (if_followed (unsubscribe_answer w at client key) (λ desk. without_subscription desk key client) (w.desks at)) h
      (if_followed_order (unsubscribe_answer w at client key) (λ desk. without_subscription desk key client) (w.desks at) (h at) (in_order_without (w.desks at) key client (h at)))

  pub all_order : (w : Watching Kind Op) (steps : List (WatchStep Op)) → AllInOrder w.desks → AllInOrder (watched_all D w steps).desks
  all_order w [] h = h
  all_order w (step ∷ steps) h = all_order (watched D w step) steps (watched_order w step h)

-- WHAT WAS TOLD

same_pair : (key other : Text) (n m : ℕ) → ((key ≡ other) × (n ≡ m)) ⊎ ((key ≢ other) ⊎ (n ≢ m))
same_pair key other n m = go (bytes_eq key other) refl
  where
    decides : Decides (bytes_eq key other) (key ≡ other)
    decides = bytes_eq-Decides key other

    go : (b : Bool) → bytes_eq key other ≡ b → ((key ≡ other) × (n ≡ m)) ⊎ ((key ≢ other) ⊎ (n ≢ m))
    go true is = elim (eqb_tells n m) [ inl same ↦ inl (decides.0 is, same.1) | inr apart ↦ inr (inr apart.1) ]
    go false is = inr (inl (λ same. let yes = decides.1 same in cc (is, yes)))

module _ {V : Type 0} where
  -- nobody follows where nothing is kept
  not_followed : (desk : List (Followed V)) (key : Text) (n : ℕ) → told_to desk key n ≡ None → is_subscribed desk key n ≡ true → ⊥
  not_followed desk key n e follow = go (sought (by_key key) desk) e follow
    where
      inner : (followed : Followed V) (client : Option Client) → told_by_clients followed client ≡ None → is_some client ≡ true → ⊥
      inner followed None e' f = cc f
      inner followed (Some client) e' f = cc e'

      go : (o : Option (Followed V)) → told_of o n ≡ None → follows o n ≡ true → ⊥
      go None e' f = cc f
      go (Some followed) e' f = inner followed (sought (by_number n) followed.clients) e' f

  module _ (desk : List (Followed V)) (in_order : AreInOrder desk) (key other : Text) (n m : ℕ) where
    pub with_keeps : is_subscribed desk other m ≡ true → told_to (with_subscription desk key n) other m ≡ told_to desk other m
    with_keeps follow = elim (same_pair key other n m) [
      | inl same ↦ ap (λ (d : List (Followed V)). told_to d other m) (ap (λ k. with_subscription desk k n) same.0 ∙ ap (with_subscription desk other) same.1 ∙ standing_stays desk in_order other m follow)
      | inr apart ↦ others_with desk in_order key n other m apart
    ]

    pub without_keeps : is_subscribed (without_subscription desk key n) other m ≡ true → told_to (without_subscription desk key n) other m ≡ told_to desk other m
    without_keeps follow = elim (same_pair key other n m) [
      | inl same ↦ absurd (not_followed (without_subscription desk key n) other m
          (ap (λ (d : List (Followed V)). told_to d other m) (ap (λ k. without_subscription desk k n) same.0 ∙ ap (without_subscription desk other) same.1) ∙ ended_untold desk in_order other m) follow)
      | inr apart ↦ others_without desk in_order key n other m apart
    ]

module _ {Kind Op : Type 0} (w : Watching Kind Op) (i : ℕ) (key : Text) (n : ℕ) where
  abbrev Kept : List (Followed (History Op)) → List (Followed (History Op)) → Type 0
  Kept old new = is_subscribed new key n ≡ true → told_to new key n ≡ told_to old key n

  if_kept : (answer : Followship) (change : List (Followed (History Op)) → List (Followed (History Op))) (desk : List (Followed (History Op))) → Kept desk (change desk) → Kept desk (if_followed answer change desk)
  if_kept Gone change desk h follow = refl
  if_kept UnknownKey change desk h follow = refl
  if_kept Subscribed change desk h follow = h follow
  if_kept AlreadySubscribed change desk h follow = h follow
  if_kept Unsubscribed change desk h follow = h follow
  if_kept NotSubscribed change desk h follow = h follow

  -- a request at some member
  pub request_keeps : (at : ℕ) (answer : Followship) (change : List (Followed (History Op)) → List (Followed (History Op))) → (i ≡ at → Kept (w.desks at) (change (w.desks at)))
      → is_subscribed ((with_change w at answer change).desks i) key n ≡ true → told_to ((with_change w at answer change).desks i) key n ≡ told_to (w.desks i) key n
  request_keeps at answer change h follow = elim (eqb_tells i at) [
    | inl e ↦
        let new = if_followed answer change (w.desks at) in
        let is : with_at w.desks at new i ≡ new = with_at_is w.desks at new i e.1 in
        ap (λ (d : List (Followed (History Op))). told_to d key n) is
        ∙ if_kept answer change (w.desks at) (h e.1) (subst (λ (d : List (Followed (History Op))). is_subscribed d key n ≡ true) is follow)
        ∙ ap (λ j. told_to (w.desks j) key n) (sym e.1)
    | inr e ↦ ap (λ (d : List (Followed (History Op))). told_to d key n) (with_at_other w.desks at (if_followed answer change (w.desks at)) i e.1)
  ]

  -- who subscribes anew
  pub subscribed_untold : AreInOrder (w.desks i) → subscribe_answer w i n key ≡ Subscribed → told_to ((with_change w i (subscribe_answer w i n key) (λ desk. with_subscription desk key n)).desks i) key n ≡ Some None
  subscribed_untold in_order e =
      ap (λ (d : List (Followed (History Op))). told_to d key n) (with_at_is w.desks i (if_followed (subscribe_answer w i n key) (λ desk. with_subscription desk key n) (w.desks i)) i refl)
      ∙ ap (λ (a : Followship). told_to (if_followed a (λ desk. with_subscription desk key n) (w.desks i)) key n) e
      ∙ new_untold (w.desks i) in_order key n (is_new (w.playing.world.nodes i) e)
    where
      by_test : (b c : Bool) → (if b then (if c then AlreadySubscribed else Subscribed) else UnknownKey) ≡ Subscribed → c ≡ false
      by_test true true e' = absurd (cc e')
      by_test true false e' = refl
      by_test false c e' = absurd (cc e')

      is_new : (o : Option (Node Kind Op Shown)) → answered o key (if is_subscribed (w.desks i) key n then AlreadySubscribed else Subscribed) ≡ Subscribed → is_subscribed (w.desks i) key n ≡ false
      is_new None e' = absurd (cc e')
      is_new (Some node) e' = by_test (is_some (declared_in node.keys key)) (is_subscribed (w.desks i) key n) e'
