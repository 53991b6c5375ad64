-- What one client is told of a key that it follows at a member, in the run of a script.
--     moment, GoesOn        where the run stands after some steps; the client follows the key from there on, step after step
--     said_in, held_in        what the notices of steps say to it; what the member holds of the key at its flushes
--     IsTold        how the one follows the other
--     NoticesFollow, SubscribersBeginUntold        so it is from any moment on; and at first nothing was told
use Rattle.std.specs.Prelude.{◌≡◌, ◌≤◌, ℕ, List, [], ◌∷◌, ◌++◌, map, flat_map, Bool, true, false, ◌==◌, if◌then◌else◌, Option, None, Some, option_map}
use Rattle.std.specs.List.{AllByRecursion}
use Rattle.model_history.specs.Table.{identity_limit}
use Rattle.model_history.specs.Texts.{Text}
use Rattle.model_history.specs.History.{History}
use Rattle.model_members.specs.DataType.{Replication}
use Rattle.model_members.specs.Node.{KeyDecl, Node}
use Rattle.model_members.specs.Script.{KeeperAnswers, IsStep, opening}
use Rattle.model_kinds.specs.declared.shown.Shown.{Shown}
use Rattle.member_desk.specs.declared.notice.Notice.{Notice}
use Rattle.member_desk.specs.Histories.{held_at}
use Rattle.member_desk.specs.Subscriptions.{is_subscribed, told_to}
use Rattle.member_desk.specs.Successive.{tellings, found_values, Differ, Rise, last_of, said_to}
use Rattle.theorem_watching.specs.Watching.{WatchStep, WatchLine, Watching, plain_steps, subscribe_answer, shows_in, flushed_by, beginning, just_played, watched, watched_all, all_lines}
use Rattle.theorem_watching.specs.Watching.WatchStep.{Plain, Subscribe, Unsubscribe}
use Rattle.theorem_watching.specs.Watching.WatchLine.{NoticeLine}
use Rattle.theorem_watching.specs.declared.followship.Followship.TheVariants.{Subscribed}

-- a client that follows a key at a member
pub record Subscription : Type 0 where
  pub at : ℕ
  pub client : ℕ
  pub key : Text

abbrev pub subscribe_step : {Op : Type 0} → Subscription → WatchStep Op
subscribe_step s = Subscribe s.at s.client s.key

-- the run of a script after these steps
abbrev pub moment : {Kind Op : Type 0} → Replication Kind Op Shown → KeeperAnswers → ℕ → List (KeyDecl Kind) → List (WatchStep Op) → Watching Kind Op
moment D answers members keys before = watched_all D (beginning (opening answers members keys)) before

module _ (s : Subscription) where
  -- the client follows the key, and was last told the meaning of this history, or nothing
  abbrev pub WasTold : {Kind Op : Type 0} → Option (History Op) → Watching Kind Op → Type 0
  WasTold told w = told_to (w.desks s.at) s.key s.client ≡ Some told

  -- WHAT IT IS TOLD

  abbrev pub notices_in : {Op : Type 0} → WatchLine Op → List Notice
  notices_in (NoticeLine at notice) = if s.at == at then notice ∷ [] else []
  notices_in _ = []

  -- what the notices among the lines of steps say to the client of the key
  abbrev pub said_in : {Op : Type 0} → List (List (WatchLine Op)) → List Shown
  said_in [] = []
  said_in (lines ∷ steps) = said_to s.key s.client (flat_map notices_in lines) ++ said_in steps

  -- WHAT ITS MEMBER HOLDS

  -- it was this member that made the flush
  abbrev pub is_its : Option ℕ → Bool
  is_its None = false
  is_its (Some at) = s.at == at

  -- the history of the key, where the member has a record of it
  abbrev pub held_by : {Kind Op : Type 0} → Option (Node Kind Op Shown) → Option (History Op)
  held_by None = None
  held_by (Some node) = held_at node s.key

module _ {Kind Op : Type 0} (D : Replication Kind Op Shown) (s : Subscription) where
  -- the client follows the key before and after each of these steps
  abbrev pub IsFollowing : Watching Kind Op → Type 0
  IsFollowing w = is_subscribed (w.desks s.at) s.key s.client ≡ true

  abbrev pub GoesOn : Watching Kind Op → List (WatchStep Op) → Type 0
  GoesOn w [] = IsFollowing w
  GoesOn w (step ∷ steps) = IsFollowing w × GoesOn (watched D w step) steps

  -- what the member holds at each flush of it that is done
  abbrev pub held_in : Watching Kind Op → List (WatchStep Op) → List (Option (History Op))
  held_in w [] = []
  held_in w (Plain step ∷ steps) =
      let q = just_played D w step in
      (if is_its s (flushed_by q.playing.lines) then held_by s (q.playing.world.nodes s.at) ∷ [] else []) ++ held_in (watched D w (Plain step)) steps
  held_in w (Subscribe at client key ∷ steps) = held_in (watched D w (Subscribe at client key)) steps
  held_in w (Unsubscribe at client key ∷ steps) = held_in (watched D w (Unsubscribe at client key)) steps

  -- HOW NOTICES FOLLOW WHAT IS HELD, where the client was told this before the steps
  module _ (keys : List (KeyDecl Kind)) (told : Option (History Op)) (w : Watching Kind Op) (steps : List (WatchStep Op)) where
    -- of what is held at the flushes, that of which a notice comes: it shows something else than what was told before
    abbrev pub told_in : List (History Op)
    told_in = tellings (shows_in D.data_type keys) s.key told (held_in w steps)

    pub record IsTold : Type 0 where
      -- each notice is the meaning of what the member then holds
      pub meanings : said_in s (all_lines D w steps) ≡ map (shows_in D.data_type keys s.key) told_in
      -- their histories rise
      pub rise : Rise told_in
      -- successive notices differ
      pub differ : Differ (said_in s (all_lines D w steps))
      -- the last one is what was shown at the last flush at which there was a record
      pub last : last_of (option_map (shows_in D.data_type keys s.key) told) (said_in s (all_lines D w steps))
          ≡ last_of (option_map (shows_in D.data_type keys s.key) told) (map (shows_in D.data_type keys s.key) (found_values (held_in w steps)))

module _ {Kind Op : Type 0} (D : Replication Kind Op Shown) where
  -- in every run of a script with subscriptions: from any moment on, through any steps that a client goes on following a key, its notices follow what its member holds
  abbrev pub NoticesFollow : Type 0
  NoticesFollow =
      (answers : KeeperAnswers) (members : ℕ) (keys : List (KeyDecl Kind)) (before steps : List (WatchStep Op))
      → 1 ≤ members → members ≤ identity_limit → AllByRecursion IsStep (plain_steps (before ++ steps))
      → (s : Subscription) (told : Option (History Op)) → WasTold s told (moment D answers members keys before)
      → GoesOn D s (moment D answers members keys before) steps → IsTold D s keys told (moment D answers members keys before) steps

  -- who subscribes anew follows the key from then on, and was told nothing
  abbrev pub SubscribersBeginUntold : Type 0
  SubscribersBeginUntold =
      (answers : KeeperAnswers) (members : ℕ) (keys : List (KeyDecl Kind)) (before : List (WatchStep Op)) (s : Subscription)
      → subscribe_answer (moment D answers members keys before) s.at s.client s.key ≡ Subscribed → WasTold s None (watched D (moment D answers members keys before) (subscribe_step s))
