-- Scripts with subscriptions: their runs and reports. Clients follow keys at members, and a flush that is done tells them what changed.
--     watched        a step of such a script: its lines, and what it leaves
--     plain_steps        the steps of it that the members take part in
--     ChangesNothing        the members do what they do in the script of these
--     watch_report        the report, where the keepers answer so
use Rattle.std.specs.Prelude.{◌≡◌, ℕ, suc, List, [], ◌∷◌, ◌++◌, map, flat_map, is_some, find, Option, None, Some, if◌then◌else◌, codes, decimal}
use Rattle.std.specs.Str.{bytes_eq}
use Rattle.model_history.specs.Table.{with_at}
use Rattle.model_history.specs.Texts.{Text}
use Rattle.model_history.specs.History.{History}
use Rattle.model_members.specs.DataType.{DataType, Replication, meaning}
use Rattle.model_members.specs.Node.{KeyDecl, Node, Reply}
use Rattle.model_members.specs.World.{World}
use Rattle.model_members.specs.Script.{Ask, ScriptStep, Head, Answer, Told, Playing, KeeperAnswers, opening, played, played_all}
use Rattle.model_members.specs.Report.{words, line_of, told_text, final_block}
use Rattle.model_kinds.specs.declared.shown.Shown.{Shown}
use Rattle.model_kinds.specs.declared.shown.Shown.TheVariants.{Deleted}
use Rattle.model_kinds.specs.ShownText.{shown_text}
use Rattle.member_desk.specs.declared.followed.Followed.{Followed}
use Rattle.member_desk.specs.declared.notice.Notice.{Notice}
use Rattle.member_desk.specs.Subscriptions.{with_subscription, without_subscription, is_subscribed}
use Rattle.member_desk.specs.Notices.{notices_of, told_after}
use Rattle.member_desk.specs.Histories.{shown_as, held_at}
use Rattle.theorem_watching.specs.declared.followship.Followship.{Followship}
use Rattle.theorem_watching.specs.declared.followship.Followship.TheVariants.{Gone, UnknownKey, Subscribed, AlreadySubscribed, Unsubscribed, NotSubscribed}

-- STEPS AND LINES

pub data WatchStep (Op : Type 0) : Type 0 where
  Plain : ScriptStep Op → WatchStep Op
  Subscribe : (at client : ℕ) (key : Text) → WatchStep Op
  Unsubscribe : (at client : ℕ) (key : Text) → WatchStep Op

-- the steps that members take part in
abbrev pub plain_steps : {Op : Type 0} → List (WatchStep Op) → List (ScriptStep Op)
plain_steps [] = []
plain_steps (Plain step ∷ steps) = step ∷ plain_steps steps
plain_steps (Subscribe at client key ∷ steps) = plain_steps steps
plain_steps (Unsubscribe at client key ∷ steps) = plain_steps steps

pub data WatchLine (Op : Type 0) : Type 0 where
  PlainLine : Told Op Shown → WatchLine Op
  SubscribeLine : (at client : ℕ) (key : Text) (answer : Followship) → WatchLine Op
  UnsubscribeLine : (at client : ℕ) (key : Text) (answer : Followship) → WatchLine Op
  NoticeLine : (at : ℕ) (notice : Notice) → WatchLine Op

-- the declaration of a key, if it is declared
abbrev pub declared_in : {Kind : Type 0} → List (KeyDecl Kind) → Text → Option (KeyDecl Kind)
declared_in keys key = find (λ decl. bytes_eq decl.name key) keys

-- a request that is refused changes no desk
abbrev pub if_followed : {Op : Type 0} → Followship → (List (Followed (History Op)) → List (Followed (History Op))) → List (Followed (History Op)) → List (Followed (History Op))
if_followed Gone change desk = desk
if_followed UnknownKey change desk = desk
if_followed _ change desk = change desk

-- A SCRIPT AT WORK

-- what each identity's clients follow, with the histories whose meanings they were told
abbrev pub Desks : Type 0 → Type 0
Desks Op = ℕ → List (Followed (History Op))

pub record Watching (Kind Op : Type 0) : Type 0 where
  pub playing : Playing Kind Op Shown
  pub desks : Desks Op

module _ {Kind Op : Type 0} where
  -- before the first step nobody follows a key
  abbrev pub beginning : Playing Kind Op Shown → Watching Kind Op
  beginning p = record { playing = p; desks = λ i. [] }

  -- subscriptions end with their member
  abbrev pub of_running : World Kind Op Shown → Desks Op → Desks Op
  of_running world desks i = if is_some (world.nodes i) then desks i else []

  -- A REQUEST

  -- what a member that is asked for a key answers
  abbrev pub answered : Option (Node Kind Op Shown) → Text → Followship → Followship
  answered None key answer = Gone
  answered (Some node) key answer = if is_some (declared_in node.keys key) then answer else UnknownKey

  abbrev pub subscribe_answer : Watching Kind Op → ℕ → ℕ → Text → Followship
  subscribe_answer w at client key = answered (w.playing.world.nodes at) key (if is_subscribed (w.desks at) key client then AlreadySubscribed else Subscribed)

  abbrev pub unsubscribe_answer : Watching Kind Op → ℕ → ℕ → Text → Followship
  unsubscribe_answer w at client key = answered (w.playing.world.nodes at) key (if is_subscribed (w.desks at) key client then Unsubscribed else NotSubscribed)

  abbrev pub with_change : Watching Kind Op → ℕ → Followship → (List (Followed (History Op)) → List (Followed (History Op))) → Watching Kind Op
  with_change w at answer change = record w { desks = with_at w.desks at (if_followed answer change (w.desks at)) }

-- which member made a flush that is done, if that is what the lines of a step tell
abbrev pub flush_of : {Op : Type 0} → Head Op → Answer Shown → Option ℕ
flush_of (Head.Asked at Ask.Flush) (Answer.Replied Reply.Done) = Some at
flush_of _ _ = None

abbrev pub flushed_by : {Op : Type 0} → List (Told Op Shown) → Option ℕ
flushed_by (told ∷ []) = flush_of told.head told.answer
flushed_by _ = None

module _ {Kind Op : Type 0} (data_type : DataType Kind Op Shown) where
  -- what a history of a declared key shows
  abbrev pub shows_in : List (KeyDecl Kind) → Text → History Op → Shown
  shows_in keys key history = elim (declared_in keys key) [ None ↦ Deleted | Some decl ↦ shown_as (meaning data_type decl.kind history) ]

  abbrev pub notices_at : Option (Node Kind Op Shown) → List (Followed (History Op)) → List Notice
  notices_at None desk = []
  notices_at (Some node) desk = notices_of (shows_in node.keys) (held_at node) desk

  abbrev pub told_at : Option (Node Kind Op Shown) → List (Followed (History Op)) → List (Followed (History Op))
  told_at None desk = desk
  told_at (Some node) desk = told_after (held_at node) desk

  -- a step was played, and this member made a flush that is done
  abbrev pub after_flush : Watching Kind Op → Option ℕ → Watching Kind Op
  after_flush w None = w
  after_flush w (Some at) = record w { desks = with_at w.desks at (told_at (w.playing.world.nodes at) (w.desks at)) }

  abbrev pub notices_after : Watching Kind Op → Option ℕ → List (WatchLine Op)
  notices_after w None = []
  notices_after w (Some at) = map (NoticeLine at) (notices_at (w.playing.world.nodes at) (w.desks at))

-- ONE STEP, AND ALL

module _ {Kind Op : Type 0} (D : Replication Kind Op Shown) where
  -- a step that members take part in was played. Its lines are kept for now
  abbrev pub just_played : Watching Kind Op → ScriptStep Op → Watching Kind Op
  just_played w step = let p = played D w.playing step in record { playing = p; desks = of_running p.world w.desks }

  abbrev pub silent : Watching Kind Op → Watching Kind Op
  silent w = record w { playing = record w.playing { lines = [] } }

  abbrev pub watched : Watching Kind Op → WatchStep Op → Watching Kind Op
  watched w (Plain step) = let q = just_played w step in silent (after_flush D.data_type q (flushed_by q.playing.lines))
  watched w (Subscribe at client key) = with_change w at (subscribe_answer w at client key) (λ desk. with_subscription desk key client)
  watched w (Unsubscribe at client key) = with_change w at (unsubscribe_answer w at client key) (λ desk. without_subscription desk key client)

  abbrev pub watch_lines : Watching Kind Op → WatchStep Op → List (WatchLine Op)
  watch_lines w (Plain step) = let q = just_played w step in map PlainLine q.playing.lines ++ notices_after D.data_type q (flushed_by q.playing.lines)
  watch_lines w (Subscribe at client key) = SubscribeLine at client key (subscribe_answer w at client key) ∷ []
  watch_lines w (Unsubscribe at client key) = UnsubscribeLine at client key (unsubscribe_answer w at client key) ∷ []

  abbrev pub watched_all : Watching Kind Op → List (WatchStep Op) → Watching Kind Op
  watched_all w [] = w
  watched_all w (step ∷ steps) = watched_all (watched w step) steps

  abbrev pub all_lines : Watching Kind Op → List (WatchStep Op) → List (List (WatchLine Op))
  all_lines w [] = []
  all_lines w (step ∷ steps) = watch_lines w step ∷ all_lines (watched w step) steps

-- THE REPORT

abbrev pub followship_text : Followship → Text
followship_text Gone = codes "gone"
followship_text UnknownKey = codes "unknown key"
followship_text Subscribed = codes "subscribed"
followship_text AlreadySubscribed = codes "already subscribed"
followship_text Unsubscribed = codes "unsubscribed"
followship_text NotSubscribed = codes "not subscribed"

module _ {Kind Op : Type 0} (D : Replication Kind Op Shown) where
  abbrev pub watch_line_text : ℕ → WatchLine Op → Text
  watch_line_text n (PlainLine told) = told_text D shown_text n told
  watch_line_text n (SubscribeLine at client key answer) = line_of (words (decimal n ∷ codes "subscribe" ∷ decimal at ∷ decimal client ∷ key ∷ followship_text answer ∷ []))
  watch_line_text n (UnsubscribeLine at client key answer) = line_of (words (decimal n ∷ codes "unsubscribe" ∷ decimal at ∷ decimal client ∷ key ∷ followship_text answer ∷ []))
  watch_line_text n (NoticeLine at notice) = line_of (words (decimal n ∷ codes "notice" ∷ decimal at ∷ decimal notice.client ∷ notice.key ∷ shown_text notice.shown ∷ []))

  abbrev pub watch_text : ℕ → List (List (WatchLine Op)) → Text
  watch_text n [] = []
  watch_text n (lines ∷ steps) = flat_map (watch_line_text n) lines ++ watch_text (suc n) steps

  abbrev pub watch_report : KeeperAnswers → ℕ → List (KeyDecl Kind) → List (WatchStep Op) → Text
  watch_report answers members keys steps =
      let first = beginning (opening answers members keys) in
      watch_text 1 (all_lines D first steps) ++ final_block D shown_text (watched_all D first steps).playing.world

-- what the members do is what they do in the script of the steps that they take part in
abbrev pub ChangesNothing : {Kind Op : Type 0} → Replication Kind Op Shown → Type 0
ChangesNothing {Kind} {Op} D = (before : Watching Kind Op) (steps : List (WatchStep Op)) → (watched_all D before steps).playing ≡ played_all D before.playing (plain_steps steps)
