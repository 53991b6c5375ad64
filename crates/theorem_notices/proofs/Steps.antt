-- A step that members take part in: who goes on following runs, and is told what its member holds.
use Rattle.std.proofs.Common.{◌≡◌, ℕ, List, [], ◌∷◌, ◌++◌, Bool, true, false, Option, Some, None, refl, ap, sym, ◌∙◌, subst, map, inl, inr}
use Rattle.std.specs.Prelude.{if◌then◌else◌, is_some, ◌==◌, flat_map}
use Rattle.std.proofs.lemmas.Bool.Decides.{eqb_tells}
use Rattle.model_history.specs.Table.{with_at}
use Rattle.model_history.specs.Texts.{Text}
use Rattle.model_history.specs.History.{History}
use Rattle.model_history.proofs.CutLaws.{with_at_is}
use Rattle.model_history.proofs.HistoryLaws.{with_at_other}
use Rattle.model_members.specs.DataType.{Replication}
use Rattle.model_members.specs.Node.{Node}
use Rattle.model_members.specs.Script.{Playing, ScriptStep, Told, played}
use Rattle.model_kinds.specs.declared.shown.Shown.{Shown}
use Rattle.member_desk.specs.declared.followed.Followed.{Followed}
use Rattle.member_desk.specs.declared.notice.Notice.{Notice}
use Rattle.member_desk.specs.Subscriptions.{is_subscribed, told_to, AreInOrder}
use Rattle.member_desk.specs.Histories.{held_at}
use Rattle.member_desk.specs.Notices.{is_news}
use Rattle.member_desk.specs.Successive.{tellings, said_to}
use Rattle.member_desk.proofs.After.{told_now, told_to_after}
use Rattle.member_desk.proofs.Flushing.{said_now, said_by}
use Rattle.theorem_watching.specs.Watching.{WatchLine, Watching, shows_in, notices_at, told_at, after_flush, notices_after, flushed_by, just_played, watched}
use Rattle.theorem_watching.specs.Watching.WatchStep.{Plain}
use Rattle.theorem_watching.specs.Watching.WatchLine.{PlainLine, NoticeLine}
use Rattle.theorem_notices.specs.Notices.{Subscription, WasTold, notices_in, is_its, IsFollowing}

abbrev no_notices : List Notice
no_notices = []

-- what was told after a flush
abbrev pub or_before : {V : Type 0} → Option V → Option V → Option V
or_before told None = told
or_before told (Some now) = Some now

module _ {Kind Op : Type 0} (D : Replication Kind Op Shown) (s : Subscription) where
  -- what is played is played whatever is told
  flush_plays : (q : Watching Kind Op) (flushed : Option ℕ) → (after_flush D.data_type q flushed).playing ≡ q.playing
  flush_plays q None = refl
  flush_plays q (Some at) = refl

  pub plays_on : (w : Watching Kind Op) (step : ScriptStep Op) → (watched D w (Plain step)).playing ≡ record (played D w.playing step) { lines = [] }
  plays_on w step = ap (λ (p : Playing Kind Op Shown). record p { lines = [] }) (flush_plays (just_played D w step) (flushed_by (just_played D w step).playing.lines))

  -- THE MEMBER RUNS

  pub record Runs (w : Watching Kind Op) (step : ScriptStep Op) : Type 0 where
    pub node : Node Kind Op Shown
    pub runs : (played D w.playing step).world.nodes s.at ≡ Some node
    pub desk : (just_played D w step).desks s.at ≡ w.desks s.at

  pub runs_on : (w : Watching Kind Op) (step : ScriptStep Op) → IsFollowing D s (watched D w (Plain step)) → Runs w step
  runs_on w step follow = by_node ((played D w.playing step).world.nodes s.at) refl
    where
      q : Watching Kind Op
      q = just_played D w step

      by_node : (o : Option (Node Kind Op Shown)) → (played D w.playing step).world.nodes s.at ≡ o → Runs w step
      by_node (Some node) e = record { node = node; runs = e; desk = ap (λ (o : Option (Node Kind Op Shown)). if is_some o then w.desks s.at else []) e }
      by_node None e = absurd (
          let none : false ≡ true = subst (λ (d : List (Followed (History Op))). is_subscribed d s.key s.client ≡ true) (left (flushed_by q.playing.lines)) follow in
          cc none)
        where
          empty : q.desks s.at ≡ []
          empty = ap (λ (o : Option (Node Kind Op Shown)). if is_some o then w.desks s.at else []) e

          left : (flushed : Option ℕ) → (after_flush D.data_type q flushed).desks s.at ≡ []
          left None = empty
          left (Some at) =
              let new = told_at D.data_type (q.playing.world.nodes at) (q.desks at) in
              elim (eqb_tells s.at at) [
                | inl same ↦
                    with_at_is q.desks at new s.at same.1
                    ∙ ap (λ j. told_at D.data_type (q.playing.world.nodes j) (q.desks j)) (sym same.1)
                    ∙ ap (λ (o : Option (Node Kind Op Shown)). told_at D.data_type o (q.desks s.at)) e
                    ∙ empty
                | inr apart ↦ with_at_other q.desks at new s.at apart.1 ∙ empty
              ]

  -- WHAT IT IS TOLD

  module _ (q : Watching Kind Op) (node : Node Kind Op Shown) (runs : q.playing.world.nodes s.at ≡ Some node) (told : Option (History Op)) (was : WasTold s told q) where
    now_is : (o : Option (History Op)) → told_now {V = History Op} s.key s.client (held_at node) (Some told) o ≡ Some (or_before told o)
    now_is None = refl
    now_is (Some now) = refl

    told_later : (flushed : Option ℕ) → WasTold s (if is_its s flushed then or_before told (held_at node s.key) else told) (after_flush D.data_type q flushed)
    told_later None = was
    told_later (Some at) =
        let new = told_at D.data_type (q.playing.world.nodes at) (q.desks at) in
        elim (eqb_tells s.at at) as (λ _. told_to (with_at q.desks at new s.at) s.key s.client ≡ Some (if s.at == at then or_before told (held_at node s.key) else told)) [
          | inl same ↦
              ap (λ (d : List (Followed (History Op))). told_to d s.key s.client)
              (with_at_is q.desks at new s.at same.1
              ∙ ap (λ j. told_at D.data_type (q.playing.world.nodes j) (q.desks j)) (sym same.1)
              ∙ ap (λ (o : Option (Node Kind Op Shown)). told_at D.data_type o (q.desks s.at)) runs)
              ∙ told_to_after s.key s.client (held_at node) (q.desks s.at)
              ∙ ap (λ t. told_now s.key s.client (held_at node) t (held_at node s.key)) was
              ∙ now_is (held_at node s.key)
              ∙ ap (λ b. Some (if b then or_before told (held_at node s.key) else told)) (sym same.0)
          | inr apart ↦ ap (λ (d : List (Followed (History Op))). told_to d s.key s.client) (with_at_other q.desks at new s.at apart.1) ∙ was ∙ ap (λ b. Some (if b then or_before told (held_at node s.key) else told)) (sym apart.0)
        ]

    -- the lines of the step itself say nothing of it
    lines_say_nothing : (lines : List (Told Op Shown)) (more : List (WatchLine Op)) → flat_map (notices_in s) (map PlainLine lines ++ more) ≡ flat_map (notices_in s) more
    lines_say_nothing [] more = refl
    lines_say_nothing (line ∷ lines) more = lines_say_nothing lines more

    own_notices : (at : ℕ) (notices : List Notice) → flat_map (λ (line : WatchLine Op). notices_in s line) (map (NoticeLine at) notices) ≡ (if s.at == at then notices else [])
    own_notices at [] = go (s.at == at)
      where
        go : (b : Bool) → no_notices ≡ (if b then no_notices else no_notices)
        go true = refl
        go false = refl
    own_notices at (notice ∷ notices) = ap (λ more. (if s.at == at then notice ∷ [] else []) ++ more) (own_notices at notices) ∙ go (s.at == at)
      where
        go : (b : Bool) → (if b then notice ∷ [] else []) ++ (if b then notices else []) ≡ (if b then notice ∷ notices else [])
        go true = refl
        go false = refl

    abbrev said_then : List Shown
    said_then = said_now (shows_in D.data_type node.keys) s.key s.client (Some told) (held_at node s.key)

    said_later : AreInOrder (q.desks s.at) → (lines : List (Told Op Shown)) (flushed : Option ℕ)
        → said_to s.key s.client (flat_map (notices_in s) (map PlainLine lines ++ notices_after D.data_type q flushed)) ≡ (if is_its s flushed then said_then else [])
    said_later in_order lines None = ap (said_to s.key s.client) (lines_say_nothing lines [])
    said_later in_order lines (Some at) =
        let its = notices_at D.data_type (q.playing.world.nodes at) (q.desks at) in
        ap (said_to s.key s.client) (lines_say_nothing lines (map (NoticeLine at) its) ∙ own_notices at its)
        ∙ elim (eqb_tells s.at at) as (λ _. said_to s.key s.client (if s.at == at then its else []) ≡ (if s.at == at then said_then else [])) [
          | inl same ↦
              ap (λ b. said_to s.key s.client (if b then its else [])) same.0
              ∙ ap (said_to s.key s.client)
              (ap (λ j. notices_at D.data_type (q.playing.world.nodes j) (q.desks j)) (sym same.1) ∙ ap (λ (o : Option (Node Kind Op Shown)). notices_at D.data_type o (q.desks s.at)) runs)
              ∙ said_by (shows_in D.data_type node.keys) s.key s.client (held_at node) (q.desks s.at) in_order
              ∙ ap (λ t. said_now (shows_in D.data_type node.keys) s.key s.client t (held_at node s.key)) was
              ∙ ap (λ b. if b then said_then else []) (sym same.0)
          | inr apart ↦ ap (λ b. said_to s.key s.client (if b then its else [])) apart.0 ∙ ap (λ b. if b then said_then else []) (sym apart.0)
        ]

  -- one flush, and those after it
  pub said_more : (shows : Text → History Op → Shown) (told now : Option (History Op)) (rest : List (Option (History Op)))
      → said_now shows s.key s.client (Some told) now ++ map (shows s.key) (tellings shows s.key (or_before told now) rest) ≡ map (shows s.key) (tellings shows s.key told (now ∷ rest))
  said_more shows told None rest = refl
  said_more shows told (Some now) rest = go (is_news shows s.key told now)
    where
      go : (news : Bool) → (if news then shows s.key now ∷ [] else []) ++ map (shows s.key) (tellings shows s.key (Some now) rest)
          ≡ map (shows s.key) (if news then now ∷ tellings shows s.key (Some now) rest else tellings shows s.key (Some now) rest)
      go true = refl
      go false = refl

  module _ (w : Watching Kind Op) (step : ScriptStep Op) (there : Runs w step) (told : Option (History Op)) (was : WasTold s told w) where
    abbrev q : Watching Kind Op
    q = just_played D w step

    abbrev flushed : Option ℕ
    flushed = flushed_by q.playing.lines

    was_then : WasTold s told q
    was_then = ap (λ (d : List (Followed (History Op))). told_to d s.key s.client) there.desk ∙ was

    -- what it was told after the step
    pub told_after_step : WasTold s (if is_its s flushed then or_before told (held_at there.node s.key) else told) (watched D w (Plain step))
    told_after_step = told_later q there.node there.runs told was_then flushed

    -- what the step's lines say
    pub said_in_step : AreInOrder (w.desks s.at) → said_to s.key s.client (flat_map (notices_in s) (map PlainLine q.playing.lines ++ notices_after D.data_type q flushed))
        ≡ (if is_its s flushed then said_now (shows_in D.data_type there.node.keys) s.key s.client (Some told) (held_at there.node s.key) else [])
    said_in_step in_order = said_later q there.node there.runs told was_then (subst AreInOrder (sym there.desk) in_order) q.playing.lines flushed
