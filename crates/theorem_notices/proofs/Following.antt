-- Notices follow what is held.
use Rattle.std.proofs.Common.{◌≡◌, ℕ, ◌≤◌, List, [], ◌∷◌, ◌++◌, Bool, true, false, Option, Some, None, refl, ap, sym, ◌∙◌, subst, map}
use Rattle.std.specs.Prelude.{if◌then◌else◌, find, option_map}
use Rattle.std.specs.List.{AllByRecursion}
use Rattle.std.specs.Str.{bytes_eq}
use Rattle.model_history.specs.Table.{identity_limit}
use Rattle.model_history.specs.Texts.{Text}
use Rattle.model_history.specs.History.{History, IsPartOf}
use Rattle.model_history.proofs.PartLaws.{part_trans}
use Rattle.model_members.specs.DataType.{Replication}
use Rattle.model_members.specs.Entry.{has_records}
use Rattle.model_members.specs.Node.{KeyDecl, Node}
use Rattle.model_members.specs.World.{World, IsRun, start}
use Rattle.model_members.specs.Script.{KeeperAnswers, Playing, ScriptStep, IsStep, opening, played}
use Rattle.model_kinds.specs.declared.shown.Shown.{Shown}
use Rattle.member_desk.specs.Subscriptions.{is_subscribed, with_subscription, without_subscription}
use Rattle.member_desk.specs.Histories.{history_of, held_at}
use Rattle.member_desk.specs.Successive.{tellings, found_values, Differ, Rise, last_of}
use Rattle.member_desk.proofs.Flushing.{said_now}
use Rattle.member_desk.proofs.Succeeding.{tellings_differ, tellings_rise, last_told}
use Rattle.theorem_runs.proofs.Playing.{no_events, step_is_run}
use Rattle.theorem_runs.proofs.Safety.{runs_are_safe}
use Rattle.theorem_operations.proofs.Moments.{stands_start, stands_run}
use Rattle.theorem_watching.specs.Watching.{WatchStep, Watching, beginning, plain_steps, shows_in, flushed_by, subscribe_answer, unsubscribe_answer, just_played, watched, watched_all, all_lines}
use Rattle.theorem_watching.specs.Watching.WatchStep.{Plain, Subscribe, Unsubscribe}
use Rattle.theorem_notices.specs.Notices.{Subscription, WasTold, moment, said_in, is_its, held_by, IsFollowing, GoesOn, held_in, IsTold}
use Rattle.theorem_notices.proofs.Desks.{AllInOrder, watched_order, with_keeps, without_keeps, request_keeps}
use Rattle.theorem_notices.proofs.Steps.{or_before, plays_on, Runs, runs_on, said_more, told_after_step, said_in_step}
use Rattle.theorem_notices.proofs.Growing.{part_after_step}

module _ {Kind Op : Type 0} (D : Replication Kind Op Shown) (members : ℕ) (keys : List (KeyDecl Kind)) where
  -- a moment of a run
  pub record Reached (w : Watching Kind Op) : Type 0 where
    pub is_run : IsRun D members keys w.playing.events w.playing.world
    pub in_order : AllInOrder w.desks

  -- the steps of members are those of a script
  abbrev AreSteps : List (WatchStep Op) → Type 0
  AreSteps steps = AllByRecursion IsStep (plain_steps steps)

  reached_plain : (w : Watching Kind Op) (step : ScriptStep Op) → IsStep step → Reached w → Reached (watched D w (Plain step))
  reached_plain w step ok h = record {
    is_run = subst (λ (p : Playing Kind Op Shown). IsRun D members keys p.events p.world) (sym (plays_on D (record { at = 0; client = 0; key = [] }) w step)) (step_is_run D members keys w.playing step ok h.is_run);
    in_order = watched_order D w (Plain step) h.in_order;
  }

  pub reached_after : (w : Watching Kind Op) (before rest : List (WatchStep Op)) → AreSteps (before ++ rest) → Reached w → Reached (watched_all D w before) × AreSteps rest
  reached_after w [] rest ok h = (h, ok)
  reached_after w (Plain step ∷ before) rest ok h = reached_after (watched D w (Plain step)) before rest ok.1 (reached_plain w step ok.0 h)
  reached_after w (Subscribe at client key ∷ before) rest ok h = reached_after (watched D w (Subscribe at client key)) before rest ok (record { is_run = h.is_run; in_order = watched_order D w (Subscribe at client key) h.in_order })
  reached_after w (Unsubscribe at client key ∷ before) rest ok h = reached_after (watched D w (Unsubscribe at client key)) before rest ok (record { is_run = h.is_run; in_order = watched_order D w (Unsubscribe at client key) h.in_order })

  module _ (s : Subscription) where
    abbrev shows : Text → History Op → Shown
    shows = shows_in D.data_type keys

    follows_first : (w : Watching Kind Op) (steps : List (WatchStep Op)) → GoesOn D s w steps → IsFollowing D s w
    follows_first w [] goes = goes
    follows_first w (step ∷ steps) goes = goes.0

    -- a running member declares the keys of the run
    keys_there : (w : Watching Kind Op) (step : ScriptStep Op) → IsStep step → Reached w → (there : Runs D s w step) → there.node.keys ≡ keys
    keys_there w step ok h there =
        let p = played D w.playing step in
        let is_run = step_is_run D members keys w.playing step ok h.is_run in
        let stands = stands_run D members keys (start members keys) (stands_start D members keys is_run.some is_run.few) p.events is_run.lawful in
        ((runs_are_safe D members keys p.events p.world is_run).views.running s.at there.node there.runs).keys ∙ ap (λ (w' : World Kind Op Shown). w'.keys) is_run.leads ∙ stands.same_keys

    held_is : (w : Watching Kind Op) (step : ScriptStep Op) (there : Runs D s w step) → held_by s ((just_played D w step).playing.world.nodes s.at) ≡ held_at there.node s.key
    held_is w step there = ap (held_by s) there.runs

    -- WHAT IS SAID

    all_said : (w : Watching Kind Op) (steps : List (WatchStep Op)) (told : Option (History Op)) → Reached w → AreSteps steps → WasTold s told w → GoesOn D s w steps
        → said_in s (all_lines D w steps) ≡ map (shows s.key) (tellings shows s.key told (held_in D s w steps))
    all_said w [] told h ok was goes = refl
    all_said w (Plain step ∷ steps) told h ok was goes =
        let there = runs_on D s w step (follows_first (watched D w (Plain step)) steps goes.1) in
        let its = is_its s (flushed_by (just_played D w step).playing.lines) in
        let now = held_at there.node s.key in
        let rest = held_in D s (watched D w (Plain step)) steps in
        ap (λ said. said ++ said_in s (all_lines D (watched D w (Plain step)) steps))
        (said_in_step D s w step there told was (h.in_order s.at) ∙ ap (λ ks. if its then said_now (shows_in D.data_type ks) s.key s.client (Some told) now else []) (keys_there w step ok.0 h there))
        ∙ ap (λ said. (if its then said_now shows s.key s.client (Some told) now else []) ++ said)
        (all_said (watched D w (Plain step)) steps (if its then or_before told now else told) (reached_plain w step ok.0 h) ok.1 (told_after_step D s w step there told was) goes.1)
        ∙ go its now rest
        ∙ ap (λ (o : Option (History Op)). map (shows s.key) (tellings shows s.key told ((if its then o ∷ [] else []) ++ rest))) (sym (held_is w step there))
      where
        go : (b : Bool) (now : Option (History Op)) (rest : List (Option (History Op)))
            → (if b then said_now shows s.key s.client (Some told) now else []) ++ map (shows s.key) (tellings shows s.key (if b then or_before told now else told) rest)
            ≡ map (shows s.key) (tellings shows s.key told ((if b then now ∷ [] else []) ++ rest))
        go true now rest = said_more D s shows told now rest
        go false now rest = refl
    all_said w (Subscribe at client key ∷ steps) told h ok was goes =
        let after = watched D w (Subscribe at client key) in
        let kept = request_keeps w s.at s.key s.client at (subscribe_answer w at client key) (λ desk. with_subscription desk key client)
        (λ same. λ follow. with_keeps (w.desks at) (h.in_order at) key s.key client s.client (subst (λ j. is_subscribed (w.desks j) s.key s.client ≡ true) same goes.0)) (follows_first after steps goes.1) in
        all_said after steps told (record { is_run = h.is_run; in_order = watched_order D w (Subscribe at client key) h.in_order }) ok (kept ∙ was) goes.1
    all_said w (Unsubscribe at client key ∷ steps) told h ok was goes =
        let after = watched D w (Unsubscribe at client key) in
        let kept = request_keeps w s.at s.key s.client at (unsubscribe_answer w at client key) (λ desk. without_subscription desk key client)
        (λ same. without_keeps (w.desks at) (h.in_order at) key s.key client s.client) (follows_first after steps goes.1) in
        all_said after steps told (record { is_run = h.is_run; in_order = watched_order D w (Unsubscribe at client key) h.in_order }) ok (kept ∙ was) goes.1

    -- WHAT IS HELD RISES

    -- of a key that is held, the history
    held_history : (node : Node Kind Op Shown) (history : History Op) → held_at node s.key ≡ Some history → (node.entries s.key).history ≡ history
    held_history node history e = by_decl (find (λ (d : KeyDecl Kind). bytes_eq d.name s.key) node.keys) e
      where
        by_records : (b : Bool) → (if b then Some (node.entries s.key).history else None) ≡ Some history → (node.entries s.key).history ≡ history
        by_records true e' = cc e'
        by_records false e' = absurd (cc e')

        by_decl : (o : Option (KeyDecl Kind)) → elim o as (λ _. Option (History Op)) [ None ↦ None | Some decl ↦ history_of (node.entries s.key) ] ≡ Some history → (node.entries s.key).history ≡ history
        by_decl None e' = absurd (cc e')
        by_decl (Some decl) e' = by_records (has_records (node.entries s.key)) e'

    parts : (first then_on : History Op) (histories : List (History Op)) → IsPartOf first then_on → AllByRecursion (IsPartOf then_on) histories → AllByRecursion (IsPartOf first) histories
    parts first then_on [] part h = tt
    parts first then_on (history ∷ histories) part h = (part_trans first then_on history part h.0, parts first then_on histories part h.1)

    runs_after : (w : Watching Kind Op) (step : ScriptStep Op) (there : Runs D s w step) → (watched D w (Plain step)).playing.world.nodes s.at ≡ Some there.node
    runs_after w step there = ap (λ (p : Playing Kind Op Shown). p.world.nodes s.at) (plays_on D s w step) ∙ there.runs

    abbrev Later : Node Kind Op Shown → List (Option (History Op)) → Type 0
    Later node held = AllByRecursion (IsPartOf (node.entries s.key).history) (found_values held)

    -- what a member holds is part of what it holds at its flushes from then on
    held_later : (w : Watching Kind Op) (steps : List (WatchStep Op)) → Reached w → AreSteps steps → GoesOn D s w steps → (node : Node Kind Op Shown) → w.playing.world.nodes s.at ≡ Some node → Later node (held_in D s w steps)
    held_later w [] h ok goes node runs = tt
    held_later w (Plain step ∷ steps) h ok goes node runs =
        let after = watched D w (Plain step) in
        let there = runs_on D s w step (follows_first after steps goes.1) in
        let part = part_after_step D members keys w.playing step ok.0 h.is_run s.at node there.node runs there.runs s.key in
        let rest = held_later after steps (reached_plain w step ok.0 h) ok.1 goes.1 there.node (runs_after w step there) in
        subst (λ (o : Option (History Op)). Later node ((if is_its s (flushed_by (just_played D w step).playing.lines) then o ∷ [] else []) ++ held_in D s after steps)) (sym (held_is w step there))
        (go (is_its s (flushed_by (just_played D w step).playing.lines)) (held_at there.node s.key) refl (held_in D s after steps) (parts (node.entries s.key).history (there.node.entries s.key).history (found_values (held_in D s after steps)) part rest))
      where
        go : (b : Bool) (o : Option (History Op)) → held_at (runs_on D s w step (follows_first (watched D w (Plain step)) steps goes.1)).node s.key ≡ o → (rest : List (Option (History Op))) → Later node rest → Later node ((if b then o ∷ [] else []) ++ rest)
        go false o e rest later = later
        go true None e rest later = later
        go true (Some history) e rest later =
            let there = runs_on D s w step (follows_first (watched D w (Plain step)) steps goes.1) in
            (subst (IsPartOf (node.entries s.key).history) (held_history there.node history e) (part_after_step D members keys w.playing step ok.0 h.is_run s.at node there.node runs there.runs s.key), later)
    held_later w (Subscribe at client key ∷ steps) h ok goes node runs =
        held_later (watched D w (Subscribe at client key)) steps (record { is_run = h.is_run; in_order = watched_order D w (Subscribe at client key) h.in_order }) ok goes.1 node runs
    held_later w (Unsubscribe at client key ∷ steps) h ok goes node runs =
        held_later (watched D w (Unsubscribe at client key)) steps (record { is_run = h.is_run; in_order = watched_order D w (Unsubscribe at client key) h.in_order }) ok goes.1 node runs

    held_rises : (w : Watching Kind Op) (steps : List (WatchStep Op)) → Reached w → AreSteps steps → GoesOn D s w steps → Rise (found_values (held_in D s w steps))
    held_rises w [] h ok goes = tt
    held_rises w (Plain step ∷ steps) h ok goes =
        let after = watched D w (Plain step) in
        let there = runs_on D s w step (follows_first after steps goes.1) in
        let reached = reached_plain w step ok.0 h in
        let flushes = is_its s (flushed_by (just_played D w step).playing.lines) in
        subst (λ (o : Option (History Op)). Rise (found_values ((if flushes then o ∷ [] else []) ++ held_in D s after steps))) (sym (held_is w step there))
        (go there.node flushes (held_at there.node s.key) refl (held_in D s after steps) (held_later after steps reached ok.1 goes.1 there.node (runs_after w step there)) (held_rises after steps reached ok.1 goes.1))
      where
        go : (node : Node Kind Op Shown) (b : Bool) (o : Option (History Op)) → held_at node s.key ≡ o → (rest : List (Option (History Op))) → Later node rest → Rise (found_values rest) → Rise (found_values ((if b then o ∷ [] else []) ++ rest))
        go node false o e rest later rise = rise
        go node true None e rest later rise = rise
        go node true (Some history) e rest later rise = (subst (λ (H : History Op). AllByRecursion (IsPartOf H) (found_values rest)) (held_history node history e) later, rise)
    held_rises w (Subscribe at client key ∷ steps) h ok goes =
        held_rises (watched D w (Subscribe at client key)) steps (record { is_run = h.is_run; in_order = watched_order D w (Subscribe at client key) h.in_order }) ok goes.1
    held_rises w (Unsubscribe at client key ∷ steps) h ok goes =
        held_rises (watched D w (Unsubscribe at client key)) steps (record { is_run = h.is_run; in_order = watched_order D w (Unsubscribe at client key) h.in_order }) ok goes.1

    -- ALL OF IT

    is_told : (w : Watching Kind Op) (steps : List (WatchStep Op)) (told : Option (History Op)) → Reached w → AreSteps steps → WasTold s told w → GoesOn D s w steps → IsTold D s keys told w steps
    is_told w steps told h ok was goes =
        let said = all_said w steps told h ok was goes in
        record {
          meanings = said;
          rise = tellings_rise shows s.key told (held_in D s w steps) (held_rises w steps h ok goes);
          differ = subst Differ (sym said) (tellings_differ shows s.key told (held_in D s w steps));
          last = ap (last_of (option_map (shows s.key) told)) said ∙ last_told shows s.key told (held_in D s w steps);
        }

  pub notices_follow : (answers : KeeperAnswers) (before steps : List (WatchStep Op)) → 1 ≤ members → members ≤ identity_limit → AreSteps (before ++ steps) → (s : Subscription) (told : Option (History Op))
      → WasTold s told (moment D answers members keys before) → GoesOn D s (moment D answers members keys before) steps → IsTold D s keys told (moment D answers members keys before) steps
  notices_follow answers before steps some few ok s told was goes =
      let there = reached_after (beginning (opening answers members keys)) before steps ok (record { is_run = no_events D members keys answers some few; in_order = λ i. (tt, tt) }) in
      is_told s (moment D answers members keys before) steps told there.0 there.1 was goes
