-- The quorum theorem of a script, by what its lines tell.
use Rattle.std.proofs.Common.{◌≡◌, ◌≢◌, ℕ, suc, ◌<◌, ◌≤◌, List, [], ◌∷◌, ◌++◌, refl, sym, ap, subst, ◌∙◌, arith, Option, Some, None, append_assoc}
use Rattle.std.specs.Prelude.{slice_get, take}
use Rattle.std.specs.List.{AllByRecursion}
use Rattle.model_history.specs.Table.{identity_limit}
use Rattle.model_history.proofs.HistoryLaws.{append_nothing}
use Rattle.model_history.proofs.PruneLaws.{IsIn}
use Rattle.model_members.specs.View.{View}
use Rattle.model_members.specs.DataType.{Replication, Meaning}
use Rattle.model_members.specs.Node.{KeyDecl, Input, Level, Fate, Reply, Result, Finished, Output}
use Rattle.model_members.specs.Step.{value_reply, read_result}
use Rattle.model_members.specs.World.{World, Event, start, run, happens, output_of, IsLawful, AreLawful, IsRun}
use Rattle.model_members.specs.World.Event.{InputAt, Delivery}
use Rattle.model_members.specs.Script.{Ask, Playing, ScriptStep, IsStep, Told, Head, KeeperAnswers, opening, played, output_lines}
use Rattle.model_members.specs.Script.Answer.{Replied}
use Rattle.model_members.specs.Script.Head.{Asked, DeliverHead}
use Rattle.theorem_runs.proofs.Playing.{Appends, played_is_run, no_events}
use Rattle.theorem_operations.specs.Quorum.{AllInstalled, KeepsMembers, HasSucceeded, MajorityWrite, HasWrite, WriteThenRead, IsUnchanged, ShowsWrite, Finishes, write_event, read_event, all_events, at_read, at_end, reply_in}
use Rattle.theorem_operations.specs.Scripts.{UpdateThenGet, before_step, TellsLine, Replies, TellsEnd, SuccessIsTold, IsUnchangedUntil, IncludesUpdate, GetsInclude}
use Rattle.theorem_operations.proofs.Lists.{all_first, all_last}
use Rattle.theorem_operations.proofs.Moments.{run_append, pushed_run, lawful_first, lawful_rest}
use Rattle.theorem_operations.proofs.KeptViews.{rises_along, kept_along}
use Rattle.theorem_operations.proofs.QuorumTheorem as theorem
use Rattle.theorem_operations.proofs.ScriptLines.{HeadTells, LineFrom, step_told, InputMade, input_made}
use Rattle.theorem_operations.proofs.ScriptLines.LineFrom.{FromEvent, Plain}
use Rattle.theorem_operations.proofs.ScriptMoments.{after_step_is, appends_between, lines_told, silent_before, ok_at, front_steps}
use Rattle.theorem_operations.proofs.StayingFinished.{HasEnded, stays_along, finishes_by, ended_by}

-- the update, with what its writer's store did
abbrev written : {Op : Type 0} → UpdateThenGet Op → Fate → MajorityWrite Op
written r fate = record { writer = r.writer; key = r.key; operation = r.operation; cap = r.cap; fate = fate }

same_item : {X : Type 0} (o : Option X) (x y : X) → o ≡ Some x → o ≡ Some y → x ≡ y
same_item o x y e f = let g : Some x ≡ Some y = sym e ∙ f in cc g

module _ {Kind Op Shown : Type 0} (D : Replication Kind Op Shown) (answers : KeeperAnswers) (members : ℕ) (keys : List (KeyDecl Kind)) (steps : List (ScriptStep Op)) (some : 1 ≤ members) (few : members ≤ identity_limit) (ok : AllByRecursion IsStep steps) where
  abbrev first : World Kind Op Shown
  first = start members keys

  abbrev opened : Playing Kind Op Shown
  opened = opening answers members keys

  abbrev moment : ℕ → Playing Kind Op Shown
  moment = before_step D answers members keys steps

  abbrev so_far : ℕ → List (Event Op)
  so_far n = (moment n).events

  run_at : (n : ℕ) → IsRun D members keys (so_far n) (moment n).world
  run_at n = played_is_run D members keys opened (take n steps) (front_steps D steps n ok) (no_events D members keys answers some few)

  world_at : (n : ℕ) → run D first (so_far n) ≡ (moment n).world
  world_at n = sym (run_at n).leads

  more_at : (a b : ℕ) → a ≤ b → Appends D (so_far a) (so_far b)
  more_at a b h = appends_between D opened steps a b h ok

  -- THE LINES OF A STEP

  -- a line of a step of this form is one of the script's at work
  told_there : (n : ℕ) (line : Told Op Shown) (step : ScriptStep Op) → slice_get steps n ≡ Some step → TellsLine D answers members keys steps n line → IsIn (played D (moment n) step).lines line
  told_there n line step is tells =
      let there = lines_told D opened steps n tells.0 tells.2 in
      let same : there.0 ≡ step = same_item (slice_get steps n) there.0 step there.1 is in
      subst (λ (s : ScriptStep Op). IsIn (played D (moment n) s).lines line) same (subst (λ ls. IsIn ls line) there.2 (tells.1, tells.3))

  next_events : (n : ℕ) (step : ScriptStep Op) → slice_get steps n ≡ Some step → so_far (suc n) ≡ (played D (moment n) step).events
  next_events n step is = ap (λ (p : Playing Kind Op Shown). p.events) (after_step_is D opened steps n step is)

  line_from : (n : ℕ) (line : Told Op Shown) → TellsLine D answers members keys steps n line → LineFrom D first (so_far n) (so_far (suc n)) line
  line_from n line tells =
      let there = lines_told D opened steps n tells.0 tells.2 in
      let told = step_told D members keys (moment n) (run_at n) (silent_before D opened (take n steps) refl) there.0 (ok_at D steps n there.0 ok there.1) in
      subst (λ es. LineFrom D first (so_far n) es line) (sym (next_events n there.0 there.1)) (told.lines line (subst (λ ls. IsIn ls line) there.2 (tells.1, tells.3)))

  -- the event of a line that tells how an operation ended
  record EndFrom (n : ℕ) (line : Told Op Shown) (i : ℕ) (end : Finished Shown) : Type 0 where
    since : List (Event Op)
    from : ℕ
    index : ℕ
    fate : Fate
    rest : List (Event Op)
    way : so_far (suc n) ≡ (so_far n ++ since) ++ Delivery from i index fate ∷ rest
    tells : output_lines D line.head (output_of D (run D first (so_far n ++ since)) (Delivery from i index fate)) ≡ line ∷ []
    finishes : Finishes D (run D first (so_far n ++ since)) (Delivery from i index fate) i end

  -- what was put out, if it makes this line
  put_out : (head : Head Op) (o : Option (Output Op Shown)) (line : Told Op Shown) → output_lines D head o ≡ line ∷ [] → (output : Output Op Shown) × (o ≡ Some output) × (line.ended ≡ output.ended)
  put_out head None line e = absurd (cc e)
  put_out head (Some output) line e =
      let same : record { head = head; answer = Replied output.reply; posts = output.posts; ended = output.ended } ≡ line = cc e in
      (output, refl, sym (ap (λ (t : Told Op Shown). t.ended) same))

  end_from : (n : ℕ) (line : Told Op Shown) (i : ℕ) (end : Finished Shown) → TellsEnd D answers members keys steps n line i end → EndFrom n line i end
  end_from n line i end t = by (line_from n line t.told)
    where
      by : LineFrom D first (so_far n) (so_far (suc n)) line → EndFrom n line i end
      by (Plain unsaid none) = absurd (let e : ◌≡◌ {A = Option (Finished Shown)} None (Some end) = sym none ∙ t.ended in cc e)
      by (FromEvent c) =
          let head : HeadTells (DeliverHead t.from i t.index t.message) c.event = subst (λ (h : Head Op). HeadTells h c.event) t.delivered c.head in
          let event : Event Op = Delivery t.from i t.index head.0 in
          let world = run D first (so_far n ++ c.since) in
          let tells : output_lines D line.head (output_of D world event) ≡ line ∷ [] = subst (λ (e : Event Op). output_lines D line.head (output_of D world e) ≡ line ∷ []) head.1 c.tells in
          let put = put_out line.head (output_of D world event) line tells in
          record {
            since = c.since;
            from = t.from;
            index = t.index;
            fate = head.0;
            rest = c.rest;
            way = c.way ∙ ap (λ e. (so_far n ++ c.since) ++ e ∷ c.rest) head.1;
            tells = tells;
            finishes = finishes_by D i end world t.from t.index head.0 put.0 put.1 (sym put.2 ∙ t.ended);
          }

  -- AN UPDATE AND A GET

  module _ (r : UpdateThenGet Op) where
    abbrev the_update : Input Op
    the_update = Input.Update r.key r.operation (Level.Majority r.cap)

    abbrev the_get : Input Op
    the_get = Input.Get r.key (Level.Majority r.read_cap)

    -- an update and a get that are answered
    update_made : (line : Told Op Shown) (reply : Reply Shown) → slice_get steps r.update ≡ Some (ScriptStep.Asks r.writer (Ask.Update r.key r.operation (Level.Majority r.cap))) → Replies D answers members keys steps r.update line reply
        → InputMade D (moment r.update) (moment (suc r.update)) r.writer the_update reply line
    update_made line reply is replies =
        let made = input_made D (moment r.update) (silent_before D opened (take r.update steps) refl) (Asked r.writer (Ask.Update r.key r.operation (Level.Majority r.cap))) r.writer the_update line reply replies.1 (told_there r.update line (ScriptStep.Asks r.writer (Ask.Update r.key r.operation (Level.Majority r.cap))) is replies.0) in
        record { fate = made.fate; events = next_events r.update (ScriptStep.Asks r.writer (Ask.Update r.key r.operation (Level.Majority r.cap))) is ∙ made.events; replies = made.replies; tells = made.tells }

    get_made : (line : Told Op Shown) (reply : Reply Shown) → slice_get steps r.get ≡ Some (ScriptStep.Asks r.reader (Ask.Get r.key (Level.Majority r.read_cap))) → Replies D answers members keys steps r.get line reply
        → InputMade D (moment r.get) (moment (suc r.get)) r.reader the_get reply line
    get_made line reply is replies =
        let made = input_made D (moment r.get) (silent_before D opened (take r.get steps) refl) (Asked r.reader (Ask.Get r.key (Level.Majority r.read_cap))) r.reader the_get line reply replies.1 (told_there r.get line (ScriptStep.Asks r.reader (Ask.Get r.key (Level.Majority r.read_cap))) is replies.0) in
        record { fate = made.fate; events = next_events r.get (ScriptStep.Asks r.reader (Ask.Get r.key (Level.Majority r.read_cap))) is ∙ made.events; replies = made.replies; tells = made.tells }

    module _ (last : ℕ) (u : IsUnchangedUntil D answers members keys steps r last) (past : r.get ≤ last) where
      -- the update's fate
      made_of : SuccessIsTold D answers members keys steps r → (line : Told Op Shown) × (reply : Reply Shown) × InputMade D (moment r.update) (moment (suc r.update)) r.writer the_update reply line
      made_of (SuccessIsTold.AtOnce line replies) = (line, Reply.Done, update_made line Reply.Done u.updates replies)
      made_of (SuccessIsTold.Afterwards op n line later replies behind before ends) = (line, Reply.Pending op, update_made line (Reply.Pending op) u.updates replies)

      abbrev the_fate : Fate
      the_fate = (made_of u.succeeded).2.fate

      abbrev the_write : MajorityWrite Op
      the_write = written r the_fate

      after_update : so_far (suc r.update) ≡ so_far r.update ++ write_event the_write ∷ []
      after_update = (made_of u.succeeded).2.events

      -- the events between the two
      abbrev between : List (Event Op)
      between = (more_at (suc r.update) r.get (let h = u.in_order in omega arith)).0

      until_get : so_far r.update ++ write_event the_write ∷ between ≡ so_far r.get
      until_get = sym (
          (more_at (suc r.update) r.get (let h = u.in_order in omega arith)).1 ∙ ap (λ es. es ++ between) after_update ∙ append_assoc (so_far r.update) (write_event the_write ∷ []) between)

      -- MEMBERSHIP

      the_end : List (Event Op)
      the_end = so_far (suc last)

      -- at each moment from the update until the end the last view has one number
      number_at : (xs ys zs : List (Event Op)) → so_far r.update ++ xs ≡ ys → ys ++ zs ≡ so_far (suc last) → (run D first ys).view.number ≡ (moment r.update).world.view.number
      number_at xs ys zs a b =
          let up : (run D first (so_far r.update)).view.number ≤ (run D first ys).view.number =
          subst (λ (w : World Kind Op Shown). (run D first (so_far r.update)).view.number ≤ w.view.number) (sym (run_append D first (so_far r.update) xs) ∙ ap (run D first) a) (rises_along D (run D first (so_far r.update)) xs) in
          let on : (run D first ys).view.number ≤ (run D first (so_far (suc last))).view.number =
          subst (λ (w : World Kind Op Shown). (run D first ys).view.number ≤ w.view.number) (sym (run_append D first ys zs) ∙ ap (run D first) b) (rises_along D (run D first ys) zs) in
          let same : (run D first (so_far (suc last))).view.number ≡ (moment r.update).world.view.number = ap (λ (w : World Kind Op Shown). w.view.number) (world_at (suc last)) ∙ ap (λ (v : View). v.number) u.unchanged in
          let begins : (run D first (so_far r.update)).view.number ≡ (moment r.update).world.view.number = ap (λ (w : World Kind Op Shown). w.view.number) (world_at r.update) in
          omega arith

      -- so nobody leaves, joins or restarts between two of them
      kept_between : (xs ys events zs : List (Event Op)) → so_far r.update ++ xs ≡ ys → (ys ++ events) ++ zs ≡ so_far (suc last) → AllByRecursion KeepsMembers events
      kept_between xs ys events zs a b =
          let here = number_at xs ys (events ++ zs) a (sym (append_assoc ys events zs) ∙ b) in
          let there = number_at (xs ++ events) (ys ++ events) zs (sym (append_assoc (so_far r.update) xs events) ∙ ap (λ es. es ++ events) a) b in
          let same : (run D (run D first ys) events).view.number ≡ (run D first ys).view.number = ap (λ (w : World Kind Op Shown). w.view.number) (sym (run_append D first ys events)) ∙ there ∙ sym here in
          kept_along D (run D first ys) events same

      lawful_at : (ys zs : List (Event Op)) → ys ++ zs ≡ so_far (suc last) → AreLawful D first (ys ++ zs)
      lawful_at ys zs e = subst (λ es. AreLawful D first es) (sym e) (run_at (suc last)).lawful

      run_of : (ys zs : List (Event Op)) → ys ++ zs ≡ so_far (suc last) → IsRun D members keys ys (run D first ys)
      run_of ys zs e = record { some = some; few = few; lawful = lawful_first D first ys zs (lawful_at ys zs e); leads = refl }

      -- THE SUCCESS

      -- the writer has finished its operation when the get begins
      ended_until : (n : ℕ) → r.update < n → n < r.get → (line : Told Op Shown) (end : Finished Shown) → TellsEnd D answers members keys steps n line r.writer end → HasEnded D r.writer end (run D first (so_far r.get))
      ended_until n behind before line end told =
          let e = end_from n line r.writer end told in
          let event : Event Op = Delivery e.from r.writer e.index e.fate in
          let ys = so_far n ++ e.since in
          let later = more_at (suc n) r.get (omega arith) in
          let rest = e.rest ++ later.0 in
          let to_get : (ys ++ event ∷ []) ++ rest ≡ so_far r.get = append_assoc ys (event ∷ []) rest ∙ sym (later.1 ∙ ap (λ es. es ++ later.0) e.way ∙ append_assoc ys (event ∷ e.rest) later.0) in
          let to_end = more_at r.get (suc last) (omega arith) in
          let first_more = more_at r.update n (omega arith) in
          let from_update : so_far r.update ++ (first_more.0 ++ (e.since ++ event ∷ [])) ≡ ys ++ event ∷ [] =
          sym (append_assoc (so_far r.update) first_more.0 (e.since ++ event ∷ [])) ∙ ap (λ es. es ++ (e.since ++ event ∷ [])) (sym first_more.1) ∙ sym (append_assoc (so_far n) e.since (event ∷ [])) in
          let keeps = kept_between (first_more.0 ++ (e.since ++ event ∷ [])) (ys ++ event ∷ []) rest to_end.0 from_update (ap (λ es. es ++ to_end.0) to_get ∙ sym to_end.1) in
          let now : HasEnded D r.writer end (run D first (ys ++ event ∷ [])) = subst (HasEnded D r.writer end) (sym (pushed_run D first ys event)) (ended_by D r.writer end (run D first ys) e.from e.index e.fate e.finishes) in
          subst (HasEnded D r.writer end) (sym (run_append D first (ys ++ event ∷ []) rest) ∙ ap (run D first) to_get)
          (stays_along D r.writer end (run D first (ys ++ event ∷ [])) rest keeps now)

      succeeds : (s : SuccessIsTold D answers members keys steps r) → HasSucceeded D (run D first (so_far r.update)) (written r (made_of s).2.fate) (run D first (so_far r.get))
      unfolding made_of
      succeeds (SuccessIsTold.AtOnce line replies) =
          let made = update_made line Reply.Done u.updates replies in
          HasSucceeded.AtOnce (subst (λ (w : World Kind Op Shown). reply_in D w (InputAt r.writer the_update made.fate) ≡ Some Reply.Done) (sym (world_at r.update)) made.replies)
      succeeds (SuccessIsTold.Afterwards op n line later replies behind before ends) =
          let made = update_made line (Reply.Pending op) u.updates replies in
          let ended = ended_until n behind before later (record { op = op; result = Result.Wrote }) ends in
          HasSucceeded.Afterwards op ended.node (subst (λ (w : World Kind Op Shown). reply_in D w (InputAt r.writer the_update made.fate) ≡ Some (Reply.Pending op)) (sym (world_at r.update)) made.replies) ended.runs ended.has

      -- THE PREMISES OF THE THEOREM

      module _ (fate : Fate) (after tail : List (Event Op)) (way : so_far (suc last) ≡ (so_far r.get ++ InputAt r.reader the_get fate ∷ after) ++ tail) where
        abbrev the_run : WriteThenRead Op
        the_run = record { before = so_far r.update; write = the_write; between = between; reader = r.reader; cap = r.read_cap; fate = fate; after = after }

        read_at_is : at_read D members keys the_run ≡ (moment r.get).world
        read_at_is = ap (run D first) until_get ∙ world_at r.get

        events_are : all_events the_run ≡ so_far r.get ++ InputAt r.reader the_get fate ∷ after
        events_are = ap (λ es. es ++ InputAt r.reader the_get fate ∷ after) until_get

        whole : all_events the_run ++ tail ≡ so_far (suc last)
        whole = ap (λ es. es ++ tail) events_are ∙ sym way

        abbrev to_here : List (Event Op)
        to_here = so_far r.update ++ write_event the_write ∷ []

        -- all events behind the update keep the members
        keeps_all : AllByRecursion KeepsMembers (between ++ (read_event the_run ∷ after))
        keeps_all =
            kept_between (write_event the_write ∷ []) to_here (between ++ (read_event the_run ∷ after)) tail refl
            (ap (λ es. es ++ tail) (sym (append_assoc to_here between (read_event the_run ∷ after)) ∙ ap (λ es. es ++ read_event the_run ∷ after) (append_assoc (so_far r.update) (write_event the_write ∷ []) between)) ∙ whole)

        unchanged : IsUnchanged D members keys the_run
        unchanged = record {
          is_run = run_of (all_events the_run) tail whole;
          installed = subst (λ (w : World Kind Op Shown). AllInstalled w) (sym (world_at r.update)) u.installed;
          between = all_first KeepsMembers between (read_event the_run ∷ after) keeps_all;
          after = (all_last KeepsMembers between (read_event the_run ∷ after) keeps_all).1;
          succeeded = subst (λ (w : World Kind Op Shown). HasSucceeded D (run D first (so_far r.update)) the_write w) (ap (run D first) (sym until_get)) (succeeds u.succeeded);
        }

        -- what the theorem says of the reader, as it is said of scripts
        includes : (line : Told Op Shown) (within : List (Event Op)) (event : Event Op) (rest : List (Event Op)) (means : Meaning Shown) → so_far (suc last) ≡ (so_far last ++ within) ++ event ∷ rest
            → output_lines D line.head (output_of D (run D first (so_far last ++ within)) event) ≡ line ∷ [] → (world : World Kind Op Shown) → run D first ((so_far last ++ within) ++ event ∷ []) ≡ world → ShowsWrite D members keys the_run world means
            → IncludesUpdate D answers members keys steps r last line means
        includes line within event rest means is tells world same shows = record {
          within = within;
          event = event;
          rest = rest;
          way = is;
          tells = tells;
          node = shows.node;
          runs = ap (λ (w : World Kind Op Shown). w.nodes r.reader) same ∙ shows.runs;
          decl = shows.decl;
          declared = shows.declared;
          is = shows.is;
          has = subst (λ (w : World Kind Op Shown). HasWrite D w r.writer r.key r.operation (shows.node.entries r.key).history) (world_at r.update) shows.has;
        }

  -- A GET THAT IS ANSWERED AT ONCE

  module _ (r : UpdateThenGet Op) (u : IsUnchangedUntil D answers members keys steps r r.get) (line : Told Op Shown) (reply : Reply Shown) (replies : Replies D answers members keys steps r.get line reply) where
    here : r.get ≤ r.get
    here = omega arith

    made_now : InputMade D (moment r.get) (moment (suc r.get)) r.reader (the_get r) reply line
    made_now = get_made r line reply u.gets replies

    abbrev get_now : Event Op
    get_now = InputAt r.reader (the_get r) made_now.fate

    way_now : so_far (suc r.get) ≡ (so_far r.get ++ get_now ∷ []) ++ []
    way_now = made_now.events ∙ sym (append_nothing (so_far r.get ++ get_now ∷ []))

    abbrev run_now : WriteThenRead Op
    run_now = the_run r r.get u here made_now.fate [] [] way_now

    read_now : at_read D members keys run_now ≡ (moment r.get).world
    read_now = read_at_is r r.get u here made_now.fate [] [] way_now

    replied_now : reply_in D (at_read D members keys run_now) (read_event run_now) ≡ Some reply
    replied_now = subst (λ (w : World Kind Op Shown). reply_in D w get_now ≡ Some reply) (sym read_now) made_now.replies

    told_now : output_lines D line.head (output_of D (run D first (so_far r.get)) get_now) ≡ line ∷ []
    told_now = subst (λ (w : World Kind Op Shown). output_lines D line.head (output_of D w get_now) ≡ line ∷ []) (sym (world_at r.get)) made_now.tells

    ending_now : run D first (so_far r.get ++ get_now ∷ []) ≡ happens D (at_read D members keys run_now) get_now
    ending_now = pushed_run D first (so_far r.get) get_now ∙ ap (λ (w : World Kind Op Shown). happens D w get_now) (world_at r.get ∙ sym read_now)

    no_more : so_far r.get ≡ so_far r.get ++ []
    no_more = sym (append_nothing (so_far r.get))

    answered_now : ((op : ℕ) → reply ≢ Reply.Pending op) → (means : Meaning Shown) × (reply ≡ value_reply D (Some means)) × IncludesUpdate D answers members keys steps r r.get line means
    answered_now never =
        let shows = theorem.at_once D members keys run_now (unchanged r r.get u here made_now.fate [] [] way_now) reply replied_now never in (
          shows.0,
          shows.1,
          includes r r.get u here made_now.fate [] [] way_now line [] get_now [] shows.0 (subst (λ es. so_far (suc r.get) ≡ es ++ get_now ∷ []) no_more made_now.events)
              (subst (λ es. output_lines D line.head (output_of D (run D first es) get_now) ≡ line ∷ []) no_more told_now) (happens D (at_read D members keys run_now) get_now) (subst (λ es. run D first (es ++ get_now ∷ []) ≡ happens D (at_read D members keys run_now) get_now) no_more ending_now) shows.2,
        )

  -- A GET WHOSE OPERATION FINISHES LATER

  module _ (r : UpdateThenGet Op) (n : ℕ) (behind : r.get < n) (u : IsUnchangedUntil D answers members keys steps r n) (line : Told Op Shown) (op : ℕ) (replies : Replies D answers members keys steps r.get line (Reply.Pending op))
      (last : Told Op Shown) (end : Finished Shown) (told : TellsEnd D answers members keys steps n last r.reader end) where
    past : r.get ≤ n
    past = omega arith

    made : InputMade D (moment r.get) (moment (suc r.get)) r.reader (the_get r) (Reply.Pending op) line
    made = get_made r line (Reply.Pending op) u.gets replies

    abbrev get_event : Event Op
    get_event = InputAt r.reader (the_get r) made.fate

    ends : EndFrom n last r.reader end
    ends = end_from n last r.reader end told

    abbrev last_event : Event Op
    last_event = Delivery ends.from r.reader ends.index ends.fate

    more : Appends D (so_far (suc r.get)) (so_far n)
    more = more_at (suc r.get) n (omega arith)

    abbrev after_get : List (Event Op)
    after_get = more.0 ++ ends.since

    abbrev tail_events : List (Event Op)
    tail_events = last_event ∷ ends.rest

    until_last : so_far r.get ++ get_event ∷ after_get ≡ so_far n ++ ends.since
    until_last =
        sym (append_assoc (so_far r.get) (get_event ∷ []) after_get) ∙ ap (λ es. es ++ after_get) (sym made.events)
        ∙ sym (append_assoc (so_far (suc r.get)) more.0 ends.since) ∙ ap (λ es. es ++ ends.since) (sym more.1)

    way_later : so_far (suc n) ≡ (so_far r.get ++ get_event ∷ after_get) ++ tail_events
    way_later = ends.way ∙ ap (λ es. es ++ tail_events) (sym until_last)

    abbrev run_later : WriteThenRead Op
    run_later = the_run r n u past made.fate after_get tail_events way_later

    read_later : at_read D members keys run_later ≡ (moment r.get).world
    read_later = read_at_is r n u past made.fate after_get tail_events way_later

    replied_later : reply_in D (at_read D members keys run_later) (read_event run_later) ≡ Some (Reply.Pending op)
    replied_later = subst (λ (w : World Kind Op Shown). reply_in D w get_event ≡ Some (Reply.Pending op)) (sym read_later) made.replies

    end_is : at_end D members keys run_later ≡ run D first (so_far n ++ ends.since)
    end_is = ap (run D first) (events_are r n u past made.fate after_get tail_events way_later ∙ until_last)

    lawful_later : IsLawful D (at_end D members keys run_later) last_event
    lawful_later = (lawful_rest D first (all_events run_later) tail_events (lawful_at r n u past (all_events run_later) tail_events (whole r n u past made.fate after_get tail_events way_later))).0

    finishes_later : Finishes D (at_end D members keys run_later) last_event r.reader end
    finishes_later = subst (λ (w : World Kind Op Shown). Finishes D w last_event r.reader end) (sym end_is) ends.finishes

    ending_later : run D first ((so_far n ++ ends.since) ++ last_event ∷ []) ≡ happens D (at_end D members keys run_later) last_event
    ending_later = pushed_run D first (so_far n ++ ends.since) last_event ∙ ap (λ (w : World Kind Op Shown). happens D w last_event) (sym end_is)

    finished_later : end.op ≡ op → (means : Meaning Shown) × (end.result ≡ read_result D (Some means)) × IncludesUpdate D answers members keys steps r n last means
    finished_later is =
        let shows = theorem.later D members keys run_later (unchanged r n u past made.fate after_get tail_events way_later) op replied_later last_event end lawful_later finishes_later is in (
          shows.0,
          shows.1,
          includes r n u past made.fate after_get tail_events way_later last ends.since last_event ends.rest shows.0 ends.way ends.tells (happens D (at_end D members keys run_later) last_event) ending_later shows.2,
        )

  pub gets_include : GetsInclude D answers members keys steps
  gets_include = record {
    at_once = λ r u line reply replies never. answered_now r u line reply replies never;
    later = λ r n behind u line op replies last end told is. finished_later r n behind u line op replies last end told is;
  }
