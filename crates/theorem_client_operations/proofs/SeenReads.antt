-- Majority gets of a run that may have clients, by the lines of its report.
use Rattle.std.proofs.Common.{◌≡◌, ◌≢◌, ◌⊎◌, inl, inr, ℕ, zero, suc, ◌<◌, ◌≤◌, List, [], ◌∷◌, ◌++◌, map, refl, sym, ap, subst, ◌∙◌, arith, Bool, true, false, Option, Some, None, append_assoc}
use Rattle.std.specs.Prelude.{◌==◌, if◌then◌else◌, find, slice_get, option_map}
use Rattle.std.specs.List.{AllByRecursion}
use Rattle.model_history.specs.Table.{identity_limit}
use Rattle.model_history.proofs.HistoryLaws.{with_at_same}
use Rattle.model_history.proofs.PruneLaws.{IsIn}
use Rattle.model_members.specs.View.{View}
use Rattle.model_members.specs.DataType.{Replication, Meaning}
use Rattle.model_members.specs.Message.{Message}
use Rattle.model_members.specs.Node.{KeyDecl, Node, OpenOperation, Input, Level, Fate, Reply, Result, Finished, Output}
use Rattle.model_members.specs.Step.{step, value_reply, read_result}
use Rattle.model_members.specs.World.{World, Event, Turn, start, run, happens, output_of, step_in, turn_of, after_turn, IsLawful, AreLawful, IsRun}
use Rattle.model_members.specs.World.Event.{InputAt, Delivery}
use Rattle.model_members.specs.Script.{Ask, Playing, ScriptStep, Told, Head, KeeperAnswers, opening, played, given, output_lines}
use Rattle.model_members.specs.Script.Answer.{Replied}
use Rattle.model_members.specs.Script.Head.{Asked, DeliverHead}
use Rattle.theorem_runs.proofs.Playing.{Appends, appends_more, no_events, step_is_run, played_appends}
use Rattle.theorem_runs.proofs.Safety.{run_before}
use Rattle.theorem_operations.specs.Quorum.{AllInstalled, KeepsMembers, HasSucceeded, MajorityWrite, HasWrite, WriteThenRead, IsUnchanged, ShowsWrite, Finishes, write_event, read_event, all_events, to_read, at_write, at_read, at_end, reply_in}
use Rattle.theorem_operations.proofs.Lists.{all_first, all_last, find_in, same_number}
use Rattle.theorem_operations.proofs.Moments.{run_append, pushed_run, lawful_first, lawful_rest, Stands as IsReached, stands_start, stands_run}
use Rattle.model_members.specs.Message.Message.{WriteAck, ReadAnswer}
use Rattle.theorem_operations.proofs.Operations.{IsAnswer, step_tells}
use Rattle.theorem_operations.proofs.Turns.{MakesStep, turn_makes, reply_is}
use Rattle.theorem_operations.proofs.Opening.{opening_tells}
use Rattle.theorem_operations.proofs.PlayedInputs.{turn_by, input_turn}
use Rattle.theorem_operations.proofs.QuorumTheorem as theorem
use Rattle.theorem_operations.proofs.ScriptLines.{HeadTells, LineFrom, step_told, InputMade, input_made}
use Rattle.theorem_operations.proofs.ScriptLines.LineFrom.{FromEvent, Plain as PlainLine}
use Rattle.theorem_operations.proofs.StayingFinished.{HasEnded, stays_along, finishes_by, ended_by}
use Rattle.theorem_sections.specs.Runs.{RunStep, IsRunStep, Plays, PlaysAll, plain_line}
use Rattle.theorem_sections.specs.Runs.RunStep.{Plain, Threads}
use Rattle.theorem_sections.specs.Sections.{Line, Ending, pending_op, finished_at, ending_of, ending_by, is_open, section_lines}
use Rattle.theorem_sections.proofs.KnownTimeouts.{get_mapped}
use Rattle.theorem_sections.proofs.Sectioned.{Runs}
use Rattle.theorem_sections.proofs.Unfinished.{opened_none}
use Rattle.theorem_client_operations.specs.Seen.{Place, Stands, HadSeen, StandsIn, StandsAt, stands_before, SeenUpdate, TellsDelivery, SuccessIsSeen, IsSeenUntil, IncludesSeen, GetsIncludeSeen}
use Rattle.theorem_client_operations.specs.Seen.HadSeen.{EarlierStep, OwnCommand}
use Rattle.theorem_client_operations.proofs.Endings.{result_at, result_stays, FinishedAmong, finish_found}
use Rattle.theorem_client_operations.proofs.Onward.{leads_on, lawful_on, keeps_on, rises_on}
use Rattle.theorem_client_operations.proofs.SeenMoments.{lines_by, plain_by, none_of_section, before_silent, before_grows, before_runs, StepAt, step_at, EndsSo, MadeHere, made_here, SeenBefore, seen_before, nothing_more}
use Rattle.theorem_client_operations.proofs.SeenMoments.EndsSo.{AsTold, AsItStands}

-- the update, with what its writer's store did
abbrev seen_write : {Op : Type 0} → SeenUpdate Op → Fate → MajorityWrite Op
seen_write r fate = record { writer = r.writer; key = r.key; operation = r.operation; cap = r.cap; fate = fate }

-- an operation that ended so has that result
ended_at : {Kind Op Shown : Type 0} (o : Option (Node Kind Op Shown)) (op : ℕ) (end : Finished Shown) → ending_of o (Some op) ≡ Some (Ending.Ended end) → (node : Node Kind Op Shown) × (o ≡ Some node) × (finished_at op (Some node) ≡ Some end)
ended_at {Kind} {Op} {Shown} None op end e = absurd (cc e)
ended_at {Kind} {Op} {Shown} (Some node) op end e = by (finished_at op (Some node)) refl e
  where
    by : (r : Option (Finished Shown)) → finished_at op (Some node) ≡ r → Some (ending_by op (Some node) r) ≡ Some (Ending.Ended end) → (n : Node Kind Op Shown) × (Some node ≡ Some n) × (finished_at op (Some n) ≡ Some end)
    by None is f = absurd (unended (is_open op (Some node)) f)
      where
        unended : (b : Bool) → Some (if b then Ending.LeftOpen op else Ending.TimedOut op) ≡ Some (Ending.Ended end) → ⊥
        unended true f = cc f
        unended false f = cc f
    by (Some f) is e = let same : f ≡ end = cc e in (node, refl, is ∙ ap Some same)

-- its number
result_number : {Shown : Type 0} (op : ℕ) (fs : List (Finished Shown)) (end : Finished Shown) → find (λ (f : Finished Shown). f.op == op) fs ≡ Some end → end.op ≡ op
result_number op [] end e = absurd (cc e)
result_number {Shown} op (f ∷ fs) end e = by (f.op == op) refl e (λ g. result_number op fs end g)
  where
    by : (b : Bool) → (f.op == op) ≡ b → (if b then Some f else find (λ (x : Finished Shown). x.op == op) fs) ≡ Some end → (find (λ (x : Finished Shown). x.op == op) fs ≡ Some end → end.op ≡ op) → end.op ≡ op
    by true is e later = let same : f ≡ end = cc e in ap (λ (x : Finished Shown). x.op) (sym same) ∙ same_number f.op op is
    by false is e later = later e

some_ended : {Shown : Type 0} (o : Option (Finished Shown)) (end : Finished Shown) → option_map Ending.Ended o ≡ Some (Ending.Ended end) → o ≡ Some end
some_ended None end e = absurd (cc e)
some_ended (Some f) end e = let same : f ≡ end = cc e in ap Some same

module _ {Kind Op Shown : Type 0} (D : Replication Kind Op Shown) where
  -- what was put out, if it makes this line
  put_out : (head : Head Op) (o : Option (Output Op Shown)) (line : Told Op Shown) → output_lines D head o ≡ line ∷ [] → (output : Output Op Shown) × (o ≡ Some output) × (line.ended ≡ output.ended)
  put_out head None line e = absurd (cc e)
  put_out head (Some output) line e =
      let same : record { head = head; answer = Replied output.reply; posts = output.posts; ended = output.ended } ≡ line = cc e in
      (output, refl, sym (ap (λ (t : Told Op Shown). t.ended) same))

  -- an input that takes no message ends no operation
  never_ends : (world : World Kind Op Shown) (i : ℕ) (input : Input Op) (fate : Fate) → ((from : ℕ) (message : Message Op) → input ≢ Input.Take from message) → (output : Output Op Shown) → output_of D world (InputAt i input fate) ≡ Some output → (end : Finished Shown) → output.ended ≢ Some end
  never_ends world i input fate takes output put end = λ ended. by (turn_of world (InputAt i input fate)) refl put ended
    where
      no_answer : (turn : Turn Kind Op Shown) → input ≡ turn.input → (from : ℕ) (o : OpenOperation) → IsAnswer turn.input from o → ⊥
      no_answer turn same from o (IsAnswer.Acked is reads) = takes from (WriteAck o.op) (same ∙ is)
      no_answer turn same from o (IsAnswer.ReadBack entry is reads) = takes from (ReadAnswer o.op o.key entry) (same ∙ is)

      its_input : (turn : Turn Kind Op Shown) → MakesStep world (InputAt i input fate) turn.at turn.input turn.fate → input ≡ turn.input
      its_input turn (MakesStep.ByInput e) = cc e
      its_input turn (MakesStep.ByDelivery from index message e sent is) = absurd (cc e)

      by : (o : Option (Turn Kind Op Shown)) → turn_of world (InputAt i input fate) ≡ o → option_map (λ (turn : Turn Kind Op Shown). (step_in D turn).output) o ≡ Some output → output.ended ≡ Some end → ⊥
      by None is e ended = cc e
      by (Some turn) is e ended =
          let same : (step_in D turn).output ≡ output = cc e in
          let ends = (step_tells D turn.before turn.input turn.fate).ended end (ap (λ (x : Output Op Shown). x.ended) same ∙ ended) in
          no_answer turn (its_input turn (turn_makes world (InputAt i input fate) turn is).makes) ends.from ends.operation ends.counts.answer

  input_ends_none : (p q : Playing Kind Op Shown) (i : ℕ) (input : Input Op) (reply : Reply Shown) (told : Told Op Shown) → ((from : ℕ) (message : Message Op) → input ≢ Input.Take from message) → InputMade D p q i input reply told
      → (end : Finished Shown) → option_map Ending.Ended told.ended ≡ Some (Ending.Ended end) → ⊥
  input_ends_none p q i input reply told takes made end e =
      let put = put_out told.head (output_of D p.world (InputAt i input made.fate)) told made.tells in
      never_ends p.world i input made.fate takes put.0 put.1 end (sym put.2 ∙ some_ended told.ended end e)

module _ {Kind Op Shown : Type 0} (D : Replication Kind Op Shown) (answers : KeeperAnswers) (members : ℕ) (keys : List (KeyDecl Kind)) (steps : List (RunStep Op)) (some : 1 ≤ members) (few : members ≤ identity_limit) (ok : AllByRecursion IsRunStep steps)
    (lines : List (List (Line Op Shown))) (last : Playing Kind Op Shown) (plays : PlaysAll D (opening answers members keys) steps lines last) where
  abbrev first : World Kind Op Shown
  first = start members keys

  abbrev moment : ℕ → Playing Kind Op Shown
  moment = stands_before D (opening answers members keys) steps lines last plays

  abbrev IsReal : Playing Kind Op Shown → Type 0
  IsReal p = Runs D members keys p

  run_at : (n : ℕ) → IsReal (moment n)
  run_at n = before_runs D members keys (opening answers members keys) steps lines last plays ok (no_events D members keys answers some few) n

  silent_at : (n : ℕ) → (moment n).lines ≡ []
  silent_at n = before_silent D (opening answers members keys) steps lines last plays refl n

  more_at : (m n : ℕ) → m ≤ n → Appends D (moment m).events (moment n).events
  more_at m n h = before_grows D (opening answers members keys) steps lines last plays ok m n h

  -- a step of the run
  abbrev StepOf : ℕ → List (Line Op Shown) → Type 0
  StepOf n told = StepAt D (opening answers members keys) steps lines last plays n told

  step_of : (n : ℕ) (told : List (Line Op Shown)) → slice_get lines n ≡ Some told → StepOf n told
  step_of n told e = step_at D (opening answers members keys) steps lines last plays ok n told e

  run_there : (n : ℕ) (told : List (Line Op Shown)) (s : StepOf n told) → IsReal s.p
  run_there n told s = subst IsReal s.p_is (run_at n)

  silent_there : (n : ℕ) (told : List (Line Op Shown)) (s : StepOf n told) → s.p.lines ≡ []
  silent_there n told s = subst (λ (x : Playing Kind Op Shown). x.lines ≡ []) s.p_is (silent_at n)

  abbrev Comes : Place → Playing Kind Op Shown → Type 0
  Comes place here = StandsAt D (opening answers members keys) steps lines last plays place.step place.caller place.number here

  abbrev Made : Place → Playing Kind Op Shown → Line Op Shown → ℕ → Ask Op → Type 0
  Made place here line at ask = MadeHere D members keys (moment place.step) (moment (suc place.step)) here line at ask

  -- a command whose line stands there
  command_at : (place : Place) (line : Line Op Shown) → Stands lines place line → (here : Playing Kind Op Shown) → Comes place here → (at : ℕ) (ask : Ask Op) → line.head ≡ Asked at ask → Made place here line at ask
  command_at place line stands here comes at ask head =
      let s = step_of place.step stands.told stands.step in
      let there : slice_get (lines_by place.caller s.told) place.number ≡ Some line = subst (λ ls. slice_get (lines_by place.caller ls) place.number ≡ Some line) (sym s.told_is) stands.here in
      let made = made_here D members keys s.p s.q here s.step s.told s.goes (run_there place.step stands.told s) (silent_there place.step stands.told s) place.caller place.number (s.stands place.caller place.number here comes) line there at ask head in
      subst (λ x. MadeHere D members keys x (moment (suc place.step)) here line at ask) (sym s.p_is) (subst (λ x. MadeHere D members keys s.p x here line at ask) (sym s.q_is) made)

  -- an input that is answered
  made_input : (place : Place) (here : Playing Kind Op Shown) (line : Line Op Shown) (at : ℕ) (ask : Ask Op) (input : Input Op) → played D here (ScriptStep.Asks at ask) ≡ given D here (Asked at ask) (InputAt at input) → (made : Made place here line at ask) → (reply : Reply Shown) → line.answer ≡ Replied reply
      → InputMade D here (played D here (ScriptStep.Asks at ask)) at input reply made.told
  made_input place here line at ask input is made reply replied =
      subst (λ q. InputMade D here q at input reply made.told) (sym is)
      (input_made D here made.silent (Asked at ask) at input made.told reply (sym made.answer ∙ replied) (subst (λ (q : Playing Kind Op Shown). IsIn q.lines made.told) is (zero, ap (λ ls. slice_get ls zero) made.lines)))

  -- A DELIVERY THAT TELLS AN END

  record EndFrom (n : ℕ) (i : ℕ) (end : Finished Shown) : Type 0 where
    since : List (Event Op)
    from : ℕ
    index : ℕ
    fate : Fate
    rest : List (Event Op)
    way : (moment (suc n)).events ≡ ((moment n).events ++ since) ++ Delivery from i index fate ∷ rest
    finishes : Finishes D (run D first ((moment n).events ++ since)) (Delivery from i index fate) i end

  end_from : (place : Place) (i : ℕ) (end : Finished Shown) → TellsDelivery lines place i end → EndFrom place.step i end
  end_from place i end t = by_step s.step s.told s.goes s.ok (subst (λ ls. slice_get (lines_by None ls) place.number ≡ Some t.line) (sym s.told_is) (subst (λ o. slice_get (lines_by o t.stands.told) place.number ≡ Some t.line) t.own t.stands.here))
    where
      n : ℕ
      n = place.step

      s : StepOf place.step t.stands.told
      s = step_of place.step t.stands.told t.stands.step

      by_line : (told : Told Op Shown) → plain_line told ≡ t.line → LineFrom D first s.p.events s.q.events told → EndFrom place.step i end
      by_line told is (PlainLine unsaid none) = absurd (let e : None ≡ Some (Ending.Ended end) = sym (ap (option_map Ending.Ended) none) ∙ ap (λ (l : Line Op Shown). l.ended) is ∙ t.ended in cc e)
      by_line told is (FromEvent c) =
          let at_head : told.head ≡ DeliverHead t.from i t.index t.message = ap (λ (l : Line Op Shown). l.head) is ∙ t.delivered in
          let head : HeadTells (DeliverHead t.from i t.index t.message) c.event = subst (λ (h : Head Op). HeadTells h c.event) at_head c.head in
          let event : Event Op = Delivery t.from i t.index head.0 in
          let world = run D first (s.p.events ++ c.since) in
          let tells : output_lines D told.head (output_of D world event) ≡ told ∷ [] = subst (λ (e : Event Op). output_lines D told.head (output_of D world e) ≡ told ∷ []) head.1 c.tells in
          let put = put_out D told.head (output_of D world event) told tells in
          let ended : told.ended ≡ Some end = some_ended told.ended end (ap (λ (l : Line Op Shown). l.ended) is ∙ t.ended) in
          let way : s.q.events ≡ (s.p.events ++ c.since) ++ event ∷ c.rest = c.way ∙ ap (λ e. (s.p.events ++ c.since) ++ e ∷ c.rest) head.1 in
          let finishes = finishes_by D i end world t.from t.index head.0 put.0 put.1 (sym put.2 ∙ ended) in
          record {
            since = c.since;
            from = t.from;
            index = t.index;
            fate = head.0;
            rest = c.rest;
            way = ap (λ (x : Playing Kind Op Shown). x.events) s.q_is ∙ way ∙ ap (λ (x : Playing Kind Op Shown). (x.events ++ c.since) ++ event ∷ c.rest) (sym s.p_is);
            finishes = subst (λ (x : Playing Kind Op Shown). Finishes D (run D first (x.events ++ c.since)) event i end) (sym s.p_is) finishes;
          }

      by_step : (step : RunStep Op) (told : List (Line Op Shown)) → Plays D s.p step told s.q → IsRunStep step → slice_get (lines_by None told) place.number ≡ Some t.line → EndFrom place.step i end
      by_step (Plain x) told goes fits there =
          let plain : slice_get (map plain_line (played D s.p x).lines) place.number ≡ Some t.line = ap (λ ls. slice_get ls place.number) (sym (plain_by (played D s.p x).lines)) ∙ ap (λ ls. slice_get (lines_by None ls) place.number) (sym goes.0) ∙ there in
          let line = get_mapped plain_line (played D s.p x).lines place.number t.line plain in
          let tells = step_told D members keys s.p (run_there place.step t.stands.told s) (silent_there place.step t.stands.told s) x fits in
          by_line line.0 line.2 (subst (λ (q : Playing Kind Op Shown). LineFrom D first s.p.events q.events line.0) (sym goes.1) (tells.lines line.0 (place.number, line.1)))
      by_step (Threads clients) told goes fits there =
          absurd (let e : None ≡ Some t.line = ap (λ ls. slice_get ls place.number) (sym (none_of_section goes.1)) ∙ ap (λ ls. slice_get (lines_by None ls) place.number) (sym goes.3) ∙ there in cc e)

  -- AN UPDATE AND A GET

  module _ (r : SeenUpdate Op) (n : ℕ) (here there : Playing Kind Op Shown) (update get : Line Op Shown) (u : IsSeenUntil D answers members keys steps lines last plays r n here there update get) (past : r.get.step ≤ n) where
    abbrev the_update : Input Op
    the_update = Input.Update r.key r.operation (Level.Majority r.cap)

    abbrev the_get : Input Op
    the_get = Input.Get r.key (Level.Majority r.read_cap)

    abbrev asks_update : ScriptStep Op
    asks_update = ScriptStep.Asks r.writer (Ask.Update r.key r.operation (Level.Majority r.cap))

    abbrev asks_get : ScriptStep Op
    asks_get = ScriptStep.Asks r.reader (Ask.Get r.key (Level.Majority r.read_cap))

    updates : Made r.update here update r.writer (Ask.Update r.key r.operation (Level.Majority r.cap))
    updates = command_at r.update update u.updates here u.comes r.writer (Ask.Update r.key r.operation (Level.Majority r.cap)) u.asks

    gets : Made r.get there get r.reader (Ask.Get r.key (Level.Majority r.read_cap))
    gets = command_at r.get get u.gets there u.reading r.reader (Ask.Get r.key (Level.Majority r.read_cap)) u.reads

    update_made : (reply : Reply Shown) → update.answer ≡ Replied reply → InputMade D here (played D here asks_update) r.writer the_update reply updates.told
    update_made reply replied = made_input r.update here update r.writer (Ask.Update r.key r.operation (Level.Majority r.cap)) the_update refl updates reply replied

    get_made : (reply : Reply Shown) → get.answer ≡ Replied reply → InputMade D there (played D there asks_get) r.reader the_get reply gets.told
    get_made reply replied = made_input r.get there get r.reader (Ask.Get r.key (Level.Majority r.read_cap)) the_get refl gets reply replied

    after_update : IsReal (played D here asks_update)
    after_update = step_is_run D members keys here asks_update tt updates.runs

    after_get : IsReal (played D there asks_get)
    after_get = step_is_run D members keys there asks_get tt gets.runs

    -- no input ends an operation by itself
    update_ends : EndsSo D update updates.told r.writer (moment (suc r.update.step)) → (op : ℕ) (end : Finished Shown) → update.answer ≡ Replied (Reply.Pending op) → update.ended ≡ Some (Ending.Ended end) → ending_of ((moment (suc r.update.step)).world.nodes r.writer) (Some op) ≡ Some (Ending.Ended end)
    update_ends (AsItStands is) op end replied ended = ap (λ o. ending_of ((moment (suc r.update.step)).world.nodes r.writer) (pending_op o)) (sym (sym updates.answer ∙ replied)) ∙ sym is ∙ ended
    update_ends (AsTold is) op end replied ended = absurd (input_ends_none D here (played D here asks_update) r.writer the_update (Reply.Pending op) updates.told (λ from message e. cc e) (update_made (Reply.Pending op) replied) end (sym is ∙ ended))

    get_ends : EndsSo D get gets.told r.reader (moment (suc r.get.step)) → (op : ℕ) (end : Finished Shown) → get.answer ≡ Replied (Reply.Pending op) → get.ended ≡ Some (Ending.Ended end) → ending_of ((moment (suc r.get.step)).world.nodes r.reader) (Some op) ≡ Some (Ending.Ended end)
    get_ends (AsItStands is) op end replied ended = ap (λ o. ending_of ((moment (suc r.get.step)).world.nodes r.reader) (pending_op o)) (sym (sym gets.answer ∙ replied)) ∙ sym is ∙ ended
    get_ends (AsTold is) op end replied ended = absurd (input_ends_none D there (played D there asks_get) r.reader the_get (Reply.Pending op) gets.told (λ from message e. cc e) (get_made (Reply.Pending op) replied) end (sym is ∙ ended))

    -- MEMBERSHIP

    abbrev the_end : Playing Kind Op Shown
    the_end = moment (suc n)

    to_update : Appends D here.events (moment (suc r.update.step)).events
    to_update = appends_more D here.events (played D here asks_update).events (moment (suc r.update.step)).events (played_appends D here asks_update tt) updates.on

    get_to_end : Appends D (played D there asks_get).events (moment (suc n)).events
    get_to_end = appends_more D (played D there asks_get).events (moment (suc r.get.step)).events (moment (suc n)).events gets.on (more_at (suc r.get.step) (suc n) (omega (arith, past)))

    there_to_end : Appends D there.events (moment (suc n)).events
    there_to_end = appends_more D there.events (played D there asks_get).events (moment (suc n)).events (played_appends D there asks_get tt) get_to_end

    -- nobody leaves, joins or restarts between two moments
    keeps : (p q : Playing Kind Op Shown) → IsReal p → IsReal q → Appends D here.events p.events → (more : Appends D p.events q.events) → Appends D q.events (moment (suc n)).events → AllByRecursion KeepsMembers more.0
    keeps p q rp rq a more b =
        let low = rises_on D members keys here p updates.runs rp a in
        let up = rises_on D members keys p q rp rq more in
        let high = rises_on D members keys q (moment (suc n)) rq (run_at (suc n)) b in
        let same : (moment (suc n)).world.view.number ≡ here.world.view.number = ap (λ (v : View). v.number) u.unchanged in
        keeps_on D members keys p q rp rq more (omega (arith, low, up, high, same))

    -- WHO MADE THE GET HAD SEEN THE SUCCESS

    abbrev Seen : Type 0
    Seen = SeenBefore D members keys here there update r.writer (Ask.Update r.key r.operation (Level.Majority r.cap))

    own : (c : ℕ) → r.update.step ≡ r.get.step → r.update.caller ≡ Some c → r.get.caller ≡ Some c → r.update.number < r.get.number → SeenBefore D members keys here there update r.writer (Ask.Update r.key r.operation (Level.Majority r.cap))
    own c same one two less =
        let s = step_of r.update.step u.updates.told u.updates.step in
        let reading : StandsAt D (opening answers members keys) steps lines last plays r.update.step (Some c) r.get.number there =
        subst (λ o. StandsAt D (opening answers members keys) steps lines last plays r.update.step o r.get.number there) two (subst (λ m. StandsAt D (opening answers members keys) steps lines last plays m r.get.caller r.get.number there) (sym same) u.reading) in
        let comes : StandsAt D (opening answers members keys) steps lines last plays r.update.step (Some c) r.update.number here =
        subst (λ o. StandsAt D (opening answers members keys) steps lines last plays r.update.step o r.update.number here) one u.comes in
        let line : slice_get (lines_by (Some c) s.told) r.update.number ≡ Some update =
        subst (λ o. slice_get (lines_by o s.told) r.update.number ≡ Some update) one (subst (λ ls. slice_get (lines_by r.update.caller ls) r.update.number ≡ Some update) (sym s.told_is) u.updates.here) in
        seen_before D members keys s.p s.q s.step s.told s.goes (run_there r.update.step u.updates.told s) c here r.update.number (s.stands (Some c) r.update.number here comes)
        there r.get.number (s.stands (Some c) r.get.number there reading) less update line r.writer (Ask.Update r.key r.operation (Level.Majority r.cap)) u.asks

    later_step : r.update.step < r.get.step → Appends D (moment (suc r.update.step)).events there.events
    later_step less = appends_more D (moment (suc r.update.step)).events (moment r.get.step).events there.events (more_at (suc r.update.step) r.get.step (omega (arith, less))) gets.since

    ordered : HadSeen r.update r.get → Appends D (played D here asks_update).events there.events
    ordered (EarlierStep less) = appends_more D (played D here asks_update).events (moment (suc r.update.step)).events there.events updates.on (later_step less)
    ordered (OwnCommand c same one two less) = (own c same one two less).grows

    -- the writer has finished the operation when the get comes
    record FinishedThere (op : ℕ) (end : Finished Shown) : Type 0 where
      node : Node Kind Op Shown
      runs : there.world.nodes r.writer ≡ Some node
      result : finished_at op (Some node) ≡ Some end

    finished_there : (op : ℕ) (end : Finished Shown) → update.answer ≡ Replied (Reply.Pending op) → update.ended ≡ Some (Ending.Ended end) → HadSeen r.update r.get → FinishedThere op end
    finished_there op end replied ended (EarlierStep less) =
        let q = moment (suc r.update.step) in
        let then' = ended_at (q.world.nodes r.writer) op end (update_ends updates.ends op end replied ended) in
        let more = later_step less in
        let kept =
        result_stays D q.world more.0 (lawful_on D members keys q there (run_at (suc r.update.step)) gets.runs more) (keeps q there (run_at (suc r.update.step)) gets.runs to_update more there_to_end) r.writer op then'.0 then'.1 end then'.2 in
        record { node = kept.0; runs = ap (λ (w : World Kind Op Shown). w.nodes r.writer) (sym (leads_on D members keys q there (run_at (suc r.update.step)) gets.runs more)) ∙ kept.1; result = kept.2 }
    finished_there op end replied ended (OwnCommand c same one two less) =
        let seen = own c same one two less in
        let at = ended_at (there.world.nodes r.writer) op end (ap (λ o. ending_of (there.world.nodes r.writer) (pending_op o)) (sym replied) ∙ seen.ended ∙ ended) in
        record { node = at.0; runs = at.1; result = at.2 }

    -- an earlier step told so
    told_before : (place : Place) (end : Finished Shown) → r.update.step < place.step → place.step < r.get.step → TellsDelivery lines place r.writer end → HasEnded D r.writer end there.world
    told_before place end behind before told =
        let e = end_from place r.writer end told in
        let event : Event Op = Delivery e.from r.writer e.index e.fate in
        let upto = (moment place.step).events ++ e.since in
        let later = appends_more D (moment (suc place.step)).events (moment r.get.step).events there.events (more_at (suc place.step) r.get.step (omega (arith, before))) gets.since in
        let rest = e.rest ++ later.0 in
        let way : there.events ≡ (upto ++ event ∷ []) ++ rest = later.1 ∙ ap (λ es. es ++ later.0) e.way ∙ append_assoc upto (event ∷ e.rest) later.0 ∙ sym (append_assoc upto (event ∷ []) rest) in
        let p : Playing Kind Op Shown = record there { world = run D first (upto ++ event ∷ []); events = upto ++ event ∷ [] } in
        let is_p : IsReal p = run_before D members keys there.events (upto ++ event ∷ []) rest there.world way gets.runs in
        let more : Appends D p.events there.events = (rest, way) in
        let from_here : Appends D here.events p.events =
        appends_more D here.events (moment place.step).events p.events
        (appends_more D here.events (moment (suc r.update.step)).events (moment place.step).events to_update (more_at (suc r.update.step) place.step (omega (arith, behind)))) (e.since ++ event ∷ [], append_assoc (moment place.step).events e.since (event ∷ [])) in
        let now : HasEnded D r.writer end p.world = subst (HasEnded D r.writer end) (sym (pushed_run D first upto event)) (ended_by D r.writer end (run D first upto) e.from e.index e.fate e.finishes) in
        subst (HasEnded D r.writer end) (leads_on D members keys p there is_p gets.runs more) (stays_along D r.writer end p.world rest (keeps p there is_p gets.runs from_here more there_to_end) now)

    record Success : Type 0 where
      reply : Reply Shown
      replied : update.answer ≡ Replied reply
      order : Appends D (played D here asks_update).events there.events
      succeeds : HasSucceeded D here.world (seen_write r (update_made reply replied).fate) there.world

    success : SuccessIsSeen lines r update → Success
    success (SuccessIsSeen.AtOnce replied seen) = record { reply = Reply.Done; replied = replied; order = ordered seen; succeeds = HasSucceeded.AtOnce (update_made Reply.Done replied).replies }
    success (SuccessIsSeen.InItsLine op replied ended seen) =
        let end : Finished Shown = record { op = op; result = Result.Wrote } in
        let f = finished_there op end replied ended seen in
        record {
          reply = Reply.Pending op;
          replied = replied;
          order = ordered seen;
          succeeds = HasSucceeded.Afterwards op f.node (update_made (Reply.Pending op) replied).replies f.runs (find_in (λ (x : Finished Shown). x.op == op) f.node.finished end f.result);
        }
    success (SuccessIsSeen.ByDelivery op place replied behind before told) =
        let ended = told_before place (record { op = op; result = Result.Wrote }) behind before told in
        record {
          reply = Reply.Pending op;
          replied = replied;
          order = ordered (EarlierStep (omega (arith, behind, before)));
          succeeds = HasSucceeded.Afterwards op ended.node (update_made (Reply.Pending op) replied).replies ended.runs ended.has;
        }

    -- THE PREMISES OF THE THEOREM

    the_success : Success
    the_success = success u.succeeded

    abbrev the_fate : Fate
    the_fate = (update_made the_success.reply the_success.replied).fate

    abbrev the_write : MajorityWrite Op
    the_write = seen_write r the_fate

    abbrev between : List (Event Op)
    between = the_success.order.0

    until_get : here.events ++ write_event the_write ∷ between ≡ there.events
    until_get = sym (the_success.order.1 ∙ ap (λ es. es ++ between) (update_made the_success.reply the_success.replied).events ∙ append_assoc here.events (write_event the_write ∷ []) between)

    module _ (reply : Reply Shown) (replied : get.answer ≡ Replied reply) (after tail : List (Event Op)) (way : (moment (suc n)).events ≡ (played D there asks_get).events ++ (after ++ tail)) where
      abbrev fate : Fate
      fate = (get_made reply replied).fate

      abbrev the_run : WriteThenRead Op
      the_run = record { before = here.events; write = the_write; between = between; reader = r.reader; cap = r.read_cap; fate = fate; after = after }

      read_at_is : at_read D members keys the_run ≡ there.world
      read_at_is = ap (run D first) until_get ∙ sym gets.runs.leads

      until_read : to_read the_run ++ read_event the_run ∷ [] ≡ (played D there asks_get).events
      until_read = ap (λ es. es ++ read_event the_run ∷ []) until_get ∙ sym (get_made reply replied).events

      events_are : all_events the_run ≡ (played D there asks_get).events ++ after
      events_are = sym (append_assoc (to_read the_run) (read_event the_run ∷ []) after) ∙ ap (λ es. es ++ after) until_read

      whole : all_events the_run ++ tail ≡ (moment (suc n)).events
      whole = ap (λ es. es ++ tail) events_are ∙ append_assoc (played D there asks_get).events after tail ∙ sym way

      here_to_get : Appends D here.events (played D there asks_get).events
      here_to_get = appends_more D here.events there.events (played D there asks_get).events (appends_more D here.events (played D here asks_update).events there.events (played_appends D here asks_update tt) the_success.order) (played_appends D there asks_get tt)

      unchanged : IsUnchanged D members keys the_run
      unchanged = record {
        is_run = run_before D members keys (moment (suc n)).events (all_events the_run) tail (moment (suc n)).world (sym whole) (run_at (suc n));
        installed = subst (λ (w : World Kind Op Shown). AllInstalled w) updates.runs.leads u.installed;
        between = keeps (played D here asks_update) there after_update gets.runs (played_appends D here asks_update tt) the_success.order there_to_end;
        after = all_first KeepsMembers after tail (keeps (played D there asks_get) (moment (suc n)) after_get (run_at (suc n)) here_to_get (after ++ tail, way) (nothing_more D (moment (suc n)).events));
        succeeded = subst (λ (w : World Kind Op Shown). HasSucceeded D w the_write (at_read D members keys the_run)) updates.runs.leads (subst (λ (w : World Kind Op Shown). HasSucceeded D here.world the_write w) (sym read_at_is) the_success.succeeds);
      }

      replied_there : reply_in D (at_read D members keys the_run) (read_event the_run) ≡ Some reply
      replied_there = subst (λ (w : World Kind Op Shown). reply_in D w (read_event the_run) ≡ Some reply) (sym read_at_is) (get_made reply replied).replies

      end_is : at_end D members keys the_run ≡ run D first ((played D there asks_get).events ++ after)
      end_is = ap (run D first) events_are

      -- what the theorem says of the reader, as it is said of lines
      includes : (within rest : List (Event Op)) (means : Meaning Shown) → (moment (suc n)).events ≡ ((moment n).events ++ within) ++ rest → (world : World Kind Op Shown) → run D first ((moment n).events ++ within) ≡ world → ShowsWrite D members keys the_run world means
          → IncludesSeen D answers members keys steps lines last plays r n here means
      includes within rest means is world same shows = record {
        within = within;
        rest = rest;
        way = is;
        node = shows.node;
        runs = ap (λ (w : World Kind Op Shown). w.nodes r.reader) same ∙ shows.runs;
        decl = shows.decl;
        declared = shows.declared;
        is = shows.is;
        has = subst (λ (w : World Kind Op Shown). HasWrite D w r.writer r.key r.operation (shows.node.entries r.key).history) (sym updates.runs.leads) shows.has;
      }

      -- an operation that finishes by this event
      module _ (op : ℕ) (is_pending : reply ≡ Reply.Pending op) (event : Event Op) (rest : List (Event Op)) (tail_is : tail ≡ event ∷ rest) (end : Finished Shown) (finishes : Finishes D (run D first ((played D there asks_get).events ++ after)) event r.reader end) (its : end.op ≡ op)
          (within : List (Event Op)) (within_is : (moment n).events ++ within ≡ ((played D there asks_get).events ++ after) ++ event ∷ []) where
        lawful_event : IsLawful D (at_end D members keys the_run) event
        lawful_event =
            (lawful_rest D first (all_events the_run) (event ∷ rest)
            (subst (λ es. AreLawful D first (all_events the_run ++ es)) tail_is (subst (λ es. AreLawful D first es) (sym whole) (run_at (suc n)).lawful))).0

        finished_so : (means : Meaning Shown) × (end.result ≡ read_result D (Some means)) × IncludesSeen D answers members keys steps lines last plays r n here means
        finished_so =
            let shows =
            theorem.later D members keys the_run unchanged op (replied_there ∙ ap Some is_pending) event end lawful_event (subst (λ (w : World Kind Op Shown). Finishes D w event r.reader end) (sym end_is) finishes) its in
            let way_is : (moment (suc n)).events ≡ ((moment n).events ++ within) ++ rest =
            way ∙ sym (append_assoc (played D there asks_get).events after tail) ∙ ap (λ es. ((played D there asks_get).events ++ after) ++ es) tail_is ∙ sym (append_assoc ((played D there asks_get).events ++ after) (event ∷ []) rest) ∙ ap (λ es. es ++ rest) (sym within_is) in (
              shows.0,
              shows.1,
              includes within rest shows.0 way_is (happens D (at_end D members keys the_run) event)
                  (ap (run D first) within_is ∙ pushed_run D first ((played D there asks_get).events ++ after) event ∙ ap (λ (w : World Kind Op Shown). happens D w event) (sym end_is)) shows.2,
            )

    -- the reader's new operation has no result yet
    record FreshGet (op : ℕ) : Type 0 where
      node : Node Kind Op Shown
      runs : (played D there asks_get).world.nodes r.reader ≡ Some node
      none : result_at D op node ≡ None

    fresh_get : (op : ℕ) → get.answer ≡ Replied (Reply.Pending op) → FreshGet op
    fresh_get op replied = by (there.world.nodes r.reader) refl
      where
        made : InputMade D there (played D there asks_get) r.reader the_get (Reply.Pending op) gets.told
        made = get_made (Reply.Pending op) replied

        event : Event Op
        event = InputAt r.reader the_get made.fate

        world_is : (played D there asks_get).world ≡ happens D there.world event
        world_is = after_get.leads ∙ ap (run D first) made.events ∙ pushed_run D first there.events event ∙ ap (λ (w : World Kind Op Shown). happens D w event) (sym gets.runs.leads)

        by : (o : Option (Node Kind Op Shown)) → there.world.nodes r.reader ≡ o → FreshGet op
        by None is = absurd (let e = sym (ap (λ (o : Option (Node Kind Op Shown)). option_map (λ (output : Output Op Shown). output.reply) (option_map (λ (turn : Turn Kind Op Shown). (step_in D turn).output) (option_map (λ node. turn_by r.reader node the_get made.fate) o))) is) ∙ made.replies in cc e)
        by (Some old) is =
            let s = step D old the_get made.fate in
            let reply : Some s.output.reply ≡ Some (Reply.Pending op) = sym (reply_is D there.world r.reader old the_get made.fate is) ∙ made.replies in
            let opens = opening_tells D old r.reader op the_get made.fate (let e : s.output.reply ≡ Reply.Pending op = cc reply in e) in
            let reached = subst (IsReached D members keys) (sym gets.runs.leads) (stands_run D members keys first (stands_start D members keys some few) there.events gets.runs.lawful) in
            record {
              node = s.node;
              runs = ap (λ (w : World Kind Op Shown). w.nodes r.reader) world_is ∙ ap (λ o. (after_turn D there.world o).nodes r.reader) (input_turn there.world r.reader old the_get made.fate is) ∙ with_at_same there.world.nodes r.reader (Some s.node);
              none = opened_none D op old the_get made.fate (record { stood = λ o m. reached.numbers.stood r.reader old o is m; done = λ f m. reached.numbers.done r.reader old f is m }) opens.number;
            }

  -- WHAT THE REPORT TELLS OF GETS

  module _ (r : SeenUpdate Op) (here there : Playing Kind Op Shown) (update get : Line Op Shown) (u : IsSeenUntil D answers members keys steps lines last plays r r.get.step here there update get) where
    now : r.get.step ≤ r.get.step
    now = omega arith

    abbrev n : ℕ
    n = r.get.step

    abbrev on : Appends D (played D there (asks_get r n here there update get u now)).events (moment (suc n)).events
    on = (gets r n here there update get u now).on

    since : Appends D (moment n).events there.events
    since = (gets r n here there update get u now).since

    answered_at_once : (reply : Reply Shown) → get.answer ≡ Replied reply → ((op : ℕ) → reply ≢ Reply.Pending op) → (means : Meaning Shown) × (reply ≡ value_reply D (Some means)) × IncludesSeen D answers members keys steps lines last plays r n here means
    answered_at_once reply replied never =
        let after_it = played D there (asks_get r n here there update get u now) in
        let made = get_made r n here there update get u now reply replied in
        let event : Event Op = InputAt r.reader (the_get r n here there update get u now) made.fate in
        let run_it = the_run r n here there update get u now reply replied [] on.0 on.1 in
        let shows = theorem.at_once D members keys run_it (unchanged r n here there update get u now reply replied [] on.0 on.1) reply (replied_there r n here there update get u now reply replied [] on.0 on.1) never in
        let within = since.0 ++ event ∷ [] in
        let within_is : (moment n).events ++ within ≡ there.events ++ event ∷ [] = sym (append_assoc (moment n).events since.0 (event ∷ [])) ∙ ap (λ es. es ++ event ∷ []) (sym since.1) in
        let way_is : (moment (suc n)).events ≡ ((moment n).events ++ within) ++ on.0 = on.1 ∙ ap (λ es. es ++ on.0) (made.events ∙ sym within_is) in (
          shows.0,
          shows.1,
          includes r n here there update get u now reply replied [] on.0 on.1 within on.0 shows.0 way_is (happens D (at_read D members keys run_it) event)
              (ap (run D first) within_is ∙ pushed_run D first there.events event ∙ ap (λ es. happens D (run D first es) event) (sym (until_get r n here there update get u now))) shows.2,
        )

    finished_in_its_line : (op : ℕ) (end : Finished Shown) → get.answer ≡ Replied (Reply.Pending op) → get.ended ≡ Some (Ending.Ended end) → (means : Meaning Shown) × (end.result ≡ read_result D (Some means)) × IncludesSeen D answers members keys steps lines last plays r n here means
    finished_in_its_line op end replied ended =
        let after_it = played D there (asks_get r n here there update get u now) in
        let made = get_made r n here there update get u now (Reply.Pending op) replied in
        let event : Event Op = InputAt r.reader (the_get r n here there update get u now) made.fate in
        let fresh = fresh_get r n here there update get u now op replied in
        let at = ended_at ((moment (suc n)).world.nodes r.reader) op end (get_ends r n here there update get u now (gets r n here there update get u now).ends op end replied ended) in
        let real = after_get r n here there update get u now in
        let found =
        finish_found D after_it.world on.0 (lawful_on D members keys after_it (moment (suc n)) real (run_at (suc n)) on)
        (keeps r n here there update get u now after_it (moment (suc n)) real (run_at (suc n)) (here_to_get r n here there update get u now (Reply.Pending op) replied [] on.0 on.1) on (nothing_more D (moment (suc n)).events))
        r.reader op fresh.node fresh.runs fresh.none at.0 (ap (λ (w : World Kind Op Shown). w.nodes r.reader) (leads_on D members keys after_it (moment (suc n)) real (run_at (suc n)) on) ∙ at.1) end at.2 in
        let way : (moment (suc n)).events ≡ after_it.events ++ (found.early ++ found.event ∷ found.rest) = on.1 ∙ ap (λ es. after_it.events ++ es) found.way in
        let world_is : run D after_it.world found.early ≡ run D first (after_it.events ++ found.early) = ap (λ (w : World Kind Op Shown). run D w found.early) real.leads ∙ sym (run_append D first after_it.events found.early) in
        let within = since.0 ++ event ∷ (found.early ++ found.event ∷ []) in
        let within_is : (moment n).events ++ within ≡ (after_it.events ++ found.early) ++ found.event ∷ [] =
        sym (append_assoc (moment n).events since.0 (event ∷ (found.early ++ found.event ∷ []))) ∙ ap (λ es. es ++ event ∷ (found.early ++ found.event ∷ [])) (sym since.1)
        ∙ sym (append_assoc there.events (event ∷ []) (found.early ++ found.event ∷ [])) ∙ ap (λ es. es ++ (found.early ++ found.event ∷ [])) (sym made.events) ∙ sym (append_assoc after_it.events found.early (found.event ∷ [])) in
        finished_so r n here there update get u now (Reply.Pending op) replied found.early (found.event ∷ found.rest) way op refl found.event found.rest refl end
        (subst (λ (w : World Kind Op Shown). Finishes D w found.event r.reader end) world_is found.finishes) (result_number op at.0.finished end at.2) within within_is

  finished_by_delivery : (r : SeenUpdate Op) (here there : Playing Kind Op Shown) (update get : Line Op Shown) (place : Place) → r.get.step < place.step → (u : IsSeenUntil D answers members keys steps lines last plays r place.step here there update get)
      → (op : ℕ) (end : Finished Shown) → get.answer ≡ Replied (Reply.Pending op) → TellsDelivery lines place r.reader end → end.op ≡ op → (means : Meaning Shown) × (end.result ≡ read_result D (Some means)) × IncludesSeen D answers members keys steps lines last plays r place.step here means
  finished_by_delivery r here there update get place behind u op end replied told its =
      let m = place.step in
      let past : r.get.step ≤ m = omega (arith, behind) in
      let after_it = played D there (asks_get r m here there update get u past) in
      let e = end_from place r.reader end told in
      let event : Event Op = Delivery e.from r.reader e.index e.fate in
      let more = appends_more D after_it.events (moment (suc r.get.step)).events (moment m).events (gets r m here there update get u past).on (more_at (suc r.get.step) m (omega (arith, behind))) in
      let after = more.0 ++ e.since in
      let upto_is : (moment m).events ++ e.since ≡ after_it.events ++ after = ap (λ es. es ++ e.since) more.1 ∙ append_assoc after_it.events more.0 e.since in
      let way : (moment (suc m)).events ≡ after_it.events ++ (after ++ event ∷ e.rest) = e.way ∙ ap (λ es. es ++ event ∷ e.rest) upto_is ∙ append_assoc after_it.events after (event ∷ e.rest) in
      let within = e.since ++ event ∷ [] in
      let within_is : (moment m).events ++ within ≡ (after_it.events ++ after) ++ event ∷ [] = sym (append_assoc (moment m).events e.since (event ∷ [])) ∙ ap (λ es. es ++ event ∷ []) upto_is in
      finished_so r m here there update get u past (Reply.Pending op) replied after (event ∷ e.rest) way op refl event e.rest refl end
      (subst (λ es. Finishes D (run D first es) event r.reader end) upto_is e.finishes) its within within_is

  pub gets_include_seen : GetsIncludeSeen D answers members keys steps lines last plays
  gets_include_seen = record {
    at_once = λ r here there update get u reply replied never. answered_at_once r here there update get u reply replied never;
    in_its_line = λ r here there update get u op end replied ended. finished_in_its_line r here there update get u op end replied ended;
    by_delivery = λ r here there update get place behind u op end replied told its. finished_by_delivery r here there update get place behind u op end replied told its;
  }
