-- Each entry in run order is a move of the section, and once all have come the section ends.
use Rattle.std.proofs.Common.{◌≡◌, ◌≢◌, ◌⊎◌, inl, inr, ⊎_elim, ℕ, zero, suc, ◌+◌, ◌<◌, ◌≤◌, List, [], ◌∷◌, ◌++◌, length, map, refl, sym, ap, subst, ◌∙◌, arith, Bool, true, false, true≢false, cond, Option, Some, None, length-append}
use Rattle.std.specs.Prelude.{◌==◌, ◌&&◌, not, slice_get, is_some, option_map, IsTrue}
use Rattle.std.specs.List.{AllByRecursion, list_any}
use Rattle.std.proofs.lemmas.List.{append_assoc, append-nil, length-map}
use Rattle.std.proofs.lemmas.Option.{slice_get_within}
use Rattle.model_members.specs.View.{is_member}
use Rattle.model_members.specs.DataType.{Replication}
use Rattle.model_members.specs.Message.{Message}
use Rattle.model_members.specs.Node.{Node, Input, Reply}
use Rattle.model_members.specs.World.{World, views_of, message_at}
use Rattle.model_members.specs.World.Event.{InputAt}
use Rattle.model_members.specs.Script.{Playing, Head, Answer, played, last_of}
use Rattle.model_members.specs.Step.{is_full}
use Rattle.theorem_sections.proofs.Givens.{given_to}
use Rattle.theorem_sections.specs.Sections.{Command, Client, Made, Section, step_of, pending_op, ending_of, has_room, running, world_of, goes_on, may_time_out, may_call_timeout, may_come, made_by, with_client, timed_out, timed_out_made, timed_out_op, heard, moved, client_line, gives_up}
use Rattle.theorem_sections.specs.Sections.Move.{NextCommand, NextMessage, ItsTimeout}
use Rattle.theorem_sections.specs.Histories.{Entry, Placed, Passed, posted_to, entries_at, RiseAbove, replayed, AreHistories, IsFromClients}
use Rattle.theorem_sections.specs.Paths.{ClientStep, until, IsInputOf, head_of, IsTake, IsReplied}
use Rattle.theorem_sections.proofs.NextDue.{same_or_not}
use Rattle.theorem_sections.proofs.RunOrder.{all-append, is_same, is_other, entries_here, messages_on, its_steps, entries-append, posted-append}
use Rattle.theorem_sections.proofs.Untils.{until_all, until-append, rise_before}
use Rattle.theorem_sections.proofs.Moves.{command_plays, takes_nothing, Keeping}
use Rattle.theorem_sections.proofs.Along.{Along, base, PlaysEntry, input_plays, take_plays, there, its_line}
use Rattle.theorem_sections.proofs.Heard.{Late, IsMadeBy, is_not}
use Rattle.theorem_sections.proofs.GivesUp.{late_first}
use Rattle.theorem_sections.proofs.Positions.{takes, is_own, own, Stands, Left, Answers, answers_by, IsDue, Position, TellsLine, AllTold, told_more, ClientAt, client_after, IsNew, after_entry}
use Rattle.theorem_sections.proofs.Positions.Answers.{ByEntry, ByNone}
use Rattle.theorem_sections.proofs.Positions.Position.{Ready, Due}
use Rattle.theorem_sections.proofs.Ends.{State, Ends, ends_more, put_client, may_next, command_moves, Stops, ahead, get_within, all_by_get, lines_of, no_more}
use Rattle.theorem_operations.proofs.Lists.{both_true}

module _ {Kind Op Shown : Type 0} (D : Replication Kind Op Shown) (world : World Kind Op Shown) (histories : ℕ → List (Entry Op Shown)) (placed : List (Placed Op Shown)) (keeping : Keeping Op) (all : AreHistories D world histories)
    (runs_in : (i : ℕ) (n : Node Kind Op Shown) → world.nodes i ≡ Some n → IsTrue (is_member world.view i)) (paths : List (List (ClientStep Op Shown))) where
  abbrev Goes : Section Kind Op Shown → List (Placed Op Shown) → List (Placed Op Shown) → Type 0
  Goes s done rest = State D world histories placed keeping all runs_in paths s done rest

  abbrev Ended : Section Kind Op Shown → Type 0
  Ended s = Ends D world histories placed keeping all runs_in paths s

  abbrev Lefts : ℕ → ℕ → List (Placed Op Shown) → List (Command Op) → List (ClientStep Op Shown) → Type 0
  Lefts c u entries commands steps = Left D world histories placed keeping all runs_in c u entries commands steps

  -- THE END

  abbrev Finished : Section Kind Op Shown → ℕ → Type 0
  Finished s d = (client : Client Op Shown) → slice_get s.clients d ≡ Some client → client.to_come ≡ []

  module _ (s : Section Kind Op Shown) (done : List (Placed Op Shown)) (state : Goes s done []) where
    node_last : (i : ℕ) → (world_of s).nodes i ≡ option_map (λ before. replayed D before (histories i)) (world.nodes i)
    node_last i = state.along.nodes i ∙ by (world.nodes i) refl
      where
        by : (o : Option (Node Kind Op Shown)) → world.nodes i ≡ o → option_map (λ b. replayed D b (entries_at i done)) o ≡ option_map (λ b. replayed D b (histories i)) o
        by None is = refl
        by (Some b) is = ap (λ es. Some (replayed D b es)) (sym (append-nil (entries_at i done)) ∙ state.along.whole i (runs_in i b is))

    line_is : (c : ℕ) (m : Made Op Shown) (step : ClientStep Op Shown) → TellsLine D world histories placed keeping all runs_in c m step → client_line (world_of s) c m ≡ step.line
    line_is c m step t =
        let e : ending_of ((world_of s).nodes m.at) (pending_op m.line.answer) ≡ step.line.ended = ap (λ o. ending_of o (pending_op m.line.answer)) (node_last m.at) ∙ sym t.ended in
        ap (λ x. record { client = x; head = m.line.head; answer = m.line.answer; posts = m.line.posts; ended = ending_of ((world_of s).nodes m.at) (pending_op m.line.answer) }) (sym t.client)
        ∙ ap (λ x. record { client = step.line.client; head = x; answer = m.line.answer; posts = m.line.posts; ended = ending_of ((world_of s).nodes m.at) (pending_op m.line.answer) }) (sym t.head)
        ∙ ap (λ x. record { client = step.line.client; head = step.line.head; answer = x; posts = m.line.posts; ended = ending_of ((world_of s).nodes m.at) (pending_op m.line.answer) }) (sym t.answer)
        ∙ ap (λ x. record { client = step.line.client; head = step.line.head; answer = step.line.answer; posts = x; ended = ending_of ((world_of s).nodes m.at) (pending_op m.line.answer) }) (sym t.posts)
        ∙ ap (λ x. record { client = step.line.client; head = step.line.head; answer = step.line.answer; posts = step.line.posts; ended = x }) e

    told_lines : (c : ℕ) (ms : List (Made Op Shown)) (steps : List (ClientStep Op Shown)) → AllTold D world histories placed keeping all runs_in c ms steps → map (client_line (world_of s) c) ms ≡ map (λ (step : ClientStep Op Shown). step.line) steps
    told_lines c [] [] t = refl
    told_lines c [] (step ∷ steps) t = absurd t
    told_lines c (m ∷ ms) [] t = absurd t
    told_lines c (m ∷ ms) (step ∷ steps) t = ap (λ l. l ∷ map (client_line (world_of s) c) ms) (line_is c m step t.0) ∙ ap (λ ls. step.line ∷ ls) (told_lines c ms steps t.1)

    none_left : (c u : ℕ) (commands : List (Command Op)) (steps : List (ClientStep Op Shown)) → commands ≡ [] → Lefts c u [] commands steps → steps ≡ []
    none_left c u [] [] e left = refl
    none_left c u [] (step ∷ steps) e left = absurd left
    none_left c u (command ∷ commands) steps e left = absurd (cc e)

    past_is : (c : ℕ) (client : Client Op Shown) (steps : List (ClientStep Op Shown)) (left : List (ClientStep Op Shown)) → client.to_come ≡ [] → Position D world histories placed keeping all runs_in c client [] left → left ≡ []
    past_is c client steps left e (Ready u goes l) = none_left c u client.to_come left e l
    past_is c client steps left e (Due d) = absurd (let f = d.first in cc f)

    goes_last : (c : ℕ) (client : Client Op Shown) (left : List (ClientStep Op Shown)) → Position D world histories placed keeping all runs_in c client [] left → goes_on D s (last_of client.made) ≡ true
    goes_last c client left (Ready u goes l) = goes s done [] state.along tt
    goes_last c client left (Due d) = absurd (let f = d.first in cc f)

    finish : ((d : ℕ) → Finished s d) → Ended s
    finish finished =
        record {
          moves = [];
          lawful = refl;
          over = all_by_get (λ (client : Client Op Shown). (length client.to_come == 0) && goes_on D s (last_of client.made)) s.clients
              (λ k client get.
              let within = slice_get_within s.clients k client get in
              let n = state.count in
              let path = get_within paths k (omega (arith, within, n)) in
              let at = state.each k path.0 path.1 in
              let same : at.0 ≡ client = cc (sym at.1 ∙ get) in
              both_true (length client.to_come == 0) (goes_on D s (last_of client.made)) (ap (λ cs. length cs == 0) (finished k client get))
              (ap (λ (x : Client Op Shown). goes_on D s (last_of x.made)) (sym same) ∙ goes_last k at.0 at.2.left at.2.position));
          lines = lines_of (world_of s) 0 s.clients paths state.count
              (λ k client steps get path.
              let at = state.each k steps path in
              let same : at.0 ≡ client = cc (sym at.1 ∙ get) in
              let zero_k : 0 + k ≡ k = omega arith in
              let none = past_is k at.0 steps at.2.left (finished k at.0 at.1) at.2.position in
              ap (λ n. map (client_line (world_of s) n) client.made) zero_k ∙ ap (λ (x : Client Op Shown). map (client_line (world_of s) k) x.made) (sym same)
              ∙ told_lines k at.0.made at.2.past at.2.lines
              ∙ ap (map (λ (step : ClientStep Op Shown). step.line)) (sym (at.2.whole ∙ ap (λ l. at.2.past ++ l) none ∙ append-nil at.2.past)));
          keepers = state.along.keepers;
          events = sym (append-nil s.playing.events) ∙ state.along.events;
          comes = state.along.far;
        }

  -- the commands without an entry that are still to come, client by client
  loop : (k m : ℕ) (s : Section Kind Op Shown) (done : List (Placed Op Shown)) → m + k ≡ length paths → Goes s done [] → ((d : ℕ) → d < m → Finished s d) → Ended s
  loop zero m s done n state finished =
      finish s done state (λ d client get. let within = slice_get_within s.clients d client get in let l = state.count in finished d (omega (arith, n, within, l)) client get)
  loop (suc k) m s done n state finished =
      let path = get_within paths m (omega (arith, n)) in
      let at = state.each m path.0 path.1 in
      by path.0 path.1 at.0 at.1 at.2 at.2.position (λ s' state' finished'. loop k (suc m) s' done (omega (arith, n)) state' finished')
    where
      by : (steps : List (ClientStep Op Shown)) → slice_get paths m ≡ Some steps → (client : Client Op Shown) → slice_get s.clients m ≡ Some client → (at : ClientAt D world histories placed keeping all runs_in m client [] steps)
          → Position D world histories placed keeping all runs_in m client [] at.left → ((s' : Section Kind Op Shown) → Goes s' done [] → ((d : ℕ) → d < suc m → (client : Client Op Shown) → slice_get s'.clients d ≡ Some client → client.to_come ≡ []) → Ended s') → Ended s
      by steps path client get at (Due d) next = absurd (let f = d.first in cc f)
      by steps path client get at (Ready u goes left) next =
          ahead D world histories placed keeping all runs_in paths m s done [] steps path (λ u commands steps l. tt)
          (λ s' r. next s' r.state (λ d h client' get'. ⊎_elim
          (λ (is : d ≡ m). (let same : r.client ≡ client' = cc (sym r.get ∙ ap (slice_get s'.clients) (sym is) ∙ get') in ap (λ (x : Client Op Shown). x.to_come) (sym same) ∙ r.to_come))
          (λ isnt. finished d (omega (arith, h, isnt)) client' (sym (r.others d isnt) ∙ get'))
          (same_or_not d m)))
          (λ s' st. absurd (let stands = subst (λ o. Stands D world histories placed keeping all runs_in st.command.at o [] st.left.2) st.enters st.left.4 in let f = stands.1 in cc f))
          at.left client.to_come s state (λ d isnt. refl) client get refl at.past at.whole at.lines u goes left

  -- AN ENTRY

  and_false : (a : Bool) → (a && false) ≡ false
  and_false true = refl
  and_false false = refl

  own_not : (d : ℕ) (x : Placed Op Shown) (rest : List (Placed Op Shown)) → is_own d x ≡ false → own d (x ∷ rest) ≡ own d rest
  own_not d x rest e = ap (λ b. cond b (x ∷ own d rest) (own d rest)) e

  own_is : (d : ℕ) (x : Placed Op Shown) (rest : List (Placed Op Shown)) → is_own d x ≡ true → own d (x ∷ rest) ≡ x ∷ own d rest
  own_is d x rest e = ap (λ b. cond b (x ∷ own d rest) (own d rest)) e

  not_own : (d : ℕ) (x : Placed Op Shown) → takes x.entry.input ≡ true → is_own d x ≡ false
  not_own d x e = ap (λ b. (x.entry.client == d) && not b) e ∙ and_false (x.entry.client == d)

  -- the first own entry is later than where the client stands
  first_later : (c u : ℕ) (x : Placed Op Shown) (others : List (Placed Op Shown)) (commands : List (Command Op)) (steps : List (ClientStep Op Shown)) (entries : List (Placed Op Shown)) → entries ≡ x ∷ others → Lefts c u entries commands steps → u < x.entry.stamp
  first_later c u x others [] [] entries e left = absurd (let f = sym left ∙ e in cc f)
  first_later c u x others [] (step ∷ steps) entries e left = absurd left
  first_later c u x others (command ∷ commands) [] entries e left = absurd left
  first_later c u x others (command ∷ commands) (step ∷ steps) entries e left = by (answers_by D world histories placed keeping all runs_in c command step step.line.answer refl left.1.answered) (λ f. first_later c step.upto x others commands steps left.3 f left.6)
    where
      by : Answers D world histories placed keeping all runs_in c command step → (left.3 ≡ x ∷ others → step.upto < x.entry.stamp) → u < x.entry.stamp
      by (ByEntry reply answered r) later =
          let stands = subst (λ o. Stands D world histories placed keeping all runs_in command.at o entries left.2) r.at left.4 in
          let same : stands.0 ≡ x = cc (sym stands.1 ∙ e) in
          let same_e : r.entry ≡ stands.0.entry = cc (sym r.made.stands ∙ stands.3) in
          let a = r.later in
          let b : r.entry.stamp ≡ x.entry.stamp = ap (λ (f : Entry Op Shown). f.stamp) same_e ∙ ap (λ (y : Placed Op Shown). y.entry.stamp) same in
          let d = left.0 in
          omega (arith, a, b, d)
      by (ByNone none posts waits answered) later =
          let entries_same : entries ≡ left.2 = subst (λ o. Stands D world histories placed keeping all runs_in command.at o entries left.2) none left.4 in
          let mid_same : left.2 ≡ left.3 = no_more D world histories placed keeping all runs_in paths c command step left.2 left.3 step.timeout (pending_op step.line.answer) waits left.1.timed_out left.5 in
          let a = later (sym mid_same ∙ sym entries_same ∙ e) in
          let b = left.1.forward in
          let d = left.0 in
          omega (arith, a, b, d)

  module _ (s : Section Kind Op Shown) (done : List (Placed Op Shown)) (x : Placed Op Shown) (rest : List (Placed Op Shown)) (state : Goes s done (x ∷ rest)) (next : (s' : Section Kind Op Shown) → Goes s' (done ++ x ∷ []) rest → Ended s') where
    -- A MESSAGE

    take_ends : (from : ℕ) (message : Message Op) → x.entry.input ≡ Input.Take from message → Ended s
    take_ends from message is =
        let given : IsTrue (is_member world.view from) = subst (IsFromClients world.view (views_of world)) is state.along.going.given.0 in
        let plays = take_plays D world histories placed keeping s.playing s.due done x rest state.along from message is given in
        let its = its_steps D world.view (views_of world) (world_of s) s.due x rest state.along.going in
        let same_view = state.along.going.same_view in
        let a = list_any (λ i. i == from) (running (world_of s)) in
        let b = list_any (λ i. i == x.at) (running (world_of s)) in
        let m = is_some (message_at (world_of s) from x.at (s.due from x.at)) in
        let room = has_room D ((world_of s).nodes x.at) in
        let may : (((a && b) && m) && room) ≡ true =
        both_true ((a && b) && m) room
        (both_true (a && b) m
        (both_true a b (subst (λ v. IsTrue (is_member v from)) (sym same_view) given) (subst (λ v. IsTrue (is_member v x.at)) (sym same_view) state.along.going.members.0))
        (ap is_some (there D world histories placed keeping s.playing s.due done x rest state.along from message is given)))
        (ap (has_room D) its.1 ∙ is_not (is_full D its.0) its.2.0) in
        ends_more D world histories placed keeping all runs_in paths s (heard D s from x.at) (NextMessage from x.at) may refl
        (next (heard D s from x.at)
        (record {
          along = plays.after;
          count = state.count;
          each = λ d steps path. let at = state.each d steps path in (at.0, at.1, subst (λ es. ClientAt D world histories placed keeping all runs_in d at.0 es steps) (own_not d x rest (not_own d x (ap takes is))) at.2);
        }))

    -- A CLIENT'S OWN

    module _ (not_take : takes x.entry.input ≡ false) where
      abbrev c : ℕ
      c = x.entry.client

      own_first : own c (x ∷ rest) ≡ x ∷ own c rest
      own_first = own_is c x rest (both_true (c == c) (not (takes x.entry.input)) (is_same c c refl) (is_not (takes x.entry.input) not_take))

      own_others : (d : ℕ) → d ≢ c → own d (x ∷ rest) ≡ own d rest
      own_others d isnt = own_not d x rest (ap (λ b. b && not (takes x.entry.input)) (is_other c d (λ e. isnt (sym e))))

      no_take : IsTake x.entry.input → ⊥
      no_take = by x.entry.input not_take
        where
          by : (input : Input Op) → takes input ≡ false → IsTake input → ⊥
          by (Input.Take from message) e t = cc e
          by input e t = t

      late_here : (u : ℕ) (commands : List (Command Op)) (steps : List (ClientStep Op Shown)) → Lefts c u (own c (x ∷ rest)) commands steps → Late u (x ∷ rest)
      late_here u commands steps left = late_first D world histories placed keeping all runs_in s done x rest state.along u (first_later c u x (own c rest) commands steps (own c (x ∷ rest)) own_first left)

      -- THE TIMEOUT

      timeout_ends : (steps : List (ClientStep Op Shown)) → slice_get paths c ≡ Some steps → (client : Client Op Shown) → slice_get s.clients c ≡ Some client → (at : ClientAt D world histories placed keeping all runs_in c client (own c (x ∷ rest)) steps)
          → IsDue D world histories placed keeping all runs_in c client (own c (x ∷ rest)) at.left → Ended s
      timeout_ends steps path client get at d =
          let firsts : x ∷ own c rest ≡ d.timeout ∷ d.others = sym own_first ∙ d.first in
          let is_x : x ≡ d.timeout = cc firsts in
          let is_rest : own c rest ≡ d.others = cc firsts in
          let input : x.entry.input ≡ Input.Timeout d.op = ap (λ (y : Placed Op Shown). y.entry.input) is_x ∙ d.gives in
          let place : x.at ≡ d.last.at = ap (λ (y : Placed Op Shown). y.at) is_x ∙ sym d.at in
          let plays0 = input_plays D world histories placed keeping s.playing s.due done x rest state.along (Input.Timeout d.op) input (takes_nothing (Input.Timeout d.op) (λ t. t)) (Head.TimeoutHead d.last.at d.op) in
          let q = given_to D s.playing (Head.TimeoutHead d.last.at d.op) (InputAt d.last.at (Input.Timeout d.op)) d.last.at (Input.Timeout d.op) ((world_of s).nodes d.last.at) in
          let plays : PlaysEntry D world histories placed keeping s.playing s.due done x rest state.along (Head.TimeoutHead d.last.at d.op) q s.due =
          subst (λ i. PlaysEntry D world histories placed keeping s.playing s.due done x rest state.along (Head.TimeoutHead d.last.at d.op) (given_to D s.playing (Head.TimeoutHead d.last.at d.op) (InputAt i (Input.Timeout d.op)) i (Input.Timeout d.op) ((world_of s).nodes i)) s.due) place plays0 in
          let client' : Client Op Shown = record client { timed_out = true } in
          let gives = d.gives_up s done rest (subst (λ (y : Placed Op Shown). Along D world histories placed keeping s.playing s.due done (y ∷ rest)) is_x state.along) in
          let may : may_come D s (ItsTimeout c) ≡ true =
          ap (may_call_timeout D s) get ∙ ap (may_time_out D s client) d.is_last
          ∙ both_true (not client.timed_out) (gives_up D s d.last (pending_op d.last.line.answer)) (is_not client.timed_out d.once) (ap (gives_up D s d.last) d.waits ∙ gives) in
          let moves : moved D s (ItsTimeout c) ≡ with_client s c client' q =
          ap (timed_out D s c) get ∙ ap (timed_out_made D s c client) d.is_last ∙ ap (timed_out_op D s c client d.last.at) d.waits in
          ends_more D world histories placed keeping all runs_in paths s (with_client s c client' q) (ItsTimeout c) may moves
          (next (with_client s c client' q)
          (put_client D world histories placed keeping all runs_in paths s c client client' q done (x ∷ rest) (done ++ x ∷ []) rest state get plays.after own_others
          (λ steps' path'. let same : steps' ≡ steps = cc (sym path' ∙ path) in
          record { past = at.past; left = at.left; whole = same ∙ at.whole; lines = at.lines; position = Ready d.upto d.goes (subst (λ es. Lefts c d.upto es client.to_come at.left) (sym is_rest) d.then_left) })))

      -- A COMMAND

      module _ (steps : List (ClientStep Op Shown)) (path : slice_get paths c ≡ Some steps) where
        stops_here : (st : Stops D world histories placed keeping all runs_in paths c s done (x ∷ rest) steps) → (reply : Reply Shown) → st.step.line.answer ≡ Answer.Replied reply → IsReplied D world histories c st.command st.step reply → Ended s
        stops_here st reply answered r =
            let command = st.command in
            let step = st.step in
            let left = st.left in
            let stands = subst (λ o. Stands D world histories placed keeping all runs_in command.at o (own c (x ∷ rest)) left.2) st.enters left.4 in
            let firsts : x ∷ own c rest ≡ stands.0 ∷ left.2 = sym own_first ∙ stands.1 in
            let is_x : x ≡ stands.0 = cc firsts in
            let is_rest : own c rest ≡ left.2 = cc firsts in
            let place : x.at ≡ command.at = ap (λ (y : Placed Op Shown). y.at) is_x ∙ stands.2 in
            let is_k : r.index ≡ st.k = cc (sym r.at ∙ st.enters) in
            let same : r.entry ≡ x.entry = cc (sym r.made.stands ∙ ap (slice_get (histories command.at)) is_k ∙ stands.3 ∙ ap (λ (y : Placed Op Shown). Some y.entry) (sym is_x)) in
            let input : x.entry.input ≡ r.input = ap (λ (e : Entry Op Shown). e.input) (sym same) ∙ r.made.asks in
            let tn = takes_nothing r.input (λ t. no_take (subst IsTake (sym input) t)) in
            let head = head_of command in
            let plays0 = input_plays D world histories placed keeping s.playing s.due done x rest st.state.along r.input input tn head in
            let q = given_to D s.playing head (InputAt command.at r.input) command.at r.input ((world_of s).nodes command.at) in
            let plays : PlaysEntry D world histories placed keeping s.playing s.due done x rest st.state.along head q s.due =
            subst (λ i. PlaysEntry D world histories placed keeping s.playing s.due done x rest st.state.along head (given_to D s.playing head (InputAt i r.input) i r.input ((world_of s).nodes i)) s.due) place plays0 in
            let is_running : is_some ((world_of s).nodes command.at) ≡ true = running_still st.state.along.nodes command.at r.runs in
            let plays_is : played D s.playing (step_of command) ≡ q = command_plays D s.playing command r.input (subst (λ vs. IsInputOf vs command r.input) (sym st.state.along.going.same_views) r.given) in
            let line = its_line D world histories placed keeping s.playing s.due done x rest st.state.along head in
            let m = made_by command q.world line in
            let mi : IsTrue (is_member world.view command.at) = subst (λ i. IsTrue (is_member world.view i)) place st.state.along.going.members.0 in
            let by : IsMadeBy D world histories placed keeping all runs_in m command.at x.entry =
            record { at = refl; posts = refl; sent = λ to. sent_is plays.after command.at place mi to } in
            let new : IsNew D world histories placed keeping all runs_in c st.client command st.commands step x m st.k command.at reply r.input = record { at = refl; answer = refl; by = by } in
            let position = after_entry D world histories placed keeping all runs_in c st.client command st.commands step x m st.k reply r left.1 answered same st.enters is_k new left.2 left.3 st.others left.5 left.6 in
            let client' = client_after st.client st.commands m in
            let tells : TellsLine D world histories placed keeping all runs_in c m step =
            record {
              client = left.1.told.0;
              head = left.1.told.1;
              answer = answered ∙ ap Answer.Replied (sym (ap (λ (e : Entry Op Shown). e.output.reply) (sym same) ∙ r.replied));
              posts = r.posts ∙ ap (λ (e : Entry Op Shown). e.output.posts) same;
              ended = left.1.ends ∙ ap (λ a. ending_of (option_map (λ before. replayed D before (histories command.at)) (world.nodes command.at)) (pending_op a)) (answered ∙ ap Answer.Replied (sym (ap (λ (e : Entry Op Shown). e.output.reply) (sym same) ∙ r.replied)));
            } in
            ends_more D world histories placed keeping all runs_in paths s (with_client s c client' q) (NextCommand c) (may_next D world histories placed keeping all runs_in paths s c st.client command st.commands st.get st.to_come (st.goes s done (x ∷ rest) st.state.along st.late))
            (command_moves D world histories placed keeping all runs_in paths s c st.client command st.commands q line st.get st.to_come plays_is plays.line)
            (next (with_client s c client' q)
            (put_client D world histories placed keeping all runs_in paths s c st.client client' q done (x ∷ rest) (done ++ x ∷ []) rest st.state st.get plays.after own_others
            (λ steps' path'. let same_steps : steps' ≡ steps = cc (sym path' ∙ path) in
            record {
              past = st.past ++ step ∷ [];
              left = st.others;
              whole = same_steps ∙ st.whole ∙ sym (append_assoc st.past (step ∷ []) st.others);
              lines = told_more D world histories placed keeping all runs_in c st.client.made st.past m step st.lines tells;
              position = subst (λ es. Position D world histories placed keeping all runs_in c client' es st.others) (sym is_rest) position;
            })))
          where
            running_still : ((i : ℕ) → (world_of s).nodes i ≡ option_map (λ b. replayed D b (entries_at i done)) (world.nodes i)) → (i : ℕ) → is_some (world.nodes i) ≡ true → is_some ((world_of s).nodes i) ≡ true
            running_still nodes i e = ap is_some (nodes i) ∙ by (world.nodes i) e
              where
                by : (o : Option (Node Kind Op Shown)) → is_some o ≡ true → is_some (option_map (λ b. replayed D b (entries_at i done)) o) ≡ true
                by None e = e
                by (Some b) e = refl

            sent_is : {p : Playing Kind Op Shown} → Along D world histories placed keeping p s.due (done ++ x ∷ []) rest → (i : ℕ) → x.at ≡ i → IsTrue (is_member world.view i) → (to : ℕ)
                → length (messages_on p.world.links i to) ≤ base D world histories placed keeping i to + length (posted_to to (until x.entry.stamp (histories i)))
            sent_is along i at mi to =
                let mine = entries_at i (done ++ x ∷ []) in
                let mine_is : mine ≡ entries_at i done ++ x.entry ∷ [] = entries-append i done (x ∷ []) ∙ ap (λ es. entries_at i done ++ es) (entries_here i x [] at) in
                let whole : histories i ≡ mine ++ entries_at i rest = sym (along.whole i mi) in
                let rises : RiseAbove 0 (entries_at i done ++ x.entry ∷ entries_at i rest) = subst (RiseAbove 0) (whole ∙ ap (λ es. es ++ entries_at i rest) mine_is ∙ append_assoc (entries_at i done) (x.entry ∷ []) (entries_at i rest)) (all.rise i) in
                let early : AllByRecursion (λ (e : Entry Op Shown). e.stamp ≤ x.entry.stamp) mine =
                (let P : List (Entry Op Shown) → Type 0 = AllByRecursion (λ (e : Entry Op Shown). e.stamp ≤ x.entry.stamp) in
                subst P (sym mine_is) (all-append (λ (e : Entry Op Shown). e.stamp ≤ x.entry.stamp) (entries_at i done) (x.entry ∷ []) (rise_before 0 (entries_at i done) (entries_at i rest) x.entry rises) (omega arith, tt))) in
                let until_is : until x.entry.stamp (histories i) ≡ mine ++ until x.entry.stamp (entries_at i rest) =
                ap (until x.entry.stamp) whole ∙ until-append x.entry.stamp mine (entries_at i rest) ∙ ap (λ es. es ++ until x.entry.stamp (entries_at i rest)) (until_all x.entry.stamp mine early) in
                let a = ap length (along.sent i to) ∙ length-append (messages_on world.links i to) (map (λ (n : Passed Op). n.message) (posted_to to mine)) in
                let b = length-map (posted_to to mine) (λ (n : Passed Op). n.message) in
                let d = ap (λ es. length (posted_to to es)) until_is ∙ ap length (posted-append to mine (until x.entry.stamp (entries_at i rest))) ∙ length-append (posted_to to mine) (posted_to to (until x.entry.stamp (entries_at i rest))) in
                omega (arith, a, b, d)

  command_ends : (s : Section Kind Op Shown) (done : List (Placed Op Shown)) (x : Placed Op Shown) (rest : List (Placed Op Shown)) (state : Goes s done (x ∷ rest)) → ((s' : Section Kind Op Shown) → Goes s' (done ++ x ∷ []) rest → Ended s') → (not_take : takes x.entry.input ≡ false)
      → (steps : List (ClientStep Op Shown)) → slice_get paths x.entry.client ≡ Some steps → (client : Client Op Shown) → slice_get s.clients x.entry.client ≡ Some client
      → (at : ClientAt D world histories placed keeping all runs_in x.entry.client client (own x.entry.client (x ∷ rest)) steps) → Position D world histories placed keeping all runs_in x.entry.client client (own x.entry.client (x ∷ rest)) at.left → Ended s
  command_ends s done x rest state next not_take steps path client get at (Due d) = timeout_ends s done x rest state next not_take steps path client get at d
  command_ends s done x rest state next not_take steps path client get at (Ready u goes left) =
      ahead D world histories placed keeping all runs_in paths x.entry.client s done (x ∷ rest) steps path (late_here s done x rest state next not_take)
      (λ s' r. absurd (let e = sym r.none ∙ own_first s done x rest state next not_take in cc e))
      (λ s' st. stop s' st (answers_by D world histories placed keeping all runs_in x.entry.client st.command st.step st.step.line.answer refl st.left.1.answered))
      at.left client.to_come s state (λ d isnt. refl) client get refl at.past at.whole at.lines u goes left
    where
      stop : (s' : Section Kind Op Shown) → (st : Stops D world histories placed keeping all runs_in paths x.entry.client s' done (x ∷ rest) steps) → Answers D world histories placed keeping all runs_in x.entry.client st.command st.step → Ended s'
      stop s' st (ByEntry reply answered r) = stops_here s' done x rest st.state next not_take steps path st reply answered r
      stop s' st (ByNone none posts waits answered) = absurd (let e = sym none ∙ st.enters in cc e)

  -- each entry takes a message, or is of a client
  abbrev pub IsKnown : Placed Op Shown → Type 0
  IsKnown y = (takes y.entry.input ≡ true) ⊎ (y.entry.client < length paths)

  pub all_end : (rest : List (Placed Op Shown)) (s : Section Kind Op Shown) (done : List (Placed Op Shown)) → AllByRecursion IsKnown rest → Goes s done rest → Ended s
  all_end [] s done known state = loop (length paths) 0 s done (omega arith) state (λ d h client get. absurd (omega (arith, h)))
  all_end (x ∷ rest) s done known state = by_input x.entry.input refl known.0 (λ s' st. all_end rest s' (done ++ x ∷ []) known.1 st)
    where
      by_own : takes x.entry.input ≡ false → (takes x.entry.input ≡ true) ⊎ (x.entry.client < length paths) → ((s' : Section Kind Op Shown) → Goes s' (done ++ x ∷ []) rest → Ended s') → Ended s
      by_own not_take (inl t) next = absurd (true≢false (sym t ∙ not_take))
      by_own not_take (inr h) next =
          let path = get_within paths x.entry.client h in
          let at = state.each x.entry.client path.0 path.1 in
          command_ends s done x rest state next not_take path.0 path.1 at.0 at.1 at.2 at.2.position

      by_input : (input : Input Op) → x.entry.input ≡ input → (takes x.entry.input ≡ true) ⊎ (x.entry.client < length paths) → ((s' : Section Kind Op Shown) → Goes s' (done ++ x ∷ []) rest → Ended s') → Ended s
      by_input (Input.Take from message) is known next = take_ends s done x rest state next from message is
      by_input input is known next = by_own (ap takes is) known next
