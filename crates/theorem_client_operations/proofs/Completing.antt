-- Each operation of a section's clients finishes, where no store fails and no running member is full.
--     Holds, holds_moves        what holds between moves: an operation has its result, or waits and is its client's last
--     all_finish        so at the end each has its result
use Rattle.std.proofs.Common.{◌≡◌, ◌≢◌, ◌⊎◌, inl, inr, ℕ, zero, suc, ◌+◌, ◌<◌, ◌≤◌, List, [], ◌∷◌, ◌++◌, length, map, refl, sym, ap, subst, ◌∙◌, arith, Bool, true, false, true≢false, Option, Some, None, append_assoc, length-append}
use Rattle.std.specs.Prelude.{◌==◌, ◌&&◌, ◌||◌, not, nat_le, if◌then◌else◌, slice_get, slice_set, find, is_some, option_map}
use Rattle.std.specs.List.{AllByRecursion, list_any}
use Rattle.std.proofs.lemmas.Bool.{eq-eqb}
use Rattle.std.proofs.lemmas.Bool.Decides.{eqb_tells}
use Rattle.model_history.specs.Table.{with_at}
use Rattle.model_history.specs.Vector.{alone}
use Rattle.model_history.proofs.HistoryLaws.{slice_get-below}
use Rattle.model_history.proofs.PruneLaws.{IsIn, in_tail}
use Rattle.model_members.specs.View.{View, is_member, identities_of, others}
use Rattle.model_members.specs.DataType.{Replication}
use Rattle.model_members.specs.Message.{Message, Post}
use Rattle.model_members.specs.Node.{KeyDecl, Node, OpenOperation, Finished, Input, Fate, Reply}
use Rattle.model_members.specs.Node.Fate.{NoStore}
use Rattle.model_members.specs.Node.Input.{Take}
use Rattle.model_members.specs.Step.{step, is_full, to_others, member_count}
use Rattle.model_members.specs.World.{World, Link, Event, Turn, IsRun, AreLawful, IsLawful, start, run, happens, turn_of, output_of, step_in, message_at, with_posts, views_of}
use Rattle.model_members.specs.World.Event.{InputAt, Delivery}
use Rattle.model_members.specs.Script.{Ask, Playing, ScriptStep, Told, Head, Answer, played, given, told, take_turn, asked_by, input_of, output_lines, deliver, last_of}
use Rattle.model_members.specs.Script.Head.{Asked, TimeoutHead, DeliverHead}
use Rattle.model_members.specs.Script.Answer.{Replied, Gone, HistoryFull, NoSuchView}
use Rattle.model_members.proofs.Cases.{stepped_at}
use Rattle.theorem_runs.proofs.Keeping.{if_tells}
use Rattle.theorem_operations.specs.Finishing.{HasNotFailed, ClosesOther, DisturbsNothing}
use Rattle.theorem_operations.specs.Quorum.{KeepsMembers}
use Rattle.theorem_operations.proofs.Lists.{to_filter, to_map, in_end, any_in, any_more, first_true, second_true, all_first, all_last}
use Rattle.theorem_operations.proofs.Moments.{Stands as InRun, stands_start, stands_run, safe_at}
use Rattle.theorem_operations.proofs.Calm.{IsCalm, calm_next, input_makes}
use Rattle.theorem_operations.proofs.Opening.{Opening, opening_tells, alone_is_one, found_at}
use Rattle.theorem_operations.proofs.PlayedInputs.{turn_by, input_turn, turn_taken, given_by, deliver_by}
use Rattle.theorem_operations.proofs.Rounds.{Later, input_later, delivery_later}
use Rattle.theorem_operations.proofs.Waiting.{Waits}
use Rattle.theorem_sections.specs.Sections.{Command, Client, Made, Section, Move, Ending, step_of, pending_op, world_of, opened, new_client, made_by, after_command, with_client, commanded, commanded_by, heard, timed_out, timed_out_made, timed_out_op, moved, moved_all, may_come, may_command, may_hear, may_time_out, may_call_timeout, may_all_come, goes_on, gives_up, has_ended, has_room, is_open, node_full, some_full, are_posts_heard, are_answers_heard, running, is_over, IsSection, client_line, ending_of, ending_by, finished_at}
use Rattle.theorem_sections.specs.Sections.Move.{NextCommand, NextMessage, ItsTimeout}
use Rattle.theorem_sections.proofs.Exploring.{some_of}
use Rattle.theorem_sections.proofs.Givens.{given_to, line_for}
use Rattle.theorem_sections.proofs.NextDue.{same_or_not, table_here, table_else}
use Rattle.theorem_sections.proofs.Positions.{set_here, set_else, pending_reply}
use Rattle.theorem_sections.proofs.Sectioned.{Runs, moved_runs}
use Rattle.theorem_client_operations.specs.Completing.{StoreHolds, IsUndisturbed, AllFinish}
use Rattle.theorem_client_operations.proofs.AtHand.{posts_come, DueAfter, Stage, IsAtHand, HasResult, StillWaiting, result_next, waiting_next, has_when_closed, result_when_heard, all_at}
use Rattle.theorem_client_operations.proofs.AtHand.DueAfter.{RestsThere, GoesThere}
use Rattle.theorem_client_operations.proofs.AtHand.Stage.{IsStillOpen}
use Rattle.theorem_client_operations.proofs.AtHand.IsAtHand.{IsCounted, QuestionDue}
use Rattle.theorem_client_operations.proofs.Commanding.{at_index, pushed_at, get_below, last_at, either, not_true, goes_moves}
use Rattle.theorem_client_operations.proofs.Endings.{NodeThen, node_then}
use Rattle.theorem_client_operations.proofs.Endings.NodeThen.{IsTheSame, HasStepped}
use Rattle.theorem_client_operations.proofs.Onward.{Goes, each_move, lawful_on, moved_view, moved_appends, all_view, all_appends}

-- LISTS

find_there : {Shown : Type 0} (op : ℕ) (fs : List (Finished Shown)) (f : Finished Shown) → IsIn fs f → f.op ≡ op → (g : Finished Shown) × (find (λ (x : Finished Shown). x.op == op) fs ≡ Some g)
find_there op [] f h is = absurd (cc h.1)
find_there {Shown} op (g ∷ fs) f h is = by (g.op == op) refl (λ k e. find_there op fs f (k, e) is) h
  where
    by : (b : Bool) → (g.op == op) ≡ b → ((k : ℕ) → slice_get fs k ≡ Some f → (x : Finished Shown) × (find (λ (x : Finished Shown). x.op == op) fs ≡ Some x)) → IsIn (g ∷ fs) f
        → (x : Finished Shown) × ((if b then Some g else find (λ (x : Finished Shown). x.op == op) fs) ≡ Some x)
    by true e further h = (g, refl)
    by false e further (zero, here) = absurd (let same : g ≡ f = cc here in let t : (g.op == op) ≡ true = eq-eqb g.op op (ap (λ (x : Finished Shown). x.op) same ∙ is) in true≢false (sym t ∙ e))
    by false e further (suc k, there) = further k there

-- the last one has a place
last_there : {X : Type 0} (xs : List X) (x : X) → last_of xs ≡ Some x → (k : ℕ) × (slice_get xs k ≡ Some x)
last_there [] x e = absurd (cc e)
last_there (y ∷ []) x e = (zero, e)
last_there (y ∷ z ∷ xs) x e = let h = last_there (z ∷ xs) x e in (suc h.0, h.1)

new_made : {Op Shown : Type 0} (clients : List (List (Command Op))) (c : ℕ) (client : Client Op Shown) → slice_get (map (new_client {Op = Op} {Shown = Shown}) clients) c ≡ Some client → client.made ≡ []
new_made [] c client e = absurd (cc e)
new_made {Op} {Shown} (commands ∷ clients) zero client e = let same : new_client commands ≡ client = cc e in ap (λ (x : Client Op Shown). x.made) (sym same)
new_made (commands ∷ clients) (suc c) client e = new_made clients c client e

in_others : (view : View) (i t : ℕ) → is_member view t ≡ true → t ≢ i → IsIn (others view i) t
in_others view i t m other = to_filter (λ j. not (j == i)) (identities_of view) t (found_at (identities_of view) t m) (elim (eqb_tells t i) [ inl is ↦ absurd (other is.1) | inr isnt ↦ ap not isnt.0 ])

module _ {Kind Op Shown : Type 0} (D : Replication Kind Op Shown) where
  -- FULL MEMBERS STAY FULL

  full_next : (world : World Kind Op Shown) (event : Event Op) → IsLawful D world event → KeepsMembers event → (i : ℕ) (o : Option (Node Kind Op Shown)) → world.nodes i ≡ o → node_full D o ≡ true → node_full D ((happens D world event).nodes i) ≡ true
  full_next world event lawful keeps i None is full = absurd (cc full)
  full_next world event lawful keeps i (Some n) is full = by (node_then D world event lawful keeps i n is)
    where
      by : NodeThen D world (happens D world event) event i n → node_full D ((happens D world event).nodes i) ≡ true
      by (IsTheSame there) = ap (node_full D) there ∙ full
      by (HasStepped input fate room makes there) = absurd (true≢false (sym full ∙ room))

  full_run : (world : World Kind Op Shown) (events : List (Event Op)) → AreLawful D world events → AllByRecursion KeepsMembers events → (i : ℕ) → node_full D (world.nodes i) ≡ true → node_full D ((run D world events).nodes i) ≡ true
  full_run world [] lawful keeps i full = full
  full_run world (event ∷ events) lawful keeps i full = full_run (happens D world event) events lawful.1 keeps.1 i (full_next world event lawful.0 keeps.0 i (world.nodes i) refl full)

  full_on : (p q : Playing Kind Op Shown) → Goes D p q → q.world.view ≡ p.world.view → some_full D p.world ≡ true → some_full D q.world ≡ true
  full_on p q goes view full =
      ap (λ (v : View). list_any (λ i. node_full D (q.world.nodes i)) (identities_of v)) view
      ∙ any_more (λ i. node_full D (p.world.nodes i)) (λ i. node_full D (q.world.nodes i)) (λ i f. subst (λ (w : World Kind Op Shown). node_full D (w.nodes i) ≡ true) goes.leads (full_run p.world goes.events goes.lawful goes.keeps i f)) (identities_of p.world.view) full

  -- WHAT A COMMAND DOES

  closes_none : (i op at : ℕ) (views : List View) (ask : Ask Op) (input : Input Op) → input_of views ask ≡ Some input → ClosesOther i op at input
  closes_none i op at views (Ask.Update key x level) input e = let is : Input.Update key x level ≡ input = cc e in subst (λ (y : Input Op). ClosesOther i op at y) is tt
  closes_none i op at views (Ask.Get key level) input e = let is : Input.Get key level ≡ input = cc e in subst (λ (y : Input Op). ClosesOther i op at y) is tt
  closes_none i op at views Ask.Flush input e = let is : Input.Flush ≡ input = cc e in subst (λ (y : Input Op). ClosesOther i op at y) is tt
  closes_none i op at views (Ask.Gossip to) input e = let is : Input.GossipTo to ≡ input = cc e in subst (λ (y : Input Op). ClosesOther i op at y) is tt
  closes_none i op at views Ask.Tick input e = let is : Input.PruneTick ≡ input = cc e in subst (λ (y : Input Op). ClosesOther i op at y) is tt
  closes_none i op at views (Ask.Install number) input e = by (slice_get views number) e
    where
      by : (o : Option View) → option_map Input.Install o ≡ Some input → ClosesOther i op at input
      by None f = absurd (cc f)
      by (Some view) f = let is : Input.Install view ≡ input = cc f in subst (λ (y : Input Op). ClosesOther i op at y) is tt

  -- a line that opens nothing, or a step of the member
  data CommandMakes (p : Playing Kind Op Shown) (command : Command Op) (q : Playing Kind Op Shown) : Type 0 where
    MakesNothing : (line : Told Op Shown) → q.lines ≡ line ∷ [] → pending_op line.answer ≡ None → q.world ≡ p.world → q.events ≡ p.events → CommandMakes p command q
    MakesAStep : (input : Input Op) (node : Node Kind Op Shown) (fate : Fate) → p.world.nodes command.at ≡ Some node → ((i op : ℕ) → ClosesOther i op command.at input)
        → q.lines ≡ line_for D (Asked command.at command.ask) (step D node input fate) ∷ [] → q.world ≡ happens D p.world (InputAt command.at input fate) → q.events ≡ p.events ++ InputAt command.at input fate ∷ [] → CommandMakes p command q

  module _ (p : Playing Kind Op Shown) (command : Command Op) (silent : p.lines ≡ []) where
    abbrev its_head : Head Op
    its_head = Asked command.at command.ask

    makes_nothing : (answer : Answer Shown) → pending_op answer ≡ None → CommandMakes p command (told p its_head answer)
    makes_nothing answer none = MakesNothing (record { head = its_head; answer = answer; posts = []; ended = None }) (ap (λ ls. ls ++ record { head = its_head; answer = answer; posts = []; ended = None } ∷ []) silent) none refl refl

    makes_a_step : (input : Input Op) → ((i op : ℕ) → ClosesOther i op command.at input) → (node : Node Kind Op Shown) → p.world.nodes command.at ≡ Some node → CommandMakes p command (take_turn D p its_head (InputAt command.at input) (turn_by command.at node input NoStore))
    makes_a_step input closes node runs =
        let t = turn_taken D p its_head (InputAt command.at input) (turn_by command.at node input NoStore) in
        let put : output_of D p.world (InputAt command.at input t.fate) ≡ Some (step D node input t.fate).output = ap (option_map (λ (turn : Turn Kind Op Shown). (step_in D turn).output)) (input_turn p.world command.at node input t.fate runs) in
        MakesAStep input node t.fate runs closes
        (t.lines ∙ ap (λ ls. ls ++ output_lines D its_head (output_of D p.world (InputAt command.at input t.fate))) silent ∙ ap (output_lines D its_head) put) t.world t.events

    makes_given : (input : Input Op) → ((i op : ℕ) → ClosesOther i op command.at input) → (o : Option (Node Kind Op Shown)) → p.world.nodes command.at ≡ o → CommandMakes p command (given_to D p its_head (InputAt command.at input) command.at input o)
    makes_given input closes None is = makes_nothing Gone refl
    makes_given input closes (Some node) is =
        if_tells (CommandMakes p command) (is_full D node) (told p its_head HistoryFull) (take_turn D p its_head (InputAt command.at input) (turn_by command.at node input NoStore)) (λ full. makes_nothing HistoryFull refl) (λ room. makes_a_step input closes node is)

    command_makes : CommandMakes p command (played D p (step_of command))
    command_makes = by (input_of (views_of p.world) command.ask) refl
      where
        no_op : (b : Bool) → pending_op {Shown = Shown} (if b then NoSuchView else Gone) ≡ None
        no_op true = refl
        no_op false = refl

        by : (o : Option (Input Op)) → input_of (views_of p.world) command.ask ≡ o → CommandMakes p command (asked_by D p command.at command.ask o)
        by None is = makes_nothing (if is_some (p.world.nodes command.at) then NoSuchView else Gone) (no_op (is_some (p.world.nodes command.at)))
        by (Some input) is = makes_given input (λ i op. closes_none i op command.at (views_of p.world) command.ask input is) (p.world.nodes command.at) refl

  module _ (members : ℕ) (keys : List (KeyDecl Kind)) (V : View) where
    -- BETWEEN MOVES

    -- an operation has its result, or waits and is the last
    abbrev Stands : World Kind Op Shown → (ℕ → ℕ → ℕ) → List (Made Op Shown) → Type 0
    Stands world due made = (k : ℕ) (m : Made Op Shown) → slice_get made k ≡ Some m → (op : ℕ) → pending_op m.line.answer ≡ Some op
        → HasResult D m.at op world ⊎ (StillWaiting D m.at op members keys V world due m.sent m.line.posts × (length made ≤ suc k))

    abbrev HaveResults : World Kind Op Shown → List (Made Op Shown) → Type 0
    HaveResults world made = (k : ℕ) (m : Made Op Shown) → slice_get made k ≡ Some m → (op : ℕ) → pending_op m.line.answer ≡ Some op → HasResult D m.at op world

    record Holds (s : Section Kind Op Shown) : Type 0 where
      runs : Runs D members keys s.playing
      silent : s.playing.lines ≡ []
      calm : IsCalm D members keys V (world_of s)
      fits : (f u : ℕ) → s.due f u ≤ length ((world_of s).links f u).messages
      stands : (c : ℕ) (client : Client Op Shown) → slice_get s.clients c ≡ Some client → Stands (world_of s) s.due client.made

    module _ (s : Section Kind Op Shown) (holds : Holds s) (room : some_full D (world_of s) ≡ false) where
      not_full : (i : ℕ) → is_member V i ≡ true → node_full D ((world_of s).nodes i) ≡ false
      not_full i member = by (node_full D ((world_of s).nodes i)) refl
        where
          by : (b : Bool) → node_full D ((world_of s).nodes i) ≡ b → b ≡ false
          by false e = refl
          by true e =
              let there : IsIn (running (world_of s)) i = found_at (running (world_of s)) i (ap (λ (v : View). is_member v i) holds.calm.view ∙ member) in
              absurd (true≢false (sym (any_in (λ j. node_full D ((world_of s).nodes j)) (running (world_of s)) i there e) ∙ room))

      -- whoever goes on has the results of all that it made
      have_results : (made : List (Made Op Shown)) → Stands (world_of s) s.due made → goes_on D s (last_of made) ≡ true → HaveResults (world_of s) made
      have_results made stands goes k m there op waits = elim (stands k m there op waits) [
        | inl has ↦ has
        | inr (waiting, last) ↦ closed waiting (last_at made k m there last)
      ]
        where
          closed : StillWaiting D m.at op members keys V (world_of s) s.due m.sent m.line.posts → last_of made ≡ Some m → HasResult D m.at op (world_of s)
          closed waiting is =
              let on : goes_on D s (Some m) ≡ true = subst (λ o. goes_on D s o ≡ true) is goes in
              let ended : has_ended D (world_of s) m (Some op) ≡ true = subst (λ o. has_ended D (world_of s) m o ≡ true) waits (second_true _ (has_ended D (world_of s) m (pending_op m.line.answer)) on) in
              has_when_closed D m.at op members keys V (world_of s) holds.calm s.due m.sent m.line.posts waiting
              (elim (either (not (is_open op ((world_of s).nodes m.at))) (node_full D ((world_of s).nodes m.at)) ended) [
                | inl shut ↦ not_true (is_open op ((world_of s).nodes m.at)) shut
                | inr full ↦ absurd (true≢false (sym full ∙ not_full m.at waiting.i_member))
              ])

      -- whoever gives up has its result
      result_at_last : (made : List (Made Op Shown)) → Stands (world_of s) s.due made → (m : Made Op Shown) → last_of made ≡ Some m → (op : ℕ) → pending_op m.line.answer ≡ Some op → gives_up D s m (Some op) ≡ true → HasResult D m.at op (world_of s)
      result_at_last made stands m last op waits gives = let place = last_there made m last in by (stands place.0 m place.1 op waits)
        where
          its_open : Bool
          its_open = is_open op ((world_of s).nodes m.at)

          heard_all : (is_open op ((world_of s).nodes m.at) && are_posts_heard s m && are_answers_heard s m.at op) ≡ true
          heard_all = elim (either (is_open op ((world_of s).nodes m.at) && are_posts_heard s m && are_answers_heard s m.at op) (some_full D (world_of s)) (second_true (has_room D ((world_of s).nodes m.at)) _ gives)) [
            | inl all ↦ all
            | inr full ↦ absurd (true≢false (sym full ∙ room))
          ]

          by : HasResult D m.at op (world_of s) ⊎ (StillWaiting D m.at op members keys V (world_of s) s.due m.sent m.line.posts × (length made ≤ suc (last_there made m last).0)) → HasResult D m.at op (world_of s)
          by (inl has) = has
          by (inr (waiting, end)) =
              result_when_heard D members keys V s holds.calm m op waiting
              (second_true (is_open op ((world_of s).nodes m.at)) (are_posts_heard s m) (first_true (is_open op ((world_of s).nodes m.at) && are_posts_heard s m) (are_answers_heard s m.at op) heard_all))
              (second_true (is_open op ((world_of s).nodes m.at) && are_posts_heard s m) (are_answers_heard s m.at op) heard_all)

    -- BY ONE EVENT

    record ByEvent (s : Section Kind Op Shown) (q : Playing Kind Op Shown) (due' : ℕ → ℕ → ℕ) : Type 0 where
      event : Event Op
      events : q.events ≡ s.playing.events ++ event ∷ []
      world : q.world ≡ happens D (world_of s) event
      dues : (f u : ℕ) → DueAfter D s.due due' event f u
      keeps : KeepsMembers event
      later : Later (world_of s) (happens D (world_of s) event)
      quiet : StoreHolds event → (i op : ℕ) → DisturbsNothing i op event ⊎ HasResult D i op (world_of s)

    module _ (s : Section Kind Op Shown) (holds : Holds s) (q : Playing Kind Op Shown) (due' : ℕ → ℕ → ℕ) (by : ByEvent s q due') (runs : Runs D members keys q) (stores : StoreHolds by.event) where
      lawful : IsLawful D (world_of s) by.event
      lawful = (lawful_on D members keys s.playing q holds.runs runs (by.event ∷ [], by.events)).0

      calm_then : IsCalm D members keys V q.world
      calm_then = subst (IsCalm D members keys V) (sym by.world) (calm_next D members keys V (world_of s) holds.calm by.event lawful by.keeps)

      fits_then : (f u : ℕ) → due' f u ≤ length (q.world.links f u).messages
      fits_then f u = subst (λ (w : World Kind Op Shown). due' f u ≤ length (w.links f u).messages) (sym by.world) (bounded (by.dues f u))
        where
          longer : length ((world_of s).links f u).messages ≤ length ((happens D (world_of s) by.event).links f u).messages
          longer = (by.later.links f u).longer

          bounded : DueAfter D s.due due' by.event f u → due' f u ≤ length ((happens D (world_of s) by.event).links f u).messages
          bounded (RestsThere e) = let a = holds.fits f u in let b = longer in omega (arith, a, b, e)
          bounded (GoesThere fate e moves) =
              let law : IsLawful D (world_of s) (Delivery f u (s.due f u) fate) = subst (IsLawful D (world_of s)) e lawful in
              let a = slice_get-below ((world_of s).links f u).messages law.0 (s.due f u) law.1 in
              let b = longer in
              omega (arith, a, b, moves)

      result_then : (i op : ℕ) → HasResult D i op (world_of s) → HasResult D i op q.world
      result_then i op has = subst (HasResult D i op) (sym by.world) (result_next D i op (world_of s) by.event lawful by.keeps has)

      stands_then : (made : List (Made Op Shown)) → Stands (world_of s) s.due made → Stands q.world due' made
      stands_then made stands k m there op waits = elim (stands k m there op waits) [
        | inl has ↦ inl (result_then m.at op has)
        | inr (waiting, last) ↦ elim (by.quiet stores m.at op) [
          | inl quiet ↦ inr (
            subst (λ (w : World Kind Op Shown). StillWaiting D m.at op members keys V w due' m.sent m.line.posts) (sym by.world)
                (waiting_next D m.at op members keys V (world_of s) holds.calm s.due due' holds.fits by.event quiet by.dues m.sent m.line.posts waiting),
            last,
          )
          | inr has ↦ inl (result_then m.at op has)
        ]
      ]

    -- AN OPERATION THAT OPENS

    module _ (world : World Kind Op Shown) (calm : IsCalm D members keys V world) (due : ℕ → ℕ → ℕ) (fits : (f u : ℕ) → due f u ≤ length (world.links f u).messages) (i : ℕ) (node : Node Kind Op Shown) (runs : world.nodes i ≡ Some node) (input : Input Op) (fate : Fate) (op : ℕ) (opening : Opening D node i op (step D node input fate)) where
      abbrev next : World Kind Op Shown
      next = happens D world (InputAt i input fate)

      abbrev new : Node Kind Op Shown
      new = (step D node input fate).node

      identity_is : node.identity ≡ i
      identity_is = ((safe_at D members keys world calm.stands).views.running i node runs).identity

      i_member : is_member V i ≡ true
      i_member = ap (λ (v : View). is_member v i) (sym calm.view) ∙ ((safe_at D members keys world calm.stands).views.running i node runs).last

      abbrev the_operation : OpenOperation
      the_operation = record { op = node.next_op; key = opening.key; reads = opening.reads; needed = opening.n; counted = alone node.identity }

      own : (alone node.identity) i ≡ true
      own = eq-eqb i node.identity (sym identity_is)

      waits : Waits D i op opening.reads opening.key opening.n new the_operation
      waits = record {
        stood = subst (λ (os : List OpenOperation). IsIn os the_operation) (sym opening.operations) (in_end node.open_operations the_operation);
        is_op = sym opening.number;
        is_reads = refl;
        is_key = refl;
        needs = refl;
        few_yet = let a = alone_is_one node.identity in let b = opening.many in omega (arith, a, b);
        own = own;
      }

      new_runs : next.nodes i ≡ Some new
      new_runs = input_makes D members keys world i node input fate runs

      abbrev sent_then : ℕ → ℕ
      sent_then = λ to. length (next.links i to).messages

      next_links : next.links ≡ with_posts world.links i (to_others node opening.message)
      next_links = ap (λ o. (stepped_at D world i o input fate).links) runs ∙ ap (with_posts world.links i) opening.posts

      posted : (t : ℕ) → is_member V t ≡ true → t ≢ i → IsIn (to_others node opening.message) (record { to = t; message = opening.message })
      posted t member other = to_map (λ (j : ℕ). record { to = j; message = opening.message }) (others node.view node.identity) t
          (in_others node.view node.identity t (ap (λ (v : View). is_member v t) (calm.installed i node runs) ∙ member) (λ e. other (e ∙ identity_is)))

      stage : (t : ℕ) → is_member V t ≡ true → (t ≡ i) ⊎ (t ≢ i) → Stage D i op opening.reads opening.key opening.n t (sent_then t) next due
      stage t member (inl is) = IsStillOpen new the_operation new_runs waits (IsCounted (ap (alone node.identity) is ∙ own))
      stage t member (inr other) =
          let post = posted t member other in
          let brings = posts_come (to_others node opening.message) world.links i (record { to = t; message = opening.message }) post.0 post.1 in
          let there : message_at next i t brings.0 ≡ Some opening.message = ap (λ (l : ℕ → ℕ → Link Op). slice_get (l i t).messages brings.0) next_links ∙ brings.2 in
          let below = slice_get-below (next.links i t).messages opening.message brings.0 there in
          IsStillOpen new the_operation new_runs waits (QuestionDue brings.0 opening.message other (let a = fits i t in let b = brings.1 in omega (arith, a, b)) below there opening.asks)

      opened_waits : StillWaiting D i op members keys V next due sent_then (step D node input fate).output.posts
      opened_waits = record {
        reads = opening.reads;
        key = opening.key;
        n = opening.n;
        few = (let a = opening.enough in let b : member_count node ≡ length V.members = ap (λ (v : View). length v.members) (calm.installed i node runs) in omega (arith, a, b));
        i_member = i_member;
        asked = λ t member other. (record { to = t; message = opening.message }, subst (λ ps. IsIn ps (record { to = t; message = opening.message })) (sym opening.posts) (posted t member other), refl);
        stages = λ t member. stage t member (same_or_not t i);
      }

    -- MOVES

    abbrev Stored : Section Kind Op Shown → Section Kind Op Shown → Type 0
    Stored s t = (xs : List (Event Op)) → t.playing.events ≡ s.playing.events ++ xs → AllByRecursion StoreHolds xs

    -- a message is heard
    hears : (s : Section Kind Op Shown) (from to : ℕ) (message : Message Op) (node : Node Kind Op Shown) → message_at (world_of s) from to (s.due from to) ≡ Some message → (world_of s).nodes to ≡ Some node → is_full D node ≡ false
        → ByEvent s (deliver D s.playing from to (s.due from to)) (heard D s from to).due
    hears s from to message node there runs room =
        deliver_by D (λ q. ByEvent s q (heard D s from to).due) s.playing from to (s.due from to) message node there runs (λ full. absurd (true≢false (sym full ∙ room)))
        (λ free.
        let t = turn_taken D s.playing (DeliverHead from to (s.due from to) (Some message)) (Delivery from to (s.due from to)) (turn_by to node (Take from message) NoStore) in
        record {
          event = Delivery from to (s.due from to) t.fate;
          events = t.events;
          world = t.world;
          dues = λ f u. dues t.fate f u (same_or_not f from) (same_or_not u to);
          keeps = tt;
          later = delivery_later D (world_of s) from to (s.due from to) t.fate;
          quiet = λ stores i op. inl stores;
        })
      where
        dues : (fate : Fate) (f u : ℕ) → (f ≡ from) ⊎ (f ≢ from) → (u ≡ to) ⊎ (u ≢ to) → DueAfter D s.due (heard D s from to).due (Delivery from to (s.due from to) fate) f u
        dues fate f u (inl is) (inl is') = GoesThere fate (ap (λ g. Delivery g to (s.due g to) fate) (sym is) ∙ ap (λ v. Delivery f v (s.due f v) fate) (sym is'))
            (table_here s.due from to (suc (s.due from to)) f u is is' ∙ ap (λ g. suc (s.due g to)) (sym is) ∙ ap (λ v. suc (s.due f v)) (sym is'))
        dues fate f u (inl is) (inr isnt) = RestsThere (table_else s.due from to (suc (s.due from to)) f u (λ e. isnt))
        dues fate f u (inr isnt) whether = RestsThere (table_else s.due from to (suc (s.due from to)) f u (λ e. absurd (isnt e)))

    -- what a client's command or timeout changes of the clients
    clients_set : (s : Section Kind Op Shown) (c : ℕ) (client after : Client Op Shown) (P : List (Made Op Shown) → Type 0) → slice_get s.clients c ≡ Some client → P after.made
        → ((d : ℕ) (other : Client Op Shown) → slice_get s.clients d ≡ Some other → P other.made) → (d : ℕ) (other : Client Op Shown) → slice_get (slice_set s.clients c after) d ≡ Some other → P other.made
    clients_set s c client after P its here others d other there = elim (same_or_not d c) [
      | inl is ↦
          let same : Some after ≡ Some other = sym (ap (slice_get (slice_set s.clients c after)) is ∙ set_here s.clients c client after its) ∙ there in
          let one : after ≡ other = cc same in
          subst (λ (x : Client Op Shown). P x.made) one here
      | inr isnt ↦ others d other (sym (set_else s.clients c d after isnt) ∙ there)
    ]

    holds_heard : (s : Section Kind Op Shown) (from to : ℕ) → Holds s → may_hear D s from to ≡ true → Stored s (heard D s from to) → Holds (heard D s from to)
    holds_heard s from to holds may stored =
        by_node ((world_of s).nodes to) refl (second_true (is_here && is_there && is_due) (has_room D ((world_of s).nodes to)) may)
      where
        is_here : Bool
        is_here = list_any (λ i. i == from) (running (world_of s))

        is_there : Bool
        is_there = list_any (λ i. i == to) (running (world_of s))

        is_due : Bool
        is_due = is_some (message_at (world_of s) from to (s.due from to))

        message : (m : Message Op) × (message_at (world_of s) from to (s.due from to) ≡ Some m)
        message = some_of is_some (message_at (world_of s) from to (s.due from to)) refl (second_true (is_here && is_there) is_due (first_true (is_here && is_there && is_due) (has_room D ((world_of s).nodes to)) may))

        with_event : ByEvent s (deliver D s.playing from to (s.due from to)) (heard D s from to).due → Holds (heard D s from to)
        with_event by =
            let q = deliver D s.playing from to (s.due from to) in
            let runs : Runs D members keys q = moved_runs D members keys s (NextMessage from to) holds.runs in
            let ok = (stored (by.event ∷ []) by.events).0 in
            record {
              runs = runs;
              silent = refl;
              calm = calm_then s holds q (heard D s from to).due by runs ok;
              fits = fits_then s holds q (heard D s from to).due by runs ok;
              stands = λ c client its. stands_then s holds q (heard D s from to).due by runs ok client.made (holds.stands c client its);
            }

        by_node : (o : Option (Node Kind Op Shown)) → (world_of s).nodes to ≡ o → has_room D ((world_of s).nodes to) ≡ true → Holds (heard D s from to)
        by_node None is free = absurd (let e : has_room D None ≡ true = subst (λ o. has_room D o ≡ true) is free in cc e)
        by_node (Some node) is free = with_event (hears s from to message.0 node message.1 is (not_true (is_full D node) (subst (λ o. has_room D o ≡ true) is free)))

    holds_timed_out : (s : Section Kind Op Shown) (c : ℕ) (client : Client Op Shown) (m : Made Op Shown) (op : ℕ) → Holds s → slice_get s.clients c ≡ Some client → has_room D ((world_of s).nodes m.at) ≡ true → HasResult D m.at op (world_of s)
        → Stored s (timed_out_op D s c client m.at (Some op)) → Runs D members keys (played D s.playing (ScriptStep.Timeout m.at op)) → Holds (timed_out_op D s c client m.at (Some op))
    holds_timed_out s c client m op holds its free has stored runs =
        with_event (given_by D (λ q. ByEvent s q s.due) s.playing (TimeoutHead m.at op) (InputAt m.at (Input.Timeout op)) (turn_by m.at has.node (Input.Timeout op) NoStore) (input_turn (world_of s) m.at has.node (Input.Timeout op) NoStore has.runs)
        (λ full. absurd (true≢false (sym full ∙ not_true (is_full D has.node) (subst (λ o. has_room D o ≡ true) has.runs free))))
        (λ room.
        let t = turn_taken D s.playing (TimeoutHead m.at op) (InputAt m.at (Input.Timeout op)) (turn_by m.at has.node (Input.Timeout op) NoStore) in
        record {
          event = InputAt m.at (Input.Timeout op) t.fate;
          events = t.events;
          world = t.world;
          dues = λ f u. RestsThere refl;
          keeps = tt;
          later = input_later D (world_of s) m.at (Input.Timeout op) t.fate;
          quiet = λ stores i o. quiet t.fate stores i o (same_or_not i m.at) (same_or_not o op);
        }))
      where
        quiet : (fate : Fate) → HasNotFailed fate → (i o : ℕ) → (i ≡ m.at) ⊎ (i ≢ m.at) → (o ≡ op) ⊎ (o ≢ op) → DisturbsNothing {Op = Op} i o (InputAt m.at (Input.Timeout op) fate) ⊎ HasResult D i o (world_of s)
        quiet fate ok i o (inl is) (inl is') = inr (subst (λ j. HasResult D j o (world_of s)) (sym is) (subst (λ x. HasResult D m.at x (world_of s)) (sym is') has))
        quiet fate ok i o (inl is) (inr isnt) = inl (ok, (λ here same. isnt (sym same)))
        quiet fate ok i o (inr isnt) whether = inl (ok, (λ here same. isnt (sym here)))

        with_event : ByEvent s (given D s.playing (TimeoutHead m.at op) (InputAt m.at (Input.Timeout op))) s.due → Holds (timed_out_op D s c client m.at (Some op))
        with_event by =
            let q = given D s.playing (TimeoutHead m.at op) (InputAt m.at (Input.Timeout op)) in
            let ok = (stored (by.event ∷ []) by.events).0 in
            record {
              runs = runs;
              silent = refl;
              calm = calm_then s holds q s.due by runs ok;
              fits = fits_then s holds q s.due by runs ok;
              stands = clients_set s c client (record client { timed_out = true }) (Stands q.world s.due) its (stands_then s holds q s.due by runs ok client.made (holds.stands c client its))
                  (λ d other there. stands_then s holds q s.due by runs ok other.made (holds.stands d other there));
            }

    -- a client's next command
    holds_commanded : (s : Section Kind Op Shown) (c : ℕ) (client : Client Op Shown) (command : Command Op) (rest : List (Command Op)) → Holds s → some_full D (world_of s) ≡ false → slice_get s.clients c ≡ Some client → goes_on D s (last_of client.made) ≡ true
        → Stored s (commanded_by D s c client (command ∷ rest)) → Runs D members keys (played D s.playing (step_of command)) → Holds (commanded_by D s c client (command ∷ rest))
    holds_commanded s c client command rest holds room its goes stored runs = by (command_makes s.playing command holds.silent)
      where
        q : Playing Kind Op Shown
        q = played D s.playing (step_of command)

        results : HaveResults (world_of s) client.made
        results = have_results s holds room client.made (holds.stands c client its) goes

        after_is : (line : Told Op Shown) → (played D s.playing (step_of command)).lines ≡ line ∷ [] → (after_command client command rest (played D s.playing (step_of command))).made ≡ client.made ++ made_by command (played D s.playing (step_of command)).world line ∷ []
        after_is line e = ap (λ ls. client.made ++ map (made_by command (played D s.playing (step_of command)).world) ls) e

        -- those of before have their results, and this is the last one
        pushed : (world : World Kind Op Shown) (m : Made Op Shown) → HaveResults world client.made
            → ((op : ℕ) → pending_op m.line.answer ≡ Some op → StillWaiting D m.at op members keys V world s.due m.sent m.line.posts) → Stands world s.due (client.made ++ m ∷ [])
        pushed world m have waits k x there op is = elim (pushed_at client.made m k x there) [
          | inl old ↦ inl (have k x old op is)
          | inr new ↦ inr (
            subst (λ (y : Made Op Shown). StillWaiting D y.at op members keys V world s.due y.sent y.line.posts) new.1 (waits op (ap (λ (y : Made Op Shown). pending_op y.line.answer) new.1 ∙ is)),
            (let a = length-append client.made (m ∷ []) in let b = new.0 in omega (arith, a, b)),
          )
        ]

        by : CommandMakes s.playing command (played D s.playing (step_of command)) → Holds (commanded_by D s c client (command ∷ rest))
        by (MakesNothing line lines none world events) =
            let w = (played D s.playing (step_of command)).world in
            record {
              runs = runs;
              silent = refl;
              calm = subst (IsCalm D members keys V) (sym world) holds.calm;
              fits = λ f u. subst (λ (x : World Kind Op Shown). s.due f u ≤ length (x.links f u).messages) (sym world) (holds.fits f u);
              stands = clients_set s c client (after_command client command rest (played D s.playing (step_of command))) (Stands w s.due) its
                  (subst (Stands w s.due) (sym (after_is line lines)) (pushed w (made_by command w line) (λ k m there op is. subst (HasResult D m.at op) (sym world) (results k m there op is)) (λ op is. absurd (let e = sym none ∙ is in cc e))))
                  (λ d other there. subst (λ (x : World Kind Op Shown). Stands x s.due other.made) (sym world) (holds.stands d other there));
            }
        by (MakesAStep input node fate there closes lines world events) =
            let p = played D s.playing (step_of command) in
            let event : ByEvent s p s.due = record {
              event = InputAt command.at input fate;
              events = events;
              world = world;
              dues = λ f u. RestsThere refl;
              keeps = tt;
              later = input_later D (world_of s) command.at input fate;
              quiet = λ stores i op. inl (stores, closes i op);
            } in
            let ok = (stored (InputAt command.at input fate ∷ []) events).0 in
            let line = line_for D (Asked command.at command.ask) (step D node input fate) in
            record {
              runs = runs;
              silent = refl;
              calm = calm_then s holds p s.due event runs ok;
              fits = fits_then s holds p s.due event runs ok;
              stands = clients_set s c client (after_command client command rest p) (Stands p.world s.due) its
                  (subst (Stands p.world s.due) (sym (after_is line lines))
                  (pushed p.world (made_by command p.world line) (λ k m at op is. result_then s holds p s.due event runs ok m.at op (results k m at op is))
                  (λ op is.
                  subst (λ (w : World Kind Op Shown). StillWaiting D command.at op members keys V w s.due (λ to. length (w.links command.at to).messages) (step D node input fate).output.posts) (sym world)
                  (opened_waits (world_of s) holds.calm s.due holds.fits command.at node there input fate op (opening_tells D node command.at op input fate (pending_reply (step D node input fate).output.reply op is))))))
                  (λ d other at. stands_then s holds p s.due event runs ok other.made (holds.stands d other at));
            }

    holds_move : (s : Section Kind Op Shown) (m : Move) → Holds s → some_full D (world_of s) ≡ false → may_come D s m ≡ true → Stored s (moved D s m) → Holds (moved D s m)
    holds_move s (NextMessage from to) holds room may stored = holds_heard s from to holds may stored
    holds_move s (NextCommand c) holds room may stored = by_client (slice_get s.clients c) refl may stored (moved_runs D members keys s (NextCommand c) holds.runs)
      where
        by_commands : (client : Client Op Shown) → slice_get s.clients c ≡ Some client → (cs : List (Command Op)) → (nat_le 1 (length cs) && goes_on D s (last_of client.made)) ≡ true → Stored s (commanded_by D s c client cs) → Runs D members keys (commanded_by D s c client cs).playing → Holds (commanded_by D s c client cs)
        by_commands client its [] may stored runs = absurd (let e = first_true (nat_le 1 0) (goes_on D s (last_of client.made)) may in cc e)
        by_commands client its (command ∷ rest) may stored runs = holds_commanded s c client command rest holds room its (second_true (nat_le 1 (length (command ∷ rest))) (goes_on D s (last_of client.made)) may) stored runs

        by_client : (o : Option (Client Op Shown)) → slice_get s.clients c ≡ o → may_command D s o ≡ true → Stored s (commanded D s c o) → Runs D members keys (commanded D s c o).playing → Holds (commanded D s c o)
        by_client None its may stored runs = absurd (cc may)
        by_client (Some client) its may stored runs = by_commands client its client.to_come may stored runs
    holds_move s (ItsTimeout c) holds room may stored = by_client (slice_get s.clients c) refl may stored (moved_runs D members keys s (ItsTimeout c) holds.runs)
      where
        by_op : (client : Client Op Shown) → slice_get s.clients c ≡ Some client → (m : Made Op Shown) → last_of client.made ≡ Some m → (o : Option ℕ) → pending_op m.line.answer ≡ o → gives_up D s m o ≡ true → Stored s (timed_out_op D s c client m.at o) → Runs D members keys (timed_out_op D s c client m.at o).playing
            → Holds (timed_out_op D s c client m.at o)
        by_op client its m last None waits gives stored runs = absurd (cc gives)
        by_op client its m last (Some op) waits gives stored runs =
            holds_timed_out s c client m op holds its (first_true (has_room D ((world_of s).nodes m.at)) _ gives) (result_at_last s holds room client.made (holds.stands c client its) m last op waits gives) stored runs

        by_made : (client : Client Op Shown) → slice_get s.clients c ≡ Some client → (o : Option (Made Op Shown)) → last_of client.made ≡ o → may_time_out D s client o ≡ true → Stored s (timed_out_made D s c client o) → Runs D members keys (timed_out_made D s c client o).playing
            → Holds (timed_out_made D s c client o)
        by_made client its None last may stored runs = absurd (cc may)
        by_made client its (Some m) last may stored runs = by_op client its m last (pending_op m.line.answer) refl (second_true (not client.timed_out) (gives_up D s m (pending_op m.line.answer)) may) stored runs

        by_client : (o : Option (Client Op Shown)) → slice_get s.clients c ≡ o → may_call_timeout D s o ≡ true → Stored s (timed_out D s c o) → Runs D members keys (timed_out D s c o).playing → Holds (timed_out D s c o)
        by_client None its may stored runs = absurd (cc may)
        by_client (Some client) its may stored runs = by_made client its (last_of client.made) refl may stored runs

    -- all moves
    room_back : (s t : Section Kind Op Shown) → Goes D s.playing t.playing → (world_of t).view ≡ (world_of s).view → some_full D (world_of t) ≡ false → some_full D (world_of s) ≡ false
    room_back s t goes view room = by (some_full D (world_of s)) refl
      where
        by : (b : Bool) → some_full D (world_of s) ≡ b → b ≡ false
        by false e = refl
        by true e = absurd (true≢false (sym (full_on s.playing t.playing goes view e) ∙ room))

    holds_moves : (s : Section Kind Op Shown) (ms : List Move) → Holds s → may_all_come D s ms ≡ true → some_full D (world_of (moved_all D s ms)) ≡ false → Stored s (moved_all D s ms) → Holds (moved_all D s ms)
    holds_moves s [] holds may room stored = holds
    holds_moves s (m ∷ ms) holds may room stored =
        let t = moved D s m in
        let first = moved_appends D s m in
        let rest = all_appends D t ms in
        let here : Stored s t = λ xs is. all_first StoreHolds xs rest.0 (stored (xs ++ rest.0) (rest.1 ∙ ap (λ es. es ++ rest.0) is ∙ append_assoc s.playing.events xs rest.0)) in
        let there : Stored t (moved_all D t ms) = λ xs is. all_last StoreHolds first.0 xs (stored (first.0 ++ xs) (is ∙ ap (λ es. es ++ xs) first.1 ∙ append_assoc s.playing.events first.0 xs)) in
        let free = room_back s (moved_all D s (m ∷ ms)) (goes_moves D members keys s (m ∷ ms) holds.runs) (all_view D s (m ∷ ms)) room in
        holds_moves t ms (holds_move s m holds free (first_true (may_come D s m) (may_all_come D t ms) may) here) (second_true (may_come D s m) (may_all_come D t ms) may) room there

  -- A SECTION

  module _ (members : ℕ) (keys : List (KeyDecl Kind)) (before : Playing Kind Op Shown) (is_run : IsRun D members keys before.events before.world) (clients : List (List (Command Op))) (moves : List Move) (end : Section Kind Op Shown) (section : IsSection D before clients moves end) (undisturbed : IsUndisturbed D before end) where
    abbrev V : View
    V = before.world.view

    abbrev first : Section Kind Op Shown
    first = opened before clients

    holds_first : Holds members keys V first
    holds_first = record {
      runs = is_run;
      silent = refl;
      calm = record {
        stands = subst (InRun D members keys) (sym is_run.leads) (stands_run D members keys (start members keys) (stands_start D members keys is_run.some is_run.few) before.events is_run.lawful);
        view = refl;
        installed = undisturbed.installed;
      };
      fits = λ f u. omega arith;
      stands = λ c client its k m there op waits. absurd (let e = subst (λ ms. slice_get ms k ≡ Some m) (new_made clients c client its) there in cc e);
    }

    holds_end : Holds members keys V end
    holds_end = subst (Holds members keys V) (sym section.leads)
        (holds_moves members keys V first moves holds_first section.lawful (subst (λ (s : Section Kind Op Shown). some_full D (world_of s) ≡ false) section.leads undisturbed.room)
        (λ xs is. undisturbed.stores xs (ap (λ (s : Section Kind Op Shown). s.playing.events) section.leads ∙ is)))

    pub all_finish : AllFinish before end
    all_finish c k op client made get there waits =
        let over = at_index (λ (x : Client Op Shown). (length x.to_come == 0) && goes_on D end (last_of x.made)) end.clients c client section.over get in
        let has = have_results members keys V end holds_end undisturbed.room client.made (holds_end.stands c client get) (second_true (length client.to_come == 0) (goes_on D end (last_of client.made)) over) k made there op waits in
        let result = find_there op has.node.finished has.result has.among has.its in
        (result.0, ap (ending_of ((world_of end).nodes made.at)) waits ∙ ap (λ o. ending_of o (Some op)) has.runs ∙ ap (λ o. Some (ending_by op (Some has.node) o)) result.1)
