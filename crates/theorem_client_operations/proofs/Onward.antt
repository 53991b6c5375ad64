-- From one moment of a run to a later one: lawful events, and where the view is the same nobody leaves, joins or restarts.
--     Goes, goes_between        between two moments of a run
--     moved_appends, moved_view        the moves of a section
--     OneLine, one_line        a command has one line, and an operation that it opens has a number that was given
use Rattle.std.proofs.Common.{◌≡◌, ℕ, ◌<◌, ◌≤◌, List, [], ◌∷◌, ◌++◌, refl, sym, ap, subst, ◌∙◌, arith, Bool, true, false, Option, Some, None}
use Rattle.std.specs.Prelude.{if◌then◌else◌, is_some, option_map, slice_get}
use Rattle.std.specs.List.{AllByRecursion}
use Rattle.model_history.specs.Table.{with_at}
use Rattle.model_history.proofs.HistoryLaws.{with_at_same, append_nothing}
use Rattle.model_members.specs.View.{View}
use Rattle.model_members.specs.DataType.{Replication}
use Rattle.model_members.specs.Node.{KeyDecl, Node, Input, Fate, Reply, Output}
use Rattle.model_members.specs.Node.Fate.{NoStore}
use Rattle.model_members.specs.Step.{step, is_full}
use Rattle.model_members.specs.World.{World, Event, Turn, IsRun, AreLawful, start, run, happens, turn_of, output_of, step_in, after_turn, views_of}
use Rattle.model_members.specs.World.Event.{InputAt, Delivery}
use Rattle.model_members.specs.Script.{Ask, Playing, ScriptStep, Told, Head, Answer, played, given, told, take_turn, asked_by, input_of, output_lines, deliver, last_of}
use Rattle.model_members.specs.Script.Head.{Asked, TimeoutHead}
use Rattle.model_members.specs.Script.Answer.{Replied, Gone, HistoryFull, NoSuchView}
use Rattle.theorem_runs.proofs.Keeping.{if_holds, if_tells}
use Rattle.theorem_runs.proofs.Playing.{Appends, played_appends, deliver_appends, appends_more}
use Rattle.theorem_operations.specs.Quorum.{KeepsMembers}
use Rattle.theorem_operations.proofs.Moments.{run_append, lawful_rest, view_stays}
use Rattle.theorem_operations.proofs.KeptViews.{kept_along, rises_along}
use Rattle.theorem_operations.proofs.Opening.{opening_tells}
use Rattle.theorem_operations.proofs.PlayedInputs.{turn_by, input_turn, turn_taken, deliver_case}
use Rattle.theorem_sections.specs.Sections.{Command, Client, Made, Section, Move, step_of, pending_op, world_of, commanded, commanded_by, heard, timed_out, timed_out_made, timed_out_op, moved, moved_all}
use Rattle.theorem_sections.specs.Sections.Move.{NextCommand, NextMessage, ItsTimeout}
use Rattle.theorem_sections.proofs.Givens.{given_turn, given_to, line_for}
use Rattle.theorem_sections.proofs.Positions.{pending_reply}
use Rattle.theorem_sections.proofs.Sectioned.{command_is_step}
use Rattle.theorem_client_operations.proofs.Endings.{IsUnder}

-- BETWEEN TWO MOMENTS

module _ {Kind Op Shown : Type 0} (D : Replication Kind Op Shown) where
  -- lawful events lead from one to the other, by which nobody leaves, joins or restarts
  pub record Goes (p q : Playing Kind Op Shown) : Type 0 where
    pub events : List (Event Op)
    pub grown : q.events ≡ p.events ++ events
    pub lawful : AreLawful D p.world events
    pub leads : run D p.world events ≡ q.world
    pub keeps : AllByRecursion KeepsMembers events

  module _ (members : ℕ) (keys : List (KeyDecl Kind)) where
    pub leads_on : (p q : Playing Kind Op Shown) → IsRun D members keys p.events p.world → IsRun D members keys q.events q.world → (more : Appends D p.events q.events) → run D p.world more.0 ≡ q.world
    leads_on p q is_p is_q more =
        let first = start members keys in
        ap (λ (w : World Kind Op Shown). run D w more.0) is_p.leads ∙ sym (run_append D first p.events more.0) ∙ ap (run D first) (sym more.1) ∙ sym is_q.leads

    pub lawful_on : (p q : Playing Kind Op Shown) → IsRun D members keys p.events p.world → IsRun D members keys q.events q.world → (more : Appends D p.events q.events) → AreLawful D p.world more.0
    lawful_on p q is_p is_q more =
        subst (λ (w : World Kind Op Shown). AreLawful D w more.0) (sym is_p.leads) (lawful_rest D (start members keys) p.events more.0 (subst (λ es. AreLawful D (start members keys) es) more.1 is_q.lawful))

    pub keeps_on : (p q : Playing Kind Op Shown) → IsRun D members keys p.events p.world → IsRun D members keys q.events q.world → (more : Appends D p.events q.events) → q.world.view.number ≡ p.world.view.number → AllByRecursion KeepsMembers more.0
    keeps_on p q is_p is_q more same = kept_along D p.world more.0 (ap (λ (w : World Kind Op Shown). w.view.number) (leads_on p q is_p is_q more) ∙ same)

    pub rises_on : (p q : Playing Kind Op Shown) → IsRun D members keys p.events p.world → IsRun D members keys q.events q.world → Appends D p.events q.events → p.world.view.number ≤ q.world.view.number
    rises_on p q is_p is_q more = subst (λ (w : World Kind Op Shown). p.world.view.number ≤ w.view.number) (leads_on p q is_p is_q more) (rises_along D p.world more.0)

    pub goes_between : (p q : Playing Kind Op Shown) → IsRun D members keys p.events p.world → IsRun D members keys q.events q.world → Appends D p.events q.events → q.world.view.number ≡ p.world.view.number → Goes p q
    goes_between p q is_p is_q more same =
        record { events = more.0; grown = more.1; lawful = lawful_on p q is_p is_q more; leads = leads_on p q is_p is_q more; keeps = keeps_on p q is_p is_q more same }

  -- THE VIEW STAYS

  taken_view : (p : Playing Kind Op Shown) (head : Head Op) (i : ℕ) (input : Input Op) (turn : Turn Kind Op Shown) → (take_turn D p head (InputAt i input) turn).world.view ≡ p.world.view
  taken_view p head i input turn = let t = turn_taken D p head (InputAt i input) turn in ap (λ (w : World Kind Op Shown). w.view) t.world ∙ view_stays D p.world (InputAt i input t.fate) tt

  given_view : (p : Playing Kind Op Shown) (head : Head Op) (i : ℕ) (input : Input Op) → (given D p head (InputAt i input)).world.view ≡ p.world.view
  given_view p head i input = by (turn_of p.world (InputAt i input NoStore))
    where
      by : (o : Option (Turn Kind Op Shown)) → (given_turn D p head (InputAt i input) o).world.view ≡ p.world.view
      by None = refl
      by (Some turn) = if_holds (λ (q : Playing Kind Op Shown). q.world.view ≡ p.world.view) (is_full D turn.before) (told p head HistoryFull) (take_turn D p head (InputAt i input) turn) refl (taken_view p head i input turn)

  command_view : (p : Playing Kind Op Shown) (command : Command Op) → (played D p (step_of command)).world.view ≡ p.world.view
  command_view p command = by (input_of (views_of p.world) command.ask)
    where
      by : (o : Option (Input Op)) → (asked_by D p command.at command.ask o).world.view ≡ p.world.view
      by None = refl
      by (Some input) = given_view p (Asked command.at command.ask) command.at input

  deliver_view : (p : Playing Kind Op Shown) (from to index : ℕ) → (deliver D p from to index).world.view ≡ p.world.view
  deliver_view p from to index =
      deliver_case D (λ (q : Playing Kind Op Shown). q.world.view ≡ p.world.view) p from to index (λ head answer. refl)
      (λ head turn. let t = turn_taken D p head (Delivery from to index) turn in ap (λ (w : World Kind Op Shown). w.view) t.world ∙ view_stays D p.world (Delivery from to index t.fate) tt)

  -- MOVES

  abbrev ViewStays : Section Kind Op Shown → Section Kind Op Shown → Type 0
  ViewStays s t = (world_of t).view ≡ (world_of s).view

  abbrev pub Grows : Section Kind Op Shown → Section Kind Op Shown → Type 0
  Grows s t = Appends D s.playing.events t.playing.events

  same_events : (s : Section Kind Op Shown) → Grows s s
  same_events s = ([], sym (append_nothing s.playing.events))

  -- what holds of each move that a section makes, or of none
  pub each_move : (P : Section Kind Op Shown → Section Kind Op Shown → Type 0) (s : Section Kind Op Shown) (m : Move)
      → P s s
      → ((c : ℕ) (client : Client Op Shown) (command : Command Op) (rest : List (Command Op)) → P s (commanded_by D s c client (command ∷ rest)))
      → ((from to : ℕ) → P s (heard D s from to))
      → ((c : ℕ) (client : Client Op Shown) (i op : ℕ) → P s (timed_out_op D s c client i (Some op)))
      → P s (moved D s m)
  each_move P s (NextCommand c) none commands hears times_out = by_client (slice_get s.clients c)
    where
      by_commands : (client : Client Op Shown) (to_come : List (Command Op)) → P s (commanded_by D s c client to_come)
      by_commands client [] = none
      by_commands client (command ∷ rest) = commands c client command rest

      by_client : (o : Option (Client Op Shown)) → P s (commanded D s c o)
      by_client None = none
      by_client (Some client) = by_commands client client.to_come
  each_move P s (NextMessage from to) none commands hears times_out = hears from to
  each_move P s (ItsTimeout c) none commands hears times_out = by_client (slice_get s.clients c)
    where
      by_op : (client : Client Op Shown) (i : ℕ) (o : Option ℕ) → P s (timed_out_op D s c client i o)
      by_op client i None = none
      by_op client i (Some op) = times_out c client i op

      by_made : (client : Client Op Shown) (o : Option (Made Op Shown)) → P s (timed_out_made D s c client o)
      by_made client None = none
      by_made client (Some made) = by_op client made.at (pending_op made.line.answer)

      by_client : (o : Option (Client Op Shown)) → P s (timed_out D s c o)
      by_client None = none
      by_client (Some client) = by_made client (last_of client.made)

  pub moved_view : (s : Section Kind Op Shown) (m : Move) → (world_of (moved D s m)).view ≡ (world_of s).view
  moved_view s m =
      each_move ViewStays s m refl (λ c client command rest. command_view s.playing command) (λ from to. deliver_view s.playing from to (s.due from to))
      (λ c client i op. given_view s.playing (TimeoutHead i op) i (Input.Timeout op))

  pub moved_appends : (s : Section Kind Op Shown) (m : Move) → Grows s (moved D s m)
  moved_appends s m =
      each_move Grows s m (same_events s) (λ c client command rest. played_appends D s.playing (step_of command) (command_is_step command)) (λ from to. deliver_appends D s.playing from to (s.due from to))
      (λ c client i op. played_appends D s.playing (ScriptStep.Timeout i op) tt)

  pub all_view : (s : Section Kind Op Shown) (ms : List Move) → (world_of (moved_all D s ms)).view ≡ (world_of s).view
  all_view s [] = refl
  all_view s (m ∷ ms) = all_view (moved D s m) ms ∙ moved_view s m

  pub all_appends : (s : Section Kind Op Shown) (ms : List Move) → Grows s (moved_all D s ms)
  all_appends s [] = same_events s
  all_appends s (m ∷ ms) = appends_more D s.playing.events (moved D s m).playing.events (moved_all D (moved D s m) ms).playing.events (moved_appends s m) (all_appends (moved D s m) ms)

  pub moved-append : (s : Section Kind Op Shown) (xs ys : List Move) → moved_all D s (xs ++ ys) ≡ moved_all D (moved_all D s xs) ys
  moved-append s [] ys = refl
  moved-append s (x ∷ xs) ys = moved-append (moved D s x) xs ys

  -- A COMMAND'S LINE

  pub record OneLine (command : Command Op) (q : Playing Kind Op Shown) : Type 0 where
    pub line : Told Op Shown
    pub lines : q.lines ≡ line ∷ []
    pub head : line.head ≡ Asked command.at command.ask
    pub under : (op : ℕ) → pending_op line.answer ≡ Some op → IsUnder D op (q.world.nodes command.at)

  module _ (p : Playing Kind Op Shown) (command : Command Op) (silent : p.lines ≡ []) where
    abbrev i : ℕ
    i = command.at

    abbrev its_head : Head Op
    its_head = Asked command.at command.ask

    plain_line : (answer : Answer Shown) → pending_op answer ≡ None → OneLine command (told p its_head answer)
    plain_line answer none = record {
      line = record { head = its_head; answer = answer; posts = []; ended = None };
      lines = ap (λ ls. ls ++ record { head = its_head; answer = answer; posts = []; ended = None } ∷ []) silent;
      head = refl;
      under = λ op e. absurd (let f = sym none ∙ e in cc f);
    }

    module _ (input : Input Op) where
      taken_line : (node : Node Kind Op Shown) → p.world.nodes i ≡ Some node → OneLine command (take_turn D p its_head (InputAt i input) (turn_by i node input NoStore))
      taken_line node runs =
          let t = turn_taken D p its_head (InputAt i input) (turn_by i node input NoStore) in
          let s = step D node input t.fate in
          let put : output_of D p.world (InputAt i input t.fate) ≡ Some s.output = ap (option_map (λ (turn : Turn Kind Op Shown). (step_in D turn).output)) (input_turn p.world i node input t.fate runs) in
          let now : (happens D p.world (InputAt i input t.fate)).nodes i ≡ Some s.node =
          ap (λ o. (after_turn D p.world o).nodes i) (input_turn p.world i node input t.fate runs) ∙ with_at_same p.world.nodes i (Some s.node) in
          record {
            line = line_for D its_head s;
            lines = t.lines ∙ ap (λ ls. ls ++ output_lines D its_head (output_of D p.world (InputAt i input t.fate))) silent ∙ ap (output_lines D its_head) put;
            head = refl;
            under = λ op e.
                let opens = opening_tells D node i op input t.fate (pending_reply s.output.reply op e) in
                subst (IsUnder D op) (sym (ap (λ (w : World Kind Op Shown). w.nodes i) t.world ∙ now)) (let a = opens.number in let b = opens.next in omega (arith, a, b));
          }

      given_line : (o : Option (Node Kind Op Shown)) → p.world.nodes i ≡ o → OneLine command (given_to D p its_head (InputAt i input) i input o)
      given_line None is = plain_line Gone refl
      given_line (Some node) is = if_holds (OneLine command) (is_full D node) (told p its_head HistoryFull) (take_turn D p its_head (InputAt i input) (turn_by i node input NoStore)) (plain_line HistoryFull refl) (taken_line node is)

    pub one_line : OneLine command (played D p (step_of command))
    one_line = by (input_of (views_of p.world) command.ask)
      where
        no_op : (b : Bool) → pending_op {Shown = Shown} (if b then NoSuchView else Gone) ≡ None
        no_op true = refl
        no_op false = refl

        by : (o : Option (Input Op)) → OneLine command (asked_by D p i command.ask o)
        by None = plain_line (if is_some (p.world.nodes i) then NoSuchView else Gone) (no_op (is_some (p.world.nodes i)))
        by (Some input) = given_line input (p.world.nodes i) refl
