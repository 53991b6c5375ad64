-- From a state on the way along the entries to the end of the section.
use Rattle.std.proofs.Common.{◌≡◌, ◌≢◌, ⊎_elim, ℕ, zero, suc, ◌+◌, ◌<◌, List, [], ◌∷◌, ◌++◌, length, map, refl, sym, ap, subst, ◌∙◌, arith, Bool, true, false, Option, Some, None}
use Rattle.std.specs.Prelude.{nat_le, flat_map, slice_get, slice_set, is_some, option_map, IsTrue}
use Rattle.std.specs.List.{list_all}
use Rattle.std.proofs.lemmas.Bool.{le-leb}
use Rattle.std.proofs.lemmas.List.{append_assoc}
use Rattle.model_members.specs.View.{is_member}
use Rattle.model_members.specs.DataType.{Replication}
use Rattle.model_members.specs.Node.{Node}
use Rattle.model_members.specs.World.{World, run}
use Rattle.model_members.specs.World.Event.{InputAt}
use Rattle.model_members.specs.Script.{Playing, Told, Head, Answer, played, last_of, told}
use Rattle.theorem_sections.proofs.Givens.{given_to}
use Rattle.theorem_sections.specs.Sections.{Command, Client, Made, Section, Move, step_of, pending_op, node_full, world_of, goes_on, may_command, may_come, may_all_come, is_over, made_by, with_client, commanded, commanded_by, moved, moved_all, client_line, client_lines, section_lines, has_ended}
use Rattle.theorem_sections.specs.Sections.Move.{NextCommand}
use Rattle.theorem_sections.specs.Histories.{Entry, Placed, entries_at, events_of, sent_so_far, replayed, AreHistories}
use Rattle.theorem_sections.specs.Paths.{ClientStep, IsInputOf, head_of, LacksView, IsAnsweredBy, answered_in, TimesOut}
use Rattle.theorem_sections.proofs.Exploring.{some_of}
use Rattle.theorem_sections.proofs.NextDue.{same_or_not}
use Rattle.theorem_sections.proofs.Moves.{command_plays, command_gone, command_lacks, given_full, Keeping, IsKept, kept_as}
use Rattle.theorem_sections.proofs.Along.{Along}
use Rattle.theorem_sections.proofs.Heard.{Late, full_now}
use Rattle.theorem_sections.proofs.Positions.{own, set_here, set_else, set_length, Stands, Left, Answers, answers_by, GoesOnFrom, TellsLine, AllTold, told_more, ClientAt, client_after}
use Rattle.theorem_sections.proofs.Positions.Answers.{ByEntry, ByNone}
use Rattle.theorem_sections.proofs.Positions.Position.{Ready}
use Rattle.theorem_operations.proofs.Lists.{last_pushed, both_true}

pub get_within : {X : Type 0} (xs : List X) (k : ℕ) → k < length xs → (x : X) × (slice_get xs k ≡ Some x)
get_within [] k h = absurd (omega (arith, h))
get_within (x ∷ xs) zero h = (x, refl)
get_within (x ∷ xs) (suc k) h = get_within xs k (omega (arith, h))

pub all_by_get : {X : Type 0} (p : X → Bool) (xs : List X) → ((k : ℕ) (x : X) → slice_get xs k ≡ Some x → p x ≡ true) → list_all p xs ≡ true
all_by_get p [] h = refl
all_by_get p (x ∷ xs) h = both_true (p x) (list_all p xs) (h zero x refl) (all_by_get p xs (λ k y e. h (suc k) y e))

module _ {Kind Op Shown : Type 0} where
  pub lines_of : (w : World Kind Op Shown) (first : ℕ) (cs : List (Client Op Shown)) (ps : List (List (ClientStep Op Shown))) → length cs ≡ length ps
      → ((k : ℕ) (client : Client Op Shown) (steps : List (ClientStep Op Shown)) → slice_get cs k ≡ Some client → slice_get ps k ≡ Some steps → map (client_line w (first + k)) client.made ≡ map (λ (step : ClientStep Op Shown). step.line) steps)
      → client_lines w first cs ≡ flat_map (map (λ (step : ClientStep Op Shown). step.line)) ps
  lines_of w first [] [] l h = refl
  lines_of w first [] (p ∷ ps) l h = absurd (omega (arith, l))
  lines_of w first (c ∷ cs) [] l h = absurd (omega (arith, l))
  lines_of w first (c ∷ cs) (p ∷ ps) l h =
      let here : map (client_line w first) c.made ≡ map (λ (step : ClientStep Op Shown). step.line) p = (let e : first + 0 ≡ first = omega arith in ap (λ n. map (client_line w n) c.made) (sym e) ∙ h zero c p refl refl) in
      ap (λ ls. ls ++ client_lines w (suc first) cs) here
      ∙ ap (λ ls. map (λ (step : ClientStep Op Shown). step.line) p ++ ls)
      (lines_of w (suc first) cs ps (omega (arith, l))
      (λ k client steps e f. let n : suc first + k ≡ first + suc k = omega arith in ap (λ n. map (client_line w n) client.made) n ∙ h (suc k) client steps e f))

module _ {Kind Op Shown : Type 0} (D : Replication Kind Op Shown) (world : World Kind Op Shown) (histories : ℕ → List (Entry Op Shown)) (placed : List (Placed Op Shown)) (keeping : Keeping Op) (all : AreHistories D world histories)
    (runs_in : (i : ℕ) (n : Node Kind Op Shown) → world.nodes i ≡ Some n → IsTrue (is_member world.view i)) (paths : List (List (ClientStep Op Shown))) where
  abbrev At : ℕ → Client Op Shown → List (Placed Op Shown) → List (ClientStep Op Shown) → Type 0
  At c client entries steps = ClientAt D world histories placed keeping all runs_in c client entries steps

  abbrev Lefts : ℕ → ℕ → List (Placed Op Shown) → List (Command Op) → List (ClientStep Op Shown) → Type 0
  Lefts c u entries commands steps = Left D world histories placed keeping all runs_in c u entries commands steps

  abbrev GoesFrom : List (Made Op Shown) → ℕ → Type 0
  GoesFrom made u = GoesOnFrom D world histories placed keeping all runs_in made u

  pub record State (s : Section Kind Op Shown) (done rest : List (Placed Op Shown)) : Type 0 where
    pub along : Along D world histories placed keeping s.playing s.due done rest
    pub count : length s.clients ≡ length paths
    pub each : (c : ℕ) (steps : List (ClientStep Op Shown)) → slice_get paths c ≡ Some steps → (client : Client Op Shown) × (slice_get s.clients c ≡ Some client) × At c client (own c rest) steps

  pub record Ends (s : Section Kind Op Shown) : Type 0 where
    pub moves : List Move
    pub lawful : may_all_come D s moves ≡ true
    pub over : is_over D (moved_all D s moves) ≡ true
    pub lines : section_lines (moved_all D s moves) ≡ flat_map (map (λ (step : ClientStep Op Shown). step.line)) paths
    pub keepers : (place : ℕ) → IsKept keeping (moved_all D s moves).playing [] place
    pub events : (moved_all D s moves).playing.events ≡ keeping.early ++ events_of (sent_so_far world) placed
    pub comes : (moved_all D s moves).playing.world ≡ run D world (events_of (sent_so_far world) placed)

  pub ends_more : (s t : Section Kind Op Shown) (m : Move) → may_come D s m ≡ true → moved D s m ≡ t → Ends t → Ends s
  ends_more s t m may is end =
      let e : Ends (moved D s m) = subst Ends (sym is) end in
      record { moves = m ∷ e.moves; lawful = both_true (may_come D s m) (may_all_come D (moved D s m) e.moves) may e.lawful; over = e.over; lines = e.lines; keepers = e.keepers; events = e.events; comes = e.comes }

  -- another client comes
  pub put_client : (s : Section Kind Op Shown) (c : ℕ) (client client' : Client Op Shown) (p : Playing Kind Op Shown) (done rest done' rest' : List (Placed Op Shown)) → State s done rest → slice_get s.clients c ≡ Some client
      → Along D world histories placed keeping (record p { lines = [] }) s.due done' rest' → ((d : ℕ) → d ≢ c → own d rest ≡ own d rest') → ((steps : List (ClientStep Op Shown)) → slice_get paths c ≡ Some steps → At c client' (own c rest') steps)
      → State (with_client s c client' p) done' rest'
  put_client s c client client' p done rest done' rest' state get along others here =
      record {
        along = along;
        count = set_length s.clients c client' ∙ state.count;
        each = λ d steps is. ⊎_elim
            (λ (same : d ≡ c). (
              client',
              subst (λ e. slice_get (slice_set s.clients c client') e ≡ Some client') (sym same) (set_here s.clients c client client' get),
              subst (λ e. At e client' (own e rest') steps) (sym same) (here steps (subst (λ e. slice_get paths e ≡ Some steps) same is)),
            ))
            (λ isnt. let old = state.each d steps is in (old.0, set_else s.clients c d client' isnt ∙ old.1, subst (λ es. At d old.0 es steps) (others d isnt) old.2))
            (same_or_not d c);
      }

  -- COMMANDS

  pub may_next : (s : Section Kind Op Shown) (c : ℕ) (client : Client Op Shown) (command : Command Op) (commands : List (Command Op)) → slice_get s.clients c ≡ Some client → client.to_come ≡ command ∷ commands → goes_on D s (last_of client.made) ≡ true → may_come D s (NextCommand c) ≡ true
  may_next s c client command commands get to_come goes =
      ap (may_command D s) get ∙ both_true (nat_le 1 (length client.to_come)) (goes_on D s (last_of client.made)) (ap (λ cs. nat_le 1 (length cs)) to_come ∙ le-leb 1 (suc (length commands)) (omega arith)) goes

  pub command_moves : (s : Section Kind Op Shown) (c : ℕ) (client : Client Op Shown) (command : Command Op) (commands : List (Command Op)) (p : Playing Kind Op Shown) (line : Told Op Shown)
      → slice_get s.clients c ≡ Some client → client.to_come ≡ command ∷ commands → played D s.playing (step_of command) ≡ p → p.lines ≡ line ∷ [] → moved D s (NextCommand c) ≡ with_client s c (client_after client commands (made_by command p.world line)) p
  command_moves s c client command commands p line get to_come plays lines =
      ap (commanded D s c) get ∙ ap (commanded_by D s c client) to_come
      ∙ ap (λ q. with_client s c (record { to_come = commands; made = client.made ++ map (made_by command q.world) q.lines; timed_out = false }) q) plays
      ∙ ap (λ ls. with_client s c (record { to_come = commands; made = client.made ++ map (made_by command p.world) ls; timed_out = false }) p) lines

  -- a command that makes no entry
  none_played : (s : Section Kind Op Shown) (done rest : List (Placed Op Shown)) (along : Along D world histories placed keeping s.playing s.due done rest) (c : ℕ) (command : Command Op) (step : ClientStep Op Shown) → step.index ≡ None → Late step.upto rest
      → (answer : Answer Shown) → IsAnsweredBy D world histories c command step answer → played D s.playing (step_of command) ≡ told s.playing (head_of command) answer
  none_played s done rest along c command step none late (Answer.Replied reply) h = absurd (let e = sym none ∙ h.at in cc e)
  none_played s done rest along c command step none late Answer.Gone h =
      command_gone D s.playing command (along.nodes command.at ∙ ap (option_map (λ b. replayed D b (entries_at command.at done))) h.2)
  none_played s done rest along c command step none late Answer.NoSuchView h =
      command_lacks D s.playing command (subst (λ vs. LacksView vs command) (sym along.going.same_views) h.3) (ap is_some (along.nodes command.at) ∙ still (world.nodes command.at) h.2)
    where
      still : (o : Option (Node Kind Op Shown)) → is_some o ≡ true → is_some (option_map (λ b. replayed D b (entries_at command.at done)) o) ≡ true
      still None e = e
      still (Some b) e = refl
  none_played s done rest along c command step none late Answer.HistoryFull h =
      let i = command.at in
      let full = some_of (node_full D) ((world_of s).nodes i) refl (full_now D world histories placed keeping all runs_in s done rest along step.upto i late h.3) in
      command_plays D s.playing command h.2.0 (subst (λ vs. IsInputOf vs command h.2.0) (sym along.going.same_views) h.2.1)
      ∙ ap (given_to D s.playing (head_of command) (InputAt i h.2.0) i h.2.0) full.1
      ∙ given_full D s.playing (head_of command) (InputAt i h.2.0) i h.2.0 full.0 (subst (λ o. node_full D o ≡ true) full.1 (full_now D world histories placed keeping all runs_in s done rest along step.upto i late h.3))
  none_played s done rest along c command step none late answer h = absurd h

  pub no_more : (c : ℕ) (command : Command Op) (step : ClientStep Op Shown) (mid after : List (Placed Op Shown)) (o : Option ℕ) (p : Option ℕ) → p ≡ None → TimesOut D world histories c command.at step p o
      → Stands D world histories placed keeping all runs_in command.at o mid after → mid ≡ after
  no_more c command step mid after None p none t st = st
  no_more c command step mid after (Some k) None none t st = absurd t
  no_more c command step mid after (Some k) (Some op) none t st = absurd (cc none)

  same_told : (p : Playing Kind Op Shown) (due : ℕ → ℕ → ℕ) (done rest : List (Placed Op Shown)) (head : Head Op) (answer : Answer Shown) → Along D world histories placed keeping p due done rest → Along D world histories placed keeping (record (told p head answer) { lines = [] }) due done rest
  same_told p due done rest head answer along =
      record { going = along.going; whole = along.whole; nodes = along.nodes; due_is = along.due_is; sent = along.sent; keepers = λ place. kept_as keeping p (record (told p head answer) { lines = [] }) (answered_in world.view rest place) place refl refl (along.keepers place); lines = refl; events = along.events; far = along.far }

  -- WHAT MAY FOLLOW

  -- the client stands before a command that makes an entry
  pub record Stops (c : ℕ) (s : Section Kind Op Shown) (done rest : List (Placed Op Shown)) (steps : List (ClientStep Op Shown)) : Type 0 where
    pub state : State s done rest
    pub client : Client Op Shown
    pub command : Command Op
    pub commands : List (Command Op)
    pub step : ClientStep Op Shown
    pub others : List (ClientStep Op Shown)
    pub past : List (ClientStep Op Shown)
    pub u : ℕ
    pub k : ℕ
    pub get : slice_get s.clients c ≡ Some client
    pub to_come : client.to_come ≡ command ∷ commands
    pub whole : steps ≡ past ++ step ∷ others
    pub lines : AllTold D world histories placed keeping all runs_in c client.made past
    pub goes : GoesFrom client.made u
    pub late : Late u rest
    pub left : Lefts c u (own c rest) (command ∷ commands) (step ∷ others)
    pub enters : step.index ≡ Some k

  -- the client has made its commands
  pub record Rests (c : ℕ) (first s : Section Kind Op Shown) (done rest : List (Placed Op Shown)) : Type 0 where
    pub state : State s done rest
    pub client : Client Op Shown
    pub get : slice_get s.clients c ≡ Some client
    pub to_come : client.to_come ≡ []
    pub none : own c rest ≡ []
    pub others : (d : ℕ) → d ≢ c → slice_get s.clients d ≡ slice_get first.clients d

  -- commands without an entry, up to the next with one, or to the end
  module _ (c : ℕ) (first : Section Kind Op Shown) (done rest : List (Placed Op Shown)) (all_steps : List (ClientStep Op Shown)) (path : slice_get paths c ≡ Some all_steps)
      (late : (u : ℕ) (commands : List (Command Op)) (steps : List (ClientStep Op Shown)) → Lefts c u (own c rest) commands steps → Late u rest)
      (rests : (s : Section Kind Op Shown) → Rests c first s done rest → Ends s) (stops : (s : Section Kind Op Shown) → Stops c s done rest all_steps → Ends s) where
    pub ahead : (steps : List (ClientStep Op Shown)) (commands : List (Command Op)) (s : Section Kind Op Shown) → State s done rest → ((d : ℕ) → d ≢ c → slice_get s.clients d ≡ slice_get first.clients d)
        → (client : Client Op Shown) → slice_get s.clients c ≡ Some client → client.to_come ≡ commands → (past : List (ClientStep Op Shown)) → all_steps ≡ past ++ steps → AllTold D world histories placed keeping all runs_in c client.made past
        → (u : ℕ) → GoesFrom client.made u → Lefts c u (own c rest) commands steps → Ends s
    ahead [] [] s state others client get to_come past whole lines u goes left = rests s (record { state = state; client = client; get = get; to_come = to_come; none = left; others = others })
    ahead [] (command ∷ commands) s state others client get to_come past whole lines u goes left = absurd left
    ahead (step ∷ steps) [] s state others client get to_come past whole lines u goes left = absurd left
    ahead (step ∷ steps) (command ∷ commands) s state others client get to_come past whole lines u goes left =
        by step.index refl (answers_by D world histories placed keeping all runs_in c command step step.line.answer refl left.1.answered)
        (λ s' state' others' client' get' to_come' past' whole' lines' u' goes' left'. ahead steps commands s' state' others' client' get' to_come' past' whole' lines' u' goes' left')
      where
        i : ℕ
        i = command.at

        NextAhead : Type 0
        NextAhead = (s' : Section Kind Op Shown) → State s' done rest → ((d : ℕ) → d ≢ c → slice_get s'.clients d ≡ slice_get first.clients d)
            → (client' : Client Op Shown) → slice_get s'.clients c ≡ Some client' → client'.to_come ≡ commands → (past' : List (ClientStep Op Shown)) → all_steps ≡ past' ++ steps → AllTold D world histories placed keeping all runs_in c client'.made past'
            → (u' : ℕ) → GoesFrom client'.made u' → Lefts c u' (own c rest) commands steps → Ends s'

        stop : (k : ℕ) → step.index ≡ Some k → Ends s
        stop k is = stops s (record {
          state = state;
          client = client;
          command = command;
          commands = commands;
          step = step;
          others = steps;
          past = past;
          u = u;
          k = k;
          get = get;
          to_come = to_come;
          whole = whole;
          lines = lines;
          goes = goes;
          late = late u (command ∷ commands) (step ∷ steps) left;
          left = left;
          enters = is;
        })

        go : step.index ≡ None → step.line.posts ≡ [] → pending_op step.line.answer ≡ None → IsAnsweredBy D world histories c command step step.line.answer
            → ((s' : Section Kind Op Shown) → State s' done rest → ((d : ℕ) → d ≢ c → slice_get s'.clients d ≡ slice_get first.clients d)
            → (client' : Client Op Shown) → slice_get s'.clients c ≡ Some client' → client'.to_come ≡ commands → (past' : List (ClientStep Op Shown)) → all_steps ≡ past' ++ steps → AllTold D world histories placed keeping all runs_in c client'.made past'
            → (u' : ℕ) → GoesFrom client'.made u' → Lefts c u' (own c rest) commands steps → Ends s') → Ends s
        go none posts waits answered next =
            let entries_same : own c rest ≡ left.2 = subst (λ o. Stands D world histories placed keeping all runs_in command.at o (own c rest) left.2) none left.4 in
            let mid_same : left.2 ≡ left.3 = no_more c command step left.2 left.3 step.timeout (pending_op step.line.answer) waits left.1.timed_out left.5 in
            let left' : Lefts c step.upto (own c rest) commands steps = subst (λ es. Lefts c step.upto es commands steps) (sym (entries_same ∙ mid_same)) left.6 in
            let late' = late step.upto commands steps left' in
            let p = told s.playing (head_of command) step.line.answer in
            let line : Told Op Shown = record { head = head_of command; answer = step.line.answer; posts = []; ended = None } in
            let m = made_by command p.world line in
            let client' = client_after client commands m in
            let plays = none_played s done rest state.along c command step none late' step.line.answer answered in
            let goes' : GoesFrom client'.made step.upto =
            λ t done' rest' along' late''. ap (goes_on D t) (last_pushed client.made m) ∙ ap (λ o. has_ended D (world_of t) m o) waits in
            let tells : TellsLine D world histories placed keeping all runs_in c m step = record { client = left.1.told.0; head = left.1.told.1; answer = refl; posts = posts; ended = left.1.ends } in
            let past' = past ++ step ∷ [] in
            let whole' : all_steps ≡ past' ++ steps = whole ∙ sym (append_assoc past (step ∷ []) steps) in
            let lines' = told_more D world histories placed keeping all runs_in c client.made past m step lines tells in
            let s' = with_client s c client' p in
            let along' = same_told s.playing s.due done rest (head_of command) step.line.answer state.along in
            let state' : State s' done rest =
            put_client s c client client' p done rest done rest state get along' (λ d isnt. refl)
            (λ steps' is'. let same : steps' ≡ all_steps = cc (sym is' ∙ path) in record { past = past'; left = steps; whole = same ∙ whole'; lines = lines'; position = Ready step.upto goes' left' }) in
            ends_more s s' (NextCommand c) (may_next s c client command commands get to_come (goes s done rest state.along (late u (command ∷ commands) (step ∷ steps) left)))
            (command_moves s c client command commands p line get to_come plays (ap (λ ls. ls ++ line ∷ []) state.along.lines))
            (next s' state' (λ d isnt. set_else s.clients c d client' isnt ∙ others d isnt) client' (set_here s.clients c client client' get) refl past' whole' lines' step.upto goes' left')

        by : (o : Option ℕ) → step.index ≡ o → Answers D world histories placed keeping all runs_in c command step
            → ((s' : Section Kind Op Shown) → State s' done rest → ((d : ℕ) → d ≢ c → slice_get s'.clients d ≡ slice_get first.clients d)
            → (client' : Client Op Shown) → slice_get s'.clients c ≡ Some client' → client'.to_come ≡ commands → (past' : List (ClientStep Op Shown)) → all_steps ≡ past' ++ steps → AllTold D world histories placed keeping all runs_in c client'.made past'
            → (u' : ℕ) → GoesFrom client'.made u' → Lefts c u' (own c rest) commands steps → Ends s') → Ends s
        by o is (ByEntry reply answered r) next = stop r.index r.at
        by o is (ByNone none posts waits answered) next = go none posts waits answered next
