-- Where the run of a script that may have clients stands before its steps, and when a command comes.
--     before_runs, before_grows        before the step of a number
--     StepAt, step_at        that step
--     MadeHere, made_here        a command whose line stands in the report
--     InOrder, in_order        two commands of a client in one section
use Rattle.std.proofs.Common.{◌≡◌, ◌≢◌, ◌⊎◌, inl, inr, ⊎_elim, ℕ, zero, suc, ◌+◌, ◌<◌, ◌≤◌, List, [], ◌∷◌, ◌++◌, length, map, refl, sym, ap, subst, ◌∙◌, arith, Bool, true, false, Option, Some, None, append_assoc, length-append}
use Rattle.std.specs.Prelude.{⊤, ◌==◌, ◌&&◌, ◌||◌, if◌then◌else◌, filter, slice_get, option_map}
use Rattle.std.specs.List.{AllByRecursion}
use Rattle.std.proofs.lemmas.List.Elements.{filter-append}
use Rattle.std.proofs.lemmas.Bool.Decides.{eqb_tells}
use Rattle.model_history.proofs.HistoryLaws.{append_nothing}
use Rattle.model_history.proofs.PruneLaws.{IsIn}
use Rattle.model_members.specs.DataType.{Replication}
use Rattle.model_members.specs.Node.{KeyDecl, Node}
use Rattle.model_members.specs.World.{World, Event, IsRun}
use Rattle.model_members.specs.Script.{Ask, Playing, ScriptStep, IsStep, Told, Head, played}
use Rattle.model_members.specs.Script.Head.{Asked}
use Rattle.theorem_runs.proofs.Playing.{Appends, played_appends, appends_more}
use Rattle.theorem_operations.proofs.Lists.{get_front, second_true}
use Rattle.theorem_sections.specs.Runs.{RunStep, IsRunStep, Plays, PlaysAll, plain_line}
use Rattle.theorem_sections.specs.Runs.RunStep.{Plain, Threads}
use Rattle.theorem_sections.specs.Sections.{Command, Client, Made, Section, Move, Line, Ending, step_of, pending_op, world_of, opened, made_by, moved, moved_all, may_come, may_all_come, client_line, client_lines, section_lines, ending_of}
use Rattle.theorem_sections.specs.Sections.Move.{NextCommand}
use Rattle.theorem_sections.proofs.PathSections.{get_mapped}
use Rattle.theorem_sections.proofs.Sectioned.{Runs, plays_runs, moved_all_runs}
use Rattle.theorem_client_operations.specs.Calls.{ComesAt}
use Rattle.theorem_client_operations.specs.Seen.{Place, is_caller, Stands, StandsIn, StandsAt, stands_before}
use Rattle.theorem_client_operations.proofs.Commanding.{NextMade, next_made, moves_make, stands_there, its_commands, end_from, may_then, may_first, lawful_there, later_made, line_stays, goes_to_end, over_there}
use Rattle.theorem_client_operations.proofs.Onward.{each_move, all_appends, moved-append, OneLine, one_line}

-- LISTS

get_end : {X : Type 0} (xs : List X) (y : X) → slice_get (xs ++ y ∷ []) (length xs) ≡ Some y
get_end [] y = refl
get_end (x ∷ xs) y = get_end xs y

-- two places of a list are in order
pub data Compared {X : Type 0} (xs ys : List X) (a b : X) : Type 0 where
  Before : (mid : List X) → ys ≡ xs ++ a ∷ mid → Compared xs ys a b
  Same : xs ≡ ys → Compared xs ys a b
  After : (mid : List X) → xs ≡ ys ++ b ∷ mid → Compared xs ys a b

compared : {X : Type 0} (xs ys : List X) (a b : X) (r s : List X) → xs ++ a ∷ r ≡ ys ++ b ∷ s → Compared xs ys a b
compared [] [] a b r s e = Same refl
compared [] (y ∷ ys) a b r s e = let first : a ≡ y = cc e in Before ys (ap (λ z. z ∷ ys) (sym first))
compared (x ∷ xs) [] a b r s e = let first : x ≡ b = cc e in After xs (ap (λ z. z ∷ xs) first)
compared (x ∷ xs) (y ∷ ys) a b r s e = by (compared xs ys a b r s (let rest : xs ++ a ∷ r ≡ ys ++ b ∷ s = cc e in rest))
  where
    first : x ≡ y
    first = cc e

    by : Compared xs ys a b → Compared (x ∷ xs) (y ∷ ys) a b
    by (Before mid is) = Before mid (ap (λ z. z ∷ ys) (sym first) ∙ ap (λ zs. x ∷ zs) is)
    by (Same is) = Same (ap (λ z. z ∷ xs) first ∙ ap (λ zs. y ∷ zs) is)
    by (After mid is) = After mid (ap (λ z. z ∷ xs) first ∙ ap (λ zs. y ∷ zs) is)

-- WHOSE LINES

module _ {Op Shown : Type 0} where
  abbrev pub lines_by : Option ℕ → List (Line Op Shown) → List (Line Op Shown)
  lines_by caller lines = filter (λ (l : Line Op Shown). is_caller caller l.client) lines

  pub plain_by : (told : List (Told Op Shown)) → lines_by None (map plain_line told) ≡ map plain_line told
  plain_by [] = refl
  plain_by (t ∷ told) = ap (λ ls. plain_line t ∷ ls) (plain_by told)

module _ {Kind Op Shown : Type 0} where
  all_his : (world : World Kind Op Shown) (c : ℕ) (made : List (Made Op Shown)) → lines_by (Some c) (map (client_line world c) made) ≡ map (client_line world c) made
  all_his world c [] = refl
  all_his world c (m ∷ made) = elim (eqb_tells c c) [
    | inl is ↦ ap (λ b. if b then client_line world c m ∷ lines_by (Some c) (map (client_line world c) made) else lines_by (Some c) (map (client_line world c) made)) is.0 ∙ ap (λ ls. client_line world c m ∷ ls) (all_his world c made)
    | inr isnt ↦ absurd (isnt.1 refl)
  ]

  none_his : (world : World Kind Op Shown) (c d : ℕ) (made : List (Made Op Shown)) → c ≢ d → lines_by (Some c) (map (client_line world d) made) ≡ []
  none_his world c d [] apart = refl
  none_his world c d (m ∷ made) apart = elim (eqb_tells c d) [
    | inl is ↦ absurd (apart is.1)
    | inr isnt ↦ ap (λ b. if b then client_line world d m ∷ lines_by (Some c) (map (client_line world d) made) else lines_by (Some c) (map (client_line world d) made)) isnt.0 ∙ none_his world c d made apart
  ]

  none_behind : (world : World Kind Op Shown) (c k : ℕ) (clients : List (Client Op Shown)) → c < k → lines_by (Some c) (client_lines world k clients) ≡ []
  none_behind world c k [] less = refl
  none_behind world c k (x ∷ clients) less =
      filter-append (λ (l : Line Op Shown). is_caller (Some c) l.client) (map (client_line world k) x.made) (client_lines world (suc k) clients)
      ∙ ap (λ ls. ls ++ lines_by (Some c) (client_lines world (suc k) clients)) (none_his world c k x.made (λ is. absurd (omega (arith, less, is)))) ∙ none_behind world c (suc k) clients (omega (arith, less))

  his_lines : (world : World Kind Op Shown) (c k : ℕ) (clients : List (Client Op Shown)) (client : Client Op Shown) → slice_get clients c ≡ Some client → lines_by (Some (k + c)) (client_lines world k clients) ≡ map (client_line world (k + c)) client.made
  his_lines world c k [] client e = absurd (cc e)
  his_lines world zero k (x ∷ clients) client e =
      let same : x ≡ client = cc e in
      let here : k + 0 ≡ k = omega arith in
      subst (λ n. lines_by (Some n) (client_lines world k (x ∷ clients)) ≡ map (client_line world n) client.made) (sym here)
      (filter-append (λ (l : Line Op Shown). is_caller (Some k) l.client) (map (client_line world k) x.made) (client_lines world (suc k) clients)
      ∙ ap (λ ls. lines_by (Some k) (map (client_line world k) x.made) ++ ls) (none_behind world k (suc k) clients (omega arith)) ∙ append_nothing (lines_by (Some k) (map (client_line world k) x.made)) ∙ all_his world k x.made
      ∙ ap (λ (y : Client Op Shown). map (client_line world k) y.made) same)
  his_lines world (suc c) k (x ∷ clients) client e =
      let further : k + suc c ≡ suc k + c = omega arith in
      subst (λ n. lines_by (Some n) (client_lines world k (x ∷ clients)) ≡ map (client_line world n) client.made) (sym further)
      (filter-append (λ (l : Line Op Shown). is_caller (Some (suc k + c)) l.client) (map (client_line world k) x.made) (client_lines world (suc k) clients)
      ∙ ap (λ ls. ls ++ lines_by (Some (suc k + c)) (client_lines world (suc k) clients)) (none_his world (suc k + c) k x.made (λ is. absurd (omega (arith, is)))) ∙ his_lines world c (suc k) clients client e)

  pub lines_of_client : (end : Section Kind Op Shown) (c : ℕ) (client : Client Op Shown) → slice_get end.clients c ≡ Some client → lines_by (Some c) (section_lines end) ≡ map (client_line (world_of end) c) client.made
  lines_of_client end c client e =
      let zero_is : 0 + c ≡ c = omega arith in
      subst (λ n. lines_by (Some n) (section_lines end) ≡ map (client_line (world_of end) n) client.made) zero_is (his_lines (world_of end) c 0 end.clients client e)

  -- no line of a section is the script's own
  none_own : (world : World Kind Op Shown) (k : ℕ) (clients : List (Client Op Shown)) → lines_by None (client_lines world k clients) ≡ []
  none_own world k [] = refl
  none_own world k (x ∷ clients) =
      filter-append (λ (l : Line Op Shown). is_caller None l.client) (map (client_line world k) x.made) (client_lines world (suc k) clients)
      ∙ ap (λ ls. ls ++ lines_by None (client_lines world (suc k) clients)) (none_of x.made) ∙ none_own world (suc k) clients
    where
      none_of : (made : List (Made Op Shown)) → lines_by None (map (client_line world k) made) ≡ []
      none_of [] = refl
      none_of (m ∷ made) = none_of made

  pub none_of_section : (end : Section Kind Op Shown) → lines_by None (section_lines end) ≡ []
  none_of_section end = none_own (world_of end) 0 end.clients

-- THE RUN BEFORE EACH STEP

module _ {Kind Op Shown : Type 0} (D : Replication Kind Op Shown) where
  abbrev pub Lines : Type 0
  Lines = List (List (Line Op Shown))

  silent_moves : (s : Section Kind Op Shown) (ms : List Move) → s.playing.lines ≡ [] → (moved_all D s ms).playing.lines ≡ []
  silent_moves s [] silent = silent
  silent_moves s (m ∷ ms) silent =
      silent_moves (moved D s m) ms (each_move D (λ a b. b.playing.lines ≡ []) s m silent (λ d client command rest. refl) (λ from to. refl) (λ d client i op. refl))

  plays_silent : (p q : Playing Kind Op Shown) (s : RunStep Op) (lines : List (Line Op Shown)) → Plays D p s lines q → q.lines ≡ []
  plays_silent p q (Plain s) lines h = ap (λ (x : Playing Kind Op Shown). x.lines) h.1
  plays_silent p q (Threads clients) lines h = ap (λ (x : Playing Kind Op Shown). x.lines) h.4 ∙ ap (λ (e : Section Kind Op Shown). e.playing.lines) h.2.leads ∙ silent_moves (opened p clients) h.0 refl

  plays_grow : (p q : Playing Kind Op Shown) (s : RunStep Op) (lines : List (Line Op Shown)) → IsRunStep s → Plays D p s lines q → Appends D p.events q.events
  plays_grow p q (Plain s) lines ok h = subst (λ (x : Playing Kind Op Shown). Appends D p.events x.events) (sym h.1) (played_appends D p s ok)
  plays_grow p q (Threads clients) lines ok h =
      subst (λ (x : Playing Kind Op Shown). Appends D p.events x.events) (sym h.4) (subst (λ (e : Section Kind Op Shown). Appends D p.events e.playing.events) (sym h.2.leads) (all_appends D (opened p clients) h.0))

  pub nothing_more : (events : List (Event Op)) → Appends D events events
  nothing_more events = ([], sym (append_nothing events))

  before_zero : (p : Playing Kind Op Shown) (steps : List (RunStep Op)) (lines : Lines) (last : Playing Kind Op Shown) (plays : PlaysAll D p steps lines last) → stands_before D p steps lines last plays zero ≡ p
  before_zero p [] lines last plays = refl
  before_zero p (s ∷ steps) lines last plays = refl

  pub before_silent : (p : Playing Kind Op Shown) (steps : List (RunStep Op)) (lines : Lines) (last : Playing Kind Op Shown) (plays : PlaysAll D p steps lines last) → p.lines ≡ [] → (n : ℕ) → (stands_before D p steps lines last plays n).lines ≡ []
  before_silent p [] lines last plays silent n = silent
  before_silent p (s ∷ steps) lines last plays silent zero = silent
  before_silent p (s ∷ steps) lines last plays silent (suc n) = before_silent plays.2 steps plays.1 last plays.4 (plays_silent p plays.2 s plays.0 plays.3) n

  from_first : (p : Playing Kind Op Shown) (steps : List (RunStep Op)) (lines : Lines) (last : Playing Kind Op Shown) (plays : PlaysAll D p steps lines last) → AllByRecursion IsRunStep steps → (n : ℕ) → Appends D p.events (stands_before D p steps lines last plays n).events
  from_first p [] lines last plays ok n = nothing_more p.events
  from_first p (s ∷ steps) lines last plays ok zero = nothing_more p.events
  from_first p (s ∷ steps) lines last plays ok (suc n) =
      appends_more D p.events plays.2.events (stands_before D plays.2 steps plays.1 last plays.4 n).events (plays_grow p plays.2 s plays.0 ok.0 plays.3) (from_first plays.2 steps plays.1 last plays.4 ok.1 n)

  pub before_grows : (p : Playing Kind Op Shown) (steps : List (RunStep Op)) (lines : Lines) (last : Playing Kind Op Shown) (plays : PlaysAll D p steps lines last) → AllByRecursion IsRunStep steps → (m n : ℕ) → m ≤ n
      → Appends D (stands_before D p steps lines last plays m).events (stands_before D p steps lines last plays n).events
  before_grows p [] lines last plays ok m n h = nothing_more p.events
  before_grows p (s ∷ steps) lines last plays ok zero n h = from_first p (s ∷ steps) lines last plays ok n
  before_grows p (s ∷ steps) lines last plays ok (suc m) zero h = absurd (omega (arith, h))
  before_grows p (s ∷ steps) lines last plays ok (suc m) (suc n) h = before_grows plays.2 steps plays.1 last plays.4 ok.1 m n (omega (arith, h))

  module _ (members : ℕ) (keys : List (KeyDecl Kind)) where
    pub before_runs : (p : Playing Kind Op Shown) (steps : List (RunStep Op)) (lines : Lines) (last : Playing Kind Op Shown) (plays : PlaysAll D p steps lines last) → AllByRecursion IsRunStep steps → Runs D members keys p → (n : ℕ)
        → Runs D members keys (stands_before D p steps lines last plays n)
    before_runs p [] lines last plays ok runs n = runs
    before_runs p (s ∷ steps) lines last plays ok runs zero = runs
    before_runs p (s ∷ steps) lines last plays ok runs (suc n) = before_runs plays.2 steps plays.1 last plays.4 ok.1 (plays_runs D members keys p plays.2 s plays.0 ok.0 plays.3 runs) n

  -- THE STEP OF A NUMBER

  pub record StepAt (first : Playing Kind Op Shown) (steps : List (RunStep Op)) (lines : Lines) (last : Playing Kind Op Shown) (plays : PlaysAll D first steps lines last) (n : ℕ) (given : List (Line Op Shown)) : Type 0 where
    pub p : Playing Kind Op Shown
    pub q : Playing Kind Op Shown
    pub step : RunStep Op
    pub told : List (Line Op Shown)
    pub ok : IsRunStep step
    pub step_is : slice_get steps n ≡ Some step
    pub goes : Plays D p step told q
    pub p_is : stands_before D first steps lines last plays n ≡ p
    pub q_is : stands_before D first steps lines last plays (suc n) ≡ q
    pub told_is : told ≡ given
    pub stands : (caller : Option ℕ) (number : ℕ) (here : Playing Kind Op Shown) → StandsAt D first steps lines last plays n caller number here → StandsIn D p step told q goes caller number here

  pub step_at : (first : Playing Kind Op Shown) (steps : List (RunStep Op)) (lines : Lines) (last : Playing Kind Op Shown) (plays : PlaysAll D first steps lines last) → AllByRecursion IsRunStep steps → (n : ℕ) (given : List (Line Op Shown)) → slice_get lines n ≡ Some given
      → StepAt first steps lines last plays n given
  step_at first [] lines last plays ok n given e = absurd (let f = ap (λ ls. slice_get ls n) (sym plays.0) ∙ e in cc f)
  step_at first (s ∷ steps) lines last plays ok zero given e =
      let there : Some plays.0 ≡ Some given = ap (λ ls. slice_get ls zero) (sym plays.5) ∙ e in
      record {
        p = first;
        q = plays.2;
        step = s;
        told = plays.0;
        ok = ok.0;
        step_is = refl;
        goes = plays.3;
        p_is = refl;
        q_is = before_zero plays.2 steps plays.1 last plays.4;
        told_is = cc there;
        stands = λ caller number here h. h;
      }
  step_at first (s ∷ steps) lines last plays ok (suc n) given e =
      let more = step_at plays.2 steps plays.1 last plays.4 ok.1 n given (ap (λ ls. slice_get ls (suc n)) (sym plays.5) ∙ e) in
      record { p = more.p; q = more.q; step = more.step; told = more.told; ok = more.ok; step_is = more.step_is; goes = more.goes; p_is = more.p_is; q_is = more.q_is; told_is = more.told_is; stands = more.stands }

  -- A COMMAND WHOSE LINE STANDS THERE

  -- how its line ends: as its one event told, or as its operation stands when the step is done
  pub data EndsSo (line : Line Op Shown) (told : Told Op Shown) (at : ℕ) (q : Playing Kind Op Shown) : Type 0 where
    AsTold : line.ended ≡ option_map Ending.Ended told.ended → EndsSo line told at q
    AsItStands : line.ended ≡ ending_of (q.world.nodes at) (pending_op told.answer) → EndsSo line told at q

  pub record MadeHere (members : ℕ) (keys : List (KeyDecl Kind)) (p q here : Playing Kind Op Shown) (line : Line Op Shown) (at : ℕ) (ask : Ask Op) : Type 0 where
    pub told : Told Op Shown
    pub lines : (played D here (ScriptStep.Asks at ask)).lines ≡ told ∷ []
    pub head : told.head ≡ Asked at ask
    pub answer : line.answer ≡ told.answer
    pub ends : EndsSo line told at q
    pub runs : Runs D members keys here
    pub silent : here.lines ≡ []
    pub since : Appends D p.events here.events
    pub on : Appends D (played D here (ScriptStep.Asks at ask)).events q.events

  module _ (members : ℕ) (keys : List (KeyDecl Kind)) where
    -- what is said of a command that asks so is said of one that asks the same
    same_asked : (p q here : Playing Kind Op Shown) (line : Line Op Shown) (i at : ℕ) (ask' ask : Ask Op) → Asked i ask' ≡ Asked at ask → MadeHere members keys p q here line i ask' → MadeHere members keys p q here line at ask
    same_asked p q here line i at ask' ask same h =
        let one : i ≡ at = cc same in
        let two : ask' ≡ ask = cc same in
        subst (λ a. MadeHere members keys p q here line at a) two (subst (λ j. MadeHere members keys p q here line j ask') one h)

    -- the script's own
    own_here : (p q here : Playing Kind Op Shown) (i : ℕ) (ask' : Ask Op) (told : List (Line Op Shown)) → Plays D p (Plain (ScriptStep.Asks i ask')) told q → Runs D members keys p → p.lines ≡ [] → here ≡ p → (number : ℕ) → number ≡ 0
        → (line : Line Op Shown) → slice_get (lines_by None told) number ≡ Some line → (at : ℕ) (ask : Ask Op) → line.head ≡ Asked at ask → MadeHere members keys p q here line at ask
    own_here p q here i ask' told goes runs silent is number none line stands at ask head =
        let s : ScriptStep Op = ScriptStep.Asks i ask' in
        let one = one_line D p (record { at = i; ask = ask' }) silent in
        let told_is : told ≡ map plain_line (one.line ∷ []) = goes.0 ∙ ap (λ (ls : List (Told Op Shown)). map plain_line ls) one.lines in
        let there : slice_get (lines_by None (map plain_line (one.line ∷ []))) 0 ≡ Some line = subst (λ n. slice_get (lines_by None (map plain_line (one.line ∷ []))) n ≡ Some line) none (subst (λ ls. slice_get (lines_by None ls) number ≡ Some line) told_is stands) in
        let line_is : plain_line one.line ≡ line = cc there in
        let heads : Asked i ask' ≡ Asked at ask = sym one.head ∙ ap (λ (l : Line Op Shown). l.head) line_is ∙ head in
        subst (λ (x : Playing Kind Op Shown). MadeHere members keys p q x line at ask) (sym is)
        (same_asked p q p line i at ask' ask heads (record {
          told = one.line;
          lines = one.lines;
          head = one.head;
          answer = ap (λ (l : Line Op Shown). l.answer) (sym line_is);
          ends = AsTold (ap (λ (l : Line Op Shown). l.ended) (sym line_is));
          runs = runs;
          silent = silent;
          since = nothing_more p.events;
          on = subst (λ (x : Playing Kind Op Shown). Appends D (played D p s).events x.events) (sym goes.1) (nothing_more (played D p s).events);
        }))

    -- a client's
    module _ (p q : Playing Kind Op Shown) (clients : List (List (Command Op))) (told : List (Line Op Shown)) (goes : Plays D p (Threads clients) told q) (runs : Runs D members keys p) (c : ℕ) where
      abbrev pub Comes : Section Kind Op Shown → Client Op Shown → Type 0
      Comes there client = ComesAt D p clients goes.0 c there client

      module _ (there : Section Kind Op Shown) (client : Client Op Shown) (comes : Comes there client) where
        pub next : NextMade D members keys p runs clients goes.0 goes.1 goes.2 c there client comes
        next = next_made D members keys p runs clients goes.0 goes.1 goes.2 c there client comes

        abbrev pub its_made : Made Op Shown
        its_made = made_by next.command (played D there.playing (step_of next.command)).world next.one.line

        abbrev pub on : Section Kind Op Shown
        on = moved D there (NextCommand c)

        abbrev own : List (Command Op)
        own = (its_commands D members keys p runs clients goes.0 goes.1 goes.2 c there client comes).0

        lawful_rest : may_all_come D on comes.rest ≡ true
        lawful_rest = second_true (may_come D there (NextCommand c)) (may_all_come D on comes.rest) (lawful_there D members keys p runs clients goes.0 goes.1 goes.2 c there client comes)

        -- after more moves it stands there still
        still : (ms : List Move) → may_all_come D on ms ≡ true → (later : Client Op Shown) → slice_get (moved_all D on ms).clients c ≡ Some later → slice_get later.made (length client.made) ≡ Some its_made
        still ms lawful later its =
            let more = moves_make D members keys c own on ms next.after lawful next.has in
            let same : Some more.after ≡ Some later = sym more.has.its ∙ its in
            let one : more.after ≡ later = cc same in
            let made : later.made ≡ (client.made ++ its_made ∷ []) ++ more.more = ap (λ (x : Client Op Shown). x.made) (sym one) ∙ more.made ∙ ap (λ ls. ls ++ more.more) next.made in
            ap (λ ls. slice_get ls (length client.made)) made ∙ get_front (client.made ++ its_made ∷ []) more.more (length client.made) its_made (get_end client.made its_made)

        end_is : goes.1 ≡ moved_all D on comes.rest
        end_is = end_from D members keys p runs clients goes.0 goes.1 goes.2 c there client comes

        pub events_on : (ms : List Move) → Appends D (played D there.playing (step_of next.command)).events (moved_all D on ms).playing.events
        events_on ms = subst (λ (x : Playing Kind Op Shown). Appends D x.events (moved_all D on ms).playing.events) next.playing (all_appends D on ms)

        -- its line in the report
        line_is : (number : ℕ) → length client.made ≡ number → (line : Line Op Shown) → slice_get (lines_by (Some c) told) number ≡ Some line → client_line (world_of goes.1) c its_made ≡ line
        line_is number count line stands =
            let end = goes.1 in
            let last = later_made D members keys p runs clients goes.0 goes.1 goes.2 c there client comes in
            let kept : slice_get last.after.made (length client.made) ≡ Some its_made =
            still comes.rest lawful_rest last.after (subst (λ (s : Section Kind Op Shown). slice_get s.clients c ≡ Some last.after) end_is last.has.its) in
            let its_line : slice_get (map (client_line (world_of end) c) last.after.made) (length client.made) ≡ Some (client_line (world_of end) c its_made) = get_mapped (client_line (world_of end) c) last.after.made (length client.made) its_made kept in
            let lines_are : lines_by (Some c) told ≡ map (client_line (world_of end) c) last.after.made = ap (lines_by (Some c)) goes.3 ∙ lines_of_client end c last.after last.has.its in
            let both : Some (client_line (world_of end) c its_made) ≡ Some line = sym its_line ∙ ap (slice_get (map (client_line (world_of end) c) last.after.made)) count ∙ ap (λ ls. slice_get ls number) (sym lines_are) ∙ stands in
            cc both

        heads_are : (line : Line Op Shown) → client_line (world_of goes.1) c its_made ≡ line → (at : ℕ) (ask : Ask Op) → line.head ≡ Asked at ask → Asked next.command.at next.command.ask ≡ Asked at ask
        heads_are line is at ask head = sym next.one.head ∙ ap (λ (l : Line Op Shown). l.head) is ∙ head

        -- it ends as its operation stands
        ends_are : (line : Line Op Shown) → client_line (world_of goes.1) c its_made ≡ line → line.ended ≡ ending_of (q.world.nodes next.command.at) (pending_op next.one.line.answer)
        ends_are line is = ap (λ (l : Line Op Shown). l.ended) (sym is) ∙ ap (λ (x : Playing Kind Op Shown). ending_of (x.world.nodes next.command.at) (pending_op next.one.line.answer)) (sym goes.4)

        client_here : (here : Playing Kind Op Shown) → here ≡ there.playing → (number : ℕ) → length client.made ≡ number → (line : Line Op Shown) → slice_get (lines_by (Some c) told) number ≡ Some line
            → (at : ℕ) (ask : Ask Op) → line.head ≡ Asked at ask → MadeHere members keys p q here line at ask
        client_here here is number count line stands at ask head =
            let same = line_is number count line stands in
            let has = stands_there D members keys p runs clients goes.0 goes.1 goes.2 c there client comes in
            subst (λ (x : Playing Kind Op Shown). MadeHere members keys p q x line at ask) (sym is)
            (same_asked p q there.playing line next.command.at at next.command.ask ask (heads_are line same at ask head) (record {
              told = next.one.line;
              lines = next.one.lines;
              head = next.one.head;
              answer = ap (λ (l : Line Op Shown). l.answer) (sym same);
              ends = AsItStands (ends_are line same);
              runs = has.runs;
              silent = has.silent;
              since = subst (λ (s : Section Kind Op Shown). Appends D p.events s.playing.events) (sym comes.is) (all_appends D (opened p clients) comes.early);
              on = subst (λ (x : Playing Kind Op Shown). Appends D (played D there.playing (step_of next.command)).events x.events) (sym goes.4) (subst (λ (s : Section Kind Op Shown). Appends D (played D there.playing (step_of next.command)).events s.playing.events) (sym end_is) (events_on comes.rest));
            }))

      -- two commands of a client
      pub record InOrder (there : Section Kind Op Shown) (client : Client Op Shown) (comes : Comes there client) (there' : Section Kind Op Shown) (client' : Client Op Shown) : Type 0 where
        pub grows : Appends D (played D there.playing (step_of (next there client comes).command)).events there'.playing.events
        pub kept : slice_get client'.made (length client.made) ≡ Some (its_made there client comes)

      pub in_order : (there : Section Kind Op Shown) (client : Client Op Shown) (comes : Comes there client) (there' : Section Kind Op Shown) (client' : Client Op Shown) → Comes there' client' → length client.made < length client'.made → InOrder there client comes there' client'
      in_order there client comes there' client' comes' less = by (compared comes.early comes'.early (NextCommand c) (NextCommand c) comes.rest comes'.rest (sym comes.way ∙ comes'.way))
        where
          first : Section Kind Op Shown
          first = opened p clients

          lawful : may_all_come D (opened p clients) (comes'.early ++ NextCommand c ∷ comes'.rest) ≡ true
          lawful = subst (λ ms. may_all_come D (opened p clients) ms ≡ true) comes'.way goes.2.lawful

          at_once : (s : Section Kind Op Shown) → s ≡ there → slice_get s.clients c ≡ Some client' → ⊥
          at_once s is its =
              let same : Some client ≡ Some client' = sym comes.its ∙ ap (λ (x : Section Kind Op Shown). slice_get x.clients c) (sym is) ∙ its in
              let one : length client.made ≡ length client'.made = ap (λ (o : Option (Client Op Shown)). length {A = Made Op Shown} (elim o [ None ↦ [] | Some x ↦ x.made ])) same in
              omega (arith, less, one)

          by : Compared comes.early comes'.early (NextCommand c) (NextCommand c) → InOrder there client comes there' client'
          by (Before mid is) =
              let to_there : there' ≡ moved_all D (on there client comes) mid =
              comes'.is ∙ ap (moved_all D first) is ∙ moved-append D first comes.early (NextCommand c ∷ mid) ∙ ap (λ (s : Section Kind Op Shown). moved_all D s (NextCommand c ∷ mid)) (sym comes.is) in
              let until : may_all_come D first (comes.early ++ NextCommand c ∷ mid) ≡ true = subst (λ ms. may_all_come D first ms ≡ true) is (may_first D first comes'.early (NextCommand c ∷ comes'.rest) lawful) in
              let between : may_all_come D there (NextCommand c ∷ mid) ≡ true = subst (λ (s : Section Kind Op Shown). may_all_come D s (NextCommand c ∷ mid) ≡ true) (sym comes.is) (may_then D first comes.early (NextCommand c ∷ mid) until) in
              record {
                grows = subst (λ (s : Section Kind Op Shown). Appends D (played D there.playing (step_of (next there client comes).command)).events s.playing.events) (sym to_there) (events_on there client comes mid);
                kept = still there client comes mid (second_true (may_come D there (NextCommand c)) (may_all_come D (on there client comes) mid) between) client' (subst (λ (s : Section Kind Op Shown). slice_get s.clients c ≡ Some client') to_there comes'.its);
              }
          by (Same is) = absurd (at_once there' (comes'.is ∙ ap (moved_all D first) (sym is) ∙ sym comes.is) comes'.its)
          by (After mid is) =
              let to_here : there ≡ moved_all D there' (NextCommand c ∷ mid) =
              comes.is ∙ ap (moved_all D first) is ∙ moved-append D first comes'.early (NextCommand c ∷ mid) ∙ ap (λ (s : Section Kind Op Shown). moved_all D s (NextCommand c ∷ mid)) (sym comes'.is) in
              let until : may_all_come D first (comes'.early ++ NextCommand c ∷ mid) ≡ true =
              subst (λ ms. may_all_come D first ms ≡ true) is (may_first D first comes.early (NextCommand c ∷ comes.rest) (subst (λ ms. may_all_come D first ms ≡ true) comes.way goes.2.lawful)) in
              let between : may_all_come D there' (NextCommand c ∷ mid) ≡ true = subst (λ (s : Section Kind Op Shown). may_all_come D s (NextCommand c ∷ mid) ≡ true) (sym comes'.is) (may_then D first comes'.early (NextCommand c ∷ mid) until) in
              let more =
              moves_make D members keys c (its_commands D members keys p runs clients goes.0 goes.1 goes.2 c there' client' comes').0 there' (NextCommand c ∷ mid) client' between (stands_there D members keys p runs clients goes.0 goes.1 goes.2 c there' client' comes') in
              let same : Some more.after ≡ Some client = sym more.has.its ∙ ap (λ (s : Section Kind Op Shown). slice_get s.clients c) (sym to_here) ∙ comes.its in
              let one : more.after ≡ client = cc same in
              let longer : length client.made ≡ length client'.made + length more.more = ap (λ (x : Client Op Shown). length x.made) (sym one) ∙ ap length more.made ∙ length-append client'.made more.more in
              absurd (omega (arith, less, longer))

      -- what is told of the first stands when the second comes
      pub stands_when : (there : Section Kind Op Shown) (client : Client Op Shown) (comes : Comes there client) (there' : Section Kind Op Shown) (client' : Client Op Shown) → Comes there' client' → length client.made < length client'.made
          → ending_of (there'.playing.world.nodes (next there client comes).command.at) (pending_op (next there client comes).one.line.answer) ≡ ending_of (q.world.nodes (next there client comes).command.at) (pending_op (next there client comes).one.line.answer)
      stands_when there client comes there' client' comes' less =
          let order = in_order there client comes there' client' comes' less in
          let m = its_made there client comes in
          let stays = line_stays D members keys there'.playing goes.1.playing c m (goes_to_end D members keys p runs clients goes.0 goes.1 goes.2 c there' client' comes') (over_there D members keys p runs clients goes.0 goes.1 goes.2 c there' client' comes' (length client.made) m order.kept) in
          ap (λ (l : Line Op Shown). l.ended) stays ∙ ap (λ (x : Playing Kind Op Shown). ending_of (x.world.nodes m.at) (pending_op m.line.answer)) (sym goes.4)

    -- a client's earlier command, by its line
    pub record SeenBefore (here there : Playing Kind Op Shown) (line : Line Op Shown) (at : ℕ) (ask : Ask Op) : Type 0 where
      pub grows : Appends D (played D here (ScriptStep.Asks at ask)).events there.events
      pub ended : ending_of (there.world.nodes at) (pending_op line.answer) ≡ line.ended

    client_before : (p q : Playing Kind Op Shown) (clients : List (List (Command Op))) (told : List (Line Op Shown)) (goes : Plays D p (Threads clients) told q) (runs : Runs D members keys p) (c : ℕ) (here : Playing Kind Op Shown)
        (there : Section Kind Op Shown) (client : Client Op Shown) (comes : ComesAt D p clients goes.0 c there client) → here ≡ there.playing → (number : ℕ) → length client.made ≡ number
        → (here' : Playing Kind Op Shown) (there' : Section Kind Op Shown) (client' : Client Op Shown) → ComesAt D p clients goes.0 c there' client' → here' ≡ there'.playing → (number' : ℕ) → length client'.made ≡ number' → number < number'
        → (line : Line Op Shown) → slice_get (lines_by (Some c) told) number ≡ Some line → (at : ℕ) (ask : Ask Op) → line.head ≡ Asked at ask → SeenBefore here here' line at ask
    client_before p q clients told goes runs c here there client comes is number count here' there' client' comes' is' number' count' less line stands at ask head =
        let same = line_is p q clients told goes runs c there client comes number count line stands in
        let heads = heads_are p q clients told goes runs c there client comes line same at ask head in
        let its = next p q clients told goes runs c there client comes in
        let before : length client.made < length client'.made = omega (arith, count, count', less) in
        let order = in_order p q clients told goes runs c there client comes there' client' comes' before in
        let one : its.command.at ≡ at = cc heads in
        let two : its.command.ask ≡ ask = cc heads in
        let seen : SeenBefore there.playing there'.playing line its.command.at its.command.ask =
        record {
          grows = order.grows;
          ended = ap (λ (l : Line Op Shown). ending_of (there'.playing.world.nodes its.command.at) (pending_op l.answer)) (sym same) ∙ stands_when p q clients told goes runs c there client comes there' client' comes' before ∙ sym (ends_are p q clients told goes runs c there client comes line same);
        } in
        subst (λ (x : Playing Kind Op Shown). SeenBefore x here' line at ask) (sym is) (subst (λ (x : Playing Kind Op Shown). SeenBefore there.playing x line at ask) (sym is')
        (subst (λ a. SeenBefore there.playing there'.playing line at a) two (subst (λ j. SeenBefore there.playing there'.playing line j its.command.ask) one seen)))

    pub seen_before : (p q : Playing Kind Op Shown) (step : RunStep Op) (told : List (Line Op Shown)) (goes : Plays D p step told q) → Runs D members keys p → (c : ℕ) (here : Playing Kind Op Shown) (number : ℕ) → StandsIn D p step told q goes (Some c) number here
        → (here' : Playing Kind Op Shown) (number' : ℕ) → StandsIn D p step told q goes (Some c) number' here' → number < number' → (line : Line Op Shown) → slice_get (lines_by (Some c) told) number ≡ Some line → (at : ℕ) (ask : Ask Op) → line.head ≡ Asked at ask → SeenBefore here here' line at ask
    seen_before p q (Plain s) told goes runs c here number stands here' number' stands' less line there at ask head = absurd (own_none p q s told goes c number here stands)
      where
        own_none : (p q : Playing Kind Op Shown) (s : ScriptStep Op) (told : List (Line Op Shown)) (goes : Plays D p (Plain s) told q) (c number : ℕ) (here : Playing Kind Op Shown) → StandsIn D p (Plain s) told q goes (Some c) number here → ⊥
        own_none p q (ScriptStep.Asks i ask) told goes c number here stands = stands
        own_none p q s told goes c number here stands = stands
    seen_before p q (Threads clients) told goes runs c here number stands here' number' stands' less line there at ask head =
        client_before p q clients told goes runs c here stands.0 stands.1 stands.2 stands.4 number stands.3 here' stands'.0 stands'.1 stands'.2 stands'.4 number' stands'.3 less line there at ask head

    -- any command whose line stands there
    pub made_here : (p q here : Playing Kind Op Shown) (step : RunStep Op) (told : List (Line Op Shown)) (goes : Plays D p step told q) → Runs D members keys p → p.lines ≡ [] → (caller : Option ℕ) (number : ℕ) → StandsIn D p step told q goes caller number here
        → (line : Line Op Shown) → slice_get (lines_by caller told) number ≡ Some line → (at : ℕ) (ask : Ask Op) → line.head ≡ Asked at ask → MadeHere members keys p q here line at ask
    made_here p q here (Plain (ScriptStep.Asks i ask')) told goes runs silent None number stands line there at ask head = own_here p q here i ask' told goes runs silent stands.0 number stands.1 line there at ask head
    made_here p q here (Threads clients) told goes runs silent (Some c) number stands line there at ask head = client_here p q clients told goes runs c stands.0 stands.1 stands.2 here stands.4 number stands.3 line there at ask head
    made_here p q here step told goes runs silent caller number stands line there at ask head = absurd stands
