-- What a script plays is a run, its events are added to those before, and only ticks and settles bring prune ticks.
use Rattle.std.proofs.Common.{◌≡◌, ◌≢◌, ℕ, suc, ◌+◌, ◌<◌, List, [], ◌∷◌, ◌++◌, length, refl, sym, ap, subst, ◌∙◌, arith, Bool, true, false, Option, Some, None, append_assoc}
use Rattle.std.specs.Prelude.{⊤, ◌≤◌, if◌then◌else◌, slice_get, fold, not, filter, nat_lt, ◌==◌, is_some, option_map, option_and_then}
use Rattle.std.specs.List.{range_with_len, AllByRecursion}
use Rattle.std.proofs.lemmas.Bool.Decides.{nat_tests}
use Rattle.std.proofs.lemmas.Bool.{not-false, ltb-true}
use Rattle.model_history.specs.Table.{identity_limit}
use Rattle.model_members.specs.View.{View, is_member, is_taken, place_of, leader, identities_of}
use Rattle.model_members.specs.DataType.{Replication}
use Rattle.model_members.specs.Message.{Message}
use Rattle.model_members.specs.Node.{KeyDecl, Node, Input, Fate}
use Rattle.model_members.specs.Node.Fate.{NoStore, Stored, StoreFailed}
use Rattle.model_members.specs.Step.{is_full}
use Rattle.model_members.specs.World.{World, Event, Turn, views_of, message_at, turn_at, turn_of, output_of, stores, start, happens, run, IsLawful, AreLawful, IsGiven, StepsAt, FitsFate, IsRun}
use Rattle.model_members.specs.World.Event.{InputAt, Delivery, Loss, Removal, Joining}
use Rattle.model_members.specs.Script.{Ask, IsStep, called, ScriptStep, Head, Answer, Told, KeeperAnswers, Playing, Due, opening, did, did_plainly, output_lines, told, given, take_turn, next_answer, with_call, deliver, deliver_due, due_now, round_of, lose, remove, join, restart, asked, asked_by, unless_full, has_met_full, deliver_last, exchange, sweep, tick, install_last, is_older, settle, played, played_all, posted, last_number}
use Rattle.model_members.specs.Script.Head.{DeliverHead}
use Rattle.model_members.specs.Script.Answer.{HistoryFull}
use Rattle.theorem_runs.proofs.Keeping.{if_holds, if_tells, fold_all}
use Rattle.theorem_runs.specs.Logs.{IsNoTick}
use Rattle.model_history.proofs.HistoryLaws.{append_nothing}

not_empty : {X : Type 0} (xs : List X) → 0 < length xs → xs ≢ []
not_empty [] h = absurd (omega arith)
not_empty (x ∷ xs) h = λ e. absurd (cc e)

is_empty : {X : Type 0} (xs : List X) → nat_lt 0 (length xs) ≡ false → xs ≡ []
is_empty [] h = refl
is_empty (x ∷ xs) h = absurd (let p : 0 < suc (length xs) = omega arith in grind (arith, nat_tests))

module _ {Kind Op Shown : Type 0} (D : Replication Kind Op Shown) where
  run_pushed : (world : World Kind Op Shown) (events : List (Event Op)) (event : Event Op) → run D world (events ++ event ∷ []) ≡ happens D (run D world events) event
  run_pushed world [] event = refl
  run_pushed world (e ∷ events) event = run_pushed (happens D world e) events event

  lawful_pushed : (world : World Kind Op Shown) (events : List (Event Op)) (event : Event Op) → AreLawful D world events → IsLawful D (run D world events) event → AreLawful D world (events ++ event ∷ [])
  lawful_pushed world [] event all here = (here, tt)
  lawful_pushed world (e ∷ events) event all here = (all.0, lawful_pushed (happens D world e) events event all.1 here)

  -- a turn of this input is that of a running member
  pub record IsTurnAt (world : World Kind Op Shown) (i : ℕ) (input : Input Op) (turn : Turn Kind Op Shown) : Type 0 where
    pub runs : world.nodes i ≡ Some turn.before
    pub input_is : turn.input ≡ input

  turn_at_is : (world : World Kind Op Shown) (i : ℕ) (input : Input Op) (fate : Fate) (turn : Turn Kind Op Shown) → turn_at world i input fate ≡ Some turn → IsTurnAt world i input turn
  turn_at_is world i input fate turn e = by_node (world.nodes i) refl e
    where
      by_node : (o : Option (Node Kind Op Shown)) → world.nodes i ≡ o → option_map (λ (node : Node Kind Op Shown). record { at = i; before = node; input = input; fate = fate }) o ≡ Some turn → IsTurnAt world i input turn
      by_node None runs e = absurd (cc e)
      by_node (Some node) runs e =
          let same : record { at = i; before = node; input = input; fate = fate } ≡ turn = cc e in
          subst (IsTurnAt world i input) same (record { runs = runs; input_is = refl })

  steps_at : (world : World Kind Op Shown) (i : ℕ) (input : Input Op) (fate : Fate) (turn : Turn Kind Op Shown) → IsTurnAt world i input turn → is_full D turn.before ≡ false → FitsFate D turn.before turn.input fate → StepsAt D world i input fate
  steps_at world i input fate turn is room fits = record { node = turn.before; runs = is.runs; has_room = room; fate_fits = subst (λ (x : Input Op). FitsFate D turn.before x fate) is.input_is fits }

  -- what holds of the events and the world of a script goes on holding as allowed events happen
  pub record GoesOn (Q : List (Event Op) → World Kind Op Shown → Type 0) (Allowed : Event Op → Type 0) : Type 0 where
    pub quiet : (event : Event Op) → IsNoTick event → Allowed event
    pub goes_on : (events : List (Event Op)) (world : World Kind Op Shown) (event : Event Op) → IsLawful D world event → Allowed event → Q events world → Q (events ++ event ∷ []) (happens D world event)

  -- the step brings no prune tick, or these are allowed
  abbrev pub AllowsStep : (Event Op → Type 0) → ScriptStep Op → Type 0
  AllowsStep Allowed (ScriptStep.Asks i Ask.Tick) = (j : ℕ) (fate : Fate) → Allowed (InputAt j Input.PruneTick fate)
  AllowsStep Allowed ScriptStep.Settle = (j : ℕ) (fate : Fate) → Allowed (InputAt j Input.PruneTick fate)
  AllowsStep Allowed _ = ⊤

  module _ (Q : List (Event Op) → World Kind Op Shown → Type 0) (Allowed : Event Op → Type 0) (going : GoesOn Q Allowed) where
    abbrev Plays : Playing Kind Op Shown → Type 0
    Plays p = Q p.events p.world

    did_plays : (p : Playing Kind Op Shown) (event : Event Op) (lines : List (Told Op Shown)) → Allowed event → Plays p → IsLawful D p.world event → Plays (did D p event lines)
    did_plays p event lines allowed plays lawful = going.goes_on p.events p.world event lawful allowed plays

    plainly_plays : (p : Playing Kind Op Shown) (event : Event Op) (head : Head Op) (answer : Answer Shown) → Allowed event → Plays p → IsLawful D p.world event → Plays (did_plainly D p event head answer)
    plainly_plays p event head answer allowed plays lawful = going.goes_on p.events p.world event lawful allowed plays

    -- AN INPUT

    turn_plays : (p : Playing Kind Op Shown) (head : Head Op) (event : Fate → Event Op) (turn : Turn Kind Op Shown) → ((fate : Fate) → Allowed (event fate)) → ((fate : Fate) → FitsFate D turn.before turn.input fate → IsLawful D p.world (event fate)) → Plays p → Plays (take_turn D p head event turn)
    turn_plays p head event turn allowed lawful plays = by_test (nat_lt 0 (length (stores D turn.before turn.input))) refl
      where
        by_test : (b : Bool) → nat_lt 0 (length (stores D turn.before turn.input)) ≡ b
            → Plays (let fate = if b then (if next_answer p (place_of p.world.view turn.at) then Stored else StoreFailed) else NoStore in did D (if b then with_call p (place_of p.world.view turn.at) else p) (event fate) (output_lines D head (output_of D p.world (event fate))))
        by_test true e =
            let some = not_empty (stores D turn.before turn.input) (ltb-true 0 (length (stores D turn.before turn.input)) e) in
            let ok = next_answer p (place_of p.world.view turn.at) in
            let fate = if ok then Stored else StoreFailed in
            did_plays (with_call p (place_of p.world.view turn.at)) (event fate) (output_lines D head (output_of D p.world (event fate))) (allowed fate) plays (lawful fate (if_holds (FitsFate D turn.before turn.input) ok Stored StoreFailed some some))
        by_test false e = did_plays p (event NoStore) (output_lines D head (output_of D p.world (event NoStore))) (allowed NoStore) plays (lawful NoStore (is_empty (stores D turn.before turn.input) e))

    given_plays : (p : Playing Kind Op Shown) (head : Head Op) (event : Fate → Event Op) → ((fate : Fate) → Allowed (event fate))
        → ((turn : Turn Kind Op Shown) → turn_of p.world (event NoStore) ≡ Some turn → is_full D turn.before ≡ false → (fate : Fate) → FitsFate D turn.before turn.input fate → IsLawful D p.world (event fate)) → Plays p → Plays (given D p head event)
    given_plays p head event allowed lawful plays = by_turn (turn_of p.world (event NoStore)) refl
      where
        by_turn : (o : Option (Turn Kind Op Shown)) → turn_of p.world (event NoStore) ≡ o → Plays (elim o [ None ↦ told p head Answer.Gone | Some turn ↦ if is_full D turn.before then told p head HistoryFull else take_turn D p head event turn ])
        by_turn None e = plays
        by_turn (Some turn) e = if_tells (λ q. Q q.events q.world) (is_full D turn.before) (told p head HistoryFull) (take_turn D p head event turn) (λ full. plays) (λ room. turn_plays p head event turn allowed (lawful turn e room) plays)

    input_plays : (p : Playing Kind Op Shown) (head : Head Op) (i : ℕ) (input : Input Op) → ((fate : Fate) → Allowed (InputAt i input fate)) → IsGiven D p.world i input → Plays p → Plays (given D p head (InputAt i input))
    input_plays p head i input allowed is_given plays =
        given_plays p head (InputAt i input) allowed (λ turn e room fate fits. let t = turn_at_is p.world i input NoStore turn e in (is_given, steps_at p.world i input fate turn t room fits)) plays

    -- DELIVERIES

    message_plays : (p : Playing Kind Op Shown) (from to index : ℕ) (message : Message Op) → message_at p.world from to index ≡ Some message → Plays p → Plays (given D p (DeliverHead from to index (Some message)) (Delivery from to index))
    message_plays p from to index message is plays =
        given_plays p (DeliverHead from to index (Some message)) (Delivery from to index) (λ fate. going.quiet (Delivery from to index fate) tt)
        (λ turn e room fate fits.
        let t = turn_at_is p.world to (Input.Take from message) NoStore turn (sym (ap (option_and_then (λ (message : Message Op). turn_at p.world to (Input.Take from message) NoStore)) is) ∙ e) in
        (message, is, steps_at p.world to (Input.Take from message) fate turn t room fits)) plays

    deliver_plays : (p : Playing Kind Op Shown) (from to index : ℕ) → Plays p → Plays (deliver D p from to index)
    deliver_plays p from to index plays = if_holds (λ q. Q q.events q.world) (is_some (p.world.nodes to)) _ (told p (DeliverHead from to index None) Answer.Gone) (by_message (message_at p.world from to index) refl) plays
      where
        by_message : (o : Option (Message Op)) → message_at p.world from to index ≡ o → Plays (elim o [ None ↦ told p (DeliverHead from to index None) Answer.NoSuchMessage | Some message ↦ given D p (DeliverHead from to index (Some message)) (Delivery from to index) ])
        by_message None is = plays
        by_message (Some message) is = message_plays p from to index message is plays

    due_plays : (p : Playing Kind Op Shown) (due : Due) → Plays p → Plays (deliver_due D p due)
    due_plays p due plays = fold_all Plays (λ q index. deliver D q due.from due.to index) (λ q index h. deliver_plays q due.from due.to index h) (range_with_len due.first due.count) p plays

    round_plays : (p : Playing Kind Op Shown) (dues : List Due) → Plays p → Plays (round_of D p dues)
    round_plays p [] plays = plays
    round_plays p (due ∷ dues) plays = fold_all Plays (deliver_due D) due_plays (due ∷ dues) p plays

    -- LOSSES AND VIEWS

    lose_plays : (p : Playing Kind Op Shown) (from to : ℕ) → Plays p → Plays (lose D p from to)
    lose_plays p from to plays =
        let link = p.world.links from to in
        if_tells (λ q. Q q.events q.world) (nat_lt link.next (length link.messages)) (did_plainly D p (Loss from to) (Head.LoseHead from to link.next) Answer.Lost) (told p (Head.LoseHead from to link.next) Answer.NoSuchMessage)
        (λ e. plainly_plays p (Loss from to) (Head.LoseHead from to link.next) Answer.Lost (going.quiet (Loss from to) tt) plays (ltb-true link.next (length link.messages) e)) (λ e. plays)

    remove_plays : (p : Playing Kind Op Shown) (i : ℕ) → Plays p → Plays (remove D p i)
    remove_plays p i plays =
        let view = p.world.view in
        let done = did_plainly D p (Removal i) (Head.RemoveHead i) (Answer.NewView (view.number + 1)) in
        let last = told p (Head.RemoveHead i) Answer.LastMember in
        if_tells (λ q. Q q.events q.world) (not (is_member view i)) (told p (Head.RemoveHead i) Answer.Gone) (if nat_lt 1 (length view.members) then done else last) (λ e. plays)
        (λ member. if_tells (λ q. Q q.events q.world) (nat_lt 1 (length view.members)) done last
        (λ more. plainly_plays p (Removal i) (Head.RemoveHead i) (Answer.NewView (view.number + 1)) (going.quiet (Removal i) tt) plays (not-false (is_member view i) member, ltb-true 1 (length view.members) more)) (λ e. plays))

    called_plays : (p : Playing Kind Op Shown) (place : ℕ) (event : Event Op) (head : Head Op) (answer failed : Answer Shown) → Allowed event → IsLawful D p.world event → Plays p → Plays (called D p place event head answer failed)
    called_plays p place event head answer failed allowed lawful plays =
        let after = with_call p place in
        if_holds (λ q. Q q.events q.world) (next_answer p place) (did_plainly D after event head answer) (told after head failed) (plainly_plays after event head answer allowed plays lawful) plays

    join_plays : (p : Playing Kind Op Shown) (place : ℕ) → place < 8 → Plays p → Plays (join D p place)
    join_plays p place small plays =
        let view = p.world.view in
        let yes = called D p place (Joining place) (Head.JoinHead place) (Answer.NewIdentity view.given (view.number + 1)) Answer.ClearFailed in
        let no = told p (Head.JoinHead place) Answer.TooManyIdentities in
        if_tells (λ q. Q q.events q.world) (is_taken view place) (told p (Head.JoinHead place) Answer.PlaceTaken) (if nat_lt view.given identity_limit then yes else no) (λ e. plays)
        (λ free. if_tells (λ q. Q q.events q.world) (nat_lt view.given identity_limit) yes no
        (λ room. called_plays p place (Joining place) (Head.JoinHead place) (Answer.NewIdentity view.given (view.number + 1)) Answer.ClearFailed (going.quiet (Joining place) tt) (small, free, ltb-true view.given identity_limit room) plays) (λ e. plays))

    restart_plays : (p : Playing Kind Op Shown) (i : ℕ) → Plays p → Plays (restart D p i)
    restart_plays p i plays =
        let view = p.world.view in
        let yes = called D p (place_of view i) (Event.Restart i) (Head.RestartHead i) (Answer.NewIdentity view.given (view.number + 1)) Answer.LoadFailed in
        let no = told p (Head.RestartHead i) Answer.TooManyIdentities in
        if_tells (λ q. Q q.events q.world) (not (is_member view i)) (told p (Head.RestartHead i) Answer.Gone) (if nat_lt view.given identity_limit then yes else no) (λ e. plays)
        (λ member. if_tells (λ q. Q q.events q.world) (nat_lt view.given identity_limit) yes no
        (λ room. called_plays p (place_of view i) (Event.Restart i) (Head.RestartHead i) (Answer.NewIdentity view.given (view.number + 1)) Answer.LoadFailed (going.quiet (Event.Restart i) tt) (not-false (is_member view i) member, ltb-true view.given identity_limit room) plays) (λ e. plays))

    install_plays : (p : Playing Kind Op Shown) (i number : ℕ) → Plays p → Plays (asked D p i (Ask.Install number))
    install_plays p i number plays = by_view (slice_get (views_of p.world) number) refl
      where
        by_view : (o : Option View) → slice_get (views_of p.world) number ≡ o → Plays (asked_by D p i (Ask.Install number) (option_map Input.Install o))
        by_view None e = plays
        by_view (Some view) e = input_plays p (Head.Asked i (Ask.Install number)) i (Input.Install view) (λ fate. going.quiet (InputAt i (Input.Install view) fate) tt) (number, e) plays

    -- SETTLING

    unless_plays : (f : Playing Kind Op Shown → Playing Kind Op Shown) (p : Playing Kind Op Shown) → Plays (f p) → Plays p → Plays (unless_full D f p)
    unless_plays f p then_plays plays = if_holds (λ q. Q q.events q.world) (has_met_full p) p (f p) plays then_plays

    last_plays : (before from to : ℕ) (p : Playing Kind Op Shown) → Plays p → Plays (deliver_last D before from to p)
    last_plays before from to p plays =
        let f = λ (q : Playing Kind Op Shown). deliver D q from to (last_number q from to) in
        if_holds (λ q. Q q.events q.world) (before == posted p) p (unless_full D f p) plays (unless_plays f p (deliver_plays p from to (last_number p from to) plays) plays)

    exchange_plays : (lead : ℕ) (p : Playing Kind Op Shown) (i : ℕ) → Plays p → Plays (exchange D lead p i)
    exchange_plays lead p i plays =
        let gossip = λ (q : Playing Kind Op Shown). given D q (Head.Asked i (Ask.Gossip lead)) (InputAt i (Input.GossipTo lead)) in
        let one = unless_full D gossip p in
        let two = deliver_last D (posted p) i lead one in
        let three = deliver_last D (posted one) lead i two in
        last_plays (posted two) i lead three
        (last_plays (posted one) lead i two
        (last_plays (posted p) i lead one (unless_plays gossip p (input_plays p (Head.Asked i (Ask.Gossip lead)) i (Input.GossipTo lead) (λ fate. going.quiet (InputAt i (Input.GossipTo lead) fate) tt) tt plays) plays)))

    sweep_plays : (p : Playing Kind Op Shown) → Plays p → Plays (sweep D p)
    sweep_plays p plays =
        let view = p.world.view in
        fold_all Plays (exchange D (leader view)) (exchange_plays (leader view)) (filter (λ i. not (i == leader view)) (identities_of view)) p plays

    tick_plays : ((j : ℕ) (fate : Fate) → Allowed (InputAt j Input.PruneTick fate)) → (p : Playing Kind Op Shown) → Plays p → Plays (tick D p)
    tick_plays ticks p plays =
        let f = λ (q : Playing Kind Op Shown). given D q (Head.Asked (leader q.world.view) Ask.Tick) (InputAt (leader q.world.view) Input.PruneTick) in
        unless_plays f p (input_plays p (Head.Asked (leader p.world.view) Ask.Tick) (leader p.world.view) Input.PruneTick (ticks (leader p.world.view)) tt plays) plays

    last_is_there : (views : List View) (view : View) → slice_get (views ++ view ∷ []) (length views) ≡ Some view
    last_is_there [] view = refl
    last_is_there (v ∷ views) view = last_is_there views view

    install_last_plays : (p : Playing Kind Op Shown) (i : ℕ) → Plays p → Plays (install_last D p i)
    install_last_plays p i plays =
        let view = p.world.view in
        let f = λ (q : Playing Kind Op Shown). given D q (Head.Asked i (Ask.Install view.number)) (InputAt i (Input.Install view)) in
        if_holds (λ q. Q q.events q.world) (is_older D view (p.world.nodes i)) (unless_full D f p) p
        (unless_plays f p (input_plays p (Head.Asked i (Ask.Install view.number)) i (Input.Install view) (λ fate. going.quiet (InputAt i (Input.Install view) fate) tt) (length p.world.earlier, last_is_there p.world.earlier view) plays) plays) plays

    settle_plays : ((j : ℕ) (fate : Fate) → Allowed (InputAt j Input.PruneTick fate)) → (p : Playing Kind Op Shown) → Plays p → Plays (settle D p)
    settle_plays ticks p plays =
        let begun = record p { lines = [] } in
        let installed = fold (install_last D) begun (identities_of p.world.view) in
        let swept = sweep D (sweep D installed) in
        let again = sweep D (tick D swept) in
        sweep_plays (tick D again) (tick_plays ticks again (sweep_plays (tick D swept) (tick_plays ticks swept (sweep_plays (sweep D installed) (sweep_plays installed
        (fold_all Plays (install_last D) install_last_plays (identities_of p.world.view) begun plays))))))

    -- A STEP OF A SCRIPT, AND ALL

    pub played_plays : (p : Playing Kind Op Shown) (s : ScriptStep Op) → IsStep s → AllowsStep Allowed s → Plays p → Plays (played D p s)
    played_plays p (ScriptStep.Asks i (Ask.Update key op level)) ok allows plays = input_plays p (Head.Asked i (Ask.Update key op level)) i (Input.Update key op level) (λ fate. going.quiet (InputAt i (Input.Update key op level) fate) tt) tt plays
    played_plays p (ScriptStep.Asks i (Ask.Get key level)) ok allows plays = input_plays p (Head.Asked i (Ask.Get key level)) i (Input.Get key level) (λ fate. going.quiet (InputAt i (Input.Get key level) fate) tt) tt plays
    played_plays p (ScriptStep.Asks i Ask.Flush) ok allows plays = input_plays p (Head.Asked i Ask.Flush) i Input.Flush (λ fate. going.quiet (InputAt i Input.Flush fate) tt) tt plays
    played_plays p (ScriptStep.Asks i (Ask.Gossip to)) ok allows plays = input_plays p (Head.Asked i (Ask.Gossip to)) i (Input.GossipTo to) (λ fate. going.quiet (InputAt i (Input.GossipTo to) fate) tt) tt plays
    played_plays p (ScriptStep.Deliver from to None) ok allows plays = deliver_plays p from to (p.world.links from to).next plays
    played_plays p (ScriptStep.Deliver from to (Some index)) ok allows plays = deliver_plays p from to index plays
    played_plays p (ScriptStep.Lose from to) ok allows plays = lose_plays p from to plays
    played_plays p ScriptStep.Round ok allows plays = round_plays p (due_now D p) plays
    played_plays p (ScriptStep.Asks i Ask.Tick) ok allows plays = input_plays p (Head.Asked i Ask.Tick) i Input.PruneTick (allows i) tt plays
    played_plays p (ScriptStep.Timeout i op) ok allows plays = input_plays p (Head.TimeoutHead i op) i (Input.Timeout op) (λ fate. going.quiet (InputAt i (Input.Timeout op) fate) tt) tt plays
    played_plays p (ScriptStep.Remove i) ok allows plays = remove_plays p i plays
    played_plays p (ScriptStep.Join place) ok allows plays = join_plays p place ok plays
    played_plays p (ScriptStep.Restart i) ok allows plays = restart_plays p i plays
    played_plays p (ScriptStep.Asks i (Ask.Install view)) ok allows plays = install_plays p i view plays
    played_plays p ScriptStep.Settle ok allows plays = settle_plays allows p plays

    pub all_play : (p : Playing Kind Op Shown) (steps : List (ScriptStep Op)) → AllByRecursion IsStep steps → AllByRecursion (AllowsStep Allowed) steps → Plays p → Plays (played_all D p steps)
    all_play p [] ok allows plays = plays
    all_play p (s ∷ steps) ok allows plays = all_play (record (played D p s) { lines = [] }) steps ok.1 allows.1 (played_plays p s ok.0 allows.0 plays)

  -- EACH STEP IS ALLOWED WHERE TICKS ARE

  allows_any : (Allowed : Event Op → Type 0) → ((event : Event Op) → Allowed event) → (s : ScriptStep Op) → AllowsStep Allowed s
  allows_any Allowed all (ScriptStep.Asks i (Ask.Update key op level)) = tt
  allows_any Allowed all (ScriptStep.Asks i (Ask.Get key level)) = tt
  allows_any Allowed all (ScriptStep.Asks i Ask.Flush) = tt
  allows_any Allowed all (ScriptStep.Asks i (Ask.Gossip to)) = tt
  allows_any Allowed all (ScriptStep.Deliver from to index) = tt
  allows_any Allowed all (ScriptStep.Lose from to) = tt
  allows_any Allowed all ScriptStep.Round = tt
  allows_any Allowed all (ScriptStep.Asks i Ask.Tick) = λ j fate. all (InputAt j Input.PruneTick fate)
  allows_any Allowed all (ScriptStep.Timeout i op) = tt
  allows_any Allowed all (ScriptStep.Remove i) = tt
  allows_any Allowed all (ScriptStep.Join place) = tt
  allows_any Allowed all (ScriptStep.Restart i) = tt
  allows_any Allowed all (ScriptStep.Asks i (Ask.Install view)) = tt
  allows_any Allowed all ScriptStep.Settle = λ j fate. all (InputAt j Input.PruneTick fate)

  allows_all : (Allowed : Event Op → Type 0) → ((event : Event Op) → Allowed event) → (steps : List (ScriptStep Op)) → AllByRecursion (AllowsStep Allowed) steps
  allows_all Allowed all [] = tt
  allows_all Allowed all (s ∷ steps) = (allows_any Allowed all s, allows_all Allowed all steps)

  -- A RUN

  module _ (members : ℕ) (keys : List (KeyDecl Kind)) where
    is_run : GoesOn (IsRun D members keys) (λ event. ⊤)
    is_run =
        record {
          quiet = λ event calm. tt;
          goes_on = λ events world event lawful allowed before. record {
            some = before.some;
            few = before.few;
            lawful = lawful_pushed (start members keys) events event before.lawful (subst (λ w. IsLawful D w event) before.leads lawful);
            leads = ap (λ w. happens D w event) before.leads ∙ sym (run_pushed (start members keys) events event);
          };
        }

    -- the run of a script before its first step
    pub no_events : (answers : KeeperAnswers) → 1 ≤ members → members ≤ identity_limit → IsRun D members keys (opening {Op = Op} {Shown = Shown} answers members keys).events (opening {Op = Op} {Shown = Shown} answers members keys).world
    no_events answers some few = record { some = some; few = few; lawful = tt; leads = refl }

    pub played_is_run : (p : Playing Kind Op Shown) (steps : List (ScriptStep Op)) → AllByRecursion IsStep steps → IsRun D members keys p.events p.world → IsRun D members keys (played_all D p steps).events (played_all D p steps).world
    played_is_run p steps ok = all_play (IsRun D members keys) (λ event. ⊤) is_run p steps ok (allows_all (λ event. ⊤) (λ event. tt) steps)

    pub step_is_run : (p : Playing Kind Op Shown) (s : ScriptStep Op) → IsStep s → IsRun D members keys p.events p.world → IsRun D members keys (played D p s).events (played D p s).world
    step_is_run p s ok = played_plays (IsRun D members keys) (λ event. ⊤) is_run p s ok (allows_any (λ event. ⊤) (λ event. tt) s)

    pub deliver_is_run : (p : Playing Kind Op Shown) (from to index : ℕ) → IsRun D members keys p.events p.world → IsRun D members keys (deliver D p from to index).events (deliver D p from to index).world
    deliver_is_run p from to index = deliver_plays (IsRun D members keys) (λ event. ⊤) is_run p from to index

  -- EVENTS ARE ADDED

  -- there are more events than these
  abbrev pub Appends : List (Event Op) → List (Event Op) → Type 0
  Appends events later = (more : List (Event Op)) × (later ≡ events ++ more)

  module _ (before : List (Event Op)) where
    abbrev AppendsTo : List (Event Op) → World Kind Op Shown → Type 0
    AppendsTo events world = Appends before events

    appends : GoesOn AppendsTo (λ event. ⊤)
    appends =
        record {
          quiet = λ event calm. tt;
          goes_on = λ events world event lawful allowed so_far. (so_far.0 ++ event ∷ [], ap (λ es. es ++ event ∷ []) so_far.1 ∙ append_assoc before so_far.0 (event ∷ []));
        }

  nothing_more : (events : List (Event Op)) → Appends events events
  nothing_more events = ([], sym (append_nothing events))

  pub deliver_appends : (p : Playing Kind Op Shown) (from to index : ℕ) → Appends p.events (deliver D p from to index).events
  deliver_appends p from to index = deliver_plays (AppendsTo p.events) (λ event. ⊤) (appends p.events) p from to index (nothing_more p.events)

  pub due_appends : (p : Playing Kind Op Shown) (due : Due) → Appends p.events (deliver_due D p due).events
  due_appends p due = due_plays (AppendsTo p.events) (λ event. ⊤) (appends p.events) p due (nothing_more p.events)

  pub played_appends : (p : Playing Kind Op Shown) (s : ScriptStep Op) → IsStep s → Appends p.events (played D p s).events
  played_appends p s ok = played_plays (AppendsTo p.events) (λ event. ⊤) (appends p.events) p s ok (allows_any (λ event. ⊤) (λ event. tt) s) (nothing_more p.events)

  pub all_append : (p : Playing Kind Op Shown) (steps : List (ScriptStep Op)) → AllByRecursion IsStep steps → Appends p.events (played_all D p steps).events
  all_append p steps ok = all_play (AppendsTo p.events) (λ event. ⊤) (appends p.events) p steps ok (allows_all (λ event. ⊤) (λ event. tt) steps) (nothing_more p.events)

  -- events that are added to added ones
  pub appends_more : (first second third : List (Event Op)) → Appends first second → Appends second third → Appends first third
  appends_more first second third a b = (a.0 ++ b.0, b.1 ∙ ap (λ es. es ++ b.0) a.1 ∙ append_assoc first a.0 b.0)

  -- NO TICKS

  -- a step that is neither a tick nor a settle
  abbrev pub IsQuietStep : ScriptStep Op → Type 0
  IsQuietStep s = AllowsStep (λ event. ⊥) s

  allows_quiet : (s : ScriptStep Op) → IsQuietStep s → AllowsStep IsNoTick s
  allows_quiet (ScriptStep.Asks i (Ask.Update key op level)) calm = tt
  allows_quiet (ScriptStep.Asks i (Ask.Get key level)) calm = tt
  allows_quiet (ScriptStep.Asks i Ask.Flush) calm = tt
  allows_quiet (ScriptStep.Asks i (Ask.Gossip to)) calm = tt
  allows_quiet (ScriptStep.Deliver from to index) calm = tt
  allows_quiet (ScriptStep.Lose from to) calm = tt
  allows_quiet ScriptStep.Round calm = tt
  allows_quiet (ScriptStep.Asks i Ask.Tick) calm = λ j fate. absurd (calm j fate)
  allows_quiet (ScriptStep.Timeout i op) calm = tt
  allows_quiet (ScriptStep.Remove i) calm = tt
  allows_quiet (ScriptStep.Join place) calm = tt
  allows_quiet (ScriptStep.Restart i) calm = tt
  allows_quiet (ScriptStep.Asks i (Ask.Install view)) calm = tt
  allows_quiet ScriptStep.Settle calm = λ j fate. absurd (calm j fate)

  all_quiet : (steps : List (ScriptStep Op)) → AllByRecursion IsQuietStep steps → AllByRecursion (AllowsStep IsNoTick) steps
  all_quiet [] calm = tt
  all_quiet (s ∷ steps) calm = (allows_quiet s calm.0, all_quiet steps calm.1)

  one_more : (events : List (Event Op)) (event : Event Op) → AllByRecursion IsNoTick events → IsNoTick event → AllByRecursion IsNoTick (events ++ event ∷ [])
  one_more [] event all here = (here, tt)
  one_more (e ∷ events) event all here = (all.0, one_more events event all.1 here)

  has_no_ticks : GoesOn (λ events world. AllByRecursion IsNoTick events) IsNoTick
  has_no_ticks = record { quiet = λ event calm. calm; goes_on = λ events world event lawful calm all. one_more events event all calm }

  -- a script without ticks and settles brings no prune tick
  pub no_ticks : (p : Playing Kind Op Shown) (steps : List (ScriptStep Op)) → AllByRecursion IsStep steps → AllByRecursion IsQuietStep steps → AllByRecursion IsNoTick p.events → AllByRecursion IsNoTick (played_all D p steps).events
  no_ticks p steps ok calm = all_play (λ events world. AllByRecursion IsNoTick events) IsNoTick has_no_ticks p steps ok (all_quiet steps calm)
