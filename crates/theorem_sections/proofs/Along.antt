-- A script that has come some way along the entries in run order, and the next entry.
use Rattle.std.proofs.Common.{◌≡◌, ◌≢◌, ℕ, suc, ◌+◌, List, [], ◌∷◌, ◌++◌, length, map, refl, sym, ap, subst, ◌∙◌, arith, Option, Some, None, ⊎_elim, length-append}
use Rattle.std.specs.Prelude.{if◌then◌else◌, is_some, option_map, IsTrue}
use Rattle.std.proofs.lemmas.List.{append_assoc, append-nil, map-append}
use Rattle.model_history.specs.Table.{with_at}
use Rattle.model_history.proofs.HistoryLaws.{with_at_other}
use Rattle.model_history.proofs.CutLaws.{with_at_is}
use Rattle.model_members.specs.View.{is_member, place_of}
use Rattle.model_members.specs.DataType.{Replication}
use Rattle.model_members.specs.Message.{Message}
use Rattle.model_members.specs.Node.{Node, Input, Output, Fate, Stepped}
use Rattle.model_members.specs.Node.Fate.{NoStore, Stored, StoreFailed}
use Rattle.model_members.specs.Node.Input.{Take}
use Rattle.model_members.specs.Step.{step}
use Rattle.model_members.specs.World.{World, Event, views_of, message_at, moved_on, happens, after_step, run, FitsFate, turn_of}
use Rattle.model_members.specs.World.Event.{InputAt, Delivery}
use Rattle.model_members.specs.Script.{Playing, ScriptStep, Told, Head, Answer, played, told}
use Rattle.model_members.proofs.Cases.{stepped_at, delivered}
use Rattle.theorem_sections.specs.Histories.{Entry, Placed, Passed, event_of, due_after, posted_to, taken_from, entries_at, events_of, sent_so_far, AreSteps, replayed}
use Rattle.theorem_sections.proofs.NextDue.{same_or_not, table_here, table_else}
use Rattle.theorem_sections.proofs.RunOrder.{Going, its_steps, input_goes, take_goes, entries-append, entries_here, entries_else, posted-append, taken-append, takes_none, takes_here, takes_else, messages_on, sent_on, posts_of, posts_messages, moved_messages, posts_are_sent, at_both}
use Rattle.theorem_sections.proofs.Untils.{replayed-append}
use Rattle.theorem_sections.specs.Paths.{answered_in}
use Rattle.theorem_operations.proofs.PlayedInputs.{turn_by, input_turn, delivery_turn}
use Rattle.theorem_sections.proofs.Givens.{given_to, given_fate, deliver_message, message_given}
use Rattle.theorem_sections.proofs.Moves.{Keeping, IsKept, HasAnswer, after_fate, has_answer, keeps_on, given_is, TakesNone, kept_as}

module _ {Kind Op Shown : Type 0} where
  fate_world : (p : Playing Kind Op Shown) (place : ℕ) (fate : Fate) → (after_fate p place fate).world ≡ p.world
  fate_world p place NoStore = refl
  fate_world p place Stored = refl
  fate_world p place StoreFailed = refl

  fate_lines : (p : Playing Kind Op Shown) (place : ℕ) (fate : Fate) → (after_fate p place fate).lines ≡ p.lines
  fate_lines p place NoStore = refl
  fate_lines p place Stored = refl
  fate_lines p place StoreFailed = refl

  fate_events : (p : Playing Kind Op Shown) (place : ℕ) (fate : Fate) → (after_fate p place fate).events ≡ p.events
  fate_events p place NoStore = refl
  fate_events p place Stored = refl
  fate_events p place StoreFailed = refl

module _ {Kind Op Shown : Type 0} (D : Replication Kind Op Shown) (world : World Kind Op Shown) (histories : ℕ → List (Entry Op Shown)) (placed : List (Placed Op Shown)) (keeping : Keeping Op) where
  abbrev pub base : ℕ → ℕ → ℕ
  base a b = length (messages_on world.links a b)

  -- the script after some entries, with these to come
  pub record Along (p : Playing Kind Op Shown) (due : ℕ → ℕ → ℕ) (done rest : List (Placed Op Shown)) : Type 0 where
    pub going : Going D world.view (views_of world) p.world due rest
    pub whole : (i : ℕ) → IsTrue (is_member world.view i) → entries_at i done ++ entries_at i rest ≡ histories i
    pub nodes : (i : ℕ) → p.world.nodes i ≡ option_map (λ b. replayed D b (entries_at i done)) (world.nodes i)
    pub due_is : (a b : ℕ) → due a b ≡ base a b + length (taken_from a (entries_at b done))
    pub sent : (a b : ℕ) → messages_on p.world.links a b ≡ messages_on world.links a b ++ map (λ (m : Passed Op). m.message) (posted_to b (entries_at a done))
    pub keepers : (place : ℕ) → IsKept keeping p (answered_in world.view rest place) place
    pub lines : p.lines ≡ []
    pub events : p.events ++ events_of due rest ≡ keeping.early ++ events_of (sent_so_far world) placed
    pub far : run D p.world (events_of due rest) ≡ run D world (events_of (sent_so_far world) placed)

  option_step : (es : List (Entry Op Shown)) (e : Entry Op Shown) (o : Option (Node Kind Op Shown))
      → option_map (λ b. replayed D b (es ++ e ∷ [])) o ≡ option_map (λ m. (step D m e.input e.fate).node) (option_map (λ b. replayed D b es) o)
  option_step es e None = refl
  option_step es e (Some b) = ap Some (replayed-append D b es (e ∷ []))

  module _ (p : Playing Kind Op Shown) (due : ℕ → ℕ → ℕ) (done : List (Placed Op Shown)) (x : Placed Op Shown) (rest : List (Placed Op Shown)) (along : Along p due done (x ∷ rest)) where
    abbrev pub its : (n : Node Kind Op Shown) × (p.world.nodes x.at ≡ Some n) × AreSteps D n (x.entry ∷ entries_at x.at rest)
    its = its_steps D world.view (views_of world) p.world due x rest along.going

    abbrev pub its_step : Stepped Kind Op Shown
    its_step = step D its.0 x.entry.input x.entry.fate

    abbrev pub pushed : List (Placed Op Shown)
    pushed = done ++ x ∷ []

    pushed_here : (i : ℕ) → x.at ≡ i → entries_at i pushed ≡ entries_at i done ++ x.entry ∷ []
    pushed_here i is = entries-append i done (x ∷ []) ∙ ap (λ es. entries_at i done ++ es) (entries_here i x [] is)

    pushed_else : (i : ℕ) → x.at ≢ i → entries_at i pushed ≡ entries_at i done
    pushed_else i isnt = entries-append i done (x ∷ []) ∙ ap (λ es. entries_at i done ++ es) (entries_else i x [] isnt) ∙ append-nil (entries_at i done)

    module _ (w : World Kind Op Shown) (same : w.nodes ≡ p.world.nodes) (messages : (a b : ℕ) → messages_on w.links a b ≡ messages_on p.world.links a b) where
      abbrev next : World Kind Op Shown
      next = after_step w x.at its.0 x.entry.fate its_step

      next_nodes : (i : ℕ) → next.nodes i ≡ option_map (λ b. replayed D b (entries_at i pushed)) (world.nodes i)
      next_nodes i = ⊎_elim
          (λ (is : i ≡ x.at).
          with_at_is w.nodes x.at (Some its_step.node) i is
          ∙ ap (option_map (λ m. (step D m x.entry.input x.entry.fate).node)) (sym its.1 ∙ along.nodes x.at)
          ∙ sym (option_step (entries_at x.at done) x.entry (world.nodes x.at))
          ∙ ap (λ es. option_map (λ b. replayed D b es) (world.nodes x.at)) (sym (pushed_here x.at refl))
          ∙ ap (λ j. option_map (λ b. replayed D b (entries_at j pushed)) (world.nodes j)) (sym is))
          (λ isnt.
          with_at_other w.nodes x.at (Some its_step.node) i isnt ∙ ap (λ f. f i) same ∙ along.nodes i ∙ ap (λ es. option_map (λ b. replayed D b es) (world.nodes i)) (sym (pushed_else i (λ e. isnt (sym e)))))
          (same_or_not i x.at)

      next_sent : (a b : ℕ) → messages_on next.links a b ≡ messages_on world.links a b ++ map (λ (m : Passed Op). m.message) (posted_to b (entries_at a pushed))
      next_sent a b =
          let told : List (Passed Op) → List (Message Op) = map (λ (m : Passed Op). m.message) in
          posts_messages x.at w.links its_step.output.posts a b
          ∙ ap (λ ms. ms ++ sent_on x.at its_step.output.posts a b) (messages a b ∙ along.sent a b)
          ∙ append_assoc (messages_on world.links a b) (told (posted_to b (entries_at a done))) (sent_on x.at its_step.output.posts a b)
          ∙ ap (λ ms. messages_on world.links a b ++ ms)
          (ap (λ ms. told (posted_to b (entries_at a done)) ++ ms) (sym (posts_are_sent x a b ∙ ap (λ (o : Output Op Shown). sent_on x.at o.posts a b) its.2.2))
          ∙ sym (map-append (λ (m : Passed Op). m.message) (posted_to b (entries_at a done)) (posts_of x a b))
          ∙ ap told (sym (ap (posted_to b) (entries-append a done (x ∷ [])) ∙ posted-append b (entries_at a done) (entries_at a (x ∷ [])))))

    next_whole : (i : ℕ) → IsTrue (is_member world.view i) → entries_at i pushed ++ entries_at i rest ≡ histories i
    next_whole i mi =
        ap (λ es. es ++ entries_at i rest) (entries-append i done (x ∷ []))
        ∙ append_assoc (entries_at i done) (entries_at i (x ∷ [])) (entries_at i rest)
        ∙ ap (λ es. entries_at i done ++ es) (sym (entries-append i (x ∷ []) rest)) ∙ along.whole i mi

    next_due : (due' : ℕ → ℕ → ℕ) (a b : ℕ) → due' a b ≡ due a b + length (taken_from a (entries_at b (x ∷ []))) → due' a b ≡ base a b + length (taken_from a (entries_at b pushed))
    next_due due' a b is =
        let e = along.due_is a b in
        let l : length (taken_from a (entries_at b pushed)) ≡ length (taken_from a (entries_at b done)) + length (taken_from a (entries_at b (x ∷ []))) =
        ap length (ap (taken_from a) (entries-append b done (x ∷ [])) ∙ taken-append a (entries_at b done) (entries_at b (x ∷ []))) ∙ length-append (taken_from a (entries_at b done)) (taken_from a (entries_at b (x ∷ []))) in
        omega (arith, is, e, l)

    -- what the entry is told as
    abbrev pub its_line : Head Op → Told Op Shown
    its_line head = record { head = head; answer = Answer.Replied x.entry.output.reply; posts = x.entry.output.posts; ended = x.entry.output.ended }

    pub record PlaysEntry (head : Head Op) (q : Playing Kind Op Shown) (due' : ℕ → ℕ → ℕ) : Type 0 where
      pub after : Along (record q { lines = [] }) due' pushed rest
      pub line : q.lines ≡ its_line head ∷ []

    abbrev its_place : ℕ
    its_place = place_of p.world.view x.at

    abbrev its_view : place_of world.view x.at ≡ its_place
    its_view = ap (λ v. place_of v x.at) (sym along.going.same_view)

    module _ (input : Input Op) (is : x.entry.input ≡ input) (head : Head Op) (event : Fate → Event Op) (turn : turn_of p.world (event x.entry.fate) ≡ Some (turn_by x.at its.0 input x.entry.fate)) where
      abbrev fated : Playing Kind Op Shown
      fated = after_fate p its_place x.entry.fate

      abbrev given_now : Playing Kind Op Shown
      given_now = given_fate D fated head event (step D its.0 input x.entry.fate) x.entry.fate

      pub played_is : given_to D p head event x.at input (p.world.nodes x.at) ≡ given_now
      played_is =
          ap (given_to D p head event x.at input) its.1
          ∙ given_is D p head event x.at input its.0 x.entry.fate (subst (λ i. FitsFate D its.0 i x.entry.fate) is its.2.1)
          (subst (λ q. HasAnswer p q x.entry.fate) its_view (has_answer keeping p world.view x rest along.keepers)) its.2.0 turn

      line_is : given_now.lines ≡ its_line head ∷ []
      line_is =
          ap (λ ls. ls ++ record { head = head; answer = Answer.Replied (step D its.0 input x.entry.fate).output.reply; posts = (step D its.0 input x.entry.fate).output.posts; ended = (step D its.0 input x.entry.fate).output.ended } ∷ []) (fate_lines p its_place x.entry.fate ∙ along.lines)
          ∙ ap (λ (o : Output Op Shown). record { head = head; answer = Answer.Replied o.reply; posts = o.posts; ended = o.ended } ∷ []) (ap (λ i. (step D its.0 i x.entry.fate).output) (sym is) ∙ sym its.2.2)

      keepers_are : (place : ℕ) → IsKept keeping fated (answered_in world.view rest place) place
      keepers_are = subst (λ q. (place : ℕ) → IsKept keeping (after_fate p q x.entry.fate) (answered_in world.view rest place) place) its_view (keeps_on keeping p world.view x rest along.keepers)

      plays_entry : (w : World Kind Op Shown) (due' : ℕ → ℕ → ℕ) → w.nodes ≡ p.world.nodes → ((a b : ℕ) → messages_on w.links a b ≡ messages_on p.world.links a b)
          → ((a b : ℕ) → due' a b ≡ due a b + length (taken_from a (entries_at b (x ∷ [])))) → Going D world.view (views_of world) (after_step w x.at its.0 x.entry.fate its_step) due' rest
          → happens D p.world (event x.entry.fate) ≡ after_step w x.at its.0 x.entry.fate its_step
          → events_of due (x ∷ rest) ≡ event x.entry.fate ∷ events_of due' rest → PlaysEntry head (given_to D p head event x.at input (p.world.nodes x.at)) due'
      plays_entry w due' same messages dues goes happens_so events =
          let comes : given_now.world ≡ after_step w x.at its.0 x.entry.fate its_step = ap (λ v. happens D v (event x.entry.fate)) (fate_world p its_place x.entry.fate) ∙ happens_so in
          subst (λ q. PlaysEntry head q due') (sym played_is)
          (record {
            line = line_is;
            after = record {
              going = subst (λ v. Going D world.view (views_of world) v due' rest) (sym comes) goes;
              whole = next_whole;
              nodes = λ i. ap (λ (v : World Kind Op Shown). v.nodes i) comes ∙ next_nodes w same messages i;
              due_is = λ a b. next_due due' a b (dues a b);
              sent = λ a b. ap (λ (v : World Kind Op Shown). messages_on v.links a b) comes ∙ next_sent w same messages a b;
              keepers = λ place. kept_as keeping fated (record given_now { lines = [] }) (answered_in world.view rest place) place refl refl (keepers_are place);
              lines = refl;
              events = ap (λ es. (es ++ event x.entry.fate ∷ []) ++ events_of due' rest) (fate_events p its_place x.entry.fate) ∙ append_assoc p.events (event x.entry.fate ∷ []) (events_of due' rest) ∙ ap (λ es. p.events ++ es) (sym events) ∙ along.events;
              far = ap (λ v. run D v (events_of due' rest)) (comes ∙ sym happens_so) ∙ ap (run D p.world) (sym events) ∙ along.far;
            };
          })

    -- AN INPUT OF A CLIENT

    pub input_plays : (input : Input Op) → x.entry.input ≡ input → TakesNone input → (head : Head Op) → PlaysEntry head (given_to D p head (InputAt x.at input) x.at input (p.world.nodes x.at)) due
    input_plays input is none head =
        plays_entry input is head (InputAt x.at input) (input_turn p.world x.at its.0 input x.entry.fate its.1) p.world due refl (λ a b. refl)
        (λ a b. let e = ap length (takes_none x a b input is (none.none a x.entry.stamp)) in omega (arith, e))
        (input_goes D world.view (views_of world) p.world due x rest along.going input is (λ i. none.none i x.entry.stamp))
        (ap (λ o. stepped_at D p.world x.at o input x.entry.fate) its.1 ∙ ap (λ i. after_step p.world x.at its.0 x.entry.fate (step D its.0 i x.entry.fate)) (sym is))
        (ap (λ i. event_of due x.at x.entry.fate i ∷ events_of (due_after due x.at i) rest) is ∙ ap (λ e. e ∷ events_of (due_after due x.at input) rest) (none.event due x.at x.entry.fate) ∙ ap (λ d. InputAt x.at input x.entry.fate ∷ events_of d rest) (none.due due x.at))

    -- A MESSAGE

    module _ (from : ℕ) (message : Message Op) (is : x.entry.input ≡ Take from message) (member : IsTrue (is_member world.view from)) where
      abbrev index : ℕ
      index = due from x.at

      abbrev pub due_then : ℕ → ℕ → ℕ
      due_then = with_at due from (with_at (due from) x.at (suc index))

      pub there : message_at p.world from x.at index ≡ Some message
      there = (take_goes D world.view (views_of world) p.world due x rest along.going from message is member).0

      dues : (a b : ℕ) → due_then a b ≡ due a b + length (taken_from a (entries_at b (x ∷ [])))
      dues = at_both from x.at (λ a b. due_then a b ≡ due a b + length (taken_from a (entries_at b (x ∷ []))))
          (let e = table_here due from x.at (suc index) from x.at refl refl in let l = ap length (takes_here x from x.at message is refl) in omega (arith, e, l))
          (λ a b away. let e = table_else due from x.at (suc index) a b away in let l = ap length (takes_else x a b from message is away) in omega (arith, e, l))

      pub take_plays : PlaysEntry (Head.DeliverHead from x.at index (Some message)) (played D p (ScriptStep.Deliver from x.at (Some index))) due_then
      take_plays =
          let moved : World Kind Op Shown = record p.world { links = moved_on p.world.links from x.at index } in
          subst (λ q. PlaysEntry (Head.DeliverHead from x.at index (Some message)) q due_then)
          (sym (ap (λ o. if is_some o then deliver_message D p from x.at index (message_at p.world from x.at index) else told p (Head.DeliverHead from x.at index None) Answer.Gone) its.1
          ∙ message_given D p from x.at index message there))
          (plays_entry (Take from message) is (Head.DeliverHead from x.at index (Some message)) (Delivery from x.at index) (delivery_turn p.world from x.at index message its.0 x.entry.fate there its.1) moved due_then refl (λ a b. moved_messages p.world.links from x.at index a b) dues
          (take_goes D world.view (views_of world) p.world due x rest along.going from message is member).1
          (ap (λ o. delivered D p.world from x.at index o x.entry.fate) there ∙ ap (λ o. stepped_at D moved x.at o (Take from message) x.entry.fate) its.1
          ∙ ap (λ i. after_step moved x.at its.0 x.entry.fate (step D its.0 i x.entry.fate)) (sym is))
          (ap (λ i. event_of due x.at x.entry.fate i ∷ events_of (due_after due x.at i) rest) is))
