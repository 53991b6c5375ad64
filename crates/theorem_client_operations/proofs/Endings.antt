-- How an operation of a member stands along events in which nobody leaves, joins or restarts: by what event it finishes, and that nothing is told of it once it is closed, or its member full.
--     NodeThen, node_then        a member by one event
--     finish_found        the event by which an operation finished
--     IsOverAt, over_stays        closed, or its member is full; and what is told of it from then on
--     IsUnder, under_stays        its number was given
use Rattle.std.proofs.Common.{◌≡◌, ◌≢◌, ◌⊎◌, inl, inr, ⊎_elim, ℕ, suc, ◌<◌, ◌≤◌, List, [], ◌∷◌, ◌++◌, refl, sym, ap, subst, ◌∙◌, arith, Bool, true, false, true≢false, Option, Some, None}
use Rattle.std.specs.Prelude.{⊤, ◌==◌, ◌&&◌, if◌then◌else◌, find, slice_get, nat_le, length, option_map}
use Rattle.std.specs.List.{AllByRecursion}
use Rattle.std.specs.Option.{option_or}
use Rattle.std.specs.Str.{bytes_eq}
use Rattle.std.proofs.lemmas.Bool.Decides.{eqb_tells}
use Rattle.std.proofs.lemmas.List.Folds.{find-append}
use Rattle.model_history.specs.Table.{with_at}
use Rattle.model_history.specs.Texts.{Text}
use Rattle.model_history.specs.Vector.{members_of}
use Rattle.model_history.proofs.HistoryLaws.{with_at_same, with_at_other}
use Rattle.model_members.specs.View.{is_member}
use Rattle.model_members.specs.Entry.{Entry}
use Rattle.model_members.specs.DataType.{Replication}
use Rattle.model_members.specs.Message.{Message}
use Rattle.model_members.specs.Message.Message.{WriteAck, ReadAnswer}
use Rattle.model_members.specs.Node.{Node, OpenOperation, Finished, Input, Fate, Reply, Stepped, one_step_later}
use Rattle.model_members.specs.Node.Input.{Take}
use Rattle.model_members.specs.Step.{step, is_full, with_answer, answered, counted, is_answered_by, took, after_entries, keyed_option, result_of}
use Rattle.model_members.specs.World.{World, Links, Event, Turn, happens, run, turn_of, message_at, moved_on, IsLawful, AreLawful}
use Rattle.model_members.specs.World.Event.{InputAt, Delivery, Loss, Removal, Joining, Restart}
use Rattle.model_members.proofs.Cases.{stepped_at, delivered, counted_for}
use Rattle.theorem_runs.proofs.Keeping.{if_holds}
use Rattle.theorem_operations.specs.Quorum.{KeepsMembers, Finishes}
use Rattle.theorem_operations.proofs.Operations.{Change, IsAnswer, step_tells, entries_same}
use Rattle.theorem_operations.proofs.Operations.Change.{Unchanged, Pushed, CountedFor, EndedFor, Dropped}
use Rattle.theorem_operations.proofs.Operations.IsAnswer.{Acked, ReadBack}
use Rattle.theorem_operations.proofs.PlayedInputs.{turn_by, input_turn, delivery_turn}
use Rattle.theorem_operations.proofs.Turns.{MakesStep}
use Rattle.theorem_operations.proofs.Turns.MakesStep.{ByInput, ByDelivery}
use Rattle.theorem_sections.specs.Sections.{is_open, finished_at, ending_by, ending_of, Ending}
use Rattle.theorem_sections.proofs.Questions.{number_grows, closed_stays}
use Rattle.theorem_sections.proofs.Standing.{closed_finished}

-- A MEMBER BY ONE EVENT

module _ {Kind Op Shown : Type 0} (D : Replication Kind Op Shown) where
  -- a running member is as it was, or has made a step
  pub data NodeThen (world next : World Kind Op Shown) (event : Event Op) (i : ℕ) (n : Node Kind Op Shown) : Type 0 where
    IsTheSame : next.nodes i ≡ Some n → NodeThen world next event i n
    HasStepped : (input : Input Op) (fate : Fate) → is_full D n ≡ false → MakesStep world event i input fate → next.nodes i ≡ Some (step D n input fate).node → NodeThen world next event i n

  stepped_then : (world : World Kind Op Shown) (links : Links Op) (event : Event Op) (t i : ℕ) (o : Option (Node Kind Op Shown)) (input : Input Op) (fate : Fate) (n : Node Kind Op Shown) → world.nodes t ≡ o → MakesStep world event t input fate
      → ((m : Node Kind Op Shown) → o ≡ Some m → is_full D m ≡ false) → world.nodes i ≡ Some n → NodeThen world (stepped_at D (record world { links = links }) t o input fate) event i n
  stepped_then world links event t i None input fate n is makes room runs = IsTheSame runs
  stepped_then world links event t i (Some old) input fate n is makes room runs = elim (eqb_tells i t) [
    | inl same ↦
        let there : Some old ≡ Some n = sym is ∙ ap world.nodes (sym same.1) ∙ runs in
        let one : old ≡ n = cc there in
        HasStepped input fate (subst (λ (m : Node Kind Op Shown). is_full D m ≡ false) one (room old refl)) (subst (λ j. MakesStep world event j input fate) (sym same.1) makes)
        (ap (with_at world.nodes t (Some (step D old input fate).node)) same.1 ∙ with_at_same world.nodes t (Some (step D old input fate).node) ∙ ap (λ (m : Node Kind Op Shown). Some (step D m input fate).node) one)
    | inr isnt ↦ IsTheSame (with_at_other world.nodes t (Some (step D old input fate).node) i isnt.1 ∙ runs)
  ]

  pub node_then : (world : World Kind Op Shown) (event : Event Op) → IsLawful D world event → KeepsMembers event → (i : ℕ) (n : Node Kind Op Shown) → world.nodes i ≡ Some n → NodeThen world (happens D world event) event i n
  node_then world (InputAt t input fate) lawful keeps i n runs =
      stepped_then world world.links (InputAt t input fate) t i (world.nodes t) input fate n refl (ByInput refl)
      (λ m there. let same : Some lawful.1.node ≡ Some m = sym lawful.1.runs ∙ there in let one : lawful.1.node ≡ m = cc same in subst (λ (x : Node Kind Op Shown). is_full D x ≡ false) one lawful.1.has_room) runs
  node_then world (Delivery from to index fate) lawful keeps i n runs =
      let event : Event Op = Delivery from to index fate in
      subst (λ (o : Option (Message Op)). NodeThen world (delivered D world from to index o fate) event i n) (sym lawful.1)
      (stepped_then world (moved_on world.links from to index) event to i (world.nodes to) (Take from lawful.0) fate n refl (ByDelivery from index lawful.0 refl lawful.1 refl)
      (λ m there. let same : Some lawful.2.node ≡ Some m = sym lawful.2.runs ∙ there in let one : lawful.2.node ≡ m = cc same in subst (λ (x : Node Kind Op Shown). is_full D x ≡ false) one lawful.2.has_room) runs)
  node_then world (Loss from to) lawful keeps i n runs = IsTheSame runs
  node_then world (Removal j) lawful keeps i n runs = absurd keeps
  node_then world (Joining place) lawful keeps i n runs = absurd keeps
  node_then world (Restart j) lawful keeps i n runs = absurd keeps

  -- who doesn't run doesn't run then
  none_stepped : (world : World Kind Op Shown) (links : Links Op) (t i : ℕ) (o : Option (Node Kind Op Shown)) (input : Input Op) (fate : Fate) → world.nodes t ≡ o → world.nodes i ≡ None → (stepped_at D (record world { links = links }) t o input fate).nodes i ≡ None
  none_stepped world links t i None input fate is none = none
  none_stepped world links t i (Some old) input fate is none = elim (eqb_tells i t) [
    | inl same ↦ absurd (let e = sym is ∙ ap world.nodes (sym same.1) ∙ none in cc e)
    | inr isnt ↦ with_at_other world.nodes t (Some (step D old input fate).node) i isnt.1 ∙ none
  ]

  none_delivered : (world : World Kind Op Shown) (from to index i : ℕ) (o : Option (Message Op)) (fate : Fate) → world.nodes i ≡ None → (delivered D world from to index o fate).nodes i ≡ None
  none_delivered world from to index i None fate none = none
  none_delivered world from to index i (Some message) fate none = none_stepped world (moved_on world.links from to index) to i (world.nodes to) (Take from message) fate refl none

  pub none_then : (world : World Kind Op Shown) (event : Event Op) → KeepsMembers event → (i : ℕ) → world.nodes i ≡ None → (happens D world event).nodes i ≡ None
  none_then world (InputAt t input fate) keeps i none = none_stepped world world.links t i (world.nodes t) input fate refl none
  none_then world (Delivery from to index fate) keeps i none = none_delivered world from to index i (message_at world from to index) fate none
  none_then world (Loss from to) keeps i none = none
  none_then world (Removal j) keeps i none = absurd keeps
  none_then world (Joining place) keeps i none = absurd keeps
  none_then world (Restart j) keeps i none = absurd keeps

  -- WHAT FINISHES IS TOLD

  -- nothing finishes, or what the output tells
  abbrev Finish : Node Kind Op Shown → Stepped Kind Op Shown → Type 0
  Finish n s = (s.node.finished ≡ n.finished) ⊎ ((end : Finished Shown) × (s.output.ended ≡ Some end) × (s.node.finished ≡ n.finished ++ end ∷ []))

  counted_finish : (n : Node Kind Op Shown) (s : Stepped Kind Op Shown) (from : ℕ) (o : Option OpenOperation) → s.node.finished ≡ n.finished → Finish n (counted_for D s from o)
  counted_finish n s from None same = inl same
  counted_finish n s from (Some o) same =
      if_holds (Finish n) (nat_le o.needed (length (members_of (with_answer from o).counted))) _ _
      (inr (record { op = o.op; result = result_of D s.node o }, refl, ap (λ (fs : List (Finished Shown)). fs ++ record { op = o.op; result = result_of D s.node o } ∷ []) same)) (inl same)

  acked : (n : Node Kind Op Shown) (from op : ℕ) (fate : Fate) → Finish n (step D n (Take from (WriteAck op)) fate)
  acked n from op fate =
      if_holds (Finish n) (is_member n.view from) (counted D (answered (one_step_later n) Reply.Taken) from (is_answered_by false op)) (answered (one_step_later n) Reply.NotFromMember)
      (counted_finish n (answered (one_step_later n) Reply.Taken) from (find (is_answered_by false op) n.open_operations) refl) (inl refl)

  read_back : (n : Node Kind Op Shown) (from op : ℕ) (key : Text) (entry : Option (Entry Op)) (fate : Fate) → Finish n (step D n (Take from (ReadAnswer op key entry)) fate)
  read_back n from op key entry fate =
      let later = one_step_later n in
      let after = after_entries later (keyed_option D key entry) in
      let test : OpenOperation → Bool = λ o. is_answered_by true op o && bytes_eq o.key key in
      if_holds (Finish n) (is_member n.view from) (counted D (took D later after fate [] []) from test) (answered later Reply.NotFromMember)
      (counted_finish n (took D later after fate [] []) from (find test after.open_operations) (entries_same D later (keyed_option D key entry)).finished) (inl refl)

  pub finish_told : (n : Node Kind Op Shown) (input : Input Op) (fate : Fate) → Finish n (step D n input fate)
  finish_told n input fate = by (step_tells D n input fate).change
    where
      by_answer : (from : ℕ) (o : OpenOperation) → IsAnswer input from o → Finish n (step D n input fate)
      by_answer from o (Acked is reads) = subst (λ (x : Input Op). Finish n (step D n x fate)) (sym is) (acked n from o.op fate)
      by_answer from o (ReadBack entry is reads) = subst (λ (x : Input Op). Finish n (step D n x fate)) (sym is) (read_back n from o.op o.key entry fate)

      by : Change D n (step D n input fate).node input → Finish n (step D n input fate)
      by (Unchanged a b) = inl b
      by (Pushed o e a b) = inl b
      by (CountedFor from o c few a b) = inl b
      by (EndedFor from o end c e a b) = by_answer from o c.answer
      by (Dropped m e a b) = inl b

  -- RESULTS

  abbrev pub result_at : ℕ → Node Kind Op Shown → Option (Finished Shown)
  result_at op n = find (λ (f : Finished Shown). f.op == op) n.finished

  result_front : (op : ℕ) (fs gs : List (Finished Shown)) (f : Finished Shown) → find (λ (x : Finished Shown). x.op == op) fs ≡ Some f → find (λ (x : Finished Shown). x.op == op) (fs ++ gs) ≡ Some f
  result_front op fs gs f e = find-append (λ (x : Finished Shown). x.op == op) fs gs ∙ ap (λ o. option_or o (find (λ (x : Finished Shown). x.op == op) gs)) e

  -- a result stays
  result_step : (op : ℕ) (n : Node Kind Op Shown) (input : Input Op) (fate : Fate) (f : Finished Shown) → result_at op n ≡ Some f → result_at op (step D n input fate).node ≡ Some f
  result_step op n input fate f has = by (finish_told n input fate)
    where
      by : Finish n (step D n input fate) → result_at op (step D n input fate).node ≡ Some f
      by (inl same) = ap (find (λ (x : Finished Shown). x.op == op)) same ∙ has
      by (inr (end, told, grown)) = ap (find (λ (x : Finished Shown). x.op == op)) grown ∙ result_front op n.finished (end ∷ []) f has

  pub result_stays : (world : World Kind Op Shown) (events : List (Event Op)) → AreLawful D world events → AllByRecursion KeepsMembers events → (i op : ℕ) (n : Node Kind Op Shown) → world.nodes i ≡ Some n → (f : Finished Shown) → result_at op n ≡ Some f
      → (m : Node Kind Op Shown) × ((run D world events).nodes i ≡ Some m) × (result_at op m ≡ Some f)
  result_stays world [] lawful keeps i op n runs f has = (n, runs, has)
  result_stays world (event ∷ events) lawful keeps i op n runs f has = elim (node_then world event lawful.0 keeps.0 i n runs) [
    | IsTheSame next ↦ result_stays (happens D world event) events lawful.1 keeps.1 i op n next f has
    | HasStepped input fate room makes next ↦ result_stays (happens D world event) events lawful.1 keeps.1 i op (step D n input fate).node next f (result_step op n input fate f has)
  ]

  -- THE EVENT BY WHICH AN OPERATION FINISHED

  pub record FinishedAmong (world : World Kind Op Shown) (events : List (Event Op)) (i : ℕ) (f : Finished Shown) : Type 0 where
    pub early : List (Event Op)
    pub event : Event Op
    pub rest : List (Event Op)
    pub way : events ≡ early ++ event ∷ rest
    pub finishes : Finishes D (run D world early) event i f

  its_turn : (world : World Kind Op Shown) (event : Event Op) (i : ℕ) (n : Node Kind Op Shown) (input : Input Op) (fate : Fate) → world.nodes i ≡ Some n → MakesStep world event i input fate → turn_of world event ≡ Some (turn_by i n input fate)
  its_turn world event i n input fate runs (ByInput is) = ap (turn_of world) is ∙ input_turn world i n input fate runs
  its_turn world event i n input fate runs (ByDelivery from index message is sent takes) =
      ap (turn_of world) is ∙ delivery_turn world from i index message n fate sent runs ∙ ap (λ (x : Input Op). Some (turn_by i n x fate)) (sym takes)

  finish_next : (world : World Kind Op Shown) (event : Event Op) (events : List (Event Op)) (i : ℕ) (f : Finished Shown) → FinishedAmong (happens D world event) events i f → FinishedAmong world (event ∷ events) i f
  finish_next world event events i f h = record { early = event ∷ h.early; event = h.event; rest = h.rest; way = ap (λ es. event ∷ es) h.way; finishes = h.finishes }

  pub finish_found : (world : World Kind Op Shown) (events : List (Event Op)) → AreLawful D world events → AllByRecursion KeepsMembers events → (i op : ℕ) (n : Node Kind Op Shown) → world.nodes i ≡ Some n → result_at op n ≡ None
      → (m : Node Kind Op Shown) → (run D world events).nodes i ≡ Some m → (f : Finished Shown) → result_at op m ≡ Some f → FinishedAmong world events i f
  finish_found world [] lawful keeps i op n runs none m after f has =
      let same : Some n ≡ Some m = sym runs ∙ after in
      let one : n ≡ m = cc same in
      absurd (let e = sym none ∙ ap (result_at op) one ∙ has in cc e)
  finish_found world (event ∷ events) lawful keeps i op n runs none m after f has =
      by (λ x there without. finish_next world event events i f (finish_found (happens D world event) events lawful.1 keeps.1 i op x there without m after f has)) (node_then world event lawful.0 keeps.0 i n runs)
    where
      Further : Type 0
      Further = (x : Node Kind Op Shown) → (happens D world event).nodes i ≡ Some x → result_at op x ≡ None → FinishedAmong world (event ∷ events) i f

      at_end : (end : Finished Shown) → find (λ (x : Finished Shown). x.op == op) (n.finished ++ end ∷ []) ≡ (if end.op == op then Some end else None)
      at_end end = find-append (λ (x : Finished Shown). x.op == op) n.finished (end ∷ []) ∙ ap (λ o. option_or o (find (λ (x : Finished Shown). x.op == op) (end ∷ []))) none

      stepped : Further → (input : Input Op) (fate : Fate) → MakesStep world event i input fate → (happens D world event).nodes i ≡ Some (step D n input fate).node → Finish n (step D n input fate) → FinishedAmong world (event ∷ events) i f
      stepped further input fate makes there (inl same) = further (step D n input fate).node there (ap (find (λ (x : Finished Shown). x.op == op)) same ∙ none)
      stepped further input fate makes there (inr (end, told, grown)) = elim (eqb_tells end.op op) [
        | inl is ↦
            let here : result_at op (step D n input fate).node ≡ Some end = ap (find (λ (x : Finished Shown). x.op == op)) grown ∙ at_end end ∙ ap (λ b. if b then Some end else None) is.0 in
            let kept = result_stays (happens D world event) events lawful.1 keeps.1 i op (step D n input fate).node there end here in
            let same : Some kept.0 ≡ Some m = sym kept.1 ∙ after in
            let one : kept.0 ≡ m = cc same in
            let ends : Some end ≡ Some f = sym kept.2 ∙ ap (result_at op) one ∙ has in
            let end_is : end ≡ f = cc ends in
            record {
              early = [];
              event = event;
              rest = events;
              way = refl;
              finishes = record { turn = turn_by i n input fate; takes = its_turn world event i n input fate runs makes; its = refl; ended = told ∙ ap Some end_is };
            }
        | inr isnt ↦ further (step D n input fate).node there (ap (find (λ (x : Finished Shown). x.op == op)) grown ∙ at_end end ∙ ap (λ b. if b then Some end else None) isnt.0)
      ]

      by : Further → NodeThen world (happens D world event) event i n → FinishedAmong world (event ∷ events) i f
      by further (IsTheSame there) = further n there none
      by further (HasStepped input fate room makes there) = stepped further input fate makes there (finish_told n input fate)

  -- NUMBERS THAT WERE GIVEN

  abbrev pub IsUnder : ℕ → Option (Node Kind Op Shown) → Type 0
  IsUnder op None = ⊤
  IsUnder op (Some n) = op < n.next_op

  under_next : (world : World Kind Op Shown) (event : Event Op) → IsLawful D world event → KeepsMembers event → (i op : ℕ) (o : Option (Node Kind Op Shown)) → world.nodes i ≡ o → IsUnder op o → IsUnder op ((happens D world event).nodes i)
  under_next world event lawful keeps i op None is under = subst (IsUnder op) (sym (none_then world event keeps i is)) tt
  under_next world event lawful keeps i op (Some n) is under = by (node_then world event lawful keeps i n is)
    where
      by : NodeThen world (happens D world event) event i n → IsUnder op ((happens D world event).nodes i)
      by (IsTheSame there) = subst (IsUnder op) (sym there) under
      by (HasStepped input fate room makes there) = subst (IsUnder op) (sym there) (let a = number_grows D n input fate in omega (arith, a, under))

  pub under_stays : (world : World Kind Op Shown) (events : List (Event Op)) → AreLawful D world events → AllByRecursion KeepsMembers events → (i op : ℕ) → IsUnder op (world.nodes i) → IsUnder op ((run D world events).nodes i)
  under_stays world [] lawful keeps i op under = under
  under_stays world (event ∷ events) lawful keeps i op under = under_stays (happens D world event) events lawful.1 keeps.1 i op (under_next world event lawful.0 keeps.0 i op (world.nodes i) refl under)

  -- CLOSED OPERATIONS, AND FULL MEMBERS

  abbrev pub IsOverAt : ℕ → Option (Node Kind Op Shown) → Type 0
  IsOverAt op None = ⊤
  IsOverAt op (Some n) = ((is_open op (Some n) ≡ false) × (op < n.next_op)) ⊎ (is_full D n ≡ true)

  abbrev pub IsOverSo : ℕ → Option (Node Kind Op Shown) → Option (Node Kind Op Shown) → Type 0
  IsOverSo op o p = IsOverAt op p × (ending_of o (Some op) ≡ ending_of p (Some op))

  -- what is told of a closed operation depends on its result alone
  told_closed : (op : ℕ) (n m : Node Kind Op Shown) → is_open op (Some n) ≡ false → is_open op (Some m) ≡ false → finished_at op (Some m) ≡ finished_at op (Some n) → ending_of (Some n) (Some op) ≡ ending_of (Some m) (Some op)
  told_closed op n m a b same = by (finished_at op (Some n)) ∙ ap (λ o. Some (ending_by op (Some m) o)) (sym same)
    where
      by : (o : Option (Finished Shown)) → Some (ending_by op (Some n) o) ≡ Some (ending_by op (Some m) o)
      by None = ap (λ z. Some (if z then Ending.LeftOpen op else Ending.TimedOut op)) (a ∙ sym b)
      by (Some f) = refl

  over_next : (world : World Kind Op Shown) (event : Event Op) → IsLawful D world event → KeepsMembers event → (i op : ℕ) (o : Option (Node Kind Op Shown)) → world.nodes i ≡ o → IsOverAt op o → IsOverSo op o ((happens D world event).nodes i)
  over_next world event lawful keeps i op None is over = subst (IsOverSo op None) (sym (none_then world event keeps i is)) (tt, refl)
  over_next world event lawful keeps i op (Some n) is over = by (node_then world event lawful keeps i n is)
    where
      stepped : (input : Input Op) (fate : Fate) → is_full D n ≡ false → ((is_open op (Some n) ≡ false) × (op < n.next_op)) ⊎ (is_full D n ≡ true) → IsOverSo op (Some n) (Some (step D n input fate).node)
      stepped input fate room (inl (closed, under)) =
          let still = closed_stays D n input fate op under closed in
          (inl (still, (let a = number_grows D n input fate in omega (arith, a, under))), told_closed op n (step D n input fate).node closed still (closed_finished D n input fate op closed))
      stepped input fate room (inr full) = absurd (true≢false (sym full ∙ room))

      by : NodeThen world (happens D world event) event i n → IsOverSo op (Some n) ((happens D world event).nodes i)
      by (IsTheSame there) = subst (IsOverSo op (Some n)) (sym there) (over, refl)
      by (HasStepped input fate room makes there) = subst (IsOverSo op (Some n)) (sym there) (stepped input fate room over)

  pub over_stays : (world : World Kind Op Shown) (events : List (Event Op)) → AreLawful D world events → AllByRecursion KeepsMembers events → (i op : ℕ) → IsOverAt op (world.nodes i) → IsOverSo op (world.nodes i) ((run D world events).nodes i)
  over_stays world [] lawful keeps i op over = (over, refl)
  over_stays world (event ∷ events) lawful keeps i op over =
      let next = over_next world event lawful.0 keeps.0 i op (world.nodes i) refl over in
      let after = over_stays (happens D world event) events lawful.1 keeps.1 i op next.0 in
      (after.0, next.1 ∙ after.1)
