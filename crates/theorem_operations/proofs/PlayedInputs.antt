-- Inputs and deliveries of a script at work: each is one event, unless a history is full.
use Rattle.std.proofs.Common.{◌≡◌, ℕ, [], ◌∷◌, ◌++◌, length, refl, sym, ap, subst, ◌∙◌, Bool, true, false, Option, Some, None}
use Rattle.std.specs.Prelude.{if◌then◌else◌, nat_lt, is_some, option_map, option_and_then}
use Rattle.std.proofs.lemmas.Bool.{ltb-true}
use Rattle.model_members.specs.View.{place_of}
use Rattle.model_members.specs.DataType.{Replication}
use Rattle.model_members.specs.Message.{Message}
use Rattle.model_members.specs.Node.{Node, Input, Fate}
use Rattle.model_members.specs.Node.Fate.{NoStore, Stored, StoreFailed}
use Rattle.model_members.specs.Node.Input.{Take}
use Rattle.model_members.specs.Step.{is_full}
use Rattle.model_members.specs.World.{World, Event, Turn, happens, message_at, turn_at, turn_of, output_of, stores, FitsFate}
use Rattle.model_members.specs.World.Event.{InputAt, Delivery}
use Rattle.model_members.specs.Script.{Playing, Head, told, next_answer, with_call, given, take_turn, did, output_lines, deliver, Answer}
use Rattle.model_members.specs.Script.Head.{DeliverHead}
use Rattle.model_members.specs.Script.Answer.{HistoryFull, NoSuchMessage, Gone}
use Rattle.theorem_runs.proofs.Keeping.{if_holds, if_tells}
use Rattle.theorem_operations.proofs.Lists.{not_empty, is_empty}

-- a turn of this member with this input
abbrev pub turn_by : {Kind Op Shown : Type 0} → ℕ → Node Kind Op Shown → Input Op → Fate → Turn Kind Op Shown
turn_by i node input fate = record { at = i; before = node; input = input; fate = fate }

module _ {Kind Op Shown : Type 0} (world : World Kind Op Shown) where
  pub input_turn : (i : ℕ) (node : Node Kind Op Shown) (input : Input Op) (fate : Fate) → world.nodes i ≡ Some node → turn_of world (InputAt i input fate) ≡ Some (turn_by i node input fate)
  input_turn i node input fate runs = ap (option_map (λ (node : Node Kind Op Shown). turn_by i node input fate)) runs

  pub delivery_turn : (from to index : ℕ) (message : Message Op) (node : Node Kind Op Shown) (fate : Fate) → message_at world from to index ≡ Some message → world.nodes to ≡ Some node → turn_of world (Delivery from to index fate) ≡ Some (turn_by to node (Take from message) fate)
  delivery_turn from to index message node fate sent runs =
      ap (option_and_then (λ (message : Message Op). turn_at world to (Take from message) fate)) sent ∙ ap (option_map (λ (node : Node Kind Op Shown). turn_by to node (Take from message) fate)) runs

module _ {Kind Op Shown : Type 0} (D : Replication Kind Op Shown) where
  -- a script's turn is one event, whose fate fits
  pub record TakesTurn (p q : Playing Kind Op Shown) (head : Head Op) (event : Fate → Event Op) (turn : Turn Kind Op Shown) : Type 0 where
    pub fate : Fate
    pub fits : FitsFate D turn.before turn.input fate
    pub world : q.world ≡ happens D p.world (event fate)
    pub events : q.events ≡ p.events ++ event fate ∷ []
    pub lines : q.lines ≡ p.lines ++ output_lines D head (output_of D p.world (event fate))

  pub turn_taken : (p : Playing Kind Op Shown) (head : Head Op) (event : Fate → Event Op) (turn : Turn Kind Op Shown) → TakesTurn p (take_turn D p head event turn) head event turn
  turn_taken p head event turn = by_test (nat_lt 0 (length (stores D turn.before turn.input))) refl
    where
      by_test : (b : Bool) → nat_lt 0 (length (stores D turn.before turn.input)) ≡ b
          → TakesTurn p (let fate = if b then (if next_answer p (place_of p.world.view turn.at) then Stored else StoreFailed) else NoStore in did D (if b then with_call p (place_of p.world.view turn.at) else p) (event fate) (output_lines D head (output_of D p.world (event fate)))) head event turn
      by_test true e =
          let some = not_empty (stores D turn.before turn.input) (ltb-true 0 (length (stores D turn.before turn.input)) e) in
          let ok = next_answer p (place_of p.world.view turn.at) in
          record { fate = if ok then Stored else StoreFailed; fits = if_holds (FitsFate D turn.before turn.input) ok Stored StoreFailed some some; world = refl; events = refl; lines = refl }
      by_test false e = record { fate = NoStore; fits = is_empty (stores D turn.before turn.input) e; world = refl; events = refl; lines = refl }

  -- what is given where a turn is known
  pub given_by : (P : Playing Kind Op Shown → Type 0) (p : Playing Kind Op Shown) (head : Head Op) (event : Fate → Event Op) (turn : Turn Kind Op Shown) → turn_of p.world (event NoStore) ≡ Some turn
      → (is_full D turn.before ≡ true → P (told p head HistoryFull)) → (is_full D turn.before ≡ false → P (take_turn D p head event turn)) → P (given D p head event)
  given_by P p head event turn is full room =
      subst (λ (o : Option (Turn Kind Op Shown)). P (elim o [ None ↦ told p head Gone | Some turn ↦ if is_full D turn.before then told p head HistoryFull else take_turn D p head event turn ])) (sym is)
      (if_tells P (is_full D turn.before) (told p head HistoryFull) (take_turn D p head event turn) full room)

  -- a message that is there, to a member that runs
  pub deliver_by : (P : Playing Kind Op Shown → Type 0) (p : Playing Kind Op Shown) (from to index : ℕ) (message : Message Op) (node : Node Kind Op Shown) → message_at p.world from to index ≡ Some message → p.world.nodes to ≡ Some node
      → (is_full D node ≡ true → P (told p (DeliverHead from to index (Some message)) HistoryFull))
      → (is_full D node ≡ false → P (take_turn D p (DeliverHead from to index (Some message)) (Delivery from to index) (turn_by to node (Take from message) NoStore))) → P (deliver D p from to index)
  deliver_by P p from to index message node sent runs full room =
      subst (λ (o : Option (Node Kind Op Shown)). P (if is_some o then (elim (message_at p.world from to index) [ None ↦ told p (DeliverHead from to index None) NoSuchMessage | Some message ↦ given D p (DeliverHead from to index (Some message)) (Delivery from to index) ]) else told p (DeliverHead from to index None) Gone)) (sym runs)
      (subst (λ (o : Option (Message Op)). P (elim o [ None ↦ told p (DeliverHead from to index None) NoSuchMessage | Some message ↦ given D p (DeliverHead from to index (Some message)) (Delivery from to index) ])) (sym sent)
      (given_by P p (DeliverHead from to index (Some message)) (Delivery from to index) (turn_by to node (Take from message) NoStore) (delivery_turn p.world from to index message node NoStore sent runs) full room))

  -- any delivery
  pub deliver_case : (P : Playing Kind Op Shown → Type 0) (p : Playing Kind Op Shown) (from to index : ℕ) → ((head : Head Op) (answer : Answer Shown) → P (told p head answer))
      → ((head : Head Op) (turn : Turn Kind Op Shown) → P (take_turn D p head (Delivery from to index) turn)) → P (deliver D p from to index)
  deliver_case P p from to index plain takes =
      if_holds P (is_some (p.world.nodes to)) _ (told p (DeliverHead from to index None) Gone) (by_message (message_at p.world from to index)) (plain (DeliverHead from to index None) Gone)
    where
      by_turn : (head : Head Op) (o : Option (Turn Kind Op Shown)) → P (elim o [ None ↦ told p head Gone | Some turn ↦ if is_full D turn.before then told p head HistoryFull else take_turn D p head (Delivery from to index) turn ])
      by_turn head None = plain head Gone
      by_turn head (Some turn) = if_holds P (is_full D turn.before) (told p head HistoryFull) (take_turn D p head (Delivery from to index) turn) (plain head HistoryFull) (takes head turn)

      by_message : (o : Option (Message Op)) → P (elim o [ None ↦ told p (DeliverHead from to index None) NoSuchMessage | Some message ↦ given D p (DeliverHead from to index (Some message)) (Delivery from to index) ])
      by_message None = plain (DeliverHead from to index None) NoSuchMessage
      by_message (Some message) = by_turn (DeliverHead from to index (Some message)) (turn_of p.world (Delivery from to index NoStore))
