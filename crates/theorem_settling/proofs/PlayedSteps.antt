-- Inputs and deliveries of a settle: each is an event, unless a history was full, and an exchange is up to four of them.
use Rattle.std.proofs.Common.{◌≡◌, ◌≢◌, ℕ, ◌+◌, ◌-◌, List, [], ◌∷◌, ◌++◌, length, refl, sym, ap, subst, ◌∙◌, arith, Bool, true, false, Option, Some, None, inl, inr, length-append}
use Rattle.std.specs.Prelude.{if◌then◌else◌, slice_get, sum_by, IsFalse, option_map}
use Rattle.std.specs.List.{list_any}
use Rattle.std.proofs.lemmas.Bool.Decides.{eqb_tells}
use Rattle.std.proofs.lemmas.List.Sums.{sum_by-append}
use Rattle.model_history.specs.Table.{with_at}
use Rattle.model_history.proofs.HistoryLaws.{with_at_same, with_at_other}
use Rattle.model_members.specs.View.{View}
use Rattle.model_members.specs.DataType.{Replication}
use Rattle.model_members.specs.Message.{Message, Post}
use Rattle.model_members.specs.Node.{KeyDecl, Node, Input, Fate, Stepped}
use Rattle.model_members.specs.Node.Fate.{NoStore}
use Rattle.model_members.specs.Node.Input.{Take}
use Rattle.model_members.specs.Step.{step, is_full, sent}
use Rattle.model_members.specs.World.{World, Links, Event, with_posts, with_post, moved_on, happens, message_at, Turn, turn_of, step_in, output_of, IsLawful, IsGiven, IsRun, Link}
use Rattle.model_members.specs.World.Event.{InputAt, Delivery}
use Rattle.model_members.specs.Script.{Playing, Told, Head, told, given, output_lines, deliver, unless_full, has_met_full, is_full_answer, deliver_last, posted, last_number}
use Rattle.model_members.specs.Script.Head.{DeliverHead}
use Rattle.model_members.specs.Script.Answer.{HistoryFull, Replied}
use Rattle.model_members.proofs.Cases.{stepped_at, delivered}
use Rattle.theorem_operations.specs.Quorum.{KeepsMembers}
use Rattle.theorem_operations.proofs.Lists.{any_append, any_before}
use Rattle.theorem_operations.proofs.Turns.{MakesStep}
use Rattle.theorem_operations.proofs.Turns.MakesStep.{ByInput, ByDelivery}
use Rattle.theorem_operations.proofs.PlayedInputs.{turn_by, input_turn, delivery_turn, turn_taken, given_by, deliver_by}
use Rattle.theorem_operations.proofs.Moments.{run_pushed}
use Rattle.theorem_operations.proofs.Calm.{IsCalm, calm_next}

-- LISTS

sum_append : {X : Type 0} (f : X → ℕ) (xs : List X) (x : X) → sum_by f (xs ++ x ∷ []) ≡ sum_by f xs + f x
sum_append f xs x = let a = sum_by-append f xs (x ∷ []) in let b : sum_by f (x ∷ []) ≡ 0 + f x = refl in omega arith

get_last : {X : Type 0} (xs : List X) (x : X) → slice_get (xs ++ x ∷ []) (length (xs ++ x ∷ []) - 1) ≡ Some x
get_last xs x = let e : length (xs ++ x ∷ []) - 1 ≡ length xs = (let a = length-append xs (x ∷ []) in omega arith) in ap (slice_get (xs ++ x ∷ [])) e ∙ go xs
  where
    go : (ys : List _) → slice_get (ys ++ x ∷ []) (length ys) ≡ Some x
    go [] = refl
    go (y ∷ ys) = go ys

is_false : (b : Bool) → b ≡ false → IsFalse b
is_false b e = e

module _ {Kind Op Shown : Type 0} (D : Replication Kind Op Shown) (members : ℕ) (keys : List (KeyDecl Kind)) where
  -- a script's run goes on by one step of a member
  pub record Did (p q : Playing Kind Op Shown) (i : ℕ) (s : Stepped Kind Op Shown) : Type 0 where
    pub event : Event Op
    pub lawful : IsLawful D p.world event
    pub keeps : KeepsMembers event
    pub world : q.world ≡ happens D p.world event
    pub events : q.events ≡ p.events ++ event ∷ []
    pub line : Told Op Shown
    pub lines : q.lines ≡ p.lines ++ line ∷ []
    pub posts : line.posts ≡ s.output.posts
    pub answer : line.answer ≡ Replied s.output.reply
    pub nodes : q.world.nodes ≡ with_at p.world.nodes i (Some s.node)
    pub base : Links Op
    pub links : q.world.links ≡ with_posts base i s.output.posts

  -- the script's events are a run
  abbrev pub Runs : Playing Kind Op Shown → Type 0
  Runs p = IsRun D members keys p.events p.world

  pub did_runs : (p q : Playing Kind Op Shown) (i : ℕ) (s : Stepped Kind Op Shown) → Did p q i s → Runs p → Runs q
  did_runs p q i s d r =
      subst (λ (w : World Kind Op Shown). IsRun D members keys q.events w) (sym d.world)
      (subst (λ (es : List (Event Op)). IsRun D members keys es (happens D p.world d.event)) (sym d.events) (run_pushed D members keys p.events p.world d.event r d.lawful))

  pub did_posted : (p q : Playing Kind Op Shown) (i : ℕ) (s : Stepped Kind Op Shown) → Did p q i s → posted q ≡ posted p + length s.output.posts
  did_posted p q i s d =
      ap (λ (ls : List (Told Op Shown)). sum_by (λ (t : Told Op Shown). length t.posts) ls) d.lines ∙ sum_append (λ (t : Told Op Shown). length t.posts) p.lines d.line ∙ ap (λ (ps : List (Post Op)). posted p + length ps) d.posts

  pub did_met : (p q : Playing Kind Op Shown) (i : ℕ) (s : Stepped Kind Op Shown) → Did p q i s → has_met_full q ≡ false → has_met_full p ≡ false
  did_met p q i s d e = any_before (λ (t : Told Op Shown). is_full_answer t.answer) p.lines (d.line ∷ []) (ap (λ (ls : List (Told Op Shown)). list_any (λ (t : Told Op Shown). is_full_answer t.answer) ls) (sym d.lines) ∙ e)

  pub did_calm : (V : View) (p q : Playing Kind Op Shown) (i : ℕ) (s : Stepped Kind Op Shown) → Did p q i s → IsCalm D members keys V p.world → IsCalm D members keys V q.world
  did_calm V p q i s d calm = subst (IsCalm D members keys V) (sym d.world) (calm_next D members keys V p.world calm d.event d.lawful d.keeps)

  pub did_here : (p q : Playing Kind Op Shown) (i : ℕ) (s : Stepped Kind Op Shown) → Did p q i s → q.world.nodes i ≡ Some s.node
  did_here p q i s d = ap (λ (ns : ℕ → Option (Node Kind Op Shown)). ns i) d.nodes ∙ with_at_same p.world.nodes i (Some s.node)

  pub did_other : (p q : Playing Kind Op Shown) (i : ℕ) (s : Stepped Kind Op Shown) → Did p q i s → (t : ℕ) → t ≢ i → q.world.nodes t ≡ p.world.nodes t
  did_other p q i s d t other = ap (λ (ns : ℕ → Option (Node Kind Op Shown)). ns t) d.nodes ∙ with_at_other p.world.nodes i (Some s.node) t other

  -- the message that a step sent last
  pub did_sent : (p q : Playing Kind Op Shown) (i to : ℕ) (message : Message Op) (s : Stepped Kind Op Shown) → Did p q i s → s.output.posts ≡ record { to = to; message = message } ∷ [] → message_at q.world i to (last_number q i to) ≡ Some message
  did_sent p q i to message s d posts =
      let links : q.world.links ≡ with_post i d.base (record { to = to; message = message }) = d.links ∙ ap (with_posts d.base i) posts in
      let row : (q.world.links i to).messages ≡ (d.base i to).messages ++ message ∷ [] =
      ap (λ (l : Links Op). (l i to).messages) links ∙ ap (λ (r : ℕ → Link Op). (r to).messages) (with_at_same d.base i _) ∙ ap (λ (l : Link Op). l.messages) (with_at_same (d.base i) to _) in
      ap (λ (ms : List (Message Op)). slice_get ms (length ms - 1)) row ∙ get_last (d.base i to).messages message

  -- AN INPUT

  -- a full member's answer is met
  told_full : (p : Playing Kind Op Shown) (head : Head Op) → has_met_full (told p head HistoryFull) ≡ true
  told_full p head = any_append (λ (t : Told Op Shown). is_full_answer t.answer) p.lines (record { head = head; answer = HistoryFull; posts = []; ended = None } ∷ []) refl

  pub record Steps (p q : Playing Kind Op Shown) (i : ℕ) (input : Input Op) (node : Node Kind Op Shown) : Type 0 where
    pub fate : Fate
    pub does : Did p q i (step D node input fate)
    pub makes : MakesStep p.world does.event i input fate

  its_lines : (world : World Kind Op Shown) (head : Head Op) (event : Event Op) (i : ℕ) (input : Input Op) (node : Node Kind Op Shown) (fate : Fate) → turn_of world event ≡ Some (turn_by i node input fate)
      → output_lines D head (output_of D world event) ≡ record { head = head; answer = Replied (step D node input fate).output.reply; posts = (step D node input fate).output.posts; ended = (step D node input fate).output.ended } ∷ []
  its_lines world head event i input node fate e = ap (λ (o : Option (Turn Kind Op Shown)). output_lines D head (option_map (λ (turn : Turn Kind Op Shown). (step_in D turn).output) o)) e

  pub given_steps : (p : Playing Kind Op Shown) (head : Head Op) (i : ℕ) (input : Input Op) (node : Node Kind Op Shown) → IsGiven D p.world i input → p.world.nodes i ≡ Some node → has_met_full (given D p head (InputAt i input)) ≡ false → Steps p (given D p head (InputAt i input)) i input node
  given_steps p head i input node is_given runs =
      given_by D (λ (q : Playing Kind Op Shown). has_met_full q ≡ false → Steps p q i input node) p head (InputAt i input) (turn_by i node input NoStore) (input_turn p.world i node input NoStore runs)
      (λ full e. absurd (let f = sym (told_full p head) ∙ e in cc f))
      (λ room e.
      let r = turn_taken D p head (InputAt i input) (turn_by i node input NoStore) in
      record {
        fate = r.fate;
        makes = ByInput refl;
        does = record {
          event = InputAt i input r.fate;
          lawful = (is_given, record { node = node; runs = runs; has_room = is_false (is_full D node) room; fate_fits = r.fits });
          keeps = tt;
          world = r.world;
          events = r.events;
          line = record { head = head; answer = Replied (step D node input r.fate).output.reply; posts = (step D node input r.fate).output.posts; ended = (step D node input r.fate).output.ended };
          lines = r.lines ∙ ap (λ (ls : List (Told Op Shown)). p.lines ++ ls) (its_lines p.world head (InputAt i input r.fate) i input node r.fate (input_turn p.world i node input r.fate runs));
          posts = refl;
          answer = refl;
          nodes = ap (λ (w : World Kind Op Shown). w.nodes) r.world ∙ ap (λ o. (stepped_at D p.world i o input r.fate).nodes) runs;
          base = p.world.links;
          links = ap (λ (w : World Kind Op Shown). w.links) r.world ∙ ap (λ o. (stepped_at D p.world i o input r.fate).links) runs;
        };
      })

  -- A DELIVERY

  pub deliver_steps : (p : Playing Kind Op Shown) (from to index : ℕ) (message : Message Op) (node : Node Kind Op Shown) → message_at p.world from to index ≡ Some message → p.world.nodes to ≡ Some node → has_met_full (deliver D p from to index) ≡ false → Steps p (deliver D p from to index) to (Take from message) node
  deliver_steps p from to index message node sent runs =
      deliver_by D (λ (q : Playing Kind Op Shown). has_met_full q ≡ false → Steps p q to (Take from message) node) p from to index message node sent runs
      (λ full e. absurd (let f = sym (told_full p (DeliverHead from to index (Some message))) ∙ e in cc f))
      (λ room e.
      let head : Head Op = DeliverHead from to index (Some message) in
      let r = turn_taken D p head (Delivery from to index) (turn_by to node (Take from message) NoStore) in
      let moved = record p.world { links = moved_on p.world.links from to index } in
      record {
        fate = r.fate;
        makes = ByDelivery from index message refl sent refl;
        does = record {
          event = Delivery from to index r.fate;
          lawful = (message, sent, record { node = node; runs = runs; has_room = is_false (is_full D node) room; fate_fits = r.fits });
          keeps = tt;
          world = r.world;
          events = r.events;
          line = record { head = head; answer = Replied (step D node (Take from message) r.fate).output.reply; posts = (step D node (Take from message) r.fate).output.posts; ended = (step D node (Take from message) r.fate).output.ended };
          lines = r.lines ∙ ap (λ (ls : List (Told Op Shown)). p.lines ++ ls) (its_lines p.world head (Delivery from to index r.fate) to (Take from message) node r.fate (delivery_turn p.world from to index message node r.fate sent runs));
          posts = refl;
          answer = refl;
          nodes = ap (λ (w : World Kind Op Shown). w.nodes) r.world ∙ ap (λ m. (delivered D p.world from to index m r.fate).nodes) sent ∙ ap (λ o. (stepped_at D moved to o (Take from message) r.fate).nodes) runs;
          base = moved_on p.world.links from to index;
          links = ap (λ (w : World Kind Op Shown). w.links) r.world ∙ ap (λ m. (delivered D p.world from to index m r.fate).links) sent ∙ ap (λ o. (stepped_at D moved to o (Take from message) r.fate).links) runs;
        };
      })

  -- UNLESS A HISTORY WAS FULL

  pub unless_is : (f : Playing Kind Op Shown → Playing Kind Op Shown) (p : Playing Kind Op Shown) → has_met_full (unless_full D f p) ≡ false → (unless_full D f p ≡ f p) × (has_met_full p ≡ false)
  unless_is f p = by_test (has_met_full p) refl
    where
      by_test : (b : Bool) → has_met_full p ≡ b → has_met_full (if b then p else f p) ≡ false → ((if b then p else f p) ≡ f p) × (has_met_full p ≡ false)
      by_test true is e = absurd (let g = sym is ∙ e in cc g)
      by_test false is e = (refl, is)

  -- a message that was just sent, or none
  pub data LastDelivered (p q : Playing Kind Op Shown) (before from to : ℕ) : Type 0 where
    NothingSent : posted p ≡ before → q ≡ p → LastDelivered p q before from to
    JustSent : posted p ≢ before → q ≡ deliver D p from to (last_number p from to) → LastDelivered p q before from to

  pub last_is : (before from to : ℕ) (p : Playing Kind Op Shown) → has_met_full (deliver_last D before from to p) ≡ false → LastDelivered p (deliver_last D before from to p) before from to × (has_met_full p ≡ false)
  last_is before from to p = elim (eqb_tells before (posted p)) [
    | inl is ↦
        let same : deliver_last D before from to p ≡ p = ap (λ b. if b then p else unless_full D (λ q. deliver D q from to (last_number q from to)) p) is.0 in
        λ e. (NothingSent (sym is.1) same, ap has_met_full (sym same) ∙ e)
    | inr isnt ↦
        let same : deliver_last D before from to p ≡ unless_full D (λ q. deliver D q from to (last_number q from to)) p = ap (λ b. if b then p else unless_full D (λ q. deliver D q from to (last_number q from to)) p) isnt.0 in
        λ e. let u = unless_is (λ q. deliver D q from to (last_number q from to)) p (ap has_met_full (sym same) ∙ e) in (JustSent (λ f. isnt.1 (sym f)) (same ∙ u.0), u.1)
  ]
