-- Where the next message of a link stands after a section.
use Rattle.std.proofs.Common.{◌≡◌, ◌≢◌, ◌⊎◌, inl, inr, ⊎_elim, ℕ, suc, ◌<◌, ◌≤◌, refl, sym, ap, subst, ◌∙◌, true, false, true≢false, Bool, List, [], ◌∷◌, ◌++◌, length, Option, None, Some, arith}
use Rattle.std.specs.Prelude.{◌&&◌, not, ◌==◌, slice_get, is_some}
use Rattle.std.specs.List.{list_any}
use Rattle.std.proofs.lemmas.Bool.Decides.{Decides-eqb}
use Rattle.model_history.specs.Table.{with_at}
use Rattle.model_history.proofs.HistoryLaws.{with_at_other}
use Rattle.model_history.proofs.CutLaws.{with_at_is}
use Rattle.model_members.specs.View.{View}
use Rattle.model_members.specs.DataType.{Replication}
use Rattle.model_members.specs.Message.{Message, Post}
use Rattle.model_members.specs.Node.{Node, Input, Fate}
use Rattle.model_members.specs.Node.Fate.{NoStore}
use Rattle.model_members.specs.Step.{step, is_full}
use Rattle.model_members.specs.World.{World, Event, Link, Links, views_of, message_at, with_link, with_post, with_posts, moved_on, happens}
use Rattle.model_members.specs.World.Event.{InputAt, Delivery}
use Rattle.model_members.specs.Script.{asked_by, input_of, Playing, Head, played, deliver, told, Answer, last_of}
use Rattle.theorem_operations.proofs.Lists.{first_true, second_true}
use Rattle.theorem_operations.proofs.PlayedInputs.{turn_by, turn_taken}
use Rattle.theorem_sections.proofs.Givens.{given_to, given_room, deliver_message, message_given}
use Rattle.model_members.proofs.Cases.{stepped_at, delivered}
use Rattle.theorem_runs.proofs.Keeping.{if_holds, if_tells}
use Rattle.theorem_sections.specs.Sections.{Command, Client, Made, Section, Move, step_of, pending_op, opened, commanded, commanded_by, heard, timed_out, timed_out_made, timed_out_op, moved, moved_all, may_come, may_all_come, has_room, running, world_of, IsSection}
use Rattle.theorem_sections.specs.Sections.Move.{NextCommand, NextMessage, ItsTimeout}
use Rattle.theorem_sections.proofs.Exploring.{some_of}

pub same_or_not : (a b : ℕ) → (a ≡ b) ⊎ (a ≢ b)
same_or_not a b = by_test (a == b) refl
  where
    by_test : (t : Bool) → (a == b) ≡ t → (a ≡ b) ⊎ (a ≢ b)
    by_test true e = inl ((Decides-eqb a b).0 e)
    by_test false e = inr (λ same. absurd (true≢false (sym ((Decides-eqb a b).1 same) ∙ e)))

-- TABLES OF TABLES

module _ {X : Type 0} (table : ℕ → ℕ → X) (from to : ℕ) (x : X) (a b : ℕ) where
  pub table_else : (a ≡ from → b ≢ to) → with_at table from (with_at (table from) to x) a b ≡ table a b
  table_else other = ⊎_elim
      (λ (is : a ≡ from). ap (λ row. row b) (with_at_is table from (with_at (table from) to x) a is) ∙ with_at_other (table from) to x b (other is) ∙ ap (λ f. table f b) (sym is))
      (λ isnt. ap (λ row. row b) (with_at_other table from (with_at (table from) to x) a isnt))
      (same_or_not a from)

  pub table_here : a ≡ from → b ≡ to → with_at table from (with_at (table from) to x) a b ≡ x
  table_here is is' = ap (λ row. row b) (with_at_is table from (with_at (table from) to x) a is) ∙ with_at_is (table from) to x b is'

-- LINKS

module _ {Op : Type 0} where
  abbrev pub next_on : Links Op → ℕ → ℕ → ℕ
  next_on links a b = (links a b).next

  -- another link is as it was
  link_else : (links : Links Op) (from to : ℕ) (link : Link Op) (a b : ℕ) → (a ≡ from → b ≢ to) → with_link links from to link a b ≡ links a b
  link_else = table_else

  link_here : (links : Links Op) (from to : ℕ) (link : Link Op) (a b : ℕ) → a ≡ from → b ≡ to → with_link links from to link a b ≡ link
  link_here = table_here

  post_next : (from : ℕ) (links : Links Op) (post : Post Op) (a b : ℕ) → next_on (with_post from links post) a b ≡ next_on links a b
  post_next from links post a b =
      let link = links from post.to in
      let after = record link { messages = link.messages ++ post.message ∷ [] } in
      ⊎_elim
      (λ (is : a ≡ from). ⊎_elim
      (λ (is' : b ≡ post.to). ap (λ (l : Link Op). l.next) (link_here links from post.to after a b is is') ∙ ap (λ f. next_on links f post.to) (sym is) ∙ ap (λ t. next_on links a t) (sym is'))
      (λ isnt. ap (λ (l : Link Op). l.next) (link_else links from post.to after a b (λ _. isnt)))
      (same_or_not b post.to))
      (λ isnt. ap (λ (l : Link Op). l.next) (link_else links from post.to after a b (λ is. absurd (isnt is))))
      (same_or_not a from)

  posts_next : (from : ℕ) (links : Links Op) (posts : List (Post Op)) (a b : ℕ) → next_on (with_posts links from posts) a b ≡ next_on links a b
  posts_next from links [] a b = refl
  posts_next from links (post ∷ posts) a b = posts_next from (with_post from links post) posts a b ∙ post_next from links post a b

  -- the message due is taken
  moved_here : (links : Links Op) (from to index : ℕ) → next_on links from to ≡ index → next_on (moved_on links from to index) from to ≡ suc index
  moved_here links from to index is =
      let link = links from to in
      if_tells (λ (l : Links Op). next_on l from to ≡ suc index) (link.next == index) (with_link links from to (record link { next = suc index })) links
      (λ _. ap (λ (l : Link Op). l.next) (link_here links from to (record link { next = suc index }) from to refl refl))
      (λ no. absurd (true≢false (sym ((Decides-eqb link.next index).1 is) ∙ no)))

  moved_else : (links : Links Op) (from to index a b : ℕ) → (a ≡ from → b ≡ to → next_on links from to ≢ index) → next_on (moved_on links from to index) a b ≡ next_on links a b
  moved_else links from to index a b away =
      let link = links from to in
      if_tells (λ (l : Links Op). next_on l a b ≡ next_on links a b) (link.next == index) (with_link links from to (record link { next = suc index })) links
      (λ yes. ap (λ (l : Link Op). l.next) (link_else links from to (record link { next = suc index }) a b (λ is is'. away is is' ((Decides-eqb link.next index).0 yes))))
      (λ _. refl)

-- STEPS

module _ {Kind Op Shown : Type 0} (D : Replication Kind Op Shown) where
  abbrev pub next_in : World Kind Op Shown → ℕ → ℕ → ℕ
  next_in world a b = next_on world.links a b

  stepped_next : (world : World Kind Op Shown) (i : ℕ) (o : Option (Node Kind Op Shown)) (input : Input Op) (fate : Fate) (a b : ℕ) → next_in (stepped_at D world i o input fate) a b ≡ next_in world a b
  stepped_next world i None input fate a b = refl
  stepped_next world i (Some node) input fate a b = posts_next i world.links (step D node input fate).output.posts a b

  -- whatever the store does
  room_next : (p : Playing Kind Op Shown) (head : Head Op) (event : Fate → Event Op) (i : ℕ) (input : Input Op) (node : Node Kind Op Shown) (a b n : ℕ)
      → ((fate : Fate) → next_in (happens D p.world (event fate)) a b ≡ n) → next_in (given_room D p head event i input node).world a b ≡ n
  room_next p head event i input node a b n all =
      let r = turn_taken D p head event (turn_by i node input NoStore) in subst (λ (w : World Kind Op Shown). next_in w a b ≡ n) (sym r.world) (all r.fate)

  to_next : (p : Playing Kind Op Shown) (head : Head Op) (i : ℕ) (input : Input Op) (o : Option (Node Kind Op Shown)) (a b : ℕ) → next_in (given_to D p head (InputAt i input) i input o).world a b ≡ next_in p.world a b
  to_next p head i input None a b = refl
  to_next p head i input (Some node) a b =
      if_holds (λ (q : Playing Kind Op Shown). next_in q.world a b ≡ next_in p.world a b) (is_full D node) (told p head Answer.HistoryFull) (given_room D p head (InputAt i input) i input node) refl
      (room_next p head (InputAt i input) i input node a b (next_in p.world a b) (λ fate. stepped_next p.world i (p.world.nodes i) input fate a b))

  pub command_next : (p : Playing Kind Op Shown) (command : Command Op) (a b : ℕ) → next_in (played D p (step_of command)).world a b ≡ next_in p.world a b
  command_next p command a b = by_input (input_of (views_of p.world) command.ask)
    where
      by_input : (o : Option (Input Op)) → next_in (asked_by D p command.at command.ask o).world a b ≡ next_in p.world a b
      by_input None = refl
      by_input (Some input) = to_next p (Head.Asked command.at command.ask) command.at input (p.world.nodes command.at) a b

  -- a message that is delivered
  happens_next : (world : World Kind Op Shown) (from to index : ℕ) (message : Message Op) (fate : Fate) (a b : ℕ) → message_at world from to index ≡ Some message
      → next_in (happens D world (Delivery from to index fate)) a b ≡ next_on (moved_on world.links from to index) a b
  happens_next world from to index message fate a b there =
      ap (λ o. next_in (delivered D world from to index o fate) a b) there ∙ stepped_next (record world { links = moved_on world.links from to index }) to (world.nodes to) (Input.Take from message) fate a b

  taken_next : (p : Playing Kind Op Shown) (from to index : ℕ) (message : Message Op) (o : Option (Node Kind Op Shown)) (a b : ℕ) → message_at p.world from to index ≡ Some message → has_room D o ≡ true
      → next_in (given_to D p (Head.DeliverHead from to index (Some message)) (Delivery from to index) to (Input.Take from message) o).world a b ≡ next_on (moved_on p.world.links from to index) a b
  taken_next p from to index message None a b there room = absurd (true≢false (sym room))
  taken_next p from to index message (Some node) a b there room =
      let head = Head.DeliverHead from to index (Some message) in
      if_tells (λ (q : Playing Kind Op Shown). next_in q.world a b ≡ next_on (moved_on p.world.links from to index) a b) (is_full D node) (told p head Answer.HistoryFull) (given_room D p head (Delivery from to index) to (Input.Take from message) node)
      (λ full. absurd (true≢false (sym room ∙ ap not full)))
      (λ _. room_next p head (Delivery from to index) to (Input.Take from message) node a b (next_on (moved_on p.world.links from to index) a b) (λ fate. happens_next p.world from to index message fate a b there))

  runs : (o : Option (Node Kind Op Shown)) → has_room D o ≡ true → is_some o ≡ true
  runs None room = room
  runs (Some node) room = refl

  pub deliver_next : (p : Playing Kind Op Shown) (from to index a b : ℕ) → is_some (message_at p.world from to index) ≡ true → has_room D (p.world.nodes to) ≡ true
      → next_in (deliver D p from to index).world a b ≡ next_on (moved_on p.world.links from to index) a b
  deliver_next p from to index a b there room =
      let message = some_of is_some (message_at p.world from to index) refl there in
      if_tells (λ (q : Playing Kind Op Shown). next_in q.world a b ≡ next_on (moved_on p.world.links from to index) a b) (is_some (p.world.nodes to)) (deliver_message D p from to index (message_at p.world from to index)) (told p (Head.DeliverHead from to index None) Answer.Gone)
      (λ _. subst (λ (q : Playing Kind Op Shown). next_in q.world a b ≡ next_on (moved_on p.world.links from to index) a b) (sym (message_given D p from to index message.0 message.1)) (taken_next p from to index message.0 (p.world.nodes to) a b message.1 room))
      (λ gone. absurd (true≢false (sym (runs (p.world.nodes to) room) ∙ gone)))

  -- SECTIONS

  module _ (before : Playing Kind Op Shown) where
    -- where nothing was pending, the next message is the next of the section; elsewhere it is as before
    pub record Stands (s : Section Kind Op Shown) (a b : ℕ) : Type 0 where
      pub since : length (before.world.links a b).messages ≤ s.due a b
      pub idle : next_in before.world a b ≡ length (before.world.links a b).messages → next_in s.playing.world a b ≡ s.due a b
      pub busy : next_in before.world a b < length (before.world.links a b).messages → next_in s.playing.world a b ≡ next_in before.world a b

    stays : (s t : Section Kind Op Shown) (a b : ℕ) → t.due a b ≡ s.due a b → next_in t.playing.world a b ≡ next_in s.playing.world a b → Stands s a b → Stands t a b
    stays s t a b due next stands =
        record { since = subst (λ n. length (before.world.links a b).messages ≤ n) (sym due) stands.since; idle = λ h. next ∙ stands.idle h ∙ sym due; busy = λ h. next ∙ stands.busy h }

    commanded_by_stands : (s : Section Kind Op Shown) (c : ℕ) (client : Client Op Shown) (commands : List (Command Op)) (a b : ℕ) → Stands s a b → Stands (commanded_by D s c client commands) a b
    commanded_by_stands s c client [] a b stands = stands
    commanded_by_stands s c client (command ∷ rest) a b stands = stays s (commanded_by D s c client (command ∷ rest)) a b refl (command_next s.playing command a b) stands

    commanded_stands : (s : Section Kind Op Shown) (c : ℕ) (client : Option (Client Op Shown)) (a b : ℕ) → Stands s a b → Stands (commanded D s c client) a b
    commanded_stands s c None a b stands = stands
    commanded_stands s c (Some client) a b stands = commanded_by_stands s c client client.to_come a b stands

    timed_out_op_stands : (s : Section Kind Op Shown) (c : ℕ) (client : Client Op Shown) (i : ℕ) (op : Option ℕ) (a b : ℕ) → Stands s a b → Stands (timed_out_op D s c client i op) a b
    timed_out_op_stands s c client i None a b stands = stands
    timed_out_op_stands s c client i (Some op) a b stands =
        stays s (timed_out_op D s c client i (Some op)) a b refl (to_next s.playing (Head.TimeoutHead i op) i (Input.Timeout op) (s.playing.world.nodes i) a b) stands

    timed_out_made_stands : (s : Section Kind Op Shown) (c : ℕ) (client : Client Op Shown) (made : Option (Made Op Shown)) (a b : ℕ) → Stands s a b → Stands (timed_out_made D s c client made) a b
    timed_out_made_stands s c client None a b stands = stands
    timed_out_made_stands s c client (Some made) a b stands = timed_out_op_stands s c client made.at (pending_op made.line.answer) a b stands

    timed_out_stands : (s : Section Kind Op Shown) (c : ℕ) (client : Option (Client Op Shown)) (a b : ℕ) → Stands s a b → Stands (timed_out D s c client) a b
    timed_out_stands s c None a b stands = stands
    timed_out_stands s c (Some client) a b stands = timed_out_made_stands s c client (last_of client.made) a b stands

    heard_elsewhere : (s : Section Kind Op Shown) (from to a b : ℕ) → is_some (message_at (world_of s) from to (s.due from to)) ≡ true → has_room D ((world_of s).nodes to) ≡ true → (a ≡ from → b ≢ to) → Stands s a b → Stands (heard D s from to) a b
    heard_elsewhere s from to a b there room other stands =
        stays s (heard D s from to) a b (table_else s.due from to (suc (s.due from to)) a b other)
        (deliver_next s.playing from to (s.due from to) a b there room ∙ moved_else s.playing.world.links from to (s.due from to) a b (λ is is'. absurd (other is is'))) stands

    heard_here : (s : Section Kind Op Shown) (from to : ℕ) → is_some (message_at (world_of s) from to (s.due from to)) ≡ true → has_room D ((world_of s).nodes to) ≡ true → Stands s from to → Stands (heard D s from to) from to
    heard_here s from to there room stands =
        let index = s.due from to in
        let due : (heard D s from to).due from to ≡ suc index = table_here s.due from to (suc index) from to refl refl in
        let delivered = deliver_next s.playing from to index from to there room in
        record {
          since = (let e = stands.since in omega (arith, due, e));
          idle = λ h. delivered ∙ moved_here s.playing.world.links from to index (stands.idle h) ∙ sym due;
          busy = λ h. delivered ∙ moved_else s.playing.world.links from to index from to (λ _ _ same. let n = stands.busy h in let e = stands.since in absurd (omega (arith, n, e, h, same))) ∙ stands.busy h;
        }

    heard_stands : (s : Section Kind Op Shown) (from to a b : ℕ) → is_some (message_at (world_of s) from to (s.due from to)) ≡ true → has_room D ((world_of s).nodes to) ≡ true → Stands s a b → Stands (heard D s from to) a b
    heard_stands s from to a b there room stands = ⊎_elim
        (λ (is : a ≡ from). ⊎_elim
        (λ (is' : b ≡ to).
        let P : ℕ → ℕ → Type 0 = λ x y. Stands s x y → Stands (heard D s from to) x y in
        subst (λ x. P x b) (sym is) (subst (λ y. P from y) (sym is') (heard_here s from to there room)) stands)
        (λ isnt. heard_elsewhere s from to a b there room (λ _. isnt) stands)
        (same_or_not b to))
        (λ isnt. heard_elsewhere s from to a b there room (λ is. absurd (isnt is)) stands)
        (same_or_not a from)

    moved_stands : (s : Section Kind Op Shown) (m : Move) (a b : ℕ) → may_come D s m ≡ true → Stands s a b → Stands (moved D s m) a b
    moved_stands s (NextCommand c) a b may stands = commanded_stands s c (slice_get s.clients c) a b stands
    moved_stands s (ItsTimeout c) a b may stands = timed_out_stands s c (slice_get s.clients c) a b stands
    moved_stands s (NextMessage from to) a b may stands =
        let here = list_any (λ i. i == from) (running (world_of s)) in
        let there = list_any (λ i. i == to) (running (world_of s)) in
        let due = is_some (message_at (world_of s) from to (s.due from to)) in
        let room = has_room D ((world_of s).nodes to) in
        heard_stands s from to a b (second_true (here && there) due (first_true (here && there && due) room may)) (second_true (here && there && due) room may) stands

    all_stand : (s : Section Kind Op Shown) (ms : List Move) (a b : ℕ) → may_all_come D s ms ≡ true → Stands s a b → Stands (moved_all D s ms) a b
    all_stand s [] a b may stands = stands
    all_stand s (m ∷ ms) a b may stands =
        all_stand (moved D s m) ms a b (second_true (may_come D s m) (may_all_come D (moved D s m) ms) may) (moved_stands s m a b (first_true (may_come D s m) (may_all_come D (moved D s m) ms) may) stands)

    pub next_stands : (clients : List (List (Command Op))) (moves : List Move) (end : Section Kind Op Shown) → IsSection D before clients moves end → (a b : ℕ) → Stands end a b
    next_stands clients moves end section a b =
        subst (λ (e : Section Kind Op Shown). Stands e a b) (sym section.leads)
        (all_stand (opened before clients) moves a b section.lawful (record { since = omega arith; idle = λ h. h; busy = λ h. refl }))
