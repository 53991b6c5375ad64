-- A round delivers all that was due when it began.
use Rattle.std.proofs.Common.{◌≡◌, ℕ, zero, suc, ◌+◌, ◌-◌, ◌<◌, ◌≤◌, List, [], ◌∷◌, ◌++◌, length, refl, sym, ap, subst, ◌∙◌, arith, Bool, true, false, Option, Some, None, ◌⊎◌, inl, inr, length-append}
use Rattle.std.specs.Prelude.{if◌then◌else◌, slice_get, fold, nat_lt, ◌==◌, flat_map}
use Rattle.std.specs.List.{range_with_len}
use Rattle.std.proofs.lemmas.Bool.Decides.{eqb_tells, nat_tests}
use Rattle.std.proofs.lemmas.Bool.{ltb-true}
use Rattle.model_history.specs.Table.{with_at}
use Rattle.model_history.proofs.HistoryLaws.{with_at_same, with_at_other}
use Rattle.model_history.proofs.PruneLaws.{IsIn, to_flat_map, range_at}
use Rattle.model_members.specs.View.{identities_of}
use Rattle.model_members.specs.DataType.{Replication}
use Rattle.model_members.specs.Message.{Message, Post}
use Rattle.model_members.specs.Node.{Node, Input, Fate}
use Rattle.model_members.specs.Node.Fate.{NoStore}
use Rattle.model_members.specs.Step.{step}
use Rattle.model_members.specs.World.{World, Link, Links, with_link, with_post, with_posts, moved_on, happens, message_at}
use Rattle.model_members.specs.World.Event.{InputAt, Delivery}
use Rattle.model_members.specs.Script.{ScriptStep, Playing, Due, deliver, deliver_due, due_now, due_on, round_of, played}
use Rattle.model_members.specs.Script.Head.{DeliverHead}
use Rattle.model_members.proofs.Cases.{stepped_at, delivered}
use Rattle.theorem_operations.specs.Finishing.{HaveRoom}
use Rattle.theorem_operations.proofs.Lists.{get_front}
use Rattle.theorem_operations.proofs.Operations.{step_tells}
use Rattle.theorem_operations.proofs.PlayedInputs.{turn_by, turn_taken, deliver_by, deliver_case}

-- LINKS

-- what stands at one link
pub link_case : {Op : Type 0} (links : Links Op) (from to : ℕ) (link : Link Op) (f t : ℕ) → ((f ≡ from) × (t ≡ to) × (with_link links from to link f t ≡ link)) ⊎ (with_link links from to link f t ≡ links f t)
link_case links from to link f t = elim (eqb_tells f from) [
  | inl is ↦ elim (eqb_tells t to) [
    | inl is' ↦ inl (is.1, is'.1, ap (λ (r : ℕ → Link _). r t) (ap (with_at links from _) is.1 ∙ with_at_same links from _) ∙ (ap (with_at (links from) to link) is'.1 ∙ with_at_same (links from) to link))
    | inr isnt ↦ inr (ap (λ (r : ℕ → Link _). r t) (ap (with_at links from _) is.1 ∙ with_at_same links from _) ∙ with_at_other (links from) to link t isnt.1 ∙ ap (λ g. links g t) (sym is.1))
  ]
  | inr isnt ↦ inr (ap (λ (r : ℕ → Link _). r t) (with_at_other links from _ f isnt.1))
]

-- a link grows: its messages stay, more may come, and it moves on
pub record LinkGrows {Op : Type 0} (old new : Link Op) : Type 0 where
  pub next : old.next ≤ new.next
  pub longer : length old.messages ≤ length new.messages
  pub stays : (k : ℕ) (m : Message Op) → slice_get old.messages k ≡ Some m → slice_get new.messages k ≡ Some m

pub same_link : {Op : Type 0} (old new : Link Op) → new ≡ old → LinkGrows old new
same_link old new e = record { next = let a = ap (λ (l : Link _). l.next) e in omega arith; longer = let a : length new.messages ≡ length old.messages = ap (λ (l : Link _). length l.messages) e in omega arith; stays = λ k m h. ap (λ (l : Link _). slice_get l.messages k) e ∙ h }

pub link_trans : {Op : Type 0} (a b c : Link Op) → LinkGrows a b → LinkGrows b c → LinkGrows a c
link_trans a b c p q = record { next = let x = p.next in let y = q.next in omega arith; longer = let x = p.longer in let y = q.longer in omega arith; stays = λ k m h. q.stays k m (p.stays k m h) }

module _ {Op : Type 0} where
  pub post_grows : (from : ℕ) (links : Links Op) (post : Post Op) (f t : ℕ) → LinkGrows (links f t) (with_post from links post f t) × ((with_post from links post f t).next ≡ (links f t).next)
  post_grows from links post f t = elim (link_case links from post.to (record (links from post.to) { messages = (links from post.to).messages ++ post.message ∷ [] }) f t) [
    | inl h ↦ subst (λ (l : Link Op). LinkGrows (links f t) l × (l.next ≡ (links f t).next)) (sym h.2)
        (subst (λ (l : Link Op). LinkGrows l (record (links from post.to) { messages = (links from post.to).messages ++ post.message ∷ [] }) × ((links from post.to).next ≡ l.next)) (sym (ap (λ g. links g t) h.0 ∙ ap (links from) h.1)) (
          record { next = omega arith; longer = let a = length-append (links from post.to).messages (post.message ∷ []) in omega arith; stays = λ k m e. get_front (links from post.to).messages (post.message ∷ []) k m e },
          refl,
        ))
    | inr e ↦ (same_link (links f t) (with_post from links post f t) e, ap (λ (l : Link Op). l.next) e)
  ]

  pub posts_grow : (posts : List (Post Op)) (links : Links Op) (from f t : ℕ) → LinkGrows (links f t) (with_posts links from posts f t) × ((with_posts links from posts f t).next ≡ (links f t).next)
  posts_grow [] links from f t = (same_link (links f t) (links f t) refl, refl)
  posts_grow (post ∷ posts) links from f t =
      let one = post_grows from links post f t in
      let rest = posts_grow posts (with_post from links post) from f t in
      (link_trans (links f t) (with_post from links post f t) (with_posts links from (post ∷ posts) f t) one.0 rest.0, rest.1 ∙ one.1)

  -- a link that moves on
  pub moved_grows : (links : Links Op) (from to index f t : ℕ) → LinkGrows (links f t) (moved_on links from to index f t)
  moved_grows links from to index f t = by_test ((links from to).next == index) refl
    where
      by_test : (b : Bool) → ((links from to).next == index) ≡ b → LinkGrows (links f t) ((if b then with_link links from to (record (links from to) { next = suc index }) else links) f t)
      by_test false e = same_link (links f t) (links f t) refl
      by_test true e = elim (link_case links from to (record (links from to) { next = suc index }) f t) [
        | inl h ↦ subst (λ (l : Link Op). LinkGrows (links f t) l) (sym h.2)
            (subst (λ (l : Link Op). LinkGrows l (record (links from to) { next = suc index })) (sym (ap (λ g. links g t) h.0 ∙ ap (links from) h.1))
            (record { next = elim (eqb_tells (links from to).next index) [ inl is ↦ omega (arith, is.1) | inr isnt ↦ absurd (let g = sym e ∙ isnt.0 in cc g) ]; longer = omega arith; stays = λ k m e. e }))
        | inr g ↦ same_link (links f t) (with_link links from to (record (links from to) { next = suc index }) f t) g
      ]

  -- the link of a message that is due moves past it
  pub moved_past : (links : Links Op) (from to index : ℕ) → index ≤ (links from to).next → suc index ≤ (moved_on links from to index from to).next
  moved_past links from to index h = elim (eqb_tells (links from to).next index) [
    | inl is ↦
        let a : moved_on links from to index from to ≡ with_link links from to (record (links from to) { next = suc index }) from to = ap (λ b. (if b then with_link links from to (record (links from to) { next = suc index }) else links) from to) is.0 in
        let b : with_link links from to (record (links from to) { next = suc index }) from to ≡ record (links from to) { next = suc index } = ap (λ (r : ℕ → Link Op). r to) (with_at_same links from _) ∙ with_at_same (links from) to _ in
        let c : (moved_on links from to index from to).next ≡ suc index = ap (λ (l : Link Op). l.next) (a ∙ b) in omega arith
    | inr isnt ↦
        let a : moved_on links from to index from to ≡ links from to = ap (λ b. (if b then with_link links from to (record (links from to) { next = suc index }) else links) from to) isnt.0 in
        let c : (moved_on links from to index from to).next ≡ (links from to).next = ap (λ (l : Link Op). l.next) a in
        let d = isnt.1 in omega arith
  ]

-- WORLDS

module _ {Kind Op Shown : Type 0} where
  -- a world later on, with the same members
  pub record Later (world next : World Kind Op Shown) : Type 0 where
    pub links : (f t : ℕ) → LinkGrows (world.links f t) (next.links f t)
    pub runs : (t : ℕ) (node : Node Kind Op Shown) → world.nodes t ≡ Some node → (new : Node Kind Op Shown) × (next.nodes t ≡ Some new) × (node.steps ≤ new.steps)

  pub later_same : (world : World Kind Op Shown) → Later world world
  later_same world = record { links = λ f t. same_link (world.links f t) (world.links f t) refl; runs = λ t node e. (node, e, omega arith) }

  pub later_trans : (a b c : World Kind Op Shown) → Later a b → Later b c → Later a c
  later_trans a b c p q =
      record {
        links = λ f t. link_trans (a.links f t) (b.links f t) (c.links f t) (p.links f t) (q.links f t);
        runs = λ t node e. let x = p.runs t node e in let y = q.runs t x.0 x.1 in (y.0, y.1, (let u = x.2 in let v = y.2 in omega arith));
      }

module _ {Kind Op Shown : Type 0} (D : Replication Kind Op Shown) where
  pub room_before : (world next : World Kind Op Shown) → Later world next → HaveRoom D next → HaveRoom D world
  room_before world next later room t node e = let x = later.runs t node e in let a = room t x.0 x.1 in let b = x.2 in omega arith

  step_later : (world : World Kind Op Shown) (links : Links Op) → ((f t : ℕ) → LinkGrows (world.links f t) (links f t)) → (i : ℕ) (o : Option (Node Kind Op Shown)) → world.nodes i ≡ o → (input : Input Op) (fate : Fate) → Later world (stepped_at D (record world { links = links }) i o input fate)
  step_later world links grows i None e input fate = record { links = grows; runs = λ t node e. (node, e, omega arith) }
  step_later world links grows i (Some old) e input fate =
      let s = step D old input fate in
      record {
        links = λ f t. link_trans (world.links f t) (links f t) (with_posts links i s.output.posts f t) (grows f t) (posts_grow s.output.posts links i f t).0;
        runs = λ t node f. elim (eqb_tells t i) [
          | inl is ↦
              let same : old ≡ node = (let g : Some old ≡ Some node = sym e ∙ ap world.nodes (sym is.1) ∙ f in cc g) in
              let more : node.steps ≤ s.node.steps = (let a = (step_tells D old input fate).steps in let b : old.steps ≡ node.steps = ap (λ (n : Node Kind Op Shown). n.steps) same in omega arith) in
              (s.node, ap (with_at world.nodes i (Some s.node)) is.1 ∙ with_at_same world.nodes i (Some s.node), more)
          | inr isnt ↦ (node, with_at_other world.nodes i (Some s.node) t isnt.1 ∙ f, omega arith)
        ];
      }

  pub input_later : (world : World Kind Op Shown) (i : ℕ) (input : Input Op) (fate : Fate) → Later world (happens D world (InputAt i input fate))
  input_later world i input fate = step_later world world.links (λ f t. same_link (world.links f t) (world.links f t) refl) i (world.nodes i) refl input fate

  pub delivery_later : (world : World Kind Op Shown) (from to index : ℕ) (fate : Fate) → Later world (happens D world (Delivery from to index fate))
  delivery_later world from to index fate = by_message (message_at world from to index)
    where
      by_message : (o : Option (Message Op)) → Later world (delivered D world from to index o fate)
      by_message None = record { links = moved_grows world.links from to index; runs = λ t node e. (node, e, omega arith) }
      by_message (Some message) = step_later world (moved_on world.links from to index) (moved_grows world.links from to index) to (world.nodes to) refl (Input.Take from message) fate

  -- a delivery at the message due, or before it, moves past it
  pub delivery_past : (world : World Kind Op Shown) (from to index : ℕ) (fate : Fate) (message : Message Op) (node : Node Kind Op Shown) → message_at world from to index ≡ Some message → world.nodes to ≡ Some node → index ≤ (world.links from to).next → suc index ≤ ((happens D world (Delivery from to index fate)).links from to).next
  delivery_past world from to index fate message node sent runs h =
      subst (λ o. suc index ≤ ((delivered D world from to index o fate).links from to).next) (sym sent)
      (subst (λ o. suc index ≤ ((stepped_at D (record world { links = moved_on world.links from to index }) to o (Input.Take from message) fate).links from to).next) (sym runs)
      (let a = moved_past world.links from to index h in let b = (posts_grow (step D node (Input.Take from message) fate).output.posts (moved_on world.links from to index) to from to).1 in omega arith))

  -- ONE DELIVERY OF A ROUND

  deliver_later : (p : Playing Kind Op Shown) (from to index : ℕ) → Later p.world (deliver D p from to index).world
  deliver_later p from to index =
      deliver_case D (λ (q : Playing Kind Op Shown). Later p.world q.world) p from to index (λ head answer. later_same p.world)
      (λ head turn. let r = turn_taken D p head (Delivery from to index) turn in subst (λ (w : World Kind Op Shown). Later p.world w) (sym r.world) (delivery_later p.world from to index r.fate))

  -- the message is there, and its receiver runs and has room
  deliver_past : (p : Playing Kind Op Shown) (from to index : ℕ) (message : Message Op) (node : Node Kind Op Shown) → message_at p.world from to index ≡ Some message → p.world.nodes to ≡ Some node → HaveRoom D p.world → index ≤ (p.world.links from to).next → suc index ≤ ((deliver D p from to index).world.links from to).next
  deliver_past p from to index message node sent runs room h =
      deliver_by D (λ (q : Playing Kind Op Shown). suc index ≤ (q.world.links from to).next) p from to index message node sent runs
      (λ full. absurd (let a = room to node runs in elim (eqb_tells node.steps D.most_steps) [ inl is ↦ omega (arith, is.1) | inr isnt ↦ let g = sym full ∙ isnt.0 in cc g ]))
      (λ free.
      let r = turn_taken D p (DeliverHead from to index (Some message)) (Delivery from to index) (turn_by to node (Input.Take from message) NoStore) in
      subst (λ (w : World Kind Op Shown). suc index ≤ (w.links from to).next) (sym r.world) (delivery_past p.world from to index r.fate message node sent runs h))

  -- ALL THAT IS DUE ON A LINK

  get_below : {X : Type 0} (xs : List X) (k : ℕ) → k < length xs → (x : X) × (slice_get xs k ≡ Some x)
  get_below [] k h = absurd (omega arith)
  get_below (x ∷ xs) zero h = (x, refl)
  get_below (x ∷ xs) (suc k) h = get_below xs k (omega arith)

  one_of : (from to : ℕ) → Playing Kind Op Shown → ℕ → Playing Kind Op Shown
  one_of from to q index = deliver D q from to index

  indices_later : (from to : ℕ) (p : Playing Kind Op Shown) (ks : List ℕ) → Later p.world (fold (λ q index. deliver D q from to index) p ks).world
  indices_later from to p [] = later_same p.world
  indices_later from to p (k ∷ ks) = later_trans p.world (deliver D p from to k).world (fold (λ q index. deliver D q from to index) p (k ∷ ks)).world (deliver_later p from to k) (indices_later from to (deliver D p from to k) ks)

  indices_past : (from to first n : ℕ) (p : Playing Kind Op Shown) (node : Node Kind Op Shown) → p.world.nodes to ≡ Some node → first ≤ (p.world.links from to).next → first + n ≤ length (p.world.links from to).messages
      → HaveRoom D (fold (λ q index. deliver D q from to index) p (range_with_len first n)).world → first + n ≤ ((fold (λ q index. deliver D q from to index) p (range_with_len first n)).world.links from to).next
  indices_past from to first zero p node runs reached long room = omega arith
  indices_past from to first (suc n) p node runs reached long room =
      let q = deliver D p from to first in
      let m = get_below (p.world.links from to).messages first (omega arith) in
      let grows = deliver_later p from to first in
      let all = later_trans p.world q.world (fold (λ q index. deliver D q from to index) p (range_with_len first (suc n))).world grows (indices_later from to q (range_with_len (first + 1) n)) in
      let past = deliver_past p from to first m.0 node m.1 runs (room_before p.world _ all room) reached in
      let then_runs = grows.runs to node runs in
      let long_then = (grows.links from to).longer in
      let rest = indices_past from to (first + 1) n q then_runs.0 then_runs.1 (omega arith) (omega arith) room in
      omega arith

  due_later : (p : Playing Kind Op Shown) (due : Due) → Later p.world (deliver_due D p due).world
  due_later p due = indices_later due.from due.to p (range_with_len due.first due.count)

  dues_later : (p : Playing Kind Op Shown) (dues : List Due) → Later p.world (fold (deliver_due D) p dues).world
  dues_later p [] = later_same p.world
  dues_later p (due ∷ dues) = later_trans p.world (deliver_due D p due).world (fold (deliver_due D) p (due ∷ dues)).world (due_later p due) (dues_later (deliver_due D p due) dues)

  -- a round that has this due
  dues_past : (due : Due) (p : Playing Kind Op Shown) (dues : List Due) (k : ℕ) → slice_get dues k ≡ Some due → (node : Node Kind Op Shown) → p.world.nodes due.to ≡ Some node → due.first ≤ (p.world.links due.from due.to).next → due.first + due.count ≤ length (p.world.links due.from due.to).messages
      → HaveRoom D (fold (deliver_due D) p dues).world → due.first + due.count ≤ ((fold (deliver_due D) p dues).world.links due.from due.to).next
  dues_past due p [] k e node runs reached long room = absurd (cc e)
  dues_past due p (d ∷ dues) zero e node runs reached long room =
      let same : d ≡ due = cc e in
      let q = deliver_due D p d in
      let rest = dues_later q dues in
      let here : due.first + due.count ≤ (q.world.links due.from due.to).next =
      subst (λ (x : Due). x.first + x.count ≤ (q.world.links x.from x.to).next) same
      (indices_past d.from d.to d.first d.count p node (ap (λ (x : Due). p.world.nodes x.to) same ∙ runs) (subst (λ (x : Due). x.first ≤ (p.world.links x.from x.to).next) (sym same) reached) (subst (λ (x : Due). x.first + x.count ≤ length (p.world.links x.from x.to).messages) (sym same) long)
      (room_before q.world _ rest room)) in
      let grows = (rest.links due.from due.to).next in
      omega arith
  dues_past due p (d ∷ dues) (suc k) e node runs reached long room =
      let one = due_later p d in
      let then_runs = one.runs due.to node runs in
      let link = one.links due.from due.to in
      dues_past due (deliver_due D p d) dues k e then_runs.0 then_runs.1 (let a = link.next in omega arith) (let a = link.longer in omega arith) room

  -- A ROUND

  round_world : (p : Playing Kind Op Shown) (dues : List Due) → (round_of D p dues).world ≡ (fold (deliver_due D) p dues).world
  round_world p [] = refl
  round_world p (due ∷ dues) = refl

  pub round_later : (p : Playing Kind Op Shown) → Later p.world (played D p ScriptStep.Round).world
  round_later p = subst (λ (w : World Kind Op Shown). Later p.world w) (sym (round_world p (due_now D p))) (dues_later p (due_now D p))

  -- all that was sent on a link from a given identity to a running member is past after it
  pub round_past : (p : Playing Kind Op Shown) (from to : ℕ) (node : Node Kind Op Shown) → from < p.world.view.given → IsIn (identities_of p.world.view) to → p.world.nodes to ≡ Some node → HaveRoom D (played D p ScriptStep.Round).world
      → length (p.world.links from to).messages ≤ ((played D p ScriptStep.Round).world.links from to).next
  round_past p from to node given member runs room = by_test (nat_lt (p.world.links from to).next (length (p.world.links from to).messages)) refl
    where
      due : Due
      due = record { from = from; to = to; first = (p.world.links from to).next; count = length (p.world.links from to).messages - (p.world.links from to).next }

      by_test : (b : Bool) → nat_lt (p.world.links from to).next (length (p.world.links from to).messages) ≡ b → length (p.world.links from to).messages ≤ ((played D p ScriptStep.Round).world.links from to).next
      by_test false e = let a = (round_later p).links from to in let b = a.next in let c : length (p.world.links from to).messages ≤ (p.world.links from to).next = not_less e in omega arith
        where
          not_less : nat_lt (p.world.links from to).next (length (p.world.links from to).messages) ≡ false → length (p.world.links from to).messages ≤ (p.world.links from to).next
          not_less e = grind (arith, nat_tests)
      by_test true e =
          let plain : 0 + from ≡ from = omega arith in
          let here : IsIn (due_on from to (p.world.links from to)) due = subst (λ (b : Bool). IsIn (if b then record { from = from; to = to; first = (p.world.links from to).next; count = length (p.world.links from to).messages - (p.world.links from to).next } ∷ [] else []) due) (sym e) (zero, refl) in
          let row = to_flat_map (λ t. due_on from t (p.world.links from t)) (identities_of p.world.view) to due member here in
          let all = to_flat_map (λ f. flat_map (λ t. due_on f t (p.world.links f t)) (identities_of p.world.view)) (range_with_len 0 p.world.view.given) from due (from, range_at 0 p.world.view.given from given ∙ ap Some plain) row in
          let less = ltb-true (p.world.links from to).next (length (p.world.links from to).messages) e in
          let past = dues_past due p (due_now D p) all.0 all.1 node runs (omega arith) (omega arith) (subst (λ (w : World Kind Op Shown). HaveRoom D w) (round_world p (due_now D p)) room) in
          let same : ((played D p ScriptStep.Round).world.links from to).next ≡ ((fold (deliver_due D) p (due_now D p)).world.links from to).next = ap (λ (w : World Kind Op Shown). (w.links from to).next) (round_world p (due_now D p)) in
          omega arith
