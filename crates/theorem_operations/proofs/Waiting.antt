-- An open operation on its way: each member's answer is counted, or is due, or the question that it answers is due.
use Rattle.std.proofs.Common.{◌≡◌, ◌≢◌, ℕ, suc, ◌<◌, ◌≤◌, List, [], ◌∷◌, ◌++◌, length, refl, sym, ap, subst, ◌∙◌, arith, Bool, true, false, Option, Some, None, ◌⊎◌, inl, inr}
use Rattle.std.specs.Prelude.{if◌then◌else◌, slice_get, find, map, not, nat_le, ◌==◌, ◌||◌, ◌&&◌}
use Rattle.std.specs.Str.{bytes_eq}
use Rattle.std.proofs.lemmas.Bool.Decides.{eqb_tells}
use Rattle.std.proofs.lemmas.Bool.{eq-eqb, leb-false}
use Rattle.model_history.specs.Texts.{Text}
use Rattle.model_history.specs.Table.{with_at}
use Rattle.model_history.specs.Vector.{members_of, with_member}
use Rattle.model_history.proofs.HistoryLaws.{with_at_same, with_at_other, slice_get-below}
use Rattle.model_history.proofs.PruneLaws.{IsIn}
use Rattle.model_members.specs.View.{is_member}
use Rattle.model_members.specs.DataType.{Replication}
use Rattle.model_members.specs.Message.{Message}
use Rattle.model_members.specs.Message.Message.{Write, WriteAck, WriteNack, Read, ReadAnswer, Deltas, Gossip, Nack, Status}
use Rattle.model_members.specs.Node.{Node, OpenOperation, Finished, Input, Fate, Stepped as StepResult, key_state, one_step_later}
use Rattle.model_members.specs.Node.Fate.{StoreFailed, NoStore, Stored}
use Rattle.model_members.specs.Node.Input.{Take, Timeout}
use Rattle.model_members.specs.Node.Reply.{Taken as TakenReply, NotFromMember}
use Rattle.model_members.specs.Step.{step, step_of_take, answered, has_failed, with_answer, is_answered_by, result_of, after_entries, keyed_option, took, answer_to, answered_entry}
use Rattle.model_members.specs.World.{World, Link, Links, Event, happens, run, message_at, moved_on, with_link, IsLawful, AreLawful}
use Rattle.model_members.specs.World.Event.{InputAt, Delivery, Loss, Removal, Joining, Restart}
use Rattle.model_members.proofs.Steps.{bytes_eq-same}
use Rattle.model_members.proofs.Cases.{counted_for, stepped_at, delivered}
use Rattle.theorem_runs.proofs.Keeping.{if_tells}
use Rattle.theorem_operations.specs.Quorum.{KeepsMembers}
use Rattle.theorem_operations.proofs.Lists.{to_filter, to_map, find_only, in_front, in_end, first_true, both_true, same_number}
use Rattle.theorem_operations.proofs.Turns.{MakesStep}
use Rattle.theorem_operations.proofs.KnownWrites.{IsOfKnown}
use Rattle.theorem_operations.proofs.Turns.MakesStep.{ByInput, ByDelivery}
use Rattle.theorem_operations.specs.Finishing.{HasNotFailed, DisturbsNothing}
use Rattle.theorem_operations.proofs.Operations.{Change, entries_same, step_tells}
use Rattle.theorem_operations.proofs.Operations.Change.{Unchanged, Pushed, CountedFor, EndedFor, Dropped}
use Rattle.theorem_operations.proofs.Rounds.{link_case, posts_grow, moved_grows, Later, input_later, delivery_later}

-- LISTS

get_last : {X : Type 0} (xs : List X) (x : X) → slice_get (xs ++ x ∷ []) (length xs) ≡ Some x
get_last [] x = refl
get_last (y ∷ xs) x = get_last xs x

-- LINKS THAT MOVE ON

module _ {Kind Op Shown : Type 0} (D : Replication Kind Op Shown) where
  -- a link rests, or the message due on it is step_of_take
  pub data LinkAfter (event : Event Op) (world next : World Kind Op Shown) (f t : ℕ) : Type 0 where
    Rests : (next.links f t).next ≡ (world.links f t).next → LinkAfter event world next f t
    MovesOn : (fate : Fate) → event ≡ Delivery f t (world.links f t).next fate → (next.links f t).next ≡ suc (world.links f t).next → LinkAfter event world next f t

  moved_case : (links : Links Op) (from to index f t : ℕ) → ((moved_on links from to index f t).next ≡ (links f t).next) ⊎ ((f ≡ from) × (t ≡ to) × (index ≡ (links f t).next) × ((moved_on links from to index f t).next ≡ suc (links f t).next))
  moved_case links from to index f t = by_test ((links from to).next == index) refl
    where
      by_test : (b : Bool) → ((links from to).next == index) ≡ b → (((if b then with_link links from to (record (links from to) { next = suc index }) else links) f t).next ≡ (links f t).next)
          ⊎ ((f ≡ from) × (t ≡ to) × (index ≡ (links f t).next) × (((if b then with_link links from to (record (links from to) { next = suc index }) else links) f t).next ≡ suc (links f t).next))
      by_test false e = inl refl
      by_test true e = elim (link_case links from to (record (links from to) { next = suc index }) f t) [
        | inl h ↦
            let here : (links f t).next ≡ (links from to).next = ap (λ g. (links g t).next) h.0 ∙ ap (λ u. (links from u).next) h.1 in
            let is : (links from to).next ≡ index = same_number (links from to).next index e in
            inr (h.0, h.1, sym (here ∙ is), ap (λ (l : Link Op). l.next) h.2 ∙ ap suc (sym (here ∙ is)))
        | inr g ↦ inl (ap (λ (l : Link Op). l.next) g)
      ]

  stepped_link : (world : World Kind Op Shown) (links : Links Op) (i : ℕ) (o : Option (Node Kind Op Shown)) (input : Input Op) (fate : Fate) (f t : ℕ) → ((stepped_at D (record world { links = links }) i o input fate).links f t).next ≡ (links f t).next
  stepped_link world links i None input fate f t = refl
  stepped_link world links i (Some node) input fate f t = (posts_grow (step D node input fate).output.posts links i f t).1

  pub link_after : (world : World Kind Op Shown) (i op : ℕ) (event : Event Op) → DisturbsNothing i op event → (f t : ℕ) → LinkAfter event world (happens D world event) f t
  link_after world i op (InputAt j input fate) quiet f t = Rests (stepped_link world world.links j (world.nodes j) input fate f t)
  link_after world i op (Delivery from to index fate) quiet f t = by_case (moved_case world.links from to index f t)
    where
      moved_is : (o : Option (Message Op)) → ((delivered D world from to index o fate).links f t).next ≡ (moved_on world.links from to index f t).next
      moved_is None = refl
      moved_is (Some message) = stepped_link world (moved_on world.links from to index) to (world.nodes to) (Take from message) fate f t

      by_case : ((moved_on world.links from to index f t).next ≡ (world.links f t).next) ⊎ ((f ≡ from) × (t ≡ to) × (index ≡ (world.links f t).next) × ((moved_on world.links from to index f t).next ≡ suc (world.links f t).next))
          → LinkAfter (Delivery from to index fate) world (delivered D world from to index (message_at world from to index) fate) f t
      by_case (inl e) = Rests (moved_is (message_at world from to index) ∙ e)
      by_case (inr h) = MovesOn fate (λ j. Delivery (sym h.0 j) (sym h.1 j) (h.2 j) fate) (moved_is (message_at world from to index) ∙ h.3)
  link_after world i op (Loss from to) quiet f t = absurd quiet
  link_after world i op (Removal j) quiet f t = absurd quiet
  link_after world i op (Joining place) quiet f t = absurd quiet
  link_after world i op (Restart j) quiet f t = absurd quiet

  pub later_after : (world : World Kind Op Shown) (i op : ℕ) (event : Event Op) → DisturbsNothing i op event → Later world (happens D world event)
  later_after world i op (InputAt j input fate) quiet = input_later D world j input fate
  later_after world i op (Delivery from to index fate) quiet = delivery_later D world from to index fate
  later_after world i op (Loss from to) quiet = absurd quiet
  later_after world i op (Removal j) quiet = absurd quiet
  later_after world i op (Joining place) quiet = absurd quiet
  later_after world i op (Restart j) quiet = absurd quiet

  pub keeps_members : (i op : ℕ) (event : Event Op) → DisturbsNothing i op event → KeepsMembers event
  keeps_members i op (InputAt j input fate) quiet = tt
  keeps_members i op (Delivery from to index fate) quiet = tt
  keeps_members i op (Loss from to) quiet = absurd quiet
  keeps_members i op (Removal j) quiet = absurd quiet
  keeps_members i op (Joining place) quiet = absurd quiet
  keeps_members i op (Restart j) quiet = absurd quiet

  -- A LINK NEVER GETS PAST ITS LAST MESSAGE

  abbrev pub AllFit : World Kind Op Shown → Type 0
  AllFit world = (f t : ℕ) → (world.links f t).next ≤ length (world.links f t).messages

  stepped_fits : (world : World Kind Op Shown) (links : Links Op) → ((f t : ℕ) → (links f t).next ≤ length (links f t).messages) → (i : ℕ) (o : Option (Node Kind Op Shown)) (input : Input Op) (fate : Fate) → AllFit (stepped_at D (record world { links = links }) i o input fate)
  stepped_fits world links fits i None input fate f t = fits f t
  stepped_fits world links fits i (Some node) input fate f t = let a = posts_grow (step D node input fate).output.posts links i f t in let b = a.0.longer in let c = a.1 in let d = fits f t in omega arith

  moved_fits : (links : Links Op) (from to index : ℕ) → ((f t : ℕ) → (links f t).next ≤ length (links f t).messages) → index < length (links from to).messages → (f t : ℕ) → (moved_on links from to index f t).next ≤ length (moved_on links from to index f t).messages
  moved_fits links from to index fits below f t = by_case (moved_case links from to index f t)
    where
      by_case : ((moved_on links from to index f t).next ≡ (links f t).next) ⊎ ((f ≡ from) × (t ≡ to) × (index ≡ (links f t).next) × ((moved_on links from to index f t).next ≡ suc (links f t).next)) → (moved_on links from to index f t).next ≤ length (moved_on links from to index f t).messages
      by_case (inl e) = let a = (moved_grows links from to index f t).longer in let b = fits f t in omega arith
      by_case (inr h) =
          let here : length (links f t).messages ≡ length (links from to).messages = ap (λ g. length (links g t).messages) h.0 ∙ ap (λ u. length (links from u).messages) h.1 in
          let a = (moved_grows links from to index f t).longer in let b = h.2 in let c = h.3 in omega arith

  fits_next : (world : World Kind Op Shown) (event : Event Op) → IsLawful D world event → AllFit world → AllFit (happens D world event)
  fits_next world (InputAt i input fate) lawful fits = stepped_fits world world.links fits i (world.nodes i) input fate
  fits_next world (Delivery from to index fate) lawful fits =
      subst (λ m. AllFit (delivered D world from to index m fate)) (sym lawful.1)
      (stepped_fits world (moved_on world.links from to index) (moved_fits world.links from to index fits (slice_get-below (world.links from to).messages lawful.0 index lawful.1)) to (world.nodes to) (Take from lawful.0) fate)
  fits_next world (Loss from to) lawful fits = moved_fits world.links from to (world.links from to).next fits lawful
  fits_next world (Removal i) lawful fits = fits
  fits_next world (Joining place) lawful fits = fits
  fits_next world (Restart i) lawful fits = fits

  pub fits_run : (world : World Kind Op Shown) (events : List (Event Op)) → AreLawful D world events → AllFit world → AllFit (run D world events)
  fits_run world [] lawful fits = fits
  fits_run world (event ∷ events) lawful fits = fits_run (happens D world event) events lawful.1 (fits_next world event lawful.0 fits)

  -- WHO STEPS

  pub data NodeFrom (event : Event Op) (world : World Kind Op Shown) (t : ℕ) (node : Node Kind Op Shown) : Type 0 where
    Unmoved : world.nodes t ≡ Some node → NodeFrom event world t node
    Moved : (old : Node Kind Op Shown) (input : Input Op) (fate : Fate) → world.nodes t ≡ Some old → MakesStep world event t input fate → (step D old input fate).node ≡ node → NodeFrom event world t node

  stepped_from : (event : Event Op) (world : World Kind Op Shown) (links : Links Op) (i : ℕ) (o : Option (Node Kind Op Shown)) → world.nodes i ≡ o → (input : Input Op) (fate : Fate) → MakesStep world event i input fate → (t : ℕ) (node : Node Kind Op Shown)
      → (stepped_at D (record world { links = links }) i o input fate).nodes t ≡ Some node → NodeFrom event world t node
  stepped_from event world links i None runs input fate makes t node e = Unmoved e
  stepped_from event world links i (Some old) runs input fate makes t node e = elim (eqb_tells t i) [
    | inl is ↦
        let same : (step D old input fate).node ≡ node = (let f : Some (step D old input fate).node ≡ Some node = sym (ap (with_at world.nodes i (Some (step D old input fate).node)) is.1 ∙ with_at_same world.nodes i (Some (step D old input fate).node)) ∙ e in cc f) in
        Moved old input fate (ap world.nodes is.1 ∙ runs) (subst (λ j. MakesStep world event j input fate) (sym is.1) makes) same
    | inr isnt ↦ Unmoved (sym (with_at_other world.nodes i (Some (step D old input fate).node) t isnt.1) ∙ e)
  ]

  pub node_from : (world : World Kind Op Shown) (i op : ℕ) (event : Event Op) → DisturbsNothing i op event → (t : ℕ) (node : Node Kind Op Shown) → (happens D world event).nodes t ≡ Some node → NodeFrom event world t node
  node_from world i op (InputAt j input fate) quiet t node e = stepped_from (InputAt j input fate) world world.links j (world.nodes j) refl input fate (ByInput refl) t node e
  node_from world i op (Delivery from to index fate) quiet t node e = by_message (message_at world from to index) refl e
    where
      by_message : (o : Option (Message Op)) → message_at world from to index ≡ o → (delivered D world from to index o fate).nodes t ≡ Some node → NodeFrom (Delivery from to index fate) world t node
      by_message None is f = Unmoved f
      by_message (Some message) is f = stepped_from (Delivery from to index fate) world (moved_on world.links from to index) to (world.nodes to) refl (Take from message) fate (ByDelivery from index message refl is refl) t node f
  node_from world i op (Loss from to) quiet t node e = absurd quiet
  node_from world i op (Removal j) quiet t node e = absurd quiet
  node_from world i op (Joining place) quiet t node e = absurd quiet
  node_from world i op (Restart j) quiet t node e = absurd quiet

  -- AN OPERATION THAT WAITS

  module _ (i op : ℕ) (reads : Bool) (key : Text) (n : ℕ) where
    -- it asks
    abbrev pub IsQuestion : Message Op → Type 0
    IsQuestion (Write o name entry) = (reads ≡ false) × (o ≡ op)
    IsQuestion (Read o name) = (reads ≡ true) × (o ≡ op) × (name ≡ key)
    IsQuestion _ = ⊥

    -- it is answered
    abbrev pub IsReplyTo : Message Op → Type 0
    IsReplyTo (WriteAck o) = (reads ≡ false) × (o ≡ op)
    IsReplyTo (ReadAnswer o name entry) = (reads ≡ true) × (o ≡ op) × (name ≡ key)
    IsReplyTo _ = ⊥

    -- it is open, and lacks answers; the member itself is counted
    pub record Waits (node : Node Kind Op Shown) (o : OpenOperation) : Type 0 where
      pub stood : IsIn node.open_operations o
      pub is_op : o.op ≡ op
      pub is_reads : o.reads ≡ reads
      pub is_key : o.key ≡ key
      pub needs : o.needed ≡ n
      pub few_yet : length (members_of o.counted) < n
      pub own : o.counted i ≡ true

    -- it is over
    abbrev pub IsOverAt : Node Kind Op Shown → Type 0
    IsOverAt node = (f : Finished Shown) × IsIn node.finished f × (f.op ≡ op)

    -- what becomes of it in a step
    pub data GoesOn (o : OpenOperation) (after : Node Kind Op Shown) : Type 0 where
      Ends : IsOverAt after → GoesOn o after
      StillWaits : (p : OpenOperation) → Waits after p → ((t : ℕ) → o.counted t ≡ true → p.counted t ≡ true) → GoesOn o after

    counted_more : (set : ℕ → Bool) (from t : ℕ) → set t ≡ true → with_member set from t ≡ true
    counted_more set from t e = by_test (t == from) e
      where
        by_test : (b : Bool) → set t ≡ true → (b || set t) ≡ true
        by_test true e = refl
        by_test false e = e

    pub over_stays : (old : Node Kind Op Shown) (input : Input Op) (fate : Fate) → IsOverAt old → IsOverAt (step D old input fate).node
    over_stays old input fate over = by (step_tells D old input fate).change
      where
        by : Change D old (step D old input fate).node input → IsOverAt (step D old input fate).node
        by (Unchanged a b) = (over.0, subst (λ (fs : List (Finished Shown)). IsIn fs over.0) (sym b) over.1, over.2)
        by (Pushed o e a b) = (over.0, subst (λ (fs : List (Finished Shown)). IsIn fs over.0) (sym b) over.1, over.2)
        by (CountedFor from o c few a b) = (over.0, subst (λ (fs : List (Finished Shown)). IsIn fs over.0) (sym b) over.1, over.2)
        by (EndedFor from o end c e a b) = (over.0, subst (λ (fs : List (Finished Shown)). IsIn fs over.0) (sym b) (in_front old.finished (end ∷ []) over.0 over.1), over.2)
        by (Dropped m e a b) = (over.0, subst (λ (fs : List (Finished Shown)). IsIn fs over.0) (sym b) over.1, over.2)

    module _ (old : Node Kind Op Shown) (o : OpenOperation) (waits : Waits old o) (single : (p : OpenOperation) → IsIn old.open_operations p → p.op ≡ op → p ≡ o) where
      -- it waits with one more answer
      waits_more : (from : ℕ) (after : Node Kind Op Shown) (os : List OpenOperation) → os ≡ old.open_operations → after.open_operations ≡ map (λ (p : OpenOperation). if p.op == o.op then with_answer from o else p) os → length (members_of (with_answer from o).counted) < o.needed → Waits after (with_answer from o)
      waits_more from after os is a few =
          record {
            stood = subst (λ (qs : List OpenOperation). IsIn qs (with_answer from o)) (sym a)
                (subst (λ (x : OpenOperation). IsIn (map (λ (p : OpenOperation). if p.op == o.op then with_answer from o else p) os) x) (ap (λ b. if b then with_answer from o else o) (eq-eqb o.op o.op refl))
                (to_map (λ (p : OpenOperation). if p.op == o.op then with_answer from o else p) os o (subst (λ (qs : List OpenOperation). IsIn qs o) (sym is) waits.stood)));
            is_op = waits.is_op;
            is_reads = waits.is_reads;
            is_key = waits.is_key;
            needs = waits.needs;
            few_yet = subst (λ m. length (members_of (with_answer from o).counted) < m) waits.needs few;
            own = counted_more o.counted from i waits.own;
          }

      still_stood : (input : Input Op) (fate : Fate) → IsIn (step D old input fate).node.open_operations o → GoesOn o (step D old input fate).node
      still_stood input fate h = StillWaits o (record { stood = h; is_op = waits.is_op; is_reads = waits.is_reads; is_key = waits.is_key; needs = waits.needs; few_yet = waits.few_yet; own = waits.own }) (λ t e. e)

      not_equal : (a b : ℕ) → a ≢ b → not (a == b) ≡ true
      not_equal a b h = elim (eqb_tells a b) [ inl is ↦ absurd (h is.1) | inr isnt ↦ ap not isnt.0 ]

      -- any step but its own timeout
      pub goes_on : (input : Input Op) (fate : Fate) → ((m : ℕ) → input ≡ Timeout m → m ≢ op) → GoesOn o (step D old input fate).node
      goes_on input fate no_timeout = by (step_tells D old input fate).change
        where
          by : Change D old (step D old input fate).node input → GoesOn o (step D old input fate).node
          by (Unchanged a b) = still_stood input fate (subst (λ (qs : List OpenOperation). IsIn qs o) (sym a) waits.stood)
          by (Pushed p e a b) = still_stood input fate (subst (λ (qs : List OpenOperation). IsIn qs o) (sym a) (in_front old.open_operations (p ∷ []) o waits.stood))
          by (CountedFor from p c few a b) = elim (eqb_tells o.op p.op) [
            | inl is ↦
                let same : p ≡ o = single p c.stood (sym is.1 ∙ waits.is_op) in
                let a' : (step D old input fate).node.open_operations ≡ map (λ (q : OpenOperation). if q.op == o.op then with_answer from o else q) old.open_operations = subst (λ (x : OpenOperation). (step D old input fate).node.open_operations ≡ map (λ (q : OpenOperation). if q.op == x.op then with_answer from x else q) old.open_operations) same a in
                StillWaits (with_answer from o) (waits_more from (step D old input fate).node old.open_operations refl a' (subst (λ (x : OpenOperation). length (members_of (with_answer from x).counted) < x.needed) same few)) (λ t e. counted_more o.counted from t e)
            | inr isnt ↦
                still_stood input fate (subst (λ (qs : List OpenOperation). IsIn qs o) (sym a)
                (subst (λ (x : OpenOperation). IsIn (map (λ (q : OpenOperation). if q.op == p.op then with_answer from p else q) old.open_operations) x) (ap (λ b. if b then with_answer from p else o) isnt.0)
                (to_map (λ (q : OpenOperation). if q.op == p.op then with_answer from p else q) old.open_operations o waits.stood)))
          ]
          by (EndedFor from p end c e a b) = elim (eqb_tells o.op p.op) [
            | inl is ↦ Ends (end, subst (λ (fs : List (Finished Shown)). IsIn fs end) (sym b) (in_end old.finished end), e ∙ sym is.1 ∙ waits.is_op)
            | inr isnt ↦ still_stood input fate (subst (λ (qs : List OpenOperation). IsIn qs o) (sym a) (to_filter (λ (q : OpenOperation). not (q.op == p.op)) old.open_operations o waits.stood (not_equal o.op p.op isnt.1)))
          ]
          by (Dropped m e a b) = still_stood input fate (subst (λ (qs : List OpenOperation). IsIn qs o) (sym a) (to_filter (λ (q : OpenOperation). not (q.op == m)) old.open_operations o waits.stood (not_equal o.op m (λ f. no_timeout m e (sym f ∙ waits.is_op)))))

      -- an answer that is found for it
      pub data Answers (t : ℕ) (after : Node Kind Op Shown) : Type 0 where
        EndsIt : IsOverAt after → Answers t after
        CountsIt : (p : OpenOperation) → Waits after p → p.counted t ≡ true → Answers t after

      counted_answers : (t : ℕ) (s : StepResult Kind Op Shown) → s.node.open_operations ≡ old.open_operations → Answers t (counted_for D s t (Some o)).node
      counted_answers t s same =
          let now = with_answer t o in
          if_tells (λ (z : StepResult Kind Op Shown). Answers t z.node) (nat_le o.needed (length (members_of now.counted))) _ _
          (λ enough. EndsIt (record { op = o.op; result = result_of D s.node o }, in_end s.node.finished (record { op = o.op; result = result_of D s.node o }), waits.is_op))
          (λ few. CountsIt now (waits_more t _ s.node.open_operations same refl (leb-false o.needed (length (members_of now.counted)) few)) (by_self t))
        where
          by_self : (t : ℕ) → with_member o.counted t t ≡ true
          by_self t = ap (λ b. b || o.counted t) (eq-eqb t t refl)

      passes_write : reads ≡ false → is_answered_by false op o ≡ true
      passes_write e = both_true (o.op == op) (not o.reads) (eq-eqb o.op op waits.is_op) (ap not (waits.is_reads ∙ e))

      passes_read : reads ≡ true → (is_answered_by true op o && bytes_eq o.key key) ≡ true
      passes_read e = both_true (is_answered_by true op o) (bytes_eq o.key key) (both_true (o.op == op) o.reads (eq-eqb o.op op waits.is_op) (waits.is_reads ∙ e)) (ap (bytes_eq o.key) (sym waits.is_key) ∙ bytes_eq-same o.key)

      -- its answer comes
      pub replied : (t : ℕ) (message : Message Op) (fate : Fate) → is_member old.view t ≡ true → IsReplyTo message → Answers t (step D old (Take t message) fate).node
      replied t (WriteAck m) fate member r =
          let later = one_step_later old in
          let finds : find (is_answered_by false m) old.open_operations ≡ Some o =
          ap (λ x. find (is_answered_by false x) old.open_operations) r.1
          ∙ find_only (is_answered_by false op) old.open_operations o waits.stood (passes_write r.0) (λ p h e. single p h (same_number p.op op (first_true (p.op == op) (not p.reads) e))) in
          let is : (step D old (Take t (WriteAck m)) fate).node ≡ (counted_for D (answered later TakenReply) t (Some o)).node =
          ap (λ b. (if b then step_of_take D later t fate (WriteAck m) else answered later NotFromMember).node) member ∙ ap (λ x. (counted_for D (answered later TakenReply) t x).node) finds in
          subst (Answers t) (sym is) (counted_answers t (answered later TakenReply) refl)
      replied t (ReadAnswer m name entry) fate member r =
          let later = one_step_later old in
          let after = after_entries later (keyed_option D name entry) in
          let same = entries_same D later (keyed_option D name entry) in
          let finds : find (λ (o : OpenOperation). is_answered_by true m o && bytes_eq o.key name) after.open_operations ≡ Some o =
          (λ x. find (λ (o : OpenOperation). is_answered_by true (r.1 x) o && bytes_eq o.key (r.2 x)) (same.operations x))
          ∙ find_only (λ (o : OpenOperation). is_answered_by true op o && bytes_eq o.key key) old.open_operations o waits.stood (passes_read r.0) (λ p h e. single p h (same_number p.op op (first_true (p.op == op) p.reads (first_true (is_answered_by true op p) (bytes_eq p.key key) e)))) in
          let s = took D later after fate [] [] in
          let is : (step D old (Take t (ReadAnswer m name entry)) fate).node ≡ (counted_for D s t (Some o)).node =
          ap (λ b. (if b then step_of_take D later t fate (ReadAnswer m name entry) else answered later NotFromMember).node) member ∙ ap (λ x. (counted_for D s t x).node) finds in
          subst (Answers t) (sym is) (counted_answers t s same.operations)
      replied t (Deltas groups entries) fate member r = absurd r
      replied t (Nack keys) fate member r = absurd r
      replied t (Status digests) fate member r = absurd r
      replied t (Gossip entries wants) fate member r = absurd r
      replied t (Write m name entry) fate member r = absurd r
      replied t (WriteNack m) fate member r = absurd r
      replied t (Read m name) fate member r = absurd r

    -- a question is answered
    pub answers_question : (node : Node Kind Op Shown) (message : Message Op) (fate : Fate) → HasNotFailed fate → is_member node.view i ≡ true → IsOfKnown node message → IsQuestion message
        → (reply : Message Op) × ((step D node (Take i message) fate).output.posts ≡ record { to = i; message = reply } ∷ []) × IsReplyTo reply
    answers_question node (Write m name entry) fate ok member known q = (
      WriteAck m,
      ap (λ b. (if b then step_of_take D (one_step_later node) i fate (Write m name entry) else answered (one_step_later node) NotFromMember).output.posts) member
          ∙ ap (λ b. if b then answer_to D i (if has_failed fate then WriteNack m else WriteAck m) else []) known
          ∙ ap (λ b. answer_to D i (if b then WriteNack m else WriteAck m)) (not_failed fate ok),
      (q.0, q.1),
    )
      where
        not_failed : (fate : Fate) → HasNotFailed fate → has_failed fate ≡ false
        not_failed NoStore ok = refl
        not_failed Stored ok = refl
        not_failed StoreFailed ok = absurd ok
    answers_question node (Read m name) fate ok member known q = (
      ReadAnswer m name (answered_entry D (key_state (one_step_later node) name)),
      ap (λ b. (if b then step_of_take D (one_step_later node) i fate (Read m name) else answered (one_step_later node) NotFromMember).output.posts) member,
      (q.0, q.1, q.2),
    )
    answers_question node (Deltas groups entries) fate ok member known q = absurd q
    answers_question node (Nack keys) fate ok member known q = absurd q
    answers_question node (Status digests) fate ok member known q = absurd q
    answers_question node (Gossip entries wants) fate ok member known q = absurd q
    answers_question node (WriteAck m) fate ok member known q = absurd q
    answers_question node (WriteNack m) fate ok member known q = absurd q
    answers_question node (ReadAnswer m name entry) fate ok member known q = absurd q
