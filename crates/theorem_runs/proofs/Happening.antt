-- What an event leaves: who runs, which messages and stored entries there are, and where each comes from. After this no proof over runs looks at an event again.
use Rattle.std.proofs.Common.{◌≡◌, ◌≢◌, ℕ, zero, suc, ◌+◌, ◌-◌, ◌<◌, List, [], ◌∷◌, length, map, refl, sym, ap, subst, ◌∙◌, arith, true, false, Option, Some, None, ◌⊎◌, inl, inr}
use Rattle.std.specs.Prelude.{slice_get}
use Rattle.std.specs.List.{AllByRecursion}
use Rattle.std.proofs.lemmas.Bool.Decides.{eqb_tells}
use Rattle.model_history.specs.Texts.{Text}
use Rattle.model_history.specs.Table.{with_at}
use Rattle.model_history.proofs.HistoryLaws.{with_at_same, with_at_other}
use Rattle.model_history.proofs.PruneLaws.{IsIn, in_tail}
use Rattle.model_members.specs.View.{View, is_member, place_of, is_taken, with_joined, with_replaced}
use Rattle.model_members.specs.Entry.{Entry}
use Rattle.model_members.specs.DataType.{Replication}
use Rattle.model_members.specs.Message.{Keyed, Message, Post}
use Rattle.model_members.specs.Node.{Node, Input, Fate, keyed_entry}
use Rattle.model_members.specs.Node.Input.{Take}
use Rattle.model_members.specs.Step.{step, to_store}
use Rattle.model_members.specs.World.{World, Link, Store, Event, happens, message_at, loaded_node, views_of, moved_on, no_entries, IsLawful, IsGiven, StepsAt}
use Rattle.model_members.specs.World.Event.{InputAt, Delivery, Loss, Removal, Joining, Restart}
use Rattle.model_members.proofs.Cases.{stepped_at, delivered}
use Rattle.theorem_runs.proofs.ViewLaws.IsMemberAfter.{OldMember, NewMember}
use Rattle.theorem_runs.proofs.Agreement.{with_posts_all, moved_on_all, AllStored, stored_all}
use Rattle.theorem_runs.proofs.Sending.{IsFrom, sends_step, stores_own, all_both}
use Rattle.theorem_runs.proofs.Parts.{all_known}
use Rattle.theorem_runs.proofs.ViewLaws.{IsRising, IsNextView, IsMemberAfter, member_without, replaced_member, next_without, next_joined, next_replaced, stays_without, stays_joined, stays_replaced, joins, joins_at, replaces, replaces_at}

-- ELEMENTS

pub of_all : {X : Type 0} (P : X → Type 0) (xs : List X) (x : X) → AllByRecursion P xs → IsIn xs x → P x
of_all P [] x all h = absurd (cc h.1)
of_all P (y ∷ xs) x all (zero, e) = let same : y ≡ x = cc e in subst P same all.0
of_all P (y ∷ xs) x all (suc k, e) = of_all P xs x all.1 (k, e)

pub all_of : {X : Type 0} (P : X → Type 0) (xs : List X) → ((x : X) → IsIn xs x → P x) → AllByRecursion P xs
all_of P [] h = tt
all_of P (y ∷ xs) h = (h y (zero, refl), all_of P xs (λ x m. h x (in_tail y xs x m)))

-- WHAT AN EVENT LEAVES

module _ {Kind Op Shown : Type 0} (D : Replication Kind Op Shown) where
  -- what a new member loads: nothing, or what the store of a member's place holds
  pub data IsStoreFor (world next : World Kind Op Shown) (t : ℕ) (store : Store Op) : Type 0 where
    Emptied : store ≡ no_entries → next.stores (place_of next.view t) ≡ no_entries → IsStoreFor world next t store
    Reloaded : (i : ℕ) → is_member world.view i ≡ true → place_of next.view t ≡ place_of world.view i → store ≡ world.stores (place_of world.view i) → IsStoreFor world next t store

  -- a running member: it was so before, it made a step, or it is new
  pub data NodeAfter (world next : World Kind Op Shown) (t : ℕ) (new : Node Kind Op Shown) : Type 0 where
    Same : world.nodes t ≡ Some new → (is_member world.view t ≡ true → is_member next.view t ≡ true) → NodeAfter world next t new
    Stepped : (old : Node Kind Op Shown) (input : Input Op) (fate : Fate) → world.nodes t ≡ Some old → IsGiven D world t input → new ≡ (step D old input fate).node → next.view ≡ world.view → NodeAfter world next t new
    Started : (store : Store Op) → t ≡ world.view.given → next.view.given ≡ world.view.given + 1 → is_member next.view t ≡ true → new ≡ loaded_node world.keys t next.view store → IsStoreFor world next t store → NodeAfter world next t new

  -- a message: it was sent before, or brings what its sender now holds
  pub data MessageAfter (world next : World Kind Op Shown) (from to : ℕ) (message : Message Op) : Type 0 where
    OldMessage : (index : ℕ) → message_at world from to index ≡ Some message → MessageAfter world next from to message
    NewMessage : (new : Node Kind Op Shown) → next.nodes from ≡ Some new → IsFrom new.entries new.identity to message → MessageAfter world next from to message

  -- a stored entry: it stood there before, or the member at this place now holds it
  pub data StoredAfter (world next : World Kind Op Shown) (place : ℕ) (key : Text) (entry : Entry Op) : Type 0 where
    OldStored : world.stores place key ≡ Some entry → StoredAfter world next place key entry
    NewStored : (i : ℕ) (new : Node Kind Op Shown) → next.nodes i ≡ Some new → place ≡ place_of world.view i → next.view ≡ world.view → entry ≡ new.entries key → StoredAfter world next place key entry

  pub data ViewsAfter (world next : World Kind Op Shown) : Type 0 where
    SameViews : next.earlier ≡ world.earlier → next.view ≡ world.view → ViewsAfter world next
    NextViews : next.earlier ≡ views_of world → IsNextView world.view next.view → ViewsAfter world next

  -- every member of the last view runs
  pub record AllRun (world : World Kind Op Shown) : Type 0 where
    pub runs : (t : ℕ) → is_member world.view t ≡ true → (node : Node Kind Op Shown) × (world.nodes t ≡ Some node)

  pub record Follows (world next : World Kind Op Shown) : Type 0 where
    pub keys : next.keys ≡ world.keys
    pub views : ViewsAfter world next
    pub nodes : (t : ℕ) (new : Node Kind Op Shown) → next.nodes t ≡ Some new → NodeAfter world next t new
    pub messages : (from to index : ℕ) (message : Message Op) → message_at next from to index ≡ Some message → MessageAfter world next from to message
    pub stored : (place : ℕ) (key : Text) (entry : Entry Op) → next.stores place key ≡ Some entry → StoredAfter world next place key entry
    pub running : AllRun world → AllRun next

  -- TABLES

  changed : (nodes : ℕ → Option (Node Kind Op Shown)) (i : ℕ) (o : Option (Node Kind Op Shown)) (t : ℕ) (n : Node Kind Op Shown) → with_at nodes i o t ≡ Some n → ((t ≡ i) × (o ≡ Some n)) ⊎ ((t ≢ i) × (nodes t ≡ Some n))
  changed nodes i o t n e = elim (eqb_tells t i) [
    | inl is ↦ inl (is.1, sym (with_at_same nodes i o) ∙ ap (with_at nodes i o) (sym is.1) ∙ e)
    | inr isnt ↦ inr (isnt.1, sym (with_at_other nodes i o t isnt.1) ∙ e)
  ]

  set_to : (nodes : ℕ → Option (Node Kind Op Shown)) (i : ℕ) (n : Node Kind Op Shown) (t : ℕ) → ((t ≢ i) → (m : Node Kind Op Shown) × (nodes t ≡ Some m)) → (m : Node Kind Op Shown) × (with_at nodes i (Some n) t ≡ Some m)
  set_to nodes i n t others = elim (eqb_tells t i) [
    | inl is ↦ (n, ap (with_at nodes i (Some n)) is.1 ∙ with_at_same nodes i (Some n))
    | inr isnt ↦ let h = others isnt.1 in (h.0, with_at_other nodes i (Some n) t isnt.1 ∙ h.1)
  ]

  at_each : {Q : ℕ → Text → Entry Op → Type 0} (stores : ℕ → Store Op) (place : ℕ) (store : Store Op) → ((p : ℕ) → AllStored (Q p) (stores p)) → AllStored (Q place) store → (p : ℕ) → AllStored (Q p) (with_at stores place store p)
  at_each {Q = Q} stores place store old new p = elim (eqb_tells p place) [
    | inl is ↦ subst (λ p. AllStored (Q p) (with_at stores place store p)) (sym is.1) (subst (AllStored (Q place)) (sym (with_at_same stores place store)) new)
    | inr isnt ↦ subst (AllStored (Q p)) (sym (with_at_other stores place store p isnt.1)) (old p)
  ]

  -- A MEMBER'S STEP

  module _ (world : World Kind Op Shown) (i : ℕ) (old : Node Kind Op Shown) (runs : world.nodes i ≡ Some old) (input : Input Op) (fate : Fate) (comes : IsGiven D world i input) (links : ℕ → ℕ → Link Op)
      (sent : (from to index : ℕ) (message : Message Op) → slice_get (links from to).messages index ≡ Some message → (k : ℕ) × (message_at world from to k ≡ Some message)) where
    abbrev new : Node Kind Op Shown
    new = (step D old input fate).node

    abbrev after : World Kind Op Shown
    after = stepped_at D (record world { links = links }) i (Some old) input fate

    new_runs : after.nodes i ≡ Some new
    new_runs = with_at_same world.nodes i (Some new)

    step_follows : Follows world after
    step_follows =
        record {
          keys = refl;
          views = SameViews refl refl;
          nodes = λ t n e. elim (changed world.nodes i (Some new) t n e) [
            | inl h ↦ let same : new ≡ n = (let f = h.1 in cc f) in Stepped old input fate (ap world.nodes h.0 ∙ runs) (subst (λ j. IsGiven D world j input) (sym h.0) comes) (sym same) refl
            | inr h ↦ Same h.1 (λ m. m)
          ];
          messages = with_posts_all (MessageAfter world after) (step D old input fate).output.posts links i (λ from to index message e. let h = sent from to index message e in OldMessage h.0 h.1)
              (all_both _ _ _ (λ (post : Post Op) p q. NewMessage new new_runs p) (step D old input fate).output.posts (sends_step D old input fate) (sends_step D old input fate));
          stored = at_each world.stores (place_of world.view i) _ (λ p key entry h. OldStored h)
              (stored_all (StoredAfter world after (place_of world.view i)) fate (map keyed_entry (to_store old new)) (world.stores (place_of world.view i))
              (all_both _ _ _ (λ (e : Keyed (Entry Op)) p q. NewStored i new new_runs refl refl p) (map keyed_entry (to_store old new)) (stores_own D old new) (stores_own D old new)) (λ key entry h. OldStored h));
          running = λ all. record { runs = λ t m. set_to world.nodes i new t (λ other. all.runs t m) };
        }

  -- A NEW MEMBER

  given_minus : (n : ℕ) → n + 1 - 1 ≡ n
  given_minus n = omega arith

  -- who is a member then, and isn't the new one, was a member
  was_member : (view next : View) (t : ℕ) → IsMemberAfter view next t → t ≢ view.given + 1 - 1 → is_member view t ≡ true
  was_member view next t (OldMember m p) other = m
  was_member view next t (NewMember is g) other = absurd (other (is ∙ sym (given_minus view.given)))

  module _ (world : World Kind Op Shown) (below : (t : ℕ) → is_member world.view t ≡ true → t < world.view.given) where
    module _ (place : ℕ) (free : is_taken world.view place ≡ false) where
      abbrev joined : View
      joined = with_joined world.view place

      abbrev emptied : ℕ → Store Op
      emptied = with_at world.stores place no_entries

      join_follows : Follows world (happens D world (Joining place))
      join_follows =
          record {
            keys = refl;
            views = NextViews refl (next_joined world.view place below free);
            nodes = λ t n e. elim (changed world.nodes (world.view.given + 1 - 1) (Some (loaded_node world.keys (world.view.given + 1 - 1) joined (emptied place))) t n e) [
              | inl h ↦
                  let is : t ≡ world.view.given = h.0 ∙ given_minus world.view.given in
                  let same : loaded_node world.keys (world.view.given + 1 - 1) joined (emptied place) ≡ n = (let f = h.1 in cc f) in
                  let at_place : place_of joined t ≡ place = ap (place_of joined) is ∙ joins_at world.view place below in
                  Started (emptied place) is refl (ap (is_member joined) is ∙ joins world.view place below) (sym same ∙ ap (λ j. loaded_node world.keys j joined (emptied place)) (sym h.0))
                  (Emptied (with_at_same world.stores place no_entries) (ap emptied at_place ∙ with_at_same world.stores place no_entries))
              | inr h ↦ Same h.1 (stays_joined world.view place below t)
            ];
            messages = λ from to index message e. OldMessage index e;
            stored = at_each world.stores place no_entries (λ p key entry h. OldStored h) (λ key entry h. absurd (cc h));
            running = λ all. record {
              runs = λ t m. set_to world.nodes (world.view.given + 1 - 1) _ t
                  (λ other. all.runs t (was_member world.view joined t ((next_joined world.view place below free).member t m) other));
            };
          }

    module _ (i : ℕ) (there : is_member world.view i ≡ true) where
      abbrev replaced : View
      replaced = with_replaced world.view i

      abbrev old_place : ℕ
      old_place = place_of world.view i

      restart_follows : Follows world (happens D world (Restart i))
      restart_follows =
          record {
            keys = refl;
            views = NextViews refl (next_replaced world.view i below there);
            nodes = λ t n e. elim (changed (with_at world.nodes i None) (world.view.given + 1 - 1) (Some (loaded_node world.keys (world.view.given + 1 - 1) replaced (world.stores old_place))) t n e) [
              | inl h ↦
                  let is : t ≡ world.view.given = h.0 ∙ given_minus world.view.given in
                  let same : loaded_node world.keys (world.view.given + 1 - 1) replaced (world.stores old_place) ≡ n = (let f = h.1 in cc f) in
                  Started (world.stores old_place) is refl (ap (is_member replaced) is ∙ replaces world.view i below) (sym same ∙ ap (λ j. loaded_node world.keys j replaced (world.stores old_place)) (sym h.0))
                  (Reloaded i there (ap (place_of replaced) is ∙ replaces_at world.view i below) refl)
              | inr h ↦ elim (changed world.nodes i None t n h.1) [
                | inl gone ↦ absurd (let f = gone.1 in cc f)
                | inr old ↦ Same old.1 (stays_replaced world.view i below t old.0)
              ]
            ];
            messages = λ from to index message e. OldMessage index e;
            stored = λ p key entry h. OldStored h;
            running = λ all. record {
              runs = λ t m. set_to (with_at world.nodes i None) (world.view.given + 1 - 1) _ t (λ other.
                  let was = was_member world.view replaced t ((next_replaced world.view i below there).member t m) other in
                  let r = all.runs t was in
                  (r.0, with_at_other world.nodes i None t (not_replaced t m other) ∙ r.1));
            };
          }
        where
          -- the identity that left is no member then
          not_replaced : (t : ℕ) → is_member replaced t ≡ true → t ≢ world.view.given + 1 - 1 → t ≢ i
          not_replaced t m other = replaced_member world.view i below t m (λ e. other (e ∙ sym (given_minus world.view.given)))

  -- OTHER EVENTS

  removal_follows : (world : World Kind Op Shown) (i : ℕ) → IsRising 0 world.view.given world.view.members → 1 < length world.view.members → Follows world (happens D world (Removal i))
  removal_follows world i rising more =
      record {
        keys = refl;
        views = NextViews refl (next_without world.view i rising more);
        nodes = λ t n e. elim (changed world.nodes i None t n e) [
          | inl h ↦ absurd (let f = h.1 in cc f)
          | inr h ↦ Same h.1 (stays_without world.view i t h.0)
        ];
        messages = λ from to index message e. OldMessage index e;
        stored = λ place key entry h. OldStored h;
        running = λ all. record { runs = λ t m. let was = member_without world.view i t m in let r = all.runs t was.0 in (r.0, with_at_other world.nodes i None t was.1 ∙ r.1) };
      }

  -- a link that moves on keeps its messages
  moved_messages : (world : World Kind Op Shown) (from to index : ℕ) (f t k : ℕ) (message : Message Op) → slice_get (moved_on world.links from to index f t).messages k ≡ Some message → (k : ℕ) × (message_at world f t k ≡ Some message)
  moved_messages world from to index = moved_on_all (λ f t message. (k : ℕ) × (message_at world f t k ≡ Some message)) world.links from to index (λ f t k message e. (k, e))

  loss_follows : (world : World Kind Op Shown) (from to : ℕ) → Follows world (happens D world (Loss from to))
  loss_follows world from to =
      record {
        keys = refl;
        views = SameViews refl refl;
        nodes = λ t n e. Same e (λ m. m);
        messages = λ f t k message e. let h = moved_messages world from to (world.links from to).next f t k message e in OldMessage h.0 h.1;
        stored = λ place key entry h. OldStored h;
        running = λ all. record { runs = all.runs };
      }

  input_follows : (world : World Kind Op Shown) (i : ℕ) (input : Input Op) (fate : Fate) → IsGiven D world i input → StepsAt D world i input fate → Follows world (happens D world (InputAt i input fate))
  input_follows world i input fate given at_step =
      subst (λ o. Follows world (stepped_at D world i o input fate)) (sym at_step.runs)
      (step_follows world i at_step.node at_step.runs input fate given world.links (λ from to index message e. (index, e)))

  delivery_follows : (world : World Kind Op Shown) (from to index : ℕ) (fate : Fate) (message : Message Op) → message_at world from to index ≡ Some message → StepsAt D world to (Take from message) fate → Follows world (happens D world (Delivery from to index fate))
  delivery_follows world from to index fate message is at_step =
      subst (λ m. Follows world (delivered D world from to index m fate)) (sym is)
      (subst (λ o. Follows world (stepped_at D (record world { links = moved_on world.links from to index }) to o (Take from message) fate)) (sym at_step.runs)
      (step_follows world to at_step.node at_step.runs (Take from message) fate (index, message, λ key. true, is, sym (all_known message)) (moved_on world.links from to index) (moved_messages world from to index)))

  -- each lawful event
  pub event_follows : (world : World Kind Op Shown) → ((t : ℕ) → is_member world.view t ≡ true → t < world.view.given) → IsRising 0 world.view.given world.view.members → (event : Event Op) → IsLawful D world event → Follows world (happens D world event)
  event_follows world below rising (InputAt i input fate) lawful = input_follows world i input fate lawful.0 lawful.1
  event_follows world below rising (Delivery from to index fate) lawful = delivery_follows world from to index fate lawful.0 lawful.1 lawful.2
  event_follows world below rising (Loss from to) lawful = loss_follows world from to
  event_follows world below rising (Removal i) lawful = removal_follows world i rising lawful.1
  event_follows world below rising (Joining place) lawful = join_follows world below place lawful.1
  event_follows world below rising (Restart i) lawful = restart_follows world below i lawful.0
