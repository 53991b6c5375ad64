-- A world in which a member refused inputs goes on meaning what it meant: up to the member's next entry, and to its end.
use Rattle.std.proofs.Common.{◌≡◌, ◌≢◌, ℕ, zero, suc, ◌<◌, ◌≤◌, List, [], ◌∷◌, refl, sym, ap, subst, ◌∙◌, arith, Option, Some, None, inl, inr}
use Rattle.std.specs.Prelude.{is_some, option_map}
use Rattle.std.proofs.lemmas.Bool.Decides.{eqb_tells}
use Rattle.model_history.specs.Texts.{Text}
use Rattle.thread_machine.specs.declared.machine.Machine.{Ghosts as Machine}
use Rattle.model_members.specs.View.{View}
use Rattle.model_members.specs.Node.{KeyDecl}
use Rattle.model_members.specs.Script.{Playing}
use Rattle.model_kinds.specs.declared.operation.Op.{Op}
use Rattle.model_kinds.specs.declared.shown.Shown.{Shown}
use Rattle.data_lattice.specs.declared.replica.Replica.{Ghosts}
use Rattle.data_lattice.specs.declared.spelled.SpelledData.{Ghosts as Spelling}
use Rattle.member_keeper.specs.declared.keeper.Keeper.{Ghosts as Keeping}
use Rattle.member_views.specs.Sound.{IsView, last_view}
use Rattle.member_node.specs.declared.input.Input.{Input}
use Rattle.member_node.specs.declared.node.Node.{Node}
use Rattle.member_node.specs.declared.reply.Fate.{Fate}
use Rattle.member_node.specs.declared.reply.Output.{Output}
use Rattle.member_node.specs.declared.reply.StepError.{StepError}
use Rattle.member_node.specs.Steps.{IsUnchanged}
use Rattle.world_members.specs.declared.world.World.{World}
use Rattle.world_places.specs.Places.{item_at, identity_at, seat_of}
use Rattle.world_members.specs.Ways.{Means}
use Rattle.world_places.proofs.Seats.{item-set_same, item-set_other}
use Rattle.world_members.proofs.Entering.{refused_world, refused_means, same_id, same_limit, changes_with, links_with}
use Rattle.thread_run_order.specs.Images.{EntryOf}
use Rattle.thread_run_order.proofs.Forward.{Goes}
use Rattle.thread_run_order.proofs.Forward.Goes.{ends, refuses, steps}
use Rattle.thread_run_order.proofs.Merging.{Order, order}
use Rattle.thread_run_order.proofs.Merging.Order.{less, even, more}
use Rattle.thread_run_order.proofs.Places.{seat_there}

pub below : (k n : ℕ) → k < suc n → k ≢ n → k < n
below k n l other = go (order k n)
  where
    go : Order k n → k < n
    go (less h) = h
    go (even e) = absurd (other e)
    go (more h) = absurd (omega arith)

-- all but the member at a place is the same
pub record StaysBut {T K Kind Delta : Type 0} {ghosts : Ghosts T Kind Op Delta} {keeping : Keeping K} (place : ℕ) (w w' : World T K Kind Op Delta ghosts keeping) : Type 0 where
  pub views : w'.views ≡ w.views
  pub keys : w'.keys ≡ w.keys
  pub spare : w'.spare ≡ w.spare
  pub links : w'.links ≡ w.links
  pub others : (j : ℕ) → j ≢ place → item_at w'.nodes.items j ≡ item_at w.nodes.items j

module _ {T K Kind Delta : Type 0} {ghosts : Ghosts T Kind Op Delta} {keeping : Keeping K} (place : ℕ) where
  stays : (w : World T K Kind Op Delta ghosts keeping) → StaysBut place w w
  stays w = record { views = refl; keys = refl; spare = refl; links = refl; others = λ j other. refl }

  then_stays : (u v w : World T K Kind Op Delta ghosts keeping) → StaysBut place u v → StaysBut place v w → StaysBut place u w
  then_stays u v w a b = record { views = b.views ∙ a.views; keys = b.keys ∙ a.keys; spare = b.spare ∙ a.spare; links = b.links ∙ a.links; others = λ j other. b.others j other ∙ a.others j other }

module _ {T K Kind Delta : Type 0} {ghosts : Ghosts T Kind Op Delta} {keeping : Keeping K} (spelling : Spelling T Kind Op Delta) (alike : (a b : K) → is_some (keeping.table a) ≡ is_some (keeping.table b)) (meaning : Machine (Node T K Kind Op Delta ghosts keeping) (Input T Kind Op Delta ghosts) Fate (Output T Kind Op Delta ghosts) StepError)
    (unchanged_are : (old new : Node T K Kind Op Delta ghosts keeping) → meaning.IsUnchanged old new → IsUnchanged old new) (kinds : Text → Kind) (members : ℕ) (decls : List (KeyDecl Kind)) (p : Playing Kind Op Shown) (views : List View) (sound : IsView (last_view views)) where
  pub seat_in : (w : World T K Kind Op Delta ghosts keeping) → w.views ≡ views → (place i : ℕ) → identity_at (last_view views) place ≡ Some i → seat_of (last_view w.views) i ≡ Some place
  seat_in w same place i here = ap (λ (vs : List View). seat_of (last_view vs) i) same ∙ seat_there (last_view views) sound place i here

  pub sound_in : (w : World T K Kind Op Delta ghosts keeping) → w.views ≡ views → IsView (last_view w.views)
  sound_in w same = subst (λ (vs : List View). IsView (last_view vs)) (sym same) sound

  -- the member at a place became another one
  pub record CameTo (place : ℕ) (next : Node T K Kind Op Delta ghosts keeping) (w : World T K Kind Op Delta ghosts keeping) : Type 0 where
    pub world : World T K Kind Op Delta ghosts keeping
    pub means : Means spelling kinds members decls p world
    pub but : StaysBut place w world
    pub is : item_at world.nodes.items place ≡ Some next

  module _ (place i : ℕ) (here : identity_at (last_view views) place ≡ Some i) where
    refuse : (w : World T K Kind Op Delta ghosts keeping) (same : w.views ≡ views) → Means spelling kinds members decls p w → (now next : Node T K Kind Op Delta ghosts keeping) → item_at w.nodes.items place ≡ Some now → IsUnchanged now next → CameTo place next w
    refuse w same m now next was unchanged =
        let sound_here = sound_in w same in
        let seat = seat_in w same place i here in
        let id = same_id spelling alike w i place now next was unchanged sound_here seat in
        let limit = same_limit spelling alike w i place now next was unchanged sound_here seat in
        let c = changes_with w place now next was id limit i w.links sound_here seat in
        record {
          world = refused_world spelling alike w i place now next was unchanged sound_here seat;
          means = refused_means spelling alike w i place now next was unchanged sound_here seat kinds members decls p m;
          but = record {
            views = c.views;
            keys = c.keys;
            spare = c.spare;
            links = links_with w place now next was id limit w.links;
            others = λ j other. ap (λ xs. item_at xs j) c.nodes ∙ item-set_other w.nodes.items place j (Some next) other;
          };
          is = ap (λ xs. item_at xs place) c.nodes ∙ item-set_same w.nodes.items place (Some next) c.within;
        }

    -- up to the member's next entry
    pub record AtStep (e : EntryOf ghosts keeping) (es : List (EntryOf ghosts keeping)) (last : Node T K Kind Op Delta ghosts keeping) (w : World T K Kind Op Delta ghosts keeping) : Type 0 where
      pub before : Node T K Kind Op Delta ghosts keeping
      pub next : Node T K Kind Op Delta ghosts keeping
      pub came : CameTo place before w
      pub makes : meaning.Steps before e.input e.fate e.output next
      pub goes : Goes meaning next es last

    pub to_step : (h : List (EntryOf ghosts keeping)) (now last : Node T K Kind Op Delta ghosts keeping) → Goes meaning now h last → (e : EntryOf ghosts keeping) (es : List (EntryOf ghosts keeping)) → h ≡ e ∷ es
        → (w : World T K Kind Op Delta ghosts keeping) → w.views ≡ views → Means spelling kinds members decls p w → item_at w.nodes.items place ≡ Some now → AtStep e es last w
    to_step _ now last (ends _) e es is w same m was = absurd (cc is)
    to_step h now last (refuses _ next _ _ u onward) e es is w same m was =
        let r = refuse w same m now next was (unchanged_are now next u) in
        let s = to_step h next last onward e es is r.world (r.but.views ∙ same) r.means r.is in
        record {
          before = s.before;
          next = s.next;
          came = record { world = s.came.world; means = s.came.means; but = then_stays place w r.world s.came.world r.but s.came.but; is = s.came.is };
          makes = s.makes;
          goes = s.goes;
        }
    to_step _ now last (steps _ next _ f fs s onward) e es is w same m was =
        let first : f ≡ e = cc is in
        let rest : fs ≡ es = cc is in
        record {
          before = now;
          next = next;
          came = record { world = w; means = m; but = stays place w; is = was };
          makes = subst (λ (x : EntryOf ghosts keeping). meaning.Steps now x.input x.fate x.output next) first s;
          goes = subst (λ xs. Goes meaning next xs last) rest onward;
        }

    -- to the end, where no entry is to come
    pub to_end : (h : List (EntryOf ghosts keeping)) (now last : Node T K Kind Op Delta ghosts keeping) → Goes meaning now h last → h ≡ []
        → (w : World T K Kind Op Delta ghosts keeping) → w.views ≡ views → Means spelling kinds members decls p w → item_at w.nodes.items place ≡ Some now → CameTo place last w
    to_end _ now last (ends _) is w same m was = record { world = w; means = m; but = stays place w; is = was }
    to_end h now last (refuses _ next _ _ u onward) is w same m was =
        let r = refuse w same m now next was (unchanged_are now next u) in
        let s = to_end h next last onward is r.world (r.but.views ∙ same) r.means r.is in
        record { world = s.world; means = s.means; but = then_stays place w r.world s.world r.but s.but; is = s.is }
    to_end _ now last (steps _ next _ f fs s onward) is w same m was = absurd (cc is)

  -- ALL MEMBERS AT THEIR ENDS

  module _ (lasts : ℕ → Option (Node T K Kind Op Delta ghosts keeping)) where
    -- what the member of a place, if there is one, comes to without an entry
    pub record GoesQuietly (w : World T K Kind Op Delta ghosts keeping) (place : ℕ) : Type 0 where
      pub some : (now : Node T K Kind Op Delta ghosts keeping) → item_at w.nodes.items place ≡ Some now → (last : Node T K Kind Op Delta ghosts keeping) × (lasts place ≡ Some last) × Goes meaning now [] last
      pub none : item_at w.nodes.items place ≡ None → lasts place ≡ None

    -- the members of the first places came to their ends
    pub record Ended (n : ℕ) (w : World T K Kind Op Delta ghosts keeping) : Type 0 where
      pub world : World T K Kind Op Delta ghosts keeping
      pub means : Means spelling kinds members decls p world
      pub same_views : world.views ≡ w.views
      pub same_keys : world.keys ≡ w.keys
      pub same_spare : world.spare ≡ w.spare
      pub same_links : world.links ≡ w.links
      pub done : (k : ℕ) → k < n → item_at world.nodes.items k ≡ lasts k
      pub others : (k : ℕ) → n ≤ k → item_at world.nodes.items k ≡ item_at w.nodes.items k

    pub all_end : (w : World T K Kind Op Delta ghosts keeping) → w.views ≡ views → Means spelling kinds members decls p w → ((k : ℕ) → k < 8 → GoesQuietly w k) → (n : ℕ) → n ≤ 8 → Ended n w
    all_end w same m quiet zero few = record { world = w; means = m; same_views = refl; same_keys = refl; same_spare = refl; same_links = refl; done = λ k l. absurd (omega arith); others = λ k l. refl }
    all_end w same m quiet (suc n) few =
        let e = all_end w same m quiet n (omega arith) in
        go e (quiet n (omega arith)) (item_at e.world.nodes.items n) refl
      where
        at_last : (e : Ended n w) (new : World T K Kind Op Delta ghosts keeping) → ((j : ℕ) → j ≢ n → item_at new.nodes.items j ≡ item_at e.world.nodes.items j) → item_at new.nodes.items n ≡ lasts n → (k : ℕ) → k < suc n → item_at new.nodes.items k ≡ lasts k
        at_last e new beside here k l = elim (eqb_tells k n) [
          | inl same ↦ subst (λ j. item_at new.nodes.items j ≡ lasts j) (sym same.1) here
          | inr other ↦ beside k other.1 ∙ e.done k (below k n l other.1)
        ]

        go : (e : Ended n w) → GoesQuietly w n → (o : Option (Node T K Kind Op Delta ghosts keeping)) → item_at e.world.nodes.items n ≡ o → Ended (suc n) w
        go e quietly None is =
            record {
              world = e.world;
              means = e.means;
              same_views = e.same_views;
              same_keys = e.same_keys;
              same_spare = e.same_spare;
              same_links = e.same_links;
              done = at_last e e.world (λ j other. refl) (is ∙ sym (quietly.none (sym (e.others n (omega arith)) ∙ is)));
              others = λ k l. e.others k (omega arith);
            }
        go e quietly (Some now) is =
            let here = quietly.some now (sym (e.others n (omega arith)) ∙ is) in
            let seated : identity_at (last_view views) n ≡ Some now.id =
            sym (ap (λ (vs : List View). identity_at (last_view vs) n) (e.same_views ∙ same)) ∙ sym (e.world.seated.members n (omega arith)) ∙ ap (option_map (λ (node : Node T K Kind Op Delta ghosts keeping). node.id)) is in
            let c = to_end n now.id seated [] now here.0 here.2 refl e.world (e.same_views ∙ same) e.means is in
            record {
              world = c.world;
              means = c.means;
              same_views = c.but.views ∙ e.same_views;
              same_keys = c.but.keys ∙ e.same_keys;
              same_spare = c.but.spare ∙ e.same_spare;
              same_links = c.but.links ∙ e.same_links;
              done = at_last e c.world c.but.others (c.is ∙ sym here.1);
              others = λ k l. c.but.others k (λ same. omega (arith, l, same)) ∙ e.others k (omega arith);
            }
