-- A member leaves.
use Rattle.std.proofs.Common.{◌≡◌, ◌≢◌, ℕ, ◌+◌, ◌<◌, List, [], ◌∷◌, ◌++◌, length, refl, sym, ap, subst, ◌∙◌, arith, Bool, true, false, not, Option, None, Some, inl, inr}
use Rattle.std.specs.Prelude.{option_map, is_some, if◌then◌else◌, nat_lt}
use Rattle.std.proofs.lemmas.Bool.Decides.{eqb_tells, nat_tests}
use Rattle.model_history.specs.Texts.{Text}
use Rattle.model_history.specs.History.{History}
use Rattle.model_members.specs.View.{View, is_member, without_member}
use Rattle.model_members.specs.DataType.{Replication}
use Rattle.model_members.specs.Node as nodes
use Rattle.model_members.specs.World as worlds
use Rattle.model_members.specs.World.{happens}
use Rattle.model_members.specs.World.Event.{Removal}
use Rattle.model_members.specs.Script as script
use Rattle.model_members.specs.Script.{Playing, ScriptStep, played, told, did_plainly}
use Rattle.model_kinds.specs.declared.operation.Op.{Op}
use Rattle.model_kinds.specs.declared.shown.Shown.{Shown}
use Rattle.data_lattice.specs.declared.replica.Replica.{Ghosts}
use Rattle.data_lattice.specs.declared.spelled.SpelledData.{Ghosts as Spelling}
use Rattle.member_keeper.specs.declared.keeper.Keeper.{Ghosts as Keeping}
use Rattle.member_views.specs.Sound.{IsView, last_view}
use Rattle.member_views.specs.Changes.{CanRemove}
use Rattle.member_views.proofs.Kept.{view_without}
use Rattle.member_node.specs.declared.node.Node.{Node}
use Rattle.member_node.specs.Replies.{program_steps}
use Rattle.member_node.specs.Steps.{replication}
use Rattle.script_reading.specs.declared.script.Step.TheVariants as form
use Rattle.world_members.specs.declared.world.World.{World}
use Rattle.world_members.specs.declared.event.Head.TheVariants as head
use Rattle.world_members.specs.declared.event.Answer.TheVariants as answer
use Rattle.world_members.specs.declared.event.Event.{Event}
use Rattle.world_places.specs.Keeping.{AreSeated, KeepsAt}
use Rattle.world_places.specs.Places.{item_at, identity_at, seat_of, member_of, keeper_of, first_keeper}
use Rattle.world_places.specs.Seating.{IsLeft}
use Rattle.world_members.specs.Standing.{StandsForWorld}
use Rattle.world_places.specs.Standing.{StandsForRunning, TellsStore}
use Rattle.world_members.specs.Steps.{Plays, LeadsTo}
use Rattle.world_places.proofs.Seats.{seats_apart, seat_without, no_seat_without, no_identity_at, no_member}
use Rattle.world_places.proofs.Lists.{at_one, at_each, for_none}
use Rattle.world_members.proofs.Standings.{stands_in, IsReseated, member_elsewhere, member_here, still_seated}
use Rattle.world_members.proofs.Telling.{view_of, reaches_did, plays_told}
use Rattle.world_members.specs.Giving.{IsSame}
use Rattle.world_places.proofs.Storing.{not_called_at}

-- THE SCRIPT

module _ {Kind Op Shown : Type 0} (D : Replication Kind Op Shown) (p : Playing Kind Op Shown) (id : ℕ) where
  abbrev when_member : Bool → Bool → Playing Kind Op Shown
  when_member here more =
      if not here then told p (script.Head.RemoveHead id) script.Answer.Gone
      else (if more then did_plainly D p (Removal id) (script.Head.RemoveHead id) (script.Answer.NewView (p.world.view.number + 1)) else told p (script.Head.RemoveHead id) script.Answer.LastMember)

  pub does_remove : is_member p.world.view id ≡ true → nat_lt 1 (length p.world.view.members) ≡ true → played D p (ScriptStep.Remove id) ≡ did_plainly D p (Removal id) (script.Head.RemoveHead id) (script.Answer.NewView (p.world.view.number + 1))
  does_remove here more = ap (λ b. when_member b (nat_lt 1 (length p.world.view.members))) here ∙ ap (when_member true) more

  pub tells_gone : is_member p.world.view id ≡ false → played D p (ScriptStep.Remove id) ≡ told p (script.Head.RemoveHead id) script.Answer.Gone
  tells_gone gone = ap (λ b. when_member b (nat_lt 1 (length p.world.view.members))) gone

  pub tells_last : is_member p.world.view id ≡ true → nat_lt 1 (length p.world.view.members) ≡ false → played D p (ScriptStep.Remove id) ≡ told p (script.Head.RemoveHead id) script.Answer.LastMember
  tells_last here alone = ap (λ b. when_member b (nat_lt 1 (length p.world.view.members))) here ∙ ap (when_member true) alone

-- SEATS

module _ (views : List View) (id place : ℕ) (seat : seat_of (last_view views) id ≡ Some place) (sound : IsView (last_view views)) (able : CanRemove (last_view views) id) where
  other_seat : (j : ℕ) → j ≢ id → seat_of (last_view views) j ≡ Some place → ⊥
  other_seat j other e = other (seats_apart (last_view views) sound j id place e seat)

  -- whose seat is elsewhere keeps it
  kept_seat : (q : ℕ) → q ≢ place → (j : ℕ) → seat_of (last_view views) j ≡ Some q → seat_of (without_member (last_view views) id) j ≡ Some q
  kept_seat q apart j e = elim (eqb_tells j id) [
    | inl same ↦ absurd (apart (let there : ◌≡◌ {A = Option ℕ} (Some q) (Some place) = sym e ∙ ap (seat_of (last_view views)) same.1 ∙ seat in cc there))
    | inr other ↦ seat_without (last_view views) id j other.1 ∙ e
  ]

  had_seat : (q : ℕ) (j : ℕ) → seat_of (without_member (last_view views) id) j ≡ Some q → (j ≢ id) × (seat_of (last_view views) j ≡ Some q)
  had_seat q j e = elim (eqb_tells j id) [
    | inl same ↦ absurd (let there : ◌≡◌ {A = Option ℕ} (Some q) None = sym e ∙ ap (seat_of (without_member (last_view views) id)) same.1 ∙ no_seat_without (last_view views) id in cc there)
    | inr other ↦ (other.1, sym (seat_without (last_view views) id j other.1) ∙ e)
  ]

  is_next : IsView (without_member (last_view views) id)
  is_next = view_without (last_view views) id sound able.0 able.1

  nobody : identity_at (without_member (last_view views) id) place ≡ None
  nobody = no_identity_at (without_member (last_view views) id) is_next place (λ j e. let h = had_seat place j e in other_seat j h.0 h.1)

  module _ {T K Kind Op Delta : Type 0} {ghosts : Ghosts T Kind Op Delta} {keeping : Keeping K} (nodes new : List (Option (Node T K Kind Op Delta ghosts keeping))) (spare left : List (Option K)) (seated : AreSeated views nodes spare) (leaves : IsLeft place nodes new spare left) where
    pub seated_after : is_some (keeper_of nodes spare place) ≡ true → AreSeated (views ++ without_member (last_view views) id ∷ []) new left
    seated_after has =
        still_seated views (without_member (last_view views) id) sound is_next place nodes new spare left leaves.others leaves.spares seated kept_seat (λ q apart j e. (had_seat q j e).1) (ap (option_map (λ (node : Node T K Kind Op Delta ghosts keeping). node.id)) leaves.none ∙ sym nobody)
        (ap is_some leaves.keeper ∙ has ∙ sym (ap (λ (o : Option (Node T K Kind Op Delta ghosts keeping)). not (is_some o)) leaves.none))
        (for_none (λ (node : Node T K Kind Op Delta ghosts keeping). node.limit ≡ program_steps) (item_at new place) leaves.none)

    -- each place has the keeper that it had
    pub same_keepers : (q : ℕ) → keeper_of new left q ≡ keeper_of nodes spare q
    same_keepers =
        at_one (λ q. keeper_of new left q ≡ keeper_of nodes spare q) place (ap (λ o. first_keeper o (item_at left place)) leaves.none ∙ leaves.keeper)
        (λ q other. ap (λ o. first_keeper o (item_at left q)) (leaves.others q other) ∙ ap (first_keeper (item_at nodes q)) (leaves.spares q other))

-- there is a keeper at each place
pub some_keeper : {T K Kind Op Delta : Type 0} {ghosts : Ghosts T Kind Op Delta} {keeping : Keeping K} (views : List View) (nodes : List (Option (Node T K Kind Op Delta ghosts keeping))) (spare : List (Option K)) → AreSeated views nodes spare → (place : ℕ) → place < 8 → is_some (keeper_of nodes spare place) ≡ true
some_keeper {T} {K} {Kind} {Op} {Delta} {ghosts} {keeping} views nodes spare seated place within = go (item_at nodes place) (seated.spares place within)
  where
    go : (o : Option (Node T K Kind Op Delta ghosts keeping)) → is_some (item_at spare place) ≡ not (is_some o) → is_some (first_keeper o (item_at spare place)) ≡ true
    go None e = e
    go (Some node) e = refl

-- THE MODEL

module _ {T K Kind Delta : Type 0} {ghosts : Ghosts T Kind Op Delta} {keeping : Keeping K} (spelling : Spelling T Kind Op Delta) (id place : ℕ) (old new : World T K Kind Op Delta ghosts keeping) (seat : seat_of (last_view old.views) id ≡ Some place) (sound : IsView (last_view old.views)) (able : CanRemove (last_view old.views) id)
    (r : IsReseated (without_member (last_view old.views) id) place old new) (leaves : IsLeft place old.nodes.items new.nodes.items old.spare.items new.spare.items) where
  keepers : (q : ℕ) → keeper_of new.nodes.items new.spare.items q ≡ keeper_of old.nodes.items old.spare.items q
  keepers = same_keepers old.views id place seat sound able old.nodes.items new.nodes.items old.spare.items new.spare.items old.seated leaves

  module _ (kinds : Text → Kind) (logs : Text → History Op) (world : worlds.World Kind Op Shown) (view_is : last_view old.views ≡ world.view) (s : StandsForWorld spelling kinds logs old world) where
    abbrev Running : Option (Node T K Kind Op Delta ghosts keeping) → Option (nodes.Node Kind Op Shown) → Type 0
    Running code running = StandsForRunning {ghosts = ghosts} {keeping = keeping} spelling kinds logs code running

    stands_removed : StandsForWorld spelling kinds logs new (happens (replication ghosts spelling) world (Removal id))
    stands_removed =
        stands_in spelling kinds logs old new world s (happens (replication ghosts spelling) world (Removal id))
        (ap (λ vs. vs ++ without_member world.view id ∷ []) s.views ∙ ap (λ v. old.views ++ without_member v id ∷ []) (sym view_is) ∙ sym r.views) refl refl r.keys r.links
        (at_each (λ j o. Running (member_of (last_view new.views) new.nodes.items j) o) world.nodes id None
        (subst (λ o. Running o None) (sym (member_here (without_member (last_view old.views) id) place old new r id None (no_seat_without (last_view old.views) id))) refl)
        (λ j other. subst (λ o. Running o (world.nodes j)) (sym (member_elsewhere (without_member (last_view old.views) id) place old new r j (seat_without (last_view old.views) id j other) (λ e. other (seats_apart (last_view old.views) sound j id place e seat)))) (s.running j)))
        (λ q. subst (λ o. TellsStore ghosts keeping spelling kinds logs o (world.stores q)) (sym (keepers q)) (s.stores q))

  module _ (number : ℕ) (numbered : number ≡ (last_view old.views).number + 1) where
    leads : LeadsTo spelling (λ p. played (replication ghosts spelling) p (ScriptStep.Remove id)) (λ q. []) old new (record { head = head.Remove id; answer = answer.View number; sent = []; finished = None } ∷ [])
    leads kinds members decls p m foretold =
        let view_is = view_of spelling kinds members decls p old m in
        reaches_did spelling kinds members decls p old m (ScriptStep.Remove id) tt p new (Removal id) (script.Head.RemoveHead id) (script.Answer.NewView (p.world.view.number + 1)) (λ q. []) refl refl
        (does_remove (replication ghosts spelling) p id (ap (λ v. is_member v id) (sym view_is) ∙ able.0) (ap (λ v. nat_lt 1 (length v.members)) (sym view_is) ∙ (let more = able.1 in grind (arith, nat_tests))))
        (λ logs histories s. stands_removed kinds logs p.world view_is s) (head.Remove id) (answer.View number) refl (ap script.Answer.NewView (ap (λ v. v.number + 1) (sym view_is) ∙ sym numbered)) (λ q. let same : p.calls q ≡ p.calls q + 0 = omega arith in same)

    plays : Plays spelling (form.Remove id) old new (record { head = head.Remove id; answer = answer.View number; sent = []; finished = None } ∷ [])
    plays =
        record {
          given = λ q. [];
          kept = λ q. subst (λ o. KeepsAt keeping [] (keeper_of old.nodes.items old.spare.items q) o) (sym (keepers q)) (not_called_at keeping (keeper_of old.nodes.items old.spare.items q));
          damaged = λ e. absurd (cc e);
          does = λ took. (λ kinds members decls p m. refl, leads);
        }

    pub plays_removed : (event : Event) → event ≡ record { head = head.Remove id; answer = answer.View number; sent = []; finished = None } → Plays spelling (form.Remove id) old new (event ∷ [])
    plays_removed event is = subst (λ (e : Event). Plays spelling (form.Remove id) old new (e ∷ [])) (sym is) plays

-- NO CHANGE

module _ {T K Kind Delta : Type 0} {ghosts : Ghosts T Kind Op Delta} {keeping : Keeping K} (spelling : Spelling T Kind Op Delta) (id : ℕ) (old new : World T K Kind Op Delta ghosts keeping) (same : IsSame old new) where
  pub plays_gone : seat_of (last_view old.views) id ≡ None → (event : Event) → event ≡ record { head = head.Remove id; answer = answer.Gone; sent = []; finished = None } → Plays spelling (form.Remove id) old new (event ∷ [])
  plays_gone none event is = plays_told spelling old new same (form.Remove id) (head.Remove id) answer.Gone event is refl (λ kinds members decls p m.
      let view_is = view_of spelling kinds members decls p old m in
      (script.Head.RemoveHead id, script.Answer.Gone, tells_gone (replication ghosts spelling) p id (ap (λ v. is_member v id) (sym view_is) ∙ no_member (last_view old.views) id none), refl, refl))

  pub plays_last : (is_member (last_view old.views) id ≡ true) × (length (last_view old.views).members ≡ 1) → (event : Event) → event ≡ record { head = head.Remove id; answer = answer.LastMember; sent = []; finished = None } → Plays spelling (form.Remove id) old new (event ∷ [])
  plays_last one event is = plays_told spelling old new same (form.Remove id) (head.Remove id) answer.LastMember event is refl (λ kinds members decls p m.
      let view_is = view_of spelling kinds members decls p old m in (
        script.Head.RemoveHead id,
        script.Answer.LastMember,
        tells_last (replication ghosts spelling) p id (ap (λ v. is_member v id) (sym view_is) ∙ one.0) (ap (λ v. nat_lt 1 (length v.members)) (sym view_is) ∙ (let alone = one.1 in grind (arith, nat_tests))),
        refl,
        refl,
      ))
