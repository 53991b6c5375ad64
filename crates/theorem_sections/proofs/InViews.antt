-- Whatever happens, a running member is in the last view.
use Rattle.std.proofs.Common.{◌≡◌, ◌≢◌, ⊎_elim, ℕ, ◌+◌, ◌-◌, List, [], ◌∷◌, ◌++◌, map, refl, sym, subst, ◌∙◌, arith, Bool, true, false, Option, Some, None}
use Rattle.std.specs.Prelude.{◌==◌, if◌then◌else◌, nat_lt, IsTrue}
use Rattle.std.specs.List.{list_any}
use Rattle.std.proofs.lemmas.Bool.Decides.{Decides-eqb}
use Rattle.std.proofs.lemmas.Bool.{ltb-true}
use Rattle.model_history.specs.Table.{with_at}
use Rattle.model_history.proofs.HistoryLaws.{with_at_other}
use Rattle.model_history.proofs.CutLaws.{with_at_is}
use Rattle.model_members.specs.View.{Member, is_member, first_view, without_member, place_of}
use Rattle.model_members.specs.DataType.{Replication}
use Rattle.model_members.specs.Message.{Message}
use Rattle.model_members.specs.Node.{KeyDecl, Node, Input, Fate}
use Rattle.model_members.specs.World.{World, Event, message_at, loaded_node, no_entries, start, happens, run, moved_on}
use Rattle.model_members.specs.World.Event.{InputAt, Delivery, Loss, Removal, Joining, Restart}
use Rattle.model_members.specs.Step.{step}
use Rattle.model_members.proofs.Cases.{stepped_at, delivered}
use Rattle.theorem_runs.proofs.ViewLaws.{stays_without, first_member}
use Rattle.theorem_sections.proofs.NextDue.{same_or_not}
use Rattle.theorem_operations.proofs.Lists.{or_left, or_right, or_more}

mem_left : (ms : List Member) (m : Member) (t : ℕ) → list_any (λ j. j == t) (map (λ (x : Member). x.identity) ms) ≡ true → list_any (λ j. j == t) (map (λ (x : Member). x.identity) (ms ++ m ∷ [])) ≡ true
mem_left [] m t e = absurd (cc e)
mem_left (x ∷ ms) m t e =
    or_more (x.identity == t) (list_any (λ j. j == t) (map (λ (x : Member). x.identity) ms)) (x.identity == t) (list_any (λ j. j == t) (map (λ (x : Member). x.identity) (ms ++ m ∷ []))) (λ h. h) (mem_left ms m t) e

mem_last : (ms : List Member) (m : Member) (t : ℕ) → t ≡ m.identity → list_any (λ j. j == t) (map (λ (x : Member). x.identity) (ms ++ m ∷ [])) ≡ true
mem_last [] m t is = or_left (m.identity == t) false ((Decides-eqb m.identity t).1 (sym is))
mem_last (x ∷ ms) m t is = or_right (x.identity == t) (list_any (λ j. j == t) (map (λ (x : Member). x.identity) (ms ++ m ∷ []))) (mem_last ms m t is)

module _ {Kind Op Shown : Type 0} where
  abbrev pub InView : World Kind Op Shown → Type 0
  InView world = (i : ℕ) (n : Node Kind Op Shown) → world.nodes i ≡ Some n → IsTrue (is_member world.view i)

module _ {Kind Op Shown : Type 0} (D : Replication Kind Op Shown) where
  stepped_in : (world : World Kind Op Shown) (i : ℕ) (o : Option (Node Kind Op Shown)) (input : Input Op) (fate : Fate) → world.nodes i ≡ o → InView world → InView (stepped_at D world i o input fate)
  stepped_in world i None input fate is h = h
  stepped_in world i (Some node) input fate is h = λ j n there. ⊎_elim
      (λ (same : j ≡ i). subst (λ k. IsTrue (is_member world.view k)) (sym same) (h i node is))
      (λ isnt. h j n (sym (with_at_other world.nodes i (Some (step D node input fate).node) j isnt) ∙ there))
      (same_or_not j i)

  delivered_in : (world : World Kind Op Shown) (from to index : ℕ) (o : Option (Message Op)) (fate : Fate) → InView world → InView (delivered D world from to index o fate)
  delivered_in world from to index None fate h = h
  delivered_in world from to index (Some message) fate h = stepped_in (record world { links = moved_on world.links from to index }) to (world.nodes to) (Input.Take from message) fate refl h

  gone : (i : ℕ) (nodes : ℕ → Option (Node Kind Op Shown)) (j : ℕ) (n : Node Kind Op Shown) → with_at nodes i None j ≡ Some n → j ≢ i
  gone i nodes j n there is = absurd (let e = sym (with_at_is nodes i None j is) ∙ there in cc e)

  pub happens_in : (world : World Kind Op Shown) (event : Event Op) → InView world → InView (happens D world event)
  happens_in world (InputAt i input fate) h = stepped_in world i (world.nodes i) input fate refl h
  happens_in world (Delivery from to index fate) h = delivered_in world from to index (message_at world from to index) fate h
  happens_in world (Loss from to) h = h
  happens_in world (Removal i) h = λ j n there.
      let isnt = gone i world.nodes j n there in
      stays_without world.view i j isnt (h j n (sym (with_at_other world.nodes i None j isnt) ∙ there))
  happens_in world (Joining place) h = λ j n there.
      let given = world.view.given in
      let new : given + 1 - 1 ≡ given = omega arith in
      let comer : Member = record { identity = given; place = place } in
      ⊎_elim
      (λ (is : j ≡ given). mem_last world.view.members comer j is)
      (λ isnt. mem_left world.view.members comer j (h j n (sym (with_at_other world.nodes (given + 1 - 1) _ j (λ e. isnt (e ∙ new))) ∙ there)))
      (same_or_not j given)
  happens_in world (Restart i) h = λ j n there.
      let view = world.view in
      let given = view.given in
      let new : given + 1 - 1 ≡ given = omega arith in
      let comer : Member = record { identity = given; place = place_of view i } in
      ⊎_elim
      (λ (is : j ≡ given). mem_last (without_member view i).members comer j is)
      (λ isnt.
      let there' : with_at world.nodes i None j ≡ Some n = sym (with_at_other (with_at world.nodes i None) (given + 1 - 1) _ j (λ e. isnt (e ∙ new))) ∙ there in
      let isnt' = gone i world.nodes j n there' in
      mem_left (without_member view i).members comer j (stays_without view i j isnt' (h j n (sym (with_at_other world.nodes i None j isnt') ∙ there'))))
      (same_or_not j given)

  pub run_in : (world : World Kind Op Shown) (events : List (Event Op)) → InView world → InView (run D world events)
  run_in world [] h = h
  run_in world (event ∷ events) h = run_in (happens D world event) events (happens_in world event h)

  pub start_in : (members : ℕ) (keys : List (KeyDecl Kind)) → InView (start {Op = Op} {Shown = Shown} members keys)
  start_in members keys j n there = by (nat_lt j members) refl there
    where
      by : (b : Bool) → nat_lt j members ≡ b → (if b then Some (loaded_node {Op = Op} {Shown = Shown} keys j (first_view members) no_entries) else None) ≡ Some n → IsTrue (is_member (first_view members) j)
      by true is e = first_member members j (ltb-true j members is)
      by false is e = absurd (cc e)
