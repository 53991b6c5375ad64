-- A member that finishes an operation goes on having finished it, as long as nobody leaves, joins or restarts.
--     finishes_by        a delivery that told so
--     HasEnded, stays_along        and from then on
use Rattle.std.proofs.Common.{◌≡◌, ℕ, List, [], ◌∷◌, refl, sym, ap, subst, ◌∙◌, Option, Some, None, inl, inr}
use Rattle.std.specs.Prelude.{option_map}
use Rattle.std.specs.List.{AllByRecursion}
use Rattle.std.proofs.lemmas.Bool.Decides.{eqb_tells}
use Rattle.model_history.specs.Table.{with_at}
use Rattle.model_history.proofs.HistoryLaws.{with_at_same, with_at_other}
use Rattle.model_history.proofs.PruneLaws.{IsIn}
use Rattle.model_members.specs.DataType.{Replication}
use Rattle.model_members.specs.Message.{Message}
use Rattle.model_members.specs.Node.{Node, Finished, Input, Fate, Output}
use Rattle.model_members.specs.Node.Input.{Take}
use Rattle.model_members.specs.Step.{step}
use Rattle.model_members.specs.World.{World, Links, Event, Turn, happens, run, turn_of, step_in, output_of, message_at, moved_on, after_turn}
use Rattle.model_members.specs.World.Event.{InputAt, Delivery, Loss, Removal, Joining, Restart}
use Rattle.model_members.proofs.Cases.{stepped_at, delivered}
use Rattle.theorem_operations.specs.Quorum.{KeepsMembers, Finishes}
use Rattle.theorem_operations.proofs.Lists.{in_front}
use Rattle.theorem_operations.proofs.Turns.{MakesStep, IsTurnIn, turn_makes}
use Rattle.theorem_operations.proofs.Turns.MakesStep.{ByInput, ByDelivery}
use Rattle.theorem_operations.proofs.Operations.{Change, step_tells}
use Rattle.theorem_operations.proofs.Operations.Change.{Unchanged, Pushed, CountedFor, EndedFor, Dropped}

module _ {Kind Op Shown : Type 0} (D : Replication Kind Op Shown) where
  finished_stays : (old : Node Kind Op Shown) (input : Input Op) (fate : Fate) (f : Finished Shown) → IsIn old.finished f → IsIn (step D old input fate).node.finished f
  finished_stays old input fate f h = by (step_tells D old input fate).change
    where
      same : (step D old input fate).node.finished ≡ old.finished → IsIn (step D old input fate).node.finished f
      same e = subst (λ (fs : List (Finished Shown)). IsIn fs f) (sym e) h

      by : Change D old (step D old input fate).node input → IsIn (step D old input fate).node.finished f
      by (Unchanged a b) = same b
      by (Pushed o e a b) = same b
      by (CountedFor from o c few a b) = same b
      by (EndedFor from o end c e a b) = subst (λ (fs : List (Finished Shown)). IsIn fs f) (sym b) (in_front old.finished (end ∷ []) f h)
      by (Dropped m e a b) = same b

  module _ (i : ℕ) (f : Finished Shown) where
    -- the member runs, and has finished the operation
    pub record HasEnded (world : World Kind Op Shown) : Type 0 where
      pub node : Node Kind Op Shown
      pub runs : world.nodes i ≡ Some node
      pub has : IsIn node.finished f

    stepped : (world : World Kind Op Shown) (links : Links Op) (t : ℕ) (o : Option (Node Kind Op Shown)) (input : Input Op) (fate : Fate) → world.nodes t ≡ o → HasEnded world → HasEnded (stepped_at D (record world { links = links }) t o input fate)
    stepped world links t None input fate runs h = record { node = h.node; runs = h.runs; has = h.has }
    stepped world links t (Some old) input fate runs h = elim (eqb_tells i t) [
      | inl is ↦
          let same : Some old ≡ Some h.node = sym runs ∙ ap world.nodes (sym is.1) ∙ h.runs in
          let same_node : old ≡ h.node = cc same in
          let new = (step D old input fate).node in
          record {
            node = new;
            runs = ap (with_at world.nodes t (Some new)) is.1 ∙ with_at_same world.nodes t (Some new);
            has = finished_stays old input fate f (subst (λ (n : Node Kind Op Shown). IsIn n.finished f) (sym same_node) h.has);
          }
      | inr isnt ↦ record { node = h.node; runs = with_at_other world.nodes t (Some (step D old input fate).node) i isnt.1 ∙ h.runs; has = h.has }
    ]

    handed : (world : World Kind Op Shown) (from to index : ℕ) (o : Option (Message Op)) (fate : Fate) → HasEnded world → HasEnded (delivered D world from to index o fate)
    handed world from to index None fate h = record { node = h.node; runs = h.runs; has = h.has }
    handed world from to index (Some message) fate h = stepped world (moved_on world.links from to index) to (world.nodes to) (Take from message) fate refl h

    stays : (world : World Kind Op Shown) (event : Event Op) → KeepsMembers event → HasEnded world → HasEnded (happens D world event)
    stays world (InputAt t input fate) keeps h = stepped world world.links t (world.nodes t) input fate refl h
    stays world (Delivery from to index fate) keeps h = handed world from to index (message_at world from to index) fate h
    stays world (Loss from to) keeps h = record { node = h.node; runs = h.runs; has = h.has }
    stays world (Removal j) keeps h = absurd keeps
    stays world (Joining place) keeps h = absurd keeps
    stays world (Restart j) keeps h = absurd keeps

    pub stays_along : (world : World Kind Op Shown) (events : List (Event Op)) → AllByRecursion KeepsMembers events → HasEnded world → HasEnded (run D world events)
    stays_along world [] keeps h = h
    stays_along world (event ∷ events) keeps h = stays_along (happens D world event) events keeps.1 (stays world event keeps.0 h)

    -- A DELIVERY THAT TOLD SO

    its_taker : (world : World Kind Op Shown) (from index : ℕ) (fate : Fate) (turn : Turn Kind Op Shown) → IsTurnIn world (Delivery from i index fate) turn → turn.at ≡ i
    its_taker world from index fate turn is = by is.makes
      where
        by : MakesStep world (Delivery from i index fate) turn.at turn.input turn.fate → turn.at ≡ i
        by (ByInput e) = absurd (cc e)
        by (ByDelivery from' index' message e sent input) = let same : i ≡ turn.at = cc e in sym same

    pub finishes_by : (world : World Kind Op Shown) (from index : ℕ) (fate : Fate) (output : Output Op Shown) → output_of D world (Delivery from i index fate) ≡ Some output → output.ended ≡ Some f → Finishes D world (Delivery from i index fate) i f
    finishes_by world from index fate output put ended = by (turn_of world (Delivery from i index fate)) refl put
      where
        by : (o : Option (Turn Kind Op Shown)) → turn_of world (Delivery from i index fate) ≡ o → option_map (λ (turn : Turn Kind Op Shown). (step_in D turn).output) o ≡ Some output → Finishes D world (Delivery from i index fate) i f
        by None takes e = absurd (cc e)
        by (Some turn) takes e =
            let same : (step_in D turn).output ≡ output = cc e in
            record { turn = turn; takes = takes; its = its_taker world from index fate turn (turn_makes world (Delivery from i index fate) turn takes); ended = ap (λ (o : Output Op Shown). o.ended) same ∙ ended }

    pub ended_by : (world : World Kind Op Shown) (from index : ℕ) (fate : Fate) → Finishes D world (Delivery from i index fate) i f → HasEnded (happens D world (Delivery from i index fate))
    ended_by world from index fate finishes =
        let turn = finishes.turn in
        let new = (step_in D turn).node in
        record {
          node = new;
          runs =
              ap (λ o. (after_turn D (record world { links = moved_on world.links from i index }) o).nodes i) finishes.takes
              ∙ ap (λ j. with_at world.nodes j (Some new) i) finishes.its ∙ with_at_same world.nodes i (Some new);
          has = (step_tells D turn.before turn.input turn.fate).listed f finishes.ended;
        }
