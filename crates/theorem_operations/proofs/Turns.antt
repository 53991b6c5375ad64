-- Which member makes which step in an event, and what it puts out.
use Rattle.std.proofs.Common.{◌≡◌, ℕ, refl, ap, subst, Option, Some, None}
use Rattle.std.specs.Prelude.{option_map, option_and_then}
use Rattle.model_members.specs.DataType.{Replication}
use Rattle.model_members.specs.Message.{Message}
use Rattle.model_members.specs.Node.{Node, Input, Fate, Output}
use Rattle.model_members.specs.Node.Input.{Take}
use Rattle.model_members.specs.Step.{step}
use Rattle.model_members.specs.World.{World, Event, Turn, turn_at, turn_of, step_in, message_at}
use Rattle.model_members.specs.World.Event.{InputAt, Delivery, Loss, Removal, Joining, Restart}
use Rattle.theorem_operations.specs.Quorum.{reply_in}

-- the event makes this member step with this input
pub data MakesStep {Kind Op Shown : Type 0} (world : World Kind Op Shown) (event : Event Op) (i : ℕ) (input : Input Op) (fate : Fate) : Type 0 where
  ByInput : event ≡ InputAt i input fate → MakesStep world event i input fate
  ByDelivery : (from index : ℕ) (message : Message Op) → event ≡ Delivery from i index fate → message_at world from i index ≡ Some message → input ≡ Take from message → MakesStep world event i input fate

module _ {Kind Op Shown : Type 0} (world : World Kind Op Shown) where
  -- an event's turn is such a step
  pub record IsTurnIn (event : Event Op) (turn : Turn Kind Op Shown) : Type 0 where
    pub runs : world.nodes turn.at ≡ Some turn.before
    pub makes : MakesStep world event turn.at turn.input turn.fate

  turn_there : (event : Event Op) (i : ℕ) (input : Input Op) (fate : Fate) (turn : Turn Kind Op Shown) → MakesStep world event i input fate → turn_at world i input fate ≡ Some turn → IsTurnIn event turn
  turn_there event i input fate turn makes e = by_node (world.nodes i) refl e
    where
      by_node : (o : Option (Node Kind Op Shown)) → world.nodes i ≡ o → option_map (λ (node : Node Kind Op Shown). record { at = i; before = node; input = input; fate = fate }) o ≡ Some turn → IsTurnIn event turn
      by_node None runs f = absurd (cc f)
      by_node (Some node) runs f = let same : record { at = i; before = node; input = input; fate = fate } ≡ turn = cc f in subst (IsTurnIn event) same (record { runs = runs; makes = makes })

  pub turn_makes : (event : Event Op) (turn : Turn Kind Op Shown) → turn_of world event ≡ Some turn → IsTurnIn event turn
  turn_makes (InputAt i input fate) turn e = turn_there (InputAt i input fate) i input fate turn (ByInput refl) e
  turn_makes (Delivery from to index fate) turn e = by_message (message_at world from to index) refl e
    where
      by_message : (o : Option (Message Op)) → message_at world from to index ≡ o → option_and_then (λ (message : Message Op). turn_at world to (Take from message) fate) o ≡ Some turn → IsTurnIn (Delivery from to index fate) turn
      by_message None sent f = absurd (cc f)
      by_message (Some message) sent f = turn_there (Delivery from to index fate) to (Take from message) fate turn (ByDelivery from index message refl sent refl) f
  turn_makes (Loss from to) turn e = absurd (cc e)
  turn_makes (Removal i) turn e = absurd (cc e)
  turn_makes (Joining place) turn e = absurd (cc e)
  turn_makes (Restart i) turn e = absurd (cc e)

-- what a running member replies to an input
pub reply_is : {Kind Op Shown : Type 0} (D : Replication Kind Op Shown) (world : World Kind Op Shown) (i : ℕ) (node : Node Kind Op Shown) (input : Input Op) (fate : Fate) → world.nodes i ≡ Some node → reply_in D world (InputAt i input fate) ≡ Some (step D node input fate).output.reply
reply_is {Kind} {Op} {Shown} D world i node input fate runs =
    ap (λ (o : Option (Node Kind Op Shown)). option_map (λ (output : Output Op Shown). output.reply) (option_map (λ (turn : Turn Kind Op Shown). (step_in D turn).output) (option_map (λ (node : Node Kind Op Shown). record { at = i; before = node; input = input; fate = fate }) o))) runs
