-- What a member's take passes over never comes in a run.
use Rattle.std.specs.Prelude.{◌≡◌, ℕ, List, ◌∷◌, ◌++◌, Bool, false, IsTrue, Some}
use Rattle.model_history.specs.Texts.{Text}
use Rattle.model_members.specs.View.{is_member}
use Rattle.model_members.specs.Entry.{Entry, Group}
use Rattle.model_members.specs.Message.{Keyed, Message, entries_in, groups_in, part_of}
use Rattle.model_members.specs.Node.{Node}
use Rattle.model_members.specs.Step.{is_entry_passed_over, is_group_passed_over, after_groups, after_entries}
use Rattle.model_members.specs.World.{World, message_at}

-- a member that takes the message passes over nothing of it: no group, after those before it, and no entry, after all groups and the entries before it
pub record IsTakenWhole {Kind Op Shown : Type 0} (to : ℕ) (node : Node Kind Op Shown) (message : Message Op) : Type 0 where
  pub groups : (before rest : List (Keyed (Group Op))) (key : Text) (group : Group Op) → groups_in message ≡ before ++ record { key = key; item = group } ∷ rest
      → is_group_passed_over to ((after_groups node before).node.entries key) group ≡ false
  pub entries : (before rest : List (Keyed (Entry Op))) (key : Text) (entry : Entry Op) → entries_in message ≡ before ++ record { key = key; item = entry } ∷ rest
      → is_entry_passed_over to ((after_entries (after_groups node (groups_in message)).node before).entries key) entry ≡ false

-- so it is with each message to a running member from a member of its view, and with what that says of some keys
abbrev pub NothingIsPassedOver : {Kind Op Shown : Type 0} → World Kind Op Shown → Type 0
NothingIsPassedOver {Kind} {Op} {Shown} world =
    (from to index : ℕ) (node : Node Kind Op Shown) (message : Message Op) → world.nodes to ≡ Some node → IsTrue (is_member node.view from) → message_at world from to index ≡ Some message
    → IsTakenWhole to node message × ((knows : Text → Bool) → IsTakenWhole to node (part_of knows message))
