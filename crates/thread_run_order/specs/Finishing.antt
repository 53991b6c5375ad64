-- How a section's messages come to the links of its world.
--     IsSent, AreSentByAll        what was posted stands at the ends of the links
--     ArePassedTo, ArePassed        what was taken is passed, where none was pending before
--     AreBrought        both
--     IsLeftOf        the world that is left
use Rattle.std.specs.Prelude.{◌≡◌, ◌≢◌, ℕ, ◌+◌, ◌<◌, ◌&&◌, Bool, false, List, [], ◌∷◌, length, ◌==◌, if◌then◌else◌, Option, Some, None, option_map}
use Rattle.model_members.specs.View.{View, is_member}
use Rattle.thread_machine.specs.declared.machines.Machines.{Machines}
use Rattle.thread_machine.specs.Machines.{machine_at}
use Rattle.model_kinds.specs.declared.operation.Op.{Op}
use Rattle.data_lattice.specs.declared.replica.Replica.{Ghosts}
use Rattle.member_keeper.specs.declared.keeper.Keeper.{Ghosts as Keeping}
use Rattle.member_messages.specs.declared.message.Message.{Message}
use Rattle.member_node.specs.declared.node.Node.{Node}
use Rattle.world_members.specs.declared.world.World.{World}
use Rattle.world_members.specs.declared.parts.Parts.{Parts}
use Rattle.world_places.specs.Channels.{Channel, Channels, channel_at, extended}
use Rattle.thread_run_order.specs.Images.{EntryOf}
use Rattle.thread_run_order.specs.Section.{sent_to, taken_from, history_of, IsLeft}

-- past so many messages that were taken, where none was pending before
abbrev pub after_taken : {M : Type 0} → ℕ → Channel M → Channel M
after_taken taken c = record c { next = if c.next == length c.messages then c.next + taken else c.next }

-- an identity is this one
abbrev pub is_id : Option ℕ → ℕ → Bool
is_id None i = false
is_id (Some k) i = i == k

module _ {T K Kind Delta : Type 0} {ghosts : Ghosts T Kind Op Delta} {keeping : Keeping K} where
  -- what the history posts stands at the ends of the links of this identity, if it is one
  abbrev pub IsSent : Option ℕ → List (EntryOf ghosts keeping) → Channels (Message T Kind Op Delta ghosts) → Channels (Message T Kind Op Delta ghosts) → Type 0
  IsSent from es old new = (a b : ℕ) → channel_at new a b ≡ (if is_id from a then option_map (extended (sent_to b es)) (channel_at old a b) else channel_at old a b)

  -- what the history took of each member of a view is passed on its link to this identity
  abbrev pub ArePassedTo : View → ℕ → List (EntryOf ghosts keeping) → Channels (Message T Kind Op Delta ghosts) → Channels (Message T Kind Op Delta ghosts) → Type 0
  ArePassedTo view to es old new = (a b : ℕ) → channel_at new a b ≡ (if (b == to) && is_member view a then option_map (after_taken (length (taken_from a es))) (channel_at old a b) else channel_at old a b)

  -- the same of the histories of all members
  abbrev pub ArePassed : View → (ℕ → List (EntryOf ghosts keeping)) → Channels (Message T Kind Op Delta ghosts) → Channels (Message T Kind Op Delta ghosts) → Type 0
  ArePassed view histories old new =
      (a b : ℕ) → channel_at new a b ≡ (if is_member view b && is_member view a then option_map (after_taken (length (taken_from a (history_of view histories b)))) (channel_at old a b) else channel_at old a b)

  -- what each place's history posts stands at the ends of the links of the identity there, if there is one
  abbrev pub AreSentByAll : (ℕ → Option ℕ) → (ℕ → List (EntryOf ghosts keeping)) → Channels (Message T Kind Op Delta ghosts) → Channels (Message T Kind Op Delta ghosts) → Type 0
  AreSentByAll ids histories old new =
      ((place a b : ℕ) → place < 8 → ids place ≡ Some a → ((other : ℕ) → ids other ≡ Some a → other ≡ place) → channel_at new a b ≡ option_map (extended (sent_to b (histories place))) (channel_at old a b))
      × ((a b : ℕ) → ((place : ℕ) → place < 8 → ids place ≢ Some a) → channel_at new a b ≡ channel_at old a b)

  -- what was taken is passed, and then what was posted stands at the ends of the links
  pub record AreBrought (view : View) (ids : ℕ → Option ℕ) (histories : ℕ → List (EntryOf ghosts keeping)) (old new : Channels (Message T Kind Op Delta ghosts)) : Type 0 where
    pub mid : Channels (Message T Kind Op Delta ghosts)
    pub passed : ArePassed view histories old mid
    pub sent : AreSentByAll ids histories mid new

  -- the world that a section left of what these parts were, before their members went on
  pub record IsLeftOf (parts : Parts T K Kind Op Delta ghosts keeping) (histories : ℕ → List (EntryOf ghosts keeping)) (new : World T K Kind Op Delta ghosts keeping) : Type 0 where
    pub left : (old : World T K Kind Op Delta ghosts keeping) → parts.views ≡ old.views → parts.keys ≡ old.keys → parts.links ≡ old.links → parts.seats.spare ≡ old.spare → IsLeft old new histories (machine_at parts.members)

module _ {T K Kind Op Delta I F O R : Type 0} {ghosts : Ghosts T Kind Op Delta} {keeping : Keeping K} where
  -- the members of all places, in their order
  abbrev pub members_in : Machines (Node T K Kind Op Delta ghosts keeping) I F O R → List (Option (Node T K Kind Op Delta ghosts keeping))
  members_in ms = ms.p0 ∷ ms.p1 ∷ ms.p2 ∷ ms.p3 ∷ ms.p4 ∷ ms.p5 ∷ ms.p6 ∷ ms.p7 ∷ []
