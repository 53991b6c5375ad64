-- What is due on the links when a round begins, and how far a round has come.
--     dues_of        what is due, by senders and then by receivers
--     delivered_upto        the messages of a link up to a number are delivered
--     DoesMore        a call went on, and told more events
--     Halts        memory was wanted on the way
--     DoesMoreOr        the one or the other
use Rattle.std.specs.Prelude.{◌≡◌, ℕ, ◌-◌, List, [], ◌∷◌, ◌++◌, Option, fold, flat_map, map, nat_lt, if◌then◌else◌, Result, MatchResult}
use Rattle.std.specs.List.{range_with_len}
use Rattle.model_members.specs.View.{View, identities_of}
use Rattle.model_members.specs.Script as script
use Rattle.model_members.specs.Script.{Playing, deliver, deliver_due}
use Rattle.model_kinds.specs.declared.operation.Op.{Op}
use Rattle.model_kinds.specs.declared.shown.Shown.{Shown}
use Rattle.data_lattice.specs.declared.replica.Replica.{Ghosts}
use Rattle.data_lattice.specs.declared.spelled.SpelledData.{Ghosts as Spelling}
use Rattle.member_keeper.specs.declared.keeper.Keeper.{Ghosts as Keeping}
use Rattle.member_node.specs.Steps.{replication}
use Rattle.world_members.specs.declared.event.Event.{Event}
use Rattle.world_members.specs.declared.rounds.Due.{Due}
use Rattle.world_members.specs.declared.world.World.{World}
use Rattle.world_places.specs.Channels.{Channel, Channels, channel_at, next_on, count_on}
use Rattle.world_members.specs.Giving.{Does}
use Rattle.world_places.specs.Keeping.{IsKept}
use Rattle.world_places.specs.Places.{keeper_of}
use Rattle.world_members.specs.Steps.{Stops}

module _ {M : Type 0} where
  abbrev pub due_between : ℕ → ℕ → Option (Channel M) → List Due
  due_between from to channel =
      if nat_lt (next_on channel) (count_on channel) then record { from = from; to = to; first = next_on channel; end = count_on channel } ∷ [] else []

  -- by receivers
  abbrev pub dues_from : Channels M → List ℕ → ℕ → List Due
  dues_from channels receivers from = flat_map (λ to. due_between from to (channel_at channels from to)) receivers

  -- by senders, and then by receivers
  abbrev pub dues_of : Channels M → View → List Due
  dues_of channels view = flat_map (dues_from channels (identities_of view)) (range_with_len 0 view.given)

abbrev pub meant_due : Due → script.Due
meant_due due = record { from = due.from; to = due.to; first = due.first; count = due.end - due.first }

module _ {T Kind Delta : Type 0} (ghosts : Ghosts T Kind Op Delta) (spelling : Spelling T Kind Op Delta) where
  abbrev pub delivered_upto : Due → ℕ → Playing Kind Op Shown → Playing Kind Op Shown
  delivered_upto due index p = fold (λ q i. deliver (replication ghosts spelling) q due.from due.to i) p (range_with_len due.first (index - due.first))

  -- all that was due on a link, or on some links
  abbrev pub delivers_due : Due → Playing Kind Op Shown → Playing Kind Op Shown
  delivers_due due p = deliver_due (replication ghosts spelling) p (meant_due due)

  abbrev pub delivers_all : List Due → Playing Kind Op Shown → Playing Kind Op Shown
  delivers_all dues p = fold (deliver_due (replication ghosts spelling)) p (map meant_due dues)

module _ {T K Kind Delta : Type 0} {ghosts : Ghosts T Kind Op Delta} {keeping : Keeping K} (spelling : Spelling T Kind Op Delta) where
  pub record DoesMore (goes : Playing Kind Op Shown → Playing Kind Op Shown) (old new : World T K Kind Op Delta ghosts keeping) (before after : List Event) : Type 0 where
    pub events : List Event
    pub are : after ≡ before ++ events
    pub does : Does spelling goes old new events

  pub record Halts (goes : Playing Kind Op Shown → Playing Kind Op Shown) (old new : World T K Kind Op Delta ghosts keeping) : Type 0 where
    pub kept : (place : ℕ) → IsKept keeping (keeper_of old.nodes.items old.spare.items place) (keeper_of new.nodes.items new.spare.items place)
    pub stops : Stops spelling goes old new

  -- the one, or for want of memory the other
  abbrev pub DoesMoreOr : {X Refusal : Type 0} → (Playing Kind Op Shown → Playing Kind Op Shown) → (old new : World T K Kind Op Delta ghosts keeping) → (before after : List Event) → Result X Refusal → Type 0
  DoesMoreOr goes old new before after result = MatchResult result (λ _. DoesMore goes old new before after) (λ _. Halts goes old new)
