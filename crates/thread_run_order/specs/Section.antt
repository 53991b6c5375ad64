-- What a section of client threads leaves of a world.
--     sent_to, taken_from        what a history posts to an identity, and takes of one
--     IsGiven        an input that is given in a section
--     IsSection        the histories of all places, and the members that they lead to
--     IsLeft        the world after it
use Rattle.std.specs.Prelude.{◌≡◌, ℕ, ◌+◌, ◌<◌, List, [], ◌∷◌, ◌++◌, length, flat_map, ◌==◌, if◌then◌else◌, Option, Some, None, option_map, slice_get}
use Rattle.std.specs.List.{AllByRecursion}
use Rattle.thread_machine.specs.declared.machine.Machine.{Ghosts as Machine}
use Rattle.thread_cell.specs.Closings.{EndsAt}
use Rattle.theorem_sections.specs.Queues.{stamped}
use Rattle.model_members.specs.View.{View}
use Rattle.model_kinds.specs.declared.operation.Op.{Op}
use Rattle.data_lattice.specs.declared.replica.Replica.{Ghosts}
use Rattle.member_keeper.specs.declared.keeper.Keeper.{Ghosts as Keeping}
use Rattle.member_messages.specs.declared.message.Message.{Message}
use Rattle.member_views.specs.Sound.{last_view}
use Rattle.member_node.specs.declared.input.Input.{Input}
use Rattle.member_node.specs.declared.input.Input.TheVariants as form
use Rattle.member_node.specs.declared.node.Node.{Node}
use Rattle.member_node.specs.declared.reply.Fate.{Fate}
use Rattle.member_node.specs.declared.reply.Output.{Output}
use Rattle.member_node.specs.declared.reply.StepError.{StepError}
use Rattle.world_members.specs.declared.world.World.{World}
use Rattle.world_places.specs.Channels.{Channel, channel_at}
use Rattle.world_places.specs.Places.{item_at, identity_at, seat_of}
use Rattle.world_places.specs.Sending.{messages_to}
use Rattle.thread_run_order.specs.Images.{EntryOf}

module _ {T Kind Delta : Type 0} {ghosts : Ghosts T Kind Op Delta} where
  -- the message of an identity that an input takes
  abbrev pub takes_of : ℕ → Input T Kind Op Delta ghosts → List (Message T Kind Op Delta ghosts)
  takes_of from (form.Take sender message) = if sender == from then message ∷ [] else []
  takes_of from _ = []

  -- a message is taken of a member, and an installed view is one of these
  abbrev pub IsGiven : View → List View → Input T Kind Op Delta ghosts → Type 0
  IsGiven view views (form.Take sender message) = (place : ℕ) × (identity_at view place ≡ Some sender)
  IsGiven view views (form.Install other) = (k : ℕ) × (slice_get views k ≡ Some other)
  IsGiven view views _ = Unit {0}

-- each take is of the post of its number, which has a lower stamp
pub record AreHeard {X : Type 0} (posts takes : List (X × ℕ)) : Type 0 where
  pub each : (k : ℕ) (take : X × ℕ) → slice_get takes k ≡ Some take → (post : X × ℕ) × (slice_get posts k ≡ Some post) × (take.0 ≡ post.0) × (post.1 < take.1)

module _ {T K Kind Delta : Type 0} {ghosts : Ghosts T Kind Op Delta} {keeping : Keeping K} where
  -- what a history posts to an identity, and takes of one
  abbrev pub sent_to : ℕ → List (EntryOf ghosts keeping) → List (Message T Kind Op Delta ghosts)
  sent_to to es = flat_map (λ (e : EntryOf ghosts keeping). messages_to e.output.posts to) es

  abbrev pub taken_from : ℕ → List (EntryOf ghosts keeping) → List (Message T Kind Op Delta ghosts)
  taken_from from es = flat_map (λ (e : EntryOf ghosts keeping). takes_of from e.input) es

  -- an entry that takes no message
  pub record TakesNothing (e : EntryOf ghosts keeping) : Type 0 where
    pub none : (from : ℕ) → takes_of from e.input ≡ []

  -- the same, each message with the stamp of its entry
  abbrev pub posts_to : ℕ → List (EntryOf ghosts keeping) → List (Message T Kind Op Delta ghosts × ℕ)
  posts_to to es = flat_map (λ (e : EntryOf ghosts keeping). stamped e.stamp (messages_to e.output.posts to)) es

  abbrev pub takes_from : ℕ → List (EntryOf ghosts keeping) → List (Message T Kind Op Delta ghosts × ℕ)
  takes_from from es = flat_map (λ (e : EntryOf ghosts keeping). stamped e.stamp (takes_of from e.input)) es

  -- each member makes the entries of its place and nothing else, takes of each other one what that posted to it, in order, and is given what a section gives
  pub record IsSection (meaning : Machine (Node T K Kind Op Delta ghosts keeping) (Input T Kind Op Delta ghosts) Fate (Output T Kind Op Delta ghosts) StepError) (world : World T K Kind Op Delta ghosts keeping) (histories : ℕ → List (EntryOf ghosts keeping)) (nows : ℕ → Option (Node T K Kind Op Delta ghosts keeping)) : Type 0 where
    pub ends : (place : ℕ) → EndsAt meaning (item_at world.nodes.items place) (nows place) (histories place)
    pub heard : (p q i j : ℕ) → identity_at (last_view world.views) p ≡ Some i → identity_at (last_view world.views) q ≡ Some j → AreHeard (posts_to j (histories p)) (takes_from i (histories q))
    pub given : (place : ℕ) → AllByRecursion (λ (e : EntryOf ghosts keeping). IsGiven (last_view world.views) world.views e.input) (histories place)

  -- the history of an identity, which is empty where no member has it
  abbrev pub history_of : View → (ℕ → List (EntryOf ghosts keeping)) → ℕ → List (EntryOf ghosts keeping)
  history_of view histories i = elim (seat_of view i) [ None ↦ [] | Some place ↦ histories place ]

-- a channel after a section: with the messages that were posted, and past those that were taken, where none was pending before
abbrev pub after_section : {M : Type 0} → List M → ℕ → Channel M → Channel M
after_section posts taken c = record { messages = c.messages ++ posts; next = if c.next == length c.messages then c.next + taken else c.next }

module _ {T K Kind Delta : Type 0} {ghosts : Ghosts T Kind Op Delta} {keeping : Keeping K} where
  pub record IsLeft (old new : World T K Kind Op Delta ghosts keeping) (histories : ℕ → List (EntryOf ghosts keeping)) (nows : ℕ → Option (Node T K Kind Op Delta ghosts keeping)) : Type 0 where
    pub views : new.views ≡ old.views
    pub keys : new.keys ≡ old.keys
    pub spare : new.spare ≡ old.spare
    pub members : (place : ℕ) → place < 8 → item_at new.nodes.items place ≡ nows place
    pub links : (a b : ℕ) → channel_at new.links a b
        ≡ option_map (after_section (sent_to b (history_of (last_view old.views) histories a)) (length (taken_from a (history_of (last_view old.views) histories b)))) (channel_at old.links a b)
