-- What comes of an input that is given to an identity.
--     IsSame, IsAlikeButLinks        nothing is changed, or the links alone
--     RunsAt        where the member of an identity runs
--     ChangesAt        the member at one place is changed, and of the rest at most the links
--     IsToldAs        the event of what a member answered
--     Gives, Hands        no member has the identity, or the member is full, or it made its step
--     Refuses        memory was wanted
--     Does, IsAsBefore, DoesOr        what a call of one event does to a world, and what it leaves after want of memory
use Rattle.std.specs.Prelude.{◌≡◌, ◌≢◌, ℕ, ◌<◌, false, List, [], ◌∷◌, length, set, Some, None, Result, Ok, Err, MatchResult}
use Rattle.data_lattice.specs.declared.replica.Replica.{Ghosts}
use Rattle.data_lattice.specs.declared.spelled.SpelledData.{Ghosts as Spelling}
use Rattle.member_keeper.specs.declared.keeper.Keeper.{Ghosts as Keeping}
use Rattle.member_views.specs.Sound.{IsView, last_view}
use Rattle.member_node.specs.declared.node.Node.{Node}
use Rattle.member_messages.specs.declared.message.Message.{Message}
use Rattle.member_node.specs.declared.input.Input.{Input}
use Rattle.member_node.specs.declared.input.Input.TheVariants as input
use Rattle.member_node.specs.declared.reply.StepError.{StepError}
use Rattle.member_node.specs.declared.reply.StepError.TheVariants.{HistoryFull, Memory}
use Rattle.member_node.specs.Steps.{replication, IsUnchanged}
use Rattle.world_members.specs.declared.event.Head.{Head}
use Rattle.world_members.specs.declared.event.Answer.TheVariants as answer
use Rattle.world_members.specs.declared.event.Event.{Event}
use Rattle.world_places.specs.declared.sending.Answered.{Answered}
use Rattle.world_members.specs.declared.world.World.{World}
use Rattle.world_places.specs.Channels.{channel_at, message_on}
use Rattle.world_places.specs.Keeping.{Given, KeepsAt, IsKept}
use Rattle.world_members.specs.Lines.{are_damaged}
use Rattle.world_places.specs.Places.{item_at, seat_of, keeper_of}
use Rattle.world_members.specs.Steps.{LeadsTo, Stays}
use Rattle.model_members.specs.Script.{Playing, deliver}
use Rattle.model_kinds.specs.declared.operation.Op.{Op}
use Rattle.model_kinds.specs.declared.shown.Shown.{Shown}
use Rattle.world_places.specs.Sending.{IsStepOnLinks}

-- the event of what a member answered, unless memory was wanted
abbrev pub IsToldAs : Head → Result Answered StepError → Event → Type 0
IsToldAs head (Ok answered) event = event ≡ record { head = head; answer = answer.Reply answered.reply; sent = answered.sent; finished = answered.finished }
IsToldAs head (Err HistoryFull) event = event ≡ record { head = head; answer = answer.HistoryFull; sent = []; finished = None }
IsToldAs head (Err Memory) event = ⊥

module _ {T K Kind Op Delta : Type 0} {ghosts : Ghosts T Kind Op Delta} {keeping : Keeping K} where
  -- all that tells of a world is the same
  pub record IsSame (old new : World T K Kind Op Delta ghosts keeping) : Type 0 where
    pub views : new.views ≡ old.views
    pub keys : new.keys ≡ old.keys
    pub spare : new.spare ≡ old.spare
    pub nodes : new.nodes.items ≡ old.nodes.items
    pub links : new.links ≡ old.links

  -- all but the links is the same
  pub record IsAlikeButLinks (old new : World T K Kind Op Delta ghosts keeping) : Type 0 where
    pub views : new.views ≡ old.views
    pub keys : new.keys ≡ old.keys
    pub spare : new.spare ≡ old.spare
    pub nodes : new.nodes.items ≡ old.nodes.items

  -- the member of an identity runs at this place
  pub record RunsAt (i place : ℕ) (world : World T K Kind Op Delta ghosts keeping) : Type 0 where
    pub sound : IsView (last_view world.views)
    pub seat : seat_of (last_view world.views) i ≡ Some place
    pub within : place < length world.nodes.items
    pub there : item_at world.nodes.items place ≢ None

  pub record ChangesAt (i place : ℕ) (before after : Node T K Kind Op Delta ghosts keeping) (old new : World T K Kind Op Delta ghosts keeping) : Type 0 where
    pub views : new.views ≡ old.views
    pub keys : new.keys ≡ old.keys
    pub spare : new.spare ≡ old.spare
    pub sound : IsView (last_view old.views)
    pub seat : seat_of (last_view old.views) i ≡ Some place
    pub within : place < length old.nodes.items
    pub was : item_at old.nodes.items place ≡ Some before
    pub nodes : new.nodes.items ≡ set old.nodes.items place (Some after)

  -- the member is the same, but for its keeper, and the links are
  pub record Refuses (i : ℕ) (old new : World T K Kind Op Delta ghosts keeping) : Type 0 where
    pub place : ℕ
    pub before : Node T K Kind Op Delta ghosts keeping
    pub after : Node T K Kind Op Delta ghosts keeping
    pub changes : ChangesAt i place before after old new
    pub links : new.links ≡ old.links
    pub unchanged : IsUnchanged before after

module _ {T K Kind Op Delta : Type 0} {ghosts : Ghosts T Kind Op Delta} {keeping : Keeping K} (spelling : Spelling T Kind Op Delta) where
  pub record Makes (i : ℕ) (input : Input T Kind Op Delta ghosts) (answered : Answered) (old new : World T K Kind Op Delta ghosts keeping) : Type 0 where
    pub place : ℕ
    pub before : Node T K Kind Op Delta ghosts keeping
    pub after : Node T K Kind Op Delta ghosts keeping
    pub changes : ChangesAt i place before after old new
    pub steps : IsStepOnLinks spelling before input answered after i old.links new.links

  pub data Gives (i : ℕ) (head : Head) (input : Input T Kind Op Delta ghosts) (old new : World T K Kind Op Delta ghosts keeping) (event : Event) : Type 0 where
    gone : seat_of (last_view old.views) i ≡ None → IsSame old new → event ≡ record { head = head; answer = answer.Gone; sent = []; finished = None } → Gives i head input old new event
    full : (r : Refuses i old new) → r.before.steps ≡ r.before.limit → event ≡ record { head = head; answer = answer.HistoryFull; sent = []; finished = None } → Gives i head input old new event
    made : (answered : Answered) → Makes i input answered old new → event ≡ record { head = head; answer = answer.Reply answered.reply; sent = answered.sent; finished = answered.finished } → Gives i head input old new event

  -- the input is the message of this number on the link between these identities
  abbrev pub Hands : (from to index : ℕ) → Head → (old new : World T K Kind Op Delta ghosts keeping) → Event → Type 0
  Hands from to index head old new event = (message : Message T Kind Op Delta ghosts) → message_on (channel_at old.links from to) index ≡ Some message → Gives to head (input.Take from message) old new event

module _ {T K Kind Delta : Type 0} {ghosts : Ghosts T Kind Op Delta} {keeping : Keeping K} (spelling : Spelling T Kind Op Delta) where
  -- the keepers gave some answers, and with these the script goes so
  pub record Does (goes : Playing Kind Op Shown → Playing Kind Op Shown) (old new : World T K Kind Op Delta ghosts keeping) (events : List Event) : Type 0 where
    pub given : Given
    pub kept : (place : ℕ) → KeepsAt keeping (given place) (keeper_of old.nodes.items old.spare.items place) (keeper_of new.nodes.items new.spare.items place)
    pub undamaged : are_damaged events ≡ false
    pub leads : LeadsTo spelling goes given old new events

  -- the world means what it meant
  pub record IsAsBefore (old new : World T K Kind Op Delta ghosts keeping) : Type 0 where
    pub kept : (place : ℕ) → IsKept keeping (keeper_of old.nodes.items old.spare.items place) (keeper_of new.nodes.items new.spare.items place)
    pub stays : Stays spelling old new

  -- the one with this event, or for want of memory the other
  abbrev pub DoesOr : {Refusal : Type 0} → (Playing Kind Op Shown → Playing Kind Op Shown) → (old new : World T K Kind Op Delta ghosts keeping) → Result Event Refusal → Type 0
  DoesOr goes old new result = MatchResult result (λ event. Does goes old new (event ∷ [])) (λ _. IsAsBefore old new)

-- the script delivers the message of a number
abbrev pub delivers : {T Kind Delta : Type 0} → Ghosts T Kind Op Delta → Spelling T Kind Op Delta → (from to index : ℕ) → Playing Kind Op Shown → Playing Kind Op Shown
delivers ghosts spelling from to index p = deliver (replication ghosts spelling) p from to index
