-- A member's step, whose messages go to the ends of its links.
--     HasRoom        links that take so many messages more without memory
--     receivers, most_posts, AreFew        whom a step for an input sends to, and how many messages at most
--     IsAppended, AreAppended, AppendsPosts        a message, or posts, at the ends of a member's channels
--     Sends        each message of a member goes to the end of its channel
--     IsStepOnRow, IsStepOnLinks, TakesOnLinks        a member makes a step of its contract, and what it says is sent and told
use Rattle.std.specs.Prelude.{◌≡◌, ℕ, ◌+◌, ◌≤◌, List, map, filter, length, option_map, slice_get, Some, Vec, vec_len, vec_capacity, ◌==◌, if◌then◌else◌, true, [], ◌∷◌}
use Rattle.std.specs.List.{list_all}
use Rattle.std.specs.declared.alloc.Global.{Global}
use Rattle.model_history.specs.Vector.{IdentitySet}
use Rattle.model_members.specs.View.{View, is_member}
use Rattle.data_lattice.specs.declared.replica.Replica.{Ghosts}
use Rattle.data_lattice.specs.declared.spelled.SpelledData.{Ghosts as Spelling}
use Rattle.member_keeper.specs.declared.keeper.Keeper.{Ghosts as Keeping}
use Rattle.member_messages.specs.declared.message.Message.{Message}
use Rattle.member_messages.specs.declared.message.Post.{Post}
use Rattle.member_messages.specs.Sketches.{sketch_of}
use Rattle.member_node.specs.declared.node.Node.{Node}
use Rattle.member_quorum.specs.declared.level.Level.{Level}
use Rattle.member_quorum.specs.declared.level.Level.TheVariants.{Local, To, Majority, All}
use Rattle.member_node.specs.declared.input.Input.{Input}
use Rattle.member_node.specs.declared.input.Input.TheVariants as input
use Rattle.member_node.specs.declared.reply.Fate.{Fate}
use Rattle.member_node.specs.Steps.{IsStepOf}
use Rattle.world_places.specs.declared.links.Link.{Link}
use Rattle.world_places.specs.declared.sent.SentTo.{SentTo}
use Rattle.world_places.specs.declared.sending.Answered.{Answered}
use Rattle.world_places.specs.Channels.{Channel, Channels, channel_at, message_on, row_of, extended}

module _ {M : Type 0} where
  -- each link of a member to one of these can take so many messages without memory
  abbrev pub HasRoom : IdentitySet → ℕ → Vec (Link M) Global → Type 0
  HasRoom ids room row = (k : ℕ) (link : Link M) → ids k ≡ true → slice_get row.items k ≡ Some link → vec_len link.messages + room ≤ vec_capacity link.messages

  -- the message is the last on the channel to a member, and the other channels stay
  abbrev pub IsAppended : ℕ → M → (old new : List (Channel M)) → Type 0
  IsAppended to message old new = (b : ℕ) → slice_get new b ≡ (if b == to then option_map (extended (message ∷ [])) (slice_get old b) else slice_get old b)

module _ {T Kind Op Delta : Type 0} {ghosts : Ghosts T Kind Op Delta} where
  -- the messages that go to a member
  abbrev pub messages_to : List (Post T Kind Op Delta ghosts) → ℕ → List (Message T Kind Op Delta ghosts)
  messages_to posts to = map (λ (post : Post T Kind Op Delta ghosts). post.message) (filter (λ (post : Post T Kind Op Delta ghosts). post.to == to) posts)

  -- each message is at the end of the channel to its member
  abbrev pub AreAppended : List (Post T Kind Op Delta ghosts) → (old new : List (Channel (Message T Kind Op Delta ghosts))) → Type 0
  AreAppended posts old new = (b : ℕ) → slice_get new b ≡ option_map (extended (messages_to posts b)) (slice_get old b)

  -- so it is where the links to all of these members have room
  abbrev pub AppendsPosts : List (Post T Kind Op Delta ghosts) → (old new : Vec (Link (Message T Kind Op Delta ghosts)) Global) → Type 0
  AppendsPosts posts old new =
      (ids : IdentitySet) (room : ℕ) → HasRoom ids room old → length posts ≤ room → list_all (λ (post : Post T Kind Op Delta ghosts). ids post.to) posts ≡ true → AreAppended posts (row_of old) (row_of new)

  -- what is told of a post
  abbrev pub told_of : Post T Kind Op Delta ghosts → SentTo
  told_of post = record { to = post.to; sketch = sketch_of post.message }

  -- each message of a member goes to the end of its channel, and the channels of others stay
  abbrev pub Sends : ℕ → List (Post T Kind Op Delta ghosts) → Channels (Message T Kind Op Delta ghosts) → Channels (Message T Kind Op Delta ghosts) → Type 0
  Sends from posts old new =
      (a b : ℕ) → channel_at new a b ≡ (if a == from then option_map (extended (messages_to posts b)) (channel_at old a b) else channel_at old a b)

-- who asks no other member sends nothing
abbrev pub most_asked : View → Level → ℕ
most_asked view Local = 0
most_asked view (To number) = length view.members
most_asked view (Majority cap) = length view.members
most_asked view All = length view.members

module _ {T Kind Op Delta : Type 0} {ghosts : Ghosts T Kind Op Delta} where
  -- whom a member of a view sends to in a step for an input
  abbrev pub receivers : View → Input T Kind Op Delta ghosts → IdentitySet
  receivers view (input.Take from message) = λ id. id == from
  receivers view (input.GossipTo to) = λ id. id == to
  receivers view _ = is_member view

  -- how many messages it sends at most
  abbrev pub most_posts : View → Input T Kind Op Delta ghosts → ℕ
  most_posts view (input.Update key op level) = most_asked view level
  most_posts view (input.Get key level) = most_asked view level
  most_posts view (input.Take from message) = 1
  most_posts view (input.Install other) = 0
  most_posts view input.Flush = length view.members
  most_posts view (input.GossipTo to) = 1
  most_posts view input.PruneTick = 0
  most_posts view (input.Timeout op) = 0

  -- no more messages than that, and to these alone
  pub record AreFew (view : View) (given : Input T Kind Op Delta ghosts) (posts : List (Post T Kind Op Delta ghosts)) : Type 0 where
    pub few : length posts ≤ most_posts view given
    pub received : list_all (λ (post : Post T Kind Op Delta ghosts). receivers view given post.to) posts ≡ true

module _ {T K Kind Op Delta : Type 0} {ghosts : Ghosts T Kind Op Delta} {keeping : Keeping K} (spelling : Spelling T Kind Op Delta) where
  -- the member made the step with some fate, and its posts are sent and told if they are few for the input
  pub record IsStepOnRow (before : Node T K Kind Op Delta ghosts keeping) (input : Input T Kind Op Delta ghosts) (answered : Answered) (after : Node T K Kind Op Delta ghosts keeping) (old new : List (Channel (Message T Kind Op Delta ghosts))) : Type 0 where
    pub fate : Fate
    pub posts : List (Post T Kind Op Delta ghosts)
    pub makes : IsStepOf spelling before input fate (record { reply = answered.reply; posts = posts; finished = answered.finished }) after
    pub sends : AreFew before.view input posts → AreAppended posts old new
    pub tells : AreFew before.view input posts → answered.sent ≡ map told_of posts

  pub record IsStepOnLinks (before : Node T K Kind Op Delta ghosts keeping) (input : Input T Kind Op Delta ghosts) (answered : Answered) (after : Node T K Kind Op Delta ghosts keeping) (from : ℕ) (old new : Channels (Message T Kind Op Delta ghosts)) : Type 0 where
    pub fate : Fate
    pub posts : List (Post T Kind Op Delta ghosts)
    pub makes : IsStepOf spelling before input fate (record { reply = answered.reply; posts = posts; finished = answered.finished }) after
    pub sends : AreFew before.view input posts → Sends from posts old new
    pub tells : AreFew before.view input posts → answered.sent ≡ map told_of posts

  -- the input was the message of this number on the link from an identity
  abbrev pub TakesOnLinks : Node T K Kind Op Delta ghosts keeping → (from index : ℕ) → Answered → Node T K Kind Op Delta ghosts keeping → (at : ℕ) → (old new : Channels (Message T Kind Op Delta ghosts)) → Type 0
  TakesOnLinks before from index answered after at old new =
      (message : Message T Kind Op Delta ghosts) → message_on (channel_at old from at) index ≡ Some message → IsStepOnLinks before (input.Take from message) answered after at old new
