-- Links as contracts see them: for each identity the channels to all identities.
--     channel_at        the channel from one to another
--     channels_in        those from one identity, before its links are made too
--     next_on, count_on, message_on        what is asked of a channel, where there may be none
--     ChangesOne        what a write to one channel leaves
use Rattle.std.specs.Prelude.{◌≡◌, ◌&&◌, ℕ, suc, Vec, List, [], ◌∷◌, ◌++◌, map, length, replicate, option_and_then, option_map, slice_get, Option, Some, None, ◌==◌, if◌then◌else◌}
use Rattle.std.specs.declared.alloc.Global.{Global}
use Rattle.model_history.specs.Table.{identity_limit}
use Rattle.world_places.specs.declared.links.Link.{Link}

-- all messages ever sent from one identity to another, and the number of the next one due
pub record Channel (M : Type 0) : Type 0 where
  pub messages : List M
  pub next : ℕ

abbrev pub Channels : Type 0 → Type 0
Channels M = List (List (Channel M))

module _ {M : Type 0} where
  abbrev pub channel_of : Link M → Channel M
  channel_of link = record { messages = link.messages.items; next = link.next }

  abbrev pub row_of : Vec (Link M) Global → List (Channel M)
  row_of row = map channel_of row.items

  abbrev pub no_messages : Channel M
  no_messages = record { messages = []; next = 0 }

  -- where no link is made yet no message was sent
  abbrev pub made : List (Channel M) → List (Channel M)
  made [] = replicate identity_limit no_messages
  made (channel ∷ channels) = channel ∷ channels

  -- the channels from one identity to all
  abbrev pub channels_in : Vec (Link M) Global → List (Channel M)
  channels_in row = made (row_of row)

  abbrev pub channel_at : Channels M → ℕ → ℕ → Option (Channel M)
  channel_at channels from to = option_and_then (λ row. slice_get row to) (slice_get channels from)

  abbrev pub next_on : Option (Channel M) → ℕ
  next_on None = 0
  next_on (Some channel) = channel.next

  abbrev pub count_on : Option (Channel M) → ℕ
  count_on None = 0
  count_on (Some channel) = length channel.messages

  abbrev pub message_on : Option (Channel M) → ℕ → Option M
  message_on None index = None
  message_on (Some channel) index = slice_get channel.messages index

  -- the message of this number was taken or lost
  abbrev pub passed : ℕ → Channel M → Channel M
  passed index channel = record channel { next = if channel.next == index then suc index else channel.next }

  -- messages at the end of a channel
  abbrev pub extended : List M → Channel M → Channel M
  extended messages channel = record channel { messages = channel.messages ++ messages }

  -- another message is due next
  abbrev pub due_from : ℕ → Channel M → Channel M
  due_from next channel = record channel { next = next }

  -- of the channels from one identity that to another is changed, if it is there, and the others stay
  abbrev pub ChangesIn : (Channel M → Channel M) → ℕ → List (Channel M) → List (Channel M) → Type 0
  ChangesIn change to old new = (b : ℕ) → slice_get new b ≡ (if b == to then option_map change (slice_get old b) else slice_get old b)

  -- one channel is changed, if it is there, and the others stay
  abbrev pub ChangesOne : (Channel M → Channel M) → ℕ → ℕ → Channels M → Channels M → Type 0
  ChangesOne change from to old new =
      (a b : ℕ) → channel_at new a b ≡ (if (a == from) && (b == to) then option_map change (channel_at old a b) else channel_at old a b)
