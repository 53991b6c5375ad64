-- What a client's command did.
--     Settles        what follows an answer: what was sent is heard, and what was opened has ended
--     IsReplied, IsUnmade, IsAnsweredBy        by the answer
--     HasMade        the line of a command
--     IsLineOf, IsRefusalLine        the same by its parts
--     AddsLine        a line more, of which something is so
use Rattle.std.specs.Prelude.{◌≡◌, ℕ, ◌⊎◌, List, [], ◌∷◌, ◌++◌, map, false, Option, None, Some}
use Rattle.model_kinds.specs.declared.operation.Op.{Op}
use Rattle.data_lattice.specs.declared.replica.Replica.{Ghosts as Data}
use Rattle.member_keeper.specs.declared.keeper.Keeper.{Ghosts as Keeping}
use Rattle.thread_cell.specs.Stamps.{IsTimed}
use Rattle.member_views.specs.Views.{View}
use Rattle.member_messages.specs.declared.message.Post.{Post}
use Rattle.member_node.specs.declared.reply.Output.{Output}
use Rattle.member_node.specs.declared.reply.Reply.{Reply}
use Rattle.member_node.specs.declared.reply.Reply.TheVariants as reply
use Rattle.world_members.specs.declared.client_line.ClientLine.{ClientLine}
use Rattle.world_members.specs.declared.client_line.Ended.{Ended}
use Rattle.world_members.specs.declared.event.Answer.{Answer}
use Rattle.world_members.specs.declared.event.Answer.TheVariants as answer
use Rattle.world_members.specs.declared.event.Head.TheVariants.{Asked}
use Rattle.world_places.specs.Sending.{told_of}
use Rattle.thread_cluster.specs.Knowing.{Sees, IsNowhere}
use Rattle.thread_cluster.specs.declared.error.CallError.{CallError}
use Rattle.thread_cluster.specs.declared.error.CallError.TheVariants as call
use Rattle.script_reading.specs.declared.clients.Command.{Command}
use Rattle.thread_clients.specs.Commands.{has_turn}
use Rattle.thread_clients.specs.Calls.{IsMade, HasNoRoom, IsViewless}
use Rattle.thread_clients.specs.Sessions.{Session, Receipted, Meaning}
use Rattle.thread_clients.specs.Turns.{IsHeardOrFull}
use Rattle.thread_clients.specs.Endings.{Ends}

module _ {T K Kind Delta : Type 0} {data_of : Data T Kind Op Delta} {keeping : Keeping K} (meaning : Meaning data_of keeping) (ids : ℕ → Option ℕ) where
  -- nothing was sent, and no turn follows
  pub record IsQuiet (command : Command) (posts : List (Post T Kind Op Delta data_of)) (old new : Session data_of keeping) : Type 0 where
    pub turns : has_turn command.ask ≡ false
    pub posts_are : posts ≡ []
    pub same : new ≡ old

  -- an operation that was opened has ended; and else, where something was sent or a turn follows, what was sent is heard, or a history was full
  abbrev pub Settles : Command → Reply → List (Post T Kind Op Delta data_of) → Session data_of keeping → Session data_of keeping → Option Ended → Type 0
  Settles command (reply.Pending op) posts old new told = (end : Ended) × (told ≡ Some end) × Ends meaning ids command.at op old new end
  Settles command _ posts old new told = (told ≡ None) × (IsQuiet command posts old new ⊎ IsHeardOrFull meaning ids old new)

  module _ (views : List View) (command : Command) (old new : Session data_of keeping) (line : ClientLine) where
    -- the command's entry was answered, its posts were told, and the client waited for what came of it
    pub record IsReplied (told : Reply) : Type 0 where
      pub made : Session data_of keeping
      pub receipt : Receipted data_of keeping
      pub is_made : IsMade meaning ids views command old made receipt
      pub replied : receipt.output.reply ≡ told
      pub sent : line.sent ≡ map told_of receipt.output.posts
      pub settles : Settles command receipt.output.reply receipt.output.posts made new line.ended

    -- the command made no step
    pub record IsUnmade (cause : Type 0) : Type 0 where
      pub sees : Sees old new
      pub sent : line.sent ≡ []
      pub ended : line.ended ≡ None
      pub why : cause

    abbrev pub IsAnsweredBy : Answer → Type 0
    IsAnsweredBy (answer.Reply told) = IsReplied told
    IsAnsweredBy answer.Gone = IsUnmade (IsNowhere ids command.at)
    IsAnsweredBy answer.NoSuchView = IsUnmade (IsViewless meaning ids views command old new)
    IsAnsweredBy answer.HistoryFull = IsUnmade (HasNoRoom meaning ids views command old new)
    IsAnsweredBy _ = ⊥

    -- WHAT A COMMAND OF A CLIENT DID, and its line
    pub record HasMade (client : ℕ) : Type 0 where
      pub client_is : line.client ≡ client
      pub head_is : line.head ≡ Asked command.at command.ask
      pub answered : IsAnsweredBy line.answer
      pub timed : IsTimed new.seen.known new.seen.stamp

  -- the line of a command that was answered so
  pub record IsLineOf (command : Command) (output : Output T Kind Op Delta data_of) (old new : Session data_of keeping) (client : ℕ) (line : ClientLine) : Type 0 where
    pub client_is : line.client ≡ client
    pub head_is : line.head ≡ Asked command.at command.ask
    pub answer_is : line.answer ≡ answer.Reply output.reply
    pub sent : line.sent ≡ map told_of output.posts
    pub settles : Settles command output.reply output.posts old new line.ended

-- what is told of a call that made no step
abbrev pub IsRefusal : CallError → Answer → Type 0
IsRefusal call.Gone told = told ≡ answer.Gone
IsRefusal call.NoSuchView told = told ≡ answer.NoSuchView
IsRefusal call.HistoryFull told = told ≡ answer.HistoryFull
IsRefusal call.Memory told = ⊥

-- the line of a command that made no step
pub record IsRefusalLine (command : Command) (error : CallError) (client : ℕ) (line : ClientLine) : Type 0 where
  pub client_is : line.client ≡ client
  pub head_is : line.head ≡ Asked command.at command.ask
  pub answer_is : IsRefusal error line.answer
  pub sent : line.sent ≡ []
  pub ended : line.ended ≡ None

-- there is one line more, and this is so of it
pub record AddsLine (Is : ClientLine → Type 0) (before after : List ClientLine) : Type 0 where
  pub line : ClientLine
  pub added : after ≡ before ++ line ∷ []
  pub is : Is line
