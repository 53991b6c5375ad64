-- What follows an answer.
use Rattle.std.proofs.Common.{◌≡◌, ℕ, List, [], ◌∷◌, ◌++◌, false, Option, Some, None, refl, sym, subst, inl, inr}
use Rattle.std.specs.Prelude.{◌⊎◌, Err}
use Rattle.model_kinds.specs.declared.operation.Op.{Op}
use Rattle.data_lattice.specs.declared.replica.Replica.{Ghosts as Data}
use Rattle.member_keeper.specs.declared.keeper.Keeper.{Ghosts as Keeping}
use Rattle.thread_cell.specs.Stamps.{IsTimed}
use Rattle.member_views.specs.Views.{View}
use Rattle.member_messages.specs.declared.message.Post.{Post}
use Rattle.member_node.specs.declared.reply.Reply.{Reply}
use Rattle.member_node.specs.declared.reply.Reply.TheVariants as reply
use Rattle.world_members.specs.declared.client_line.ClientLine.{ClientLine}
use Rattle.world_members.specs.declared.client_line.Ended.{Ended}
use Rattle.thread_cluster.specs.Knowing.{GoesOn, IsNowhere}
use Rattle.thread_cluster.specs.declared.error.CallError.{CallError}
use Rattle.thread_cluster.specs.declared.error.CallError.TheVariants as call
use Rattle.script_reading.specs.declared.clients.Command.{Command}
use Rattle.thread_clients.specs.Commands.{has_turn}
use Rattle.thread_clients.specs.Sessions.{Session, Receipted, Meaning}
use Rattle.thread_clients.specs.Calls.{IsMade, IsCalled}
use Rattle.thread_clients.specs.Turns.{IsHeardOrFull}
use Rattle.thread_clients.specs.Endings.{Ends}
use Rattle.thread_clients.specs.Answers.{IsQuiet, Settles, IsAnsweredBy, HasMade, IsLineOf, IsRefusal, IsRefusalLine, AddsLine}

-- a line more
pub adds_one : {P : ClientLine → Type 0} {before after : List ClientLine} (line : ClientLine) → after ≡ before ++ line ∷ [] → P line → AddsLine P before after
adds_one line added is = record { line = line; added = added; is = is }

-- and one of which one thing is so and with it another
pub adds_line : {P Q : ClientLine → Type 0} (before after : List ClientLine) → AddsLine P before after → ((line : ClientLine) → P line → Q line) → AddsLine Q before after
adds_line before after adds so = record { line = adds.line; added = adds.added; is = so adds.line adds.is }

module _ {T K Kind Delta : Type 0} {data_of : Data T Kind Op Delta} {keeping : Keeping K} (meaning : Meaning data_of keeping) (ids : ℕ → Option ℕ) where
  -- what was opened has ended
  pub settled_end : (command : Command) (told : Reply) (posts : List (Post T Kind Op Delta data_of)) (old new : Session data_of keeping) (op : ℕ) (end : Ended) → told ≡ reply.Pending op → Ends meaning ids command.at op old new end
      → Settles meaning ids command told posts old new (Some end)
  settled_end command told posts old new op end is ends =
      subst (λ (r : Reply). Settles meaning ids command r posts old new (Some end)) (sym is) (end, refl, ends)

  -- nothing was opened
  not_opened : (command : Command) (told : Reply) (posts : List (Post T Kind Op Delta data_of)) (old new : Session data_of keeping) → ((op : ℕ) → told ≡ reply.Pending op → ⊥)
      → IsQuiet meaning ids command posts old new ⊎ IsHeardOrFull meaning ids old new → Settles meaning ids command told posts old new None
  not_opened command (reply.Pending op) posts old new other settles = absurd (other op refl)
  not_opened command told posts old new other settles = (refl, settles)

  pub settled_turn : (command : Command) (told : Reply) (posts : List (Post T Kind Op Delta data_of)) (old new : Session data_of keeping) → ((op : ℕ) → told ≡ reply.Pending op → ⊥)
      → IsHeardOrFull meaning ids old new → Settles meaning ids command told posts old new None
  settled_turn command told posts old new other heard = not_opened command told posts old new other (inr heard)

  pub settled_quiet : (command : Command) (told : Reply) (posts : List (Post T Kind Op Delta data_of)) (old : Session data_of keeping) → ((op : ℕ) → told ≡ reply.Pending op → ⊥)
      → has_turn command.ask ≡ false → posts ≡ [] → Settles meaning ids command told posts old old None
  settled_quiet command told posts old other turns none = not_opened command told posts old old other (inl (record { turns = turns; posts_are = none; same = refl }))

  module _ (views : List View) (command : Command) (client : ℕ) (line : ClientLine) where
    -- the line of a command that was answered
    pub made_reply : (old made new : Session data_of keeping) (receipt : Receipted data_of keeping) → IsMade meaning ids views command old made receipt → IsLineOf meaning ids command receipt.output made new client line
        → IsTimed new.seen.known new.seen.stamp → HasMade meaning ids views command old new line client
    made_reply old made new receipt is of timed = record {
      client_is = of.client_is;
      head_is = of.head_is;
      answered = subst (IsAnsweredBy meaning ids views command old new line) (sym of.answer_is)
          (record { made = made; receipt = receipt; is_made = is; replied = refl; sent = of.sent; settles = of.settles });
      timed = timed;
    }

    -- and of one that made no step
    refusal : (old new : Session data_of keeping) (error : CallError) → IsCalled meaning ids views command old new (Err error) → IsRefusal error line.answer → line.sent ≡ [] → line.ended ≡ None → IsAnsweredBy meaning ids views command old new line line.answer
    refusal old new call.Gone c is sent none =
        subst (IsAnsweredBy meaning ids views command old new line) (sym is) (record { sees = c.err; sent = sent; ended = none; why = c.gone refl })
    refusal old new call.NoSuchView c is sent none =
        subst (IsAnsweredBy meaning ids views command old new line) (sym is) (record { sees = c.err; sent = sent; ended = none; why = c.no_view refl })
    refusal old new call.HistoryFull c is sent none =
        subst (IsAnsweredBy meaning ids views command old new line) (sym is) (record { sees = c.err; sent = sent; ended = none; why = c.full refl })
    refusal old new call.Memory c is sent none = absurd is

    pub made_refusal : (old new : Session data_of keeping) (error : CallError) → IsCalled meaning ids views command old new (Err error) → IsRefusalLine command error client line
        → IsTimed new.seen.known new.seen.stamp → HasMade meaning ids views command old new line client
    made_refusal old new error c of timed = record {
      client_is = of.client_is;
      head_is = of.head_is;
      answered = refusal old new error c of.answer_is of.sent of.ended;
      timed = timed;
    }

  -- the member of a call that was answered runs, and the session goes on
  pub runs_here : (views : List View) (command : Command) (old made : Session data_of keeping) (receipt : Receipted data_of keeping) → IsMade meaning ids views command old made receipt → IsNowhere ids command.at → ⊥
  runs_here views command old made receipt is nowhere = nowhere.nowhere receipt.place is.called.here

  pub made_on : (views : List View) (command : Command) (old made : Session data_of keeping) (receipt : Receipted data_of keeping) → IsMade meaning ids views command old made receipt → GoesOn old made
  made_on views command old made receipt is = is.called.answered.goes_on
