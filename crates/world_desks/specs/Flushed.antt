-- Which member made a flush that is done, by the events of a step.
use Rattle.std.specs.Prelude.{ℕ, List, [], ◌∷◌, Bool, true, false, ◌&&◌, Option, None, Some, if◌then◌else◌}
use Rattle.member_node.specs.declared.reply.Reply.{Reply}
use Rattle.member_node.specs.declared.reply.Reply.TheVariants as reply
use Rattle.script_reading.specs.declared.ask.Ask.{Ask}
use Rattle.script_reading.specs.declared.ask.Ask.TheVariants as asked
use Rattle.world_members.specs.declared.event.Answer.{Answer}
use Rattle.world_members.specs.declared.event.Answer.TheVariants as answer
use Rattle.world_members.specs.declared.event.Event.{Event}
use Rattle.world_members.specs.declared.event.Head.{Head}
use Rattle.world_members.specs.declared.event.Head.TheVariants as head

abbrev pub is_flush : Ask → Bool
is_flush asked.Flush = true
is_flush _ = false

abbrev pub is_reply_done : Reply → Bool
is_reply_done reply.Done = true
is_reply_done _ = false

abbrev pub is_done : Answer → Bool
is_done (answer.Reply reply) = is_reply_done reply
is_done _ = false

abbrev pub flush_of : Head → Answer → Option ℕ
flush_of (head.Asked at ask) answer = if is_flush ask && is_done answer then Some at else None
flush_of _ answer = None

abbrev pub flushed_in : List Event → Option ℕ
flushed_in (event ∷ []) = flush_of event.head event.answer
flushed_in _ = None
