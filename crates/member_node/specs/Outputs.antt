-- Outputs after a store.
use Rattle.std.specs.Prelude.{[], map, Bool, true, false, if◌then◌else◌}
use Rattle.data_lattice.specs.declared.replica.Replica.{Ghosts}
use Rattle.member_messages.specs.declared.message.Message.{Message}
use Rattle.member_messages.specs.declared.message.Message.TheVariants.{WriteAck, WriteNack}
use Rattle.member_messages.specs.declared.message.Post.{Post}
use Rattle.member_node.specs.declared.reply.Output.{Output}
use Rattle.member_node.specs.declared.reply.Fate.{Fate}
use Rattle.member_node.specs.declared.reply.Fate.TheVariants.{NoStore, Stored, StoreFailed}
use Rattle.member_node.specs.declared.reply.Reply.{Reply}
use Rattle.member_node.specs.declared.reply.Reply.TheVariants as reply

-- the outcomes of a tick are told all the same
abbrev pub failed : Reply → Reply
failed (reply.Ticked outcomes) = reply.TickedStoreFailed outcomes
failed _ = reply.StoreFailed

-- an operation was opened
abbrev pub is_pending : Reply → Bool
is_pending (reply.Pending op) = true
is_pending _ = false

module _ {T Kind Op Delta : Type 0} {ghosts : Ghosts T Kind Op Delta} where
  -- a write is not acknowledged
  abbrev pub refused : Message T Kind Op Delta ghosts → Message T Kind Op Delta ghosts
  refused (WriteAck op) = WriteNack op
  refused message = message

  abbrev pub refused_post : Post T Kind Op Delta ghosts → Post T Kind Op Delta ghosts
  refused_post post = record post { message = refused post.message }

  -- what a failed store makes of an output: an operation that was to be opened asks nobody
  abbrev pub failed_output : Output T Kind Op Delta ghosts → Output T Kind Op Delta ghosts
  failed_output output =
      if is_pending output.reply then record output { reply = reply.StoreFailed; posts = [] } else record output { reply = failed output.reply; posts = map refused_post output.posts }

  abbrev pub after_fate : Fate → Output T Kind Op Delta ghosts → Output T Kind Op Delta ghosts
  after_fate NoStore output = output
  after_fate Stored output = output
  after_fate StoreFailed output = failed_output output
