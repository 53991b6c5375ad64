-- The lines that a member writes.
use Rattle.std.specs.Prelude.{◌++◌, codes, decimal, flat_map}
use Rattle.model_history.specs.Texts.{Text}
use Rattle.model_members.specs.Report.{line_of, reply_text}
use Rattle.model_kinds.specs.ShownText.{shown_text}
use Rattle.hex.specs.Hex.{encode_lower}
use Rattle.data_lattice.specs.declared.replica.Replica.{Ghosts}
use Rattle.data_lattice.specs.declared.spelled.SpelledData.{Ghosts as Spelling}
use Rattle.data_delta_codec.specs.declared.spelled_delta.SpelledDelta.{Ghosts as DeltaSpelling}
use Rattle.member_messages.specs.declared.message.Post.{Post}
use Rattle.member_codec.specs.Messages.{message_parts, message_bytes}
use Rattle.member_node.specs.declared.reply.Output.{Output}
use Rattle.member_node.specs.Replies.{meant}
use Rattle.report_replies.specs.Replies.{finished_text}
use Rattle.top_lines.specs.declared.refusal.Refusal.{Refusal}
use Rattle.top_lines.specs.declared.refusal.Refusal.TheVariants.{NotJson, NotAStep, NotOfAMember, OfAnother, NoSender, NotHex, NotAMessage, NotAccepted, NotAView}

-- why a line asks for nothing
abbrev pub refusal_text : Refusal → Text
refusal_text NotJson = codes "no json"
refusal_text (NotAStep rule) = codes "no step: rule " ++ decimal rule
refusal_text NotOfAMember = codes "no step of a member"
refusal_text OfAnother = codes "a step of another member"
refusal_text NoSender = codes "no sender"
refusal_text NotHex = codes "no hexadecimal digits"
refusal_text (NotAMessage place) = codes "no message: place " ++ decimal place
refusal_text NotAccepted = codes "not accepted"
refusal_text (NotAView place) = codes "no view: place " ++ decimal place

abbrev pub refusal_line : Refusal → Text
refusal_line refusal = line_of (codes "refused " ++ refusal_text refusal)

-- a full member makes no step
abbrev pub full_line : Text
full_line = line_of (codes "history full")

module _ {T Kind Op Delta : Type 0} (ghosts : Ghosts T Kind Op Delta) (spelling : Spelling T Kind Op Delta) (deltas : DeltaSpelling T Kind Op Delta) where
  -- a message that is to be sent: to whom, and the digits of its spelling
  abbrev pub post_line : Post T Kind Op Delta ghosts → Text
  post_line post = line_of (codes "to " ++ decimal post.to ++ codes " " ++ encode_lower (message_bytes ghosts spelling deltas (message_parts post.message)))

  -- the reply, and the operation that ended by the step
  abbrev pub reply_line : Output T Kind Op Delta ghosts → Text
  reply_line output = line_of (reply_text shown_text (meant output.reply) ++ finished_text output.finished)

  -- the messages in their order, and then the reply
  abbrev pub output_text : Output T Kind Op Delta ghosts → Text
  output_text output = flat_map post_line output.posts ++ reply_line output
