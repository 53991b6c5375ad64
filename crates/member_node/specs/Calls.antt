-- What the calls of a member answer.
--     updated_reply, got_reply, ..        the reply that an answer says
--     told_by        the output that a call answers
use Rattle.std.specs.Prelude.{◌≡◌}
use Rattle.data_lattice.specs.declared.replica.Replica.{Ghosts}
use Rattle.member_node.specs.declared.answers.Answered.{Answered}
use Rattle.member_node.specs.declared.answers.Updated.{Updated}
use Rattle.member_node.specs.declared.answers.Updated.TheVariants as updated
use Rattle.member_node.specs.declared.answers.UpdateRefusal.{UpdateRefusal}
use Rattle.member_node.specs.declared.answers.UpdateRefusal.TheVariants as refusal
use Rattle.member_node.specs.declared.answers.Got.{Got}
use Rattle.member_node.specs.declared.answers.Got.TheVariants as got
use Rattle.member_node.specs.declared.answers.Received.{Received}
use Rattle.member_node.specs.declared.answers.Received.TheVariants as received
use Rattle.member_node.specs.declared.answers.Installed.{Installed}
use Rattle.member_node.specs.declared.answers.Installed.TheVariants as installed
use Rattle.member_node.specs.declared.answers.Gossiped.{Gossiped}
use Rattle.member_node.specs.declared.answers.Gossiped.TheVariants as gossiped
use Rattle.member_node.specs.declared.answers.Pruned.{Pruned}
use Rattle.member_node.specs.declared.answers.Pruned.TheVariants as pruned
use Rattle.member_node.specs.declared.answers.Closed.{Closed}
use Rattle.member_node.specs.declared.answers.Closed.TheVariants as closed
use Rattle.member_node.specs.declared.reply.Output.{Output}
use Rattle.member_node.specs.declared.reply.Reply.{Reply}
use Rattle.member_node.specs.declared.reply.Reply.TheVariants as reply

abbrev pub refused_reply : UpdateRefusal → Reply
refused_reply refusal.UnknownKey = reply.UnknownKey
refused_reply refusal.Deleted = reply.Deleted
refused_reply refusal.WrongKind = reply.WrongKind
refused_reply refusal.TooFew = reply.TooFew
refused_reply (refusal.Overflow share amount) = reply.Overflow share amount
refused_reply refusal.SetFull = reply.SetFull
refused_reply refusal.ClockSpent = reply.ClockSpent

abbrev pub updated_reply : Updated → Reply
updated_reply updated.Done = reply.Done
updated_reply (updated.Pending op) = reply.Pending op
updated_reply updated.NotStored = reply.StoreFailed
updated_reply (updated.Refused why) = refused_reply why

abbrev pub got_reply : Got → Reply
got_reply (got.Value shown) = reply.Value shown
got_reply got.Deleted = reply.Deleted
got_reply got.Nothing = reply.NotFound
got_reply (got.Pending op) = reply.Pending op
got_reply got.UnknownKey = reply.UnknownKey
got_reply got.TooFew = reply.TooFew

abbrev pub received_reply : Received → Reply
received_reply received.Taken = reply.Taken
received_reply received.Already = reply.Already
received_reply (received.Gap i) = reply.Gap i
received_reply received.NotFromMember = reply.NotFromMember
received_reply received.NotStored = reply.StoreFailed

abbrev pub installed_reply : Installed → Reply
installed_reply installed.Installed = reply.Installed
installed_reply installed.OldView = reply.OldView
installed_reply installed.NotStored = reply.StoreFailed

abbrev pub gossiped_reply : Gossiped → Reply
gossiped_reply gossiped.Told = reply.Done
gossiped_reply gossiped.NotAPeer = reply.NotAPeer

abbrev pub pruned_reply : Pruned → Reply
pruned_reply (pruned.Ticked outcomes) = reply.Ticked outcomes
pruned_reply (pruned.NotStored outcomes) = reply.TickedStoreFailed outcomes
pruned_reply (pruned.NotLeader i) = reply.NotLeader i

abbrev pub closed_reply : Closed → Reply
closed_reply closed.Closed = reply.TimedOut
closed_reply closed.NoSuchOp = reply.NoSuchOp

-- the output of the step: its reply is what the answer says
abbrev pub told_by : {T A Kind Op Delta : Type 0} {ghosts : Ghosts T Kind Op Delta} → (A → Reply) → Answered T A Kind Op Delta ghosts → Output T Kind Op Delta ghosts
told_by says answered = record { reply = says answered.answer; posts = answered.posts; finished = answered.finished }
