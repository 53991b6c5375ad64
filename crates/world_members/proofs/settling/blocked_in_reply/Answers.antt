use Rattle.std.proofs.Common.{◌∙◌, List, ap, sym, length}
use Rattle.std.specs.Prelude.{filter}
use Rattle.model_members.specs.Script.{is_blocked}
use Rattle.member_node.specs.declared.outcome.KeyOutcome.{KeyOutcome}
use Rattle.member_node.specs.declared.reply.Reply.{Reply}
use Rattle.member_node.specs.Replies.{meant_outcome}
use Rattle.world_members.specs.declared.event.Answer.TheVariants as answer
use Rattle.world_members.specs.Settling.{blocked_in}
use Rattle.world_members.proofs.SettleParts.{blocked_alike}
use Rattle.world_members.proofs.settling.blocked_in_reply.Goals as goal

pub returns-in-Ticked : goal.returns-in-Ticked
returns-in-Ticked c =
    c.blocked_among.ensures ∙ ap (λ (told : List KeyOutcome). length (filter (λ (told : KeyOutcome). is_blocked (meant_outcome told.outcome)) told)) c.as_slice.ensures ∙ blocked_alike c.in-Ticked.outcomes
    ∙ sym (ap (λ (reply : Reply). blocked_in (answer.Reply reply)) c.in-Ticked.is)

pub returns-in-TickedStoreFailed : goal.returns-in-TickedStoreFailed
returns-in-TickedStoreFailed c =
    c.blocked_among-in-TickedStoreFailed.ensures ∙ ap (λ (told : List KeyOutcome). length (filter (λ (told : KeyOutcome). is_blocked (meant_outcome told.outcome)) told)) c.as_slice-in-TickedStoreFailed.ensures ∙ blocked_alike c.in-TickedStoreFailed.outcomes
    ∙ sym (ap (λ (reply : Reply). blocked_in (answer.Reply reply)) c.in-TickedStoreFailed.is)
