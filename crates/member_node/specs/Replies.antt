-- What replies and fates of the program mean, and the data type that its members follow.
use Rattle.std.specs.Prelude.{ℕ, List, map}
use Rattle.model_history.specs.History.{History}
use Rattle.model_meanings.specs.Refusal.{Refusal}
use Rattle.model_members.specs.Entry.{Entry, Outcome as Told}
use Rattle.model_members.specs.DataType.{DataType, Replication}
use Rattle.model_members.specs.Node as nodes
use Rattle.model_members.specs.Node.{Reply as Meant}
use Rattle.model_kinds.specs.declared.shown.Shown.{Shown}
use Rattle.data_codec.specs.Entries.{entry_digest}
use Rattle.data_deltalog.specs.Answers.{most_kept}
use Rattle.member_node.specs.declared.outcome.Outcome.{Outcome}
use Rattle.member_node.specs.declared.outcome.Outcome.TheVariants as outcome
use Rattle.member_node.specs.declared.outcome.KeyOutcome.{KeyOutcome}
use Rattle.member_node.specs.declared.reply.Reply.{Reply}
use Rattle.member_node.specs.declared.reply.Reply.TheVariants as reply
use Rattle.member_node.specs.declared.reply.Fate.{Fate}
use Rattle.member_node.specs.declared.reply.Fate.TheVariants as fate

-- how many steps a member of the program makes at most
abbrev pub program_steps : ℕ
program_steps = 16384

-- a data type whose own records go as delta groups, of which a member keeps the last ones
abbrev pub delta_groups : {Kind Op : Type 0} → DataType Kind Op Shown → (Kind → Entry Op → List ℕ) → Replication Kind Op Shown
delta_groups data_type digest = record { data_type = data_type; digest = digest; log_length = most_kept; most_steps = program_steps }

-- and whose digests are those of the entries' spellings
abbrev pub spelled_groups : {Kind Op : Type 0} → DataType Kind Op Shown → (Kind → History Op → ℕ) → (Kind → History Op → List ℕ) → Replication Kind Op Shown
spelled_groups data_type history_byte history_spelled = delta_groups data_type (entry_digest history_byte history_spelled)

abbrev pub meant_outcome : Outcome → Told
meant_outcome outcome.Marked = Told.Marked
meant_outcome outcome.Performed = Told.Performed
meant_outcome (outcome.Waiting i) = Told.WaitingFor i
meant_outcome (outcome.Blocked owner_share removed_share) = Told.Blocked (record { owner = owner_share; removed = removed_share })
meant_outcome outcome.Newer = Told.Newer

abbrev pub meant_at_key : KeyOutcome → nodes.KeyOutcome
meant_at_key told = record { key = told.key; removed = told.removed; outcome = meant_outcome told.outcome }

abbrev pub meant : Reply → Meant Shown
meant reply.Done = Meant.Done
meant (reply.Pending op) = Meant.Pending op
meant (reply.Value shown) = Meant.Value shown
meant reply.Deleted = Meant.Deleted
meant reply.NotFound = Meant.NotFound
meant reply.UnknownKey = Meant.UnknownKey
meant reply.WrongKind = Meant.WrongKind
meant reply.TooFew = Meant.TooFew
meant (reply.Overflow share amount) = Meant.Refused (Refusal.Overflow share amount)
meant reply.ClockSpent = Meant.Refused Refusal.ClockSpent
meant reply.SetFull = Meant.Refused Refusal.SetFull
meant reply.StoreFailed = Meant.NotStored
meant reply.Taken = Meant.Taken
meant reply.Already = Meant.Already
meant (reply.Gap i) = Meant.Gap i
meant reply.NotFromMember = Meant.NotFromMember
meant reply.Installed = Meant.Installed
meant reply.OldView = Meant.OldView
meant reply.NotAPeer = Meant.NotAPeer
meant (reply.Ticked outcomes) = Meant.Ticked (map meant_at_key outcomes)
meant (reply.TickedStoreFailed outcomes) = Meant.TickedNotStored (map meant_at_key outcomes)
meant (reply.NotLeader i) = Meant.NotLeader i
meant reply.TimedOut = Meant.TimedOut
meant reply.NoSuchOp = Meant.NoSuchOp

abbrev pub meant_fate : Fate → nodes.Fate
meant_fate fate.NoStore = nodes.Fate.NoStore
meant_fate fate.Stored = nodes.Fate.Stored
meant_fate fate.StoreFailed = nodes.Fate.StoreFailed
