-- What a report tells behind a space: an outcome of a tick, and an operation that ended.
use Rattle.std.specs.Prelude.{[], ◌++◌, codes, decimal, Option, None, Some}
use Rattle.model_history.specs.Texts.{Text}
use Rattle.model_members.specs.Report.{result_text, key_outcome_text}
use Rattle.model_kinds.specs.ShownText.{shown_text}
use Rattle.member_node.specs.declared.operation.Finished.{Finished}
use Rattle.member_node.specs.declared.outcome.KeyOutcome.{KeyOutcome}
use Rattle.member_node.specs.Operations.{result_meant}
use Rattle.member_node.specs.Replies.{meant_at_key}

-- an outcome of a tick, after a space
abbrev pub outcome_text : KeyOutcome → Text
outcome_text told = codes " " ++ key_outcome_text (meant_at_key told)

-- the operation that ended, if one did, and its result
abbrev pub finished_text : Option Finished → Text
finished_text None = []
finished_text (Some finished) = codes " finished " ++ decimal finished.op ++ codes " " ++ result_text shown_text (result_meant finished.result)
