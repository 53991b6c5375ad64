use Rattle.std.proofs.Common.{sym, ap, ◌∙◌}
use Rattle.serde_json.proofs.Views.{members_len-members_view}
use Rattle.script_reading.specs.Fields.{name_count}
use Rattle.trace_text.proofs.fields.name_count.Goals as goal

pub returns-in-Some : goal.returns-in-Some
returns-in-Some c = c.len.ensures.len ∙ sym (members_len-members_view c.in-Some.map.now.entries) ∙ ap name_count c.in-Some.ensures
