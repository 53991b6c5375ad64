use Rattle.std.proofs.Common.{sym}
use Rattle.serde_json.proofs.Views.{items_len-items_view}
use Rattle.trace_text.proofs.fields.item_count.Goals as goal

pub returns-clause-value : goal.returns-clause-value
returns-clause-value c = sym (items_len-items_view c.args.list.now)
