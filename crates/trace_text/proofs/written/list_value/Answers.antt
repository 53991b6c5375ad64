use Rattle.serde_json.proofs.Views.{view-Array}
use Rattle.trace_text.proofs.written.list_value.Goals as goal

pub returns : goal.returns
returns c = view-Array c.args.values
