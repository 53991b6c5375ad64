use Rattle.std.proofs.Common.{sym, ◌∙◌}
use Rattle.base_bytes.proofs.TextLaws.{lt_is}
use Rattle.base_bytes.proofs.fields.comes_before.Goals as goal

pub returns : goal.returns
returns c = c.lt.ensures ∙ sym (lt_is c.args.text.now c.args.other.now)
