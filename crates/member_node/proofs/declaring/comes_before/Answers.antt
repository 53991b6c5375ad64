use Rattle.std.proofs.Common.{sym, ◌∙◌}
use Rattle.std.specs.Ordering.{is_lt}
use Rattle.base_bytes.specs.TextOrder.{text_order}
use Rattle.base_bytes.proofs.TextLaws.{lt_is}
use Rattle.member_node.proofs.declaring.comes_before.Goals as goal

pub returns : goal.returns
returns c = c.lt.ensures ∙ (λ i. is_lt (text_order (c.as_str.ensures.value i) (c.as_str-2.ensures.value i))) ∙ sym (lt_is c.args.text.now c.args.other.now)
