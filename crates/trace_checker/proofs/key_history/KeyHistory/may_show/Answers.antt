use Rattle.std.proofs.Common.{ap₂, ◌∙◌}
use Rattle.std.specs.Str.{bytes_eq}
use Rattle.trace_checker.proofs.ShownTexts.{may_not_show, may_show_by}
use Rattle.trace_checker.proofs.key_history.KeyHistory.may_show.Goals as goal

pub returns-else-some : goal.returns-else-some
returns-else-some c = λ made H told mine_is. may_not_show H _ mine_is c.counts_some-some.result c.counts_some-some.ensures c.args.kind c.args.text.now c.if-some.false

pub returns-in_ok-value : goal.returns-in_ok-value
returns-in_ok-value c = λ made H told mine_is.
    c.eq.ensures
    ∙ ap₂ bytes_eq c.as_bytes.ensures.value c.as_slice.ensures
    ∙ may_show_by H _ mine_is c.counts_some-some.result c.counts_some-some.ensures c.args.kind c.args.text.now c.if-some.true _ (c.in_ok-value.ensures made H told mine_is)
