use Rattle.std.proofs.Common.{set, ap, ◌∙◌}
use Rattle.std.proofs.lemmas.List.{set-get_or}
use Rattle.member_node.proofs.keeping.keep_all.Goals as goal

pub returns-in_err-keep_if_any : goal.returns-in_err-keep_if_any
returns-in_err-keep_if_any g c =
    ap (set c.loop-state.keys c.loop-state.state-index) c.keep_if_any.ensures
    ∙ set-get_or c.loop-state.keys c.loop-state.state-index c.state-item.result ∙ c.loop-state.invariant

pub loop-state-preserved : goal.loop-state-preserved
loop-state-preserved g c =
    ap (set c.loop-state.keys c.loop-state.state-index) c.keep_if_any.ensures
    ∙ set-get_or c.loop-state.keys c.loop-state.state-index c.state-item.result ∙ c.loop-state.invariant
