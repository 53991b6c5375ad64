use Rattle.std.proofs.Common.{ap, sym, subst, ◌∙◌, true, not, ◌&&◌}
use Rattle.std.specs.Prelude.{◌==◌, nat_lt}
use Rattle.model_kinds.specs.SixKinds.{six_kinds}
use Rattle.model_kinds.specs.ShownText.{shown_text}
use Rattle.base_vectors.specs.Vectors.{number_at}
use Rattle.base_vectors.proofs.Laws.{number_at_above}
use Rattle.model_traces.specs.Traces.{broken_by}
use Rattle.trace_lines.specs.Meant.{act_meant}
use Rattle.trace_lines.specs.WellFormed.{IsAct}
use Rattle.trace_checker.specs.Rows.{vector_of}
use Rattle.trace_checker.specs.Holds.{first_broken}
use Rattle.trace_checker.specs.Prunes.{has_prune, are_exact, has_delete}
use Rattle.trace_checker.proofs.LeastRules.{operation_breaks, prune_breaks, hold_breaks, show_breaks}
use Rattle.trace_checker.proofs.key_history.KeyHistory.broken_by.Goals as goal

pub returns-in-Record : goal.returns-in-Record
returns-in-Record c = λ made held stands kept.
    let mine_is = ap number_at (c.in_ok-mine.ensures ∙ ap (λ hs. vector_of hs c.args.at) c.as_slice.ensures.value) ∙ stands.vectors c.args.at in
    let deletes = ap (λ ds. has_delete ds (number_at c.in_ok-mine.mine)) c.as_slice-in-Record.ensures in
    let prunes = ap (λ ps. has_prune ps (number_at c.in_ok-mine.mine) c.args.at) c.as_slice-in-Record-2.ensures in
    c.first_broken.ensures ∙ ap (λ m. first_broken m true (not c.has_prune-exact.result) true) (c.may_record-may.ensures ∙ ap (λ b. six_kinds.fits c.args.kind c.in-Record.op && not b) deletes)
    ∙ ap (λ x. first_broken (six_kinds.fits c.args.kind c.in-Record.op && not (has_delete c.args.self.now.deletes (number_at c.in_ok-mine.mine))) true (not x) true) (c.has_prune-exact.ensures ∙ prunes)
    ∙ operation_breaks c.args.self.now.prunes c.args.self.now.deletes made (held c.args.at) stands.prunes stands.deletes kept.history (kept.taken c.args.at).part (kept.exact c.args.at) c.args.kind c.args.at c.requires.member (number_at c.in_ok-mine.mine) mine_is c.in-Record.op
    ∙ ap (λ a. broken_by six_kinds shown_text c.args.kind made c.args.at (held c.args.at) (act_meant a)) (sym c.in-Record.is)

pub returns-in-Prune : goal.returns-in-Prune
returns-in-Prune c = λ made held stands kept.
    let mine_is = ap number_at (c.in_ok-mine.ensures ∙ ap (λ hs. vector_of hs c.args.at) c.as_slice.ensures.value) ∙ stands.vectors c.args.at in
    let prunes = ap (λ ps. has_prune ps (number_at c.in_ok-mine.mine) c.args.at) c.as_slice-in-Prune-2.ensures in
    c.first_broken-in-Prune.ensures ∙ ap (λ m. first_broken m true (not c.has_prune-exact-in-Prune.result) true) (c.may_prune-may.ensures ∙ ap (λ ps. not (c.in-Prune.removed == c.args.at) && nat_lt 0 (number_at c.in_ok-mine.mine c.in-Prune.removed) && not (has_prune ps (number_at c.in_ok-mine.mine) c.in-Prune.removed)) c.as_slice-in-Prune.ensures)
    ∙ ap (λ x. first_broken (not (c.in-Prune.removed == c.args.at) && nat_lt 0 (number_at c.in_ok-mine.mine c.in-Prune.removed) && not (has_prune c.args.self.now.prunes (number_at c.in_ok-mine.mine) c.in-Prune.removed)) true (not x) true) (c.has_prune-exact-in-Prune.ensures ∙ prunes)
    ∙ prune_breaks c.args.self.now.prunes c.args.self.now.deletes made (held c.args.at) stands.prunes stands.deletes kept.history (kept.taken c.args.at).part (kept.exact c.args.at) c.args.kind c.args.at c.requires.member (number_at c.in_ok-mine.mine) mine_is c.in-Prune.removed
    ∙ ap (λ a. broken_by six_kinds shown_text c.args.kind made c.args.at (held c.args.at) (act_meant a)) (sym c.in-Prune.is)

pub returns-in-Hold : goal.returns-in-Hold
returns-in-Hold c = λ made held stands kept.
    let mine_is = ap number_at (c.in_ok-mine.ensures ∙ ap (λ hs. vector_of hs c.args.at) c.as_slice.ensures.value) ∙ stands.vectors c.args.at in
    let normal = subst IsAct c.in-Hold.is c.requires.act in
    c.first_broken-in-Hold.ensures ∙ ap (λ x. first_broken true c.may_hold-may.result x true) (c.are_exact-exact.ensures ∙ ap (λ ps. are_exact ps (number_at c.in-Hold.known)) c.as_slice-in-Hold.ensures)
    ∙ hold_breaks c.args.self.now.prunes c.args.self.now.deletes made (held c.args.at) stands.prunes stands.deletes kept.history (kept.taken c.args.at).part (kept.exact c.args.at) c.args.kind c.args.at c.requires.member (number_at c.in_ok-mine.mine) mine_is
    (number_at c.in-Hold.known) c.may_hold-may.result (number_at_above c.in-Hold.known normal.0) (c.may_hold-may.ensures made (held c.args.at) stands.rows kept.history (kept.taken c.args.at) mine_is)
    ∙ ap (λ a. broken_by six_kinds shown_text c.args.kind made c.args.at (held c.args.at) (act_meant a)) (sym c.in-Hold.is)

pub returns : goal.returns
returns c = λ made held stands kept.
    let mine_is = ap number_at (c.in_ok-mine.ensures ∙ ap (λ hs. vector_of hs c.args.at) c.as_slice.ensures.value) ∙ stands.vectors c.args.at in
    c.first_broken-in-Show.ensures
    ∙ show_breaks c.args.self.now.prunes c.args.self.now.deletes made (held c.args.at) stands.prunes stands.deletes kept.history (kept.taken c.args.at).part (kept.exact c.args.at) c.args.kind c.args.at c.requires.member (number_at c.in_ok-mine.mine) mine_is
    c.in-Show.text c.in_ok-may-in-Show.may (c.in_ok-may-in-Show.ensures made (held c.args.at) (record { rows = stands.rows; deletes = stands.deletes; values = stands.values; history = kept.history; taken = kept.taken c.args.at }) mine_is)
    ∙ ap (λ a. broken_by six_kinds shown_text c.args.kind made c.args.at (held c.args.at) (act_meant a)) (sym c.in-Show.is)
