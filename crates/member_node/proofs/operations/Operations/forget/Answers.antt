use Rattle.std.proofs.Common.{◌≡◌, ◌+◌, ◌-◌, min, ap, sym, ◌∙◌, arith, length, replicate, ◌++◌, take, drop}
use Rattle.member_node.specs.declared.operation.Operation.TheVariants.{TimedOut}
use Rattle.member_node.specs.Ended.{ended_first}
use Rattle.member_node.proofs.Forgetting.{ended-length, ended-known, left-cut, left-known}
use Rattle.member_node.proofs.operations.Operations.forget.Goals as goal

pub rotate_left-requires : goal.rotate_left-requires
rotate_left-requires c =
    let ended = c.ended_within-ended.ensures in
    let long = ended-length c.deref.result.now in
    let same = c.deref.ensures.len in
    omega arith

pub overflow_sub-left : goal.overflow_sub-left
overflow_sub-left c =
    let ended = c.ended_within-ended.ensures in
    let long = ended-length c.deref.result.now in
    let same = c.deref.ensures.len in
    let turned = c.rotate_left.ensures.len in
    let all = c.len.ensures in
    omega arith

pub returns-clause-forgotten : goal.returns-clause-forgotten
returns-clause-forgotten c =
    let old = c.args.self.now in
    let ended : c.ended_within-ended.result ≡ min (c.args.before - old.forgotten) (ended_first old.kept.items) =
    c.ended_within-ended.ensures ∙ ap (λ m. min m (ended_first c.deref.result.now)) c.saturating_sub-most.ensures ∙ ap (λ os. min (c.args.before - old.forgotten) (ended_first os)) c.deref.ensures.value in
    let all = ended-known old.forgotten old.kept.items in
    omega arith

pub returns-clause-known : goal.returns-clause-known
returns-clause-known c =
    let old = c.args.self.now in
    let ended = c.ended_within-ended.result in
    let long : c.len.result ≡ length old.kept.items = c.len.ensures ∙ c.rotate_left.ensures.len ∙ old.kept.ok.0 in
    let left : c.truncate.new.self.items ≡ drop ended old.kept.items =
    c.truncate.ensures.items ∙ ap (λ n. take (n - ended) c.rotate_left.new.self.items) long ∙ ap (take (length old.kept.items - ended)) c.rotate_left.ensures.items ∙ left-cut old.kept.items ended in
    ap (λ xs. replicate (old.forgotten + ended) TimedOut ++ xs) (left ∙ sym (left-known old.forgotten ended old.kept.items))
