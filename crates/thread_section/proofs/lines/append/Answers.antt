use Rattle.std.proofs.Common.{◌≡◌, ◌++◌, ◌∷◌, [], ◌∙◌, ap, sym, append_assoc, arith}
use Rattle.std.proofs.lemmas.List.{append-nil}
use Rattle.std.proofs.lemmas.Iterator.Adapters.{YieldsList-from_vec}
use Rattle.std.proofs.lemmas.Iterator.Consumers.{YieldsList-end}
use Rattle.thread_clients.proofs.Beside.{all_yielded}
use Rattle.thread_section.proofs.lines.append.Goals as goal

pub loop-line-init : goal.loop-line-init
loop-line-init c = record {
  items = c.reserve.ensures.items ∙ sym (append-nil c.args.all.now.items);
  room = let r = c.in_ok-reserve.ensures.ok in let n = c.into_iter-line-iterator.ensures.into_iter_gives.1 in let k = c.len.ensures in omega arith;
}

pub push_reserved-requires : goal.push_reserved-requires
push_reserved-requires c = let r = c.loop-line.invariant.room in let s = c.in-Some.ensures.steps.1 in omega arith

pub loop-line-preserved : goal.loop-line-preserved
loop-line-preserved c = record {
  items = c.push_reserved.ensures.items ∙ ap (λ all. all ++ c.in-Some.line ∷ []) c.loop-line.invariant.items ∙ append_assoc c.args.all.now.items c.loop-line.yielded (c.in-Some.line ∷ []);
  room = let l = c.push_reserved.ensures.len in let k = c.push_reserved.ensures.capacity in let r = c.loop-line.invariant.room in let s = c.in-Some.ensures.steps.1 in omega arith;
}

pub returns : goal.returns
returns c =
    let items = c.args.lines.items in
    let ends = YieldsList-end (YieldsList-from_vec items c.into_iter-line-iterator.ensures.into_iter_gives.0 (c.into_iter-line-iterator.ensures.into_iter_gives.1 ∙ c.args.lines.ok.0)) c.loop-line.yielded c.loop-line.line-iterator c.loop-line.yielded_by c.next.result c.next.new.self c.in-None.is c.next.ensures.steps in
    let whole : c.loop-line.yielded ≡ items = all_yielded c.loop-line.yielded items ends.0 in
    c.loop-line.invariant.items ∙ ap (λ ls. c.args.all.now.items ++ ls) whole
