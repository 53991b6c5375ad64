use Rattle.std.proofs.Common.{◌≡◌, ◌++◌, ◌∷◌, [], List, ◌∙◌, ap, sym, append_assoc}
use Rattle.std.proofs.lemmas.List.{append-nil}
use Rattle.std.proofs.lemmas.Iterator.Adapters.{YieldsList-from_vec}
use Rattle.std.proofs.lemmas.Iterator.Consumers.{YieldsList-end}
use Rattle.world_members.specs.declared.client_line.ClientLine.{ClientLine}
use Rattle.thread_clients.proofs.Beside.{all_yielded}
use Rattle.thread_section.specs.Lines.{all_lines}
use Rattle.thread_section.proofs.lines.joined.Goals as goal

lines_more : (xs : List (List ClientLine)) (x : List ClientLine) → all_lines (xs ++ x ∷ []) ≡ all_lines xs ++ x
lines_more [] x = append-nil x
lines_more (y ∷ xs) x = ap (λ ls. y ++ ls) (lines_more xs x) ∙ sym (append_assoc y (all_lines xs) x)

pub loop-one-init : goal.loop-one-init
loop-one-init c = c.reserve.ensures.items ∙ c.new-all.ensures.items

pub loop-one-preserved : goal.loop-one-preserved
loop-one-preserved c =
    c.in_ok-append.ensures ∙ ap (λ ls. c.loop-one.all.items ++ ls) c.into_vec.ensures ∙ ap (λ all. all ++ c.in-Some.one) c.loop-one.invariant ∙ sym (lines_more c.loop-one.yielded c.in-Some.one)

pub returns : goal.returns
returns c =
    let items = c.args.lines.items in
    let ends = YieldsList-end (YieldsList-from_vec items c.into_iter-one-iterator.ensures.into_iter_gives.0 (c.into_iter-one-iterator.ensures.into_iter_gives.1 ∙ c.args.lines.ok.0)) c.loop-one.yielded c.loop-one.one-iterator c.loop-one.yielded_by c.next.result c.next.new.self c.in-None.is c.next.ensures.steps in
    let whole : c.loop-one.yielded ≡ items = all_yielded c.loop-one.yielded items ends.0 in
    c.from_vec.ensures ∙ c.loop-one.invariant ∙ ap all_lines whole
