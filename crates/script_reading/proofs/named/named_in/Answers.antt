use Rattle.std.proofs.Common.{subst, sym, ◌∙◌}
use Rattle.serde_json.proofs.Views.{Entry}
use Rattle.script_reading.proofs.Passes.{AreLeft, none, all_left, passes, all_found}
use Rattle.script_reading.proofs.named.named_in.Goals as goal

pub loop-key-init : goal.loop-key-init
loop-key-init c =
    let value = c.args.value in
    let is = c.into_iter-key-iterator.ensures.into_iter_gives ∙ c.iter-key-items.ensures.rest in
    subst (λ es. AreLeft es value.now (none value)) (sym is) (all_left c.in-Some.map.now.entries value c.iter-key-items.ensures.ordered c.in-Some.ensures)

pub loop-key-preserved : goal.loop-key-preserved
loop-key-preserved c =
    let e : Entry = (c.in-Some-2.key.now, c.in-Some-2.member.now) in
    passes e c.loop-key.key-iterator c.next.new.self c.as_str.result.now c.in-Some-2.ensures.steps c.as_str.ensures.value c.args.value.now c.loop-key.named c.pass-named.result c.pass-named.ensures c.loop-key.invariant

pub returns-clause-found : goal.returns-clause-found
returns-clause-found c = (all_found c.loop-key.key-iterator c.args.value.now c.loop-key.named c.in-None.ensures.steps.0 c.loop-key.invariant).1

pub returns-clause-value : goal.returns-clause-value
returns-clause-value c = c.loop-key.invariant.0
