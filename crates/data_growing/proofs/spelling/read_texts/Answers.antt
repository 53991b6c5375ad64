use Rattle.std.proofs.Common.{None, ap, ◌∙◌, arith}
use Rattle.std.proofs.lemmas.Result.{err_from_is_err_and}
use Rattle.data_growing.specs.Reading.{texts_in}
use Rattle.data_growing.specs.SpellingLaws.{texts_rise}
use Rattle.data_growing.proofs.Loop.{last_of, goes_on, ends, is_done}
use Rattle.data_growing.proofs.spelling.read_texts.Goals as goal

pub returns-in_err-text-clause-read : goal.returns-in_err-text-clause-read
returns-in_err-text-clause-read c =
    let p = err_from_is_err_and c.from_residual.result c.from_residual.ensures.1 in
    rw (p.1, p.2) (ends c.in_err-text.field-0.0 c.loop.texts.items c.args.count c.loop.counter _ c.loop.rest.now (texts_in c.args.count None c.args.bytes.now) c.loop-test.true (c.last.ensures.value ∙ ap last_of c.deref.ensures.value) c.in_err-text.ensures c.loop.invariant)

pub loop-preserved : goal.loop-preserved
loop-preserved c =
    rw c.in_ok-push.ensures.items (goes_on c.loop.texts.items c.args.count c.loop.counter _ c.loop.rest.now c.in_ok-text.text c.in_ok-text.after.now (texts_in c.args.count None c.args.bytes.now) c.loop-test.true (c.last.ensures.value ∙ ap last_of c.deref.ensures.value) c.in_ok-text.ensures c.loop.invariant)

pub returns-clause-read : goal.returns-clause-read
returns-clause-read c = is_done c.loop.texts.items c.args.count c.loop.counter c.loop.rest.now (texts_in c.args.count None c.args.bytes.now) c.loop-test.false c.loop.invariant

pub returns-clause-rising : goal.returns-clause-rising
returns-clause-rising c =
    texts_rise c.args.count c.args.bytes.now c.loop.texts.items c.loop.rest.now (λ i. omega (arith, c.type_inv.bytes i))
    (is_done c.loop.texts.items c.args.count c.loop.counter c.loop.rest.now (texts_in c.args.count None c.args.bytes.now) c.loop-test.false c.loop.invariant)
