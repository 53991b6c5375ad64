use Rattle.std.proofs.Common.{◌++◌, List, take, sym, ap, subst, ◌∙◌, arith}
use Rattle.std.proofs.lemmas.List.{take_all}
use Rattle.model_history.specs.Texts.{Text, text_set}
use Rattle.base_bytes.specs.TextOrder.{IsRising}
use Rattle.data_growing.proofs.Merging.{rising_of_set, no_more, one_more}
use Rattle.data_growing.proofs.elements.put_all.Goals as goal

pub loop-text-init : goal.loop-text-init
loop-text-init c = (c.in_ok-reserve.ensures.items ∙ no_more c.args.texts.now.items c.requires, omega (arith, c.in_ok-reserve.ensures.ok, c.in_ok-reserve.ensures.len))

pub returns-in_err-reserve-clause-rising : goal.returns-in_err-reserve-clause-rising
returns-in_err-reserve-clause-rising c = subst IsRising (sym c.in_err-reserve.ensures.items) c.requires

pub put-requires : goal.put-requires
put-requires c = rising_of_set c.loop-text.texts.items (c.args.texts.now.items ++ take c.loop-text.text-index c.args.others.now) c.loop-text.invariant.0

pub loop-text-preserved : goal.loop-text-preserved
loop-text-preserved c = (
  c.in_ok-put.ensures.ok ∙ one_more c.args.texts.now.items c.args.others.now c.loop-text.texts.items c.text-item.result c.loop-text.text-index c.loop-text-test.true c.text-item.is c.loop-text.invariant.0,
  omega (arith, c.in_ok-put.ensures.grown.0, c.in_ok-put.ensures.grown.1, c.loop-text.invariant.1),
)

pub returns-clause-rising : goal.returns-clause-rising
returns-clause-rising c = rising_of_set c.loop-text.texts.items (c.args.texts.now.items ++ take c.loop-text.text-index c.args.others.now) c.loop-text.invariant.0

pub returns-in_err-put-clause-rising : goal.returns-in_err-put-clause-rising
returns-in_err-put-clause-rising c = absurd (cc (c.in_err-put.ensures.fits (omega (arith, c.loop-text.invariant.1, c.loop-text-test.true))))

pub returns-in_err-put-clause-err : goal.returns-in_err-put-clause-err
returns-in_err-put-clause-err c = absurd (cc (c.in_err-put.ensures.fits (omega (arith, c.loop-text.invariant.1, c.loop-text-test.true))))

pub returns-clause-ok : goal.returns-clause-ok
returns-clause-ok c =
    c.loop-text.invariant.0 ∙ ap (λ (ts : List Text). text_set (c.args.texts.now.items ++ ts)) (take_all c.loop-text.text-index c.args.others.now c.loop-text-test.false)
