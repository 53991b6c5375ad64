use Rattle.std.proofs.Common.{◌+◌, List, subst, sym, ◌∙◌, inl, inr, arith}
use Rattle.data_orset.specs.Placing.{Placed, nth}
use Rattle.data_orset.proofs.Tables.{nth_at, told}
use Rattle.data_orset.proofs.Others.{IsParting, part_less, part_equal, part_greater, part_end}
use Rattle.data_orset.proofs.elements.others.Goals as goal
use Rattle.data_orset.proofs.elements.others.Goals.{then-loop-here-test+else-there-texts, else-loop-here-test}

pub loop-here-preserved-in-Less : goal.loop-here-preserved-in-Less
loop-here-preserved-in-Less c =
    subst (λ (all : List Placed). IsParting c.args.texts.now c.args.dots.now all (c.loop-here.here + 1) c.loop-here.there) (sym c.in_ok-append-in-Less.ensures)
    (part_less c.args.texts.now c.args.dots.now c.loop-here.all c.loop-here.here c.loop-here.there (nth c.args.dots.now c.loop-here.here) c.index-texts-there.result c.requires.texts c.requires.dots
    (omega (arith, c.loop-here-test.true, c.len.ensures)) c.if-there-texts.true (nth_at c.args.dots.now c.loop-here.here (omega (arith, c.loop-here-test.true, c.len.ensures))) c.index-texts-there.is c.loop-here.invariant
    (told c.as_str.result.now c.as_str-in-loop-here.result.now (nth c.args.dots.now c.loop-here.here).element c.index-texts-there.result _ (c.as_str.ensures.value ∙ c.element.ensures) c.as_str-in-loop-here.ensures.value c.in-Less.ensures))

pub loop-here-preserved-in-Equal : goal.loop-here-preserved-in-Equal
loop-here-preserved-in-Equal c =
    part_equal c.args.texts.now c.args.dots.now c.loop-here.all c.loop-here.here c.loop-here.there (nth c.args.dots.now c.loop-here.here) c.index-texts-there.result c.requires.texts c.requires.dots
    (omega (arith, c.loop-here-test.true, c.len.ensures)) c.if-there-texts.true (nth_at c.args.dots.now c.loop-here.here (omega (arith, c.loop-here-test.true, c.len.ensures))) c.index-texts-there.is c.loop-here.invariant
    (told c.as_str.result.now c.as_str-in-loop-here.result.now (nth c.args.dots.now c.loop-here.here).element c.index-texts-there.result _ (c.as_str.ensures.value ∙ c.element.ensures) c.as_str-in-loop-here.ensures.value c.in-Equal.ensures)

pub loop-here-preserved : goal.loop-here-preserved
loop-here-preserved c =
    part_greater c.args.texts.now c.args.dots.now c.loop-here.all c.loop-here.here c.loop-here.there (nth c.args.dots.now c.loop-here.here) c.index-texts-there.result c.requires.texts c.requires.dots
    (omega (arith, c.loop-here-test.true, c.len.ensures)) c.if-there-texts.true (nth_at c.args.dots.now c.loop-here.here (omega (arith, c.loop-here-test.true, c.len.ensures))) c.index-texts-there.is c.loop-here.invariant
    (told c.as_str.result.now c.as_str-in-loop-here.result.now (nth c.args.dots.now c.loop-here.here).element c.index-texts-there.result _ (c.as_str.ensures.value ∙ c.element.ensures) c.as_str-in-loop-here.ensures.value c.in-Greater.ensures)

pub returns : goal.returns
returns c =
    c.in_ok-append_kept.ensures ∙ part_end c.args.texts.now c.args.dots.now c.loop-here.all c.loop-here.here c.loop-here.there (elim c.loop-here-test.branch [
      | then-loop-here-test+else-there-texts w ↦ inr w.if-there-texts.false
      | else-loop-here-test w ↦ inl (omega (arith, w.loop-here-test.false, c.len.ensures))
    ]) c.loop-here.invariant
