use Rattle.std.proofs.Common.{sym, ◌∙◌, arith}
use Rattle.data_orset.specs.Spots.{dots_in}
use Rattle.data_orset.proofs.Uniting.{left_start, left_more, left_same}
use Rattle.data_orset.proofs.dot_list.changes.take_out_all.Goals as goal
use Rattle.data_orset.proofs.dot_list.changes.take_out_all.Goals.{then-not-keeps, else-not-keeps}

pub loop-index-init : goal.loop-index-init
loop-index-init g c = record { spots = c.requires.spots; left = left_start (g.R.Rule.keeps c.args.rule.now) (dots_in c.args.texts.now.items c.args.spots.now.items) c.requires.mine }

pub loop-index-preserved : goal.loop-index-preserved
loop-index-preserved g c = elim c.if-not-keeps.branch [
  | then-not-keeps w ↦ rw (w.texts-is, w.spots-is) (record {
    spots = w.take_out.ensures.spots;
    left = left_more (g.R.Rule.keeps c.args.rule.now) (dots_in c.args.texts.now.items c.args.spots.now.items) c.args.dots.now (dots_in c.loop-index.texts.items c.loop-index.spots.items) c.loop-index.index
        (omega (arith, c.loop-index-test.true, c.len-index-end.ensures)) _ w.dot.result w.element.result.now (sym c.keeps.ensures ∙ w.if-not-keeps.true) w.dot.ensures w.element.ensures c.loop-index.invariant.left w.take_out.ensures.left;
  })
  | else-not-keeps w ↦ rw (w.texts-is, w.spots-is) (record {
    spots = c.loop-index.invariant.spots;
    left = left_same (g.R.Rule.keeps c.args.rule.now) (dots_in c.args.texts.now.items c.args.spots.now.items) c.args.dots.now (dots_in c.loop-index.texts.items c.loop-index.spots.items) c.loop-index.index
        (omega (arith, c.loop-index-test.true, c.len-index-end.ensures)) (sym c.keeps.ensures ∙ w.if-not-keeps.false) c.loop-index.invariant.left;
  })
]
