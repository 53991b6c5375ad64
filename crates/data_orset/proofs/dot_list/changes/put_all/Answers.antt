use Rattle.std.proofs.Common.{◌+◌, ◌-◌, ◌≤◌, List, length, true, sym, subst, ◌∙◌, arith, ◌^◌}
use Rattle.std.proofs.lemmas.List.{take_all}
use Rattle.base_vectors.specs.declared.id.Dot.{Dot}
use Rattle.data_orset.specs.Placing.{Placed, AreDots}
use Rattle.data_orset.specs.Keeping.{AreMerged}
use Rattle.data_orset.specs.Spots.{dots_in}
use Rattle.data_orset.proofs.Uniting.{unite_start, united_more, united_same, numbered_at}
use Rattle.data_orset.proofs.dot_list.changes.put_all.Goals as goal
use Rattle.data_orset.proofs.dot_list.changes.put_all.Goals.{then-keeps+in_ok-put, else-keeps}

pub returns-in_err-reserve-clause-fits : goal.returns-in_err-reserve-clause-fits
returns-in_err-reserve-clause-fits g c = λ room. absurd (omega (arith, room.0, c.in_err-reserve.ensures.full, c.len.ensures))

pub returns-in_err-reserve-2-clause-fits : goal.returns-in_err-reserve-2-clause-fits
returns-in_err-reserve-2-clause-fits g c = λ room. absurd (omega (arith, room.1, c.in_err-reserve-2.ensures.full, c.len-2.ensures))

pub loop-index-init : goal.loop-index-init
loop-index-init g c = rw (c.in_ok-reserve.ensures.items, c.in_ok-reserve-2.ensures.items) (record {
  spots = c.requires.spots;
  united = unite_start (g.R.Rule.keeps c.args.rule.now) (dots_in c.args.texts.now.items c.args.spots.now.items) c.requires.mine;
  room = (omega (arith, c.in_ok-reserve.ensures.ok, c.len.ensures), omega (arith, c.in_ok-reserve-2.ensures.ok, c.len-2.ensures));
})

pub put-requires-clause-seq : goal.put-requires-clause-seq
put-requires-clause-seq g c =
    subst (λ (d : Dot). (1 ≤ d.seq) × (d.seq ≤ 2 ^ 62)) (sym c.dot.ensures) (numbered_at c.args.dots.now c.loop-index.index c.requires.theirs (omega (arith, c.loop-index-test.true, c.len-index-end.ensures)))

pub returns-in_err-put-clause-dots : goal.returns-in_err-put-clause-dots
returns-in_err-put-clause-dots g c = subst AreDots (sym c.in_err-put.ensures.err) c.loop-index.invariant.united.dots

pub returns-in_err-put-clause-err : goal.returns-in_err-put-clause-err
returns-in_err-put-clause-err g c =
    let never = (c.in_err-put.ensures.fits (length c.args.dots.now - (c.loop-index.index + 1))
    (omega (arith, c.loop-index.invariant.room.0, c.loop-index-test.true, c.len-index-end.ensures), omega (arith, c.loop-index.invariant.room.1, c.loop-index-test.true, c.len-index-end.ensures))).0 in
    absurd (cc never)

pub returns-in_err-put-clause-fits : goal.returns-in_err-put-clause-fits
returns-in_err-put-clause-fits g c = λ _.
    let never = (c.in_err-put.ensures.fits (length c.args.dots.now - (c.loop-index.index + 1))
    (omega (arith, c.loop-index.invariant.room.0, c.loop-index-test.true, c.len-index-end.ensures), omega (arith, c.loop-index.invariant.room.1, c.loop-index-test.true, c.len-index-end.ensures))).0 in
    absurd (cc never)

pub loop-index-preserved : goal.loop-index-preserved
loop-index-preserved g c = elim c.if-keeps.branch [
  | then-keeps+in_ok-put w ↦
      let room = w.in_ok-put.ensures.fits (length c.args.dots.now - (c.loop-index.index + 1))
      (omega (arith, c.loop-index.invariant.room.0, c.loop-index-test.true, c.len-index-end.ensures), omega (arith, c.loop-index.invariant.room.1, c.loop-index-test.true, c.len-index-end.ensures)) in
      rw (w.texts-is, w.spots-is) (record {
        spots = w.in_ok-put.ensures.spots;
        united = united_more (g.R.Rule.keeps c.args.rule.now) (dots_in c.args.texts.now.items c.args.spots.now.items) c.args.dots.now (dots_in c.loop-index.texts.items c.loop-index.spots.items) c.loop-index.index
            (omega (arith, c.loop-index-test.true, c.len-index-end.ensures)) _ w.dot.result w.element.result.now (sym c.keeps.ensures ∙ w.if-keeps.true) w.dot.ensures w.element.ensures c.loop-index.invariant.united w.in_ok-put.ensures.ok;
        room = room.1;
      })
  | else-keeps w ↦ rw (w.texts-is, w.spots-is) (record {
    spots = c.loop-index.invariant.spots;
    united = united_same (g.R.Rule.keeps c.args.rule.now) (dots_in c.args.texts.now.items c.args.spots.now.items) c.args.dots.now (dots_in c.loop-index.texts.items c.loop-index.spots.items) c.loop-index.index
        (omega (arith, c.loop-index-test.true, c.len-index-end.ensures)) (sym c.keeps.ensures ∙ w.if-keeps.false) c.loop-index.invariant.united;
    room = (omega (arith, c.loop-index.invariant.room.0), omega (arith, c.loop-index.invariant.room.1));
  })
]

pub returns-clause-dots : goal.returns-clause-dots
returns-clause-dots g c = c.loop-index.invariant.united.dots

pub returns-clause-ok : goal.returns-clause-ok
returns-clause-ok g c =
    subst (λ (ps : List Placed). AreMerged true (λ _. true) (g.R.Rule.keeps c.args.rule.now) (dots_in c.args.texts.now.items c.args.spots.now.items) ps (dots_in c.loop-index.texts.items c.loop-index.spots.items))
    (take_all c.loop-index.index c.args.dots.now (omega (arith, c.loop-index-test.false, c.len-index-end.ensures))) c.loop-index.invariant.united
