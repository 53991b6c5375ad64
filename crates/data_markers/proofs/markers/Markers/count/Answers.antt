use Rattle.std.proofs.Common.{◌≡◌, Some, None, ap, sym, ◌∙◌, length, arith}
use Rattle.data_markers.specs.Marks.{mark_of}
use Rattle.data_markers.proofs.SpellingLoops.{pieces_few, pieces_all, counts_more, counts_same}
use Rattle.data_markers.proofs.markers.Markers.count.Goals as goal
use Rattle.data_markers.proofs.markers.Markers.count.Goals.{in-Some+in-Some-get, in-Some+in_default-get, in_default}

pub overflow_add-count : goal.overflow_add-count
overflow_add-count c = omega (arith, c.loop-number.invariant, pieces_few c.args.self.now 0 c.loop-number.number)

pub loop-number-preserved : goal.loop-number-preserved
loop-number-preserved c = elim c.match-new.branch [
  | in-Some+in-Some-get w ↦
      let some : mark_of c.args.self.now c.loop-number.number ≡ Some w.in-Some-get._marker = ap (mark_of c.args.self.now) (sym w.in-Some.ensures.value) ∙ sym w.get.ensures.value ∙ w.in-Some-get.is in
      rw w.count-is (counts_more c.args.self.now c.loop-number.number c.loop-number.count w.in-Some-get._marker some c.loop-number.invariant)
  | in-Some+in_default-get w ↦
      let none : mark_of c.args.self.now c.loop-number.number ≡ None = ap (mark_of c.args.self.now) (sym w.in-Some.ensures.value) ∙ sym w.get.ensures.value ∙ w.in_default-get.is in
      rw w.count-is (counts_same c.args.self.now c.loop-number.number c.loop-number.count none c.loop-number.invariant)
  | in_default w ↦ absurd (let none = w.in_default.ensures.variant.1 (omega arith) in cc)
]

pub returns : goal.returns
returns c = c.loop-number.invariant ∙ ap length (pieces_all c.args.self.now c.loop-number.number (omega arith) (λ q l. c.limit-number-end.ensures.above q (omega arith)))
