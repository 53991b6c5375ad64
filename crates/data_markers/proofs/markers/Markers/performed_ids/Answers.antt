use Rattle.std.proofs.Common.{ap, sym, ◌∙◌, ◌≡◌, true, false, arith}
use Rattle.data_markers.specs.Marks.{performed_in}
use Rattle.data_markers.proofs.SpellingLoops.{ids_more, ids_same, ids_are}
use Rattle.data_markers.proofs.markers.Markers.performed_ids.Goals as goal
use Rattle.data_markers.proofs.markers.Markers.performed_ids.Goals.{in-Some+then-performed, in-Some+else-performed, in_default}

pub loop-number-preserved : goal.loop-number-preserved
loop-number-preserved c = elim c.match-new.branch [
  | in-Some+then-performed w ↦
      let there : performed_in c.args.self.now c.loop-number.number ≡ true = ap (performed_in c.args.self.now) (sym w.in-Some.ensures.value) ∙ sym w.performed.ensures.value ∙ w.if-performed.true in
      rw w.ids-is (ids_more c.args.self.now c.loop-number.ids _ c.loop-number.number there (rw (← w.in-Some.ensures.value) w.with-ids.ensures.members) c.loop-number.invariant)
  | in-Some+else-performed w ↦
      let none : performed_in c.args.self.now c.loop-number.number ≡ false = ap (performed_in c.args.self.now) (sym w.in-Some.ensures.value) ∙ sym w.performed.ensures.value ∙ w.if-performed.false in
      rw w.ids-is (ids_same c.args.self.now c.loop-number.ids c.loop-number.number none c.loop-number.invariant)
  | in_default w ↦ absurd (let none = w.in_default.ensures.variant.1 (omega arith) in cc)
]

pub returns : goal.returns
returns c = ids_are c.args.self.now c.loop-number.ids c.loop-number.number (λ q l. c.limit-number-end.ensures.above q (omega arith)) c.loop-number.invariant
