use Rattle.std.proofs.Common.{ap, sym, ◌∙◌, ◌≡◌, ◌++◌, Some, None, ℕ, List, arith}
use Rattle.std.specs.Prelude.{flat_map}
use Rattle.data_markers.specs.Marks.{mark_of}
use Rattle.data_markers.proofs.SpellingLoops.{spells_more, spells_same, each_more, each_same, pieces_all, all_spellable}
use Rattle.data_markers.proofs.markers.Markers.spell_marks.Goals as goal
use Rattle.data_markers.proofs.markers.Markers.spell_marks.Goals.{in-Some+in-Some-get+in_ok-spell_mark, in-Some+in_default-get, in_default}

pub loop-number-preserved : goal.loop-number-preserved
loop-number-preserved c = elim c.match-new.branch [
  | in-Some+in-Some-get+in_ok-spell_mark w ↦
      let some : mark_of c.args.self.now c.loop-number.number ≡ Some w.in-Some-get.marker = ap (mark_of c.args.self.now) (sym w.in-Some.ensures.value) ∙ sym w.get.ensures.value ∙ w.in-Some-get.is in
      record {
        spelled = rw w.into-is (spells_more c.args.self.now c.loop-number.number w.in-Some-get.marker c.args.into.now.items c.loop-number.into.items _ some c.loop-number.invariant.spelled (rw (← w.in-Some.ensures.value) w.in_ok-spell_mark.ensures.ok));
        each = each_more c.args.self.now c.loop-number.number w.in-Some-get.marker some w.in_ok-spell_mark.ensures.sound c.loop-number.invariant.each;
      }
  | in-Some+in_default-get w ↦
      let none : mark_of c.args.self.now c.loop-number.number ≡ None = ap (mark_of c.args.self.now) (sym w.in-Some.ensures.value) ∙ sym w.get.ensures.value ∙ w.in_default-get.is in
      record {
        spelled = rw w.into-is (spells_same c.args.self.now c.loop-number.number c.args.into.now.items c.loop-number.into.items none c.loop-number.invariant.spelled);
        each = each_same c.args.self.now c.loop-number.number none c.loop-number.invariant.each;
      }
  | in_default w ↦ absurd (let none = w.in_default.ensures.variant.1 (omega arith) in cc)
]

pub returns-clause-sound : goal.returns-clause-sound
returns-clause-sound c = all_spellable c.args.self.now c.loop-number.number (omega arith) (λ q l. c.limit-number-end.ensures.above q (omega arith)) c.loop-number.invariant.each

pub returns-clause-ok : goal.returns-clause-ok
returns-clause-ok c =
    c.loop-number.invariant.spelled
    ∙ ap (λ (ps : List (List ℕ)). c.args.into.now.items ++ flat_map (λ (bytes : List ℕ). bytes) ps) (pieces_all c.args.self.now c.loop-number.number (omega arith) (λ q l. c.limit-number-end.ensures.above q (omega arith)))
