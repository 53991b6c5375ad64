use Rattle.std.proofs.Common.{◌≡◌, ◌∙◌, ap, sym, rules, IsSome, subst, false, true}
use Rattle.std.specs.FinMap as map
use Rattle.data_markers.specs.Marks.{mark_of}
use Rattle.data_markers.proofs.Views.{get_view, one_given}
use Rattle.data_markers.proofs.markers.Markers.replace.Goals as goal
use Rattle.data_markers.proofs.markers.Markers.replace.Goals.{in-Some, in_default}

pub returns : goal.returns
returns c = elim c.match-get_mut.branch [
  | in-Some w ↦ rw w.self-inside-is (
      one_given c.self.inside.marks.entries (c.get_mut.follows.lender c.args.marker).entries c.number.result c.args.marker ((c.get_mut.follows.holds c.args.marker).3 (search rules)).0
      ∙ ap (λ m. map.insert m c.number.result c.args.marker) c.self.view_is ∙ ap (λ k. map.insert c.args.self.now k c.args.marker) c.number.ensures.value)
  | in_default w ↦ absurd (let x : false ≡ true = subst IsSome (
      ap (mark_of c.args.self.now) (sym c.number.ensures.value) ∙ ap (λ m. mark_of m c.number.result) (sym c.self.view_is)
      ∙ get_view c.self.inside.marks.entries c.number.result ∙ sym w.in_default.ensures.value) c.requires.there in cc)
]
