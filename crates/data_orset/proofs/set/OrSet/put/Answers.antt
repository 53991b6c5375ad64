use Rattle.std.proofs.Common.{List, [], ◌∷◌, not, ap, sym, subst, ◌∙◌}
use Rattle.std.specs.FinSet as set
use Rattle.data_orset.specs.Placing.{Placed, at_dot, AreDots}
use Rattle.data_orset.specs.Dots.{Dots, is_element}
use Rattle.data_orset.specs.Keeping.{set_of}
use Rattle.data_orset.proofs.SetsOfDots.{filtered_set}
use Rattle.data_orset.proofs.Between.{dots_put, put_set}
use Rattle.data_orset.proofs.set.OrSet.put.Goals as goal
use Rattle.data_orset.proofs.set.OrSet.put.Goals.{in-Ok, in-Err}

pub invariant_of-self : goal.invariant_of-self
invariant_of-self c = elim c.match-replace.branch [
  | in-Ok w ↦ subst AreDots (sym w.in-Ok.ensures.ok)
      (dots_put c.self.inside.dots (at_dot c.args.dot.now c.args.element.now) c.run_of-run.result.0 c.run_of-run.result.1 c.requires c.self.invariant c.run_of-run.ensures)
  | in-Err w ↦ subst AreDots (sym w.in-Err.ensures.err) c.self.invariant
]

pub returns-clause-ok : goal.returns-clause-ok
returns-clause-ok c =
    let ps : List Placed = c.self.inside.dots in
    let new : Placed = at_dot c.args.dot.now c.args.element.now in
    elim c.match-replace.branch [
      | in-Ok w ↦ rw w.result-is (ap set_of w.in-Ok.ensures.ok ∙ put_set ps new c.run_of-run.result.0 c.run_of-run.result.1 c.run_of-run.ensures
          ∙ ap (λ (s : Dots). set.union s (set_of (new ∷ []))) (filtered_set (λ k. not (is_element c.args.element.now k)) ps c.args.self.now c.self.view_is))
      | in-Err w ↦ rw w.result-is tt
    ]
