use Rattle.std.proofs.Common.{[], sym, ◌∙◌, subst, rules}
use Rattle.thread_cell.specs.Beginnings.{Opens, places_left}
use Rattle.thread_cell.specs.Values.{IsCell}
use Rattle.thread_cell.proofs.Starts.{skipped, left_over, cell_begins}
use Rattle.thread_cell.proofs.cell.Cell.begin.Goals as goal

pub returns-in_default-clause-seat : goal.returns-in_default-clause-seat
returns-in_default-clause-seat g c = skipped c.args.table.now g.P.Spot.PLACE c.args.seat.now.me c.requires.place c.requires.seat c.args.machine (search rules) c.requires.machine

pub invariant_of-result : goal.invariant_of-result
invariant_of-result g c =
    let there = c.requires.machine ∙ c.in-Some.is in (
      c.part_place-seat.ensures.part.0,
      subst (λ h. IsCell g.M.Machine g.P.Spot.PLACE c.in-Some.machine h 0 c.part_place-seat.result.me) (sym c.new.ensures.items)
          (subst (IsCell g.M.Machine g.P.Spot.PLACE c.in-Some.machine [] 0) (sym c.part_place-seat.ensures.part.1) (cell_begins c.args.table.now g.P.Spot.PLACE c.args.seat.now.me c.requires.place c.requires.seat c.in-Some.machine there g.M.Machine)),
    )

pub returns-clause-seat : goal.returns-clause-seat
returns-clause-seat g c =
    let there = c.requires.machine ∙ c.in-Some.is in
    subst (Opens c.args.table.now (places_left c.args.table.now _) []) (sym c.part_place-seat.ensures.seat.1) (left_over c.args.table.now g.P.Spot.PLACE c.args.seat.now.me c.requires.place c.requires.seat c.in-Some.machine there)
