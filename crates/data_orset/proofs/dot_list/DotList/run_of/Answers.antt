use Rattle.std.proofs.Common.{◌≡◌, ◌<◌, ◌+◌, List, [], length, get_or, subst, sym, nat_lt}
use Rattle.model_history.specs.Texts.{Text}
use Rattle.data_growing.specs.Texts.{IsPlace}
use Rattle.data_orset.specs.declared.dot_list.Spot.{Spot}
use Rattle.data_orset.specs.Placing.{Placed, AreDots}
use Rattle.data_orset.specs.Keeping.{IsRunOf}
use Rattle.data_orset.specs.Spots.{AreInOrder, IsBound}
use Rattle.data_orset.proofs.SpotOrder.{spots_in_order, run_found, run_absent}
use Rattle.data_orset.proofs.dot_list.DotList.run_of.Goals as goal

pub start_of-requires : goal.start_of-requires
start_of-requires c =
    subst AreInOrder (sym c.deref-in-Ok.ensures.value) (spots_in_order c.self.inside.texts.items c.self.inside.spots.items c.self.invariant (subst AreDots (sym c.self.view_is) c.requires))

pub start_of-requires-in-Ok : goal.start_of-requires-in-Ok
start_of-requires-in-Ok c =
    subst AreInOrder (sym c.deref-in-Ok-2.ensures.value) (spots_in_order c.self.inside.texts.items c.self.inside.spots.items c.self.invariant (subst AreDots (sym c.self.view_is) c.requires))

pub start_of-start-requires : goal.start_of-start-requires
start_of-start-requires c =
    subst AreInOrder (sym c.deref-in-Err.ensures.value) (spots_in_order c.self.inside.texts.items c.self.inside.spots.items c.self.invariant (subst AreDots (sym c.self.view_is) c.requires))

pub returns-in-Ok : goal.returns-in-Ok
returns-in-Ok c =
    let is = subst (λ (ts : List Text). (c.in-Ok.place < length ts) × (get_or ts c.in-Ok.place [] ≡ c.args.element.now)) c.deref.ensures.value c.in-Ok.ensures in
    subst (λ (ps : List Placed). IsRunOf ps c.args.element.now c.start_of.result c.start_of-in-Ok.result) c.self.view_is
    (run_found c.self.inside.texts.items c.self.inside.spots.items c.args.element.now c.in-Ok.place c.start_of.result c.start_of-in-Ok.result c.self.invariant is
    (subst (λ (ss : List Spot). IsBound (λ s. nat_lt s.place c.in-Ok.place) ss c.start_of.result) c.deref-in-Ok.ensures.value c.start_of.ensures)
    (subst (λ (ss : List Spot). IsBound (λ s. nat_lt s.place (c.in-Ok.place + 1)) ss c.start_of-in-Ok.result) c.deref-in-Ok-2.ensures.value c.start_of-in-Ok.ensures))

pub returns-in-Err : goal.returns-in-Err
returns-in-Err c =
    let place = subst (λ (ts : List Text). IsPlace ts c.args.element.now c.in-Err.place) c.deref.ensures.value c.in-Err.ensures in
    subst (λ (ps : List Placed). IsRunOf ps c.args.element.now c.start_of-start.result c.start_of-start.result) c.self.view_is
    (run_absent c.self.inside.texts.items c.self.inside.spots.items c.args.element.now c.in-Err.place c.start_of-start.result c.self.invariant place
    (subst (λ (ss : List Spot). IsBound (λ s. nat_lt s.place c.in-Err.place) ss c.start_of-start.result) c.deref-in-Err.ensures.value c.start_of-start.ensures))
