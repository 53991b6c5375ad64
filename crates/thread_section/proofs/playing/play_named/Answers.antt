use Rattle.std.proofs.Common.{◌≡◌, ◌∙◌, ◌+◌, Some, refl, ap, sym, subst, arith, vec_len}
use Rattle.std.specs.Prelude.{vec_capacity}
use Rattle.std.specs.List.{All}
use Rattle.world_places.specs.Parts.{ArePlaced}
use Rattle.thread_clients.proofs.Beside.{reserved}
use Rattle.thread_section.specs.Places.{AreIdentities}
use Rattle.thread_section.proofs.Beginning.{apart_of, are_new, as_many, all_as_begun, back_many, all_in_table, all_opened, have_done, done_same, played_back}
use Rattle.thread_section.proofs.Ending.{whole_cells}
use Rattle.thread_section.proofs.playing.play_named.Goals as goal

-- MEMORY WAS REFUSED

pub give_back-requires-clause-began : goal.give_back-requires-clause-began
give_back-requires-clause-began g c =
    let opening = c.args.unnamed.opening in
    subst (λ o. All (λ s. s.seen.began ≡ Some o) c.named-cells.result.1.items) (sym c.named-cells.ensures.table) (all_as_begun g.N.Name.table opening opening.clients c.named-cells.result.1.items c.named-cells.ensures.sessions)

pub returns-then-is_err : goal.returns-then-is_err
returns-then-is_err g c =
    played_back g.T.SpelledData c.args.clients.now c.args.views c.args.views c.args.unnamed.opening.machines c.named-cells.result.0.table.machines c.args.rest refl (ap (λ o. o.machines) c.named-cells.ensures.table) c.give_back.result c.give_back.ensures

-- THE CLUSTER

pub new-cluster-requires-clause-apart : goal.new-cluster-requires-clause-apart
new-cluster-requires-clause-apart g c = apart_of c.args.views g.N.Section.ids c.requires.ids c.last.ensures.sound

pub new-cluster-requires-clause-new : goal.new-cluster-requires-clause-new
new-cluster-requires-clause-new g c =
    let are = c.named-cells.ensures in
    are_new c.args.views c.args.rest.seats.spare.items g.N.Section.ids c.requires.ids g.N.Name.table c.args.unnamed.opening c.requires.placed c.last.ensures.sound c.identities-ids.result
    (subst (λ view. AreIdentities view c.identities-ids.result) c.last.ensures.last c.identities-ids.ensures) c.named-cells.result.0 are.p0 are.p1 are.p2 are.p3 are.p4 are.p5 are.p6 are.p7

-- THE CLIENTS

pub run_clients-requires-clause-as_many : goal.run_clients-requires-clause-as_many
run_clients-requires-clause-as_many g c κs within =
    let opening = c.args.unnamed.opening in
    c.named-cells.result.1.ok.0 ∙ as_many g.N.Name.table opening opening.clients c.named-cells.result.1.items c.named-cells.ensures.sessions ∙ c.requires.count

pub parted-sessions-requires-clause-room : goal.parted-sessions-requires-clause-room
parted-sessions-requires-clause-room g c =
    let first = reserved c.reserve.result (vec_len c.reserve.new.self + c.len-count.result) (vec_capacity c.reserve.new.self) (sym c.is_err.ensures.value ∙ c.if-is_err.false) c.reserve.ensures.ok in
    let second = reserved c.reserve-else-is_err.result (vec_len c.reserve-else-is_err.new.self + c.len-count.result) (vec_capacity c.reserve-else-is_err.new.self) (sym c.is_err-else-is_err.ensures.value ∙ c.if-is_err-2.false) c.reserve-else-is_err.ensures.ok in
    let n = c.len-count.ensures in
    let same = c.in-Ok.ensures.ok.count in
    let j = c.in-Ok.played.ok.0 in
    let k = c.named-cells.result.1.ok.0 in (omega arith, omega arith)

pub ended-requires-clause-done : goal.ended-requires-clause-done
ended-requires-clause-done g c =
    let opening = c.args.unnamed.opening in
    done_same _ g.N.Section.ids c.args.views c.into_cells-views.result.0 g.N.Name.table opening c.into_cells-views.result.1.table c.args.clients.now _ c.parted-sessions.result.0.items _ c.parted-sessions.result.1.items
    (c.into_cells-views.ensures.views ∙ c.new-cluster.ensures.views) (c.into_cells-views.ensures.table ∙ c.new-cluster.ensures.table ∙ c.named-cells.ensures.table) c.parted-sessions.ensures.sessions c.parted-sessions.ensures.lines
    (have_done g.N.Name.table opening opening.clients c.named-cells.result.1.items c.named-cells.ensures.sessions _ g.N.Section.ids c.args.views c.new-cluster.result.views c.new-cluster.ensures.views c.args.clients.now c.in-Ok.played.items c.requires.count c.in-Ok.ensures.ok)

-- ONE OF THEM DID NOT MAKE ALL OF ITS COMMANDS

pub give_back-requires-in-Err-clause-some : goal.give_back-requires-in-Err-clause-some
give_back-requires-in-Err-clause-some g c =
    let opening = c.args.unnamed.opening in
    let many = back_many g.N.Name.table opening opening.clients c.named-cells.result.1.items c.named-cells.ensures.sessions c.in-Err.sessions.items c.in-Err.ensures.err in
    let j = c.in-Err.sessions.ok.0 in
    let n = c.requires.count in
    let some = c.requires.clients.count.0 in omega arith

pub give_back-requires-in-Err-clause-tables : goal.give_back-requires-in-Err-clause-tables
give_back-requires-in-Err-clause-tables g c =
    let opening = c.args.unnamed.opening in
    all_in_table g.N.Name.table opening opening.clients c.named-cells.result.1.items c.named-cells.ensures.sessions c.in-Err.sessions.items c.in-Err.ensures.err

pub give_back-requires-in-Err-clause-began : goal.give_back-requires-in-Err-clause-began
give_back-requires-in-Err-clause-began g c =
    let opening = c.args.unnamed.opening in
    subst (λ o. All (λ s. s.seen.began ≡ Some o) c.in-Err.sessions.items) (sym (c.into_cells-views-in-Err.ensures.table ∙ c.new-cluster.ensures.table ∙ c.named-cells.ensures.table))
    (all_opened g.N.Name.table opening opening.clients c.named-cells.result.1.items c.named-cells.ensures.sessions c.in-Err.sessions.items c.in-Err.ensures.err)

pub give_back-requires-in-Err-clause-whole : goal.give_back-requires-in-Err-clause-whole
give_back-requires-in-Err-clause-whole g c =
    let table_is = c.into_cells-views-in-Err.ensures.table ∙ c.new-cluster.ensures.table ∙ c.named-cells.ensures.table in
    whole_cells g.N.Section.ids c.args.views c.into_cells-views-in-Err.result.1 c.args.rest.seats.spare.items c.requires.ids (subst (λ o. ArePlaced c.args.views o.machines c.args.rest.seats.spare.items) (sym table_is) c.requires.placed) c.into_cells-views-in-Err.ensures.whole

pub returns-in-Err : goal.returns-in-Err
returns-in-Err g c =
    played_back g.T.SpelledData c.args.clients.now c.args.views c.into_cells-views-in-Err.result.0 c.args.unnamed.opening.machines c.into_cells-views-in-Err.result.1.table.machines c.args.rest
    (c.into_cells-views-in-Err.ensures.views ∙ c.new-cluster.ensures.views) (ap (λ o. o.machines) (c.into_cells-views-in-Err.ensures.table ∙ c.new-cluster.ensures.table ∙ c.named-cells.ensures.table)) c.give_back-in-Err.result c.give_back-in-Err.ensures
