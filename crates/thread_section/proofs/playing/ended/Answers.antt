use Rattle.std.proofs.Common.{◌≡◌, ◌≤◌, Some, map, sym, subst, arith}
use Rattle.std.specs.Prelude.{All, vec_len}
use Rattle.thread_cell.specs.Closings.{IsWhole}
use Rattle.member_node.specs.Members.{AreDistinct}
use Rattle.thread_section.specs.Worlds.{WasMadeOf}
use Rattle.thread_section.proofs.Doing.{as_many, are_all, all_in_table, all_opened}
use Rattle.thread_section.proofs.Ending.{whole_cells, parts_placed, parts_given, played, refused}
use Rattle.thread_section.proofs.playing.ended.Goals as goal

-- WHERE CLIENTS STOPPED

pub give_back-requires-clause-some : goal.give_back-requires-clause-some
give_back-requires-clause-some g c =
    let many = as_many _ g.N.Section.ids c.args.views g.N.Name.table c.args.cells.table 0 c.args.clients.now c.args.sessions.items c.args.lines.items c.requires.done in
    let some = c.requires.clients.count.0 in
    let len = c.args.sessions.ok.0 in
    omega (arith, many, some, len)

pub give_back-requires-clause-tables : goal.give_back-requires-clause-tables
give_back-requires-clause-tables g c = all_in_table _ g.N.Section.ids c.args.views g.N.Name.table c.args.cells.table c.args.clients.now c.args.sessions.items c.args.lines.items c.requires.done

pub give_back-requires-clause-began : goal.give_back-requires-clause-began
give_back-requires-clause-began g c = all_opened _ g.N.Section.ids c.args.views g.N.Name.table c.args.cells.table c.args.clients.now c.args.sessions.items c.args.lines.items c.requires.done

pub give_back-requires-clause-whole : goal.give_back-requires-clause-whole
give_back-requires-clause-whole g c = whole_cells g.N.Section.ids c.args.views c.args.cells c.args.rest.seats.spare.items c.requires.ids c.requires.placed c.requires.whole

-- WHERE THE TABLE IS CLOSED

pub close-requires-clause-tables : goal.close-requires-clause-tables
close-requires-clause-tables g c = all_in_table _ g.N.Section.ids c.args.views g.N.Name.table c.args.cells.table c.args.clients.now c.args.sessions.items c.args.lines.items c.requires.done

pub close-requires-clause-whole : goal.close-requires-clause-whole
close-requires-clause-whole g c = whole_cells g.N.Section.ids c.args.views c.args.cells c.args.rest.seats.spare.items c.requires.ids c.requires.placed c.requires.whole

pub close-requires-clause-all : goal.close-requires-clause-all
close-requires-clause-all g c =
    are_all _ g.N.Section.ids c.args.views g.N.Name.table c.args.cells.table c.args.cells.table.clients c.args.clients.now c.args.sessions.items c.args.lines.items c.requires.count c.requires.done

-- WHERE THE WORLD IS PUT TOGETHER

pub finish-requires-clause-distinct : goal.finish-requires-clause-distinct
finish-requires-clause-distinct g c = subst (λ keys. AreDistinct (map (λ decl. decl.key) keys.items)) (sym c.parts_of.ensures.rest.1) c.requires.keys

pub finish-requires-clause-placed : goal.finish-requires-clause-placed
finish-requires-clause-placed g c =
    parts_placed g.T.SpelledData g.met.K.Keeper.tells_alike _ (λ old input fate output new s. s) (λ old new u. u) c.args.views c.args.cells c.in-Ok-close.closed.machines c.in-Ok-close.closed.histories c.args.rest c.in-Ok-close.ensures.places c.requires.placed
    c.parts_of.result c.parts_of.ensures.views c.parts_of.ensures.members c.parts_of.ensures.rest.2

pub finish-requires-clause-given : goal.finish-requires-clause-given
finish-requires-clause-given g c =
    parts_given g.T.SpelledData g.met.K.Keeper.tells_alike _ (λ old input fate output new s. s) (λ old new u. u) c.args.views c.args.cells c.in-Ok-close.closed.machines c.in-Ok-close.closed.histories c.args.rest c.in-Ok-close.ensures.places c.requires.placed
    c.parts_of.result c.parts_of.ensures.views c.parts_of.ensures.members c.parts_of.ensures.rest.2
    g.N.Name.table c.args.clients.now c.args.sessions.items c.args.lines.items c.in-Ok-close.closed.calls.items c.in-Ok-close.ensures.calls c.in-Ok-close.ensures.own c.in-Ok-close.ensures.sessions g.N.Section.ids c.requires.ids c.requires.done

pub returns-in-Ok-finish : goal.returns-in-Ok-finish
returns-in-Ok-finish g c =
    played g.T.SpelledData g.met.K.Keeper.tells_alike _ (λ old input fate output new s. s) (λ old new u. u) c.args.views c.args.cells c.in-Ok-close.closed.machines c.in-Ok-close.closed.histories c.args.rest c.in-Ok-close.ensures.places c.requires.placed
    c.parts_of.result c.parts_of.ensures.views c.parts_of.ensures.members c.parts_of.ensures.rest.2
    g.N.Name.table c.args.clients.now c.args.sessions.items c.args.lines.items c.in-Ok-close.closed.calls.items c.in-Ok-close.ensures.calls c.in-Ok-close.ensures.own c.in-Ok-close.ensures.sessions g.N.Section.ids c.requires.ids c.requires.done
    c.requires.sound c.in-Ok-close.ensures.cells c.requires.whole c.requires.hear (record { world = c.in-Ok-finish.world; lines = c.in-Ok.lines }) c.parts_of.ensures.rest.1 c.parts_of.ensures.rest.0 c.in-Ok-finish.ensures.ok c.in-Ok.ensures

pub returns-in-Err-finish : goal.returns-in-Err-finish
returns-in-Err-finish g c =
    refused g.T.SpelledData g.met.K.Keeper.tells_alike _ (λ old input fate output new s. s) (λ old new u. u) c.args.views c.args.cells c.in-Ok-close.closed.machines c.in-Ok-close.closed.histories c.args.rest c.in-Ok-close.ensures.places c.requires.placed
    c.parts_of.result c.parts_of.ensures.views c.parts_of.ensures.members c.parts_of.ensures.rest.2
    c.args.clients.now c.in-Err-finish.keepers c.in-Err-finish.ensures.err

-- WHERE THE TABLE IS NOT CLOSED: cells and sessions are as they were

pub give_back-requires-in-Err-close-clause-some : goal.give_back-requires-in-Err-close-clause-some
give_back-requires-in-Err-close-clause-some g c =
    let many = as_many _ g.N.Section.ids c.args.views g.N.Name.table c.args.cells.table 0 c.args.clients.now c.args.sessions.items c.args.lines.items c.requires.done in
    let some = c.requires.clients.count.0 in
    let len = c.args.sessions.ok.0 in
    subst (λ ss. 1 ≤ vec_len ss) (sym c.in-Err-close.ensures.err.1) (omega (arith, many, some, len))

pub give_back-requires-in-Err-close-clause-tables : goal.give_back-requires-in-Err-close-clause-tables
give_back-requires-in-Err-close-clause-tables g c =
    subst (λ ss. All (λ s. s.seen.table ≡ g.N.Name.table) ss.items) (sym c.in-Err-close.ensures.err.1)
    (all_in_table _ g.N.Section.ids c.args.views g.N.Name.table c.args.cells.table c.args.clients.now c.args.sessions.items c.args.lines.items c.requires.done)

pub give_back-requires-in-Err-close-clause-began : goal.give_back-requires-in-Err-close-clause-began
give_back-requires-in-Err-close-clause-began g c =
    subst (λ ss. All (λ s. s.seen.began ≡ Some c.in-Err-close.cells.table) ss.items) (sym c.in-Err-close.ensures.err.1)
    (subst (λ cells. All (λ s. s.seen.began ≡ Some cells.table) c.args.sessions.items) (sym c.in-Err-close.ensures.err.0)
    (all_opened _ g.N.Section.ids c.args.views g.N.Name.table c.args.cells.table c.args.clients.now c.args.sessions.items c.args.lines.items c.requires.done))

pub give_back-requires-in-Err-close-clause-whole : goal.give_back-requires-in-Err-close-clause-whole
give_back-requires-in-Err-close-clause-whole g c =
    subst (λ cells. IsWhole cells) (sym c.in-Err-close.ensures.err.0) (whole_cells g.N.Section.ids c.args.views c.args.cells c.args.rest.seats.spare.items c.requires.ids c.requires.placed c.requires.whole)

pub returns-in-Err-close : goal.returns-in-Err-close
returns-in-Err-close g c = record {
  of = λ old made. c.give_back-in-Err-close.ensures.of old (subst (λ cells. WasMadeOf old c.args.views cells.table.machines c.args.rest) (sym c.in-Err-close.ensures.err.0) made);
}
