use Rattle.std.proofs.Common.{map, ap, sym, ◌∙◌, subst}
use Rattle.std.specs.Prelude.{is_some}
use Rattle.thread_cell.specs.Beginnings.{begun, begun_sessions}
use Rattle.thread_cell.specs.Calls.{AreAll}
use Rattle.thread_cell.specs.Values.{client_calls}
use Rattle.thread_cell.proofs.Starts.{begun_some, begun_all}
use Rattle.thread_cell.proofs.unnamed.Unnamed.named.Goals as goal

pub begin-p0-requires-clause-table : goal.begin-p0-requires-clause-table
begin-p0-requires-clause-table g c = c.sessions_of-sessions.ensures.table

pub begin-p0-requires-clause-seat : goal.begin-p0-requires-clause-seat
begin-p0-requires-clause-seat g c = c.sessions_of-sessions.ensures.seat

pub begin-p0-requires-clause-machine : goal.begin-p0-requires-clause-machine
begin-p0-requires-clause-machine g c = ap (λ k. k.machines.p0) (c.new-table.ensures ∙ c.self.invariant.0)

pub begin-p1-requires-clause-table : goal.begin-p1-requires-clause-table
begin-p1-requires-clause-table g c = c.begin-p0.ensures.table

pub begin-p1-requires-clause-seat : goal.begin-p1-requires-clause-seat
begin-p1-requires-clause-seat g c = c.begin-p0.ensures.seat

pub begin-p1-requires-clause-machine : goal.begin-p1-requires-clause-machine
begin-p1-requires-clause-machine g c = ap (λ k. k.machines.p1) (c.new-table.ensures ∙ c.self.invariant.0)

pub begin-p2-requires-clause-table : goal.begin-p2-requires-clause-table
begin-p2-requires-clause-table g c = c.begin-p1.ensures.table

pub begin-p2-requires-clause-seat : goal.begin-p2-requires-clause-seat
begin-p2-requires-clause-seat g c = c.begin-p1.ensures.seat

pub begin-p2-requires-clause-machine : goal.begin-p2-requires-clause-machine
begin-p2-requires-clause-machine g c = ap (λ k. k.machines.p2) (c.new-table.ensures ∙ c.self.invariant.0)

pub begin-p3-requires-clause-table : goal.begin-p3-requires-clause-table
begin-p3-requires-clause-table g c = c.begin-p2.ensures.table

pub begin-p3-requires-clause-seat : goal.begin-p3-requires-clause-seat
begin-p3-requires-clause-seat g c = c.begin-p2.ensures.seat

pub begin-p3-requires-clause-machine : goal.begin-p3-requires-clause-machine
begin-p3-requires-clause-machine g c = ap (λ k. k.machines.p3) (c.new-table.ensures ∙ c.self.invariant.0)

pub begin-p4-requires-clause-table : goal.begin-p4-requires-clause-table
begin-p4-requires-clause-table g c = c.begin-p3.ensures.table

pub begin-p4-requires-clause-seat : goal.begin-p4-requires-clause-seat
begin-p4-requires-clause-seat g c = c.begin-p3.ensures.seat

pub begin-p4-requires-clause-machine : goal.begin-p4-requires-clause-machine
begin-p4-requires-clause-machine g c = ap (λ k. k.machines.p4) (c.new-table.ensures ∙ c.self.invariant.0)

pub begin-p5-requires-clause-table : goal.begin-p5-requires-clause-table
begin-p5-requires-clause-table g c = c.begin-p4.ensures.table

pub begin-p5-requires-clause-seat : goal.begin-p5-requires-clause-seat
begin-p5-requires-clause-seat g c = c.begin-p4.ensures.seat

pub begin-p5-requires-clause-machine : goal.begin-p5-requires-clause-machine
begin-p5-requires-clause-machine g c = ap (λ k. k.machines.p5) (c.new-table.ensures ∙ c.self.invariant.0)

pub begin-p6-requires-clause-table : goal.begin-p6-requires-clause-table
begin-p6-requires-clause-table g c = c.begin-p5.ensures.table

pub begin-p6-requires-clause-seat : goal.begin-p6-requires-clause-seat
begin-p6-requires-clause-seat g c = c.begin-p5.ensures.seat

pub begin-p6-requires-clause-machine : goal.begin-p6-requires-clause-machine
begin-p6-requires-clause-machine g c = ap (λ k. k.machines.p6) (c.new-table.ensures ∙ c.self.invariant.0)

pub begin-p7-requires-clause-table : goal.begin-p7-requires-clause-table
begin-p7-requires-clause-table g c = c.begin-p6.ensures.table

pub begin-p7-requires-clause-seat : goal.begin-p7-requires-clause-seat
begin-p7-requires-clause-seat g c = c.begin-p6.ensures.seat

pub begin-p7-requires-clause-machine : goal.begin-p7-requires-clause-machine
begin-p7-requires-clause-machine g c = ap (λ k. k.machines.p7) (c.new-table.ensures ∙ c.self.invariant.0)

pub returns-clause-table : goal.returns-clause-table
returns-clause-table g c = c.new-table.ensures ∙ (c.self.invariant.0 ∙ ap (λ v. v.opening) c.self.view_is)

pub returns-clause-sessions : goal.returns-clause-sessions
returns-clause-sessions g c =
    let table = g.N.Name.table in
    c.sessions_of-sessions.ensures.sessions
    ∙ (ap (λ k. begun_sessions table k c.self.inside.opening.clients) (c.new-table.ensures ∙ c.self.invariant.0) ∙ ap (λ v. begun_sessions table v.opening v.opening.clients) c.self.view_is)

pub returns-clause-tables : goal.returns-clause-tables
returns-clause-tables g c = c.sessions_of-sessions.ensures.tables

pub returns-clause-whole : goal.returns-clause-whole
returns-clause-whole g c =
    let key = sym (c.new-table.ensures ∙ c.self.invariant.0) in
    let table = g.N.Name.table in
    let ms = c.self.inside.opening.machines in record {
      p0 = ap is_some c.begin-p0.ensures.cell ∙ (begun_some table c.new-table.result ms.p0 ∙ ap (λ k. is_some k.machines.p0) key);
      p1 = ap is_some c.begin-p1.ensures.cell ∙ (begun_some table c.new-table.result ms.p1 ∙ ap (λ k. is_some k.machines.p1) key);
      p2 = ap is_some c.begin-p2.ensures.cell ∙ (begun_some table c.new-table.result ms.p2 ∙ ap (λ k. is_some k.machines.p2) key);
      p3 = ap is_some c.begin-p3.ensures.cell ∙ (begun_some table c.new-table.result ms.p3 ∙ ap (λ k. is_some k.machines.p3) key);
      p4 = ap is_some c.begin-p4.ensures.cell ∙ (begun_some table c.new-table.result ms.p4 ∙ ap (λ k. is_some k.machines.p4) key);
      p5 = ap is_some c.begin-p5.ensures.cell ∙ (begun_some table c.new-table.result ms.p5 ∙ ap (λ k. is_some k.machines.p5) key);
      p6 = ap is_some c.begin-p6.ensures.cell ∙ (begun_some table c.new-table.result ms.p6 ∙ ap (λ k. is_some k.machines.p6) key);
      p7 = ap is_some c.begin-p7.ensures.cell ∙ (begun_some table c.new-table.result ms.p7 ∙ ap (λ k. is_some k.machines.p7) key);
    }

pub returns-clause-all : goal.returns-clause-all
returns-clause-all g c =
    let sessions = c.sessions_of-sessions in
    subst (λ v. AreAll v.opening.clients (map client_calls sessions.result.items)) c.self.view_is
    (subst (λ ss. AreAll c.self.inside.opening.clients (map client_calls ss)) (sym sessions.ensures.sessions) (begun_all g.N.Name.table c.new-table.result c.self.inside.opening.clients))

pub returns-clause-p0 : goal.returns-clause-p0
returns-clause-p0 g c =
    let table = g.N.Name.table in
    c.begin-p0.ensures.cell
    ∙ (ap (λ k. begun table k c.self.inside.opening.machines.p0) (c.new-table.ensures ∙ c.self.invariant.0) ∙ ap (λ v. begun table v.opening v.opening.machines.p0) c.self.view_is)

pub returns-clause-p1 : goal.returns-clause-p1
returns-clause-p1 g c =
    let table = g.N.Name.table in
    c.begin-p1.ensures.cell
    ∙ (ap (λ k. begun table k c.self.inside.opening.machines.p1) (c.new-table.ensures ∙ c.self.invariant.0) ∙ ap (λ v. begun table v.opening v.opening.machines.p1) c.self.view_is)

pub returns-clause-p2 : goal.returns-clause-p2
returns-clause-p2 g c =
    let table = g.N.Name.table in
    c.begin-p2.ensures.cell
    ∙ (ap (λ k. begun table k c.self.inside.opening.machines.p2) (c.new-table.ensures ∙ c.self.invariant.0) ∙ ap (λ v. begun table v.opening v.opening.machines.p2) c.self.view_is)

pub returns-clause-p3 : goal.returns-clause-p3
returns-clause-p3 g c =
    let table = g.N.Name.table in
    c.begin-p3.ensures.cell
    ∙ (ap (λ k. begun table k c.self.inside.opening.machines.p3) (c.new-table.ensures ∙ c.self.invariant.0) ∙ ap (λ v. begun table v.opening v.opening.machines.p3) c.self.view_is)

pub returns-clause-p4 : goal.returns-clause-p4
returns-clause-p4 g c =
    let table = g.N.Name.table in
    c.begin-p4.ensures.cell
    ∙ (ap (λ k. begun table k c.self.inside.opening.machines.p4) (c.new-table.ensures ∙ c.self.invariant.0) ∙ ap (λ v. begun table v.opening v.opening.machines.p4) c.self.view_is)

pub returns-clause-p5 : goal.returns-clause-p5
returns-clause-p5 g c =
    let table = g.N.Name.table in
    c.begin-p5.ensures.cell
    ∙ (ap (λ k. begun table k c.self.inside.opening.machines.p5) (c.new-table.ensures ∙ c.self.invariant.0) ∙ ap (λ v. begun table v.opening v.opening.machines.p5) c.self.view_is)

pub returns-clause-p6 : goal.returns-clause-p6
returns-clause-p6 g c =
    let table = g.N.Name.table in
    c.begin-p6.ensures.cell
    ∙ (ap (λ k. begun table k c.self.inside.opening.machines.p6) (c.new-table.ensures ∙ c.self.invariant.0) ∙ ap (λ v. begun table v.opening v.opening.machines.p6) c.self.view_is)

pub returns-clause-p7 : goal.returns-clause-p7
returns-clause-p7 g c =
    let table = g.N.Name.table in
    c.begin-p7.ensures.cell
    ∙ (ap (λ k. begun table k c.self.inside.opening.machines.p7) (c.new-table.ensures ∙ c.self.invariant.0) ∙ ap (λ v. begun table v.opening v.opening.machines.p7) c.self.view_is)
