use Rattle.std.proofs.Common.{refl, sym, subst}
use Rattle.thread_machine.specs.declared.machines.Machines.{Machines}
use Rattle.thread_cell.specs.declared.histories.Histories.{Histories}
use Rattle.thread_cell.specs.Calls.{AreAllCalls}
use Rattle.thread_cell.proofs.Taking.{serves_none, Closes, closes, further, cell_knew}
use Rattle.thread_cell.proofs.closing.close.Given.{Over}
use Rattle.thread_cell.proofs.closing.close.Goals as goal

pub take_sessions-calls-requires-clause-served : goal.take_sessions-calls-requires-clause-served
take_sessions-calls-requires-clause-served g c = serves_none c.args.cells.table c.seat-base.result.me c.seat-base.ensures.1

abbrev machines : (g : Over) → goal.After-close g → Machines g.row.M.Denot g.row.M-Input.Denot g.row.M-Fate.Denot g.row.M-Output.Denot g.row.M-Refusal.Denot
machines g c = record { p0 = c.end-m0.result.0; p1 = c.end-m1.result.0; p2 = c.end-m2.result.0; p3 = c.end-m3.result.0; p4 = c.end-m4.result.0; p5 = c.end-m5.result.0; p6 = c.end-m6.result.0; p7 = c.end-m7.result.0 }

abbrev histories : (g : Over) → goal.After-close g → Histories g.row.M.Denot g.row.M-Input.Denot g.row.M-Fate.Denot g.row.M-Output.Denot g.row.M-Refusal.Denot
histories g c = record { p0 = c.end-m0.result.1; p1 = c.end-m1.result.1; p2 = c.end-m2.result.1; p3 = c.end-m3.result.1; p4 = c.end-m4.result.1; p5 = c.end-m5.result.1; p6 = c.end-m6.result.1; p7 = c.end-m7.result.1 }

told : (g : Over) (c : goal.After-close g) → Closes g.M.Machine c.args.cells.table c.args.sessions.items (machines g c) (histories g c) c.end-m7.new.base.me.0
told g c =
    closes g.M.Machine c.args.cells.table c.args.sessions.items (machines g c) (histories g c) c.take_sessions-calls.new.base.me.0 c.end-m0.new.base.me.0 c.end-m1.new.base.me.0 c.end-m2.new.base.me.0 c.end-m3.new.base.me.0 c.end-m4.new.base.me.0 c.end-m5.new.base.me.0 c.end-m6.new.base.me.0 c.end-m7.new.base.me.0
    c.take_sessions-calls.ensures.served c.end-m0.ensures.takes c.end-m1.ensures.takes c.end-m2.ensures.takes c.end-m3.ensures.takes c.end-m4.ensures.takes c.end-m5.ensures.takes c.end-m6.ensures.takes c.end-m7.ensures.takes c.close.ensures c.requires.all

pub returns-clause-places : goal.returns-clause-places
returns-clause-places g c = (told g c).replayed

pub returns-clause-calls : goal.returns-clause-calls
returns-clause-calls g c = subst (λ clients. AreAllCalls clients (histories g c)) (sym c.take_sessions-calls.ensures.calls) (told g c).calls

pub returns-clause-sessions : goal.returns-clause-sessions
returns-clause-sessions g c = (told g c).sessions_knew

pub returns-clause-cells : goal.returns-clause-cells
returns-clause-cells g c =
    let hs = histories g c in
    let m8 = (told g c).knows in
    let m7 = further c.end-m6.new.base.me.0 c.end-m7.new.base.me.0 hs c.end-m7.ensures.takes.more m8 in
    let m6 = further c.end-m5.new.base.me.0 c.end-m6.new.base.me.0 hs c.end-m6.ensures.takes.more m7 in
    let m5 = further c.end-m4.new.base.me.0 c.end-m5.new.base.me.0 hs c.end-m5.ensures.takes.more m6 in
    let m4 = further c.end-m3.new.base.me.0 c.end-m4.new.base.me.0 hs c.end-m4.ensures.takes.more m5 in
    let m3 = further c.end-m2.new.base.me.0 c.end-m3.new.base.me.0 hs c.end-m3.ensures.takes.more m4 in
    let m2 = further c.end-m1.new.base.me.0 c.end-m2.new.base.me.0 hs c.end-m2.ensures.takes.more m3 in
    let m1 = further c.end-m0.new.base.me.0 c.end-m1.new.base.me.0 hs c.end-m1.ensures.takes.more m2 in record {
      p0 = cell_knew 0 c.args.cells.p0 c.end-m0.result.1.items c.end-m0.new.base.me.0.known hs c.end-m0.ensures.gives refl m1;
      p1 = cell_knew 1 c.args.cells.p1 c.end-m1.result.1.items c.end-m1.new.base.me.0.known hs c.end-m1.ensures.gives refl m2;
      p2 = cell_knew 2 c.args.cells.p2 c.end-m2.result.1.items c.end-m2.new.base.me.0.known hs c.end-m2.ensures.gives refl m3;
      p3 = cell_knew 3 c.args.cells.p3 c.end-m3.result.1.items c.end-m3.new.base.me.0.known hs c.end-m3.ensures.gives refl m4;
      p4 = cell_knew 4 c.args.cells.p4 c.end-m4.result.1.items c.end-m4.new.base.me.0.known hs c.end-m4.ensures.gives refl m5;
      p5 = cell_knew 5 c.args.cells.p5 c.end-m5.result.1.items c.end-m5.new.base.me.0.known hs c.end-m5.ensures.gives refl m6;
      p6 = cell_knew 6 c.args.cells.p6 c.end-m6.result.1.items c.end-m6.new.base.me.0.known hs c.end-m6.ensures.gives refl m7;
      p7 = cell_knew 7 c.args.cells.p7 c.end-m7.result.1.items c.end-m7.new.base.me.0.known hs c.end-m7.ensures.gives refl m8;
    }
