use Rattle.std.proofs.Common.{map, ap, sym, ◌∙◌, subst}
use Rattle.std.specs.Prelude.{IfSome}
use Rattle.thread_machine.specs.Machines.{machine_at}
use Rattle.thread_cell.specs.Calls.{AreAll}
use Rattle.thread_cell.specs.Entries.{history_at}
use Rattle.thread_cell.specs.Values.{client_calls}
use Rattle.trial_cell.specs.Answers.{GoesOn, Beginning}
use Rattle.trial_cell.proofs.Sessions.{same_tables, still_all}
use Rattle.trial_cell.proofs.Totals.{tallied}
use Rattle.trial_cell.proofs.clients.by_two.Goals as goal

pub close-requires-clause-tables : goal.close-requires-clause-tables
close-requires-clause-tables g c =
    let a = subst (λ o. IfSome o (λ played. GoesOn c.in_ok-a.a played.session)) c.in_ok-a-2.was c.join-a.ensures.first in
    let b = subst (λ o. IfSome o (λ played. GoesOn c.in_ok-b.b played.session)) c.in_ok-b-2.was c.join-a.ensures.second in
    same_tables _ c.pop.new.self.items c.pop-2.new.self.items c.push_reserved.new.self.items c.push_reserved-2.new.self.items c.in_ok-a.a c.in_ok-b.b c.in_ok-a-2.a.session c.in_ok-b-2.b.session
    c.in_ok-b.ensures.items c.in_ok-a.ensures.items c.push_reserved.ensures.items c.push_reserved-2.ensures.items a b g.N.Name.table c.named-cells.ensures.tables

pub close-requires-clause-all : goal.close-requires-clause-all
close-requires-clause-all g c =
    let a = subst (λ o. IfSome o (λ played. GoesOn c.in_ok-a.a played.session)) c.in_ok-a-2.was c.join-a.ensures.first in
    let b = subst (λ o. IfSome o (λ played. GoesOn c.in_ok-b.b played.session)) c.in_ok-b-2.was c.join-a.ensures.second in
    still_all _ c.pop.new.self.items c.pop-2.new.self.items c.push_reserved.new.self.items c.push_reserved-2.new.self.items c.in_ok-a.a c.in_ok-b.b c.in_ok-a-2.a.session c.in_ok-b-2.b.session
    c.in_ok-b.ensures.items c.in_ok-a.ensures.items c.push_reserved.ensures.items c.push_reserved-2.ensures.items a b c.named-cells.result.0.table.clients
    (subst (λ (k : Beginning). AreAll k.clients (map client_calls c.named-cells.result.1.items)) (sym c.named-cells.ensures.table) c.named-cells.ensures.all)

pub returns-in-Ok-clause-tallied : goal.returns-in-Ok-clause-tallied
returns-in-Ok-clause-tallied g c =
    let opening = c.named-cells.ensures.table in
    let replayed = c.in-Ok.ensures.places in
    record {
      each = λ p start is.
          let ended = (replayed.each p).replay start (ap (λ (k : Beginning). machine_at k.machines p) opening ∙ is) in
          (ended.0, ended.1, tallied start ended.0 (history_at c.in-Ok.closed.histories p) ended.2);
    }
