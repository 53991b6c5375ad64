use Rattle.std.proofs.Common.{◌≡◌, ◌+◌, [], ◌∷◌, ◌++◌, length, ap, sym, ◌∙◌, subst, arith, add-one}
use Rattle.std.specs.List.{All}
use Rattle.thread_cell.specs.Beginnings.{Opens, places_left, clients_left, begun_session, begun_sessions}
use Rattle.thread_cell.specs.Values.{IsSession}
use Rattle.thread_cell.specs.Views.{client_given}
use Rattle.thread_cell.proofs.Starts.{clients_over, session_begins, session_value, length-begun_sessions, begun_tables}
use Rattle.thread_cell.proofs.beginning.sessions_of.Goals as goal

pub invariant_of-push_reserved : goal.invariant_of-push_reserved
invariant_of-push_reserved g c =
    let i = c.loop-number.invariant in
    subst (λ me. IsSession c.loop-number.number c.new.result.items 0 me) (sym c.part_client-seat.ensures.part.1)
    (subst (λ cs. IsSession c.loop-number.number cs 0 (client_given c.loop-number.seat.me.0, [])) (sym c.new.ensures.items)
    (session_begins c.args.table.now (places_left c.args.table.now 0) c.args.clients c.loop-number.number c.loop-number.seat.me (omega arith) i.seat))

pub push_reserved-requires : goal.push_reserved-requires
push_reserved-requires g c =
    let i = c.loop-number.invariant in
    let is : length c.loop-number.sessions.items ≡ c.loop-number.number = ap length i.sessions ∙ length-begun_sessions g.N.Name.table c.args.table.now c.loop-number.number in
    let len = c.loop-number.sessions.ok.0 in
    let room = i.room in omega arith

pub loop-number-preserved : goal.loop-number-preserved
loop-number-preserved g c =
    let i = c.loop-number.invariant in
    let n = c.loop-number.number in
    let room = i.room in record {
      table = c.part_client-seat.ensures.seat.0;
      seat = subst (Opens c.args.table.now (places_left c.args.table.now 0) (clients_left c.args.clients (n + 1))) (sym c.part_client-seat.ensures.seat.1) (clients_over c.args.table.now (places_left c.args.table.now 0) c.args.clients n c.loop-number.seat.me (omega arith) i.seat);
      sessions = c.push_reserved.ensures.items
          ∙ (ap (λ s. c.loop-number.sessions.items ++ s ∷ []) (session_value c.args.table.now (places_left c.args.table.now 0) c.args.clients n c.loop-number.seat.me (omega arith) i.seat g.N.Name.table c.part_client-seat.result.table_id c.part_client-seat.result.me c.new.result.items c.part_client-seat.ensures.part.0 c.part_client-seat.ensures.part.1 c.new.ensures.items)
          ∙ (ap (λ ss. ss ++ begun_session g.N.Name.table c.args.table.now n ∷ []) i.sessions
          ∙ ap (begun_sessions g.N.Name.table c.args.table.now) (sym (add-one n))));
      room = let cap = c.push_reserved.ensures.capacity in omega arith;
    }

pub returns-clause-tables : goal.returns-clause-tables
returns-clause-tables g c = subst (All (λ s. s.seen.table ≡ g.N.Name.table)) (sym c.loop-number.invariant.sessions) (begun_tables g.N.Name.table c.args.table.now c.loop-number.number)
