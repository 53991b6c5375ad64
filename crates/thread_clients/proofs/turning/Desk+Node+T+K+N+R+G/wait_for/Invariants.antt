use Rattle.std.proofs.Common.{◌≡◌, [], ◌∷◌}
use Rattle.member_node.specs.contracts.node.NodeMachine.TheImpl.{ghosts}
use Rattle.model_kinds.specs.contracts.operation.Op.{the_row, the_type}
use Rattle.thread_clients.specs.Turns.{TakesOn, HasLooked}
use Rattle.thread_clients.proofs.Waiting.{Waited}
use Rattle.thread_clients.proofs.turning.Desk+Node+T+K+N+R+G.wait_for.Given as goal

abbrev pub invariant-loop-turn : goal.invariant-loop-turn
invariant-loop-turn g l =
    let meaning = ghosts g.row.T g.row.K g.row.T-Kind the_row g.row.T-Delta g.T.SpelledData g.T.SpelledData-dict g.T.Replica g.T.Replica-dict g.T.Kind.Clone g.T.Kind.Clone-dict g.K.Keeper g.K.Keeper-dict g.T.Destruct-dict g.K.Destruct-dict
    (mir.Syntax.impl ("thread_clients::Destruct++none::drop" ∷ []) (mir.Syntax.tcons (denote.Enum.Enum.layout (denote.Enum.Declared.shape the_type)) mir.Syntax.tnil) mir.Syntax.dnil) g.T.Delta.Destruct-dict in
    record {
      looked : HasLooked meaning g.N.Section.ids l.at l.op l.initial.session l._turn l.session;
      waited : Waited meaning g.N.Section.ids l.at l.op l._turn l.initial.session l.session;
      takes : TakesOn g.N.Section.ids l.initial.session l.session;
      table : l.session.seen.table ≡ g.N.Name.table;
    }
