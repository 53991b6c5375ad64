use Rattle.std.proofs.Common.{◌≡◌, [], ◌∷◌, take}
use Rattle.member_node.specs.contracts.node.NodeMachine.TheImpl.{ghosts}
use Rattle.model_kinds.specs.contracts.operation.Op.{the_row, the_type}
use Rattle.thread_cluster.specs.Knowing.{GoesOn}
use Rattle.thread_clients.specs.Commands.{commands_of}
use Rattle.thread_clients.specs.Paths.{IsPath}
use Rattle.thread_clients.proofs.client.Desk+Node+T+K+N+R+G.run_client.Given as goal

abbrev pub invariant-loop-repeated : goal.invariant-loop-repeated
invariant-loop-repeated g l =
    let meaning = ghosts g.row.T g.row.K g.row.T-Kind the_row g.row.T-Delta g.T.SpelledData g.T.SpelledData-dict g.T.Replica g.T.Replica-dict g.T.Kind.Clone g.T.Kind.Clone-dict g.K.Keeper g.K.Keeper-dict g.T.Destruct-dict g.K.Destruct-dict
    (mir.Syntax.impl ("thread_clients::Destruct++none::drop" ∷ []) (mir.Syntax.tcons (denote.Enum.Enum.layout (denote.Enum.Declared.shape the_type)) mir.Syntax.tnil) mir.Syntax.dnil) g.T.Delta.Destruct-dict in
    record {
      path : IsPath meaning g.N.Section.ids l.self.cluster.now.views l.client l.initial.session (commands_of (take l.repeated-index l.commands)) l.lines.items l.session;
      goes_on : GoesOn l.initial.session l.session;
      table : l.session.seen.table ≡ g.N.Name.table;
    }
