use Rattle.std.proofs.Common.{◌≡◌, [], ◌∷◌}
use Rattle.std.specs.Prelude.{replicate}
use Rattle.member_node.specs.contracts.node.NodeMachine.TheImpl.{ghosts}
use Rattle.model_kinds.specs.contracts.operation.Op.{the_row, the_type}
use Rattle.thread_cluster.specs.Knowing.{GoesOn}
use Rattle.thread_clients.specs.Paths.{GoesFurther}
use Rattle.thread_clients.proofs.client.Desk+Node+T+K+N+R+G.run_times.Given as goal

abbrev pub invariant-loop-time : goal.invariant-loop-time
invariant-loop-time g l =
    let meaning = ghosts g.row.T g.row.K g.row.T-Kind the_row g.row.T-Delta g.T.SpelledData g.T.SpelledData-dict g.T.Replica g.T.Replica-dict g.T.Kind.Clone g.T.Kind.Clone-dict g.K.Keeper g.K.Keeper-dict g.T.Destruct-dict g.K.Destruct-dict
    (mir.Syntax.impl ("thread_clients::Destruct++none::drop" ∷ []) (mir.Syntax.tcons (denote.Enum.Enum.layout (denote.Enum.Declared.shape the_type)) mir.Syntax.tnil) mir.Syntax.dnil) g.T.Delta.Destruct-dict in
    record {
      further : GoesFurther meaning g.N.Section.ids l.self.cluster.now.views l.client (replicate l._time l.repeated.command) l.initial.session l.session l.initial.lines.items l.lines.items;
      goes_on : GoesOn l.initial.session l.session;
      table : l.session.seen.table ≡ g.N.Name.table;
    }
