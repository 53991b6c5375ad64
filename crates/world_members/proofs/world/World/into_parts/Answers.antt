use Rattle.std.proofs.Common.{◌∙◌, sym}
use Rattle.member_node.specs.declared.input.Input.{Input}
use Rattle.member_node.specs.declared.reply.Fate.{Fate}
use Rattle.member_node.specs.declared.reply.Output.{Output}
use Rattle.member_node.specs.declared.reply.StepError.{StepError}
use Rattle.world_places.proofs.Seats.{all_taken}
use Rattle.world_members.proofs.world.World.into_parts.Goals as goal

pub returns-clause-members : goal.returns-clause-members
returns-clause-members g c =
    let nodes = c.args.self.nodes in
    all_taken {I = Input g.row.T.Denot g.row.T-Kind.Denot g.row.T-Op.Denot g.row.T-Delta.Denot g.T.Replica} {F = Fate} {O = Output g.row.T.Denot g.row.T-Kind.Denot g.row.T-Op.Denot g.row.T-Delta.Denot g.T.Replica} {R = StepError} c.args.self.nodes.items c.taken.new.items.items c.taken-2.new.items.items c.taken-3.new.items.items c.taken-4.new.items.items c.taken-5.new.items.items c.taken-6.new.items.items c.taken-7.new.items.items c.taken-8.new.items.items (record { p0 = c.taken.result; p1 = c.taken-2.result; p2 = c.taken-3.result; p3 = c.taken-4.result; p4 = c.taken-5.result; p5 = c.taken-6.result; p6 = c.taken-7.result; p7 = c.taken-8.result }) c.taken.ensures.others c.taken-2.ensures.others c.taken-3.ensures.others c.taken-4.ensures.others c.taken-5.ensures.others c.taken-6.ensures.others c.taken-7.ensures.others c.taken-8.ensures.others (sym nodes.ok.0 ∙ c.args.self.eight_nodes) c.taken.ensures.taken c.taken-2.ensures.taken c.taken-3.ensures.taken c.taken-4.ensures.taken c.taken-5.ensures.taken c.taken-6.ensures.taken c.taken-7.ensures.taken c.taken-8.ensures.taken
