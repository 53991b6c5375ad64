use Rattle.std.proofs.Common.{sym, subst}
use Rattle.member_node.proofs.Common.{IsStepOf}
use Rattle.member_node.proofs.Making.{makes_step}
use Rattle.member_node.specs.Answerable.{CanReply, CanEnd}
use Rattle.member_node.proofs.Answerings.{replies_after, ends_after, stored_none}
use Rattle.member_node.proofs.node.Node.make.Goals as goal

pub returns-clause-made : goal.returns-clause-made
returns-clause-made g c = λ input prepares.
    let old = c.args.self.now in
    let prepared = c.args.prepared in
    let fate = c.in_ok-fate.fate in
    let new = c.carry.new.self in
    let step = makes_step g.T.SpelledData old prepared c.requires.sound fate new c.in_ok-fate.ensures.carried c.requires.room input prepares in
    record { fate = fate; makes = subst (λ output. IsStepOf g.T.SpelledData old input fate output new) (sym c.after.ensures) step }

pub returns-clause-replies : goal.returns-clause-replies
returns-clause-replies g c = λ sent replies.
    let old = c.args.self.now in
    let prepared = c.args.prepared in
    let fate = c.in_ok-fate.fate in
    let carried = c.in_ok-fate.ensures.carried in
    subst (λ output. CanReply sent output.reply × CanEnd sent output.finished) (sym c.after.ensures)
    (replies_after sent prepared fate replies (λ nothing. stored_none g.K.Keeper carried.items fate old.keeper c.carry.new.self.keeper (carried.nothing nothing) carried.kept), ends_after sent prepared fate replies)
