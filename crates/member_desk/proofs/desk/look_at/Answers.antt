use Rattle.member_desk.proofs.Members.{no_look, look_at_entry}
use Rattle.member_desk.proofs.desk.look_at.Goals as goal

pub returns-in-Some : goal.returns-in-Some
returns-in-Some g c = look_at_entry c.args.node.now c.args.followed.now c.in-Some.entry.now c.find_at.result c.in-Some.ensures c.find_at.ensures

pub returns-in-None : goal.returns-in-None
returns-in-None g c = no_look c.args.node.now c.args.followed.now c.in-None.ensures
