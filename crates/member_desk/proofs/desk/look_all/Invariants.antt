use Rattle.member_desk.specs.Members.{IsLook}
use Rattle.member_desk.proofs.Telling.{AreLooks}
use Rattle.member_desk.proofs.desk.look_all.Given as goal

abbrev pub invariant-loop-followed : goal.invariant-loop-followed
invariant-loop-followed g l = AreLooks (IsLook l.node) l.desk l.followed-index l.looks.items l.notices
