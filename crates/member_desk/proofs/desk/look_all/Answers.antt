use Rattle.std.proofs.Common.{◌+◌, List, sym, subst, arith}
use Rattle.member_desk.specs.declared.look.Look.{Look}
use Rattle.member_desk.specs.Members.{IsLook}
use Rattle.member_desk.proofs.Telling.{AreLooks, looks_more}
use Rattle.member_desk.proofs.desk.look_all.Goals as goal

pub loop-followed-preserved : goal.loop-followed-preserved
loop-followed-preserved g c =
    subst (λ (looks : List Look). AreLooks (IsLook c.args.node.now) c.args.desk.now (c.loop-followed.followed-index + 1) looks c.tell.new.notices) (sym c.in_ok-push.ensures.items)
    (looks_more (IsLook c.args.node.now) c.args.desk.now c.loop-followed.followed-index c.loop-followed.looks.items c.loop-followed.notices c.tell.new.notices c.followed-item.result c.in_ok-look.look
    (omega arith) c.followed-item.is c.in_ok-look.ensures c.in_ok-tell.ensures c.loop-followed.invariant)
