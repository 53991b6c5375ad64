use Rattle.std.proofs.Common.{◌++◌, List, length, take, drop, ap, sym, ◌∙◌, subst}
use Rattle.std.specs.List.{AllZip}
use Rattle.member_desk.specs.declared.followed.Followed.{Followed}
use Rattle.member_desk.specs.declared.look.Told.{Told}
use Rattle.member_desk.specs.Looks.{notices_by, told_by}
use Rattle.member_desk.specs.Members.{IsLook}
use Rattle.member_desk.specs.Subscriptions.{AreInOrder}
use Rattle.member_desk.proofs.Taking.{told_back, in_order_told}
use Rattle.member_desk.proofs.Flushes.{flushed}
use Rattle.member_desk.proofs.desk.Desk.notices.Goals as goal

pub invariant_of-self : goal.invariant_of-self
invariant_of-self g c =
    let looks = c.in_ok-looks.field-0.looks.items in
    let noted = c.take_all.ensures ∙ ap (λ (desk : List (Followed Told)). told_by desk looks) c.as_mut_slice.ensures.value in
    let is = told_back c.self.inside.followed.len c.self.inside.followed.items c.take_all.new.desk looks c.self.inside.followed.ok.0 noted in
    subst (λ (desk : List (Followed Told)). AreInOrder desk) (sym is) (in_order_told c.self.inside.followed.items looks c.self.invariant)

pub returns-clause-told : goal.returns-clause-told
returns-clause-told g c =
    let looks = c.in_ok-looks.field-0.looks.items in
    let seen = c.as_slice.ensures.value ∙ c.self.view_is in
    let noted = c.take_all.ensures ∙ ap (λ (desk : List (Followed Told)). told_by desk looks) c.as_mut_slice.ensures.value in
    let is = told_back c.self.inside.followed.len c.self.inside.followed.items c.take_all.new.desk looks c.self.inside.followed.ok.0 noted in
    flushed c.args.node.now c.args.self.now (take c.self.inside.followed.len (c.take_all.new.desk ++ drop (length c.take_all.new.desk) c.self.inside.followed.items)) looks c.in_ok-looks.field-0.notices
    (subst (λ (desk : List (Followed Told)). AllZip (IsLook c.args.node.now) desk looks) seen c.in_ok-looks.ensures.looks)
    (c.in_ok-looks.ensures.notices ∙ ap (λ (desk : List (Followed Told)). notices_by desk looks) seen)
    (is ∙ ap (λ (desk : List (Followed Told)). told_by desk looks) c.self.view_is)
