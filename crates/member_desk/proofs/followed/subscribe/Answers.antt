use Rattle.std.proofs.Common.{◌≡◌, List, Bool, IfOk, subst}
use Rattle.std.specs.Prelude.{if◌then◌else◌}
use Rattle.member_desk.specs.declared.client.Subscribed.{Subscribed}
use Rattle.member_desk.specs.declared.client.Subscribed.TheVariants as subscribed
use Rattle.member_desk.specs.declared.followed.Followed.{Followed}
use Rattle.member_desk.specs.declared.place.Place.TheVariants.{At}
use Rattle.member_desk.specs.Places.{IsPlace}
use Rattle.member_desk.specs.Subscriptions.{by_key}
use Rattle.member_desk.proofs.Editing.{on_ok, subscribed_here, follows_here}
use Rattle.member_desk.proofs.followed.subscribe.Goals as goal

pub returns-in-At-clause-ok : goal.returns-in-At-clause-ok
returns-in-At-clause-ok g c =
    let place = subst (λ (t : List (Followed g.row.V.Denot)). IsPlace (by_key c.args.key.now) t (At c.in-At.index)) c.as_slice.ensures.value c.in-At.ensures in
    on_ok c.add.result c.add.ensures.ok (λ same. subscribed_here c.args.desk.now.items c.in-At.index c.args.key.now c.args.client place c.index_mut-here.result.now c.index_mut-here.ensures.value c.add.new.self same)

pub returns-in-At-clause-standing : goal.returns-in-At-clause-standing
returns-in-At-clause-standing g c =
    let place = subst (λ (t : List (Followed g.row.V.Denot)). IsPlace (by_key c.args.key.now) t (At c.in-At.index)) c.as_slice.ensures.value c.in-At.ensures in
    subst (λ (b : Bool). IfOk c.add.result (λ (s : Subscribed). s ≡ (if b then subscribed.Standing else subscribed.New)))
    (follows_here c.args.desk.now.items c.in-At.index c.args.key.now c.args.client place c.index_mut-here.result.now c.index_mut-here.ensures.value) c.add.ensures.standing
