use Rattle.std.proofs.Common.{List, ap, sym, ◌∙◌}
use Rattle.member_desk.specs.declared.client.Client.{Client}
use Rattle.member_desk.specs.declared.followed.Followed.{Followed}
use Rattle.member_desk.specs.Subscriptions.{without_client, is_nobody, has_client, with_clients}
use Rattle.std.proofs.Math.ListN.{set}
use Rattle.member_desk.proofs.Editing.{same_here, nobody_left, somebody_left}
use Rattle.member_desk.proofs.followed.unsubscribe_at.Goals as goal

pub returns-then-is_empty-clause-now : goal.returns-then-is_empty-clause-now
returns-then-is_empty-clause-now g c = λ here is.
    let same = same_here c.args.desk.now.items c.args.index c.index_mut-here.result.now here c.requires c.index_mut-here.ensures.value is in
    let left = c.remove-was.ensures.now ∙ ap (λ (f : Followed g.row.V.Denot). without_client f.clients c.args.client) same in
    c.remove.ensures.items ∙ nobody_left c.args.desk.now.items c.args.index here c.args.client c.requires (with_clients c.index_mut-here.result.now c.remove-was.new.self)
    (ap is_nobody (sym left) ∙ sym c.is_empty.ensures ∙ c.if-is_empty.true)

pub returns-else-is_empty-clause-was : goal.returns-else-is_empty-clause-was
returns-else-is_empty-clause-was g c = λ here is.
    let same = same_here c.args.desk.now.items c.args.index c.index_mut-here.result.now here c.requires c.index_mut-here.ensures.value is in
    c.remove-was.ensures.was ∙ ap (λ (f : Followed g.row.V.Denot). has_client f.clients c.args.client) same

pub returns-else-is_empty-clause-now : goal.returns-else-is_empty-clause-now
returns-else-is_empty-clause-now g c = λ here is.
    let same = same_here c.args.desk.now.items c.args.index c.index_mut-here.result.now here c.requires c.index_mut-here.ensures.value is in
    let left = c.remove-was.ensures.now ∙ ap (λ (f : Followed g.row.V.Denot). without_client f.clients c.args.client) same in
    ap (λ (cs : List Client). set c.args.desk.now.items c.args.index (with_clients c.index_mut-here.result.now cs)) left
    ∙ ap (λ (f : Followed g.row.V.Denot). set c.args.desk.now.items c.args.index (with_clients f (without_client here.clients c.args.client))) same
    ∙ somebody_left c.args.desk.now.items c.args.index here c.args.client c.requires (ap is_nobody (sym left) ∙ sym c.is_empty.ensures ∙ c.if-is_empty.false)
