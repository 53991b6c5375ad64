use Rattle.std.proofs.Common.{◌≡◌, Some, slice_get, ap, sym, ◌∙◌}
use Rattle.member_views.specs.Views.{View}
use Rattle.thread_cluster.specs.Knowing.{IsNowhere}
use Rattle.thread_cluster.proofs.Calling.{is_somewhere, install_no_view, install_called}
use Rattle.thread_cluster.proofs.Growing.{sees_self}
use Rattle.thread_cluster.proofs.calls.Cluster+Node+T+K+N.install.Goals as goal

pub returns-in_default-clause-install : goal.returns-in_default-clause-install
returns-in_default-clause-install g c =
    install_no_view _ g.N.Section.ids c.args.self.now.views c.args.id c.args.number c.args.session.now c.args.session.now
    (is_somewhere c.has.result (IsNowhere g.N.Section.ids c.args.id) c.has.ensures c.if-not-has.false) (sym c.in_default.ensures.view) (sees_self c.args.session.now)

pub returns-in-Ok-clause-install : goal.returns-in-Ok-clause-install
returns-in-Ok-clause-install g c =
    let listed : slice_get c.args.self.now.views c.args.number ≡ Some c.in-Ok.view = sym c.in-Some.ensures.view ∙ ap (λ (v : View). Some v) (sym c.in-Ok.ensures) in
    install_called _ g.N.Section.ids c.args.self.now.views c.args.id c.args.number c.args.session.now c.ask.new.session
    (is_somewhere c.has.result (IsNowhere g.N.Section.ids c.args.id) c.has.ensures c.if-not-has.false) c.in-Ok.view listed c.ask.result c.ask.ensures.call c.ask.ensures.no_view
