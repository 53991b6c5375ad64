use Rattle.thread_clients.proofs.Called.{takes_none, called_by, installed_by}
use Rattle.thread_clients.proofs.calling.Desk+Node+T+K+N+R+G.call.Goals as goal

pub returns-in-Install-clause-called : goal.returns-in-Install-clause-called
returns-in-Install-clause-called g c =
    installed_by _ g.N.Section.ids c.args.self.now.cluster.now.views c.args.session.now c.install.new.session c.install.result c.args.command.now c.in-Install.view c.in-Install.is c.install.ensures.install

pub returns-in_default-clause-called : goal.returns-in_default-clause-called
returns-in_default-clause-called g c =
    called_by _ g.N.Section.ids c.args.self.now.cluster.now.views c.args.session.now c.ask.new.session c.ask.result c.args.command.now c.input_of.result (c.input_of.ensures c.args.self.now.cluster.now.views) c.ask.ensures.call c.ask.ensures.no_view

pub ask-requires-clause-no_take : goal.ask-requires-clause-no_take
ask-requires-clause-no_take g c = takes_none c.args.command.now.ask c.input_of.result c.input_of.ensures
