use Rattle.report_lines.proofs.Runs.{back_as_they_are}
use Rattle.report_lines.proofs.sections.given_back.Goals as goal

pub returns : goal.returns
returns g c = back_as_they_are c.args.world c.into_keepers.result.items c.into_keepers.ensures
