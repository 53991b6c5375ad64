use Rattle.report_lines.proofs.Stages.{back_further}
use Rattle.report_lines.proofs.sections.plain_told.Goals as goal

pub returns-in-Err : goal.returns-in-Err
returns-in-Err g c = back_further c.args.first c.plain_step.new.world c.given_back.result.items c.in-Err.ensures c.given_back.ensures
