use Rattle.report_lines.proofs.Stages.{all_kept, back_further}
use Rattle.report_lines.proofs.sections.threads_told.Goals as goal

pub returns : goal.returns
returns g c =
    let played = c.in-Ok.ensures in
    back_further c.args.first c.in-Ok.section.world c.given_back.result.items (all_kept g.T.SpelledData c.args.first c.in-Ok.section.world played.given played.kept) c.given_back.ensures
