use Rattle.theorem_headline.proofs.HeadlineOfRuns.{headline}
use Rattle.theorem_headline.proofs.laws.the_headline.Goals as goal

pub returns : goal.returns
returns g c = λ D blocked_stays value_text answers members keys steps text some few ok report. headline D blocked_stays answers members keys steps some few ok report.lines report.last report.plays
