use Rattle.top_call.proofs.Headline.{headline_of_six}
use Rattle.top_call.proofs.laws.the_headline.Goals as goal

pub returns : goal.returns
returns c = λ answers members keys steps text some few ok report. headline_of_six answers members keys steps some few ok report.lines report.last report.plays
