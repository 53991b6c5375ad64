use Rattle.std.proofs.Common.{map, arith}
use Rattle.world_members.specs.Threads.{run_step_of}
use Rattle.top_call.specs.EachRun.{keys_of}
use Rattle.top_call.proofs.Bounds.{spelled_within}
use Rattle.top_call.proofs.Headline.{headline_of_six}
use Rattle.top_call.proofs.laws.the_headline_of_scripts.Goals as goal

pub returns : goal.returns
returns c = λ clients bytes script answers text spells report.
    let its = spelled_within clients bytes script spells in
    headline_of_six answers script.members (keys_of script) (map run_step_of script.steps) its.0 (omega (arith, its.1)) its.2 report.lines report.last report.plays
