use Rattle.member_desk.proofs.Succeeding.{tellings_rise}
use Rattle.member_desk.proofs.laws.histories_of_notices_rise.Goals as goal

pub returns : goal.returns
returns g c = λ shows key told found rise. tellings_rise shows key told found rise
