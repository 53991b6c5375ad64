use Rattle.world_members.proofs.Onward.{never_returns}
use Rattle.world_members.proofs.laws.the_removed_never_returns.Goals as goal

pub returns : goal.returns
returns g c = λ kinds members decls p q m n more. never_returns g.T.SpelledData g.met.T.Replica.data_unmentioned c.args.earlier.now c.args.later.now kinds members decls p q m n more
