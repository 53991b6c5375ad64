use Rattle.theorem_headline.proofs.WorkedHeadline.{headline_is_met}
use Rattle.theorem_headline.proofs.laws.the_headline_is_met.Goals as goal

pub returns : goal.returns
returns c = headline_is_met
