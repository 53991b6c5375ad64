use Rattle.data_orset.proofs.Between.{has_run}
use Rattle.data_orset.proofs.elements.has_element.Goals as goal

pub returns : goal.returns
returns c = has_run c.args.dots.now c.args.element.now c.run_of-run.result.0 c.run_of-run.result.1 c.run_of-run.ensures
