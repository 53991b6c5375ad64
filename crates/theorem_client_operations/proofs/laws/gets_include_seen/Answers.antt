use Rattle.theorem_client_operations.proofs.SeenReads.{gets_include_seen}
use Rattle.theorem_client_operations.proofs.laws.gets_include_seen.Goals as goal

pub returns : goal.returns
returns g c = λ D answers members keys steps some few ok lines last plays. gets_include_seen D answers members keys steps some few ok lines last plays
