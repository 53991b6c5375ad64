use Rattle.theorem_digests.proofs.Telling.{spelled_alike}
use Rattle.theorem_digests.proofs.laws.spellings_tell.Goals as goal

pub returns : goal.returns
returns g c = λ D few_steps byte_of history_spelled members keys events world is_run i j a b decl ra rb e. spelled_alike D few_steps byte_of history_spelled members keys events world is_run i j a b decl ra rb e
