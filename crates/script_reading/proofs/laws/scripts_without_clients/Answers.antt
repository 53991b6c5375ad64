use Rattle.script_reading.proofs.Refused.{spells_refused, spells_allowed}
use Rattle.script_reading.proofs.laws.scripts_without_clients.Goals as goal

pub returns : goal.returns
returns g bytes script = (spells_refused bytes script, λ h. spells_allowed bytes script h.0 h.1)
