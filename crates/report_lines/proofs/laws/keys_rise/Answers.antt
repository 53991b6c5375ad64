use Rattle.script_reading.specs.declared.script.ScriptKey.{ScriptKey}
use Rattle.report_lines.proofs.KeyOrder.{keys_rise, ordered_moves}
use Rattle.report_lines.proofs.laws.keys_rise.Goals as goal

pub returns-clause-rise : goal.returns-clause-rise
returns-clause-rise g keys apart = keys_rise keys apart

pub returns-clause-same : goal.returns-clause-same
returns-clause-same g keys = ordered_moves (λ (key : ScriptKey). key.key) keys
