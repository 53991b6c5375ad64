use Rattle.theorem_sections.proofs.Computed.{OneClient_holds, OtherCommands_holds, TimedOutWrite_holds, NackHeard_holds, MajorityGet_holds, Racing_holds, TwoWriters_holds}
use Rattle.theorem_sections.proofs.rows.worked_sections.Goals as goal

pub returns-clause-one_client : goal.returns-clause-one_client
returns-clause-one_client c = OneClient_holds

pub returns-clause-other_commands : goal.returns-clause-other_commands
returns-clause-other_commands c = OtherCommands_holds

pub returns-clause-timed_out_write : goal.returns-clause-timed_out_write
returns-clause-timed_out_write c = TimedOutWrite_holds

pub returns-clause-nack_heard : goal.returns-clause-nack_heard
returns-clause-nack_heard c = NackHeard_holds

pub returns-clause-majority_get : goal.returns-clause-majority_get
returns-clause-majority_get c = MajorityGet_holds

pub returns-clause-racing : goal.returns-clause-racing
returns-clause-racing c = Racing_holds

pub returns-clause-two_writers : goal.returns-clause-two_writers
returns-clause-two_writers c = TwoWriters_holds
