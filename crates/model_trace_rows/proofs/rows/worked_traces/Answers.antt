use Rattle.model_trace_rows.proofs.Computed.{ATrace_holds, BrokenTraces_holds, OwnerDeparts_holds, FailingStores_holds, DeletedKey_holds, FirstRule_holds, OfDeletedKeys_holds, SecondRule_holds, ThirdRule_holds, FourthRule_holds, LastIdentity_holds, LostUpdate_holds, DoubledIncrement_holds, AnotherSystem_holds}
use Rattle.model_trace_rows.proofs.rows.worked_traces.Goals as goal

pub returns-clause-a_trace : goal.returns-clause-a_trace
returns-clause-a_trace c = ATrace_holds

pub returns-clause-broken_traces : goal.returns-clause-broken_traces
returns-clause-broken_traces c = BrokenTraces_holds

pub returns-clause-owner_departs : goal.returns-clause-owner_departs
returns-clause-owner_departs c = OwnerDeparts_holds

pub returns-clause-failing_stores : goal.returns-clause-failing_stores
returns-clause-failing_stores c = FailingStores_holds

pub returns-clause-deleted_key : goal.returns-clause-deleted_key
returns-clause-deleted_key c = DeletedKey_holds

pub returns-clause-first_rule : goal.returns-clause-first_rule
returns-clause-first_rule c = FirstRule_holds

pub returns-clause-of_deleted_keys : goal.returns-clause-of_deleted_keys
returns-clause-of_deleted_keys c = OfDeletedKeys_holds

pub returns-clause-second_rule : goal.returns-clause-second_rule
returns-clause-second_rule c = SecondRule_holds

pub returns-clause-third_rule : goal.returns-clause-third_rule
returns-clause-third_rule c = ThirdRule_holds

pub returns-clause-fourth_rule : goal.returns-clause-fourth_rule
returns-clause-fourth_rule c = FourthRule_holds

pub returns-clause-last_identity : goal.returns-clause-last_identity
returns-clause-last_identity c = LastIdentity_holds

pub returns-clause-another_system : goal.returns-clause-another_system
returns-clause-another_system c = AnotherSystem_holds

pub returns-clause-lost_update : goal.returns-clause-lost_update
returns-clause-lost_update c = LostUpdate_holds

pub returns-clause-doubled_increment : goal.returns-clause-doubled_increment
returns-clause-doubled_increment c = DoubledIncrement_holds
