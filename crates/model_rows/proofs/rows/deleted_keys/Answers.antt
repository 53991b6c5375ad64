use Rattle.model_rows.proofs.ComputedDeletes.{DeletedSet_holds, DeleteAmongAdds_holds, GossipedDelete_holds, DeletedEntry_holds, MajorityFindsDeleted_holds, DeletedCounterPrunes_holds, DeletedSettle_holds, DeletedRestarts_holds, DeletedKinds_holds, DeletedFullGSet_holds, DeletedFullOrSet_holds}
use Rattle.model_rows.proofs.rows.deleted_keys.Goals as goal

pub returns-clause-deleted_set : goal.returns-clause-deleted_set
returns-clause-deleted_set c = DeletedSet_holds

pub returns-clause-delete_among_adds : goal.returns-clause-delete_among_adds
returns-clause-delete_among_adds c = DeleteAmongAdds_holds

pub returns-clause-gossiped_delete : goal.returns-clause-gossiped_delete
returns-clause-gossiped_delete c = GossipedDelete_holds

pub returns-clause-deleted_entry : goal.returns-clause-deleted_entry
returns-clause-deleted_entry c = DeletedEntry_holds

pub returns-clause-majority_finds_deleted : goal.returns-clause-majority_finds_deleted
returns-clause-majority_finds_deleted c = MajorityFindsDeleted_holds

pub returns-clause-deleted_counter_prunes : goal.returns-clause-deleted_counter_prunes
returns-clause-deleted_counter_prunes c = DeletedCounterPrunes_holds

pub returns-clause-deleted_settle : goal.returns-clause-deleted_settle
returns-clause-deleted_settle c = DeletedSettle_holds

pub returns-clause-deleted_restarts : goal.returns-clause-deleted_restarts
returns-clause-deleted_restarts c = DeletedRestarts_holds

pub returns-clause-deleted_kinds : goal.returns-clause-deleted_kinds
returns-clause-deleted_kinds c = DeletedKinds_holds

pub returns-clause-deleted_growing_set_full : goal.returns-clause-deleted_growing_set_full
returns-clause-deleted_growing_set_full c = DeletedFullGSet_holds

pub returns-clause-deleted_set_full : goal.returns-clause-deleted_set_full
returns-clause-deleted_set_full c = DeletedFullOrSet_holds
