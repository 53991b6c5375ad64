use Rattle.model_rows.proofs.ComputedBorders.{SecondPrune_holds, NackedWrite_holds, FailingTick_holds, BlockedSettle_holds, EmptyRead_holds, FullMember_holds, BlockedMinus_holds, FailingClear_holds, JoinAfterStored_holds, FailingInstall_holds, TooManyIdentities_holds, NewerMark_holds, GrowingSetFull_holds, SetFull_holds}
use Rattle.model_rows.proofs.rows.borders.Goals as goal

pub returns-clause-second_prune : goal.returns-clause-second_prune
returns-clause-second_prune c = SecondPrune_holds

pub returns-clause-nacked_write : goal.returns-clause-nacked_write
returns-clause-nacked_write c = NackedWrite_holds

pub returns-clause-failing_tick : goal.returns-clause-failing_tick
returns-clause-failing_tick c = FailingTick_holds

pub returns-clause-blocked_settle : goal.returns-clause-blocked_settle
returns-clause-blocked_settle c = BlockedSettle_holds

pub returns-clause-empty_read : goal.returns-clause-empty_read
returns-clause-empty_read c = EmptyRead_holds

pub returns-clause-full_member : goal.returns-clause-full_member
returns-clause-full_member c = FullMember_holds

pub returns-clause-blocked_minus : goal.returns-clause-blocked_minus
returns-clause-blocked_minus c = BlockedMinus_holds

pub returns-clause-failing_clear : goal.returns-clause-failing_clear
returns-clause-failing_clear c = FailingClear_holds

pub returns-clause-join_after_stored : goal.returns-clause-join_after_stored
returns-clause-join_after_stored c = JoinAfterStored_holds

pub returns-clause-failing_install : goal.returns-clause-failing_install
returns-clause-failing_install c = FailingInstall_holds

pub returns-clause-too_many_identities : goal.returns-clause-too_many_identities
returns-clause-too_many_identities c = TooManyIdentities_holds

pub returns-clause-newer_mark : goal.returns-clause-newer_mark
returns-clause-newer_mark c = NewerMark_holds

pub returns-clause-growing_set_full : goal.returns-clause-growing_set_full
returns-clause-growing_set_full c = GrowingSetFull_holds

pub returns-clause-set_full : goal.returns-clause-set_full
returns-clause-set_full c = SetFull_holds
