use Rattle.model_rows.proofs.Computed.{Meanings_holds, EmptyScript_holds, OneMember_holds, Repeats_holds, AddWins_holds, DeltaOvertakesItsCause_holds, PrunedCounter_holds, BlockedPrune_holds, ReplacedDot_holds, OwnerDeparts_holds, LateMessages_holds, RestartedMember_holds, MajorityWriteAndRead_holds, TimedOutWrite_holds, RegisterWrites_holds, Refusals_holds, OtherKinds_holds, FiftyDeltas_holds, FiftyOneDeltas_holds, Carts_holds, FailingStore_holds, FailingLoad_holds, GeneratedScript_holds, TwoMembers_holds, FlushedRegister_holds, GossipedCounter_holds, ThreeMembers_holds}
use Rattle.model_rows.proofs.rows.worked_rows.Goals as goal

pub returns-clause-meanings : goal.returns-clause-meanings
returns-clause-meanings c = Meanings_holds

pub returns-clause-empty_script : goal.returns-clause-empty_script
returns-clause-empty_script c = EmptyScript_holds

pub returns-clause-one_member : goal.returns-clause-one_member
returns-clause-one_member c = OneMember_holds

pub returns-clause-repeats : goal.returns-clause-repeats
returns-clause-repeats c = Repeats_holds

pub returns-clause-add_wins : goal.returns-clause-add_wins
returns-clause-add_wins c = AddWins_holds

pub returns-clause-delta_overtakes_its_cause : goal.returns-clause-delta_overtakes_its_cause
returns-clause-delta_overtakes_its_cause c = DeltaOvertakesItsCause_holds

pub returns-clause-pruned_counter : goal.returns-clause-pruned_counter
returns-clause-pruned_counter c = PrunedCounter_holds

pub returns-clause-blocked_prune : goal.returns-clause-blocked_prune
returns-clause-blocked_prune c = BlockedPrune_holds

pub returns-clause-replaced_dot : goal.returns-clause-replaced_dot
returns-clause-replaced_dot c = ReplacedDot_holds

pub returns-clause-owner_departs : goal.returns-clause-owner_departs
returns-clause-owner_departs c = OwnerDeparts_holds

pub returns-clause-late_messages : goal.returns-clause-late_messages
returns-clause-late_messages c = LateMessages_holds

pub returns-clause-restarted_member : goal.returns-clause-restarted_member
returns-clause-restarted_member c = RestartedMember_holds

pub returns-clause-majority_write_and_read : goal.returns-clause-majority_write_and_read
returns-clause-majority_write_and_read c = MajorityWriteAndRead_holds

pub returns-clause-timed_out_write : goal.returns-clause-timed_out_write
returns-clause-timed_out_write c = TimedOutWrite_holds

pub returns-clause-register_writes : goal.returns-clause-register_writes
returns-clause-register_writes c = RegisterWrites_holds

pub returns-clause-refusals : goal.returns-clause-refusals
returns-clause-refusals c = Refusals_holds

pub returns-clause-other_kinds : goal.returns-clause-other_kinds
returns-clause-other_kinds c = OtherKinds_holds

pub returns-clause-fifty_deltas : goal.returns-clause-fifty_deltas
returns-clause-fifty_deltas c = FiftyDeltas_holds

pub returns-clause-fifty_one_deltas : goal.returns-clause-fifty_one_deltas
returns-clause-fifty_one_deltas c = FiftyOneDeltas_holds

pub returns-clause-carts : goal.returns-clause-carts
returns-clause-carts c = Carts_holds

pub returns-clause-failing_store : goal.returns-clause-failing_store
returns-clause-failing_store c = FailingStore_holds

pub returns-clause-failing_load : goal.returns-clause-failing_load
returns-clause-failing_load c = FailingLoad_holds

pub returns-clause-generated_script : goal.returns-clause-generated_script
returns-clause-generated_script c = GeneratedScript_holds

pub returns-clause-two_members : goal.returns-clause-two_members
returns-clause-two_members c = TwoMembers_holds

pub returns-clause-flushed_register : goal.returns-clause-flushed_register
returns-clause-flushed_register c = FlushedRegister_holds

pub returns-clause-gossiped_counter : goal.returns-clause-gossiped_counter
returns-clause-gossiped_counter c = GossipedCounter_holds

pub returns-clause-three_members : goal.returns-clause-three_members
returns-clause-three_members c = ThreeMembers_holds
