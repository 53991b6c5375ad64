use Rattle.theorem_watching.proofs.Computed.{Notices_holds, RefusedRequests_holds, AfterMerge_holds, AfterGossip_holds, SameValue_holds, DeletedKey_holds, EndedByRemove_holds, EndedByRestart_holds, SubscribedAgain_holds, InOrder_holds}
use Rattle.theorem_watching.proofs.laws.worked_subscriptions.Goals as goal

pub returns-clause-notices : goal.returns-clause-notices
returns-clause-notices c = Notices_holds

pub returns-clause-refused_requests : goal.returns-clause-refused_requests
returns-clause-refused_requests c = RefusedRequests_holds

pub returns-clause-after_merge : goal.returns-clause-after_merge
returns-clause-after_merge c = AfterMerge_holds

pub returns-clause-after_gossip : goal.returns-clause-after_gossip
returns-clause-after_gossip c = AfterGossip_holds

pub returns-clause-same_value : goal.returns-clause-same_value
returns-clause-same_value c = SameValue_holds

pub returns-clause-deleted_key : goal.returns-clause-deleted_key
returns-clause-deleted_key c = DeletedKey_holds

pub returns-clause-ended_by_remove : goal.returns-clause-ended_by_remove
returns-clause-ended_by_remove c = EndedByRemove_holds

pub returns-clause-ended_by_restart : goal.returns-clause-ended_by_restart
returns-clause-ended_by_restart c = EndedByRestart_holds

pub returns-clause-subscribed_again : goal.returns-clause-subscribed_again
returns-clause-subscribed_again c = SubscribedAgain_holds

pub returns-clause-in_order : goal.returns-clause-in_order
returns-clause-in_order c = InOrder_holds
