-- The worked scripts, by computation.
use Rattle.std.proofs.Common.{refl}
use Rattle.std.specs.Fmt.{digits}
use Rattle.json.specs.Print.{escape_byte}
use Rattle.theorem_watching.specs.Rows.{Notices, RefusedRequests, AfterMerge, AfterGossip, SameValue, DeletedKey, EndedByRemove, EndedByRestart, SubscribedAgain, InOrder}

pub Notices_holds : Notices
unfolding digits escape_byte
Notices_holds = refl

pub RefusedRequests_holds : RefusedRequests
unfolding digits escape_byte
RefusedRequests_holds = refl

pub AfterMerge_holds : AfterMerge
unfolding digits escape_byte
AfterMerge_holds = refl

pub AfterGossip_holds : AfterGossip
unfolding digits escape_byte
AfterGossip_holds = refl

pub SameValue_holds : SameValue
unfolding digits escape_byte
SameValue_holds = refl

pub DeletedKey_holds : DeletedKey
unfolding digits escape_byte
DeletedKey_holds = refl

pub EndedByRemove_holds : EndedByRemove
unfolding digits escape_byte
EndedByRemove_holds = refl

pub EndedByRestart_holds : EndedByRestart
unfolding digits escape_byte
EndedByRestart_holds = refl

pub SubscribedAgain_holds : SubscribedAgain
unfolding digits escape_byte
SubscribedAgain_holds = refl

pub InOrder_holds : InOrder
unfolding digits escape_byte
InOrder_holds = refl
