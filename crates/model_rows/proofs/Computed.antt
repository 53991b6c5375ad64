-- The worked scripts, by computation.
use Rattle.std.proofs.Common.{refl}
use Rattle.std.specs.Fmt.{digits}
use Rattle.json.specs.Print.{escape_byte}
use Rattle.model_rows.specs.Rows.{Meanings, EmptyScript, OneMember, Repeats, AddWins, DeltaOvertakesItsCause, PrunedCounter, BlockedPrune, ReplacedDot, OwnerDeparts, LateMessages, RestartedMember, MajorityWriteAndRead, TimedOutWrite, RegisterWrites, Refusals, OtherKinds, FiftyDeltas, FiftyOneDeltas, Carts, FailingStore, FailingLoad, GeneratedScript, TwoMembers, FlushedRegister, GossipedCounter, ThreeMembers}

pub Meanings_holds : Meanings
unfolding digits escape_byte
Meanings_holds = (refl, refl)

pub EmptyScript_holds : EmptyScript
unfolding digits escape_byte
EmptyScript_holds = refl

pub OneMember_holds : OneMember
unfolding digits escape_byte
OneMember_holds = refl

pub Repeats_holds : Repeats
unfolding digits escape_byte
Repeats_holds = refl

pub AddWins_holds : AddWins
unfolding digits escape_byte
AddWins_holds = refl

pub DeltaOvertakesItsCause_holds : DeltaOvertakesItsCause
unfolding digits escape_byte
DeltaOvertakesItsCause_holds = refl

pub PrunedCounter_holds : PrunedCounter
unfolding digits escape_byte
PrunedCounter_holds = refl

pub BlockedPrune_holds : BlockedPrune
unfolding digits escape_byte
BlockedPrune_holds = refl

pub ReplacedDot_holds : ReplacedDot
unfolding digits escape_byte
ReplacedDot_holds = refl

pub OwnerDeparts_holds : OwnerDeparts
unfolding digits escape_byte
OwnerDeparts_holds = refl

pub LateMessages_holds : LateMessages
unfolding digits escape_byte
LateMessages_holds = refl

pub RestartedMember_holds : RestartedMember
unfolding digits escape_byte
RestartedMember_holds = refl

pub MajorityWriteAndRead_holds : MajorityWriteAndRead
unfolding digits escape_byte
MajorityWriteAndRead_holds = refl

pub TimedOutWrite_holds : TimedOutWrite
unfolding digits escape_byte
TimedOutWrite_holds = refl

pub RegisterWrites_holds : RegisterWrites
unfolding digits escape_byte
RegisterWrites_holds = refl

pub Refusals_holds : Refusals
unfolding digits escape_byte
Refusals_holds = refl

pub OtherKinds_holds : OtherKinds
unfolding digits escape_byte
OtherKinds_holds = refl

pub FiftyDeltas_holds : FiftyDeltas
unfolding digits escape_byte
FiftyDeltas_holds = refl

pub FiftyOneDeltas_holds : FiftyOneDeltas
unfolding digits escape_byte
FiftyOneDeltas_holds = refl

pub Carts_holds : Carts
unfolding digits escape_byte
Carts_holds = refl

pub FailingStore_holds : FailingStore
unfolding digits escape_byte
FailingStore_holds = refl

pub FailingLoad_holds : FailingLoad
unfolding digits escape_byte
FailingLoad_holds = refl

pub GeneratedScript_holds : GeneratedScript
unfolding digits escape_byte
GeneratedScript_holds = refl

pub TwoMembers_holds : TwoMembers
unfolding digits escape_byte
TwoMembers_holds = refl

pub FlushedRegister_holds : FlushedRegister
unfolding digits escape_byte
FlushedRegister_holds = refl

pub GossipedCounter_holds : GossipedCounter
unfolding digits escape_byte
GossipedCounter_holds = refl

pub ThreeMembers_holds : ThreeMembers
unfolding digits escape_byte
ThreeMembers_holds = refl
