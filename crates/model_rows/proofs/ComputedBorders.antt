-- The borders, by computation.
use Rattle.std.proofs.Common.{refl}
use Rattle.std.specs.Fmt.{digits}
use Rattle.json.specs.Print.{escape_byte}
use Rattle.model_kinds.specs.declared.kind.Kind.TheVariants.{GSet, OrSet}
use Rattle.model_rows.specs.Borders.{SecondPrune, NackedWrite, FailingTick, BlockedSettle, EmptyRead, FullMember, BlockedMinus, FailingClear, JoinAfterStored, FailingInstall, TooManyIdentities, NewerMark, SetFull}

pub SecondPrune_holds : SecondPrune
unfolding digits escape_byte
SecondPrune_holds = refl

pub NackedWrite_holds : NackedWrite
unfolding digits escape_byte
NackedWrite_holds = refl

pub FailingTick_holds : FailingTick
unfolding digits escape_byte
FailingTick_holds = refl

pub BlockedSettle_holds : BlockedSettle
unfolding digits escape_byte
BlockedSettle_holds = refl

pub EmptyRead_holds : EmptyRead
unfolding digits escape_byte
EmptyRead_holds = refl

pub FullMember_holds : FullMember
unfolding digits escape_byte
FullMember_holds = refl

pub BlockedMinus_holds : BlockedMinus
unfolding digits escape_byte
BlockedMinus_holds = refl

pub FailingClear_holds : FailingClear
unfolding digits escape_byte
FailingClear_holds = refl

pub JoinAfterStored_holds : JoinAfterStored
unfolding digits escape_byte
JoinAfterStored_holds = refl

pub FailingInstall_holds : FailingInstall
unfolding digits escape_byte
FailingInstall_holds = refl

pub TooManyIdentities_holds : TooManyIdentities
unfolding digits escape_byte
TooManyIdentities_holds = refl

pub NewerMark_holds : NewerMark
unfolding digits escape_byte
NewerMark_holds = refl

pub GrowingSetFull_holds : SetFull GSet
unfolding digits escape_byte
GrowingSetFull_holds = refl

pub SetFull_holds : SetFull OrSet
unfolding digits escape_byte
SetFull_holds = refl
