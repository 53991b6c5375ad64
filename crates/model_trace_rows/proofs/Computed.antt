-- The worked traces, by computation.
use Rattle.std.proofs.Common.{refl}
use Rattle.std.specs.Fmt.{digits}
use Rattle.json.specs.Print.{escape_byte}
use Rattle.model_trace_rows.specs.Rows.{ATrace, BrokenTraces, OwnerDeparts, FailingStores, DeletedKey, FirstRule, OfDeletedKeys, SecondRule, ThirdRule, FourthRule, LastIdentity, LostUpdate, DoubledIncrement, AnotherSystem}

pub ATrace_holds : ATrace
unfolding digits escape_byte
ATrace_holds = (refl, refl)

pub BrokenTraces_holds : BrokenTraces
unfolding digits escape_byte
BrokenTraces_holds = (refl, refl, refl)

pub OwnerDeparts_holds : OwnerDeparts
unfolding digits escape_byte
OwnerDeparts_holds = (refl, refl)

pub FailingStores_holds : FailingStores
unfolding digits escape_byte
FailingStores_holds = (refl, refl, refl, refl)

pub DeletedKey_holds : DeletedKey
unfolding digits escape_byte
DeletedKey_holds = (refl, refl)

pub FirstRule_holds : FirstRule
unfolding digits escape_byte
FirstRule_holds = (refl, refl, refl, refl, refl)

pub OfDeletedKeys_holds : OfDeletedKeys
unfolding digits escape_byte
OfDeletedKeys_holds = (refl, refl, refl, refl, refl)

pub SecondRule_holds : SecondRule
unfolding digits escape_byte
SecondRule_holds = (refl, refl, refl)

pub ThirdRule_holds : ThirdRule
unfolding digits escape_byte
ThirdRule_holds = (refl, refl)

pub FourthRule_holds : FourthRule
unfolding digits escape_byte
FourthRule_holds = (refl, refl, refl)

pub LastIdentity_holds : LastIdentity
unfolding digits escape_byte
LastIdentity_holds = (refl, refl)

pub AnotherSystem_holds : AnotherSystem
unfolding digits escape_byte
AnotherSystem_holds = (refl, refl, refl)

pub LostUpdate_holds : LostUpdate
unfolding digits escape_byte
LostUpdate_holds = (refl, refl, refl)

pub DoubledIncrement_holds : DoubledIncrement
unfolding digits escape_byte
DoubledIncrement_holds = (refl, refl)
