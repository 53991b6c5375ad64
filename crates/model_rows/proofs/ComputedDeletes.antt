-- The scripts with deleted keys, by computation.
use Rattle.std.proofs.Common.{refl}
use Rattle.std.specs.Fmt.{digits}
use Rattle.json.specs.Print.{escape_byte}
use Rattle.model_kinds.specs.declared.kind.Kind.TheVariants.{GSet, OrSet}
use Rattle.model_rows.specs.Deletes.{DeletedSet, DeleteAmongAdds, GossipedDelete, DeletedEntry, MajorityFindsDeleted, DeletedCounterPrunes, DeletedSettle, DeletedRestarts, DeletedKinds, DeletedFullSet}

pub DeletedSet_holds : DeletedSet
unfolding digits escape_byte
DeletedSet_holds = refl

pub DeleteAmongAdds_holds : DeleteAmongAdds
unfolding digits escape_byte
DeleteAmongAdds_holds = refl

pub GossipedDelete_holds : GossipedDelete
unfolding digits escape_byte
GossipedDelete_holds = refl

pub DeletedEntry_holds : DeletedEntry
unfolding digits escape_byte
DeletedEntry_holds = refl

pub MajorityFindsDeleted_holds : MajorityFindsDeleted
unfolding digits escape_byte
MajorityFindsDeleted_holds = refl

pub DeletedCounterPrunes_holds : DeletedCounterPrunes
unfolding digits escape_byte
DeletedCounterPrunes_holds = refl

pub DeletedSettle_holds : DeletedSettle
unfolding digits escape_byte
DeletedSettle_holds = refl

pub DeletedRestarts_holds : DeletedRestarts
unfolding digits escape_byte
DeletedRestarts_holds = refl

pub DeletedKinds_holds : DeletedKinds
unfolding digits escape_byte
DeletedKinds_holds = refl

pub DeletedFullGSet_holds : DeletedFullSet GSet
unfolding digits escape_byte
DeletedFullGSet_holds = refl

pub DeletedFullOrSet_holds : DeletedFullSet OrSet
unfolding digits escape_byte
DeletedFullOrSet_holds = refl
