-- The worked script, by computation.
use Rattle.std.proofs.Common.{refl}
use Rattle.theorem_notices.specs.Worked.{NoticesAreMet}

pub notices_are_met : NoticesAreMet
notices_are_met = record { begins = refl; untold = refl; goes = (refl, (refl, (refl, (refl, (refl, (refl, (refl, (refl, (refl, (refl, refl)))))))))); said = refl }
