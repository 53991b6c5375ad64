-- Which records a version vector counts.
use Rattle.std.specs.Prelude.{Bool, nat_le, List, filter}
use Rattle.base_vectors.specs.Vectors.{Numbers, number_at}
use Rattle.data_meaning.specs.declared.record.Record.{Record}

abbrev pub is_counted : Numbers → Record → Bool
is_counted taken r = nat_le r.number (number_at taken r.origin)

abbrev pub counted : Numbers → List Record → List Record
counted taken records = filter (is_counted taken) records
