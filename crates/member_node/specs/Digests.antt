-- The digest of an entry for which an envelope stands.
use Rattle.std.specs.Prelude.{ℕ, List}
use Rattle.model_members.specs.Entry.{Entry}
use Rattle.data_lattice.specs.declared.replica.Replica.{Ghosts}
use Rattle.data_lattice.specs.declared.spelled.SpelledData.{Ghosts as Spelling}
use Rattle.data_envelope.specs.declared.envelope.Envelope.{Envelope}
use Rattle.data_codec.specs.Entries.{entry_digest}

-- that of the spelling, by the kind of the envelope
abbrev pub spelled_digest : {T Kind Op Delta : Type 0} → Ghosts T Kind Op Delta → Spelling T Kind Op Delta → Envelope T Kind Op Delta → Entry Op → List ℕ
spelled_digest ghosts spelling envelope entry = entry_digest spelling.history_byte spelling.history_spelled (ghosts.kind_of envelope.value) entry
