use Rattle.std.proofs.Common.{refl}
use Rattle.std.specs.Fmt.{digits}
use Rattle.json.specs.Print.{escape_byte}
use Rattle.base_vectors.specs.Spelling.{pairs_of}
use Rattle.trace_text.specs.Texts.{trace_text}
use Rattle.trace_text.proofs.rows.worked_texts.Goals as goal

pub returns-clause-counted : goal.returns-clause-counted
unfolding digits escape_byte trace_text pairs_of
returns-clause-counted c = refl

pub returns-clause-owner_departs : goal.returns-clause-owner_departs
unfolding digits escape_byte trace_text pairs_of
returns-clause-owner_departs c = refl

pub returns-clause-deleted_key : goal.returns-clause-deleted_key
unfolding digits escape_byte trace_text pairs_of
returns-clause-deleted_key c = refl

pub returns-clause-another_system : goal.returns-clause-another_system
unfolding digits escape_byte trace_text pairs_of
returns-clause-another_system c = refl
