use Rattle.std.proofs.Common.{ap, ◌∙◌}
use Rattle.sha1.specs.Sha1.{sha1}
use Rattle.data_codec.specs.Entries.{entry_digest}
use Rattle.data_codec.proofs.spelling.digest.Goals as goal

pub returns-clause-value : goal.returns-clause-value
returns-clause-value g c = c.digest.ensures ∙ ap sha1 (c.deref.ensures.value ∙ c.in_ok-bytes.ensures.value)

pub returns-clause-image : goal.returns-clause-image
unfolding entry_digest
returns-clause-image g c = λ log entry stands. c.digest.ensures ∙ ap sha1 (c.deref.ensures.value ∙ c.in_ok-bytes.ensures.image log entry stands)
