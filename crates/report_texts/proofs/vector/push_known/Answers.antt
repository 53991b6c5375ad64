use Rattle.std.proofs.Common.{◌∙◌, ap, map, string_bytes}
use Rattle.report_texts.specs.Entries.{known_text}
use Rattle.report_texts.proofs.vector.push_known.Goals as goal

pub returns : goal.returns
unfolding known_text
returns g c = λ log entry stands.
    let pairs = ap (map string_bytes) c.as_slice.ensures ∙ c.in_ok-pairs.ensures log entry stands in
    rw pairs at c.push_words_or_dash.ensures
