use Rattle.std.proofs.Common.{refl}
use Rattle.report_texts.proofs.Ranges.{some_words}
use Rattle.report_texts.proofs.words.push_words_or_dash.Goals as goal

pub returns : goal.returns
returns c = rw (some_words c.args.words.now c.if-is_empty.ensures) (c.push_joined.ensures 32 refl)
