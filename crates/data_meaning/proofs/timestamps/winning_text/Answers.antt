use Rattle.std.proofs.Common.{◌≡◌, None, ap, ◌∙◌, length}
use Rattle.std.specs.List.{zip}
use Rattle.data_meaning.specs.Stamping.{timestamps, first_with, newest_in, written_by}
use Rattle.data_meaning.proofs.timestamps.winning_text.Goals as goal

pub returns : goal.returns
returns c =
    let records = c.args.records.now in
    let same : c.deref.result.now ≡ timestamps records (length records) = c.deref.ensures.value ∙ c.in_ok-timestamps.ensures in
    let also : c.deref-2.result.now ≡ timestamps records (length records) = c.deref-2.ensures.value ∙ c.in_ok-timestamps.ensures in
    let newest : c.newest-newest.result ≡ newest_in (zip records (timestamps records (length records))) None = c.newest-newest.ensures ∙ ap (λ ts. newest_in (zip records ts) None) same in
    let winner = c.first_with.ensures ∙ ap (λ ts. first_with (zip records ts) c.newest-newest.result) also ∙ ap (first_with (zip records (timestamps records (length records)))) newest in
    c.written.ensures ∙ ap written_by winner
