use Rattle.std.proofs.Common.{◌≡◌, ◌∙◌, ap, sym, map, Some}
use Rattle.std.specs.Prelude.{slice_get, option_copied}
use Rattle.world_places.specs.Channels.{channel_at, channels_in, next_on, count_on}
use Rattle.world_places.proofs.Made.{next_seen, count_seen, lent_at}
use Rattle.world_places.proofs.links.Links.link.Goals as goal

pub returns-in-Some-clause-next : goal.returns-in-Some-clause-next
returns-in-Some-clause-next g c =
    let rows = c.deref.result.now in
    let row = c.in-Some.row.now in
    let at = c.from-in-Some.result in
    let found = c.get-in-Some.ensures.lookup in
    let here : slice_get rows c.from.result ≡ Some row = lent_at (λ x. x.now) rows c.from.result (Some c.in-Some.row) c.in-Some.ensures.lookup.0 c.in-Some.ensures.lookup.1 in
    let there : slice_get row.items at ≡ option_copied c.get-in-Some.result = ap (λ items. slice_get items at) (sym c.deref-in-Some.ensures.value) ∙ lent_at (λ x. x.now) c.deref-in-Some.result.now at c.get-in-Some.result found.0 found.1 in
    next_seen rows c.from.result at row (option_copied c.get-in-Some.result) here there
    ∙ (λ i. next_on (channel_at ((ap (map (channels_in {M = g.row.M.Denot})) c.deref.ensures.value ∙ c.self.view_is) i) ((c.from.ensures ∙ c.number.ensures.value) i) ((c.from-in-Some.ensures ∙ c.number-in-Some.ensures.value) i)))

pub returns-in-Some-clause-count : goal.returns-in-Some-clause-count
returns-in-Some-clause-count g c =
    let rows = c.deref.result.now in
    let row = c.in-Some.row.now in
    let at = c.from-in-Some.result in
    let found = c.get-in-Some.ensures.lookup in
    let here : slice_get rows c.from.result ≡ Some row = lent_at (λ x. x.now) rows c.from.result (Some c.in-Some.row) c.in-Some.ensures.lookup.0 c.in-Some.ensures.lookup.1 in
    let there : slice_get row.items at ≡ option_copied c.get-in-Some.result = ap (λ items. slice_get items at) (sym c.deref-in-Some.ensures.value) ∙ lent_at (λ x. x.now) c.deref-in-Some.result.now at c.get-in-Some.result found.0 found.1 in
    count_seen rows c.from.result at row (option_copied c.get-in-Some.result) here there
    ∙ (λ i. count_on (channel_at ((ap (map (channels_in {M = g.row.M.Denot})) c.deref.ensures.value ∙ c.self.view_is) i) ((c.from.ensures ∙ c.number.ensures.value) i) ((c.from-in-Some.ensures ∙ c.number-in-Some.ensures.value) i)))
