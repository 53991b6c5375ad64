use Rattle.std.proofs.Common.{◌≡◌, ◌∙◌, ap, sym, length, None, Some}
use Rattle.std.specs.Prelude.{slice_get}
use Rattle.std.proofs.lemmas.Bool.{ltb-false}
use Rattle.std.proofs.lemmas.Option.{slice_get_past}
use Rattle.world_places.proofs.Made.{lent_at, message_seen, message_missing, row_missing}
use Rattle.world_places.proofs.links.message_in.Goals as goal

pub returns-in-Some-get : goal.returns-in-Some-get
returns-in-Some-get g c =
    let rows = c.args.rows.now in
    let row = c.in-Some.row.now in
    let link = c.in-Some-get.link.now in
    let found = c.get-in-Some-get.ensures.lookup in
    let here : slice_get rows c.args.from ≡ Some row = lent_at (λ x. x.now) rows c.args.from (Some c.in-Some.row) c.in-Some.ensures.lookup.0 c.in-Some.ensures.lookup.1 in
    let there : slice_get row.items c.args.to ≡ Some link = ap (λ items. slice_get items c.args.to) (sym c.deref.ensures.value) ∙ lent_at (λ x. x.now) c.deref.result.now c.args.to (Some c.in-Some-get.link) c.in-Some-get.ensures.lookup.0 c.in-Some-get.ensures.lookup.1 in
    sym (ap (λ items. slice_get items c.args.index) (sym c.deref-in-Some-get.ensures.value) ∙ lent_at (λ x. x.now) c.deref-in-Some-get.result.now c.args.index c.get-in-Some-get.result found.0 found.1)
    ∙ message_seen rows c.args.from c.args.to c.args.index row link here there

pub returns-in-None-get : goal.returns-in-None-get
returns-in-None-get g c =
    let rows = c.args.rows.now in
    let row = c.in-Some.row.now in
    let links = c.deref.result.now in
    let here : slice_get rows c.args.from ≡ Some row = lent_at (λ x. x.now) rows c.args.from (Some c.in-Some.row) c.in-Some.ensures.lookup.0 c.in-Some.ensures.lookup.1 in
    let none : slice_get row.items c.args.to ≡ None = ap (λ items. slice_get items c.args.to) (sym c.deref.ensures.value) ∙ slice_get_past links c.args.to (ltb-false c.args.to (length links) (sym c.in-None-get.ensures.lookup.0)) in
    message_missing rows c.args.from c.args.to c.args.index row here none

pub returns-in-None : goal.returns-in-None
returns-in-None g c =
    let rows = c.args.rows.now in
    row_missing rows c.args.from c.args.to c.args.index (slice_get_past rows c.args.from (ltb-false c.args.from (length rows) (sym c.in-None.ensures.lookup.0)))
