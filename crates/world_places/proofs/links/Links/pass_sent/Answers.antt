use Rattle.std.proofs.Common.{ℕ, ◌<◌, ◌∙◌, arith, sym, subst, List, length, map, set}
use Rattle.world_places.specs.Channels.{Channel, channel_at, row_of, channels_in, count_on, passed, ChangesOne}
use Rattle.world_places.proofs.Made.{counted_link, changed_made, made_counted}
use Rattle.world_places.proofs.Sendings.{row_at, changed_one, changed_none}
use Rattle.world_places.proofs.links.Links.pass_sent.Goals as goal

pub pass_in-requires : goal.pass_in-requires
pass_in-requires g c =
    let rows = c.self.inside.rows in
    let row = c.index_mut.result.now in
    let within : c.from-sender.result < length rows.items = omega (arith, rows.ok.0) in
    let here =
    sym (λ i. channel_at (c.self.view_is i) ((c.from-sender.ensures ∙ c.number.ensures.value) i) ((c.from.ensures ∙ c.number-then-sender-len.ensures.value) i))
    ∙ row_at channels_in rows.items c.from-sender.result c.from.result row within c.index_mut.ensures.value in
    counted_link row c.from.result c.args.index (subst (λ o. c.args.index < count_on o) here c.requires)

pub returns-then-sender-len : goal.returns-then-sender-len
returns-then-sender-len g c =
    let rows = c.self.inside.rows in
    let row = c.index_mut.result.now in
    let seen = channels_in {M = g.row.M.Denot} in
    let within : c.from-sender.result < length rows.items = omega (arith, rows.ok.0) in
    let here =
    sym (λ i. channel_at (c.self.view_is i) ((c.from-sender.ensures ∙ c.number.ensures.value) i) ((c.from.ensures ∙ c.number-then-sender-len.ensures.value) i))
    ∙ row_at channels_in rows.items c.from-sender.result c.from.result row within c.index_mut.ensures.value in
    let whole = made_counted (row_of row) c.from.result c.args.index (subst (λ o. c.args.index < count_on o) here c.requires) in
    let each = changed_made (passed c.args.index) c.from.result (row_of row) (row_of row) (row_of c.pass_in.new.row) (sym whole) c.pass_in.ensures in
    let new = map seen (set rows.items c.from-sender.result c.pass_in.new.row) in
    subst (λ (old : List (List (Channel g.row.M.Denot))). ChangesOne (passed c.args.index) c.args.from c.args.to old new) c.self.view_is
    (subst (λ (from : ℕ). ChangesOne (passed c.args.index) from c.args.to (map seen rows.items) new) (c.from-sender.ensures ∙ c.number.ensures.value)
    (subst (λ (to : ℕ). ChangesOne (passed c.args.index) c.from-sender.result to (map seen rows.items) new) (c.from.ensures ∙ c.number-then-sender-len.ensures.value)
    (changed_one seen (passed c.args.index) rows.items c.from-sender.result c.from.result row c.pass_in.new.row within c.index_mut.ensures.value each)))

pub returns-else-sender-len : goal.returns-else-sender-len
returns-else-sender-len g c =
    let rows = c.self.inside.rows in
    let seen = channels_in {M = g.row.M.Denot} in
    subst (λ (old : List (List (Channel g.row.M.Denot))). ChangesOne (passed c.args.index) c.args.from c.args.to old old) c.self.view_is
    (changed_none seen (passed c.args.index) rows.items c.args.from c.args.to (omega (arith, rows.ok.0)))
