use Rattle.std.proofs.Common.{rules, ◌≡◌, ◌<◌, false, true, length, arith, ◌∙◌}
use Rattle.trace_recorder.proofs.RowLaws.{counted_none, counted_news}
use Rattle.trace_recorder.proofs.rows.count_at.Goals as goal

pub returns-then-not-is_news-clause-counted : goal.returns-then-not-is_news-clause-counted
returns-then-not-is_news-clause-counted c =
    let less : c.args.place < length c.args.rows.now.items = omega (arith, c.requires, c.args.rows.now.ok.0) in
    let told : false ≡ c.is_news.result = grind rules in
    counted_none c.args.rows.now.items c.args.place c.args.at _ c.index_mut-row.result.now less c.index_mut-row.ensures.value (told ∙ c.is_news.ensures)

pub returns-clause-counted : goal.returns-clause-counted
returns-clause-counted c =
    let less : c.args.place < length c.args.rows.now.items = omega (arith, c.requires, c.args.rows.now.ok.0) in
    let told : true ≡ c.is_news.result = grind rules in
    counted_news c.args.rows.now.items c.args.place c.args.at _ c.index_mut-row.result.now less c.index_mut-row.ensures.value c.count.new.self (told ∙ c.is_news.ensures) c.in_ok-count.ensures
