use Rattle.std.proofs.Common.{List, ap, take, drop, ◌++◌, ◌+◌, ◌∙◌}
use Rattle.data_orset.specs.declared.dot_list.Spot.{Spot}
use Rattle.data_orset.proofs.Tables.{put_then_cut}
use Rattle.data_orset.proofs.dot_list.replace.Goals as goal

pub returns-clause-ok : goal.returns-clause-ok
returns-clause-ok c =
    c.cut.ensures ∙ ap (λ (ss : List Spot). take (c.args.start + 1) ss ++ drop (c.args.end + 1) ss) c.in_ok-insert.ensures.items
    ∙ put_then_cut c.args.spots.now.items c.args.spot.now c.args.start c.args.end c.requires.order c.requires.within
