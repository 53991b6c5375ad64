use Rattle.std.proofs.Common.{rules, tests, ◌&&◌, not, ◌==◌}
use Rattle.std.proofs.lemmas.Iterator.{YieldsList-from_slice, YieldsList-from_zip}
use Rattle.std.proofs.lemmas.Iterator.Search.{find_from_yields_List}
use Rattle.data_meaning.specs.Stamping.{Timed}
use Rattle.data_meaning.proofs.timestamps.first_with.Goals as goal

pub returns : goal.returns
returns c =
    find_from_yields_List (λ (j : Timed). not (c.args.wanted == 0) && (j.1 == c.args.wanted)) c.find.new.self _ _ c.find.ensures.ran
    (YieldsList-from_zip (YieldsList-from_slice c.args.records.now cc) (YieldsList-from_slice c.args.timestamps.now cc)) (λ x b q k. search (rules, tests))
