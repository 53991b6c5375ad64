use Rattle.std.proofs.Common.{ap, ◌∙◌, ◌++◌, ◌+◌, drop, List, arith}
use Rattle.std.specs.List.{filter}
use Rattle.data_orset.specs.Placing.{Placed, key_of}
use Rattle.data_orset.proofs.Passes.{kept_next, kept_end}
use Rattle.data_orset.proofs.dots.append_kept.Goals as goal

pub loop-index-preserved : goal.loop-index-preserved
loop-index-preserved g c =
    ap (λ (all : List Placed). all ++ filter (λ p. g.R.Rule.keeps c.args.rule.now (key_of p)) (drop (c.loop-index.index + 1) c.args.dots.now)) c.in_ok-append.ensures
    ∙ kept_next (λ p. g.R.Rule.keeps c.args.rule.now (key_of p)) c.args.dots.now c.loop-index.all _ c.loop-index.index c.keeps.result (omega (arith, c.loop-index-test.true, c.len-index-end.ensures)) c.keeps.ensures c.loop-index.invariant

pub returns : goal.returns
returns g c =
    kept_end (λ p. g.R.Rule.keeps c.args.rule.now (key_of p)) c.args.dots.now c.loop-index.all _ c.loop-index.index (omega (arith, c.loop-index-test.false, c.len-index-end.ensures)) c.loop-index.invariant
