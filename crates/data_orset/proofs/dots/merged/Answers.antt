use Rattle.std.proofs.Common.{◌+◌, ◌++◌, List, [], ◌∷◌, drop, arith, subst, sym, ap, ◌∙◌, inl, inr, if◌then◌else◌}
use Rattle.std.specs.List.{filter}
use Rattle.data_orset.specs.Placing.{Placed, nth, key_of}
use Rattle.data_orset.proofs.Tables.{nth_at}
use Rattle.data_orset.proofs.Merging.{IsMerging, merge_less, merge_equal, merge_greater, merge_end}
use Rattle.data_orset.proofs.SetsOfDots.{merge_is}
use Rattle.data_orset.proofs.dots.merged.Goals as goal
use Rattle.data_orset.proofs.dots.merged.Goals.{then-loop-here-test+else-there-len, else-loop-here-test}

pub loop-here-preserved-in-Less : goal.loop-here-preserved-in-Less
loop-here-preserved-in-Less g c =
    subst (λ (all : List Placed). IsMerging c.args.both (λ p. g.M.Rule.keeps c.args.my_rule.now (key_of p)) (λ p. g.T.Rule.keeps c.args.their_rule.now (key_of p)) c.args.mine.now c.args.theirs.now all (c.loop-here.here + 1) c.loop-here.there)
    (sym (c.in_ok-append-in-Less.ensures ∙ ap (λ stays. c.loop-here.all ++ (if stays then (nth c.args.mine.now c.loop-here.here) ∷ [] else [])) c.keeps.ensures))
    (merge_less c.args.both (λ p. g.M.Rule.keeps c.args.my_rule.now (key_of p)) (λ p. g.T.Rule.keeps c.args.their_rule.now (key_of p)) c.args.mine.now c.args.theirs.now c.loop-here.all c.loop-here.here c.loop-here.there (nth c.args.mine.now c.loop-here.here) (nth c.args.theirs.now c.loop-here.there)
    (omega (arith, c.loop-here-test.true, c.len.ensures)) (omega (arith, c.if-there-len.true, c.len-in-loop-here.ensures)) (nth_at c.args.mine.now c.loop-here.here (omega (arith, c.loop-here-test.true, c.len.ensures))) (nth_at c.args.theirs.now c.loop-here.there (omega (arith, c.if-there-len.true, c.len-in-loop-here.ensures))) c.loop-here.invariant (sym c.in-Less.ensures))

pub loop-here-preserved-in-Equal : goal.loop-here-preserved-in-Equal
loop-here-preserved-in-Equal g c =
    subst (λ (all : List Placed). IsMerging c.args.both (λ p. g.M.Rule.keeps c.args.my_rule.now (key_of p)) (λ p. g.T.Rule.keeps c.args.their_rule.now (key_of p)) c.args.mine.now c.args.theirs.now all (c.loop-here.here + 1) (c.loop-here.there + 1)) (sym c.in_ok-append-in-Equal.ensures)
    (merge_equal c.args.both (λ p. g.M.Rule.keeps c.args.my_rule.now (key_of p)) (λ p. g.T.Rule.keeps c.args.their_rule.now (key_of p)) c.args.mine.now c.args.theirs.now c.loop-here.all c.loop-here.here c.loop-here.there (nth c.args.mine.now c.loop-here.here) (nth c.args.theirs.now c.loop-here.there)
    (omega (arith, c.loop-here-test.true, c.len.ensures)) (omega (arith, c.if-there-len.true, c.len-in-loop-here.ensures)) (nth_at c.args.mine.now c.loop-here.here (omega (arith, c.loop-here-test.true, c.len.ensures))) (nth_at c.args.theirs.now c.loop-here.there (omega (arith, c.if-there-len.true, c.len-in-loop-here.ensures))) c.loop-here.invariant (sym c.in-Equal.ensures))

pub loop-here-preserved : goal.loop-here-preserved
loop-here-preserved g c =
    subst (λ (all : List Placed). IsMerging c.args.both (λ p. g.M.Rule.keeps c.args.my_rule.now (key_of p)) (λ p. g.T.Rule.keeps c.args.their_rule.now (key_of p)) c.args.mine.now c.args.theirs.now all c.loop-here.here (c.loop-here.there + 1))
    (sym (c.in_ok-append-in-Greater.ensures ∙ ap (λ stays. c.loop-here.all ++ (if stays then (nth c.args.theirs.now c.loop-here.there) ∷ [] else [])) c.keeps-in-Greater.ensures))
    (merge_greater c.args.both (λ p. g.M.Rule.keeps c.args.my_rule.now (key_of p)) (λ p. g.T.Rule.keeps c.args.their_rule.now (key_of p)) c.args.mine.now c.args.theirs.now c.loop-here.all c.loop-here.here c.loop-here.there (nth c.args.mine.now c.loop-here.here) (nth c.args.theirs.now c.loop-here.there)
    (omega (arith, c.loop-here-test.true, c.len.ensures)) (omega (arith, c.if-there-len.true, c.len-in-loop-here.ensures)) (nth_at c.args.mine.now c.loop-here.here (omega (arith, c.loop-here-test.true, c.len.ensures))) (nth_at c.args.theirs.now c.loop-here.there (omega (arith, c.if-there-len.true, c.len-in-loop-here.ensures))) c.loop-here.invariant (sym c.in-Greater.ensures))

pub returns : goal.returns
returns g c =
    merge_is c.args.both (g.M.Rule.keeps c.args.my_rule.now) (g.T.Rule.keeps c.args.their_rule.now) c.args.mine.now c.args.theirs.now c.append_kept-2.new.all c.requires.mine c.requires.theirs
    (c.in_ok-append_kept-2.ensures ∙ ap (λ (all : List Placed). all ++ filter (λ p. g.T.Rule.keeps c.args.their_rule.now (key_of p)) (drop c.loop-here.there c.args.theirs.now)) c.in_ok-append_kept.ensures
    ∙ merge_end c.args.both (λ p. g.M.Rule.keeps c.args.my_rule.now (key_of p)) (λ p. g.T.Rule.keeps c.args.their_rule.now (key_of p)) c.args.mine.now c.args.theirs.now c.loop-here.all c.loop-here.here c.loop-here.there (elim c.loop-here-test.branch [
      | then-loop-here-test+else-there-len w ↦ inr (omega (arith, w.if-there-len.false, w.len-in-loop-here.ensures))
      | else-loop-here-test w ↦ inl (omega (arith, w.loop-here-test.false, c.len.ensures))
    ]) c.loop-here.invariant)
