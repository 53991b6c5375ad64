use Rattle.std.proofs.Common.{◌+◌, ◌-◌, ◌++◌, List, length, take, drop, subst, sym, ap, ◌∙◌, inl, inr}
use Rattle.model_history.specs.Texts.{Text}
use Rattle.data_growing.proofs.Merging.{IsMerged, merge_less, merge_equal, merge_greater, merge_end}
use Rattle.data_growing.proofs.elements.merged.Goals as goal
use Rattle.data_growing.proofs.elements.merged.Goals.{then-loop-here-test+else-there-theirs, else-loop-here-test}

pub loop-here-preserved-in-Less : goal.loop-here-preserved-in-Less
loop-here-preserved-in-Less c =
    subst (λ (all : List Text). IsMerged c.args.mine.now c.args.theirs.now all (c.loop-here.here + 1) c.loop-here.there) (sym c.in_ok-append-in-Less.ensures)
    (merge_less c.args.mine.now c.args.theirs.now c.loop-here.all.items c.loop-here.here c.loop-here.there c.index-mine-here.result c.index-theirs-there.result c.requires.mine c.requires.theirs
    c.loop-here-test.true c.if-there-theirs.true c.index-mine-here.is c.index-theirs-there.is c.loop-here.invariant (sym c.in-Less.ensures))

pub loop-here-preserved-in-Equal : goal.loop-here-preserved-in-Equal
loop-here-preserved-in-Equal c =
    subst (λ (all : List Text). IsMerged c.args.mine.now c.args.theirs.now all (c.loop-here.here + 1) (c.loop-here.there + 1)) (sym c.in_ok-append-in-Equal.ensures)
    (merge_equal c.args.mine.now c.args.theirs.now c.loop-here.all.items c.loop-here.here c.loop-here.there c.index-mine-here.result c.index-theirs-there.result c.requires.mine c.requires.theirs
    c.loop-here-test.true c.if-there-theirs.true c.index-mine-here.is c.index-theirs-there.is c.loop-here.invariant (sym c.in-Equal.ensures))

pub loop-here-preserved : goal.loop-here-preserved
loop-here-preserved c =
    subst (λ (all : List Text). IsMerged c.args.mine.now c.args.theirs.now all c.loop-here.here (c.loop-here.there + 1)) (sym c.in_ok-append-in-Greater.ensures)
    (merge_greater c.args.mine.now c.args.theirs.now c.loop-here.all.items c.loop-here.here c.loop-here.there c.index-mine-here.result c.index-theirs-there.result c.requires.mine c.requires.theirs
    c.loop-here-test.true c.if-there-theirs.true c.index-mine-here.is c.index-theirs-there.is c.loop-here.invariant (sym c.in-Greater.ensures))

pub returns : goal.returns
returns c =
    c.in_ok-append_all-2.ensures ∙ ap (λ (all : List Text). all ++ take (length c.args.theirs.now - c.loop-here.there) (drop c.loop-here.there c.args.theirs.now)) c.in_ok-append_all.ensures
    ∙ merge_end c.args.mine.now c.args.theirs.now c.loop-here.all.items c.loop-here.here c.loop-here.there c.requires.mine c.requires.theirs (elim c.loop-here-test.branch [
      | then-loop-here-test+else-there-theirs w ↦ inr w.if-there-theirs.false
      | else-loop-here-test w ↦ inl w.loop-here-test.false
    ]) c.loop-here.invariant
