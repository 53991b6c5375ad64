use Rattle.std.proofs.Common.{length, refl, subst, sym, arith}
use Rattle.std.proofs.lemmas.Option.{slice_get_read}
use Rattle.member_embedding.specs.Names.{AreDistinctBelow}
use Rattle.member_embedding.proofs.Names.{none_below, one_more, distinct_all, twice}
use Rattle.member_embedding.proofs.distinct.are_distinct.Goals as goal

pub loop-index-init : goal.loop-index-init
loop-index-init g c = none_below (λ decl. decl.key) c.args.keys.now

pub returns-then-is_among : goal.returns-then-is_among
returns-then-is_among g c =
    let here = slice_get_read c.args.keys.now (length c.args.keys.now) c.loop-index.index c.index-keys-index.result refl c.loop-index-test.true c.index-keys-index.is in
    ((λ is. absurd (cc is)), (λ distinct. absurd (twice (λ decl. decl.key) c.args.keys.now c.loop-index.index c.index-keys-index.result here (sym c.if-is_among.ensures) distinct)))

pub loop-index-preserved : goal.loop-index-preserved
loop-index-preserved g c =
    let here = slice_get_read c.args.keys.now (length c.args.keys.now) c.loop-index.index c.index-keys-index.result refl c.loop-index-test.true c.index-keys-index.is in
    one_more (λ decl. decl.key) c.args.keys.now c.loop-index.index c.index-keys-index.result here (sym c.if-is_among.ensures) c.loop-index.invariant

pub returns : goal.returns
returns g c = ((λ done. distinct_all (λ decl. decl.key) c.args.keys.now (subst (λ n. AreDistinctBelow (λ decl. decl.key) n c.args.keys.now) (let a = c.loop-index.auto.index-end in let b = c.loop-index-test.false in omega arith) c.loop-index.invariant)), (λ distinct. refl))
