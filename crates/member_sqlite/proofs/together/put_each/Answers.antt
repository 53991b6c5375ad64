use Rattle.std.proofs.Common.{◌≡◌, ◌+◌, ◌∷◌, ◌++◌, [], ◌∙◌, Ok, Err, refl, ap, sym, subst, take, take_all, arith}
use Rattle.std.proofs.lemmas.List.{take_more}
use Rattle.sqlite.proofs.InsideLemmas.{keeps_then}
use Rattle.member_sqlite.specs.Statements.{ExecutesWithin, PutsEach}
use Rattle.member_sqlite.proofs.Putting.{Puts, has_put_nothing, has_put_more, stops_at}
use Rattle.member_sqlite.proofs.together.put_each.Goals as goal

pub loop-entry-init : goal.loop-entry-init
loop-entry-init g c = (refl, has_put_nothing g.S.Store c.args.all.now.conn.now)

pub loop-entry-preserved : goal.loop-entry-preserved
loop-entry-preserved g c =
    let i = c.loop-entry.entry-index in
    let entries = c.args.entries.now in
    let entry = c.entry-item.result in
    let more : take (i + 1) entries ≡ take i entries ++ entry ∷ [] = take_more entries i entry c.loop-entry-test.true ∙ ap (λ e. take i entries ++ e ∷ []) (sym c.entry-item.is) in
    let one : Puts g.S.Store entry c.loop-entry.all.conn.now c.put_within.new.all.conn.now (Ok tt) = record { put = c.in-Ok.ensures.put; kept = c.in-Ok.ensures.kept; clean = c.in-Ok.ensures.clean } in (
      c.in-Ok.ensures.same_reference ∙ c.loop-entry.invariant.0,
      rw more (has_put_more g.S.Store (take i entries) entry c.args.all.now.conn.now c.loop-entry.all.conn.now c.put_within.new.all.conn.now c.loop-entry.invariant.1 one),
    )

pub returns : goal.returns
returns g c =
    let all = take_all c.loop-entry.entry-index c.args.entries.now c.loop-entry-test.false in
    let put = c.loop-entry.invariant.1 in
    record {
      same_reference = c.loop-entry.invariant.0;
      put = λ clean inside. subst (λ entries. PutsEach g.S.Store ExecutesWithin entries c.args.all.now.conn.now c.loop-entry.all.conn.now) all (put.put clean inside);
      kept = put.kept;
      clean = put.clean;
    }

pub returns-in-Err : goal.returns-in-Err
returns-in-Err g c =
    let put = c.loop-entry.invariant.1 in
    let entry = c.entry-item.result in
    let one : Puts g.S.Store entry c.loop-entry.all.conn.now c.put_within.new.all.conn.now (Err c.in-Err.why) = record { put = c.in-Err.ensures.put; kept = c.in-Err.ensures.kept; clean = c.in-Err.ensures.clean } in
    record {
      same_reference = c.in-Err.ensures.same_reference ∙ c.loop-entry.invariant.0;
      put = λ clean inside. stops_at g.S.Store c.args.entries.now c.loop-entry.entry-index entry entry c.args.all.now.conn.now c.loop-entry.all.conn.now c.put_within.new.all.conn.now c.in-Err.why c.loop-entry-test.true c.entry-item.is put one clean inside;
      kept = λ clean. keeps_then _ _ _ (put.kept (omega (arith, one.clean))) (one.kept clean);
      clean = omega (arith, put.clean, one.clean);
    }
