use Rattle.std.proofs.Common.{◌≡◌, ◌≢◌, [], length, ap, subst, inl, inr, arith}
use Rattle.std.proofs.lemmas.List.{nil_from_length}
use Rattle.std.proofs.lemmas.Bool.Decides.{nat_tests}
use Rattle.sqlite.specs.Held.{state}
use Rattle.sqlite.specs.State.{HasCleanDisk}
use Rattle.member_sqlite.specs.Adopting.{Asked, listed_text}
use Rattle.member_sqlite.proofs.Matching.{match_then}
use Rattle.member_sqlite.proofs.adopting.adopt.Goals as goal

pub returns-then-is_empty-clause-adopted : goal.returns-then-is_empty-clause-adopted
returns-then-is_empty-clause-adopted g c clean =
    let early : HasCleanDisk (state g.S.Store c.query_all.new.self) = omega (arith, c.fill.ensures.clean) in
    let count : length c.in-Ok.rows.items ≡ 0 = grind (arith, nat_tests, c.in-Ok.rows.ok.0, c.is_empty.ensures, c.if-is_empty.true) in
    let none : c.in-Ok.rows.items ≡ [] = nil_from_length c.in-Ok.rows.items count in
    let asked = subst (Asked g.S.Store c.args.conn.now c.query_all.new.self listed_text) none (c.in-Ok.ensures.ok early) in
    match_then c.fill.result (c.fill.ensures.filled clean) (λ table filled. inl (c.query_all.new.self, asked, filled)) (λ e unfilled. inr (inl (c.query_all.new.self, asked, unfilled)))

pub returns-in-Ok-clause-adopted : goal.returns-in-Ok-clause-adopted
returns-in-Ok-clause-adopted g c clean =
    let early : HasCleanDisk (state g.S.Store c.query_all.new.self) = omega (arith, c.find.ensures.clean) in
    let some : c.in-Ok.rows.items ≢ [] = λ nil. let count : length c.in-Ok.rows.items ≡ 0 = ap length nil in grind (arith, nat_tests, c.in-Ok.rows.ok.0, c.is_empty.ensures, c.if-is_empty.false) in
    let asked = c.in-Ok.ensures.ok early in
    match_then c.find.result (c.find.ensures.found clean) (λ table found. inr (c.query_all.new.self, c.in-Ok.rows.items, some, asked, found))
    (λ e unfound. inr (inr (c.query_all.new.self, c.in-Ok.rows.items, some, asked, unfound)))

pub returns-clause-adopted : goal.returns-clause-adopted
returns-clause-adopted g c clean = inl (c.in-Err.error, c.told.ensures, c.in-Err.ensures.err clean)
