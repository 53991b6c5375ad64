use Rattle.std.proofs.Common.{◌≡◌, IsTrue, Ok, Err, refl, sym, subst, inl, inr, arith, rules}
use Rattle.sqlite.specs.Held.{state}
use Rattle.sqlite.specs.State.{HasCleanDisk, KeepsCommit}
use Rattle.member_sqlite.specs.Layout.{LaysOut}
use Rattle.member_sqlite.proofs.Putting.{was_inside, keeps_undone, keeps_itself, uncommitted}
use Rattle.member_sqlite.proofs.layout.lay_out.Goals as goal

pub returns-then-not-is_autocommit-clause-laid : goal.returns-then-not-is_autocommit-clause-laid
returns-then-not-is_autocommit-clause-laid g c clean =
    (keeps_itself g.S.Store c.args.conn.now, inr (inr (was_inside _ _ c.is_autocommit.ensures.value c.if-not-is_autocommit.true, refl)))

pub returns-in-Ok-commit-clause-laid : goal.returns-in-Ok-commit-clause-laid
returns-in-Ok-commit-clause-laid g c clean =
    let last = c.execute_batch.new.self.conn.now in
    let end = c.commit.new.self.0 in
    let same : end ≡ c.conn-2-1.given.0 = search rules in
    let late : HasCleanDisk (state g.S.Store end) = subst (λ h. HasCleanDisk (state g.S.Store h)) (sym same) clean in
    let early : HasCleanDisk (state g.S.Store last) = omega (arith, c.commit.ensures.survives.clean) in
    let started = c.transaction-all.ensures.begun in
    let done = c.in-Ok-commit.ensures.ok late in
    subst (λ h. LaysOut g.S.Store c.args.conn.now h (Ok tt)) same
    (last, rw started at (c.in-Ok.ensures.ran early), (done.1, done.2, done.3))

pub returns-in-Err-commit-clause-laid : goal.returns-in-Err-commit-clause-laid
returns-in-Err-commit-clause-laid g c clean =
    let old = c.args.conn.now in
    let last = c.execute_batch.new.self.conn.now in
    let end = c.commit.new.self.0 in
    let same : end ≡ c.conn-2-1.given.0 = search rules in
    let late : HasCleanDisk (state g.S.Store end) = subst (λ h. HasCleanDisk (state g.S.Store h)) (sym same) clean in
    let early : HasCleanDisk (state g.S.Store last) = omega (arith, c.commit.ensures.survives.clean) in
    let started = c.transaction-all.ensures.begun in
    let inside : IsTrue last.in_transaction = rw started at (c.in-Ok.ensures.inside early) in
    let failed = c.in-Err-commit.ensures.err late in
    let undone = uncommitted g.S.Store last end c.in-Err-commit.error failed inside in
    let raw = rw started at (c.in-Ok.ensures.kept early) in
    let kept : KeepsCommit (state g.S.Store old) (state g.S.Store last) = record { was_open = raw.was_open; committed = raw.committed } in
    subst (λ h. LaysOut g.S.Store old h (Err c.in-Err-commit.error)) same (
      keeps_undone g.S.Store old last end undone kept (c.is_autocommit.ensures.settled c.if-not-is_autocommit.false),
      inr (inl (last, rw started at (c.in-Ok.ensures.ran early), failed)),
    )

pub returns-in-Err-clause-laid : goal.returns-in-Err-clause-laid
returns-in-Err-clause-laid g c clean =
    let old = c.args.conn.now in
    let last = c.execute_batch.new.self.conn.now in
    let end = c.drop-all.new.self.0 in
    let same : end ≡ c.conn-1.given.0 = search rules in
    let late : HasCleanDisk (state g.S.Store end) = subst (λ h. HasCleanDisk (state g.S.Store h)) (sym same) clean in
    let early : HasCleanDisk (state g.S.Store last) = omega (arith, c.drop-all.ensures.survives.clean) in
    let started = c.transaction-all.ensures.begun in
    let raw = rw started at (c.in-Err.ensures.kept early) in
    let kept : KeepsCommit (state g.S.Store old) (state g.S.Store last) = record { was_open = raw.was_open; committed = raw.committed } in
    subst (λ h. LaysOut g.S.Store old h (Err c.in-Err.error)) same (
      keeps_undone g.S.Store old last end (c.drop-all.ensures.undone late) kept (c.is_autocommit.ensures.settled c.if-not-is_autocommit.false),
      inl (last, rw started at (c.in-Err.ensures.ran early)),
    )
