use Rattle.std.proofs.Common.{◌≡◌, IsTrue, Ok, Err, refl, sym, subst, inl, inr, arith, rules}
use Rattle.sqlite.specs.Held.{state}
use Rattle.sqlite.specs.State.{HasCleanDisk, KeepsCommit}
use Rattle.member_sqlite.specs.Statements.{PutsTogether, begun}
use Rattle.member_sqlite.proofs.Putting.{was_inside, keeps_undone, keeps_itself, uncommitted, each_stays}
use Rattle.member_sqlite.proofs.together.put_together.Goals as goal

pub returns-then-not-is_autocommit : goal.returns-then-not-is_autocommit
returns-then-not-is_autocommit g c clean =
    (keeps_itself g.S.Store c.args.conn.now, inr (inr (was_inside _ _ c.is_autocommit.ensures.value c.if-not-is_autocommit.true, refl)))

pub returns-in-Ok-commit : goal.returns-in-Ok-commit
returns-in-Ok-commit g c clean =
    let last = c.put_each.new.all.conn.now in
    let end = c.commit.new.self.0 in
    let same : end ≡ c.conn-2-1.given.0 = search rules in
    let late : HasCleanDisk (state g.S.Store end) = subst (λ h. HasCleanDisk (state g.S.Store h)) (sym same) clean in
    let early : HasCleanDisk (state g.S.Store last) = omega (arith, c.commit.ensures.survives.clean) in
    let started = c.transaction-all.ensures.begun in
    let done = c.in-Ok-commit.ensures.ok late in
    subst (λ h. PutsTogether g.S.Store c.args.entries.now c.args.conn.now h (Ok tt)) same
    (last, rw started at (c.in-Ok.ensures.put early (rw started)), (done.1, done.2, done.3))

pub returns-in-Err-commit : goal.returns-in-Err-commit
returns-in-Err-commit g c clean =
    let old = c.args.conn.now in
    let last = c.put_each.new.all.conn.now in
    let end = c.commit.new.self.0 in
    let same : end ≡ c.conn-2-1.given.0 = search rules in
    let late : HasCleanDisk (state g.S.Store end) = subst (λ h. HasCleanDisk (state g.S.Store h)) (sym same) clean in
    let early : HasCleanDisk (state g.S.Store last) = omega (arith, c.commit.ensures.survives.clean) in
    let started = c.transaction-all.ensures.begun in
    let each = rw started at (c.in-Ok.ensures.put early (rw started)) in
    let inside : IsTrue last.in_transaction = each_stays g.S.Store c.args.entries.now (begun g.S.Store old) last each refl in
    let failed = c.in-Err-commit.ensures.err late in
    let undone = uncommitted g.S.Store last end c.in-Err-commit.error failed inside in
    let raw = rw started at (c.in-Ok.ensures.kept early) in
    let kept : KeepsCommit (state g.S.Store old) (state g.S.Store last) = record { was_open = raw.was_open; committed = raw.committed } in
    subst (λ h. PutsTogether g.S.Store c.args.entries.now old h (Err c.refusal_of.result)) same (
      keeps_undone g.S.Store old last end undone kept (c.is_autocommit.ensures.settled c.if-not-is_autocommit.false),
      inr (inl (record { last = last; put = each; error = c.in-Err-commit.error; told = c.refusal_of.ensures; refused = failed })),
    )

pub returns-in-Err : goal.returns-in-Err
returns-in-Err g c clean =
    let old = c.args.conn.now in
    let last = c.put_each.new.all.conn.now in
    let end = c.drop-all.new.self.0 in
    let same : end ≡ c.conn-1.given.0 = search rules in
    let late : HasCleanDisk (state g.S.Store end) = subst (λ h. HasCleanDisk (state g.S.Store h)) (sym same) clean in
    let early : HasCleanDisk (state g.S.Store last) = omega (arith, c.drop-all.ensures.survives.clean) in
    let started = c.transaction-all.ensures.begun in
    let raw = rw started at (c.in-Err.ensures.kept early) in
    let kept : KeepsCommit (state g.S.Store old) (state g.S.Store last) = record { was_open = raw.was_open; committed = raw.committed } in
    subst (λ h. PutsTogether g.S.Store c.args.entries.now old h (Err c.in-Err.why)) same (
      keeps_undone g.S.Store old last end (c.drop-all.ensures.undone late) kept (c.is_autocommit.ensures.settled c.if-not-is_autocommit.false),
      inl (last, rw started at (c.in-Err.ensures.put early (rw started))),
    )
