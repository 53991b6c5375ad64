use Rattle.std.proofs.Common.{◌≡◌, ◌++◌}
use Rattle.std.specs.Prelude.{codes}
use Rattle.std.proofs.lemmas.Result.{err_from_is_err_and}
use Rattle.top_lines.specs.Saying.{AreHex, BringsBytes, IsOther, SaysStep, Says}
use Rattle.top_lines.specs.Saying.Says.{brings, decides, decides_nothing, asks, asks_nothing}
use Rattle.top_lines.proofs.Readings.{tells_more, fails_more, behind}
use Rattle.top_lines.proofs.reading.read_line.Goals as goal

pub returns-in-Some : goal.returns-in-Some
returns-in-Some c =
    let line = c.args.line.now in
    let begins = rw c.in-Some.is at (behind line (codes "from ") c.strip_prefix.result c.strip_prefix.ensures.cases) in
    tells_more (BringsBytes c.in-Some.rest.now) (Says line) (λ said is. brings said (record { rest = c.in-Some.rest.now; begins = begins; is = is })) c.brought.result c.brought.ensures

pub returns-in_err-bytes_of : goal.returns-in_err-bytes_of
returns-in_err-bytes_of c =
    let line = c.args.line.now in
    let digits = c.in-Some-strip_prefix.digits.now in
    let begins = rw c.in-Some-strip_prefix.is at (behind line (codes "install ") c.strip_prefix-2.result c.strip_prefix-2.ensures.cases) in
    let p = err_from_is_err_and c.from_residual.result c.from_residual.ensures.1 in
    rw (p.1, p.2) (fails_more (AreHex digits) (Says line) (λ why is. decides_nothing why (record { rest = digits; begins = begins; is = is })) c.in_err-bytes_of.field-0.0 c.in_err-bytes_of.ensures)

pub returns-in-Some-strip_prefix : goal.returns-in-Some-strip_prefix
returns-in-Some-strip_prefix c =
    let begins = rw c.in-Some-strip_prefix.is at (behind c.args.line.now (codes "install ") c.strip_prefix-2.result c.strip_prefix-2.ensures.cases) in
    decides c.in_ok-bytes_of.field-0 (record { rest = c.in-Some-strip_prefix.digits.now; begins = begins; is = c.in_ok-bytes_of.ensures })

pub returns-in_err-step : goal.returns-in_err-step
returns-in_err-step c =
    let line = c.args.line.now in
    let other : IsOther line = record {
      no_from = rw c.in_default.is at (behind line (codes "from ") c.strip_prefix.result c.strip_prefix.ensures.cases);
      no_install = rw c.in_default-strip_prefix.is at (behind line (codes "install ") c.strip_prefix-2.result c.strip_prefix-2.ensures.cases);
    } in
    let p = err_from_is_err_and c.from_residual-in_err-step.result c.from_residual-in_err-step.ensures.1 in
    rw (p.1, p.2) (fails_more (SaysStep line) (Says line) (λ why is. asks_nothing why other is) c.in_err-step.field-0.0 c.in_err-step.ensures)

pub returns : goal.returns
returns c =
    let line = c.args.line.now in
    let other : IsOther line = record {
      no_from = rw c.in_default.is at (behind line (codes "from ") c.strip_prefix.result c.strip_prefix.ensures.cases);
      no_install = rw c.in_default-strip_prefix.is at (behind line (codes "install ") c.strip_prefix-2.result c.strip_prefix-2.ensures.cases);
    } in
    asks c.in_ok-step.field-0 other c.in_ok-step.ensures
