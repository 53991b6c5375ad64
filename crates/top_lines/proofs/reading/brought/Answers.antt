use Rattle.std.proofs.Common.{◌≡◌, ◌==◌, ◌+◌, ◌-◌, length, take, drop, decimal, Some}
use Rattle.std.specs.List.{position}
use Rattle.std.proofs.lemmas.Result.{err_from_is_err_and}
use Rattle.top_lines.specs.Saying.{AreHex, BringsBytes}
use Rattle.top_lines.proofs.Readings.{fails_more, not_hex}
use Rattle.top_lines.proofs.Words.{ends_at, sent_in, is_cut}
use Rattle.top_lines.proofs.reading.brought.Goals as goal

pub returns-in_default : goal.returns-in_default
returns-in_default c = λ from digits sent.
    let ends = ends_at c.args.rest.now from digits sent in
    let found = c.space.ensures in
    let none = c.in_default.is in
    absurd cc

pub returns-in_default-identity : goal.returns-in_default-identity
returns-in_default-identity c = λ from digits sent.
    let ends = ends_at c.args.rest.now from digits sent in
    let found = c.space.ensures in
    let was = c.in-Some.is in
    let end : c.in-Some.end ≡ length (decimal from) = cc in
    let some = (c.identity.ensures from).1 (is_cut c.args.rest.now from c.in-Some.end digits sent end) in
    let none = c.in_default-identity.is in
    absurd cc

pub returns-in_err-bytes : goal.returns-in_err-bytes
returns-in_err-bytes c =
    let rest = c.args.rest.now in
    let end = c.in-Some.end in
    let digits = take (length rest - (end + 1)) (drop (end + 1) rest) in
    let found = c.space.ensures in
    let was = c.in-Some.is in
    let at : position (λ byte. byte == 32) rest ≡ Some end = cc in
    let sent = sent_in rest end c.in-Some-identity.from at ((c.identity.ensures c.in-Some-identity.from).0 c.in-Some-identity.is) in
    let p = err_from_is_err_and c.from_residual.result c.from_residual.ensures.1 in
    rw (p.1, p.2) (fails_more (AreHex digits) (BringsBytes rest) (not_hex rest c.in-Some-identity.from digits sent) c.in_err-bytes.field-0.0 c.in_err-bytes.ensures)

pub returns : goal.returns
returns c =
    let rest = c.args.rest.now in
    let end = c.in-Some.end in
    let found = c.space.ensures in
    let was = c.in-Some.is in
    let at : position (λ byte. byte == 32) rest ≡ Some end = cc in
    (take (length rest - (end + 1)) (drop (end + 1) rest), sent_in rest end c.in-Some-identity.from at ((c.identity.ensures c.in-Some-identity.from).0 c.in-Some-identity.is), c.in_ok-bytes.ensures)
