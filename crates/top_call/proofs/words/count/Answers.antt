use Rattle.std.proofs.Common.{◌≡◌, ◌<◌, length, Some, arith, ap}
use Rattle.top_call.proofs.Counts.{first_of_some, one_count, count_begins, count_some, count_parsed, parsed_count}
use Rattle.top_call.proofs.words.count.Goals as goal

pub returns-in_err-first : goal.returns-in_err-first
returns-in_err-first c = λ n. (
  λ e. absurd (let f = c.from_residual.ensures in cc),
  λ h. absurd (let some : 0 < length c.as_bytes.result.now = rw c.as_bytes.ensures.value (count_some n c.args.word.now h) in
      let item = rw c.in_err-first.was at c.first.ensures.item in
      absurd (let f = item.2 some in cc)),
)

pub returns-then-first-le48 : goal.returns-then-first-le48
returns-then-first-le48 c = λ n. (
  λ e. absurd cc,
  λ h. absurd (
      let item = rw c.in_ok-first.was at c.first.ensures.item in
      let begins = count_begins n c.args.word.now h in
      let same = rw c.as_bytes.ensures.value at item.1 in
      let first = first_of_some c.args.word.now 0 c.in_ok-first.first.now (count_some n c.args.word.now h) in
      omega arith),
)

pub returns-in-Ok : goal.returns-in-Ok
returns-in-Ok c =
    let item = rw c.in_ok-first.was at c.first.ensures.item in
    let some = rw c.as_bytes.ensures.value at item.3.0 in
    let same = rw c.as_bytes.ensures.value at item.1 in
    let first = first_of_some c.args.word.now 0 c.in_ok-first.first.now some in
    let is = parsed_count c.in-Ok.n c.args.word.now c.parse.result c.in-Ok.is (omega arith) c.if-n-le-MOST_STEPS.true c.parse.ensures.value.0 in
    λ n. (λ e. let same : c.in-Ok.n ≡ n = cc in rw (← same) is, λ h. ap Some (one_count c.in-Ok.n n c.args.word.now is h))

pub returns-in_default : goal.returns-in_default
returns-in_default c = λ n. (
  λ e. absurd cc,
  λ h. absurd (
      let parsed = count_parsed n c.args.word.now c.parse.result h c.parse.ensures.value.0 in
      let is = c.in-Ok.is in
      let same : c.in-Ok.n ≡ n = cc in omega arith),
)

pub returns-in_default-2 : goal.returns-in_default-2
returns-in_default-2 c = λ n. (
  λ e. absurd cc,
  λ h. absurd (
      let parsed = count_parsed n c.args.word.now c.parse.result h c.parse.ensures.value.0 in
      let is = c.in_default.is in cc),
)
