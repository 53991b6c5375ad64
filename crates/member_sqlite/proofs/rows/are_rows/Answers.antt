use Rattle.std.proofs.Common.{arith}
use Rattle.member_sqlite.proofs.rows.are_rows.Goals as goal

pub returns-then-entries-rows : goal.returns-then-entries-rows
returns-then-entries-rows c = (λ never. absurd (let e = never in cc), λ are. absurd (omega (arith, are.count)))
