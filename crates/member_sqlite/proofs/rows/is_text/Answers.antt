use Rattle.sqlite_value.specs.declared.value.Value.TheVariants.{Null, Int, Real, Text, Blob}
use Rattle.member_sqlite.proofs.Values.{neither}
use Rattle.member_sqlite.proofs.rows.is_text.Goals as goal

pub returns-in-Null : goal.returns-in-Null
returns-in-Null c = rw c.in-Null.is (neither Null (Text c.args.text.now) (λ e. cc))

pub returns-in-Int : goal.returns-in-Int
returns-in-Int c = rw c.in-Int.is (neither (Int c.in-Int.field-0) (Text c.args.text.now) (λ e. cc))

pub returns-in-Real : goal.returns-in-Real
returns-in-Real c = rw c.in-Real.is (neither (Real c.in-Real.field-0) (Text c.args.text.now) (λ e. cc))

pub returns-in-Blob : goal.returns-in-Blob
returns-in-Blob c = rw c.in-Blob.is (neither (Blob c.in-Blob.field-0.now) (Text c.args.text.now) (λ e. cc))
