use Rattle.std.proofs.Common.{◌≡◌, true, false, sym, ⊎_elim}
use Rattle.std.specs.Str.{is_utf8}
use Rattle.std.proofs.lemmas.Bool.{cases_Bool}
use Rattle.std.proofs.lemmas.Str.{is_utf8-from_IsUtf8, IsUtf8-from_is_utf8}
use Rattle.base_bytes.proofs.fields.utf8.Goals as goal

pub returns-in-Ok-clause-tested : goal.returns-in-Ok-clause-tested
returns-in-Ok-clause-tested c = sym (is_utf8-from_IsUtf8 c.args.bytes.now c.in-Ok.ensures.cases.1)

pub returns-in-Err-clause-tested : goal.returns-in-Err-clause-tested
returns-in-Err-clause-tested c = ⊎_elim
    (λ (t : is_utf8 c.args.bytes.now ≡ true). absurd (c.in-Err.ensures.cases.0 (IsUtf8-from_is_utf8 c.args.bytes.now t)))
    (λ (f : is_utf8 c.args.bytes.now ≡ false). sym f) (cases_Bool (is_utf8 c.args.bytes.now))
