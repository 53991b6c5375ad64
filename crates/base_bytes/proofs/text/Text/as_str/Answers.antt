use Rattle.std.proofs.Common.{ℕ, ◌≤◌, List, length, ap, subst, sym, ◌∙◌}
use Rattle.std.specs.Str.{is_utf8}
use Rattle.std.proofs.lemmas.Str.{is_utf8-from_IsUtf8}
use Rattle.base_bytes.specs.Spelling.{IsText}
use Rattle.base_bytes.proofs.text.Text.as_str.Goals as goal

pub returns-clause-text : goal.returns-clause-text
returns-clause-text c =
    subst IsText c.self.view_is (record {
      short = subst (λ (bytes : List ℕ). length bytes ≤ 64) c.as_str.ensures.value c.as_str.ensures.fits;
      utf8 = ap is_utf8 (sym c.as_str.ensures.value) ∙ is_utf8-from_IsUtf8 c.as_str.result.now c.as_str.utf8;
    })
