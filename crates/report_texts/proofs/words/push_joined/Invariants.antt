use Rattle.std.proofs.Common.{◌≡◌, ℕ, [], ◌∷◌, ◌++◌, map, take, string_bytes}
use Rattle.std.specs.List.{join_with_byte}
use Rattle.report_texts.proofs.words.push_joined.Given as goal

abbrev pub invariant-loop-i : goal.invariant-loop-i
invariant-loop-i l =
    (byte : ℕ) → l.separator ≡ byte ∷ [] → string_bytes l.text ≡ string_bytes l.initial.text ++ join_with_byte byte (map string_bytes (take l.i l.words))
