-- A verdict says whether all lines are lawful, and else which is the first that isn't.
use Rattle.std.proofs.Common.{◌≡◌, ◌↔◌, ℕ, suc, ◌+◌, List, [], ◌∷◌, ◌++◌, length, refl, ap, ◌∙◌, arith, Option, Some, None}
use Rattle.model_history.specs.Texts.{Text}
use Rattle.model_members.specs.DataType.{DataType}
use Rattle.model_members.specs.Node.{KeyDecl}
use Rattle.model_traces.specs.Traces.{TraceLine, Trace, TraceState, after_line, after_lines, broken_rule, AreLawful, IsLawful, BreaksFirst, Verdict, verdict_from, verdict, nothing_traced}
use Rattle.model_traces.specs.Traces.Verdict.{Lawful, Broken}

same_line : (m n k l : ℕ) → Broken m k ≡ Broken n l → m ≡ n
same_line m n k l e = cc e

same_rule : (m n k l : ℕ) → Broken m k ≡ Broken n l → k ≡ l
same_rule m n k l e = cc e

module _ {Kind Op Shown : Type 0} (D : DataType Kind Op Shown) (value_text : Shown → Text) (keys : List (KeyDecl Kind)) where
  abbrev by_rule : TraceState Op → ℕ → TraceLine Op → List (TraceLine Op) → Option ℕ → Verdict
  by_rule state n line lines o = elim o [ None ↦ verdict_from D value_text keys (after_line state line) (suc n) lines | Some rule ↦ Broken n rule ]

  lawful_from : (state : TraceState Op) (n : ℕ) (lines : List (TraceLine Op)) → verdict_from D value_text keys state n lines ≡ Lawful → AreLawful D value_text keys state lines
  lawful_from state n [] e = tt
  lawful_from state n (line ∷ lines) e = by (broken_rule D value_text keys state line) refl e (lawful_from (after_line state line) (suc n) lines)
    where
      by : (o : Option ℕ) → broken_rule D value_text keys state line ≡ o → by_rule state n line lines o ≡ Lawful
          → (verdict_from D value_text keys (after_line state line) (suc n) lines ≡ Lawful → AreLawful D value_text keys (after_line state line) lines)
          → (broken_rule D value_text keys state line ≡ None) × AreLawful D value_text keys (after_line state line) lines
      by None is e' later = (is, later e')
      by (Some rule) is e' later = absurd (cc e')

  from_lawful : (state : TraceState Op) (n : ℕ) (lines : List (TraceLine Op)) → AreLawful D value_text keys state lines → verdict_from D value_text keys state n lines ≡ Lawful
  from_lawful state n [] all = refl
  from_lawful state n (line ∷ lines) all = ap (by_rule state n line lines) all.0 ∙ from_lawful (after_line state line) (suc n) lines all.1

  -- where lines are numbered from n on
  record IsBroken (state : TraceState Op) (n : ℕ) (lines : List (TraceLine Op)) (number rule : ℕ) : Type 0 where
    before : List (TraceLine Op)
    line : TraceLine Op
    rest : List (TraceLine Op)
    are : lines ≡ before ++ line ∷ rest
    numbered : number ≡ n + length before
    lawful : AreLawful D value_text keys state before
    breaks : broken_rule D value_text keys (after_lines state before) line ≡ Some rule

  broken_later : (state : TraceState Op) (n : ℕ) (line : TraceLine Op) (lines : List (TraceLine Op)) (number rule : ℕ) → broken_rule D value_text keys state line ≡ None → IsBroken (after_line state line) (suc n) lines number rule → IsBroken state n (line ∷ lines) number rule
  broken_later state n line lines number rule is b = record {
    before = line ∷ b.before;
    line = b.line;
    rest = b.rest;
    are = ap (λ ls. line ∷ ls) b.are;
    numbered = let a = b.numbered in omega (arith, a);
    lawful = (is, b.lawful);
    breaks = b.breaks;
  }

  broken_from : (state : TraceState Op) (n : ℕ) (lines : List (TraceLine Op)) (number rule : ℕ) → verdict_from D value_text keys state n lines ≡ Broken number rule → IsBroken state n lines number rule
  broken_from state n [] number rule e = absurd (cc e)
  broken_from state n (line ∷ lines) number rule e = by (broken_rule D value_text keys state line) refl e (broken_from (after_line state line) (suc n) lines number rule)
    where
      by : (o : Option ℕ) → broken_rule D value_text keys state line ≡ o → by_rule state n line lines o ≡ Broken number rule
          → (verdict_from D value_text keys (after_line state line) (suc n) lines ≡ Broken number rule → IsBroken (after_line state line) (suc n) lines number rule)
          → IsBroken state n (line ∷ lines) number rule
      by None is e' later = broken_later state n line lines number rule is (later e')
      by (Some other) is e' later = record {
        before = [];
        line = line;
        rest = lines;
        are = refl;
        numbered = let a = same_line n number other rule e' in omega (arith, a);
        lawful = tt;
        breaks = is ∙ ap Some (same_rule n number other rule e');
      }

  from_broken : (state : TraceState Op) (n : ℕ) (before : List (TraceLine Op)) (line : TraceLine Op) (rest : List (TraceLine Op)) (rule : ℕ) → AreLawful D value_text keys state before → broken_rule D value_text keys (after_lines state before) line ≡ Some rule
      → verdict_from D value_text keys state n (before ++ line ∷ rest) ≡ Broken (n + length before) rule
  from_broken state n [] line rest rule all is = ap (by_rule state n line rest) is ∙ ap (λ m. Broken m rule) (let e : n ≡ n + 0 = omega arith in e)
  from_broken state n (first ∷ before) line rest rule all is =
      ap (by_rule state n first (before ++ line ∷ rest)) all.0 ∙ from_broken (after_line state first) (suc n) before line rest rule all.1 is ∙ ap (λ m. Broken m rule) (let e : suc n + length before ≡ n + suc (length before) = omega arith in e)

pub verdict_lawful : {Kind Op Shown : Type 0} (D : DataType Kind Op Shown) (value_text : Shown → Text) (trace : Trace Kind Op) → (verdict D value_text trace ≡ Lawful) ↔ IsLawful D value_text trace
verdict_lawful D value_text trace = (lawful_from D value_text trace.keys nothing_traced 1 trace.lines, from_lawful D value_text trace.keys nothing_traced 1 trace.lines)

pub verdict_broken : {Kind Op Shown : Type 0} (D : DataType Kind Op Shown) (value_text : Shown → Text) (trace : Trace Kind Op) (number rule : ℕ)
    → (verdict D value_text trace ≡ Broken number rule) ↔ BreaksFirst D value_text trace.keys nothing_traced trace.lines number rule
verdict_broken D value_text trace number rule = (
  λ e. let b = broken_from D value_text trace.keys nothing_traced 1 trace.lines number rule e in
      record { before = b.before; line = b.line; rest = b.rest; are = b.are; numbered = (let a = b.numbered in omega (arith, a)); lawful = b.lawful; breaks = b.breaks },
  λ b. ap (verdict_from D value_text trace.keys nothing_traced 1) b.are ∙ from_broken D value_text trace.keys nothing_traced 1 b.before b.line b.rest rule b.lawful b.breaks
      ∙ ap (λ m. Broken m rule) (let e : 1 + length b.before ≡ number = (let a = b.numbered in omega (arith, a)) in e),
)
