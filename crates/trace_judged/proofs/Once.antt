-- Of some bytes one thing is to be said.
use Rattle.std.proofs.Common.{◌≡◌, ℕ, List, Ok, Err, MatchResult, refl, sym, ap, subst, ◌∙◌}
use Rattle.std.proofs.lemmas.Option.{none-some, same_Some}
use Rattle.serde_json.specs.Data.{Data}
use Rattle.model_kinds.specs.SixKinds.{six_kinds}
use Rattle.model_kinds.specs.ShownText.{shown_text}
use Rattle.model_traces.specs.Traces as model
use Rattle.trace_lines.specs.declared.trace.Trace.{Trace}
use Rattle.trace_lines.specs.Meant.{trace_meant}
use Rattle.trace_text.specs.Reading.{Reads, Spells, Breaks, HasNoReading}
use Rattle.trace_judged.specs.declared.judging.Judgement.{Judgement}
use Rattle.trace_judged.specs.declared.judging.Judgement.TheVariants.{NotJson, NotATrace, Broken, Lawful}
use Rattle.trace_judged.specs.Judgements.{SpellsOne, IsJudgement}

ok_err : {A B : Type 0} (x : A) (y : B) → Ok x ≡ Err y → ⊥
ok_err x y e = subst (λ r. MatchResult r (λ _. Unit {0}) (λ _. ⊥)) e tt

module _ (bytes : List ℕ) where
  no_reading : (d : Data) → Reads bytes d → HasNoReading bytes → ⊥
  no_reading d h none = none-some d (sym (none h.0) ∙ h.1)

  read_once : (d e : Data) → Reads bytes d → Reads bytes e → d ≡ e
  read_once d e h k = same_Some d e (sym h.1 ∙ k.1)

  spelled_once : (trace other : Trace) → Spells bytes trace → Spells bytes other → trace ≡ other
  spelled_once trace other h k =
      let same : h.0 ≡ k.0 = read_once h.0 k.0 h.1 k.1 in
      let both : Ok trace ≡ Ok other = sym h.2 ∙ rw same k.2 in
      cc

  broken_once : (line other : ℕ) → Breaks bytes line → Breaks bytes other → line ≡ other
  broken_once line other h k =
      let same : h.0 ≡ k.0 = read_once h.0 k.0 h.1 k.1 in
      let both : Err line ≡ Err other = sym h.2 ∙ rw same k.2 in
      cc

  spells_breaks : (trace : Trace) (line : ℕ) → Spells bytes trace → Breaks bytes line → ⊥
  spells_breaks trace line h k =
      let same : h.0 ≡ k.0 = read_once h.0 k.0 h.1 k.1 in
      ok_err trace line (sym h.2 ∙ rw same k.2)

  verdict_once : (verdict other : model.Verdict) → SpellsOne bytes verdict → SpellsOne bytes other → verdict ≡ other
  verdict_once verdict other h k = sym h.2 ∙ ap (λ trace. model.verdict six_kinds shown_text (trace_meant trace)) (spelled_once h.0 k.0 h.1 k.1) ∙ k.2

  pub judged_once : (one other : Judgement) → IsJudgement bytes one → IsJudgement bytes other → one ≡ other
  judged_once NotJson NotJson h k = refl
  judged_once NotJson (NotATrace line) h k = absurd (no_reading k.0 k.1 h)
  judged_once NotJson (Broken line rule) h k = absurd (no_reading k.1.0 k.1.1 h)
  judged_once NotJson Lawful h k = absurd (no_reading k.1.0 k.1.1 h)
  judged_once (NotATrace line) NotJson h k = absurd (no_reading h.0 h.1 k)
  judged_once (NotATrace line) (NotATrace other) h k = ap NotATrace (broken_once line other h k)
  judged_once (NotATrace line) (Broken other rule) h k = absurd (spells_breaks k.0 line k.1 h)
  judged_once (NotATrace line) Lawful h k = absurd (spells_breaks k.0 line k.1 h)
  judged_once (Broken line rule) NotJson h k = absurd (no_reading h.1.0 h.1.1 k)
  judged_once (Broken line rule) (NotATrace other) h k = absurd (spells_breaks h.0 other h.1 k)
  judged_once (Broken line rule) (Broken other least) h k =
      let same : model.Verdict.Broken line rule ≡ model.Verdict.Broken other least = verdict_once _ _ h k in
      cc
  judged_once (Broken line rule) Lawful h k =
      let same : model.Verdict.Broken line rule ≡ model.Verdict.Lawful = verdict_once _ _ h k in
      cc
  judged_once Lawful NotJson h k = absurd (no_reading h.1.0 h.1.1 k)
  judged_once Lawful (NotATrace other) h k = absurd (spells_breaks h.0 other h.1 k)
  judged_once Lawful (Broken other least) h k =
      let same : model.Verdict.Lawful ≡ model.Verdict.Broken other least = verdict_once _ _ h k in
      cc
  judged_once Lawful Lawful h k = refl
