-- Bytes that spell a script, break a rule or have no reading do one of these alone, and spell one script.
use Rattle.std.proofs.Common.{◌≡◌, ℕ, List, sym, subst, ◌∙◌, Ok, Err, MatchResult}
use Rattle.std.proofs.lemmas.Option.{none-some, same_Some}
use Rattle.script_reading.specs.declared.clients.Clients.{Clients}
use Rattle.script_reading.specs.declared.script.Script.{Script}
use Rattle.script_reading.specs.declared.fault.Rule.{Rule}
use Rattle.script_reading.specs.Reading.{Spells, Breaks, HasNoReading}

ok_err : {A B : Type 0} (x : A) (y : B) → Ok x ≡ Err y → ⊥
ok_err x y e = subst (λ r. MatchResult r (λ _. Unit {0}) (λ _. ⊥)) e tt

module _ (clients : Clients) (bytes : List ℕ) where
  pub spells_json : (script : Script) → Spells clients bytes script → HasNoReading bytes → ⊥
  spells_json script h none = none-some h.0 (sym (none h.1.0) ∙ h.1.1)

  pub breaks_json : (rule : Rule) → Breaks clients bytes rule → HasNoReading bytes → ⊥
  breaks_json rule h none = none-some h.0 (sym (none h.1.0) ∙ h.1.1)

  pub spells_breaks : (script : Script) (rule : Rule) → Spells clients bytes script → Breaks clients bytes rule → ⊥
  spells_breaks script rule h k =
      let same : h.0 ≡ k.0 = same_Some h.0 k.0 (sym h.1.1 ∙ k.1.1) in
      ok_err script rule (sym h.2 ∙ rw same k.2)

  pub spells_one : (script other : Script) → Spells clients bytes script → Spells clients bytes other → script ≡ other
  spells_one script other h k =
      let same : h.0 ≡ k.0 = same_Some h.0 k.0 (sym h.1.1 ∙ k.1.1) in
      let e : Ok script ≡ Ok other = sym h.2 ∙ rw same k.2 in cc e
