-- An element that no record adds is live nowhere, and one that none names is touched by none.
use Rattle.std.proofs.Common.{◌≡◌, ℕ, zero, suc, List, [], ◌∷◌, refl, sym, ap, ◌∙◌, Bool, true, false, ◌||◌}
use Rattle.std.specs.Prelude.{◌&&◌, not, ◌==◌}
use Rattle.std.specs.List.{list_any}
use Rattle.model_history.specs.Texts.{Text}
use Rattle.model_history.specs.Vector.{VersionVector}
use Rattle.model_history.specs.History.{Action, Record as Meant, Stamped, History, size, cut, all_records, precedes, by_past_within, HasRecord}
use Rattle.model_history.specs.History.Action.{Operation, Prune}
use Rattle.model_history.proofs.HistoryLaws.{slice_get-take}
use Rattle.model_history.proofs.PruneLaws.{IsIn, in_tail}
use Rattle.model_meanings.specs.Growing.{is_operation}
use Rattle.model_meanings.specs.ObservedRemove.{is_adding_by, is_live_by, touches_by, touches, is_live}
use Rattle.model_traces.proofs.Tests.{is_stamped}
use Rattle.model_kinds.specs.SixKinds.{set_operations, adds, removes}
use Rattle.model_kinds.specs.declared.operation.Op.{Op}

pub none_pass : {X : Type 0} (p : X → Bool) (xs : List X) → ((x : X) → IsIn xs x → p x ≡ false) → list_any p xs ≡ false
none_pass p [] none = refl
none_pass p (x ∷ xs) none = ap (λ b. b || list_any p xs) (none x (0, refl)) ∙ none_pass p xs (λ y m. none y (in_tail x xs y m))

second_false : (a b : Bool) → b ≡ false → (a && b) ≡ false
second_false true b e = e
second_false false b e = refl

module _ (e : Text) where
  -- no record adds the element
  abbrev pub NoneAdds : History Op → Type 0
  NoneAdds H = (i k : ℕ) (r : Meant Op) → HasRecord H i k r → is_operation (λ op. adds op e) r.action ≡ false

  abbrev step : (History Op → Stamped Op → Bool) → History Op → Stamped Op → Bool
  step touches_before H x = touches_by set_operations touches_before e H x.past x.action

  cut_none : (H : History Op) → NoneAdds H → (v : VersionVector) → NoneAdds (cut H v)
  cut_none H none v i k r has = none i k r (slice_get-take (H i) (v i) k r has).1

  -- a record adds it neither as an add nor as a prune
  not_adding : (within : History Op → Stamped Op → Bool) (H : History Op) → NoneAdds H → ((y : Stamped Op) (q : ℕ) → y.action ≡ Prune q → within H y ≡ false) → (y : Stamped Op) → IsIn (all_records H) y → is_live_by set_operations within e H y ≡ false
  not_adding within H none prunes y m = ap (λ b. b && not (list_any (λ z. precedes y z && within H z) (all_records H))) (by_action y.action refl)
    where
      by_action : (action : Action Op) → y.action ≡ action → is_adding_by set_operations within e H y action ≡ false
      by_action (Operation op) is = let s = is_stamped H y m in ap (is_operation (λ op. adds op e)) (sym is) ∙ none y.origin s.index _ s.has
      by_action (Prune q) is = prunes y q is

  prune_none : (depth : ℕ) (H : History Op) → NoneAdds H → (x : Stamped Op) (r : ℕ) → x.action ≡ Prune r → by_past_within false step depth H x ≡ false
  prune_none zero H none x r is = refl
  prune_none (suc depth) H none x r is =
      ap (touches_by set_operations (by_past_within false step depth) e H x.past) is
      ∙ none_pass (λ (y : Stamped Op). (y.origin == r) && is_live_by set_operations (by_past_within false step depth) e (cut H x.past) y) (all_records (cut H x.past))
      (λ y m. second_false (y.origin == r) _ (not_adding (by_past_within false step depth) (cut H x.past) (cut_none H none x.past) (prune_none depth (cut H x.past) (cut_none H none x.past)) y m))

  pub live_none : (H : History Op) → NoneAdds H → list_any (is_live set_operations e H) (all_records H) ≡ false
  live_none H none = none_pass (is_live set_operations e H) (all_records H) (λ y m. not_adding (touches set_operations e) H none (prune_none (suc (size H)) H none) y m)

  -- what a record touches that names something else
  pub untouched : (H : History Op) → NoneAdds H → (x : Stamped Op) → is_operation (λ op. adds op e || removes op e) x.action ≡ false → touches set_operations e H x ≡ false
  untouched H none x names = go x.action refl
    where
      go : (action : Action Op) → x.action ≡ action → touches set_operations e H x ≡ false
      go (Operation op) is = ap (touches_by set_operations (by_past_within false step (size H)) e H x.past) is ∙ ap (is_operation (λ op. adds op e || removes op e)) (sym is) ∙ names
      go (Prune r) is = prune_none (suc (size H)) H none x r is
