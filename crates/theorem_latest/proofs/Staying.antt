-- Whether a record touches an element, and which timestamp it has, is settled when it is made: all histories that hold it agree.
use Rattle.std.proofs.Common.{◌≡◌, refl, sym, ap, ◌∙◌, Option, Some}
use Rattle.std.specs.Prelude.{◌==◌, ◌&&◌, map}
use Rattle.std.specs.List.{list_any}
use Rattle.model_history.specs.Texts.{Text}
use Rattle.model_history.specs.Log.{IsTakenFrom}
use Rattle.model_history.specs.History.{Action, History, Stamped, versions, cut, all_records, IsHistory}
use Rattle.model_history.specs.History.Action.{Operation, Prune}
use Rattle.model_history.proofs.Bridge.{cut_of_part, taken_is_history}
use Rattle.model_history.proofs.PartLaws.{cut_cut, in_whole}
use Rattle.model_history.proofs.PruneLaws.{IsIn}
use Rattle.model_meanings.specs.Growing.{Assignment, greatest, timestamp_after, found, timestamp}
use Rattle.model_meanings.specs.ObservedRemove.{SetOperations, is_live_by, touches_by, touches}
use Rattle.model_meanings.proofs.EquationsOfMeanings.{timestamp_equation, touches_equation}
use Rattle.model_traces.proofs.Tests.{is_stamped, stamped}

module _ {Op : Type 0} (log H : History Op) (history : IsHistory log) (taken : IsTakenFrom log H) (x : Stamped Op) (h : IsIn (all_records H) x) where
  -- the record's past is the same history in both
  same_past : cut H x.past ≡ cut log x.past
  same_past =
      let s = is_stamped H x h in
      ap (λ (J : History Op). cut J x.past) (sym (cut_of_part log H taken.part)) ∙ cut_cut log (versions H) x.past (taken.closed x.origin s.index _ s.has)

  -- it is a record of the log
  pub in_log : IsIn (all_records log) x
  in_log =
      let s = is_stamped H x h in
      let there = stamped log x.origin s.index _ s.small (in_whole H log taken.part x.origin s.index _ s.has) in
      (there.0, there.1 ∙ ap (λ n. Some (record { origin = x.origin; number = n; action = x.action; past = x.past })) (sym s.numbered))

  pub touches_stay : (ops : SetOperations Op) (e : Text) → touches ops e H x ≡ touches ops e log x
  touches_stay ops e =
      touches_equation ops e H (taken_is_history log H history taken) x h ∙ by_action x.action ∙ sym (touches_equation ops e log history x in_log)
    where
      by_action : (action : Action Op) → touches_by ops (touches ops e) e H x.past action ≡ touches_by ops (touches ops e) e log x.past action
      by_action (Operation op) = refl
      by_action (Prune r) = ap (λ (J : History Op). list_any (λ y. (y.origin == r) && is_live_by ops (touches ops e) e J y) (all_records J)) same_past

  pub timestamps_stay : (assigned : Op → Option Assignment) → timestamp assigned H x ≡ timestamp assigned log x
  timestamps_stay assigned =
      timestamp_equation assigned H (taken_is_history log H history taken) x h
      ∙ ap (λ (J : History Op). timestamp_after (greatest (map (timestamp assigned J) (all_records J))) (found assigned x.action)) same_past
      ∙ sym (timestamp_equation assigned log history x in_log)
