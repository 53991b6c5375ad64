-- What is computed over the list of a history's records is what the history means.
use Rattle.std.proofs.Common.{◌≡◌, ℕ, List, Bool, ap, ◌∙◌, sym, filter, filter_map}
use Rattle.std.specs.Prelude.{sum_by}
use Rattle.std.specs.List.{list_any}
use Rattle.model_history.specs.Texts.{text_set}
use Rattle.model_history.specs.History.{Stamped, History, all_records}
use Rattle.model_meanings.specs.Counter.{amount_of, total}
use Rattle.model_meanings.specs.Growing.{found, added_elements, is_operation, has_operation}
use Rattle.model_meanings.specs.ObservedRemove.{is_live, live_elements}
use Rattle.model_kinds.specs.SixKinds.{added, set_operations}
use Rattle.model_kinds.specs.declared.operation.Op.{Op}
use Rattle.data_meaning.specs.declared.record.Record.{Record}
use Rattle.data_meaning.specs.Records.{action_of, stamped, AreInOrder}
use Rattle.data_meaning.specs.Touching.{is_shown}
use Rattle.data_meaning.proofs.Walks.{sum_by-map, filter_map-map, list_any-map, filter-same}
use Rattle.data_meaning.proofs.TouchesMean.{is_shown_means}

module _ (records : List Record) (H : History Op) (are : AreInOrder records H) where
  pub total_means : (amount : Op → ℕ) → sum_by (λ (r : Record). amount_of amount (action_of r.action)) records ≡ total amount H
  total_means amount = sym (sum_by-map stamped (λ (x : Stamped Op). amount_of amount x.action) records) ∙ ap (sum_by (λ (x : Stamped Op). amount_of amount x.action)) are.listed

  pub added_means : text_set (filter_map (λ (r : Record). found added (action_of r.action)) records) ≡ added_elements added H
  added_means = ap text_set (sym (filter_map-map stamped (λ (x : Stamped Op). found added x.action) records) ∙ ap (filter_map (λ (x : Stamped Op). found added x.action)) are.listed)

  pub operation_means : (test : Op → Bool) → list_any (λ (r : Record). is_operation test (action_of r.action)) records ≡ has_operation test H
  operation_means test = sym (list_any-map stamped (λ (x : Stamped Op). is_operation test x.action) records) ∙ ap (list_any (λ (x : Stamped Op). is_operation test x.action)) are.listed

  pub live_means : filter (is_shown records) (text_set (filter_map (λ (r : Record). found added (action_of r.action)) records)) ≡ live_elements set_operations H
  live_means = filter-same (is_shown records) (λ e. list_any (is_live set_operations e H) (all_records H)) _ (λ e. is_shown_means e H are.history records are.listed)
      ∙ ap (filter (λ e. list_any (is_live set_operations e H) (all_records H))) added_means
