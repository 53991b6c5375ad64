-- What the settles of a run over the six kinds tell is so: what blocks a prune of these goes on blocking it.
use Rattle.std.proofs.Common.{ℕ, List, string_bytes}
use Rattle.model_kinds.specs.SixKinds.{six_kinds}
use Rattle.member_keeper.specs.declared.keeper.Keeper.{Ghosts as Keeping}
use Rattle.script_reading.specs.declared.script.Script.{Script}
use Rattle.data_value.specs.DataSpelled.{history_byte, history_spelled}
use Rattle.theorem_settling_kinds.proofs.SixKindsBlocked.{six_stay}
use Rattle.report_lines.specs.Kept as kept
use Rattle.report_lines.specs.Kept.{EndsSo, IsPlayed}
use Rattle.report_lines.specs.declared.playing.Ending.{Ending}
use Rattle.report_lines.specs.declared.playing.Ending.TheVariants.{Told, NotCleared, Memory}
use Rattle.report_followers.specs.Followed.{IsFollowedOver}
use Rattle.top_call.specs.Answers.{IsReportOver, IsWatchOver, IsSummaryOver}

module _ {K : Type 0} (keeping : Keeping K) (script : Script) (before after : List K) where
  report_over : (text : List ℕ) → kept.IsReportOver six_kinds history_byte history_spelled keeping script before after text → IsReportOver keeping script before after text
  report_over text h = record { run = h; settles = λ plain loads. ((h.whole loads).plain plain).run.settles (λ kind owner r other entry apart. six_stay kind owner r other entry) }

  watch_over : (text : List ℕ) → IsFollowedOver six_kinds history_byte history_spelled keeping script before after text → IsWatchOver keeping script before after text
  watch_over text h = record { run = h; settles = λ loads. (h.whole loads).run.settles (λ kind owner r other entry apart. six_stay kind owner r other entry) }

  summary_over : (text : List ℕ) → kept.IsSummaryOver six_kinds history_byte history_spelled keeping script before after text → IsSummaryOver keeping script before after text
  summary_over text h = record { run = h; settles = λ loads. (h.whole loads).run.settles (λ kind owner r other entry apart. six_stay kind owner r other entry) }

  -- a run that ends so ends so too, if what is said of its text follows
  ends_so : (P Q : Script → List K → List K → List ℕ → Type 0) → ((text : List ℕ) → P script before after text → Q script before after text)
      → (end : Ending) → EndsSo keeping P end script before after → EndsSo keeping Q end script before after
  ends_so P Q follows (Told text) h = follows (string_bytes text) h
  ends_so P Q follows (NotCleared place) h = h
  ends_so P Q follows Memory h = tt

  pub report_played : (end : Ending) → IsPlayed keeping (kept.IsReportOver six_kinds history_byte history_spelled keeping) script before after end → IsPlayed keeping (IsReportOver keeping) script before after end
  report_played end h = record { ends = ends_so (kept.IsReportOver six_kinds history_byte history_spelled keeping) (IsReportOver keeping) report_over end h.ends; kept = h.kept }

  pub watch_played : (end : Ending) → IsPlayed keeping (IsFollowedOver six_kinds history_byte history_spelled keeping) script before after end → IsPlayed keeping (IsWatchOver keeping) script before after end
  watch_played end h = record { ends = ends_so (IsFollowedOver six_kinds history_byte history_spelled keeping) (IsWatchOver keeping) watch_over end h.ends; kept = h.kept }

  pub summary_played : (end : Ending) → IsPlayed keeping (kept.IsSummaryOver six_kinds history_byte history_spelled keeping) script before after end → IsPlayed keeping (IsSummaryOver keeping) script before after end
  summary_played end h = record { ends = ends_so (kept.IsSummaryOver six_kinds history_byte history_spelled keeping) (IsSummaryOver keeping) summary_over end h.ends; kept = h.kept }
