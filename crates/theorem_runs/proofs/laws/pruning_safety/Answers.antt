use Rattle.theorem_runs.proofs.Safety.{runs_are_safe}
use Rattle.theorem_runs.proofs.PruningSafety.{seen_have_installed, seen_are_kept, joined_unpruned, pruners_have_installed, no_late_record, no_late_group, no_earlier_prune, stored_is_held, groups_have_no_prunes, prunes_follow_marks, one_prune_a_view, entries_are_pruned, unions_are_pruned}
use Rattle.theorem_runs.proofs.laws.pruning_safety.Goals as goal

pub returns-clause-seen_have_installed : goal.returns-clause-seen_have_installed
returns-clause-seen_have_installed g c = λ D members keys events world is_run. seen_have_installed D _ _ (runs_are_safe D members keys events world is_run)

pub returns-clause-seen_are_kept : goal.returns-clause-seen_are_kept
returns-clause-seen_are_kept g c = λ D members keys events world is_run. seen_are_kept D _ _ (runs_are_safe D members keys events world is_run)

pub returns-clause-joined_unpruned : goal.returns-clause-joined_unpruned
returns-clause-joined_unpruned g c = λ D members keys events world is_run. joined_unpruned D _ _ (runs_are_safe D members keys events world is_run)

pub returns-clause-own_marks : goal.returns-clause-own_marks
returns-clause-own_marks g c = λ D members keys events world is_run. (runs_are_safe D members keys events world is_run).own

pub returns-clause-pruners_have_installed : goal.returns-clause-pruners_have_installed
returns-clause-pruners_have_installed g c = λ D members keys events world is_run. pruners_have_installed D _ _ (runs_are_safe D members keys events world is_run)

pub returns-clause-no_late_record : goal.returns-clause-no_late_record
returns-clause-no_late_record g c = λ D members keys events world is_run. no_late_record D _ _ (runs_are_safe D members keys events world is_run)

pub returns-clause-no_late_group : goal.returns-clause-no_late_group
returns-clause-no_late_group g c = λ D members keys events world is_run. no_late_group D _ _ (runs_are_safe D members keys events world is_run)

pub returns-clause-no_earlier_prune : goal.returns-clause-no_earlier_prune
returns-clause-no_earlier_prune g c = λ D members keys events world is_run. no_earlier_prune D _ _ (runs_are_safe D members keys events world is_run)

pub returns-clause-stored_is_held : goal.returns-clause-stored_is_held
returns-clause-stored_is_held g c = λ D members keys events world is_run. stored_is_held D _ _ (runs_are_safe D members keys events world is_run)

pub returns-clause-one_prune_a_view : goal.returns-clause-one_prune_a_view
returns-clause-one_prune_a_view g c = λ D members keys events world is_run. one_prune_a_view D _ _ (runs_are_safe D members keys events world is_run)

pub returns-clause-unions_are_pruned : goal.returns-clause-unions_are_pruned
returns-clause-unions_are_pruned g c = λ D members keys events world is_run. unions_are_pruned D _ _ (runs_are_safe D members keys events world is_run)

pub returns-clause-variables_have_logs : goal.returns-clause-variables_have_logs
returns-clause-variables_have_logs g c = λ D members keys events world is_run. (runs_are_safe D members keys events world is_run).logs

pub returns-clause-groups_have_no_prunes : goal.returns-clause-groups_have_no_prunes
returns-clause-groups_have_no_prunes g c = λ D members keys events world is_run. groups_have_no_prunes D _ _ (runs_are_safe D members keys events world is_run)

pub returns-clause-entries_are_pruned : goal.returns-clause-entries_are_pruned
returns-clause-entries_are_pruned g c = λ D members keys events world is_run. entries_are_pruned D _ _ (runs_are_safe D members keys events world is_run)

pub returns-clause-prunes_follow_marks : goal.returns-clause-prunes_follow_marks
returns-clause-prunes_follow_marks g c = λ D members keys events world is_run. prunes_follow_marks D _ _ (runs_are_safe D members keys events world is_run)

pub returns-clause-unpruned_marks : goal.returns-clause-unpruned_marks
returns-clause-unpruned_marks g c = λ D members keys events world is_run i node key runs. (runs_are_safe D members keys events world is_run).good.held i node runs key
