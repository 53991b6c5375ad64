use Rattle.std.proofs.Common.{sym, subst}
use Rattle.model_members.specs.World.{start}
use Rattle.theorem_runs.proofs.Safety.{runs_are_safe}
use Rattle.theorem_operations.proofs.Moments.{Stands, stands_start, stands_run}
use Rattle.theorem_sections.proofs.InViews.{InView, run_in, start_in}
use Rattle.theorem_sections.proofs.Away.{posts_none_to_itself}
use Rattle.theorem_sections.proofs.KnownPaths.{paths_are}
use Rattle.theorem_sections.proofs.laws.known_paths_are_paths.Goals as goal

pub returns : goal.returns
returns g c = λ D members keys events world histories clients paths is_run all are.
    paths_are D world histories all (subst InView (sym is_run.leads) (run_in D (start members keys) events (start_in D members keys)))
    (posts_none_to_itself D world histories all (λ i n runs. ((runs_are_safe D members keys events world is_run).views.running i n runs).identity))
    (λ i n runs. let stands = subst (Stands D members keys) (sym is_run.leads) (stands_run D members keys (start members keys) (stands_start D members keys is_run.some is_run.few) events is_run.lawful) in
    record { stood = λ o m. stands.numbers.stood i n o runs m; done = λ f m. stands.numbers.done i n f runs m }) clients paths are
