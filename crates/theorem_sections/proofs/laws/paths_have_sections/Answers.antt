use Rattle.std.proofs.Common.{refl, sym, subst}
use Rattle.model_members.specs.World.{start}
use Rattle.theorem_sections.specs.Paths.{calls_after}
use Rattle.theorem_sections.proofs.InViews.{InView, run_in, start_in}
use Rattle.theorem_sections.proofs.PathSections.{paths_have_section}
use Rattle.theorem_sections.proofs.laws.paths_have_sections.Goals as goal

pub returns : goal.returns
returns g c = λ D members keys before histories placed clients paths is_run all order are answered.
    paths_have_section D before.world histories placed (record { answers = before.answers; ends = calls_after before placed; early = before.events }) all
    (subst InView (sym is_run.leads) (run_in D (start members keys) before.events (start_in D members keys))) order clients paths are before refl answered
