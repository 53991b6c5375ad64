use Rattle.std.proofs.Common.{◌≡◌, false, Some, ap, ◌∙◌}
use Rattle.std.specs.Prelude.{is_some}
use Rattle.thread_cluster.specs.Knowing.{IsNowhere}
use Rattle.thread_cluster.specs.Sites.{place_of}
use Rattle.thread_cluster.proofs.Lists.{if_some, if_none}
use Rattle.thread_cluster.proofs.Telling.{none_some}
use Rattle.thread_cluster.proofs.cluster.Cluster.find.Goals as goal

pub returns-in-Some-clause-some : goal.returns-in-Some-clause-some
returns-in-Some-clause-some g c =
    if_some c.site.result (λ s. place_of s ≡ c.in-Some.place) (λ s. g.N.Section.ids (place_of s) ≡ Some c.args.id) (λ s is. ap g.N.Section.ids is ∙ c.in-Some.ensures.some) c.site.ensures.some

pub returns-in-Some-clause-none : goal.returns-in-Some-clause-none
returns-in-Some-clause-none g c =
    if_none c.site.result (is_some (g.N.Section.ids c.in-Some.place) ≡ false) (IsNowhere g.N.Section.ids c.args.id)
    (λ none. absurd (none_some (g.N.Section.ids c.in-Some.place) c.args.id none c.in-Some.ensures.some)) c.site.ensures.none
