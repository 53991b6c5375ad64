use Rattle.std.proofs.Common.{◌≡◌, ◌+◌, ◌*◌, ◌≤◌}
use Rattle.thread_cluster.specs.Knowing.{Known, Turns}
use Rattle.thread_cluster.specs.Turning.{HasTold}
use Rattle.thread_cluster.specs.Books.{AreCounted, WereCounted, unheard_to}
use Rattle.thread_cluster.proofs.cluster.Cluster.tell.Given as goal

abbrev pub invariant-loop-to : goal.invariant-loop-to
invariant-loop-to g l = record {
  turned : Turns g.M.Member.taken g.N.Section.ids l.taken l.initial.session l.session;
  told : (first : Known _ _ _ _ _) → AreCounted g.M.Member.posted g.M.Member.taken g.N.Section.ids l.all first l.initial.session.seen.known
      → HasTold g.M.Member.taken g.M.Member.posted g.N.Section.ids l.fn.from l.to l.taken first l.initial.session l.session;
  steps : (first : Known _ _ _ _ _) → AreCounted g.M.Member.posted g.M.Member.taken g.N.Section.ids l.all first l.initial.session.seen.known
      → l.steps ≤ l.initial.steps + unheard_to g.M.Member.posted g.M.Member.taken g.N.Section.ids l.fn.from l.to first l.session.seen.known;
  few : l.taken ≤ 16384 * l.to;
  counted : WereCounted g.M.Member.posted g.M.Member.taken g.N.Section.ids l.all l.session.seen.known;
  table : l.session.seen.table ≡ g.N.Name.table;
}
