use Rattle.std.proofs.Common.{◌≡◌, ◌+◌, ◌≤◌, ◌*◌}
use Rattle.thread_cluster.specs.Turning.{HaveTold}
use Rattle.thread_cluster.specs.Books.{AreCounted, unheard_of}
use Rattle.thread_cluster.proofs.cluster.Cluster.turn_all.Given as goal

abbrev pub invariant-loop-from : goal.invariant-loop-from
invariant-loop-from g l = record {
  told : HaveTold g.M.Member.taken g.M.Member.posted g.N.Section.ids l.from l.taken l.fn.session.seen.known l.fn.session l.session;
  steps : l.steps ≤ l.fn.steps + unheard_of g.M.Member.posted g.M.Member.taken g.N.Section.ids l.from l.fn.session.seen.known l.session.seen.known;
  few : l.taken ≤ 131072 * l.from;
  counted : AreCounted g.M.Member.posted g.M.Member.taken g.N.Section.ids l.counts l.fn.session.seen.known l.session.seen.known;
  table : l.session.seen.table ≡ g.N.Name.table;
}
