use Rattle.std.proofs.Common.{◌≡◌, length}
use Rattle.thread_cluster.specs.Knowing.{Sees}
use Rattle.thread_cluster.specs.Books.{AreCounted}
use Rattle.thread_cluster.proofs.cluster.Cluster.all_counts.Given as goal

abbrev pub invariant-loop-place : goal.invariant-loop-place
invariant-loop-place g l = record {
  counted : AreCounted g.M.Member.posted g.M.Member.taken g.N.Section.ids l.all.items l.fn.session.seen.known l.session.seen.known;
  count : length l.all.items ≡ l.place;
  sees : Sees l.fn.session l.session;
  table : l.session.seen.table ≡ g.N.Name.table;
}
