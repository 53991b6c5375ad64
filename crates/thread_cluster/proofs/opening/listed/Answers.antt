use Rattle.thread_cluster.proofs.Books.{ids_of}
use Rattle.thread_cluster.proofs.opening.listed.Goals as goal

pub returns : goal.returns
returns g c = ids_of g.N.Section.ids c.args.cells.now c.args.ids.now c.requires
