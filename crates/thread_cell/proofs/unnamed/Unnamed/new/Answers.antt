use Rattle.thread_cell.proofs.Openings.{opens}
use Rattle.thread_cell.proofs.unnamed.Unnamed.new.Goals as goal

pub of_words-requires : goal.of_words-requires
of_words-requires g c = opens _
