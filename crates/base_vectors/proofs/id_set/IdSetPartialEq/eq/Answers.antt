use Rattle.base_vectors.proofs.SetWords.{eq_by_words}
use Rattle.base_vectors.proofs.id_set.IdSetPartialEq.eq.Goals as goal

pub returns : goal.returns
returns c = search (eq_by_words)
