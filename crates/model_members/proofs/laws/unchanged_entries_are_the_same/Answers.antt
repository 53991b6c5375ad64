use Rattle.model_members.proofs.Unchanged.{unchanged_exactly, unchanged_equal}
use Rattle.model_members.proofs.laws.unchanged_entries_are_the_same.Goals as goal

pub returns-clause-parts : goal.returns-clause-parts
returns-clause-parts g c = unchanged_exactly

pub returns-clause-whole : goal.returns-clause-whole
returns-clause-whole g c = unchanged_equal
