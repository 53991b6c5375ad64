use Rattle.theorem_declaring.proofs.Stores.{unknown_command, nothing_instead, nothing_stored}
use Rattle.theorem_declaring.proofs.laws.other_keys_are_unknown.Goals as goal

pub returns-clause-refused : goal.returns-clause-refused
returns-clause-refused g c = λ D keys node input fate another. unknown_command D keys node input fate another

pub returns-clause-instead : goal.returns-clause-instead
returns-clause-instead g c = λ D node fate. nothing_instead D node fate

pub returns-clause-lawful : goal.returns-clause-lawful
returns-clause-lawful g c = λ D node. nothing_stored D node
