use Rattle.trial_cell.proofs.tests.two_clients.Given as goal

-- the table that was just made
abbrev pub ghosts-added : goal.ghosts-added
ghosts-added g a = record { table = a.unnamed.table }
