use Rattle.thread_cluster.proofs.cluster_turn.Cluster+Node+T+K+N.turn.Given as goal

abbrev pub ghosts-turn_from : goal.ghosts-turn_from
ghosts-turn_from g a = record { name = a.blank.name; parts = a.blank.parts }
