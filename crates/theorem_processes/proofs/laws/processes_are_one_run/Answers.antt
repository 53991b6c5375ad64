use Rattle.std.proofs.Common.{ℕ, List, [], ◌++◌, ap, sym, ◌∙◌}
use Rattle.member_codec.specs.Messages.{message_parts}
use Rattle.theorem_processes.proofs.Walking.{one_run}
use Rattle.theorem_processes.proofs.laws.processes_are_one_run.Goals as goal

pub returns : goal.returns
returns g c = λ kinds decls count first happenings of_kinds begin all.
    one_run g.T.SpelledData g.T.SpelledDelta g.met.K.Keeper.tells_alike kinds decls of_kinds count
    (λ logs post read told bytes was is stands.
    c.stands_as_sent.ensures kinds logs post read told (c.one_spelling.ensures (message_parts post) (message_parts read) [] [] was.0 is.0 (ap (λ (t : List ℕ). t ++ []) (sym was.1 ∙ is.1))).0 stands)
    first begin happenings all
