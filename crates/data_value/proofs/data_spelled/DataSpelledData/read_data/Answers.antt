use Rattle.std.proofs.Common.{ℕ, ◌<◌, List, drop, ap, sym, ◌∙◌, arith, length-drop}
use Rattle.base_vectors.specs.IdSets.{members_in}
use Rattle.model_kinds.specs.declared.kind.Kind.{Kind}
use Rattle.data_value.specs.DataSpelledLaws.{found_deleted, high_read}
use Rattle.data_value.proofs.data_spelled.DataSpelledData.read_data.Goals as goal

-- nothing is read, so that what is left is all that there was
pub returns-then-kind-gt-DELETED : goal.returns-then-kind-gt-DELETED
returns-then-kind-gt-DELETED c =
    let left : List ℕ = drop c.args.place c.args.from.now in
    let high : 128 < c.args.kind = omega arith in
    let within = c.requires.within in
    (left, high_read c.args.kind (members_in c.args.barred) left high ∙ ap (λ (kind : Kind). found_deleted kind left) (sym c.kind_at.ensures), omega (arith, length-drop c.args.place c.args.from.now))
