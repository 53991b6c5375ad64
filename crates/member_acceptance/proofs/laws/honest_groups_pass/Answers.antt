use Rattle.std.proofs.Common.{◌≡◌, not, sym, ap, ◌∙◌}
use Rattle.std.specs.Prelude.{fold}
use Rattle.std.proofs.lemmas.Bool.{and_from, eq-eqb}
use Rattle.model_history.proofs.HistoryLaws.{with_at_same}
use Rattle.model_history.specs.Vector.{none_counted}
use Rattle.model_members.specs.Entry.{needs}
use Rattle.model_members.proofs.GroupLaws.{joined_past}
use Rattle.base_vectors.specs.Vectors.{number_at}
use Rattle.member_acceptance.proofs.laws.honest_groups_pass.Goals as goal

-- a group needs the records of its origin before its first
pub returns : goal.returns
returns g c = λ view from parts log group s mine given.
    let before : number_at parts.needed parts.origin ≡ parts.after = s.needed parts.origin ∙ ap (needs group) s.origin ∙ with_at_same (fold joined_past none_counted group.group_records) group.origin group.after ∙ sym s.after in
    and_from _ _ (and_from _ _ (eq-eqb parts.origin from (s.origin ∙ mine)) (eq-eqb (number_at parts.needed parts.origin) parts.after before)) (ap not given)
