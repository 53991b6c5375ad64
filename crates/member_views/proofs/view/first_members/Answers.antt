use Rattle.std.proofs.Common.{ℕ, rules, arith}
use Rattle.std.proofs.lemmas.List.FromFn.{map-range_with_len_more}
use Rattle.member_views.specs.Views.{Member}
use Rattle.member_views.proofs.view.first_members.Goals as goal

pub loop-number-preserved : goal.loop-number-preserved
loop-number-preserved c =
    let seat : ℕ → Member = λ i. record { identity = i; place = i } in
    rw (map-range_with_len_more seat 0 c.loop-number.number c.loop-number.number (omega arith)) (search rules)
