use Rattle.std.proofs.Common.{ap}
use Rattle.data_orset.specs.declared.set.SetDelta.{SetDelta}
use Rattle.data_orset.proofs.Uniting.{combined_fresh, combined_seen}
use Rattle.data_orset.proofs.set.SetDelta.extend.Goals as goal

pub returns-clause-ok : goal.returns-clause-ok
returns-clause-ok c =
    let mine = ap (λ (d : SetDelta). d.fresh) c.self.view_is in
    let mine_seen = ap (λ (d : SetDelta). d.seen) c.self.view_is in
    let fresh = ap (λ (d : SetDelta). d.fresh) c.later.view_is in
    let seen = ap (λ (d : SetDelta). d.seen) c.later.view_is in
    let all_fresh = combined_fresh c.args.self.now c.args.later.now _ _ _ c.unite_both.new.first c.drop_all.new.self mine fresh seen c.in_ok-unite_both.ensures.first c.drop_all.ensures in
    let all_seen = combined_seen c.args.self.now c.args.later.now _ _ c.unite_both.new.second mine_seen seen c.in_ok-unite_both.ensures.second in
    λ i. record { fresh = all_fresh i; seen = all_seen i }
