use Rattle.std.proofs.Common.{◌≡◌, sym, subst}
use Rattle.std.proofs.lemmas.Result.{on_ok_weaker}
use Rattle.data_markers.specs.Marks.{MergesTo}
use Rattle.data_envelope.proofs.Numbers.{at_most_ok}
use Rattle.data_envelope.proofs.envelope.Envelope.merge.Goals as goal

pub returns-then-same_performed-clause-versions : goal.returns-then-same_performed-clause-versions
returns-then-same_performed-clause-versions g c = λ i. at_most_ok c.join.result _ _ (c.join.ensures.versions i)

pub returns-then-same_performed-clause-greatest : goal.returns-then-same_performed-clause-greatest
returns-then-same_performed-clause-greatest g c = λ i stays. c.join.ensures.versions i

pub returns-else-same_performed-clause-markers : goal.returns-else-same_performed-clause-markers
returns-else-same_performed-clause-markers g c =
    let merged : MergesTo c.args.self.now.markers c.args.other.now.markers c.merge.new.self = rw (← c.self.view_is, ← c.other.view_is) (rw (← c.in_ok-markers.ensures) c.in_ok-merge.ensures.ok) in
    on_ok_weaker c.join_cleaned.result (λ (is : c.join_cleaned.new.self.markers ≡ c.merge.new.self). subst (λ m. MergesTo c.args.self.now.markers c.args.other.now.markers m) (sym is) merged) c.join_cleaned.ensures.markers
