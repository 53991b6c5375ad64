use Rattle.std.proofs.Common.{ap, sym, ◌∙◌, pos, neg_ℤ, ◌+ℤ◌}
use Rattle.model_meanings.specs.Counter.{total}
use Rattle.model_kinds.specs.SixKinds as kinds
use Rattle.model_kinds.specs.declared.shown.Shown.TheVariants.{Count, Signed, Elements, Switch, Written}
use Rattle.data_meaning.proofs.Newest.{ok_same}
use Rattle.data_meaning.proofs.Meanings.{total_means, added_means, operation_means, live_means}
use Rattle.data_meaning.proofs.TimestampsMean.{winning_means}
use Rattle.data_meaning.proofs.by_kind.value_in_order.Goals as goal

pub returns-in-GCounter : goal.returns-in-GCounter
returns-in-GCounter c = λ H are. ap Count (c.increments.ensures ∙ total_means c.args.records.now H are kinds.increment) ∙ ap (λ k. kinds.shown k H) (sym c.in-GCounter.is)

pub returns-in-PnCounter : goal.returns-in-PnCounter
returns-in-PnCounter c = λ H are.
    ok_same c.difference.result _ _ c.difference.ensures (
    ap Signed (ap (λ n. pos n +ℤ neg_ℤ (pos c.decrements.result)) (c.increments-in-PnCounter.ensures ∙ total_means c.args.records.now H are kinds.increment)
    ∙ ap (λ n. pos (total kinds.increment H) +ℤ neg_ℤ (pos n)) (c.decrements.ensures ∙ total_means c.args.records.now H are kinds.decrement))
    ∙ ap (λ k. kinds.shown k H) (sym c.in-PnCounter.is))

pub returns-in_ok-elements-in-GSet : goal.returns-in_ok-elements-in-GSet
returns-in_ok-elements-in-GSet c = λ H are.
    ap Elements (c.from_vec.ensures ∙ c.in_ok-elements-in-GSet.ensures ∙ added_means c.args.records.now H are) ∙ ap (λ k. kinds.shown k H) (sym c.in-GSet.is)

pub returns-in_ok-elements-in-OrSet : goal.returns-in_ok-elements-in-OrSet
returns-in_ok-elements-in-OrSet c = λ H are.
    ap Elements (c.from_vec-in-OrSet.ensures ∙ c.in_ok-elements-in-OrSet.ensures ∙ live_means c.args.records.now H are) ∙ ap (λ k. kinds.shown k H) (sym c.in-OrSet.is)

pub returns-in-Flag : goal.returns-in-Flag
returns-in-Flag c = λ H are. ap Switch (c.is_on.ensures ∙ operation_means c.args.records.now H are kinds.enables) ∙ ap (λ k. kinds.shown k H) (sym c.in-Flag.is)

pub returns-in_ok-winning_text-in-LwwRegister : goal.returns-in_ok-winning_text-in-LwwRegister
returns-in_ok-winning_text-in-LwwRegister c = λ H are.
    ap Written (c.in_ok-winning_text-in-LwwRegister.ensures ∙ winning_means H are.history c.args.records.now are.listed) ∙ ap (λ k. kinds.shown k H) (sym c.in-LwwRegister.is)
