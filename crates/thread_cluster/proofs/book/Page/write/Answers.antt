use Rattle.std.proofs.Common.{◌≡◌, length, refl, ap, sym, ◌∙◌}
use Rattle.thread_cluster.specs.Passing.{at_one}
use Rattle.thread_cluster.specs.Books.{one_if}
use Rattle.thread_cluster.proofs.Books.{written_none}
use Rattle.thread_cluster.proofs.book.Page.write.Goals as goal
use Rattle.thread_cluster.proofs.book.Page.write.Goals.{then-takes, else-takes}

pub returns-in_default : goal.returns-in_default
returns-in_default g c =
    let one : c.if-takes.one ≡ one_if c.args.takes = elim c.if-takes.branch [ then-takes w ↦ w.one-is ∙ sym (ap one_if w.if-takes.true) | else-takes w ↦ w.one-is ∙ sym (ap one_if w.if-takes.false) ] in
    written_none g.M.Member.posted c.args.index c.if-takes.one c.args.takes c.args.output.now c.args.self.now _ refl refl refl one c.saturating_add-self.ensures (ap (λ o. length (at_one g.M.Member.posted o c.args.output.now)) c.in_default.is)

pub returns-then-count-eq0 : goal.returns-then-count-eq0
returns-then-count-eq0 g c =
    let one : c.if-takes.one ≡ one_if c.args.takes = elim c.if-takes.branch [ then-takes w ↦ w.one-is ∙ sym (ap one_if w.if-takes.true) | else-takes w ↦ w.one-is ∙ sym (ap one_if w.if-takes.false) ] in
    let is = c.in-Some.is in
    written_none g.M.Member.posted c.args.index c.if-takes.one c.args.takes c.args.output.now c.args.self.now _ refl refl refl one c.saturating_add-self.ensures
    (ap (λ o. length (at_one g.M.Member.posted o c.args.output.now)) c.in-Some.is ∙ (sym c.count_posted-count.ensures ∙ c.if-count-eq0.true))
