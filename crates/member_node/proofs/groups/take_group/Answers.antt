use Rattle.std.proofs.Common.{◌≡◌, sym, ap, ◌∙◌, subst, false, true, if◌then◌else◌}
use Rattle.member_node.proofs.Common.{StandsFor, parts_of}
use Rattle.model_members.specs.Entry.{judged}
use Rattle.model_members.specs.Entry.Judgement.{Wanted, Stale, Missing}
use Rattle.member_node.specs.Taking.{judged_for, entry_after, lacking_in}
use Rattle.member_node.proofs.groups.take_group.Goals as goal
use Rattle.member_node.proofs.groups.take_group.Goals.{then-is_strange-via-then-is_strange, then-is_strange-via-else-is_strange+then-not-delta_fits}

pub returns-then-is_strange-clause-image : goal.returns-then-is_strange-clause-image
returns-then-is_strange-clause-image g c = λ log before theirs fits s t.
    elim c.then-is_strange.branch [
      | then-is_strange-via-then-is_strange w ↦
          let e : judged_for c.args.id before theirs ≡ Stale = ap (λ b. if b then Stale else judged before theirs) (sym (c.is_strange.ensures.image log before theirs s t) ∙ w.if-is_strange.true) in
          (ap (entry_after before theirs) e, sym (ap lacking_in e))
      | then-is_strange-via-else-is_strange+then-not-delta_fits w ↦
          let e : false ≡ true = sym w.if-not-delta_fits.true ∙ w.delta_fits.ensures ∙ ap (λ v. g.T.Replica.delta_fits_kind (g.T.Replica.kind_of v) c.args.group.now.delta) w.value.ensures ∙ fits in
          absurd (cc e)
    ]

pub returns-in-Already-clause-image : goal.returns-in-Already-clause-image
returns-in-Already-clause-image g c = λ log before theirs fits s t.
    let e : judged_for c.args.id before theirs ≡ Stale =
    ap (λ b. if b then Stale else judged before theirs) (sym (c.is_strange.ensures.image log before theirs s t) ∙ c.if-is_strange.false) ∙ sym (c.in-Already.ensures.image log before theirs s t) in
    (ap (entry_after before theirs) e, sym (ap lacking_in e))

pub returns-in-Gap-clause-image : goal.returns-in-Gap-clause-image
returns-in-Gap-clause-image g c = λ log before theirs fits s t.
    let e : judged_for c.args.id before theirs ≡ Missing c.in-Gap.lacking =
    ap (λ b. if b then Stale else judged before theirs) (sym (c.is_strange.ensures.image log before theirs s t) ∙ c.if-is_strange.false) ∙ sym (c.in-Gap.ensures.image log before theirs s t) in
    (ap (entry_after before theirs) e, sym (ap lacking_in e))

pub returns-in_ok-take-in-Take-clause-image : goal.returns-in_ok-take-in-Take-clause-image
returns-in_ok-take-in-Take-clause-image g c = λ log before theirs fits s t.
    let D = g.T.Replica.IsDataOf in
    let wanted : judged before theirs ≡ Wanted = sym (c.in-Take.ensures.image log before theirs s t) in
    let e : judged_for c.args.id before theirs ≡ Wanted = ap (λ b. if b then Stale else judged before theirs) (sym (c.is_strange.ensures.image log before theirs s t) ∙ c.if-is_strange.false) ∙ wanted in
    let mine = subst (λ envelope. StandsFor D (parts_of envelope) log before) (sym c.in_ok-entry-in-Take.ensures) s in
    (subst (λ entry. StandsFor D (parts_of c.take.new.self) log entry) (sym (ap (entry_after before theirs) e)) (c.in_ok-take-in-Take.ensures.image log before theirs mine t wanted), sym (ap lacking_in e))
