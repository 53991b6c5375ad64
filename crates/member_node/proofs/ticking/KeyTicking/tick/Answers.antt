use Rattle.std.proofs.Common.{[], ◌∷◌, ◌++◌, ap, sym, ◌∙◌, subst, refl, Some}
use Rattle.std.proofs.lemmas.Result.{on_ok_weaker}
use Rattle.member_node.proofs.Common.{performed_in, parts_of}
use Rattle.member_node.specs.declared.ticking.KeyTicking.{KeyTicking}
use Rattle.member_node.specs.Ticking.{IsTickOf, IsNoted, tick_at}
use Rattle.member_node.proofs.Ticks.{further_none, further_some, untold, told_more}
use Rattle.member_node.proofs.ticking.KeyTicking.tick.Goals as goal

pub returns-in_default-clause-image : goal.returns-in_default-clause-image
returns-in_default-clause-image g c = λ digest log node so_far origin ticks course part.
    let R = g.T.Replica in
    let made = subst (λ told. IsTickOf R.IsDataOf log c.args.id c.args.removed so_far.entry (tick_at R.data_type (R.kind_of c.args.self.now.entry.value) c.args.id c.args.view c.args.members.now so_far.entry c.args.removed) told c.outcome_of.new.entry)
    c.in_default.is (c.in_ok-told.ensures.image log so_far.entry course.entry) in
    further_none R digest log node c.args.state.now so_far c.args.id c.args.view c.args.removed c.args.members.now c.args.self.now _ course ticks c.requires.own.kind made refl refl

pub returns-in_default-clause-told : goal.returns-in_default-clause-told
returns-in_default-clause-told g c = λ digest log node so_far ticks course first same.
    let R = g.T.Replica in
    let made = subst (λ told. IsTickOf R.IsDataOf log c.args.id c.args.removed so_far.entry (tick_at R.data_type (R.kind_of c.args.self.now.entry.value) c.args.id c.args.view c.args.members.now so_far.entry c.args.removed) told c.outcome_of.new.entry)
    c.in_default.is (c.in_ok-told.ensures.image log so_far.entry course.entry) in
    untold R digest log node c.args.state.now so_far c.args.id c.args.view c.args.removed c.args.members.now c.args.self.now c.args.self.now course ticks c.requires.own.kind first c.args.outcomes.now same c.outcome_of.new.entry made

pub returns-clause-image : goal.returns-clause-image
returns-clause-image g c = λ digest log node so_far origin ticks course part.
    let R = g.T.Replica in
    let made = subst (λ told. IsTickOf R.IsDataOf log c.args.id c.args.removed so_far.entry (tick_at R.data_type (R.kind_of c.args.self.now.entry.value) c.args.id c.args.view c.args.members.now so_far.entry c.args.removed) told c.outcome_of.new.entry)
    c.in-Some.is (c.in_ok-told.ensures.image log so_far.entry course.entry) in
    let same = c.note.ensures.entry in
    let mid : KeyTicking g.row.T.Denot g.row.T-Kind.Denot g.row.T-Op.Denot g.row.T-Delta.Denot = record { alloc = c.args.self.now.alloc; entry = c.outcome_of.new.entry; known = c.args.self.now.known; prunes = c.args.self.now.prunes } in
    let unpruned = ap (λ e. performed_in (parts_of e).marks c.args.id) same ∙ c.in_ok-told.ensures.own.unpruned in
    on_ok_weaker c.push.result (λ pushed.
    further_some R digest log node c.args.state.now so_far c.args.id c.args.view c.args.removed c.args.members.now c.args.self.now c.note.new.self course ticks c.requires.own.kind c.number-below_limit.ensures.range origin
    unpruned mid refl refl same c.in-Some.outcome (subst (λ e. IsTickOf R.IsDataOf log c.args.id c.args.removed so_far.entry (tick_at R.data_type (R.kind_of c.args.self.now.entry.value) c.args.id c.args.view c.args.members.now so_far.entry c.args.removed) (Some c.in-Some.outcome) e) (sym same) made)
    (subst (λ pruned. IsNoted c.args.state.now.log c.args.id pruned mid c.note.new.self) c.is_prune.ensures c.in_ok-note.ensures.noted) part) c.push.ensures.ok

pub returns-clause-told : goal.returns-clause-told
returns-clause-told g c = λ digest log node so_far ticks course first same.
    let R = g.T.Replica in
    let made = subst (λ told. IsTickOf R.IsDataOf log c.args.id c.args.removed so_far.entry (tick_at R.data_type (R.kind_of c.args.self.now.entry.value) c.args.id c.args.view c.args.members.now so_far.entry c.args.removed) told c.outcome_of.new.entry)
    c.in-Some.is (c.in_ok-told.ensures.image log so_far.entry course.entry) in
    on_ok_weaker c.push.result (λ pushed.
    told_more R digest log node c.args.state.now so_far c.args.id c.args.view c.args.removed c.args.members.now c.args.self.now c.args.self.now course ticks c.requires.own.kind first c.args.outcomes.now same c.outcome_of.new.entry
    c.in-Some.outcome made c.push.new.self (pushed ∙ ap (λ key. c.args.outcomes.now ++ record { key = key; removed = c.args.removed; outcome = c.in-Some.outcome } ∷ []) c.copied-key.ensures)) c.push.ensures.ok
