use Rattle.std.proofs.Common.{ap, sym, ◌∙◌, subst}
use mathlib.Core.List.{IsPrefix}
use Rattle.thread_cell.specs.Lists.{at, longer_each}
use Rattle.thread_cell.specs.Values.{Began, Seen}
use Rattle.trial_cell.specs.contracts.tally.TallyMachine.TheImpl.{ghosts}
use Rattle.trial_cell.specs.Answers.{Client, Place, Beginning}
use Rattle.trial_cell.specs.Tallies.{Added}
use Rattle.trial_cell.specs.declared.tally.Tally.{Tally}
use Rattle.trial_cell.proofs.Answering.{shown}
use Rattle.trial_cell.proofs.locked.Locked.look.Goals as goal

pub returns-clause-shown : goal.returns-clause-shown
returns-clause-shown g c =
    let p = g.P.Spot.PLACE in
    let s = c.args.session.now in
    let cell = c.meet.new.self in
    let same = c.note-note-2.ensures.same in
    let told = c.note-note.ensures.note in
    let unmoved = c.note-note.ensures.same in
    let second = c.meet-2.ensures in
    shown p cell s c.meet-2.new.self c.machine.result.now.total
    (subst (λ (x : Place). Began ghosts p x.seen.began (at x.seen.known p) x.machine) same c.facts.ensures.began)
    (λ q. subst (λ (x : Seen Added Beginning). IsPrefix (at x.known q) (at cell.seen.known q)) told (c.meet.ensures.knew q).1)
    (second.known ∙ (ap (λ (x : Client). longer_each x.seen.known c.note-note-2.result.known) unmoved ∙ ap (λ (x : Seen Added Beginning). longer_each s.seen.known x.known) c.note-note-2.ensures.note))
    (sym (ap (λ (x : Seen Added Beginning). x.began) told) ∙ (c.meet.ensures.began.1 ∙ sym c.meet.ensures.began.0))
    (second.began.0 ∙ ap (λ (x : Client). x.seen.began) unmoved)
    (second.table ∙ sym c.requires)
    (second.client.0 ∙ ap (λ (x : Client). x.number) unmoved)
    (second.client.1 ∙ ap (λ (x : Client). x.calls) unmoved)
    (ap (λ (m : Tally). m.total) c.machine.ensures ∙ ap (λ (x : Place). x.machine.total) same)
