use Rattle.trial_cell.proofs.Answering.{ok_of, goes_on_after}
use Rattle.trial_cell.proofs.clients.play.Goals as goal

pub returns : goal.returns
returns g c =
    let first = ok_of c.add.result c.in_ok-first.first _ c.in_ok-first.ensures.value c.add.ensures.ok in
    let second = ok_of c.add-2.result c.in_ok-second.second _ c.in_ok-second.ensures.value c.add-2.ensures.ok in
    goes_on_after c.args.session c.add-2.new.session c.look-seen.new.session (goes_on_after c.args.session c.add.new.session c.add-2.new.session first.goes_on second.goes_on) c.look-seen.ensures.shown.goes_on
