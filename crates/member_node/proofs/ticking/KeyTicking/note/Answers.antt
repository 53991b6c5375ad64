use Rattle.std.proofs.Common.{ap, ◌∙◌, Some}
use Rattle.std.proofs.lemmas.Result.{on_ok_weaker}
use Rattle.member_node.proofs.Common.{number_at}
use Rattle.base_vectors.specs.Vectors.{raised}
use Rattle.member_node.proofs.Ticks.{noted_once}
use Rattle.member_node.proofs.ticking.KeyTicking.note.Goals as goal

pub returns-clause-noted : goal.returns-clause-noted
returns-clause-noted g c =
    let id = c.args.id in
    let own = c.at-number.ensures.value ∙ ap (λ m. number_at m id) c.versions.ensures.value in
    on_ok_weaker c.push.result (λ pushed. noted_once c.args.log.now id c.args.pruned c.args.self.now _ c.if-not-pruned.false (record {
      next = c.in_ok-next.next;
      prunes = pushed;
      before = c.in_ok-next.ensures.before ∙ ap Some c.in_ok-before.ensures.same;
      placeholder = c.in_ok-next.ensures.delta;
      room = c.in_ok-next.ensures.room;
      known = c.in_ok-raise.ensures.ok ∙ ap (raised c.args.self.now.known id) own;
    })) c.push.ensures.ok
