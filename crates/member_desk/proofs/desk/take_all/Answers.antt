use Rattle.std.proofs.Common.{List, length, ap, sym, ◌∙◌, subst}
use Rattle.std.specs.Vec.Iter.{into_iter_items, into_iter_len}
use Rattle.member_desk.specs.declared.look.Look.{Look}
use Rattle.member_desk.specs.Looks.{told_by}
use Rattle.member_desk.proofs.Taking.{IsTaken, taking_start, taking_none, taking_end, one_fewer}
use Rattle.member_desk.proofs.desk.take_all.Goals as goal

pub loop-look-init : goal.loop-look-init
loop-look-init c =
    let gives = c.into_iter-look-iterator.ensures.into_iter_gives in
    record {
      taken = subst (λ (looks : List Look). IsTaken (told_by c.args.desk.now c.args.looks.items) c.args.desk.now 0 looks) (sym gives.0) (taking_start c.args.desk.now c.args.looks.items);
      count = ap length gives.0 ∙ sym (gives.1 ∙ c.args.looks.ok.0);
    }

pub loop-look-preserved : goal.loop-look-preserved
loop-look-preserved c = record {
  taken = taking_none (told_by c.args.desk.now c.args.looks.items) c.loop-look.desk c.loop-look.index c.in-Some.look (into_iter_items c.next.new.self) c.if-index-desk.false
      (subst (λ (looks : List Look). IsTaken (told_by c.args.desk.now c.args.looks.items) c.loop-look.desk c.loop-look.index looks) c.in-Some.ensures.steps.0 c.loop-look.invariant.taken);
  count = one_fewer (into_iter_items c.loop-look.look-iterator) (into_iter_items c.next.new.self) c.in-Some.look (into_iter_len c.loop-look.look-iterator) (into_iter_len c.next.new.self) c.in-Some.ensures.steps.0 c.loop-look.invariant.count c.in-Some.ensures.steps.1;
}

pub returns : goal.returns
returns c = taking_end (told_by c.args.desk.now c.args.looks.items) c.loop-look.desk c.loop-look.index (into_iter_items c.loop-look.look-iterator) (c.loop-look.invariant.count ∙ c.in-None.ensures.steps.0) c.loop-look.invariant.taken
