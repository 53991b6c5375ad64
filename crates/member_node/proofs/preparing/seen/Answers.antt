use Rattle.std.proofs.Common.{Some, length, sym, ap, ◌∙◌, subst, arith}
use Rattle.std.proofs.lemmas.List.{length-map}
use Rattle.member_node.proofs.Common.{performed_in, StandsFor, parts_of}
use Rattle.member_node.specs.declared.change.Change.TheVariants.{Entry}
use Rattle.member_node.specs.Installing.{IsSeen, IsSeenEntry}
use Rattle.member_node.proofs.Lists.{counted_put, made_next}
use Rattle.member_node.proofs.preparing.seen.Goals as goal

pub loop-index-init : goal.loop-index-init
loop-index-init g c = record { counted = ap length c.unchanged-changes.ensures ∙ length-map c.args.keys.now _; made = λ k d e below. absurd (omega arith) }

pub set-requires : goal.set-requires
set-requires g c = let counted = c.loop-index.invariant.counted in let within = c.loop-index-test.true in omega arith

pub loop-index-preserved : goal.loop-index-preserved
loop-index-preserved g c =
    let R = g.T.Replica in
    let inv = c.loop-index.invariant in
    let Makes = IsSeen R c.args.id c.args.view in
    let keys = c.args.keys.now in
    let state = c.index-keys-index.result in
    let copy = c.in_ok-entry.ensures ∙ c.envelope.ensures in
    let entry = c.add_seen.new.self in
    let seen : IsSeenEntry R c.args.id c.args.view state.entry entry = record {
      value = c.add_seen.ensures.value ∙ ap (λ e. e.value) copy;
      versions = c.add_seen.ensures.versions ∙ ap (λ e. e.versions) copy;
      performed = λ r. c.add_seen.ensures.performed r ∙ ap (λ e. performed_in e.markers r) copy;
      image = λ log held s. c.add_seen.ensures.image log held (subst (λ e. StandsFor R.IsDataOf (parts_of e) log held) (sym copy) s);
    } in
    record {
      counted = counted_put Makes keys c.loop-index.changes c.set.new.self c.loop-index.index state (Some (Entry entry)) c.loop-index-test.true c.index-keys-index.is inv.counted c.in_ok-set.ensures seen inv.made;
      made = made_next Makes keys c.loop-index.changes c.set.new.self c.loop-index.index state (Some (Entry entry)) c.loop-index-test.true c.index-keys-index.is inv.counted c.in_ok-set.ensures seen inv.made;
    }

pub returns : goal.returns
returns g c =
    let inv = c.loop-index.invariant in
    record { one_each = inv.counted; made = λ k d e within. inv.made k d e (omega arith) }
