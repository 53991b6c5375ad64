use Rattle.std.proofs.Common.{◌≡◌, Option, Some, None, length, get_or, set, sym, ap, ◌∙◌, subst, arith}
use Rattle.std.proofs.lemmas.List.{length-map, get_or-set_other}
use Rattle.member_node.proofs.Common.{Flushed, IsFlush, Change, number_at, own_number}
use Rattle.member_node.proofs.Lists.{counted_put, made_next, made_still}
use Rattle.member_node.proofs.Sendings.{all_flushed}
use Rattle.member_node.proofs.Takings.{unchanged_at}
use Rattle.member_node.proofs.sending.flushes.Goals as goal
use Rattle.member_node.proofs.sending.flushes.Goals.{then-not-is_flushed+in_ok-flushed+in_ok-set, else-not-is_flushed}

pub loop-index-init : goal.loop-index-init
loop-index-init g c = record { counted = ap length c.unchanged-changes.ensures ∙ length-map c.args.keys.now _; made = λ k d e below. absurd (omega arith); ahead = λ k e past within. ap (λ xs. get_or xs k e) c.unchanged-changes.ensures ∙ unchanged_at c.args.keys.now k e within }

pub set-requires : goal.set-requires
set-requires g c = let counted = c.loop-index.invariant.counted in let within = c.loop-index-test.true in omega arith

pub loop-index-preserved : goal.loop-index-preserved
loop-index-preserved g c =
    let inv = c.loop-index.invariant in
    let Makes = IsFlush c.args.id c.args.members.now in
    let keys = c.args.keys.now in
    let i = c.loop-index.index in
    let x = c.index-keys-index.result in
    let old = c.loop-index.changes in
    let new = c.if-not-is_flushed.changes in
    elim c.if-not-is_flushed.branch [
      | then-not-is_flushed+in_ok-flushed+in_ok-set w ↦
          let change : Option (Change g.row.T.Denot g.row.T-Kind.Denot g.row.T-Op.Denot g.row.T-Delta.Denot) = Some (Flushed w.in_ok-flushed.flushed) in
          let put : new ≡ set old i change = w.changes-is ∙ w.in_ok-set.ensures in
          record {
            counted = counted_put Makes keys old new i x change c.loop-index-test.true c.index-keys-index.is inv.counted put w.in_ok-flushed.ensures inv.made;
            made = made_next Makes keys old new i x change c.loop-index-test.true c.index-keys-index.is inv.counted put w.in_ok-flushed.ensures inv.made;
            ahead = λ k e past within. ap (λ xs. get_or xs k e) put ∙ get_or-set_other old i k change e (λ same. omega arith) ∙ inv.ahead k e (omega arith) within;
          }
      | else-not-is_flushed w ↦
          let same : new ≡ old = w.changes-is in
          let sent = number_at x.flushed in
          let own = own_number c.args.id x in
          let flushed : Makes x None = λ peer. all_flushed c.args.id own sent peer c.args.members.now (sym c.is_flushed.ensures ∙ w.if-not-is_flushed.false) in
          let made = made_still Makes keys old i x None c.loop-index-test.true c.index-keys-index.is (λ e. sym (inv.ahead i e (omega arith) c.loop-index-test.true)) flushed inv.made in
          record {
            counted = ap length same ∙ inv.counted;
            made = λ k d e below. subst (λ xs. Makes (get_or keys k d) (get_or xs k e)) (sym same) (made k d e below);
            ahead = λ k e past within. ap (λ xs. get_or xs k e) same ∙ inv.ahead k e (omega arith) within;
          }
    ]

pub returns : goal.returns
returns g c =
    let inv = c.loop-index.invariant in
    record { one_each = inv.counted; made = λ k d e within. inv.made k d e (omega arith) }
