use Rattle.std.proofs.Common.{◌≡◌, ◌<◌, None, length, slice_index_or, sym, ap, ◌∙◌, subst, arith, rules, bytes_eq}
use Rattle.std.proofs.lemmas.List.{get_or_default}
use Rattle.std.proofs.lemmas.Result.{on_ok_weaker}
use Rattle.member_node.proofs.Common.{take_entry, Shown, AreMade, IsKept, IsAtWork}
use Rattle.model_members.specs.Node.{Node as Member}
use Rattle.member_node.specs.Taking.{put_at}
use Rattle.member_node.proofs.Lists.{position-found, position-none}
use Rattle.member_node.proofs.Takings.{length-put_at, kept_put, entry_passed, entry_taken, other_kind}
use Rattle.member_node.proofs.entries.take_envelope.Goals as goal

pub returns-in_default-clause-image : goal.returns-in_default-clause-image
returns-in_default-clause-image g c = λ kinds logs entries node sent exact held kept s work.
    let R = g.T.Replica in
    let none = position-none (λ state. bytes_eq state.name c.args.key.now) c.args.keys.now c.in_default.ensures in
    subst (λ (n : Member g.row.T-Kind.Denot g.row.T-Op.Denot Shown). IsAtWork R.kind_of R.IsDataOf kinds logs c.args.id c.args.keys.now c.args.view entries c.args.changes.now n)
    (sym (entry_passed R.kind_of R.IsDataOf kinds logs c.args.id c.args.keys.now c.args.view entries held c.args.changes.now kept node work (record { key = c.args.key.now; item = c.args.envelope.now }) sent s none)) work

pub returns : goal.returns
returns g c =
    let R = g.T.Replica in
    let at = c.index-keys-index.result in
    let change = slice_index_or c.args.changes.now c.in-Some.index None in
    let found = position-found (λ state. bytes_eq state.name c.args.key.now) c.args.keys.now c.in-Some.index c.in-Some.ensures in
    let is : change ≡ slice_index_or c.args.changes.now c.in-Some.index change = get_or_default c.args.changes.now c.in-Some.index None change (let inside = found.within in let counted = c.requires.counted in omega arith) in
    record {
      counted = on_ok_weaker c.put.result (λ put. ap length put ∙ length-put_at c.args.changes.now c.in-Some.index c.in_ok-taken.taken ∙ c.requires.counted) c.put.ensures;
      kept = λ kept. on_ok_weaker c.put.result (λ put.
          subst (AreMade (IsKept R.kind_of c.args.id) c.args.keys.now) (sym put)
          (kept_put R.kind_of c.args.id c.args.keys.now c.args.changes.now c.in-Some.index at change found.within c.index-keys-index.is is c.current-now.result.now c.current-now.ensures c.in_ok-taken.taken c.in_ok-taken.ensures.kept kept)) c.put.ensures;
      image = on_ok_weaker c.put.result (λ put. λ kinds logs entries node sent exact held kept s work.
          subst (λ changes. IsAtWork R.kind_of R.IsDataOf kinds logs c.args.id c.args.keys.now c.args.view entries changes (take_entry node sent)) (sym put)
          (entry_taken R.kind_of R.IsDataOf kinds logs c.args.id c.args.keys.now c.args.view entries held c.args.changes.now kept node work (record { key = c.args.key.now; item = c.args.envelope.now }) sent s exact c.in-Some.index at change found c.index-keys-index.is is c.current-now.result.now c.current-now.ensures c.in_ok-taken.taken c.in_ok-taken.ensures.image)) c.put.ensures;
      passed_over = on_ok_weaker c.put.result (λ put. λ kinds kept passed.
          let other = other_kind R c.args.id c.args.keys.now c.args.changes.now kinds kept c.args.key.now c.in-Some.index at change found c.index-keys-index.is is c.current-now.result.now c.current-now.ensures c.args.envelope.now passed in
          put ∙ ap (put_at c.args.changes.now c.in-Some.index) (c.in_ok-taken.ensures.passed_over other)) c.put.ensures;
    }

pub offset_bounds-keys-index : goal.offset_bounds-keys-index
offset_bounds-keys-index g c =
    let found = position-found (λ state. bytes_eq state.name c.args.key.now) c.args.keys.now c.in-Some.index c.in-Some.ensures in
    let inside : c.in-Some.index < length c.args.keys.now = found.within in
    search rules

pub bounds-keys-index : goal.bounds-keys-index
bounds-keys-index g c = (position-found (λ state. bytes_eq state.name c.args.key.now) c.args.keys.now c.in-Some.index c.in-Some.ensures).within

pub put-requires : goal.put-requires
put-requires g c =
    let found = position-found (λ state. bytes_eq state.name c.args.key.now) c.args.keys.now c.in-Some.index c.in-Some.ensures in
    let inside = found.within in
    omega (arith, inside, c.requires.counted)

pub current-now-requires : goal.current-now-requires
current-now-requires g c =
    let found = position-found (λ state. bytes_eq state.name c.args.key.now) c.args.keys.now c.in-Some.index c.in-Some.ensures in
    let inside = found.within in
    omega (arith, inside, c.requires.counted)
