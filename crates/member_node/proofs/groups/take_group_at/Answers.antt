use Rattle.std.proofs.Common.{◌≡◌, ◌<◌, ◌++◌, None, length, slice_index_or, sym, ap, ◌∙◌, subst, arith, rules, map, bytes_eq, append-nil}
use Rattle.std.proofs.lemmas.List.{get_or_default}
use Rattle.std.proofs.lemmas.Result.{on_ok_weaker}
use Rattle.member_node.proofs.Common.{AfterGroups, take_group, Shown, AreMade, IsKept, IsAtWork, gap_told}
use Rattle.member_node.specs.declared.groups.GroupTaken.{GroupTaken}
use Rattle.member_node.specs.Taking.{put_at, gaps_at}
use Rattle.member_node.proofs.Lists.{position-found, position-none}
use Rattle.member_node.proofs.Takings.{length-put_at, kept_put, group_passed, group_taken, group_gaps, other_delta}
use Rattle.member_node.proofs.groups.take_group_at.Goals as goal

pub returns-in_default-clause-image : goal.returns-in_default-clause-image
returns-in_default-clause-image g c = λ kinds logs view entries so_far sent held kept s work gaps.
    let R = g.T.Replica in
    let none = position-none (λ state. bytes_eq state.name c.args.keyed.now.key) c.args.keys.now c.in_default.ensures in
    subst (λ (next : AfterGroups g.row.T-Kind.Denot g.row.T-Op.Denot Shown). IsAtWork R.kind_of R.IsDataOf kinds logs c.args.id c.args.keys.now view entries c.args.changes.now next.node × (c.args.gaps.now ≡ map gap_told next.gaps))
    (sym (group_passed R.kind_of R.IsDataOf kinds logs c.args.id c.args.keys.now view entries held c.args.changes.now kept so_far work c.args.keyed.now sent s none)) (work, gaps)

pub returns : goal.returns
returns g c =
    let R = g.T.Replica in
    let at = c.index-keys-index.result in
    let change = slice_index_or c.args.changes.now c.in-Some.index None in
    let found = position-found (λ state. bytes_eq state.name c.args.keyed.now.key) c.args.keys.now c.in-Some.index c.in-Some.ensures in
    let is : change ≡ slice_index_or c.args.changes.now c.in-Some.index change = get_or_default c.args.changes.now c.in-Some.index None change (let inside = found.within in let counted = c.requires.counted in omega arith) in
    record {
      counted = on_ok_weaker c.put.result (λ put. ap length put ∙ length-put_at c.args.changes.now c.in-Some.index c.in_ok-taken.taken.entry ∙ c.requires.counted) c.put.ensures;
      kept = λ kept. on_ok_weaker c.put.result (λ put.
          subst (AreMade (IsKept R.kind_of c.args.id) c.args.keys.now) (sym put)
          (kept_put R.kind_of c.args.id c.args.keys.now c.args.changes.now c.in-Some.index at change found.within c.index-keys-index.is is c.current-now.result.now c.current-now.ensures c.in_ok-taken.taken.entry c.in_ok-taken.ensures.kept kept)) c.put.ensures;
      image = on_ok_weaker c.put.result (λ put. λ kinds logs view entries so_far sent held kept s work gaps.
          let taken = c.in_ok-taken.taken in (
            subst (λ changes. IsAtWork R.kind_of R.IsDataOf kinds logs c.args.id c.args.keys.now view entries changes (take_group so_far sent).node) (sym put)
                (group_taken R.kind_of R.IsDataOf kinds logs c.args.id c.args.keys.now view entries held c.args.changes.now kept so_far work c.args.keyed.now sent s c.in-Some.index at change found c.index-keys-index.is is c.current-now.result.now c.current-now.ensures taken c.in_ok-taken.ensures.image),
            c.in_ok-add_gap.ensures ∙ ap (λ gs. gs ++ gaps_at c.args.keyed.now.key c.in_ok-taken.taken.lacking) gaps
                ∙ sym (group_gaps R.kind_of R.IsDataOf kinds logs c.args.id c.args.keys.now view entries held c.args.changes.now kept so_far work c.args.keyed.now sent s c.in-Some.index at change found c.index-keys-index.is is c.current-now.result.now c.current-now.ensures taken c.in_ok-taken.ensures.image),
          )) c.put.ensures;
      passed_over = on_ok_weaker c.put.result (λ put. λ kinds kept passed.
          let keyed = c.args.keyed.now in
          let other = other_delta R c.args.id c.args.keys.now c.args.changes.now kinds kept keyed.key c.in-Some.index at change found c.index-keys-index.is is c.current-now.result.now c.current-now.ensures keyed.item passed in
          let none = c.in_ok-taken.ensures.passed_over other in (
            put ∙ ap (λ (taken : GroupTaken g.row.T.Denot g.row.T-Kind.Denot g.row.T-Op.Denot g.row.T-Delta.Denot). put_at c.args.changes.now c.in-Some.index taken.entry) none,
            c.in_ok-add_gap.ensures ∙ ap (λ (taken : GroupTaken g.row.T.Denot g.row.T-Kind.Denot g.row.T-Op.Denot g.row.T-Delta.Denot). c.args.gaps.now ++ gaps_at keyed.key taken.lacking) none ∙ append-nil c.args.gaps.now,
          )) c.put.ensures;
    }

pub current-now-requires : goal.current-now-requires
current-now-requires g c =
    let found = position-found (λ state. bytes_eq state.name c.args.keyed.now.key) c.args.keys.now c.in-Some.index c.in-Some.ensures in
    let inside = found.within in
    omega (arith, inside, c.requires.counted)

pub put-requires : goal.put-requires
put-requires g c =
    let found = position-found (λ state. bytes_eq state.name c.args.keyed.now.key) c.args.keys.now c.in-Some.index c.in-Some.ensures in
    let inside = found.within in
    omega (arith, inside, c.requires.counted)

pub offset_bounds-keys-index : goal.offset_bounds-keys-index
offset_bounds-keys-index g c =
    let found = position-found (λ state. bytes_eq state.name c.args.keyed.now.key) c.args.keys.now c.in-Some.index c.in-Some.ensures in
    let inside : c.in-Some.index < length c.args.keys.now = found.within in
    search rules

pub bounds-keys-index : goal.bounds-keys-index
bounds-keys-index g c = (position-found (λ state. bytes_eq state.name c.args.keyed.now.key) c.args.keys.now c.in-Some.index c.in-Some.ensures).within
