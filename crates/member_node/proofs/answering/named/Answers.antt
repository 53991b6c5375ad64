use Rattle.std.proofs.Common.{◌≡◌, ◌++◌, ◌∷◌, [], None, length, slice_index_or, sym, ap, ◌∙◌, subst, subst₂, arith, take, take_all, true, false, ◌&&◌}
use Rattle.std.specs.List.{AllZip}
use Rattle.std.proofs.lemmas.Bool.{eqb-true}
use Rattle.std.proofs.lemmas.List.{get_or_default, nil_from_length}
use Rattle.member_node.proofs.Common.{has_records, state_of, keyed_entry, Keyed, Envelope, StandsForKeyed, declared_by, delta_groups}
use Rattle.member_node.proofs.Lists.{one_more, zip_push}
use Rattle.member_node.proofs.Takings.{names_none, named_of, named_all, named_one, named_none, is_asked, entry_now, keyed_now}
use Rattle.member_node.proofs.answering.named.Goals as goal
use Rattle.member_node.proofs.answering.named.Goals.{then-contains+then-has_records+in_ok-item+in_ok-push, else-contains, else-contains-via-then-contains+else-has_records, else-contains-via-else-contains}

pub returns-then-is_empty : goal.returns-then-is_empty
returns-then-is_empty g c = λ digest kinds logs id view before node held kept work.
    let R = g.T.Replica in
    let names = c.args.names.now in
    let none = names_none (delta_groups R.data_type digest) node names (nil_from_length names (eqb-true (length names) 0 (sym c.is_empty.ensures ∙ c.if-is_empty.true))) in
    subst₂ (AllZip (StandsForKeyed R.kind_of R.IsDataOf kinds logs)) (sym c.new-entries.ensures) (sym none) tt

pub loop-index-preserved : goal.loop-index-preserved
loop-index-preserved g c = λ digest kinds logs id view before node held kept work.
    let R = g.T.Replica in
    let D = delta_groups R.data_type digest in
    let S = StandsForKeyed R.kind_of R.IsDataOf kinds logs in
    let keys = c.args.keys.now in
    let names = c.args.names.now in
    let i = c.loop-index.index in
    let state = c.index-keys-index.result in
    let change = slice_index_or c.args.changes.now i None in
    let is : change ≡ slice_index_or c.args.changes.now i change = get_or_default c.args.changes.now i None change (let inside = c.loop-index-test.true in let counted = c.requires in omega arith) in
    let mine = c.current-now.result.now in
    let so_far = c.loop-index.invariant digest kinds logs id view before node held kept work in
    let now = entry_now R.kind_of R.IsDataOf kinds logs id keys view before held c.args.changes.now kept node work i state change c.loop-index-test.true c.index-keys-index.is is mine c.current-now.ensures in
    let more = one_more keys i state c.loop-index-test.true c.index-keys-index.is in
    elim c.if-contains.branch [
      | then-contains+then-has_records+in_ok-item+in_ok-push w ↦
          let asked : is_asked D names (state_of node (declared_by state)) ≡ true =
          (λ j. sym (sym w.if-contains.true ∙ c.contains.ensures) j && sym (sym w.if-has_records.true ∙ w.has_records.ensures.image (logs state.name) (node.entries state.name) now.image) j) in
          let keyed : Keyed (Envelope g.row.T.Denot g.row.T-Kind.Denot g.row.T-Op.Denot g.row.T-Delta.Denot) = record { key = w.copied-key.result; item = w.in_ok-item.item } in
          let here = keyed_now R.kind_of R.IsDataOf kinds logs id keys view before held c.args.changes.now kept node work i state change c.loop-index-test.true c.index-keys-index.is is mine c.current-now.ensures keyed w.copied-key.ensures w.in_ok-item.ensures in
          subst (λ ys. AllZip S c.if-contains.entries ys) (sym (ap (named_of D node names) more ∙ named_one D node names (take i keys) state asked))
          (subst (λ xs. AllZip S xs (named_of D node names (take i keys) ++ keyed_entry (state_of node (declared_by state)) ∷ [])) (sym (w.entries-is ∙ w.in_ok-push.ensures.ok))
          (zip_push S c.loop-index.entries (named_of D node names (take i keys)) keyed (keyed_entry (state_of node (declared_by state))) so_far here))
      | else-contains w ↦
          let unasked : is_asked D names (state_of node (declared_by state)) ≡ false =
          elim w.else-contains.branch [
            | else-contains-via-then-contains+else-has_records w' ↦
                (λ j. sym (sym w'.if-contains.true ∙ c.contains.ensures) j && sym (sym w'.if-has_records.false ∙ w'.has_records.ensures.image (logs state.name) (node.entries state.name) now.image) j)
            | else-contains-via-else-contains w' ↦ ap (λ b. b && has_records (node.entries state.name)) (sym (sym w'.if-contains.false ∙ c.contains.ensures))
          ] in
          subst (λ ys. AllZip S c.if-contains.entries ys) (sym (ap (named_of D node names) more ∙ named_none D node names (take i keys) state unasked))
          (subst (λ xs. AllZip S xs (named_of D node names (take i keys))) (sym w.entries-is) so_far)
    ]

pub returns : goal.returns
returns g c = λ digest kinds logs id view before node held kept work.
    let R = g.T.Replica in
    let D = delta_groups R.data_type digest in
    subst (λ ys. AllZip (StandsForKeyed R.kind_of R.IsDataOf kinds logs) c.loop-index.entries ys)
    (ap (named_of D node c.args.names.now) (take_all c.loop-index.index c.args.keys.now (omega arith)) ∙ named_all D node c.args.names.now c.args.keys.now work.declares)
    (c.loop-index.invariant digest kinds logs id view before node held kept work)
