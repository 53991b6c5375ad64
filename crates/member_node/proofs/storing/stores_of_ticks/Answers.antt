use Rattle.std.proofs.Common.{◌≡◌, sym, ap, ◌∙◌, subst, arith, take_all}
use Rattle.member_node.proofs.Common.{StandsFor, parts_of, is_unchanged, is_unchanged-same, KeyState, AreSpelled, StandsAfter}
use Rattle.member_node.specs.Planning.{ticked_entry}
use Rattle.member_node.proofs.Making.{put_of, put_all_keys, spelled_more, spelled_still}
use Rattle.member_node.proofs.storing.stores_of_ticks.Goals as goal
use Rattle.member_node.proofs.storing.stores_of_ticks.Goals.{in-Some+in_ok-add, in_default}

pub loop-index-init : goal.loop-index-init
loop-index-init g c = λ kinds logs old next same same' held leads. record { these = c.new-stores.ensures; kept = λ k d none. absurd (omega arith) }

pub add-requires : goal.add-requires
add-requires g c =
    c.requires c.loop-index.index c.index-keys-index.result c.in-Some.entry.now c.loop-index-test.true (sym c.in-Some.ensures)
    ∙ ap (λ (state : KeyState g.row.T.Denot g.row.T-Kind.Denot g.row.T-Op.Denot g.row.T-Delta.Denot). state.kind) (sym c.index-keys-index.is)

pub loop-index-preserved : goal.loop-index-preserved
loop-index-preserved g c = λ kinds logs old next same same' held leads.
    let R = g.T.Replica in
    let keys = c.args.keys.now in
    let i = c.loop-index.index in
    let x = c.index-keys-index.result in
    let is = c.index-keys-index.is in
    let within = c.loop-index-test.true in
    let so_far = c.loop-index.invariant kinds logs old next same same' held leads in
    let here = subst (λ (state : KeyState g.row.T.Denot g.row.T-Kind.Denot g.row.T-Op.Denot g.row.T-Delta.Denot). StandsAfter R.IsDataOf (logs state.name) (ticked_entry c.args.ticks.now i) (old.entries state.name) (next.entries state.name)) (sym is) (leads i x within) in
    let before = subst (λ (state : KeyState g.row.T.Denot g.row.T-Kind.Denot g.row.T-Op.Denot g.row.T-Delta.Denot). StandsFor R.IsDataOf (parts_of state.entry) (logs state.name) (old.entries state.name)) (sym is) (held i x within).held.image in
    elim c.match-ticked_entry.branch [
      | in-Some+in_ok-add w ↦
          let after = subst (λ o. StandsAfter R.IsDataOf (logs x.name) o (old.entries x.name) (next.entries x.name)) (sym w.in-Some.ensures) here in
          spelled_more R g.T.SpelledData logs old next keys i x within is c.loop-index.stores c.match-ticked_entry.stores so_far
          (w.stores-is ∙ w.in_ok-add.ensures.spelled (logs x.name) (old.entries x.name) (next.entries x.name) before after)
          (λ k below. w.in_ok-add.ensures.kept (logs x.name) (old.entries x.name) (next.entries x.name) k before after below)
      | in_default w ↦
          let still : next.entries x.name ≡ old.entries x.name = subst (λ o. StandsAfter R.IsDataOf (logs x.name) o (old.entries x.name) (next.entries x.name)) (sym w.in_default.ensures) here in
          spelled_still R g.T.SpelledData logs old next keys i x within is c.loop-index.stores c.match-ticked_entry.stores so_far (ap (is_unchanged (old.entries x.name)) still ∙ is_unchanged-same (old.entries x.name)) w.stores-is
    ]

pub returns : goal.returns
returns g c = λ kinds logs old next same same' held leads.
    let inv = c.loop-index.invariant kinds logs old next same same' held leads in
    let all = take_all c.loop-index.index c.args.keys.now (omega arith) in
    subst (AreSpelled g.T.Replica g.T.SpelledData logs c.loop-index.stores) (ap (put_of old next) all ∙ put_all_keys old next c.args.keys.now same') inv
