use Rattle.std.proofs.Common.{◌+◌, ◌<◌, Some, None, length, rules, if◌then◌else◌, refl, sym, ap, ◌∙◌, subst, arith}
use Rattle.std.proofs.lemmas.Bool.{ne_eqb, eq-eqb}
use Rattle.std.proofs.lemmas.Result.{IfOk-weaker}
use Rattle.member_node.proofs.Common.{StandsFor, parts_of, KeyState, StandsAfter}
use Rattle.member_node.specs.Planning.{entry_in, changed_entry, ticked_entry, CanCarryOut, KeepsKinds, HaveTheirKinds, Lead}
use Rattle.member_node.specs.Storing.{AreStores, AreStoresOf}
use Rattle.member_node.specs.Answerable.{StoresNothing}
use Rattle.member_node.proofs.Making.{spelled_more, spelled_past, spelled_all}
use Rattle.member_node.proofs.storing.stores.Goals as goal

pub returns-in-Nothing-clause-stores : goal.returns-in-Nothing-clause-stores
returns-in-Nothing-clause-stores g c = λ kinds logs old next same same' held leads.
    spelled_all g.T.Replica g.T.SpelledData logs old next c.args.keys.now (entry_in c.args.plan.now) leads.leads c.new.result 0 (omega arith)
    (λ k past below. ap (λ plan. entry_in plan k) c.in-Nothing.is) same' (record { these = c.new.ensures; kept = λ k d none. absurd (omega arith) })

pub bounds-keys-index : goal.bounds-keys-index
bounds-keys-index g c = (subst (CanCarryOut g.T.Replica c.args.keys.now) c.in-At.is c.requires.can).within

pub offset_bounds-keys-index : goal.offset_bounds-keys-index
offset_bounds-keys-index g c =
    let within : c.in-At.index < length c.args.keys.now = (subst (CanCarryOut g.T.Replica c.args.keys.now) c.in-At.is c.requires.can).within in
    search rules

pub add-requires : goal.add-requires
add-requires g c =
    let index = c.in-At.index in
    let entry = c.in-At.entry in
    let state = c.index-keys-index.result in
    let within : index < length c.args.keys.now = (subst (CanCarryOut g.T.Replica c.args.keys.now) c.in-At.is c.requires.can).within in
    c.requires.kinds index state entry within (ap (λ plan. entry_in plan index) c.in-At.is ∙ ap (λ b. if b then Some entry else None) (eq-eqb index index refl))
    ∙ ap (λ (state : KeyState g.row.T.Denot g.row.T-Kind.Denot g.row.T-Op.Denot g.row.T-Delta.Denot). state.kind) (sym c.index-keys-index.is)

pub returns-in_ok-add-in-At-clause-stores : goal.returns-in_ok-add-in-At-clause-stores
returns-in_ok-add-in-At-clause-stores g c = λ kinds logs old next same same' held leads.
    let R = g.T.Replica in
    let S = g.T.SpelledData in
    let keys = c.args.keys.now in
    let index = c.in-At.index in
    let entry = c.in-At.entry in
    let state = c.index-keys-index.result in
    let is = c.index-keys-index.is in
    let entry_of = entry_in c.args.plan.now in
    let within : index < length keys = (subst (CanCarryOut R keys) c.in-At.is c.requires.can).within in
    let here = ap (λ plan. entry_in plan index) c.in-At.is ∙ ap (λ b. if b then Some entry else None) (eq-eqb index index refl) in
    let led = subst (λ (state : KeyState g.row.T.Denot g.row.T-Kind.Denot g.row.T-Op.Denot g.row.T-Delta.Denot). StandsAfter R.IsDataOf (logs state.name) (entry_of index) (old.entries state.name) (next.entries state.name)) (sym is) (leads.leads index state within) in
    let after = subst (λ o. StandsAfter R.IsDataOf (logs state.name) o (old.entries state.name) (next.entries state.name)) here led in
    let before = subst (λ (state : KeyState g.row.T.Denot g.row.T-Kind.Denot g.row.T-Op.Denot g.row.T-Delta.Denot). StandsFor R.IsDataOf (parts_of state.entry) (logs state.name) (old.entries state.name)) (sym is) (held index state within).held.image in
    let mid = spelled_past R S logs old next keys entry_of leads.leads c.new-stores.result 0 index (omega arith) (omega arith)
    (λ k past below. ap (λ plan. entry_in plan k) c.in-At.is ∙ ap (λ b. if b then Some entry else None) (ne_eqb index k (λ e. omega arith))) (record { these = c.new-stores.ensures; kept = λ k d none. absurd (omega arith) }) in
    let more = spelled_more R S logs old next keys index state within is c.new-stores.result c.add.new.stores mid
    (c.in_ok-add-in-At.ensures.spelled (logs state.name) (old.entries state.name) (next.entries state.name) before after)
    (λ k below. c.in_ok-add-in-At.ensures.kept (logs state.name) (old.entries state.name) (next.entries state.name) k before after below) in
    spelled_all R S logs old next keys entry_of leads.leads c.add.new.stores (index + 1) (omega arith)
    (λ k past below. ap (λ plan. entry_in plan k) c.in-At.is ∙ ap (λ b. if b then Some entry else None) (ne_eqb index k (λ e. omega arith))) same' more

pub stores_of_changes-requires : goal.stores_of_changes-requires
stores_of_changes-requires g c = record {
  one_each = subst (CanCarryOut g.T.Replica c.args.keys.now) c.in-Each.is c.requires.can;
  kinds = subst (KeepsKinds g.T.Replica c.args.keys.now) c.in-Each.is c.requires.kinds;
}

pub returns-in-Each-clause-stores : goal.returns-in-Each-clause-stores
returns-in-Each-clause-stores g c =
    let R = g.T.Replica in
    let S = g.T.SpelledData in
    let keys = c.args.keys.now in
    IfOk-weaker c.stores_of_changes.result (AreStoresOf R S keys (changed_entry c.in-Each.changes)) (AreStores R S keys c.args.plan.now)
    (λ items stores. λ kinds logs old next same same' held leads. stores kinds logs old next same same' held (subst (λ plan. Lead R.IsDataOf logs keys old.entries next.entries (entry_in plan)) c.in-Each.is leads.leads))
    c.stores_of_changes.ensures.stores

pub stores_of_ticks-requires : goal.stores_of_ticks-requires
stores_of_ticks-requires g c =
    subst (λ items. HaveTheirKinds g.T.Replica c.args.keys.now (ticked_entry items)) (sym c.deref.ensures.value) (subst (KeepsKinds g.T.Replica c.args.keys.now) c.in-Ticked.is c.requires.kinds)

pub returns-in-Ticked-clause-stores : goal.returns-in-Ticked-clause-stores
returns-in-Ticked-clause-stores g c =
    let R = g.T.Replica in
    let S = g.T.SpelledData in
    let keys = c.args.keys.now in
    IfOk-weaker c.stores_of_ticks.result (AreStoresOf R S keys (ticked_entry c.deref.result.now)) (AreStores R S keys c.args.plan.now)
    (λ items stores. λ kinds logs old next same same' held leads.
    stores kinds logs old next same same' held
    (subst (λ items. Lead R.IsDataOf logs keys old.entries next.entries (ticked_entry items)) (sym c.deref.ensures.value) (subst (λ plan. Lead R.IsDataOf logs keys old.entries next.entries (entry_in plan)) c.in-Ticked.is leads.leads)))
    c.stores_of_ticks.ensures

-- WHERE NOTHING IS STORED

pub returns-in-Nothing-clause-nothing : goal.returns-in-Nothing-clause-nothing
returns-in-Nothing-clause-nothing g c = λ nothing. c.new.ensures

pub returns-in_ok-add-in-At-clause-nothing : goal.returns-in_ok-add-in-At-clause-nothing
returns-in_ok-add-in-At-clause-nothing g c = λ nothing. absurd (subst StoresNothing c.in-At.is nothing)

pub returns-in-Each-clause-nothing : goal.returns-in-Each-clause-nothing
returns-in-Each-clause-nothing g c = λ nothing. c.stores_of_changes.ensures.nothing (subst StoresNothing c.in-Each.is nothing)

pub returns-in-Ticked-clause-nothing : goal.returns-in-Ticked-clause-nothing
returns-in-Ticked-clause-nothing g c = λ nothing. absurd (subst StoresNothing c.in-Ticked.is nothing)
