use Rattle.std.proofs.Common.{◌≡◌, false, [], ◌∷◌, ◌++◌, length, sym, ap, ◌∙◌, subst, arith, Result, Ok, Err, map, OnOk, append-nil}
use Rattle.member_node.proofs.Common.{History, is_unchanged, StandsFor, parts_of}
use Rattle.model_members.specs.Entry.{Entry}
use Rattle.member_keeper.specs.declared.stored.Stored.{Stored}
use Rattle.data_codec.specs.Stored.{entry_stored}
use Rattle.member_node.specs.Stores.{spelled_entry}
use Rattle.member_node.specs.Storing.{stored_of}
use Rattle.member_node.proofs.Standing.{on_ok}
use Rattle.member_node.proofs.Making.{stored_not, stored_same, stored_one}
use Rattle.member_node.proofs.storing.add.Given as given
use Rattle.member_node.proofs.storing.add.Goals as goal
use Rattle.member_node.proofs.storing.add.Goals.{then-not-state-via-then-not-state, then-not-state-via-else-not-state+then-is_unchanged}

-- nothing is stored
none : (g : given.Over) (c : goal.Joined-then-not-state g) (log : History g.row.T-Op.Denot) (old new : Entry g.row.T-Op.Denot) → StandsFor g.T.Replica.IsDataOf (parts_of c.args.state.now.entry) log old → StandsFor g.T.Replica.IsDataOf (parts_of c.args.entry.now) log new
    → stored_of c.args.state.now old new ≡ []
none g c log old new s t = elim c.then-not-state.branch [
  | then-not-state-via-then-not-state w ↦ stored_not c.args.state.now old new w.if-not-state.true
  | then-not-state-via-else-not-state+then-is_unchanged w ↦ stored_same c.args.state.now old new (sym (w.is_unchanged.ensures.image log old new (subst (λ entry. StandsFor g.T.Replica.IsDataOf (parts_of entry) log old) (sym w.envelope.ensures) s) t) ∙ w.if-is_unchanged.true)
]

pub returns-then-not-state-clause-spelled : goal.returns-then-not-state-clause-spelled
returns-then-not-state-clause-spelled g c = λ log old new s t.
    sym (ap (λ ks. c.args.stores.now ++ map (spelled_entry g.T.SpelledData) ks) (none g c log old new s t) ∙ append-nil c.args.stores.now)

pub returns-then-not-state-clause-kept : goal.returns-then-not-state-clause-kept
returns-then-not-state-clause-kept g c = λ log old new k s t below. absurd (let none_kept = ap length (none g c log old new s t) in omega arith)

-- the entry's spelling is
pub returns-clause-spelled : goal.returns-clause-spelled
returns-clause-spelled g c = λ log old new s t.
    let state = c.args.state.now in
    let other : is_unchanged old new ≡ false = sym (c.is_unchanged.ensures.image log old new (subst (λ entry. StandsFor g.T.Replica.IsDataOf (parts_of entry) log old) (sym c.envelope.ensures) s) t) ∙ c.if-is_unchanged.false in
    let one = stored_one state old new c.if-not-state.false other in
    let bytes = c.from_vec-bytes.ensures ∙ c.in_ok-spell_stored.ensures.image log new t ∙ ap (λ kind. entry_stored g.T.SpelledData.history_byte g.T.SpelledData.history_spelled kind new) c.requires in
    let item : Stored = record { key = c.copied-key.result; bytes = c.from_vec-bytes.result } in
    let same : record { key = c.copied-key.result; bytes = c.from_vec-bytes.result } ≡ record { key = state.name; bytes = entry_stored g.T.SpelledData.history_byte g.T.SpelledData.history_spelled state.kind new } = λ i. record { key = c.copied-key.ensures i; bytes = bytes i } in
    on_ok c.push.result (λ pushed. pushed ∙ ap (λ x. c.args.stores.now ++ x ∷ []) same ∙ sym (ap (λ ks. c.args.stores.now ++ map (spelled_entry g.T.SpelledData) ks) one)) c.push.ensures.ok

pub returns-clause-kept : goal.returns-clause-kept
returns-clause-kept g c = λ log old new k s t below.
    holds c.push.result (record { parts = parts_of c.args.entry.now; of_kind = c.requires; image = t; readable = c.in_ok-spell_stored.ensures.readable })
  where
    holds : {X E P : Type 0} (result : Result X E) → P → OnOk result P
    holds (Ok x) p = p
    holds (Err e) p = tt
