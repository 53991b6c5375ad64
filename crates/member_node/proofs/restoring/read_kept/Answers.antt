use Rattle.std.proofs.Common.{rules, ◌<◌, length, sym, subst, bytes_eq}
use Rattle.member_node.proofs.Common.{parts_of}
use Rattle.member_node.specs.Restoring.{IsFitFor}
use Rattle.member_node.proofs.Lists.{position-found, position-none}
use Rattle.member_node.proofs.Restorings.{kind_found, unknown_unsound, sound_found, fit_found}
use Rattle.member_node.proofs.restoring.read_kept.Goals as goal

pub returns-in_default-clause-unsound : goal.returns-in_default-clause-unsound
returns-in_default-clause-unsound g c = λ e.
    unknown_unsound g.T.Replica g.T.SpelledData c.args.id c.args.given c.args.keys.now c.args.stored.now
    (position-none (λ state. bytes_eq state.name c.args.stored.now.key) c.args.keys.now c.in_default.ensures)

pub bounds-keys-index : goal.bounds-keys-index
bounds-keys-index g c = (position-found (λ state. bytes_eq state.name c.args.stored.now.key) c.args.keys.now c.in-Some.index c.in-Some.ensures).within

pub offset_bounds-keys-index : goal.offset_bounds-keys-index
offset_bounds-keys-index g c =
    let found = position-found (λ state. bytes_eq state.name c.args.stored.now.key) c.args.keys.now c.in-Some.index c.in-Some.ensures in
    let inside : c.in-Some.index < length c.args.keys.now = found.within in
    search rules

pub read_for-requires : goal.read_for-requires
read_for-requires g c =
    let found = position-found (λ state. bytes_eq state.name c.args.stored.now.key) c.args.keys.now c.in-Some.index c.in-Some.ensures in
    kind_found g.T.Replica.kind_of c.args.keys.now c.in-Some.index c.index-keys-index.result found.within c.index-keys-index.is c.requires.of_kinds

pub returns-in-Ok-clause-fit : goal.returns-in-Ok-clause-fit
returns-in-Ok-clause-fit g c =
    let found = position-found (λ state. bytes_eq state.name c.args.stored.now.key) c.args.keys.now c.in-Some.index c.in-Some.ensures in
    let at = c.index-keys-index.result in
    let parts = parts_of c.in-Ok.entry in
    let fit : IsFitFor g.T.Replica g.T.SpelledData c.args.id c.args.given at c.args.stored.now.bytes parts =
    subst (λ bytes. IsFitFor g.T.Replica g.T.SpelledData c.args.id c.args.given at bytes parts) c.as_slice.ensures c.in-Ok.ensures.fit in
    fit_found g.T.Replica g.T.SpelledData c.args.id c.args.given c.args.keys.now c.args.stored.now c.in-Some.index at found c.index-keys-index.is parts fit

pub returns-in-Err-clause-unsound : goal.returns-in-Err-clause-unsound
returns-in-Err-clause-unsound g c = λ e sound.
    let found = position-found (λ state. bytes_eq state.name c.args.stored.now.key) c.args.keys.now c.in-Some.index c.in-Some.ensures in
    let at = c.index-keys-index.result in
    let fit = sound_found g.T.Replica g.T.SpelledData c.args.id c.args.given c.args.keys.now c.args.stored.now c.in-Some.index at found c.index-keys-index.is c.requires.distinct sound in
    c.in-Err.ensures.unfit e sound.parts (subst (λ bytes. IsFitFor g.T.Replica g.T.SpelledData c.args.id c.args.given at bytes sound.parts) (sym c.as_slice.ensures) fit)
