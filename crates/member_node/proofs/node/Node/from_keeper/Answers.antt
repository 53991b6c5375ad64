use Rattle.std.proofs.Common.{rules, arith, ◌≡◌, List, Some, refl, sym, ap, ◌∙◌, subst, map, Option, All}
use Rattle.member_node.proofs.Common.{declared_by, AreDistinct, AreDistinctKeys, AreSound, HoldsKept}
use Rattle.member_keeper.specs.declared.stored.Stored.{Stored}
use Rattle.member_keeper.specs.Tables.{Table}
use Rattle.member_keeper.specs.Calls.{Gives}
use Rattle.member_node.specs.declared.restoring.Unfit.{Unfit}
use Rattle.member_node.specs.Loading.{IsFirstUnsound}
use Rattle.member_node.specs.Restoring.{IfDamaged}
use Rattle.member_node.proofs.Standing.{names_fresh}
use Rattle.data_codec.proofs.Seals.{stored_once}
use Rattle.member_node.proofs.Restorings.{few_loaded, unpruned_loaded, logged_loaded, kinds_loaded, names_loaded, stands_loaded, never_unsound}
use Rattle.member_node.proofs.FromKeepers.{have_kinds, declared_keys, sound_alike}
use Rattle.member_node.proofs.node.Node.from_keeper.Goals as goal

-- what was loaded is the table that is told
told : (o : Option Table) (loaded table : List Stored) → Gives o loaded → o ≡ Some table → loaded ≡ table
told o loaded table gives e = (subst (λ (o : Option Table). Gives o loaded) e gives).0

pub restored-requires-clause-distinct : goal.restored-requires-clause-distinct
restored-requires-clause-distinct g c =
    subst AreDistinctKeys (sym c.deref-2.ensures.value)
    (subst AreDistinct (sym (names_fresh c.in-Ok.states.items c.args.keys.now c.in-Ok.ensures.declared)) c.requires.distinct)

pub invariant_of-result : goal.invariant_of-result
invariant_of-result g c =
    let distinct : AreDistinctKeys c.in-Ok.states.items = subst AreDistinct (sym (names_fresh c.in-Ok.states.items c.args.keys.now c.in-Ok.ensures.declared)) c.requires.distinct in
    record {
      few_own = few_loaded g.T.Replica g.T.SpelledData c.args.id c.args.view c.in-Ok-load.loaded.items c.in-Ok-restored.keys.items c.in-Ok-restored.ensures.holds 0;
      unpruned = unpruned_loaded g.T.Replica g.T.SpelledData c.args.id c.args.view c.in-Ok-load.loaded.items c.in-Ok-restored.keys.items c.in-Ok-restored.ensures.holds;
      logged = logged_loaded g.T.Replica g.T.SpelledData c.args.id c.args.view c.in-Ok-load.loaded.items c.in-Ok-restored.keys.items c.in-Ok-restored.ensures.holds;
      of_kinds = kinds_loaded g.T.Replica g.T.SpelledData c.args.id c.args.view c.in-Ok-load.loaded.items c.in-Ok-restored.keys.items c.in-Ok-restored.ensures.holds;
      distinct = names_loaded c.in-Ok-restored.keys.items c.in-Ok.states.items (c.in-Ok-restored.ensures.declared ∙ ap (map declared_by) c.deref-2.ensures.value) distinct;
      few_steps = search rules;
      few_limit = omega arith;
      few_operations = search rules;
    }

pub returns-in-Ok-restored-clause-stands : goal.returns-in-Ok-restored-clause-stands
returns-in-Ok-restored-clause-stands g c = λ kinds logs table store e of_kinds histories spells.
    let R = g.T.Replica in
    let S = g.T.SpelledData in
    let once = stored_once S.is_known S.read_in S.byte_of S.spelled S.IsSound R.mentioned
    (record { takes = g.met.T.SpelledData.read_is_spelled; again = g.met.T.SpelledData.spelled_is_read; known = g.met.T.SpelledData.byte_is_known }) in
    let fresh = c.in-Ok.states.items in
    let states = c.in-Ok-restored.keys.items in
    let distinct : AreDistinctKeys fresh = subst AreDistinct (sym (names_fresh fresh c.args.keys.now c.in-Ok.ensures.declared)) c.requires.distinct in
    let same = c.in-Ok-restored.ensures.declared ∙ ap (map declared_by) c.deref-2.ensures.value in
    let loaded = told (g.K.Keeper.table c.args.keeper) c.in-Ok-load.loaded.items table c.in-Ok-load.ensures.loaded e in
    let holds : All (HoldsKept R S c.args.id c.args.view table) states = subst (λ (kept : List Stored). All (HoldsKept R S c.args.id c.args.view kept) states) loaded c.in-Ok-restored.ensures.holds in
    declared_keys R.kind_of R.IsDataOf kinds logs _ c.args.id c.args.view store fresh c.args.keys.now c.in-Ok.ensures.declared
    (stands_loaded R S g.met.T.SpelledData.byte_means g.met.T.SpelledData.spelling_means once kinds logs c.args.id c.args.view table store spells fresh _ distinct same holds histories
    (have_kinds kinds fresh c.args.keys.now c.in-Ok.ensures.declared of_kinds) refl refl c.new.ensures refl)

pub returns-in-Ok-restored-clause-sound : goal.returns-in-Ok-restored-clause-sound
returns-in-Ok-restored-clause-sound g c = λ table e.
    let R = g.T.Replica in
    let S = g.T.SpelledData in
    let loaded = told (g.K.Keeper.table c.args.keeper) c.in-Ok-load.loaded.items table c.in-Ok-load.ensures.loaded e in
    let sound : AreSound R S c.deref-2.result.now c.args.id c.args.view.given table = subst (AreSound R S c.deref-2.result.now c.args.id c.args.view.given) loaded c.in-Ok-restored.ensures.sound in
    sound_alike R S c.deref-2.result.now c.in-Ok-restored.keys.items (sym c.in-Ok-restored.ensures.declared) c.args.id c.args.view.given table sound

pub returns-in-Err-Damaged-clause-undamaged : goal.returns-in-Err-Damaged-clause-undamaged
returns-in-Err-Damaged-clause-undamaged g c = λ kinds logs table store e of_kinds spells fit.
    let R = g.T.Replica in
    let S = g.T.SpelledData in
    let fresh = c.in-Ok.states.items in
    let loaded = told (g.K.Keeper.table c.args.keeper) c.in-Ok-load.loaded.items table c.in-Ok-load.ensures.loaded e in
    let first : IsFirstUnsound R S c.deref-2.result.now c.args.id c.args.view.given c.in-Ok-load.loaded.items c.in-Err-Damaged.key =
    subst (λ (unfit : Unfit). IfDamaged unfit (IsFirstUnsound R S c.deref-2.result.now c.args.id c.args.view.given c.in-Ok-load.loaded.items)) c.in-Err-Damaged.field-0-is c.in-Err-Damaged.ensures.unfit in
    let here : IsFirstUnsound R S fresh c.args.id c.args.view.given table c.in-Err-Damaged.key =
    subst (λ keys. IsFirstUnsound R S keys c.args.id c.args.view.given table c.in-Err-Damaged.key) c.deref-2.ensures.value
    (subst (λ (items : List Stored). IsFirstUnsound R S c.deref-2.result.now c.args.id c.args.view.given items c.in-Err-Damaged.key) loaded first) in
    never_unsound R S g.met.T.SpelledData.byte_means g.met.T.SpelledData.spelling_means g.met.T.Replica.data_unmentioned c.args.id c.args.view.given fresh kinds logs store
    (have_kinds kinds fresh c.args.keys.now c.in-Ok.ensures.declared of_kinds) (fit fresh c.in-Ok.ensures.declared) table c.in-Err-Damaged.key spells here
