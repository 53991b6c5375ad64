use Rattle.std.proofs.Common.{rules, ◌≡◌, ℕ, List, [], ◌∷◌, ◌++◌, sym, ap, ◌∙◌, subst, arith, append_assoc, All, append-nil}
use Rattle.std.specs.Vec.Iter.{into_iter_items}
use Rattle.std.proofs.lemmas.List.{nil_from_length}
use Rattle.member_node.proofs.Common.{parts_of, AreSound, HoldsKept}
use Rattle.member_keeper.specs.declared.stored.Stored.{Stored}
use Rattle.member_node.specs.Loading.{IsSoundAt}
use Rattle.member_node.specs.Restoring.{IsFitAt, TakesAt}
use Rattle.member_node.proofs.Restorings.{same_length, fit_sound, declared_next, holds_more, holds_none, sound_none, sound_more, first_unsound}
use Rattle.member_node.proofs.restoring.take_all.Goals as goal

-- the next one, and those after it
one_next : (kept before rest all : List Stored) (stored : Stored) → before ≡ stored ∷ rest → kept ++ before ≡ all → (kept ++ stored ∷ []) ++ rest ≡ all
one_next kept before rest all stored is split = append_assoc kept (stored ∷ []) rest ∙ ap (λ l. kept ++ l) (sym is) ∙ split

none_left : (kept rest all : List Stored) → rest ≡ [] → kept ++ rest ≡ all → kept ≡ all
none_left kept rest all is split = sym (append-nil kept) ∙ ap (λ l. kept ++ l) (sym is) ∙ split

pub loop-stored-init : goal.loop-stored-init
loop-stored-init g c = record {
  split = c.into_iter-stored-iterator.ensures.into_iter_gives.0;
  declared = c.requires.declared;
  holds = holds_none g.T.Replica g.T.SpelledData c.args.id c.args.view.now c.args.states.now c.requires.fresh;
  sound = sound_none g.T.Replica g.T.SpelledData c.args.keys.now c.args.id c.args.view.now.given;
}

pub read_kept-requires-clause-distinct : goal.read_kept-requires-clause-distinct
read_kept-requires-clause-distinct g c = c.requires.distinct

pub take_at-requires : goal.take_at-requires
take_at-requires g c =
    let l = same_length c.loop-stored.states c.args.keys.now c.loop-stored.invariant.declared in
    let within = c.in-Ok.ensures.fit.within in
    omega (arith, l, within)

pub returns-in-Err-Damaged-clause-unfit : goal.returns-in-Err-Damaged-clause-unfit
returns-in-Err-Damaged-clause-unfit g c =
    first_unsound g.T.Replica g.T.SpelledData c.args.keys.now c.args.id c.args.view.now.given c.loop-stored.yielded c.in-Some.stored (into_iter_items c.next.new.self) c.args.loaded.items
    (ap (λ l. c.loop-stored.yielded ++ l) (sym c.in-Some.ensures.steps.0) ∙ c.loop-stored.invariant.split) c.loop-stored.invariant.sound
    (λ sound. c.in-Err-Damaged.ensures.unsound c.in-Err-Damaged.field-0-is
    (subst (λ (given : ℕ). IsSoundAt g.T.Replica g.T.SpelledData c.args.keys.now c.args.id given c.in-Some.stored) (sym c.given-given.ensures.given) sound))

pub loop-stored-preserved : goal.loop-stored-preserved
loop-stored-preserved g c =
    let R = g.T.Replica in
    let S = g.T.SpelledData in
    let id = c.args.id in
    let view = c.args.view.now in
    let keys = c.args.keys.now in
    let states = c.loop-stored.states in
    let next = c.take_at.new.states in
    let kept = c.loop-stored.yielded in
    let stored = c.in-Some.stored in
    let index = c.in-Ok.kept.index in
    let parts = parts_of c.in-Ok.kept.entry in
    let fit : IsFitAt R S id view.given keys stored index parts = subst (λ (given : ℕ). IsFitAt R S id given keys stored index parts) c.given-given.ensures.given c.in-Ok.ensures.fit in
    let takes : TakesAt R.IsDataOf id view.number states index parts next = subst (λ (number : ℕ). TakesAt R.IsDataOf id number states index parts next) c.number-number.ensures.number c.take_at.ensures in
    record {
      split = one_next kept (into_iter_items c.loop-stored.stored-iterator) (into_iter_items c.next.new.self) c.args.loaded.items stored c.in-Some.ensures.steps.0 c.loop-stored.invariant.split;
      declared = declared_next R S id view kept stored keys states next c.requires.distinct c.loop-stored.invariant.declared index parts fit takes;
      holds = holds_more R S id view kept stored keys states next c.requires.distinct c.loop-stored.invariant.declared index parts fit takes c.loop-stored.invariant.holds;
      sound = sound_more R S keys id view.given kept stored c.loop-stored.invariant.sound (fit_sound R S id view.given keys stored index parts takes.before fit);
    }

pub returns : goal.returns
returns g c = record {
  declared = c.loop-stored.invariant.declared;
  holds =
      subst (λ (kept : List Stored). All (HoldsKept g.T.Replica g.T.SpelledData c.args.id c.args.view.now kept) c.loop-stored.states)
      (none_left c.loop-stored.yielded (into_iter_items c.loop-stored.stored-iterator) c.args.loaded.items (nil_from_length (into_iter_items c.loop-stored.stored-iterator) (sym c.loop-stored.stored-iterator.rest.ok.0 ∙ c.in-None.ensures.steps.0)) c.loop-stored.invariant.split) c.loop-stored.invariant.holds;
  sound =
      subst (AreSound g.T.Replica g.T.SpelledData c.args.keys.now c.args.id c.args.view.now.given)
      (none_left c.loop-stored.yielded (into_iter_items c.loop-stored.stored-iterator) c.args.loaded.items (nil_from_length (into_iter_items c.loop-stored.stored-iterator) (sym c.loop-stored.stored-iterator.rest.ok.0 ∙ c.in-None.ensures.steps.0)) c.loop-stored.invariant.split) c.loop-stored.invariant.sound;
  unfit = search rules;
}
