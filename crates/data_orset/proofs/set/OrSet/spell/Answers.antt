use Rattle.std.proofs.Common.{ap, ◌∙◌, ◌++◌, List, ℕ}
use Rattle.data_orset.proofs.Runs.{sound_set, set_spelled_is}
use Rattle.data_orset.proofs.set.OrSet.spell.Goals as goal

pub returns-in_err-bytes-clause-sound : goal.returns-in_err-bytes-clause-sound
returns-in_err-bytes-clause-sound c = sound_set c.self.inside.dots c.args.self.now c.self.view_is c.self.invariant c.look_at_all.ensures.each c.look_at_all.ensures.few

pub returns-in_err-extend_from_slice-clause-sound : goal.returns-in_err-extend_from_slice-clause-sound
returns-in_err-extend_from_slice-clause-sound c = sound_set c.self.inside.dots c.args.self.now c.self.view_is c.self.invariant c.look_at_all.ensures.each c.look_at_all.ensures.few

pub returns-clause-sound : goal.returns-clause-sound
returns-clause-sound c = sound_set c.self.inside.dots c.args.self.now c.self.view_is c.self.invariant c.look_at_all.ensures.each c.look_at_all.ensures.few

pub returns-clause-ok : goal.returns-clause-ok
returns-clause-ok c =
    c.in_ok-extend_from_slice.ensures.items
    ∙ ap (λ (bytes : List ℕ). c.args.into.now.items ++ bytes)
    (c.deref.ensures.value ∙ c.in_ok-bytes.ensures ∙ set_spelled_is c.self.inside.dots c.args.self.now c.self.view_is c.self.invariant c.look_at_all.ensures.each c.look_at_all.ensures.few)
