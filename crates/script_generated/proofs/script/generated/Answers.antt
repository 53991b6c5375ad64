use Rattle.std.proofs.Common.{refl, ◌≡◌, ◌+◌, ◌++◌, ◌∷◌, [], sym, ap₂, ◌∙◌, subst, arith, append_assoc}
use Rattle.std.proofs.lemmas.List.FromFn.{map-range_with_len_more}
use Rattle.script_reading.specs.WellFormed.{HasNoClients, IsWellFormed}
use Rattle.script_generated.specs.Generated.{generated_step}
use Rattle.script_generated.proofs.Spelled.{has_no_clients, well_formed}
use Rattle.script_generated.proofs.script.generated.Goals as goal

pub loop-done-preserved : goal.loop-done-preserved
loop-done-preserved c =
    c.in_ok-push.ensures.ok ∙ ap₂ (λ steps step. steps ++ step ∷ []) c.loop-done.invariant c.in_ok-step.ensures
    ∙ sym (map-range_with_len_more generated_step 1 c.loop-done.done (c.loop-done.done + 1) (omega arith))

pub returns-clause-script : goal.returns-clause-script
returns-clause-script c =
    let all : c.loop-done.done ≡ c.args.n = omega arith in
    rw (c.in_ok-keys.ensures, c.in_ok-push-3.ensures.ok, c.in_ok-push-2.ensures.ok, c.loop-done.invariant, c.member.ensures, all, append_assoc) refl

pub returns-clause-bounds : goal.returns-clause-bounds
returns-clause-bounds c = subst IsWellFormed (sym (returns-clause-script c)) (well_formed c.args.n c.requires.low c.requires.high)

pub returns-clause-plain : goal.returns-clause-plain
returns-clause-plain c = subst HasNoClients (sym (returns-clause-script c)) (has_no_clients c.args.n c.requires.low c.requires.high)
