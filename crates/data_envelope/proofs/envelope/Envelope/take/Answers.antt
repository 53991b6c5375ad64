use Rattle.std.proofs.Common.{◌≡◌, ◌≢◌, ℕ, true, false, ap, sym, ◌∙◌, subst, arith, refl, Result, Ok, Err, OnOk}
use Rattle.std.specs.Prelude.{IsErr}
use Rattle.std.proofs.lemmas.Bool.{false≢true}
use mathlib.Core.Logic.{∥∥₁_elim}
use mathlib.Core.Bool.{Bool-set}
use Rattle.model_history.specs.Table.{with_at}
use Rattle.model_history.specs.History.{versions}
use Rattle.model_history.specs.Cuts.{without}
use Rattle.base_vectors.specs.Vectors.{number_at, raised}
use Rattle.data_markers.specs.Marks.{performed_in}
use Rattle.model_members.proofs.GroupLaws.{verdict, after_known}
use Rattle.data_envelope.proofs.Numbers.{raised_elsewhere}
use Rattle.data_envelope.proofs.Holding.{holds_taken, held_pruned}
use Rattle.data_envelope.proofs.Entries.{stands_taken, cut_taken}
use Rattle.data_envelope.proofs.Forgetting.{forgotten_grown}
use Rattle.data_envelope.proofs.envelope.Envelope.take.Given as given
use Rattle.data_envelope.proofs.Opened.{same_value, same_markers}
use Rattle.data_envelope.proofs.envelope.Envelope.take.Goals as goal

-- after a refusal nothing is said of success
refused : {X E : Type 0} (r : Result X E) (P : Type 0) → IsErr r → OnOk r P
refused (Ok x) P e = absurd (false≢true e)
refused (Err y) P e = tt

pub returns-in_err-raise-clause-image : goal.returns-in_err-raise-clause-image
returns-in_err-raise-clause-image g c = λ log entry records _ _ _. refused c.from_residual-in_err-raise.result _ c.from_residual-in_err-raise.ensures.0

pub returns-in_err-absorb-clause-image : goal.returns-in_err-absorb-clause-image
returns-in_err-absorb-clause-image g c = λ log entry records _ _ _. refused c.from_residual-in_err-absorb.result _ c.from_residual-in_err-absorb.ensures.0

pub returns-clause-image : goal.returns-clause-image
returns-clause-image g c =
    let unpruned : performed_in c.self.inside.markers c.args.group.now.origin ≡ false = ap (λ m. performed_in m c.args.group.now.origin) (same_markers c.self.view_is) ∙ c.requires.member in
    let fits : g.T.Replica.delta_fits_kind (g.T.Replica.kind_of c.self.inside.value) c.args.group.now.delta ≡ true = ap (λ v. g.T.Replica.delta_fits_kind (g.T.Replica.kind_of v) c.args.group.now.delta) (same_value c.self.view_is) ∙ c.requires.fits in
    rw (← c.self.view_is) (
    λ log entry records s of_group wanted.
    let D = g.T.Replica.IsDataOf in
    let one = c.self.inside in
    let held = versions entry.history in
    let gone = performed_in one.markers in
    let group = c.args.group.now in
    let member = sym (ap gone of_group.origin) ∙ unpruned in
    let known = after_known log entry records s.histories s.taken of_group.of_log wanted in
    let more = (verdict log entry records s.histories s.taken of_group.of_log wanted).0 in
    let cut = cut_taken D _ log entry records s of_group.of_log wanted in
    let mine : number_at one.versions ≡ without gone held = λ j i. s.holds.numbers i j in
    let e = c.in_ok-absorb.ensures.ok ∙ ap (λ f. g.T.Replica.absorbed one.value f group.delta) mine in
    stands_taken D _ _ log entry records s of_group.of_log wanted refl
    (holds_taken D one.value one.versions one.markers _ _ log held records.origin records.upto s.holds cut
    (record { none = λ k r a b. of_group.operations.none k r (omega arith) b }) more member
    (subst (λ v. D v log (with_at held records.origin records.upto) gone) (sym e)
    (g.met.T.Replica.data_absorbed one.value group.delta log held gone records.origin records.after records.upto fits (held_pruned D _ log held s.holds) cut of_group.operations s.holds.state of_group.changes member known more))
    (c.in_ok-raise.ensures.ok ∙ ap (λ x. raised x group.origin group.upto) c.in_ok-versions.ensures.same ∙ ap (λ o. raised one.versions o group.upto) of_group.origin ∙ ap (raised one.versions records.origin) of_group.upto)))

numbers_elsewhere : (g : given.Over) (c : goal.After-drop-self-inside g) → (i : ℕ) → i ≢ c.args.group.now.origin → number_at c.raise.new.self i ≡ number_at c.self.inside.versions i
numbers_elsewhere g c i other =
    let group = c.args.group.now in
    ap (λ m. number_at m i) (c.in_ok-raise.ensures.ok ∙ ap (λ m. raised m group.origin group.upto) c.in_ok-versions.ensures.same) ∙ raised_elsewhere c.self.inside.versions group.origin group.upto c.in_ok-versions.ensures.normal i other

pub returns-clause-others : goal.returns-clause-others
returns-clause-others g c = rw (← c.self.view_is) (numbers_elsewhere g c)

pub invariant_of-self-2 : goal.invariant_of-self-2
invariant_of-self-2 g c =
    let R = g.T.Replica in
    let one = c.self.inside in
    let group = c.args.group.now in
    let unpruned : performed_in one.markers group.origin ≡ false = ap (λ m. performed_in m group.origin) (same_markers c.self.view_is) ∙ c.requires.member in
    forgotten_grown R.mentioned one.value _ one.versions _ one.markers group.origin unpruned (numbers_elsewhere g c)
    (λ i other none. ap (λ v. R.mentioned v i) c.in_ok-absorb.ensures.ok
    ∙ ∥∥₁_elim group.of_origin (Bool-set _ _) (λ made. g.met.T.Replica.absorbed_mentions one.value (number_at one.versions) group.delta group.origin i made other none)) c.self.invariant
