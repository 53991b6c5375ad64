use Rattle.std.proofs.Common.{◌≡◌, true, false, ◌+◌, ap, sym, ◌∙◌, subst, refl}
use Rattle.std.specs.Prelude.{not, ◌&&◌}
use Rattle.model_history.proofs.CutLaws.{uncleaned}
use Rattle.model_history.specs.History.{versions}
use Rattle.model_history.specs.History.Action.{Operation}
use Rattle.model_history.specs.Cuts.{grown}
use Rattle.base_vectors.specs.declared.id.Dot.{Dot}
use Rattle.base_vectors.specs.Vectors.{number_at, raised}
use Rattle.data_markers.specs.Marks.{performed_in}
use Rattle.data_lattice.specs.Refusals.{IsApplyRefusal}
use Rattle.data_envelope.proofs.Holding.{holds_updated, held_pruned}
use Rattle.data_envelope.proofs.Entries.{stands_acted, next_here, whole}
use Rattle.data_envelope.proofs.Numbers.{raised_elsewhere}
use Rattle.data_envelope.proofs.Forgetting.{forgotten_grown}
use Rattle.data_envelope.proofs.Opened.{same_value, same_markers}
use Rattle.data_envelope.proofs.envelope.Envelope.update.Goals as goal

pub returns-in-Ok-clause-image : goal.returns-in-Ok-clause-image
returns-in-Ok-clause-image g c =
    let member : performed_in c.self.inside.markers c.args.id ≡ false = ap (λ m. performed_in m c.args.id) (same_markers c.self.view_is) ∙ c.requires.member in
    let fits : (not (g.T.Replica.is_closed c.self.inside.value) && g.T.Replica.data_type.fits (g.T.Replica.kind_of c.self.inside.value) c.args.op.now) ≡ true = ap (λ v. not (g.T.Replica.is_closed v) && g.T.Replica.data_type.fits (g.T.Replica.kind_of v) c.args.op.now) (same_value c.self.view_is) ∙ c.requires.fits in
    rw (← c.self.view_is) (
    λ log entry s taken.
    let D = g.T.Replica.IsDataOf in
    let one = c.self.inside in
    let held = versions entry.history in
    let gone = performed_in one.markers in
    let n = next_here D _ log entry c.args.id (Operation c.args.op.now) s taken in
    let seq : c.at-seq.result + 1 ≡ held c.args.id + 1 = ap (λ x. x + 1) (c.at-seq.ensures.value ∙ s.holds.numbers c.args.id ∙ uncleaned gone held c.args.id member) in
    let both = g.met.T.Replica.data_applied one.value log held gone c.args.op.now (record { origin = c.args.id; seq = c.at-seq.result + 1 }) (held_pruned D _ log held s.holds) member n seq s.holds.state fits c.in-Ok.ensures.unrefused in
    stands_acted D _ _ log entry c.args.id c.args.op.now s taken refl
    (holds_updated D one.value one.versions one.markers _ _ log held c.args.id c.args.op.now s.holds member n
    (subst (λ v. D v log (grown held c.args.id) gone) (sym c.in-Ok.ensures.applied) both.0)
    (c.in_ok-raise.ensures.ok ∙ ap (λ m. raised m c.args.id (c.at-seq.result + 1)) c.in_ok-versions.ensures.same ∙ ap (raised one.versions c.args.id) seq)))

pub returns-in-Ok-clause-delta : goal.returns-in-Ok-clause-delta
returns-in-Ok-clause-delta g c =
    let member : performed_in c.self.inside.markers c.args.id ≡ false = ap (λ m. performed_in m c.args.id) (same_markers c.self.view_is) ∙ c.requires.member in
    let fits : (not (g.T.Replica.is_closed c.self.inside.value) && g.T.Replica.data_type.fits (g.T.Replica.kind_of c.self.inside.value) c.args.op.now) ≡ true = ap (λ v. not (g.T.Replica.is_closed v) && g.T.Replica.data_type.fits (g.T.Replica.kind_of v) c.args.op.now) (same_value c.self.view_is) ∙ c.requires.fits in
    rw (← c.self.view_is) (
    λ log entry s taken.
    let D = g.T.Replica.IsDataOf in
    let one = c.self.inside in
    let held = versions entry.history in
    let gone = performed_in one.markers in
    let n = next_here D _ log entry c.args.id (Operation c.args.op.now) s taken in
    let seq : c.at-seq.result + 1 ≡ held c.args.id + 1 = ap (λ x. x + 1) (c.at-seq.ensures.value ∙ s.holds.numbers c.args.id ∙ uncleaned gone held c.args.id member) in
    let both = g.met.T.Replica.data_applied one.value log held gone c.args.op.now (record { origin = c.args.id; seq = c.at-seq.result + 1 }) (held_pruned D _ log held s.holds) member n seq s.holds.state fits c.in-Ok.ensures.unrefused in
    subst (λ d. g.T.Replica.IsDeltaOf d log c.args.id (held c.args.id) (held c.args.id + 1)) (sym c.in-Ok.ensures.delta) both.1)

pub returns-in-Ok-clause-unrefused : goal.returns-in-Ok-clause-unrefused
returns-in-Ok-clause-unrefused g c =
    let member : performed_in c.self.inside.markers c.args.id ≡ false = ap (λ m. performed_in m c.args.id) (same_markers c.self.view_is) ∙ c.requires.member in
    let fits : (not (g.T.Replica.is_closed c.self.inside.value) && g.T.Replica.data_type.fits (g.T.Replica.kind_of c.self.inside.value) c.args.op.now) ≡ true = ap (λ v. not (g.T.Replica.is_closed v) && g.T.Replica.data_type.fits (g.T.Replica.kind_of v) c.args.op.now) (same_value c.self.view_is) ∙ c.requires.fits in
    rw (← c.self.view_is) (
    λ log entry s.
    let D = g.T.Replica.IsDataOf in
    let one = c.self.inside in
    let held = versions entry.history in
    sym (g.met.T.Replica.refusal_means one.value log held (performed_in one.markers) c.args.op.now c.args.id (held_pruned D _ log held s.holds) s.holds.state member fits
    ∙ ap (g.T.Replica.data_type.refusal (g.T.Replica.kind_of one.value) c.args.id c.args.op.now) (whole D _ log entry s))
    ∙ c.in-Ok.ensures.unrefused)

pub returns-in-Err-clause-refused : goal.returns-in-Err-clause-refused
returns-in-Err-clause-refused g c =
    let member : performed_in c.self.inside.markers c.args.id ≡ false = ap (λ m. performed_in m c.args.id) (same_markers c.self.view_is) ∙ c.requires.member in
    let fits : (not (g.T.Replica.is_closed c.self.inside.value) && g.T.Replica.data_type.fits (g.T.Replica.kind_of c.self.inside.value) c.args.op.now) ≡ true = ap (λ v. not (g.T.Replica.is_closed v) && g.T.Replica.data_type.fits (g.T.Replica.kind_of v) c.args.op.now) (same_value c.self.view_is) ∙ c.requires.fits in
    rw (← c.self.view_is) (
    λ log entry s.
    let D = g.T.Replica.IsDataOf in
    let one = c.self.inside in
    let held = versions entry.history in
    subst (λ meant. IsApplyRefusal meant c.in-Err.error)
    (g.met.T.Replica.refusal_means one.value log held (performed_in one.markers) c.args.op.now c.args.id (held_pruned D _ log held s.holds) s.holds.state member fits
    ∙ ap (g.T.Replica.data_type.refusal (g.T.Replica.kind_of one.value) c.args.id c.args.op.now) (whole D _ log entry s))
    c.in-Err.ensures.refused)

pub returns-in-Ok-clause-kind : goal.returns-in-Ok-clause-kind
returns-in-Ok-clause-kind g c =
    rw (← c.self.view_is) (
    ap g.T.Replica.kind_of c.in-Ok.ensures.applied ∙ g.met.T.Replica.kind_applied c.self.inside.value c.args.op.now _)

pub returns-in-Ok-clause-delta_kind : goal.returns-in-Ok-clause-delta_kind
returns-in-Ok-clause-delta_kind g c =
    let fits : (not (g.T.Replica.is_closed c.self.inside.value) && g.T.Replica.data_type.fits (g.T.Replica.kind_of c.self.inside.value) c.args.op.now) ≡ true = ap (λ v. not (g.T.Replica.is_closed v) && g.T.Replica.data_type.fits (g.T.Replica.kind_of v) c.args.op.now) (same_value c.self.view_is) ∙ c.requires.fits in
    rw (← c.self.view_is) (
    let R = g.T.Replica in
    let one = c.self.inside in
    let dot : Dot = record { origin = c.args.id; seq = c.at-seq.result + 1 } in
    ap (R.delta_fits_kind (R.kind_of one.value)) c.in-Ok.ensures.delta ∙ g.met.T.Replica.delta_kind one.value c.args.op.now dot fits)

pub returns-in-Ok-clause-delta_origin : goal.returns-in-Ok-clause-delta_origin
returns-in-Ok-clause-delta_origin g c =
    let R = g.T.Replica in
    let dot : Dot = record { origin = c.args.id; seq = c.at-seq.result + 1 } in
    subst (λ d. R.IsOfOrigin d c.args.id) (sym c.in-Ok.ensures.delta) (g.met.T.Replica.delta_origin c.self.inside.value c.args.op.now dot)

pub invariant_of-self : goal.invariant_of-self
invariant_of-self g c =
    let R = g.T.Replica in
    let one = c.self.inside in
    let id = c.args.id in
    let dot : Dot = record { origin = id; seq = c.at-seq.result + 1 } in
    let member : performed_in one.markers id ≡ false = ap (λ m. performed_in m id) (same_markers c.self.view_is) ∙ c.requires.member in
    forgotten_grown R.mentioned one.value _ one.versions _ one.markers id member
    (λ i other. ap (λ m. number_at m i) (c.in_ok-raise.ensures.ok ∙ ap (λ m. raised m id (c.at-seq.result + 1)) c.in_ok-versions.ensures.same) ∙ raised_elsewhere one.versions id (c.at-seq.result + 1) c.in_ok-versions.ensures.normal i other)
    (λ i other none. ap (λ v. R.mentioned v i) c.in-Ok.ensures.applied ∙ g.met.T.Replica.applied_mentions one.value c.args.op.now dot i other none) c.self.invariant
