use Rattle.std.proofs.Common.{◌≡◌, false, ◌+◌, refl, ap, sym, ◌∙◌, subst}
use Rattle.std.specs.FinMap as map
use Rattle.model_history.specs.Vector.{with_member}
use Rattle.model_history.specs.History.{versions}
use Rattle.model_history.specs.Cuts.{grown}
use Rattle.model_history.proofs.CutLaws.{with_member_is, uncleaned}
use Rattle.base_vectors.specs.Vectors.{raised, removed}
use Rattle.data_markers.specs.declared.marker.Marker.TheVariants.{Performed}
use Rattle.data_markers.specs.Marks.{performed_in}
use Rattle.data_markers.proofs.Laws.{mark_of-insert_other}
use Rattle.model_members.specs.Entry.{with_prune}
use Rattle.data_lattice.specs.Refusals.{IsPruneRefusal}
use Rattle.data_envelope.specs.Images.{StandsFor}
use Rattle.data_envelope.specs.Pruning.{IsPruned}
use Rattle.data_envelope.proofs.Tests.{performed_insert}
use Rattle.data_envelope.proofs.Holding.{holds_pruned, held_pruned}
use Rattle.data_envelope.proofs.Pruned.{pruned_numbers, marks_with, performed_with}
use Rattle.data_envelope.proofs.Entries.{stands_pruned, next_of_prune, whole, blocked_same, blocked_undeleted}
use Rattle.data_envelope.proofs.Forgetting.{forgotten_pruned}
use Rattle.data_envelope.proofs.envelope.Envelope.prune.Given as given
use Rattle.data_envelope.proofs.Opened.{same_markers}
use Rattle.data_envelope.proofs.envelope.Envelope.prune.Goals as goal

pub returns-in-Ok-clause-image : goal.returns-in-Ok-clause-image
returns-in-Ok-clause-image g c =
    let member : performed_in c.self.inside.markers c.args.owner ≡ false = ap (λ m. performed_in m c.args.owner) (same_markers c.self.view_is) ∙ c.requires.member in
    let kept : performed_in c.self.inside.markers c.args.removed ≡ false = ap (λ m. performed_in m c.args.removed) (same_markers c.self.view_is) ∙ c.requires.unpruned in
    rw (← c.self.view_is) (
    λ log entry s taken _.
    let D = g.T.Replica.IsDataOf in
    let one = c.self.inside in
    let owner = c.args.owner in
    let id = c.args.removed in
    let held = versions entry.history in
    let gone = performed_in one.markers in
    let n = next_of_prune D _ log entry owner id s taken in
    let stays = kept in
    let seq : c.at-at.result + 1 ≡ held owner + 1 = ap (λ x. x + 1) (c.at-at.ensures.value ∙ s.holds.numbers owner ∙ uncleaned gone held owner member) in
    let upto : c.at-upto.result ≡ held id = c.at-upto.ensures.value ∙ s.holds.numbers id ∙ uncleaned gone held id stays in
    let marks = c.in_ok-put.ensures.ok ∙ ap (λ m. map.insert m id (Performed owner (c.at-at.result + 1) c.at-upto.result)) c.in_ok-markers.ensures
    ∙ ap (λ x. map.insert one.markers id (Performed owner x c.at-upto.result)) seq ∙ ap (λ x. map.insert one.markers id (Performed owner (held owner + 1) x)) upto in
    subst (λ m. StandsFor D (record { value = c.prune.new.self; versions = c.without.new.self; marks = m }) log (with_prune entry owner id)) (sym marks)
    (stands_pruned D _ (record { value = c.prune.new.self; versions = c.without.new.self; marks = map.insert one.markers id (Performed owner (held owner + 1) (held id)) }) log entry owner id s taken
    (performed_insert one.markers id owner (held owner + 1) (held id) id ∙ with_member_is gone id id refl)
    (λ r other. mark_of-insert_other one.markers id r _ other)
    (holds_pruned D one.value one.versions one.markers c.prune.new.self c.without.new.self log held owner id s.holds member n c.requires.other stays
    (subst (λ v. D v log (grown held owner) (with_member gone id)) (sym c.in-Ok.ensures.pruned)
    (g.met.T.Replica.data_pruned one.value log held gone id (record { origin = owner; seq = c.at-at.result + 1 }) (held_pruned D _ log held s.holds) member n seq s.holds.state c.requires.other stays c.in-Ok.ensures.unrefused))
    (c.without.ensures ∙ ap (λ m. removed m id) (c.in_ok-raise.ensures.ok ∙ ap (λ m. raised m owner (c.at-at.result + 1)) c.in_ok-versions.ensures.same ∙ ap (raised one.versions owner) seq)))))

pub returns-in-Ok-clause-unblocked : goal.returns-in-Ok-clause-unblocked
returns-in-Ok-clause-unblocked g c =
    let member : performed_in c.self.inside.markers c.args.owner ≡ false = ap (λ m. performed_in m c.args.owner) (same_markers c.self.view_is) ∙ c.requires.member in
    let kept : performed_in c.self.inside.markers c.args.removed ≡ false = ap (λ m. performed_in m c.args.removed) (same_markers c.self.view_is) ∙ c.requires.unpruned in
    rw (← c.self.view_is) (
    λ log entry s _.
    let D = g.T.Replica.IsDataOf in
    let one = c.self.inside in
    let held = versions entry.history in
    let stays = kept in
    sym (g.met.T.Replica.blocked_means one.value log held (performed_in one.markers) c.args.owner c.args.removed (held_pruned D _ log held s.holds) s.holds.state member stays
    ∙ ap (g.T.Replica.data_type.blocked (g.T.Replica.kind_of one.value) c.args.owner c.args.removed) (whole D _ log entry s))
    ∙ c.in-Ok.ensures.unrefused)

pub returns-in-Err-Blocked-clause-blocked : goal.returns-in-Err-Blocked-clause-blocked
returns-in-Err-Blocked-clause-blocked g c =
    let member : performed_in c.self.inside.markers c.args.owner ≡ false = ap (λ m. performed_in m c.args.owner) (same_markers c.self.view_is) ∙ c.requires.member in
    let kept : performed_in c.self.inside.markers c.args.removed ≡ false = ap (λ m. performed_in m c.args.removed) (same_markers c.self.view_is) ∙ c.requires.unpruned in
    rw (← c.self.view_is) (
    λ log entry owner_share removed_share s e.
    let D = g.T.Replica.IsDataOf in
    let one = c.self.inside in
    let held = versions entry.history in
    let meant = g.T.Replica.prune_refusal one.value c.args.removed c.args.owner in
    let stays = kept in
    sym (g.met.T.Replica.blocked_means one.value log held (performed_in one.markers) c.args.owner c.args.removed (held_pruned D _ log held s.holds) s.holds.state member stays
    ∙ ap (g.T.Replica.data_type.blocked (g.T.Replica.kind_of one.value) c.args.owner c.args.removed) (whole D _ log entry s))
    ∙ blocked_same meant _ _ _ _ owner_share removed_share (subst (λ x. IsPruneRefusal meant x) c.in-Err-Blocked.field-0-is c.in-Err-Blocked.ensures.refused) c.in-Err-Blocked.owner_share-is c.in-Err-Blocked.removed_share-is e)

pub returns-in-Err-Blocked-clause-undeleted : goal.returns-in-Err-Blocked-clause-undeleted
returns-in-Err-Blocked-clause-undeleted g c = rw (← c.self.view_is) (
    λ _ _ _.
    let one = c.self.inside in
    let meant = g.T.Replica.prune_refusal one.value c.args.removed c.args.owner in
    blocked_undeleted (g.T.Replica.is_closed one.value) meant _ _ (g.met.T.Replica.closed_unblocked one.value c.args.removed c.args.owner)
    (subst (λ x. IsPruneRefusal meant x) c.in-Err-Blocked.field-0-is c.in-Err-Blocked.ensures.refused))

pruned_here : (g : given.Over) (c : goal.After-drop-self-inside-in-Ok g) → IsPruned c.args.removed c.args.owner (record { value = c.self.inside.value; versions = c.self.inside.versions; marks = c.self.inside.markers }) (record { value = c.prune.new.self; versions = c.without.new.self; marks = c.put.new.self })
pruned_here g c =
    let one = c.self.inside in
    let owner = c.args.owner in
    let id = c.args.removed in
    let seq = c.at-at.ensures.value in
    let versions = c.without.ensures ∙ ap (λ m. removed m id) (c.in_ok-raise.ensures.ok ∙ ap (λ m. raised m owner (c.at-at.result + 1)) c.in_ok-versions.ensures.same ∙ ap (λ n. raised one.versions owner (n + 1)) seq) in
    let marks = c.in_ok-put.ensures.ok ∙ ap (λ m. map.insert m id (Performed owner (c.at-at.result + 1) c.at-upto.result)) c.in_ok-markers.ensures
    ∙ (λ i. map.insert one.markers id (Performed owner (seq i + 1) (c.at-upto.ensures.value i))) in
    record {
      versions = pruned_numbers one.versions c.without.new.self owner id c.in_ok-versions.ensures.normal c.number-below_limit.ensures.range versions;
      marks = marks_with one.markers c.put.new.self id _ marks;
    }

pub returns-in-Ok-clause-pruned : goal.returns-in-Ok-clause-pruned
returns-in-Ok-clause-pruned g c = λ _. rw (← c.self.view_is) (pruned_here g c)

named : (g : given.Over) (c : goal.After-drop-self-inside-in-Ok g) → g.T.Replica.mentioned c.prune.new.self c.args.removed ≡ false
named g c =
    ap (λ v. g.T.Replica.mentioned v c.args.removed) c.in-Ok.ensures.pruned ∙ g.met.T.Replica.pruned_unmentioned c.self.inside.value c.args.removed (record { origin = c.args.owner; seq = c.at-at.result + 1 }) c.requires.other

pub returns-in-Ok-clause-forgotten : goal.returns-in-Ok-clause-forgotten
returns-in-Ok-clause-forgotten g c = λ _. named g c

pub invariant_of-self : goal.invariant_of-self
invariant_of-self g c =
    let R = g.T.Replica in
    let one = c.self.inside in
    let owner = c.args.owner in
    let id = c.args.removed in
    let member : performed_in one.markers owner ≡ false = ap (λ m. performed_in m owner) (same_markers c.self.view_is) ∙ c.requires.member in
    let pruned = pruned_here g c in
    forgotten_pruned R.mentioned one.value c.prune.new.self one.versions c.without.new.self one.markers c.put.new.self owner id member (performed_with one.markers c.put.new.self id _ _ _ pruned.marks) pruned.versions
    (λ i other none. ap (λ v. R.mentioned v i) c.in-Ok.ensures.pruned ∙ g.met.T.Replica.pruned_mentions one.value id (record { origin = owner; seq = c.at-at.result + 1 }) i other none) (named g c) c.self.invariant
