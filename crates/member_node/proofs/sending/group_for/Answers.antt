use Rattle.std.proofs.Common.{◌≡◌, refl, sym, ap, ◌∙◌, subst₂}
use Rattle.std.proofs.lemmas.Bool.{false_from_ne_true}
use Rattle.member_node.proofs.Common.{Ghosts, state_in}
use Rattle.model_members.specs.Entry.{group_after}
use Rattle.model_members.specs.Step.{goes_as_group}
use Rattle.data_envelope.specs.Images.{StandsForGroup}
use Rattle.data_envelope.specs.Words.{group_parts}
use Rattle.data_envelope.specs.declared.group.Group.{Group}
use Rattle.data_deltalog.specs.Words.{answer_in}
use Rattle.data_deltalog.specs.Answers.Answer.{AsGroup}
use Rattle.data_deltalog.specs.declared.grouped.Grouped.{Grouped}
use Rattle.data_deltalog.specs.declared.grouped.Grouped.TheVariants as variant
use Rattle.member_node.proofs.sending.group_for.Goals as goal

not_a_group : {T Kind Op Delta : Type 0} {ghosts : Ghosts T Kind Op Delta} (grouped : Grouped T Kind Op Delta ghosts) → ((group : Group T Kind Op Delta ghosts) → grouped ≡ variant.Group group → ⊥) → answer_in grouped ≡ AsGroup → ⊥
not_a_group (variant.Group group) other is = other group refl
not_a_group _ other is = cc is

pub returns-in-Group : goal.returns-in-Group
returns-in-Group g c = λ D kinds logs id node keeps h behind.
    let R = g.T.Replica in
    let state = c.args.state.now in
    let peer = c.args.peer in
    let group = c.in-Group.group in
    let own = h.identity ∙ sym h.own.origin in
    let sent = sym (h.held.sent peer) ∙ sym c.at.ensures.value in
    let flush = c.in_ok-group.ensures.flush D node peer (state_in node state) (logs state.name) h.held.logged keeps own sent behind in
    let answered : answer_in c.in_ok-group.field-0 ≡ AsGroup = ap answer_in c.in-Group.is in
    let made = rw c.in-Group.is at c.in_ok-group.ensures.image (logs state.name) (node.entries state.name) h.held.logged in
    let fits = rw c.in-Group.is at c.in_ok-group.ensures.fits in (
      flush.0 answered,
      record {
        same = refl;
        fits = ap (λ kind. R.delta_fits_kind kind group.delta) (sym (h.own.kind ∙ h.held.held.kind)) ∙ fits;
        image = subst₂ (λ i after. StandsForGroup R.IsDeltaOf (group_parts group) (logs state.name) (group_after (node.entries state.name) i after)) (sym own) (sym sent) made;
      },
    )

pub returns-in_default : goal.returns-in_default
returns-in_default g c = λ D kinds logs id node keeps h behind.
    let state = c.args.state.now in
    let peer = c.args.peer in
    let own = h.identity ∙ sym h.own.origin in
    let sent = sym (h.held.sent peer) ∙ sym c.at.ensures.value in
    let flush = c.in_ok-group.ensures.flush D node peer (state_in node state) (logs state.name) h.held.logged keeps own sent behind in
    false_from_ne_true (goes_as_group D node peer (state_in node state)) (λ goes. not_a_group c.in_ok-group.field-0 c.in_default.not-Group (flush.1 goes))
