use Rattle.std.proofs.Common.{◌≡◌, [], ◌∷◌, ◌++◌, sym, ap, ◌∙◌, append-nil}
use Rattle.member_messages.specs.declared.message.Message.TheVariants.{Nack, Gossip}
use Rattle.member_node.specs.Answers.{nack_of, gossip_of}
use Rattle.member_node.proofs.Sendings.{empty_is, nack_so, gossip_so}
use Rattle.member_node.proofs.answering.answers.Goals as goal
use Rattle.member_node.proofs.answering.answers.Goals.{then-not-is_empty+in_ok-keys+in_ok-push, else-not-is_empty, then-not-is_empty-2+in_ok-push-2, else-not-is_empty-2}

pub returns : goal.returns
returns g c =
    let R = g.T.Replica in
    let from = c.args.from in
    let gaps = c.args.gaps.now in
    let entries = c.args.entries in
    let first = c.if-not-is_empty.posts in
    let one : c.if-not-is_empty.posts ≡ nack_of {ghosts = g.T.Replica} c.args.from c.args.gaps.now = elim c.if-not-is_empty.branch [
      | then-not-is_empty+in_ok-keys+in_ok-push w ↦
          w.posts-is ∙ w.in_ok-push.ensures.ok ∙ (λ i. c.new-posts.ensures i ++ record { to = from; message = Nack (w.in_ok-keys.ensures i) } ∷ []) ∙ nack_so R from gaps (sym c.is_empty.ensures ∙ w.if-not-is_empty.true)
      | else-not-is_empty w ↦ w.posts-is ∙ c.new-posts.ensures ∙ ap (nack_of {ghosts = R} from) (sym (empty_is gaps (sym c.is_empty.ensures ∙ w.if-not-is_empty.false)))
    ] in
    let two : c.if-not-is_empty-2.posts ≡ c.if-not-is_empty.posts ++ gossip_of {ghosts = g.T.Replica} c.args.from c.args.entries = elim c.if-not-is_empty-2.branch [
      | then-not-is_empty-2+in_ok-push-2 w ↦
          w.posts-is ∙ w.in_ok-push-2.ensures.ok ∙ (λ i. first ++ record { to = from; message = Gossip entries (w.new-wants.ensures i) } ∷ []) ∙ ap (λ ps. first ++ ps) (gossip_so R from entries (sym c.is_empty-2.ensures ∙ w.if-not-is_empty-2.true))
      | else-not-is_empty-2 w ↦ w.posts-is ∙ sym (append-nil first) ∙ ap (λ es. first ++ gossip_of {ghosts = R} from es) (sym (empty_is entries (sym c.is_empty-2.ensures ∙ w.if-not-is_empty-2.false)))
    ] in
    two ∙ ap (λ ps. ps ++ gossip_of {ghosts = R} from entries) one
