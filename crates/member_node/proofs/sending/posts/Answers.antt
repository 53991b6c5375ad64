use Rattle.std.proofs.Common.{take, sym, ap, ◌∙◌, subst, subst₂, arith, take_all}
use Rattle.std.specs.List.{AllZip}
use Rattle.member_node.proofs.Common.{StandsForPost}
use Rattle.member_node.specs.Sending.{IsPostFor, post_to}
use Rattle.member_node.proofs.Lists.{zip_push}
use Rattle.member_node.proofs.Sendings.{posts_to, posts_to-one, posts_to-none, posts_are}
use Rattle.member_node.proofs.sending.posts.Goals as goal
use Rattle.member_node.proofs.sending.posts.Goals.{in-Some+in_ok-push, in_default}

pub loop-peer-preserved : goal.loop-peer-preserved
loop-peer-preserved g c = λ D kinds logs node keeps held declares.
    let R = g.T.Replica in
    let members = c.args.members.now in
    let i = c.loop-peer.peer-index in
    let peer = c.peer-item.result in
    let Stands = StandsForPost {ghosts = R} R.kind_of R.IsDataOf kinds logs in
    let inv = c.loop-peer.invariant D kinds logs node keeps held declares in
    let made = c.in_ok-post.ensures D kinds logs node keeps held declares in
    elim c.match-branch-2.branch [
      | in-Some+in_ok-push w ↦
          let sent = subst (IsPostFor {ghosts = R} R.kind_of R.IsDataOf kinds logs D node c.args.id peer) w.in-Some.is made in
          subst₂ (AllZip (StandsForPost {ghosts = R} R.kind_of R.IsDataOf kinds logs)) (sym (w.posts-is ∙ w.in_ok-push.ensures.ok)) (sym (posts_to-one D node c.args.id members i peer c.loop-peer-test.true c.peer-item.is sent.0))
          (zip_push (StandsForPost {ghosts = R} R.kind_of R.IsDataOf kinds logs) c.loop-peer.posts (posts_to D node c.args.id (take i members)) w.in-Some.post (post_to D node peer) inv sent.1)
      | in_default w ↦
          let unsent = subst (IsPostFor {ghosts = R} R.kind_of R.IsDataOf kinds logs D node c.args.id peer) w.in_default.is made in
          subst₂ (AllZip (StandsForPost {ghosts = R} R.kind_of R.IsDataOf kinds logs)) (sym w.posts-is) (sym (posts_to-none D node c.args.id members i peer c.loop-peer-test.true c.peer-item.is unsent)) inv
    ]

pub returns : goal.returns
returns g c = λ D kinds logs node keeps held declares own viewed.
    let R = g.T.Replica in
    let members = c.args.members.now in
    let inv = c.loop-peer.invariant D kinds logs node keeps held declares in
    subst (AllZip (StandsForPost {ghosts = R} R.kind_of R.IsDataOf kinds logs) c.loop-peer.posts)
    (ap (posts_to D node c.args.id) (take_all c.loop-peer.peer-index members (omega arith)) ∙ posts_are D node c.args.id members own viewed) inv
