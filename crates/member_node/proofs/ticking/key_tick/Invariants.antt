use Rattle.std.proofs.Common.{◌≡◌, ℕ, ◌≤◌, ◌++◌, List, length, take, map}
use Rattle.member_node.proofs.Common.{Text, History, IsPartOf, Shown, delta_groups, IsHeldBy, TicksIn}
use Rattle.model_members.specs.Entry as model
use Rattle.model_members.specs.Node as nodes
use Rattle.member_node.specs.Replies.{meant_at_key}
use Rattle.member_node.specs.Ticking.{IsOwnCourse, IsInCourse}
use Rattle.member_node.proofs.Ticks.{course_after}
use Rattle.member_node.proofs.ticking.key_tick.Given as goal

-- the identities so far are done
abbrev pub invariant-loop-identity : goal.invariant-loop-identity
invariant-loop-identity g l =
    let R = g.T.Replica in
    record {
      own : IsOwnCourse R.kind_of l.id l.state l.ticking;
      few : length l.ticking.prunes ≤ l.identity-index;
      course : (digest : g.row.T-Kind.Denot → model.Entry g.row.T-Op.Denot → List ℕ) (kinds : Text → g.row.T-Kind.Denot) (logs : Text → History g.row.T-Op.Denot) (node : nodes.Node g.row.T-Kind.Denot g.row.T-Op.Denot Shown)
          → TicksIn node l.id l.view l.members → IsHeldBy R.kind_of R.IsDataOf R.IsDeltaOf kinds logs l.id node l.state
          → IsPartOf (course_after (delta_groups R.data_type digest) node l.state (take l.identity-index l.removed)).entry.history (logs l.state.name)
          → IsInCourse R (logs l.state.name) l.state (course_after (delta_groups R.data_type digest) node l.state (take l.identity-index l.removed)) l.ticking
          × (map meant_at_key l.outcomes ≡ map meant_at_key l.initial.outcomes ++ (course_after (delta_groups R.data_type digest) node l.state (take l.identity-index l.removed)).outcomes);
    }
