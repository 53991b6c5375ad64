use Rattle.std.proofs.Common.{◌≡◌, ℕ, ◌<◌, [], List, length, take, get_or, All}
use Rattle.member_node.proofs.Common.{Text, History, Shown, KeyState, KeyTick, delta_groups, TicksIn, IsKeyTick, IsTickedAs}
use Rattle.model_members.specs.Entry as model
use Rattle.model_members.specs.Node as nodes
use Rattle.member_node.specs.Ticking.{IsDue, TellsMore}
use Rattle.member_node.proofs.ticking.tick_all.Given as goal

-- the keys so far are done
abbrev pub invariant-loop-state : goal.invariant-loop-state
invariant-loop-state g l =
    let R = g.T.Replica in
    record {
      counted : length l.ticks ≡ l.state-index;
      own : (k : ℕ) (d : KeyState g.row.T.Denot g.row.T-Kind.Denot g.row.T-Op.Denot g.row.T-Delta.Denot) (e : KeyTick g.row.T.Denot g.row.T-Kind.Denot g.row.T-Op.Denot g.row.T-Delta.Denot) → k < l.state-index → IsKeyTick R l.id (get_or l.keys k d) (get_or l.ticks k e);
      image : (digest : g.row.T-Kind.Denot → model.Entry g.row.T-Op.Denot → List ℕ) (kinds : Text → g.row.T-Kind.Denot) (logs : Text → History g.row.T-Op.Denot) (node : nodes.Node g.row.T-Kind.Denot g.row.T-Op.Denot Shown)
          → TicksIn node l.id l.view l.members → All (IsDue (delta_groups R.data_type digest) node R kinds logs l.id l.removed) l.keys
          → (k : ℕ) (d : KeyState g.row.T.Denot g.row.T-Kind.Denot g.row.T-Op.Denot g.row.T-Delta.Denot) (e : KeyTick g.row.T.Denot g.row.T-Kind.Denot g.row.T-Op.Denot g.row.T-Delta.Denot) → k < l.state-index → IsTickedAs (delta_groups R.data_type digest) node R logs (get_or l.keys k d) (get_or l.ticks k e);
      told : (digest : g.row.T-Kind.Denot → model.Entry g.row.T-Op.Denot → List ℕ) (kinds : Text → g.row.T-Kind.Denot) (logs : Text → History g.row.T-Op.Denot) (node : nodes.Node g.row.T-Kind.Denot g.row.T-Op.Denot Shown)
          → TicksIn node l.id l.view l.members → All (IsDue (delta_groups R.data_type digest) node R kinds logs l.id l.removed) l.keys
          → TellsMore (delta_groups R.data_type digest) node [] (take l.state-index l.keys) l.outcomes;
    }
