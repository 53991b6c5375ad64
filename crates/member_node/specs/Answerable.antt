-- Which replies an input can have.
--     is_of_update, is_of_get, ..        the replies to each input
--     CanReply        a reply that the input can have
--     CanEnd        the operation that it can end
--     StoresNothing        no entry is another after the plan
--     RepliesTo        what was prepared has such a reply, whatever becomes of the store
use Rattle.std.specs.Prelude.{◌≡◌, ℕ, Option, None, Bool, true, false, IsTrue, ◌⊎◌}
use Rattle.data_lattice.specs.declared.replica.Replica.{Ghosts}
use Rattle.member_node.specs.declared.input.Input.{Input}
use Rattle.member_node.specs.declared.input.Input.TheVariants as input
use Rattle.member_node.specs.declared.key.Updated.{Updated}
use Rattle.member_node.specs.declared.key.Updated.TheVariants.{Refused, Recorded}
use Rattle.member_node.specs.declared.operation.Finished.{Finished}
use Rattle.member_node.specs.declared.plan.Plan.{Plan}
use Rattle.member_node.specs.declared.plan.Plan.TheVariants as plan
use Rattle.member_node.specs.declared.plan.Prepared.{Prepared}
use Rattle.member_node.specs.declared.reply.Reply.{Reply}
use Rattle.member_node.specs.declared.reply.Reply.TheVariants as reply
use Rattle.member_node.specs.declared.reply.Output.{Output}
use Rattle.member_node.specs.Outputs.{failed}
use Rattle.member_node.specs.Planning.{changed_entry}

-- THE REPLIES TO EACH INPUT

abbrev pub is_of_update : Reply → Bool
is_of_update reply.Done = true
is_of_update (reply.Pending op) = true
is_of_update reply.UnknownKey = true
is_of_update reply.Deleted = true
is_of_update reply.WrongKind = true
is_of_update reply.TooFew = true
is_of_update (reply.Overflow share amount) = true
is_of_update reply.SetFull = true
is_of_update reply.ClockSpent = true
is_of_update reply.StoreFailed = true
is_of_update _ = false

abbrev pub is_of_get : Reply → Bool
is_of_get (reply.Value shown) = true
is_of_get reply.Deleted = true
is_of_get reply.NotFound = true
is_of_get (reply.Pending op) = true
is_of_get reply.UnknownKey = true
is_of_get reply.TooFew = true
is_of_get _ = false

abbrev pub is_of_take : Reply → Bool
is_of_take reply.Taken = true
is_of_take reply.Already = true
is_of_take (reply.Gap i) = true
is_of_take reply.NotFromMember = true
is_of_take reply.StoreFailed = true
is_of_take _ = false

abbrev pub is_of_install : Reply → Bool
is_of_install reply.Installed = true
is_of_install reply.OldView = true
is_of_install reply.StoreFailed = true
is_of_install _ = false

abbrev pub is_of_flush : Reply → Bool
is_of_flush reply.Done = true
is_of_flush _ = false

abbrev pub is_of_gossip : Reply → Bool
is_of_gossip reply.Done = true
is_of_gossip reply.NotAPeer = true
is_of_gossip _ = false

abbrev pub is_of_tick : Reply → Bool
is_of_tick (reply.Ticked outcomes) = true
is_of_tick (reply.TickedStoreFailed outcomes) = true
is_of_tick (reply.NotLeader i) = true
is_of_tick _ = false

abbrev pub is_of_timeout : Reply → Bool
is_of_timeout reply.TimedOut = true
is_of_timeout reply.NoSuchOp = true
is_of_timeout _ = false

module _ {T Kind Op Delta : Type 0} {ghosts : Ghosts T Kind Op Delta} where
  abbrev pub can_reply : Input T Kind Op Delta ghosts → Reply → Bool
  can_reply (input.Update key op level) told = is_of_update told
  can_reply (input.Get key level) told = is_of_get told
  can_reply (input.Take from message) told = is_of_take told
  can_reply (input.Install view) told = is_of_install told
  can_reply input.Flush told = is_of_flush told
  can_reply (input.GossipTo id) told = is_of_gossip told
  can_reply input.PruneTick told = is_of_tick told
  can_reply (input.Timeout op) told = is_of_timeout told

  -- the input can have this reply
  abbrev pub CanReply : Input T Kind Op Delta ghosts → Reply → Type 0
  CanReply sent told = IsTrue (can_reply sent told)

  -- nothing but a message that is taken ends an operation
  abbrev pub CanEnd : Input T Kind Op Delta ghosts → Option Finished → Type 0
  CanEnd (input.Take from message) finished = Unit {0}
  CanEnd _ finished = finished ≡ None

-- BEFORE THE STORE

module _ {T Kind Op Delta : Type 0} where
  -- an own operation is refused by a reply to an update
  abbrev pub CanRefuse : Updated T Kind Op Delta → Type 0
  CanRefuse (Refused told) = IsTrue (is_of_update told)
  CanRefuse (Recorded entry next) = Unit {0}

  -- no entry is another after the plan
  abbrev pub StoresNothing : Plan T Kind Op Delta → Type 0
  StoresNothing plan.Nothing = Unit {0}
  StoresNothing (plan.At index entry next) = ⊥
  StoresNothing (plan.Each changes) = (k : ℕ) → changed_entry changes k ≡ None
  StoresNothing (plan.Ticked ticks) = ⊥

module _ {T Kind Op Delta : Type 0} {ghosts : Ghosts T Kind Op Delta} where
  -- its reply is one that the input can have; so is what a failed store makes of it, if there is something to store
  pub record RepliesTo (sent : Input T Kind Op Delta ghosts) (prepared : Prepared T Kind Op Delta ghosts) : Type 0 where
    pub stored : CanReply sent prepared.output.reply
    pub failing : StoresNothing prepared.plan ⊎ CanReply sent (failed prepared.output.reply)
    pub ends : CanEnd sent prepared.output.finished

  -- so has the output of what was prepared
  abbrev pub RepliesPrepared : Prepared T Kind Op Delta ghosts → Output T Kind Op Delta ghosts → Type 0
  RepliesPrepared prepared output = (sent : Input T Kind Op Delta ghosts) → RepliesTo sent prepared → CanReply sent output.reply × CanEnd sent output.finished
