-- What clients did that made all of their commands, from a table's opening on.
use Rattle.std.specs.Prelude.{◌≡◌, ℕ, suc, List, [], ◌∷◌, Option, Some}
use Rattle.atomic_table.specs.Seated.{TableId}
use Rattle.model_kinds.specs.declared.operation.Op.{Op}
use Rattle.data_lattice.specs.declared.replica.Replica.{Ghosts as Data}
use Rattle.member_keeper.specs.declared.keeper.Keeper.{Ghosts as Keeping}
use Rattle.member_views.specs.Views.{View}
use Rattle.thread_cell.specs.declared.opening.Opening.{Opening}
use Rattle.member_node.specs.declared.input.Input.{Input}
use Rattle.member_node.specs.declared.node.Node.{Node}
use Rattle.member_node.specs.declared.reply.Fate.{Fate}
use Rattle.member_node.specs.declared.reply.Output.{Output}
use Rattle.member_node.specs.declared.reply.StepError.{StepError}
use Rattle.script_reading.specs.declared.clients.Repeated.{Repeated}
use Rattle.world_members.specs.declared.client_line.ClientLine.{ClientLine}
use Rattle.thread_clients.specs.Commands.{commands_of}
use Rattle.thread_clients.specs.Paths.{IsPath}
use Rattle.thread_clients.specs.Sessions.{Session, Meaning}

module _ {T K Kind Delta : Type 0} {data_of : Data T Kind Op Delta} {keeping : Keeping K} (meaning : Meaning data_of keeping) (ids : ℕ → Option ℕ) (views : List View) (table : TableId)
    (opening : Opening (Node T K Kind Op Delta data_of keeping) (Input T Kind Op Delta data_of) Fate (Output T Kind Op Delta data_of) StepError) where
  -- the client of a number began with nothing seen, and made all of its commands
  pub record HasDone (client : ℕ) (commands : List Repeated) (session : Session data_of keeping) (lines : List ClientLine) : Type 0 where
    pub first : Session data_of keeping
    pub fresh : (first.seen.stamp ≡ 0) × (first.calls ≡ [])
    pub number : session.number ≡ client
    pub opened : session.seen.began ≡ Some opening
    pub in_table : session.seen.table ≡ table
    pub path : IsPath meaning ids views client first (commands_of commands) lines session

  -- so did each, from a number on
  abbrev pub HaveDone : ℕ → List (List Repeated) → List (Session data_of keeping) → List (List ClientLine) → Type 0
  HaveDone client [] [] [] = Unit {0}
  HaveDone client (c ∷ cs) (s ∷ sessions) (l ∷ lines) = HasDone client c s l × HaveDone (suc client) cs sessions lines
  HaveDone client _ _ _ = ⊥
