-- What entries of the program are in the model.
--     EntryOf        an entry of a member's history
--     IsMeantBy        an input
--     IsImage, AreImages        an entry, and the entries of all places one by one
use Rattle.std.specs.Prelude.{◌≡◌, ℕ, List, [], ◌∷◌, map, Option, Some, option_map, ⊤}
use Rattle.thread_machine.specs.declared.entry.Entry.{Entry}
use Rattle.model_members.specs.Message.{Message as Sent}
use Rattle.model_members.specs.Node as nodes
use Rattle.theorem_sections.specs.Histories as model
use Rattle.theorem_sections.specs.Histories.{Placed}
use Rattle.model_kinds.specs.declared.operation.Op.{Op}
use Rattle.model_kinds.specs.declared.shown.Shown.{Shown}
use Rattle.data_lattice.specs.declared.replica.Replica.{Ghosts}
use Rattle.member_keeper.specs.declared.keeper.Keeper.{Ghosts as Keeping}
use Rattle.member_messages.specs.Sketches.{sketch_of}
use Rattle.member_quorum.specs.Levels.{level_meant}
use Rattle.member_node.specs.declared.input.Input.{Input}
use Rattle.member_node.specs.declared.input.Input.TheVariants as form
use Rattle.member_node.specs.declared.node.Node.{Node}
use Rattle.member_node.specs.declared.reply.Fate.{Fate}
use Rattle.member_node.specs.declared.reply.Output.{Output}
use Rattle.member_node.specs.declared.reply.StepError.{StepError}
use Rattle.member_node.specs.Operations.{finished_meant}
use Rattle.member_node.specs.Replies.{meant, meant_fate}
use Rattle.world_places.specs.Sketched.{sketched, sketched_post}
use Rattle.world_places.specs.Sending.{told_of}
use Rattle.thread_run_order.specs.Orders.{AtPlace}

abbrev pub EntryOf : {T K Kind Delta : Type 0} → Ghosts T Kind Op Delta → Keeping K → Type 0
EntryOf {T} {K} {Kind} {Delta} ghosts keeping = Entry (Node T K Kind Op Delta ghosts keeping) (Input T Kind Op Delta ghosts) Fate (Output T Kind Op Delta ghosts) StepError

module _ {T Kind Delta : Type 0} {ghosts : Ghosts T Kind Op Delta} where
  -- of a message that is taken, the sender and the sketch are alike
  abbrev pub IsMeantBy : Input T Kind Op Delta ghosts → nodes.Input Op → Type 0
  IsMeantBy (form.Update key op level) sent = sent ≡ nodes.Input.Update key op (level_meant level)
  IsMeantBy (form.Get key level) sent = sent ≡ nodes.Input.Get key (level_meant level)
  IsMeantBy (form.Take from message) sent = (told : Sent Op) × (sent ≡ nodes.Input.Take from told) × (sketch_of message ≡ sketched told)
  IsMeantBy (form.Install view) sent = sent ≡ nodes.Input.Install view
  IsMeantBy form.Flush sent = sent ≡ nodes.Input.Flush
  IsMeantBy (form.GossipTo to) sent = sent ≡ nodes.Input.GossipTo to
  IsMeantBy form.PruneTick sent = sent ≡ nodes.Input.PruneTick
  IsMeantBy (form.Timeout op) sent = sent ≡ nodes.Input.Timeout op

module _ {T K Kind Delta : Type 0} {ghosts : Ghosts T Kind Op Delta} {keeping : Keeping K} where
  -- the same client, stamp and fate; the input that is meant, the reply that is meant, posts to the same members with the same sketches, and the same operation ended
  pub record IsImage (e : EntryOf ghosts keeping) (m : model.Entry Op Shown) : Type 0 where
    pub client : m.client ≡ e.client
    pub stamp : m.stamp ≡ e.stamp
    pub input : IsMeantBy e.input m.input
    pub fate : m.fate ≡ meant_fate e.fate
    pub reply : m.output.reply ≡ meant e.output.reply
    pub posts : map told_of e.output.posts ≡ map sketched_post m.output.posts
    pub ended : m.output.ended ≡ option_map finished_meant e.output.finished

  -- one by one, each at the identity of its place
  abbrev pub AreImages : (ℕ → Option ℕ) → List (AtPlace (EntryOf ghosts keeping)) → List (Placed Op Shown) → Type 0
  AreImages ids [] [] = ⊤
  AreImages ids (x ∷ xs) (y ∷ ys) = (ids x.place ≡ Some y.at) × IsImage x.entry y.entry × AreImages ids xs ys
  AreImages ids _ _ = ⊥
