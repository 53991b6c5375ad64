-- Turns and looks of a client, one after another.
use Rattle.std.proofs.Common.{ℕ, ◌+◌, List, Option, inl, inr}
use Rattle.model_kinds.specs.declared.operation.Op.{Op}
use Rattle.data_lattice.specs.declared.replica.Replica.{Ghosts as Data}
use Rattle.member_keeper.specs.declared.keeper.Keeper.{Ghosts as Keeping}
use Rattle.thread_cell.specs.Lists.{at}
use Rattle.thread_cell.specs.Values.{ClientParts}
use Rattle.member_node.specs.declared.reply.Output.{Output}
use Rattle.thread_cluster.specs.Knowing.{KnowsMore, GoesOn, Sees}
use Rattle.thread_cluster.specs.Passing.{posts, takes}
use Rattle.thread_cluster.specs.Turning.{HasBegun, IsHeard, HasTurnedAll}
use Rattle.thread_cluster.specs.Messages.{messages_to, messages_of}
use Rattle.thread_cluster.specs.Refusals.{IsFullSomewhere}
use Rattle.thread_cluster.proofs.Growing.{sees_self, begun_here, begun_after, turns_more}
use Rattle.thread_cluster.proofs.Posts.{all_heard_more, posts_begin, takes_begin}
use Rattle.thread_clients.specs.Sessions.{Session, Meaning}
use Rattle.thread_clients.specs.Turns.{TakesOn, HasHeard, WasFull, IsHeardOrFull}

module _ {M I F O R X : Type 0} (taken : ℕ → I → List X) (posted : ℕ → O → List X) (ids : ℕ → Option ℕ) where
  -- what was heard stays heard, also of what was known before
  still_heard : (p q : ℕ) (a b c d : ClientParts M I F O R) → KnowsMore a.seen.known b.seen.known → KnowsMore c.seen.known d.seen.known → IsHeard taken posted ids p q b c → IsHeard taken posted ids p q a d
  still_heard p q a b c d ab cd h =
      record { all = all_heard_more (posts posted (ids q) (at b.seen.known p)) (posts posted (ids q) (at a.seen.known p)) (takes taken (ids p) (at c.seen.known q)) (takes taken (ids p) (at d.seen.known q)) (posts_begin posted taken (ids q) (at a.seen.known p) (at b.seen.known p) (ab.begins p)) (takes_begin posted taken (ids p) (at c.seen.known q) (at d.seen.known q) (cd.begins q)) h.all }

  -- a turn, seen from an earlier to a later session
  turned_wider : (n : ℕ) (a b c d : ClientParts M I F O R) → (first : HasBegun taken ids a b) → HasTurnedAll taken posted ids n b c → (last : HasBegun taken ids c d) → HasTurnedAll taken posted ids (first.n + n + last.n) a d
  turned_wider n a b c d first t last = record {
    turned = turns_more taken ids (first.n + n) last.n a c d (turns_more taken ids first.n n a b c first.turned t.turned) last.turned;
    heard = λ p q i j apart one other. still_heard p q a b c d first.turned.goes_on.knows last.turned.goes_on.knows (t.heard p q i j apart one other);
  }

module _ {T K Kind Delta : Type 0} {data_of : Data T Kind Op Delta} {keeping : Keeping K} (ids : ℕ → Option ℕ) where
  pub takes_self : (a : Session data_of keeping) → TakesOn ids a a
  takes_self a = begun_here messages_of ids a a (sees_self a)

  pub takes_seen : (a b : Session data_of keeping) → Sees a b → TakesOn ids a b
  takes_seen a b sees = begun_here messages_of ids a b sees

  pub takes_trans : (a b c : Session data_of keeping) → TakesOn ids a b → TakesOn ids b c → TakesOn ids a c
  takes_trans a b c first last = begun_after messages_of ids first.n a b c first.turned last

  pub takes_on : (a b : Session data_of keeping) → TakesOn ids a b → GoesOn a b
  takes_on a b takes = takes.turned.goes_on

  pub heard_wider : (a b c d : Session data_of keeping) → TakesOn ids a b → HasHeard ids b c → TakesOn ids c d → HasHeard ids a d
  heard_wider a b c d first heard last = record {
    n = first.n + heard.n + last.n;
    turned = turned_wider messages_of (λ id (output : Output T Kind Op Delta data_of). messages_to id output.posts) ids heard.n a b c d first heard.turned last;
  }

  pub heard_takes : (a b : Session data_of keeping) → HasHeard ids a b → TakesOn ids a b
  heard_takes a b heard = record { n = heard.n; turned = heard.turned.turned }

module _ {T K Kind Delta : Type 0} {data_of : Data T Kind Op Delta} {keeping : Keeping K} (meaning : Meaning data_of keeping) (ids : ℕ → Option ℕ) where
  pub full_wider : (a b c d : Session data_of keeping) → TakesOn ids a b → WasFull meaning ids b c → TakesOn ids c d → WasFull meaning ids a d
  full_wider a b c d first was last = record {
    between = was.between;
    before = takes_trans ids a b was.between first was.before;
    full = was.full;
    after = takes_trans ids was.between c d was.after last;
  }

  pub heard_or_full : (a b c : Session data_of keeping) → IsHeardOrFull meaning ids a b → TakesOn ids b c → IsHeardOrFull meaning ids a c
  heard_or_full a b c (inl heard) last = inl (heard_wider ids a a b c (takes_self ids a) heard last)
  heard_or_full a b c (inr full) last = inr (full_wider a a b c (takes_self ids a) full last)

  pub full_here : (a b : Session data_of keeping) → TakesOn ids a b → IsFullSomewhere meaning ids b → WasFull meaning ids a b
  full_here a b takes full = record { between = b; before = takes; full = full; after = takes_self ids b }
