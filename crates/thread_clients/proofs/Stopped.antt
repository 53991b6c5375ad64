-- What a client did that was stopped.
use Rattle.std.proofs.Common.{◌≡◌, ℕ, zero, suc, ◌+◌, ◌-◌, ◌<◌, get_or, List, [], ◌∷◌, ◌++◌, length, take, drop, Option, Some, slice_get, refl, sym, ap, ◌∙◌, subst, append_assoc, append-nil, arith}
use Rattle.std.specs.Prelude.{replicate, ◌⊎◌}
use Rattle.std.proofs.lemmas.Option.{slice_get-get_or}
use Rattle.model_kinds.specs.declared.operation.Op.{Op}
use Rattle.data_lattice.specs.declared.replica.Replica.{Ghosts as Data}
use Rattle.member_keeper.specs.declared.keeper.Keeper.{Ghosts as Keeping}
use Rattle.thread_cell.specs.Stamps.{IsTimed}
use Rattle.member_views.specs.Views.{View}
use Rattle.member_node.specs.declared.reply.Reply.{Reply}
use Rattle.member_node.specs.declared.reply.Reply.TheVariants as reply
use Rattle.world_members.specs.declared.client_line.ClientLine.{ClientLine}
use Rattle.thread_cluster.proofs.Growing.{sees_self}
use Rattle.script_reading.specs.declared.clients.Command.{Command}
use Rattle.script_reading.specs.declared.clients.Repeated.{Repeated}
use Rattle.thread_clients.specs.Commands.{commands_of}
use Rattle.thread_clients.specs.Sessions.{Session, Meaning}
use Rattle.thread_clients.specs.Turns.{TakesOn, HasHeardAnswers, WasFull}
use Rattle.thread_clients.specs.Paths.{IsPath, GoesFurther}
use Rattle.thread_clients.specs.Paths.IsPath.{nothing}
use Rattle.thread_clients.specs.Stopping.{IsCutOff, IsLeftOpen, IsLeftOff, HasBegunFirst, WasStopped, StopsWithin, AreStopped}
use Rattle.thread_clients.specs.Stopping.IsCutOff.{uncalled, gave_up}
use Rattle.thread_clients.specs.Stopping.IsLeftOpen.{taking, closing}
use Rattle.thread_clients.specs.Stopping.IsBegun.{unmade}
use Rattle.thread_clients.proofs.Turned.{takes_self, takes_seen, takes_trans}

module _ {T K Kind Delta : Type 0} {data_of : Data T Kind Op Delta} {keeping : Keeping K} (meaning : Meaning data_of keeping) (ids : ℕ → Option ℕ) (id : ℕ) where
  -- after the turns, and what came of the timeout
  pub left_open : (op : ℕ) (old before new : Session data_of keeping) → TakesOn ids old before → HasHeardAnswers meaning ids id op old before ⊎ WasFull meaning ids old before → IsTimed before.seen.known before.seen.stamp
      → IsCutOff meaning ids id op before new → IsLeftOpen meaning ids id op old new
  left_open op old before new takes waited timed (uncalled sees) = taking (takes_trans ids old before new takes (takes_seen ids before new sees))
  left_open op old before new takes waited timed (gave_up after receipt called sees) = closing (record {
    before = before;
    takes = takes;
    may = record { timed = timed; waited = waited };
    after = after;
    receipt = receipt;
    called = called;
    sees = sees;
  })

  pub left_pending : (told : Reply) (op : ℕ) (old new : Session data_of keeping) → told ≡ reply.Pending op → IsLeftOpen meaning ids id op old new → IsLeftOff meaning ids id told old new
  left_pending told op old new is left = subst (λ (r : Reply). IsLeftOff meaning ids id r old new) (sym is) left

  pub left_taking : (told : Reply) (old new : Session data_of keeping) → TakesOn ids old new → IsLeftOff meaning ids id told old new
  left_taking (reply.Pending op) old new takes = taking takes
  left_taking told old new takes = takes

  -- nothing was done after the entry
  pub left_here : (told : Reply) (s : Session data_of keeping) → IsLeftOff meaning ids id told s s
  left_here told s = left_taking told s s (takes_self ids s)

-- LISTS

replicate_split : {A : Type 0} (n m t : ℕ) (x : A) → t ≡ n + m → replicate t x ≡ replicate n x ++ replicate m x
replicate_split zero m t x e = let same : t ≡ m = omega arith in ap (λ k. replicate k x) same
replicate_split (suc n) m zero x e = absurd (omega arith)
replicate_split (suc n) m (suc t) x e = ap (λ ys. x ∷ ys) (replicate_split n m t x (omega arith))

commands_split : (xs : List Repeated) (k : ℕ) (x : Repeated) → slice_get xs k ≡ Some x → commands_of xs ≡ commands_of (take k xs) ++ (replicate x.times x.command ++ commands_of (drop (suc k) xs))
commands_split [] k x e = absurd cc
commands_split (y ∷ xs) zero x e = let same : y ≡ x = cc in ap (λ (w : Repeated). replicate w.times w.command ++ commands_of xs) same
commands_split (y ∷ xs) (suc k) x e =
    ap (λ (cs : List Command). replicate y.times y.command ++ cs) (commands_split xs k x e)
    ∙ sym (append_assoc (replicate y.times y.command) (commands_of (take k xs)) (replicate x.times x.command ++ commands_of (drop (suc k) xs)))

-- COMMANDS

module _ {T K Kind Delta : Type 0} {data_of : Data T Kind Op Delta} {keeping : Keeping K} (meaning : Meaning data_of keeping) (ids : ℕ → Option ℕ) (views : List View) where
  -- of the first of any commands, nothing was done
  pub begun_none : (commands : List Command) (s : Session data_of keeping) → HasBegunFirst meaning ids views commands s s
  begun_none [] s = sees_self s
  begun_none (command ∷ rest) s = unmade (sees_self s)

  module _ (client : ℕ) where
    -- a client that did nothing, and one that made all
    pub stopped_here : (commands : List Command) (s : Session data_of keeping) → WasStopped meaning ids views client commands s s
    stopped_here commands s = record { done = []; rest = commands; all = refl; lines = []; last = s; path = nothing; part = begun_none commands s }

    pub stopped_last : (commands : List Command) (lines : List ClientLine) (old new : Session data_of keeping) → IsPath meaning ids views client old commands lines new → WasStopped meaning ids views client commands old new
    stopped_last commands lines old new path = record { done = commands; rest = []; all = sym (append-nil commands); lines = lines; last = new; path = path; part = sees_self new }

    -- so many of equal commands were made, and a part of the next
    pub stops_after : (n m times : ℕ) (command : Command) (a b c : Session data_of keeping) (before lines : List ClientLine) → times ≡ n + m → GoesFurther meaning ids views client (replicate n command) a b before lines
        → ((later : List Command) → HasBegunFirst meaning ids views (replicate m command ++ later) b c) → StopsWithin meaning ids views client (replicate times command) a c before
    stops_after n m times command a b c before lines count goes begun = record {
      stops = λ first earlier later path. record {
        done = earlier ++ replicate n command;
        rest = replicate m command ++ later;
        all =
            ap (λ (cs : List Command). earlier ++ (cs ++ later)) (replicate_split n m times command count)
            ∙ ap (λ (cs : List Command). earlier ++ cs) (append_assoc (replicate n command) (replicate m command) later)
            ∙ sym (append_assoc earlier (replicate n command) (replicate m command ++ later));
        lines = lines;
        last = b;
        path = goes.further first earlier path;
        part = begun later;
      };
    }

    -- at the commands of a place
    pub stopped_at : (xs ys : List Repeated) (k : ℕ) (x : Repeated) (first a b : Session data_of keeping) (before : List ClientLine) → ys ≡ xs → k < length ys → x ≡ get_or ys k x
        → IsPath meaning ids views client first (commands_of (take k xs)) before a → StopsWithin meaning ids views client (replicate x.times x.command) a b before → WasStopped meaning ids views client (commands_of xs) first b
    stopped_at xs ys k x first a b before same inside is path stops =
        let here : slice_get ys k ≡ Some x = slice_get-get_or ys k x inside ∙ ap Some (sym is) in
        let there : slice_get xs k ≡ Some x = subst (λ (zs : List Repeated). slice_get zs k ≡ Some x) same here in
        subst (λ (cs : List Command). WasStopped meaning ids views client cs first b) (sym (commands_split xs k x there)) (stops.stops first (commands_of (take k xs)) (commands_of (drop (suc k) xs)) path)

  -- sessions to which nothing happened
  pub all_stopped_here : (clients : List (List Repeated)) (sessions : List (Session data_of keeping)) → AreStopped meaning ids views clients sessions sessions
  all_stopped_here clients sessions = record {
    each = λ k commands one other given is there.
        let same : one ≡ other = cc in subst (λ (s : Session data_of keeping). WasStopped meaning ids views k (commands_of commands) one s) same (stopped_here k (commands_of commands) one);
  }
