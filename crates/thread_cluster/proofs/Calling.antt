-- Calls of a cluster, from what its locks answer.
use Rattle.std.proofs.Common.{◌≡◌, ℕ, Bool, true, false, List, Option, Some, None, slice_get, refl, sym, subst, inl, inr}
use Rattle.std.specs.Prelude.{Result, Ok, Err, ◌↔◌}
use Rattle.data_lattice.specs.declared.replica.Replica.{Ghosts as Data}
use Rattle.member_keeper.specs.declared.keeper.Keeper.{Ghosts as Keeping}
use Rattle.thread_machine.specs.declared.machine.Machine.{Ghosts}
use Rattle.thread_cell.specs.declared.cell.CellError.{CellError}
use Rattle.thread_cell.specs.declared.cell.CellError.TheVariants.{CellFull, Refused, Memory}
use Rattle.thread_cell.specs.declared.receipt.Receipt.{Receipt}
use Rattle.thread_cell.specs.Values.{ClientParts}
use Rattle.member_views.specs.Views.{View}
use Rattle.member_node.specs.declared.input.Input.{Input}
use Rattle.member_node.specs.declared.input.Input.TheVariants as input
use Rattle.member_node.specs.declared.node.Node.{Node}
use Rattle.member_node.specs.declared.reply.Output.{Output}
use Rattle.member_node.specs.declared.reply.StepError.{StepError}
use Rattle.member_node.specs.declared.reply.StepError.TheVariants as step
use Rattle.thread_cluster.specs.Knowing.{Sees, IsNowhere, IsReceipt, IsAnswered, IsRefusedAt, IsCause, IsCauseOf}
use Rattle.thread_cluster.specs.Turning.{IsCauseSomewhere}
use Rattle.thread_cluster.specs.Messages.{messages_to, messages_of}
use Rattle.thread_cluster.specs.declared.error.CallError.{CallError}
use Rattle.thread_cluster.specs.declared.error.CallError.TheVariants as call
use Rattle.thread_cluster.specs.Refusals.{stopped, HasMadeAll, IsFullThere, IsFullSomewhere, IsCall, IsInstalled, IsInstall}
use Rattle.thread_cluster.proofs.Lists.{if_ok}

pub is_somewhere : (b : Bool) (P : Type 0) → (b ≡ false ↔ P) → b ≡ true → P → ⊥
is_somewhere b P same has p = absurd (cc (same.1 p, has))

-- a member that made no step is told neither as gone nor as a view that is not there
pub stopped_not_gone : (error : CellError StepError) → stopped error ≡ call.Gone → ⊥
stopped_not_gone CellFull e = absurd cc
stopped_not_gone (Refused step.HistoryFull) e = absurd cc
stopped_not_gone (Refused step.Memory) e = absurd cc
stopped_not_gone Memory e = absurd cc

pub stopped_not_view : (error : CellError StepError) → stopped error ≡ call.NoSuchView → ⊥
stopped_not_view CellFull e = absurd cc
stopped_not_view (Refused step.HistoryFull) e = absurd cc
stopped_not_view (Refused step.Memory) e = absurd cc
stopped_not_view Memory e = absurd cc

module _ {T K Kind Op Delta I F O : Type 0} {data_of : Data T Kind Op Delta} {keeping : Keeping K} (meaning : Ghosts (Node T K Kind Op Delta data_of keeping) I F O StepError)
    (full_steps : (m : Node T K Kind Op Delta data_of keeping) (i : I) → meaning.MayRefuse m i step.HistoryFull → m.steps ≡ m.limit) where
  made_all : (p : ℕ) (input : I) (session : ClientParts (Node T K Kind Op Delta data_of keeping) I F O StepError) → IsRefusedAt meaning p input session step.HistoryFull → HasMadeAll meaning p session
  made_all p input session r = record { start = r.start; starts = r.starts; now = r.now; replays = r.replays; steps = full_steps r.now input r.may }

  full_there : (p : ℕ) (input : I) (session : ClientParts (Node T K Kind Op Delta data_of keeping) I F O StepError) (error : CellError StepError) → IsCause meaning p input session error → stopped error ≡ call.HistoryFull → IsFullThere meaning p session
  full_there p input session CellFull cause e = inl cause
  full_there p input session (Refused step.HistoryFull) cause e = inr (made_all p input session cause)
  full_there p input session (Refused step.Memory) cause e = absurd cc
  full_there p input session Memory cause e = absurd cc

  module _ (ids : ℕ → Option ℕ) (id : ℕ) (input : I) (old new : ClientParts (Node T K Kind Op Delta data_of keeping) I F O StepError) where
    abbrev Answer : Type 0
    Answer = Receipt (Node T K Kind Op Delta data_of keeping) I F O StepError

    pub call_ok : (receipt : Answer) → IsReceipt meaning ids id input old new receipt → IsCall meaning ids id input old new (Ok receipt)
    call_ok receipt answered = record {
      ok = answered;
      err = tt;
      gone = (λ e. absurd cc, λ n. absurd (n.nowhere receipt.place answered.here));
      full = λ e. absurd cc;
    }

    pub call_answered : (p : ℕ) → ids p ≡ Some id → (receipt : Answer) → IsAnswered meaning p input old new receipt → IsCall meaning ids id input old new (Ok receipt)
    call_answered p here receipt answered = call_ok receipt (record {
      here = subst (λ q. ids q ≡ Some id) (sym answered.place) here;
      answered = subst (λ q. IsAnswered meaning q input old new receipt) (sym answered.place) answered;
    })

    pub call_gone : IsNowhere ids id → Sees old new → IsCall meaning ids id input old new (Err call.Gone)
    call_gone nowhere sees = record {
      ok = tt;
      err = sees;
      gone = (λ e. nowhere, λ n. refl);
      full = λ e. absurd cc;
    }

    pub call_stopped : (error : CellError StepError) (told : CallError) → told ≡ stopped error → IsCauseOf meaning ids id input new error → Sees old new → IsCall meaning ids id input old new (Err told)
    call_stopped error told is cause sees = record {
      ok = tt;
      err = sees;
      gone = (λ e. absurd (stopped_not_gone error cc), λ n. absurd (n.nowhere cause.place cause.here));
      full = λ e. record { place = cause.place; here = cause.here; full = full_there cause.place input new error cause.cause cc };
    }

module _ {T K Kind Op Delta F O : Type 0} {data_of : Data T Kind Op Delta} {keeping : Keeping K} (meaning : Ghosts (Node T K Kind Op Delta data_of keeping) (Input T Kind Op Delta data_of) F O StepError)
    (ids : ℕ → Option ℕ) (views : List View) (id number : ℕ) (old new : ClientParts (Node T K Kind Op Delta data_of keeping) (Input T Kind Op Delta data_of) F O StepError) where
  pub install_gone : IsNowhere ids id → Sees old new → IsInstall meaning ids views id number old new (Err call.Gone)
  install_gone nowhere sees = record {
    ok = tt;
    err = sees;
    gone = (λ e. nowhere, λ n. refl);
    no_view = (λ e. absurd cc, λ n. absurd (n.0 nowhere));
    full = λ e. absurd cc;
  }

  pub install_no_view : (IsNowhere ids id → ⊥) → slice_get views number ≡ None → Sees old new → IsInstall meaning ids views id number old new (Err call.NoSuchView)
  install_no_view here none sees = record {
    ok = tt;
    err = sees;
    gone = (λ e. absurd cc, λ n. absurd (here n));
    no_view = (λ e. (here, none), λ n. refl);
    full = λ e. absurd cc;
  }

  pub install_memory : (IsNowhere ids id → ⊥) → (view : View) → slice_get views number ≡ Some view → Sees old new → IsInstall meaning ids views id number old new (Err call.Memory)
  install_memory here view listed sees = record {
    ok = tt;
    err = sees;
    gone = (λ e. absurd cc, λ n. absurd (here n));
    no_view = (λ e. absurd cc, λ n. absurd (cc (n.1, listed)));
    full = λ e. absurd cc;
  }

  pub install_called : (IsNowhere ids id → ⊥) → (view : View) → slice_get views number ≡ Some view → (result : Result (Receipt (Node T K Kind Op Delta data_of keeping) (Input T Kind Op Delta data_of) F O StepError) CallError)
      → IsCall meaning ids id (input.Install view) old new result → (result ≡ Err call.NoSuchView → ⊥) → IsInstall meaning ids views id number old new result
  install_called here view listed result called not_view = record {
    ok = if_ok result (IsReceipt meaning ids id (input.Install view) old new) (IsInstalled meaning ids views id number old new) (λ receipt is. record { view = view; listed = listed; receipt_is = is }) called.ok;
    err = called.err;
    gone = called.gone;
    no_view = (λ e. absurd (not_view e), λ n. absurd (cc (n.1, listed)));
    full = called.full;
  }

module _ {T K Kind Op Delta F : Type 0} {data_of : Data T Kind Op Delta} {keeping : Keeping K} (meaning : Ghosts (Node T K Kind Op Delta data_of keeping) (Input T Kind Op Delta data_of) F (Output T Kind Op Delta data_of) StepError)
    (full_steps : (m : Node T K Kind Op Delta data_of keeping) (i : Input T Kind Op Delta data_of) → meaning.MayRefuse m i step.HistoryFull → m.steps ≡ m.limit) (ids : ℕ → Option ℕ)
    (session : ClientParts (Node T K Kind Op Delta data_of keeping) (Input T Kind Op Delta data_of) F (Output T Kind Op Delta data_of) StepError) where
  pub full_somewhere : (error : CellError StepError) → IsCauseSomewhere meaning messages_of (λ id (output : Output T Kind Op Delta data_of). messages_to id output.posts) ids session error → stopped error ≡ call.HistoryFull → IsFullSomewhere meaning ids session
  full_somewhere CellFull cause e = record { place = cause.place; full = inl cause.full; sender = cause.sender; unheard = cause.unheard }
  full_somewhere (Refused step.HistoryFull) cause e = record { place = cause.place; full = inr (made_all meaning full_steps cause.place cause.input session cause.refused); sender = cause.sender; unheard = cause.unheard }
  full_somewhere (Refused step.Memory) cause e = absurd cc
  full_somewhere Memory cause e = absurd cc
