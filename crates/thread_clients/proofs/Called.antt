-- What the call of a command answers.
use Rattle.std.proofs.Common.{◌≡◌, ◌≢◌, ℕ, List, [], Option, Some, None, slice_get, refl, ap, ◌∙◌, subst}
use Rattle.std.specs.Prelude.{option_map, Result, Err}
use Rattle.model_kinds.specs.declared.operation.Op.{Op}
use Rattle.data_lattice.specs.declared.replica.Replica.{Ghosts as Data}
use Rattle.member_keeper.specs.declared.keeper.Keeper.{Ghosts as Keeping}
use Rattle.member_views.specs.Views.{View}
use Rattle.member_node.specs.declared.input.Input.{Input}
use Rattle.member_node.specs.declared.input.Input.TheVariants as input
use Rattle.world_members.specs.Asking.{input_of}
use Rattle.thread_cluster.specs.Messages.{messages_of}
use Rattle.thread_cluster.specs.Knowing.{IsReceipt}
use Rattle.thread_cluster.specs.Refusals.{IsCall, IsInstalled, IsInstall}
use Rattle.thread_cluster.specs.declared.error.CallError.{CallError}
use Rattle.thread_cluster.specs.declared.error.CallError.TheVariants as call
use Rattle.thread_cluster.proofs.Lists.{if_ok}
use Rattle.script_reading.specs.declared.ask.Ask.{Ask}
use Rattle.script_reading.specs.declared.ask.Ask.TheVariants as ask
use Rattle.script_reading.specs.declared.clients.Command.{Command}
use Rattle.thread_clients.specs.Sessions.{Session, Receipted, Meaning}
use Rattle.thread_clients.specs.Calls.{IsMade, HasNoRoom, IsCalled}

-- a question takes no message
pub takes_none : {T Kind Delta : Type 0} {data_of : Data T Kind Op Delta} (question : Ask) (given : Input T Kind Op Delta data_of) → ((views : List View) → input_of views question ≡ Some given) → (other : ℕ) → messages_of other given ≡ []
takes_none (ask.Update key op level) given is other = subst (λ (i : Input _ _ _ _ _). messages_of other i ≡ []) (let e : input.Update key op level ≡ given = cc (is []) in e) refl
takes_none (ask.Get key level) given is other = subst (λ (i : Input _ _ _ _ _). messages_of other i ≡ []) (let e : input.Get key level ≡ given = cc (is []) in e) refl
takes_none ask.Flush given is other = subst (λ (i : Input _ _ _ _ _). messages_of other i ≡ []) (let e : input.Flush ≡ given = cc (is []) in e) refl
takes_none (ask.Gossip to) given is other = subst (λ (i : Input _ _ _ _ _). messages_of other i ≡ []) (let e : input.GossipTo to ≡ given = cc (is []) in e) refl
takes_none ask.Tick given is other = subst (λ (i : Input _ _ _ _ _). messages_of other i ≡ []) (let e : input.PruneTick ≡ given = cc (is []) in e) refl
takes_none (ask.Install view) given is other = absurd (cc (is []))

module _ {T K Kind Delta : Type 0} {data_of : Data T Kind Op Delta} {keeping : Keeping K} (meaning : Meaning data_of keeping) (ids : ℕ → Option ℕ) (views : List View) (old new : Session data_of keeping) (result : Result (Receipted data_of keeping) CallError) (command : Command) where
  -- a call that installs nothing
  pub called_by : (given : Input T Kind Op Delta data_of) → input_of views command.ask ≡ Some given → IsCall meaning ids command.at given old new result → result ≢ Err call.NoSuchView → IsCalled meaning ids views command old new result
  called_by given is c viewed = record {
    ok = if_ok result (IsReceipt meaning ids command.at given old new) (IsMade meaning ids views command old new) (λ receipt made. record { given = given; is_given = is; called = made }) c.ok;
    err = c.err;
    gone = λ e. c.gone.0 e;
    no_view = λ e. absurd (viewed e);
    full = λ e. record { given = given; is_given = is; full = c.full e };
  }

  module _ (number : ℕ) (is : command.ask ≡ ask.Install number) (c : IsInstall meaning ids views command.at number old new result) where
    viewed : (seen : Option View) → slice_get views number ≡ seen → input_of {ghosts = data_of} views command.ask ≡ option_map input.Install seen
    viewed seen listed = ap (input_of views) is ∙ ap (option_map input.Install) listed

    -- a full history is answered only where there is the view
    room_for : result ≡ Err call.HistoryFull → (seen : Option View) → slice_get views number ≡ seen → HasNoRoom meaning ids views command old new
    room_for e None none =
        let full = c.full e in
        let lacking = c.no_view.1 ((λ n. n.nowhere full.place full.here), none) in absurd cc
    room_for e (Some view) listed = record { given = input.Install view; is_given = viewed (Some view) listed; full = c.full e }

    pub installed_by : IsCalled meaning ids views command old new result
    installed_by = record {
      ok = if_ok result (IsInstalled meaning ids views command.at number old new) (IsMade meaning ids views command old new)
          (λ receipt made. record { given = input.Install made.view; is_given = viewed (Some made.view) made.listed; called = made.receipt_is }) c.ok;
      err = c.err;
      gone = λ e. c.gone.0 e;
      no_view = λ e. let found = c.no_view.0 e in record { runs = found.0; lacks = viewed None found.1 };
      full = λ e. room_for e (slice_get views number) refl;
    }
