-- Questions of scripts: what they give a member in the program, and in the model.
--     asked_some, asked_none        the input of a question stands for the model's, and there is one where the model has one
--     asks_so        what a script does where it asks, by the views of the program
use Rattle.std.proofs.Common.{◌≡◌, ℕ, List, refl, ap, ◌∙◌, Option, Some, None}
use Rattle.std.specs.Prelude.{option_map, slice_get}
use Rattle.model_history.specs.Texts.{Text}
use Rattle.model_history.specs.History.{History}
use Rattle.model_kinds.specs.declared.operation.Op.{Op}
use Rattle.model_kinds.specs.declared.shown.Shown.{Shown}
use Rattle.model_members.specs.Node as nodes
use Rattle.model_members.specs.Script as script
use Rattle.model_members.specs.Script.{Playing, asked, asked_by}
use Rattle.model_members.specs.View.{View}
use Rattle.data_lattice.specs.declared.replica.Replica.{Ghosts}
use Rattle.data_lattice.specs.declared.spelled.SpelledData.{Ghosts as Spelling}
use Rattle.member_keeper.specs.declared.keeper.Keeper.{Ghosts as Keeping}
use Rattle.member_node.specs.declared.input.Input.{Input}
use Rattle.member_node.specs.declared.input.Input.TheVariants as input
use Rattle.member_node.specs.declared.key.KeyState.{KeyState}
use Rattle.member_node.specs.Inputs.{StandsForInput}
use Rattle.member_node.specs.Steps.{replication}
use Rattle.script_reading.specs.Meant.{ask_of}
use Rattle.script_reading.specs.declared.ask.Ask.{Ask}
use Rattle.script_reading.specs.declared.ask.Ask.TheVariants.{Update, Get, Flush, Gossip, Tick, Install}
use Rattle.world_members.specs.declared.world.World.{World}
use Rattle.world_members.specs.Asking.{input_of}
use Rattle.world_members.specs.Ways.{Means}
use Rattle.world_places.proofs.Lists.{IsPair, both, neither, pair_both, pair_some, pair_none}
use Rattle.world_members.proofs.Onward.{way_logs}

module _ {T Kind Delta : Type 0} {ghosts : Ghosts T Kind Op Delta} where
  -- in all logs, and for all keys of a member
  abbrev pub StandsAlways : Input T Kind Op Delta ghosts → nodes.Input Op → Type 0
  StandsAlways given sent = (kinds : Text → Kind) (logs : Text → History Op) (keys : List (KeyState T Kind Op Delta)) → StandsForInput kinds logs keys given sent

  asked_alike : (views : List View) (ask : Ask) → IsPair StandsAlways (input_of views ask) (script.input_of views (ask_of ask))
  asked_alike views (Update key op level) = both (λ kinds logs keys. refl)
  asked_alike views (Get key level) = both (λ kinds logs keys. refl)
  asked_alike views Flush = both (λ kinds logs keys. refl)
  asked_alike views (Gossip to) = both (λ kinds logs keys. refl)
  asked_alike views Tick = both (λ kinds logs keys. refl)
  asked_alike views (Install number) = by_view (slice_get views number)
    where
      by_view : (o : Option View) → IsPair StandsAlways (option_map input.Install o) (option_map nodes.Input.Install o)
      by_view None = neither
      by_view (Some view) = both (λ kinds logs keys. refl)

  module _ (views : List View) (ask : Ask) where
    pub asked_some : (given : Input T Kind Op Delta ghosts) → input_of views ask ≡ Some given → (sent : nodes.Input Op) × (script.input_of views (ask_of ask) ≡ Some sent) × StandsAlways given sent
    asked_some given is =
        let alike = asked_alike views ask in
        let there = pair_some StandsAlways (input_of views ask) (script.input_of views (ask_of ask)) given alike is in
        (there.0, there.1, pair_both StandsAlways (input_of views ask) (script.input_of views (ask_of ask)) given there.0 alike is there.1)

    pub asked_none : input_of {ghosts = ghosts} views ask ≡ None → script.input_of views (ask_of ask) ≡ None
    asked_none is = pair_none StandsAlways (input_of views ask) (script.input_of views (ask_of ask)) (asked_alike views ask) is

module _ {T K Kind Delta : Type 0} {ghosts : Ghosts T Kind Op Delta} {keeping : Keeping K} (spelling : Spelling T Kind Op Delta) (kinds : Text → Kind) (members : ℕ) (decls : List (nodes.KeyDecl Kind)) (p : Playing Kind Op Shown) (old : World T K Kind Op Delta ghosts keeping) (m : Means spelling kinds members decls p old) where
  pub asks_so : (i : ℕ) (ask : Ask) (o : Option (nodes.Input Op)) → script.input_of old.views (ask_of ask) ≡ o → asked (replication ghosts spelling) p i (ask_of ask) ≡ asked_by (replication ghosts spelling) p i (ask_of ask) o
  asks_so i ask o is =
      let logged = way_logs (replication ghosts spelling) members decls p m.run in
      ap (asked_by (replication ghosts spelling) p i (ask_of ask)) (ap (λ (views : List View). script.input_of views (ask_of ask)) (m.stands logged.0 logged.1).views ∙ is)
