-- What is told, as the histories that it is the meaning of.
--     StandsForDesk        the told values are the meanings of the model's told histories
--     SubscribesAsMeant, UnsubscribesAsMeant        they stay so over the two calls
--     TellsOf        notices are those of the model, over what its member holds
use Rattle.std.specs.Prelude.{◌≡◌, ℕ, List, true, false, if◌then◌else◌, Option, Some, None, find}
use Rattle.std.specs.List.{AllZip}
use Rattle.std.specs.Str.{bytes_eq}
use Rattle.model_history.specs.Texts.{Text}
use Rattle.model_history.specs.History.{History, at, IsPartOf}
use Rattle.model_members.specs.Entry.{Entry, has_records}
use Rattle.model_members.specs.DataType.{DataType, Meaning, meaning}
use Rattle.model_members.specs.DataType.Meaning.{IsDeleted, Shows}
use Rattle.model_members.specs.Node as nodes
use Rattle.model_kinds.specs.declared.shown.Shown.{Shown}
use Rattle.model_kinds.specs.declared.shown.Shown.TheVariants.{Deleted}
use Rattle.base_vectors.specs.Vectors.{number_at}
use Rattle.member_desk.specs.declared.followed.Followed.{Followed}
use Rattle.member_desk.specs.declared.look.Told.{Told}
use Rattle.member_desk.specs.declared.look.Look.{Look}
use Rattle.member_desk.specs.declared.look.Look.TheVariants.{Nothing, Same, Other}
use Rattle.member_desk.specs.Subscriptions.{with_subscription, without_subscription}

-- a meaning as it is shown
abbrev pub shown_as : Meaning Shown → Shown
shown_as IsDeleted = Deleted
shown_as (Shows shown) = shown

-- what a key's history shows
abbrev pub shows_history : {Kind Op : Type 0} → DataType Kind Op Shown → (Text → Kind) → Text → History Op → Shown
shows_history data_type kinds key history = shown_as (meaning data_type (kinds key) history)

module _ {Op : Type 0} where
  -- the history of an entry that has records
  abbrev pub history_of : Entry Op → Option (History Op)
  history_of entry = if has_records entry then Some entry.history else None

  -- what a member holds of a key, where it declares it and has a record of it
  abbrev pub held_at : {Kind : Type 0} → nodes.Node Kind Op Shown → Text → Option (History Op)
  held_at node key = elim (find (λ decl. bytes_eq decl.name key) node.keys) [ None ↦ None | Some decl ↦ history_of (node.entries key) ]

  -- something was told, with as many records of each identity as the history has
  abbrev pub HasCountsOf : Option Told → History Op → Type 0
  HasCountsOf None history = ⊥
  HasCountsOf (Some told) history = (i : ℕ) → number_at told.counts i ≡ at history i

  module _ (shows : History Op → Shown) where
    -- what a look finds at an entry, where this was told: no record, those of the last look, or others
    pub record FindsNothing (entry : Entry Op) : Type 0 where
      pub none : has_records entry ≡ false

    pub record FindsSame (told : Option Told) (entry : Entry Op) : Type 0 where
      pub some : has_records entry ≡ true
      pub counts : HasCountsOf told entry.history

    pub record FindsOther (now : Told) (entry : Entry Op) : Type 0 where
      pub some : has_records entry ≡ true
      pub shown : now.shown ≡ shows entry.history
      pub counts : HasCountsOf (Some now) entry.history

    abbrev pub LooksAt : Option Told → Entry Op → Look → Type 0
    LooksAt told entry Nothing = FindsNothing entry
    LooksAt told entry Same = FindsSame told entry
    LooksAt told entry (Other now) = FindsOther now entry

    -- what was told is what a part of the log shows
    pub record IsTold (log : History Op) (told : Told) (history : History Op) : Type 0 where
      pub shown : told.shown ≡ shows history
      pub counts : (i : ℕ) → number_at told.counts i ≡ at history i
      pub part : IsPartOf history log

    abbrev pub StandsForTold : History Op → Option Told → Option (History Op) → Type 0
    StandsForTold log None None = Unit {0}
    StandsForTold log None (Some history) = ⊥
    StandsForTold log (Some told) None = ⊥
    StandsForTold log (Some told) (Some history) = IsTold log told history

module _ {Kind Op : Type 0} (data_type : DataType Kind Op Shown) (kinds : Text → Kind) (logs : Text → History Op) where
  pub record StandsForFollowed (code : Followed Told) (model : Followed (History Op)) : Type 0 where
    pub key : model.key ≡ code.key
    pub clients : model.clients ≡ code.clients
    pub told : StandsForTold (shows_history data_type kinds code.key) (logs code.key) code.told model.told

  abbrev pub StandsForDesk : List (Followed Told) → List (Followed (History Op)) → Type 0
  StandsForDesk code model = AllZip StandsForFollowed code model

  -- a desk that stands for one of the model does so after a client subscribed
  abbrev pub SubscribesAsMeant : Type 0
  SubscribesAsMeant =
      (desk : List (Followed Told)) (model : List (Followed (History Op))) (key : Text) (client : ℕ) → StandsForDesk desk model → StandsForDesk (with_subscription desk key client) (with_subscription model key client)

  -- and after a subscription ended
  abbrev pub UnsubscribesAsMeant : Type 0
  UnsubscribesAsMeant =
      (desk : List (Followed Told)) (model : List (Followed (History Op))) (key : Text) (client : ℕ) → StandsForDesk desk model → StandsForDesk (without_subscription desk key client) (without_subscription model key client)
