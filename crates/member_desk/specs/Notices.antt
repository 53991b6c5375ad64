-- What a flush tells the subscribed clients, over what is found at each key: a value, or that there is none.
--     notices_of        the notices, by keys and then clients
--     told_after        the subscriptions after them
use Rattle.std.specs.Prelude.{List, [], Bool, true, not, ◌||◌, Option, Some, None, map, filter}
use Rattle.std.specs.List.{flat_map}
use Rattle.model_history.specs.Texts.{Text}
use Rattle.model_kinds.specs.declared.shown.Shown.{Shown}
use Rattle.member_desk.specs.declared.client.Client.{Client}
use Rattle.member_desk.specs.declared.followed.Followed.{Followed}
use Rattle.member_desk.specs.declared.notice.Notice.{Notice}
use Rattle.member_desk.specs.Values.{same_shown}

abbrev pub told_client : Client → Client
told_client client = record client { told = true }

abbrev pub notice_of : Text → Shown → Client → Notice
notice_of key shown client = record { client = client.number; key = key; shown = shown }

-- one notice for each client that is to be told: of all, or of those that were told nothing
abbrev pub tellings : Text → Shown → Bool → List Client → List Notice
tellings key shown all clients =
    map (notice_of key shown) (filter (λ client. all || not client.told) clients)

-- what a value shows
module _ {V : Type 0} (shows : Text → V → Shown) where
  -- no value was told, or the told one shows something else
  abbrev pub is_news : Text → Option V → V → Bool
  is_news key None now = true
  is_news key (Some told) now = not (same_shown (shows key told) (shows key now))

  abbrev pub notices_at : Followed V → Option V → List Notice
  notices_at followed None = []
  notices_at followed (Some now) = tellings followed.key (shows followed.key now) (is_news followed.key followed.told now) followed.clients

  abbrev pub notices_of : (Text → Option V) → List (Followed V) → List Notice
  notices_of found desk = flat_map (λ followed. notices_at followed (found followed.key)) desk

module _ {V : Type 0} where
  abbrev pub told_at_key : Followed V → Option V → Followed V
  told_at_key followed None = followed
  told_at_key followed (Some now) = record followed { told = Some now; clients = map told_client followed.clients }

  abbrev pub told_after : (Text → Option V) → List (Followed V) → List (Followed V)
  told_after found desk = map (λ followed. told_at_key followed (found followed.key)) desk
