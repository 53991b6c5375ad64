-- What an honest member would not send.
--     is_own        a group of the sender's own records, which needs those before them
--     PassesFromSender        a group of the sender's records passes that test
--     is_known        an entry that names what the view knows
--     is_accepted        another member of the view sends such groups and entries
use Rattle.std.specs.Prelude.{◌≡◌, ℕ, Bool, true, false, ◌&&◌, not, ◌==◌, Some}
use Rattle.std.specs.List.{list_all}
use Rattle.model_history.specs.History.{History}
use Rattle.model_members.specs.Entry.{Group}
use Rattle.base_vectors.specs.Vectors.{number_at}
use Rattle.data_lattice.specs.declared.replica.Replica.{Ghosts}
use Rattle.data_envelope.specs.Images.{Parts, GroupParts, StandsForGroup}
use Rattle.data_envelope.specs.Words.{parts_of, group_parts}
use Rattle.member_views.specs.Views.{View, is_member}
use Rattle.member_messages.specs.declared.message.Message.{Message}
use Rattle.member_messages.specs.declared.message.Message.TheVariants.{Write, ReadAnswer}
use Rattle.member_messages.specs.Sketches.{groups_of, entries_of}
use Rattle.member_acceptance.specs.Naming.{counts_later, names_later, has_late_mark}

abbrev pub is_own : {Delta : Type 0} → View → ℕ → GroupParts Delta → Bool
is_own view from group = (group.origin == from) && (number_at group.needed group.origin == group.after) && not (counts_later view.given group.needed)

-- a group of the sender's own records of a log, once the view has given whom it needs
abbrev pub PassesFromSender : {Delta Op : Type 0} → (Delta → History Op → ℕ → ℕ → ℕ → Type 0) → View → ℕ → GroupParts Delta → Type 0
PassesFromSender {Op = Op} IsDeltaOf view from parts =
    (log : History Op) (group : Group Op) → StandsForGroup IsDeltaOf parts log group → group.origin ≡ from → counts_later view.given parts.needed ≡ false → is_own view from parts ≡ true

abbrev pub is_known : {T : Type 0} → (T → ℕ → Bool) → View → Parts T → Bool
is_known mentioned view parts = not (names_later mentioned view.given parts) && not (has_late_mark view.number parts.marks)

-- the sender is another member of the view
abbrev pub is_sender : View → ℕ → ℕ → Bool
is_sender view id from = not (from == id) && is_member view from

module _ {T Kind Op Delta : Type 0} {ghosts : Ghosts T Kind Op Delta} (mentioned : T → ℕ → Bool) where
  -- the entry under the number of an operation names what the view knows
  abbrev pub brings_known : View → Message T Kind Op Delta ghosts → Bool
  brings_known view (Write op key envelope) = is_known mentioned view (parts_of envelope)
  brings_known view (ReadAnswer op key (Some envelope)) = is_known mentioned view (parts_of envelope)
  brings_known view _ = true

  abbrev pub is_accepted : View → ℕ → ℕ → Message T Kind Op Delta ghosts → Bool
  is_accepted view id from message =
      is_sender view id from && list_all (λ keyed. is_own view from (group_parts keyed.item)) (groups_of message)
      && list_all (λ keyed. is_known mentioned view (parts_of keyed.item)) (entries_of message) && brings_known view message
