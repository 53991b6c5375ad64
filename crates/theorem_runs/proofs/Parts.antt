-- A part of a message brings entries and groups of the whole. A message is a part of itself, and the only one that belongs to an operation.
use Rattle.std.proofs.Common.{◌≡◌, List, [], ◌∷◌, refl, sym, ap, subst, ◌∙◌, Bool, true, false}
use Rattle.std.specs.Prelude.{if◌then◌else◌, filter, ⊤}
use Rattle.std.specs.List.{AllByRecursion}
use Rattle.model_history.specs.Texts.{Text}
use Rattle.model_members.specs.Entry.{Entry, Group}
use Rattle.model_members.specs.Message.{Keyed, Message, entries_in, groups_in, part_of}
use Rattle.model_members.specs.Message.Message.{Deltas, Nack, Status, Gossip, Write, WriteAck, WriteNack, Read, ReadAnswer}
use Rattle.theorem_runs.proofs.Keeping.{if_holds}
use Rattle.theorem_runs.proofs.Stepping.{Brings}
use Rattle.theorem_runs.proofs.Sending.{all_filtered}

all_pass : {X : Type 0} (xs : List X) → filter (λ x. true) xs ≡ xs
all_pass [] = refl
all_pass (x ∷ xs) = ap (λ ys. x ∷ ys) (all_pass xs)

module _ {Op : Type 0} where
  -- WHAT A PART BRINGS

  entries_of_part : (P : Keyed (Entry Op) → Type 0) (knows : Text → Bool) (whole : Message Op) → AllByRecursion P (entries_in whole) → AllByRecursion P (entries_in (part_of knows whole))
  entries_of_part P knows (Deltas groups entries) all = all_filtered P (λ e. knows e.key) entries all
  entries_of_part P knows (Nack keys) all = tt
  entries_of_part P knows (Status digests) all = tt
  entries_of_part P knows (Gossip entries wants) all = all_filtered P (λ e. knows e.key) entries all
  entries_of_part P knows (Write op key entry) all = if_holds (λ (m : Message Op). AllByRecursion P (entries_in m)) (knows key) (Write op key entry) (Deltas [] []) all tt
  entries_of_part P knows (WriteAck op) all = tt
  entries_of_part P knows (WriteNack op) all = tt
  entries_of_part P knows (Read op key) all = tt
  entries_of_part P knows (ReadAnswer op key entry) all = if_holds (λ (m : Message Op). AllByRecursion P (entries_in m)) (knows key) (ReadAnswer op key entry) (Deltas [] []) all tt

  groups_of_part : (P : Keyed (Group Op) → Type 0) (knows : Text → Bool) (whole : Message Op) → AllByRecursion P (groups_in whole) → AllByRecursion P (groups_in (part_of knows whole))
  groups_of_part P knows (Deltas groups entries) all = all_filtered P (λ g. knows g.key) groups all
  groups_of_part P knows (Nack keys) all = tt
  groups_of_part P knows (Status digests) all = tt
  groups_of_part P knows (Gossip entries wants) all = tt
  groups_of_part P knows (Write op key entry) all = if_holds (λ (m : Message Op). AllByRecursion P (groups_in m)) (knows key) (Write op key entry) (Deltas [] []) tt tt
  groups_of_part P knows (WriteAck op) all = tt
  groups_of_part P knows (WriteNack op) all = tt
  groups_of_part P knows (Read op key) all = tt
  groups_of_part P knows (ReadAnswer op key entry) all = if_holds (λ (m : Message Op). AllByRecursion P (groups_in m)) (knows key) (ReadAnswer op key entry) (Deltas [] []) tt tt

  pub part_entries : (P : Keyed (Entry Op) → Type 0) (knows : Text → Bool) (whole message : Message Op) → message ≡ part_of knows whole → AllByRecursion P (entries_in whole) → AllByRecursion P (entries_in message)
  part_entries P knows whole message is all = subst (λ (m : Message Op). AllByRecursion P (entries_in m)) (sym is) (entries_of_part P knows whole all)

  pub part_groups : (P : Keyed (Group Op) → Type 0) (knows : Text → Bool) (whole message : Message Op) → message ≡ part_of knows whole → AllByRecursion P (groups_in whole) → AllByRecursion P (groups_in message)
  part_groups P knows whole message is all = subst (λ (m : Message Op). AllByRecursion P (groups_in m)) (sym is) (groups_of_part P knows whole all)

  pub brings_part : (M : Text → Entry Op → Type 0) (G : Text → Group Op → Type 0) (knows : Text → Bool) (whole message : Message Op) → message ≡ part_of knows whole → Brings M G whole → Brings M G message
  brings_part M G knows whole message is b =
      record {
        entries = part_entries (λ (e : Keyed (Entry Op)). M e.key e.item) knows whole message is b.entries;
        groups = part_groups (λ (g : Keyed (Group Op)). G g.key g.item) knows whole message is b.groups;
      }

  -- WHERE THE PART IS THE WHOLE

  -- who knows all keys has the whole message
  pub all_known : (message : Message Op) → part_of (λ key. true) message ≡ message
  all_known (Deltas groups entries) = ap (λ gs. Deltas gs (filter (λ e. true) entries)) (all_pass groups) ∙ ap (Deltas groups) (all_pass entries)
  all_known (Nack keys) = refl
  all_known (Status digests) = ap Status (all_pass digests)
  all_known (Gossip entries wants) = ap (λ es. Gossip es wants) (all_pass entries)
  all_known (Write op key entry) = refl
  all_known (WriteAck op) = refl
  all_known (WriteNack op) = refl
  all_known (Read op key) = refl
  all_known (ReadAnswer op key entry) = refl

  -- the message isn't of several keys
  abbrev pub IsUndivided : Message Op → Type 0
  IsUndivided (Deltas groups entries) = ⊥
  IsUndivided (Status digests) = ⊥
  IsUndivided (Gossip entries wants) = ⊥
  IsUndivided message = ⊤

  -- of one key: all, or nothing
  one_key : (known : Bool) (whole message : Message Op) → IsUndivided message → message ≡ (if known then whole else Deltas [] []) → whole ≡ message
  one_key true whole message undivided is = sym is
  one_key false whole message undivided is = absurd (subst IsUndivided is undivided)

  pub is_whole : (knows : Text → Bool) (whole message : Message Op) → IsUndivided message → message ≡ part_of knows whole → whole ≡ message
  is_whole knows (Deltas groups entries) message undivided is = absurd (subst IsUndivided is undivided)
  is_whole knows (Nack keys) message undivided is = sym is
  is_whole knows (Status digests) message undivided is = absurd (subst IsUndivided is undivided)
  is_whole knows (Gossip entries wants) message undivided is = absurd (subst IsUndivided is undivided)
  is_whole knows (Write op key entry) message undivided is = one_key (knows key) (Write op key entry) message undivided is
  is_whole knows (WriteAck op) message undivided is = sym is
  is_whole knows (WriteNack op) message undivided is = sym is
  is_whole knows (Read op key) message undivided is = sym is
  is_whole knows (ReadAnswer op key entry) message undivided is = one_key (knows key) (ReadAnswer op key entry) message undivided is
