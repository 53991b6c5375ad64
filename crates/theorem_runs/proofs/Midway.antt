-- In the midst of a step: each history on the way is a part of what it is at the end, so it is exactly pruned where that is.
use Rattle.std.proofs.Common.{ℕ, List, [], ◌∷◌, refl, Option, Some, None}
use Rattle.std.specs.Prelude.{fold, nat_lt, ◌==◌, ◌||◌, ⊤}
use Rattle.model_history.specs.Texts.{Text}
use Rattle.model_history.specs.History.{at, is_pruned, IsPartOf}
use Rattle.model_history.proofs.PartLaws.{part_trans, part_with_record}
use Rattle.model_meanings.specs.Refusal.{Shares}
use Rattle.model_members.specs.View.{identities_of}
use Rattle.model_members.specs.Entry.{Entry, Group, Mark, Tick, unseen}
use Rattle.model_members.specs.DataType.{Replication}
use Rattle.model_members.specs.Message.{Keyed}
use Rattle.model_members.specs.Node.{KeyState, Node}
use Rattle.model_members.specs.Step.{Ticking, after_entries, after_groups, tick_identity}
use Rattle.model_members.proofs.Cases.{performed_unless, ticked_seen, ticked_mark}
use Rattle.theorem_runs.proofs.Keeping.{AnyTick, keeps_entries, keeps_groups, if_holds}
use Rattle.theorem_runs.proofs.Stepping.{all_trivial}
use Rattle.theorem_runs.proofs.Growth.{IsGrown, grown_kept, part_same}

-- A MESSAGE

module _ {Kind Op Shown : Type 0} (D : Replication Kind Op Shown) (node : Node Kind Op Shown) (key : Text) where
  abbrev AnyEntry : Text → Entry Op → Type 0
  AnyEntry k e = ⊤

  abbrev AnyGroup : Text → Group Op → Type 0
  AnyGroup k g = ⊤

  -- after some entries of a message
  pub entries_grow : (es : List (Keyed (Entry Op))) → IsPartOf (node.entries key).history ((after_entries node es).entries key).history
  entries_grow es =
      ((keeps_entries D (IsGrown node.entries) AnyEntry AnyGroup AnyTick node.identity node.view (grown_kept node.entries node.identity node.view) node.keys node es
      (record { same_identity = refl; same_view = refl; same_keys = refl; entries = λ k. record { part = part_same (node.entries k).history } }) (all_trivial es)).entries key).part

  -- after some groups of a message
  pub groups_grow : (gs : List (Keyed (Group Op))) → IsPartOf (node.entries key).history ((after_groups node gs).node.entries key).history
  groups_grow gs =
      ((keeps_groups D (IsGrown node.entries) AnyEntry AnyGroup AnyTick node.identity node.view (grown_kept node.entries node.identity node.view) node.keys node gs
      (record { same_identity = refl; same_view = refl; same_keys = refl; entries = λ k. record { part = part_same (node.entries k).history } }) (all_trivial gs)).entries key).part

-- A PRUNE TICK

module _ {Op : Type 0} (shares : Option Shares) (i view : ℕ) (members : List ℕ) (entry : Entry Op) (r : ℕ) where
  abbrev Grown : Tick Op → Type 0
  Grown tick = IsPartOf entry.history tick.entry.history

  unless_grows : (o : Option Shares) → Grown (performed_unless shares i view members entry r o)
  unless_grows None = part_with_record entry.history i _
  unless_grows (Some blocked) = part_same entry.history

  seen_grows : (o : Option ℕ) → Grown (ticked_seen shares i view members entry r o)
  seen_grows None = unless_grows shares
  seen_grows (Some j) = part_same entry.history

  mark_grows : (o : Option Mark) → Grown (ticked_mark shares i view members entry r o)
  mark_grows None = part_same entry.history
  mark_grows (Some mark) =
      if_holds Grown (nat_lt mark.view view) _ _ (part_same entry.history)
      (if_holds Grown (nat_lt view mark.view) _ _ (part_same entry.history) (seen_grows (unseen mark members)))

module _ {Kind Op Shown : Type 0} (D : Replication Kind Op Shown) (node : Node Kind Op Shown) (k : KeyState Kind Op) where
  -- after the tick of one removed identity
  pub tick_grows : (so_far : Ticking Op) (r : ℕ) → IsPartOf so_far.entry.history (tick_identity D node k so_far r).entry.history
  tick_grows so_far r =
      if_holds (λ (t : Ticking Op). IsPartOf so_far.entry.history t.entry.history) ((at so_far.entry.history r == 0) || is_pruned so_far.entry.history r) _ _ (part_same so_far.entry.history)
      (mark_grows (D.data_type.blocked k.kind node.identity r so_far.entry.history) node.identity node.view.number (identities_of node.view) so_far.entry r (so_far.entry.marks r))

  -- and of more
  pub ticks_grow : (so_far : Ticking Op) (rs : List ℕ) → IsPartOf so_far.entry.history (fold (tick_identity D node k) so_far rs).entry.history
  ticks_grow so_far [] = part_same so_far.entry.history
  ticks_grow so_far (r ∷ rs) =
      part_trans so_far.entry.history (tick_identity D node k so_far r).entry.history (fold (tick_identity D node k) so_far (r ∷ rs)).entry.history (tick_grows so_far r) (ticks_grow (tick_identity D node k so_far r) rs)
