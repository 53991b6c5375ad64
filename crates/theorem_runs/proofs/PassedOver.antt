-- Nothing of a message to a running member from a member of its view is passed over.
use Rattle.std.proofs.Common.{◌≡◌, ◌≢◌, ℕ, ◌≤◌, List, [], ◌∷◌, ◌++◌, length, refl, sym, ap, subst, ◌∙◌, arith, Bool, true, false, Some}
use Rattle.std.specs.Prelude.{◌||◌, slice_get}
use Rattle.std.specs.List.{AllByRecursion, list_any}
use Rattle.std.proofs.lemmas.Bool.{le-ltb, ne_eqb}
use Rattle.model_history.specs.Texts.{Text}
use Rattle.model_history.specs.History.{Record, at, is_pruned, IsPartOf}
use Rattle.model_history.proofs.CutLaws.{both_ways}
use Rattle.model_history.proofs.PartLaws.{part-le, part_trans}
use Rattle.model_history.proofs.PruneLaws.{pruned_has, unpruned-with_record}
use Rattle.model_members.specs.View.{View, is_member}
use Rattle.model_members.specs.Entry.{Entry, Group, is_prune}
use Rattle.model_members.specs.DataType.{Replication}
use Rattle.model_members.specs.Message.{Keyed, Message, entries_in, groups_in, part_of}
use Rattle.model_members.specs.Node.{Node}
use Rattle.model_members.specs.Step.{is_entry_passed_over, is_group_passed_over, after_groups, after_entries}
use Rattle.model_members.specs.World.{World, message_at}
use Rattle.theorem_runs.specs.Pruning.{HistoryVariables, HasEntry}
use Rattle.theorem_runs.specs.Pruning.HasEntry.{Sent}
use Rattle.theorem_runs.specs.PassedOver.{IsTakenWhole, NothingIsPassedOver}
use Rattle.theorem_runs.proofs.Keeping.{AreKept, NoTick, keeps_groups}
use Rattle.theorem_runs.proofs.UnprunedMarks.{unpruned-with_group}
use Rattle.theorem_runs.proofs.Sending.{all_both}
use Rattle.theorem_runs.proofs.Parts.{part_entries, part_groups}
use Rattle.theorem_runs.proofs.Midway.{groups_grow, entries_grow}
use Rattle.theorem_runs.proofs.Happening.{of_all, all_of}
use Rattle.theorem_runs.proofs.Removed.{not_running}
use Rattle.theorem_runs.proofs.Safety.{IsSafe}
use Rattle.theorem_runs.proofs.PruningSafety.{entry_taken, prune_of_entry, pruners_have_installed}

unless : (b : Bool) → b ≢ true → b ≡ false
unless true h = absurd (h refl)
unless false h = refl

-- where an element stands in a list
stands_at : {X : Type 0} (xs before rest : List X) (x : X) → xs ≡ before ++ x ∷ rest → slice_get xs (length before) ≡ Some x
stands_at {X = X} xs before rest x e = ap (λ ys. slice_get ys (length before)) e ∙ go before
  where
    go : (ys : List X) → slice_get (ys ++ x ∷ rest) (length ys) ≡ Some x
    go [] = refl
    go (y ∷ ys) = go ys

all_before : {X : Type 0} (P : X → Type 0) (before after : List X) → AllByRecursion P (before ++ after) → AllByRecursion P before
all_before P [] after all = tt
all_before P (x ∷ before) after all = (all.0, all_before P before after all.1)

module _ {Op : Type 0} (q : ℕ) where
  -- the entry has no prune of an identity
  abbrev Unpruned : Text → Entry Op → Type 0
  Unpruned key entry = is_pruned entry.history q ≡ false

  abbrev NoEntry : Text → Entry Op → Type 0
  NoEntry key entry = ⊥

  abbrev PlainGroup : Text → Group Op → Type 0
  PlainGroup key group = list_any (λ (r : Record Op). is_prune r.action) group.group_records ≡ false

  -- groups bring none
  groups_keep : (i : ℕ) (view : View) → AreKept Unpruned NoEntry PlainGroup NoTick i view
  groups_keep i view =
      record {
        added = λ key entry op p. unpruned-with_record entry.history i _ q p (λ f. cc f);
        took = λ key mine theirs p m. absurd m;
        grouped = λ key entry group judgement p plain. unpruned-with_group entry group q plain p;
        marks = λ key entry shares r ticks due p. absurd ticks;
        prunes = λ key entry shares r ticks due seen p. absurd ticks;
      }

module _ {Kind Op Shown : Type 0} (D : Replication Kind Op Shown) (variables : HistoryVariables Op) (world : World Kind Op Shown) (safe : IsSafe D variables world) (to : ℕ) (node : Node Kind Op Shown) (runs : world.nodes to ≡ Some node) where
  -- no entry has a prune of a running member
  pub unpruned : (key : Text) (entry : Entry Op) → HasEntry world key entry → is_pruned entry.history to ≡ false
  unpruned key entry has = unless (is_pruned entry.history to) (λ pruned.
      let q = pruned_has entry.history to pruned in
      let p = prune_of_entry D variables world safe key entry has q.0 q.1 to q.2 q.4 q.5 in
      not_running D variables world safe.views p.view to (record { listed = p.listed; given = p.given; removed = p.removed }) to node runs refl)

  -- and none counts more of its records than it made
  pub no_more : (key : Text) (entry : Entry Op) → HasEntry world key entry → at entry.history to ≤ at (node.entries key).history to
  no_more key entry has =
      let a = part-le entry.history (variables.made key) (entry_taken D variables world safe key entry has).part to in
      let b = ap length (safe.logs.own to node key runs) in omega arith

  -- nor than it has in the midst of a take
  entry_is_taken : (key : Text) (entry mine : Entry Op) → HasEntry world key entry → IsPartOf (node.entries key).history mine.history → is_entry_passed_over to mine entry ≡ false
  entry_is_taken key entry mine has part =
      let a = no_more key entry has in
      let b = part-le (node.entries key).history mine.history part to in
      ap (λ b. b || is_pruned entry.history to) (le-ltb (at mine.history to) (at entry.history to) (omega arith)) ∙ unpruned key entry has

  module _ (from index : ℕ) (message : Message Op) (member : is_member node.view from ≡ true) (sent : message_at world from to index ≡ Some message) where
    -- groups are their sender's, and go to others
    abbrev IsOfSender : Keyed (Group Op) → Type 0
    IsOfSender g = (g.item.origin ≡ from) × PlainGroup from g.key g.item × (to ≢ from)

    group_is_taken : (mine : Entry Op) (x : Keyed (Group Op)) → IsOfSender x → is_pruned mine.history from ≡ false → is_group_passed_over to mine x.item ≡ false
    group_is_taken mine x g kept =
        ap (λ b. b || is_pruned mine.history x.item.origin) (ne_eqb x.item.origin to (λ e. g.2 (sym e ∙ g.0))) ∙ ap (is_pruned mine.history) g.0 ∙ kept

    -- no member has a prune of a member of its view
    sender_unpruned : (key : Text) → is_pruned (node.entries key).history from ≡ false
    sender_unpruned key = unless (is_pruned (node.entries key).history from) (λ pruned. both_ways (is_member node.view from) member (pruners_have_installed D variables world safe to node key from runs pruned).1)

    -- nor gets one from groups
    still_unpruned : (groups : List (Keyed (Group Op))) → AllByRecursion (λ (g : Keyed (Group Op)). PlainGroup from g.key g.item) groups → (key : Text) → is_pruned ((after_groups node groups).node.entries key).history from ≡ false
    still_unpruned groups plain =
        (keeps_groups D (Unpruned from) (NoEntry from) (PlainGroup from) NoTick node.identity node.view (groups_keep from node.identity node.view) node.keys node groups
        (record { same_identity = refl; same_view = refl; same_keys = refl; entries = sender_unpruned }) plain).entries

    -- its entries stand in the world
    abbrev Stands : Keyed (Entry Op) → Type 0
    Stands e = HasEntry world e.key e.item

    of_sender : AllByRecursion IsOfSender (groups_in message)
    of_sender = all_of IsOfSender (groups_in message) (λ g there. safe.parts.groups from to index message sent g there)

    all_stand : AllByRecursion Stands (entries_in message)
    all_stand = all_of Stands (entries_in message) (λ e there. Sent from to index node message runs member sent there)

    -- nothing of such groups and entries is passed over
    taken_whole : (taken : Message Op) → AllByRecursion IsOfSender (groups_in taken) → AllByRecursion Stands (entries_in taken) → IsTakenWhole to node taken
    taken_whole taken sender stand =
        record {
          groups = λ before rest key group e.
              let g : Keyed (Group Op) = record { key = key; item = group } in
              let plain = all_both IsOfSender IsOfSender (λ (x : Keyed (Group Op)). PlainGroup from x.key x.item) (λ x p q. p.1) (groups_in taken) sender sender in
              group_is_taken ((after_groups node before).node.entries key) g (of_all IsOfSender (groups_in taken) g sender (length before, stands_at (groups_in taken) before rest g e))
              (still_unpruned before (all_before _ before (g ∷ rest) (subst (λ gs. AllByRecursion (λ (x : Keyed (Group Op)). PlainGroup from x.key x.item) gs) e plain)) key);
          entries = λ before rest key entry e.
              let grouped = (after_groups node (groups_in taken)).node in
              let x : Keyed (Entry Op) = record { key = key; item = entry } in
              entry_is_taken key entry ((after_entries grouped before).entries key) (of_all Stands (entries_in taken) x stand (length before, stands_at (entries_in taken) before rest x e))
              (part_trans (node.entries key).history (grouped.entries key).history ((after_entries grouped before).entries key).history (groups_grow D node key (groups_in taken)) (entries_grow D grouped key before));
        }

    is_taken_whole : IsTakenWhole to node message × ((knows : Text → Bool) → IsTakenWhole to node (part_of knows message))
    is_taken_whole = (
      taken_whole message of_sender all_stand,
      λ knows. taken_whole (part_of knows message) (part_groups IsOfSender knows message (part_of knows message) refl of_sender) (part_entries Stands knows message (part_of knows message) refl all_stand),
    )

module _ {Kind Op Shown : Type 0} (D : Replication Kind Op Shown) (variables : HistoryVariables Op) (world : World Kind Op Shown) (safe : IsSafe D variables world) where
  pub nothing_is_passed_over : NothingIsPassedOver world
  nothing_is_passed_over from to index node message runs member sent = is_taken_whole D variables world safe to node runs from index message member sent
