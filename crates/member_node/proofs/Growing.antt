-- What groups and entries do to a member of the model.
-- What a group does to a member of the model.
-- Histories that grow while entries are taken, and are exactly pruned before if they are so at the end.
use Rattle.std.proofs.Common.{◌≡◌, List, [], ◌∷◌, ◌++◌, refl, sym, ap, ◌∙◌, subst, Bool, true, false, Option, Some, None, map, fold, if◌then◌else◌, option_map, find, bytes_eq, append-nil, ℕ, arith}
use Rattle.std.proofs.lemmas.List.{map-append}
use Rattle.member_node.proofs.Common.{Text, History, IsPartOf, IsTakenFrom, seen_by, state_of, key_state, HasKey, AfterGroups, take_group, take_entry, after_entries, bytes_eq-tells, gap_told}
use Rattle.model_history.specs.History.{union, IsExactlyPruned}
use Rattle.model_history.proofs.PartLaws.{part-le, in_whole, part_trans, take_front, take_whole, taken_union}
use Rattle.model_members.specs.Entry.{Group, Judgement, judged, with_group, Entry, merged}
use Rattle.model_members.specs.Entry.Judgement.{Wanted, Stale, Missing}
use Rattle.model_members.specs.Message.{Keyed}
use Rattle.model_members.specs.Node.{KeyDecl, KeyState, Node}
use Rattle.model_members.specs.Step.{is_group_passed_over, is_entry_passed_over}
use Rattle.model_members.proofs.Steps.{with_text_at-same}
use Rattle.model_members.proofs.Cases.{with_judged, with_taken_group}
use Rattle.model_members.proofs.Taking.{take_entry-at, take_entry-only}
use Rattle.member_node.specs.Taking.{judged_for, entry_after, lacking_in, gaps_at}

-- A GROUP

module _ {Kind Op Shown : Type 0} where
  -- a group that is passed over is as one that is known
  judged_one : (so_far : AfterGroups Kind Op Shown) (k : KeyState Kind Op) (group : Group Op) → with_taken_group so_far (Some k) group ≡ with_judged so_far k group (judged_for so_far.node.identity k.entry group)
  judged_one so_far k group = go (is_group_passed_over so_far.node.identity k.entry group)
    where
      go : (b : Bool) → (if b then so_far else with_judged so_far k group (judged k.entry group)) ≡ with_judged so_far k group (if b then Stale else judged k.entry group)
      go true = refl
      go false = refl

  -- what a judged group does
  pub record Judges (so_far : AfterGroups Kind Op Shown) (k : KeyState Kind Op) (group : Group Op) (j : Judgement) (next : AfterGroups Kind Op Shown) : Type 0 where
    pub only : next.node ≡ record so_far.node { entries = next.node.entries }
    pub here : next.node.entries k.name ≡ entry_after k.entry group j
    pub elsewhere : (name : Text) → bytes_eq name k.name ≡ false → next.node.entries name ≡ so_far.node.entries name
    pub gapped : map gap_told next.gaps ≡ map gap_told so_far.gaps ++ gaps_at k.name (lacking_in j)

  with_judged-judges : (so_far : AfterGroups Kind Op Shown) (k : KeyState Kind Op) (group : Group Op) → so_far.node.entries k.name ≡ k.entry → (j : Judgement) → Judges so_far k group j (with_judged so_far k group j)
  with_judged-judges so_far k group is Wanted = record {
    only = refl;
    here = with_text_at-same so_far.node.entries k.name (with_group k.entry group);
    elsewhere = λ name other. ap (λ b. if b then with_group k.entry group else so_far.node.entries name) other;
    gapped = sym (append-nil (map gap_told so_far.gaps));
  }
  with_judged-judges so_far k group is Stale = record {
    only = refl;
    here = is;
    elsewhere = λ name other. refl;
    gapped = sym (append-nil (map gap_told so_far.gaps));
  }
  with_judged-judges so_far k group is (Missing i) = record {
    only = refl;
    here = is;
    elsewhere = λ name other. refl;
    gapped = map-append gap_told so_far.gaps (record { key = k.name; lacking = i } ∷ []);
  }

  -- a group of a declared key
  pub take_group-judges : (so_far : AfterGroups Kind Op Shown) (decl : KeyDecl Kind) (g : Keyed (Group Op)) → find (λ (decl : KeyDecl Kind). bytes_eq decl.name g.key) so_far.node.keys ≡ Some decl
      → Judges so_far (state_of so_far.node decl) g.item (judged_for so_far.node.identity (so_far.node.entries decl.name) g.item) (take_group so_far g)
  take_group-judges so_far decl g declared =
      let k : KeyState Kind Op = state_of so_far.node decl in
      let j : Judgement = judged_for so_far.node.identity (so_far.node.entries decl.name) g.item in
      let same : take_group so_far g ≡ with_judged so_far k g.item j = ap (λ o. with_taken_group so_far (option_map (state_of so_far.node) o) g.item) declared ∙ judged_one so_far k g.item in
      subst (λ (next : AfterGroups Kind Op Shown). Judges so_far (state_of so_far.node decl) g.item (judged_for so_far.node.identity (so_far.node.entries decl.name) g.item) next) (sym same) (with_judged-judges so_far k g.item refl j)

  -- a group of no declared key
  pub take_group-undeclared : (so_far : AfterGroups Kind Op Shown) (g : Keyed (Group Op)) → find (λ (decl : KeyDecl Kind). bytes_eq decl.name g.key) so_far.node.keys ≡ None → take_group so_far g ≡ so_far
  take_group-undeclared so_far g undeclared = ap (λ o. with_taken_group so_far (option_map (state_of so_far.node) o) g.item) undeclared

  by_judgement : (so_far : AfterGroups Kind Op Shown) (k : KeyState Kind Op) (group : Group Op) (j : Judgement) → (with_judged so_far k group j).node ≡ record so_far.node { entries = (with_judged so_far k group j).node.entries }
  by_judgement so_far k group Wanted = refl
  by_judgement so_far k group _ = refl

  -- nothing but entries changes
  take_group-only : (so_far : AfterGroups Kind Op Shown) (g : Keyed (Group Op)) → (take_group so_far g).node ≡ record so_far.node { entries = (take_group so_far g).node.entries }
  take_group-only so_far g = by_state (key_state so_far.node g.key)
    where
      by_state : (o : Option (KeyState Kind Op)) → (with_taken_group so_far o g.item).node ≡ record so_far.node { entries = (with_taken_group so_far o g.item).node.entries }
      by_state None = refl
      by_state (Some k) = subst (λ (next : AfterGroups Kind Op Shown). next.node ≡ record so_far.node { entries = next.node.entries }) (sym (judged_one so_far k g.item)) (by_judgement so_far k g.item (judged_for so_far.node.identity k.entry g.item))

  pub groups-only : (gs : List (Keyed (Group Op))) (so_far : AfterGroups Kind Op Shown) → (fold take_group so_far gs).node ≡ record so_far.node { entries = (fold take_group so_far gs).node.entries }
  groups-only [] so_far = refl
  groups-only (g ∷ gs) so_far =
      let one = take_group-only so_far g in
      groups-only gs (take_group so_far g) ∙ λ i. record (one i) { entries = (fold take_group (take_group so_far g) gs).node.entries }

-- ENTRIES

module _ {Op : Type 0} where
  part_same : (H : History Op) → IsPartOf H H
  part_same H i = sym (take_whole (H i))

  part_of_union : (H J : History Op) → IsPartOf H (union H J)
  part_of_union H J i = sym (take_front (H i) _)

  -- a part that holds the pasts of its records is exactly pruned, if the whole is
  pub exact_part : (log H G : History Op) → IsTakenFrom log H → IsPartOf H G → IsExactlyPruned G → IsExactlyPruned H
  exact_part log H G taken part exact = record {
    once = λ i k j m x y r has has'. exact.once i k j m x y r (in_whole H G part i k x has) (in_whole H G part j m y has');
    nothing_more = λ i k x r has prune.
        let whole = exact.nothing_more i k x r (in_whole H G part i k x has) prune in
        let few = part-le H G part r in
        let closed = taken.closed i k x has r in
        omega (arith, whole, few, closed);
  }

  taken_or : (b : Bool) (log : History Op) (id view : ℕ) (mine theirs : Entry Op) → IsTakenFrom log mine.history → IsTakenFrom log theirs.history → IsTakenFrom log (if b then mine else seen_by id view (merged mine theirs)).history
  taken_or true log id view mine theirs m t = m
  taken_or false log id view mine theirs m t = taken_union mine.history theirs.history log m t

  grown_or : (b : Bool) (id view : ℕ) (mine theirs : Entry Op) → IsPartOf mine.history (if b then mine else seen_by id view (merged mine theirs)).history
  grown_or true id view mine theirs = part_same mine.history
  grown_or false id view mine theirs = part_of_union mine.history theirs.history

module _ {Kind Op Shown : Type 0} (node : Node Kind Op Shown) (name : Text) (kind : Kind) (has : HasKey node name kind) (e : Keyed (Entry Op)) where
  -- what one entry makes of a key
  pub grows_one : IsPartOf (node.entries name).history ((take_entry node e).entries name).history
  grows_one = subst (λ (entry : Entry Op). IsPartOf (node.entries name).history entry.history) (sym (take_entry-at node name kind has e)) (go (bytes_eq name e.key))
    where
      go : (b : Bool) → IsPartOf (node.entries name).history (if b then (if is_entry_passed_over node.identity (node.entries name) e.item then node.entries name else seen_by node.identity node.view.number (merged (node.entries name) e.item)) else node.entries name).history
      go true = grown_or (is_entry_passed_over node.identity (node.entries name) e.item) node.identity node.view.number (node.entries name) e.item
      go false = part_same (node.entries name).history

  pub taken_one : (logs : Text → History Op) → IsTakenFrom (logs name) (node.entries name).history → IsTakenFrom (logs e.key) e.item.history → IsTakenFrom (logs name) ((take_entry node e).entries name).history
  taken_one logs mine theirs = subst (λ (entry : Entry Op). IsTakenFrom (logs name) entry.history) (sym (take_entry-at node name kind has e)) (go (bytes_eq name e.key) refl)
    where
      go : (b : Bool) → bytes_eq name e.key ≡ b → IsTakenFrom (logs name) (if b then (if is_entry_passed_over node.identity (node.entries name) e.item then node.entries name else seen_by node.identity node.view.number (merged (node.entries name) e.item)) else node.entries name).history
      go true is = taken_or (is_entry_passed_over node.identity (node.entries name) e.item) (logs name) node.identity node.view.number (node.entries name) e.item mine (subst (λ key. IsTakenFrom (logs key) e.item.history) (sym (bytes_eq-tells name e.key is)) theirs)
      go false is = mine

-- a member keeps its keys
pub has_still : {Kind Op Shown : Type 0} (node : Node Kind Op Shown) (name : Text) (kind : Kind) (e : Keyed (Entry Op)) → HasKey node name kind → HasKey (take_entry node e) name kind
has_still node name kind e has = subst (λ (n : Node _ _ _). HasKey n name kind) (sym (take_entry-only node e)) has

pub grows : {Kind Op Shown : Type 0} (es : List (Keyed (Entry Op))) (node : Node Kind Op Shown) (name : Text) (kind : Kind) → HasKey node name kind → IsPartOf (node.entries name).history ((after_entries node es).entries name).history
grows [] node name kind has = part_same (node.entries name).history
grows (e ∷ es) node name kind has =
    part_trans (node.entries name).history ((take_entry node e).entries name).history ((after_entries (take_entry node e) es).entries name).history (grows_one node name kind has e) (grows es (take_entry node e) name kind (has_still node name kind e has))
