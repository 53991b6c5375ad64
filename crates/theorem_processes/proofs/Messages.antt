-- What a member takes of a message that also speaks of keys that it does not have.
--     whole_part        what a message says of keys is all of it, where it speaks of these alone
--     status_part        of a status, only what is said of the member's keys counts
--     unasked        an answer to a read of a key that the member does not have brings nothing
use Rattle.std.proofs.Common.{◌≡◌, ℕ, List, [], ◌∷◌, map, refl, sym, ap, subst, ◌∙◌, Bool, true, false, not, Option, Some, None, filter, find, if◌then◌else◌, bytes_eq}
use Rattle.std.specs.Prelude.{is_some, option_map, ◌||◌, ◌&&◌, IsTrue, IsFalse}
use Rattle.std.specs.List.{list_all}
use Rattle.model_history.specs.Texts.{Text}
use Rattle.model_members.specs.DataType.{Replication}
use Rattle.model_members.specs.Entry.{Entry, Group, has_records}
use Rattle.model_members.specs.Message.{Keyed, Message, part_of}
use Rattle.model_members.specs.Message.Message.{Deltas, Nack, Status, Gossip, Write, WriteAck, WriteNack, Read, ReadAnswer}
use Rattle.model_members.specs.Node.{KeyDecl, KeyState, Node, OpenOperation, Fate, state_of, keyed_entry}
use Rattle.model_members.specs.Node.Reply.{Taken}
use Rattle.model_members.specs.Step.{step_of_take, sent, gossip_to, named_digest, is_digest, digest_of, news_for, wanted_from, is_answered_by, took}
use Rattle.model_members.proofs.Cases.{counted_for}
use Rattle.model_members.proofs.Steps.{bytes_eq-same, bytes_eq-tells}
use Rattle.theorem_declaring.specs.Parts.{knows}
use Rattle.theorem_processes.specs.Keys.{is_whole, AsksOnly}
use Rattle.theorem_processes.proofs.Keys.{filter_all}
use Rattle.theorem_operations.proofs.Lists.{first_true, second_true, or_left, or_right}
use Rattle.theorem_runs.proofs.Keeping.{if_tells}

-- LISTS

module _ {X : Type 0} (p : X → Bool) where
  -- what is looked for is in the part of a list
  find_filtered : (q : X → Bool) → ((x : X) → q x ≡ true → p x ≡ true) → (xs : List X) → find q (filter p xs) ≡ find q xs
  find_filtered q has [] = refl
  find_filtered q has (x ∷ xs) = by (p x) refl (q x) refl (find_filtered q has xs)
    where
      by : (b : Bool) → p x ≡ b → (c : Bool) → q x ≡ c → find q (filter p xs) ≡ find q xs → find q (if b then x ∷ filter p xs else filter p xs) ≡ (if c then Some x else find q xs)
      by true e true f rest = ap (λ (c : Bool). if c then Some x else find q (filter p xs)) f
      by true e false f rest = ap (λ (c : Bool). if c then Some x else find q (filter p xs)) f ∙ rest
      by false e true f rest = absurd (let there = sym e ∙ has x f in cc there)
      by false e false f rest = rest

-- WHOLE MESSAGES

pub whole_part : {Op : Type 0} (known : Text → Bool) (message : Message Op) → IsTrue (is_whole known message) → part_of known message ≡ message
whole_part {Op} known (Deltas groups entries) e =
    let all = list_all (λ (g : Keyed (Group Op)). known g.key) groups in
    let rest = list_all (λ (x : Keyed (Entry Op)). known x.key) entries in
    ap (λ (gs : List (Keyed (Group Op))). Deltas gs (filter (λ (x : Keyed (Entry Op)). known x.key) entries)) (filter_all (λ (g : Keyed (Group Op)). known g.key) groups (first_true all rest e))
    ∙ ap (λ (es : List (Keyed (Entry Op))). Deltas groups es) (filter_all (λ (x : Keyed (Entry Op)). known x.key) entries (second_true all rest e))
whole_part known (Nack keys) e = refl
whole_part known (Status digests) e = ap Status (filter_all (λ (d : Keyed (List ℕ)). known d.key) digests e)
whole_part {Op} known (Gossip entries wants) e = ap (λ (es : List (Keyed (Entry Op))). Gossip es wants) (filter_all (λ (x : Keyed (Entry Op)). known x.key) entries e)
whole_part known (Write op key entry) e = ap (λ (b : Bool). if b then Write op key entry else Deltas [] []) e
whole_part known (WriteAck op) e = refl
whole_part known (WriteNack op) e = refl
whole_part known (Read op key) e = refl
whole_part known (ReadAnswer op key entry) e = ap (λ (b : Bool). if b then ReadAnswer op key entry else Deltas [] []) e

module _ {Kind Op Shown : Type 0} (D : Replication Kind Op Shown) (node : Node Kind Op Shown) where
  -- the states of the keys that pass a test are those that pass another, which says the same of each
  states_alike : (p q : KeyState Kind Op → Bool) (keys : List (KeyDecl Kind)) → ((decl : KeyDecl Kind) → IsTrue (knows keys decl.name) → p (state_of node decl) ≡ q (state_of node decl))
      → filter p (map (state_of node) keys) ≡ filter q (map (state_of node) keys)
  states_alike p q [] same = refl
  states_alike p q (decl ∷ keys) same =
      let state = state_of node decl in
      ap (λ (b : Bool). if b then state ∷ filter p (map (state_of node) keys) else filter p (map (state_of node) keys)) (same decl (or_left (bytes_eq decl.name decl.name) (knows keys decl.name) (bytes_eq-same decl.name)))
      ∙ ap (λ (rest : List (KeyState Kind Op)). if q state then state ∷ rest else rest) (states_alike p q keys (λ d there. same d (or_right (bytes_eq decl.name d.name) (knows keys d.name) there)))

  -- the digests of the member's keys
  abbrev known_digests : List (Keyed (List ℕ)) → List (Keyed (List ℕ))
  known_digests digests = filter (λ (d : Keyed (List ℕ)). knows node.keys d.key) digests

  digest_alike : (digests : List (Keyed (List ℕ))) (name : Text) → IsTrue (knows node.keys name) → named_digest D digests name ≡ named_digest D (known_digests digests) name
  digest_alike digests name there =
      ap (option_map (λ (d : Keyed (List ℕ)). d.item))
      (sym (find_filtered (λ (d : Keyed (List ℕ)). knows node.keys d.key) (λ (d : Keyed (List ℕ)). bytes_eq d.key name) (λ d e. subst (λ (key : Text). IsTrue (knows node.keys key)) (sym (bytes_eq-tells d.key name e)) there) digests))

  abbrev is_news : Option (List ℕ) → KeyState Kind Op → Bool
  is_news theirs k = has_records k.entry && not (is_digest D theirs (digest_of D k))

  abbrev is_wanted : Option (List ℕ) → KeyState Kind Op → Bool
  is_wanted theirs k = is_some theirs && (not (has_records k.entry) || not (is_digest D theirs (digest_of D k)))

  -- a status counts for the member's keys alone
  pub status_part : (from : ℕ) (fate : Fate) (digests : List (Keyed (List ℕ))) → step_of_take D node from fate (Status digests) ≡ step_of_take D node from fate (Status (known_digests digests))
  status_part from fate digests =
      let mine = known_digests digests in
      let news = states_alike (λ k. is_news (named_digest D digests k.name) k) (λ k. is_news (named_digest D mine k.name) k) node.keys (λ decl there. ap (λ (o : Option (List ℕ)). is_news o (state_of node decl)) (digest_alike digests decl.name there)) in
      let wants = states_alike (λ k. is_wanted (named_digest D digests k.name) k) (λ k. is_wanted (named_digest D mine k.name) k) node.keys (λ decl there. ap (λ (o : Option (List ℕ)). is_wanted o (state_of node decl)) (digest_alike digests decl.name there)) in
      ap (λ (ks : List (KeyState Kind Op)). sent node Taken (gossip_to D from (map keyed_entry ks) (wanted_from D node digests))) news
      ∙ ap (λ (ks : List (KeyState Kind Op)). sent node Taken (gossip_to D from (news_for D node mine) (map (λ k. k.name) ks))) wants

  -- no open operation is of a key that the member does not have
  none_open : (op : ℕ) (key : Text) → IsFalse (knows node.keys key) → (ops : List OpenOperation) → IsTrue (list_all (λ (o : OpenOperation). knows node.keys o.key) ops)
      → find (λ (o : OpenOperation). is_answered_by true op o && bytes_eq o.key key) ops ≡ None
  none_open op key unknown [] all = refl
  none_open op key unknown (o ∷ ops) all =
      if_tells (λ (found : Option OpenOperation). found ≡ None) (is_answered_by true op o && bytes_eq o.key key) (Some o) (find (λ (o : OpenOperation). is_answered_by true op o && bytes_eq o.key key) ops)
      (λ e.
      let same = bytes_eq-tells o.key key (second_true (is_answered_by true op o) (bytes_eq o.key key) e) in
      let there = first_true (knows node.keys o.key) (list_all (λ (o : OpenOperation). knows node.keys o.key) ops) all in
      absurd (let both = sym there ∙ ap (knows node.keys) same ∙ unknown in cc both))
      (λ e. none_open op key unknown ops (second_true (knows node.keys o.key) (list_all (λ (o : OpenOperation). knows node.keys o.key) ops) all))

  -- an answer to a read of such a key
  pub unasked : (from : ℕ) (fate : Fate) (op : ℕ) (key : Text) → IsFalse (knows node.keys key) → AsksOnly node.keys node → step_of_take D node from fate (ReadAnswer op key None) ≡ step_of_take D node from fate (Deltas [] [])
  unasked from fate op key unknown asks = ap (counted_for D (took D node node fate [] []) from) (none_open op key unknown node.open_operations asks)
