-- In a run, a member's spelling of a key tells its history of the key, and its marks.
use Rattle.std.proofs.Common.{◌≡◌, ℕ, ◌^◌, ◌<◌, ◌≤◌, true, false, List, [], ◌∷◌, ◌++◌, length, take, drop, get_or, Option, Some, None, inl, inr, refl, sym, ap, subst, ◌∙◌, append_assoc, arith}
use Rattle.std.specs.Prelude.{if◌then◌else◌, is_some}
use Rattle.std.proofs.lemmas.Bool.{cases_lt}
use Rattle.model_history.specs.Texts.{Text}
use Rattle.model_history.specs.Table.{identity_limit, identities}
use Rattle.model_history.specs.History.{History, Stamped, at, versions, stamped_from, all_records, is_prune_of, prune_of, is_pruned, IsPartOf, IsExactlyPruned}
use Rattle.model_history.specs.Cuts.{without}
use Rattle.model_history.proofs.HistoryLaws.{same_part}
use Rattle.model_history.proofs.PartLaws.{take_none}
use Rattle.model_history.proofs.PruneLaws.{found, in_flat_map, in_stamped, prune_tells}
use Rattle.model_members.specs.DataType.{Replication}
use Rattle.model_members.specs.Entry.{Entry, Mark, is_unchanged}
use Rattle.model_members.specs.Node.{KeyDecl, Node}
use Rattle.model_members.specs.Relations.{AreSameMark}
use Rattle.model_members.specs.World.{World, Event, start, IsRun}
use Rattle.model_members.proofs.Unchanged.{unchanged_exactly}
use Rattle.theorem_runs.specs.Pruning.{HasUnprunedMarks, variables_of}
use Rattle.theorem_runs.proofs.Growth.{part_same}
use Rattle.theorem_runs.proofs.Keeping.{if_holds}
use Rattle.theorem_runs.proofs.PruningSafety.{held_is_pruned}
use Rattle.theorem_runs.proofs.Safety.{runs_are_safe}
use Rattle.theorem_operations.proofs.Lists.{find_in}
use Rattle.base_vectors.specs.Spelling.{numbers_spelled}
use Rattle.data_markers.specs.Spelling.{begun_tail, performed_tail, pieces_spelled}
use Rattle.data_codec.specs.Entries.{mark_piece, entry_piece, entry_spelled}
use Rattle.theorem_digests.specs.Digests.{MakesFewSteps}
use Rattle.theorem_digests.proofs.FewRecords.{IsSmall, held_are_small}
use Rattle.theorem_digests.proofs.Spellings.{IsPiece, first_byte, pieces_end, numbers_end, begun_told, performed_told}
use Rattle.theorem_digests.proofs.Spellings.IsPiece.{Begun, Performed}

module _ {Op : Type 0} where
  -- THE PIECE OF AN IDENTITY

  piece_named : (o : Option (Stamped Op)) (r : ℕ) (m : Option Mark) (p : List ℕ) → mark_piece o r m ≡ Some p → IsPiece p × (first_byte p ≡ r)
  piece_named None r None p e = absurd (cc e)
  piece_named None r (Some m) p e = let same : r ∷ begun_tail m.view m.owner m.seen ≡ p = cc e in (Begun r m.view m.owner m.seen (sym same), ap first_byte (sym same))
  piece_named (Some x) r m p e = let same : r ∷ performed_tail x.origin x.number (x.past r) ≡ p = cc e in (Performed r x.origin x.number (x.past r) (sym same), ap first_byte (sym same))

  -- what a prune found is what the history has of the identity
  pruned_at : (H : History Op) (r : ℕ) (x : Stamped Op) → IsExactlyPruned H → prune_of H r ≡ Some x → at H r ≡ x.past r
  pruned_at H r x exact e =
      let test = λ (y : Stamped Op). is_prune_of r y.action in
      let from = in_flat_map (λ i. stamped_from i 1 (H i)) identities x (find_in test (all_records H) x e) in
      let here = in_stamped from.0 1 (H from.0) x from.2 in
      exact.nothing_more from.0 here.0 (record { action = x.action; past = x.past }) r here.1 (prune_tells r x.action (found test (all_records H) x e))

  -- what is true of the entries that members hold
  record IsHeld (entry : Entry Op) : Type 0 where
    small : IsSmall entry
    exact : IsExactlyPruned entry.history
    unpruned : HasUnprunedMarks entry

  unmarked : (entry : Entry Op) → IsHeld entry → (r : ℕ) (x : Stamped Op) (m : Mark) → prune_of entry.history r ≡ Some x → entry.marks r ≡ Some m → ⊥
  unmarked entry held r x m pruned marked = let f : true ≡ false = sym (ap is_some pruned) ∙ held.unpruned r m marked in cc f

  module _ (a b : Entry Op) (ha : IsHeld a) (hb : IsHeld b) (r : ℕ) where
    abbrev left_of : Option (Stamped Op) → Entry Op → ℕ
    left_of o entry = if is_some o then 0 else at entry.history r

    found_small : (entry : Entry Op) (x : Stamped Op) → IsHeld entry → prune_of entry.history r ≡ Some x → x.past r < 2 ^ 64
    found_small entry x held pruned = let e = pruned_at entry.history r x held.exact pruned in let few = held.small.records r in omega arith

    same_there : (o p : Option (Stamped Op)) (m n : Option Mark) → prune_of a.history r ≡ o → prune_of b.history r ≡ p → a.marks r ≡ m → b.marks r ≡ n → mark_piece o r m ≡ mark_piece p r n → left_of o a ≡ left_of p b
        → (at a.history r ≡ at b.history r) × AreSameMark m n
    same_there (Some x) p (Some m) n pa pb ma mb e count = absurd (unmarked a ha r x m pa ma)
    same_there (Some x) (Some y) None (Some n) pa pb ma mb e count = absurd (unmarked b hb r y n pb mb)
    same_there (Some x) (Some y) None None pa pb ma mb e count =
        let text : r ∷ performed_tail x.origin x.number (x.past r) ≡ r ∷ performed_tail y.origin y.number (y.past r) = cc e in
        (pruned_at a.history r x ha.exact pa ∙ performed_told r x.origin x.number (x.past r) y.origin y.number (y.past r) (found_small a x ha pa) (found_small b y hb pb) text ∙ sym (pruned_at b.history r y hb.exact pb), tt)
    same_there (Some x) None None None pa pb ma mb e count = absurd (cc e)
    same_there (Some x) None None (Some n) pa pb ma mb e count =
        let text : r ∷ performed_tail x.origin x.number (x.past r) ≡ r ∷ begun_tail n.view n.owner n.seen = cc e in
        let tag : ◌≡◌ {A = ℕ} 1 0 = ap (λ (t : List ℕ). get_or t 1 0) text in absurd (omega (arith, tag))
    same_there None (Some y) m (Some n) pa pb ma mb e count = absurd (unmarked b hb r y n pb mb)
    same_there None (Some y) None None pa pb ma mb e count = absurd (cc e)
    same_there None (Some y) (Some m) None pa pb ma mb e count =
        let text : r ∷ begun_tail m.view m.owner m.seen ≡ r ∷ performed_tail y.origin y.number (y.past r) = cc e in
        let tag : ◌≡◌ {A = ℕ} 0 1 = ap (λ (t : List ℕ). get_or t 1 0) text in absurd (omega (arith, tag))
    same_there None None None None pa pb ma mb e count = (count, tt)
    same_there None None None (Some n) pa pb ma mb e count = absurd (cc e)
    same_there None None (Some m) None pa pb ma mb e count = absurd (cc e)
    same_there None None (Some m) (Some n) pa pb ma mb e count =
        let text : r ∷ begun_tail m.view m.owner m.seen ≡ r ∷ begun_tail n.view n.owner n.seen = cc e in
        (count, begun_told r m n (let v = ha.small.views r m ma in omega arith) (let v = hb.small.views r n mb in omega arith) text)

  -- A WHOLE SPELLING

  few_left : (entry : Entry Op) → IsHeld entry → (i : ℕ) → without (is_pruned entry.history) (versions entry.history) i < 2 ^ 64
  few_left entry held i = if_holds (λ (n : ℕ). n < 2 ^ 64) (is_pruned entry.history i) 0 (at entry.history i) (omega arith) (let few = held.small.records i in omega arith)

  spelling_tells : {Kind : Type 0} (byte_of : Kind → History Op → ℕ) (history_spelled : Kind → History Op → List ℕ) (kind : Kind) (a b : Entry Op) → IsHeld a → IsHeld b → entry_spelled byte_of history_spelled kind a ≡ entry_spelled byte_of history_spelled kind b
      → (i : ℕ) → i < identity_limit → (at a.history i ≡ at b.history i) × AreSameMark (a.marks i) (b.marks i)
  unfolding entry_spelled
  spelling_tells byte_of history_spelled kind a b ha hb e i l =
      let pieces = λ (x : Entry Op). pieces_spelled (entry_piece x) in
      let numbers = λ (x : Entry Op). numbers_spelled (without (is_pruned x.history) (versions x.history)) in
      let data_of = λ (x : Entry Op). history_spelled kind x.history in
      let text : (pieces a ++ numbers a) ++ data_of a ≡ (pieces b ++ numbers b) ++ data_of b = ap (drop 2) e in
      let regrouped = sym (append_assoc (pieces a) (numbers a) (data_of a)) ∙ text ∙ append_assoc (pieces b) (numbers b) (data_of b) in
      let front = pieces_end (entry_piece a) (entry_piece b) (numbers a ++ data_of a) (numbers b ++ data_of b)
      (λ r p is. piece_named (prune_of a.history r) r (a.marks r) p is) (λ r p is. piece_named (prune_of b.history r) r (b.marks r) p is) regrouped in
      let behind = numbers_end (without (is_pruned a.history) (versions a.history)) (without (is_pruned b.history) (versions b.history)) (data_of a) (data_of b) (few_left a ha) (few_left b hb) front.1 in
      same_there a b ha hb i (prune_of a.history i) (prune_of b.history i) (a.marks i) (b.marks i) refl refl refl refl (front.0 i l) (behind.0 i l)

-- IN A RUN

module _ {Kind Op Shown : Type 0} (D : Replication Kind Op Shown) (few_steps : MakesFewSteps D) (byte_of : Kind → History Op → ℕ) (history_spelled : Kind → History Op → List ℕ) (members : ℕ) (keys : List (KeyDecl Kind)) (events : List (Event Op)) (world : World Kind Op Shown) (is_run : IsRun D members keys events world) where
  held : (i : ℕ) (node : Node Kind Op Shown) (key : Text) → world.nodes i ≡ Some node → IsHeld (node.entries key)
  held i node key runs =
      let safe = runs_are_safe D members keys events world is_run in
      record { small = held_are_small D few_steps members keys events world is_run i node key runs; exact = held_is_pruned D _ _ safe i node key runs; unpruned = safe.good.held i node runs key }

  pub spelled_alike : (i j : ℕ) (a b : Node Kind Op Shown) (decl : KeyDecl Kind) → world.nodes i ≡ Some a → world.nodes j ≡ Some b
      → entry_spelled byte_of history_spelled decl.kind (a.entries decl.name) ≡ entry_spelled byte_of history_spelled decl.kind (b.entries decl.name) → is_unchanged (a.entries decl.name) (b.entries decl.name) ≡ true
  spelled_alike i j a b decl ra rb e =
      let key : Text = decl.name in
      let safe = runs_are_safe D members keys events world is_run in
      let log : History Op = (variables_of D (start members keys) events).made key in
      let part = (safe.logs.held i a key ra).part in
      let part' = (safe.logs.held j b key rb).part in
      let each = spelling_tells byte_of history_spelled decl.kind (a.entries key) (b.entries key) (held i a key ra) (held j b key rb) e in
      let nothing : (H : History Op) → IsPartOf H log → (o : ℕ) → identity_limit ≤ o → H o ≡ [] = λ H of_log o large. of_log o ∙ ap (take (at H o)) ((safe.logs.histories key).within o large) ∙ take_none (at H o) in
      let count : (o : ℕ) → at (a.entries key).history o ≡ at (b.entries key).history o = λ o. elim (cases_lt o identity_limit) [
        | inl small ↦ (each o small).0
        | inr large ↦ ap (λ xs. length xs) (nothing (a.entries key).history part o large) ∙ sym (ap (λ xs. length xs) (nothing (b.entries key).history part' o large))
      ] in
      let same = same_part log (a.entries key).history (b.entries key).history part part' count in
      (unchanged_exactly (a.entries key) (b.entries key) (subst (λ (K : History Op). IsPartOf (a.entries key).history K) same (part_same (a.entries key).history)) (λ o large. nothing (b.entries key).history part' o large)).1
      (same, (λ r l. (each r l).1))
