-- What marks an envelope has, by the prunes and the begun marks of the entry that it stands for.
use Rattle.std.proofs.Common.{◌≡◌, ℕ, zero, suc, ◌+◌, List, [], ◌∷◌, Bool, true, false, Some, None, refl, sym, ap, subst, ◌∙◌, arith}
use Rattle.std.specs.Prelude.{slice_get, find, is_some}
use Rattle.model_history.specs.Vector.{VersionVector, IdentitySet}
use Rattle.model_history.specs.History.{Record, History, Stamped, stamped_from, all_records, is_prune_of, prune_of, HasRecord}
use Rattle.model_history.specs.History.Action.{Prune}
use Rattle.model_history.proofs.PruneLaws.{IsIn, in_flat_map, prune_tells}
use Rattle.model_history.proofs.Bridge.{prune_there, part_record_at, are_pruned, taken_is_history}
use Rattle.model_history.specs.Table.{identities}
use Rattle.model_members.specs.Entry.{Entry}
use Rattle.data_markers.specs.declared.marker.Marker.TheVariants.{Performed}
use Rattle.data_markers.specs.Marks.{mark_of, is_performed, performed_in}
use Rattle.data_envelope.specs.Images.{Parts, StandsFor}

found : {X : Type 0} (p : X → Bool) (xs : List X) (x : X) → find p xs ≡ Some x → IsIn xs x × (p x ≡ true)
found p [] x e = absurd (cc e)
found p (y ∷ xs) x e = go (p y) refl (found p xs x)
  where
    go : (b : Bool) → p y ≡ b → (find p xs ≡ Some x → IsIn xs x × (p x ≡ true)) → IsIn (y ∷ xs) x × (p x ≡ true)
    go true is later = let same : y ≡ x = (let e' = rw is at e in cc e') in ((zero, ap Some same), ap p (sym same) ∙ is)
    go false is later = let e' : find p xs ≡ Some x = rw is at e in let l = later e' in ((suc l.0.0, l.0.1), l.1)

module _ {Op : Type 0} where
  stamp_of : (i n : ℕ) (rs : List (Record Op)) (x : Stamped Op) → IsIn (stamped_from i n rs) x
      → (k : ℕ) × (slice_get rs k ≡ Some (record { action = x.action; past = x.past })) × (x.origin ≡ i) × (x.number ≡ n + k)
  stamp_of i n [] x h = absurd (cc h.1)
  stamp_of i n (r ∷ rs) x (zero, e) =
      let same : record { origin = i; number = n; action = r.action; past = r.past } ≡ x = cc e in
      let number : n ≡ n + 0 = omega arith in
      (zero, ap (λ (y : Stamped Op). Some (record { action = y.action; past = y.past })) same, sym (ap (λ (y : Stamped Op). y.origin) same), sym (ap (λ (y : Stamped Op). y.number) same) ∙ number)
  stamp_of i n (r ∷ rs) x (suc k, e) =
      let h = stamp_of i (suc n) rs x (k, e) in
      let number : suc n + h.0 ≡ n + suc h.0 = omega arith in
      (suc h.0, h.1, h.2, h.3 ∙ number)

  -- the prune that a history has of an identity
  pub prune_is : (H : History Op) (r : ℕ) (x : Stamped Op) → prune_of H r ≡ Some x → (k : ℕ) × HasRecord H x.origin k (record { action = x.action; past = x.past }) × (x.action ≡ Prune r) × (x.number ≡ k + 1)
  prune_is H r x e =
      let f = found (λ (y : Stamped Op). is_prune_of r y.action) (all_records H) x e in
      let member = in_flat_map (λ i. stamped_from i 1 (H i)) identities x f.0 in
      let here = stamp_of member.0 1 (H member.0) x member.2 in
      let number : 1 + here.0 ≡ here.0 + 1 = omega arith in
      (here.0, subst (λ i. slice_get (H i) here.0 ≡ Some (record { action = x.action; past = x.past })) (sym here.2) here.1, prune_tells r x.action f.1, here.3 ∙ number)

module _ {State Op : Type 0} (D : State → History Op → VersionVector → IdentitySet → Type 0) (parts : Parts State) (log : History Op) (entry : Entry Op) (stands : StandsFor D parts log entry) where
  -- an identity with a prune has the mark of it
  pub mark_of_prune : (r : ℕ) (x : Stamped Op) → prune_of entry.history r ≡ Some x → mark_of parts.marks r ≡ Some (Performed x.origin x.number (x.past r))
  mark_of_prune r x e =
      let p = prune_is entry.history r x e in
      let made : Record Op = record { action = x.action; past = x.past } in
      let prunes = prune_there log entry.history stands.taken.part r x.origin p.0 made p.1 p.2 in
      let past = ap (λ (y : Record Op). y.past r) (part_record_at log entry.history stands.taken.part x.origin p.0 made p.1) in
      stands.holds.prunes r x.origin p.0 prunes ∙ ap (λ n. Some (Performed x.origin (p.0 + 1) n)) past ∙ ap (λ n. Some (Performed x.origin n (x.past r))) (sym p.3)

  -- one without has no performed mark
  pub none_performed : (r : ℕ) → prune_of entry.history r ≡ None → is_performed (mark_of parts.marks r) ≡ false
  none_performed r e = go (performed_in parts.marks r) refl
    where
      go : (b : Bool) → performed_in parts.marks r ≡ b → performed_in parts.marks r ≡ false
      go false is = is
      go true is = absurd (
          let m = stands.holds.marked r is in
          let pruned = (are_pruned log entry.history (taken_is_history log entry.history stands.histories stands.taken) stands.taken.part).all r m.0 m.1 m.2 in
          let none : false ≡ true = sym (ap is_some e) ∙ pruned in cc none)
