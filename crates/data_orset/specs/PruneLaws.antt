-- A prune: the owner takes over what was live of the pruned identity.
use Rattle.std.proofs.Common.{◌≡◌, ◌≢◌, ℕ, ◌+◌, ◌<◌, ◌≤◌, Bool, true, false, not, ◌&&◌, List, [], ◌∷◌, cond, nat_eq, arith, refl, ap, sym, ◌∙◌, subst, ⊎_elim}
use Rattle.std.proofs.lemmas.Bool.{cases_Bool, or_cases, or_left, or_right, and_parts, and_from, not-true, eqb-true, eq-eqb}
use Rattle.std.specs.List.{list_any}
use Rattle.std.specs.Str.{bytes_eq}
use Rattle.std.specs.Ordering.{nat_cmp, eq_by_cmp}
use Rattle.std.specs.Cmp.Lexicographic.{slice_cmp}
use Rattle.std.specs.FinSet as set
use Rattle.model_history.specs.Texts.{Text}
use Rattle.model_history.specs.Vector.{VersionVector, IdentitySet, with_member}
use Rattle.model_history.specs.History.{History}
use Rattle.model_history.specs.History.Action.{Prune}
use Rattle.model_history.specs.Cuts.{action_of, past_of, grown, IsNext, IsPrunedCut}
use Rattle.model_history.proofs.CutLaws.{with_at_is, with_at-le, with_member_is, with_member_other, IsConsistentCut-grown, new_or_old, both_ways}
use Rattle.base_vectors.specs.declared.id.Dot.{Dot}
use Rattle.model_kinds.specs.declared.operation.Op.{Op}
use Rattle.base_bytes.proofs.TextLaws.{eq_texts, texts_eq}
use Rattle.data_orset.specs.Placing.{key}
use Rattle.data_orset.specs.Dots.{Dots, is_dot_of, has_dot_of, is_touched, moved, set_pruned}
use Rattle.data_orset.specs.DotLaws.{same_item, itself, key_parts, same_key, some_dot, dot_of_any, contains-pruned}
use Rattle.data_orset.specs.Live.{Touches, Adds, IsLive, TouchesBy}
use Rattle.data_orset.specs.LiveLaws.{Touches-opens}
use Rattle.data_orset.specs.DataOf.{AreLiveDots}

-- a dot of the identity is a live record of it
dot_live : (state : Dots) (log : History Op) (held : VersionVector) (gone : IdentitySet) (id : ℕ) (e : Text) → AreLiveDots state log held gone → has_dot_of state id e ≡ true → (k : ℕ) × IsLive log e held id k
dot_live state log held gone id e p t =
    let f = dot_of_any state (is_dot_of e id) t in
    let shape = p.shaped f.0 f.1 in
    let test = and_parts _ _ (ap (is_dot_of e id) (sym shape.3) ∙ f.2) in
    let l = p.live shape.0 shape.1 shape.2 (ap (set.contains state) (sym shape.3) ∙ f.1) in
    (shape.2, subst (λ z. IsLive log e held z shape.2) (eqb-true shape.1 id test.0) (subst (λ z. IsLive log z held shape.1 shape.2) (sym (eq_texts e shape.0 test.1)) l.1))

-- THE MOVED DOTS

-- the keys after one of the removed identity's or another's
abbrev after_one : ℕ → Dot → Text → List (List ℕ) → Bool → List (List ℕ)
after_one id dot f xs b = cond b (key f dot.origin dot.seq ∷ moved id dot xs) (moved id dot xs)

pub moved_from : (id : ℕ) (dot : Dot) (q : List ℕ) (xs : List (List ℕ)) → list_any (eq_by_cmp (slice_cmp nat_cmp) q) (moved id dot xs) ≡ true → (e : Text) × (q ≡ key e dot.origin dot.seq) × (list_any (is_dot_of e id) xs ≡ true)
moved_from id dot q [] c = absurd (cc c)
moved_from id dot q ([] ∷ xs) c = let f = moved_from id dot q xs c in (f.0, f.1, f.2)
moved_from id dot q ((o ∷ []) ∷ xs) c = let f = moved_from id dot q xs c in (f.0, f.1, f.2)
moved_from id dot q ((o ∷ s ∷ a) ∷ xs) c = ⊎_elim
    (λ (t : nat_eq o id ≡ true). ⊎_elim
    (λ (x : eq_by_cmp (slice_cmp nat_cmp) q (key a dot.origin dot.seq) ≡ true). (a, same_item q _ x, or_left _ _ (and_from _ _ t (texts_eq a))))
    (λ (x : list_any (eq_by_cmp (slice_cmp nat_cmp) q) (moved id dot xs) ≡ true). let f = moved_from id dot q xs x in (f.0, f.1, or_right _ _ f.2))
    (or_cases _ _ (sym (ap (λ b. list_any (eq_by_cmp (slice_cmp nat_cmp) q) (after_one id dot a xs b)) t) ∙ c)))
    (λ (t : nat_eq o id ≡ false).
    let f = moved_from id dot q xs (sym (ap (λ b. list_any (eq_by_cmp (slice_cmp nat_cmp) q) (after_one id dot a xs b)) t) ∙ c) in
    (f.0, f.1, or_right _ _ f.2)) (cases_Bool (nat_eq o id))

pub moved_to : (id : ℕ) (dot : Dot) (e : Text) (xs : List (List ℕ)) → list_any (is_dot_of e id) xs ≡ true → list_any (eq_by_cmp (slice_cmp nat_cmp) (key e dot.origin dot.seq)) (moved id dot xs) ≡ true
moved_to id dot e [] c = absurd (cc c)
moved_to id dot e ([] ∷ xs) c = moved_to id dot e xs c
moved_to id dot e ((o ∷ []) ∷ xs) c = moved_to id dot e xs c
moved_to id dot e ((o ∷ s ∷ a) ∷ xs) c = ⊎_elim
    (λ (t : nat_eq o id ≡ true). ap (λ b. list_any (eq_by_cmp (slice_cmp nat_cmp) (key e dot.origin dot.seq)) (after_one id dot a xs b)) t ∙ ⊎_elim
    (λ (x : (nat_eq o id && bytes_eq e a) ≡ true).
    or_left _ _ (subst (λ z. eq_by_cmp (slice_cmp nat_cmp) (key e dot.origin dot.seq) (key z dot.origin dot.seq) ≡ true) (eq_texts e a (and_parts _ _ x).1) (itself (key e dot.origin dot.seq))))
    (λ (x : list_any (is_dot_of e id) xs ≡ true). or_right _ _ (moved_to id dot e xs x)) (or_cases _ _ c))
    (λ (t : nat_eq o id ≡ false). ap (λ b. list_any (eq_by_cmp (slice_cmp nat_cmp) (key e dot.origin dot.seq)) (after_one id dot a xs b)) t ∙ ⊎_elim
    (λ (x : (nat_eq o id && bytes_eq e a) ≡ true). absurd (both_ways _ (and_parts _ _ x).0 t))
    (λ (x : list_any (is_dot_of e id) xs ≡ true). moved_to id dot e xs x) (or_cases _ _ c)) (cases_Bool (nat_eq o id))

-- THE LAW

pub data_pruned : (state : Dots) (log : History Op) (held : VersionVector) (gone : IdentitySet) (id : ℕ) (dot : Dot) → IsPrunedCut log held gone → gone dot.origin ≡ false → IsNext log held dot.origin (Prune id) → dot.seq ≡ held dot.origin + 1
    → AreLiveDots state log held gone → (id ≡ dot.origin → ⊥) → gone id ≡ false → AreLiveDots (set_pruned state id dot) log (grown held dot.origin) (with_member gone id)
data_pruned state log held gone id dot h stays n seq p ne unpruned =
    let up : (i : ℕ) → held i ≤ grown held dot.origin i = λ i. with_at-le held dot.origin (held dot.origin + 1) i (omega arith) in
    let there : held dot.origin < grown held dot.origin dot.origin = (let y = with_at_is held dot.origin (held dot.origin + 1) dot.origin refl in omega arith) in
    let grows = IsConsistentCut-grown log held dot.origin (Prune id) h.cut n in
    let here : (i : ℕ) → held i ≡ past_of log dot.origin (held dot.origin) i = λ i. sym (n.past i) in
    let opens : (e : Text) → (Touches log e dot.origin (held dot.origin) → (k : ℕ) × IsLive log e held id k) × (((k : ℕ) × IsLive log e held id k) → Touches log e dot.origin (held dot.origin)) = λ e.
    let o = Touches-opens log e (grown held dot.origin) dot.origin (held dot.origin) grows there in (
      (λ t. let u = subst (TouchesBy log e (past_of log dot.origin (held dot.origin))) n.action (o.0 t) in (u.0, subst (λ z. IsLive log e z id u.0) (λ j i. n.past i j) u.1)),
      (λ u. o.1 (subst (TouchesBy log e (past_of log dot.origin (held dot.origin))) (sym n.action) (u.0, subst (λ z. IsLive log e z id u.0) (λ j i. here i j) u.1))),
    ) in
    let touching : (e : Text) → has_dot_of state id e ≡ true → Touches log e dot.origin (held dot.origin) = λ e t. (opens e).1 (dot_live state log held gone id e p t) in
    let touched_by : (e : Text) → Touches log e dot.origin (held dot.origin) → has_dot_of state id e ≡ true = λ e t. let u = (opens e).0 t in
    some_dot state (is_dot_of e id) (key e id (u.0 + 1)) (p.all e id u.0 unpruned u.1) (and_from _ _ (eq-eqb id id refl) (texts_eq e)) in
    record {
      live = λ e by k c. ⊎_elim
          (λ (a : (set.contains state (key e by (k + 1)) && not (is_touched state id (key e by (k + 1)))) ≡ true).
          let both = and_parts _ _ a in
          let l = p.live e by k both.0 in
          let untouched_e : has_dot_of state id e ≡ false = not-true (has_dot_of state id e) both.1 in
          let apart : by ≢ id = λ same. both_ways _ (some_dot state (is_dot_of e id) (key e by (k + 1)) both.0 (and_from _ _ (eq-eqb by id same) (texts_eq e))) untouched_e in (
            with_member_other gone id by apart ∙ l.0,
            record {
              within = (let w = l.1.within in let y = up by in omega arith);
              adds = l.1.adds;
              untouched = λ o' k' m t b. ⊎_elim
                  (λ (new : (o' ≡ dot.origin) × (k' ≡ held dot.origin)).
                  both_ways _ (touched_by e (subst (Touches log e dot.origin) new.1 (subst (λ z. Touches log e z k') new.0 t))) untouched_e)
                  (λ (old : k' < held o'). l.1.untouched o' k' old t b) (new_or_old log held dot.origin o' k' m);
            },
          ))
          (λ (b : list_any (eq_by_cmp (slice_cmp nat_cmp) (key e by (k + 1))) (moved id dot (set.items state)) ≡ true).
          let f = moved_from id dot (key e by (k + 1)) (set.items state) b in
          let parts = key_parts e by (k + 1) f.0 dot.origin dot.seq f.1 in
          let at : k ≡ held dot.origin = (let q = parts.2 in omega arith) in
          let t : Touches log e dot.origin (held dot.origin) = touching e (subst (λ z. has_dot_of state id z ≡ true) (sym parts.0) f.2) in
          let new_live : IsLive log e (grown held dot.origin) dot.origin (held dot.origin) = record {
            within = there;
            adds = subst (Adds log e dot.origin (held dot.origin)) (sym n.action) t;
            untouched = λ o' k' m u r. ⊎_elim
                (λ (new : (o' ≡ dot.origin) × (k' ≡ held dot.origin)).
                let q : past_of log o' k' dot.origin ≡ held dot.origin = ap (λ z. past_of log z k' dot.origin) new.0 ∙ ap (λ z. past_of log dot.origin z dot.origin) new.1 ∙ n.past dot.origin in omega arith)
                (λ (old : k' < held o'). let q = h.cut.closed o' k' dot.origin old in omega arith) (new_or_old log held dot.origin o' k' m);
          } in
          (with_member_other gone id by (λ same. ne (sym same ∙ parts.1)) ∙ ap gone parts.1 ∙ stays, subst (λ z. IsLive log e (grown held dot.origin) z k) (sym parts.1) (subst (λ z. IsLive log e (grown held dot.origin) dot.origin z) (sym at) new_live)))
          (or_cases _ _ (sym (contains-pruned state id dot (key e by (k + 1))) ∙ c));
      all = λ e by k q l. contains-pruned state id dot (key e by (k + 1)) ∙ ⊎_elim
          (λ (new : (by ≡ dot.origin) × (k ≡ held dot.origin)).
          let t : Touches log e dot.origin (held dot.origin) = subst (Adds log e dot.origin (held dot.origin)) n.action
          (subst (λ z. Adds log e dot.origin z (action_of log dot.origin z)) new.1 (subst (λ z. Adds log e z k (action_of log z k)) new.0 l.adds)) in
          or_right _ _ (subst (λ z. list_any (eq_by_cmp (slice_cmp nat_cmp) z) (moved id dot (set.items state)) ≡ true)
          (same_key e e dot.origin dot.seq (k + 1) refl (let z = new.1 in omega arith) ∙ ap (λ z. key e z (k + 1)) (sym new.0)) (moved_to id dot e (set.items state) (touched_by e t))))
          (λ (old : k < held by).
          let before : IsLive log e held by k = record { within = old; adds = l.adds; untouched = λ o' k' m t b. l.untouched o' k' (let y = up o' in omega arith) t b } in
          let apart : by ≢ id = λ same. both_ways _ (with_member_is gone id by same) q in
          let untouched_e : has_dot_of state id e ≡ false = ⊎_elim
          (λ (t : has_dot_of state id e ≡ true). absurd (l.untouched dot.origin (held dot.origin) there (touching e t) (let z = n.past by in omega arith)))
          (λ (t : has_dot_of state id e ≡ false). t) (cases_Bool (has_dot_of state id e)) in
          or_left _ _ (and_from _ _ (p.all e by k (sym (with_member_other gone id by apart) ∙ q) before) (ap not untouched_e))) (new_or_old log held dot.origin by k l.within);
      shaped = λ y c. ⊎_elim
          (λ (a : (set.contains state y && not (is_touched state id y)) ≡ true). p.shaped y (and_parts _ _ a).0)
          (λ (b : list_any (eq_by_cmp (slice_cmp nat_cmp) y) (moved id dot (set.items state)) ≡ true).
          let f = moved_from id dot y (set.items state) b in (f.0, dot.origin, held dot.origin, f.1 ∙ same_key f.0 f.0 dot.origin dot.seq (held dot.origin + 1) refl seq))
          (or_cases _ _ (sym (contains-pruned state id dot y) ∙ c));
    }
