-- Consistent cuts grow record by record, and join.
use Rattle.std.proofs.Common.{◌≡◌, ◌≢◌, ℕ, ◌+◌, ◌<◌, ◌≤◌, ◌⊎◌, Bool, true, false, cond, max, nat_eq, rules, arith, refl, ap, sym, ◌∙◌, subst, ⊎_elim, inl, inr}
use Rattle.std.proofs.lemmas.Bool.{cases_eq, cases_lt}
use Rattle.model_history.specs.Table.{identity_limit, with_at}
use Rattle.model_history.specs.Vector.{VersionVector, IdentitySet, join, with_member}
use Rattle.model_history.specs.History.{Action, History, at}
use Rattle.model_history.specs.History.Action.{Operation, Prune}
use Rattle.model_history.specs.Cuts.{without, action_of, past_of, IsConsistentCut, IsNext, Prunes, HasExactPrunes, grown}
use Rattle.model_history.proofs.HistoryLaws.{with_at_other}

pub with_at_is : {X : Type 0} (table : ℕ → X) (i : ℕ) (x : X) (j : ℕ) → j ≡ i → with_at table i x j ≡ x
with_at_is table i x j e = let u : nat_eq j i ≡ true = grind rules in rw u refl

pub with_member_is : (set : IdentitySet) (id i : ℕ) → i ≡ id → with_member set id i ≡ true
with_member_is set id i e = let u : nat_eq i id ≡ true = grind rules in rw u refl

pub with_member_other : (set : IdentitySet) (id i : ℕ) → i ≢ id → with_member set id i ≡ set i
with_member_other set id i ne = let u : nat_eq i id ≡ false = grind rules in rw u refl

pub with_at-le : (held : VersionVector) (id to i : ℕ) → held id ≤ to → held i ≤ with_at held id to i
with_at-le held id to i l = ⊎_elim (λ (e : i ≡ id). let p : with_at held id to i ≡ to = with_at_is held id to i e in let q : held i ≡ held id = ap held e in omega arith)
    (λ (ne : i ≢ id). let p : with_at held id to i ≡ held i = with_at_other held id to i ne in omega arith) (cases_eq i id)

pub IsConsistentCut-empty : {Op : Type 0} (log : History Op) (held : VersionVector) → ((i : ℕ) → held i ≡ 0) → IsConsistentCut log held
IsConsistentCut-empty log held none = record {
  made = λ i. let z = none i in omega arith;
  own = λ i k l. absurd (let z = none i in omega arith);
  closed = λ i k j l. absurd (let z = none i in omega arith);
  transitive = λ i k j m n l. absurd (let z = none i in omega arith);
  few = λ i l. none i;
}

-- a record of the grown history is the new one or an old one
pub new_or_old : {Op : Type 0} (log : History Op) (held : VersionVector) (id i k : ℕ) → k < grown held id i → ((i ≡ id) × (k ≡ held id)) ⊎ (k < held i)
new_or_old log held id i k l = ⊎_elim
    (λ (e : i ≡ id). let p : grown held id i ≡ held id + 1 = with_at_is held id (held id + 1) i e in let q : held i ≡ held id = ap held e in
    ⊎_elim (λ (x : k < held i). inr x) (λ (x : held i ≤ k). inl (e, omega arith)) (cases_lt k (held i)))
    (λ (ne : i ≢ id). let p : grown held id i ≡ held i = with_at_other held id (held id + 1) i ne in inr (omega arith)) (cases_eq i id)

pub IsConsistentCut-grown : {Op : Type 0} (log : History Op) (held : VersionVector) (id : ℕ) (next : Action Op) → IsConsistentCut log held → IsNext log held id next → IsConsistentCut log (grown held id)
IsConsistentCut-grown log held id next h n = record {
  made = λ i. ⊎_elim
      (λ (e : i ≡ id). let m = n.made in subst (λ j. grown held id j ≤ at log j) (sym e) (let p = with_at_is held id (held id + 1) id refl in omega arith))
      (λ (ne : i ≢ id). let m = h.made i in let p = with_at_other held id (held id + 1) i ne in omega arith) (cases_eq i id);
  own = λ i k l. ⊎_elim
      (λ (e : (i ≡ id) × (k ≡ held id)). subst (λ x. past_of log x k x ≡ k) (sym e.0) (subst (λ y. past_of log id y id ≡ y) (sym e.1) (n.past id)))
      (λ (o : k < held i). h.own i k o) (new_or_old log held id i k l);
  closed = λ i k j l. let up : held j ≤ grown held id j = with_at-le held id (held id + 1) j (omega arith) in ⊎_elim
      (λ (e : (i ≡ id) × (k ≡ held id)). let p : past_of log i k j ≡ held j = subst (λ x. past_of log x k j ≡ held j) (sym e.0) (subst (λ y. past_of log id y j ≡ held j) (sym e.1) (n.past j)) in omega arith)
      (λ (o : k < held i). let p = h.closed i k j o in omega arith) (new_or_old log held id i k l);
  transitive = λ i k j m t l b. ⊎_elim
      (λ (e : (i ≡ id) × (k ≡ held id)).
      let same : (x : ℕ) → past_of log i k x ≡ held x = λ x. subst (λ u. past_of log u k x ≡ held x) (sym e.0) (subst (λ y. past_of log id y x ≡ held x) (sym e.1) (n.past x)) in
      let inside : m < held j = subst (λ y. m < y) (same j) b in
      let p = h.closed j m t inside in subst (λ y. past_of log j m t ≤ y) (sym (same t)) p)
      (λ (o : k < held i). h.transitive i k j m t o b) (new_or_old log held id i k l);
  few = λ i l. let ne : i ≢ id = λ e. (let m = n.member in omega arith) in with_at_other held id (held id + 1) i ne ∙ h.few i l;
}

pub in_either : (k a b : ℕ) → k < max a b → (k < a) ⊎ (k < b)
in_either k a b l = ⊎_elim (λ (x : k < a). inl x) (λ (x : a ≤ k). inr (omega arith)) (cases_lt k a)

pub IsConsistentCut-join : {Op : Type 0} (log : History Op) (held also : VersionVector) → IsConsistentCut log held → IsConsistentCut log also → IsConsistentCut log (join held also)
IsConsistentCut-join log held also p q = record {
  made = λ i. let x = p.made i in let y = q.made i in omega arith;
  own = λ i k l. ⊎_elim (λ (x : k < held i). p.own i k x) (λ (x : k < also i). q.own i k x) (in_either k (held i) (also i) l);
  closed = λ i k j l. ⊎_elim (λ (x : k < held i). let y = p.closed i k j x in omega arith) (λ (x : k < also i). let y = q.closed i k j x in omega arith) (in_either k (held i) (also i) l);
  transitive = λ i k j m t l b. ⊎_elim (λ (x : k < held i). p.transitive i k j m t x b) (λ (x : k < also i). q.transitive i k j m t x b) (in_either k (held i) (also i) l);
  few = λ i l. ap (λ n. max n (also i)) (p.few i l) ∙ ap (max 0) (q.few i l);
}

-- a prune of the grown history is the new record or stood before
pub new_or_old_prune : {Op : Type 0} (log : History Op) (held : VersionVector) (id removed owner index : ℕ) → Prunes log (grown held id) removed owner index
    → ((owner ≡ id) × (index ≡ held id)) ⊎ Prunes log held removed owner index
new_or_old_prune log held id removed owner index p = ⊎_elim
    (λ (e : (owner ≡ id) × (index ≡ held id)). inl e)
    (λ (l : index < held owner). inr (record { within = l; action = p.action })) (new_or_old log held id owner index p.within)

pub prune_stays : {Op : Type 0} (log : History Op) (held more : VersionVector) (removed owner index : ℕ) → held owner ≤ more owner → Prunes log held removed owner index → Prunes log more removed owner index
prune_stays log held more removed owner index l p = record { within = (let w = p.within in omega arith); action = p.action }

pub not_update : {Op : Type 0} (op : Op) (r : ℕ) → ◌≡◌ {A = Action Op} (Operation op) (Prune r) → ⊥
not_update op r e = cc

pub same_removed : {Op : Type 0} (r s : ℕ) → ◌≡◌ {A = Action Op} (Prune r) (Prune s) → r ≡ s
same_removed r s e = cc

-- the new record's action
new_action : {Op : Type 0} (log : History Op) (held : VersionVector) (id owner index : ℕ) (next act : Action Op) → IsNext log held id next → owner ≡ id → index ≡ held id → action_of log owner index ≡ act → next ≡ act
new_action log held id owner index next act n e f a = sym n.action ∙ sym (ap (λ x. action_of log x index) e ∙ ap (action_of log id) f) ∙ a

-- what stays is counted as before
pub uncleaned : (gone : IdentitySet) (held : VersionVector) (i : ℕ) → gone i ≡ false → without gone held i ≡ held i
uncleaned gone held i g = ap (λ b. cond b 0 (held i)) g

-- a test has one answer
pub both_ways : (b : Bool) → b ≡ true → b ≡ false → ⊥
both_ways b t f = cc

pub old_prune_of_update : {Op : Type 0} (log : History Op) (held : VersionVector) (id : ℕ) (op : Op) (removed owner index : ℕ) → IsNext log held id (Operation op) → Prunes log (grown held id) removed owner index → Prunes log held removed owner index
old_prune_of_update log held id op removed owner index n p = ⊎_elim
    (λ (e : (owner ≡ id) × (index ≡ held id)). absurd (not_update op removed (new_action log held id owner index (Operation op) (Prune removed) n e.0 e.1 p.action)))
    (λ (q : Prunes log held removed owner index). q) (new_or_old_prune log held id removed owner index p)

pub HasExactPrunes-updated : {Op : Type 0} (log : History Op) (held : VersionVector) (gone : ℕ → Bool) (id : ℕ) (op : Op) → IsNext log held id (Operation op) → gone id ≡ false → ((r o k : ℕ) → Prunes log held r o k → gone r ≡ true)
    → HasExactPrunes log held → HasExactPrunes log (grown held id)
HasExactPrunes-updated log held gone id op n kept all x =
    let old : (r o k : ℕ) → Prunes log (grown held id) r o k → Prunes log held r o k = λ r o k p. old_prune_of_update log held id op r o k n p in
    record {
      once = λ r o k o' k' p q. x.once r o k o' k' (old r o k p) (old r o' k' q);
      frozen = λ r o k p. let ne : r ≢ id = λ e. both_ways (gone r) (all r o k (old r o k p)) (ap gone e ∙ kept) in with_at_other held id (held id + 1) r ne ∙ x.frozen r o k (old r o k p);
      other = λ r o k p. x.other r o k (old r o k p);
    }

pub HasExactPrunes-pruned : {Op : Type 0} (log : History Op) (held : VersionVector) (gone : ℕ → Bool) (id removed : ℕ) → IsNext log held id (Prune removed) → gone id ≡ false → ((r o k : ℕ) → Prunes log held r o k → gone r ≡ true) → gone removed ≡ false → removed ≢ id
    → HasExactPrunes log held → HasExactPrunes log (grown held id)
HasExactPrunes-pruned log held gone id removed n kept all stays ne x =
    let which : (r o k : ℕ) → Prunes log (grown held id) r o k → ((o ≡ id) × (k ≡ held id) × (r ≡ removed)) ⊎ Prunes log held r o k = λ r o k p. ⊎_elim
    (λ (e : (o ≡ id) × (k ≡ held id)). inl (e.0, e.1, same_removed r removed (sym (new_action log held id o k (Prune removed) (Prune r) n e.0 e.1 p.action))))
    (λ (q : Prunes log held r o k). inr q) (new_or_old_prune log held id r o k p) in
    let never : (r o k : ℕ) → Prunes log held r o k → r ≢ removed = λ r o k p e. both_ways (gone r) (all r o k p) (ap gone e ∙ stays) in
    record {
      once = λ r o k o' k' p q. ⊎_elim
          (λ (e : (o ≡ id) × (k ≡ held id) × (r ≡ removed)). ⊎_elim
          (λ (f : (o' ≡ id) × (k' ≡ held id) × (r ≡ removed)). (e.0 ∙ sym f.0, e.1 ∙ sym f.1))
          (λ (f : Prunes log held r o' k'). absurd (never r o' k' f e.2)) (which r o' k' q))
          (λ (e : Prunes log held r o k). ⊎_elim
          (λ (f : (o' ≡ id) × (k' ≡ held id) × (r ≡ removed)). absurd (never r o k e f.2))
          (λ (f : Prunes log held r o' k'). x.once r o k o' k' e f) (which r o' k' q)) (which r o k p);
      frozen = λ r o k p. ⊎_elim
          (λ (e : (o ≡ id) × (k ≡ held id) × (r ≡ removed)). with_at_other held id (held id + 1) r (λ same. ne (sym e.2 ∙ same))
          ∙ subst (λ u. held r ≡ past_of log u k r) (sym e.0) (subst (λ u. held r ≡ past_of log id u r) (sym e.1) (sym (n.past r))))
          (λ (e : Prunes log held r o k). with_at_other held id (held id + 1) r (λ same. both_ways (gone r) (all r o k e) (ap gone same ∙ kept)) ∙ x.frozen r o k e) (which r o k p);
      other = λ r o k p. ⊎_elim
          (λ (e : (o ≡ id) × (k ≡ held id) × (r ≡ removed)). λ same. ne (sym e.2 ∙ same ∙ e.0))
          (λ (e : Prunes log held r o k). x.other r o k e) (which r o k p);
    }

pub prune_in_either : {Op : Type 0} (log : History Op) (held also : VersionVector) (removed owner index : ℕ) → Prunes log (join held also) removed owner index → Prunes log held removed owner index ⊎ Prunes log also removed owner index
prune_in_either log held also removed owner index p = ⊎_elim (λ (l : index < held owner). inl (record { within = l; action = p.action })) (λ (l : index < also owner). inr (record { within = l; action = p.action })) (in_either index (held owner) (also owner) p.within)

-- who has what the last record of a group needs can take the group: earlier records of an origin need no more
pub IsConsistentCut-group : {Op : Type 0} (log : History Op) (held sender : VersionVector) (origin last : ℕ) → IsConsistentCut log held → IsConsistentCut log sender → last < sender origin → held origin ≤ last
    → ((i : ℕ) → i ≢ origin → past_of log origin last i ≤ held i) → IsConsistentCut log (with_at held origin (last + 1))
IsConsistentCut-group log held sender origin last h s l b needs =
    let few : origin < identity_limit = ⊎_elim (λ (x : origin < identity_limit). x) (λ (x : identity_limit ≤ origin). absurd (let z = s.few origin x in omega arith)) (cases_lt origin identity_limit) in
    let own : (k : ℕ) → k < last + 1 → past_of log origin k origin ≡ k = λ k x. s.own origin k (omega arith) in
    let which : (i k : ℕ) → k < with_at held origin (last + 1) i → ((i ≡ origin) × (k < last + 1)) ⊎ (k < held i) = λ i k x. ⊎_elim
    (λ (e : i ≡ origin). inl (e, subst (λ y. k < y) (with_at_is held origin (last + 1) i e) x))
    (λ (ne : i ≢ origin). inr (subst (λ y. k < y) (with_at_other held origin (last + 1) i ne) x)) (cases_eq i origin) in
    let most : (k j : ℕ) → k < last + 1 → past_of log origin k j ≤ past_of log origin last j = λ k j x. ⊎_elim
    (λ (e : k ≡ last). subst (λ y. past_of log origin k j ≤ past_of log origin y j) e (omega arith))
    (λ (ne : k ≢ last). s.transitive origin last origin k j l (let y = s.own origin last l in omega arith)) (cases_eq k last) in
    record {
      made = λ i. ⊎_elim
          (λ (e : i ≡ origin). let x = s.made origin in subst (λ j. with_at held origin (last + 1) j ≤ at log j) (sym e) (let p = with_at_is held origin (last + 1) origin refl in omega arith))
          (λ (ne : i ≢ origin). let x = h.made i in let p = with_at_other held origin (last + 1) i ne in omega arith) (cases_eq i origin);
      own = λ i k x. ⊎_elim
          (λ (e : (i ≡ origin) × (k < last + 1)). subst (λ y. past_of log y k y ≡ k) (sym e.0) (own k e.1))
          (λ (o : k < held i). h.own i k o) (which i k x);
      closed = λ i k j x. ⊎_elim
          (λ (e : (i ≡ origin) × (k < last + 1)). subst (λ y. past_of log y k j ≤ with_at held origin (last + 1) j) (sym e.0) (⊎_elim
          (λ (f : j ≡ origin). let p : with_at held origin (last + 1) j ≡ last + 1 = with_at_is held origin (last + 1) j f in let q : past_of log origin k j ≡ k = subst (λ y. past_of log origin k y ≡ k) (sym f) (own k e.1) in let m = e.1 in omega arith)
          (λ (ne : j ≢ origin). let p : with_at held origin (last + 1) j ≡ held j = with_at_other held origin (last + 1) j ne in let q = most k j e.1 in let r = needs j ne in omega arith) (cases_eq j origin)))
          (λ (o : k < held i). let p = h.closed i k j o in let q = with_at-le held origin (last + 1) j (omega arith) in omega arith) (which i k x);
      transitive = λ i k j m t x y. ⊎_elim
          (λ (e : (i ≡ origin) × (k < last + 1)). s.transitive i k j m t (subst (λ z. k < sender z) (sym e.0) (let q = e.1 in omega arith)) y)
          (λ (o : k < held i). h.transitive i k j m t o y) (which i k x);
      few = λ i x. let ne : i ≢ origin = λ e. omega arith in with_at_other held origin (last + 1) i ne ∙ h.few i x;
    }
