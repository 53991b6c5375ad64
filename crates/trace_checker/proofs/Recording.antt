-- What the checker keeps, after a record and after what a member holds changed.
use Rattle.std.proofs.Common.{◌≡◌, ◌≢◌, ℕ, zero, suc, ◌+◌, ◌<◌, List, [], ◌∷◌, ◌++◌, length, map, max, refl, sym, ap, subst, ◌∙◌, arith, true, false, Some, inl, inr}
use Rattle.std.specs.Prelude.{◌==◌, ◌&&◌, if◌then◌else◌, slice_get, Result, Ok, Err, OnOk}
use Rattle.std.proofs.lemmas.Bool.{cases_lt}
use Rattle.std.proofs.lemmas.Bool.Decides.{eqb_tells}
use Rattle.std.proofs.lemmas.List.{map-append}
use Rattle.model_history.specs.Table.{identity_limit, with_at}
use Rattle.model_history.specs.Vector.{VersionVector}
use Rattle.model_history.specs.History.{Action, Record as Meant, History, at, versions, cut, no_records, stamped_from, HasRecord, IsHistory}
use Rattle.model_history.specs.Log.{IsTakenFrom}
use Rattle.model_history.specs.History.Action.{Operation, Prune}
use Rattle.model_history.proofs.HistoryLaws.{with_at_same, with_at_other, has_with_record, slice_get-push}
use Rattle.model_history.proofs.PartLaws.{in_whole, part_with_record}
use Rattle.model_history.proofs.Bridge.{versions-with_record}
use Rattle.model_meanings.specs.Growing.{is_operation}
use Rattle.model_kinds.specs.SixKinds.{six_kinds, is_delete}
use Rattle.model_kinds.specs.declared.operation.Op.{Op}
use Rattle.base_vectors.specs.Vectors.{Numbers, IsNormal, raised, number_at}
use Rattle.base_vectors.specs.declared.id.Dot.{Dot}
use Rattle.base_vectors.proofs.Laws.{number_at-raised_same, number_at-raised_other, number_at_above, number_at-empty, IsNormal-numbers_of}
use Rattle.data_meaning.specs.declared.record.Action.{Action as CodeAction}
use Rattle.data_meaning.specs.declared.record.Record.{Record}
use Rattle.data_meaning.specs.Records.{stamped, action_of}
use Rattle.model_kinds.specs.ShownText.{shown_text}
use Rattle.model_traces.specs.Traces.{recorded, covers, is_closed, made_after, held_after, may_hold}
use Rattle.model_traces.specs.Traces.Act.{Holds}
use Rattle.model_traces.proofs.Tests.{first_true, second_true}
use Rattle.trace_lines.specs.Meant.{act_meant}
use Rattle.trace_lines.specs.declared.trace.TraceAct.{TraceAct}
use Rattle.trace_lines.specs.declared.trace.TraceAct.TheVariants.{Hold}
use Rattle.trace_checker.specs.declared.key_history.KeyHistory.{KeyHistory}
use Rattle.trace_checker.specs.declared.prunes.PruneMade.{PruneMade}
use Rattle.trace_checker.specs.Standing.{AreKept, StandsForKey, IsAdded}
use Rattle.trace_checker.specs.Rows.{vector_of, IsPut}
use Rattle.trace_values.specs.Rows.{row_of, AreRows, IsPushed}
use Rattle.trace_values.specs.Standing.{StandForValues}
use Rattle.trace_checker.specs.Prunes.{IsPruneOf, ArePrunes, IsDeleteOf, AreDeletes}
use Rattle.trace_checker.proofs.Cutting.{cut_counts}
use Rattle.trace_values.proofs.RowLaws.{stamped-push}

-- a table that differs at one place
at_one : {X : Type 0} (f g : ℕ → X) (i : ℕ) (x : X) → ((j : ℕ) → g j ≡ (if j == i then x else f j)) → g ≡ with_at f i x
at_one f g i x h = λ k j. h j k

-- A RECORD

module _ (made : History Op) (i : ℕ) (H : History Op) (own : H i ≡ made i) (action : Action Op) where
  abbrev next : Meant Op
  next = record { action = action; past = versions H }

  abbrev then_made : History Op
  then_made = recorded made i H action

  -- the row of the origin has one record more
  pub rows_then : (old new : List (List Record)) (r : Record) → AreRows old made → IsPushed old new i r → r.origin ≡ i → r.number ≡ at made i + 1 → action_of r.action ≡ action → number_at r.past ≡ versions H → AreRows new then_made
  rows_then old new r are pushed origin number act past j = elim (eqb_tells j i) [
    | inl is ↦
        ap (map stamped) (pushed j ∙ ap (λ b. if b then row_of old j ++ r ∷ [] else row_of old j) is.0) ∙ map-append stamped (row_of old j) (r ∷ [])
        ∙ ap (λ xs. xs ++ stamped r ∷ []) (are j) ∙ ap (λ x. stamped_from j 1 (made j) ++ x ∷ []) (same is.1)
        ∙ sym (stamped-push j 1 (made j) next) ∙ ap (stamped_from j 1) (sym (ap then_made is.1 ∙ with_at_same made i (made i ++ next ∷ []) ∙ ap (λ k. made k ++ next ∷ []) (sym is.1)))
    | inr isnt ↦
        ap (map stamped) (pushed j ∙ ap (λ b. if b then row_of old j ++ r ∷ [] else row_of old j) isnt.0) ∙ are j
        ∙ ap (stamped_from j 1) (sym (with_at_other made i (made i ++ next ∷ []) j isnt.1))
  ]
    where
      same : j ≡ i → stamped r ≡ record { origin = j; number = 1 + length (made j); action = action; past = versions H }
      same is =
          let number_is : r.number ≡ 1 + length (made j) = (let e : at made j ≡ at made i = ap (at made) is in omega (arith, number, e)) in
          λ k. record { origin = (origin ∙ sym is) k; number = number_is k; action = act k; past = past k }

  -- the member holds one record more of its own
  pub vectors_then : (held : ℕ → History Op) (old new : List Numbers) (n : ℕ) → held i ≡ H → i < identity_limit → ((j : ℕ) → number_at (vector_of old j) ≡ versions (held j)) → n ≡ at H i + 1 → IsNormal (vector_of old i) → IsPut old new i (raised (vector_of old i) i n)
      → (j : ℕ) → number_at (vector_of new j) ≡ versions (with_at held i (recorded H i H action) j)
  vectors_then held old new n is small are next_is normal put j = elim (eqb_tells j i) [
    | inl same ↦
        ap number_at (put j ∙ ap (λ b. if b then raised (vector_of old i) i n else vector_of old j) same.0) ∙ at_own
        ∙ sym (ap versions (ap (with_at held i (recorded H i H action)) same.1 ∙ with_at_same held i (recorded H i H action)))
    | inr other ↦
        ap number_at (put j ∙ ap (λ b. if b then raised (vector_of old i) i n else vector_of old j) other.0) ∙ are j
        ∙ sym (ap versions (with_at_other held i (recorded H i H action) j other.1))
  ]
    where
      mine : number_at (vector_of old i) ≡ versions H
      mine = are i ∙ ap versions is

      mine_at : (l : ℕ) → number_at (vector_of old i) l ≡ at H l
      mine_at l = ap (λ (v : VersionVector). v l) mine

      each : (l : ℕ) → number_at (raised (vector_of old i) i n) l ≡ with_at (versions H) i (at H i + 1) l
      each l = elim (eqb_tells l i) [
        | inl same ↦
            (let low = mine_at i in
            let a = number_at-raised_same (vector_of old i) i n l (subst (λ k. k < identity_limit) (sym same.1) small) same.1 in
            let b : max (number_at (vector_of old i) i) n ≡ at H i + 1 = omega (arith, low, next_is) in
            a ∙ b ∙ sym (ap (with_at (versions H) i (at H i + 1)) same.1 ∙ with_at_same (versions H) i (at H i + 1)))
        | inr other ↦ elim (cases_lt l identity_limit) [
          | inl near ↦ number_at-raised_other (vector_of old i) i n l near other.1 ∙ mine_at l ∙ sym (with_at_other (versions H) i (at H i + 1) l other.1)
          | inr far ↦
              (number_at_above (raised (vector_of old i) i n) (IsNormal-numbers_of _) l far ∙ sym (number_at_above (vector_of old i) normal l far)
              ∙ mine_at l ∙ sym (with_at_other (versions H) i (at H i + 1) l other.1))
        ]
      ]

      at_own : number_at (raised (vector_of old i) i n) ≡ versions (recorded H i H action)
      at_own = (λ k l. each l k) ∙ sym (versions-with_record H i next)

  -- WHAT PRUNES AND DELETES

  kept_has : (j k : ℕ) (x : Meant Op) → HasRecord made j k x → HasRecord then_made j k x
  kept_has j k x has = in_whole made then_made (part_with_record made i next) j k x has

  prune_stays : (p : PruneMade) → IsPruneOf made p → IsPruneOf then_made p
  prune_stays p of = record { index = of.index; record_is = of.record_is; number = of.number; has = kept_has p.origin of.index of.record_is of.has; prunes = of.prunes; seen = of.seen }

  has_next : HasRecord then_made i (at made i) next
  has_next = ap (λ xs. slice_get xs (at made i)) (with_at_same made i (made i ++ next ∷ [])) ∙ last (made i)
    where
      last : (xs : List (Meant Op)) → slice_get (xs ++ next ∷ []) (length xs) ≡ Some next
      last [] = refl
      last (x ∷ xs) = last xs

  -- an operation prunes nobody
  pub prunes_then : (prunes : List PruneMade) → ArePrunes prunes made → ((q : ℕ) → action ≢ Prune q) → ArePrunes prunes then_made
  prunes_then prunes are none = record {
    only = λ n p there. prune_stays p (are.only n p there);
    all = λ j k q x has is. elim (has_with_record made i next j k x has) [
      | inl old ↦ are.all j k q x old is
      | inr new ↦ absurd (none q (ap (λ (z : Meant Op). z.action) new.2 ∙ is))
    ];
  }

  -- a prune is one more
  pub prune_more : (prunes : List PruneMade) (p : PruneMade) → ArePrunes prunes made → p.origin ≡ i → p.number ≡ at made i + 1 → action ≡ Prune p.removed → p.seen ≡ at H p.removed → ArePrunes (prunes ++ p ∷ []) then_made
  prune_more prunes p are origin number act seen = record {
    only = λ n q there. elim (slice_get-push prunes p q n there) [
      | inl old ↦ prune_stays q (are.only n q old)
      | inr new ↦ subst (IsPruneOf then_made) new.1 is_prune
    ];
    all = λ j k q x has is. elim (has_with_record made i next j k x has) [
      | inl old ↦ (let found = are.all j k q x old is in (found.0, found.1, kept found.0 found.1 found.2, found.3, found.4, found.5, found.6))
      | inr new ↦
          (let removed : p.removed ≡ q = one_identity (sym act ∙ ap (λ (z : Meant Op). z.action) new.2 ∙ is) in (
            length prunes,
            p,
            last prunes,
            origin ∙ sym new.0,
            (let e = new.1 in omega (arith, number, e)),
            removed,
            seen ∙ ap (λ (z : Meant Op). z.past p.removed) new.2 ∙ ap x.past removed,
          ))
    ];
  }
    where
      one_identity : {a b : ℕ} → ◌≡◌ {A = Action Op} (Prune a) (Prune b) → a ≡ b
      one_identity e = cc e

      kept : (n : ℕ) (q : PruneMade) → slice_get prunes n ≡ Some q → slice_get (prunes ++ p ∷ []) n ≡ Some q
      kept = go prunes
        where
          go : (xs : List PruneMade) (n : ℕ) (q : PruneMade) → slice_get xs n ≡ Some q → slice_get (xs ++ p ∷ []) n ≡ Some q
          go [] n q e = absurd (cc e)
          go (x ∷ xs) zero q e = e
          go (x ∷ xs) (suc n) q e = go xs n q e

      last : (xs : List PruneMade) → slice_get (xs ++ p ∷ []) (length xs) ≡ Some p
      last [] = refl
      last (x ∷ xs) = last xs

      is_prune : IsPruneOf then_made p
      is_prune = record {
        index = at made i;
        record_is = next;
        number = (let one : at made i + 1 ≡ suc (at made i) = omega arith in number ∙ one);
        has = subst (λ j. HasRecord then_made j (at made i) next) (sym origin) has_next;
        prunes = act;
        seen = seen;
      }

  delete_stays : (d : Dot) → IsDeleteOf made d → IsDeleteOf then_made d
  delete_stays d of = record { index = of.index; record_is = of.record_is; number = of.number; has = kept_has d.origin of.index of.record_is of.has; deletes = of.deletes }

  -- what is no delete deletes nothing
  pub deletes_then : (deletes : List Dot) → AreDeletes deletes made → is_operation is_delete action ≡ false → AreDeletes deletes then_made
  deletes_then deletes are none = record {
    only = λ n d there. delete_stays d (are.only n d there);
    all = λ j k x has is. elim (has_with_record made i next j k x has) [
      | inl old ↦ are.all j k x old is
      | inr new ↦ absurd (let clash : false ≡ true = sym none ∙ ap (λ (z : Meant Op). is_operation is_delete z.action) new.2 ∙ is in cc clash)
    ];
  }

  -- a delete is one more
  pub delete_more : (deletes : List Dot) (d : Dot) → AreDeletes deletes made → d.origin ≡ i → d.seq ≡ at made i + 1 → is_operation is_delete action ≡ true → AreDeletes (deletes ++ d ∷ []) then_made
  delete_more deletes d are origin number act = record {
    only = λ n q there. elim (slice_get-push deletes d q n there) [
      | inl old ↦ delete_stays q (are.only n q old)
      | inr new ↦ subst (IsDeleteOf then_made) new.1 is_one
    ];
    all = λ j k x has is. elim (has_with_record made i next j k x has) [
      | inl old ↦ (let found = are.all j k x old is in (found.0, found.1, kept found.0 found.1 found.2, found.3, found.4))
      | inr new ↦ (length deletes, d, last deletes, origin ∙ sym new.0, (let e = new.1 in omega (arith, number, e)))
    ];
  }
    where
      kept : (n : ℕ) (q : Dot) → slice_get deletes n ≡ Some q → slice_get (deletes ++ d ∷ []) n ≡ Some q
      kept = go deletes
        where
          go : (xs : List Dot) (n : ℕ) (q : Dot) → slice_get xs n ≡ Some q → slice_get (xs ++ d ∷ []) n ≡ Some q
          go [] n q e = absurd (cc e)
          go (x ∷ xs) zero q e = e
          go (x ∷ xs) (suc n) q e = go xs n q e

      last : (xs : List Dot) → slice_get (xs ++ d ∷ []) (length xs) ≡ Some d
      last [] = refl
      last (x ∷ xs) = last xs

      is_one : IsDeleteOf then_made d
      is_one = record {
        index = at made i;
        record_is = next;
        number = (let one : at made i + 1 ≡ suc (at made i) = omega arith in number ∙ one);
        has = subst (λ j. HasRecord then_made j (at made i) next) (sym origin) has_next;
        deletes = act;
      }

-- WHAT IS HELD

-- a member holds what its vector counts, where that is no more than was made
pub vectors_held : (made : History Op) (history : IsHistory made) (held : ℕ → History Op) (old new : List Numbers) (i : ℕ) (known : Numbers) → ((j : ℕ) → number_at (vector_of old j) ≡ versions (held j)) → IsNormal known
    → covers (versions made) (number_at known) ≡ true → IsPut old new i known → (j : ℕ) → number_at (vector_of new j) ≡ versions (with_at held i (cut made (number_at known)) j)
vectors_held made history held old new i known are normal few put j = elim (eqb_tells j i) [
  | inl same ↦
      ap number_at (put j ∙ ap (λ b. if b then known else vector_of old j) same.0) ∙ sym counts
      ∙ sym (ap versions (ap (with_at held i (cut made (number_at known))) same.1 ∙ with_at_same held i (cut made (number_at known))))
  | inr other ↦
      ap number_at (put j ∙ ap (λ b. if b then known else vector_of old j) other.0) ∙ are j
      ∙ sym (ap versions (with_at_other held i (cut made (number_at known)) j other.1))
]
  where
    counts : versions (cut made (number_at known)) ≡ number_at known
    counts = cut_counts made (number_at known) (number_at_above known normal) few

-- BEFORE THE FIRST RECORD

-- what the parts of a call that adds a record left
pub added_so : (old new : KeyHistory) (i number : ℕ) (action : CodeAction) (past now : Numbers) (kept_rows : List (List Record)) → past ≡ vector_of old.held.items i → IsNormal past → kept_rows ≡ old.rows.items
    → IsPushed old.rows.items new.rows.items i (record { origin = i; number = number; action = action; past = past }) → now ≡ raised past i number → IsPut old.held.items new.held.items i now → new.prunes ≡ old.prunes → new.deletes ≡ old.deletes
    → ((made H : History Op) → StandForValues old.values made → AreRows kept_rows made → IsHistory made → IsTakenFrom made H → H i ≡ made i → number_at past ≡ versions H → number ≡ length (made i) + 1 → StandForValues new.values (recorded made i H (action_of action)))
    → IsAdded old new i number action
added_so old new i number action past now kept_rows past_is normal rows_are rows now_is put prunes deletes kept = record {
  normal = subst IsNormal past_is normal;
  rows = subst (λ (p : Numbers). IsPushed old.rows.items new.rows.items i (record { origin = i; number = number; action = action; past = p })) past_is rows;
  held = subst (IsPut old.held.items new.held.items i) (now_is ∙ ap (λ (p : Numbers). raised p i number) past_is) put;
  prunes = prunes;
  deletes = deletes;
  values = λ made H stands are history taken own is number_is. kept made H stands (subst (λ (rs : List (List Record)). AreRows rs made) (sym rows_are) are) history taken own (ap number_at past_is ∙ is) number_is;
}

pub nothing_kept : (code : KeyHistory) → code.rows.items ≡ [] → code.held.items ≡ [] → code.prunes ≡ [] → code.deletes ≡ [] → StandForValues code.values no_records → StandsForKey code no_records (λ i. no_records)
nothing_kept code rows held prunes deletes values = record {
  rows = λ i. ap (λ rs. map stamped (row_of rs i)) rows;
  vectors = λ i. ap (λ vs. number_at (vector_of vs i)) held ∙ (λ k j. number_at-empty j k);
  prunes = record { only = λ n p there. absurd (none n p (ap (λ ps. slice_get ps n) (sym prunes) ∙ there)); all = λ i k r x has. absurd (none k x has) };
  deletes = record { only = λ n d there. absurd (none n d (ap (λ ds. slice_get ds n) (sym deletes) ∙ there)); all = λ i k x has. absurd (none k x has) };
  values = values;
}
  where
    none : {X : Type 0} (n : ℕ) (x : X) → slice_get {X = X} [] n ≡ Some x → ⊥
    none n x e = cc e

-- A MEMBER'S RECORD, AS IT IS ADDED

module _ (old new : KeyHistory) (made : History Op) (held : ℕ → History Op) (stands : StandsForKey old made held) (kept : AreKept made held) (i : ℕ) (small : i < identity_limit) (number : ℕ) (code : CodeAction) (added : IsAdded old new i number code) (number_is : number ≡ number_at (vector_of old.held.items i) i + 1) where
  own_is : held i i ≡ made i
  own_is = kept.own i

  at_own : number_at (vector_of old.held.items i) i ≡ at made i
  at_own = ap (λ (v : VersionVector). v i) (stands.vectors i) ∙ ap length own_is

  number_made : number ≡ at made i + 1
  number_made = number_is ∙ ap (λ n. n + 1) at_own

  number_held : number ≡ at (held i) i + 1
  number_held = number_made ∙ ap (λ xs. length xs + 1) (sym own_is)

  -- what is kept of the records to tell what they mean
  values_then : (action : Action Op) → action_of code ≡ action → StandForValues new.values (recorded made i (held i) action)
  values_then action act = subst (λ a. StandForValues new.values (recorded made i (held i) a)) act (added.values made (held i) stands.values stands.rows kept.history (kept.taken i) own_is (stands.vectors i) number_made)

  -- an operation
  pub operation_added : (op : Op) → action_of code ≡ Operation op → (deletes : List Dot) → (AreDeletes old.deletes made → AreDeletes deletes (recorded made i (held i) (Operation op)))
      → StandsForKey (record new { deletes = deletes }) (recorded made i (held i) (Operation op)) (with_at held i (recorded (held i) i (held i) (Operation op)))
  operation_added op act deletes deletes_are = record {
    rows = rows_then made i (held i) own_is (Operation op) old.rows.items new.rows.items _ stands.rows added.rows refl number_made act (stands.vectors i);
    vectors = vectors_then made i (held i) own_is (Operation op) held old.held.items new.held.items number refl small stands.vectors number_held added.normal added.held;
    prunes = subst (λ ps. ArePrunes ps (recorded made i (held i) (Operation op))) (sym added.prunes) (prunes_then made i (held i) own_is (Operation op) old.prunes stands.prunes (λ q e. absurd (cc e)));
    deletes = deletes_are stands.deletes;
    values = values_then (Operation op) act;
  }

  -- what is no delete
  pub plain_added : (op : Op) → action_of code ≡ Operation op → is_delete op ≡ false → StandsForKey new (recorded made i (held i) (Operation op)) (with_at held i (recorded (held i) i (held i) (Operation op)))
  plain_added op act plain = operation_added op act new.deletes (λ are. subst (λ ds. AreDeletes ds (recorded made i (held i) (Operation op))) (sym added.deletes) (deletes_then made i (held i) own_is (Operation op) old.deletes are plain))

  -- a delete
  pub delete_added : (op : Op) (dot : Dot) (deletes : List Dot) → action_of code ≡ Operation op → is_delete op ≡ true → dot.origin ≡ i → dot.seq ≡ number → deletes ≡ new.deletes ++ dot ∷ []
      → StandsForKey (record new { deletes = deletes }) (recorded made i (held i) (Operation op)) (with_at held i (recorded (held i) i (held i) (Operation op)))
  delete_added op dot deletes act is origin seq pushed = operation_added op act deletes (λ are.
      subst (λ ds. AreDeletes ds (recorded made i (held i) (Operation op))) (sym (pushed ∙ ap (λ ds. ds ++ dot ∷ []) added.deletes))
      (delete_more made i (held i) own_is (Operation op) old.deletes dot are origin (seq ∙ number_made) is))

  -- a prune
  pub prune_added : (removed : ℕ) (p : PruneMade) (prunes : List PruneMade) → action_of code ≡ Prune removed → p.origin ≡ i → p.number ≡ number → p.removed ≡ removed → p.seen ≡ number_at (vector_of old.held.items i) removed → prunes ≡ new.prunes ++ p ∷ []
      → StandsForKey (record new { prunes = prunes }) (recorded made i (held i) (Prune removed)) (with_at held i (recorded (held i) i (held i) (Prune removed)))
  prune_added removed p prunes act origin number_of removed_is seen pushed = record {
    rows = rows_then made i (held i) own_is (Prune removed) old.rows.items new.rows.items _ stands.rows added.rows refl number_made act (stands.vectors i);
    vectors = vectors_then made i (held i) own_is (Prune removed) held old.held.items new.held.items number refl small stands.vectors number_held added.normal added.held;
    prunes = subst (λ ps. ArePrunes ps (recorded made i (held i) (Prune removed))) (sym (pushed ∙ ap (λ ps. ps ++ p ∷ []) added.prunes))
        (prune_more made i (held i) own_is (Prune removed) old.prunes p stands.prunes origin (number_of ∙ number_made) (ap Prune (sym removed_is))
        (seen ∙ ap (λ (v : VersionVector). v removed) (stands.vectors i) ∙ ap (at (held i)) (sym removed_is)));
    deletes = subst (λ ds. AreDeletes ds (recorded made i (held i) (Prune removed))) (sym added.deletes) (deletes_then made i (held i) own_is (Prune removed) old.deletes stands.deletes refl);
    values = values_then (Prune removed) act;
  }

-- WHAT A MEMBER HOLDS, AS IT IS PUT

pub hold_put : (old : KeyHistory) (made : History Op) (held : ℕ → History Op) (stands : StandsForKey old made held) (kept : AreKept made held) (i : ℕ) (known : Numbers) (new : KeyHistory) → IsNormal known → covers (versions made) (number_at known) ≡ true
    → new.rows ≡ old.rows → new.prunes ≡ old.prunes → new.deletes ≡ old.deletes → new.values ≡ old.values → IsPut old.held.items new.held.items i known → StandsForKey new made (with_at held i (cut made (number_at known)))
hold_put old made held stands kept i known new normal few rows prunes deletes values put = record {
  rows = subst (λ rs. AreRows rs made) (sym (ap (λ v. v.items) rows)) stands.rows;
  vectors = vectors_held made kept.history held old.held.items new.held.items i known stands.vectors normal few put;
  prunes = subst (λ ps. ArePrunes ps made) (sym prunes) stands.prunes;
  deletes = subst (λ ds. AreDeletes ds made) (sym deletes) stands.deletes;
  values = subst (λ vs. StandForValues vs made) (sym values) stands.values;
}

-- RESULTS

-- what follows where a call succeeded
pub on_ok : {A E : Type 0} (r : Result A E) (P Q : Type 0) → (P → Q) → OnOk r P → OnOk r Q
on_ok (Ok x) P Q f h = f h
on_ok (Err e) P Q f h = tt

-- an act that is this one
pub taken_as : (new : KeyHistory) (made : History Op) (held : ℕ → History Op) (i : ℕ) (act given : TraceAct) → given ≡ act → StandsForKey new (made_after made i (held i) (act_meant act)) (with_at held i (held_after made i (held i) (act_meant act)))
    → StandsForKey new (made_after made i (held i) (act_meant given)) (with_at held i (held_after made i (held i) (act_meant given)))
taken_as new made held i act given is = subst (λ a. StandsForKey new (made_after made i (held i) (act_meant a)) (with_at held i (held_after made i (held i) (act_meant a)))) (sym is)

-- of a hold, what rule 2 says of the records made
pub few_counted : (made H : History Op) (known : Numbers) (given : TraceAct) → given ≡ Hold known → may_hold six_kinds shown_text made H (act_meant given) ≡ true → covers (versions made) (number_at known) ≡ true
few_counted made H known given is may =
    let passes : may_hold six_kinds shown_text made H (Holds (number_at known)) ≡ true = subst (λ a. may_hold six_kinds shown_text made H (act_meant a) ≡ true) is may in
    second_true (covers (number_at known) (versions H)) (covers (versions made) (number_at known)) (first_true (covers (number_at known) (versions H) && covers (versions made) (number_at known)) (is_closed (cut made (number_at known))) passes)
