-- A lawful trace is consistent throughout, and members that hold as many records show the same.
use Rattle.std.proofs.Common.{◌≡◌, ◌≢◌, ℕ, zero, suc, ◌<◌, ◌≤◌, List, [], ◌∷◌, ◌++◌, length, take, refl, sym, ap, subst, ◌∙◌, arith, Bool, true, false, Option, Some, None, inl, inr}
use Rattle.std.specs.Prelude.{◌&&◌, not, find, slice_get}
use Rattle.std.specs.List.{AllByRecursion}
use Rattle.std.specs.Str.{bytes_eq}
use Rattle.std.proofs.lemmas.Bool.{cases_lt}
use Rattle.std.proofs.lemmas.Bool.Decides.{eqb_tells}
use Rattle.std.proofs.lemmas.Slice.Eq.{bytes_eq-Decides}
use Rattle.model_history.specs.Table.{identity_limit}
use Rattle.model_history.specs.Texts.{Text}
use Rattle.model_history.specs.Vector.{VersionVector}
use Rattle.model_history.specs.Log.{IsTakenFrom}
use Rattle.model_history.specs.History.{Record, History, at, versions, cut, no_records, with_record, IsPartOf, IsHistory, IsExactlyPruned}
use Rattle.model_history.proofs.HistoryLaws.{with_at_same, with_at_other, same_part, slice_get-take}
use Rattle.model_history.proofs.PartLaws.{take_whole, take_front, take_none, part_trans, taken_grown, history-with_record, taken-with_record}
use Rattle.model_members.specs.DataType.{DataType, meaning}
use Rattle.model_members.specs.Node.{KeyDecl}
use Rattle.model_traces.specs.Traces.{Act, TraceLine, Trace, TraceState, nothing_traced, recorded, made_after, held_after, after_line, after_lines, is_none, may_record, may_hold, is_exactly_pruned, is_closed, covers, may_show, meaning_text, broken_by, broken_rule, AreLawful, IsLawful}
use Rattle.model_traces.specs.Traces.Act.{Records, Holds, Shows}
use Rattle.model_traces.specs.Meaning.{IsOfIdentity, IsConsistent, ShowsOf, IsConsistentTrace, ShowsAlike}
use Rattle.model_traces.proofs.Tests.{first_true, second_true, covers_tells, closed_tells, exactly_pruned_tells}
use Rattle.model_traces.proofs.Lines.{after_both, made_here, made_there, held_here, held_of_another, held_there, by_tests}

-- LISTS AND HISTORIES

taken_length : {X : Type 0} (n : ℕ) (xs : List X) → take n xs ≡ take (length (take n xs)) xs
taken_length zero [] = refl
taken_length (suc n) [] = refl
taken_length zero (x ∷ xs) = refl
taken_length (suc n) (x ∷ xs) = ap (λ ys. x ∷ ys) (taken_length n xs)

take_enough : {X : Type 0} (n : ℕ) (xs : List X) → length xs ≤ n → take n xs ≡ xs
take_enough zero [] h = refl
take_enough (suc n) [] h = refl
take_enough zero (x ∷ xs) h = absurd (omega arith)
take_enough (suc n) (x ∷ xs) h = ap (λ ys. x ∷ ys) (take_enough n xs (omega arith))

module _ {Op : Type 0} where
  part_of_more : (H : History Op) (i : ℕ) (r : Record Op) → IsPartOf H (with_record H i r)
  part_of_more H i r j = elim (eqb_tells j i) [
    | inl is ↦ rw is.1 (sym (ap (take (at H i)) (with_at_same H i (H i ++ r ∷ [])) ∙ take_front (H i) (r ∷ [])))
    | inr isnt ↦ sym (ap (take (at H j)) (with_at_other H i (H i ++ r ∷ []) j isnt.1) ∙ take_whole (H j))
  ]

  part_self : (H : History Op) → IsPartOf H H
  part_self H j = sym (take_whole (H j))

  nothing_taken : (L : History Op) → IsTakenFrom L no_records
  nothing_taken L = record { part = λ i. refl; closed = λ i k r has. absurd (none k r has) }
    where
      none : (k : ℕ) (r : Record Op) → slice_get {X = Record Op} [] k ≡ Some r → ⊥
      none k r e = cc e

  cut_taken : (L : History Op) (known : VersionVector) → IsHistory L → is_closed (cut L known) ≡ true → IsTakenFrom L (cut L known)
  cut_taken L known history closed =
      record {
        part = λ i. taken_length (known i) (L i);
        closed = λ i k r has l. elim (cases_lt l identity_limit) [
          | inl small ↦ closed_tells (cut L known) within closed i k r has l small
          | inr far ↦ let a = history.closed i k r (slice_get-take (L i) (known i) k r has).1 l in let b = ap length (history.within l far) in omega (arith, a, b)
        ];
      }
    where
      within : (i : ℕ) → identity_limit ≤ i → cut L known i ≡ []
      within i far = ap (take (known i)) (history.within i far) ∙ take_none (known i)

  pub within_part : (L H : History Op) → IsHistory L → IsPartOf H L → (i : ℕ) → identity_limit ≤ i → H i ≡ []
  within_part L H history part i far = part i ∙ ap (take (at H i)) (history.within i far) ∙ take_none (at H i)

same_or_not : (a b : Text) → (P : Type 0) → (a ≡ b → P) → (a ≢ b → P) → P
same_or_not a b P same other = go (bytes_eq a b) refl
  where
    go : (t : Bool) → bytes_eq a b ≡ t → P
    go true e = same ((bytes_eq-Decides a b).0 e)
    go false e = other (λ is. absurd (let f = sym e ∙ (bytes_eq-Decides a b).1 is in cc f))

-- A LAWFUL LINE PASSES ITS TESTS

module _ {Kind Op Shown : Type 0} (D : DataType Kind Op Shown) (value_text : Shown → Text) where
  pub record Passes (keys : List (KeyDecl Kind)) (state : TraceState Op) (line : TraceLine Op) : Type 0 where
    pub decl : KeyDecl Kind
    pub declared : find (λ (d : KeyDecl Kind). bytes_eq d.name line.key) keys ≡ Some decl
    pub may_make : may_record D value_text decl.kind line.member (state.held line.member line.key) line.act ≡ true
    pub may_have : may_hold D value_text (state.made line.key) (state.held line.member line.key) line.act ≡ true
    pub exact : is_exactly_pruned (held_after (state.made line.key) line.member (state.held line.member line.key) line.act) ≡ true
    pub may_tell : may_show D value_text decl.kind (held_after (state.made line.key) line.member (state.held line.member line.key) line.act) line.act ≡ true

  four : (a b c d : Bool) → by_tests D value_text a b c d ≡ None → (a ≡ true) × (b ≡ true) × (c ≡ true) × (d ≡ true)
  four true true true true e = (refl, refl, refl, refl)
  four false b c d e = absurd (cc e)
  four true false c d e = absurd (cc e)
  four true true false d e = absurd (cc e)
  four true true true false e = absurd (cc e)

  abbrev found_rule : TraceState Op → TraceLine Op → Option (KeyDecl Kind) → Option ℕ
  found_rule state line o = elim o [ None ↦ Some 1 | Some decl ↦ broken_by D value_text decl.kind (state.made line.key) line.member (state.held line.member line.key) line.act ]

  pub passes : (keys : List (KeyDecl Kind)) (state : TraceState Op) (line : TraceLine Op) → broken_rule D value_text keys state line ≡ None → Passes keys state line
  passes keys state line e = go (find (λ (d : KeyDecl Kind). bytes_eq d.name line.key) keys) refl e
    where
      go : (o : Option (KeyDecl Kind)) → find (λ (d : KeyDecl Kind). bytes_eq d.name line.key) keys ≡ o
          → found_rule state line o ≡ None → Passes keys state line
      go None is e' = absurd (cc e')
      go (Some decl) is e' =
          let t = four (may_record D value_text decl.kind line.member (state.held line.member line.key) line.act) (may_hold D value_text (state.made line.key) (state.held line.member line.key) line.act)
          (is_exactly_pruned (held_after (state.made line.key) line.member (state.held line.member line.key) line.act)) (may_show D value_text decl.kind (held_after (state.made line.key) line.member (state.held line.member line.key) line.act) line.act) e' in
          record { decl = decl; declared = is; may_make = t.0; may_have = t.1; exact = t.2; may_tell = t.3 }

  -- ONE ACT

  -- what an act leaves of the records made and of what its member holds
  pub record IsKept (i : ℕ) (made made' H' : History Op) : Type 0 where
    pub history : IsHistory made'
    pub grown : IsPartOf made made'
    pub others : (j : ℕ) → j ≢ i → made' j ≡ made j
    pub taken : IsTakenFrom made' H'
    pub own : H' i ≡ made' i
    pub exact : IsExactlyPruned H'

  act_kept : (made : History Op) (i : ℕ) (H : History Op) (act : Act Op) → i < identity_limit → IsHistory made → IsTakenFrom made H → H i ≡ made i → may_hold D value_text made H act ≡ true → is_exactly_pruned (held_after made i H act) ≡ true
      → IsKept i made (made_after made i H act) (held_after made i H act)
  act_kept made i H (Records action) small history taken own may exact =
      let r : Record Op = record { action = action; past = versions H } in
      let later = history-with_record made H i action history taken (sym own) small in
      let then_taken = taken-with_record made H i action history taken (sym own) small in
      record {
        history = later;
        grown = part_of_more made i r;
        others = λ j other. with_at_other made i (made i ++ r ∷ []) j other;
        taken = then_taken;
        own = with_at_same H i (H i ++ r ∷ []) ∙ ap (λ xs. xs ++ r ∷ []) own ∙ sym (with_at_same made i (made i ++ r ∷ []));
        exact = exactly_pruned_tells (recorded H i H action) (within_part (recorded made i H action) (recorded H i H action) later then_taken.part) exact;
      }
  act_kept made i H (Holds known) small history taken own may exact =
      let tests = may in
      let first = first_true (covers known (versions H) && covers (versions made) known) (is_closed (cut made known)) may in
      let more = covers_tells known (versions H) (first_true (covers known (versions H)) (covers (versions made) known) first) i small in
      let closed = second_true (covers known (versions H) && covers (versions made) known) (is_closed (cut made known)) may in
      let then_taken = cut_taken made known history closed in
      record {
        history = history;
        grown = part_self made;
        others = λ j other. refl;
        taken = then_taken;
        own = take_enough (known i) (made i) (let e = ap length own in omega (arith, more, e));
        exact = exactly_pruned_tells (cut made known) (within_part made (cut made known) history then_taken.part) exact;
      }
  act_kept made i H (Shows text) small history taken own may exact =
      record {
        history = history;
        grown = part_self made;
        others = λ j other. refl;
        taken = taken;
        own = own;
        exact = exactly_pruned_tells H (within_part made H history taken.part) exact;
      }

  -- ONE LINE

  module _ (keys : List (KeyDecl Kind)) (state : TraceState Op) (line : TraceLine Op) (consistent : IsConsistent state) (small : line.member < identity_limit) (lawful : broken_rule D value_text keys state line ≡ None) where
    abbrev i : ℕ
    i = line.member

    abbrev key : Text
    key = line.key

    abbrev next : TraceState Op
    next = after_line state line

    kept : IsKept i (state.made key) (made_after (state.made key) i (state.held i key) line.act) (held_after (state.made key) i (state.held i key) line.act)
    kept =
        let p = passes keys state line lawful in
        act_kept (state.made key) i (state.held i key) line.act small (consistent.histories key) (consistent.taken i key) (consistent.own i key) p.may_have p.exact

    made_of : (P : History Op → Type 0) (other : Text) → (other ≡ key → P (made_after (state.made key) i (state.held i key) line.act)) → (other ≢ key → P (state.made other)) → P (next.made other)
    made_of P other here there = same_or_not other key (P (next.made other)) (λ same. subst P (sym (ap next.made same ∙ made_here state line)) (here same)) (λ isnt. subst P (sym (made_there state line other isnt)) (there isnt))

    held_of : (P : History Op → Type 0) (j : ℕ) (other : Text) → (j ≡ i → other ≡ key → P (held_after (state.made key) i (state.held i key) line.act)) → (j ≢ i → P (state.held j other)) → (other ≢ key → P (state.held j other)) → P (next.held j other)
    held_of P j other here of_others there = same_or_not other key (P (next.held j other))
        (λ same. elim (eqb_tells j i) [
          | inl is ↦ subst P (sym (ap (λ k. next.held k other) is.1 ∙ ap (next.held i) same ∙ held_here state line)) (here is.1 same)
          | inr isnt ↦ subst P (sym (held_of_another state line j other isnt.1)) (of_others isnt.1)
        ])
        (λ isnt. subst P (sym (held_there state line j other isnt)) (there isnt))

    pub line_grows : (other : Text) → IsPartOf (state.made other) (next.made other)
    line_grows other = made_of (IsPartOf (state.made other)) other (λ same. subst (λ (G : History Op). IsPartOf G (made_after (state.made key) i (state.held i key) line.act)) (ap state.made (sym same)) kept.grown) (λ isnt. part_self (state.made other))

    made_row : (j : ℕ) (other : Text) → j ≢ i → next.made other j ≡ state.made other j
    made_row j other isnt = made_of (λ G. G j ≡ state.made other j) other (λ same. kept.others j isnt ∙ ap (λ t. state.made t j) (sym same)) (λ away. refl)

    pub line_consistent : IsConsistent next
    line_consistent =
        record {
          histories = λ other. made_of IsHistory other (λ same. kept.history) (λ isnt. consistent.histories other);
          taken = λ j other. held_of (IsTakenFrom (next.made other)) j other
              (λ is same. subst (λ (G : History Op). IsTakenFrom G (held_after (state.made key) i (state.held i key) line.act)) (sym (ap next.made same ∙ made_here state line)) kept.taken)
              (λ isnt. taken_grown (state.held j other) (state.made other) (next.made other) (consistent.taken j other) (line_grows other))
              (λ isnt. taken_grown (state.held j other) (state.made other) (next.made other) (consistent.taken j other) (line_grows other));
          own = λ j other. held_of (λ H. H j ≡ next.made other j) j other
              (λ is same. ap (held_after (state.made key) i (state.held i key) line.act) is ∙ kept.own ∙ sym (ap (λ (G : History Op). G j) (ap next.made same ∙ made_here state line) ∙ ap (made_after (state.made key) i (state.held i key) line.act) is))
              (λ isnt. consistent.own j other ∙ sym (made_row j other isnt))
              (λ isnt. consistent.own j other ∙ ap (λ (G : History Op). G j) (sym (made_there state line other isnt)));
          exact = λ j other. held_of IsExactlyPruned j other (λ is same. kept.exact) (λ isnt. consistent.exact j other) (λ isnt. consistent.exact j other);
        }

  -- ALL LINES

  pub lines_consistent : (keys : List (KeyDecl Kind)) (state : TraceState Op) (lines : List (TraceLine Op)) → IsConsistent state → AllByRecursion IsOfIdentity lines → AreLawful D value_text keys state lines
      → IsConsistent (after_lines state lines) × ((key : Text) → IsPartOf (state.made key) ((after_lines state lines).made key))
  lines_consistent keys state [] consistent small lawful = (consistent, λ key. part_self (state.made key))
  lines_consistent keys state (line ∷ lines) consistent small lawful =
      let later = lines_consistent keys (after_line state line) lines (line_consistent keys state line consistent small.0 lawful.0) small.1 lawful.1 in
      (later.0, λ key. part_trans (state.made key) ((after_line state line).made key) ((after_lines (after_line state line) lines).made key) (line_grows keys state line consistent small.0 lawful.0 key) (later.1 key))

  pub lawful_front : (keys : List (KeyDecl Kind)) (state : TraceState Op) (xs ys : List (TraceLine Op)) → AreLawful D value_text keys state (xs ++ ys) → AreLawful D value_text keys state xs × AreLawful D value_text keys (after_lines state xs) ys
  lawful_front keys state [] ys all = (tt, all)
  lawful_front keys state (x ∷ xs) ys all = let rest = lawful_front keys (after_line state x) xs ys all.1 in ((all.0, rest.0), rest.1)

small_front : {X : Type 0} (P : X → Type 0) (xs ys : List X) → AllByRecursion P (xs ++ ys) → AllByRecursion P xs × AllByRecursion P ys
small_front P [] ys all = (tt, all)
small_front P (x ∷ xs) ys all = let rest = small_front P xs ys all.1 in ((all.0, rest.0), rest.1)

pub first_consistent : {Op : Type 0} → IsConsistent {Op = Op} nothing_traced
first_consistent {Op} =
    record {
      histories = λ key. record { within = λ i far. refl; closed = λ i k r has. absurd (none k r has); numbered = λ i k r has. absurd (none k r has); transitive = λ i k j m r s has. absurd (none k r has) };
      taken = λ i key. nothing_taken no_records;
      own = λ i key. refl;
      exact = λ i key. record { once = λ i k j m x y r hx. absurd (none k x hx); nothing_more = λ i k x r hx. absurd (none k x hx) };
    }
  where
    none : (k : ℕ) (r : Record Op) → slice_get {X = Record Op} [] k ≡ Some r → ⊥
    none k r e = cc e

-- A LAWFUL TRACE

module _ {Kind Op Shown : Type 0} (D : DataType Kind Op Shown) (value_text : Shown → Text) (trace : Trace Kind Op) (small : AllByRecursion IsOfIdentity trace.lines) (lawful : IsLawful D value_text trace) where
  -- the lines before and after a moment
  abbrev at_moment : (before rest : List (TraceLine Op)) → trace.lines ≡ before ++ rest → AreLawful D value_text trace.keys nothing_traced before × AreLawful D value_text trace.keys (after_lines nothing_traced before) rest
  at_moment before rest are = lawful_front D value_text trace.keys nothing_traced before rest (subst (AreLawful D value_text trace.keys nothing_traced) are lawful)

  abbrev small_at : (before rest : List (TraceLine Op)) → trace.lines ≡ before ++ rest → AllByRecursion IsOfIdentity before × AllByRecursion IsOfIdentity rest
  small_at before rest are = small_front IsOfIdentity before rest (subst (AllByRecursion IsOfIdentity) are small)

  consistent_at : (before rest : List (TraceLine Op)) → trace.lines ≡ before ++ rest → IsConsistent (after_lines nothing_traced before)
  consistent_at before rest are = (lines_consistent D value_text trace.keys nothing_traced before first_consistent (small_at before rest are).0 (at_moment before rest are).0).0

  grows_from : (before rest : List (TraceLine Op)) → trace.lines ≡ before ++ rest → (key : Text) → IsPartOf ((after_lines nothing_traced before).made key) ((after_lines nothing_traced trace.lines).made key)
  grows_from before rest are key =
      subst (λ st. IsPartOf ((after_lines nothing_traced before).made key) (st.made key)) (sym (ap (after_lines nothing_traced) are ∙ after_both nothing_traced before rest))
      ((lines_consistent D value_text trace.keys (after_lines nothing_traced before) rest (consistent_at before rest are) (small_at before rest are).1 (at_moment before rest are).1).1 key)

  pub consistent_trace : IsConsistentTrace D value_text trace
  consistent_trace = record { throughout = consistent_at; grows = grows_from }

  -- what is shown of a key is the text of what its history means, which is part of the last log
  part_of_last : (i : ℕ) (key text : Text) (H : History Op) → ShowsOf trace i key text H → IsPartOf H ((after_lines nothing_traced trace.lines).made key)
  part_of_last i key text H shows =
      let line : TraceLine Op = record { member = i; key = key; act = Shows text } in
      let held = (consistent_at shows.before (line ∷ shows.rest) shows.are).taken i key in
      subst (λ (J : History Op). IsPartOf J ((after_lines nothing_traced trace.lines).made key)) shows.held
      (part_trans ((after_lines nothing_traced shows.before).held i key) ((after_lines nothing_traced shows.before).made key) ((after_lines nothing_traced trace.lines).made key) held.part (grows_from shows.before (line ∷ shows.rest) shows.are key))

  meant : (i : ℕ) (key text : Text) (H : History Op) → ShowsOf trace i key text H → (decl : KeyDecl Kind) × (find (λ (d : KeyDecl Kind). bytes_eq d.name key) trace.keys ≡ Some decl) × (meaning_text value_text (meaning D decl.kind H) ≡ text)
  meant i key text H shows =
      let line : TraceLine Op = record { member = i; key = key; act = Shows text } in
      let p = passes D value_text trace.keys (after_lines nothing_traced shows.before) line (at_moment shows.before (line ∷ shows.rest) shows.are).1.0 in
      let J = (after_lines nothing_traced shows.before).held i key in
      let said = (bytes_eq-Decides (meaning_text value_text (meaning D p.decl.kind J)) text).0 (second_true (not (is_none J)) (bytes_eq (meaning_text value_text (meaning D p.decl.kind J)) text) p.may_tell) in
      (p.decl, p.declared, ap (λ (K : History Op). meaning_text value_text (meaning D p.decl.kind K)) (sym shows.held) ∙ said)

  alike : (i j : ℕ) (key text other : Text) (H J : History Op) → ShowsOf trace i key text H → ShowsOf trace j key other J → ((origin : ℕ) → at H origin ≡ at J origin) → (H ≡ J) × (text ≡ other)
  alike i j key text other H J one two as_many =
      let same = same_part ((after_lines nothing_traced trace.lines).made key) H J (part_of_last i key text H one) (part_of_last j key other J two) as_many in
      let a = meant i key text H one in
      let b = meant j key other J two in
      let decls : a.0 ≡ b.0 = (let e : Some a.0 ≡ Some b.0 = sym a.1 ∙ b.1 in cc e) in
      (same, sym a.2 ∙ ap (λ (d : KeyDecl Kind). meaning_text value_text (meaning D d.kind H)) decls ∙ ap (λ (K : History Op). meaning_text value_text (meaning D b.0.kind K)) same ∙ b.2)

  pub shows_alike : ShowsAlike D value_text trace
  shows_alike = record { meant = meant; alike = alike }
