-- A run over keepers that write behind, as one over the keepers inside them.
use Rattle.std.proofs.Common.{◌≡◌, ◌≢◌, ℕ, zero, suc, ◌<◌, ◌≤◌, inl, inr, List, [], ◌∷◌, length, Bool, true, false, None, Some, string_bytes, arith, refl, sym, ap, subst, ◌∙◌}
use Rattle.std.specs.Prelude.{map, slice_get, option_map, IsSome, count_by, get_or, not}
use Rattle.std.specs.List.{AllZip}
use Rattle.std.specs.Ordering.{match_ordering}
use Rattle.std.specs.declared.cmp.Ordering.{Ordering}
use Rattle.std.specs.declared.cmp.Ordering.TheVariants.{Less, Equal, Greater}
use Rattle.std.specs.declared.option.Option.{Option}
use Rattle.std.proofs.lemmas.List.{length-map}
use Rattle.std.proofs.lemmas.List.Elements.{All-map}
use Rattle.std.proofs.lemmas.Option.{slice_get-map, same_Some}
use Rattle.std.proofs.lemmas.Slice.Zip.{AllZip-long}
use Rattle.base_bytes.specs.TextOrder.{text_order}
use Rattle.base_outside.specs.Causes.{Rose}
use Rattle.thread_machine.specs.Faults.{RoseBy}
use Rattle.model_kinds.specs.SixKinds.{six_kinds}
use Rattle.model_kinds.specs.declared.kind.Kind.{Kind}
use Rattle.model_kinds.specs.declared.operation.Op.{Op}
use Rattle.model_kinds.specs.declared.shown.Shown.{Shown}
use Rattle.model_members.specs.Script.{Playing}
use Rattle.member_keeper.specs.declared.stored.Stored.{Stored}
use Rattle.member_keeper.specs.declared.keeper.Keeper.{Ghosts as Keeping}
use Rattle.member_keeper.specs.Tables.{Table, put, put_all}
use Rattle.member_keeper.specs.Calls.{Becomes}
use Rattle.member_write_behind.specs.Gathering.{Gathered, table_of}
use Rattle.data_value.specs.DataSpelled.{history_byte, history_spelled}
use Rattle.world_places.specs.Keeping.{Given, Keeps, IsCleared}
use Rattle.script_reading.specs.declared.script.Script.{Script}
use Rattle.script_reading.specs.WellFormed.{HasNoClients}
use Rattle.report_lines.specs.Kept as kept
use Rattle.report_lines.specs.Kept.{AtEachPlace, AreKept, HoldsStore, LoadWhatTheyTook, NoneRose, IsNotCleared, IsPlayed, answers_by}
use Rattle.report_lines.specs.declared.playing.Ending.{Ending}
use Rattle.report_lines.specs.declared.playing.Ending.TheVariants.{Told, NotCleared, Memory}
use Rattle.top_call.specs.Answers.{IsReportOver, IsReportBehind}
use Rattle.top_call.specs.Behind.{untold, EndsBehind, IsWholeBehind, IsNotClearedBehind, IsPlayedBehind}
use Rattle.top_call.specs.Stopping.{gathering, IsHandedOn, AreHandedOn, IsTakenOut}

-- AN EMPTY TABLE HAS NOTHING PUT INTO IT

put_is_some : (t : Table) (e : Stored) → put t e ≢ []
put_is_some [] e is = absurd (cc is)
put_is_some (x ∷ t) e is = go (text_order x.key e.key) is
  where
    go : (o : Ordering) → match_ordering o (x ∷ put t e) (e ∷ t) (e ∷ x ∷ t) ≢ []
    go Less is = absurd (cc is)
    go Equal is = absurd (cc is)
    go Greater is = absurd (cc is)

nothing_put : (t es : Table) → put_all t es ≡ [] → t ≡ []
nothing_put t [] is = is
nothing_put t (e ∷ es) is = absurd (put_is_some t e (nothing_put (put t e) es is))

-- COUNTS

rose_further : (n a b c : ℕ) → RoseBy n a b → b ≤ c → RoseBy n a c
rose_further n a b c rose later = omega (arith, rose, later)

rose_from : (n a b c : ℕ) → RoseBy n a b → Rose b c → Rose a c
rose_from n a b c rose risen = grind (arith, rose, risen)

rose_to : (a b c : ℕ) → Rose a b → b ≤ c → Rose a c
rose_to a b c rose later = omega (arith, rose, later)

-- TABLES THAT ARE TOLD

some_mapped : {X Y : Type 0} (f : X → Y) (o : Option X) → IsSome o → IsSome (option_map f o)
some_mapped f None h = absurd (cc h)
some_mapped f (Some x) h = refl

mapped_some : {X Y : Type 0} (f : X → Y) (o : Option X) → IsSome (option_map f o) → IsSome o
mapped_some f None h = absurd (cc h)
mapped_some f (Some x) h = refl

module _ {K : Type 0} (keeping : Keeping K) where
  -- what is told of a keeper that writes behind
  abbrev pub over : Keeping (Gathered K)
  over = record { table = table_of keeping; answers = λ _. None; faults = λ w. keeping.faults w.inner }

  -- WITHOUT A FLUSH

  pub let_go : (w : Gathered K) → IsHandedOn keeping true w w.inner
  let_go w = record { later = omega arith; tells = λ h. h; table = λ no. absurd (cc no) }

  pub all_let_go : (ws : List (Gathered K)) → AreHandedOn keeping true ws (map (λ w. w.inner) ws)
  all_let_go [] = tt
  all_let_go (w ∷ ws) = (let_go w, all_let_go ws)

  -- THE KEEPER OF A PLACE, BEFORE, INSIDE AND AFTER

  handed_at : (Left : Gathered K → K → Type 0) (ws : List (Gathered K)) (ks : List K) → AllZip Left ws ks → (place : ℕ) (k : K) → slice_get ks place ≡ Some k → (w : Gathered K) × (slice_get ws place ≡ Some w) × Left w k
  handed_at Left [] [] h place k e = absurd (cc e)
  handed_at Left [] (y ∷ ys) h place k e = absurd h
  handed_at Left (x ∷ xs) [] h place k e = absurd h
  handed_at Left (x ∷ xs) (y ∷ ys) h zero k e = (x, refl, subst (Left x) (same_Some y k e) h.0)
  handed_at Left (x ∷ xs) (y ∷ ys) h (suc place) k e = handed_at Left xs ys h.1 place k e

  handed_from : (Left : Gathered K → K → Type 0) (ws : List (Gathered K)) (ks : List K) → AllZip Left ws ks → (place : ℕ) (w : Gathered K) → slice_get ws place ≡ Some w → (k : K) × (slice_get ks place ≡ Some k) × Left w k
  handed_from Left [] [] h place w e = absurd (cc e)
  handed_from Left [] (y ∷ ys) h place w e = absurd h
  handed_from Left (x ∷ xs) [] h place w e = absurd h
  handed_from Left (x ∷ xs) (y ∷ ys) h zero w e = (y, refl, subst (λ v. Left v y) (same_Some x w e) h.0)
  handed_from Left (x ∷ xs) (y ∷ ys) h (suc place) w e = handed_from Left xs ys h.1 place w e

  -- what holds of those that write behind holds of those inside
  at_each : (Left : Gathered K → K → Type 0) (Holds : ℕ → K → K → Type 0) (period : ℕ) (before : List K) (mid : List (Gathered K)) (after : List K) → length mid ≡ length (map (gathering period) before) → AllZip Left mid after
      → ((place : ℕ) (old k : K) (w : Gathered K) → slice_get (map (gathering period) before) place ≡ Some (gathering period old) → slice_get mid place ≡ Some w → Left w k → Holds place old k) → AtEachPlace Holds before after
  at_each Left Holds period before mid after count handed follows = record {
    count = AllZip-long Left mid after handed ∙ count ∙ length-map before (gathering period);
    each = λ place old k was is.
        let at = handed_at Left mid after handed place k is in
        follows place old k at.0 (slice_get-map (gathering period) before place ∙ ap (option_map (gathering period)) was) at.1 at.2;
  }

  -- a keeper inside is left with what the one round it was told
  keeps_inside : (refused : Bool) (period : ℕ) (answers : List Bool) (old k : K) (w : Gathered K) → Keeps over answers (gathering period old) w → IsHandedOn keeping refused w k → Keeps (untold keeping) answers old k
  keeps_inside refused period answers old k w h left = record {
    told = tt;
    counted = rose_further (count_by not answers) (keeping.faults old) (keeping.faults w.inner) (keeping.faults k) h.counted left.later;
    table = λ some. left.tells (mapped_some _ (keeping.table w.inner) (h.table (some_mapped _ (keeping.table old) some)));
  }

  kept_inside : (refused : Bool) (period : ℕ) (before : List K) (mid : List (Gathered K)) (after : List K) → AreKept over (map (gathering period) before) mid → AreHandedOn keeping refused mid after → AreKept (untold keeping) before after
  kept_inside refused period before mid after h handed =
      at_each (IsHandedOn keeping refused) (λ place old k. (answers : List Bool) × Keeps (untold keeping) answers old k) period before mid after h.count handed
      (λ place old k w was is left. let keeps = h.each place (gathering period old) w was is in (keeps.0, keeps_inside refused period keeps.0 old k w keeps.1 left))

  -- THE REPORT

  module _ (script : Script) (period : ℕ) (before : List K) (mid : List (Gathered K)) (after : List K) (handed : AreHandedOn keeping false mid after) where
    abbrev ws : List (Gathered K)
    ws = map (gathering period) before

    -- they load what they took
    loads_behind : LoadWhatTheyTook keeping script before → LoadWhatTheyTook over script ws
    loads_behind (inl all) = inl (All-map (λ w. IsSome (table_of keeping w)) (gathering period) before (λ i d inside. some_mapped _ (keeping.table (get_or before i d)) (all i d inside)))
    loads_behind (inr none) = inr none

    module _ (given : Given) (keeps : AtEachPlace (λ place. Keeps over (given place)) ws mid) where
      none_behind : NoneRose keeping before after → NoneRose over ws mid
      none_behind none = record {
        count = keeps.count;
        each = λ place g w was is rose.
            let old = before_of before place g was in
            let k = handed_from (IsHandedOn keeping false) mid after handed place w is in
            none.each place old.0 k.0 old.1 k.1 (rose_to (keeping.faults old.0) (keeping.faults w.inner) (keeping.faults k.0) (subst (λ (v : Gathered K). Rose (keeping.faults v.inner) (keeping.faults w.inner)) old.2 rose) k.2.later);
      }
        where
          before_of : (ks : List K) (place : ℕ) (g : Gathered K) → slice_get (map (gathering period) ks) place ≡ Some g → (old : K) × (slice_get ks place ≡ Some old) × (g ≡ gathering period old)
          before_of [] place g e = absurd (cc e)
          before_of (x ∷ xs) zero g e = (x, refl, sym (same_Some (gathering period x) g e))
          before_of (x ∷ xs) (suc place) g e = before_of xs place g e

      ends_behind : (last : Playing Kind Op Shown) → kept.EndsOver six_kinds history_byte history_spelled over given script last ws mid → EndsBehind keeping given script last before after
      ends_behind last h = record {
        called = h.called;
        stored = at_each (IsHandedOn keeping false) (λ place old new. (Rose (keeping.faults old) (keeping.faults new) → ⊥) → (table : Table) → keeping.table new ≡ Some table → HoldsStore history_byte history_spelled script.keys table (last.world.stores place)) period before mid after keeps.count handed
            (λ place old k w was is left none table told.
            h.stored.each place (gathering period old) w was is table
            (sym (left.table refl (λ rose. none (rose_from (count_by not (given place)) (keeping.faults old) (keeping.faults w.inner) (keeping.faults k) (keeps.each place (gathering period old) w was is).counted rose))) ∙ told));
      }

      whole_behind : HasNoClients script → (text : List ℕ) → kept.IsWholeReport six_kinds history_byte history_spelled over given script ws mid text → IsWholeBehind keeping given script before after text
      whole_behind plain text h =
          let so = h.plain plain in
          let ends = so.run.ends in
          record {
            reported = record {
              run = record { ends = refl; majorities = so.run.majorities; settles = so.run.settles };
              reported = so.reported;
              unfailing = λ none. so.unfailing (none_behind none);
            };
            over = subst (λ p. EndsBehind keeping given script p before after) ends (ends_behind h.reported.last h.over);
          }

    report_behind : HasNoClients script → (text : List ℕ) → IsReportOver over script ws mid text → IsReportBehind keeping script before after text
    report_behind plain text h = record {
      run = record {
        given = h.run.given;
        kept = at_each (IsHandedOn keeping false) (λ place. Keeps (untold keeping) (h.run.given place)) period before mid after h.run.kept.count handed
            (λ place old k w was is left. keeps_inside false period (h.run.given place) old k w (h.run.kept.each place (gathering period old) w was is) left);
        others = λ place past. h.run.others place (subst (λ n. n ≤ place) (sym (length-map before (gathering period))) past);
        cleared = λ place within. h.run.cleared place (subst (λ n. place < n) (sym (length-map before (gathering period))) within);
        begun = record { begun = h.run.begun.begun; plain = h.run.begun.plain };
        whole = λ loads. whole_behind h.run.given h.run.kept plain text (h.run.whole (loads_behind loads));
      };
      settles = λ loads. h.settles plain (loads_behind loads);
    }

  -- WHERE A KEEPER WAS NOT CLEARED

  forgets : (old k : K) (w : Gathered K) (period : ℕ) → k ≡ w.inner → Becomes (table_of keeping (gathering period old)) (table_of keeping w) (λ table. []) → Becomes (keeping.table old) (keeping.table k) (λ table. [])
  forgets old k w period same h = subst (λ inner. Becomes (keeping.table old) (keeping.table inner) (λ table. [])) (sym same) (go (keeping.table old) (keeping.table w.inner) h)
    where
      go : (told now : Option Table) → Becomes (option_map (λ t. put_all t []) told) (option_map (λ t. put_all t w.pending) now) (λ table. []) → Becomes told now (λ table. [])
      go None now h = tt
      go (Some t) None h = absurd (cc h)
      go (Some t) (Some now) h = ap Some (nothing_put now w.pending (same_Some (put_all now w.pending) [] h))

  all_inside : (ws : List (Gathered K)) → AllZip (λ (w : Gathered K) k. k ≡ w.inner) ws (map (λ w. w.inner) ws)
  all_inside [] = tt
  all_inside (w ∷ ws) = (refl, all_inside ws)

  not_cleared : (place period : ℕ) (before : List K) (mid : List (Gathered K)) → IsNotCleared over place (map (gathering period) before) mid → IsNotClearedBehind keeping place before (map (λ w. w.inner) mid)
  not_cleared place period before mid h =
      let inside = all_inside mid in
      record {
        within = subst (λ n. place < n) (length-map before (gathering period)) h.within;
        earlier = at_each (λ (w : Gathered K) k. k ≡ w.inner) (λ p old new. p < place → IsCleared (untold keeping) old new) period before mid (map (λ w. w.inner) mid) h.earlier.count inside
            (λ p old k w was is same less.
            let cleared = h.earlier.each p (gathering period old) w was is less in
            record { answered = keeps_let_go (true ∷ []) period old k w same cleared.answered; table = forgets old k w period same cleared.table });
        failed = at_each (λ (w : Gathered K) k. k ≡ w.inner) (λ p old new. p ≡ place → Keeps (untold keeping) (false ∷ []) old new) period before mid (map (λ w. w.inner) mid) h.failed.count inside
            (λ p old k w was is same here. keeps_let_go (false ∷ []) period old k w same (h.failed.each p (gathering period old) w was is here).answered);
        later = at_each (λ (w : Gathered K) k. k ≡ w.inner) (λ p old new. place < p → new ≡ old) period before mid (map (λ w. w.inner) mid) h.later.count inside
            (λ p old k w was is same more. same ∙ ap (λ (v : Gathered K). v.inner) (h.later.each p (gathering period old) w was is more));
      }
    where
      keeps_let_go : (answers : List Bool) (period : ℕ) (old k : K) (w : Gathered K) → k ≡ w.inner → Keeps over answers (gathering period old) w → Keeps (untold keeping) answers old k
      keeps_let_go answers period old k w same h = subst (Keeps (untold keeping) answers old) (sym same) (keeps_inside true period answers old w.inner w h (let_go w))

  -- HOW IT ENDED

  module _ (script : Script) (period : ℕ) (before : List K) (plain : HasNoClients script) where
    pub played_inside : (end : Ending) (mid : List (Gathered K)) → IsPlayed over (IsReportOver over) script (map (gathering period) before) mid end → (last : Ending) (after : List K) → IsTakenOut keeping end mid last after
        → IsPlayedBehind keeping (IsReportBehind keeping) script before after last
    played_inside (Told text) mid h last after (true, handed, is) =
        subst (IsPlayedBehind keeping (IsReportBehind keeping) script before after) (sym is) (record { ends = tt; kept = kept_inside true period before mid after h.kept handed })
    played_inside (Told text) mid h last after (false, handed, is) =
        subst (IsPlayedBehind keeping (IsReportBehind keeping) script before after) (sym is)
        (record { ends = report_behind script period before mid after handed plain (string_bytes text) h.ends; kept = kept_inside false period before mid after h.kept handed })
    played_inside (NotCleared place) mid h last after (is, inner) =
        subst (IsPlayedBehind keeping (IsReportBehind keeping) script before after) (sym is)
        (subst (λ ks. IsPlayedBehind keeping (IsReportBehind keeping) script before ks (NotCleared place)) (sym inner)
        (record { ends = not_cleared place period before mid h.ends; kept = kept_inside true period before mid (map (λ w. w.inner) mid) h.kept (all_let_go mid) }))
    played_inside Memory mid h last after (is, inner) =
        subst (IsPlayedBehind keeping (IsReportBehind keeping) script before after) (sym is)
        (subst (λ ks. IsPlayedBehind keeping (IsReportBehind keeping) script before ks Memory) (sym inner)
        (record { ends = tt; kept = kept_inside true period before mid (map (λ w. w.inner) mid) h.kept (all_let_go mid) }))
