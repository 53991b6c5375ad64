-- What a flush leaves of the keepers inside those that write behind.
use Rattle.std.proofs.Common.{◌≡◌, List, [], ◌∷◌, ◌++◌, Bool, true, false, None, Some, arith, refl, sym, ap, ◌∙◌}
use Rattle.std.specs.Prelude.{Result, Ok, Err, MatchBool, nat_eq, ◌||◌, option_map, is_some, IsSome}
use Rattle.std.specs.declared.option.Option.{Option}
use Rattle.std.proofs.lemmas.Bool.Decides.{nat_tests}
use Rattle.member_keeper.specs.declared.keeper.Keeper.{Ghosts as Keeping}
use Rattle.member_keeper.specs.Tables.{Table, put_all}
use Rattle.member_keeper.specs.Calls.{Becomes}
use Rattle.member_keeper.specs.declared.keeper.KeeperError.{KeeperError}
use Rattle.member_keeper.specs.declared.keeper.KeeperError.TheVariants as error
use Rattle.member_write_behind.specs.Gathering.{Gathered, IsGathering, table_of, HandsOn, Flushes}
use Rattle.top_call.specs.Stopping.{IsHandedOn, AreHandedOn}

module _ {K : Type 0} (keeping : Keeping K) where
  not_told : {X : Type 0} (o : Option X) → is_some o ≡ false → o ≡ None
  not_told None h = refl
  not_told (Some x) h = absurd (cc h)

  -- a told table that becomes another one, and one that is not told
  becomes_told : (told now : Option Table) (change : Table → Table) → is_some now ≡ is_some told → Becomes told now change → now ≡ option_map change told
  becomes_told None now change same h = not_told now same
  becomes_told (Some t) now change same h = h

  module _ (alike : (a b : K) → is_some (keeping.table a) ≡ is_some (keeping.table b)) (old new : Gathered K) (sound : IsGathering new.period new.waiting new.pending) where
    idle : old.waiting ≡ 0 → new ≡ old → keeping.table new.inner ≡ table_of keeping old
    idle none same =
        let empty : old.pending ≡ [] = ap (λ (w : Gathered K). w.pending) (sym same) ∙ sound.none (ap (λ (w : Gathered K). w.waiting) same ∙ none) in
        ap (λ (w : Gathered K). keeping.table w.inner) same ∙ unchanged (keeping.table old.inner) ∙ ap (λ (p : Table). option_map (λ t. put_all t p) (keeping.table old.inner)) (sym empty)
      where
        unchanged : (o : Option Table) → o ≡ option_map (λ t. put_all t []) o
        unchanged None = refl
        unchanged (Some t) = refl

    tells_still : IsSome (keeping.table old.inner) → IsSome (keeping.table new.inner)
    tells_still some = alike new.inner old.inner ∙ some

    -- nothing waited, or what waited was handed on
    abbrev Handed : Bool → Result (Unit {0}) KeeperError → Type 0
    Handed none result = MatchBool none ((new ≡ old) × (result ≡ Ok tt)) (HandsOn keeping old new [] result)

    pub flushed : (result : Result (Unit {0}) KeeperError) → Flushes keeping old new result → (refused : Bool) → (result ≡ Err error.Memory → refused ≡ true) → IsHandedOn keeping refused old new.inner
    flushed result h refused says = go (nat_eq old.waiting 0) refl result h says
      where
        go : (none : Bool) → nat_eq old.waiting 0 ≡ none → (r : Result (Unit {0}) KeeperError) → Handed none r → (r ≡ Err error.Memory → refused ≡ true) → IsHandedOn keeping refused old new.inner
        go true is r h says = record {
          later = let same = ap (λ (w : Gathered K). keeping.faults w.inner) h.0 in omega (arith, same);
          tells = tells_still;
          table = λ kept stays. idle (grind (arith, nat_tests, is)) h.0;
        }
        go false is (Ok x) h says = record {
          later = h.cause.later;
          tells = tells_still;
          table = λ kept stays. becomes_told (keeping.table old.inner) (keeping.table new.inner) (λ t. put_all t old.pending) (alike new.inner old.inner) h.inner;
        }
        go false is (Err error.Failed) h says = record {
          later = h.cause.later;
          tells = tells_still;
          table = λ kept stays. absurd (stays (h.cause.failed refl));
        }
        go false is (Err error.Memory) h says = record {
          later = h.cause.later;
          tells = tells_still;
          table = λ kept stays. absurd (let refused_so = says refl in cc (kept, refused_so));
        }

  -- memory was refused here or before
  pub refused_more : (a b : Bool) (w : Gathered K) (k : K) → IsHandedOn keeping b w k → IsHandedOn keeping (a || b) w k
  refused_more true b w k h = record { later = h.later; tells = h.tells; table = λ no. absurd (cc no) }
  refused_more false b w k h = h

  refused_before : (a b : Bool) (w : Gathered K) (k : K) → IsHandedOn keeping a w k → IsHandedOn keeping (a || b) w k
  refused_before true b w k h = h
  refused_before false true w k h = record { later = h.later; tells = h.tells; table = λ no. absurd (cc no) }
  refused_before false false w k h = h

  pub handed_more : (a b : Bool) (ws : List (Gathered K)) (ks : List K) (w : Gathered K) (k : K) → AreHandedOn keeping a ws ks → IsHandedOn keeping b w k → AreHandedOn keeping (a || b) (ws ++ w ∷ []) (ks ++ k ∷ [])
  handed_more a b [] [] w k all one = (refused_more a b w k one, tt)
  handed_more a b [] (y ∷ ks) w k all one = absurd all
  handed_more a b (x ∷ ws) [] w k all one = absurd all
  handed_more a b (x ∷ ws) (y ∷ ks) w k all one = (refused_before a b x y all.0, handed_more a b ws ks w k all.1 one)
