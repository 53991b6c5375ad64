-- What a look finds is what the member holds.
use Rattle.std.proofs.Common.{◌≡◌, ℕ, true, Option, Some, None, ap, sym, ◌∙◌, subst}
use Rattle.std.specs.Prelude.{if◌then◌else◌}
use Rattle.model_history.specs.History.{History, at, IsPartOf}
use Rattle.model_history.proofs.HistoryLaws.{same_part}
use Rattle.model_members.specs.Entry.{Entry, has_records}
use Rattle.model_kinds.specs.declared.shown.Shown.{Shown}
use Rattle.base_vectors.specs.Vectors.{number_at}
use Rattle.member_desk.specs.declared.look.Told.{Told}
use Rattle.member_desk.specs.declared.look.Look.{Look}
use Rattle.member_desk.specs.declared.look.Look.TheVariants.{Nothing, Same, Other}
use Rattle.member_desk.specs.Looks.{found_by}
use Rattle.member_desk.specs.Histories.{history_of, HasCountsOf, LooksAt, IsTold, StandsForTold}

module _ {Op : Type 0} (shows : History Op → Shown) (log : History Op) where
  -- what was told of a history is told of another part of the log with as many records
  told_of_same : (told : Told) (H J : History Op) → IsTold shows log told H → IsPartOf J log → ((i : ℕ) → number_at told.counts i ≡ at J i) → IsTold shows log told J
  told_of_same told H J h part counts = record {
    shown = h.shown ∙ ap shows (same_part log H J h.part part (λ i. sym (h.counts i) ∙ counts i));
    counts = counts;
    part = part;
  }

  told_again : (told : Option Told) (model : Option (History Op)) (J : History Op) → StandsForTold shows log told model → IsPartOf J log → HasCountsOf told J → StandsForTold shows log told (Some J)
  told_again None model J s part counts = absurd counts
  told_again (Some told) None J s part counts = absurd s
  told_again (Some told) (Some H) J s part counts = told_of_same told H J s part counts

  with_records : (entry : Entry Op) (found : Option Told) → has_records entry ≡ true → StandsForTold shows log found (Some entry.history) → StandsForTold shows log found (history_of entry)
  with_records entry found some s = subst (λ b. StandsForTold shows log found (if b then Some entry.history else None)) (sym some) s

  pub look_tells : (entry : Entry Op) (told : Option Told) (model : Option (History Op)) (look : Look) → IsPartOf entry.history log → LooksAt shows told entry look → StandsForTold shows log told model
      → StandsForTold shows log (found_by told look) (history_of entry)
  look_tells entry told model Nothing part finds s = subst (λ b. StandsForTold shows log None (if b then Some entry.history else None)) (sym finds.none) tt
  look_tells entry told model Same part finds s = with_records entry told finds.some (told_again told model entry.history s part finds.counts)
  look_tells entry told model (Other now) part finds s = with_records entry (Some now) finds.some (record { shown = finds.shown; counts = finds.counts; part = part })
