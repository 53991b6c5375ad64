-- Successive notices differ, their histories rise, and the last one is what was found last.
use Rattle.std.proofs.Common.{◌≡◌, List, [], ◌∷◌, Bool, true, false, Option, Some, None, refl, ap, sym, ◌∙◌, subst, map}
use Rattle.std.specs.Prelude.{if◌then◌else◌, not, option_map}
use Rattle.std.specs.List.{AllByRecursion}
use Rattle.model_history.specs.Texts.{Text}
use Rattle.model_history.specs.History.{History, IsPartOf}
use Rattle.model_kinds.specs.declared.shown.Shown.{Shown}
use Rattle.member_desk.specs.Values.{same_shown}
use Rattle.member_desk.specs.Notices.{is_news}
use Rattle.member_desk.specs.Successive.{tellings, found_values, IsOther, Differ, Rise, last_of}
use Rattle.member_desk.proofs.SameValues.{shown_decides}

-- what starts after something told starts with something else
abbrev StartsOther : Option Shown → List Shown → Type 0
StartsOther None more = Unit {0}
StartsOther (Some shown) more = IsOther shown more

module _ {V : Type 0} (shows : Text → V → Shown) (key : Text) where
  not_news : (told : Option V) (now : V) → is_news shows key told now ≡ false → option_map (shows key) told ≡ Some (shows key now)
  not_news None now e = absurd (cc e)
  not_news (Some t) now e = go (same_shown (shows key t) (shows key now)) refl e
    where
      go : (same : Bool) → same_shown (shows key t) (shows key now) ≡ same → not same ≡ false → Some (shows key t) ≡ Some (shows key now)
      go true is e' = ap Some ((shown_decides (shows key t) (shows key now)).0 is)
      go false is e' = absurd (cc e')

  news_differ : (told : Option V) (now : V) (more : List Shown) → is_news shows key told now ≡ true → StartsOther (option_map (shows key) told) (shows key now ∷ more)
  news_differ None now more e = tt
  news_differ (Some t) now more e = λ same. let yes = (shown_decides (shows key t) (shows key now)).1 same in absurd (let no = sym e ∙ ap not yes in cc no)

  nothing_other : (told : Option Shown) → StartsOther told []
  nothing_other None = tt
  nothing_other (Some shown) = tt

  changing : (told : Option V) (found : List (Option V)) → StartsOther (option_map (shows key) told) (map (shows key) (tellings shows key told found)) × Differ (map (shows key) (tellings shows key told found))
  changing told [] = (nothing_other (option_map (shows key) told), tt)
  changing told (None ∷ found) = changing told found
  changing told (Some now ∷ found) = go (is_news shows key told now) refl (changing (Some now) found)
    where
      rest : List Shown
      rest = map (shows key) (tellings shows key (Some now) found)

      go : (news : Bool) → is_news shows key told now ≡ news → IsOther (shows key now) rest × Differ rest
          → StartsOther (option_map (shows key) told) (map (shows key) (if news then now ∷ tellings shows key (Some now) found else tellings shows key (Some now) found))
          × Differ (map (shows key) (if news then now ∷ tellings shows key (Some now) found else tellings shows key (Some now) found))
      go true is h = (news_differ told now rest is, h)
      go false is h = (subst (λ (t : Option Shown). StartsOther t rest) (sym (not_news told now is)) h.0, h.1)

  pub tellings_differ : (told : Option V) (found : List (Option V)) → Differ (map (shows key) (tellings shows key told found))
  tellings_differ told found = (changing told found).1

  pub last_told : (told : Option V) (found : List (Option V)) → last_of (option_map (shows key) told) (map (shows key) (tellings shows key told found)) ≡ last_of (option_map (shows key) told) (map (shows key) (found_values found))
  last_told told [] = refl
  last_told told (None ∷ found) = last_told told found
  last_told told (Some now ∷ found) = go (is_news shows key told now) refl (last_told (Some now) found)
    where
      go : (news : Bool) → is_news shows key told now ≡ news
          → last_of (Some (shows key now)) (map (shows key) (tellings shows key (Some now) found)) ≡ last_of (Some (shows key now)) (map (shows key) (found_values found))
          → last_of (option_map (shows key) told) (map (shows key) (if news then now ∷ tellings shows key (Some now) found else tellings shows key (Some now) found)) ≡ last_of (Some (shows key now)) (map (shows key) (found_values found))
      go true is h = h
      go false is h = ap (λ t. last_of t (map (shows key) (tellings shows key (Some now) found))) (not_news told now is) ∙ h

  -- what is told is some of what is found
  all_told : (P : V → Type 0) (told : Option V) (found : List (Option V)) → AllByRecursion P (found_values found) → AllByRecursion P (tellings shows key told found)
  all_told P told [] h = h
  all_told P told (None ∷ found) h = all_told P told found h
  all_told P told (Some now ∷ found) h = go (is_news shows key told now) (all_told P (Some now) found h.1)
    where
      go : (news : Bool) → AllByRecursion P (tellings shows key (Some now) found) → AllByRecursion P (if news then now ∷ tellings shows key (Some now) found else tellings shows key (Some now) found)
      go true rest = (h.0, rest)
      go false rest = rest

module _ {Op : Type 0} (shows : Text → History Op → Shown) (key : Text) where
  pub tellings_rise : (told : Option (History Op)) (found : List (Option (History Op))) → Rise (found_values found) → Rise (tellings shows key told found)
  tellings_rise told [] h = tt
  tellings_rise told (None ∷ found) h = tellings_rise told found h
  tellings_rise told (Some now ∷ found) h = go (is_news shows key told now) (tellings_rise (Some now) found h.1)
    where
      go : (news : Bool) → Rise (tellings shows key (Some now) found) → Rise (if news then now ∷ tellings shows key (Some now) found else tellings shows key (Some now) found)
      go true rest = (all_told shows key (IsPartOf now) (Some now) found h.0, rest)
      go false rest = rest
