-- What was told stands where nothing came since.
use Rattle.std.proofs.Common.{◌≡◌, ℕ, ◌+◌, ◌<◌, length, get_or, List, [], true, false, Option, Some, None, refl, ap, sym, ◌∙◌, map}
use Rattle.std.specs.Prelude.{not, is_some}
use Rattle.std.proofs.Math.ListN.{set}
use Rattle.model_history.specs.Texts.{Text}
use Rattle.member_node.proofs.Lists.{mapped_before, mapped_more}
use Rattle.member_desk.specs.declared.client.Client.{Client}
use Rattle.member_desk.specs.declared.followed.Followed.{Followed}
use Rattle.member_desk.specs.declared.look.Told.{Told}
use Rattle.member_desk.specs.Notices.{told_client, tellings, is_news, notices_at, told_at_key}
use Rattle.member_desk.specs.Looks.{shows_told}
use Rattle.member_desk.proofs.Searches.{read_any}
use Rattle.member_desk.proofs.SameValues.{same_self}

pub standing_notices : (f : Followed Told) (told : Told) → f.told ≡ Some told → tellings f.key told.shown false f.clients ≡ notices_at shows_told f f.told
standing_notices f told is =
    ap (λ b. tellings f.key told.shown (not b) f.clients) (sym (same_self told.shown))
    ∙ ap (λ (o : Option Told). tellings f.key told.shown (is_news shows_told f.key o told) f.clients) (sym is)
    ∙ ap (notices_at shows_told f) (sym is)

pub nothing_standing : (f : Followed Told) → f.told ≡ None → notices_at shows_told f f.told ≡ []
nothing_standing f is = ap (notices_at shows_told f) is

module _ (key : Text) (clients : List Client) where
  abbrev with_told : Option Told → Followed Told
  with_told told = record { key = key; told = told; clients = clients }

  noted : (told : Option Told) → is_some told ≡ true → record { key = key; told = told; clients = map told_client clients } ≡ told_at_key (with_told told) told
  noted None e = absurd (cc e)
  noted (Some told) e = refl

  nothing_noted : (told : Option Told) → is_some told ≡ false → with_told told ≡ told_at_key (with_told told) told
  nothing_noted None e = refl
  nothing_noted (Some told) e = absurd (cc e)

pub standing_noted : (f : Followed Told) → is_some f.told ≡ true → record f { clients = map told_client f.clients } ≡ told_at_key f f.told
standing_noted f e = noted f.key f.clients f.told e

pub nothing_to_note : (f : Followed Told) → is_some f.told ≡ false → f ≡ told_at_key f f.told
nothing_to_note f e = nothing_noted f.key f.clients f.told e

-- one client more is noted
pub noted_more : (clients now : List Client) (i : ℕ) (d : Client) → now ≡ mapped_before told_client clients i → i < length clients → i < length now → set now i (told_client (get_or now i d)) ≡ mapped_before told_client clients (i + 1)
noted_more clients now i d is inside within = mapped_more told_client clients now i (get_or now i d) (told_client (get_or now i d)) is inside (read_any now i d (get_or now i d) within) refl
