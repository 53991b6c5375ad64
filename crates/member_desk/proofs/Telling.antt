-- Notices over what was found are those of the model.
use Rattle.std.proofs.Common.{◌≡◌, ℕ, ◌+◌, ◌<◌, ◌≤◌, List, [], ◌∷◌, ◌++◌, length, take, get_or, Bool, true, false, Option, Some, None, refl, ap, sym, ◌∙◌, subst, append_assoc, take_all}
use Rattle.std.specs.Prelude.{not, ◌||◌, filter, map, if◌then◌else◌}
use Rattle.std.specs.List.{AllZip}
use Rattle.std.proofs.lemmas.List.{append-nil, map-append}
use Rattle.std.proofs.lemmas.List.Elements.{filter-append}
use Rattle.model_history.specs.Texts.{Text}
use Rattle.model_history.specs.History.{History}
use Rattle.model_members.specs.DataType.{DataType}
use Rattle.model_kinds.specs.declared.shown.Shown.{Shown}
use Rattle.member_desk.specs.declared.client.Client.{Client}
use Rattle.member_desk.specs.declared.followed.Followed.{Followed}
use Rattle.member_desk.specs.declared.look.Told.{Told}
use Rattle.member_desk.specs.declared.look.Look.{Look}
use Rattle.member_desk.specs.declared.notice.Notice.{Notice}
use Rattle.member_desk.specs.Values.{same_shown}
use Rattle.member_desk.specs.Notices.{notice_of, tellings, is_news, notices_at, notices_of, told_at_key, told_after}
use Rattle.member_desk.specs.Looks.{shows_told, found_by, notices_by, told_by}
use Rattle.member_desk.proofs.Searches.{take_here}
use Rattle.member_desk.specs.Histories.{shows_history, StandsForTold, StandsForFollowed, StandsForDesk}

-- ONE CLIENT MORE

module _ (key : Text) (shown : Shown) (all : Bool) where
  abbrev if_due : Bool → Client → List Notice
  if_due due client = if due then notice_of key shown client ∷ [] else []

  tellings_more : (clients : List Client) (client : Client) → tellings key shown all (clients ++ client ∷ []) ≡ tellings key shown all clients ++ if_due (all || not client.told) client
  tellings_more clients client =
      ap (map (notice_of key shown)) (filter-append (λ (c : Client). all || not c.told) clients (client ∷ []))
      ∙ map-append (notice_of key shown) (filter (λ (c : Client). all || not c.told) clients) (filter (λ (c : Client). all || not c.told) (client ∷ []))
      ∙ ap (λ (ns : List Notice). tellings key shown all clients ++ ns) (go (all || not client.told))
    where
      go : (due : Bool) → map (notice_of key shown) (if due then client ∷ [] else []) ≡ if_due due client
      go true = refl
      go false = refl

  module _ (before : List Notice) (clients : List Client) (i : ℕ) (client : Client) (inside : i < length clients) (at : client ≡ get_or clients i client) where
    one : tellings key shown all (take (i + 1) clients) ≡ tellings key shown all (take i clients) ++ if_due (all || not client.told) client
    one = ap (tellings key shown all) (take_here clients i client inside at) ∙ tellings_more (take i clients) client

    pub told_one : (now after : List Notice) → now ≡ before ++ tellings key shown all (take i clients) → after ≡ now ++ notice_of key shown client ∷ [] → (all || not client.told) ≡ true → after ≡ before ++ tellings key shown all (take (i + 1) clients)
    told_one now after h added due =
        added ∙ ap (λ (ns : List Notice). ns ++ notice_of key shown client ∷ []) h ∙ append_assoc before (tellings key shown all (take i clients)) (notice_of key shown client ∷ [])
        ∙ ap (λ b. before ++ (tellings key shown all (take i clients) ++ if_due b client)) (sym due) ∙ ap (λ (ns : List Notice). before ++ ns) (sym one)

    pub told_none : (now : List Notice) → now ≡ before ++ tellings key shown all (take i clients) → (all || not client.told) ≡ false → now ≡ before ++ tellings key shown all (take (i + 1) clients)
    told_none now h due =
        h ∙ ap (λ (ns : List Notice). before ++ ns) (sym (append-nil (tellings key shown all (take i clients))))
        ∙ ap (λ b. before ++ (tellings key shown all (take i clients) ++ if_due b client)) (sym due) ∙ ap (λ (ns : List Notice). before ++ ns) (sym one)

-- ONE KEY MORE

zip_more : {A B : Type 0} (R : A → B → Type 0) (xs : List A) (ys : List B) (x : A) (y : B) → AllZip R xs ys → R x y → AllZip R (xs ++ x ∷ []) (ys ++ y ∷ [])
zip_more R [] [] x y h r = (r, tt)
zip_more R [] (b ∷ ys) x y h r = absurd h
zip_more R (a ∷ xs) [] x y h r = absurd h
zip_more R (a ∷ xs) (b ∷ ys) x y h r = (h.0, zip_more R xs ys x y h.1 r)

notices_more : (R : Followed Told → Look → Type 0) (xs : List (Followed Told)) (ys : List Look) (x : Followed Told) (y : Look) → AllZip R xs ys
    → notices_by (xs ++ x ∷ []) (ys ++ y ∷ []) ≡ notices_by xs ys ++ notices_at shows_told x (found_by x.told y)
notices_more R [] [] x y h = append_nothing (notices_at shows_told x (found_by x.told y))
  where
    append_nothing : (ns : List Notice) → ns ++ [] ≡ ns
    append_nothing ns = append-nil ns
notices_more R [] (b ∷ ys) x y h = absurd h
notices_more R (a ∷ xs) [] x y h = absurd h
notices_more R (a ∷ xs) (b ∷ ys) x y h =
    ap (λ (ns : List Notice). notices_at shows_told a (found_by a.told b) ++ ns) (notices_more R xs ys x y h.1)
    ∙ sym (append_assoc (notices_at shows_told a (found_by a.told b)) (notices_by xs ys) (notices_at shows_told x (found_by x.told y)))

-- the notices of the keys before an index, at each of which this was found
pub record AreLooks (R : Followed Told → Look → Type 0) (desk : List (Followed Told)) (index : ℕ) (looks : List Look) (notices : List Notice) : Type 0 where
  pub found : AllZip R (take index desk) looks
  pub told : notices ≡ notices_by (take index desk) looks

pub looks_none : (R : Followed Told → Look → Type 0) (desk : List (Followed Told)) → AreLooks R desk 0 [] []
looks_none R desk = record { found = tt; told = refl }

pub looks_more : (R : Followed Told → Look → Type 0) (desk : List (Followed Told)) (index : ℕ) (looks : List Look) (notices after : List Notice) (here : Followed Told) (look : Look)
    → index < length desk → here ≡ get_or desk index here → R here look → after ≡ notices ++ notices_at shows_told here (found_by here.told look)
    → AreLooks R desk index looks notices → AreLooks R desk (index + 1) (looks ++ look ∷ []) after
looks_more R desk index looks notices after here look inside at found appended h =
    let one = take_here desk index here inside at in
    record {
      found = subst (λ (xs : List (Followed Told)). AllZip R xs (looks ++ look ∷ [])) (sym one) (zip_more R (take index desk) looks here look h.found found);
      told = appended ∙ ap (λ (ns : List Notice). ns ++ notices_at shows_told here (found_by here.told look)) h.told ∙ sym (notices_more R (take index desk) looks here look h.found)
          ∙ ap (λ (xs : List (Followed Told)). notices_by xs (looks ++ look ∷ [])) (sym one);
    }

pub looks_all : (R : Followed Told → Look → Type 0) (desk : List (Followed Told)) (index : ℕ) (looks : List Look) (notices : List Notice) → length desk ≤ index → AreLooks R desk index looks notices → AllZip R desk looks × (notices ≡ notices_by desk looks)
looks_all R desk index looks notices past h =
    let whole = take_all index desk past in
    (subst (λ (xs : List (Followed Told)). AllZip R xs looks) whole h.found, h.told ∙ ap (λ (xs : List (Followed Told)). notices_by xs looks) whole)

module _ {Kind Op : Type 0} (data_type : DataType Kind Op Shown) (kinds : Text → Kind) (logs : Text → History Op) where
  abbrev pub shows : Text → History Op → Shown
  shows = shows_history data_type kinds

  -- THE SAME KEY AND CLIENTS

  same_news : (key : Text) (told : Option Told) (model : Option (History Op)) (now : Told) (history : History Op) → StandsForTold (shows key) (logs key) told model → now.shown ≡ shows key history
      → is_news shows_told key told now ≡ is_news shows key model history
  same_news key None None now history s e = refl
  same_news key None (Some H) now history s e = absurd s
  same_news key (Some told) None now history s e = absurd s
  same_news key (Some told) (Some H) now history s e =
      ap (λ shown. not (same_shown shown now.shown)) s.shown ∙ ap (λ shown. not (same_shown (shows key H) shown)) e

  module _ (key : Text) (clients : List Client) where
    abbrev of_code : Option Told → Followed Told
    of_code told = record { key = key; told = told; clients = clients }

    abbrev of_model : Option (History Op) → Followed (History Op)
    of_model told = record { key = key; told = told; clients = clients }

    same_notices : (told found : Option Told) (model held : Option (History Op)) → StandsForTold (shows key) (logs key) told model → StandsForTold (shows key) (logs key) found held
        → notices_at shows_told (of_code told) found ≡ notices_at shows (of_model model) held
    same_notices told None model None s f = refl
    same_notices told None model (Some history) s f = absurd f
    same_notices told (Some now) model None s f = absurd f
    same_notices told (Some now) model (Some history) s f =
        ap (λ news. tellings key now.shown news clients) (same_news key told model now history s f.shown)
        ∙ ap (λ shown. tellings key shown (is_news shows key model history) clients) f.shown

    same_told : (told found : Option Told) (model held : Option (History Op)) → StandsForTold (shows key) (logs key) told model → StandsForTold (shows key) (logs key) found held
        → StandsForFollowed data_type kinds logs (told_at_key (of_code told) found) (told_at_key (of_model model) held)
    same_told told None model None s f = record { key = refl; clients = refl; told = s }
    same_told told None model (Some history) s f = absurd f
    same_told told (Some now) model None s f = absurd f
    same_told told (Some now) model (Some history) s f = record { key = refl; clients = refl; told = f }

  -- A FOLLOWED KEY

  pub record AreTold (code : Followed Told) (model : Followed (History Op)) (found : Option Told) (held : Option (History Op)) : Type 0 where
    pub notices : notices_at shows_told code found ≡ notices_at shows model held
    pub after : StandsForFollowed data_type kinds logs (told_at_key code found) (told_at_key model held)

  told_key : (code : Followed Told) (model : Followed (History Op)) (found : Option Told) (held : Option (History Op)) → StandsForFollowed data_type kinds logs code model → StandsForTold (shows code.key) (logs code.key) found held → AreTold code model found held
  told_key code model found held s f =
      let same : record { key = code.key; told = model.told; clients = code.clients } ≡ model = λ i. record { key = sym s.key i; told = model.told; clients = sym s.clients i } in
      subst (λ (m : Followed (History Op)). AreTold code m found held) same
      (record { notices = same_notices code.key code.clients code.told found model.told held s.told f; after = same_told code.key code.clients code.told found model.told held s.told f })

  -- THE DESK

  module _ (held : Text → Option (History Op)) where
    abbrev pub IsFound : Followed Told → Look → Type 0
    IsFound code look = (told : Option (History Op)) → StandsForTold (shows code.key) (logs code.key) code.told told → StandsForTold (shows code.key) (logs code.key) (found_by code.told look) (held code.key)

    pub told_all : (code : List (Followed Told)) (looks : List Look) (model : List (Followed (History Op))) → AllZip IsFound code looks → StandsForDesk data_type kinds logs code model
        → (notices_by code looks ≡ notices_of shows held model) × StandsForDesk data_type kinds logs (told_by code looks) (told_after held model)
    told_all [] looks [] f s = (refl, tt)
    told_all [] looks (m ∷ model) f s = absurd s
    told_all (c ∷ code) [] model f s = absurd f
    told_all (c ∷ code) (look ∷ looks) [] f s = absurd s
    told_all (c ∷ code) (look ∷ looks) (m ∷ model) f s =
        let rest = told_all code looks model f.1 s.1 in
        let found = subst (λ (key : Text). StandsForTold (shows c.key) (logs c.key) (found_by c.told look) (held key)) (sym s.0.key) (f.0 m.told s.0.told) in
        let here = told_key c m (found_by c.told look) (held m.key) s.0 found in
        (ap (λ ns. ns ++ notices_by code looks) here.notices ∙ ap (λ ns. notices_at shows m (held m.key) ++ ns) rest.0, (here.after, rest.1))
