-- What views and lists of views keep.
use Rattle.std.proofs.Common.{◌≡◌, ◌≢◌, ℕ, ◌+◌, ◌-◌, ◌<◌, ◌≤◌, ◌==◌, true, List, [], ◌∷◌, ◌++◌, length, filter, ap, sym, subst, ◌∙◌, arith, get_or, ⊎_elim, length-append}
use Rattle.std.specs.Prelude.{Option, Some, All, unwrap_or, option_map, slice_get}
use Rattle.std.proofs.lemmas.List.Elements.{All-filter, All-push}
use Rattle.std.proofs.lemmas.List.Kept.{AllPairs-filter}
use Rattle.std.proofs.lemmas.List.Quantifiers.{all_pairs_push}
use Rattle.std.proofs.lemmas.List.FromFn.{length-map-range_with_len, get_or-map-range_with_len}
use Rattle.std.proofs.lemmas.Option.{slice_get-get_or}
use Rattle.model_history.specs.Table.{identity_limit}
use Rattle.model_history.proofs.HistoryLaws.{slice_get-push}
use Rattle.member_views.specs.Views.{Member, View, is_member, place_of, without_member, with_replaced, first_view}
use Rattle.member_views.specs.Sound.{IsView, AreViews, last_view}
use Rattle.member_views.proofs.Others.{is_other, All-find, length_others, found_member, others_run_elsewhere}

module _ (view : View) (i : ℕ) (h : IsView view) (member : is_member view i ≡ true) where
  pub view_without : 1 < length view.members → IsView (without_member view i)
  view_without more =
      let fewer = length_others i view.members h.rising member in
      record {
        some = omega (arith, fewer);
        rising = AllPairs-filter (λ (a b : Member). a.identity < b.identity) (is_other i) view.members h.rising;
        given = All-filter (is_other i) (λ (m : Member). m.identity < view.given) view.members h.given;
        apart = AllPairs-filter (λ (a b : Member). a.place ≢ b.place) (is_other i) view.members h.apart;
        places = All-filter (is_other i) (λ (m : Member). m.place < 8) view.members h.places;
        few = h.few;
        early = omega (arith, fewer, h.early);
      }

  pub view_replaced : view.given < identity_limit → IsView (with_replaced view i)
  view_replaced left =
      let (found, at) = found_member i view.members member in
      let rest = filter (is_other i) view.members in
      let fewer = length_others i view.members h.rising member in
      let new : Member = record { identity = view.given; place = place_of view i } in
      let place_is : place_of view i ≡ found.place = ap (λ (o : Option Member). unwrap_or (option_map (λ (m : Member). m.place) o) 0) at in
      let older : All (λ (m : Member). m.identity < view.given) rest = All-filter (is_other i) (λ (m : Member). m.identity < view.given) view.members h.given in
      let elsewhere = others_run_elsewhere i view.members found h.apart at in
      let longer = length-append rest (new ∷ []) in
      record {
        some = omega (arith, longer);
        rising = all_pairs_push (λ (a b : Member). a.identity < b.identity) rest new (AllPairs-filter (λ (a b : Member). a.identity < b.identity) (is_other i) view.members h.rising) older;
        given = All-push (λ (m : Member). m.identity < view.given + 1) rest new (λ k d within. let less = older k d within in omega (arith, less)) (omega arith);
        apart = all_pairs_push (λ (a b : Member). a.place ≢ b.place) rest new (AllPairs-filter (λ (a b : Member). a.place ≢ b.place) (is_other i) view.members h.apart) (λ k d within same. elsewhere k d within (same ∙ place_is));
        places = All-push (λ (m : Member). m.place < 8) rest new (All-filter (is_other i) (λ (m : Member). m.place < 8) view.members h.places) (subst (λ n. n < 8) (sym place_is) (All-find (λ (m : Member). m.place < 8) (λ (m : Member). m.identity == i) view.members found at h.places));
        few = omega (arith, left);
        early = omega (arith, fewer, longer, h.early);
      }

-- identity i at place i
seat : ℕ → Member
seat i = record { identity = i; place = i }

pub first_is_view : (n : ℕ) → 1 ≤ n → n ≤ 8 → IsView (first_view n)
unfolding seat
first_is_view n some few =
    let count = length-map-range_with_len seat 0 n in
    let at : (i : ℕ) (d : Member) → i < length (first_view n).members → get_or (first_view n).members i d ≡ seat i = λ i d within. get_or-map-range_with_len seat 0 n i i d (omega (arith, count)) (omega arith) in
    let identity : (i : ℕ) (d : Member) → i < length (first_view n).members → (get_or (first_view n).members i d).identity ≡ i = λ i d within. ap (λ (m : Member). m.identity) (at i d within) in
    let place : (i : ℕ) (d : Member) → i < length (first_view n).members → (get_or (first_view n).members i d).place ≡ i = λ i d within. ap (λ (m : Member). m.place) (at i d within) in
    record {
      some = omega (arith, count);
      rising = λ i j d less within. omega (arith, identity i d (omega arith), identity j d within);
      given = λ i d within. omega (arith, identity i d within, count);
      apart = λ i j d less within same. omega (arith, place i d (omega arith), place j d within, same);
      places = λ i d within. omega (arith, place i d within, count);
      few = omega arith;
      early = omega (arith, count);
    }

pub views_append : (views : List View) (view : View) → AreViews views → IsView view → view.number ≡ (last_view views).number + 1 → AreViews (views ++ view ∷ [])
views_append views view h sound next =
    let last_number : (last_view views).number ≡ length views - 1 = h.numbered (length views - 1) (last_view views) (slice_get-get_or views (length views - 1) (first_view 1) (omega (arith, h.some))) in
    record {
      some = omega (arith, length-append views (view ∷ []));
      numbered = λ i v is. ⊎_elim
          (λ (before : slice_get views i ≡ Some v). h.numbered i v before)
          (λ (here : (i ≡ length views) × (view ≡ v)). ap (λ (w : View). w.number) (sym here.1) ∙ omega (arith, next, last_number, h.some, here.0))
          (slice_get-push views view v i is);
      sound = All-push IsView views view h.sound sound;
    }
