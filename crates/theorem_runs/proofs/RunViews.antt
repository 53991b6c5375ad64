-- The views of a run: who is gone stays gone, and a running member is in its own view, in the last one, and in all between.
use Rattle.std.proofs.Common.{◌≡◌, ℕ, zero, suc, ◌+◌, ◌<◌, ◌≤◌, List, [], ◌∷◌, ◌++◌, length, refl, sym, ap, subst, ◌∙◌, arith, Bool, true, false, Option, Some, None, inl, inr, length-append}
use Rattle.std.specs.Prelude.{slice_get}
use Rattle.std.proofs.lemmas.Bool.{cases_lt}
use Rattle.model_history.proofs.CutLaws.{both_ways}
use Rattle.model_history.proofs.HistoryLaws.{slice_get-push, slice_get-below}
use Rattle.model_members.specs.View.{View, is_member}
use Rattle.model_members.specs.DataType.{Replication}
use Rattle.model_members.specs.Node.{Node, Input, Fate}
use Rattle.model_members.specs.Node.Input.{Install}
use Rattle.model_members.specs.Step.{step}
use Rattle.model_members.specs.World.{World, IsGiven, views_of}
use Rattle.theorem_runs.specs.Pruning.{HistoryVariables, noted, view_number}
use Rattle.theorem_runs.proofs.Stepping.{HasView, moves}
use Rattle.theorem_runs.proofs.Stepping.HasView.{SameView, NewView}
use Rattle.theorem_runs.specs.Views.{HasSoundViews}
use Rattle.theorem_runs.proofs.ViewLaws.{IsRising, HasPlaces, IsNextView, IsMemberAfter, some_members, sound}
use Rattle.theorem_runs.proofs.ViewLaws.IsMemberAfter.{OldMember, NewMember}
use Rattle.theorem_runs.proofs.Happening.{NodeAfter, ViewsAfter, AllRun, Follows}
use Rattle.theorem_runs.proofs.Happening.NodeAfter.{Same, Stepped, Started}
use Rattle.theorem_runs.proofs.Happening.ViewsAfter.{SameViews, NextViews}

-- LISTS

pub slice_get-left : {X : Type 0} (xs : List X) (x y : X) (k : ℕ) → slice_get xs k ≡ Some y → slice_get (xs ++ x ∷ []) k ≡ Some y
slice_get-left [] x y k e = absurd (cc e)
slice_get-left (z ∷ xs) x y zero e = e
slice_get-left (z ∷ xs) x y (suc k) e = slice_get-left xs x y k e

slice_get-last : {X : Type 0} (xs : List X) (x : X) → slice_get (xs ++ x ∷ []) (length xs) ≡ Some x
slice_get-last [] x = refl
slice_get-last (y ∷ xs) x = slice_get-last xs x

pub same_some : {X : Type 0} (o : Option X) (x y : X) → o ≡ Some x → o ≡ Some y → x ≡ y
same_some o x y e f = let g : Some x ≡ Some y = sym e ∙ f in cc g

-- THE LIST OF VIEWS

pub record AreViews (views : List View) (last : View) : Type 0 where
  pub long : length views ≡ last.number + 1
  pub listed : slice_get views last.number ≡ Some last
  pub numbered : (k : ℕ) (view : View) → slice_get views k ≡ Some view → view.number ≡ k
  pub below : (k : ℕ) (view : View) (t : ℕ) → slice_get views k ≡ Some view → is_member view t ≡ true → t < view.given
  pub rising : (k : ℕ) (view : View) → slice_get views k ≡ Some view → IsRising 0 view.given view.members
  pub some : (k : ℕ) (view : View) → slice_get views k ≡ Some view → (t : ℕ) × (is_member view t ≡ true)
  pub places : (k : ℕ) (view : View) → slice_get views k ≡ Some view → HasPlaces view
  pub given : (j k : ℕ) (v w : View) → j ≤ k → slice_get views j ≡ Some v → slice_get views k ≡ Some w → v.given ≤ w.given
  pub gone : (j k : ℕ) (v w : View) (r : ℕ) → j ≤ k → slice_get views j ≡ Some v → slice_get views k ≡ Some w → r < v.given → is_member v r ≡ false → is_member w r ≡ false

pub is_or_isnt : (b : Bool) → (A : Type 0) → (b ≡ true → A) → (b ≡ false → A) → A
is_or_isnt true A yes_case no_case = yes_case refl
is_or_isnt false A yes_case no_case = no_case refl

module _ (views : List View) (last : View) (are : AreViews views last) where
  -- who is a member of an earlier and a later view is one of those between
  pub between : (j k l : ℕ) (u v w : View) (t : ℕ) → j ≤ k → k ≤ l → slice_get views j ≡ Some u → slice_get views k ≡ Some v → slice_get views l ≡ Some w → is_member u t ≡ true → is_member w t ≡ true → is_member v t ≡ true
  between j k l u v w t a b hu hv hw mu mw =
      is_or_isnt (is_member v t) (is_member v t ≡ true) (λ e. e)
      (λ e. absurd (both_ways (is_member w t) mw (are.gone k l v w t b hv hw (let p = are.below j u t hu mu in let q = are.given j k u v a hu hv in omega arith) e)))

  pub at_most_last : (k : ℕ) (view : View) → slice_get views k ≡ Some view → k ≤ last.number
  at_most_last k view e = let a = slice_get-below views view k e in let b = are.long in omega arith

  module _ (next : View) (is_next : IsNextView last next) where
    -- who was gone before the last view isn't in the next
    still_gone : (r : ℕ) → r < last.given → is_member last r ≡ false → is_member next r ≡ false
    still_gone r small e = is_or_isnt (is_member next r) (is_member next r ≡ false) (λ m. absurd (go (is_next.member r m))) (λ f. f)
      where
        go : IsMemberAfter last next r → ⊥
        go (OldMember m p) = both_ways (is_member last r) m e
        go (NewMember is g) = omega arith

    new_below : (t : ℕ) → is_member next t ≡ true → t < next.given
    new_below t m = go (is_next.member t m)
      where
        go : IsMemberAfter last next t → t < next.given
        go (OldMember m p) = let a = are.below last.number last t are.listed m in let b = is_next.given in omega arith
        go (NewMember is g) = omega arith

    push_long : length (views ++ next ∷ []) ≡ next.number + 1
    push_long = length-append views (next ∷ []) ∙ (let a = are.long in let b = is_next.number in omega arith)

    pub next_views : AreViews (views ++ next ∷ []) next
    next_views =
        record {
          long = push_long;
          listed = ap (slice_get (views ++ next ∷ [])) (let a = are.long in let b = is_next.number in omega arith) ∙ slice_get-last views next;
          numbered = λ k view e. elim (slice_get-push views next view k e) [
            | inl old ↦ are.numbered k view old
            | inr new ↦ ap (λ (v : View). v.number) (sym new.1) ∙ (let a = are.long in let b = is_next.number in let c = new.0 in omega arith)
          ];
          below = λ k view t e m. elim (slice_get-push views next view k e) [
            | inl old ↦ are.below k view t old m
            | inr new ↦ subst (λ (v : View). t < v.given) new.1 (new_below t (subst (λ (v : View). is_member v t ≡ true) (sym new.1) m))
          ];
          rising = λ k view e. elim (slice_get-push views next view k e) [
            | inl old ↦ are.rising k view old
            | inr new ↦ subst (λ (v : View). IsRising 0 v.given v.members) new.1 (is_next.rising (are.rising last.number last are.listed))
          ];
          some = λ k view e. elim (slice_get-push views next view k e) [
            | inl old ↦ are.some k view old
            | inr new ↦ (is_next.some.0, ap (λ (v : View). is_member v is_next.some.0) (sym new.1) ∙ is_next.some.1)
          ];
          places = λ k view e. elim (slice_get-push views next view k e) [
            | inl old ↦ are.places k view old
            | inr new ↦ subst HasPlaces new.1 (is_next.places (are.places last.number last are.listed))
          ];
          given = λ j k v w h hv hw. elim (slice_get-push views next w k hw) [
            | inl old ↦ elim (slice_get-push views next v j hv) [
              | inl old' ↦ are.given j k v w h old' old
              | inr new' ↦ absurd (let a = slice_get-below views w k old in let b = new'.0 in omega arith)
            ]
            | inr new ↦ elim (slice_get-push views next v j hv) [
              | inl old' ↦
                  let a = are.given j last.number v last (at_most_last j v old') old' are.listed in
                  let b = is_next.given in
                  let c : next.given ≡ w.given = ap (λ (x : View). x.given) new.1 in omega arith
              | inr new' ↦ let c : v.given ≡ w.given = ap (λ (x : View). x.given) (sym new'.1 ∙ new.1) in omega arith
            ]
          ];
          gone = λ j k v w r h hv hw small e. elim (slice_get-push views next w k hw) [
            | inl old ↦ elim (slice_get-push views next v j hv) [
              | inl old' ↦ are.gone j k v w r h old' old small e
              | inr new' ↦ absurd (let a = slice_get-below views w k old in let b = new'.0 in omega arith)
            ]
            | inr new ↦ elim (slice_get-push views next v j hv) [
              | inl old' ↦
                  let late = at_most_last j v old' in
                  subst (λ (x : View). is_member x r ≡ false) new.1
                  (still_gone r (let a = are.given j last.number v last late old' are.listed in omega arith) (are.gone j last.number v last r late old' are.listed small e))
              | inr new' ↦ subst (λ (x : View). is_member x r ≡ false) (sym new'.1 ∙ new.1) e
            ]
          ];
        }

-- RUNNING MEMBERS

module _ {Kind Op Shown : Type 0} where
  pub record RunsWell (variables : HistoryVariables Op) (world : World Kind Op Shown) (t : ℕ) (node : Node Kind Op Shown) : Type 0 where
    pub identity : node.identity ≡ t
    pub keys : node.keys ≡ world.keys
    pub viewed : slice_get (views_of world) node.view.number ≡ Some node.view
    pub member : is_member node.view t ≡ true
    pub last : is_member world.view t ≡ true
    pub installed : variables.installed t ≡ node.view.number

module _ {Kind Op Shown : Type 0} (D : Replication Kind Op Shown) where
  pub record HasViews (variables : HistoryVariables Op) (world : World Kind Op Shown) : Type 0 where
    pub views : AreViews (views_of world) world.view
    pub running : (t : ℕ) (node : Node Kind Op Shown) → world.nodes t ≡ Some node → RunsWell variables world t node
    pub all_run : AllRun D world
    pub installed : (t : ℕ) → variables.installed t ≤ world.view.number

  -- each view of the list is sound
  pub sound_views : (variables : HistoryVariables Op) (world : World Kind Op Shown) → HasViews variables world → HasSoundViews world
  sound_views variables world has number view listed =
      let some = has.views.some number view listed in
      sound number view (has.views.numbered number view listed) (some_members view some.0 some.1) (has.views.rising number view listed) (λ t m. has.views.below number view t listed m) (has.views.places number view listed)

  -- a running member that isn't in a view, or has installed a later one, is past it
  pub past_view : (variables : HistoryVariables Op) (world : World Kind Op Shown) → HasViews variables world → (t : ℕ) (node : Node Kind Op Shown) → world.nodes t ≡ Some node → (view : View) → slice_get (views_of world) view.number ≡ Some view → is_member view t ≡ false → view.number ≤ node.view.number
  past_view variables world has t node runs view listed stranger = elim (cases_lt node.view.number view.number) [
    | inl early ↦
        let well = has.running t node runs in
        absurd (both_ways (is_member view t)
        (between (views_of world) world.view has.views node.view.number view.number world.view.number node.view view world.view t (omega arith) (at_most_last (views_of world) world.view has.views view.number view listed)
        well.viewed listed has.views.listed well.member well.last) stranger)
    | inr late ↦ late
  ]

  -- AN EVENT

  module _ (variables : HistoryVariables Op) (world next : World Kind Op Shown) (has : HasViews variables world) (follows : Follows D world next) where
    pub last_given : (t : ℕ) → is_member world.view t ≡ true → t < world.view.given
    last_given t m = has.views.below world.view.number world.view t has.views.listed m

    views_after : ViewsAfter D world next → AreViews (views_of next) next.view
    views_after (SameViews e v) = subst (λ (views : List View). AreViews views next.view) (λ i. sym e i ++ sym v i ∷ []) (subst (AreViews (views_of world)) (sym v) has.views)
    views_after (NextViews e n) = subst (λ (views : List View). AreViews (views ++ next.view ∷ []) next.view) (sym e) (next_views (views_of world) world.view has.views next.view n)

    -- a view of the list stays in it
    pub still_listed : (k : ℕ) (view : View) → slice_get (views_of world) k ≡ Some view → slice_get (views_of next) k ≡ Some view
    still_listed k view e = go follows.views
      where
        go : ViewsAfter D world next → slice_get (views_of next) k ≡ Some view
        go (SameViews f v) = ap (λ (views : List View). slice_get views k) (λ i. f i ++ v i ∷ []) ∙ e
        go (NextViews f n) = ap (λ (views : List View). slice_get (views ++ next.view ∷ []) k) f ∙ slice_get-left (views_of world) next.view view k e

    pub later_number : world.view.number ≤ next.view.number
    later_number = go follows.views
      where
        go : ViewsAfter D world next → world.view.number ≤ next.view.number
        go (SameViews f v) = let a : next.view.number ≡ world.view.number = ap (λ (x : View). x.number) v in omega arith
        go (NextViews f n) = let a = n.number in omega arith

    pub record StaysWell (t : ℕ) (node : Node Kind Op Shown) : Type 0 where
      pub identity : node.identity ≡ t
      pub keys : node.keys ≡ next.keys
      pub viewed : slice_get (views_of next) node.view.number ≡ Some node.view
      pub member : is_member node.view t ≡ true
      pub last : is_member next.view t ≡ true

    -- an installed view is one of the list, and the member is in it
    installs : (t : ℕ) (old : Node Kind Op Shown) (input : Input Op) → world.nodes t ≡ Some old → (view : View) → input ≡ Install view → old.view.number < view.number → IsGiven D world t input → (slice_get (views_of world) view.number ≡ Some view) × (is_member view t ≡ true)
    installs t old input runs view is later given =
        let g : (k : ℕ) × (slice_get (views_of world) k ≡ Some view) = subst (λ (x : Input Op). IsGiven D world t x) is given in
        let listed : slice_get (views_of world) view.number ≡ Some view = ap (slice_get (views_of world)) (has.views.numbered g.0 view g.1) ∙ g.1 in
        let well = has.running t old runs in (
          listed,
          between (views_of world) world.view has.views old.view.number view.number world.view.number old.view view world.view t (omega arith) (at_most_last (views_of world) world.view has.views view.number view listed)
              well.viewed listed has.views.listed well.member well.last,
        )

    stepped_well : (t : ℕ) (old new : Node Kind Op Shown) (input : Input Op) (fate : Fate) → world.nodes t ≡ Some old → IsGiven D world t input → new ≡ (step D old input fate).node → next.view ≡ world.view → StaysWell t new
    stepped_well t old new input fate runs comes is same =
        let well = has.running t old runs in
        let m = moves D old input fate in
        let ident : new.identity ≡ t = ap (λ (n : Node Kind Op Shown). n.identity) is ∙ m.identity ∙ well.identity in
        let keys : new.keys ≡ next.keys = ap (λ (n : Node Kind Op Shown). n.keys) is ∙ m.keys ∙ well.keys ∙ sym follows.keys in
        let stays : is_member next.view t ≡ true = ap (λ (v : View). is_member v t) same ∙ well.last in
        by_view m.view ident keys stays
      where
        by_view : HasView old input (step D old input fate).node → new.identity ≡ t → new.keys ≡ next.keys → is_member next.view t ≡ true → StaysWell t new
        by_view (SameView e) ident keys stays =
            let well = has.running t old runs in
            let v : new.view ≡ old.view = ap (λ (n : Node Kind Op Shown). n.view) is ∙ e in
            record {
              identity = ident;
              keys = keys;
              viewed = subst (λ (x : View). slice_get (views_of next) x.number ≡ Some x) (sym v) (still_listed old.view.number old.view well.viewed);
              member = ap (λ (x : View). is_member x t) v ∙ well.member;
              last = stays;
            }
        by_view (NewView view was later e) ident keys stays =
            let i = installs t old input runs view was later comes in
            let v : new.view ≡ view = ap (λ (n : Node Kind Op Shown). n.view) is ∙ e in
            record {
              identity = ident;
              keys = keys;
              viewed = subst (λ (x : View). slice_get (views_of next) x.number ≡ Some x) (sym v) (still_listed view.number view i.0);
              member = ap (λ (x : View). is_member x t) v ∙ i.1;
              last = stays;
            }

    well_after : (t : ℕ) (new : Node Kind Op Shown) → NodeAfter D world next t new → StaysWell t new
    well_after t new (Same e stays) = let well = has.running t new e in record { identity = well.identity; keys = well.keys ∙ sym follows.keys; viewed = still_listed new.view.number new.view well.viewed; member = well.member; last = stays well.last }
    well_after t new (Stepped old input fate e comes is same) = stepped_well t old new input fate e comes is same
    well_after t new (Started store is given member made from) =
        let v : new.view ≡ next.view = ap (λ (n : Node Kind Op Shown). n.view) made in
        record {
          identity = ap (λ (n : Node Kind Op Shown). n.identity) made;
          keys = ap (λ (n : Node Kind Op Shown). n.keys) made ∙ sym follows.keys;
          viewed = subst (λ (x : View). slice_get (views_of next) x.number ≡ Some x) (sym v) (views_after follows.views).listed;
          member = ap (λ (x : View). is_member x t) v ∙ member;
          last = member;
        }

    -- the number of a listed view
    listed_number : (k : ℕ) (view : View) → slice_get (views_of next) k ≡ Some view → k ≤ next.view.number
    listed_number k view e = at_most_last (views_of next) next.view (views_after follows.views) k view e

    pub views_follow : HasViews (noted variables next) next
    views_follow =
        record {
          views = views_after follows.views;
          running = λ t node e.
              let w = well_after t node (follows.nodes t node e) in
              record { identity = w.identity; keys = w.keys; viewed = w.viewed; member = w.member; last = w.last; installed = ap (λ o. view_number o (variables.installed t)) e };
          all_run = follows.running has.all_run;
          installed = λ t. number_of t (next.nodes t) refl;
        }
      where
        number_of : (t : ℕ) (o : Option (Node Kind Op Shown)) → next.nodes t ≡ o → view_number o (variables.installed t) ≤ next.view.number
        number_of t None e = let a = has.installed t in let b = later_number in omega arith
        number_of t (Some node) e = listed_number node.view.number node.view (well_after t node (follows.nodes t node e)).viewed
