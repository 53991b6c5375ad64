-- What a flush tells, and which subscriptions end with their members.
use Rattle.std.proofs.Common.{◌≡◌, ℕ, List, [], ◌∷◌, ◌++◌, map, Bool, Option, None, Some, refl, sym, ap, ap₂, subst, ◌∙◌}
use Rattle.std.specs.Prelude.{filter, find, is_some, not, option_map, if◌then◌else◌, Result, Ok, Err, OnOk, IfOk}
use Rattle.std.specs.Str.{bytes_eq}
use Rattle.model_history.specs.Texts.{Text}
use Rattle.model_history.specs.History.{History}
use Rattle.model_members.proofs.Steps.{bytes_eq-tells}
use Rattle.model_members.specs.DataType.{meaning}
use Rattle.model_members.specs.Node as nodes
use Rattle.model_members.specs.Node.{KeyDecl}
use Rattle.model_kinds.specs.declared.shown.Shown.{Shown}
use Rattle.model_kinds.specs.declared.shown.Shown.TheVariants.{Deleted}
use Rattle.data_lattice.specs.declared.replica.Replica.{Ghosts}
use Rattle.data_lattice.specs.declared.spelled.SpelledData.{Ghosts as Spelling}
use Rattle.member_desk.specs.declared.followed.Followed.{Followed}
use Rattle.member_desk.specs.declared.look.Told.{Told}
use Rattle.member_desk.specs.declared.notice.Notice.{Notice}
use Rattle.member_desk.specs.Histories.{StandsForDesk, history_of, held_at, shown_as, shows_history}
use Rattle.member_desk.specs.Members.{IsToldBy}
use Rattle.member_desk.specs.Notices as desk
use Rattle.member_desk.specs.Notices.{is_news, notices_of, tellings, told_after}
use Rattle.member_desk.specs.Values.{same_shown}
use Rattle.member_desk.proofs.Members.{found_at}
use Rattle.member_keeper.specs.declared.keeper.Keeper.{Ghosts as Keeping}
use Rattle.member_node.proofs.Standing.{find-map}
use Rattle.member_node.specs.Keys.{declared_by}
use Rattle.member_node.specs.Members.{StandsForKey, StandsForNode}
use Rattle.member_node.specs.declared.key.KeyState.{KeyState}
use Rattle.member_node.specs.declared.node.Node.{Node}
use Rattle.member_views.specs.Sound.{last_view}
use Rattle.theorem_watching.specs.Watching.{declared_in, notices_at, of_running, shows_in, told_at}
use Rattle.theorem_watching.specs.Watching.WatchLine.{NoticeLine}
use Rattle.world_members.specs.declared.world.World.{World}
use Rattle.world_places.specs.Places.{member_of}
use Rattle.world_places.specs.Standing.{StandsForRunning}
use Rattle.world_desks.specs.declared.desks.Desks.{Desks}
use Rattle.world_desks.specs.declared.seats.Seat.{Seat}
use Rattle.world_desks.specs.Seats.{desk_of, ChangesAt}
use Rattle.world_desks.specs.Watched.{EndsWithMembers, Tells}
use Rattle.world_desks.proofs.Following.{way_logs, runs_now, desks_mean}
use Rattle.world_desks.proofs.Placed.{desk_filtered, nothing_changed}

-- NOTICES, WHERE VALUES SHOW ALIKE

module _ {V : Type 0} (shows other : Text → V → Shown) where
  same_news : (key : Text) (told : Option V) (now : V) → ((x : V) → shows key x ≡ other key x) → is_news shows key told now ≡ is_news other key told now
  same_news key None now same = refl
  same_news key (Some told) now same = ap₂ (λ a b. not (same_shown a b)) (same told) (same now)

  same_at : (f : Followed V) (found : Option V) → ((now : V) → found ≡ Some now → (x : V) → shows f.key x ≡ other f.key x) → desk.notices_at shows f found ≡ desk.notices_at other f found
  same_at f None same = refl
  same_at f (Some now) same = ap₂ (λ shown all. tellings f.key shown all f.clients) (same now refl now) (same_news f.key f.told now (same now refl))

  same_notices : (found : Text → Option V) → ((key : Text) (now : V) → found key ≡ Some now → (x : V) → shows key x ≡ other key x) → (followed : List (Followed V)) → notices_of shows found followed ≡ notices_of other found followed
  same_notices found same [] = refl
  same_notices found same (f ∷ fs) = ap₂ (λ (a b : List Notice). a ++ b) (same_at f (found f.key) (same f.key)) (same_notices found same fs)

-- WHAT A DECLARED KEY SHOWS

module _ {T K Kind Op Delta : Type 0} {ghosts : Ghosts T Kind Op Delta} {keeping : Keeping K} (kinds : Text → Kind) (logs : Text → History Op) (code : Node T K Kind Op Delta ghosts keeping) (node : nodes.Node Kind Op Shown)
    (s : StandsForNode ghosts.kind_of ghosts.IsDataOf kinds logs code node) (key : Text) where
  is_state : KeyState T Kind Op Delta → Bool
  is_state state = bytes_eq state.name key

  -- the kind of its declaration
  kind_declared : (decl : KeyDecl Kind) → declared_in node.keys key ≡ Some decl → decl.kind ≡ kinds key
  unfolding is_state
  kind_declared decl e = by_state (find is_state code.keys.items) refl (sym (find-map (λ (d : KeyDecl Kind). bytes_eq d.name key) declared_by code.keys.items) ∙ sym (ap (λ (keys : List (KeyDecl Kind)). declared_in keys key) s.keys) ∙ e)
    where
      by_state : (o : Option (KeyState T Kind Op Delta)) → find is_state code.keys.items ≡ o → option_map declared_by o ≡ Some decl → decl.kind ≡ kinds key
      by_state None is e = absurd (cc e)
      by_state (Some state) is e =
          let at = found_at is_state code.keys.items state is in
          let stands = subst (λ (state : KeyState T Kind Op Delta). StandsForKey ghosts.kind_of ghosts.IsDataOf ghosts.IsDeltaOf kinds logs state (node.entries state.name) (node.flushed state.name)) (sym at.here) (s.entries at.place state at.within) in
          let same : declared_by state ≡ decl = cc e in
          ap (λ (d : KeyDecl Kind). d.kind) (sym same) ∙ sym stands.kind ∙ ap kinds (bytes_eq-tells state.name key at.passes)

  pub shown_alike : (history : History Op) → held_at node key ≡ Some history → (x : History Op) → shows_in ghosts.data_type node.keys key x ≡ shows_history ghosts.data_type kinds key x
  shown_alike history held x = by_decl (declared_in node.keys key) refl held
    where
      by_decl : (o : Option (KeyDecl Kind)) → declared_in node.keys key ≡ o → elim o [ None ↦ None | Some decl ↦ history_of (node.entries key) ] ≡ Some history
          → elim o [ None ↦ Deleted | Some decl ↦ shown_as (meaning ghosts.data_type decl.kind x) ] ≡ shows_history ghosts.data_type kinds key x
      by_decl None is e = absurd (cc e)
      by_decl (Some decl) is e = ap (λ kind. shown_as (meaning ghosts.data_type kind x)) (kind_declared decl is)

-- OUTCOMES

pub always : {A E P : Type 0} (result : Result A E) → P → OnOk result P
always (Ok value) h = h
always (Err error) h = tt

module _ {T K Kind Op Delta : Type 0} {ghosts : Ghosts T Kind Op Delta} {keeping : Keeping K} (code : Node T K Kind Op Delta ghosts keeping) where
  -- where nobody follows anything
  pub told_nobody : (old : List (Followed Told)) (notices : List Notice) → old ≡ [] → notices ≡ [] → IsToldBy code old notices old
  told_nobody old notices nobody none = subst (λ (d : List (Followed Told)). IsToldBy code d notices d) (sym nobody) (subst (λ (ns : List Notice). IsToldBy code [] ns []) (sym none) (λ kinds logs node followed s stands. by_desk kinds logs node followed stands))
    where
      by_desk : (kinds : Text → Kind) (logs : Text → History Op) (node : nodes.Node Kind Op Shown) (followed : List (Followed (History Op))) → StandsForDesk ghosts.data_type kinds logs [] followed
          → ([] ≡ notices_of (shows_history ghosts.data_type kinds) (held_at node) followed) × StandsForDesk ghosts.data_type kinds logs [] (told_after (held_at node) followed)
      by_desk kinds logs node [] stands = (refl, tt)
      by_desk kinds logs node (f ∷ fs) stands = absurd stands

-- DESKS OF A WORLD

module _ {T K Kind Op Delta : Type 0} {ghosts : Ghosts T Kind Op Delta} {keeping : Keeping K} (spelling : Spelling T Kind Op Delta) (world : World T K Kind Op Delta ghosts keeping) where
  abbrev member_at : ℕ → Option (Node T K Kind Op Delta ghosts keeping)
  member_at i = member_of (last_view world.views) world.nodes.items i

  -- those of members that do not run are left out
  pub ends_with_members : (old new : Desks) → new.seats.items ≡ filter (λ (seat : Seat). is_some (member_of (last_view world.views) world.nodes.items seat.id)) old.seats.items → EndsWithMembers spelling world old new
  ends_with_members old new left kinds members decls w h =
      record {
        means = h.means;
        stand = λ logs through i.
            subst (λ d. StandsForDesk ghosts.data_type kinds logs d (of_running w.playing.world w.desks i))
            (sym (ap (λ (seats : List Seat). desk_of seats i) left ∙ desk_filtered (λ i. is_some (member_at i)) old.seats.items i))
            (by_running logs i (member_at i) (w.playing.world.nodes i) ((h.means.stands logs through).running i) (h.stand logs through i));
      }
    where
      by_running : (logs : Text → History Op) (i : ℕ) (code : Option (Node T K Kind Op Delta ghosts keeping)) (running : Option (nodes.Node Kind Op Shown)) → StandsForRunning spelling kinds logs code running
          → StandsForDesk ghosts.data_type kinds logs (desk_of old.seats.items i) (w.desks i) → StandsForDesk ghosts.data_type kinds logs (if is_some code then desk_of old.seats.items i else []) (if is_some running then w.desks i else [])
      by_running logs i None running runs was = subst (λ (r : Option (nodes.Node Kind Op Shown)). StandsForDesk ghosts.data_type kinds logs [] (if is_some r then w.desks i else [])) (sym runs) tt
      by_running logs i (Some code) running runs was = subst (λ (r : Option (nodes.Node Kind Op Shown)). StandsForDesk ghosts.data_type kinds logs (desk_of old.seats.items i) (if is_some r then w.desks i else [])) (sym runs.1) was

  -- where no member runs nothing is told
  pub tells_nothing : (at : ℕ) (old : Desks) → None ≡ member_of (last_view world.views) world.nodes.items at → Tells spelling world at [] old old
  tells_nothing at old none kinds members decls w h =
      let runs : w.playing.world.nodes at ≡ None = subst (λ o. StandsForRunning spelling kinds (way_logs spelling world kinds members decls w old h).0 o (w.playing.world.nodes at)) (sym none) (runs_now spelling world kinds members decls w old h at) in
      record {
        told = ap (λ r. map (NoticeLine at) (notices_at ghosts.data_type r (w.desks at))) runs;
        means = desks_mean spelling world kinds members decls w old h old at (desk_of old.seats.items at) (told_at ghosts.data_type (w.playing.world.nodes at) (w.desks at)) (nothing_changed old.seats.items at (desk_of old.seats.items at) refl)
            (λ logs through. subst (λ r. StandsForDesk ghosts.data_type kinds logs (desk_of old.seats.items at) (told_at ghosts.data_type r (w.desks at))) (sym runs) (h.stand logs through at));
      }

  -- where one does, what its desk tells
  pub tells_at : (at : ℕ) (node : Node T K Kind Op Delta ghosts keeping) (old new : Desks) (notices : List Notice) → Some node ≡ member_of (last_view world.views) world.nodes.items at
      → IsToldBy node (desk_of old.seats.items at) notices (desk_of new.seats.items at) → ChangesAt at (desk_of new.seats.items at) old.seats.items new.seats.items → Tells spelling world at notices old new
  tells_at at node old new notices is tells changes kinds members decls w h =
      let logs = way_logs spelling world kinds members decls w old h in
      let runs = subst (λ o. StandsForRunning spelling kinds logs.0 o (w.playing.world.nodes at)) (sym is) (runs_now spelling world kinds members decls w old h at) in
      let told = tells kinds logs.0 runs.0 (w.desks at) runs.2 (h.stand logs.0 logs.1 at) in
      record {
        told =
            ap (λ r. map (NoticeLine at) (notices_at ghosts.data_type r (w.desks at))) runs.1
            ∙ ap (map (NoticeLine at)) (same_notices (shows_in ghosts.data_type runs.0.keys) (shows_history ghosts.data_type kinds) (held_at runs.0) (λ key history held x. shown_alike kinds logs.0 node runs.0 runs.2 key history held x) (w.desks at) ∙ sym told.0);
        means = desks_mean spelling world kinds members decls w old h new at (desk_of new.seats.items at) (told_at ghosts.data_type (w.playing.world.nodes at) (w.desks at)) changes
            (λ logs through.
            let now = subst (λ o. StandsForRunning spelling kinds logs o (w.playing.world.nodes at)) (sym is) ((h.means.stands logs through).running at) in
            subst (λ r. StandsForDesk ghosts.data_type kinds logs (desk_of new.seats.items at) (told_at ghosts.data_type r (w.desks at))) (sym now.1)
            (tells kinds logs now.0 (w.desks at) now.2 (h.stand logs through at)).1);
      }

  -- the same of what a call answers that may want memory
  pub tells_on_ok : {E : Type 0} (at : ℕ) (node : Node T K Kind Op Delta ghosts keeping) (old new : Desks) (result : Result (List Notice) E) → Some node ≡ member_of (last_view world.views) world.nodes.items at
      → IfOk result (λ notices. IsToldBy node (desk_of old.seats.items at) notices (desk_of new.seats.items at)) → OnOk result (ChangesAt at (desk_of new.seats.items at) old.seats.items new.seats.items)
      → IfOk result (λ notices. Tells spelling world at notices old new)
  tells_on_ok at node old new (Ok notices) is told changes = tells_at at node old new notices is told changes
  tells_on_ok at node old new (Err error) is told changes = tt
