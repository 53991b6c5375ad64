-- The first world.
--     starts        the world that has started
use Rattle.std.proofs.Common.{◌≡◌, ℕ, ◌<◌, ◌≤◌, map, refl, ap, ◌∙◌, arith, Option, None, Some, inl, inr, List, [], ◌∷◌, length, get_or, sym, subst, true, false}
use Rattle.std.specs.Prelude.{if◌then◌else◌, slice_get, option_and_then, is_some, nat_lt, ◌&&◌}
use Rattle.std.proofs.lemmas.Bool.Decides.{nat_tests}
use Rattle.std.proofs.lemmas.Bool.{cases_lt}
use Rattle.std.proofs.lemmas.Option.{slice_get-get_or, slice_get_within}
use Rattle.model_history.specs.Texts.{Text}
use Rattle.model_history.specs.Table.{identity_limit}
use Rattle.model_history.specs.History.{History, IsHistory}
use Rattle.model_kinds.specs.declared.shown.Shown.{Shown}
use Rattle.model_members.specs.Node as nodes
use Rattle.model_members.specs.View.{first_view}
use Rattle.model_members.specs.World.{start, no_link, no_entries, loaded_node}
use Rattle.member_views.specs.Sound.{last_view}
use Rattle.member_keeper.specs.declared.keeper.Keeper.{Ghosts as Keeping}
use Rattle.data_lattice.specs.declared.replica.Replica.{Ghosts}
use Rattle.data_lattice.specs.declared.spelled.SpelledData.{Ghosts as Spelling}
use Rattle.member_node.specs.declared.node.Node.{Node}
use Rattle.member_node.specs.declared.key.KeyDecl.{KeyDecl}
use Rattle.member_node.specs.Members.{AreOfKinds, declared}
use Rattle.world_places.specs.Places.{keeper_of, item_at, member_of}
use Rattle.world_places.specs.Seating.{AreCleared, IsNewMember, AreFirstSeats}
use Rattle.world_members.specs.declared.world.World.{World}
use Rattle.world_places.specs.Channels.{channel_at, no_messages}
use Rattle.world_members.specs.Standing.{StandsForWorld}
use Rattle.world_places.specs.Standing.{StandsForLink, StandsForRunning, TellsStore}
use Rattle.world_members.specs.Steps.{Starts}
use Rattle.world_places.proofs.Storing.{tells_nothing}
use Rattle.world_places.proofs.Starting.{first_seat, no_seat, item_of_all, some_within, kept_all, kept_each}

-- what the parts of the first world are
pub record IsFirstWorld {T K Kind Op Delta : Type 0} {ghosts : Ghosts T Kind Op Delta} {keeping : Keeping K} (members : ℕ) (keys : List (KeyDecl T Kind Op Delta)) (old cleared : List K) (spare : List (Option K)) (world : World T K Kind Op Delta ghosts keeping) : Type 0 where
  pub some : 1 ≤ members
  pub few : members ≤ 8
  pub eight : length cleared ≡ 8
  pub put : spare ≡ map Some cleared
  pub all : AreCleared keeping old cleared
  pub seats : AreFirstSeats members keys world.nodes.items spare world.spare.items
  pub kept : (place : ℕ) → keeper_of world.nodes.items world.spare.items place ≡ item_at spare place
  pub views : world.views ≡ first_view members ∷ []
  pub same_keys : world.keys.items ≡ keys
  pub links : (from to : ℕ) → channel_at world.links from to ≡ (if nat_lt from identity_limit && nat_lt to identity_limit then Some no_messages else None)

module _ {T K Kind Op Delta : Type 0} {ghosts : Ghosts T Kind Op Delta} {keeping : Keeping K} (spelling : Spelling T Kind Op Delta) (members : ℕ) (keys : List (KeyDecl T Kind Op Delta)) (old cleared : List K) (spare : List (Option K)) (world : World T K Kind Op Delta ghosts keeping) (first : IsFirstWorld members keys old cleared spare world) where
  at_place : (place : ℕ) → keeper_of world.nodes.items world.spare.items place ≡ slice_get cleared place
  at_place = kept_all world.nodes.items spare world.spare.items cleared first.put first.kept

  there : (place : ℕ) → place < members → (node : Node T K Kind Op Delta ghosts keeping) × (item_at world.nodes.items place ≡ Some node) × ((keeper : K) × IsNewMember place (first_view members) keys keeper node)
  there place within = go (slice_get cleared place) refl
    where
      go : (o : Option K) → slice_get cleared place ≡ o → (node : Node T K Kind Op Delta ghosts keeping) × (item_at world.nodes.items place ≡ Some node) × ((keeper : K) × IsNewMember place (first_view members) keys keeper node)
      go None none = absurd (let not_there : false ≡ true = ap is_some (sym none) ∙ some_within cleared place (let a = first.few in let b = first.eight in omega arith) in cc)
      go (Some keeper) is =
          let new = first.seats.seated place keeper within (ap (λ xs. item_at xs place) first.put ∙ item_of_all cleared place ∙ is) in
          (new.0, new.1, (keeper, new.2))

  module _ (kinds : Text → Kind) (logs : Text → History Op) (of_kinds : AreOfKinds kinds keys) (histories : (key : Text) → IsHistory (logs key)) where
    abbrev Running : Option (Node T K Kind Op Delta ghosts keeping) → Option (nodes.Node Kind Op Shown) → Type 0
    Running code running = StandsForRunning {ghosts = ghosts} {keeping = keeping} spelling kinds logs code running

    running_first : (i : ℕ) → Running (member_of (first_view members) world.nodes.items i) (if nat_lt i members then Some (loaded_node (map declared keys) i (first_view members) no_entries) else None)
    running_first i = elim (cases_lt i members) [
      | inl below ↦
          let new = there i below in
          let test : nat_lt i members ≡ true = (let h = below in grind (arith, nat_tests)) in
          subst (λ b. Running (member_of (first_view members) world.nodes.items i) (if b then Some (loaded_node (map declared keys) i (first_view members) no_entries) else None)) (sym test)
          (subst (λ o. Running o (Some (loaded_node (map declared keys) i (first_view members) no_entries))) (sym (ap (option_and_then (item_at world.nodes.items)) (first_seat members i below) ∙ new.1))
          (loaded_node (map declared keys) i (first_view members) no_entries, refl, new.2.1.stands kinds logs histories of_kinds))
      | inr past ↦
          let test : nat_lt i members ≡ false = (let h = past in grind (arith, nat_tests)) in
          subst (λ b. Running (member_of (first_view members) world.nodes.items i) (if b then Some (loaded_node (map declared keys) i (first_view members) no_entries) else None)) (sym test)
          (subst (λ o. Running o None) (sym (ap (option_and_then (item_at world.nodes.items)) (no_seat members i past))) refl)
    ]

    link_first : (from to : ℕ) → from < identity_limit → to < identity_limit → StandsForLink {ghosts = ghosts} kinds logs (channel_at world.links from to) no_link
    link_first from to a b =
        let one : nat_lt from identity_limit ≡ true = (let h = a in grind (arith, nat_tests)) in
        let two : nat_lt to identity_limit ≡ true = (let h = b in grind (arith, nat_tests)) in
        subst (λ o. StandsForLink {ghosts = ghosts} kinds logs o no_link)
        (sym (first.links from to ∙ ap (λ x. if x && nat_lt to identity_limit then Some no_messages else None) one ∙ ap (λ x. if x then Some no_messages else None) two))
        (record { next = refl; messages = tt })

    store_first : ((a b : K) → is_some (keeping.table a) ≡ is_some (keeping.table b)) → (place : ℕ) → TellsStore ghosts keeping spelling kinds logs (keeper_of world.nodes.items world.spare.items place) no_entries
    store_first alike place = subst (λ o. TellsStore ghosts keeping spelling kinds logs o no_entries) (sym (at_place place)) (go (slice_get cleared place) refl)
      where
        go : (o : Option K) → slice_get cleared place ≡ o → TellsStore ghosts keeping spelling kinds logs o no_entries
        go None none = tt
        go (Some after) is =
            let within = slice_get_within cleared place after is in
            let was = slice_get-get_or old place after (let same = first.all.count in omega arith) in
            tells_nothing ghosts keeping spelling kinds logs alike _ after (first.all.each place _ after was is)

    pub stands_first : ((a b : K) → is_some (keeping.table a) ≡ is_some (keeping.table b)) → StandsForWorld spelling kinds logs world (start members (map declared keys))
    stands_first alike =
        record {
          views = sym first.views;
          keys = ap (map declared) (sym first.same_keys);
          of_kinds = subst (AreOfKinds kinds) (sym first.same_keys) of_kinds;
          running = λ i. subst (λ vs. Running (member_of (last_view vs) world.nodes.items i) (if nat_lt i members then Some (loaded_node (map declared keys) i (first_view members) no_entries) else None)) (sym first.views) (running_first i);
          links = link_first;
          stores = store_first alike;
        }

  pub starts : ((a b : K) → is_some (keeping.table a) ≡ is_some (keeping.table b)) → Starts spelling members keys old world
  starts alike =
      record {
        kept = kept_each world.nodes.items spare world.spare.items cleared first.put first.kept old first.all;
        means = λ kinds answers of_kinds.
            record {
              run = record { some = first.some; few = (let h = first.few in omega arith); lawful = tt; leads = refl };
              stands = λ logs through. stands_first kinds logs of_kinds through.histories alike;
            };
      }
