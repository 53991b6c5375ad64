-- The keepers of a world, in their order.
use Rattle.std.proofs.Common.{◌≡◌, ℕ, zero, suc, ◌<◌, ◌≤◌, List, [], ◌∷◌, ◌++◌, length, Option, Some, None, refl, sym, ap, ◌∙◌, arith}
use Rattle.std.specs.Prelude.{slice_get, option_and_then, option_to_list}
use Rattle.std.proofs.lemmas.Option.{slice_get_past}
use Rattle.data_lattice.specs.declared.replica.Replica.{Ghosts}
use Rattle.member_keeper.specs.declared.keeper.Keeper.{Ghosts as Keeping}
use Rattle.member_node.specs.declared.node.Node.{Node}
use Rattle.world_places.specs.Places.{item_at, first_keeper, keeper_of, keepers_of}

module _ {T K Kind Op Delta : Type 0} {ghosts : Ghosts T Kind Op Delta} {keeping : Keeping K} where
  -- no keeper is behind the places
  pub keeper_past : (nodes : List (Option (Node T K Kind Op Delta ghosts keeping))) (spare : List (Option K)) (place : ℕ) → length nodes ≤ place → length spare ≤ place → keeper_of nodes spare place ≡ None
  keeper_past nodes spare place few few' =
      ap (λ o. first_keeper (option_and_then (λ x. x) o) (item_at spare place)) (slice_get_past nodes place few) ∙ ap (option_and_then (λ x. x)) (slice_get_past spare place few')

  pub record ComeBack (nodes : List (Option (Node T K Kind Op Delta ghosts keeping))) (spare : List (Option K)) : Type 0 where
    pub count : length (keepers_of nodes spare) ≡ length nodes
    pub each : (place : ℕ) (keeper : K) → slice_get (keepers_of nodes spare) place ≡ Some keeper → keeper_of nodes spare place ≡ Some keeper

  -- where each place has a keeper, each stands at its place
  pub come_back : (nodes : List (Option (Node T K Kind Op Delta ghosts keeping))) (spare : List (Option K)) → length nodes ≡ length spare → ((place : ℕ) → place < length nodes → (keeper : K) × (keeper_of nodes spare place ≡ Some keeper)) → ComeBack nodes spare
  come_back [] spare same some = record { count = refl; each = λ place keeper e. absurd (cc e) }
  come_back (node ∷ nodes) [] same some = absurd (omega (arith, same))
  come_back (node ∷ nodes) (keeper ∷ spare) same some =
      let first = some 0 (omega arith) in
      let rest = come_back nodes spare (omega (arith, same)) (λ place less. some (suc place) (omega (arith, less))) in
      let list : keepers_of (node ∷ nodes) (keeper ∷ spare) ≡ first.0 ∷ keepers_of nodes spare = ap (λ o. option_to_list o ++ keepers_of nodes spare) first.1 in
      record {
        count = ap length list ∙ ap suc rest.count;
        each = λ place k e. at first.0 first.1 rest place k (sym (ap (λ ks. slice_get ks place) list) ∙ e);
      }
    where
      at : (k0 : K) → keeper_of (node ∷ nodes) (keeper ∷ spare) 0 ≡ Some k0 → ComeBack nodes spare → (place : ℕ) (k : K) → slice_get (k0 ∷ keepers_of nodes spare) place ≡ Some k → keeper_of (node ∷ nodes) (keeper ∷ spare) place ≡ Some k
      at k0 is rest zero k e = is ∙ e
      at k0 is rest (suc place) k e = rest.each place k e
