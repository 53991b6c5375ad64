use Rattle.std.proofs.Common.{map, Some, find, refl, sym, ap, ◌∙◌, subst, bytes_eq}
use Rattle.member_node.proofs.Common.{AreOwned, bytes_eq-tells, declared_by}
use Rattle.member_node.specs.Declaring.{place_for}
use Rattle.member_node.proofs.Lists.{position-found, position-none}
use Rattle.member_node.proofs.Declarings.{key_placed, place_within, declared_so, undeclared_so, owned_more, stands_declaring}
use Rattle.member_node.proofs.node.Node.declare.Goals as goal

pub are_alike-requires-clause-name : goal.are_alike-requires-clause-name
are_alike-requires-clause-name g c =
    let key = c.args.decl.now.key in
    let at = c.index.result.now in
    let found = position-found (λ state. bytes_eq state.name key) c.args.self.now.keys.items c.in-Some.index c.in-Some.ensures in
    ap (λ state. state.name) c.index.ensures ∙ bytes_eq-tells _ key (found.passes at) ∙ sym (ap (λ decl. decl.name) c.in_ok-state.ensures.declared)

-- DECLARED BEFORE

pub returns-then-are_alike-clause-declared : goal.returns-then-are_alike-clause-declared
returns-then-are_alike-clause-declared g c =
    let key = c.args.decl.now.key in
    let keys = c.args.self.now.keys.items in
    let found = position-found (λ state. bytes_eq state.name key) keys c.in-Some.index c.in-Some.ensures in
    (declared_so key keys c.in-Some.index c.index.result.now found c.index.ensures ∙ ap (λ decl. Some decl) (c.are_alike.ensures.0 c.if-are_alike.true ∙ c.in_ok-state.ensures.declared), refl)

pub returns-in-Some-clause-declared : goal.returns-in-Some-clause-declared
returns-in-Some-clause-declared g c =
    let key = c.args.decl.now.key in
    let keys = c.args.self.now.keys.items in
    let found = position-found (λ state. bytes_eq state.name key) keys c.in-Some.index c.in-Some.ensures in
    (_, declared_so key keys c.in-Some.index c.index.result.now found c.index.ensures, λ same. absurd (cc (c.if-are_alike.false, c.are_alike.ensures.1 (same ∙ sym c.in_ok-state.ensures.declared))), refl)

-- A NEW KEY

pub invariant_of-self : goal.invariant_of-self
invariant_of-self g c =
    let old = c.args.self.now in
    let keys = old.keys.items in
    let state = c.in_ok-state.state in
    let name = ap (λ decl. decl.name) c.in_ok-state.ensures.declared in
    let unknown = ap (λ key. find (λ state. bytes_eq state.name key) keys) name ∙ position-none (λ state. bytes_eq state.name c.args.decl.now.key) keys c.in_default.ensures in
    let owned = subst (AreOwned g.T.Replica old.id old.steps) (sym c.put_key.ensures)
    (owned_more g.T.Replica old.id old.steps (place_for state.name keys) keys state (record { few = old.few_own; unpruned = old.unpruned; logged = old.logged; of_kinds = old.of_kinds; distinct = old.distinct }) c.in_ok-state.ensures.fresh unknown) in
    record {
      few_steps = old.few_steps;
      few_limit = old.few_limit;
      few_operations = old.few_operations;
      few_own = owned.few;
      unpruned = owned.unpruned;
      logged = owned.logged;
      of_kinds = owned.of_kinds;
      distinct = owned.distinct;
    }

pub returns-clause-declared : goal.returns-clause-declared
returns-clause-declared g c =
    let old = c.args.self.now in
    let decl = c.args.decl.now in
    let state = c.in_ok-state.state in
    let declared = c.in_ok-state.ensures.declared in
    let keys = old.keys.items in (
      undeclared_so decl.key keys (position-none (λ state. bytes_eq state.name decl.key) keys c.in_default.ensures),
      record {
        alloc = refl;
        identity = refl;
        view = refl;
        operations = refl;
        steps = refl;
        limit = refl;
        keeper = refl;
        keys = ap (map declared_by) c.put_key.ensures ∙ key_placed decl state keys declared;
        held = record { place = place_for state.name keys; within = place_within state.name keys; state = state; fresh = c.in_ok-state.ensures.fresh; is = c.put_key.ensures };
        stands = λ kinds logs node histories kind lacks s. stands_declaring kinds logs decl state old _ node histories kind lacks declared c.in_ok-state.ensures.fresh c.put_key.ensures refl refl refl refl s;
      },
    )
