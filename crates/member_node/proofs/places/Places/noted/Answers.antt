use Rattle.std.proofs.Common.{◌≡◌, true, bytes_eq, sym, ◌∙◌, subst, subst₂}
use Rattle.member_node.proofs.places.Places.noted.Goals as goal

pub returns-then-eq : goal.returns-then-eq
returns-then-eq g c =
    let state = c.in_ok-state.state.now in
    let there = c.in_ok-state.ensures.lookup.3 in
    let same : bytes_eq state.name c.args.key.now ≡ true = subst₂ (λ a b. bytes_eq a b ≡ true) c.as_str.ensures.value c.as_str-in-loop.ensures.value (sym c.eq.ensures ∙ c.if-eq.true) in
    record { within = there.0; named = λ d. subst (λ state. bytes_eq state.name c.args.key.now ≡ true) (there.1 d) same }
