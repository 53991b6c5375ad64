use Rattle.std.proofs.Common.{◌≡◌, ◌≤◌, ◌<◌, ◌+◌, ◌++◌, length, is_ok, if◌then◌else◌, refl, sym, ap, ◌∙◌, subst, arith}
use Rattle.std.specs.Prelude.{insert}
use Rattle.std.specs.Vec.{vec_len, vec_capacity}
use Rattle.member_node.specs.Declaring.{place_for}
use Rattle.member_node.proofs.Declarings.{place_within}
use Rattle.member_node.proofs.declaring.put_key.Given as given
use Rattle.member_node.proofs.declaring.put_key.Goals as goal

-- all were put into the room
held : (g : given.Over) (c : goal.After-roomy-2-1 g) → vec_len c.append.new.self ≡ vec_len c.args.keys.now
held g c =
    let none : vec_len c.args.room ≡ 0 = c.args.room.ok.0 ∙ ap length c.requires.empty in
    c.append.ensures.len ∙ ap (λ r. if is_ok r then vec_len c.args.room + vec_len c.args.keys.now else vec_len c.args.room) c.unwrap.ensures ∙ (omega (arith, none))

pub unwrap-requires : goal.unwrap-requires
unwrap-requires g c =
    let none : vec_len c.args.room ≡ 0 = c.args.room.ok.0 ∙ ap length c.requires.empty in
    c.append.ensures.succeeds (let room = c.requires.room in omega (arith, none))

pub insert-requires : goal.insert-requires
insert-requires g c =
    let within : c.place_of-place.result ≤ length c.deref.result.now = subst (λ n. n ≤ length c.deref.result.now) (sym c.place_of-place.ensures) (place_within c.args.state.name c.deref.result.now) in
    let long = c.deref.ensures.len in
    let all = held g c in
    omega (arith, within, long, all)

pub unwrap-requires-2 : goal.unwrap-requires-2
unwrap-requires-2 g c =
    let none : vec_len c.args.room ≡ 0 = c.args.room.ok.0 ∙ ap length c.requires.empty in
    let all = c.append.ensures.len ∙ ap (λ r. if is_ok r then vec_len c.args.room + vec_len c.args.keys.now else vec_len c.args.room) c.unwrap.ensures in
    c.insert.ensures.succeeds (let room = c.requires.room in let kept = c.append.ensures.capacity in omega (arith, none, all, room, kept))

pub returns : goal.returns
returns g c =
    let keys = c.args.keys.now.items in
    let moved = c.append.ensures.items ∙ ap (λ r. if is_ok r then c.args.room.items ++ keys else c.args.room.items) c.unwrap.ensures ∙ ap (λ xs. xs ++ keys) c.requires.empty in
    let place = c.place_of-place.ensures ∙ ap (place_for c.args.state.name) c.deref.ensures.value in
    c.insert.ensures.items ∙ ap (λ r. if is_ok r then insert c.append.new.self.items c.place_of-place.result c.args.state else c.append.new.self.items) c.unwrap-2.ensures
    ∙ (λ i. insert (moved i) (place i) c.args.state)
