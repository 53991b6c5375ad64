use Rattle.std.proofs.Common.{arith, refl, sym, ap, subst, ◌∙◌, map}
use Rattle.std.specs.Prelude.{is_some}
use Rattle.std.proofs.lemmas.List.{nil_from_length}
use Rattle.member_node.specs.Members.{AreDistinct}
use Rattle.world_places.specs.Keeping.{AreSeated}
use Rattle.world_places.specs.Places.{item_at}
use Rattle.world_places.specs.Seating.{AreFirstSeats}
use Rattle.world_members.proofs.Starting.{starts}
use Rattle.world_places.proofs.Starting.{none_refused, item_of_all, some_within, cleared_kept, come_back, seats_first}
use Rattle.world_members.proofs.world.World.start.Goals as goal

pub returns-in-Err : goal.returns-in-Err
returns-in-Err g c = cleared_kept g.K.Keeper c.args.keepers.items c.clear_all.new.keepers.items (none_refused g.K.Keeper c.clear_all.result c.args.keepers.items c.clear_all.new.keepers.items c.in_default.not-Some c.clear_all.ensures.clears)

pub seat_first-requires-clause-distinct : goal.seat_first-requires-clause-distinct
seat_first-requires-clause-distinct g c = subst (λ keys. AreDistinct (map (λ decl. decl.key) keys)) (sym c.deref.ensures.value) c.requires.distinct

pub seat_first-requires-clause-keepers : goal.seat_first-requires-clause-keepers
seat_first-requires-clause-keepers g c = λ place within.
    ap is_some (ap (λ xs. item_at xs place) c.put_by.ensures.spare ∙ item_of_all c.clear_all.new.keepers.items place) ∙ some_within c.clear_all.new.keepers.items place (omega (arith, c.clear_all.new.keepers.ok.0, c.clear_all.ensures.len))

pub invariant_of-result-clause-distinct : goal.invariant_of-result-clause-distinct
invariant_of-result-clause-distinct g c = c.requires.distinct

pub invariant_of-result-clause-seated : goal.invariant_of-result-clause-seated
invariant_of-result-clause-seated g c =
    subst (λ vs. AreSeated vs c.seat_first.new.nodes.items c.seat_first.new.spare.items) (sym c.in-Ok.ensures.views)
    (seats_first c.seat_first.new.nodes.items c.put_by.new.spare.items c.seat_first.new.spare.items c.clear_all.new.keepers.items c.put_by.ensures.spare c.args.members c.args.keys.items c.requires.few (omega (arith, c.clear_all.new.keepers.ok.0, c.clear_all.ensures.len)) (subst (λ keys. AreFirstSeats c.args.members keys c.seat_first.new.nodes.items c.put_by.new.spare.items c.seat_first.new.spare.items) c.deref.ensures.value c.in-Ok-seat_first.ensures.seats))

pub returns-in-Ok-seat_first : goal.returns-in-Ok-seat_first
returns-in-Ok-seat_first g c =
    starts g.T.SpelledData c.args.members c.args.keys.items c.args.keepers.items c.clear_all.new.keepers.items c.put_by.new.spare.items _
    (record {
      some = c.requires.some;
      few = c.requires.few;
      eight = omega (arith, c.clear_all.new.keepers.ok.0, c.clear_all.ensures.len);
      put = c.put_by.ensures.spare;
      all = none_refused g.K.Keeper c.clear_all.result c.args.keepers.items c.clear_all.new.keepers.items c.in_default.not-Some c.clear_all.ensures.clears;
      seats = subst (λ keys. AreFirstSeats c.args.members keys c.seat_first.new.nodes.items c.put_by.new.spare.items c.seat_first.new.spare.items) c.deref.ensures.value c.in-Ok-seat_first.ensures.seats;
      kept = c.seat_first.ensures.kept;
      views = c.in-Ok.ensures.views;
      same_keys = refl;
      links = c.in-Ok.ensures.links;
    })
    g.met.K.Keeper.tells_alike

pub returns-in-Err-seat_first : goal.returns-in-Err-seat_first
returns-in-Err-seat_first g c =
    come_back c.seat_first.new.nodes.items c.put_by.new.spare.items c.seat_first.new.spare.items c.clear_all.new.keepers.items c.put_by.ensures.spare c.seat_first.ensures.kept c.args.keepers.items c.gathered.result.items c.put_by.new.keepers.items (nil_from_length c.put_by.new.keepers.items (omega (arith, c.put_by.new.keepers.ok.0, c.put_by.ensures.none)))
    (omega (arith, c.seat_first.new.nodes.ok.0, c.seat_first.ensures.len_nodes, c.clear_all.new.keepers.ok.0, c.clear_all.ensures.len)) (omega (arith, c.seat_first.new.spare.ok.0, c.seat_first.ensures.len_spare, c.clear_all.new.keepers.ok.0, c.clear_all.ensures.len)) c.gathered.ensures
    (none_refused g.K.Keeper c.clear_all.result c.args.keepers.items c.clear_all.new.keepers.items c.in_default.not-Some c.clear_all.ensures.clears)
