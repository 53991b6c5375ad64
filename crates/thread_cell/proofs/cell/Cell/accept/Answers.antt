use Rattle.std.proofs.Common.{◌≡◌, ℕ, ◌<◌, ◌≤◌, length, Result, Ok, Err, refl, ap, sym, ◌∙◌, subst, arith}
use Rattle.thread_cell.specs.declared.cell.CellError.{CellError}
use Rattle.thread_cell.specs.declared.cell.CellError.TheVariants.{CellFull, Refused, Memory}
use Rattle.thread_cell.specs.Lists.{at}
use Rattle.thread_cell.specs.Rule.{most}
use Rattle.thread_cell.specs.Seats.{IsAtPlace, IsOfClient}
use Rattle.thread_cell.specs.Values.{IsSession, IsCell}
use Rattle.thread_cell.proofs.Accepted.{cell_refused, session_kept, cell_kept, accepts_kept}
use Rattle.thread_cell.proofs.cell.Cell.accept.Goals as goal

is_most : (index n : ℕ) → index ≡ n → n ≤ most → most ≤ index → n ≡ most
is_most index n is few t = omega arith

not_most : (index n : ℕ) → index ≡ n → index < most → n ≡ most → ⊥
not_most index n is room t = omega arith

module _ {T R : Type 0} (result : Result T (CellError R)) where
  full_not_refused : (r : R) → result ≡ Err CellFull → result ≡ Err (Refused r) → ⊥
  full_not_refused r is t = cc

  memory_not_full : result ≡ Err Memory → result ≡ Err CellFull → ⊥
  memory_not_full is t = cc

  memory_not_refused : (r : R) → result ≡ Err Memory → result ≡ Err (Refused r) → ⊥
  memory_not_refused r is t = cc

  ok_not_full : (x : T) → result ≡ Ok x → result ≡ Err CellFull → ⊥
  ok_not_full x is t = cc

  ok_not_refused : (x : T) (r : R) → result ≡ Ok x → result ≡ Err (Refused r) → ⊥
  ok_not_refused x r is t = cc

pub returns-then-index-ge-MOST-clause-ok : goal.returns-then-index-ge-MOST-clause-ok
returns-then-index-ge-MOST-clause-ok g c = tt

pub returns-then-index-ge-MOST-clause-table : goal.returns-then-index-ge-MOST-clause-table
returns-then-index-ge-MOST-clause-table g c = c.requires

pub returns-then-index-ge-MOST-clause-full : goal.returns-then-index-ge-MOST-clause-full
returns-then-index-ge-MOST-clause-full g c =
    let whole = ap (λ v. length (at v.seen.known g.P.Spot.PLACE)) (sym c.self.view_is) ∙ ap length c.self.invariant.1.whole in
    let n : c.len-index.result ≡ length c.self.inside.history.items = c.len-index.ensures ∙ c.self.inside.history.ok.0 in
    (λ _. whole ∙ is_most _ _ n c.self.invariant.1.few c.if-index-ge-MOST.true, λ _. refl)

pub returns-then-index-ge-MOST-clause-refused : goal.returns-then-index-ge-MOST-clause-refused
returns-then-index-ge-MOST-clause-refused g c = λ refusal is. absurd (full_not_refused _ refusal refl is)

pub returns-then-index-ge-MOST-clause-unmade : goal.returns-then-index-ge-MOST-clause-unmade
returns-then-index-ge-MOST-clause-unmade g c = λ _. refl

pub returns-then-index-ge-MOST-clause-err : goal.returns-then-index-ge-MOST-clause-err
returns-then-index-ge-MOST-clause-err g c = (refl, refl)

pub invariant_of-self : goal.invariant_of-self
invariant_of-self g c = (
  c.self.invariant.0,
  subst (λ history. IsCell g.M.Machine g.P.Spot.PLACE c.self.inside.machine history c.self.inside.clock c.self.inside.seat.me) (sym c.make_room.ensures.history) c.self.invariant.1,
)

pub invariant_of-session : goal.invariant_of-session
invariant_of-session g c =
    subst (λ calls. IsSession c.session.inside.number calls c.session.inside.stamp c.session.inside.seat.me) (sym c.make_room.ensures.calls) c.session.invariant

pub returns-then-not-make_room-clause-ok : goal.returns-then-not-make_room-clause-ok
returns-then-not-make_room-clause-ok g c = tt

pub returns-then-not-make_room-clause-table : goal.returns-then-not-make_room-clause-table
returns-then-not-make_room-clause-table g c = ap (λ v. v.seen.table) c.session.view_is ∙ c.requires

pub returns-then-not-make_room-clause-full : goal.returns-then-not-make_room-clause-full
returns-then-not-make_room-clause-full g c =
    let whole = ap (λ v. length (at v.seen.known g.P.Spot.PLACE)) (sym c.self.view_is) ∙ ap length c.self.invariant.1.whole in
    let n : c.len-index.result ≡ length c.self.inside.history.items = c.len-index.ensures ∙ c.self.inside.history.ok.0 in
    (λ is. absurd (memory_not_full _ refl is), λ full. absurd (not_most _ _ n c.if-index-ge-MOST.false (sym whole ∙ full)))

pub returns-then-not-make_room-clause-refused : goal.returns-then-not-make_room-clause-refused
returns-then-not-make_room-clause-refused g c = λ refusal is. absurd (memory_not_refused _ refusal refl is)

pub returns-then-not-make_room-clause-unmade : goal.returns-then-not-make_room-clause-unmade
returns-then-not-make_room-clause-unmade g c = λ _. c.self.view_is

pub returns-then-not-make_room-clause-err : goal.returns-then-not-make_room-clause-err
returns-then-not-make_room-clause-err g c = (ap (λ v. v.seen) c.self.view_is, rw c.make_room.ensures.calls c.session.view_is)

pub invariant_of-self-in-Err : goal.invariant_of-self-in-Err
invariant_of-self-in-Err g c = (
  c.self.invariant.0,
  cell_refused g.M.Machine g.P.Spot.PLACE c.self.inside.machine c.step.new.self c.self.inside.history.items c.make_room.new.history.items c.self.inside.clock c.self.inside.seat.me c.self.invariant.1 c.make_room.ensures.history c.in-Err.ensures.unchanged c.in-Err.ensures.later,
)

pub invariant_of-session-in-Err : goal.invariant_of-session-in-Err
invariant_of-session-in-Err g c =
    subst (λ calls. IsSession c.session.inside.number calls c.session.inside.stamp c.session.inside.seat.me) (sym c.make_room.ensures.calls) c.session.invariant

pub returns-in-Err-clause-ok : goal.returns-in-Err-clause-ok
returns-in-Err-clause-ok g c = tt

pub returns-in-Err-clause-table : goal.returns-in-Err-clause-table
returns-in-Err-clause-table g c = ap (λ v. v.seen.table) c.session.view_is ∙ c.requires

pub returns-in-Err-clause-full : goal.returns-in-Err-clause-full
returns-in-Err-clause-full g c =
    let whole = ap (λ v. length (at v.seen.known g.P.Spot.PLACE)) (sym c.self.view_is) ∙ ap length c.self.invariant.1.whole in
    let n : c.len-index.result ≡ length c.self.inside.history.items = c.len-index.ensures ∙ c.self.inside.history.ok.0 in
    (λ is. absurd (full_not_refused _ _ is refl), λ full. absurd (not_most _ _ n c.if-index-ge-MOST.false (sym whole ∙ full)))

pub returns-in-Err-clause-err : goal.returns-in-Err-clause-err
returns-in-Err-clause-err g c = (ap (λ v. v.seen) c.self.view_is, rw c.make_room.ensures.calls c.session.view_is)

pub enter-requires-clause-tables : goal.enter-requires-clause-tables
enter-requires-clause-tables g c = (c.self.invariant.0, ap (λ v. v.seen.table) c.session.view_is ∙ c.requires)

pub enter-requires-clause-home : goal.enter-requires-clause-home
enter-requires-clause-home g c = subst (λ p. (p < 8) × IsAtPlace p c.self.inside.seat.me.0) (sym c.PLACE-place.ensures) (c.self.invariant.1.inside, c.self.invariant.1.seat)

pub enter-requires-clause-guest : goal.enter-requires-clause-guest
enter-requires-clause-guest g c = (
  c.session.inside.calls.items,
  subst (λ n. IsOfClient n c.session.inside.calls.items c.session.inside.seat.me.0) (sym (ap (λ e. e.client) c.new-entry.ensures)) c.session.invariant.seat,
)

pub enter-requires-clause-whole : goal.enter-requires-clause-whole
enter-requires-clause-whole g c = rw (c.PLACE-place.ensures, c.make_room.ensures.history) c.self.invariant.1.whole

pub invariant_of-session-2 : goal.invariant_of-session-2
invariant_of-session-2 g c =
    session_kept g.M.Machine g.P.Spot.PLACE c.PLACE-place.result c.PLACE-place.ensures c.self.inside.machine c.step.new.self c.self.inside.history.items c.make_room.new.history.items c.enter.new.history.items c.self.inside.clock c.session.inside.number c.session.inside.calls.items c.make_room.new.calls.items c.enter.new.calls.items c.session.inside.stamp c.max-stamp.result
    c.self.inside.seat.me c.session.inside.seat.me c.enter.new.home.me c.enter.new.guest.me c.self.invariant.1 c.session.invariant
    _ _ _ _ c.new-entry.ensures c.enter.ensures.calls c.enter.ensures.slots
    c.max-stamp.ensures c.make_room.ensures.history c.enter.ensures.history c.make_room.ensures.calls c.enter.ensures.own

pub invariant_of-self-2 : goal.invariant_of-self-2
invariant_of-self-2 g c =
    let s = c.in-Ok.ensures in
    let n : c.len-index.result ≡ length c.self.inside.history.items = c.len-index.ensures ∙ c.self.inside.history.ok.0 in
    let room : length c.self.inside.history.items < most = subst (λ k. k < most) n c.if-index-ge-MOST.false in (
      c.enter.ensures.tables.0,
      cell_kept g.M.Machine g.P.Spot.PLACE c.PLACE-place.result c.PLACE-place.ensures c.self.inside.machine c.step.new.self c.self.inside.history.items c.make_room.new.history.items c.enter.new.history.items c.self.inside.clock c.session.inside.number c.session.inside.calls.items c.make_room.new.calls.items c.enter.new.calls.items c.session.inside.stamp c.max-stamp.result
          c.self.inside.seat.me c.session.inside.seat.me c.enter.new.home.me c.enter.new.guest.me c.self.invariant.1 c.session.invariant
          _ _ _ _ c.new-entry.ensures c.enter.ensures.calls c.enter.ensures.slots
          c.max-stamp.ensures c.make_room.ensures.history c.enter.ensures.history c.make_room.ensures.calls c.enter.ensures.own
          room s.steps s.fault,
    )

pub returns-clause-ok : goal.returns-clause-ok
returns-clause-ok g c =
    let s = c.in-Ok.ensures in
    let n : c.len-index.result ≡ length c.self.inside.history.items = c.len-index.ensures ∙ c.self.inside.history.ok.0 in
    let room : length c.self.inside.history.items < most = subst (λ k. k < most) n c.if-index-ge-MOST.false in
    rw (← c.self.view_is, ← c.session.view_is)
    (accepts_kept g.M.Machine g.P.Spot.PLACE c.PLACE-place.result c.PLACE-place.ensures c.self.inside.machine c.step.new.self c.self.inside.history.items c.make_room.new.history.items c.enter.new.history.items c.self.inside.clock c.session.inside.number c.session.inside.calls.items c.make_room.new.calls.items c.enter.new.calls.items c.session.inside.stamp c.max-stamp.result
    c.self.inside.seat.me c.session.inside.seat.me c.enter.new.home.me c.enter.new.guest.me c.self.invariant.1 c.session.invariant
    _ _ _ _ c.new-entry.ensures c.enter.ensures.calls c.enter.ensures.slots
    c.max-stamp.ensures c.make_room.ensures.history c.enter.ensures.history c.make_room.ensures.calls c.enter.ensures.own
    room s.steps s.fault
    _ c.self.inside.seat.table_id c.session.inside.seat.table_id c.enter.new.home.table_id c.enter.new.guest.table_id c.len-index.result n s.equal
    (c.enter.ensures.tables.1 ∙ (sym c.requires ∙ sym (ap (λ v. v.seen.table) c.session.view_is))))

pub returns-clause-table : goal.returns-clause-table
returns-clause-table g c = c.enter.ensures.tables.1

pub returns-clause-full : goal.returns-clause-full
returns-clause-full g c =
    let whole = ap (λ v. length (at v.seen.known g.P.Spot.PLACE)) (sym c.self.view_is) ∙ ap length c.self.invariant.1.whole in
    let n : c.len-index.result ≡ length c.self.inside.history.items = c.len-index.ensures ∙ c.self.inside.history.ok.0 in
    (λ is. absurd (ok_not_full _ _ refl is), λ full. absurd (not_most _ _ n c.if-index-ge-MOST.false (sym whole ∙ full)))

pub returns-clause-refused : goal.returns-clause-refused
returns-clause-refused g c = λ refusal is. absurd (ok_not_refused _ _ refusal refl is)

pub returns-clause-err : goal.returns-clause-err
returns-clause-err g c = tt
