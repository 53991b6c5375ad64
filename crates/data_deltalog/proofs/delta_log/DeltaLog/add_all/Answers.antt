use Rattle.std.proofs.Common.{◌≡◌, List, ◌∷◌, [], ◌++◌, length, sym, ap, ◌∙◌, subst, arith, refl, append_assoc, length-append}
use Rattle.std.specs.Vec.Iter.{into_iter_items}
use Rattle.std.proofs.lemmas.List.{append-nil, nil_from_length}
use Rattle.std.proofs.lemmas.List.Sums.{fold-append}
use Rattle.data_deltalog.specs.declared.delta_log.NextRecord.{NextRecord}
use Rattle.data_deltalog.specs.Contents.{LogParts, appended, IsDeltaFor}
use Rattle.data_deltalog.specs.Words.{HasRoom, all_appended}
use Rattle.data_deltalog.proofs.Following.{All-middle, room_later, last_later, kind_later, origin_later}
use Rattle.data_deltalog.proofs.delta_log.DeltaLog.add_all.Goals as goal

pub loop-next-init : goal.loop-next-init
loop-next-init g c = record { split = c.into_iter-next-iterator.ensures.into_iter_gives.0; log = refl }

-- the next one, and those after it
one_next : {X : Type 0} (added before rest all : List X) (next : X) → before ≡ next ∷ rest → added ++ before ≡ all → (added ++ next ∷ []) ++ rest ≡ all
one_next added before rest all next is split = append_assoc added (next ∷ []) rest ∙ ap (λ l. added ++ l) (sym is) ∙ split

none_left : {X : Type 0} (added rest all : List X) → rest ≡ [] → added ++ rest ≡ all → added ≡ all
none_left added rest all is split = sym (append-nil added) ∙ ap (λ l. added ++ l) (sym is) ∙ split

pub add-requires-clause-small : goal.add-requires-clause-small
add-requires-clause-small g c =
    let added = c.loop-next.yielded in
    let all = c.args.records.items in
    let split = ap (λ l. added ++ l) (sym c.in-Some.ensures.steps.0) ∙ c.loop-next.invariant.split in
    let few = c.requires.small in
    let last = ap (λ (parts : LogParts g.row.T-Kind.Denot g.row.T-Delta.Denot). parts.last) c.loop-next.invariant.log ∙ last_later c.args.self.now added in
    let count = ap length (sym split) ∙ length-append added (c.in-Some.next ∷ into_iter_items c.next.new.self) in
    omega (arith, few, last, count)

pub add-requires-clause-fits : goal.add-requires-clause-fits
add-requires-clause-fits g c =
    let R = g.T.Replica in
    let added = c.loop-next.yielded in
    let log = c.args.self.now in
    let split = ap (λ l. added ++ l) (sym c.in-Some.ensures.steps.0) ∙ c.loop-next.invariant.split in
    let fits = All-middle (λ (next : NextRecord g.row.T-Delta.Denot). IsDeltaFor R.IsOfOrigin R.delta_fits_kind log.kind log.origin next.delta) added (into_iter_items c.next.new.self) c.args.records.items c.in-Some.next split c.requires.fit in
    let kind = ap (λ (parts : LogParts g.row.T-Kind.Denot g.row.T-Delta.Denot). parts.kind) c.loop-next.invariant.log ∙ kind_later log added in
    let origin = ap (λ (parts : LogParts g.row.T-Kind.Denot g.row.T-Delta.Denot). parts.origin) c.loop-next.invariant.log ∙ origin_later log added in
    subst (λ o. IsDeltaFor R.IsOfOrigin R.delta_fits_kind c.loop-next.self.kind o c.in-Some.next.delta) (sym origin)
    (subst (λ k. IsDeltaFor R.IsOfOrigin R.delta_fits_kind k log.origin c.in-Some.next.delta) (sym kind) fits)

pub add-requires-clause-room : goal.add-requires-clause-room
add-requires-clause-room g c =
    let added = c.loop-next.yielded in
    let log = c.args.self.now in
    let split = ap (λ l. added ++ l) (sym c.in-Some.ensures.steps.0) ∙ c.loop-next.invariant.split in
    let room = All-middle (HasRoom log) added (into_iter_items c.next.new.self) c.args.records.items c.in-Some.next split c.requires.room in
    subst (λ (parts : LogParts g.row.T-Kind.Denot g.row.T-Delta.Denot). HasRoom parts c.in-Some.next) (sym c.loop-next.invariant.log) (room_later log added c.in-Some.next room)

pub loop-next-preserved : goal.loop-next-preserved
loop-next-preserved g c =
    let next = c.in-Some.next in
    record {
      split = one_next c.loop-next.yielded (into_iter_items c.loop-next.next-iterator) (into_iter_items c.next.new.self) c.args.records.items next c.in-Some.ensures.steps.0 c.loop-next.invariant.split;
      log = c.add.ensures.value ∙ ap (λ (parts : LogParts g.row.T-Kind.Denot g.row.T-Delta.Denot). appended parts next.before next.delta) c.loop-next.invariant.log
          ∙ sym (fold-append (λ (parts : LogParts g.row.T-Kind.Denot g.row.T-Delta.Denot) (r : NextRecord g.row.T-Delta.Denot). appended parts r.before r.delta) c.args.self.now c.loop-next.yielded (next ∷ []));
    }

pub returns : goal.returns
returns g c =
    let all = none_left c.loop-next.yielded (into_iter_items c.loop-next.next-iterator) c.args.records.items (nil_from_length (into_iter_items c.loop-next.next-iterator) (sym c.loop-next.next-iterator.rest.ok.0 ∙ c.in-None.ensures.steps.0)) c.loop-next.invariant.split in
    c.loop-next.invariant.log ∙ ap (all_appended c.args.self.now) all
