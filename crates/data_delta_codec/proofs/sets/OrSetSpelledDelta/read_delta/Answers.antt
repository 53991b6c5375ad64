use Rattle.std.proofs.Common.{◌≡◌, arith}
use Rattle.base_places.specs.Places.{bytes_dropped}
use Rattle.base_vectors.specs.Spelling.{nobody}
use Rattle.base_vectors.specs.IdSets.{members_in}
use Rattle.data_delta_codec.specs.Sets.{others}
use Rattle.data_delta_codec.proofs.SetPlaces.{fresh_fails, seen_fails, both_read}
use Rattle.data_delta_codec.proofs.sets.OrSetSpelledDelta.read_delta.Goals as goal

pub returns-in-Err : goal.returns-in-Err
returns-in-Err c =
    let p : members_in c.others.result ≡ others c.args.origin = λ j i. c.others.ensures i j in
    fresh_fails c.args.from.now c.args.place c.args.origin (members_in c.others.result) nobody p (λ j. nobody) c.in-Err.error c.in-Err.ensures

pub returns-in-Err-read_data : goal.returns-in-Err-read_data
returns-in-Err-read_data c =
    let p : members_in c.others.result ≡ others c.args.origin = λ j i. c.others.ensures i j in
    let q : members_in c.empty.result ≡ nobody = λ j i. c.empty.ensures.members i j in
    seen_fails c.args.from.now c.args.place c.args.origin (members_in c.others.result) (members_in c.empty.result) p q c.in-Ok.fresh c.in-Ok.ensures.0 c.in-Ok.middle
    (bytes_dropped c.args.place c.args.from.now (λ i. omega (arith, c.type_inv.from i))) c.in-Ok.ensures.1 c.in-Ok.ensures.2 c.in-Err-read_data.error c.in-Err-read_data.ensures

pub returns-in-Ok-read_data : goal.returns-in-Ok-read_data
returns-in-Ok-read_data c =
    let p : members_in c.others.result ≡ others c.args.origin = λ j i. c.others.ensures i j in
    let q : members_in c.empty.result ≡ nobody = λ j i. c.empty.ensures.members i j in (
      c.in-Ok-read_data.ensures.0,
      both_read c.args.from.now c.args.place c.args.origin (members_in c.others.result) (members_in c.empty.result) p q c.in-Ok.fresh c.in-Ok.ensures.0 c.in-Ok.middle
          (bytes_dropped c.args.place c.args.from.now (λ i. omega (arith, c.type_inv.from i))) c.in-Ok.ensures.1 c.in-Ok.ensures.2 c.in-Ok-read_data.seen c.in-Ok-read_data.ensures.0 c.in-Ok-read_data.ensures.1,
      c.in-Ok-read_data.ensures.2,
    )
