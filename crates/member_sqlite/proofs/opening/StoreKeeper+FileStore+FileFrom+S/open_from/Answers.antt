use Rattle.std.proofs.Common.{inl, inr, arith}
use Rattle.sqlite.specs.State.{HasCleanDisk}
use Rattle.sqlite.specs.Files.{file_state}
use Rattle.member_sqlite.proofs.opening.StoreKeeper+FileStore+FileFrom+S.open_from.Goals as goal

pub returns-in-Err-clause-refused : goal.returns-in-Err-clause-refused
returns-in-Err-clause-refused g c = inl c.in-Err.ensures

pub returns-in-Err-connect-clause-refused : goal.returns-in-Err-connect-clause-refused
returns-in-Err-connect-clause-refused g c = inr (inl c.in-Err-connect.ensures.cause)

pub returns-in-Err-adopt-clause-refused : goal.returns-in-Err-adopt-clause-refused
returns-in-Err-adopt-clause-refused g c = inr (inr (
  c.in-Ok-connect.conn,
  c.adopt.new.conn,
  λ clean.
      let early : HasCleanDisk (file_state c.in-Ok-connect.conn) = omega (arith, c.adopt.ensures.clean) in
      let both = c.in-Ok-connect.ensures.opened early in
      (both.0, both.1, c.in-Err-adopt.ensures.adopted clean),
))

pub returns-in-Ok-adopt-clause-opened : goal.returns-in-Ok-adopt-clause-opened
returns-in-Ok-adopt-clause-opened g c clean =
    let early : HasCleanDisk (file_state c.in-Ok-connect.conn) = omega (arith, c.adopt.ensures.clean) in
    let both = c.in-Ok-connect.ensures.opened early in
    (c.in-Ok-connect.conn, both.0, both.1, c.in-Ok-adopt.ensures.adopted clean)

pub returns-in-Ok-adopt-clause-in_order : goal.returns-in-Ok-adopt-clause-in_order
returns-in-Ok-adopt-clause-in_order g c = c.entries-in_order.ensures.in_order
