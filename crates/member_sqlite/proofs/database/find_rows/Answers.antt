use Rattle.std.proofs.Common.{refl, sym, subst, inl, inr}
use Rattle.member_sqlite.specs.Rows.{AreRows}
use Rattle.member_sqlite.proofs.database.find_rows.Goals as goal

pub returns-then-are_rows : goal.returns-then-are_rows
returns-then-are_rows g c clean = (
  c.in-Ok.rows.items,
  c.in-Ok.ensures.ok clean,
  subst (AreRows c.args.entries.now) c.deref.ensures.value (c.are_rows.ensures.0 c.if-are_rows.true),
)

pub returns-in-Ok : goal.returns-in-Ok
returns-in-Ok g c clean = inr (
  refl,
  c.in-Ok.rows.items,
  c.in-Ok.ensures.ok clean,
  λ are.
      let yes = c.are_rows.ensures.1 (subst (AreRows c.args.entries.now) (sym c.deref.ensures.value) are) in
      let no = c.if-are_rows.false in
      cc,
)

pub returns : goal.returns
returns g c clean = inl (c.in-Err.error, c.refusal_of.ensures, c.in-Err.ensures.err clean)
