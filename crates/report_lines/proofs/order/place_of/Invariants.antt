use Rattle.std.proofs.Common.{◌≡◌, ◌+◌, map, drop}
use Rattle.report_lines.specs.Run.{place_in}
use Rattle.report_lines.proofs.order.place_of.Given as goal

abbrev pub invariant-loop-i : goal.invariant-loop-i
invariant-loop-i g l = l.i + place_in (map (λ decl. decl.key) (drop l.i l.decls)) l.name ≡ place_in (map (λ decl. decl.key) l.decls) l.name
