use Rattle.std.proofs.Common.{◌≡◌, map, take}
use Rattle.member_node.specs.Members.{declared}
use Rattle.report_lines.specs.Run.{decl_of, in_order}
use Rattle.report_lines.proofs.order.in_order.Given as goal

abbrev pub invariant-loop-key : goal.invariant-loop-key
invariant-loop-key g l = map declared l.decls.items ≡ map decl_of (in_order (take l.key-index l.keys))
