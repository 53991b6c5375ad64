use Rattle.std.proofs.Common.{◌≡◌, map, take}
use Rattle.trace_lines.specs.Meant.{key_meant}
use Rattle.member_node.specs.Members.{declared}
use Rattle.trace_members.proofs.keys.keys_of.Given as goal

abbrev pub invariant-loop-decl : goal.invariant-loop-decl
invariant-loop-decl g l = map key_meant l.keys ≡ map declared (take l.decl-index l.decls)
