use Rattle.std.proofs.Common.{◌≡◌, ℕ, List, ◌++◌, flat_map, take, string_bytes}
use Rattle.model_history.specs.Texts.{Text}
use Rattle.model_history.specs.History.{History}
use Rattle.model_members.specs.Entry.{Entry}
use Rattle.model_members.specs.World.{World}
use Rattle.model_members.specs.Report.{member_text}
use Rattle.model_kinds.specs.ShownText.{shown_text}
use Rattle.model_kinds.specs.declared.shown.Shown.{Shown}
use Rattle.member_node.specs.Members.{delta_groups}
use Rattle.world_members.specs.Standing.{StandsForWorld}
use Rattle.report_lines.proofs.members.final_block.Given as goal

abbrev pub invariant-loop-member : goal.invariant-loop-member
invariant-loop-member g l =
    (digest : g.row.T-Kind.Denot → Entry g.row.T-Op.Denot → List ℕ) (kinds : Text → g.row.T-Kind.Denot) (logs : Text → History g.row.T-Op.Denot) (end : World g.row.T-Kind.Denot g.row.T-Op.Denot Shown)
    → StandsForWorld g.T.SpelledData kinds logs l.world end
    → string_bytes l.text ≡ string_bytes l.initial.text ++ flat_map (member_text (delta_groups g.T.Replica.data_type digest) shown_text end) (take l.member-index l.member-items)
