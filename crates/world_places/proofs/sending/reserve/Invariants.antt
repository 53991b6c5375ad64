use Rattle.std.proofs.Common.{◌≡◌, take}
use Rattle.std.specs.Prelude.{◌==◌}
use Rattle.std.specs.List.{list_any}
use Rattle.member_views.specs.Views.{Member}
use Rattle.world_places.specs.Channels.{row_of}
use Rattle.world_places.specs.Sending.{HasRoom}
use Rattle.world_places.proofs.sending.reserve.Given as goal

abbrev pub invariant-loop-member : goal.invariant-loop-member
invariant-loop-member g l = record { same : row_of l.row ≡ row_of l.initial.row; room : HasRoom (λ id. list_any (λ (member : Member). member.identity == id) (take l.member-index l.member-items)) l.room l.row }
