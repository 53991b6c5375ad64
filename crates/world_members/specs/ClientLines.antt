-- Which lines of a section the lines of clients are.
use Rattle.std.specs.Prelude.{◌≡◌, map, Some, option_map}
use Rattle.model_kinds.specs.declared.operation.Op.{Op}
use Rattle.model_kinds.specs.declared.shown.Shown.{Shown}
use Rattle.member_node.specs.Operations.{finished_meant}
use Rattle.theorem_sections.specs.Sections.{Ending, Line}
use Rattle.world_members.specs.declared.client_line.ClientLine.{ClientLine}
use Rattle.world_members.specs.declared.client_line.Ended.{Ended}
use Rattle.world_members.specs.declared.client_line.Ended.TheVariants as ended
use Rattle.world_members.specs.Lines.{IsHead, IsAnswer}
use Rattle.world_places.specs.Sketched.{sketched_post}

abbrev pub ending_meant : Ended → Ending Shown
ending_meant (ended.Finished finished) = Ending.Ended (finished_meant finished)
ending_meant (ended.TimedOut op) = Ending.TimedOut op
ending_meant (ended.LeftOpen op) = Ending.LeftOpen op

-- the line says what that of the section says
pub record IsClientLine (line : ClientLine) (told : Line Op Shown) : Type 0 where
  pub client : told.client ≡ Some line.client
  pub head : IsHead line.head told.head
  pub answer : IsAnswer line.answer told.answer
  pub sent : line.sent ≡ map sketched_post told.posts
  pub ended : told.ended ≡ option_map ending_meant line.ended
