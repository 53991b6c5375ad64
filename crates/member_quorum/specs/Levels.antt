-- What a level means in the model.
use Rattle.model_members.specs.Node.{Level as Meant}
use Rattle.member_quorum.specs.declared.level.Level.{Level}
use Rattle.member_quorum.specs.declared.level.Level.TheVariants.{Local, To, Majority, All}

abbrev pub level_meant : Level → Meant
level_meant Local = Meant.Local
level_meant (To number) = Meant.To number
level_meant (Majority cap) = Meant.Majority cap
level_meant All = Meant.All
