use Rattle.model_members.proofs.DeletedKeys.{update_told, get_told}
use Rattle.model_members.proofs.laws.deleted_keys_are_told.Goals as goal

pub returns-clause-update : goal.returns-clause-update
returns-clause-update g c = λ D node key kind op level fate has. update_told D node key kind has op level fate

pub returns-clause-get : goal.returns-clause-get
returns-clause-get g c = λ D node key kind fate has some. get_told D node key kind has fate some
