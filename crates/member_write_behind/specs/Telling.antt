-- A keeper that writes behind tells its table where the inner one does: the lemma that its impl of `Keeper` names.
use Rattle.std.specs.Prelude.{◌≡◌, refl, Option, None, Some, is_some, option_map}
use Rattle.member_keeper.specs.declared.keeper.Keeper.{Ghosts as Keeping}
use Rattle.member_keeper.specs.Tables.{Table}
use Rattle.member_write_behind.specs.Gathering.{Gathered, table_of}

mapped_is_some : (change other : Table → Table) (a b : Option Table) → is_some a ≡ is_some b → is_some (option_map change a) ≡ is_some (option_map other b)
mapped_is_some change other None None same = same
mapped_is_some change other None (Some b) same = same
mapped_is_some change other (Some a) None same = same
mapped_is_some change other (Some a) (Some b) same = same

pub tells_as_inner : {D : Type 0} (keeping : Keeping D) (a b : Gathered D) → is_some (keeping.table a.inner) ≡ is_some (keeping.table b.inner) → is_some (table_of keeping a) ≡ is_some (table_of keeping b)
tells_as_inner keeping a b same = mapped_is_some _ _ (keeping.table a.inner) (keeping.table b.inner) same
