-- The identities of a view's members, by place.
use Rattle.std.specs.Prelude.{◌≡◌}
use Rattle.model_members.specs.View.{View}
use Rattle.thread_cluster.specs.declared.places.Identities.{Identities}
use Rattle.world_places.specs.Places.{identity_at}

pub record AreIdentities (view : View) (ids : Identities) : Type 0 where
  pub p0 : ids.p0 ≡ identity_at view 0
  pub p1 : ids.p1 ≡ identity_at view 1
  pub p2 : ids.p2 ≡ identity_at view 2
  pub p3 : ids.p3 ≡ identity_at view 3
  pub p4 : ids.p4 ≡ identity_at view 4
  pub p5 : ids.p5 ≡ identity_at view 5
  pub p6 : ids.p6 ≡ identity_at view 6
  pub p7 : ids.p7 ≡ identity_at view 7
