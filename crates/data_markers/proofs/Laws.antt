-- What an insertion leaves at an identity.
use Rattle.std.proofs.Common.{◌≡◌, ◌≢◌, ℕ, ◌∙◌, ap, Some, true, false, rules, cond}
use Rattle.std.specs.Ordering.{nat_cmp, eq_by_cmp}
use Rattle.std.specs.Cmp.{nat_cmp_total}
use Rattle.std.specs.FinMap as map
use Rattle.std.specs.FinMap.{get-insert}
use Rattle.data_markers.specs.declared.marker.Marker.{Marker}
use Rattle.data_markers.specs.Marks.{Marks, mark_of}

pub mark_of-insert_same : (m : Marks) (id i : ℕ) (x : Marker) → i ≡ id → mark_of (map.insert m id x) i ≡ Some x
mark_of-insert_same m id i x e = let t : eq_by_cmp nat_cmp i id ≡ true = rw e (grind rules) in get-insert nat_cmp_total m id x i ∙ ap (λ b. cond b (Some x) (map.get m i)) t

pub mark_of-insert_other : (m : Marks) (id i : ℕ) (x : Marker) → i ≢ id → mark_of (map.insert m id x) i ≡ mark_of m i
mark_of-insert_other m id i x ne = let t : eq_by_cmp nat_cmp i id ≡ false = grind rules in get-insert nat_cmp_total m id x i ∙ ap (λ b. cond b (Some x) (map.get m i)) t
