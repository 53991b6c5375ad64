-- Machines by place.
use Rattle.std.specs.Prelude.{ℕ, zero, suc, List, [], ◌∷◌, Bool, Option, None, is_some}
use Rattle.thread_machine.specs.declared.machines.Machines.{Machines}

module _ {M I F O R : Type 0} where
  -- which places have a machine
  abbrev pub flags : Machines M I F O R → List Bool
  flags ms = is_some ms.p0 ∷ is_some ms.p1 ∷ is_some ms.p2 ∷ is_some ms.p3 ∷ is_some ms.p4 ∷ is_some ms.p5 ∷ is_some ms.p6 ∷ is_some ms.p7 ∷ []

  -- the machine at a place
  abbrev pub machine_at : Machines M I F O R → ℕ → Option M
  machine_at ms zero = ms.p0
  machine_at ms (suc zero) = ms.p1
  machine_at ms (suc (suc zero)) = ms.p2
  machine_at ms (suc (suc (suc zero))) = ms.p3
  machine_at ms (suc (suc (suc (suc zero)))) = ms.p4
  machine_at ms (suc (suc (suc (suc (suc zero))))) = ms.p5
  machine_at ms (suc (suc (suc (suc (suc (suc zero)))))) = ms.p6
  machine_at ms (suc (suc (suc (suc (suc (suc (suc zero))))))) = ms.p7
  machine_at ms (suc (suc (suc (suc (suc (suc (suc (suc k)))))))) = None
