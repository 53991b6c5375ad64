use Rattle.std.proofs.Common.{◌≡◌, ◌≤◌, ◌+◌, ◌-◌, ℕ, take, drop, length, arith, ap, sym, ◌∙◌}
use Rattle.std.proofs.lemmas.List.{drop_all, length-take, length-drop}
use Rattle.base_outside.proofs.Moved.{reads_copied}
use Rattle.base_outside.proofs.memory.MemorySourceSource.read.Goals as goal

pub returns-clause-bytes : goal.returns-clause-bytes
returns-clause-bytes c =
    let all = c.self.inside.bytes.items in
    let next = c.self.inside.next in
    let d = c.deref-2.ensures.value in
    let counted = rw d at c.min-count.ensures in
    let moved = rw d at c.copy_from_slice.ensures.after in
    let within : c.min-count.result ≤ length (take (length all - next) (drop next all)) = omega (arith, counted) in
    let all_moved : c.min-count.result ≡ 0 → length all ≤ next + c.min-count.result =
    λ zero. omega (arith, counted, c.min.ensures, c.requires, c.self.invariant, length-take {A = ℕ}, length-drop {A = ℕ}) in (
      ap (λ s. s.left) (sym c.self.view_is) ∙ reads_copied c.min-count.result next all c.copy_from_slice.new.self _ within moved,
      λ zero room. drop_all (next + c.min-count.result) all (all_moved zero),
    )
