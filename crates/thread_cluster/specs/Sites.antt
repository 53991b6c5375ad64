-- Members by place.
use Rattle.std.specs.Prelude.{ℕ}
use Rattle.thread_machine.specs.declared.machine.Machine.{Ghosts}
use Rattle.thread_cell.specs.declared.name.Name.{Ghosts as Naming}
use Rattle.thread_cluster.specs.declared.member.Member.{Ghosts as Posting}
use Rattle.thread_cluster.specs.declared.section.Section.{Ghosts as Placing}
use Rattle.thread_cluster.specs.declared.any_site.AnySite.{AnySite}
use Rattle.thread_cluster.specs.declared.any_site.AnySite.TheVariants.{P0, P1, P2, P3, P4, P5, P6, P7}

module _ {M N X Q A I F O R : Type 0} {posting : Posting M X Q A I F O R} {meaning : Ghosts M I F O R} {placing : Placing N} {naming : Naming N} where
  -- the place of a member
  abbrev pub place_of : AnySite M N X Q A I F O R posting meaning placing naming → ℕ
  place_of (P0 site) = 0
  place_of (P1 site) = 1
  place_of (P2 site) = 2
  place_of (P3 site) = 3
  place_of (P4 site) = 4
  place_of (P5 site) = 5
  place_of (P6 site) = 6
  place_of (P7 site) = 7
