-- A keeper over a file, as it is opened.
--     IsOpenedFrom        the keeper's table is what the rows of the database say that the files hold, or they held none
--     TellsRefusal        why there is no keeper
use Rattle.std.specs.Prelude.{◌≡◌, ◌⊎◌, Option, Result, IsTrue, IfErr, IfSome}
use Rattle.sqlite_disk.specs.declared.Disk.{Ghosts}
use Rattle.sqlite_disk.specs.declared.Files.{Files}
use Rattle.sqlite_wal.specs.Recovery.{Image}
use Rattle.sqlite_store.specs.declared.store.FileStore.{FileStore}
use Rattle.sqlite.specs.declared.file.Leftover.{Leftover}
use Rattle.sqlite.specs.declared.error.Error.{Error}
use Rattle.sqlite.specs.Opening.{is_open_error}
use Rattle.sqlite.specs.State.{HasCleanDisk}
use Rattle.sqlite.specs.Held.{Held}
use Rattle.sqlite.specs.Start.{FindsIn}
use Rattle.sqlite.specs.Files.{over_files, file_state, IsOpened, IsCleanLeft, FailsToOpenFiles, LeavesFiles}
use Rattle.member_keeper.specs.Tables.{Table}
use Rattle.member_sqlite.specs.declared.told.OpenError.{OpenError}
use Rattle.member_sqlite.specs.declared.told.OpenError.TheVariants as why
use Rattle.member_sqlite.specs.Told.{told}
use Rattle.member_sqlite.specs.Adopting.{IsAdopted, IsUnadopted}

-- The files were opened, what was found in them is what they held, and the table is what the rows of that say.
abbrev pub IsOpenedFrom : {D : Type 0} {g : Ghosts D} → Image → Held (FileStore D g) → Table → Type 0
IsOpenedFrom {D} {g} image conn table = (first : Held (FileStore D g)) × IsOpened first × FindsIn image (file_state first) × IsAdopted over_files first conn table

module _ {D : Type 0} (g : Ghosts D) (FreshLog FreshFile : D → Type 0) where
  -- The files were not opened. Where it is known of which files that is told, these are left as the error says.
  pub record IsUnconnected (e : OpenError) : Type 0 where
    pub error : Error
    pub is : e ≡ told error
    pub named : IsTrue (is_open_error error)
    pub left : Option (Leftover D g)
    pub cause : IfSome left (λ it. (files : Files D) × FreshLog files.log × FreshFile files.db × (IsCleanLeft it → FailsToOpenFiles files it error × LeavesFiles files it))

  -- they were opened, and are not what a keeper needs
  abbrev pub IsUnfit : Image → OpenError → Type 0
  IsUnfit image e = (first last : Held (FileStore D g)) × (HasCleanDisk (file_state last) → IsOpened first × FindsIn image (file_state first) × IsUnadopted over_files first last e)

  -- want of memory before the file was touched, or one of these
  abbrev pub IsRefused : Image → OpenError → Type 0
  IsRefused image e = (e ≡ why.Memory) ⊎ (IsUnconnected e ⊎ IsUnfit image e)

module _ {D : Type 0} {g : Ghosts D} where
  abbrev pub TellsCause : Result (Held (FileStore D g)) OpenError → (FreshLog FreshFile : D → Type 0) → Type 0
  TellsCause result FreshLog FreshFile = IfErr result (IsUnconnected g FreshLog FreshFile)

  -- which is told where no keeper is made
  abbrev pub TellsRefusal : {K : Type 0} → Result K OpenError → (K → Held (FileStore D g)) → (FreshLog FreshFile : D → Type 0) → Image → Type 0
  TellsRefusal result conn_of FreshLog FreshFile image = IfErr result (IsRefused g FreshLog FreshFile image)
