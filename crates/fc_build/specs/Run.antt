-- What each answer of the top call says.
use Rattle.std.specs.Prelude.{◌≡◌, ℕ, List, [], ◌∷◌, ◌++◌, Option}
use Rattle.fc_files.specs.Outside.{FileMap, Rose, Told}
use Rattle.fc_syntax.specs.declared.fault.Fault.{Fault}
use Rattle.fc_model.specs.Planning.{build_order}
use Rattle.fc_build.specs.Lines.{Gets, memory_line, read_fault_line, write_fault_line}
use Rattle.fc_refusals.specs.Lines.{refusal_line}
use Rattle.fc_build.specs.Building.{Leaves}
use Rattle.fc_build.specs.Preparing.{FailsToRead, HasFault, IsProduct}
use Rattle.fc_build.specs.Product.{IsNameAmong, Step, Stopped, StopsAt, TakesSome, WritesSome, all_files, all_lines, put_all}

-- The work is done: the set is accepted, the files held are those before with the files of all modules put in, so that they hold the modules written and
-- their interfaces, and the stream got the lines.
pub record IsDone (words : List (List ℕ)) (held held' : Option FileMap) (out out' : Option (List ℕ)) : Type 0 where
  pub steps : List Step
  pub product : IsProduct words held steps
  pub files : Told held held' (λ m m'. m' ≡ put_all (all_files steps) m)
  pub lines : Told out out' (λ a b. b ≡ a ++ all_lines steps)
  pub leaves : Leaves product.request.order (build_order product.set) steps product.are held held'

-- The set is refused: the line names its first fault.
pub record IsRefused (words : List (List ℕ)) (held : Option FileMap) (err err' : Option (List ℕ)) (faults faults' : ℕ) : Type 0 where
  pub fault : Fault
  pub first : HasFault words held fault
  pub line : Gets (refusal_line fault) faults faults' err err'

-- A read failed: the count rose, and the line names the file; those before it hold modules.
pub record IsReadFault (words : List (List ℕ)) (held : Option FileMap) (reads reads' : ℕ) (err err' : Option (List ℕ)) (faults faults' : ℕ) : Type 0 where
  pub name : List ℕ
  pub failed : FailsToRead words held reads reads' name
  pub line : Gets (read_fault_line name) faults faults' err err'

-- A write of an accepted set failed, and the line names its file: the files before stand whole, this one may hold anything, every other is as
-- before, and the lines of the modules before were put. Or the put of a line failed: the files of its module and of those before stand whole, and
-- the stream took the lines of those before and some of this one.
pub data IsWriteFault (words : List (List ℕ)) (held held' : Option FileMap) (writes writes' : ℕ) (out out' : Option (List ℕ)) (puts puts' : ℕ) (err err' : Option (List ℕ)) (faults faults' : ℕ) : Type 0 where
  at_file : (steps : List Step) (name : List ℕ) → IsProduct words held steps → (at : Stopped steps)
      → IsNameAmong at.step.files name → Rose writes writes' → Told held held' (λ m m'. StopsAt at.step.files name (put_all (all_files at.before) m) m')
      → Told out out' (λ a b. b ≡ a ++ all_lines at.before) → Gets (write_fault_line name) faults faults' err err'
      → IsWriteFault words held held' writes writes' out out' puts puts' err err' faults faults'
  at_out : (steps : List Step) → IsProduct words held steps → (at : Stopped steps)
      → Rose puts puts' → Told held held' (λ m m'. m' ≡ put_all (all_files (at.before ++ (at.step ∷ []))) m)
      → Told out out' (λ a b. TakesSome at.step.line (a ++ all_lines at.before) b) → Gets (write_fault_line (45 ∷ [])) faults faults' err err'
      → IsWriteFault words held held' writes writes' out out' puts puts' err err' faults faults'

-- No file was written and nothing was put.
pub record IsUntouched (held held' : Option FileMap) (writes writes' : ℕ) (out out' : Option (List ℕ)) (puts puts' : ℕ) : Type 0 where
  pub files : held' ≡ held
  pub stream : out' ≡ out
  pub no_write_failed : writes' ≡ writes
  pub no_put_failed : puts' ≡ puts

-- Memory ran out: before anything was written, or at a file of an accepted set, so that some first files but not all stand whole, the next may hold
-- anything, every other is as before, and the lines of the modules before were put.
pub data MemoryEndsAt (words : List (List ℕ)) (held held' : Option FileMap) (out out' : Option (List ℕ)) : Type 0 where
  before_writing : held' ≡ held → out' ≡ out → MemoryEndsAt words held held' out out'
  at_a_file : (steps : List Step) → IsProduct words held steps → (at : Stopped steps)
      → Told held held' (λ m m'. WritesSome at.step.files (put_all (all_files at.before) m) m') → Told out out' (λ a b. b ≡ a ++ all_lines at.before)
      → MemoryEndsAt words held held' out out'

pub record IsMemoryEnd (words : List (List ℕ)) (held held' : Option FileMap) (out out' : Option (List ℕ)) (err err' : Option (List ℕ)) (faults faults' : ℕ) : Type 0 where
  pub stands : MemoryEndsAt words held held' out out'
  pub line : Gets memory_line faults faults' err err'

-- A stream is as before.
pub record IsSilent (err err' : Option (List ℕ)) (faults faults' : ℕ) : Type 0 where
  pub stream : err' ≡ err
  pub no_put_failed : faults' ≡ faults
