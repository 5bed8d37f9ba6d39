-- What comes of the words and the files before anything is written.
use Rattle.std.specs.Prelude.{◌≡◌, ◌≤◌, ⊤, ℕ, List, ◌∷◌, length, Option, Some, None, IfSome, Result, Ok, Err, Vec}
use Rattle.std.specs.declared.alloc.Global.{Global}
use Rattle.fc_files.specs.Outside.{FileMap, Rose}
use Rattle.fc_syntax.specs.Limits.{standard_limits}
use Rattle.fc_syntax.specs.Tree.{Module}
use Rattle.fc_syntax.specs.declared.fault.Fault.{Fault}
use Rattle.fc_build.specs.Acceptance.{Accepted, FirstFault, IsFaultOfFiles, IsSetOf}
use Rattle.fc_model.specs.Planning.{build_order}
use Rattle.fc_words.specs.Asking.{Asked, asked}
use Rattle.fc_build.specs.declared.prepare.Stop.{Stop}
use Rattle.fc_build.specs.declared.prepare.Stop.TheVariants as stop
use Rattle.fc_build.specs.declared.product.Step as rust
use Rattle.fc_load.specs.Answers.{IsAmong, IsReached}
use Rattle.fc_build.specs.Judging.{IsReady}
use Rattle.fc_refusals.specs.Lines.{refusal_line}
use Rattle.fc_build.specs.Building.{AreSteps}
use Rattle.fc_build.specs.Product.{Step}
use Rattle.fc_build.specs.Delivering.{steps_in}

-- the files that the words ask for
abbrev pub files_in : Asked → List (List ℕ)
files_in a = a.file ∷ a.others

-- the words ask for something, and the set is accepted; these are its modules, in the order of the files
pub record IsAccepted (words : List (List ℕ)) (held : Option FileMap) (a : Asked) (set : List Module) : Type 0 where
  pub asks : asked words ≡ Some a
  pub accepted : IfSome held (λ m. Accepted (files_in a) m set)
  pub of_files : IsSetOf (files_in a) set
  pub ready : IsReady set

-- what is to be done for an accepted set: the steps that the words ask for
pub record IsProduct (words : List (List ℕ)) (held : Option FileMap) (steps : List Step) : Type 0 where
  pub request : Asked
  pub set : List Module
  pub input : IsAccepted words held request set
  pub are : AreSteps request.order (build_order set) steps

-- the words ask for something, and this is the first fault of the set
pub record HasFault (words : List (List ℕ)) (held : Option FileMap) (f : Fault) : Type 0 where
  pub request : Asked
  pub asks : asked words ≡ Some request
  pub first : IfSome held (λ m. FirstFault (files_in request) m f)
  pub of_files : IsFaultOfFiles (files_in request) f

-- the line tells the first fault
pub record IsRefusalLine (words : List (List ℕ)) (held : Option FileMap) (line : List ℕ) : Type 0 where
  pub fault : Fault
  pub first : HasFault words held fault
  pub tells : line ≡ refusal_line fault

-- the read of one of the files failed, and was counted, and there are no more of them than a set may have; the files before it hold modules
pub record FailsToRead (words : List (List ℕ)) (held : Option FileMap) (reads reads' : ℕ) (name : List ℕ) : Type 0 where
  pub request : Asked
  pub asks : asked words ≡ Some request
  pub few : length (files_in request) ≤ standard_limits.modules
  pub among : IsAmong (files_in request) name
  pub reached : IfSome held (λ m. IsReached m (files_in request) name)
  pub rose : Rose reads reads'

-- the stop at a fault: its line, or memory ran out
abbrev pub StopsAtFault : Fault → Stop → Type 0
StopsAtFault f (stop.Refused line) = line.items ≡ refusal_line f
StopsAtFault f stop.Usage = ⊥
StopsAtFault f (stop.ReadFault name) = ⊥
StopsAtFault f stop.Memory = ⊤

-- why nothing is to be written
abbrev pub Stops : List (List ℕ) → Option FileMap → ℕ → ℕ → Stop → Type 0
Stops words held reads reads' (stop.Refused line) = IsRefusalLine words held line.items
Stops words held reads reads' stop.Usage = asked words ≡ None
Stops words held reads reads' (stop.ReadFault name) = FailsToRead words held reads reads' name.now
Stops words held reads reads' stop.Memory = ⊤

abbrev pub Prepares : List (List ℕ) → Option FileMap → ℕ → ℕ → Result (Vec rust.Step Global) Stop → Type 0
Prepares words held reads reads' (Ok steps) = IsProduct words held (steps_in steps.items)
Prepares words held reads reads' (Err s) = Stops words held reads reads' s
