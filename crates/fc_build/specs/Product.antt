-- What is done for each module of a set, in the order in which the modules are built: its files, and then its line on the output.
use Rattle.std.specs.Prelude.{◌≡◌, ◌⊎◌, ◌≤◌, ℕ, List, [], ◌∷◌, ◌++◌, codes, length, map, take, string_bytes}
use Rattle.fc_files.specs.Outside.{FileMap, SameBut, put}
use Rattle.fc_syntax.specs.Tree.{Module}
use Rattle.fc_model.specs.Canonical.{canonical}
use Rattle.fc_model.specs.Grammar.{Interface}
use Rattle.fc_model.specs.Headers.{name_of}
use Rattle.fc_model.specs.InterfaceTexts.{interface_text}
use Rattle.fc_log.specs.Texts.{log_text}
use Rattle.fc_log.specs.declared.log.Log.{Log}
use Rattle.fc_build.specs.declared.product.File.{File}

-- FILES

-- a file to be written
pub record Output : Type 0 where
  pub name : List ℕ
  pub text : List ℕ

abbrev pub output_of : File → Output
output_of f = record { name = string_bytes f.name; text = f.text.items }

abbrev pub outputs : List File → List Output
outputs = map output_of

-- the name of a module's file of this ending, behind the prefix
abbrev pub file_name : List ℕ → Module → List ℕ → List ℕ
file_name prefix m ending = prefix ++ (name_of m ++ ending)

abbrev pub core_name : List ℕ → Module → List ℕ
core_name prefix m = file_name prefix m (codes ".opt.fc")

abbrev pub interface_name : List ℕ → Module → List ℕ
interface_name prefix m = file_name prefix m (codes ".fci")

abbrev pub log_name : List ℕ → Module → List ℕ
log_name prefix m = file_name prefix m (codes ".why")

-- the canonical text of a module
abbrev pub core_output : List ℕ → Module → Output
core_output prefix m = record { name = core_name prefix m; text = canonical m }

-- the text of its interface
abbrev pub interface_output : List ℕ → Module → Interface → Output
interface_output prefix m i = record { name = interface_name prefix m; text = interface_text i }

-- the text of a log
abbrev pub log_output : List ℕ → Module → Log → Output
log_output prefix m l = record { name = log_name prefix m; text = log_text l }

-- THE STEPS OF A SET

-- what is done for a module
pub record Step : Type 0 where
  pub files : List Output
  pub line : List ℕ

-- a build writes the three files of a module under the header that is written, of which this is the interface and this the log
abbrev pub built_step : List ℕ → Module → Interface → Log → Step
built_step prefix m i l = record {
  files = core_output prefix m ∷ interface_output prefix m i ∷ log_output prefix m l ∷ [];
  line = codes "built " ++ (name_of m ++ 10 ∷ []);
}

-- an explanation puts the text of a log, and writes nothing
abbrev pub explained_step : Log → Step
explained_step l = record { files = []; line = log_text l }

-- Lint writes nothing
abbrev pub linted_step : Module → Step
linted_step m = record { files = []; line = codes "ok " ++ (name_of m ++ 10 ∷ []) }

-- the files of steps, one after the other, and their lines
abbrev pub all_files : List Step → List Output
all_files [] = []
all_files (s ∷ ss) = s.files ++ all_files ss

abbrev pub all_lines : List Step → List ℕ
all_lines [] = []
all_lines (s ∷ ss) = s.line ++ all_lines ss

-- WHAT STANDS

-- the map with each of the files put in, in order
abbrev pub put_all : List Output → FileMap → FileMap
put_all [] m = m
put_all (o ∷ os) m = put_all os (put o.name o.text m)

-- the name is that of one of the files
abbrev pub IsNameAmong : List Output → List ℕ → Type 0
IsNameAmong [] name = ⊥
IsNameAmong (o ∷ os) name = (name ≡ o.name) ⊎ IsNameAmong os name

-- the files before this one stand whole, this one may hold anything, and every other is as before
abbrev pub StopsAt : List Output → List ℕ → FileMap → FileMap → Type 0
StopsAt [] name old new = ⊥
StopsAt (o ∷ os) name old new =
    ((name ≡ o.name) × SameBut name old new) ⊎ StopsAt os name (put o.name o.text old) new

-- some first files, but not all, stand whole, the next may hold anything, and every other is as before
abbrev pub WritesSome : List Output → FileMap → FileMap → Type 0
WritesSome [] old new = ⊥
WritesSome (o ∷ os) old new = SameBut o.name old new ⊎ WritesSome os (put o.name o.text old) new

-- the stream took a prefix of the text
abbrev pub TakesSome : List ℕ → List ℕ → List ℕ → Type 0
TakesSome text old new = (n : ℕ) × (n ≤ length text) × (new ≡ old ++ take n text)

-- where a set stops: these steps are done, this one is not, and these are not begun
pub record Stopped (steps : List Step) : Type 0 where
  pub before : List Step
  pub step : Step
  pub rest : List Step
  pub is : steps ≡ before ++ (step ∷ rest)
