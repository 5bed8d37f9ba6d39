-- The lines on the error stream beside those of refusals, and what a stream gets.
use Rattle.std.specs.Prelude.{◌≡◌, ◌≤◌, ℕ, List, ◌++◌, codes, length, take, Option}
use Rattle.fc_files.specs.Outside.{Rose, Told}

-- LINES

abbrev pub usage_line : List ℕ
usage_line = codes "usage\n"

abbrev pub read_fault_line : List ℕ → List ℕ
read_fault_line name = codes "read fault " ++ (name ++ codes "\n")

abbrev pub write_fault_line : List ℕ → List ℕ
write_fault_line name = codes "write fault " ++ (name ++ codes "\n")

abbrev pub memory_line : List ℕ
memory_line = codes "out of memory\n"

-- WHAT A STREAM GETS

-- the text was taken, or a prefix of it where a put failed
pub data Puts (text : List ℕ) (faults faults' : ℕ) (old new : List ℕ) : Type 0 where
  whole : new ≡ old ++ text → Puts text faults faults' old new
  cut : (n : ℕ) → n ≤ length text → new ≡ old ++ take n text → Rose faults faults' → Puts text faults faults' old new

-- a stream got the text
abbrev pub Gets : List ℕ → ℕ → ℕ → Option (List ℕ) → Option (List ℕ) → Type 0
Gets text faults faults' old new = Told old new (Puts text faults faults')
