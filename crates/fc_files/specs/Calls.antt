-- What files in memory with failing calls keep besides the map that they tell.
use Rattle.std.specs.Prelude.{ℕ, List}
use Rattle.fc_files.specs.declared.mem_files.MemFiles.{MemFiles}

-- how many reads and writes there were, up to the last number
abbrev pub calls_of : MemFiles → ℕ
calls_of f = f.calls.so_far

-- the numbers of the calls that fail
abbrev pub fails_of : MemFiles → List ℕ
fails_of f = f.calls.fails.items
