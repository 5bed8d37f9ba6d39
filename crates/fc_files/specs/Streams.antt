-- What the streams of this crate keep, and what a put takes.
use Rattle.std.specs.Prelude.{ℕ, Bool, List, [], ◌-◌, ◌||◌, nat_lt, take, length, if◌then◌else◌}
use Rattle.fc_files.specs.declared.sinks.MemSink.{MemSink}
use Rattle.fc_files.specs.declared.sinks.CountSink.{CountSink}
use Rattle.fc_files.specs.Counts.{is_failing_call}

-- the bytes that it has taken
abbrev pub bytes_of : MemSink → List ℕ
bytes_of s = take s.len s.room.items

-- how many bytes its room has
abbrev pub room_of : MemSink → ℕ
room_of s = length s.room.items

-- how many puts there were, up to the last number
abbrev pub puts_of : MemSink → ℕ
puts_of s = s.puts.so_far

-- the numbers of the puts that fail
abbrev pub failing_puts_of : MemSink → List ℕ
failing_puts_of s = s.puts.fails.items

-- how many bytes its room still takes
abbrev pub free_of : MemSink → ℕ
free_of s = room_of s - length (bytes_of s)

-- the next put fails for its number
abbrev pub is_numbered_put : MemSink → Bool
is_numbered_put s = is_failing_call (puts_of s) (failing_puts_of s)

-- the next put, of this piece, fails: for its number, or for want of room
abbrev pub is_failing_put : MemSink → List ℕ → Bool
is_failing_put s piece = is_numbered_put s || nat_lt (free_of s) (length piece)

-- what the next put takes of this piece: nothing where it fails for its number, and else what fits
abbrev pub taken_of_put : MemSink → List ℕ → List ℕ
taken_of_put s piece = if is_numbered_put s then [] else take (free_of s) piece

-- how many bytes it was given, up to the last number
abbrev pub count_of : CountSink → ℕ
count_of s = s.count
