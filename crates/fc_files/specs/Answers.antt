-- Which answers the system's errors become.
use Rattle.std.specs.Prelude.{ℕ, length, Vec, Result, Ok, Err, nat_lt, if◌then◌else◌}
use Rattle.std.specs.IoError.{error_kind}
use Rattle.std.specs.declared.alloc.Global.{Global}
use Rattle.std.specs.declared.io.Error.{Error}
use Rattle.std.specs.declared.io.ErrorKind.{ErrorKind}
use Rattle.std.specs.declared.io.ErrorKind.TheVariants as kind
use Rattle.fc_files.specs.declared.ReadAnswer.{ReadAnswer}
use Rattle.fc_files.specs.declared.ReadAnswer.TheVariants as read
use Rattle.fc_files.specs.declared.WriteAnswer.{WriteAnswer}
use Rattle.fc_files.specs.declared.WriteAnswer.TheVariants as write
use Rattle.fc_files.specs.declared.PutAnswer.{PutAnswer}
use Rattle.fc_files.specs.declared.PutAnswer.TheVariants as put_answer

-- what a read answers where the file could not be opened
abbrev pub answer_of_open_error : ErrorKind → ReadAnswer
answer_of_open_error kind.NotFound = read.Absent
answer_of_open_error kind.OutOfMemory = read.Memory
answer_of_open_error _ = read.Failed

-- what a read answers where an open file could not be read to its end
abbrev pub answer_of_read_error : ErrorKind → ReadAnswer
answer_of_read_error kind.OutOfMemory = read.Memory
answer_of_read_error _ = read.Failed

-- what a write answers where the system failed
abbrev pub answer_of_write_error : ErrorKind → WriteAnswer
answer_of_write_error kind.OutOfMemory = write.Memory
answer_of_write_error _ = write.Failed

-- what a read of at most so many bytes answers, by what was read of an open file
abbrev pub answer_of_read : Result (Vec ℕ Global) Error → ℕ → ReadAnswer
answer_of_read (Ok bytes) most = if nat_lt most (length bytes.items) then read.TooLong else read.Ok bytes
answer_of_read (Err e) most = answer_of_read_error (error_kind e)

-- what a write answers, by how it ended
abbrev pub answer_of_write : {A : Type 0} → Result A Error → WriteAnswer
answer_of_write (Ok _) = write.Ok
answer_of_write (Err e) = answer_of_write_error (error_kind e)

-- what a put answers, by how it ended
abbrev pub answer_of_put : {A : Type 0} → Result A Error → PutAnswer
answer_of_put (Ok _) = put_answer.Ok
answer_of_put (Err _) = put_answer.Failed
