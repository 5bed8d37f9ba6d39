-- How the files and streams of this crate count calls and faults, and which numbered calls fail.
use Rattle.std.specs.Prelude.{ℕ, Bool, List, ◌+◌, ◌-◌, ◌^◌, ◌==◌, ◌&&◌, min, nat_lt}
use Rattle.std.specs.List.{list_any}
use Rattle.fc_files.specs.declared.ReadAnswer.{ReadAnswer}
use Rattle.fc_files.specs.declared.ReadAnswer.TheVariants as read
use Rattle.fc_files.specs.declared.WriteAnswer.{WriteAnswer}
use Rattle.fc_files.specs.declared.WriteAnswer.TheVariants as write
use Rattle.fc_files.specs.declared.PutAnswer.{PutAnswer}
use Rattle.fc_files.specs.declared.PutAnswer.TheVariants as put_answer

-- one more, up to the last value
abbrev pub next_count : ℕ → ℕ
next_count n = min (n + 1) (2 ^ 64 - 1)

-- the count of failed reads after a read with this answer
abbrev pub count_after_read : ReadAnswer → ℕ → ℕ
count_after_read read.Failed n = next_count n
count_after_read _ n = n

-- the count of failed writes after a write with this answer
abbrev pub count_after_write : WriteAnswer → ℕ → ℕ
count_after_write write.Failed n = next_count n
count_after_write _ n = n

-- the count of failed puts after a put with this answer
abbrev pub count_after_put : PutAnswer → ℕ → ℕ
count_after_put put_answer.Failed n = next_count n
count_after_put put_answer.Ok n = n

-- after so many calls, the next is one of those with these numbers; after the last number none is
abbrev pub is_failing_call : ℕ → List ℕ → Bool
is_failing_call calls fails = nat_lt calls (2 ^ 64 - 1) && list_any (λ n. n == (calls + 1)) fails
