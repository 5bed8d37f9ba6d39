-- All lines of a log that replays from a formed module within the limits can be written, since each step leaves a formed module within the limits.
use Rattle.std.proofs.Common.{All, List, [], ◌∷◌}
use Rattle.std.proofs.lemmas.List.Elements.{All-cons, All-head, All-nil, All-tail}
use Rattle.fc_log.specs.Texts.{IsFormedEntry, of_module}
use Rattle.fc_log.specs.declared.log.Entry.{Entry}
use Rattle.fc_log.specs.declared.log.Entry.TheVariants as entry
use Rattle.fc_log.specs.declared.log.Step.{Step}
use Rattle.fc_model.specs.Nameless.{NModule}
use Rattle.fc_rows.specs.Replaying.{Replays, Rewrites, at_a_place, at_end, of_the_module, past_mark, past_step}
use Rattle.fc_rows.specs.ResultLimits.{IsWithinLimits}
use Rattle.fc_formed.specs.FormedTrees.{IsFormedModule}
use Rattle.fc_rows_formed.proofs.RowsFormed.{replays_keep_formed}
use Rattle.fc_simplify.proofs.Kept.{drops_within}
use Rattle.fc_logs_formed.specs.LogsFormed.{LogsAreFormed, StepsAreFormed}
use Rattle.fc_logs_formed.proofs.StepsFormed.{is_written}

pub steps_are_formed : StepsAreFormed
steps_are_formed xs s n k formed within (at_a_place r w p h low) = is_written xs n formed within r w p k h
steps_are_formed xs s n k formed within (of_the_module drops) = of_module

step_within : {xs : List NModule} {s : Step} {n k : NModule} → IsWithinLimits n → Rewrites xs s n k → IsWithinLimits k
step_within within (at_a_place r w p h low) = low
step_within {n = n} {k = k} within (of_the_module drops) = drops_within n k drops within

log_formed : {xs : List NModule} {es : List Entry} {n k : NModule} → All IsFormedModule (n ∷ xs) → IsWithinLimits n → Replays xs es n k → All IsFormedEntry es
log_formed all within at_end = All-nil IsFormedEntry
log_formed all within (past_mark {es = es} p rest) = All-cons IsFormedEntry (entry.Mark p) es tt (log_formed all within rest)
log_formed {xs = xs} {n = n} all within (past_step {es = es} {k = k} s step rest) =
    let formed = replays_keep_formed xs (entry.Step s ∷ []) n k all (past_step s step at_end) in
    All-cons IsFormedEntry (entry.Step s) es (steps_are_formed xs s n k (All-head IsFormedModule n xs all) within step)
    (log_formed (All-cons IsFormedModule k xs formed (All-tail IsFormedModule n xs all)) (step_within within step) rest)

pub logs_are_formed : LogsAreFormed
logs_are_formed xs es n k all within replays = log_formed all within replays
