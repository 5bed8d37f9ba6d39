-- What the phases of a build make is what their log replays.
use Rattle.std.proofs.Common.{List, ◌++◌}
use Rattle.fc_log.specs.declared.log.Entry.{Entry}
use Rattle.fc_model.specs.Nameless.{NModule}
use Rattle.fc_rows.specs.Replaying.{Replays, at_end, past_mark, past_step}
use Rattle.fc_phases.specs.Optimising.{OptimisedAreReplayed, Optimises, all_done, ends_phase, takes_step}

pub replayed : {xs : List NModule} {es : List Entry} {n k : NModule} → Optimises xs es n k → Replays xs es n k
replayed all_done = at_end
replayed (ends_phase p quiet rest) = past_mark p (replayed rest)
replayed (takes_step s step rest) = past_step s step (replayed rest)

pub optimised_are_replayed : OptimisedAreReplayed
optimised_are_replayed xs es n k done = replayed done

-- what is done after the other is done
pub optimises_both : {xs : List NModule} {es fs : List Entry} {n m k : NModule} → Optimises xs es n m → Optimises xs fs m k → Optimises xs (es ++ fs) n k
optimises_both all_done second = second
optimises_both (ends_phase p quiet rest) second = ends_phase p quiet (optimises_both rest second)
optimises_both (takes_step s step rest) second = takes_step s step (optimises_both rest second)
