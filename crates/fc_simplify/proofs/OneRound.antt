-- A round in the first of some modules: what def-dead does, and what is quiet where it does nothing and no row applies in any definition.
use Rattle.std.proofs.Common.{ℕ, Bool, List, [], ◌∷◌, ◌++◌, refl}
use Rattle.fc_log.specs.declared.log.Entry.{Entry}
use Rattle.fc_log.specs.declared.log.Entry.TheVariants as entry
use Rattle.fc_model.specs.Nameless.{NModule}
use Rattle.fc_rows.specs.Replaying.{of_the_module}
use Rattle.fc_apply.specs.Steps.{FirstDrops, FirstFits}
use Rattle.fc_simplify.specs.Phase.{AllSettled, AreSettled, Continues, FirstHasSpare, FirstIsQuiet, FirstsAre}
use Rattle.fc_simplify.specs.Steps.{dead_step}
use Rattle.fc_simplify.proofs.Kept.{drops_within}
use Rattle.fc_simplify.proofs.Logs.{simplifies_once}
use Rattle.fc_simplify.proofs.Quieted.{is_quiet}

pub dropped_continues : (ms ks : List NModule) (es : List Entry) → FirstDrops ms ks → Continues ms ks es (es ++ entry.Step dead_step ∷ [])
dropped_continues [] ks es drops = absurd drops
dropped_continues (n ∷ xs) [] es drops = absurd drops
dropped_continues (n ∷ xs) (k ∷ ys) es (same, drops) = (same, (entry.Step dead_step ∷ [], (refl, simplifies_once xs dead_step n k refl (of_the_module drops))))

pub dropped_fits : (ms ks : List NModule) → FirstDrops ms ks → FirstFits ms → FirstFits ks
dropped_fits [] ks drops fits = absurd drops
dropped_fits (n ∷ xs) [] drops fits = absurd drops
dropped_fits (n ∷ xs) (k ∷ ys) (same, drops) fits = drops_within n k drops fits

-- ALL DEFINITIONS

pub all_settled : (spare : ℕ) (marks : List Bool) (ms : List NModule) → FirstHasSpare spare ms → FirstsAre marks ms → AreSettled spare marks ms → AllSettled ms
all_settled spare marks ms has are settled = record { spare = spare; has = has; settled = λ i first. settled i ((are i).1 first) }

-- no row applies where none applies in any definition and def-dead does nothing
pub quiet_first : (ms : List NModule) → AllSettled ms → ((after : List NModule) → FirstDrops ms after → ⊥) → FirstIsQuiet ms
quiet_first [] all none = tt
quiet_first (n ∷ xs) all none = is_quiet n xs all.spare all.has (λ w i h. all.settled i (w, h)) (λ k drops. none (k ∷ xs) (refl, drops))
