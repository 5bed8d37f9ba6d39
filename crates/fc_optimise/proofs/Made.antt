-- What phases make of the first of some modules, one after the other.
use Rattle.std.proofs.Common.{◌≡◌, ◌⊎◌, inl, inr, ◌<◌, ◌+◌, ℕ, List, [], ◌∷◌, ◌++◌, get_or, length, take, refl, sym, ap, ◌∙◌, subst, append_assoc}
use Rattle.std.proofs.lemmas.List.{take_more}
use Rattle.fc_log.specs.Shapes.{GoesThrough, all_ended, ends_phase, takes_step}
use Rattle.fc_log.specs.declared.log.Entry.{Entry}
use Rattle.fc_log.specs.declared.log.Entry.TheVariants as entry
use Rattle.fc_log.specs.declared.log.Phase.{Phase}
use Rattle.fc_log.specs.declared.log.Phase.TheVariants as phase
use Rattle.fc_model.specs.Nameless.{NModule}
use Rattle.fc_phases.specs.Optimising.{Optimises, all_done}
use Rattle.fc_rows.specs.NormalForms.{IsQuiet}
use Rattle.fc_phases.specs.Optimising.{ends_phase as phase_ends, takes_step as step_taken}
use Rattle.fc_phases.proofs.Replayed.{optimises_both}
use Rattle.fc_optimise.specs.Optimised.{FirstIsMadeBy}
use Rattle.fc_optimise.specs.Phases.{RunsPhase}
use Rattle.fc_simplify.specs.Phase.{Continues, FirstIsQuiet, Simplifies, no_step}
use Rattle.fc_simplify.specs.Phase.{takes_step as simplifies_more}

-- PHASES ONE AFTER THE OTHER

goes_both : {ps qs : List Phase} {es fs : List Entry} → GoesThrough ps es → GoesThrough qs fs → GoesThrough (ps ++ qs) (es ++ fs)
goes_both all_ended second = second
goes_both (takes_step s rest) second = takes_step s (goes_both rest second)
goes_both (ends_phase p rest) second = ends_phase p (goes_both rest second)

made_both : (ps qs : List Phase) (es fs : List Entry) (a b c : List NModule) → FirstIsMadeBy ps es a b → FirstIsMadeBy qs fs b c → FirstIsMadeBy (ps ++ qs) (es ++ fs) a c
made_both ps qs es fs [] b c (none, goes) second = here b none second
  where
    here : (b : List NModule) → b ≡ [] → FirstIsMadeBy qs fs b c → (c ≡ []) × GoesThrough (ps ++ qs) (es ++ fs)
    here [] none made = (made.0, goes_both goes made.1)
    here (m ∷ ys) none made = absurd cc
made_both ps qs es fs (n ∷ xs) [] c first second = absurd first
made_both ps qs es fs (n ∷ xs) (m ∷ ys) [] first second = absurd second
made_both ps qs es fs (n ∷ xs) (m ∷ ys) (k ∷ zs) (same, (goes, made)) (same′, (goes′, made′)) =
    (same′ ∙ same, (goes_both goes goes′, optimises_both made (subst (λ z. Optimises z fs m k) same made′)))

-- ONE PHASE

-- steps of simplifying, before the end of the phase
simplifying_goes : {xs : List NModule} {gs es : List Entry} {n k : NModule} {ps : List Phase} → Simplifies xs gs n k → GoesThrough (phase.Simplify ∷ ps) es → GoesThrough (phase.Simplify ∷ ps) (gs ++ es)
simplifying_goes no_step after = after
simplifying_goes {es = es} {ps = ps} (simplifies_more {es = gs} s of_phase step rest) after =
    subst (λ p. GoesThrough (p ∷ ps) (entry.Step s ∷ (gs ++ es))) of_phase (takes_step s (subst (λ p. GoesThrough (p ∷ ps) (gs ++ es)) (sym of_phase) (simplifying_goes rest after)))

simplifying_makes : {xs : List NModule} {gs : List Entry} {n k : NModule} → Simplifies xs gs n k → Optimises xs gs n k
simplifying_makes no_step = all_done
simplifying_makes (simplifies_more s of_phase step rest) = step_taken s step (simplifying_makes rest)

simplified : (before after : List NModule) (old log : List Entry) → Continues before after old log → FirstIsQuiet after → RunsPhase phase.Simplify before after old (log ++ entry.Mark phase.Simplify ∷ [])
simplified [] after old log (none, same) quiet = record {
  entries = entry.Mark phase.Simplify ∷ [];
  more = ap (λ es. es ++ entry.Mark phase.Simplify ∷ []) same;
  made = (none, ends_phase phase.Simplify all_ended);
}
simplified (n ∷ xs) [] old log continues quiet = absurd continues
simplified (n ∷ xs) (k ∷ ys) old log (same, (gs, (is, steps))) quiet = record {
  entries = gs ++ entry.Mark phase.Simplify ∷ [];
  more = ap (λ es. es ++ entry.Mark phase.Simplify ∷ []) is ∙ append_assoc old gs (entry.Mark phase.Simplify ∷ []);
  made = (same, (simplifying_goes steps (ends_phase phase.Simplify all_ended), optimises_both (simplifying_makes steps) (phase_ends phase.Simplify (λ e. subst (λ z. IsQuiet z k) same quiet) all_done)));
}

pub simplify_runs : (before after : List NModule) (old log new : List Entry) → Continues before after old log → FirstIsQuiet after → new ≡ log ++ entry.Mark phase.Simplify ∷ []
    → RunsPhase phase.Simplify before after old new
simplify_runs before after old log new continues quiet pushed = subst (RunsPhase phase.Simplify before after old) (sym pushed) (simplified before after old log continues quiet)

-- a phase that has no rows
pub another_phase : (p : Phase) → (p ≡ phase.Special) ⊎ ((p ≡ phase.FloatOut) ⊎ ((p ≡ phase.FloatIn) ⊎ ((p ≡ phase.Strict) ⊎ (p ≡ phase.Split)))) → p ≡ phase.Simplify → ⊥
another_phase p (inl e) is = absurd cc
another_phase p (inr (inl e)) is = absurd cc
another_phase p (inr (inr (inl e))) is = absurd cc
another_phase p (inr (inr (inr (inl e)))) is = absurd cc
another_phase p (inr (inr (inr (inr e)))) is = absurd cc

marked : (p : Phase) (ms : List NModule) (old : List Entry) → (p ≡ phase.Simplify → ⊥) → RunsPhase p ms ms old (old ++ entry.Mark p ∷ [])
marked p [] old other = record { entries = entry.Mark p ∷ []; more = refl; made = (refl, ends_phase p all_ended) }
marked p (n ∷ xs) old other = record { entries = entry.Mark p ∷ []; more = refl; made = (refl, (ends_phase p all_ended, phase_ends p (λ e. absurd (other e)) all_done)) }

pub mark_runs : (p : Phase) (ms : List NModule) (old new : List Entry) → (p ≡ phase.Simplify → ⊥) → new ≡ old ++ entry.Mark p ∷ [] → RunsPhase p ms ms old new
mark_runs p ms old new other pushed = subst (RunsPhase p ms ms old) (sym pushed) (marked p ms old other)

-- ALL PHASES

nothing_made : (ms : List NModule) → FirstIsMadeBy [] [] ms ms
nothing_made [] = (refl, all_ended)
nothing_made (n ∷ xs) = (refl, (all_ended, all_done))

pub made_start : (ms : List NModule) (log : List Entry) → log ≡ [] → FirstIsMadeBy [] log ms ms
made_start ms log none = subst (λ es. FirstIsMadeBy [] es ms ms) (sym none) (nothing_made ms)

pub made_more : (ps : List Phase) (i : ℕ) (p : Phase) (a b c : List NModule) (log new : List Entry) → i < length ps → FirstIsMadeBy (take i ps) log a b → RunsPhase (get_or ps i p) b c log new
    → FirstIsMadeBy (take (i + 1) ps) new a c
made_more ps i p a b c log new low so_far runs =
    subst (λ qs. FirstIsMadeBy qs new a c) (sym (take_more ps i p low))
    (subst (λ es. FirstIsMadeBy (take i ps ++ get_or ps i p ∷ []) es a c) (sym runs.more) (made_both (take i ps) (get_or ps i p ∷ []) log runs.entries a b c so_far runs.made))
