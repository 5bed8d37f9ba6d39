-- Logs that go on: nothing done is the empty log, and what is done after the other is in the log behind it.
use Rattle.std.proofs.Common.{◌≡◌, ◌+◌, ℕ, zero, suc, arith, true, List, [], ◌∷◌, ◌++◌, refl, sym, ap, ◌∙◌, subst, append-nil, append_assoc}
use Rattle.fc_log.specs.Shapes.{phase_of_row}
use Rattle.fc_log.specs.declared.log.Entry.{Entry}
use Rattle.fc_log.specs.declared.log.Entry.TheVariants as entry
use Rattle.fc_log.specs.declared.log.Phase.TheVariants as phase
use Rattle.fc_log.specs.declared.log.Row.{Row}
use Rattle.fc_log.specs.declared.log.Row.TheVariants as row
use Rattle.fc_log.specs.declared.log.Step.{Step}
use Rattle.fc_model.specs.Nameless.{NModule}
use Rattle.fc_row_at_place.specs.Rows.{is_built}
use Rattle.fc_rows.specs.Replaying.{Replays, Rewrites, at_end, past_step}
use Rattle.fc_simplify.specs.Phase.{Continues, Simplifies, no_step, takes_step}
use Rattle.fc_simplify.specs.Steps.{lines_of}

simplifies_both : (xs : List NModule) (es fs : List Entry) (n m k : NModule) → Simplifies xs es n m → Simplifies xs fs m k → Simplifies xs (es ++ fs) n k
simplifies_both xs _ fs n _ k no_step second = second
simplifies_both xs _ fs n m k (takes_step {es = es} s of_phase step first) second = takes_step s of_phase step (simplifies_both xs es fs _ m k first second)

-- one step
pub simplifies_once : (xs : List NModule) (s : Step) (n k : NModule) → phase_of_row s.row ≡ phase.Simplify → Rewrites xs s n k → Simplifies xs (entry.Step s ∷ []) n k
simplifies_once xs s n k of_phase step = takes_step s of_phase step no_step

-- the phase takes every row that is built
pub built_in_phase : (r : Row) → is_built r ≡ true → phase_of_row r ≡ phase.Simplify
built_in_phase row.Special is = absurd cc
built_in_phase row.FloatOut is = absurd cc
built_in_phase row.FloatIn is = absurd cc
built_in_phase row.StrictLet is = absurd cc
built_in_phase row.Split is = absurd cc
built_in_phase r is = refl

-- the steps are a replay
pub simplifying_replays : {xs : List NModule} {es : List Entry} {n k : NModule} → Simplifies xs es n k → Replays xs es n k
simplifying_replays no_step = at_end
simplifying_replays (takes_step s of_phase step rest) = past_step s step (simplifying_replays rest)

pub continues_same : (ms : List NModule) (es : List Entry) → Continues ms ms es es
continues_same [] es = (refl, refl)
continues_same (n ∷ xs) es = (refl, ([], (sym (append-nil es), no_step)))

pub continues_both : (a b c : List NModule) (es fs gs : List Entry) → Continues a b es fs → Continues b c fs gs → Continues a c es gs
continues_both [] b c es fs gs first second = here b first.0 second
  where
    here : (b : List NModule) → b ≡ [] → Continues b c fs gs → (c ≡ []) × (gs ≡ es)
    here [] none both = (both.0, both.1 ∙ first.1)
    here (m ∷ ys) none both = cc
continues_both (n ∷ xs) [] c es fs gs first second = absurd first
continues_both (n ∷ xs) (m ∷ ys) [] es fs gs first second = absurd second
continues_both (n ∷ xs) (m ∷ ys) (k ∷ zs) es fs gs (same, (hs, (more, steps))) (same′, (is, (more′, steps′))) = (
  same′ ∙ same,
  (
    hs ++ is,
    (
      more′ ∙ ap (λ z. z ++ is) more ∙ append_assoc es hs is,
      simplifies_both xs hs is n m k steps (subst (λ z. Simplifies z is m k) same steps′),
    ),
  ),
)

-- LINES OF ONE STEP

-- the first of them may stand behind the others
pub lines_turned : (n : ℕ) (s : Step) → entry.Step s ∷ lines_of n s ≡ lines_of n s ++ entry.Step s ∷ []
lines_turned zero s = refl
lines_turned (suc n) s = ap (λ es. entry.Step s ∷ es) (lines_turned n s)

-- one more behind lines
lines_more : (es : List Entry) (n : ℕ) (s : Step) → (es ++ lines_of n s) ++ entry.Step s ∷ [] ≡ es ++ lines_of (n + 1) s
lines_more es n s = append_assoc es (lines_of n s) (entry.Step s ∷ []) ∙ ap (λ fs. es ++ fs) (sym (lines_turned n s) ∙ ap (λ m. lines_of m s) {x = suc n} {y = n + 1} (omega arith))

pub one_more : (es now after : List Entry) (n : ℕ) (s t : Step) → now ≡ es ++ lines_of n s → t ≡ s → after ≡ now ++ entry.Step t ∷ [] → after ≡ es ++ lines_of (n + 1) s
one_more es now after n s t so_far same more =
    more ∙ ap (λ fs. fs ++ entry.Step t ∷ []) so_far ∙ ap (λ z. (es ++ lines_of n s) ++ entry.Step z ∷ []) same ∙ lines_more es n s
