-- Shrinking and commuting rows come to an end.
use Rattle.std.specs.Prelude.{◌≡◌, ℕ, suc, true, List}
use Rattle.fc_log.specs.declared.log.Step.{Step}
use Rattle.fc_model.specs.Nameless.{NModule}
use Rattle.fc_rows.specs.NormalForms.{is_shrinking_or_commuting}
use Rattle.fc_rows.specs.Replaying.{Rewrites}

-- no module has steps of such rows without end, one after the other
abbrev pub NoEndlessSteps : Type 0
NoEndlessSteps = (xs : List NModule) (ns : ℕ → NModule) (ss : ℕ → Step) → ((i : ℕ) → is_shrinking_or_commuting (ss i).row ≡ true)
    → ((i : ℕ) → Rewrites xs (ss i) (ns i) (ns (suc i))) → ⊥
