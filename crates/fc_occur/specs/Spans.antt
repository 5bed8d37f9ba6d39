-- What code seeks: some variables of values and some join points that stand beside each other, each of which counts once where it occurs.
use Rattle.std.specs.Prelude.{ℕ, suc, ◌+◌, nat_lt, if◌then◌else◌, List, [], ◌∷◌}
use Rattle.fc_model.specs.Nameless.{NBinder, NBValue, NBType, NBCo}
use Rattle.fc_rows.specs.Occurrences as spec
use Rattle.fc_rows.specs.declared.occurrence.Occurrence.{Occurrence}
use Rattle.fc_rows.specs.declared.occurrence.Occurrence.TheVariants.{Dead, Once}
use Rattle.fc_occur.specs.declared.sought.Sought.{Sought}
use Rattle.fc_occur.specs.declared.sought.Span.{Span}

-- so many of them, from a distance on
unfoldable pub within : Span → ℕ → Occurrence
within s i = if nat_lt i s.from then Dead else (if nat_lt i (s.from + s.count) then Once else Dead)

abbrev pub sought_of : Sought → spec.Sought
sought_of s = record { values = within s.values; joins = within s.joins }

-- how many of the binders bind values
abbrev pub bound_values : List NBinder → ℕ
bound_values [] = 0
bound_values (NBValue t ∷ bs) = suc (bound_values bs)
bound_values (NBType k ∷ bs) = bound_values bs
bound_values (NBCo r t u ∷ bs) = bound_values bs
