use Rattle.std.proofs.Common.{◌≡◌, ℕ, length, get_or}
use Rattle.fc_syntax.specs.declared.ty.Role.TheVariants.{P}
use Rattle.fc_roles.proofs.needs.Needs.of_nothing.Given as goal

-- so many parameters so far, none of which occurs
abbrev pub invariant-loop : goal.invariant-loop
invariant-loop l = (length l.needs.items ≡ l.counter) × ((i : ℕ) → get_or l.needs.items i P ≡ P)
