-- How many types a family still takes.
use Rattle.std.specs.Prelude.{ℕ, Bool, false, nat_eq, Option, Some, None}

-- whether so many types more apply it in full
abbrev pub takes_more : Option ℕ → ℕ → Bool
takes_more (Some missing) args = nat_eq missing args
takes_more None args = false
