-- What holds where a judgement was refused.
use Rattle.std.specs.Prelude.{⊤, Result, Ok, Err}
use Rattle.fc_model.specs.declared.flaw.Flawed.{Flawed}
use Rattle.fc_model.specs.declared.flaw.Flawed.TheVariants.{Memory, Flaw as OfFlaw}

-- where it was refused by a flaw, and memory did not run out
abbrev pub OnFlaw : {A : Type 0} → Result A Flawed → Type 0 → Type 0
OnFlaw (Ok a) x = ⊤
OnFlaw (Err Memory) x = ⊤
OnFlaw (Err (OfFlaw f)) x = x
