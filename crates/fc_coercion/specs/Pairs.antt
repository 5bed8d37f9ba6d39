-- What two coercions prove that stand beside each other.
use Rattle.std.specs.Prelude.{List, ◌++◌, Result, Ok, Err}
use Rattle.fc_syntax.specs.Tree.{Kind}
use Rattle.fc_model.specs.Coercing.{Ends, ends_or_fault}
use Rattle.fc_model.specs.Faulting.{F, and_then, under}
use Rattle.fc_model.specs.Kinding.{Modules}
use Rattle.fc_model.specs.Nameless.{NCo}

-- the parts 0 and 1
abbrev pub two_ends : Modules → List Kind → List Ends → NCo → NCo → Result (Ends × Ends) F
two_ends ms ks cs g h = and_then (under 0 (ends_or_fault ms ks cs g)) (λ e. and_then (under 1 (ends_or_fault ms ks cs h)) (λ d. Ok (e, d)))

-- what is proved, before what is proved later
unfoldable pub with_ends : List Ends → Result (List Ends) F → Result (List Ends) F
with_ends es (Ok more) = Ok (es ++ more)
with_ends es (Err f) = Err f
