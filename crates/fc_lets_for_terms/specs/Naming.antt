-- One argument by the variable of its let, and beside a binder.
use Rattle.std.specs.Prelude.{ℕ, Bool, true, false}
use Rattle.fc_model.specs.Nameless.{NArg, NATerm, NAType, NACo, NArgs, NoNArgs, MoreNArgs, NBinder, NBValue, NBType, NBCo, NLocal}

-- how many terms an argument is
abbrev pub terms_in : NArg → ℕ
terms_in (NATerm e) = 1
terms_in (NAType t) = 0
terms_in (NACo g) = 0

-- an argument that has so many terms behind it, a term by the variable of its let
abbrev pub named_argument : ℕ → NArg → NArg
named_argument behind (NATerm e) = NATerm (NLocal behind)
named_argument behind (NAType t) = NAType t
named_argument behind (NACo g) = NACo g

-- an argument is of the sort of a binder
abbrev pub is_same_sort : NBinder → NArg → Bool
is_same_sort (NBValue t) (NATerm e) = true
is_same_sort (NBValue t) (NAType u) = false
is_same_sort (NBValue t) (NACo g) = false
is_same_sort (NBType k) (NATerm e) = false
is_same_sort (NBType k) (NAType u) = true
is_same_sort (NBType k) (NACo g) = false
is_same_sort (NBCo r t u) (NATerm e) = false
is_same_sort (NBCo r t u) (NAType v) = false
is_same_sort (NBCo r t u) (NACo g) = true

-- arguments before others
abbrev pub before : NArgs → NArgs → NArgs
before NoNArgs rest = rest
before (MoreNArgs a more) rest = MoreNArgs a (before more rest)
