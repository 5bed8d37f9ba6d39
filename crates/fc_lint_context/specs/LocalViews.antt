-- What the local variables in scope mean.
use Rattle.std.specs.Prelude.{ℕ, List, [], ◌∷◌, ◌++◌, reverse, Result, Ok, Err}
use Rattle.fc_model.specs.Faulting.{F, at_distance}
use Rattle.fc_model.specs.Nameless.{NTy, NBinds, NoNBinds, MoreNBinds, NBound}
use Rattle.fc_type_table.specs.declared.node.TypeId.{TypeId}
use Rattle.fc_lint_context.specs.declared.locals.Locals.{Locals, End, Value', Group'}

-- variables that stand together before those around them, the last one the innermost
abbrev pub behind : List TypeId → List TypeId → List TypeId
behind ids outer = reverse ids ++ outer

-- the type that is found among types, or the distance that is left outside of them
abbrev pub found_among : Result TypeId ℕ → List TypeId → Result TypeId F
found_among (Ok id) outer = Ok id
found_among (Err left) outer = at_distance outer left

-- the numbers of the types of the local variables, the innermost first
abbrev pub numbers_of : Locals → List TypeId
numbers_of End = []
numbers_of (Value' id p rest) = id ∷ numbers_of rest
numbers_of (Group' ids p rest) = behind ids.now (numbers_of rest)

-- the written types of binds, in their order
abbrev pub bind_types : NBinds → List NTy
bind_types NoNBinds = []
bind_types (MoreNBinds (NBound t e) rest) = t ∷ bind_types rest
