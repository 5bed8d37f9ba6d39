-- The interface of a module: which right sides it tells.
use Rattle.std.specs.Prelude.{ℕ, ◌+◌, Bool, false, not, ◌&&◌, nat_le, List, [], ◌∷◌}
use Rattle.fc_syntax.specs.Measures.{nodes_of}
use Rattle.fc_syntax.specs.Tree.{Decl, DDef, DWrap, EFail, Module, ModuleOf}
use Rattle.fc_syntax.specs.Demands.{Sig}
use Rattle.fc_model.specs.Grammar.{Interface, InterfaceOf}
use Rattle.fc_graph.specs.Graphs.{is_marked}

-- whether the right side of a declaration is told: of a `wrap`, and of a `def` that does not reach itself, if it has at most so many nodes
abbrev pub is_told : ℕ → Bool → Decl → Bool
is_told grow recursive (DDef x t e) = not recursive && nat_le (nodes_of e) grow
is_told grow recursive (DWrap x t e) = nat_le (nodes_of e) grow
is_told grow recursive d = false

-- a declaration as the interface has it: a definition whose right side is not told is a `def` of its type that fails
abbrev pub decl_told : Bool → Decl → Decl
decl_told false (DDef x t e) = DDef x t (EFail t)
decl_told false (DWrap x t e) = DDef x t (EFail t)
decl_told told d = d

-- declarations from the number k on, where marks say by their numbers which reach themselves
abbrev pub decls_told : ℕ → List Bool → ℕ → List Decl → List Decl
decls_told grow marks k [] = []
decls_told grow marks k (d ∷ ds) = decl_told (is_told grow (is_marked marks k) d) d ∷ decls_told grow marks (k + 1) ds

-- one more truth value, if it is that of a definition
abbrev pub if_definition : Decl → Bool → List Bool → List Bool
if_definition (DDef x t e) told rest = told ∷ rest
if_definition (DWrap x t e) told rest = told ∷ rest
if_definition d told rest = rest

-- for each definition among them whether its right side is told
abbrev pub are_told : ℕ → List Bool → ℕ → List Decl → List Bool
are_told grow marks k [] = []
are_told grow marks k (d ∷ ds) = if_definition d (is_told grow (is_marked marks k) d) (are_told grow marks (k + 1) ds)

-- the interface of a module with these signatures, where marks say which of its declarations reach themselves
abbrev pub interface_of : ℕ → List Bool → Module → List Sig → Interface
interface_of grow marks (ModuleOf m imports exports hidden ds) sigs = InterfaceOf (ModuleOf m imports exports hidden (decls_told grow marks 0 ds)) sigs (are_told grow marks 0 ds)
