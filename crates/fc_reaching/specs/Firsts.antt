-- The definitions of a module that count: of several of one word the first.
use Rattle.std.specs.Prelude.{◌≡◌, ℕ, suc, Bool, false, nat_eq, List, [], ◌∷◌, Option, Some, None}
use Rattle.fc_syntax.specs.Tree.{Word}
use Rattle.fc_model.specs.Nameless.{NDecl, NData, NNew, NFamily, NAxiom, NDef, NWrap, NModule}
use Rattle.fc_reaching.specs.Numbering.{number_in}
use Rattle.fc_reaching.specs.Reaching.{decls_in}

abbrev pub is_number : ℕ → Option ℕ → Bool
is_number i None = false
is_number i (Some j) = nat_eq j i

-- a declaration of this number is a definition, and its word has this number
abbrev pub defines_first : (Word → Option ℕ) → ℕ → NDecl → Bool
defines_first number i (NData n ps cs) = false
defines_first number i (NNew n ps t con) = false
defines_first number i (NFamily n ps k) = false
defines_first number i (NAxiom n ps t u) = false
defines_first number i (NDef n t e) = is_number i (number n)
defines_first number i (NWrap n t e) = is_number i (number n)

-- the same of declarations, of which the first has this number
abbrev pub firsts_from : (Word → Option ℕ) → ℕ → List NDecl → List Bool
firsts_from number i [] = []
firsts_from number i (d ∷ ds) = defines_first number i d ∷ firsts_from number (suc i) ds

-- for each declaration, in declared order, whether it is the first definition of its word
abbrev pub AreFirst : NModule → List Bool → Type 0
AreFirst m marks = marks ≡ firsts_from (number_in m) 0 (decls_in m)
