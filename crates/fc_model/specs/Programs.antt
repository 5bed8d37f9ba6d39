-- The program of a set of modules, and the expressions that may be asked of it.
use Rattle.std.specs.Prelude.{◌≡◌, true, if◌then◌else◌, List, [], ◌∷◌, Option, Some, None}
use Rattle.std.specs.List.{list_any}
use Rattle.std.specs.Str.{bytes_eq}
use Rattle.fc_syntax.specs.declared.ty.Name.{Name}
use Rattle.fc_syntax.specs.Tree.{Word}
use Rattle.fc_model.specs.Erasure.{erased, no_scope}
use Rattle.fc_model.specs.Kinding.{decls_at}
use Rattle.fc_model.specs.Nameless.{NDecl, NData, NNew, NFamily, NAxiom, NDef, NWrap, NModule, NModuleOf}
use Rattle.fc_model.specs.Stepping.{Program}
use Rattle.fc_model.specs.Terms.{IsSorted, Term, Lit, Var, Global, Fail, App, Lam, Let, Rec, Case, Con, Prim, Terms, Nil, Cons, Alts, NoAlt, Alt}

-- PROGRAMS

-- the erasure of the first definition of a word
abbrev pub right_side : List NDecl → Word → Option Term
right_side [] w = None
right_side (NData n ps cs ∷ ds) w = right_side ds w
right_side (NNew n ps t con ∷ ds) w = right_side ds w
right_side (NFamily n ps k ∷ ds) w = right_side ds w
right_side (NAxiom n ps t u ∷ ds) w = right_side ds w
right_side (NDef n t e ∷ ds) w = if bytes_eq n w then Some (erased no_scope e) else right_side ds w
right_side (NWrap n t e ∷ ds) w = if bytes_eq n w then Some (erased no_scope e) else right_side ds w

-- each definition of the modules, by its name
abbrev pub program_of : List NModule → Program
program_of ms n = right_side (decls_at ms n.module) n.text

-- MAIN EXPRESSIONS

abbrev pub exports_of_module : List NModule → Word → List Word
exports_of_module [] w = []
exports_of_module (NModuleOf n imports exports hidden ds ∷ ms) w = if bytes_eq n w then exports else exports_of_module ms w

abbrev pub exports_at : List NModule → Option Word → List Word
exports_at ms None = []
exports_at ms (Some w) = exports_of_module ms w

-- the name is that of a definition that its module exports
abbrev pub IsExported : List NModule → Name → Type 0
IsExported ms n = (list_any (λ w. bytes_eq w n.text) (exports_at ms n.module) ≡ true) × (t : Term) × (program_of ms n ≡ Some t)

abbrev mutual
  -- all top-level names of a term are of these
  pub Mentions : (Name → Type 0) → Term → Type 0
  Mentions N (Lit z) = Unit {0}
  Mentions N (Var n) = Unit {0}
  Mentions N (Global x) = N x
  Mentions N Fail = Unit {0}
  Mentions N (App s f a) = Mentions N f × Mentions N a
  Mentions N (Lam s b) = Mentions N b
  Mentions N (Let s e b) = Mentions N e × Mentions N b
  Mentions N (Rec ts b) = AllMention N ts × Mentions N b
  Mentions N (Case s e alts) = Mentions N e × AltsMention N alts
  Mentions N (Con c ss ts) = AllMention N ts
  Mentions N (Prim o a b) = Mentions N a × Mentions N b

  pub AllMention : (Name → Type 0) → Terms → Type 0
  AllMention N Nil = Unit {0}
  AllMention N (Cons t ts) = Mentions N t × AllMention N ts

  pub AltsMention : (Name → Type 0) → Alts → Type 0
  AltsMention N NoAlt = Unit {0}
  AltsMention N (Alt h b alts) = Mentions N b × AltsMention N alts

-- A main expression: a closed sorted term whose top-level names are exported definitions. It need not have a type, and it may
-- use any constructors.
pub record IsMainExpression (ms : List NModule) (t : Term) : Type 0 where
  pub sorted : IsSorted [] t
  pub exported : Mentions (IsExported ms) t
