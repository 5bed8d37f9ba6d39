-- Definitions: their words, their right sides, and what is exchanged and changed in them.
use Rattle.std.specs.Prelude.{◌<◌, ℕ, Bool, false, nat_eq, if◌then◌else◌, List, [], ◌∷◌, length, slice_set, Option, Some, None}
use Rattle.std.specs.Str.{bytes_eq}
use Rattle.fc_syntax.specs.Tree.{Word, Kind}
use Rattle.fc_syntax.specs.declared.ty.Ref.{Ref}
use Rattle.fc_syntax.specs.declared.module.Decl as RustDecl
use Rattle.fc_syntax.specs.declared.module.Module as RustModule
use Rattle.fc_syntax.specs.GenericTree.{DDef, DWrap}
use Rattle.fc_model.specs.Calling.{from_some}
use Rattle.fc_model.specs.Coercing.{Ends}
use Rattle.fc_model.specs.Nameless.{NCo, NDecl, NData, NNew, NFamily, NAxiom, NDef, NWrap, NExpr}
use Rattle.fc_model.specs.Worded.{WDecl, WExpr}
use Rattle.fc_parts.specs.PartsAt.{at_place}
use Rattle.fc_places.specs.Places.{Exchanged, around, exchanged}
use Rattle.fc_rows.specs.Changing.{made}
use Rattle.fc_rows.specs.Rewriting.{changed_right}
use Rattle.fc_rows.specs.Surroundings.{Surroundings}

-- whether a declaration is a definition of a word
abbrev pub is_definition : Word → NDecl → Bool
is_definition w (NDef n t e) = bytes_eq n w
is_definition w (NWrap n t e) = bytes_eq n w
is_definition w (NData n ps cs) = false
is_definition w (NNew n ps t con) = false
is_definition w (NFamily n ps k) = false
is_definition w (NAxiom n ps t u) = false

abbrev pub right_side : NDecl → Option NExpr
right_side (NDef n t e) = Some e
right_side (NWrap n t e) = Some e
right_side (NData n ps cs) = None
right_side (NNew n ps t con) = None
right_side (NFamily n ps k) = None
right_side (NAxiom n ps t u) = None

-- what a row makes of the part at a place of a definition, whose right side is part 1
abbrev pub row_in_decl : (Surroundings → NExpr → Option NExpr) → Surroundings → List ℕ → NDecl → Option NExpr
row_in_decl row s [] d = None
row_in_decl row s (i ∷ p) d = if nat_eq i 1 then from_some (at_place row p s) (right_side d) else None

-- another expression at a place of a definition
abbrev pub exchanged_in_decl : WExpr → List ℕ → WDecl → Exchanged ℕ Ref Word WDecl
exchanged_in_decl by [] d = None
exchanged_in_decl by (i ∷ p) (DDef n t e) = if nat_eq i 1 then around (λ f. DDef n t f) (exchanged by p e) else None
exchanged_in_decl by (i ∷ p) (DWrap n t e) = if nat_eq i 1 then around (λ f. DWrap n t f) (exchanged by p e) else None
exchanged_in_decl by (i ∷ p) d = None

-- a change at a place of a definition
abbrev pub changed_decl : (Surroundings → NExpr → Option NExpr) → (List Kind → List Ends → NCo → Option NCo) → Surroundings → List ℕ → NDecl → Option NDecl
changed_decl row co s p (NDef n t e) = made (λ f. NDef n t f) (changed_right row co s p e)
changed_decl row co s p (NWrap n t e) = made (λ f. NWrap n t f) (changed_right row co s p e)
changed_decl row co s p (NData n ps cs) = None
changed_decl row co s p (NNew n ps t con) = None
changed_decl row co s p (NFamily n ps k) = None
changed_decl row co s p (NAxiom n ps t u) = None

-- another declaration in the place of the one of a number in the first of some modules
abbrev pub with_decl : ℕ → RustDecl.Decl ℕ Ref → List (RustModule.Module ℕ Ref) → List (RustModule.Module ℕ Ref)
with_decl i d [] = []
with_decl i d (m ∷ ms) = record m { decls = slice_set m.decls i d } ∷ ms

-- the first of them has a declaration of this number
abbrev pub HasDecl : ℕ → List (RustModule.Module ℕ Ref) → Type 0
HasDecl i [] = ⊥
HasDecl i (m ∷ ms) = i < length m.decls
