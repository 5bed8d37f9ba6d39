-- Declarations that are told, one after the other.
use Rattle.std.proofs.Common.{◌≡◌, ℕ, Bool, true, false, List, [], ◌∷◌, ◌++◌, if◌then◌else◌, refl, sym, ap, ◌∙◌}
use Rattle.fc_syntax.specs.declared.module.Decl as RustDecl
use Rattle.fc_syntax.specs.declared.ty.Ref.{Ref}
use Rattle.fc_model.specs.Nameless.{NDecl, NData, NNew, NFamily, NAxiom, NDef, NWrap}
use Rattle.fc_model.specs.NamelessView.{ndecl_of, ndecls_of}
use Rattle.fc_rows.specs.Telling.{told_declarations}
use Rattle.fc_told.specs.Marks.{first_mark, is_definition, other_marks, untold_decl}

abbrev Decl : Type 0
Decl = RustDecl.Decl ℕ Ref

-- a declaration of another kind is told as it is
other_told : (marks : List Bool) (d : NDecl) (ds : List NDecl) → is_definition d ≡ false → told_declarations marks (d ∷ ds) ≡ d ∷ told_declarations marks ds
other_told marks (NData n ps cs) ds other = refl
other_told marks (NNew n ps t con) ds other = refl
other_told marks (NFamily n ps k) ds other = refl
other_told marks (NAxiom n ps t u) ds other = refl
other_told marks (NDef n t e) ds other = absurd cc
other_told marks (NWrap n t e) ds other = absurd cc

-- a definition takes the first mark
definition_told : (marks : List Bool) (d : NDecl) (ds : List NDecl) → is_definition d ≡ true
    → told_declarations marks (d ∷ ds) ≡ (if first_mark marks then d else untold_decl d) ∷ told_declarations (other_marks marks) ds
definition_told marks (NData n ps cs) ds is = absurd cc
definition_told marks (NNew n ps t con) ds is = absurd cc
definition_told marks (NFamily n ps k) ds is = absurd cc
definition_told marks (NAxiom n ps t u) ds is = absurd cc
definition_told [] (NDef n t e) ds is = refl
definition_told (b ∷ bs) (NDef n t e) ds is = refl
definition_told [] (NWrap n t e) ds is = refl
definition_told (b ∷ bs) (NWrap n t e) ds is = refl

-- what is told so far, and then what is told of the others, is all
abbrev pub AreTold : List Decl → List Bool → List Decl → List NDecl → Type 0
AreTold told marks rest whole = ndecls_of told ++ told_declarations marks (ndecls_of rest) ≡ whole

pub more_told : (told : List Decl) (d : Decl) (rest : List NDecl) → ndecls_of (told ++ d ∷ []) ++ rest ≡ ndecls_of told ++ (ndecl_of d ∷ rest)
more_told [] d rest = refl
more_told (x ∷ told) d rest = ap (λ ds. ndecl_of x ∷ ds) (more_told told d rest)

-- another declaration more
pub one_kept : (marks : List Bool) (told more : List Decl) (d : Decl) (rest : List Decl) (whole : List NDecl) → is_definition (ndecl_of d) ≡ false → more ≡ told ++ d ∷ []
    → AreTold told marks (d ∷ rest) whole → AreTold more marks rest whole
one_kept marks told more d rest whole other pushed so_far =
    ap (λ ds. ndecls_of ds ++ told_declarations marks (ndecls_of rest)) pushed ∙ more_told told d (told_declarations marks (ndecls_of rest))
    ∙ ap (λ ds. ndecls_of told ++ ds) (sym (other_told marks (ndecl_of d) (ndecls_of rest) other)) ∙ so_far

-- a definition more
pub one_told : (marks others : List Bool) (told more : List Decl) (d made : Decl) (rest : List Decl) (whole : List NDecl) → is_definition (ndecl_of d) ≡ true
    → ndecl_of made ≡ (if first_mark marks then ndecl_of d else untold_decl (ndecl_of d)) → others ≡ other_marks marks → more ≡ told ++ made ∷ []
    → AreTold told marks (d ∷ rest) whole → AreTold more others rest whole
one_told marks others told more d made rest whole is made_of left pushed so_far =
    ap (λ ds. ndecls_of ds ++ told_declarations others (ndecls_of rest)) pushed ∙ more_told told made (told_declarations others (ndecls_of rest))
    ∙ ap (λ x. ndecls_of told ++ (x ∷ told_declarations others (ndecls_of rest))) made_of
    ∙ ap (λ bs. ndecls_of told ++ ((if first_mark marks then ndecl_of d else untold_decl (ndecl_of d)) ∷ told_declarations bs (ndecls_of rest))) left
    ∙ ap (λ ds. ndecls_of told ++ ds) (sym (definition_told marks (ndecl_of d) (ndecls_of rest) is)) ∙ so_far
