-- What is found among declarations is among the words that they declare in its space.
use Rattle.std.proofs.Common.{◌≡◌, ◌∙◌, ℕ, ◌+◌, true, false, bytes_eq, List, [], ◌∷◌, ◌++◌, Option, Some, Ok, refl, ap}
use Rattle.fc_syntax.specs.Tree.{Word, Kind}
use Rattle.fc_model.specs.Calling.{Constructor, con_among, con_decl, first_of}
use Rattle.fc_model.specs.Coercing.{Axiom, axiom_decl}
use Rattle.fc_model.specs.Declaring.{ncoercion_words, ncon_words, nterm_words, ntype_words, nwords_by}
use Rattle.fc_model.specs.Kinding.{decl_kind, type_decl}
use Rattle.fc_model.specs.Nameless.{NTy, NParam, NConDecl, NConOf, NDecl, NData, NNew, NFamily, NAxiom, NDef, NWrap}
use Rattle.fc_model.specs.Resolution.{WordSet, plus, plus_all}
use Rattle.fc_model.specs.Typing.{def_type}
use Rattle.fc_model.proofs.Lists.{plus_both}
use Rattle.fc_model.proofs.Parts.{err_ok}
use Rattle.fc_model.proofs.UnderHeader.{all_keep}
use Rattle.fc_used_words.proofs.Keeping.{by_test}

-- SETS OF WORDS

-- a word is in a set where it is put in first, and where it is in it otherwise
put_first : (n w : Word) (ws : List Word) (s : WordSet) → (bytes_eq n w ≡ false → plus_all ws (plus n s) w ≡ true) → plus_all ws (plus n s) w ≡ true
put_first n w ws s otherwise = by_test (bytes_eq n w) (λ same. all_keep ws (plus n s) w (rw same refl)) otherwise

-- WHAT IS FOUND IS DECLARED

pub type_is_declared : (ds : List NDecl) (s : WordSet) (w : Word) (args : ℕ) (k : Kind) → decl_kind (type_decl ds w) args ≡ Ok k → plus_all (nwords_by ntype_words ds) s w ≡ true
type_is_declared [] s w args k h = err_ok h
type_is_declared (NData n ps cs ∷ ds) s w args k h = put_first n w (nwords_by ntype_words ds) s (λ other. type_is_declared ds (plus n s) w args k (rw other at h))
type_is_declared (NNew n ps t con ∷ ds) s w args k h = put_first n w (nwords_by ntype_words ds) s (λ other. type_is_declared ds (plus n s) w args k (rw other at h))
type_is_declared (NFamily n ps j ∷ ds) s w args k h = put_first n w (nwords_by ntype_words ds) s (λ other. type_is_declared ds (plus n s) w args k (rw other at h))
type_is_declared (NAxiom n ps t u ∷ ds) s w args k h = type_is_declared ds s w args k h
type_is_declared (NDef n t e ∷ ds) s w args k h = type_is_declared ds s w args k h
type_is_declared (NWrap n t e ∷ ds) s w args k h = type_is_declared ds s w args k h

pub axiom_is_declared : (o : Option Word) (ds : List NDecl) (s : WordSet) (w : Word) (a : Axiom) → axiom_decl o ds w ≡ Some a → plus_all (nwords_by ncoercion_words ds) s w ≡ true
axiom_is_declared o [] s w a h = absurd cc
axiom_is_declared o (NData n ps cs ∷ ds) s w a h = axiom_is_declared o ds s w a h
axiom_is_declared o (NNew n ps t con ∷ ds) s w a h = put_first con w (nwords_by ncoercion_words ds) s (λ other. axiom_is_declared o ds (plus con s) w a (rw other at h))
axiom_is_declared o (NFamily n ps k ∷ ds) s w a h = axiom_is_declared o ds s w a h
axiom_is_declared o (NAxiom n ps t u ∷ ds) s w a h = put_first n w (nwords_by ncoercion_words ds) s (λ other. axiom_is_declared o ds (plus n s) w a (rw other at h))
axiom_is_declared o (NDef n t e ∷ ds) s w a h = axiom_is_declared o ds s w a h
axiom_is_declared o (NWrap n t e ∷ ds) s w a h = axiom_is_declared o ds s w a h

-- a constructor is found among those of a data type, or elsewhere
found_with_cons : (cs : List NConDecl) (d : Word) (ps : List NParam) (i : ℕ) (o : Option Constructor) (ws : List Word) (s : WordSet) (w : Word) (k : Constructor)
    → ((t : WordSet) → o ≡ Some k → plus_all ws t w ≡ true) → first_of (con_among d ps i cs w) o ≡ Some k → plus_all (ncon_words cs ++ ws) s w ≡ true
found_with_cons [] d ps i o ws s w k elsewhere h = elsewhere s h
found_with_cons (NConOf n bs fields ∷ cs) d ps i o ws s w k elsewhere h =
    put_first n w (ncon_words cs ++ ws) s (λ other. found_with_cons cs d ps (i + 1) o ws (plus n s) w k elsewhere (rw other at h))

pub constructor_is_declared : (ds : List NDecl) (s : WordSet) (w : Word) (k : Constructor) → con_decl ds w ≡ Some k → plus_all (nwords_by nterm_words ds) s w ≡ true
constructor_is_declared [] s w k h = absurd cc
constructor_is_declared (NData n ps cs ∷ ds) s w k h =
    found_with_cons cs n ps 0 (con_decl ds w) (nwords_by nterm_words ds) s w k (λ t later. constructor_is_declared ds t w k later) h
constructor_is_declared (NNew n ps t con ∷ ds) s w k h = constructor_is_declared ds s w k h
constructor_is_declared (NFamily n ps j ∷ ds) s w k h = constructor_is_declared ds s w k h
constructor_is_declared (NAxiom n ps t u ∷ ds) s w k h = constructor_is_declared ds s w k h
constructor_is_declared (NDef n t e ∷ ds) s w k h = put_first n w (nwords_by nterm_words ds) s (λ other. constructor_is_declared ds (plus n s) w k h)
constructor_is_declared (NWrap n t e ∷ ds) s w k h = put_first n w (nwords_by nterm_words ds) s (λ other. constructor_is_declared ds (plus n s) w k h)

pub definition_is_declared : (ds : List NDecl) (s : WordSet) (w : Word) (t : NTy) → def_type ds w ≡ Ok t → plus_all (nwords_by nterm_words ds) s w ≡ true
definition_is_declared [] s w t h = err_ok h
definition_is_declared (NData n ps cs ∷ ds) s w t h =
    ap (λ (r : WordSet). r w) (plus_both (ncon_words cs) (nwords_by nterm_words ds) s) ∙ definition_is_declared ds (plus_all (ncon_words cs) s) w t h
definition_is_declared (NNew n ps u con ∷ ds) s w t h = definition_is_declared ds s w t h
definition_is_declared (NFamily n ps k ∷ ds) s w t h = definition_is_declared ds s w t h
definition_is_declared (NAxiom n ps u v ∷ ds) s w t h = definition_is_declared ds s w t h
definition_is_declared (NDef n u e ∷ ds) s w t h = put_first n w (nwords_by nterm_words ds) s (λ other. definition_is_declared ds (plus n s) w t (rw other at h))
definition_is_declared (NWrap n u e ∷ ds) s w t h = put_first n w (nwords_by nterm_words ds) s (λ other. definition_is_declared ds (plus n s) w t (rw other at h))
