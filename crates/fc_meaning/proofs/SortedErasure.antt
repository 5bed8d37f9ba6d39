-- The right sides of the definitions of a set of modules that lints are sorted when their types are gone.
use Rattle.std.proofs.Common.{◌≡◌, ◌&&◌, All, List, [], ◌∷◌, bytes_eq, Option, Some}
use Rattle.std.proofs.lemmas.Bool.{and_parts}
use Rattle.std.specs.List.{list_all}
use Rattle.fc_syntax.specs.Tokens.{is_module_name}
use Rattle.fc_syntax.specs.Tree.{Word, Module, ModuleOf}
use Rattle.fc_model.specs.Formed.{IsFormed, is_decl_formed, is_word}
use Rattle.fc_model.specs.Erasure.{erased, no_scope}
use Rattle.fc_model.specs.Headers.{ndecls_in}
use Rattle.fc_model.specs.Kinding.{Modules, decls_at}
use Rattle.fc_model.specs.Linting.{nameless_forms}
use Rattle.fc_model.specs.LintingRules.{DefinitionsHold, no_definitions, one_definition, def_holds, wrap_holds, data_defines_nothing, newtype_defines_nothing, family_defines_nothing, axiom_defines_nothing}
use Rattle.fc_model.specs.Nameless.{NDecl, NData, NNew, NFamily, NAxiom, NDef, NWrap, NModule}
use Rattle.fc_model.specs.Programs.{right_side}
use Rattle.fc_model.specs.ResolutionRules.{Resolves, resolves_module}
use Rattle.fc_model.specs.Resolution.{top_of}
use Rattle.fc_model.specs.Terms.{Term, IsSorted}
use Rattle.fc_model.proofs.ResolvedModulesAre.{resolved_module_is}
use Rattle.fc_meaning.specs.Laws.{LintedIsSorted}
use Rattle.fc_meaning.proofs.HeldDeclarations.{AreHeld, declared_have}
use Rattle.fc_meaning.proofs.HeldSets.{forms_have, set_is_held}
use Rattle.fc_meaning.proofs.Optional.{found_has, some_is, none_some}
use Rattle.fc_meaning.proofs.ScopesFit.{fits_closed}
use Rattle.fc_meaning.proofs.WrittenExpressions.{AreDeclsWritten, decls_written}
use Rattle.fc_meaning.proofs.SortedExpressions.{expr_sorted}

-- DEFINITIONS

-- the right side of a definition is sorted
abbrev pub IsRightSorted : NDecl → Type 0
IsRightSorted (NData n ps cs) = Unit {0}
IsRightSorted (NNew n ps t con) = Unit {0}
IsRightSorted (NFamily n ps k) = Unit {0}
IsRightSorted (NAxiom n ps t u) = Unit {0}
IsRightSorted (NDef n t e) = IsSorted [] (erased no_scope e)
IsRightSorted (NWrap n t e) = IsSorted [] (erased no_scope e)

abbrev pub AreRightsSorted : List NDecl → Type 0
AreRightsSorted [] = Unit {0}
AreRightsSorted (d ∷ ds) = IsRightSorted d × AreRightsSorted ds

pub rights_sorted : {ms : Modules} {ds : List NDecl} → DefinitionsHold ms ds → AreHeld ms → AreDeclsWritten ds → AreRightsSorted ds
rights_sorted no_definitions held w = tt
rights_sorted {ms = ms} (one_definition (def_holds kind e) rest) held w = (expr_sorted ms held e no_scope [] fits_closed w.0, rights_sorted rest held w.1)
rights_sorted {ms = ms} (one_definition (wrap_holds kind e) rest) held w = (expr_sorted ms held e no_scope [] fits_closed w.0, rights_sorted rest held w.1)
rights_sorted (one_definition data_defines_nothing rest) held w = (tt, rights_sorted rest held w.1)
rights_sorted (one_definition newtype_defines_nothing rest) held w = (tt, rights_sorted rest held w.1)
rights_sorted (one_definition family_defines_nothing rest) held w = (tt, rights_sorted rest held w.1)
rights_sorted (one_definition axiom_defines_nothing rest) held w = (tt, rights_sorted rest held w.1)

-- what is defined is the right side of a definition
pub right_side_sorted : (ds : List NDecl) (w : Word) (t : Term) → AreRightsSorted ds → right_side ds w ≡ Some t → IsSorted [] t
right_side_sorted [] w t s h = absurd (none_some h)
right_side_sorted (NData n ps cs ∷ ds) w t s h = right_side_sorted ds w t s.1 h
right_side_sorted (NNew n ps u con ∷ ds) w t s h = right_side_sorted ds w t s.1 h
right_side_sorted (NFamily n ps k ∷ ds) w t s h = right_side_sorted ds w t s.1 h
right_side_sorted (NAxiom n ps u v ∷ ds) w t s h = right_side_sorted ds w t s.1 h
right_side_sorted (NDef n u e ∷ ds) w t s h = found_has (IsSorted []) Some (λ x y same. some_is same) (bytes_eq n w) (erased no_scope e) t (right_side ds w) s.0 (λ q. right_side_sorted ds w t s.1 q) h
right_side_sorted (NWrap n u e ∷ ds) w t s h = found_has (IsSorted []) Some (λ x y same. some_is same) (bytes_eq n w) (erased no_scope e) t (right_side ds w) s.0 (λ q. right_side_sorted ds w t s.1 q) h

-- SETS

-- the right sides of a formed module are written as literals and alternatives are to be
pub form_is_written : {m : Module} {n : NModule} → Resolves m n → IsFormed m → AreDeclsWritten (ndecls_in n)
form_is_written (resolves_module {m = own} {imports = imports} {exports = exports} {hidden = hidden} {ds = ds} decls) f =
    let p = and_parts (is_module_name own && list_all is_module_name imports) ((list_all is_word exports && list_all is_word hidden) && list_all is_decl_formed ds) f in
    let q = and_parts (list_all is_word exports && list_all is_word hidden) (list_all is_decl_formed ds) p.1 in
    decls_written (top_of (ModuleOf own imports exports hidden ds)) decls q.1

-- and so are those of a set of formed modules
set_is_written : (ms : List Module) → All IsFormed ms → (o : Option Word) → AreDeclsWritten (decls_at (nameless_forms ms) o)
set_is_written ms formed =
    declared_have AreDeclsWritten tt (nameless_forms ms)
    (forms_have IsFormed (λ n. AreDeclsWritten (ndecls_in n)) (λ m n f form. form_is_written (resolved_module_is m n form) f) ms formed)

-- the program of a set of formed modules that lints
pub linted_is_sorted : LintedIsSorted
linted_is_sorted ms formed lints x t h =
    let held = set_is_held ms lints in
    right_side_sorted (decls_at (nameless_forms ms) x.module) x.text t (rights_sorted (held.definitions x.module) held (set_is_written ms formed x.module)) h
