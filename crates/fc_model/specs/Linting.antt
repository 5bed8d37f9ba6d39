-- Lint of a set of modules: every premise of names, declarations and typing, in its order; and the first that fails.
use Rattle.std.specs.Prelude.{◌≡◌, ℕ, ◌+◌, Bool, true, false, ◌&&◌, if◌then◌else◌, List, [], ◌∷◌, length, reverse, None, Result, Ok, Err}
use Rattle.std.specs.List.{list_all}
use Rattle.std.specs.Str.{bytes_eq}
use Rattle.fc_syntax.specs.declared.fault.FaultKind.TheVariants.{BadForm, ExportUnknown, NotAType, FamilyArity, UnliftedVariable, RoleTooWeak, KindsDiffer, UnliftedTop, DefType}
use Rattle.fc_syntax.specs.declared.ty.Role.{Role}
use Rattle.fc_syntax.specs.declared.ty.Role.TheVariants.{R}
use Rattle.fc_syntax.specs.Roles.{role_below}
use Rattle.fc_syntax.specs.Tree.{Word, Kind, KStar, KHash, KArrow, Module}
use Rattle.fc_model.specs.Declaring.{ncoercion_words, ndecl_word, ndeclared_words, nterm_words, ntype_words, nwords_by}
use Rattle.fc_model.specs.Faulting.{F, At, need, under, within, and_then}
use Rattle.fc_model.specs.Headers.{name_of, ndecls_in}
use Rattle.fc_model.specs.Kinding.{Modules, decls_at, decls_of_module, is_family_applied, is_lifted, is_star, is_value_kind, kind_or_fault, param_kinds, same_kind, same_type}
use Rattle.fc_model.specs.Nameless.{NTy, NBinder, NBValue, NBType, NBCo, NParam, NParamOf}
use Rattle.fc_model.specs.Nameless.{NConDecl, NConOf, NDecl, NData, NNew, NFamily, NAxiom, NDef, NWrap, NExpr, NModule, NModuleOf}
use Rattle.fc_model.specs.Needs.{need_in, need_in_cons}
use Rattle.fc_model.specs.Resolution.{Offers, WordSet, no_word, plus_all, resolved_among, resolved_or_fault}
use Rattle.fc_model.specs.Typing.{kinds_behind, no_context, type_or_fault}

-- nothing but whether there is a fault
pub data Done : Type 0 where
  done : Done

-- EXPORTS

-- each exported and each hidden word has a declaration, in any space; the fault stands at no place
abbrev pub exports_judged : NModule → Result Done F
exports_judged (NModuleOf m imports exports hidden ds) =
    let declared = plus_all (ndeclared_words ds) no_word in
    need (list_all declared exports && list_all declared hidden) ExportUnknown (Ok done)

-- TYPE DECLARATIONS

-- type variables from part i on, each of a kind without `#`; the number of the part after them
abbrev pub variables_judged : ℕ → List Kind → Result ℕ F
variables_judged i [] = Ok i
variables_judged i (k ∷ ks) = and_then (under i (need (is_lifted k) UnliftedVariable (Ok done))) (λ _. variables_judged (i + 1) ks)

-- a binder of a constructor: whether its ends have one kind, where it is a coercion; a field has no binder
abbrev pub con_binder_judged : Modules → List Kind → NBinder → Result Bool F
con_binder_judged ms ks (NBValue t) = Err (At BadForm None [])
con_binder_judged ms ks (NBType k) = need (is_lifted k) UnliftedVariable (Ok true)
con_binder_judged ms ks (NBCo r t u) = and_then (under 0 (kind_or_fault ms ks t)) (λ j. and_then (under 1 (kind_or_fault ms ks u)) (λ k. Ok (same_kind j k)))

-- the kinds in scope behind binders
abbrev pub kinds_behind_all : List NBinder → List Kind → List Kind
kinds_behind_all [] ks = ks
kinds_behind_all (b ∷ bs) ks = kinds_behind_all bs (kinds_behind b ks)

-- the binders of a constructor from part i on, behind coercions the ends of each of which have one kind, or not; the same of all
abbrev pub con_binders_judged : Modules → List Kind → ℕ → Bool → List NBinder → Result Bool F
con_binders_judged ms ks i one [] = Ok one
con_binders_judged ms ks i one (b ∷ bs) = and_then (under i (con_binder_judged ms ks b)) (λ same. con_binders_judged ms (kinds_behind b ks) (i + 1) (one && same) bs)

-- fields from part i on, behind fields that are all of the kinds of values, or not: each is well kinded; the same of all
abbrev pub fields_judged : Modules → List Kind → ℕ → Bool → List NTy → Result Bool F
fields_judged ms ks i all [] = Ok all
fields_judged ms ks i all (t ∷ ts) = and_then (under i (kind_or_fault ms ks t)) (λ k. fields_judged ms ks (i + 1) (all && is_value_kind k) ts)

-- a constructor: its binders, its fields, and then that the ends of its coercions have one kind; whether its fields are of the kinds of
-- values
abbrev pub con_judged : Modules → List Kind → NConDecl → Result Bool F
con_judged ms ks (NConOf n bs fields) =
    and_then (con_binders_judged ms ks 0 true bs) (λ one. and_then (fields_judged ms (kinds_behind_all bs ks) (length bs) true fields) (λ values. need one KindsDiffer (Ok values)))

-- constructors from part i on, behind constructors whose fields are all of the kinds of values, or not; the same of all
abbrev pub cons_judged : Modules → List Kind → ℕ → Bool → List NConDecl → Result Bool F
cons_judged ms ks i all [] = Ok all
cons_judged ms ks i all (c ∷ cs) = and_then (under i (con_judged ms ks c)) (λ values. cons_judged ms ks (i + 1) (all && values) cs)

-- the roles of parameters from part i on, none above the parameter's need; the last parameter is the innermost, so that a parameter is
-- as far from what the declaration holds as parameters follow it
abbrev pub roles_judged : (ℕ → Role) → ℕ → List NParam → Result Done F
roles_judged needed i [] = Ok done
roles_judged needed i (NParamOf k r ∷ ps) = and_then (under i (need (role_below r (needed (length ps))) RoleTooWeak (Ok done))) (λ _. roles_judged needed (i + 1) ps)

-- a type declaration: its parts, and then its own premises. Of data: that its fields are of kind `*` or `#`, and its roles; of a
-- newtype: that its type is of kind `*`, and its roles; of a family: the kind of its result; of an axiom: that its left side is a
-- family that is applied in full, and that both sides have one kind.
abbrev pub type_decl_judged : Modules → NDecl → Result Done F
type_decl_judged ms (NData n ps cs) =
    and_then (variables_judged 0 (param_kinds ps)) (λ i. and_then (cons_judged ms (reverse (param_kinds ps)) i true cs) (λ b.
    need b NotAType (roles_judged (λ p. need_in_cons ms p cs) 0 ps)))
type_decl_judged ms (NNew n ps t con) =
    and_then (variables_judged 0 (param_kinds ps)) (λ i. and_then (under i (kind_or_fault ms (reverse (param_kinds ps)) t)) (λ k.
    need (is_star k) NotAType (roles_judged (λ p. need_in ms R p t) 0 ps)))
type_decl_judged ms (NFamily n ps k) = and_then (variables_judged 0 ps) (λ _. need (is_lifted k) UnliftedVariable (Ok done))
type_decl_judged ms (NAxiom n ps t u) =
    and_then (variables_judged 0 ps) (λ i. and_then (under i (kind_or_fault ms (reverse ps) t)) (λ j. and_then (under (i + 1) (kind_or_fault ms (reverse ps) u)) (λ k.
    need (is_family_applied ms 0 t) FamilyArity (need (same_kind j k) KindsDiffer (Ok done)))))
type_decl_judged ms (NDef n t e) = Ok done
type_decl_judged ms (NWrap n t e) = Ok done

abbrev pub type_decls_judged : Modules → List NDecl → Result Done F
type_decls_judged ms [] = Ok done
type_decls_judged ms (d ∷ ds) = and_then (within (ndecl_word d) (type_decl_judged ms d)) (λ _. type_decls_judged ms ds)

-- DEFINITIONS

-- the type of a definition has kind `*`; of the others `#` has a fault of its own
abbrev pub definition_kind : Kind → Result Done F
definition_kind KStar = Ok done
definition_kind KHash = Err (At UnliftedTop None [])
definition_kind (KArrow j k) = Err (At NotAType None [])

abbrev pub def_type_judged : Modules → NDecl → Result Done F
def_type_judged ms (NDef n t e) = and_then (under 0 (kind_or_fault ms [] t)) (λ k. definition_kind k)
def_type_judged ms (NWrap n t e) = and_then (under 0 (kind_or_fault ms [] t)) (λ k. definition_kind k)
def_type_judged ms (NData n ps cs) = Ok done
def_type_judged ms (NNew n ps t con) = Ok done
def_type_judged ms (NFamily n ps k) = Ok done
def_type_judged ms (NAxiom n ps t u) = Ok done

abbrev pub def_types_judged : Modules → List NDecl → Result Done F
def_types_judged ms [] = Ok done
def_types_judged ms (d ∷ ds) = and_then (within (ndecl_word d) (def_type_judged ms d)) (λ _. def_types_judged ms ds)

-- the right side of a definition has the written type
abbrev pub right_side_judged : Modules → NTy → NExpr → Result Done F
right_side_judged ms t e = and_then (under 1 (type_or_fault ms no_context e)) (λ u. need (same_type t u) DefType (Ok done))

abbrev pub right_judged : Modules → NDecl → Result Done F
right_judged ms (NDef n t e) = right_side_judged ms t e
right_judged ms (NWrap n t e) = right_side_judged ms t e
right_judged ms (NData n ps cs) = Ok done
right_judged ms (NNew n ps t con) = Ok done
right_judged ms (NFamily n ps k) = Ok done
right_judged ms (NAxiom n ps t u) = Ok done

abbrev pub rights_judged : Modules → List NDecl → Result Done F
rights_judged ms [] = Ok done
rights_judged ms (d ∷ ds) = and_then (within (ndecl_word d) (right_judged ms d)) (λ _. rights_judged ms ds)

-- A MODULE

-- type declarations, then the types of definitions, and then right sides, against what modules declare
abbrev pub declarations_judged : Modules → List NDecl → Result Done F
declarations_judged ms ds = and_then (type_decls_judged ms ds) (λ _. and_then (def_types_judged ms ds) (λ _. rights_judged ms ds))

-- a module against what modules declare: exported and hidden words, and then its declarations
abbrev pub lint_or_fault : Modules → NModule → Result Done F
lint_or_fault ms (NModuleOf m imports exports hidden ds) = and_then (exports_judged (NModuleOf m imports exports hidden ds)) (λ _. declarations_judged ms ds)

-- a module alone, whose premises of names come before all others
abbrev pub module_lint : Module → Result Done F
module_lint m = and_then (resolved_or_fault m) (λ n. lint_or_fault (decls_at (n ∷ [])) n)

-- every premise holds of a module
abbrev pub Lints : Module → Type 0
Lints m = module_lint m ≡ Ok done

-- A SET OF MODULES

-- the words that a module exports or hides, which is what others may use of it
abbrev pub told_by : List NModule → Word → WordSet
told_by [] m w = false
told_by (NModuleOf n imports exports hidden ds ∷ ns) m w = if bytes_eq n m then plus_all exports (plus_all hidden no_word) w else told_by ns m w

-- of those the ones that it declares in a space
abbrev pub offered_by : (NDecl → List Word) → List NModule → Word → WordSet
offered_by words ns m w = told_by ns m w && plus_all (nwords_by words (decls_of_module ns m)) no_word w

abbrev pub offers_of : List NModule → Offers
offers_of ns = record { types = offered_by ntype_words ns; terms = offered_by nterm_words ns; coercions = offered_by ncoercion_words ns }

-- a module against modules: its own names before all others, then exported and hidden words, then that each name of an import is one that its
-- module has for others, and then its declarations
abbrev pub module_judged : List NModule → Module → Result Done F
module_judged ns m =
    and_then (resolved_or_fault m) (λ n. and_then (exports_judged n) (λ _. and_then (resolved_among (offers_of ns) m) (λ _. declarations_judged (decls_at ns) (ndecls_in n))))

-- a premise that fails in the module of a name
pub data InModule : Type 0 where
  In : (m : Word) (f : F) → InModule

-- one module, and then those behind it
abbrev pub in_module : Word → Result Done F → Result Done InModule → Result Done InModule
in_module m (Ok d) rest = rest
in_module m (Err f) rest = Err (In m f)

abbrev pub modules_judged : List NModule → List Module → Result Done InModule
modules_judged ns [] = Ok done
modules_judged ns (m ∷ ms) = in_module (name_of m) (module_judged ns m) (modules_judged ns ms)

-- the nameless forms of modules, before the first that has a fault of names
abbrev pub form_before : Result NModule F → List NModule → List NModule
form_before (Ok n) ns = n ∷ ns
form_before (Err f) ns = []

abbrev pub nameless_forms : List Module → List NModule
nameless_forms [] = []
nameless_forms (m ∷ ms) = form_before (resolved_or_fault m) (nameless_forms ms)

-- the modules of a set in the order in which they are built, each against all of them
abbrev pub set_judged : List Module → Result Done InModule
set_judged ms = modules_judged (nameless_forms ms) ms

-- every premise holds of each module of a set
abbrev pub SetLints : List Module → Type 0
SetLints ms = set_judged ms ≡ Ok done
