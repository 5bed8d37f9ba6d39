-- Declarations that are the same but for the right side of one definition declare the same.
use Rattle.std.proofs.Common.{◌≡◌, Bool, true, false, if◌then◌else◌, List, ◌∷◌, ◌++◌, Option, Some, None, refl, ap}
use Rattle.std.specs.Str.{bytes_eq}
use Rattle.fc_syntax.specs.Tree.{Word}
use Rattle.fc_model.specs.Calling.{con_decl}
use Rattle.fc_model.specs.Coercing.{axiom_decl}
use Rattle.fc_model.specs.Declaring.{ndecl_words, ndeclared_words, ntype_words, nwords_by}
use Rattle.fc_model.specs.Kinding.{Modules, decls_at, decls_of_module, type_decl}
use Rattle.fc_model.specs.LintingRules.{TypeDeclsHold, one_type_decl, def_declares_no_type, wrap_declares_no_type}
use Rattle.fc_model.specs.Nameless.{NExpr, NDecl, NData, NNew, NFamily, NAxiom, NDef, NWrap, NModule, NModuleOf}
use Rattle.fc_model.specs.Typing.{def_type}
use Rattle.fc_outlines.specs.Headers.{SameHeaders}
use Rattle.fc_outlines.specs.RightSides.{Righted, righted_def, righted_wrap, righted_later}

pub words_same : {R : NExpr → NExpr → Type 0} {ds es : List NDecl} → Righted R ds es → nwords_by ntype_words ds ≡ nwords_by ntype_words es
words_same (righted_def r) = refl
words_same (righted_wrap r) = refl
words_same (righted_later {d = d} r) = ap (λ ws. ntype_words d ++ ws) (words_same r)

pub declared_same : {R : NExpr → NExpr → Type 0} {ds es : List NDecl} → Righted R ds es → ndeclared_words ds ≡ ndeclared_words es
declared_same (righted_def r) = refl
declared_same (righted_wrap r) = refl
declared_same (righted_later {d = d} r) = ap (λ ws. ndecl_words d ++ ws) (declared_same r)

pub types_same : {R : NExpr → NExpr → Type 0} {ds es : List NDecl} → Righted R ds es → (w : Word) → type_decl ds w ≡ type_decl es w
types_same (righted_def r) w = refl
types_same (righted_wrap r) w = refl
types_same (righted_later {d = NData n ps cs} r) w = rw (types_same r w) refl
types_same (righted_later {d = NNew n ps t con} r) w = rw (types_same r w) refl
types_same (righted_later {d = NFamily n ps k} r) w = rw (types_same r w) refl
types_same (righted_later {d = NAxiom n ps t u} r) w = types_same r w
types_same (righted_later {d = NDef n t e} r) w = types_same r w
types_same (righted_later {d = NWrap n t e} r) w = types_same r w

pub constructors_same : {R : NExpr → NExpr → Type 0} {ds es : List NDecl} → Righted R ds es → (w : Word) → con_decl ds w ≡ con_decl es w
constructors_same (righted_def r) w = refl
constructors_same (righted_wrap r) w = refl
constructors_same (righted_later {d = NData n ps cs} r) w = rw (constructors_same r w) refl
constructors_same (righted_later {d = NNew n ps t con} r) w = constructors_same r w
constructors_same (righted_later {d = NFamily n ps k} r) w = constructors_same r w
constructors_same (righted_later {d = NAxiom n ps t u} r) w = constructors_same r w
constructors_same (righted_later {d = NDef n t e} r) w = constructors_same r w
constructors_same (righted_later {d = NWrap n t e} r) w = constructors_same r w

pub axioms_same : {R : NExpr → NExpr → Type 0} {ds es : List NDecl} → Righted R ds es → (m : Option Word) (w : Word) → axiom_decl m ds w ≡ axiom_decl m es w
axioms_same (righted_def r) m w = refl
axioms_same (righted_wrap r) m w = refl
axioms_same (righted_later {d = NData n ps cs} r) m w = axioms_same r m w
axioms_same (righted_later {d = NNew n ps t con} r) m w = rw (axioms_same r m w) refl
axioms_same (righted_later {d = NFamily n ps k} r) m w = axioms_same r m w
axioms_same (righted_later {d = NAxiom n ps t u} r) m w = rw (axioms_same r m w) refl
axioms_same (righted_later {d = NDef n t e} r) m w = axioms_same r m w
axioms_same (righted_later {d = NWrap n t e} r) m w = axioms_same r m w

pub defs_same : {R : NExpr → NExpr → Type 0} {ds es : List NDecl} → Righted R ds es → (w : Word) → def_type ds w ≡ def_type es w
defs_same (righted_def r) w = refl
defs_same (righted_wrap r) w = refl
defs_same (righted_later {d = NData n ps cs} r) w = defs_same r w
defs_same (righted_later {d = NNew n ps t con} r) w = defs_same r w
defs_same (righted_later {d = NFamily n ps k} r) w = defs_same r w
defs_same (righted_later {d = NAxiom n ps t u} r) w = defs_same r w
defs_same (righted_later {d = NDef n t e} r) w = rw (defs_same r w) refl
defs_same (righted_later {d = NWrap n t e} r) w = rw (defs_same r w) refl

pub type_decls_righted : {ms : Modules} {R : NExpr → NExpr → Type 0} {ds es : List NDecl} → Righted R ds es → TypeDeclsHold ms ds → TypeDeclsHold ms es
type_decls_righted (righted_def r) (one_type_decl h more) = one_type_decl def_declares_no_type more
type_decls_righted (righted_wrap r) (one_type_decl h more) = one_type_decl wrap_declares_no_type more
type_decls_righted (righted_later r) (one_type_decl h more) = one_type_decl h (type_decls_righted r more)

-- RELATIONS

pub righted_by : {R S : NExpr → NExpr → Type 0} → ((e f : NExpr) → R e f → S e f) → {ds es : List NDecl} → Righted R ds es → Righted S ds es
righted_by more (righted_def {e = e} {f = f} r) = righted_def (more e f r)
righted_by more (righted_wrap {e = e} {f = f} r) = righted_wrap (more e f r)
righted_by more (righted_later r) = righted_later (righted_by more r)

-- the old one and the new one exchanged
pub righted_back : {R : NExpr → NExpr → Type 0} {ds es : List NDecl} → Righted R ds es → Righted (λ e f. R f e) es ds
righted_back (righted_def r) = righted_def r
righted_back (righted_wrap r) = righted_wrap r
righted_back (righted_later r) = righted_later (righted_back r)

-- AMONG MODULES

-- what is the same of the declarations of two modules of one name is so of the modules in scope, before the same modules
pub same_among : (m : Word) (imports exports hidden : List Word) {ds es : List NDecl} (rest : List NModule) {X : Type 0} (f : List NDecl → X) → f ds ≡ f es → (o : Option Word)
    → f (decls_at (NModuleOf m imports exports hidden ds ∷ rest) o) ≡ f (decls_at (NModuleOf m imports exports hidden es ∷ rest) o)
same_among m imports exports hidden rest f same None = refl
same_among m imports exports hidden {ds = ds} {es = es} rest f same (Some w) = either (bytes_eq m w)
  where
    either : (b : Bool) → f (if b then ds else decls_of_module rest w) ≡ f (if b then es else decls_of_module rest w)
    either true = same
    either false = refl

-- a module with another right side, before the same modules
module _ (m : Word) (imports exports hidden : List Word) {R : NExpr → NExpr → Type 0} {ds es : List NDecl} (rest : List NModule) (r : Righted R ds es) where
  pub righted_headers : SameHeaders (decls_at (NModuleOf m imports exports hidden ds ∷ rest)) (decls_at (NModuleOf m imports exports hidden es ∷ rest))
  righted_headers = record {
    alike = record {
      types = λ o w. same_among m imports exports hidden rest (λ d. type_decl d w) (types_same r w) o;
      constructors = λ o w. same_among m imports exports hidden rest (λ d. con_decl d w) (constructors_same r w) o;
      axioms = λ o w. same_among m imports exports hidden rest (λ d. axiom_decl o d w) (axioms_same r o w) o;
    };
    values = λ n. same_among m imports exports hidden rest (λ d. def_type d n.text) (defs_same r n.text) n.module;
  }
