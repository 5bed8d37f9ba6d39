-- Laws of evaluation, of what terms show, of erasure, and of what is written.
use Rattle.std.specs.Prelude.{◌≡◌, ◌↔◌, ℕ, ℤ, All, Bool, true, List, [], Some, None, Ok}
use Rattle.fc_syntax.specs.declared.ty.Name.{Name}
use Rattle.fc_syntax.specs.Tree.{Module}
use Rattle.fc_model.specs.Faulting.{at_distance}
use Rattle.fc_model.specs.Formed.{IsFormed}
use Rattle.fc_model.specs.Headers.{set_written}
use Rattle.fc_model.specs.Erasure.{Scope, arg_sorts, binder_sorts, sort_of, sort_of_type}
use Rattle.fc_model.specs.Kinding.{decls_at}
use Rattle.fc_model.specs.Linting.{SetLints, nameless_forms}
use Rattle.fc_model.specs.Nameless.{NArgs, NCon, NExpr, NModule, NTy}
use Rattle.fc_model.specs.Observing.{Observation, Sees}
use Rattle.fc_model.specs.Programs.{IsMainExpression, Mentions, program_of}
use Rattle.fc_model.specs.Stepping.{Program, Bare, Missing, LitKey, ConKey, LamKey, IsHead, Reaches, choose, default_of, next, wrap}
use Rattle.fc_model.specs.Terms.{Sort, Lifted, Term, Lit, Var, Lam, Rec, Case, Con, Terms, Alts, IsSorted, push, pushes, sub}
use Rattle.fc_model.specs.Calling.{Constructor, atom_fits, constructor, constructor_binders}
use Rattle.fc_model.specs.Typing.{Context, is_atom}
use Rattle.fc_model.specs.TypingRules.{HasType}

-- EVALUATION

abbrev pub StepsAreUnique : Type 0
StepsAreUnique = (p : Program) (t u v : Term) → next p t ≡ Some u → next p t ≡ Some v → u ≡ v

abbrev pub HeadsAreUnique : Type 0
HeadsAreUnique = (p : Program) (t g h : Term) (j k : ℕ) → Reaches p t j g → Reaches p t k h → (j ≡ k) × (g ≡ h)

abbrev pub HeadsStay : Type 0
HeadsStay = (p : Program) (t : Term) → IsHead t → next p t ≡ None

-- a lambda has no alternative of its own
abbrev pub DefaultTakesLambda : Type 0
DefaultTakesLambda = (p : Program) (s : Sort) (b d : Term) (alts : Alts) → default_of alts ≡ Bare d → next p (Case Lifted (Lam s b) alts) ≡ Some (sub (push (Lam s b) Var) d)

-- a case whose head has no alternative of its own and no default
abbrev pub NoAlternativeIsStuck : Type 0
NoAlternativeIsStuck = (p : Program) (s : Sort) (alts : Alts)
    → ((z : ℤ) → choose (LitKey z) alts ≡ Missing → next p (Case s (Lit z) alts) ≡ None)
    × ((c : Name) (ss : List Sort) (ts : Terms) → choose (ConKey c) alts ≡ Missing → next p (Case s (Con c ss ts) alts) ≡ None)
    × ((r : Sort) (b : Term) → choose LamKey alts ≡ Missing → next p (Case s (Lam r b) alts) ≡ None)

-- each binder of a group becomes its right side below the same group
abbrev pub GroupUnrolls : Type 0
GroupUnrolls = (p : Program) (ts : Terms) (b : Term) → next p (Rec ts b) ≡ Some (sub (pushes (wrap ts ts) Var) b)

-- WHAT TERMS SHOW

-- the definitions of these names mention these names alone, and the other program has the same
pub record Keeps (N : Name → Type 0) (P Q : Program) : Type 0 where
  pub same : (x : Name) → N x → P x ≡ Q x
  pub closed : (x : Name) → N x → (t : Term) → P x ≡ Some t → Mentions N t

-- for names that are told from others by a test
abbrev pub ReachedNamesMatter : Type 0
ReachedNamesMatter = (N : Name → Bool) (P Q : Program) → Keeps (λ x. N x ≡ true) P Q → (t : Term) → Mentions (λ x. N x ≡ true) t
    → (o : Observation) → Sees P t o ↔ Sees Q t o

-- SORTS

abbrev pub SortedProgram : Program → Type 0
SortedProgram P = (x : Name) (t : Term) → P x ≡ Some t → IsSorted [] t

abbrev pub StepsKeepSorts : Type 0
StepsKeepSorts = (P : Program) → SortedProgram P → (t u : Term) → IsSorted [] t → next P t ≡ Some u → IsSorted [] u

-- the definitions of a set of formed modules that lints are sorted
abbrev pub LintedIsSorted : Type 0
LintedIsSorted = (ms : List Module) → All IsFormed ms → SetLints ms → SortedProgram (program_of (nameless_forms ms))

-- the sort of each variable of the scope is that of its type in the context
abbrev pub Agrees : Context → Scope → Type 0
Agrees c s = (i : ℕ) (t : NTy) → at_distance c.values i ≡ Ok t → s.sorts i ≡ sort_of_type t

-- in a set that lints, the sorts that are read off the arguments of a constructor are those of its binders: its coercions and its
-- fields
abbrev pub SortsAreOfTypes : Type 0
SortsAreOfTypes = (ms : List Module) → SetLints ms → (c : Context) (s : Scope) → Agrees c s → (n : Name) (args : NArgs) (t : NTy)
    → HasType (decls_at (nameless_forms ms)) c (NCon n args) t → (k : Constructor) → constructor (decls_at (nameless_forms ms)) n ≡ Some k
    → arg_sorts s args ≡ binder_sorts (constructor_binders k)

-- in a set that lints, the sort that is read off what may stand at a place of its type, as the argument of an application, is that of
-- the type
abbrev pub ArgumentSortIsOfType : Type 0
ArgumentSortIsOfType = (ms : List Module) → SetLints ms → (c : Context) (s : Scope) → Agrees c s → (a : NExpr) (t : NTy)
    → HasType (decls_at (nameless_forms ms)) c a t → atom_fits t (is_atom a) ≡ true → sort_of s a ≡ sort_of_type t

-- WHAT IS WRITTEN

-- two programs show the same of a term
abbrev pub ShowsTheSame : List NModule → List NModule → Term → Type 0
ShowsTheSame ns ks t = (o : Observation) → Sees (program_of ns) t o ↔ Sees (program_of ks) t o

-- each main expression over the exports of a set that lints is one over those of the set as it is written, and shows exactly the same in
-- both programs
abbrev pub WrittenMeansTheSame : Type 0
WrittenMeansTheSame = (ms : List Module) → SetLints ms → (t : Term) → IsMainExpression (nameless_forms ms) t
    → IsMainExpression (nameless_forms (set_written ms)) t × ShowsTheSame (nameless_forms ms) (nameless_forms (set_written ms)) t
