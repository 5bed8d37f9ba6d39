-- Laws of typing: what stands in place of variables keeps the types of what it stands in, and what has a type has one of the kind of
-- values.
use Rattle.std.specs.Prelude.{◌≡◌, ℕ, All, Bool, true, false, List, [], length, Some, Ok}
use Rattle.fc_syntax.specs.declared.ty.Name.{Name}
use Rattle.fc_syntax.specs.Tree.{Kind, KStar, Module}
use Rattle.fc_model.specs.Calling.{Constructor, data_name, Given, Takes, binders_to, constructor, constructor_type, is_unlifted, type_count}
use Rattle.fc_model.specs.Coercing.{Ends}
use Rattle.fc_model.specs.CoercingRules.{Proves}
use Rattle.fc_model.specs.CoercionLaws.{AreAxiomsClosed, AreAxiomsKinded, AreEndsKinded, IsSaturated, substituted_ends}
use Rattle.fc_model.specs.Declaring.{ntype_words, nwords_by}
use Rattle.fc_model.specs.Faulting.{at_distance}
use Rattle.fc_model.specs.Kinding.{Modules, HasKind, arrows, decls_at, name_kind, param_kinds, is_lifted, is_value_kind}
use Rattle.fc_model.specs.LintingRules.{ModuleHolds}
use Rattle.fc_model.specs.Nameless.{NTy, NArgs, NBinder, NCo, NExpr, NModule, NModuleOf}
use Rattle.fc_model.specs.Replacing.{Replacement, Renaming, Substitution, renamed, replaced, themselves, coercion_alone, past_a_coercion, past_a_type, past_a_value, past_a_join, type_alone, unchanged, value_alone}
use Rattle.fc_model.specs.Replacing.{with_arguments}
use Rattle.fc_model.specs.Resolution.{no_word}
use Rattle.fc_model.specs.ResolutionRules.{AreDistinct, Resolves}
use Rattle.fc_model.specs.Substituting.{IsScopedType, instantiated, raised_type, shifted_type, substituted_type}
use Rattle.fc_model.specs.Typing.{Context, JoinPoint, is_atom, value_type, with_binders, with_coercion, with_join, with_type, with_value, without_joins}
use Rattle.fc_model.specs.TypingRules.{ArgsAreGiven, BindersAreKinded, HasType}

-- DECLARATIONS

-- what modules define and construct has types with no variables from outside, and axioms have none but those of their parameters
pub record AreDeclaredClosed (ms : Modules) : Type 0 where
  pub values : (n : Name) (t : NTy) → value_type ms n ≡ Ok t → IsScopedType 0 t
  pub constructors : (n : Name) (k : Constructor) → constructor ms n ≡ Some k → IsScopedType 0 (constructor_type n k)
  pub axioms : AreAxiomsClosed ms

-- what modules define and construct has types of kind `*`, what a constructor constructs is of a data type with its parameters, and both
-- sides of an axiom have one kind
pub record AreDeclaredKinded (ms : Modules) : Type 0 where
  pub values : (n : Name) (t : NTy) → value_type ms n ≡ Ok t → HasKind ms [] t KStar
  pub constructors : (n : Name) (k : Constructor) → constructor ms n ≡ Some k → HasKind ms [] (constructor_type n k) KStar
  pub data_types : (n : Name) (k : Constructor) → constructor ms n ≡ Some k → (args : ℕ) → name_kind ms (data_name n k.data_word) args ≡ Ok (arrows (param_kinds k.params) KStar)
  pub axioms : AreAxiomsKinded ms

abbrev pub KindedAreClosed : Type 0
KindedAreClosed = (ms : Modules) → AreDeclaredKinded ms → AreDeclaredClosed ms

-- REPLACEMENTS THAT FIT

-- types in place of the variables of a join point
abbrev pub substituted_join : (ℕ → NTy) → JoinPoint → JoinPoint
substituted_join s j = record { arity = j.arity; type = substituted_type s j.type; result = substituted_type s j.result }

-- From the one context to the other: each type variable is given a type of its kind, and none that is unlifted, the kind of which no
-- variable has, or a family that takes more arguments; each coercion variable what proves the same, each variable what is of its type, both as a
-- judgement has it, and each join point in reach one of its type.
pub record FitsBy {V W : Type 0} (ms : Modules) (Proof : Context → W → Ends → Type 0) (IsOf : Context → V → NTy → Type 0) (c d : Context) (r : Replacement V W) : Type 0 where
  pub kinds : (i : ℕ) (k : Kind) → at_distance c.kinds i ≡ Ok k → HasKind ms d.kinds (r.types i) k
  pub lifted : (i : ℕ) → is_unlifted (r.types i) ≡ false
  pub saturated : (i : ℕ) → IsSaturated ms (r.types i)
  pub coercions : (i : ℕ) (e : Ends) → at_distance c.coercions i ≡ Ok e → Proof d (r.coercions i) (substituted_ends r.types e)
  pub values : (i : ℕ) (t : NTy) → at_distance c.values i ≡ Ok t → IsOf (without_joins d) (r.values i) (substituted_type r.types t)
  pub joins : (i : ℕ) (j : JoinPoint) → at_distance c.joins i ≡ Ok j → at_distance d.joins (r.joins i) ≡ Ok (substituted_join r.types j)

-- a variable of a type
abbrev pub IsVariableOf : Context → ℕ → NTy → Type 0
IsVariableOf d i t = at_distance d.values i ≡ Ok t

-- a variable of a coercion that proves this
abbrev pub IsVariableProving : Context → ℕ → Ends → Type 0
IsVariableProving d i e = at_distance d.coercions i ≡ Ok e

abbrev pub IsCoercionProving : Modules → Context → NCo → Ends → Type 0
IsCoercionProving ms d g e = Proves ms d.kinds d.coercions g e.role e.left e.right

-- an expression of a type, which is an atom where the type is unlifted
abbrev pub IsExpressionOf : Modules → Context → NExpr → NTy → Type 0
IsExpressionOf ms d e t = HasType ms d e t × (is_unlifted t ≡ true → is_atom e ≡ true)

abbrev pub RenamingFits : Modules → Context → Context → Renaming → Type 0
RenamingFits ms c d r = FitsBy ms IsVariableProving IsVariableOf c d r

abbrev pub Fits : Modules → Context → Context → Substitution → Type 0
Fits ms c d r = FitsBy ms (IsCoercionProving ms) (IsExpressionOf ms) c d r

-- other variables in place of those of an expression
abbrev pub RenamingKeepsTypes : Type 0
RenamingKeepsTypes = (ms : Modules) → AreDeclaredClosed ms → (c d : Context) (r : Renaming) → RenamingFits ms c d r
    → (e : NExpr) (t : NTy) → HasType ms c e t → HasType ms d (renamed r e) (substituted_type r.types t)

-- expressions in place of variables
abbrev pub ReplacementKeepsTypes : Type 0
ReplacementKeepsTypes = (ms : Modules) → AreDeclaredClosed ms → (c d : Context) (r : Substitution) → Fits ms c d r
    → (e : NExpr) (t : NTy) → HasType ms c e t → HasType ms d (replaced r e) (substituted_type r.types t)

-- each variable in place of itself
abbrev pub VariablesOfExpressionsForThemselves : Type 0
VariablesOfExpressionsForThemselves = (e : NExpr) → renamed themselves e ≡ e

-- PAST A BINDER, AND IN PLACE OF ITS VARIABLE

abbrev pub TypesPastAType : Type 0
TypesPastAType = (ms : Modules) → AreDeclaredClosed ms → (c : Context) (k : Kind) (e : NExpr) (t : NTy) → HasType ms c e t
    → HasType ms (with_type k c) (renamed past_a_type e) (shifted_type t)

abbrev pub TypesPastACoercion : Type 0
TypesPastACoercion = (ms : Modules) → AreDeclaredClosed ms → (c : Context) (p : Ends) (e : NExpr) (t : NTy) → HasType ms c e t
    → HasType ms (with_coercion p c) (renamed past_a_coercion e) t

abbrev pub TypesPastAValue : Type 0
TypesPastAValue = (ms : Modules) → AreDeclaredClosed ms → (c : Context) (s : NTy) (e : NExpr) (t : NTy) → HasType ms c e t → HasType ms (with_value s c) (renamed past_a_value e) t

abbrev pub TypesPastAJoin : Type 0
TypesPastAJoin = (ms : Modules) → AreDeclaredClosed ms → (c : Context) (j : JoinPoint) (e : NExpr) (t : NTy) → HasType ms c e t → HasType ms (with_join j c) (renamed past_a_join e) t

-- what needs no join point in reach may stand where some are
abbrev pub TypesAmongJoins : Type 0
TypesAmongJoins = (ms : Modules) → AreDeclaredClosed ms → (c : Context) (e : NExpr) (t : NTy) → HasType ms (without_joins c) e t → HasType ms c e t

-- a type in place of the innermost type variable
abbrev pub TypesAtAType : Type 0
TypesAtAType = (ms : Modules) → AreDeclaredClosed ms → (c : Context) (k : Kind) (u : NTy) → is_lifted k ≡ true → HasKind ms c.kinds u k
    → (e : NExpr) (t : NTy) → HasType ms (with_type k c) e t → HasType ms c (renamed (type_alone u) e) (instantiated u t)

-- a coercion in place of the innermost coercion variable
abbrev pub TypesAtACoercion : Type 0
TypesAtACoercion = (ms : Modules) → AreDeclaredClosed ms → (c : Context) (p : Ends) (g : NCo) → Proves ms c.kinds c.coercions g p.role p.left p.right
    → (e : NExpr) (t : NTy) → HasType ms (with_coercion p c) e t → HasType ms c (replaced (coercion_alone g) e) t

-- an expression in place of the innermost variable
abbrev pub TypesAtAValue : Type 0
TypesAtAValue = (ms : Modules) → AreDeclaredClosed ms → (c : Context) (s : NTy) (a : NExpr) → HasType ms (without_joins c) a s → (is_unlifted s ≡ true → is_atom a ≡ true)
    → (e : NExpr) (t : NTy) → HasType ms (with_value s c) e t → HasType ms c (replaced (value_alone a) e) t

-- Arguments in place of the variables of binders that stand together: where what takes arguments for the binders takes these, they
-- and what was put in before fit behind the binders, the result is of the type that it was to have, and a type from before the binders
-- is as it was.
abbrev pub ArgumentsFit : Type 0
ArgumentsFit = (ms : Modules) (owes : Bool) (bs : List NBinder) (c d : Context) (r : Substitution) → Fits ms c d r → BindersAreKinded ms owes c.kinds bs
    → (args : NArgs) (gs : List Given) → ArgsAreGiven ms (without_joins d) args gs → length gs ≡ length bs
    → (s u : NTy) → Takes (substituted_type r.types (binders_to bs s)) gs u
    → Fits ms (with_binders bs c) d (with_arguments args r) × (u ≡ substituted_type r.types s)
    × (substituted_type (with_arguments args r).types (raised_type (type_count bs) s) ≡ substituted_type r.types s)

-- so what stands behind the binders and is of a type from before them keeps it at the arguments
abbrev pub TypesAtArguments : Type 0
TypesAtArguments = (ms : Modules) → AreDeclaredClosed ms → (owes : Bool) (bs : List NBinder) (c : Context) → BindersAreKinded ms owes c.kinds bs
    → (args : NArgs) (gs : List Given) → ArgsAreGiven ms (without_joins c) args gs → length gs ≡ length bs → (s u : NTy) → Takes (binders_to bs s) gs u
    → (e : NExpr) → HasType ms (with_binders bs c) e (raised_type (type_count bs) s) → HasType ms c (replaced (with_arguments args unchanged) e) s

-- KINDS

-- a type of kind `*` or `#`
abbrev pub IsValueType : Modules → List Kind → NTy → Type 0
IsValueType ms ks t = (k : Kind) × HasKind ms ks t k × (is_value_kind k ≡ true)

-- variables have types of the kinds of values, and so have joins; what a coercion variable proves has ends of one kind
pub record IsContextKinded (ms : Modules) (c : Context) : Type 0 where
  pub coercions : AreEndsKinded ms c.kinds c.coercions
  pub values : (i : ℕ) (t : NTy) → at_distance c.values i ≡ Ok t → IsValueType ms c.kinds t
  pub joins : (i : ℕ) (j : JoinPoint) → at_distance c.joins i ≡ Ok j → IsValueType ms c.kinds j.result

-- what has a type has one of the kind of values
abbrev pub TypesHaveKinds : Type 0
TypesHaveKinds = (ms : Modules) → AreDeclaredKinded ms → (c : Context) → IsContextKinded ms c → (e : NExpr) (t : NTy) → HasType ms c e t → IsValueType ms c.kinds t

-- MODULES

-- the types of a module have words that are all different
abbrev pub HasDistinctTypes : NModule → Type 0
HasDistinctTypes (NModuleOf m imports exports hidden ds) = AreDistinct no_word (nwords_by ntype_words ds)

-- so they have in a nameless form
abbrev pub ResolvedHaveDistinctTypes : Type 0
ResolvedHaveDistinctTypes = (m : Module) (n : NModule) → Resolves m n → HasDistinctTypes n

-- what the modules of a set define and construct has types of kind `*`, where each holds against all
abbrev pub LintedAreKinded : Type 0
LintedAreKinded = (ns : List NModule) → All HasDistinctTypes ns → All (ModuleHolds (decls_at ns)) ns → AreDeclaredKinded (decls_at ns)
