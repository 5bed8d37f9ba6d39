-- What the rows of the grammar give is formed, if what they are given is.
use Rattle.std.proofs.Common.{◌≡◌, ◌==◌, ◌^◌, ℕ, suc, arith, length, map, sym, ◌∙◌, subst, Bool, true, false, ◌&&◌, ◌||◌, nat_lt, List, [], ◌∷◌, ◌++◌, Option, Some, None, if◌then◌else◌, refl}
use Rattle.std.specs.Prelude.{⊤}
use Rattle.std.specs.List.{list_all}
use Rattle.std.specs.Str.{bytes_eq}
use Rattle.std.specs.Prelude.{codes, is_none}
use Rattle.std.proofs.lemmas.Bool.{and_parts}
use Rattle.fc_syntax.specs.declared.keyword.Keyword.TheVariants as word
use Rattle.fc_syntax.specs.Keywords.{keyword_text}
use Rattle.fc_syntax.specs.Tree.{Word, Ty, TApp, Co, Binder, BValue, BType, BCo, Arg, ATerm, Bind, JoinBind, Alt, Expr, EApp, Decl, DData, DNew, DFamily, DAxiom, DDef, DWrap, Module}
use Rattle.fc_syntax.specs.Demands.{Demand, Bottom, Absent, Product, Strict, Lazy, Sig, SigOf}
use Rattle.fc_model.specs.FileForms.{FileForm, ModuleFile, InterfaceFile, File, whole_part}
use Rattle.fc_syntax.specs.Tokens.{is_lower_name, is_upper_name, is_module_name, is_module_part}
use Rattle.fc_model.specs.Words.{keyword_of, tok_of, Tok, Open, Close, Key, Lower, Upper, LowerOf, UpperOf, Arrow, Operator, Literal, Number}
use Rattle.fc_model.specs.Grammar.{Here, here, Part, AnOpen, AClose, AWord, ALower, AnUpper, AName, AModuleName, AnUpperName, ARole, AnEqualityRole, ANumber, AnOperator, AKind, AKindForm, AType, ATypeForm, ACoercion, ACoercionForm, ABinder, ABinderForm, AnArgument, AnArgumentForm, AnExpression, AnExpressionForm, ABind, AJoinBind, AnAlternative, AnAlternativeForm, AParameter, APlainParameter, FieldBinders, FieldBindersForm, ACoercionField, AConstructor, ADeclaration, ADeclarationForm, AHeader, ABody, ABodyForm, AModule, AThis, AThisNumber, ADemand, ADemandForm, ASignature, SignatureEnd, AnUnfolding, AnUnfoldingForm, AnItem, AnItemForm, AnInterfaceHeader, AnInterfaceBody, AnInterfaceBodyForm, AnInterface, Many, Several}
use Rattle.fc_model.specs.Grammar.{Header, HeaderOf, Body, BodyOf, Item, ItemDecl, ItemValue, Unfolding, Untold, ToldDef, ToldWrap, Interface, Given, Steps, gives, ◌▸◌, and_then, row_then, row_of, functions, type_applications, applications, lambdas, cos_from, args_from, exprs_from, binds_from, joins_from, alts_from, module_from, demands_from, more_demand, item_decl, item_sigs, items_told, interface_from}
use Rattle.fc_model.specs.Grammar.{role_row, equality_role_row, module_name_row, upper_name_row, operator_row, type_row, type_form_row, coercion_row, coercion_form_row, binder_form_row, expression_row, expression_form_row, argument_row, argument_form_row, alternative_form_row, field_binders_form_row, declaration_form_row, header_row, body_form_row, demand_word_row, demand_row, demand_form_row, signature_row, signature_end_row, unfolding_row, unfolding_form_row, item_form_row, interface_header_row, interface_body_form_row, at_bracket}
use Rattle.fc_syntax.specs.declared.ty.Role.TheVariants as role
use Rattle.fc_model.specs.Formed.{is_word, is_lower_word, is_upper_word, is_upper_formed, is_equality_role, is_type_formed, is_co_formed, are_cos_formed, are_some_cos, is_binder_formed, is_expr_formed, is_arg_formed, are_args_formed, are_exprs_formed, is_bind_formed, are_binds_formed, are_some_binds, is_join_formed, are_joins_formed, are_some_joins, is_alt_formed, are_alts_formed, is_param_formed, is_plain_formed, are_field_coercions, are_field_binders, is_con_formed, is_decl_formed, is_formed, IsFormed, is_demand_formed, are_demands_formed, is_sig_formed, definition_count, FailUntold, IsInterfaceFormed}
use Rattle.fc_reader.proofs.ModuleNames.{part_is_name, name_and_part}
use Rattle.fc_reader.proofs.TokensFormed.{AreGood, IsGood, tokens_good}
use Rattle.fc_model.specs.ReadFaults.{ReadsTo}
use Rattle.fc_reader.specs.Refusals.{IsFileFormed}
use Rattle.fc_model.specs.Reading.{Outcome, Got, Stuck, read_steps, Reads}

both : {p q : Bool} → p ≡ true → q ≡ true → (p && q) ≡ true
both e f = cc

-- WHAT IS GIVEN

abbrev pub All : {A : Type 0} → (A → Type 0) → List A → Type 0
All P [] = ⊤
All P (x ∷ xs) = P x × All P xs

abbrev pub Some1 : {A : Type 0} → (A → Type 0) → List A → Type 0
Some1 P [] = ⊥
Some1 P (x ∷ xs) = P x × All P xs

abbrev pub IsHeaderFormed : Header → Type 0
IsHeaderFormed (HeaderOf m imports exports) = (is_module_name m ≡ true) × (list_all is_module_name imports ≡ true) × (list_all is_word exports ≡ true)

abbrev pub IsBodyFormed : Body Decl → Type 0
IsBodyFormed (BodyOf hidden decls) = (list_all is_word hidden ≡ true) × (list_all is_decl_formed decls ≡ true)

-- no definition of a value
abbrev pub IsNoDefinition : Decl → Type 0
IsNoDefinition (DDef n t e) = ⊥
IsNoDefinition (DWrap n t e) = ⊥
IsNoDefinition d = ⊤

abbrev pub IsUnfoldingFormed : Unfolding → Type 0
IsUnfoldingFormed Untold = ⊤
IsUnfoldingFormed (ToldDef e) = is_expr_formed e ≡ true
IsUnfoldingFormed (ToldWrap e) = is_expr_formed e ≡ true

abbrev pub IsItemFormed : Item → Type 0
IsItemFormed (ItemDecl d) = (is_decl_formed d ≡ true) × IsNoDefinition d
IsItemFormed (ItemValue x t s u) = (is_lower_word x ≡ true) × ((is_type_formed t ≡ true) × ((is_sig_formed s ≡ true) × IsUnfoldingFormed u))

abbrev pub IsInterfaceBodyFormed : Body Item → Type 0
IsInterfaceBodyFormed (BodyOf hidden items) = (list_all is_word hidden ≡ true) × All IsItemFormed items

abbrev pub IsFormedGiven : (p : Part) → Given p → Type 0
IsFormedGiven ALower w = is_lower_word w ≡ true
IsFormedGiven AnUpper w = is_upper_word w ≡ true
IsFormedGiven AName w = is_word w ≡ true
IsFormedGiven AModuleName w = is_module_name w ≡ true
IsFormedGiven AnUpperName n = is_upper_formed n ≡ true
IsFormedGiven AnEqualityRole r = is_equality_role r ≡ true
IsFormedGiven ANumber n = nat_lt n (10 ^ 9) ≡ true
IsFormedGiven AType t = is_type_formed t ≡ true
IsFormedGiven ATypeForm t = is_type_formed t ≡ true
IsFormedGiven ACoercion g = is_co_formed g ≡ true
IsFormedGiven ACoercionForm g = is_co_formed g ≡ true
IsFormedGiven ABinder b = is_binder_formed b ≡ true
IsFormedGiven ABinderForm b = is_binder_formed b ≡ true
IsFormedGiven AnArgument a = is_arg_formed a ≡ true
IsFormedGiven AnArgumentForm a = is_arg_formed a ≡ true
IsFormedGiven AnExpression e = is_expr_formed e ≡ true
IsFormedGiven AnExpressionForm e = is_expr_formed e ≡ true
IsFormedGiven ABind b = is_bind_formed b ≡ true
IsFormedGiven AJoinBind j = is_join_formed j ≡ true
IsFormedGiven AnAlternative a = is_alt_formed a ≡ true
IsFormedGiven AnAlternativeForm a = is_alt_formed a ≡ true
IsFormedGiven AParameter p = is_param_formed p ≡ true
IsFormedGiven APlainParameter p = is_plain_formed p ≡ true
IsFormedGiven FieldBinders bs = are_field_binders bs ≡ true
IsFormedGiven FieldBindersForm bs = are_field_binders bs ≡ true
IsFormedGiven ACoercionField b = are_field_coercions (b ∷ []) ≡ true
IsFormedGiven AConstructor c = is_con_formed c ≡ true
IsFormedGiven ADeclaration d = is_decl_formed d ≡ true
IsFormedGiven ADeclarationForm d = is_decl_formed d ≡ true
IsFormedGiven AHeader h = IsHeaderFormed h
IsFormedGiven ABody b = IsBodyFormed b
IsFormedGiven ABodyForm b = IsBodyFormed b
IsFormedGiven AModule m = is_formed m ≡ true
IsFormedGiven ADemand d = is_demand_formed d ≡ true
IsFormedGiven ADemandForm d = is_demand_formed d ≡ true
IsFormedGiven ASignature s = is_sig_formed s ≡ true
IsFormedGiven SignatureEnd s = is_sig_formed s ≡ true
IsFormedGiven AnUnfolding u = IsUnfoldingFormed u
IsFormedGiven AnUnfoldingForm u = IsUnfoldingFormed u
IsFormedGiven AnItem i = IsItemFormed i
IsFormedGiven AnItemForm i = IsItemFormed i
IsFormedGiven AnInterfaceHeader h = IsHeaderFormed h
IsFormedGiven AnInterfaceBody b = IsInterfaceBodyFormed b
IsFormedGiven AnInterfaceBodyForm b = IsInterfaceBodyFormed b
IsFormedGiven AnInterface i = IsInterfaceFormed i
IsFormedGiven (Many p) xs = All (IsFormedGiven p) xs
IsFormedGiven (Several p) xs = Some1 (IsFormedGiven p) xs
IsFormedGiven _ x = ⊤

-- steps give what is so, if what their parts give is formed
abbrev pub Keeps : {A : Type 0} → (A → Type 0) → Steps A → Type 0
Keeps P (gives x) = P x
Keeps P (p ▸ f) = (y : Given p) → IsFormedGiven p y → Keeps P (f y)

abbrev pub KeepsRow : {A : Type 0} → (A → Type 0) → Option (Steps A) → Type 0
KeepsRow P None = ⊤
KeepsRow P (Some st) = Keeps P st

pub keeps_then : {A B : Type 0} (P : A → Type 0) (Q : B → Type 0) (st : Steps A) (f : A → Steps B) → Keeps P st → ((x : A) → P x → Keeps Q (f x)) → Keeps Q (and_then st f)
keeps_then P Q (gives x) f k h = h x k
keeps_then P Q (p ▸ g) f k h = λ y e. keeps_then P Q (g y) f (k y e) h

pub row_keeps_then : {A B : Type 0} (P : A → Type 0) (Q : B → Type 0) (o : Option (Steps A)) (f : A → Steps B) → KeepsRow P o → ((x : A) → P x → Keeps Q (f x)) → KeepsRow Q (row_then o f)
row_keeps_then P Q None f k h = tt
row_keeps_then P Q (Some st) f k h = keeps_then P Q st f k h

-- LISTS

all_true : {A : Type 0} (f : A → Bool) (xs : List A) → All (λ x. f x ≡ true) xs → list_all f xs ≡ true
all_true f [] h = refl
all_true f (x ∷ xs) h = both h.0 (all_true f xs h.1)

functions_formed : (t : Ty) (us : List Ty) → is_type_formed t ≡ true → All (λ u. is_type_formed u ≡ true) us → is_type_formed (functions t us) ≡ true
functions_formed t [] h k = h
functions_formed t (u ∷ us) h k = both h (functions_formed u us k.0 k.1)

types_formed : (t : Ty) (us : List Ty) → is_type_formed t ≡ true → All (λ u. is_type_formed u ≡ true) us → is_type_formed (type_applications t us) ≡ true
types_formed t [] h k = h
types_formed t (u ∷ us) h k = types_formed (TApp t u) us (both h k.0) k.1

applications_formed : (f : Expr) (args : List Arg) → is_expr_formed f ≡ true → All (λ a. is_arg_formed a ≡ true) args → is_expr_formed (applications f args) ≡ true
applications_formed f [] h k = h
applications_formed f (a ∷ args) h k = applications_formed (EApp f a) args (both h k.0) k.1

lambdas_formed : (bs : List Binder) (e : Expr) → All (λ b. is_binder_formed b ≡ true) bs → is_expr_formed e ≡ true → is_expr_formed (lambdas bs e) ≡ true
lambdas_formed [] e h k = k
lambdas_formed (b ∷ bs) e h k = both h.0 (lambdas_formed bs e h.1 k)

cos_formed : (gs : List Co) → All (λ g. is_co_formed g ≡ true) gs → are_cos_formed (cos_from gs) ≡ true
cos_formed [] h = refl
cos_formed (g ∷ gs) h = both h.0 (cos_formed gs h.1)

args_formed : (args : List Arg) → All (λ a. is_arg_formed a ≡ true) args → are_args_formed (args_from args) ≡ true
args_formed [] h = refl
args_formed (a ∷ args) h = both h.0 (args_formed args h.1)

exprs_formed : (es : List Expr) → All (λ e. is_expr_formed e ≡ true) es → are_exprs_formed (exprs_from es) ≡ true
exprs_formed [] h = refl
exprs_formed (e ∷ es) h = both h.0 (exprs_formed es h.1)

binds_formed : (bs : List Bind) → All (λ b. is_bind_formed b ≡ true) bs → are_binds_formed (binds_from bs) ≡ true
binds_formed [] h = refl
binds_formed (b ∷ bs) h = both h.0 (binds_formed bs h.1)

joins_formed : (js : List JoinBind) → All (λ j. is_join_formed j ≡ true) js → are_joins_formed (joins_from js) ≡ true
joins_formed [] h = refl
joins_formed (j ∷ js) h = both h.0 (joins_formed js h.1)

alts_formed : (alts : List Alt) → All (λ a. is_alt_formed a ≡ true) alts → are_alts_formed (alts_from alts) ≡ true
alts_formed [] h = refl
alts_formed (a ∷ alts) h = both h.0 (alts_formed alts h.1)

coercions_formed : (bs : List Binder) → All (λ b. are_field_coercions (b ∷ []) ≡ true) bs → are_field_coercions bs ≡ true
coercions_formed [] h = refl
coercions_formed (BValue x t ∷ bs) h = h.0
coercions_formed (BType a k ∷ bs) h = h.0
coercions_formed (BCo c r t u ∷ bs) h = both (and_parts (is_binder_formed (BCo c r t u)) true h.0).0 (coercions_formed bs h.1)

-- WORDS

left_word : (l u k : Bool) → (l && k) ≡ true → ((l || u) && k) ≡ true
left_word true u k e = e
left_word false u k e = absurd cc

right_word : (l u k : Bool) → (u && k) ≡ true → ((l || u) && k) ≡ true
right_word true u k e = (and_parts u k e).1
right_word false u k e = e

some_all : {A : Type 0} (P : A → Type 0) (xs : List A) → Some1 P xs → All P xs
some_all P [] h = absurd h
some_all P (x ∷ xs) h = h

-- THE ROWS

role_keeps : (w : Word) → KeepsRow (λ r. is_equality_role r ≡ true) (equality_role_row w)
role_keeps w = by (bytes_eq w (codes "N")) (bytes_eq w (codes "R")) where
  by : (a b : Bool) → KeepsRow (λ r. is_equality_role r ≡ true) (if a then Some (gives role.N) else if b then Some (gives role.R) else None)
  by true b = refl
  by false true = refl
  by false false = tt

any_role_keeps : (w : Word) → KeepsRow (λ r. ⊤) (role_row w)
any_role_keeps w = by (bytes_eq w (codes "N")) (bytes_eq w (codes "R")) (bytes_eq w (codes "P")) where
  by : (a b c : Bool) → KeepsRow (λ r. ⊤) (if a then Some (gives role.N) else if b then Some (gives role.R) else if c then Some (gives role.P) else None)
  by true b c = tt
  by false true c = tt
  by false false true = tt
  by false false false = tt

-- a part of a module's name, and such a name with a part behind it
module_keeps : (t : Tok) → IsGood t → KeepsRow (λ w. is_module_name w ≡ true) (module_name_row t)
module_keeps (Upper w) g = by (is_module_part w) refl where
  by : (b : Bool) → is_module_part w ≡ b → KeepsRow (λ v. is_module_name v ≡ true) (if b then Some (gives w) else None)
  by true e = part_is_name w e
  by false e = tt
module_keeps (UpperOf m w) g = by (is_module_part w) refl where
  by : (b : Bool) → is_module_part w ≡ b → KeepsRow (λ v. is_module_name v ≡ true) (if b then Some (gives (m ++ 46 ∷ w)) else None)
  by true e = name_and_part m w g.0 e
  by false e = tt
module_keeps _ g = tt

upper_keeps : (t : Tok) → IsGood t → KeepsRow (λ n. is_upper_formed n ≡ true) (upper_name_row t)
upper_keeps (Upper w) g = g
upper_keeps (UpperOf m w) g = both g.0 g.1
upper_keeps _ g = tt

type_keeps : (t : Tok) → IsGood t → KeepsRow (λ u. is_type_formed u ≡ true) (type_row t)
type_keeps (Lower a) g = g
type_keeps (Upper w) g = g
type_keeps (UpperOf m w) g = both g.0 g.1
type_keeps (Key word.IntHash) g = refl
type_keeps Open g = λ t h. h
type_keeps _ g = tt

type_form_keeps : (t : Tok) → IsGood t → KeepsRow (λ u. is_type_formed u ≡ true) (type_form_row t)
type_form_keeps (Key word.Fun) g = λ t h us k. functions_formed t us h (some_all _ us k)
type_form_keeps (Key word.Forall) g = λ o p a ha k q c r t ht d s. both ha ht
type_form_keeps (Key word.CoForall) g = λ r hr t ht u hu v hv c d. both hr (both ht (both hu hv))
type_form_keeps t g = row_keeps_then {A = Ty} {B = Ty} (λ u. is_type_formed u ≡ true) (λ u. is_type_formed u ≡ true) (type_row t) (λ h. Several AType ▸ λ us. gives (type_applications h us)) (type_keeps t g) (λ h e us k. types_formed h us e (some_all _ us k))

coercion_keeps : (t : Tok) → IsGood t → KeepsRow (λ h. is_co_formed h ≡ true) (coercion_row t)
coercion_keeps (Lower c) g = g
coercion_keeps Open g = λ h e. e
coercion_keeps _ g = tt

some_cos : (gs : List Co) → Some1 (λ g. is_co_formed g ≡ true) gs → (are_some_cos (cos_from gs) && are_cos_formed (cos_from gs)) ≡ true
some_cos [] h = absurd h
some_cos (g ∷ gs) h = cos_formed (g ∷ gs) h

coercion_form_keeps : (t : Tok) → IsGood t → KeepsRow (λ h. is_co_formed h ≡ true) (coercion_form_row t)
coercion_form_keeps (Key word.Refl) g = λ r p t ht c q. ht
coercion_form_keeps (Key word.Sym) g = λ h e c q. e
coercion_form_keeps (Key word.Trans) g = λ h e k f c q. both e f
coercion_form_keeps (Key word.Tc) g = λ r hr n hn gs hgs. both hr (both hn (some_cos gs hgs))
coercion_form_keeps (Key word.Capp) g = λ h e k f c q. both e f
coercion_form_keeps (Key word.FunCo) g = λ h e k f c q. both e f
coercion_form_keeps (Key word.AllCo) g = λ o p a ha k q c r h e d s. both ha e
coercion_form_keeps (Key word.CoAllCo) g = λ r hr s hs f hf h hh k hk c q. both (both hr hs) (both hf (both hh hk))
coercion_form_keeps (Key word.Inst) g = λ h e k f c q. both e f
coercion_form_keeps (Key word.Nth) g = λ n hn h e c q. both hn e
coercion_form_keeps (Key word.Left) g = λ h e c q. e
coercion_form_keeps (Key word.Right) g = λ h e c q. e
coercion_form_keeps (Key word.Sub) g = λ h e c q. e
coercion_form_keeps (Key word.Ax) g = λ n hn gs hgs. both hn (cos_formed gs hgs)
coercion_form_keeps (Key word.Univ) g = λ t ht u hu c q. both ht hu
coercion_form_keeps _ g = tt

binder_form_keeps : (t : Tok) → IsGood t → KeepsRow (λ b. is_binder_formed b ≡ true) (binder_form_row t)
binder_form_keeps (Lower x) g = λ t ht c q. both g ht
binder_form_keeps (Key word.Type) g = λ a ha k p c q. ha
binder_form_keeps (Key word.Co) g = λ c hc r hr t ht u hu d q. both hc (both hr (both ht hu))
binder_form_keeps _ g = tt

expression_keeps : (t : Tok) → IsGood t → KeepsRow (λ e. is_expr_formed e ≡ true) (expression_row t)
expression_keeps (Lower w) g = g
expression_keeps (LowerOf m w) g = both g.0 g.1
expression_keeps (Literal n) g = g
expression_keeps Open g = λ e h. h
expression_keeps _ g = tt

some_binds : (bs : List Bind) → Some1 (λ b. is_bind_formed b ≡ true) bs → are_some_binds (binds_from bs) ≡ true
some_binds [] h = absurd h
some_binds (b ∷ bs) h = refl

some_joins : (js : List JoinBind) → Some1 (λ j. is_join_formed j ≡ true) js → are_some_joins (joins_from js) ≡ true
some_joins [] h = absurd h
some_joins (j ∷ js) h = refl

expression_form_keeps : (t : Tok) → IsGood t → KeepsRow (λ e. is_expr_formed e ≡ true) (expression_form_row t)
expression_form_keeps (Key word.App) g = λ f hf args h. applications_formed f args hf (some_all _ args h)
expression_form_keeps (Key word.Lam) g = λ o p bs hbs e he c q. lambdas_formed bs e (some_all _ bs hbs) he
expression_form_keeps (Key word.Let) g = λ b hb e he c q. both (both hb refl) he
expression_form_keeps (Key word.LetRec) g = λ o p bs hbs e he c q. both (some_binds bs hbs) (both (binds_formed bs (some_all _ bs hbs)) he)
expression_form_keeps (Key word.Case) g = λ e he o p x hx t ht c q u hu alts h. both he (both (both hx (both ht hu)) (alts_formed alts h))
expression_form_keeps (Key word.Cast) g = λ e he h hh c q. both he hh
expression_form_keeps (Key word.Con) g = λ k hk args h. both hk (args_formed args h)
expression_form_keeps (Key word.Prim) g = λ o p es h. exprs_formed es h
expression_form_keeps (Key word.Fail) g = λ t ht c q. ht
expression_form_keeps (Key word.Join) g = λ t ht j hj e he c q. both ht (both (both hj refl) he)
expression_form_keeps (Key word.JoinRec) g = λ t ht o p js hjs e he c q. both (some_joins js hjs) (both ht (both (joins_formed js (some_all _ js hjs)) he))
expression_form_keeps (Key word.Jump) g = λ j hj args h. both hj (args_formed args h)
expression_form_keeps _ g = tt

argument_keeps : (t : Tok) → IsGood t → KeepsRow (λ a. is_arg_formed a ≡ true) (argument_row t)
argument_keeps Open g = λ a h. h
argument_keeps t g = row_keeps_then {A = Expr} {B = Arg} (λ e. is_expr_formed e ≡ true) (λ a. is_arg_formed a ≡ true) (expression_row t) (λ e. gives (ATerm e)) (expression_keeps t g) (λ e h. h)

argument_form_keeps : (t : Tok) → IsGood t → KeepsRow (λ a. is_arg_formed a ≡ true) (argument_form_row t)
argument_form_keeps (Key word.Type) g = λ t ht c q. ht
argument_form_keeps (Key word.Co) g = λ h e c q. e
argument_form_keeps t g = row_keeps_then {A = Expr} {B = Arg} (λ e. is_expr_formed e ≡ true) (λ a. is_arg_formed a ≡ true) (expression_form_row t) (λ e. gives (ATerm e)) (expression_form_keeps t g) (λ e h. h)

alternative_form_keeps : (t : Tok) → IsGood t → KeepsRow (λ a. is_alt_formed a ≡ true) (alternative_form_row t)
alternative_form_keeps (Key word.Default) g = λ e he c q. he
alternative_form_keeps (Literal n) g = λ e he c q. both (both g refl) he
alternative_form_keeps (Upper w) g = λ o p bs hbs e he c q. both (both g (all_true is_binder_formed bs hbs)) he
alternative_form_keeps (UpperOf m w) g = λ o p bs hbs e he c q. both (both (both g.0 g.1) (all_true is_binder_formed bs hbs)) he
alternative_form_keeps _ g = tt

field_form_keeps : (t : Tok) → IsGood t → KeepsRow (λ bs. are_field_binders bs ≡ true) (field_binders_form_row t)
field_form_keeps (Key word.Type) g = λ a ha k p c q bs hbs. both ha hbs
field_form_keeps (Key word.Co) g = λ c hc r hr t ht u hu d q bs hbs. both (both hc (both hr (both ht hu))) (coercions_formed bs hbs)
field_form_keeps _ g = tt

declaration_form_keeps : (t : Tok) → IsGood t → KeepsRow (λ d. is_decl_formed d ≡ true) (declaration_form_row t)
declaration_form_keeps (Key word.Data) g = λ n hn o p ps hps cs hcs. both hn (both (all_true is_param_formed ps hps) (all_true is_con_formed cs hcs))
declaration_form_keeps (Key word.NewType) g = λ n hn o p ps hps t ht c hc d q. both (both hn hc) (both (all_true is_param_formed ps hps) ht)
declaration_form_keeps (Key word.Family) g = λ n hn o p ps hps k q c r. both hn (all_true is_plain_formed ps hps)
declaration_form_keeps (Key word.Axiom) g = λ n hn o p ps hps t ht u hu c q. both hn (both (all_true is_plain_formed ps hps) (both ht hu))
declaration_form_keeps (Key word.Def) g = λ n hn t ht e he c q. both hn (both ht he)
declaration_form_keeps (Key word.Wrap) g = λ n hn t ht e he c q. both hn (both ht he)
declaration_form_keeps _ g = tt

header_keeps : (t : Tok) → KeepsRow IsHeaderFormed (header_row t)
header_keeps Open = λ w p m hm o q i r imports hi a s e u exports he. (hm, all_true is_module_name imports hi, all_true is_word exports he)
header_keeps _ = tt

body_form_keeps : (t : Tok) → IsGood t → KeepsRow IsBodyFormed (body_form_row t)
body_form_keeps (Key word.Hidden) g = λ ns hns ds hds. (all_true is_word ns hns, all_true is_decl_formed ds hds)
body_form_keeps t g = row_keeps_then {A = Decl} {B = Body Decl} (λ d. is_decl_formed d ≡ true) IsBodyFormed (declaration_form_row t) (λ d. Many ADeclaration ▸ λ decls. gives (BodyOf [] (d ∷ decls))) (declaration_form_keeps t g) (λ d hd ds hds. (refl, both hd (all_true is_decl_formed ds hds)))

module_is_formed : (h : Header) (b : Body Decl) → IsHeaderFormed h → IsBodyFormed b → is_formed (module_from h b) ≡ true
module_is_formed (HeaderOf m imports exports) (BodyOf hidden decls) h b = both (both h.0 h.1) (both (both h.2 b.0) b.1)

-- ---- interfaces

demands_formed : (ds : List Demand) → All (λ d. is_demand_formed d ≡ true) ds → are_demands_formed (demands_from ds) ≡ true
demands_formed [] h = refl
demands_formed (d ∷ ds) h = both h.0 (demands_formed ds h.1)

demand_word_keeps : (w : Word) → KeepsRow (λ d. is_demand_formed d ≡ true) (demand_word_row w)
demand_word_keeps w = by (bytes_eq w (codes "B")) (bytes_eq w (codes "A")) (bytes_eq w (codes "S")) (bytes_eq w (codes "L")) where
  by : (a b c d : Bool) → KeepsRow (λ d. is_demand_formed d ≡ true) (if a then Some (gives Bottom) else if b then Some (gives Absent) else if c then Some (gives Strict) else if d then Some (gives Lazy) else None)
  by true b c d = refl
  by false true c d = refl
  by false false true d = refl
  by false false false true = refl
  by false false false false = tt

demand_keeps : (t : Tok) → KeepsRow (λ d. is_demand_formed d ≡ true) (demand_row t)
demand_keeps (Upper w) = demand_word_keeps w
demand_keeps Open = λ d h. h
demand_keeps _ = tt

demand_form_keeps : (t : Tok) → KeepsRow (λ d. is_demand_formed d ≡ true) (demand_form_row t)
demand_form_keeps (Upper w) = by (bytes_eq w (codes "P")) where
  by : (b : Bool) → KeepsRow (λ d. is_demand_formed d ≡ true) (if b then Some (AnUpperName ▸ λ k. Many ADemand ▸ λ ds. gives (Product k (demands_from ds))) else None)
  by true = λ k hk ds hds. both hk (demands_formed ds hds)
  by false = tt
demand_form_keeps _ = tt

signature_keeps : (t : Tok) → KeepsRow (λ s. is_sig_formed s ≡ true) (signature_row t)
signature_keeps Open = λ w p s h. h
signature_keeps _ = tt

one_demand_more : (d : Demand) (s : Sig) → is_demand_formed d ≡ true → is_sig_formed s ≡ true → is_sig_formed (more_demand d s) ≡ true
one_demand_more d (SigOf ds diverges) h k = both h k

signature_end_keeps : (t : Tok) → KeepsRow (λ s. is_sig_formed s ≡ true) (signature_end_row t)
signature_end_keeps Close = refl
signature_end_keeps (Key word.Diverges) = λ c q. refl
signature_end_keeps t = row_keeps_then {A = Demand} {B = Sig} (λ d. is_demand_formed d ≡ true) (λ s. is_sig_formed s ≡ true) (demand_row t) (λ d. SignatureEnd ▸ λ s. gives (more_demand d s)) (demand_keeps t) (λ d h s k. one_demand_more d s h k)

unfolding_keeps : (t : Tok) → KeepsRow IsUnfoldingFormed (unfolding_row t)
unfolding_keeps (Key word.None) = tt
unfolding_keeps Open = λ u h. h
unfolding_keeps _ = tt

unfolding_form_keeps : (t : Tok) → KeepsRow IsUnfoldingFormed (unfolding_form_row t)
unfolding_form_keeps (Key word.Def) = λ e he c q. he
unfolding_form_keeps (Key word.Wrap) = λ e he c q. he
unfolding_form_keeps _ = tt

item_form_keeps : (t : Tok) → IsGood t → KeepsRow IsItemFormed (item_form_row t)
item_form_keeps (Lower w) g = by (bytes_eq w (codes "value")) where
  by : (b : Bool) → KeepsRow IsItemFormed (if b then Some (ALower ▸ λ x. AType ▸ λ t. ASignature ▸ λ s. AnUnfolding ▸ λ u. AClose ▸ λ _. gives (ItemValue x t s u)) else None)
  by true = λ x hx t ht s hs u hu c q. (hx, (ht, (hs, hu)))
  by false = tt
item_form_keeps (Key word.Data) g = λ n hn o p ps hps cs hcs. (declaration_form_keeps (Key word.Data) g n hn o p ps hps cs hcs, tt)
item_form_keeps (Key word.NewType) g = λ n hn o p ps hps t ht c hc d q. (declaration_form_keeps (Key word.NewType) g n hn o p ps hps t ht c hc d q, tt)
item_form_keeps (Key word.Family) g = λ n hn o p ps hps k q c r. (declaration_form_keeps (Key word.Family) g n hn o p ps hps k q c r, tt)
item_form_keeps (Key word.Axiom) g = λ n hn o p ps hps t ht u hu c q. (declaration_form_keeps (Key word.Axiom) g n hn o p ps hps t ht u hu c q, tt)
item_form_keeps _ g = tt

interface_header_keeps : (t : Tok) → KeepsRow IsHeaderFormed (interface_header_row t)
interface_header_keeps Open = λ w p v q m hm o r i s imports hi a b e u exports he. (hm, all_true is_module_name imports hi, all_true is_word exports he)
interface_header_keeps _ = tt

interface_body_form_keeps : (t : Tok) → IsGood t → KeepsRow IsInterfaceBodyFormed (interface_body_form_row t)
interface_body_form_keeps (Key word.Hidden) g = λ ns hns items hitems. (all_true is_word ns hns, hitems)
interface_body_form_keeps t g = row_keeps_then {A = Item} {B = Body Item} IsItemFormed IsInterfaceBodyFormed (item_form_row t) (λ i. Many AnItem ▸ λ items. gives (BodyOf [] (i ∷ items))) (item_form_keeps t g) (λ i hi items hitems. (refl, (hi, hitems)))

item_decl_formed : (i : Item) → IsItemFormed i → is_decl_formed (item_decl i) ≡ true
item_decl_formed (ItemDecl d) h = h.0
item_decl_formed (ItemValue x t s Untold) h = both h.0 (both h.1.0 h.1.0)
item_decl_formed (ItemValue x t s (ToldDef e)) h = both h.0 (both h.1.0 h.1.1.1)
item_decl_formed (ItemValue x t s (ToldWrap e)) h = both h.0 (both h.1.0 h.1.1.1)

item_decls_formed : (items : List Item) → All IsItemFormed items → list_all is_decl_formed (map item_decl items) ≡ true
item_decls_formed [] h = refl
item_decls_formed (i ∷ items) h = both (item_decl_formed i h.0) (item_decls_formed items h.1)

-- a declaration that is no definition is not counted, and nothing is told of it
no_definition_count : (d : Decl) (ds : List Decl) → IsNoDefinition d → definition_count (d ∷ ds) ≡ definition_count ds
no_definition_count (DData n ps cs) ds h = refl
no_definition_count (DNew n ps t c) ds h = refl
no_definition_count (DFamily n ps k) ds h = refl
no_definition_count (DAxiom n ps t u) ds h = refl
no_definition_count (DDef n t e) ds h = absurd h
no_definition_count (DWrap n t e) ds h = absurd h

no_definition_untold : (d : Decl) (ds : List Decl) (told : List Bool) → IsNoDefinition d → FailUntold ds told → FailUntold (d ∷ ds) told
no_definition_untold (DData n ps cs) ds told h k = k
no_definition_untold (DNew n ps t c) ds told h k = k
no_definition_untold (DFamily n ps k) ds told h l = l
no_definition_untold (DAxiom n ps t u) ds told h k = k
no_definition_untold (DDef n t e) ds told h k = absurd h
no_definition_untold (DWrap n t e) ds told h k = absurd h

one_sig : (items : List Item) → All IsItemFormed items → length (item_sigs items) ≡ definition_count (map item_decl items)
one_sig [] h = refl
one_sig (ItemDecl d ∷ items) h = one_sig items h.1 ∙ sym (no_definition_count d (map item_decl items) h.0.1)
one_sig (ItemValue x t s Untold ∷ items) h = omega (arith, one_sig items h.1)
one_sig (ItemValue x t s (ToldDef e) ∷ items) h = omega (arith, one_sig items h.1)
one_sig (ItemValue x t s (ToldWrap e) ∷ items) h = omega (arith, one_sig items h.1)

sigs_formed : (items : List Item) → All IsItemFormed items → list_all is_sig_formed (item_sigs items) ≡ true
sigs_formed [] h = refl
sigs_formed (ItemDecl d ∷ items) h = sigs_formed items h.1
sigs_formed (ItemValue x t s u ∷ items) h = both h.0.1.1.0 (sigs_formed items h.1)

untold_fail : (items : List Item) → All IsItemFormed items → FailUntold (map item_decl items) (items_told items)
untold_fail [] h = tt
untold_fail (ItemDecl d ∷ items) h = no_definition_untold d (map item_decl items) (items_told items) h.0.1 (untold_fail items h.1)
untold_fail (ItemValue x t s Untold ∷ items) h = (refl, untold_fail items h.1)
untold_fail (ItemValue x t s (ToldDef e) ∷ items) h = untold_fail items h.1
untold_fail (ItemValue x t s (ToldWrap e) ∷ items) h = untold_fail items h.1

interface_is_formed : (h : Header) (b : Body Item) → IsHeaderFormed h → IsInterfaceBodyFormed b → IsInterfaceFormed (interface_from h b)
interface_is_formed (HeaderOf m imports exports) (BodyOf hidden items) h b = record {
  formed = module_is_formed (HeaderOf m imports exports) (BodyOf hidden (map item_decl items)) h (b.0, item_decls_formed items b.1);
  one_sig = one_sig items b.1;
  demands = sigs_formed items b.1;
  untold = untold_fail items b.1;
}

-- ---- all rows

at_open : {A : Type 0} (P : A → Type 0) (t : Tok) (st : Steps A) → Keeps P st → KeepsRow P (at_bracket t st)
at_open P Open st h = h
at_open P _ st h = tt

operator_keeps : (t : Tok) → KeepsRow (λ o. ⊤) (operator_row t)
operator_keeps (Operator o) = tt
operator_keeps (Key word.Quot) = tt
operator_keeps (Key word.Rem) = tt
operator_keeps _ = tt

word_keeps : (b : Bool) → KeepsRow (λ (x : Here). ⊤) (if b then Some (gives here) else None)
word_keeps true = tt
word_keeps false = tt

-- each row of the grammar
pub row_keeps : (p : Part) (t : Tok) → IsGood t → KeepsRow (IsFormedGiven p) (row_of p t)
row_keeps AnOpen Open g = tt
row_keeps AClose Close g = tt
row_keeps (AWord k) (Key l) g = word_keeps (bytes_eq (keyword_text l) (keyword_text k))
row_keeps ALower (Lower w) g = g
row_keeps AnUpper (Upper w) g = g
row_keeps AName (Lower w) g = left_word (is_lower_name w) (is_upper_name w) (is_none (keyword_of w)) g
row_keeps AName (Upper w) g = right_word (is_lower_name w) (is_upper_name w) (is_none (keyword_of w)) g
row_keeps AModuleName t g = module_keeps t g
row_keeps AnUpperName t g = upper_keeps t g
row_keeps ARole (Upper w) g = any_role_keeps w
row_keeps AnEqualityRole (Upper w) g = role_keeps w
row_keeps ANumber (Number n) g = g
row_keeps AnOperator t g = operator_keeps t
row_keeps AKind Open g = λ k h. tt
row_keeps AKindForm Arrow g = λ k h l i c q. tt
row_keeps AType t g = type_keeps t g
row_keeps ATypeForm t g = type_form_keeps t g
row_keeps ACoercion t g = coercion_keeps t g
row_keeps ACoercionForm t g = coercion_form_keeps t g
row_keeps ABinder t g = at_open {A = Binder} (λ b. is_binder_formed b ≡ true) t (ABinderForm ▸ λ b. gives b) (λ b h. h)
row_keeps ABinderForm t g = binder_form_keeps t g
row_keeps AnArgument t g = argument_keeps t g
row_keeps AnArgumentForm t g = argument_form_keeps t g
row_keeps AnExpression t g = expression_keeps t g
row_keeps AnExpressionForm t g = expression_form_keeps t g
row_keeps ABind Open g = λ x hx t ht e he c q. both hx (both ht he)
row_keeps AJoinBind Open g = λ j hj o p bs hbs e he c q. both hj (both (all_true is_binder_formed bs hbs) he)
row_keeps AnAlternative t g = at_open {A = Alt} (λ a. is_alt_formed a ≡ true) t (AnAlternativeForm ▸ λ a. gives a) (λ a h. h)
row_keeps AnAlternativeForm t g = alternative_form_keeps t g
row_keeps AParameter Open g = λ a ha k h r i c q. ha
row_keeps APlainParameter Open g = λ a ha k h c q. ha
row_keeps FieldBinders Close g = refl
row_keeps FieldBinders Open g = λ bs h. h
row_keeps FieldBindersForm t g = field_form_keeps t g
row_keeps ACoercionField Open g = λ w p c hc r hr t ht u hu d q. both (both hc (both hr (both ht hu))) refl
row_keeps AConstructor Open g = λ n hn o p bs hbs ts hts. both hn (both hbs (all_true is_type_formed ts hts))
row_keeps ADeclaration t g = at_open {A = Decl} (λ d. is_decl_formed d ≡ true) t (ADeclarationForm ▸ λ d. gives d) (λ d h. h)
row_keeps ADeclarationForm t g = declaration_form_keeps t g
row_keeps AHeader t g = header_keeps t
row_keeps ABody Close g = (refl, refl)
row_keeps ABody Open g = λ b h. h
row_keeps ABodyForm t g = body_form_keeps t g
row_keeps AModule t g = row_keeps_then {A = Header} {B = Module} IsHeaderFormed (λ m. is_formed m ≡ true) (header_row t) (λ h. ABody ▸ λ b. gives (module_from h b)) (header_keeps t) (λ h e b f. module_is_formed h b e f)
row_keeps (AThis w) (Lower v) g = word_keeps (bytes_eq v w)
row_keeps (AThisNumber n) (Number m) g = word_keeps (m == n)
row_keeps ADemand t g = demand_keeps t
row_keeps ADemandForm t g = demand_form_keeps t
row_keeps ASignature t g = signature_keeps t
row_keeps SignatureEnd t g = signature_end_keeps t
row_keeps AnUnfolding t g = unfolding_keeps t
row_keeps AnUnfoldingForm t g = unfolding_form_keeps t
row_keeps AnItem t g = at_open {A = Item} IsItemFormed t (AnItemForm ▸ λ i. gives i) (λ i h. h)
row_keeps AnItemForm t g = item_form_keeps t g
row_keeps AnInterfaceHeader t g = interface_header_keeps t
row_keeps AnInterfaceBody Close g = (refl, tt)
row_keeps AnInterfaceBody Open g = λ b h. h
row_keeps AnInterfaceBodyForm t g = interface_body_form_keeps t g
row_keeps AnInterface t g = row_keeps_then {A = Header} {B = Interface} IsHeaderFormed IsInterfaceFormed (interface_header_row t) (λ h. AnInterfaceBody ▸ λ b. gives (interface_from h b)) (interface_header_keeps t) (λ h e b f. interface_is_formed h b e f)
row_keeps (Many p) Close g = tt
row_keeps (Many p) t g = row_keeps_then (IsFormedGiven p) (All (IsFormedGiven p)) (row_of p t) (λ x. Many p ▸ λ xs. gives (x ∷ xs)) (row_keeps p t g) (λ x h xs k. (h, k))
row_keeps (Several p) t g = row_keeps_then (IsFormedGiven p) (Some1 (IsFormedGiven p)) (row_of p t) (λ x. Many p ▸ λ xs. gives (x ∷ xs)) (row_keeps p t g) (λ x h xs k. (h, k))
row_keeps _ _ g = tt

got_value : {A : Type 0} {x y : A} {us vs : List Tok} → Got x us ≡ Got y vs → x ≡ y
got_value e = cc

-- tokens of a text give what is formed
pub reading_formed : {A : Type 0} (P : A → Type 0) (ts : List Tok) (st : Steps A) (x : A) (rest : List Tok) → AreGood ts → Keeps P st → read_steps ts st ≡ Got x rest → P x
reading_formed P ts (gives y) x rest g k e = subst P (got_value e) k
reading_formed P [] (p ▸ f) x rest g k e = absurd cc
reading_formed {A = A} P (t ∷ ts) (p ▸ f) x rest g k e = by (row_of p t) (row_keeps p t g.0) e (λ st h. reading_formed P ts st x rest g.1 h) where
  by : (o : Option (Steps (Given p))) → KeepsRow (IsFormedGiven p) o → elim o as (λ _. Outcome A) [ None ↦ Stuck (suc (length ts)) | Some st ↦ read_steps ts (and_then st f) ] ≡ Got x rest
      → ((st : Steps A) → Keeps P st → read_steps ts st ≡ Got x rest → P x) → P x
  by None k' h ih = absurd cc
  by (Some st) k' h ih = ih (and_then st f) (keeps_then (IsFormedGiven p) P st f k' k) h

pub part_formed : (p : Part) (ts : List Tok) (x : Given p) (rest : List Tok) → AreGood ts → Reads p ts x rest → IsFormedGiven p x
part_formed p ts x rest g e = reading_formed (IsFormedGiven p) ts (p ▸ λ x. gives x) x rest g (λ y h. h) e

whole_formed : (f : FileForm) (m : File f) → IsFormedGiven (whole_part f) m → IsFileFormed f m
whole_formed ModuleFile m h = h
whole_formed InterfaceFile m h = h

-- what a text spells is formed
pub reads_formed : (f : FileForm) (room : ℕ) (bytes : List ℕ) (m : File f) → ReadsTo f room bytes m → IsFileFormed f m
reads_formed f room bytes m r =
    whole_formed f m (part_formed (whole_part f) (map tok_of r.spelled.lexemes) m [] (tokens_good bytes r.spelled.lexemes r.spelled.lexed) r.spelled.parsed)

-- the same of a module
pub module_formed : (room : ℕ) (bytes : List ℕ) (m : Module) → ReadsTo ModuleFile room bytes m → IsFormed m
module_formed room bytes m r = reads_formed ModuleFile room bytes m r
