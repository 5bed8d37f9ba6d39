-- The nameless form of a module, or its first fault of names: a word that is not in scope, or one that is bound twice. Both
-- are sought in one walk, in declaration order and text order within.
use Rattle.std.specs.Prelude.{ℕ, ◌+◌, Bool, true, false, not, List, [], ◌∷◌, map, reverse, length, if◌then◌else◌, Option, Some, None, option_map, Result, Ok, Err}
use Rattle.std.specs.Str.{bytes_eq}
use Rattle.fc_syntax.specs.declared.ty.Name.{Name}
use Rattle.fc_syntax.specs.declared.expr.Head.{Head}
use Rattle.fc_syntax.specs.declared.expr.Head.TheVariants as head
use Rattle.fc_syntax.specs.declared.fault.FaultKind.TheVariants.{Unbound, Duplicate, NotExported}
use Rattle.fc_syntax.specs.GenericTree as tree
use Rattle.fc_syntax.specs.Hints.{param_hint, plain_hint}
use Rattle.fc_syntax.specs.Tree.{Word, Ty, TVar, TCon, TInt, TApp, TFun, TForall, TCoForall}
use Rattle.fc_syntax.specs.Tree.{Co, GVar, GRefl, GSym, GTrans, GTc, GCapp, GFun, GAll, GCoAll, GInst, GNth, GLeft, GRight, GSub, GAx, GUniv, Cos, NoCos, MoreCos}
use Rattle.fc_syntax.specs.Tree.{Binder, BValue, BType, BCo, Arg, ATerm, AType, ACo, Bind, Bound, JoinBind, Joined, Alt, Branch}
use Rattle.fc_syntax.specs.Tree.{Expr, EVar, ELit, EApp, ELam, ELet, ECase, ECast, ECon, EPrim, EFail, EJoin, EJump}
use Rattle.fc_syntax.specs.Tree.{Exprs, NoExprs, MoreExprs, Args, NoArgs, MoreArgs, Binds, NoBinds, MoreBinds, Joins, NoJoins, MoreJoins, Alts, NoAlts, MoreAlts}
use Rattle.fc_syntax.specs.Tree.{ConDecl, ConOf, Decl, DData, DNew, DFamily, DAxiom, DDef, DWrap, Module, ModuleOf}
use Rattle.fc_model.specs.Declaring.{coercion_words, decl_word, ncoercion_words, nterm_words, ntype_words, nwords_by, term_words, type_words, words_by}
use Rattle.fc_model.specs.Faulting.{F, At, need, under, within, and_then}
use Rattle.fc_model.specs.Nameless.{NTy, NTVar, NTCon, NTInt, NTApp, NTFun, NTForall, NTCoForall}
use Rattle.fc_model.specs.Nameless.{NCo, NGVar, NGRefl, NGSym, NGTrans, NGTc, NGCapp, NGFun, NGAll, NGCoAll, NGInst, NGNth, NGLeft, NGRight, NGSub, NGAx, NGUniv, NCos, NoNCos, MoreNCos}
use Rattle.fc_model.specs.Nameless.{NBinder, NBValue, NBType, NBCo, NArg, NATerm, NAType, NACo, NBind, NBound, NJoinBind, NJoined, NAlt, NBranch}
use Rattle.fc_model.specs.Nameless.{NExpr, NLocal, NVar, NLit, NApp, NLam, NLet, NCase, NCast, NCon, NPrim, NFail, NJoin, NJump}
use Rattle.fc_model.specs.Nameless.{NExprs, NoNExprs, MoreNExprs, NArgs, NoNArgs, MoreNArgs, NBinds, NoNBinds, MoreNBinds, NJoins, NoNJoins, MoreNJoins, NAlts, NoNAlts, MoreNAlts}
use Rattle.fc_model.specs.Nameless.{NConDecl, NConOf, NDecl, NData, NNew, NFamily, NAxiom, NDef, NWrap, NModule, NModuleOf}
use Rattle.fc_model.specs.Worded.{bare_param, bare_plain}

-- SETS OF WORDS

-- whether each word is one of them
abbrev pub WordSet : Type 0
WordSet = Word → Bool

abbrev pub no_word : WordSet
no_word w = false

-- one word more
abbrev pub plus : Word → WordSet → WordSet
plus v s w = if bytes_eq v w then true else s w

abbrev pub plus_all : List Word → WordSet → WordSet
plus_all [] s = s
plus_all (v ∷ vs) s = plus_all vs (plus v s)

-- LISTS

-- one answer before those that follow
abbrev pub then_item : {Y : Type 0} → Y → Result (List Y) F → Result (List Y) F
then_item y (Ok ys) = Ok (y ∷ ys)
then_item y (Err f) = Err f

-- THE WORDS IN SCOPE

-- what each module has for others: its words of the three spaces (types; terms, with constructors; coercions, with axioms)
pub record Offers : Type 0 where
  pub types : Word → WordSet
  pub terms : Word → WordSet
  pub coercions : Word → WordSet

-- whatever is asked of a module
abbrev pub all_words : Word → WordSet
all_words m w = true

abbrev pub offers_all : Offers
offers_all = record { types = all_words; terms = all_words; coercions = all_words }

-- what a module declares and imports: its name, the modules imported with what they have for it, and the declared words of the three
-- spaces
pub record Top : Type 0 where
  pub own : Word
  pub imports : WordSet
  pub offers : Offers
  pub types : WordSet
  pub terms : WordSet
  pub coercions : WordSet

-- values and join points share one space of words
pub data TermWord : Type 0 where
  Value : (w : Word) → TermWord
  Join : (w : Word) → TermWord

-- the local binders of the three spaces, the innermost first
pub record Locals : Type 0 where
  pub types : List Word
  pub terms : List TermWord
  pub coercions : List Word

abbrev pub no_locals : Locals
no_locals = record { types = []; terms = []; coercions = [] }

abbrev pub with_type : Word → Locals → Locals
with_type a s = record s { types = a ∷ s.types }

abbrev pub with_term : TermWord → Locals → Locals
with_term x s = record s { terms = x ∷ s.terms }

abbrev pub with_coercion : Word → Locals → Locals
with_coercion c s = record s { coercions = c ∷ s.coercions }

-- the distance to the innermost binder of a word
abbrev pub index_of : List Word → Word → Option ℕ
index_of [] w = None
index_of (v ∷ vs) w = if bytes_eq v w then Some 0 else option_map (λ i. i + 1) (index_of vs w)

-- what a word of the terms is there, with its distance among its own kind
pub data Found : Type 0 where
  IsValue : (i : ℕ) → Found
  IsJoin : (i : ℕ) → Found
  Nowhere : Found

abbrev pub past_value : Found → Found
past_value (IsValue i) = IsValue (i + 1)
past_value (IsJoin i) = IsJoin i
past_value Nowhere = Nowhere

abbrev pub past_join : Found → Found
past_join (IsValue i) = IsValue i
past_join (IsJoin i) = IsJoin (i + 1)
past_join Nowhere = Nowhere

abbrev pub found_term : List TermWord → Word → Found
found_term [] w = Nowhere
found_term (Value v ∷ xs) w = if bytes_eq v w then IsValue 0 else past_value (found_term xs w)
found_term (Join v ∷ xs) w = if bytes_eq v w then IsJoin 0 else past_join (found_term xs w)

-- a name of a declaration, by its space: a word without a dot is declared here, a module before a dot is imported and has the word for
-- others
abbrev pub declared_name : Top → WordSet → (Word → WordSet) → Option Word → Word → Result Name F
declared_name top words offered None w = need (words w) Unbound (Ok (record { «module» = Some top.own; text = w }))
declared_name top words offered (Some m) w = need (top.imports m) Unbound (need (offered m w) NotExported (Ok (record { «module» = Some m; text = w })))

-- TYPES

abbrev pub local_type : Option ℕ → Result NTy F
local_type (Some i) = Ok (NTVar i)
local_type None = Err (At Unbound None [])

abbrev pub resolved_ty : Top → List Word → Ty → Result NTy F
resolved_ty top tys (TVar a) = local_type (index_of tys a)
resolved_ty top tys (TCon n) = and_then (declared_name top top.types top.offers.types n.module n.text) (λ m. Ok (NTCon m))
resolved_ty top tys TInt = Ok NTInt
resolved_ty top tys (TApp t u) =
    and_then (under 0 (resolved_ty top tys t)) (λ a. and_then (under 1 (resolved_ty top tys u)) (λ b. Ok (NTApp a b)))
resolved_ty top tys (TFun t u) =
    and_then (under 0 (resolved_ty top tys t)) (λ a. and_then (under 1 (resolved_ty top tys u)) (λ b. Ok (NTFun a b)))
resolved_ty top tys (TForall a k t) = and_then (under 0 (resolved_ty top (a ∷ tys) t)) (λ b. Ok (NTForall k b))
resolved_ty top tys (TCoForall r t u v) =
    and_then (under 0 (resolved_ty top tys t)) (λ a. and_then (under 1 (resolved_ty top tys u)) (λ b.
    and_then (under 2 (resolved_ty top tys v)) (λ c. Ok (NTCoForall r a b c))))

-- types from part i on
abbrev pub resolved_tys : Top → List Word → ℕ → List Ty → Result (List NTy) F
resolved_tys top tys i [] = Ok []
resolved_tys top tys i (t ∷ ts) = and_then (under i (resolved_ty top tys t)) (λ a. then_item a (resolved_tys top tys (i + 1) ts))

-- COERCIONS

abbrev pub local_co : Option ℕ → Result NCo F
local_co (Some i) = Ok (NGVar i)
local_co None = Err (At Unbound None [])

abbrev pub then_co : NCo → Result NCos F → Result NCos F
then_co g (Ok gs) = Ok (MoreNCos g gs)
then_co g (Err f) = Err f

abbrev mutual
  pub resolved_co : Top → Locals → Co → Result NCo F
  resolved_co top s (GVar c) = local_co (index_of s.coercions c)
  resolved_co top s (GRefl r t) = and_then (under 0 (resolved_ty top s.types t)) (λ a. Ok (NGRefl r a))
  resolved_co top s (GSym g) = and_then (under 0 (resolved_co top s g)) (λ a. Ok (NGSym a))
  resolved_co top s (GTrans g h) = and_then (under 0 (resolved_co top s g)) (λ a. and_then (under 1 (resolved_co top s h)) (λ b. Ok (NGTrans a b)))
  resolved_co top s (GTc r n gs) = and_then (declared_name top top.types top.offers.types n.module n.text) (λ m. and_then (resolved_cos top s 0 gs) (λ xs. Ok (NGTc r m xs)))
  resolved_co top s (GCapp g h) = and_then (under 0 (resolved_co top s g)) (λ a. and_then (under 1 (resolved_co top s h)) (λ b. Ok (NGCapp a b)))
  resolved_co top s (GFun g h) = and_then (under 0 (resolved_co top s g)) (λ a. and_then (under 1 (resolved_co top s h)) (λ b. Ok (NGFun a b)))
  resolved_co top s (GAll a k g) = and_then (under 0 (resolved_co top (with_type a s) g)) (λ b. Ok (NGAll k b))
  resolved_co top s (GCoAll r e f g h) =
      and_then (under 0 (resolved_co top s f)) (λ a. and_then (under 1 (resolved_co top s g)) (λ b.
      and_then (under 2 (resolved_co top s h)) (λ c. Ok (NGCoAll r e a b c))))
  resolved_co top s (GInst g h) = and_then (under 0 (resolved_co top s g)) (λ a. and_then (under 1 (resolved_co top s h)) (λ b. Ok (NGInst a b)))
  resolved_co top s (GNth n g) = and_then (under 0 (resolved_co top s g)) (λ a. Ok (NGNth n a))
  resolved_co top s (GLeft g) = and_then (under 0 (resolved_co top s g)) (λ a. Ok (NGLeft a))
  resolved_co top s (GRight g) = and_then (under 0 (resolved_co top s g)) (λ a. Ok (NGRight a))
  resolved_co top s (GSub g) = and_then (under 0 (resolved_co top s g)) (λ a. Ok (NGSub a))
  resolved_co top s (GAx n gs) = and_then (declared_name top top.coercions top.offers.coercions n.module n.text) (λ m. and_then (resolved_cos top s 0 gs) (λ xs. Ok (NGAx m xs)))
  resolved_co top s (GUniv t u) =
      and_then (under 0 (resolved_ty top s.types t)) (λ a. and_then (under 1 (resolved_ty top s.types u)) (λ b. Ok (NGUniv a b)))

  -- coercions from part i on
  pub resolved_cos : Top → Locals → ℕ → Cos → Result NCos F
  resolved_cos top s i NoCos = Ok NoNCos
  resolved_cos top s i (MoreCos g gs) = and_then (under i (resolved_co top s g)) (λ a. then_co a (resolved_cos top s (i + 1) gs))

-- BINDERS

abbrev pub resolved_binder : Top → Locals → Binder → Result NBinder F
resolved_binder top s (BValue x t) = and_then (under 0 (resolved_ty top s.types t)) (λ a. Ok (NBValue a))
resolved_binder top s (BType a k) = Ok (NBType k)
resolved_binder top s (BCo c r t u) =
    and_then (under 0 (resolved_ty top s.types t)) (λ a. and_then (under 1 (resolved_ty top s.types u)) (λ b. Ok (NBCo r a b)))

-- the scope behind a binder
abbrev pub enter : Binder → Locals → Locals
enter (BValue x t) s = with_term (Value x) s
enter (BType a k) s = with_type a s
enter (BCo c r t u) s = with_coercion c s

abbrev pub enter_all : List Binder → Locals → Locals
enter_all [] s = s
enter_all (b ∷ bs) s = enter_all bs (enter b s)

-- the words that binders bind, by their space
pub record Words : Type 0 where
  pub types : WordSet
  pub terms : WordSet
  pub coercions : WordSet

abbrev pub no_words : Words
no_words = record { types = no_word; terms = no_word; coercions = no_word }

-- the binder's word is new in its space
abbrev pub is_new : Binder → Words → Bool
is_new (BValue x t) ws = not (ws.terms x)
is_new (BType a k) ws = not (ws.types a)
is_new (BCo c r t u) ws = not (ws.coercions c)

abbrev pub with_binder : Binder → Words → Words
with_binder (BValue x t) ws = record ws { terms = plus x ws.terms }
with_binder (BType a k) ws = record ws { types = plus a ws.types }
with_binder (BCo c r t u) ws = record ws { coercions = plus c ws.coercions }

-- binders from part i on, each in the scope of those before it, behind the words of those before it
abbrev pub resolved_binders : Top → Locals → Words → ℕ → List Binder → Result (List NBinder) F
resolved_binders top s ws i [] = Ok []
resolved_binders top s ws i (b ∷ bs) =
    and_then (under i (need (is_new b ws) Duplicate (resolved_binder top s b))) (λ a.
    then_item a (resolved_binders top (enter b s) (with_binder b ws) (i + 1) bs))

-- EXPRESSIONS

abbrev pub variable : Top → Found → Word → Result NExpr F
variable top (IsValue i) w = Ok (NLocal i)
variable top (IsJoin i) w = Err (At Unbound None [])
variable top Nowhere w = and_then (declared_name top top.terms top.offers.terms None w) (λ m. Ok (NVar m))

abbrev pub resolved_var : Top → Locals → Option Word → Word → Result NExpr F
resolved_var top s None w = variable top (found_term s.terms w) w
resolved_var top s (Some m) w = and_then (declared_name top top.terms top.offers.terms (Some m) w) (λ n. Ok (NVar n))

-- a jump names a join point in scope
abbrev pub join_index : Found → Result ℕ F
join_index (IsValue i) = Err (At Unbound None [])
join_index (IsJoin i) = Ok i
join_index Nowhere = Err (At Unbound None [])

abbrev pub resolved_head : Top → Head → Result Head F
resolved_head top head.Default = Ok head.Default
resolved_head top (head.Lit n) = Ok (head.Lit n)
resolved_head top (head.Con n) = and_then (declared_name top top.terms top.offers.terms n.module n.text) (λ m. Ok (head.Con m))

abbrev pub bind_words : Binds → List Word
bind_words NoBinds = []
bind_words (MoreBinds (Bound x t e) rest) = x ∷ bind_words rest

abbrev pub join_words : Joins → List Word
join_words NoJoins = []
join_words (MoreJoins (Joined j ps e) rest) = j ∷ join_words rest

-- the scope inside a group, whose last member is the innermost
abbrev pub enter_values : List Word → Locals → Locals
enter_values [] s = s
enter_values (x ∷ xs) s = enter_values xs (with_term (Value x) s)

abbrev pub enter_joins : List Word → Locals → Locals
enter_joins [] s = s
enter_joins (j ∷ js) s = enter_joins js (with_term (Join j) s)

abbrev pub then_expr : NExpr → Result NExprs F → Result NExprs F
then_expr e (Ok es) = Ok (MoreNExprs e es)
then_expr e (Err f) = Err f

abbrev pub then_arg : NArg → Result NArgs F → Result NArgs F
then_arg a (Ok rest) = Ok (MoreNArgs a rest)
then_arg a (Err f) = Err f

abbrev pub then_bind : NBind → Result NBinds F → Result NBinds F
then_bind b (Ok bs) = Ok (MoreNBinds b bs)
then_bind b (Err f) = Err f

abbrev pub then_join : NJoinBind → Result NJoins F → Result NJoins F
then_join j (Ok js) = Ok (MoreNJoins j js)
then_join j (Err f) = Err f

abbrev pub then_alt : NAlt → Result NAlts F → Result NAlts F
then_alt a (Ok rest) = Ok (MoreNAlts a rest)
then_alt a (Err f) = Err f

abbrev mutual
  pub resolved_expr : Top → Locals → Expr → Result NExpr F
  resolved_expr top s (EVar n) = resolved_var top s n.module n.text
  resolved_expr top s (ELit n) = Ok (NLit n)
  resolved_expr top s (EApp f a) = and_then (under 0 (resolved_expr top s f)) (λ g. and_then (under 1 (resolved_arg top s a)) (λ b. Ok (NApp g b)))
  resolved_expr top s (ELam b e) = and_then (under 0 (resolved_binder top s b)) (λ c. and_then (under 1 (resolved_expr top (enter b s) e)) (λ f. Ok (NLam c f)))
  resolved_expr top s (ELet r bs e) =
      let inner = enter_values (bind_words bs) s in
      and_then (resolved_binds top (if r then inner else s) no_word 0 bs) (λ cs.
      and_then (under (length (bind_words bs)) (resolved_expr top inner e)) (λ f. Ok (NLet r cs f)))
  resolved_expr top s (ECase e x t u alts) =
      and_then (under 0 (resolved_expr top s e)) (λ f. and_then (under 1 (resolved_ty top s.types t)) (λ a.
      and_then (under 2 (resolved_ty top s.types u)) (λ b. and_then (resolved_alts top (with_term (Value x) s) 3 alts) (λ xs. Ok (NCase f a b xs)))))
  resolved_expr top s (ECast e g) = and_then (under 0 (resolved_expr top s e)) (λ f. and_then (under 1 (resolved_co top s g)) (λ h. Ok (NCast f h)))
  resolved_expr top s (ECon n args) = and_then (declared_name top top.terms top.offers.terms n.module n.text) (λ m. and_then (resolved_args top s 0 args) (λ xs. Ok (NCon m xs)))
  resolved_expr top s (EPrim op es) = and_then (resolved_exprs top s 0 es) (λ fs. Ok (NPrim op fs))
  resolved_expr top s (EFail t) = and_then (under 0 (resolved_ty top s.types t)) (λ a. Ok (NFail a))
  resolved_expr top s (EJoin r t js e) =
      let inner = enter_joins (join_words js) s in
      and_then (under 0 (resolved_ty top s.types t)) (λ a. and_then (resolved_joins top (if r then inner else s) no_word 1 js) (λ ks.
      and_then (under (1 + length (join_words js)) (resolved_expr top inner e)) (λ f. Ok (NJoin r a ks f))))
  resolved_expr top s (EJump j args) = and_then (join_index (found_term s.terms j)) (λ i. and_then (resolved_args top s 0 args) (λ xs. Ok (NJump i xs)))

  pub resolved_arg : Top → Locals → Arg → Result NArg F
  resolved_arg top s (ATerm e) = and_then (resolved_expr top s e) (λ f. Ok (NATerm f))
  resolved_arg top s (AType t) = and_then (resolved_ty top s.types t) (λ a. Ok (NAType a))
  resolved_arg top s (ACo g) = and_then (resolved_co top s g) (λ h. Ok (NACo h))

  -- arguments from part i on
  pub resolved_args : Top → Locals → ℕ → Args → Result NArgs F
  resolved_args top s i NoArgs = Ok NoNArgs
  resolved_args top s i (MoreArgs a rest) = and_then (under i (resolved_arg top s a)) (λ b. then_arg b (resolved_args top s (i + 1) rest))

  pub resolved_exprs : Top → Locals → ℕ → Exprs → Result NExprs F
  resolved_exprs top s i NoExprs = Ok NoNExprs
  resolved_exprs top s i (MoreExprs e rest) = and_then (under i (resolved_expr top s e)) (λ f. then_expr f (resolved_exprs top s (i + 1) rest))

  pub resolved_bind : Top → Locals → Bind → Result NBind F
  resolved_bind top s (Bound x t e) = and_then (under 0 (resolved_ty top s.types t)) (λ a. and_then (under 1 (resolved_expr top s e)) (λ f. Ok (NBound a f)))

  -- binds from part i on, behind the words of those before
  pub resolved_binds : Top → Locals → WordSet → ℕ → Binds → Result NBinds F
  resolved_binds top s earlier i NoBinds = Ok NoNBinds
  resolved_binds top s earlier i (MoreBinds (Bound x t e) rest) =
      and_then (under i (need (not (earlier x)) Duplicate (resolved_bind top s (Bound x t e)))) (λ c.
      then_bind c (resolved_binds top s (plus x earlier) (i + 1) rest))

  pub resolved_join : Top → Locals → JoinBind → Result NJoinBind F
  resolved_join top s (Joined j ps e) =
      and_then (resolved_binders top s no_words 0 ps) (λ qs. and_then (under (length ps) (resolved_expr top (enter_all ps s) e)) (λ f. Ok (NJoined qs f)))

  pub resolved_joins : Top → Locals → WordSet → ℕ → Joins → Result NJoins F
  resolved_joins top s earlier i NoJoins = Ok NoNJoins
  resolved_joins top s earlier i (MoreJoins (Joined j ps e) rest) =
      and_then (under i (need (not (earlier j)) Duplicate (resolved_join top s (Joined j ps e)))) (λ c.
      then_join c (resolved_joins top s (plus j earlier) (i + 1) rest))

  pub resolved_alt : Top → Locals → Alt → Result NAlt F
  resolved_alt top s (Branch h bs e) =
      and_then (resolved_head top h) (λ k. and_then (resolved_binders top s no_words 0 bs) (λ cs.
      and_then (under (length bs) (resolved_expr top (enter_all bs s) e)) (λ f. Ok (NBranch k cs f))))

  -- alternatives from part i on
  pub resolved_alts : Top → Locals → ℕ → Alts → Result NAlts F
  resolved_alts top s i NoAlts = Ok NoNAlts
  resolved_alts top s i (MoreAlts a rest) = and_then (under i (resolved_alt top s a)) (λ b. then_alt b (resolved_alts top s (i + 1) rest))

-- DECLARATIONS

-- what a module declares, and what it imports of modules that have this for others
abbrev pub top_among : {L V B : Type 0} → Offers → tree.Module L V B → Top
top_among offers (ModuleOf m imports exports hidden ds) = record {
  own = m;
  imports = plus_all imports no_word;
  offers = offers;
  types = plus_all (words_by type_words ds) no_word;
  terms = plus_all (words_by term_words ds) no_word;
  coercions = plus_all (words_by coercion_words ds) no_word;
}

-- alone, whatever others have
abbrev pub top_of : {L V B : Type 0} → tree.Module L V B → Top
top_of = top_among offers_all

-- the same of a nameless one
abbrev pub ntop_of : NModule → Top
ntop_of (NModuleOf m imports exports hidden ds) = record {
  own = m;
  imports = plus_all imports no_word;
  offers = offers_all;
  types = plus_all (nwords_by ntype_words ds) no_word;
  terms = plus_all (nwords_by nterm_words ds) no_word;
  coercions = plus_all (nwords_by ncoercion_words ds) no_word;
}

-- the words of the declarations before
abbrev pub behind : {L V B : Type 0} → tree.Decl L V B → Words → Words
behind d ws = record { types = plus_all (type_words d) ws.types; terms = plus_all (term_words d) ws.terms; coercions = plus_all (coercion_words d) ws.coercions }

-- parameters from part i on have words of their own
abbrev pub distinct_params : WordSet → ℕ → List Word → Result ℕ F
distinct_params earlier i [] = Ok i
distinct_params earlier i (a ∷ rest) = and_then (under i (need (not (earlier a)) Duplicate (Ok i))) (λ _. distinct_params (plus a earlier) (i + 1) rest)

abbrev pub resolved_con : Top → Locals → ConDecl → Result NConDecl F
resolved_con top s (ConOf n bs fields) =
    and_then (resolved_binders top s no_words 0 bs) (λ cs. and_then (resolved_tys top (enter_all bs s).types (length bs) fields) (λ ts. Ok (NConOf n cs ts)))

-- constructors from part i on, behind the term words before
abbrev pub resolved_cons : Top → Locals → WordSet → ℕ → List ConDecl → Result (List NConDecl) F
resolved_cons top s earlier i [] = Ok []
resolved_cons top s earlier i (ConOf n bs fields ∷ cs) =
    and_then (under i (need (not (earlier n)) Duplicate (resolved_con top s (ConOf n bs fields)))) (λ c.
    then_item c (resolved_cons top s (plus n earlier) (i + 1) cs))

-- the scope of the parameters, the last one innermost
abbrev pub in_params : List Word → Locals
in_params ps = record no_locals { types = reverse ps }

abbrev pub resolved_decl : Top → Words → Decl → Result NDecl F
resolved_decl top ws (DData n ps cs) =
    need (not (ws.types n)) Duplicate (and_then (distinct_params no_word 0 (map param_hint ps)) (λ i.
    and_then (resolved_cons top (in_params (map param_hint ps)) ws.terms i cs) (λ ds. Ok (NData n (map bare_param ps) ds))))
resolved_decl top ws (DNew n ps t con) =
    need (not (ws.types n)) Duplicate (and_then (distinct_params no_word 0 (map param_hint ps)) (λ i.
    and_then (under i (resolved_ty top (in_params (map param_hint ps)).types t)) (λ a.
    need (not (ws.coercions con)) Duplicate (Ok (NNew n (map bare_param ps) a con)))))
resolved_decl top ws (DFamily n ps k) =
    need (not (ws.types n)) Duplicate (and_then (distinct_params no_word 0 (map plain_hint ps)) (λ i. Ok (NFamily n (map bare_plain ps) k)))
resolved_decl top ws (DAxiom n ps t u) =
    need (not (ws.coercions n)) Duplicate (and_then (distinct_params no_word 0 (map plain_hint ps)) (λ i.
    and_then (under i (resolved_ty top (in_params (map plain_hint ps)).types t)) (λ a.
    and_then (under (i + 1) (resolved_ty top (in_params (map plain_hint ps)).types u)) (λ b. Ok (NAxiom n (map bare_plain ps) a b)))))
resolved_decl top ws (DDef n t e) =
    need (not (ws.terms n)) Duplicate (and_then (under 0 (resolved_ty top [] t)) (λ a.
    and_then (under 1 (resolved_expr top no_locals e)) (λ f. Ok (NDef n a f))))
resolved_decl top ws (DWrap n t e) =
    need (not (ws.terms n)) Duplicate (and_then (under 0 (resolved_ty top [] t)) (λ a.
    and_then (under 1 (resolved_expr top no_locals e)) (λ f. Ok (NWrap n a f))))

-- declarations behind the words of those before
abbrev pub resolved_decls : Top → Words → List Decl → Result (List NDecl) F
resolved_decls top ws [] = Ok []
resolved_decls top ws (d ∷ ds) = and_then (within (decl_word d) (resolved_decl top ws d)) (λ c. then_item c (resolved_decls top (behind d ws) ds))

-- the nameless form of a module among modules that have this for others, or its first fault of names
abbrev pub resolved_among : Offers → Module → Result NModule F
resolved_among offers (ModuleOf m imports exports hidden ds) =
    and_then (resolved_decls (top_among offers (ModuleOf m imports exports hidden ds)) no_words ds) (λ cs. Ok (NModuleOf m imports exports hidden cs))

-- alone, whatever others have
abbrev pub resolved_or_fault : Module → Result NModule F
resolved_or_fault = resolved_among offers_all
