-- What each function that puts names back promises of its answer.
use Rattle.std.specs.Prelude.{◌≡◌, ℕ, zero, suc, ◌<◌, Bool, true, false, List, [], ◌∷◌, ◌++◌, Option, Some, None, codes, decimal}
use Rattle.std.specs.List.{list_all}
use Rattle.fc_syntax.specs.declared.expr.Head.{Head}
use Rattle.fc_syntax.specs.declared.ty.Role.{Role}
use Rattle.fc_syntax.specs.Tree.{Word, Kind, Ty, Co, Cos, Binder, BValue, BType, BCo, Expr, Arg, Args, Exprs, Binds, Joins, Alts}
use Rattle.fc_model.specs.Formed.{args_formed, arg_formed, alts_formed, binder_formed, binds_formed, co_formed, cos_formed, expr_formed, exprs_formed, head_formed, joins_formed, type_formed}
use Rattle.fc_model.specs.Formed.{are_some_cos, is_bind_group, is_empty_list, is_join_group, is_lower_word, named_words}
use Rattle.fc_model.specs.Nameless.{NTy, NCo, NBinder, NExpr, NBinds, NJoins, NAlts}
use Rattle.fc_model.specs.Resolution.{Top, Locals, TermWord, Value, Join, WordSet, Words, no_words, enter_all, bind_words, join_words, with_term, with_type, with_coercion}
use Rattle.fc_model.specs.ResolutionRules.{AreDistinct, ResolvesTy, ResolvesTys, ResolvesCo, ResolvesCos, ResolvesBinders, ResolvesHead, ResolvesExpr, ResolvesArg, ResolvesArgs, ResolvesExprs, ResolvesBinds, ResolvesJoins, ResolvesAlts}
use Rattle.fc_model.specs.Worded.{WTy, WCo, WCos, WBinder, WExpr, WArg, WArgs, WExprs, WBinds, WJoins, WAlts}
use Rattle.fc_model.specs.Worded.{bare_ty, bare_tys, bare_co, bare_cos, bare_binders, bare_expr, bare_arg, bare_args, bare_exprs, bare_binds, bare_joins, bare_alts}
use Rattle.fc_formed.specs.FormedTrees.{bare_words}
use Rattle.fc_used_words.specs.Scoped.{in_type, in_value, in_group, in_joins, in_binders, in_binder, nothing_around}
use Rattle.fc_used_words.specs.Scoped.{HoldsTy, HoldsTys, HoldsCo, HoldsCos, HoldsBinders, HoldsHead, HoldsExpr, HoldsArg, HoldsArgs, HoldsExprs, HoldsBinds, HoldsJoins, HoldsAlts}
use Rattle.fc_used_words.specs.Standing.{is_found, is_found_by, more_types, more_terms, more_coercions}

-- WORDS OF THE TEXT FORM

-- a lower name that is no word of a form
abbrev pub IsLower : Word → Type 0
IsLower w = is_lower_word w ≡ true

abbrev pub term_word : TermWord → Word
term_word (Value w) = w
term_word (Join w) = w

-- every word in scope is such a name
pub record AreLower (s : Locals) : Type 0 where
  pub types : list_all is_lower_word s.types ≡ true
  pub terms : list_all (λ x. is_lower_word (term_word x)) s.terms ≡ true
  pub coercions : list_all is_lower_word s.coercions ≡ true

-- the word of a variable, which is that of its binder, and some lower word where it has none
pub record IsWritten (o : Option Word) (v : Word) : Type 0 where
  pub word : (w : Word) → o ≡ Some w → v ≡ w
  pub other : o ≡ None → IsLower v

-- THE WORD OF A BINDER

-- the word itself, then w_1, w_2 and so on
abbrev pub candidate : Word → ℕ → Word
candidate w zero = w
candidate w (suc i) = w ++ (codes "_" ++ decimal (suc i))

-- the first candidate for the word w, where some words are taken
pub record IsChosen (taken : WordSet) (w v : Word) : Type 0 where
  pub number : ℕ
  pub is : v ≡ candidate w number
  pub free : taken v ≡ false
  pub first : (j : ℕ) → j < number → taken (candidate w j) ≡ true

-- A word for a binder that was read with the word w, where some words are taken: a lower word that is free, and the first candidate for w, if that is a lower word.
pub record IsWordFor (taken : WordSet) (w v : Word) : Type 0 where
  pub free : taken v ≡ false
  pub lower : IsLower v
  pub chosen : IsLower w → IsChosen taken w v

-- A binder of a type, or of a coercion's type, that was read with the word w may take the word v: what is found below it without a word is
-- found below it with v, which is a lower word.
pub record MayTakeTy (top : Top) (s : Locals) (w v : Word) (n : NTy) : Type 0 where
  pub lower : IsLower v
  pub enters : HoldsTy (is_found top s) (in_type nothing_around) n → HoldsTy (is_found top (with_type v s)) nothing_around n

pub record MayTakeCo (top : Top) (s : Locals) (w v : Word) (n : NCo) : Type 0 where
  pub lower : IsLower v
  pub enters : HoldsCo (is_found top s) (in_type nothing_around) n → HoldsCo (is_found top (with_type v s)) nothing_around n

-- the same of the value that a case binds
pub record MayTakeAlts (top : Top) (s : Locals) (w v : Word) (n : NAlts) : Type 0 where
  pub lower : IsLower v
  pub enters : HoldsAlts (is_found top s) (in_value nothing_around) n → HoldsAlts (is_found top (with_term (Value v) s)) nothing_around n

-- THE NAMED TREE

-- a named tree is that of a nameless one whose names are all found in these locals, and is of the text form if the locals are and that one is, whatever the words of its
-- binders
pub record IsNamedTy (top : Top) (s : Locals) (n : WTy) (t : Ty) : Type 0 where
  pub resolves : HoldsTy (is_found top s) nothing_around (bare_ty n) → ResolvesTy top s.types t (bare_ty n)
  pub formed : AreLower s → type_formed bare_words n ≡ true → type_formed named_words t ≡ true

pub record IsNamedTys (top : Top) (s : Locals) (n : List WTy) (t : List Ty) : Type 0 where
  pub resolves : HoldsTys (is_found top s) nothing_around (bare_tys n) → ResolvesTys top s.types t (bare_tys n)
  pub formed : AreLower s → list_all (type_formed bare_words) n ≡ true → list_all (type_formed named_words) t ≡ true

pub record IsNamedCo (top : Top) (s : Locals) (n : WCo) (t : Co) : Type 0 where
  pub resolves : HoldsCo (is_found top s) nothing_around (bare_co n) → ResolvesCo top s t (bare_co n)
  pub formed : AreLower s → co_formed bare_words n ≡ true → co_formed named_words t ≡ true

-- coercions, of which there are some if there were some
pub record IsNamedCos (top : Top) (s : Locals) (n : WCos) (t : Cos) : Type 0 where
  pub resolves : HoldsCos (is_found top s) nothing_around (bare_cos n) → ResolvesCos top s t (bare_cos n)
  pub some : are_some_cos n ≡ true → are_some_cos t ≡ true
  pub formed : AreLower s → cos_formed bare_words n ≡ true → cos_formed named_words t ≡ true

pub record IsNamedExpr (top : Top) (s : Locals) (n : WExpr) (t : Expr) : Type 0 where
  pub resolves : HoldsExpr (is_found top s) nothing_around (bare_expr n) → ResolvesExpr top s t (bare_expr n)
  pub formed : AreLower s → expr_formed bare_words n ≡ true → expr_formed named_words t ≡ true

pub record IsNamedArg (top : Top) (s : Locals) (n : WArg) (t : Arg) : Type 0 where
  pub resolves : HoldsArg (is_found top s) nothing_around (bare_arg n) → ResolvesArg top s t (bare_arg n)
  pub formed : AreLower s → arg_formed bare_words n ≡ true → arg_formed named_words t ≡ true

pub record IsNamedArgs (top : Top) (s : Locals) (n : WArgs) (t : Args) : Type 0 where
  pub resolves : HoldsArgs (is_found top s) nothing_around (bare_args n) → ResolvesArgs top s t (bare_args n)
  pub formed : AreLower s → args_formed bare_words n ≡ true → args_formed named_words t ≡ true

pub record IsNamedExprs (top : Top) (s : Locals) (n : WExprs) (t : Exprs) : Type 0 where
  pub resolves : HoldsExprs (is_found top s) nothing_around (bare_exprs n) → ResolvesExprs top s t (bare_exprs n)
  pub formed : AreLower s → exprs_formed bare_words n ≡ true → exprs_formed named_words t ≡ true

pub record IsNamedAlts (top : Top) (s : Locals) (n : WAlts) (t : Alts) : Type 0 where
  pub resolves : HoldsAlts (is_found top s) nothing_around (bare_alts n) → ResolvesAlts top s t (bare_alts n)
  pub formed : AreLower s → alts_formed bare_words n ≡ true → alts_formed named_words t ≡ true

-- binders are of the text form if those that they were read from are, but for their words, and there are none if there were none
pub record KeepForm (ns : List WBinder) (bs : List Binder) : Type 0 where
  pub none : is_empty_list ns ≡ true → is_empty_list bs ≡ true
  pub formed : list_all (binder_formed bare_words) ns ≡ true → list_all (binder_formed named_words) bs ≡ true

pub record IsNamedHead (top : Top) (s : Locals) (n t : Head) : Type 0 where
  pub resolves : HoldsHead (is_found top s) n → ResolvesHead top t n
  pub formed : (ns : List WBinder) (bs : List Binder) → KeepForm ns bs → head_formed bare_words n ns ≡ true → head_formed named_words t bs ≡ true

-- members of a group, whose words differ from those before and from each other, and with whose words they are of the text form
pub record IsNamedBinds (top : Top) (s : Locals) (n : WBinds) (t : Binds) : Type 0 where
  pub resolves : (earlier : WordSet) → AreDistinct earlier (bind_words t) → HoldsBinds (is_found top s) nothing_around (bare_binds n) → ResolvesBinds top s earlier t (bare_binds n)
  pub group : (r : Bool) → is_bind_group r n ≡ true → is_bind_group r t ≡ true
  pub formed : AreLower s → list_all is_lower_word (bind_words t) ≡ true → binds_formed bare_words n ≡ true → binds_formed named_words t ≡ true

pub record IsNamedJoins (top : Top) (s : Locals) (n : WJoins) (t : Joins) : Type 0 where
  pub resolves : (earlier : WordSet) → AreDistinct earlier (join_words t) → HoldsJoins (is_found top s) nothing_around (bare_joins n) → ResolvesJoins top s earlier t (bare_joins n)
  pub group : (r : Bool) → is_join_group r n ≡ true → is_join_group r t ≡ true
  pub formed : AreLower s → list_all is_lower_word (join_words t) ≡ true → joins_formed bare_words n ≡ true → joins_formed named_words t ≡ true

-- binders with an expression below them
pub record IsNamedBelow (top : Top) (s : Locals) (ns : List WBinder) (n : WExpr) (bs : List Binder) (t : Expr) : Type 0 where
  pub binders : HoldsBinders (is_found top s) nothing_around (bare_binders ns) → HoldsExpr (is_found top s) (in_binders (bare_binders ns) nothing_around) (bare_expr n)
      → ResolvesBinders top s no_words bs (bare_binders ns)
  pub body : HoldsBinders (is_found top s) nothing_around (bare_binders ns) → HoldsExpr (is_found top s) (in_binders (bare_binders ns) nothing_around) (bare_expr n)
      → ResolvesExpr top (enter_all bs s) t (bare_expr n)
  pub binders_formed : AreLower s → KeepForm ns bs
  pub body_formed : AreLower s → list_all (binder_formed bare_words) ns ≡ true → expr_formed bare_words n ≡ true → expr_formed named_words t ≡ true

-- BINDERS THAT TAKE WORDS

-- a binder that was read with the word w takes the word v, which leads to these locals, and then its word is taken
pub data TakesWord (top : Top) (s : Locals) (taken : Words) : WBinder → Binder → Locals → Words → Type 0 where
  value_takes : {w v : Word} {a : WTy} {t : Ty} → taken.terms v ≡ false → IsLower v → IsNamedTy top s a t
      → TakesWord top s taken (BValue w a) (BValue v t) (with_term (Value v) s) (more_terms v taken)
  type_takes : {w v : Word} {k : Kind} → taken.types v ≡ false → IsLower v → TakesWord top s taken (BType w k) (BType v k) (with_type v s) (more_types v taken)
  coercion_takes : {w v : Word} {r : Role} {a b : WTy} {t u : Ty} → taken.coercions v ≡ false → IsLower v → IsNamedTy top s a t → IsNamedTy top s b u
      → TakesWord top s taken (BCo w r a b) (BCo v r t u) (with_coercion v s) (more_coercions v taken)

pub data TakeWords (top : Top) : Locals → Words → List WBinder → List Binder → Locals → Words → Type 0 where
  none_take : {s : Locals} {taken : Words} → TakeWords top s taken [] [] s taken
  more_take : {s s' s'' : Locals} {taken taken' taken'' : Words} {c : WBinder} {b : Binder} {cs : List WBinder} {bs : List Binder} → TakesWord top s taken c b s' taken'
      → TakeWords top s' taken' cs bs s'' taken'' → TakeWords top s taken (c ∷ cs) (b ∷ bs) s'' taken''

-- WORDS THAT A SCOPE USES

-- Sets for the scope of binders: each name that is found in it without their words has its word in them. An expression below binders, and the
-- binders themselves.
pub record BelowUses (top : Top) (s : Locals) (ns : List NBinder) (n : NExpr) (ws : Words) : Type 0 where
  pub binders : HoldsBinders (is_found top s) nothing_around ns → HoldsBinders (is_found_by top ws s) nothing_around ns
  pub body : HoldsExpr (is_found top s) (in_binders ns nothing_around) n → HoldsExpr (is_found_by top ws s) (in_binders ns nothing_around) n

-- the same of an expression below a group, and of its right sides where it is recursive
pub record LetUses (top : Top) (s : Locals) (r : Bool) (ns : NBinds) (n : NExpr) (ws : Words) : Type 0 where
  pub binds : r ≡ true → HoldsBinds (is_found top s) (in_group ns nothing_around) ns → HoldsBinds (is_found_by top ws s) (in_group ns nothing_around) ns
  pub body : HoldsExpr (is_found top s) (in_group ns nothing_around) n → HoldsExpr (is_found_by top ws s) (in_group ns nothing_around) n

pub record JoinUses (top : Top) (s : Locals) (r : Bool) (ns : NJoins) (n : NExpr) (ws : Words) : Type 0 where
  pub joins : r ≡ true → HoldsJoins (is_found top s) (in_joins ns nothing_around) ns → HoldsJoins (is_found_by top ws s) (in_joins ns nothing_around) ns
  pub body : HoldsExpr (is_found top s) (in_joins ns nothing_around) n → HoldsExpr (is_found_by top ws s) (in_joins ns nothing_around) n

-- of an expression below one binder, of a type and of a coercion below a type, and of alternatives below a value
pub record LamUses (top : Top) (s : Locals) (c : NBinder) (n : NExpr) (ws : Words) : Type 0 where
  pub body : HoldsExpr (is_found top s) (in_binder c nothing_around) n → HoldsExpr (is_found_by top ws s) (in_binder c nothing_around) n

pub record TyUses (top : Top) (s : Locals) (n : NTy) (ws : Words) : Type 0 where
  pub body : HoldsTy (is_found top s) (in_type nothing_around) n → HoldsTy (is_found_by top ws s) (in_type nothing_around) n

pub record CoUses (top : Top) (s : Locals) (n : NCo) (ws : Words) : Type 0 where
  pub body : HoldsCo (is_found top s) (in_type nothing_around) n → HoldsCo (is_found_by top ws s) (in_type nothing_around) n

pub record AltsUse (top : Top) (s : Locals) (n : NAlts) (ws : Words) : Type 0 where
  pub alts : HoldsAlts (is_found top s) (in_value nothing_around) n → HoldsAlts (is_found_by top ws s) (in_value nothing_around) n
