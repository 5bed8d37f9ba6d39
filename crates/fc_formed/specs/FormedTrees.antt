-- When a nameless tree can be written as a text, but for the words of binders: every name is of its form, every literal in range, and every group has a size that can be written.
use Rattle.std.specs.Prelude.{◌≡◌, ⊤, ◌^◌, ℕ, nat_lt, Bool, true, false, List, [], ◌∷◌}
use Rattle.std.specs.List.{list_all}
use Rattle.fc_syntax.specs.declared.expr.Head.{Head}
use Rattle.fc_syntax.specs.declared.expr.Head.TheVariants as head
use Rattle.fc_syntax.specs.declared.ty.Ref.{Ref}
use Rattle.fc_syntax.specs.Tokens.{is_module_name}
use Rattle.fc_syntax.specs.Tree.{Word}
use Rattle.fc_model.specs.Formed.{WordTests, is_equality_role, is_literal_formed, is_lower_formed, is_lower_word, is_ref_formed, is_upper_formed, is_upper_word, is_word}
use Rattle.fc_model.specs.Nameless.{NTy, NTVar, NTCon, NTInt, NTApp, NTFun, NTForall, NTCoForall}
use Rattle.fc_model.specs.Nameless.{NCo, NGVar, NGRefl, NGSym, NGTrans, NGTc, NGCapp, NGFun, NGAll, NGCoAll, NGInst, NGNth, NGLeft, NGRight, NGSub, NGAx, NGUniv, NCos, NoNCos, MoreNCos}
use Rattle.fc_model.specs.Nameless.{NBinder, NBValue, NBType, NBCo, NArg, NATerm, NAType, NACo, NBound, NJoined, NBranch}
use Rattle.fc_model.specs.Nameless.{NExpr, NLocal, NVar, NLit, NApp, NLam, NLet, NCase, NCast, NCon, NPrim, NFail, NJoin, NJump}
use Rattle.fc_model.specs.Nameless.{NExprs, NoNExprs, MoreNExprs, NArgs, NoNArgs, MoreNArgs, NBinds, NoNBinds, MoreNBinds, NJoins, NoNJoins, MoreNJoins, NAlts, NoNAlts, MoreNAlts}
use Rattle.fc_model.specs.Nameless.{NConDecl, NConOf, NDecl, NData, NNew, NFamily, NAxiom, NDef, NWrap, NModule, NModuleOf}

-- TYPES AND COERCIONS

abbrev pub IsFormedTy : NTy → Type 0
IsFormedTy (NTVar i) = ⊤
IsFormedTy (NTCon n) = is_upper_formed n ≡ true
IsFormedTy NTInt = ⊤
IsFormedTy (NTApp t u) = IsFormedTy t × IsFormedTy u
IsFormedTy (NTFun t u) = IsFormedTy t × IsFormedTy u
IsFormedTy (NTForall k t) = IsFormedTy t
IsFormedTy (NTCoForall r t u v) = (is_equality_role r ≡ true) × IsFormedTy t × IsFormedTy u × IsFormedTy v

abbrev pub AreFormedTys : List NTy → Type 0
AreFormedTys [] = ⊤
AreFormedTys (t ∷ ts) = IsFormedTy t × AreFormedTys ts

abbrev pub AreSomeCos : NCos → Type 0
AreSomeCos NoNCos = ⊥
AreSomeCos (MoreNCos g gs) = ⊤

-- a type constructor has one part at least, and a part's number nine digits
abbrev mutual
  pub IsFormedCo : NCo → Type 0
  IsFormedCo (NGVar i) = ⊤
  IsFormedCo (NGRefl r t) = IsFormedTy t
  IsFormedCo (NGSym g) = IsFormedCo g
  IsFormedCo (NGTrans g h) = IsFormedCo g × IsFormedCo h
  IsFormedCo (NGTc r n gs) = (is_equality_role r ≡ true) × (is_upper_formed n ≡ true) × AreSomeCos gs × AreFormedCos gs
  IsFormedCo (NGCapp g h) = IsFormedCo g × IsFormedCo h
  IsFormedCo (NGFun g h) = IsFormedCo g × IsFormedCo h
  IsFormedCo (NGAll k g) = IsFormedCo g
  IsFormedCo (NGCoAll r s f g h) = (is_equality_role r ≡ true) × (is_equality_role s ≡ true) × IsFormedCo f × IsFormedCo g × IsFormedCo h
  IsFormedCo (NGInst g h) = IsFormedCo g × IsFormedCo h
  IsFormedCo (NGNth n g) = (nat_lt n (10 ^ 9) ≡ true) × IsFormedCo g
  IsFormedCo (NGLeft g) = IsFormedCo g
  IsFormedCo (NGRight g) = IsFormedCo g
  IsFormedCo (NGSub g) = IsFormedCo g
  IsFormedCo (NGAx n gs) = (is_upper_formed n ≡ true) × AreFormedCos gs
  IsFormedCo (NGUniv t u) = IsFormedTy t × IsFormedTy u

  pub AreFormedCos : NCos → Type 0
  AreFormedCos NoNCos = ⊤
  AreFormedCos (MoreNCos g gs) = IsFormedCo g × AreFormedCos gs

abbrev pub IsFormedBinder : NBinder → Type 0
IsFormedBinder (NBValue t) = IsFormedTy t
IsFormedBinder (NBType k) = ⊤
IsFormedBinder (NBCo r t u) = (is_equality_role r ≡ true) × IsFormedTy t × IsFormedTy u

abbrev pub AreFormedBinders : List NBinder → Type 0
AreFormedBinders [] = ⊤
AreFormedBinders (b ∷ bs) = IsFormedBinder b × AreFormedBinders bs

-- EXPRESSIONS

-- one bind where it is not recursive, and one at least where it is
abbrev pub IsFormedGroup : Bool → NBinds → Type 0
IsFormedGroup r NoNBinds = ⊥
IsFormedGroup r (MoreNBinds b NoNBinds) = ⊤
IsFormedGroup true (MoreNBinds b (MoreNBinds c rest)) = ⊤
IsFormedGroup false (MoreNBinds b (MoreNBinds c rest)) = ⊥

abbrev pub IsFormedJoinGroup : Bool → NJoins → Type 0
IsFormedJoinGroup r NoNJoins = ⊥
IsFormedJoinGroup r (MoreNJoins j NoNJoins) = ⊤
IsFormedJoinGroup true (MoreNJoins j (MoreNJoins k rest)) = ⊤
IsFormedJoinGroup false (MoreNJoins j (MoreNJoins k rest)) = ⊥

-- only the alternative of a constructor has binders
abbrev pub IsFormedHead : Head → List NBinder → Type 0
IsFormedHead head.Default bs = bs ≡ []
IsFormedHead (head.Lit n) bs = (is_literal_formed n ≡ true) × (bs ≡ [])
IsFormedHead (head.Con n) bs = (is_upper_formed n ≡ true) × AreFormedBinders bs

abbrev mutual
  pub IsFormedExpr : NExpr → Type 0
  IsFormedExpr (NLocal i) = ⊤
  IsFormedExpr (NVar n) = is_lower_formed n ≡ true
  IsFormedExpr (NLit n) = is_literal_formed n ≡ true
  IsFormedExpr (NApp f a) = IsFormedExpr f × IsFormedArg a
  IsFormedExpr (NLam b e) = IsFormedBinder b × IsFormedExpr e
  IsFormedExpr (NLet r bs e) = IsFormedGroup r bs × AreFormedBinds bs × IsFormedExpr e
  IsFormedExpr (NCase e t u alts) = IsFormedExpr e × IsFormedTy t × IsFormedTy u × AreFormedAlts alts
  IsFormedExpr (NCast e g) = IsFormedExpr e × IsFormedCo g
  IsFormedExpr (NCon n args) = (is_upper_formed n ≡ true) × AreFormedArgs args
  IsFormedExpr (NPrim op es) = AreFormedExprs es
  IsFormedExpr (NFail t) = IsFormedTy t
  IsFormedExpr (NJoin r t js e) = IsFormedJoinGroup r js × IsFormedTy t × AreFormedJoins js × IsFormedExpr e
  IsFormedExpr (NJump i args) = AreFormedArgs args

  pub IsFormedArg : NArg → Type 0
  IsFormedArg (NATerm e) = IsFormedExpr e
  IsFormedArg (NAType t) = IsFormedTy t
  IsFormedArg (NACo g) = IsFormedCo g

  pub AreFormedArgs : NArgs → Type 0
  AreFormedArgs NoNArgs = ⊤
  AreFormedArgs (MoreNArgs a rest) = IsFormedArg a × AreFormedArgs rest

  pub AreFormedExprs : NExprs → Type 0
  AreFormedExprs NoNExprs = ⊤
  AreFormedExprs (MoreNExprs e rest) = IsFormedExpr e × AreFormedExprs rest

  pub AreFormedBinds : NBinds → Type 0
  AreFormedBinds NoNBinds = ⊤
  AreFormedBinds (MoreNBinds (NBound t e) rest) = (IsFormedTy t × IsFormedExpr e) × AreFormedBinds rest

  pub AreFormedJoins : NJoins → Type 0
  AreFormedJoins NoNJoins = ⊤
  AreFormedJoins (MoreNJoins (NJoined bs e) rest) = (AreFormedBinders bs × IsFormedExpr e) × AreFormedJoins rest

  pub AreFormedAlts : NAlts → Type 0
  AreFormedAlts NoNAlts = ⊤
  AreFormedAlts (MoreNAlts (NBranch h bs e) rest) = (IsFormedHead h bs × IsFormedExpr e) × AreFormedAlts rest

-- DECLARATIONS

-- the coercions of a constructor, and its types before them
abbrev pub AreFieldCoercions : List NBinder → Type 0
AreFieldCoercions [] = ⊤
AreFieldCoercions (NBValue t ∷ bs) = ⊥
AreFieldCoercions (NBType k ∷ bs) = ⊥
AreFieldCoercions (NBCo r t u ∷ bs) = IsFormedBinder (NBCo r t u) × AreFieldCoercions bs

abbrev pub AreFieldBinders : List NBinder → Type 0
AreFieldBinders [] = ⊤
AreFieldBinders (NBValue t ∷ bs) = ⊥
AreFieldBinders (NBType k ∷ bs) = AreFieldBinders bs
AreFieldBinders (NBCo r t u ∷ bs) = IsFormedBinder (NBCo r t u) × AreFieldCoercions bs

abbrev pub IsFormedCon : NConDecl → Type 0
IsFormedCon (NConOf n bs fields) = (is_upper_word n ≡ true) × AreFieldBinders bs × AreFormedTys fields

abbrev pub AreFormedCons : List NConDecl → Type 0
AreFormedCons [] = ⊤
AreFormedCons (c ∷ cs) = IsFormedCon c × AreFormedCons cs

abbrev pub IsFormedDecl : NDecl → Type 0
IsFormedDecl (NData n ps cs) = (is_upper_word n ≡ true) × AreFormedCons cs
IsFormedDecl (NNew n ps t con) = ((is_upper_word n ≡ true) × (is_upper_word con ≡ true)) × IsFormedTy t
IsFormedDecl (NFamily n ps k) = is_upper_word n ≡ true
IsFormedDecl (NAxiom n ps t u) = (is_upper_word n ≡ true) × IsFormedTy t × IsFormedTy u
IsFormedDecl (NDef n t e) = (is_lower_word n ≡ true) × IsFormedTy t × IsFormedExpr e
IsFormedDecl (NWrap n t e) = (is_lower_word n ≡ true) × IsFormedTy t × IsFormedExpr e

abbrev pub AreFormedDecls : List NDecl → Type 0
AreFormedDecls [] = ⊤
AreFormedDecls (d ∷ ds) = IsFormedDecl d × AreFormedDecls ds

abbrev pub IsFormedModule : NModule → Type 0
IsFormedModule (NModuleOf m imports exports hidden ds) =
    ((is_module_name m ≡ true) × (list_all is_module_name imports ≡ true)) × ((list_all is_word exports ≡ true) × (list_all is_word hidden ≡ true)) × AreFormedDecls ds

-- WITH WORDS

-- what the words in a nameless tree have to be, where those of binders may be any
abbrev pub bare_words : WordTests ℕ Ref Word
bare_words = record { variable = λ i. true; name = is_ref_formed; binder = λ w. true }
