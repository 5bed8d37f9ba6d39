-- The pieces of a formed tree can be printed.
use Rattle.std.proofs.Common.{◌≡◌, true, List, [], ◌∷◌, refl, Option, Some, None}
use Rattle.std.specs.Prelude.{◌&&◌, ◌^◌, nat_lt}
use Rattle.std.specs.List.{list_all}
use Rattle.std.proofs.lemmas.Bool.{and_parts}
use Rattle.fc_syntax.specs.declared.ty.Name.{Name}
use Rattle.fc_syntax.specs.declared.ty.Role.{Role}
use Rattle.fc_syntax.specs.declared.ty.Role.TheVariants as role
use Rattle.fc_syntax.specs.declared.expr.PrimOp.{PrimOp}
use Rattle.fc_syntax.specs.declared.expr.PrimOp.TheVariants as op
use Rattle.fc_syntax.specs.Tree.{Word, Kind, KStar, KHash, KArrow, Ty, TVar, TCon, TInt, TApp, TFun, TForall, TCoForall}
use Rattle.fc_syntax.specs.Tree.{Co, GVar, GRefl, GSym, GTrans, GTc, GCapp, GFun, GAll, GCoAll, GInst, GNth, GLeft, GRight, GSub, GAx, GUniv, Cos, NoCos, MoreCos, Binder, BValue, BType, BCo}
use Rattle.fc_model.specs.Words.{Lower, LowerOf, Upper, UpperOf, keyword_of}
use Rattle.fc_model.specs.Pieces.{Pieces, NoPieces}
use Rattle.fc_model.specs.Spelling.{Position, Alone, AsHead, Result, kind_pieces, type_pieces, types_pieces, co_pieces, cos_pieces, binder_pieces, binders_pieces, role_tok, upper_tok, lower_tok, operator_tok}
use Rattle.fc_model.specs.Formed.{are_cos_formed, are_some_cos, is_binder_formed, is_co_formed, is_equality_role, is_lower_formed, is_lower_word, is_module_formed, is_type_formed, is_upper_formed, is_upper_word}
use Rattle.fc_printer.proofs.Printed.{ArePrintable, is_tok_formed}

-- words
pub role_leaf : (r : Role) → is_tok_formed (role_tok r) ≡ true
unfolding keyword_of
role_leaf role.N = refl
role_leaf role.R = refl
role_leaf role.P = refl

pub upper_leaf : (n : Name) → is_upper_formed n ≡ true → is_tok_formed (upper_tok n) ≡ true
upper_leaf n h = at n.module h
  where
    at : (o : Option Word) → (is_module_formed o && is_upper_word n.text) ≡ true → is_tok_formed (elim o [ None ↦ Upper n.text | Some m ↦ UpperOf m n.text ]) ≡ true
    at None h = h
    at (Some m) h = h

pub lower_leaf : (n : Name) → is_lower_formed n ≡ true → is_tok_formed (lower_tok n) ≡ true
lower_leaf n h = at n.module h
  where
    at : (o : Option Word) → (is_module_formed o && is_lower_word n.text) ≡ true → is_tok_formed (elim o [ None ↦ Lower n.text | Some m ↦ LowerOf m n.text ]) ≡ true
    at None h = h
    at (Some m) h = h

pub operator_leaf : (o : PrimOp) → is_tok_formed (operator_tok o) ≡ true
operator_leaf op.Quot = refl
operator_leaf op.Rem = refl
operator_leaf o = refl

-- kinds and types
pub kind_leaves : (k : Kind) (more : Pieces) → ArePrintable more → ArePrintable (kind_pieces k more)
kind_leaves KStar more m = (refl, m)
kind_leaves KHash more m = (refl, m)
kind_leaves (KArrow k l) more m = ((refl, kind_leaves k (kind_pieces l NoPieces) (kind_leaves l NoPieces tt)), m)

pub type_leaves : (at : Position) (t : Ty) → is_type_formed t ≡ true → (more : Pieces) → ArePrintable more → ArePrintable (type_pieces at t more)
type_leaves at (TVar a) h more m = (h, m)
type_leaves at (TCon n) h more m = (upper_leaf n h, m)
type_leaves at TInt h more m = (refl, m)
type_leaves AsHead (TApp t u) h more m =
    let g = and_parts (is_type_formed t) (is_type_formed u) h in
    type_leaves AsHead t g.0 (type_pieces Alone u more) (type_leaves Alone u g.1 more m)
type_leaves at (TApp t u) h more m =
    let g = and_parts (is_type_formed t) (is_type_formed u) h in
    (type_leaves AsHead t g.0 (type_pieces Alone u NoPieces) (type_leaves Alone u g.1 NoPieces tt), m)
type_leaves Result (TFun t u) h more m =
    let g = and_parts (is_type_formed t) (is_type_formed u) h in
    type_leaves Alone t g.0 (type_pieces Result u more) (type_leaves Result u g.1 more m)
type_leaves at (TFun t u) h more m =
    let g = and_parts (is_type_formed t) (is_type_formed u) h in
    ((refl, type_leaves Alone t g.0 (type_pieces Result u NoPieces) (type_leaves Result u g.1 NoPieces tt)), m)
type_leaves at (TForall a k t) h more m =
    let g = and_parts (is_lower_word a) (is_type_formed t) h in
    ((refl, ((g.0, kind_leaves k NoPieces tt), type_leaves Alone t g.1 NoPieces tt)), m)
type_leaves at (TCoForall r t u v) h more m =
    let g = and_parts (is_equality_role r) (is_type_formed t && (is_type_formed u && is_type_formed v)) h in
    let g' = and_parts (is_type_formed t) (is_type_formed u && is_type_formed v) g.1 in
    let g'' = and_parts (is_type_formed u) (is_type_formed v) g'.1 in
    let last = type_pieces Alone v NoPieces in
    ((refl, (role_leaf r, type_leaves Alone t g'.0 (type_pieces Alone u last) (type_leaves Alone u g''.0 last (type_leaves Alone v g''.1 NoPieces tt)))), m)

pub types_leaves : (ts : List Ty) → list_all is_type_formed ts ≡ true → ArePrintable (types_pieces ts NoPieces)
types_leaves [] h = tt
types_leaves (t ∷ ts) h = let g = and_parts (is_type_formed t) (list_all is_type_formed ts) h in type_leaves Alone t g.0 (types_pieces ts NoPieces) (types_leaves ts g.1)

-- coercions
mutual
  pub co_leaves : (g : Co) → is_co_formed g ≡ true → (more : Pieces) → ArePrintable more → ArePrintable (co_pieces g more)
  co_leaves (GVar c) e more m = (e, m)
  co_leaves (GRefl r t) e more m = ((refl, (role_leaf r, type_leaves Alone t e NoPieces tt)), m)
  co_leaves (GSym g) e more m = ((refl, co_leaves g e NoPieces tt), m)
  co_leaves (GTrans g h) e more m = let p = and_parts (is_co_formed g) (is_co_formed h) e in ((refl, co_leaves g p.0 (co_pieces h NoPieces) (co_leaves h p.1 NoPieces tt)), m)
  co_leaves (GTc r n gs) e more m =
      let p = and_parts (is_upper_formed n) (are_some_cos gs && are_cos_formed gs) (and_parts (is_equality_role r) (is_upper_formed n && (are_some_cos gs && are_cos_formed gs)) e).1 in
      ((refl, (role_leaf r, (upper_leaf n p.0, cos_leaves gs (and_parts (are_some_cos gs) (are_cos_formed gs) p.1).1))), m)
  co_leaves (GCapp g h) e more m = let p = and_parts (is_co_formed g) (is_co_formed h) e in ((refl, co_leaves g p.0 (co_pieces h NoPieces) (co_leaves h p.1 NoPieces tt)), m)
  co_leaves (GFun g h) e more m = let p = and_parts (is_co_formed g) (is_co_formed h) e in ((refl, co_leaves g p.0 (co_pieces h NoPieces) (co_leaves h p.1 NoPieces tt)), m)
  co_leaves (GAll a k g) e more m = let p = and_parts (is_lower_word a) (is_co_formed g) e in ((refl, ((p.0, kind_leaves k NoPieces tt), co_leaves g p.1 NoPieces tt)), m)
  co_leaves (GCoAll r s g h k) e more m =
      let p = and_parts (is_equality_role r && is_equality_role s) (is_co_formed g && (is_co_formed h && is_co_formed k)) e in
      let p' = and_parts (is_co_formed g) (is_co_formed h && is_co_formed k) p.1 in
      let p'' = and_parts (is_co_formed h) (is_co_formed k) p'.1 in
      let last = co_pieces k NoPieces in
      ((refl, (role_leaf r, (role_leaf s, co_leaves g p'.0 (co_pieces h last) (co_leaves h p''.0 last (co_leaves k p''.1 NoPieces tt))))), m)
  co_leaves (GInst g h) e more m = let p = and_parts (is_co_formed g) (is_co_formed h) e in ((refl, co_leaves g p.0 (co_pieces h NoPieces) (co_leaves h p.1 NoPieces tt)), m)
  co_leaves (GNth n g) e more m = let p = and_parts (nat_lt n (10 ^ 9)) (is_co_formed g) e in ((refl, (p.0, co_leaves g p.1 NoPieces tt)), m)
  co_leaves (GLeft g) e more m = ((refl, co_leaves g e NoPieces tt), m)
  co_leaves (GRight g) e more m = ((refl, co_leaves g e NoPieces tt), m)
  co_leaves (GSub g) e more m = ((refl, co_leaves g e NoPieces tt), m)
  co_leaves (GAx n gs) e more m = let p = and_parts (is_upper_formed n) (are_cos_formed gs) e in ((refl, (upper_leaf n p.0, cos_leaves gs p.1)), m)
  co_leaves (GUniv t u) e more m =
      let p = and_parts (is_type_formed t) (is_type_formed u) e in
      ((refl, type_leaves Alone t p.0 (type_pieces Alone u NoPieces) (type_leaves Alone u p.1 NoPieces tt)), m)

  cos_leaves : (gs : Cos) → are_cos_formed gs ≡ true → ArePrintable (cos_pieces gs NoPieces)
  cos_leaves NoCos e = tt
  cos_leaves (MoreCos g gs) e = let p = and_parts (is_co_formed g) (are_cos_formed gs) e in co_leaves g p.0 (cos_pieces gs NoPieces) (cos_leaves gs p.1)

-- binders
pub binder_leaves : (b : Binder) → is_binder_formed b ≡ true → (more : Pieces) → ArePrintable more → ArePrintable (binder_pieces b more)
binder_leaves (BValue x t) e more m = let p = and_parts (is_lower_word x) (is_type_formed t) e in ((p.0, type_leaves Alone t p.1 NoPieces tt), m)
binder_leaves (BType a k) e more m = ((refl, (e, kind_leaves k NoPieces tt)), m)
binder_leaves (BCo c r t u) e more m =
    let p = and_parts (is_lower_word c) (is_equality_role r && (is_type_formed t && is_type_formed u)) e in
    let q = and_parts (is_type_formed t) (is_type_formed u) (and_parts (is_equality_role r) (is_type_formed t && is_type_formed u) p.1).1 in
    ((refl, (p.0, (role_leaf r, type_leaves Alone t q.0 (type_pieces Alone u NoPieces) (type_leaves Alone u q.1 NoPieces tt)))), m)

pub binders_leaves : (bs : List Binder) → list_all is_binder_formed bs ≡ true → ArePrintable (binders_pieces bs NoPieces)
binders_leaves [] h = tt
binders_leaves (b ∷ bs) h = let g = and_parts (is_binder_formed b) (list_all is_binder_formed bs) h in binder_leaves b g.0 (binders_pieces bs NoPieces) (binders_leaves bs g.1)
