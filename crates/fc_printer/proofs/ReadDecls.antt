-- Pieces read back: declarations.
use Rattle.std.proofs.Common.{◌≡◌, true, List, [], ◌∷◌, refl, sym, ◌∙◌}
use Rattle.std.specs.Prelude.{◌&&◌}
use Rattle.std.specs.List.{list_all}
use Rattle.std.proofs.lemmas.Bool.{and_parts, true≢false}
use Rattle.fc_syntax.specs.Tree.{Ty, Expr, Binder, BValue, BType, BCo, Param, ParamOf, Plain, PlainOf, ConDecl, ConOf, Decl, DData, DNew, DFamily, DAxiom, DDef, DWrap}
use Rattle.fc_model.specs.Words.{Tok, Close, Upper}
use Rattle.fc_model.specs.Grammar.{Part, Given, Steps, ◌▸◌, Many, AnUpper, AClose, AKind, AType, ARole, AnExpression, AParameter, APlainParameter, FieldBinders, ACoercionField, AConstructor, ADeclaration}
use Rattle.fc_model.specs.Reading.{read_steps}
use Rattle.fc_model.specs.Pieces.{Leaf, Pieces, NoPieces, MorePieces, piece_toks, pieces_toks}
use Rattle.fc_model.specs.Spelling.{Alone, kind_pieces, type_pieces, types_pieces, binders_pieces, expr_pieces, param_pieces, params_pieces, plain_pieces, plains_pieces, con_pieces, cons_pieces, decl_piece, role_tok}
use Rattle.fc_model.specs.Formed.{are_field_binders, are_field_coercions, is_binder_formed, is_con_formed, is_decl_formed, is_equality_role, is_expr_formed, is_lower_word, is_param_formed, is_plain_formed, is_type_formed, is_upper_word}
use Rattle.fc_printer.proofs.ReadKinds.{Begins, ReadsBack, goes_on, kind_back, role_back, type_back, types_back}
use Rattle.fc_printer.proofs.ReadCoercions.{co_binder_back}
use Rattle.fc_printer.proofs.ReadExprs.{expr_back}

param_back : (p : Param) → ReadsBack AParameter (param_pieces p) p
param_back (ParamOf a k r) ps rest q f =
    let more = Close ∷ pieces_toks ps rest in
    kind_back k (MorePieces (Leaf (role_tok r)) NoPieces) more q (λ k. ARole ▸ λ r. AClose ▸ λ _. f (ParamOf a k r)) ∙ role_back r more q (λ r. AClose ▸ λ _. f (ParamOf a k r))

param_begins : (p : Param) (ps : Pieces) (rest : List Tok) → Begins (pieces_toks (param_pieces p ps) rest)
param_begins (ParamOf a k r) ps rest = tt

params_back : (xs : List Param) (rest : List Tok) (q : Part) (f : List Param → Steps (Given q)) → read_steps (pieces_toks (params_pieces xs NoPieces) (Close ∷ rest)) (Many AParameter ▸ f) ≡ read_steps rest (f xs)
params_back [] rest q f = refl
params_back (x ∷ xs) rest q f =
    goes_on (pieces_toks (params_pieces (x ∷ xs) NoPieces) (Close ∷ rest)) (param_begins x (params_pieces xs NoPieces) (Close ∷ rest)) AParameter q f
    ∙ param_back x (params_pieces xs NoPieces) (Close ∷ rest) q (λ y. Many AParameter ▸ λ ys. f (y ∷ ys)) ∙ params_back xs rest q (λ ys. f (x ∷ ys))

plain_back : (p : Plain) → ReadsBack APlainParameter (plain_pieces p) p
plain_back (PlainOf a k) ps rest q f = kind_back k NoPieces (Close ∷ pieces_toks ps rest) q (λ k. AClose ▸ λ _. f (PlainOf a k))

plain_begins : (p : Plain) (ps : Pieces) (rest : List Tok) → Begins (pieces_toks (plain_pieces p ps) rest)
plain_begins (PlainOf a k) ps rest = tt

plains_back : (xs : List Plain) (rest : List Tok) (q : Part) (f : List Plain → Steps (Given q)) → read_steps (pieces_toks (plains_pieces xs NoPieces) (Close ∷ rest)) (Many APlainParameter ▸ f) ≡ read_steps rest (f xs)
plains_back [] rest q f = refl
plains_back (x ∷ xs) rest q f =
    goes_on (pieces_toks (plains_pieces (x ∷ xs) NoPieces) (Close ∷ rest)) (plain_begins x (plains_pieces xs NoPieces) (Close ∷ rest)) APlainParameter q f
    ∙ plain_back x (plains_pieces xs NoPieces) (Close ∷ rest) q (λ y. Many APlainParameter ▸ λ ys. f (y ∷ ys)) ∙ plains_back xs rest q (λ ys. f (x ∷ ys))

-- the binders of a constructor
field_coercions_back : (bs : List Binder) → are_field_coercions bs ≡ true → (rest : List Tok) (q : Part) (f : List Binder → Steps (Given q))
    → read_steps (pieces_toks (binders_pieces bs NoPieces) (Close ∷ rest)) (Many ACoercionField ▸ f) ≡ read_steps rest (f bs)
field_coercions_back [] h rest q f = refl
field_coercions_back (BValue x t ∷ bs) h rest q f = absurd (true≢false (sym h))
field_coercions_back (BType a k ∷ bs) h rest q f = absurd (true≢false (sym h))
field_coercions_back (BCo c r t u ∷ bs) h rest q f =
    let p = and_parts (is_binder_formed (BCo c r t u)) (are_field_coercions bs) h in
    goes_on (pieces_toks (binders_pieces (BCo c r t u ∷ bs) NoPieces) (Close ∷ rest)) tt ACoercionField q f
    ∙ co_binder_back c r t u (and_parts (is_lower_word c) (is_equality_role r && (is_type_formed t && is_type_formed u)) p.0).1 (pieces_toks (binders_pieces bs NoPieces) (Close ∷ rest)) q (λ r t u. Many ACoercionField ▸ λ bs. f (BCo c r t u ∷ bs))
    ∙ field_coercions_back bs p.1 rest q (λ bs. f (BCo c r t u ∷ bs))

field_binders_back : (bs : List Binder) → are_field_binders bs ≡ true → (rest : List Tok) (q : Part) (f : List Binder → Steps (Given q))
    → read_steps (pieces_toks (binders_pieces bs NoPieces) (Close ∷ rest)) (FieldBinders ▸ f) ≡ read_steps rest (f bs)
field_binders_back [] h rest q f = refl
field_binders_back (BValue x t ∷ bs) h rest q f = absurd (true≢false (sym h))
field_binders_back (BType a k ∷ bs) h rest q f =
    let p = and_parts (is_lower_word a) (are_field_binders bs) h in
    kind_back k NoPieces (Close ∷ pieces_toks (binders_pieces bs NoPieces) (Close ∷ rest)) q (λ k. AClose ▸ λ _. FieldBinders ▸ λ bs. f (BType a k ∷ bs))
    ∙ field_binders_back bs p.1 rest q (λ bs. f (BType a k ∷ bs))
field_binders_back (BCo c r t u ∷ bs) h rest q f =
    let p = and_parts (is_binder_formed (BCo c r t u)) (are_field_coercions bs) h in
    co_binder_back c r t u (and_parts (is_lower_word c) (is_equality_role r && (is_type_formed t && is_type_formed u)) p.0).1 (pieces_toks (binders_pieces bs NoPieces) (Close ∷ rest)) q (λ r t u. Many ACoercionField ▸ λ bs. f (BCo c r t u ∷ bs))
    ∙ field_coercions_back bs p.1 rest q (λ bs. f (BCo c r t u ∷ bs))

con_back : (c : ConDecl) → is_con_formed c ≡ true → ReadsBack AConstructor (con_pieces c) c
con_back (ConOf n bs fields) h ps rest q f =
    let p = and_parts (are_field_binders bs) (list_all is_type_formed fields) (and_parts (is_upper_word n) (are_field_binders bs && list_all is_type_formed fields) h).1 in
    let more = pieces_toks ps rest in
    field_binders_back bs p.0 (pieces_toks (types_pieces fields NoPieces) (Close ∷ more)) q (λ bs. Many AType ▸ λ fields. f (ConOf n bs fields)) ∙ types_back fields p.1 more q (λ fields. f (ConOf n bs fields))

con_begins : (c : ConDecl) (ps : Pieces) (rest : List Tok) → Begins (pieces_toks (con_pieces c ps) rest)
con_begins (ConOf n bs fields) ps rest = tt

cons_back : (xs : List ConDecl) → list_all is_con_formed xs ≡ true → (rest : List Tok) (q : Part) (f : List ConDecl → Steps (Given q)) → read_steps (pieces_toks (cons_pieces xs NoPieces) (Close ∷ rest)) (Many AConstructor ▸ f) ≡ read_steps rest (f xs)
cons_back [] h rest q f = refl
cons_back (x ∷ xs) h rest q f =
    let g = and_parts (is_con_formed x) (list_all is_con_formed xs) h in
    goes_on (pieces_toks (cons_pieces (x ∷ xs) NoPieces) (Close ∷ rest)) (con_begins x (cons_pieces xs NoPieces) (Close ∷ rest)) AConstructor q f
    ∙ con_back x g.0 (cons_pieces xs NoPieces) (Close ∷ rest) q (λ y. Many AConstructor ▸ λ ys. f (y ∷ ys)) ∙ cons_back xs g.1 rest q (λ ys. f (x ∷ ys))

-- a type and an expression, which are what is defined
def_back : (t : Ty) (e : Expr) → (is_type_formed t && is_expr_formed e) ≡ true → (rest : List Tok) (q : Part) (f : Ty → Expr → Steps (Given q))
    → read_steps (pieces_toks (type_pieces Alone t (expr_pieces Alone e NoPieces)) (Close ∷ rest)) (AType ▸ λ t. AnExpression ▸ λ e. AClose ▸ λ _. f t e) ≡ read_steps rest (f t e)
def_back t e h rest q f =
    let p = and_parts (is_type_formed t) (is_expr_formed e) h in
    type_back t p.0 (expr_pieces Alone e NoPieces) (Close ∷ rest) q (λ t. AnExpression ▸ λ e. AClose ▸ λ _. f t e) ∙ expr_back e p.1 NoPieces (Close ∷ rest) q (λ e. AClose ▸ λ _. f t e)

pub decl_back : (d : Decl) → is_decl_formed d ≡ true → (rest : List Tok) (q : Part) (f : Decl → Steps (Given q)) → read_steps (piece_toks (decl_piece d) rest) (ADeclaration ▸ f) ≡ read_steps rest (f d)
decl_back (DData n ps cs) h rest q f =
    let p = and_parts (is_upper_word n) (list_all is_param_formed ps && list_all is_con_formed cs) h in
    let p' = and_parts (list_all is_param_formed ps) (list_all is_con_formed cs) p.1 in
    params_back ps (pieces_toks (cons_pieces cs NoPieces) (Close ∷ rest)) q (λ ps. Many AConstructor ▸ λ cs. f (DData n ps cs)) ∙ cons_back cs p'.1 rest q (λ cs. f (DData n ps cs))
decl_back (DNew n ps t c) h rest q f =
    let p = and_parts (is_upper_word n && is_upper_word c) (list_all is_param_formed ps && is_type_formed t) h in
    let p' = and_parts (list_all is_param_formed ps) (is_type_formed t) p.1 in
    let last = MorePieces (Leaf (Upper c)) NoPieces in
    params_back ps (pieces_toks (type_pieces Alone t last) (Close ∷ rest)) q (λ ps. AType ▸ λ t. AnUpper ▸ λ c. AClose ▸ λ _. f (DNew n ps t c))
    ∙ type_back t p'.1 last (Close ∷ rest) q (λ t. AnUpper ▸ λ c. AClose ▸ λ _. f (DNew n ps t c))
decl_back (DFamily n ps k) h rest q f =
    plains_back ps (pieces_toks (kind_pieces k NoPieces) (Close ∷ rest)) q (λ ps. AKind ▸ λ k. AClose ▸ λ _. f (DFamily n ps k)) ∙ kind_back k NoPieces (Close ∷ rest) q (λ k. AClose ▸ λ _. f (DFamily n ps k))
decl_back (DAxiom n ps t u) h rest q f =
    let p = and_parts (is_upper_word n) (list_all is_plain_formed ps && (is_type_formed t && is_type_formed u)) h in
    let p' = and_parts (is_type_formed t) (is_type_formed u) (and_parts (list_all is_plain_formed ps) (is_type_formed t && is_type_formed u) p.1).1 in
    plains_back ps (pieces_toks (type_pieces Alone t (type_pieces Alone u NoPieces)) (Close ∷ rest)) q (λ ps. AType ▸ λ t. AType ▸ λ u. AClose ▸ λ _. f (DAxiom n ps t u))
    ∙ type_back t p'.0 (type_pieces Alone u NoPieces) (Close ∷ rest) q (λ t. AType ▸ λ u. AClose ▸ λ _. f (DAxiom n ps t u)) ∙ type_back u p'.1 NoPieces (Close ∷ rest) q (λ u. AClose ▸ λ _. f (DAxiom n ps t u))
decl_back (DDef n t e) h rest q f = def_back t e (and_parts (is_lower_word n) (is_type_formed t && is_expr_formed e) h).1 rest q (λ t e. f (DDef n t e))
decl_back (DWrap n t e) h rest q f = def_back t e (and_parts (is_lower_word n) (is_type_formed t && is_expr_formed e) h).1 rest q (λ t e. f (DWrap n t e))
