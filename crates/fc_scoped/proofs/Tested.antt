-- The test tells what is scoped: of each piece, one line a form for both directions.
use Rattle.std.proofs.Common.{◌≡◌, ◌<◌, ◌&&◌, ℕ, nat_lt, Bool, true, not, List, [], ◌∷◌, Option, Some, None, if◌then◌else◌, refl, sym, ap, ◌∙◌}
use Rattle.std.specs.Cmp.Derive.{both_true}
use Rattle.std.specs.Str.{bytes_eq}
use Rattle.std.proofs.Math.Bool.{and-true}
use Rattle.std.proofs.lemmas.Bool.{and_parts, lt-ltb, ltb-true, not-true, not_from_false}
use Rattle.fc_syntax.specs.declared.expr.Head.{Head}
use Rattle.fc_syntax.specs.declared.expr.Head.TheVariants as head
use Rattle.fc_syntax.specs.Tree.{Word}
use Rattle.fc_model.specs.Declaring.{ncoercion_words, nterm_words, ntype_words, nwords_by}
use Rattle.fc_model.specs.Nameless.{NTy, NTVar, NTCon, NTInt, NTApp, NTFun, NTForall, NTCoForall}
use Rattle.fc_model.specs.Nameless.{NCo, NGVar, NGRefl, NGSym, NGTrans, NGTc, NGCapp, NGFun, NGAll, NGCoAll, NGInst, NGNth, NGLeft, NGRight, NGSub, NGAx, NGUniv, NCos, NoNCos, MoreNCos}
use Rattle.fc_model.specs.Nameless.{NBinder, NBValue, NBType, NBCo, NArg, NATerm, NAType, NACo, NBind, NBound, NJoinBind, NJoined, NAlt, NBranch}
use Rattle.fc_model.specs.Nameless.{NExpr, NLocal, NVar, NLit, NApp, NLam, NLet, NCase, NCast, NCon, NPrim, NFail, NJoin, NJump}
use Rattle.fc_model.specs.Nameless.{NExprs, NoNExprs, MoreNExprs, NArgs, NoNArgs, MoreNArgs, NBinds, NoNBinds, MoreNBinds, NJoins, NoNJoins, MoreNJoins, NAlts, NoNAlts, MoreNAlts}
use Rattle.fc_model.specs.Nameless.{NConDecl, NConOf, NDecl, NData, NNew, NFamily, NAxiom, NDef, NWrap, NModuleOf}
use Rattle.fc_model.specs.Resolution.{Top, WordSet, all_words, no_word, ntop_of, plus}
use Rattle.fc_model.specs.ResolutionRules.{AreDistinct, no_words_left, one_word_more}
use Rattle.fc_used_words.specs.Scoped.{Counts, IsKnownIn, Saying, is_meant, in_binder, in_binders, in_group, in_joins, in_parameters, in_type, in_value, nothing_around}
use Rattle.fc_used_words.specs.Scoped.{HoldsTy, HoldsTys, HoldsCo, HoldsCos, HoldsBinder, HoldsBinders, HoldsHead, HoldsExpr, HoldsArg, HoldsArgs, HoldsExprs, HoldsBind, HoldsBinds, HoldsJoin, HoldsJoins, HoldsAlt, HoldsAlts}
use Rattle.fc_used_words.specs.Scoped.{HoldsCon, HoldsCons, HoldsDecl, HoldsDecls}
use Rattle.fc_scoped.specs.Testing.{ScopedIsTested, are_distinct, word_scoped, ty_scoped, tys_scoped, co_scoped, cos_scoped, binder_scoped, binders_scoped, head_scoped}
use Rattle.fc_scoped.specs.Testing.{expr_scoped, arg_scoped, args_scoped, exprs_scoped, bind_scoped, binds_scoped, join_scoped, joins_scoped, alt_scoped, alts_scoped}
use Rattle.fc_scoped.specs.Testing.{con_scoped, cons_scoped, decl_scoped, decls_scoped}

-- TESTS

-- a test tells whether something holds
record Tells (P : Type 0) (b : Bool) : Type 0 where
  holds : P → b ≡ true
  back : b ≡ true → P

nothing : Tells (Unit {0}) true
nothing = record { holds = λ p. refl; back = λ h. tt }

two : {P Q : Type 0} {a b : Bool} → Tells P a → Tells Q b → Tells (P × Q) (a && b)
two {a = a} {b = b} p q = record { holds = λ h. both_true (p.holds h.0) (q.holds h.1); back = λ h. let w = and_parts a b h in (p.back w.0, q.back w.1) }

three : {P Q R : Type 0} {a b c : Bool} → Tells P a → Tells Q b → Tells R c → Tells (P × Q × R) (a && (b && c))
three p q r = let t = two p (two q r) in record { holds = λ h. t.holds (h.0, (h.1, h.2)); back = λ h. let w = t.back h in (w.0, w.1.0, w.1.1) }

four : {P Q R S : Type 0} {a b c d : Bool} → Tells P a → Tells Q b → Tells R c → Tells S d → Tells (P × Q × R × S) (a && (b && (c && d)))
four p q r s = let t = two p (three q r s) in record { holds = λ h. t.holds (h.0, (h.1, h.2, h.3)); back = λ h. let w = t.back h in (w.0, w.1.0, w.1.1, w.1.2) }

distance : (i many : ℕ) → Tells (i < many) (nat_lt i many)
distance i many = record { holds = lt-ltb i many; back = ltb-true i many }

-- WORDS

distinct_holds : {s : WordSet} {ws : List Word} → AreDistinct s ws → are_distinct s ws ≡ true
distinct_holds no_words_left = refl
distinct_holds (one_word_more new rest) = both_true (not_from_false _ new) (distinct_holds rest)

distinct_back : (s : WordSet) (ws : List Word) → are_distinct s ws ≡ true → AreDistinct s ws
distinct_back s [] h = no_words_left
distinct_back s (w ∷ ws) h = let p = and_parts (not (s w)) (are_distinct (plus w s) ws) h in one_word_more (not-true (s w) p.0) (distinct_back (plus w s) ws p.1)

distinct : (ws : List Word) → Tells (AreDistinct no_word ws) (are_distinct no_word ws)
distinct ws = record { holds = distinct_holds; back = distinct_back no_word ws }

module _ (m : Word) (imports exports hidden : List Word) (declared : List NDecl) where
  abbrev own : Top
  own = ntop_of (NModuleOf m imports exports hidden declared)

  abbrev said : Saying
  said = is_meant own

  -- NAMES: each module is taken to have every word

  word : (words : WordSet) (o : Option Word) (w : Word) → Tells (IsKnownIn own words all_words o w) (word_scoped own words o w)
  word words None w = record { holds = λ h. absurd h; back = λ h. absurd cc }
  word words (Some v) w =
      let same = ap (λ b. if bytes_eq v m then words w else b) (and-true (own.imports v)) in
      record { holds = λ h. sym same ∙ h; back = λ h. same ∙ h }

  -- TYPES

  ty : (k : Counts) (t : NTy) → Tells (HoldsTy said k t) (ty_scoped own k t)
  ty k (NTVar i) = distance i k.types
  ty k (NTCon n) = word own.types n.module n.text
  ty k NTInt = nothing
  ty k (NTApp t u) = two (ty k t) (ty k u)
  ty k (NTFun t u) = two (ty k t) (ty k u)
  ty k (NTForall a t) = ty (in_type k) t
  ty k (NTCoForall r t u v) = three (ty k t) (ty k u) (ty k v)

  tys : (k : Counts) (ts : List NTy) → Tells (HoldsTys said k ts) (tys_scoped own k ts)
  tys k [] = nothing
  tys k (t ∷ ts) = two (ty k t) (tys k ts)

  -- COERCIONS

  mutual
    co : (k : Counts) (g : NCo) → Tells (HoldsCo said k g) (co_scoped own k g)
    co k (NGVar i) = distance i k.coercions
    co k (NGRefl r t) = ty k t
    co k (NGSym g) = co k g
    co k (NGTrans g h) = two (co k g) (co k h)
    co k (NGTc r n gs) = two (word own.types n.module n.text) (cos k gs)
    co k (NGCapp g h) = two (co k g) (co k h)
    co k (NGFun g h) = two (co k g) (co k h)
    co k (NGAll a g) = co (in_type k) g
    co k (NGCoAll r s f g h) = three (co k f) (co k g) (co k h)
    co k (NGInst g h) = two (co k g) (co k h)
    co k (NGNth n g) = co k g
    co k (NGLeft g) = co k g
    co k (NGRight g) = co k g
    co k (NGSub g) = co k g
    co k (NGAx n gs) = two (word own.coercions n.module n.text) (cos k gs)
    co k (NGUniv t u) = two (ty k t) (ty k u)

    cos : (k : Counts) (gs : NCos) → Tells (HoldsCos said k gs) (cos_scoped own k gs)
    cos k NoNCos = nothing
    cos k (MoreNCos g gs) = two (co k g) (cos k gs)

  -- BINDERS

  binder : (k : Counts) (b : NBinder) → Tells (HoldsBinder said k b) (binder_scoped own k b)
  binder k (NBValue t) = ty k t
  binder k (NBType a) = nothing
  binder k (NBCo r t u) = two (ty k t) (ty k u)

  binders : (k : Counts) (bs : List NBinder) → Tells (HoldsBinders said k bs) (binders_scoped own k bs)
  binders k [] = nothing
  binders k (b ∷ bs) = two (binder k b) (binders (in_binder b k) bs)

  -- EXPRESSIONS

  of_head : (h : Head) → Tells (HoldsHead said h) (head_scoped own h)
  of_head head.Default = nothing
  of_head (head.Lit n) = nothing
  of_head (head.Con n) = word own.terms n.module n.text

  mutual
    expr : (k : Counts) (e : NExpr) → Tells (HoldsExpr said k e) (expr_scoped own k e)
    expr k (NLocal i) = distance i k.values
    expr k (NVar n) = word own.terms n.module n.text
    expr k (NLit n) = nothing
    expr k (NApp f a) = two (expr k f) (arg k a)
    expr k (NLam b e) = two (binder k b) (expr (in_binder b k) e)
    expr k (NLet r bs e) = two (binds (if r then in_group bs k else k) bs) (expr (in_group bs k) e)
    expr k (NCase e t u al) = four (expr k e) (ty k t) (ty k u) (alts (in_value k) al)
    expr k (NCast e g) = two (expr k e) (co k g)
    expr k (NCon n xs) = two (word own.terms n.module n.text) (args k xs)
    expr k (NPrim op es) = exprs k es
    expr k (NFail t) = ty k t
    expr k (NJoin r t js e) = three (ty k t) (joins (if r then in_joins js k else k) js) (expr (in_joins js k) e)
    expr k (NJump i xs) = two (distance i k.joins) (args k xs)

    arg : (k : Counts) (a : NArg) → Tells (HoldsArg said k a) (arg_scoped own k a)
    arg k (NATerm e) = expr k e
    arg k (NAType t) = ty k t
    arg k (NACo g) = co k g

    args : (k : Counts) (xs : NArgs) → Tells (HoldsArgs said k xs) (args_scoped own k xs)
    args k NoNArgs = nothing
    args k (MoreNArgs a rest) = two (arg k a) (args k rest)

    exprs : (k : Counts) (es : NExprs) → Tells (HoldsExprs said k es) (exprs_scoped own k es)
    exprs k NoNExprs = nothing
    exprs k (MoreNExprs e rest) = two (expr k e) (exprs k rest)

    bind : (k : Counts) (b : NBind) → Tells (HoldsBind said k b) (bind_scoped own k b)
    bind k (NBound t e) = two (ty k t) (expr k e)

    binds : (k : Counts) (bs : NBinds) → Tells (HoldsBinds said k bs) (binds_scoped own k bs)
    binds k NoNBinds = nothing
    binds k (MoreNBinds b rest) = two (bind k b) (binds k rest)

    join : (k : Counts) (j : NJoinBind) → Tells (HoldsJoin said k j) (join_scoped own k j)
    join k (NJoined bs e) = two (binders k bs) (expr (in_binders bs k) e)

    joins : (k : Counts) (js : NJoins) → Tells (HoldsJoins said k js) (joins_scoped own k js)
    joins k NoNJoins = nothing
    joins k (MoreNJoins j rest) = two (join k j) (joins k rest)

    alt : (k : Counts) (a : NAlt) → Tells (HoldsAlt said k a) (alt_scoped own k a)
    alt k (NBranch h bs e) = three (of_head h) (binders k bs) (expr (in_binders bs k) e)

    alts : (k : Counts) (al : NAlts) → Tells (HoldsAlts said k al) (alts_scoped own k al)
    alts k NoNAlts = nothing
    alts k (MoreNAlts a rest) = two (alt k a) (alts k rest)

  -- DECLARATIONS

  con : (k : Counts) (c : NConDecl) → Tells (HoldsCon said k c) (con_scoped own k c)
  con k (NConOf n bs ts) = two (binders k bs) (tys (in_binders bs k) ts)

  cons : (k : Counts) (cs : List NConDecl) → Tells (HoldsCons said k cs) (cons_scoped own k cs)
  cons k [] = nothing
  cons k (c ∷ cs) = two (con k c) (cons k cs)

  decl : (d : NDecl) → Tells (HoldsDecl said d) (decl_scoped own d)
  decl (NData n ps cs) = cons (in_parameters ps nothing_around) cs
  decl (NNew n ps t con) = ty (in_parameters ps nothing_around) t
  decl (NFamily n ps a) = nothing
  decl (NAxiom n ps t u) = two (ty (in_parameters ps nothing_around) t) (ty (in_parameters ps nothing_around) u)
  decl (NDef n t e) = two (ty nothing_around t) (expr nothing_around e)
  decl (NWrap n t e) = two (ty nothing_around t) (expr nothing_around e)

  decls : (ds : List NDecl) → Tells (HoldsDecls said ds) (decls_scoped own ds)
  decls [] = nothing
  decls (d ∷ ds) = two (decl d) (decls ds)

-- THE LAW

pub scoped_is_tested : ScopedIsTested
scoped_is_tested (NModuleOf m imports exports hidden ds) =
    let words = three (distinct (nwords_by ntype_words ds)) (distinct (nwords_by nterm_words ds)) (distinct (nwords_by ncoercion_words ds)) in
    let t = two words (decls m imports exports hidden ds ds) in
    (λ h. t.holds ((h.0, h.1, h.2), h.3), λ h. let w = t.back h in (w.0.0, w.0.1, w.0.2, w.1))
