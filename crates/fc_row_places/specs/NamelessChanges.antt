-- A change of parts of the nameless tree: two expressions that differ in parts related by R, each at its place. It is the compatible
-- closure of R.
use Rattle.std.specs.Prelude.{◌≡◌, ℕ, true, false, List}
use Rattle.fc_syntax.specs.declared.expr.Head.{Head}
use Rattle.fc_syntax.specs.declared.ty.Name.{Name}
use Rattle.fc_model.specs.Erasure.{sort_of, sort_of_type}
use Rattle.fc_model.specs.Nameless.{NTy, NCo, NBinder, NExpr, NApp, NLam, NLet, NCase, NCast, NCon, NJoin, NJump, NArg, NATerm, NBound, NJoined, NBranch, NArgs, MoreNArgs, NBinds, NoNBinds}
use Rattle.fc_model.specs.Nameless.{MoreNBinds, NJoins, NoNJoins, MoreNJoins, NAlts, MoreNAlts}
use Rattle.fc_model.specs.Terms.{Sort, Lifted}
use Rattle.fc_row_places.specs.NamelessPlaces.{NPlace, NBelow, NBelowAll, NPastLet, NPastGroup, NPastJoin, NPastJoins, NInAlt, scope_at}

-- a relation of parts at their places
abbrev pub NPartRelation : Type 1
NPartRelation = NPlace → NExpr → NExpr → Type 0

mutual
  pub data NChange (R : NPartRelation) : NPlace → NExpr → NExpr → Type 0 where
    nchange_here : {c : NPlace} {e d : NExpr} → R c e d → NChange R c e d
    nchange_same : {c : NPlace} {e : NExpr} → NChange R c e e
    nchange_in_application : {c : NPlace} {f g : NExpr} {a b : NArg} → NChange R c f g → NArgChange R c a b → NChange R c (NApp f a) (NApp g b)
    nchange_in_lambda : {c : NPlace} {b : NBinder} {e d : NExpr} → NChange R (NBelow b c) e d → NChange R c (NLam b e) (NLam b d)
    nchange_in_let : {c : NPlace} {t : NTy} {a b e d : NExpr} → NRightChange R c (sort_of_type t) a b → NChange R (NPastLet t a b c) e d
        → NChange R c (NLet false (MoreNBinds (NBound t a) NoNBinds) e) (NLet false (MoreNBinds (NBound t b) NoNBinds) d)
    nchange_in_group : {c : NPlace} {bs cs : NBinds} {e d : NExpr} → NBindsChange R (NPastGroup bs cs c) bs cs → NChange R (NPastGroup bs cs c) e d → NChange R c (NLet true bs e) (NLet true cs d)
    nchange_in_case : {c : NPlace} {s t : NExpr} {xt rt : NTy} {alts blts : NAlts} → NChange R c s t → NAltsChange R xt s t alts c alts blts → NChange R c (NCase s xt rt alts) (NCase t xt rt blts)
    nchange_in_cast : {c : NPlace} {e d : NExpr} {g : NCo} → NChange R c e d → NChange R c (NCast e g) (NCast d g)
    nchange_in_constructor : {c : NPlace} {n : Name} {args brgs : NArgs} → NArgsChange R c args brgs → NChange R c (NCon n args) (NCon n brgs)
    nchange_in_jump : {c : NPlace} {i : ℕ} {args brgs : NArgs} → NArgsChange R c args brgs → NChange R c (NJump i args) (NJump i brgs)
    nchange_in_join : {c : NPlace} {t : NTy} {ps : List NBinder} {a b e d : NExpr} → NChange R (NBelowAll ps c) a b → NChange R (NPastJoin ps a b c) e d
        → NChange R c (NJoin false t (MoreNJoins (NJoined ps a) NoNJoins) e) (NJoin false t (MoreNJoins (NJoined ps b) NoNJoins) d)
    nchange_in_joins : {c : NPlace} {t : NTy} {js ks : NJoins} {e d : NExpr} → NJoinsChange R (NPastJoins js ks c) js ks → NChange R (NPastJoins js ks c) e d
        → NChange R c (NJoin true t js e) (NJoin true t ks d)

  -- a lifted argument may change, and stays lifted
  pub data NArgChange (R : NPartRelation) : NPlace → NArg → NArg → Type 0 where
    narg_same : {c : NPlace} {a : NArg} → NArgChange R c a a
    narg_lifted : {c : NPlace} {a b : NExpr} → sort_of (scope_at c) a ≡ Lifted → sort_of (scope_at c) b ≡ Lifted → NChange R c a b → NArgChange R c (NATerm a) (NATerm b)

  pub data NArgsChange (R : NPartRelation) : NPlace → NArgs → NArgs → Type 0 where
    nargs_same : {c : NPlace} {args : NArgs} → NArgsChange R c args args
    nargs_more : {c : NPlace} {a b : NArg} {args brgs : NArgs} → NArgChange R c a b → NArgsChange R c args brgs → NArgsChange R c (MoreNArgs a args) (MoreNArgs b brgs)

  -- so may a lifted right side
  pub data NRightChange (R : NPartRelation) : NPlace → Sort → NExpr → NExpr → Type 0 where
    nright_same : {c : NPlace} {s : Sort} {a : NExpr} → NRightChange R c s a a
    nright_lifted : {c : NPlace} {s : Sort} {a b : NExpr} → s ≡ Lifted → NChange R c a b → NRightChange R c s a b

  pub data NBindsChange (R : NPartRelation) : NPlace → NBinds → NBinds → Type 0 where
    nbinds_same : {c : NPlace} {bs : NBinds} → NBindsChange R c bs bs
    nbinds_more : {c : NPlace} {t : NTy} {a b : NExpr} {bs cs : NBinds} → NChange R c a b → NBindsChange R c bs cs → NBindsChange R c (MoreNBinds (NBound t a) bs) (MoreNBinds (NBound t b) cs)

  pub data NJoinsChange (R : NPartRelation) : NPlace → NJoins → NJoins → Type 0 where
    njoins_same : {c : NPlace} {js : NJoins} → NJoinsChange R c js js
    njoins_more : {c : NPlace} {ps : List NBinder} {a b : NExpr} {js ks : NJoins} → NChange R (NBelowAll ps c) a b → NJoinsChange R c js ks
        → NJoinsChange R c (MoreNJoins (NJoined ps a) js) (MoreNJoins (NJoined ps b) ks)

  -- of a case of s on the left and t on the right, with all its alternatives
  pub data NAltsChange (R : NPartRelation) : NTy → NExpr → NExpr → NAlts → NPlace → NAlts → NAlts → Type 0 where
    nalts_same : {xt : NTy} {s t : NExpr} {all : NAlts} {c : NPlace} {alts : NAlts} → NAltsChange R xt s t all c alts alts
    nalts_more : {xt : NTy} {s t : NExpr} {all : NAlts} {c : NPlace} {h : Head} {bs : List NBinder} {a b : NExpr} {alts blts : NAlts} → NChange R (NInAlt xt s t all h bs c) a b
        → NAltsChange R xt s t all c alts blts → NAltsChange R xt s t all c (MoreNAlts (NBranch h bs a) alts) (MoreNAlts (NBranch h bs b) blts)
