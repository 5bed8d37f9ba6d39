-- A rewrite at one place of an expression: one part in place of another, and all else as it was.
use Rattle.std.specs.Prelude.{ℕ, true, false, List}
use Rattle.fc_syntax.specs.declared.expr.Head.{Head}
use Rattle.fc_syntax.specs.declared.ty.Name.{Name}
use Rattle.fc_model.specs.Nameless.{NTy, NCo, NBinder, NExpr, NApp, NLam, NLet, NCase, NCast, NCon, NJoin, NJump, NArg, NATerm, NBound, NJoined, NBranch, NArgs, MoreNArgs, NBinds, MoreNBinds, NJoins}
use Rattle.fc_model.specs.Nameless.{MoreNJoins, NAlts, MoreNAlts}
use Rattle.fc_row_places.specs.NamelessChanges.{NPartRelation}
use Rattle.fc_row_places.specs.NamelessPlaces.{NPlace, NBelow, NBelowAll, NPastLet, NPastGroup, NPastJoin, NPastJoins, NInAlt}
use Rattle.fc_row_places.specs.NamelessRows.{single_bind, single_join}

mutual
  -- a rewrite at one place, below c
  pub data AtOnePlace (R : NPartRelation) : NPlace → NExpr → NExpr → Type 0 where
    at_here : {c : NPlace} {e d : NExpr} → R c e d → AtOnePlace R c e d
    at_head : {c : NPlace} {f g : NExpr} {a : NArg} → AtOnePlace R c f g → AtOnePlace R c (NApp f a) (NApp g a)
    at_argument : {c : NPlace} {f a b : NExpr} → AtOnePlace R c a b → AtOnePlace R c (NApp f (NATerm a)) (NApp f (NATerm b))
    at_lambda : {c : NPlace} {b : NBinder} {e d : NExpr} → AtOnePlace R (NBelow b c) e d → AtOnePlace R c (NLam b e) (NLam b d)
    at_right : {c : NPlace} {t : NTy} {a b e : NExpr} → AtOnePlace R c a b → AtOnePlace R c (NLet false (single_bind t a) e) (NLet false (single_bind t b) e)
    at_body : {c : NPlace} {t : NTy} {a e d : NExpr} → AtOnePlace R (NPastLet t a a c) e d → AtOnePlace R c (NLet false (single_bind t a) e) (NLet false (single_bind t a) d)
    at_group_right : {c : NPlace} {bs cs : NBinds} {e : NExpr} → AtOneBind R (NPastGroup bs cs c) bs cs → AtOnePlace R c (NLet true bs e) (NLet true cs e)
    at_group_body : {c : NPlace} {bs : NBinds} {e d : NExpr} → AtOnePlace R (NPastGroup bs bs c) e d → AtOnePlace R c (NLet true bs e) (NLet true bs d)
    at_scrutinee : {c : NPlace} {s t : NExpr} {xt rt : NTy} {alts : NAlts} → AtOnePlace R c s t → AtOnePlace R c (NCase s xt rt alts) (NCase t xt rt alts)
    at_alternative : {c : NPlace} {s : NExpr} {xt rt : NTy} {alts blts : NAlts} → AtOneAlt R xt s alts c alts blts → AtOnePlace R c (NCase s xt rt alts) (NCase s xt rt blts)
    at_cast : {c : NPlace} {e d : NExpr} {g : NCo} → AtOnePlace R c e d → AtOnePlace R c (NCast e g) (NCast d g)
    at_field : {c : NPlace} {n : Name} {args brgs : NArgs} → AtOneArg R c args brgs → AtOnePlace R c (NCon n args) (NCon n brgs)
    at_jump_argument : {c : NPlace} {i : ℕ} {args brgs : NArgs} → AtOneArg R c args brgs → AtOnePlace R c (NJump i args) (NJump i brgs)
    at_join_right : {c : NPlace} {t : NTy} {ps : List NBinder} {a b e : NExpr} → AtOnePlace R (NBelowAll ps c) a b
        → AtOnePlace R c (NJoin false t (single_join ps a) e) (NJoin false t (single_join ps b) e)
    at_join_body : {c : NPlace} {t : NTy} {ps : List NBinder} {a e d : NExpr} → AtOnePlace R (NPastJoin ps a a c) e d
        → AtOnePlace R c (NJoin false t (single_join ps a) e) (NJoin false t (single_join ps a) d)
    at_joins_right : {c : NPlace} {t : NTy} {js ks : NJoins} {e : NExpr} → AtOneJoin R (NPastJoins js ks c) js ks → AtOnePlace R c (NJoin true t js e) (NJoin true t ks e)
    at_joins_body : {c : NPlace} {t : NTy} {js : NJoins} {e d : NExpr} → AtOnePlace R (NPastJoins js js c) e d → AtOnePlace R c (NJoin true t js e) (NJoin true t js d)

  pub data AtOneArg (R : NPartRelation) : NPlace → NArgs → NArgs → Type 0 where
    first_arg : {c : NPlace} {a b : NExpr} {rest : NArgs} → AtOnePlace R c a b → AtOneArg R c (MoreNArgs (NATerm a) rest) (MoreNArgs (NATerm b) rest)
    later_arg : {c : NPlace} {a : NArg} {rest more : NArgs} → AtOneArg R c rest more → AtOneArg R c (MoreNArgs a rest) (MoreNArgs a more)

  pub data AtOneBind (R : NPartRelation) : NPlace → NBinds → NBinds → Type 0 where
    first_bind : {c : NPlace} {t : NTy} {a b : NExpr} {rest : NBinds} → AtOnePlace R c a b → AtOneBind R c (MoreNBinds (NBound t a) rest) (MoreNBinds (NBound t b) rest)
    later_bind : {c : NPlace} {t : NTy} {a : NExpr} {rest more : NBinds} → AtOneBind R c rest more → AtOneBind R c (MoreNBinds (NBound t a) rest) (MoreNBinds (NBound t a) more)

  pub data AtOneJoin (R : NPartRelation) : NPlace → NJoins → NJoins → Type 0 where
    first_join : {c : NPlace} {ps : List NBinder} {a b : NExpr} {rest : NJoins} → AtOnePlace R (NBelowAll ps c) a b → AtOneJoin R c (MoreNJoins (NJoined ps a) rest) (MoreNJoins (NJoined ps b) rest)
    later_join : {c : NPlace} {ps : List NBinder} {a : NExpr} {rest more : NJoins} → AtOneJoin R c rest more → AtOneJoin R c (MoreNJoins (NJoined ps a) rest) (MoreNJoins (NJoined ps a) more)

  -- of a case of s with all its alternatives
  pub data AtOneAlt (R : NPartRelation) : NTy → NExpr → NAlts → NPlace → NAlts → NAlts → Type 0 where
    first_alt : {xt : NTy} {s : NExpr} {all : NAlts} {c : NPlace} {h : Head} {bs : List NBinder} {a b : NExpr} {rest : NAlts} → AtOnePlace R (NInAlt xt s s all h bs c) a b
        → AtOneAlt R xt s all c (MoreNAlts (NBranch h bs a) rest) (MoreNAlts (NBranch h bs b) rest)
    later_alt : {xt : NTy} {s : NExpr} {all : NAlts} {c : NPlace} {h : Head} {bs : List NBinder} {a : NExpr} {rest more : NAlts} → AtOneAlt R xt s all c rest more
        → AtOneAlt R xt s all c (MoreNAlts (NBranch h bs a) rest) (MoreNAlts (NBranch h bs a) more)
