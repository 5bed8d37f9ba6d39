-- The erasure of an expression mentions what the expression does.
use Rattle.std.proofs.Common.{true, false, List, [], ◌∷◌, ◌++◌}
use Rattle.fc_syntax.specs.declared.ty.Name.{Name}
use Rattle.fc_model.specs.Erasure.{Scope, applied, below_all, below_binds, below_joins, below_unnamed, below_value, binder_sorts, coercion_token, erased, erased_alts, erased_args, erased_join_lets, erased_joins}
use Rattle.fc_model.specs.Erasure.{erased_lets, erased_rights, lambdas, sort_of, sort_of_type}
use Rattle.fc_model.specs.Nameless.{NBValue, NBType, NBCo, NATerm, NAType, NACo, NBound, NJoined, NBranch}
use Rattle.fc_model.specs.Nameless.{NExpr, NLocal, NVar, NLit, NApp, NLam, NLet, NCase, NCast, NCon, NPrim, NFail, NJoin, NJump}
use Rattle.fc_model.specs.Nameless.{NArgs, NoNArgs, MoreNArgs, NoNExprs, MoreNExprs, NBinds, NoNBinds, MoreNBinds, NJoins, NoNJoins, MoreNJoins, NAlts, NoNAlts, MoreNAlts}
use Rattle.fc_model.specs.Programs.{AllMention, AltsMention, Mentions}
use Rattle.fc_model.specs.Terms.{Sort, Unlifted, Term, Var, App}
use Rattle.fc_reaching.specs.Reaching.{names_in, names_in_alts, names_in_args, names_in_binds, names_in_joins}
use Rattle.fc_outlines.proofs.Alike.{Among, first_among, in_first, in_second}

module _ (N : Name → Type 0) where
  abbrev AreAll : List Name → Type 0
  AreAll names = (n : Name) → Among n names → N n

  here : (xs ys : List Name) → AreAll (xs ++ ys) → AreAll xs
  here xs ys h n a = h n (in_first xs ys a)

  there : (xs ys : List Name) → AreAll (xs ++ ys) → AreAll ys
  there xs ys h n a = h n (in_second xs ys a)

  lambdas_mention : (ss : List Sort) (t : Term) → Mentions N t → Mentions N (lambdas ss t)
  lambdas_mention [] t h = h
  lambdas_mention (s ∷ ss) t h = lambdas_mention ss t h

  mutual
    pub erased_mentions : (c : Scope) (e : NExpr) → AreAll (names_in e) → Mentions N (erased c e)
    erased_mentions c (NLocal i) h = tt
    erased_mentions c (NVar n) h = h n first_among
    erased_mentions c (NLit n) h = tt
    erased_mentions c (NApp f (NATerm a)) h = (erased_mentions c f (here (names_in f) (names_in a) h), erased_mentions c a (there (names_in f) (names_in a) h))
    erased_mentions c (NApp f (NAType t)) h = erased_mentions c f (here (names_in f) [] h)
    erased_mentions c (NApp f (NACo g)) h = (erased_mentions c f (here (names_in f) [] h), tt)
    erased_mentions c (NLam (NBValue t) e) h = erased_mentions (below_value (sort_of_type t) c) e h
    erased_mentions c (NLam (NBType k) e) h = erased_mentions c e h
    erased_mentions c (NLam (NBCo r t u) e) h = erased_mentions (below_unnamed c) e h
    erased_mentions c (NLet true bs e) h =
        (rights_mention (below_binds bs c) bs (here (names_in_binds bs) (names_in e) h), erased_mentions (below_binds bs c) e (there (names_in_binds bs) (names_in e) h))
    erased_mentions c (NLet false bs e) h =
        lets_mention c bs (erased (below_binds bs c) e) (here (names_in_binds bs) (names_in e) h) (erased_mentions (below_binds bs c) e (there (names_in_binds bs) (names_in e) h))
    erased_mentions c (NCase e xt rt alts) h =
        (erased_mentions c e (here (names_in e) (names_in_alts alts) h), alts_mention (below_value (sort_of_type xt) c) alts (there (names_in e) (names_in_alts alts) h))
    erased_mentions c (NCast e g) h = erased_mentions c e h
    erased_mentions c (NCon n args) h = args_mention c args h
    erased_mentions c (NPrim op NoNExprs) h = tt
    erased_mentions c (NPrim op (MoreNExprs a NoNExprs)) h = tt
    erased_mentions c (NPrim op (MoreNExprs a (MoreNExprs b NoNExprs))) h =
        (erased_mentions c a (here (names_in a) (names_in b ++ []) h), erased_mentions c b (here (names_in b) [] (there (names_in a) (names_in b ++ []) h)))
    erased_mentions c (NPrim op (MoreNExprs a (MoreNExprs b (MoreNExprs d rest)))) h = tt
    erased_mentions c (NFail t) h = tt
    erased_mentions c (NJoin true t js e) h =
        (joins_mention (below_joins js c) js (here (names_in_joins js) (names_in e) h), erased_mentions (below_joins js c) e (there (names_in_joins js) (names_in e) h))
    erased_mentions c (NJoin false t js e) h =
        join_lets_mention c js (erased (below_joins js c) e) (here (names_in_joins js) (names_in e) h) (erased_mentions (below_joins js c) e (there (names_in_joins js) (names_in e) h))
    erased_mentions c (NJump i args) h = applied_mentions c (Var (c.joins i)) args tt h

    args_mention : (c : Scope) (args : NArgs) → AreAll (names_in_args args) → AllMention N (erased_args c args)
    args_mention c NoNArgs h = tt
    args_mention c (MoreNArgs (NATerm e) rest) h = (erased_mentions c e (here (names_in e) (names_in_args rest) h), args_mention c rest (there (names_in e) (names_in_args rest) h))
    args_mention c (MoreNArgs (NAType t) rest) h = args_mention c rest h
    args_mention c (MoreNArgs (NACo g) rest) h = (tt, args_mention c rest h)

    applied_mentions : (c : Scope) (t : Term) (args : NArgs) → Mentions N t → AreAll (names_in_args args) → Mentions N (applied c t args)
    applied_mentions c t NoNArgs m h = m
    applied_mentions c t (MoreNArgs (NATerm e) rest) m h =
        applied_mentions c (App (sort_of c e) t (erased c e)) rest (m, erased_mentions c e (here (names_in e) (names_in_args rest) h)) (there (names_in e) (names_in_args rest) h)
    applied_mentions c t (MoreNArgs (NAType u) rest) m h = applied_mentions c t rest m h
    applied_mentions c t (MoreNArgs (NACo g) rest) m h = applied_mentions c (App Unlifted t coercion_token) rest (m, tt) h

    lets_mention : (c : Scope) (bs : NBinds) (t : Term) → AreAll (names_in_binds bs) → Mentions N t → Mentions N (erased_lets c bs t)
    lets_mention c NoNBinds t h m = m
    lets_mention c (MoreNBinds (NBound u d) rest) t h m =
        (erased_mentions c d (here (names_in d) (names_in_binds rest) h), lets_mention (below_unnamed c) rest t (there (names_in d) (names_in_binds rest) h) m)

    rights_mention : (c : Scope) (bs : NBinds) → AreAll (names_in_binds bs) → AllMention N (erased_rights c bs)
    rights_mention c NoNBinds h = tt
    rights_mention c (MoreNBinds (NBound u d) rest) h = (erased_mentions c d (here (names_in d) (names_in_binds rest) h), rights_mention c rest (there (names_in d) (names_in_binds rest) h))

    join_lets_mention : (c : Scope) (js : NJoins) (t : Term) → AreAll (names_in_joins js) → Mentions N t → Mentions N (erased_join_lets c js t)
    join_lets_mention c NoNJoins t h m = m
    join_lets_mention c (MoreNJoins (NJoined ps d) rest) t h m = (
      lambdas_mention (binder_sorts ps) (erased (below_all ps c) d) (erased_mentions (below_all ps c) d (here (names_in d) (names_in_joins rest) h)),
      join_lets_mention (below_unnamed c) rest t (there (names_in d) (names_in_joins rest) h) m,
    )

    joins_mention : (c : Scope) (js : NJoins) → AreAll (names_in_joins js) → AllMention N (erased_joins c js)
    joins_mention c NoNJoins h = tt
    joins_mention c (MoreNJoins (NJoined ps d) rest) h = (
      lambdas_mention (binder_sorts ps) (erased (below_all ps c) d) (erased_mentions (below_all ps c) d (here (names_in d) (names_in_joins rest) h)),
      joins_mention c rest (there (names_in d) (names_in_joins rest) h),
    )

    alts_mention : (c : Scope) (alts : NAlts) → AreAll (names_in_alts alts) → AltsMention N (erased_alts c alts)
    alts_mention c NoNAlts h = tt
    alts_mention c (MoreNAlts (NBranch k bs e) rest) h =
        (erased_mentions (below_all bs c) e (here (names_in e) (names_in_alts rest) h), alts_mention c rest (there (names_in e) (names_in_alts rest) h))
