-- Renamed expressions have the nameless forms that they had, if the words used free stay.
use Rattle.std.proofs.Common.{◌≡◌, ℕ, ◌+◌, Bool, true, false, not, if◌then◌else◌, List, map, length, Option, Some, None, refl, ap, ◌∙◌}
use Rattle.std.proofs.lemmas.List.{length-map}
use Rattle.fc_syntax.specs.declared.expr.Head.{Head}
use Rattle.fc_syntax.specs.declared.fault.FaultKind.TheVariants.{Duplicate}
use Rattle.fc_syntax.specs.Tree.{Word, Binder, Arg, ATerm, AType, ACo, Bound, Joined, Branch}
use Rattle.fc_syntax.specs.Tree.{Expr, EVar, ELit, EApp, ELam, ELet, ECase, ECast, ECon, EPrim, EFail, EJoin, EJump}
use Rattle.fc_syntax.specs.Tree.{Exprs, NoExprs, MoreExprs, Args, NoArgs, MoreArgs, Binds, NoBinds, MoreBinds, Joins, NoJoins, MoreJoins, Alts, NoAlts, MoreAlts}
use Rattle.fc_model.specs.Faulting.{need, under}
use Rattle.fc_model.specs.Resolution.{Top, Locals, WordSet, Found, IsValue, IsJoin, Nowhere, Value, bind_words, enter, enter_all, enter_joins, enter_values, found_term, join_words}
use Rattle.fc_model.specs.Resolution.{no_word, no_words, plus, resolved_alt, resolved_alts, resolved_arg, resolved_args, resolved_binds, resolved_expr, resolved_exprs}
use Rattle.fc_model.specs.Resolution.{resolved_join, resolved_joins, resolved_var, then_alt, then_join, variable, with_term}
use Rattle.fc_model.proofs.Parts.{and_then_same, both_same, under_same}
use Rattle.fc_meaning.specs.Renaming.{IsInjective, Renaming, KeepsUse, KeepsFree, ArgKeepsFree, ArgsKeepFree, ExprsKeepFree, BindsKeepFree, JoinsKeepFree, AltsKeepFree}
use Rattle.fc_meaning.specs.Renaming.{renamed_alt, renamed_alts, renamed_arg, renamed_args, renamed_binder, renamed_binds, renamed_expr, renamed_exprs, renamed_join, renamed_joins, renamed_use}
use Rattle.fc_meaning.proofs.RenamingScopes.{Follows, WordsFollow, bind_words_renamed, enter_all_renamed, enter_renamed, found_same, in_joins, in_values, join_words_renamed, plus_follows, renamed_locals}
use Rattle.fc_meaning.proofs.RenamingTypes.{binder_same, binders_same, co_same, ty_same}

-- no word before is one still
pub none_follow : (f : Renaming) → WordsFollow f no_words no_words
none_follow f = record { types = λ w. refl; terms = λ w. refl; coercions = λ w. refl }

length_binds : (f : Renaming) (bs : Binds) → length (bind_words (renamed_binds f bs)) ≡ length (bind_words bs)
length_binds f bs = ap length (bind_words_renamed f bs) ∙ length-map (bind_words bs) f

length_joins : (f : Renaming) (js : Joins) → length (join_words (renamed_joins f js)) ≡ length (join_words js)
length_joins f js = ap length (join_words_renamed f js) ∙ length-map (join_words js) f

-- the scope of the members of a group
in_group : (f : Renaming) (r : Bool) (inner : Locals) (inside outside : Locals) → inner ≡ renamed_locals f inside → (if r then inner else renamed_locals f outside) ≡ renamed_locals f (if r then inside else outside)
in_group f true inner inside outside h = h
in_group f false inner inside outside h = refl

module _ (f : Renaming) (inj : IsInjective f) (top : Top) where
  variable_same : (found : Found) (w : Word) → (found ≡ Nowhere → f w ≡ w) → variable top found (f w) ≡ variable top found w
  variable_same (IsValue i) w h = refl
  variable_same (IsJoin i) w h = refl
  variable_same Nowhere w h = ap (variable top Nowhere) (h refl)

  var_same : (s : Locals) (m : Option Word) (w : Word) → KeepsUse f s m w → resolved_var top (renamed_locals f s) m (renamed_use f m w) ≡ resolved_var top s m w
  var_same s None w h = ap (λ x. variable top x (f w)) (found_same f inj s.terms w) ∙ variable_same (found_term s.terms w) w h
  var_same s (Some m) w h = refl

  -- the same in the scope that was entered
  moved : (scope s : Locals) (e : Expr) → scope ≡ renamed_locals f s → resolved_expr top (renamed_locals f s) (renamed_expr f e) ≡ resolved_expr top s e
      → resolved_expr top scope (renamed_expr f e) ≡ resolved_expr top s e
  moved scope s e is same = ap (λ x. resolved_expr top x (renamed_expr f e)) is ∙ same

  -- behind binders, which have as many parts
  body_same : (s : Locals) (bs : List Binder) (e : Expr) → resolved_expr top (renamed_locals f (enter_all bs s)) (renamed_expr f e) ≡ resolved_expr top (enter_all bs s) e
      → under (length (map (renamed_binder f) bs)) (resolved_expr top (enter_all (map (renamed_binder f) bs) (renamed_locals f s)) (renamed_expr f e))
      ≡ under (length bs) (resolved_expr top (enter_all bs s) e)
  body_same s bs e same =
      ap (λ n. under n (resolved_expr top (enter_all (map (renamed_binder f) bs) (renamed_locals f s)) (renamed_expr f e))) (length-map bs (renamed_binder f))
      ∙ under_same _ _ _ (moved _ (enter_all bs s) e (enter_all_renamed f bs s) same)

  join_same : (s : Locals) (j : Word) (ps : List Binder) (e : Expr)
      → resolved_expr top (renamed_locals f (enter_all ps s)) (renamed_expr f e) ≡ resolved_expr top (enter_all ps s) e
      → resolved_join top (renamed_locals f s) (renamed_join f (Joined j ps e)) ≡ resolved_join top s (Joined j ps e)
  join_same s j ps e same =
      both_same _ _ _ _ (binders_same f inj top s no_words no_words 0 ps (none_follow f)) (λ qs. both_same _ _ _ _ (body_same s ps e same) (λ g. refl))

  alt_same : (s : Locals) (k : Head) (bs : List Binder) (e : Expr)
      → resolved_expr top (renamed_locals f (enter_all bs s)) (renamed_expr f e) ≡ resolved_expr top (enter_all bs s) e
      → resolved_alt top (renamed_locals f s) (renamed_alt f (Branch k bs e)) ≡ resolved_alt top s (Branch k bs e)
  alt_same s k bs e same =
      and_then_same _ _ _ (λ head.
      both_same _ _ _ _ (binders_same f inj top s no_words no_words 0 bs (none_follow f)) (λ cs. both_same _ _ _ _ (body_same s bs e same) (λ g. refl)))

  -- the members of a group, in the scope inside or outside of it
  binds_moved : (r : Bool) (s : Locals) (bs : Binds) → let inner = enter_values (bind_words bs) s in
      resolved_binds top (renamed_locals f (if r then inner else s)) no_word 0 (renamed_binds f bs) ≡ resolved_binds top (if r then inner else s) no_word 0 bs
      → resolved_binds top (if r then enter_values (bind_words (renamed_binds f bs)) (renamed_locals f s) else renamed_locals f s) no_word 0 (renamed_binds f bs)
      ≡ resolved_binds top (if r then inner else s) no_word 0 bs
  binds_moved r s bs same = ap (λ x. resolved_binds top x no_word 0 (renamed_binds f bs)) (in_group f r _ (enter_values (bind_words bs) s) s (in_values f bs s)) ∙ same

  joins_moved : (r : Bool) (s : Locals) (js : Joins) → let inner = enter_joins (join_words js) s in
      resolved_joins top (renamed_locals f (if r then inner else s)) no_word 1 (renamed_joins f js) ≡ resolved_joins top (if r then inner else s) no_word 1 js
      → resolved_joins top (if r then enter_joins (join_words (renamed_joins f js)) (renamed_locals f s) else renamed_locals f s) no_word 1 (renamed_joins f js)
      ≡ resolved_joins top (if r then inner else s) no_word 1 js
  joins_moved r s js same = ap (λ x. resolved_joins top x no_word 1 (renamed_joins f js)) (in_group f r _ (enter_joins (join_words js) s) s (in_joins f js s)) ∙ same

  -- what stands below a group
  let_body_same : (s : Locals) (bs : Binds) (e : Expr) → let inner = enter_values (bind_words bs) s in
      resolved_expr top (renamed_locals f inner) (renamed_expr f e) ≡ resolved_expr top inner e
      → under (length (bind_words (renamed_binds f bs))) (resolved_expr top (enter_values (bind_words (renamed_binds f bs)) (renamed_locals f s)) (renamed_expr f e))
      ≡ under (length (bind_words bs)) (resolved_expr top inner e)
  let_body_same s bs e same =
      ap (λ n. under n (resolved_expr top (enter_values (bind_words (renamed_binds f bs)) (renamed_locals f s)) (renamed_expr f e))) (length_binds f bs)
      ∙ under_same _ _ _ (moved _ (enter_values (bind_words bs) s) e (in_values f bs s) same)

  join_body_same : (s : Locals) (js : Joins) (e : Expr) → let inner = enter_joins (join_words js) s in
      resolved_expr top (renamed_locals f inner) (renamed_expr f e) ≡ resolved_expr top inner e
      → under (1 + length (join_words (renamed_joins f js))) (resolved_expr top (enter_joins (join_words (renamed_joins f js)) (renamed_locals f s)) (renamed_expr f e))
      ≡ under (1 + length (join_words js)) (resolved_expr top inner e)
  join_body_same s js e same =
      ap (λ n. under (1 + n) (resolved_expr top (enter_joins (join_words (renamed_joins f js)) (renamed_locals f s)) (renamed_expr f e))) (length_joins f js)
      ∙ under_same _ _ _ (moved _ (enter_joins (join_words js) s) e (in_joins f js s) same)

  mutual
    pub expr_same : (s : Locals) (e : Expr) → KeepsFree f s e → resolved_expr top (renamed_locals f s) (renamed_expr f e) ≡ resolved_expr top s e
    expr_same s (EVar n) h = var_same s n.module n.text h
    expr_same s (ELit n) h = refl
    expr_same s (EApp e a) h = rw (expr_same s e h.0, arg_same s a h.1) refl
    expr_same s (ELam b e) h = rw (binder_same f inj top s b, moved _ (enter b s) e (enter_renamed f b s) (expr_same (enter b s) e h)) refl
    expr_same s (ELet r bs e) h =
        let inner = enter_values (bind_words bs) s in
        both_same _ _ _ _ (binds_moved r s bs (binds_same (if r then inner else s) no_word no_word 0 bs (λ w. refl) h.0)) (λ cs.
        both_same _ _ _ _ (let_body_same s bs e (expr_same inner e h.1)) (λ g. refl))
    expr_same s (ECase e x t u alts) h =
        rw (expr_same s e h.0, ty_same f inj top s.types t, ty_same f inj top s.types u, alts_same (with_term (Value x) s) 3 alts h.1) refl
    expr_same s (ECast e g) h = rw (expr_same s e h, co_same f inj top s g) refl
    expr_same s (ECon n args) h = rw (args_same s 0 args h) refl
    expr_same s (EPrim op es) h = rw (exprs_same s 0 es h) refl
    expr_same s (EFail t) h = rw (ty_same f inj top s.types t) refl
    expr_same s (EJoin r t js e) h =
        let inner = enter_joins (join_words js) s in
        both_same _ _ _ _ (under_same 0 _ _ (ty_same f inj top s.types t)) (λ a.
        both_same _ _ _ _ (joins_moved r s js (joins_same (if r then inner else s) no_word no_word 1 js (λ w. refl) h.0)) (λ ks.
        both_same _ _ _ _ (join_body_same s js e (expr_same inner e h.1)) (λ g. refl)))
    expr_same s (EJump j args) h = rw (found_same f inj s.terms j, args_same s 0 args h) refl

    arg_same : (s : Locals) (a : Arg) → ArgKeepsFree f s a → resolved_arg top (renamed_locals f s) (renamed_arg f a) ≡ resolved_arg top s a
    arg_same s (ATerm e) h = rw (expr_same s e h) refl
    arg_same s (AType t) h = rw (ty_same f inj top s.types t) refl
    arg_same s (ACo g) h = rw (co_same f inj top s g) refl

    args_same : (s : Locals) (i : ℕ) (args : Args) → ArgsKeepFree f s args → resolved_args top (renamed_locals f s) i (renamed_args f args) ≡ resolved_args top s i args
    args_same s i NoArgs h = refl
    args_same s i (MoreArgs a rest) h = rw (arg_same s a h.0, args_same s (i + 1) rest h.1) refl

    exprs_same : (s : Locals) (i : ℕ) (es : Exprs) → ExprsKeepFree f s es → resolved_exprs top (renamed_locals f s) i (renamed_exprs f es) ≡ resolved_exprs top s i es
    exprs_same s i NoExprs h = refl
    exprs_same s i (MoreExprs e rest) h = rw (expr_same s e h.0, exprs_same s (i + 1) rest h.1) refl

    binds_same : (s : Locals) (new old : WordSet) (i : ℕ) (bs : Binds) → Follows f new old → BindsKeepFree f s bs
        → resolved_binds top (renamed_locals f s) new i (renamed_binds f bs) ≡ resolved_binds top s old i bs
    binds_same s new old i NoBinds k h = refl
    binds_same s new old i (MoreBinds (Bound x t e) rest) k h =
        rw (k x, ty_same f inj top s.types t, expr_same s e h.0, binds_same s (plus (f x) new) (plus x old) (i + 1) rest (plus_follows f inj x new old k) h.1) refl

    joins_same : (s : Locals) (new old : WordSet) (i : ℕ) (js : Joins) → Follows f new old → JoinsKeepFree f s js
        → resolved_joins top (renamed_locals f s) new i (renamed_joins f js) ≡ resolved_joins top s old i js
    joins_same s new old i NoJoins k h = refl
    joins_same s new old i (MoreJoins (Joined j ps e) rest) k h =
        both_same _ _ _ _ (
        ap (λ x. under i (need (not x) Duplicate (resolved_join top (renamed_locals f s) (renamed_join f (Joined j ps e))))) (k j)
        ∙ ap (λ x. under i (need (not (old j)) Duplicate x)) (join_same s j ps e (expr_same (enter_all ps s) e h.0)))
        (λ c. ap (then_join c) (joins_same s (plus (f j) new) (plus j old) (i + 1) rest (plus_follows f inj j new old k) h.1))

    alts_same : (s : Locals) (i : ℕ) (alts : Alts) → AltsKeepFree f s alts → resolved_alts top (renamed_locals f s) i (renamed_alts f alts) ≡ resolved_alts top s i alts
    alts_same s i NoAlts h = refl
    alts_same s i (MoreAlts (Branch k bs e) rest) h =
        both_same _ _ _ _ (under_same i _ _ (alt_same s k bs e (expr_same (enter_all bs s) e h.0))) (λ a. ap (then_alt a) (alts_same s (i + 1) rest h.1))
