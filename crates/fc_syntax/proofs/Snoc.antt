-- A list's view with one item more, and the step of a loop that copies one.
use Rattle.std.proofs.Common.{◌≡◌, ◌++◌, ◌∙◌, ◌+◌, ◌<◌, ℕ, List, [], ◌∷◌, refl, sym, ap, take, length, get_or}
use Rattle.std.proofs.lemmas.List.{take_more}
use Rattle.fc_syntax.specs.GenericTree.{Co, Cos, NoCos, MoreCos}
use Rattle.fc_syntax.specs.GenericTree.{Expr, Exprs, NoExprs, MoreExprs, Arg, Args, NoArgs, MoreArgs, Bind, Binds, NoBinds, MoreBinds, JoinBind, Joins, NoJoins, MoreJoins, Alt, Alts, NoAlts, MoreAlts}
use Rattle.fc_syntax.specs.View.{co_of, cos_of, expr_of, exprs_of, arg_of, args_of, bind_of, binds_of, join_of, joins_of, alt_of, alts_of}
use Rattle.fc_syntax.specs.declared.co.Co as G
use Rattle.fc_syntax.specs.declared.expr.Expr as E
use Rattle.fc_syntax.specs.declared.expr.Arg as A
use Rattle.fc_syntax.specs.declared.expr.Bind as RustBind
use Rattle.fc_syntax.specs.declared.expr.JoinBind as RustJoin
use Rattle.fc_syntax.specs.declared.expr.Alt as RustAlt

pub cos_snoc : {L B : Type 0} → Cos L B → Co L B → Cos L B
cos_snoc NoCos x = MoreCos x NoCos
cos_snoc (MoreCos y rest) x = MoreCos y (cos_snoc rest x)

pub cos_more : {L : Type 0} (items : List (G.Co L)) (x : G.Co L) → cos_of (items ++ x ∷ []) ≡ cos_snoc (cos_of items) (co_of x)
unfolding cos_snoc
cos_more [] x = refl
cos_more (y ∷ items) x = ap (λ rest. MoreCos (co_of y) rest) (cos_more items x)

-- a copy of the next item goes to the end
pub cos_step : {L : Type 0} (items all more : List (G.Co L)) (i : ℕ) (x y : G.Co L) → more ≡ all ++ y ∷ [] → co_of y ≡ co_of x → i < length items
    → x ≡ get_or items i x → cos_of all ≡ cos_of (take i items) → cos_of more ≡ cos_of (take (i + 1) items)
cos_step items all more i x y pushed same within is so_far =
    ap cos_of pushed ∙ cos_more all y ∙ (λ j. cos_snoc (so_far j) (same j)) ∙ sym (cos_more (take i items) x)
    ∙ ap (λ z. cos_of (take i items ++ z ∷ [])) is ∙ sym (ap cos_of (take_more items i x within))

pub exprs_snoc : {L V B : Type 0} → Exprs L V B → Expr L V B → Exprs L V B
exprs_snoc NoExprs x = MoreExprs x NoExprs
exprs_snoc (MoreExprs y rest) x = MoreExprs y (exprs_snoc rest x)

pub exprs_more : {L V : Type 0} (items : List (E.Expr L V)) (x : E.Expr L V) → exprs_of (items ++ x ∷ []) ≡ exprs_snoc (exprs_of items) (expr_of x)
unfolding exprs_snoc
exprs_more [] x = refl
exprs_more (y ∷ items) x = ap (λ rest. MoreExprs (expr_of y) rest) (exprs_more items x)

-- a copy of the next item goes to the end
pub exprs_step : {L V : Type 0} (items all more : List (E.Expr L V)) (i : ℕ) (x y : E.Expr L V) → more ≡ all ++ y ∷ [] → expr_of y ≡ expr_of x → i < length items
    → x ≡ get_or items i x → exprs_of all ≡ exprs_of (take i items) → exprs_of more ≡ exprs_of (take (i + 1) items)
exprs_step items all more i x y pushed same within is so_far =
    ap exprs_of pushed ∙ exprs_more all y ∙ (λ j. exprs_snoc (so_far j) (same j)) ∙ sym (exprs_more (take i items) x)
    ∙ ap (λ z. exprs_of (take i items ++ z ∷ [])) is ∙ sym (ap exprs_of (take_more items i x within))

pub args_snoc : {L V B : Type 0} → Args L V B → Arg L V B → Args L V B
args_snoc NoArgs x = MoreArgs x NoArgs
args_snoc (MoreArgs y rest) x = MoreArgs y (args_snoc rest x)

pub args_more : {L V : Type 0} (items : List (A.Arg L V)) (x : A.Arg L V) → args_of (items ++ x ∷ []) ≡ args_snoc (args_of items) (arg_of x)
unfolding args_snoc
args_more [] x = refl
args_more (y ∷ items) x = ap (λ rest. MoreArgs (arg_of y) rest) (args_more items x)

-- a copy of the next item goes to the end
pub args_step : {L V : Type 0} (items all more : List (A.Arg L V)) (i : ℕ) (x y : A.Arg L V) → more ≡ all ++ y ∷ [] → arg_of y ≡ arg_of x → i < length items
    → x ≡ get_or items i x → args_of all ≡ args_of (take i items) → args_of more ≡ args_of (take (i + 1) items)
args_step items all more i x y pushed same within is so_far =
    ap args_of pushed ∙ args_more all y ∙ (λ j. args_snoc (so_far j) (same j)) ∙ sym (args_more (take i items) x)
    ∙ ap (λ z. args_of (take i items ++ z ∷ [])) is ∙ sym (ap args_of (take_more items i x within))

pub binds_snoc : {L V B : Type 0} → Binds L V B → Bind L V B → Binds L V B
binds_snoc NoBinds x = MoreBinds x NoBinds
binds_snoc (MoreBinds y rest) x = MoreBinds y (binds_snoc rest x)

pub binds_more : {L V : Type 0} (items : List (RustBind.Bind L V)) (x : RustBind.Bind L V) → binds_of (items ++ x ∷ []) ≡ binds_snoc (binds_of items) (bind_of x)
unfolding binds_snoc
binds_more [] x = refl
binds_more (y ∷ items) x = ap (λ rest. MoreBinds (bind_of y) rest) (binds_more items x)

-- a copy of the next item goes to the end
pub binds_step : {L V : Type 0} (items all more : List (RustBind.Bind L V)) (i : ℕ) (x y : RustBind.Bind L V) → more ≡ all ++ y ∷ [] → bind_of y ≡ bind_of x → i < length items
    → x ≡ get_or items i x → binds_of all ≡ binds_of (take i items) → binds_of more ≡ binds_of (take (i + 1) items)
binds_step items all more i x y pushed same within is so_far =
    ap binds_of pushed ∙ binds_more all y ∙ (λ j. binds_snoc (so_far j) (same j)) ∙ sym (binds_more (take i items) x)
    ∙ ap (λ z. binds_of (take i items ++ z ∷ [])) is ∙ sym (ap binds_of (take_more items i x within))

pub joins_snoc : {L V B : Type 0} → Joins L V B → JoinBind L V B → Joins L V B
joins_snoc NoJoins x = MoreJoins x NoJoins
joins_snoc (MoreJoins y rest) x = MoreJoins y (joins_snoc rest x)

pub joins_more : {L V : Type 0} (items : List (RustJoin.JoinBind L V)) (x : RustJoin.JoinBind L V) → joins_of (items ++ x ∷ []) ≡ joins_snoc (joins_of items) (join_of x)
unfolding joins_snoc
joins_more [] x = refl
joins_more (y ∷ items) x = ap (λ rest. MoreJoins (join_of y) rest) (joins_more items x)

-- a copy of the next item goes to the end
pub joins_step : {L V : Type 0} (items all more : List (RustJoin.JoinBind L V)) (i : ℕ) (x y : RustJoin.JoinBind L V) → more ≡ all ++ y ∷ [] → join_of y ≡ join_of x → i < length items
    → x ≡ get_or items i x → joins_of all ≡ joins_of (take i items) → joins_of more ≡ joins_of (take (i + 1) items)
joins_step items all more i x y pushed same within is so_far =
    ap joins_of pushed ∙ joins_more all y ∙ (λ j. joins_snoc (so_far j) (same j)) ∙ sym (joins_more (take i items) x)
    ∙ ap (λ z. joins_of (take i items ++ z ∷ [])) is ∙ sym (ap joins_of (take_more items i x within))

pub alts_snoc : {L V B : Type 0} → Alts L V B → Alt L V B → Alts L V B
alts_snoc NoAlts x = MoreAlts x NoAlts
alts_snoc (MoreAlts y rest) x = MoreAlts y (alts_snoc rest x)

pub alts_more : {L V : Type 0} (items : List (RustAlt.Alt L V)) (x : RustAlt.Alt L V) → alts_of (items ++ x ∷ []) ≡ alts_snoc (alts_of items) (alt_of x)
unfolding alts_snoc
alts_more [] x = refl
alts_more (y ∷ items) x = ap (λ rest. MoreAlts (alt_of y) rest) (alts_more items x)

-- a copy of the next item goes to the end
pub alts_step : {L V : Type 0} (items all more : List (RustAlt.Alt L V)) (i : ℕ) (x y : RustAlt.Alt L V) → more ≡ all ++ y ∷ [] → alt_of y ≡ alt_of x → i < length items
    → x ≡ get_or items i x → alts_of all ≡ alts_of (take i items) → alts_of more ≡ alts_of (take (i + 1) items)
alts_step items all more i x y pushed same within is so_far =
    ap alts_of pushed ∙ alts_more all y ∙ (λ j. alts_snoc (so_far j) (same j)) ∙ sym (alts_more (take i items) x)
    ∙ ap (λ z. alts_of (take i items ++ z ∷ [])) is ∙ sym (ap alts_of (take_more items i x within))
