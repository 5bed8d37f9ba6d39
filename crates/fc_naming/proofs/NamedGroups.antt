-- Lets and join points by their parts.
use Rattle.std.proofs.Common.{◌≡◌, ℕ, Bool, true, false, if◌then◌else◌, List, length, refl, sym, subst}
use Rattle.std.specs.List.{list_all}
use Rattle.fc_syntax.specs.declared.ty.Ref.{Ref}
use Rattle.fc_syntax.specs.declared.expr.Binder as RustBinder
use Rattle.fc_syntax.specs.declared.expr.Bind as RustBind
use Rattle.fc_syntax.specs.declared.expr.JoinBind as RustJoin
use Rattle.fc_syntax.specs.Tree.{Binder, Binds, ELet, EJoin, Expr, Joins, Ty}
use Rattle.fc_syntax.specs.View.{binders_of, binds_of, joins_of}
use Rattle.fc_model.specs.Formed.{is_lower_word}
use Rattle.fc_model.specs.NamelessView.{nbinds_of, njoins_of}
use Rattle.fc_model.specs.Nameless.{NExpr}
use Rattle.fc_model.specs.Resolution.{Locals, Top, WordSet, Words, bind_words, enter_joins, enter_values, join_words}
use Rattle.fc_model.specs.ResolutionRules.{AreDistinct}
use Rattle.fc_model.specs.Worded.{WTy, WBinds, WExpr, WJoins, bare_expr}
use Rattle.fc_scope.specs.ScopeWords.{with_joins, with_values}
use Rattle.fc_naming.specs.declared.members.Group.{Group}
use Rattle.fc_naming.specs.Groups.{IsGroup}
use Rattle.fc_naming.specs.GroupWords.{JoinWords, LetWords}
use Rattle.fc_naming.specs.Named.{IsNamedBelow, IsNamedBinds, IsNamedExpr, IsNamedJoins, IsNamedTy, JoinUses, LetUses}
use Rattle.fc_naming.proofs.NamedExpressions.{IsNamedPoints, binds_in, expr_in, joins_in, named_join, named_join_alone, named_join_group, named_let, named_let_group}

-- where it is recursive, in the scope of the group, and in the one around it where it is not
pub binds_then : {top : Top} {r : Bool} {n : WBinds} {t t' : Binds} (a b : Locals) → r ≡ true → t' ≡ t → IsNamedBinds top a n t → IsNamedBinds top (if r then a else b) n t'
binds_then {top = top} {r = r} {n = n} {t = t} {t' = t'} a b e is p =
    subst (λ (x : Bool). IsNamedBinds top (if x then a else b) n t') (sym e) (subst (λ (z : Binds). IsNamedBinds top a n z) (sym is) p)

pub binds_else : {top : Top} {r : Bool} {n : WBinds} {t t' : Binds} (a b : Locals) → r ≡ false → t' ≡ t → IsNamedBinds top b n t → IsNamedBinds top (if r then a else b) n t'
binds_else {top = top} {r = r} {n = n} {t = t} {t' = t'} a b e is p =
    subst (λ (x : Bool). IsNamedBinds top (if x then a else b) n t') (sym e) (subst (λ (z : Binds). IsNamedBinds top b n z) (sym is) p)

pub joins_then : {top : Top} {r : Bool} {n : WJoins} {t t' : Joins} (a b : Locals) → r ≡ true → t' ≡ t → IsNamedJoins top a n t → IsNamedJoins top (if r then a else b) n t'
joins_then {top = top} {r = r} {n = n} {t = t} {t' = t'} a b e is p =
    subst (λ (x : Bool). IsNamedJoins top (if x then a else b) n t') (sym e) (subst (λ (z : Joins). IsNamedJoins top a n z) (sym is) p)

pub joins_else : {top : Top} {r : Bool} {n : WJoins} {t t' : Joins} (a b : Locals) → r ≡ false → t' ≡ t → IsNamedJoins top b n t → IsNamedJoins top (if r then a else b) n t'
joins_else {top = top} {r = r} {n = n} {t = t} {t' = t'} a b e is p =
    subst (λ (x : Bool). IsNamedJoins top (if x then a else b) n t') (sym e) (subst (λ (z : Joins). IsNamedJoins top b n z) (sym is) p)

-- binders that are the same
pub below_in : {top : Top} {s : Locals} {e : WExpr} {bs : List Binder} {f : Expr} (xs ys : List (RustBinder.Binder ℕ)) → xs ≡ ys → IsNamedBelow top s (binders_of xs) e bs f → IsNamedBelow top s (binders_of ys) e bs f
below_in {top = top} {s = s} {e = e} {bs = bs} {f = f} xs ys same p = subst (λ (zs : List (RustBinder.Binder ℕ)). IsNamedBelow top s (binders_of zs) e bs f) same p

let_by : (top : Top) (s : Locals) (r : Bool) (taken : Words) (items : List (RustBind.Bind ℕ Ref)) (e : WExpr) (bs : Binds) (f : Expr) (g : Group) → AreDistinct taken.terms g.words → length g.words ≡ length items
    → list_all is_lower_word g.words ≡ true → with_values g.names s ≡ enter_values g.words s → LetUses top s r (nbinds_of items) (bare_expr e) taken
    → bind_words bs ≡ g.words → IsNamedBinds top (if r then with_values g.names s else s) (binds_of items) bs → IsNamedExpr top (with_values g.names s) e f → IsNamedExpr top s (ELet r (binds_of items) e) (ELet r bs f)
let_by top s true taken items e bs f g distinct counted lower values uses are p q =
    named_let_group top s taken items g.words e bs f counted distinct lower uses are (binds_in p values) (expr_in q values)
let_by top s false taken items e bs f g distinct counted lower values uses are p q = named_let top s taken items g.words e bs f counted distinct lower uses are p (expr_in q values)

pub named_let_form : {top : Top} {s : Locals} {r : Bool} {ns : WBinds} {e : WExpr} {bs : Binds} {f : Expr} {g : Group} → bind_words bs ≡ g.words → LetWords top s r ns (bare_expr e) g
    → IsNamedBinds top (if r then with_values g.names s else s) ns bs → IsNamedExpr top (with_values g.names s) e f → IsNamedExpr top s (ELet r ns e) (ELet r bs f)
named_let_form {top = top} {s = s} {r = r} {ns = ns} {e = e} {bs = bs} {f = f} {g = g} are w p q =
    subst (λ (z : WBinds). IsNamedExpr top s (ELet r z e) (ELet r bs f)) w.members
    (let_by top s r w.taken w.items e bs f g w.distinct w.counted w.lower w.values w.uses are
    (subst (λ (z : WBinds). IsNamedBinds top (if r then with_values g.names s else s) z bs) (sym w.members) p) q)

points_by : (top : Top) (s : Locals) (r : Bool) (taken : Words) (items : List (RustJoin.JoinBind ℕ Ref)) (e : WExpr) (js : Joins) (f : Expr) (g : Group) → AreDistinct taken.terms g.words
    → length g.words ≡ length items → list_all is_lower_word g.words ≡ true → with_joins g.names s ≡ enter_joins g.words s
    → JoinUses top s r (njoins_of items) (bare_expr e) taken → join_words js ≡ g.words → IsNamedJoins top (if r then with_joins g.names s else s) (joins_of items) js
    → IsNamedExpr top (with_joins g.names s) e f → IsNamedPoints top s r (joins_of items) e js f
points_by top s true taken items e js f g distinct counted lower joins uses are p q =
    named_join_group top s taken items g.words e js f counted distinct lower uses are (joins_in p joins) (expr_in q joins)
points_by top s false taken items e js f g distinct counted lower joins uses are p q =
    named_join_alone top s taken items g.words e js f counted distinct lower uses are p (expr_in q joins)

pub named_join_form : {top : Top} {s : Locals} {r : Bool} {a : WTy} {t : Ty} {ns : WJoins} {e : WExpr} {js : Joins} {f : Expr} {g : Group} → IsNamedTy top s a t → join_words js ≡ g.words
    → JoinWords top s r ns (bare_expr e) g → IsNamedJoins top (if r then with_joins g.names s else s) ns js → IsNamedExpr top (with_joins g.names s) e f → IsNamedExpr top s (EJoin r a ns e) (EJoin r t js f)
named_join_form {top = top} {s = s} {r = r} {a = a} {t = t} {ns = ns} {e = e} {js = js} {f = f} {g = g} o are w p q =
    named_join o (subst (λ (z : WJoins). IsNamedPoints top s r z e js f) w.members
    (points_by top s r w.taken w.items e js f g w.distinct w.counted w.lower w.joins w.uses are
    (subst (λ (z : WJoins). IsNamedJoins top (if r then with_joins g.names s else s) z js) (sym w.members) p) q))

-- from what members took and what their scope uses
pub let_words : {top : Top} {s : Locals} {r : Bool} {n : NExpr} {g : Group} {more : WordSet} (taken : Words) (items : List (RustBind.Bind ℕ Ref)) → IsGroup taken.terms items g.words g.names more
    → LetUses top s r (nbinds_of items) n taken → LetWords top s r (binds_of items) n g
let_words {s = s} taken items i u = record {
  items = items;
  members = refl;
  taken = taken;
  distinct = i.distinct;
  counted = i.counted;
  lower = i.lower;
  values = i.values s;
  uses = u;
}

pub point_words : {top : Top} {s : Locals} {r : Bool} {n : NExpr} {g : Group} {more : WordSet} (taken : Words) (items : List (RustJoin.JoinBind ℕ Ref)) → IsGroup taken.terms items g.words g.names more
    → JoinUses top s r (njoins_of items) n taken → JoinWords top s r (joins_of items) n g
point_words {s = s} taken items i u = record {
  items = items;
  members = refl;
  taken = taken;
  distinct = i.distinct;
  counted = i.counted;
  lower = i.lower;
  joins = i.joins s;
  uses = u;
}

pub ruleset group_names = (named_let_form, named_join_form)
