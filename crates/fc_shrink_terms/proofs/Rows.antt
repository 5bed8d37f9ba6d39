-- What a row makes of an expression of its form, by what is known of the expression's parts.
use Rattle.std.proofs.Common.{◌≡◌, ℕ, refl, sym, ap, ◌∙◌, arith, Bool, true, false, not, ◌&&◌, if◌then◌else◌, Some, None, []}
use Rattle.fc_syntax.specs.declared.expr.Head.TheVariants as head
use Rattle.fc_model.specs.Calling.{is_unlifted}
use Rattle.fc_model.specs.Nameless.{NTy, NTVar, NGVar, NBinds, NJoins, NAlts, NoNAlts, MoreNAlts, NBranch, NExpr, NLocal, NLet, NCase, NJoin}
use Rattle.fc_model.specs.Replacing.{bind_count, expressions, join_count, put_in_alts, renamed, replaced, value_alone, whole_coercions}
use Rattle.fc_rows.specs.Occurrences.{innermost_joins, innermost_values, is_dead, occurrences}
use Rattle.fc_rows.specs.Shrinking.{before_joins, before_values, case_merge, is_once, join_dead, let_dead, let_of, let_once}
use Rattle.fc_rows.specs.declared.occurrence.Occurrence.{Occurrence}
use Rattle.fc_rows.specs.declared.occurrence.Occurrence.TheVariants.{Dead, Once, OnceAsField, OnceInside, Many}
use Rattle.fc_subst.specs.Replacements.{without}
use Rattle.fc_subst.proofs.Delayed.{renaming_is_put}

-- WITHOUT THE INNERMOST BINDERS

pub without_values_is : (n : ℕ) (e : NExpr) → replaced (without (record { types = 0; coercions = 0; values = n; joins = 0 })) e ≡ renamed (before_values n) e
without_values_is n e = sym (renaming_is_put (before_values n) (without (record { types = 0; coercions = 0; values = n; joins = 0 })) (record {
  types = λ i. ap NTVar (omega arith);
  coercions = λ i. ap NGVar (omega arith);
  values = λ i. refl;
  joins = λ i. omega arith;
}) e)

pub without_joins_is : (n : ℕ) (e : NExpr) → replaced (without (record { types = 0; coercions = 0; values = 0; joins = n })) e ≡ renamed (before_joins n) e
without_joins_is n e = sym (renaming_is_put (before_joins n) (without (record { types = 0; coercions = 0; values = 0; joins = n })) (record {
  types = λ i. ap NTVar (omega arith);
  coercions = λ i. ap NGVar (omega arith);
  values = λ i. ap NLocal (omega arith);
  joins = λ i. refl;
}) e)

-- HOW OFTEN

pub not_dead : (d : Occurrence) → (d ≡ Dead → ⊥) → is_dead d ≡ false
not_dead Dead other = absurd (other refl)
not_dead Once other = refl
not_dead OnceAsField other = refl
not_dead OnceInside other = refl
not_dead Many other = refl

pub not_once : (d : Occurrence) → (d ≡ Once → ⊥) → is_once d ≡ false
not_once Dead other = refl
not_once Once other = absurd (other refl)
not_once OnceAsField other = refl
not_once OnceInside other = refl
not_once Many other = refl

pub none_if_not : (q : Bool) (e : NExpr) → q ≡ false → (if q then Some e else None) ≡ None
none_if_not true e other = cc
none_if_not false e other = refl

-- GROUPS THAT GO

pub let_dead_is : (e : NExpr) (r : Bool) (bs : NBinds) (b : NExpr) (n : ℕ) (d : Occurrence) → e ≡ NLet r bs b → bind_count bs ≡ n → d ≡ occurrences (innermost_values n) b
    → let_dead e ≡ (if is_dead d then Some (renamed (before_values n) b) else None)
let_dead_is e r bs b n d is count found =
    ap let_dead is ∙ ap (λ m. if is_dead (occurrences (innermost_values m) b) then Some (renamed (before_values m) b) else None) count
    ∙ ap (λ o. if is_dead o then Some (renamed (before_values n) b) else None) (sym found)

pub join_dead_is : (e : NExpr) (r : Bool) (t : NTy) (js : NJoins) (b : NExpr) (n : ℕ) (d : Occurrence) → e ≡ NJoin r t js b → join_count js ≡ n → d ≡ occurrences (innermost_joins n) b
    → join_dead e ≡ (if is_dead d then Some (renamed (before_joins n) b) else None)
join_dead_is e r t js b n d is count found =
    ap join_dead is ∙ ap (λ m. if is_dead (occurrences (innermost_joins m) b) then Some (renamed (before_joins m) b) else None) count
    ∙ ap (λ o. if is_dead o then Some (renamed (before_joins n) b) else None) (sym found)

-- LETS WHOSE VARIABLE OCCURS ONCE

pub let_once_is : (e : NExpr) (t : NTy) (a b : NExpr) (u : Bool) (d : Occurrence) → e ≡ let_of t a b → u ≡ is_unlifted t → d ≡ occurrences (innermost_values 1) b
    → let_once e ≡ (if not u && is_once d then Some (replaced (value_alone a) b) else None)
let_once_is e t a b u d is lifted found =
    ap let_once is ∙ ap (λ v. if not v && is_once (occurrences (innermost_values 1) b) then Some (replaced (value_alone a) b) else None) (sym lifted)
    ∙ ap (λ o. if not u && is_once o then Some (replaced (value_alone a) b) else None) (sym found)

-- A CASE IN THE DEFAULT

pub case_merge_is : (e s : NExpr) (t u : NTy) (outer : NAlts) (b i : NExpr) (v w : NTy) (inner : NAlts) → e ≡ NCase s t u outer → outer ≡ MoreNAlts (NBranch head.Default [] b) NoNAlts
    → b ≡ NCase i v w inner → i ≡ NLocal 0 → case_merge e ≡ Some (NCase s t u (put_in_alts expressions whole_coercions (value_alone (NLocal 0)) inner))
case_merge_is e s t u outer b i v w inner is alone within innermost =
    ap case_merge (is ∙ ap (NCase s t u) (alone ∙ ap (λ d. MoreNAlts (NBranch head.Default [] d) NoNAlts) (within ∙ ap (λ x. NCase x v w inner) innermost)))
