-- What the scope of a binder uses is among all the words around it, and among those that a walk through it collects.
use Rattle.std.proofs.Common.{◌≡◌, Bool, true, false, ◌||◌, List, Option, None, Ok, is_some, refl, sym, ap, ◌∙◌, subst}
use Rattle.fc_syntax.specs.declared.fault.FaultKind.TheVariants.{Unbound}
use Rattle.fc_syntax.specs.declared.ty.Name.{Name}
use Rattle.fc_syntax.specs.Tree.{Word}
use Rattle.fc_model.specs.Nameless.{NTy, NCo, NBinder, NExpr, NBinds, NJoins, NAlts}
use Rattle.fc_model.specs.Resolution.{Locals, Top, Words, declared_name, found_term}
use Rattle.fc_model.proofs.Parts.{need_inv}
use Rattle.fc_model.proofs.Sameness.{false_true}
use Rattle.fc_used_words.specs.Scoped.{Counts, HoldsBinders, HoldsTys, in_binder, in_binders, in_group, in_joins, in_type, in_value, nothing_around}
use Rattle.fc_used_words.specs.Standing.{AreWithin, IsDeclared, is_found, is_found_by, is_kept, outside}
use Rattle.fc_used_words.specs.Used.{AddsAlts, AddsBinders, AddsBinds, AddsCo, AddsExpr, AddsJoins, AddsTy, AddsTys}
use Rattle.fc_used_words.proofs.Both.{Follows, both_alts, both_binders, both_binds, both_co, both_expr, both_joins, both_ty, both_tys}
use Rattle.fc_used_words.proofs.Keeping.{Same, below_same, beyond_both, kept_within}
use Rattle.fc_naming.specs.Declarations.{FieldsUse}
use Rattle.fc_naming.specs.Named.{AltsUse, BelowUses, CoUses, JoinUses, LamUses, LetUses, TyUses}
use Rattle.fc_naming.specs.Taken.{is_somewhere, words_around}
use Rattle.fc_naming.proofs.Naming.{found_kept}

-- EVERY WORD IN SCOPE

-- a definition of the module itself is one of its terms
own_declared : (top : Top) (n : Name) → IsDeclared top top.terms top.offers.terms n → outside top.own n.module ≡ None → top.terms n.text ≡ true
own_declared top n declared own =
    (need_inv (top.terms n.text) Unbound _ n (subst (λ (m : Option Word). declared_name top top.terms top.offers.terms m n.text ≡ Ok n) own declared)).0

either : (a b : Bool) → b ≡ true → (a || b) ≡ true
either true b h = refl
either false b h = h

found_around : (top : Top) (s : Locals) → Follows (is_found top s) (is_found top s) (is_found_by top (words_around top s) s) Same
found_around top s = below_same (is_found top s) (is_found top s) (is_found_by top (words_around top s) s) (record {
  type_at = beyond_both _ _ _ (λ i (w, at, found, any) b. (w, at, found, ap is_some found));
  value_at = beyond_both _ _ _ (λ i (w, at, found, any) b. (w, at, found, ap (λ f. is_somewhere f || top.terms w) found));
  join_at = beyond_both _ _ _ (λ i (w, at, found, any) b. (w, at, found, ap (λ f. is_somewhere f || top.terms w) found));
  coercion_at = beyond_both _ _ _ (λ i (w, at, found, any) b. (w, at, found, ap is_some found));
  type_name = λ n a b. a;
  axiom_name = λ n a b. a;
  constructor = λ n a b. a;
  definition = λ n a b. (a.0, λ own. ((a.1 own).0, either (is_somewhere (found_term s.terms n.text)) (top.terms n.text) (own_declared top n a.0 own)));
})

module _ {top : Top} {s : Locals} where
  pub type_around : {n : NTy} → TyUses top s n (words_around top s)
  type_around {n = n} = record { body = λ h. both_ty _ _ _ _ (found_around top s) _ _ refl n h h }

  pub coercion_around : {n : NCo} → CoUses top s n (words_around top s)
  coercion_around {n = n} = record { body = λ h. both_co _ _ _ _ (found_around top s) _ _ refl n h h }

  pub alts_around : {n : NAlts} → AltsUse top s n (words_around top s)
  alts_around {n = n} = record { alts = λ h. both_alts _ _ _ _ (found_around top s) _ _ refl n h h }

  pub lambda_around : {c : NBinder} {n : NExpr} → LamUses top s c n (words_around top s)
  lambda_around {c = c} {n = n} = record { body = λ h. both_expr _ _ _ _ (found_around top s) _ _ refl n h h }

  pub below_around : {ns : List NBinder} {n : NExpr} → BelowUses top s ns n (words_around top s)
  below_around {ns = ns} {n = n} = record {
    binders = λ h. both_binders _ _ _ _ (found_around top s) _ _ refl ns h h;
    body = λ h. both_expr _ _ _ _ (found_around top s) _ _ refl n h h;
  }

  pub let_around : {r : Bool} {ns : NBinds} {n : NExpr} → LetUses top s r ns n (words_around top s)
  let_around {r = r} {ns = ns} {n = n} = record {
    binds = λ e h. both_binds _ _ _ _ (found_around top s) _ _ refl ns h h;
    body = λ h. both_expr _ _ _ _ (found_around top s) _ _ refl n h h;
  }

  pub join_around : {r : Bool} {ns : NJoins} {n : NExpr} → JoinUses top s r ns n (words_around top s)
  join_around {r = r} {ns = ns} {n = n} = record {
    joins = λ e h. both_joins _ _ _ _ (found_around top s) _ _ refl ns h h;
    body = λ h. both_expr _ _ _ _ (found_around top s) _ _ refl n h h;
  }

  pub fields_around : {ns : List NBinder} {ts : List NTy} → FieldsUse top s ns ts (words_around top s)
  fields_around {ns = ns} {ts = ts} = record {
    binders = λ h. both_binders _ _ _ _ (found_around top s) _ _ refl ns h h;
    fields = λ h. both_tys _ _ _ _ (found_around top s) _ _ refl ts h h;
  }

  -- THE WORDS THAT A WALK COLLECTS

  pub type_walked : {n : NTy} {ws more : Words} → AddsTy top.own s (in_type nothing_around) n ws more → TyUses top s n more
  type_walked {n = n} {more = more} a = record { body = λ h. both_ty _ _ _ _ (found_kept top more s) _ _ refl n h a.kept }

  pub coercion_walked : {n : NCo} {ws more : Words} → AddsCo top.own s (in_type nothing_around) n ws more → CoUses top s n more
  coercion_walked {n = n} {more = more} a = record { body = λ h. both_co _ _ _ _ (found_kept top more s) _ _ refl n h a.kept }

  pub alts_walked : {n : NAlts} {ws more : Words} → AddsAlts top.own s (in_value nothing_around) n ws more → AltsUse top s n more
  alts_walked {n = n} {more = more} a = record { alts = λ h. both_alts _ _ _ _ (found_kept top more s) _ _ refl n h a.kept }

  pub lambda_walked : {c : NBinder} {n : NExpr} {ws more : Words} → AddsExpr top.own s (in_binder c nothing_around) n ws more → LamUses top s c n more
  lambda_walked {n = n} {more = more} a = record { body = λ h. both_expr _ _ _ _ (found_kept top more s) _ _ refl n h a.kept }

  pub below_walked : {ns : List NBinder} {n : NExpr} {ws mid more : Words} → AddsBinders top.own s nothing_around ns ws mid → AddsExpr top.own s (in_binders ns nothing_around) n mid more
      → BelowUses top s ns n more
  below_walked {ns = ns} {n = n} {mid = mid} {more = more} a b = record {
    binders = λ h. both_binders _ _ _ _ (found_kept top more s) _ _ refl ns h (both_binders _ _ _ _ (kept_within top.own mid more s b.within) nothing_around nothing_around refl ns a.kept a.kept);
    body = λ h. both_expr _ _ _ _ (found_kept top more s) _ _ refl n h b.kept;
  }

  pub fields_walked : {k l : Counts} {ns ms : List NBinder} {ts us : List NTy} {ws mid more : Words} → AddsBinders top.own s k ns ws mid → k ≡ nothing_around → l ≡ in_binders ns k
      → AddsTys top.own s l ts mid more → ns ≡ ms → ts ≡ us → FieldsUse top s ms us more
  fields_walked {k = k} {l = l} {ns = ns} {ts = ts} {us = us} {mid = mid} {more = more} a none below b e f =
      let binders : HoldsBinders (is_kept top.own more s) nothing_around ns =
      subst (λ (c : Counts). HoldsBinders (is_kept top.own more s) c ns) none (both_binders _ _ _ _ (kept_within top.own mid more s b.within) k k refl ns a.kept a.kept) in
      let fields : HoldsTys (is_kept top.own more s) (in_binders ns nothing_around) ts =
      subst (λ (c : Counts). HoldsTys (is_kept top.own more s) c ts) (below ∙ ap (in_binders ns) none) b.kept in
      subst (λ (xs : List NBinder). FieldsUse top s xs us more) e (subst (λ (xs : List NTy). FieldsUse top s ns xs more) f (record {
        binders = λ h. both_binders _ _ _ _ (found_kept top more s) _ _ refl ns h binders;
        fields = λ h. both_tys _ _ _ _ (found_kept top more s) _ _ refl ts h fields;
      }))

  pub let_walked_group : {r : Bool} {ns : NBinds} {n : NExpr} {ws mid near more : Words} → r ≡ true → AddsBinds top.own s (in_group ns nothing_around) ns ws mid → mid ≡ near
      → AddsExpr top.own s (in_group ns nothing_around) n near more → LetUses top s r ns n more
  let_walked_group {ns = ns} {n = n} {mid = mid} {more = more} is a same b = record {
    binds = λ e h. both_binds _ _ _ _ (found_kept top more s) _ _ refl ns h
        (both_binds _ _ _ _ (kept_within top.own mid more s (subst (λ (w : Words). AreWithin w more) (sym same) b.within)) _ _ refl ns a.kept a.kept);
    body = λ h. both_expr _ _ _ _ (found_kept top more s) _ _ refl n h b.kept;
  }

  pub let_walked_alone : {r : Bool} {ns : NBinds} {n : NExpr} {ws more : Words} → r ≡ false → AddsExpr top.own s (in_group ns nothing_around) n ws more → LetUses top s r ns n more
  let_walked_alone {n = n} {more = more} is b = record { binds = λ e h. false_true (sym is ∙ e); body = λ h. both_expr _ _ _ _ (found_kept top more s) _ _ refl n h b.kept }

  pub join_walked_group : {r : Bool} {ns : NJoins} {n : NExpr} {ws mid near more : Words} → r ≡ true → AddsJoins top.own s (in_joins ns nothing_around) ns ws mid → mid ≡ near
      → AddsExpr top.own s (in_joins ns nothing_around) n near more → JoinUses top s r ns n more
  join_walked_group {ns = ns} {n = n} {mid = mid} {more = more} is a same b = record {
    joins = λ e h. both_joins _ _ _ _ (found_kept top more s) _ _ refl ns h
        (both_joins _ _ _ _ (kept_within top.own mid more s (subst (λ (w : Words). AreWithin w more) (sym same) b.within)) _ _ refl ns a.kept a.kept);
    body = λ h. both_expr _ _ _ _ (found_kept top more s) _ _ refl n h b.kept;
  }

  pub join_walked_alone : {r : Bool} {ns : NJoins} {n : NExpr} {ws more : Words} → r ≡ false → AddsExpr top.own s (in_joins ns nothing_around) n ws more → JoinUses top s r ns n more
  join_walked_alone {n = n} {more = more} is b = record { joins = λ e h. false_true (sym is ∙ e); body = λ h. both_expr _ _ _ _ (found_kept top more s) _ _ refl n h b.kept }
