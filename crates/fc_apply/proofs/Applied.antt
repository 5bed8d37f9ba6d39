-- What a step makes of the first of some modules, by what its row makes of the definition that it names.
use Rattle.std.proofs.Common.{◌≡◌, ℕ, zero, suc, true, List, [], ◌∷◌, Option, Some, None, refl, sym, ap, ◌∙◌, position, subst, if◌then◌else◌}
use Rattle.std.specs.Prelude.{slice_get, slice_set}
use Rattle.std.proofs.lemmas.Option.{none-some, same_Some}
use Rattle.fc_syntax.specs.Tree.{Word}
use Rattle.fc_syntax.specs.declared.ty.Ref.{Ref}
use Rattle.fc_syntax.specs.declared.fault.Place.{Place}
use Rattle.fc_syntax.specs.declared.fault.Place.TheVariants as place
use Rattle.fc_syntax.specs.declared.module.Decl as RustDecl
use Rattle.fc_syntax.specs.declared.module.Module as RustModule
use Rattle.fc_log.specs.declared.log.Answer.{Answer}
use Rattle.fc_log.specs.declared.log.Row.{Row}
use Rattle.fc_log.specs.declared.log.Step.{Step}
use Rattle.fc_model.specs.Calling.{from_some}
use Rattle.fc_model.specs.Kinding.{Modules, decls_at}
use Rattle.fc_model.specs.Nameless.{NDecl, NExpr, NModule, NModuleOf}
use Rattle.fc_model.specs.NamelessView.{ndecl_of, ndecls_of, nmodule_of, nmodules_of}
use Rattle.fc_model.proofs.Sameness.{false_true}
use Rattle.fc_rows.specs.Changing.{made}
use Rattle.fc_rows.specs.ChangingCoercions.{as_they_are}
use Rattle.fc_rows.specs.Replaying.{Rewrites, at_a_place, of_the_module}
use Rattle.fc_rows.specs.ResultLimits.{IsWithinLimits}
use Rattle.fc_rows.specs.Rewriting.{changed_decls, changed_module, looked_at, rewritten, row_result}
use Rattle.fc_rows.specs.Surroundings.{Surroundings, outside}
use Rattle.fc_apply.specs.Definitions.{changed_decl, is_definition}
use Rattle.fc_apply.specs.Steps.{FirstFits, Makes, Takes, built_at, placed}
use Rattle.fc_apply.proofs.Decls.{none_changed, one_changed, set_is}
use Rattle.fc_row_at_place.specs.Rows.{built_row, is_built, row_within}
use Rattle.fc_row_at_place.proofs.Bounded.{rows_agree}
use Rattle.fc_result_limits.proofs.Deep.{bounded_is_row, bounded_where_shallow}

-- STEPS

placed_parts : (d : Option Word) (p : Place) (a : Option Answer) (r : Row) (w : Word) (q : List ℕ) → placed (record { row = r; def = d; path = p; answer = a }) ≡ Some (w, q)
    → ◌≡◌ {A = Step} (record { row = r; def = d; path = p; answer = a }) (record { row = r; def = Some w; path = place.Parts q; answer = None })
placed_parts (Some v) (place.Parts o) None r w q h =
    let parts : (v, o) ≡ (w, q) = same_Some _ _ h in λ j. record { row = r; def = Some ((parts j).0); path = place.Parts ((parts j).1); answer = None }
placed_parts (Some v) (place.Parts o) (Some a) r w q h = absurd (none-some _ h)
placed_parts (Some v) place.Nowhere a r w q h = absurd (none-some _ h)
placed_parts (Some v) (place.Byte b) a r w q h = absurd (none-some _ h)
placed_parts None p a r w q h = absurd (none-some _ h)

module _ (r : Row) (is : is_built r ≡ true) (xs : List NModule) (w : Word) (p : List ℕ) (n k : NModule) where
  abbrev ms : Modules
  ms = decls_at (n ∷ xs)

  -- a row that is built is what the table says, where that may be within the limits
  as_built : (i : ℕ) → row_within ms r i ≡ built_row ms r i
  as_built i = ap (λ c. λ t e. if c then row_within ms r i t e else None) (sym is)

  pub within_is : rewritten xs r w p n ≡ Some k → IsWithinLimits k → built_at xs r w p n ≡ Some k
  within_is makes fits = here (looked_at r p) makes
    where
      here : (o : Option (List ℕ × ℕ)) → from_some (λ q. changed_module (row_result ms r q.1) as_they_are xs w q.0 n) o ≡ Some k → from_some (λ q. changed_module (built_row ms r q.1) as_they_are xs w q.0 n) o ≡ Some k
      here None h = h
      here (Some q) h =
          sym (ap (λ row. changed_module row as_they_are xs w q.0 n) (as_built q.1))
          ∙ bounded_where_shallow (row_result ms r q.1) (row_within ms r q.1) (rows_agree ms r q.1) xs w q.0 n k h fits

  pub built_is : built_at xs r w p n ≡ Some k → rewritten xs r w p n ≡ Some k
  built_is makes = here (looked_at r p) makes
    where
      here : (o : Option (List ℕ × ℕ)) → from_some (λ q. changed_module (built_row ms r q.1) as_they_are xs w q.0 n) o ≡ Some k → from_some (λ q. changed_module (row_result ms r q.1) as_they_are xs w q.0 n) o ≡ Some k
      here None h = h
      here (Some q) h =
          bounded_is_row (row_result ms r q.1) (row_within ms r q.1) (rows_agree ms r q.1) xs w q.0 n k (ap (λ row. changed_module row as_they_are xs w q.0 n) (as_built q.1) ∙ h)

-- a step of a row that is built is taken exactly where the row makes something that is within the limits
pub takes_makes : (s : Step) (before after : List NModule) → is_built s.row ≡ true → Takes s before after → Makes s before after × FirstFits after
takes_makes s [] after is takes = absurd takes
takes_makes s (n ∷ xs) [] is takes = absurd takes
takes_makes s (n ∷ xs) (k ∷ ys) is (same, at_a_place r w p e within) = ((same, (is, (w, (p, (refl, within_is r is xs w p n k e within))))), within)
takes_makes s (n ∷ xs) (k ∷ ys) is (same, of_the_module drops) = false_true is

pub makes_takes : (s : Step) (before after : List NModule) → Makes s before after → FirstFits after → Takes s before after
makes_takes s [] after makes fits = absurd makes
makes_takes s (n ∷ xs) [] makes fits = absurd makes
makes_takes s (n ∷ xs) (k ∷ ys) (same, (is, (w, (p, (at, e))))) fits =
    (same, subst (λ z. Rewrites xs z n k) (sym (placed_parts s.def s.path s.answer s.row w p at)) (at_a_place s.row w p (built_is s.row is xs w p n k e) fits))

-- it makes one thing
pub makes_once : (s : Step) (before a b : List NModule) → Makes s before a → Makes s before b → a ≡ b
makes_once s [] a b first second = absurd first
makes_once s (n ∷ xs) [] b first second = absurd first
makes_once s (n ∷ xs) (k ∷ ys) [] first second = absurd second
makes_once s (n ∷ xs) (k ∷ ys) (l ∷ zs) (same, (is, (w, (p, (at, e))))) (same′, (is′, (w′, (p′, (at′, e′))))) =
    let place : (w, p) ≡ (w′, p′) = same_Some _ _ (sym at ∙ at′) in
    let module_is : k ≡ l = same_Some _ _ (sym e ∙ ap (λ q. built_at xs s.row q.0 q.1 n) place ∙ e′) in
    ap (λ z. z ∷ ys) module_is ∙ ap (λ zs. l ∷ zs) (same ∙ sym same′)

-- A ROW ON THE FIRST MODULE

module _ (m : RustModule.Module ℕ Ref) (ms : List (RustModule.Module ℕ Ref)) (s : Step) (is : is_built s.row ≡ true) where
  abbrev others : List NModule
  others = nmodules_of ms

  abbrev declared : Modules
  declared = decls_at (nmodule_of m ∷ others)

  abbrev row : ℕ → Surroundings → NExpr → Option NExpr
  row i = built_row declared s.row i

  abbrev with_decls : List NDecl → NModule
  with_decls ds = NModuleOf m.name m.imports m.exports m.hidden ds

  pub not_placed : placed s ≡ None → (after : List NModule) → Makes s (nmodule_of m ∷ others) after → ⊥
  not_placed none [] makes = makes
  not_placed none (k ∷ ys) (same, (is, (w, (p, (at, e))))) = none-some _ (sym none ∙ at)

  module _ (w : Word) (p : List ℕ) (at : placed s ≡ Some (w, p)) where
    -- nothing is made where no module is
    none_made : built_at others s.row w p (nmodule_of m) ≡ None → (after : List NModule) → Makes s (nmodule_of m ∷ others) after → ⊥
    none_made none [] makes = makes
    none_made none (k ∷ ys) (same, (is, (w′, (p′, (at′, e))))) =
        let place : (w, p) ≡ (w′, p′) = same_Some _ _ (sym at ∙ at′) in
        none-some k (sym none ∙ ap (λ q. built_at others s.row q.0 q.1 (nmodule_of m)) place ∙ e)

    pub not_aimed : looked_at s.row p ≡ None → (after : List NModule) → Makes s (nmodule_of m ∷ others) after → ⊥
    not_aimed none = none_made (ap (from_some (λ q. changed_module (row q.1) as_they_are others w q.0 (nmodule_of m))) none)

    module _ (q : List ℕ) (i : ℕ) (aim : looked_at s.row p ≡ Some (q, i)) where
      -- what the row makes of the module is what it makes of its declarations
      by_decls : (o : Option (List NDecl)) → changed_decls (row i) as_they_are (outside declared) w q (ndecls_of m.decls) ≡ o → built_at others s.row w p (nmodule_of m) ≡ made with_decls o
      by_decls o h = ap (from_some (λ z. changed_module (row z.1) as_they_are others w z.0 (nmodule_of m))) aim ∙ ap (made with_decls) h

      pub not_defined : position (λ d. is_definition w (ndecl_of d)) m.decls ≡ None → (after : List NModule) → Makes s (nmodule_of m ∷ others) after → ⊥
      not_defined none = none_made (by_decls None (none_changed (row i) as_they_are (outside declared) w q m.decls none))

      module _ (j : ℕ) (d : RustDecl.Decl ℕ Ref) (found : position (λ d. is_definition w (ndecl_of d)) m.decls ≡ Some j) (there : slice_get m.decls j ≡ Some d) where
        pub not_changed : changed_decl (row i) as_they_are (outside declared) q (ndecl_of d) ≡ None → (after : List NModule) → Makes s (nmodule_of m ∷ others) after → ⊥
        not_changed none =
            none_made (by_decls None (one_changed (row i) as_they_are (outside declared) w q m.decls j d found there ∙ ap (made (λ y. slice_set (ndecls_of m.decls) j y)) none))

        pub is_changed : (e : RustDecl.Decl ℕ Ref) → changed_decl (row i) as_they_are (outside declared) q (ndecl_of d) ≡ Some (ndecl_of e)
            → Makes s (nmodule_of m ∷ others) (nmodule_of (record m { decls = slice_set m.decls j e }) ∷ others)
        is_changed e some = (
          refl,
          (
            is,
            (
              w,
              (
                p,
                (
                  at,
                  by_decls (Some (slice_set (ndecls_of m.decls) j (ndecl_of e)))
                      (one_changed (row i) as_they_are (outside declared) w q m.decls j d found there ∙ ap (made (λ y. slice_set (ndecls_of m.decls) j y)) some)
                      ∙ ap (λ ds. Some (with_decls ds)) (sym (set_is m.decls j e)),
                ),
              ),
            ),
          ),
        )

-- one item exchanged, and put back
pub set_back : {X : Type 0} (xs : List X) (i : ℕ) (x y : X) → slice_get xs i ≡ Some x → slice_set (slice_set xs i y) i x ≡ xs
set_back [] i x y there = refl
set_back (z ∷ xs) zero x y there = ap (λ v. v ∷ xs) (sym (same_Some _ _ there))
set_back (z ∷ xs) (suc i) x y there = ap (λ rest. z ∷ rest) (set_back xs i x y there)
