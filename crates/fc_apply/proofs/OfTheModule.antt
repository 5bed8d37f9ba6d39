-- The step that is of a module as a whole, and the others: a row that makes nothing of any expression makes nothing of a module.
use Rattle.std.proofs.Common.{◌≡◌, ℕ, zero, suc, Bool, true, false, if◌then◌else◌, List, [], ◌∷◌, Option, Some, None, refl, sym, ap, ◌∙◌, subst}
use Rattle.std.specs.Prelude.{slice_index_or}
use Rattle.std.specs.Str.{bytes_eq}
use Rattle.std.proofs.lemmas.Option.{none-some}
use Rattle.fc_syntax.specs.Tree.{Word}
use Rattle.fc_syntax.specs.declared.ty.Ref.{Ref}
use Rattle.fc_syntax.specs.declared.module.Module as RustModule
use Rattle.fc_syntax.specs.declared.fault.Place.{Place}
use Rattle.fc_syntax.specs.declared.fault.Place.TheVariants as place
use Rattle.fc_log.specs.declared.log.Answer.{Answer}
use Rattle.fc_log.specs.declared.log.Row.{Row}
use Rattle.fc_log.specs.declared.log.Row.TheVariants as row
use Rattle.fc_log.specs.declared.log.Step.{Step}
use Rattle.fc_model.specs.Nameless.{NDecl, NData, NNew, NFamily, NAxiom, NDef, NWrap, NExpr, NModule, NModuleOf}
use Rattle.fc_model.specs.Kinding.{decls_at}
use Rattle.fc_model.specs.NamelessView.{nmodule_of, nmodules_of}
use Rattle.fc_model.proofs.Sameness.{false_true}
use Rattle.fc_parts.specs.Found.{Found, found}
use Rattle.fc_parts.proofs.Parted.{asked, asked_of_found}
use Rattle.fc_parts.proofs.RowsAtParts.{not_made}
use Rattle.fc_result_limits.proofs.Back.{expr_back}
use Rattle.fc_result_limits.proofs.Blank.{blank_expr}
use Rattle.fc_row_at_place.specs.Rows.{is_built}
use Rattle.fc_rows.specs.Changing.{changed, made}
use Rattle.fc_rows.specs.ChangingCoercions.{as_they_are}
use Rattle.fc_rows.specs.Dropping.{DropsDead}
use Rattle.fc_rows.specs.Replaying.{Rewrites, at_a_place, of_the_module}
use Rattle.fc_rows.specs.Rewriting.{changed_decls, changed_module, changed_right, rewritten}
use Rattle.fc_rows.specs.Surroundings.{Surroundings, outside}
use Rattle.fc_apply.specs.Steps.{FirstDrops, Takes, is_of_the_module, is_run}

-- A ROW THAT MAKES NOTHING

abbrev nothing : Surroundings → NExpr → Option NExpr
nothing s e = None

none_asked : (f : Option Found) → asked nothing f ≡ None
none_asked None = refl
none_asked (Some t) = refl

none_at : (s : Surroundings) (p : List ℕ) (e : NExpr) → changed nothing as_they_are s p e ≡ None
none_at s p e =
    ap (changed nothing as_they_are s p) (sym (expr_back e))
    ∙ not_made nothing s p (blank_expr e) (sym (asked_of_found nothing s p _) ∙ none_asked (found s p _))

none_right : (s : Surroundings) (p : List ℕ) (e : NExpr) → changed_right nothing as_they_are s p e ≡ None
none_right s [] e = refl
none_right s (zero ∷ p) e = refl
none_right s (suc zero ∷ p) e = none_at s p e
none_right s (suc (suc i) ∷ p) e = refl

neither : (c : Bool) (o q : Option (List NDecl)) → o ≡ None → q ≡ None → (if c then o else q) ≡ None
neither true o q first second = first
neither false o q first second = second

none_of_decls : (s : Surroundings) (w : Word) (p : List ℕ) (ds : List NDecl) → changed_decls nothing as_they_are s w p ds ≡ None
none_of_decls s w p [] = refl
none_of_decls s w p (NDef n t e ∷ ds) = neither (bytes_eq n w) _ _ (ap (made _) (none_right s p e)) (ap (made _) (none_of_decls s w p ds))
none_of_decls s w p (NWrap n t e ∷ ds) = neither (bytes_eq n w) _ _ (ap (made _) (none_right s p e)) (ap (made _) (none_of_decls s w p ds))
none_of_decls s w p (NData n ps cs ∷ ds) = ap (made _) (none_of_decls s w p ds)
none_of_decls s w p (NNew n ps t con ∷ ds) = ap (made _) (none_of_decls s w p ds)
none_of_decls s w p (NFamily n ps k ∷ ds) = ap (made _) (none_of_decls s w p ds)
none_of_decls s w p (NAxiom n ps t u ∷ ds) = ap (made _) (none_of_decls s w p ds)

none_of_module : (xs : List NModule) (w : Word) (p : List ℕ) (n : NModule) → changed_module nothing as_they_are xs w p n ≡ None
none_of_module xs w p (NModuleOf m imports exports hidden ds) =
    ap (made (λ cs. NModuleOf m imports exports hidden cs)) (none_of_decls (outside (decls_at (NModuleOf m imports exports hidden ds ∷ xs))) w p ds)

-- STEPS

-- a row whose steps are run is built, where it makes something at a place
built_at_place : (xs : List NModule) (r : Row) (w : Word) (p : List ℕ) (n k : NModule) → is_run r ≡ true → rewritten xs r w p n ≡ Some k → is_built r ≡ true
built_at_place xs row.DefDead w p n k run makes = absurd (none-some k (sym (none_of_module xs w p n) ∙ makes))
built_at_place xs r w p n k run makes = run

-- so is that of a step that is taken, unless it is of the module as a whole
pub taken_is_built : (s : Step) (before after : List NModule) → is_of_the_module s ≡ false → is_run s.row ≡ true → Takes s before after → is_built s.row ≡ true
taken_is_built s [] after other run takes = absurd takes
taken_is_built s (n ∷ xs) [] other run takes = absurd takes
taken_is_built s (n ∷ xs) (k ∷ ys) other run (same, at_a_place r w p makes within) = built_at_place xs r w p n k run makes
taken_is_built s (n ∷ xs) (k ∷ ys) other run (same, of_the_module drops) = false_true (sym other)

-- a step that is of the module as a whole is taken exactly where definitions go
pub takes_drops : (s : Step) (before after : List NModule) → is_of_the_module s ≡ true → Takes s before after → FirstDrops before after
takes_drops s [] after is takes = takes
takes_drops s (n ∷ xs) [] is takes = takes
takes_drops s (n ∷ xs) (k ∷ ys) is (same, at_a_place r w p makes within) = false_true is
takes_drops s (n ∷ xs) (k ∷ ys) is (same, of_the_module drops) = (same, drops)

whole_parts : (d : Option Word) (p : Place) (a : Option Answer) (r : Row) → is_of_the_module (record { row = r; def = d; path = p; answer = a }) ≡ true
    → ◌≡◌ {A = Step} (record { row = row.DefDead; def = None; path = place.Nowhere; answer = None }) (record { row = r; def = d; path = p; answer = a })
whole_parts None place.Nowhere None row.DefDead is = refl
whole_parts d p a r is = false_true is

pub drops_takes : (s : Step) (before after : List NModule) → is_of_the_module s ≡ true → FirstDrops before after → Takes s before after
drops_takes s [] after is drops = drops
drops_takes s (n ∷ xs) [] is drops = drops
drops_takes s (n ∷ xs) (k ∷ ys) is (same, drops) = (same, subst (λ z. Rewrites xs z n k) (whole_parts s.def s.path s.answer s.row is) (of_the_module drops))

-- where nothing is dead in the first module, no definitions go from it
pub none_drops : (ms : List (RustModule.Module ℕ Ref)) (m z : RustModule.Module ℕ Ref) → m ≡ slice_index_or ms 0 z → ((k : NModule) → DropsDead (nmodule_of m) k → ⊥)
    → (after : List NModule) → FirstDrops (nmodules_of ms) after → ⊥
none_drops [] m z is none after drops = drops
none_drops (x ∷ ms) m z is none [] drops = drops
none_drops (x ∷ ms) m z is none (k ∷ ys) (same, drops) = none k (subst (λ q. DropsDead (nmodule_of q) k) (sym is) drops)
