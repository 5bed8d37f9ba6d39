-- A step in the first of some modules.
use Rattle.std.proofs.Common.{◌≡◌, ◌+◌, ◌≤◌, ℕ, zero, suc, List, [], ◌∷◌, ◌++◌, Some, None, refl, sym, ap, ◌∙◌, arith, subst}
use Rattle.std.specs.Prelude.{slice_get}
use Rattle.std.proofs.lemmas.List.{length-map}
use Rattle.std.proofs.lemmas.Option.{none-some, same_Some}
use Rattle.fc_syntax.specs.View.{decl_of, decls_of}
use Rattle.fc_syntax.specs.declared.module.Decl as RustDecl
use Rattle.fc_syntax.specs.declared.module.Module as RustModule
use Rattle.fc_syntax.specs.declared.ty.Ref.{Ref}
use Rattle.fc_log.specs.declared.log.Entry.{Entry}
use Rattle.fc_log.specs.declared.log.Entry.TheVariants as entry
use Rattle.fc_log.specs.declared.log.Step.{Step}
use Rattle.fc_model.specs.Calling.{from_some}
use Rattle.fc_model.specs.Kinding.{decls_at}
use Rattle.fc_model.specs.Nameless.{NDecl, NModule}
use Rattle.fc_model.specs.NamelessView.{ndecl_of, ndecls_of, nexpr_of, nmodule_of, nmodules_of}
use Rattle.fc_model.specs.Worded.{WExpr, bare_decl, bare_expr}
use Rattle.fc_reaching.specs.Reaching.{decls_in}
use Rattle.fc_type_table.proofs.Numbers.{Grows-refl}
use Rattle.fc_rows.specs.Surroundings.{outside}
use Rattle.fc_parts.specs.PartsAt.{at_place}
use Rattle.fc_parts.proofs.Parted.{asked_of_found}
use Rattle.fc_limits_at_places.specs.Fitting.{nexpr_size}
use Rattle.fc_row_at_place.specs.Rows.{built_row}
use Rattle.fc_search_laws.proofs.Searched.{what_is_found}
use Rattle.fc_apply.specs.Definitions.{HasDecl, exchanged_in_decl, right_side}
use Rattle.fc_apply.proofs.InDefinitions.{decl_put}
use Rattle.fc_row_search.specs.declared.spots.Applying.{Applying}
use Rattle.fc_simplify.specs.Phase.{Continues, FirstDefines, FirstHasSpare, KeepsHeaders, Simplifies, room}
use Rattle.fc_simplify.specs.Steps.{lines_of}
use Rattle.fc_simplify.specs.Taking.{HasRun, IsFound, IsNext, IsNowhere, IsPut}
use Rattle.fc_simplify.proofs.Keeping.{headers_same}
use Rattle.fc_simplify.proofs.Logs.{continues_same, lines_turned}
use Rattle.fc_simplify.proofs.Taken.{declares_same, places_same, spare_after, spare_left, steps_simplify, words_kept}
use Rattle.fc_simplify.proofs.Words.{is_below, located}

-- WHAT STEPS DO

-- what was put is right: what a row made, or that with so many lets of a run put in
pub record IsTaken (spare : ℕ) (s : Step) (count : ℕ) (by old : WExpr) (before after : List NModule) : Type 0 where
  pub continues : (es : List Entry) → Continues before after es (es ++ (lines_of count s ++ entry.Step s ∷ []))
  pub keeps : KeepsHeaders before after
  pub left : nexpr_size (bare_expr by) ≤ spare + nexpr_size (bare_expr old)
  pub spare_then : (t : ℕ) → t + nexpr_size (bare_expr by) ≡ spare + nexpr_size (bare_expr old) → FirstHasSpare t after

taken : (spare i : ℕ) (a : Applying) (s : Step) (by old : WExpr) (count : ℕ) (ms ks : List (RustModule.Module ℕ Ref)) → FirstDefines i (nmodules_of ms) → FirstHasSpare spare (nmodules_of ms)
    → IsNext spare i a s (nmodules_of ms) → HasRun a.row (nexpr_of a.new) count (bare_expr by) → IsPut i a.place.items by old ms ks → IsTaken spare s count by old (nmodules_of ms) (nmodules_of ks)
taken spare i a s by old count [] ks first has found run put = absurd put
taken spare i a s by old count (m ∷ ms) [] first has found run put = absurd put
taken spare i a s by old count (m ∷ ms) (k ∷ ks) (w, first) has found run (same, put) = record {
  continues = λ es. (
    ap nmodules_of same,
    (
      lines_of count s ++ entry.Step s ∷ [],
      (
        refl,
        subst (λ fs. Simplifies (nmodules_of ms) fs (nmodule_of m) (nmodule_of k)) (lines_turned count s) (steps_simplify m k (nmodules_of ms) spare i a s by old count w first has found run put),
      ),
    ),
  );
  keeps = subst (λ xs. KeepsHeaders (nmodule_of m ∷ nmodules_of ms) (nmodule_of k ∷ xs)) (sym (ap nmodules_of same)) (record {
    words = words_kept m k (nmodules_of ms) spare i a s by old count w first has found run put;
    headers = declares_same m k (nmodules_of ms) spare i a s by old count w first has found run put;
    places = places_same m k (nmodules_of ms) spare i a s by old count w first has found run put;
  });
  left = spare_left m k (nmodules_of ms) spare i a s by old count w first has found run put;
  spare_then = spare_after m k (nmodules_of ms) spare i a s by old count w first has found run put;
}

pub taken_at : (spare i : ℕ) (a : Applying) (s : Step) (by old : WExpr) (count : ℕ) (p : List ℕ) (ms ks : List (RustModule.Module ℕ Ref)) → p ≡ a.place.items → FirstDefines i (nmodules_of ms)
    → FirstHasSpare spare (nmodules_of ms) → IsNext spare i a s (nmodules_of ms) → HasRun a.row (nexpr_of a.new) count (bare_expr by) → IsPut i p by old ms ks
    → IsTaken spare s count by old (nmodules_of ms) (nmodules_of ks)
taken_at spare i a s by old count p ms ks is first has found run put = taken spare i a s by old count ms ks first has found run (subst (λ q. IsPut i q by old ms ks) is put)

-- WHERE SOMETHING IS FOUND

-- the declaration of a number
record IsOf (ds : List (RustDecl.Decl ℕ Ref)) (i : ℕ) (x : NDecl) : Type 0 where
  decl : RustDecl.Decl ℕ Ref
  there : slice_get ds i ≡ Some decl
  is : ndecl_of decl ≡ x

decl_at : (ds : List (RustDecl.Decl ℕ Ref)) (i : ℕ) (x : NDecl) → slice_get (ndecls_of ds) i ≡ Some x → IsOf ds i x
decl_at [] i x h = absurd (none-some _ h)
decl_at (d ∷ ds) zero x h = record { decl = d; there = refl; is = same_Some _ _ h }
decl_at (d ∷ ds) (suc i) x h = let r = decl_at ds i x h in record { decl = r.decl; there = r.there; is = r.is }

-- where a row makes something, an expression stands
somewhere : (spare i : ℕ) (a : Applying) (s : Step) (by : WExpr) (m : RustModule.Module ℕ Ref) (xs : List NModule) → IsFound spare i a s (nmodule_of m) xs
    → ((d : RustDecl.Decl ℕ Ref) → slice_get m.decls i ≡ Some d → exchanged_in_decl by (1 ∷ a.place.items) (decl_of d) ≡ None) → ⊥
somewhere spare i a s by m xs f nowhere =
    let declared = decls_at (nmodule_of m ∷ xs) in
    let row = built_row declared a.row a.alternative in
    let q = a.place.items in
    let applies = what_is_found declared spare room f.from (outside declared) f.right a.row a.alternative q (nexpr_of a.new) f.found in
    let d = decl_at m.decls i f.decl f.there in
    decl_put row (outside declared) (1 ∷ q) (decl_of d.decl) by (nexpr_of a.new)
    (ap (from_some (at_place row q (outside declared))) (ap right_side d.is ∙ f.right_is) ∙ sym (asked_of_found row (outside declared) q f.right) ∙ ap (from_some (λ t. row t.0 t.1)) applies.there ∙ applies.makes)
    (nowhere d.decl d.there)

not_nowhere : (spare i : ℕ) (a : Applying) (s : Step) (by : WExpr) (ms : List (RustModule.Module ℕ Ref)) → IsNext spare i a s (nmodules_of ms) → IsNowhere i a.place.items by ms → ⊥
not_nowhere spare i a s by [] found nowhere = found
not_nowhere spare i a s by (m ∷ ms) found nowhere = somewhere spare i a s by m (nmodules_of ms) found nowhere

pub not_nowhere_at : (spare i : ℕ) (a : Applying) (s : Step) (by : WExpr) (p : List ℕ) (ms : List (RustModule.Module ℕ Ref)) → p ≡ a.place.items → IsNext spare i a s (nmodules_of ms) → IsNowhere i p by ms → ⊥
not_nowhere_at spare i a s by p ms is found nowhere = not_nowhere spare i a s by ms found (subst (λ q. IsNowhere i q by ms) is nowhere)

-- WHERE A WORD IS DEFINED

-- the first definition of a word is a declaration
pub first_there : (i : ℕ) (ms : List (RustModule.Module ℕ Ref)) → FirstDefines i (nmodules_of ms) → HasDecl i ms
first_there i [] first = first
first_there i (m ∷ ms) (w, is) =
    let at = located w 0 i (decls_in (nmodule_of m)) is in
    omega (arith, at.number, is_below w at.at at.decl (decls_in (nmodule_of m)) at.place, length-map (decls_of m.decls) bare_decl, length-map m.decls decl_of)

-- where nothing was done
pub ruleset same_rules = (continues_same, headers_same, Grows-refl)
