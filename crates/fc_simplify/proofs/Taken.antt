-- Steps are right: what a row made, with the lets of a run behind it, in its place, is what its steps make of the module, within the limits, words are defined where they were, and the same is declared.
use Rattle.std.proofs.Common.{◌≡◌, ◌+◌, ◌-◌, ◌≤◌, ℕ, zero, suc, true, List, [], ◌∷◌, length, Option, Some, None, sym, ap, ◌∙◌, arith, subst}
use Rattle.std.specs.Prelude.{⊤, slice_get, slice_set}
use Rattle.std.proofs.lemmas.Bool.Decides.{nat_tests}
use Rattle.std.proofs.lemmas.Option.{none-some, same_Some}
use Rattle.fc_syntax.specs.Limits.{standard_limits}
use Rattle.fc_syntax.specs.Tree.{Word}
use Rattle.fc_syntax.specs.declared.fault.Place.TheVariants as place
use Rattle.fc_syntax.specs.View.{decl_of}
use Rattle.fc_syntax.specs.declared.module.Decl as RustDecl
use Rattle.fc_syntax.specs.declared.module.Module as RustModule
use Rattle.fc_syntax.specs.declared.ty.Ref.{Ref}
use Rattle.fc_log.specs.Shapes.{phase_of_row}
use Rattle.fc_log.specs.declared.log.Entry.TheVariants as entry
use Rattle.fc_log.specs.declared.log.Phase.TheVariants as phase
use Rattle.fc_log.specs.declared.log.Row.{Row}
use Rattle.fc_log.specs.declared.log.Row.TheVariants as row_told
use Rattle.fc_log.specs.declared.log.Step.{Step}
use Rattle.fc_model.specs.Calling.{from_some}
use Rattle.fc_model.specs.Kinding.{Modules, decls_at}
use Rattle.fc_model.specs.Nameless.{NDecl, NData, NNew, NFamily, NAxiom, NDef, NWrap, NModule, NModuleOf}
use Rattle.fc_model.specs.Nameless.{NExpr, NLocal, NVar, NLit, NApp, NLam, NLet, NCase, NCast, NCon, NPrim, NFail, NJoin, NJump}
use Rattle.fc_model.proofs.Sameness.{bytes_eq_eq}
use Rattle.fc_model.specs.NamelessView.{ndecl_of, ndecls_of, nexpr_of, nmodule_of}
use Rattle.fc_model.specs.Worded.{WExpr, bare_expr}
use Rattle.fc_outlines.specs.Headers.{SameHeaders}
use Rattle.fc_outlines.specs.RightSides.{Righted}
use Rattle.fc_outlines.proofs.RightSides.{righted_headers}
use Rattle.fc_definition_places.specs.Places.{place_in}
use Rattle.fc_definition_places.proofs.Staying.{righted_places}
use Rattle.fc_reaching.specs.Numbering.{number_from, number_in}
use Rattle.fc_reaching.specs.Reaching.{decls_in}
use Rattle.fc_reaching.specs.Reaching.{right_side as right_side_in}
use Rattle.fc_rows.specs.Changing.{made}
use Rattle.fc_rows.specs.ChangingCoercions.{as_they_are}
use Rattle.fc_rows.specs.Replaying.{Rewrites, at_a_place}
use Rattle.fc_rows.specs.ResultLimits.{IsWithinLimits}
use Rattle.fc_rows.specs.Rewriting.{changed_module}
use Rattle.fc_rows.specs.Surroundings.{Surroundings, outside}
use Rattle.fc_parts.specs.PartsAt.{at_place}
use Rattle.fc_parts.proofs.Parted.{asked_of_found}
use Rattle.fc_limits_at_places.specs.Fitting.{nexpr_size}
use Rattle.fc_limits_at_places.proofs.InModules.{fits_is, size_after}
use Rattle.fc_result_limits.proofs.Deep.{nexpr_depth}
use Rattle.fc_row_at_place.specs.Rows.{built_row}
use Rattle.fc_let_runs.proofs.Kept.{IsNoMore, run_no_more}
use Rattle.fc_search_laws.specs.Laws.{AppliesAt}
use Rattle.fc_search_laws.specs.Searching.{fits}
use Rattle.fc_search_laws.proofs.Searched.{what_is_found}
use Rattle.fc_apply.specs.Definitions.{changed_decl, is_definition, right_side}
use Rattle.fc_apply.proofs.Applied.{built_is}
use Rattle.fc_apply.proofs.Decls.{set_is}
use Rattle.fc_apply.proofs.InDefinitions.{decl_made}
use Rattle.fc_row_search.specs.declared.spots.Applying.{Applying}
use Rattle.fc_simplify.specs.Phase.{HasSpare, Simplifies, no_step, room, takes_step}
use Rattle.fc_simplify.specs.Steps.{lines_of, path_told, step_of}
use Rattle.fc_simplify.specs.Taking.{HasRun, IsExchanged, IsFound, word_of}
use Rattle.fc_simplify.proofs.Exchanged.{part_is, right_side_alone, righted_at, word_stays}
use Rattle.fc_simplify.proofs.InRuns.{at_part, let_step, lets_taken, onward, run_onward, same_in_module}
use Rattle.fc_simplify.proofs.Logs.{built_in_phase}
use Rattle.fc_simplify.proofs.Looking.{made_built, told_is}
use Rattle.fc_simplify.proofs.Twice.{module_twice}
use Rattle.fc_simplify.proofs.Words.{IsLocated, is_changed, is_right, is_there, is_word, located, words_stay}

-- DECLARATIONS

pub there_in : (ds : List (RustDecl.Decl ℕ Ref)) (i : ℕ) (d : RustDecl.Decl ℕ Ref) → slice_get ds i ≡ Some d → slice_get (ndecls_of ds) i ≡ Some (ndecl_of d)
there_in [] i d at = absurd (none-some _ at)
there_in (x ∷ ds) zero d at = ap (λ z. Some (ndecl_of z)) (same_Some _ _ at)
there_in (x ∷ ds) (suc i) d at = there_in ds i d at

-- a definition is of its word
same_word : (d : NDecl) (w v : Word) → word_of d ≡ Some w → is_definition v d ≡ true → v ≡ w
same_word (NDef n t e) w v word is = sym (bytes_eq_eq n v is) ∙ same_Some _ _ word
same_word (NWrap n t e) w v word is = sym (bytes_eq_eq n v is) ∙ same_Some _ _ word
same_word (NData n ps cs) w v word is = absurd (none-some _ word)
same_word (NNew n ps t con) w v word is = absurd (none-some _ word)
same_word (NFamily n ps k) w v word is = absurd (none-some _ word)
same_word (NAxiom n ps t u) w v word is = absurd (none-some _ word)

-- DEPTHS

-- no expression is of depth 0
some_depth : (e : NExpr) → 1 ≤ nexpr_depth e
some_depth (NLocal v) = omega arith
some_depth (NVar n) = omega arith
some_depth (NLit n) = omega arith
some_depth (NApp f a) = omega arith
some_depth (NLam b e) = omega arith
some_depth (NLet r bs e) = omega arith
some_depth (NCase e t u alts) = omega arith
some_depth (NCast e g) = omega arith
some_depth (NCon n args) = omega arith
some_depth (NPrim op es) = omega arith
some_depth (NFail t) = omega arith
some_depth (NJoin r t js e) = omega arith
some_depth (NJump j args) = omega arith

-- what fits is no deeper and no larger
pub record FitsIn (room spare : ℕ) (old new : NExpr) : Type 0 where
  pub shallow : nexpr_depth new ≤ room
  pub small : nexpr_size new ≤ nexpr_size old + spare

pub fits_in : (room spare : ℕ) (old new : NExpr) → fits room spare old new ≡ true → FitsIn room spare old new
fits_in room spare old new h = record { shallow = grind (arith, nat_tests, h); small = grind (arith, nat_tests, h) }

pub in_fits : (room spare : ℕ) (old new : NExpr) → FitsIn room spare old new → fits room spare old new ≡ true
in_fits room spare old new f = grind (arith, nat_tests, f.shallow, f.small)

-- ONE STEP, AND A RUN BEHIND IT

-- a step of a row at a place
abbrev step_at : Word → ℕ → List ℕ → Row → Step
step_at v i q r = record { row = r; def = Some v; path = place.Parts (path_told r i q); answer = None }

module _ (m k : RustModule.Module ℕ Ref) (xs : List NModule) (spare i : ℕ) (a : Applying) (s : Step) (by old : WExpr) (count : ℕ) (v : Word) (first : number_in (nmodule_of m) v ≡ Some i)
    (has : HasSpare spare (nmodule_of m)) (f : IsFound spare i a s (nmodule_of m) xs) (behind : HasRun a.row (nexpr_of a.new) count (bare_expr by))
    (put : IsExchanged i a.place.items by old m k) where
  abbrev n : NModule
  n = nmodule_of m

  abbrev declared : Modules
  declared = decls_at (n ∷ xs)

  abbrev q : List ℕ
  q = a.place.items

  abbrev row : Surroundings → NExpr → Option NExpr
  row = built_row declared a.row a.alternative

  -- what is made is of less than this depth
  abbrev bound : ℕ
  bound = suc (nexpr_depth (nexpr_of a.new))

  -- the row, and so many lets behind it
  abbrev with_lets : ℕ → Surroundings → NExpr → Option NExpr
  with_lets c t e = from_some (onward bound c) (row t e)

  abbrev all : Surroundings → NExpr → Option NExpr
  all = with_lets count

  applies : AppliesAt declared spare room (outside declared) f.right a.row a.alternative q (nexpr_of a.new)
  applies = what_is_found declared spare room f.from (outside declared) f.right a.row a.alternative q (nexpr_of a.new) f.found

  all_makes : all applies.around applies.part ≡ Some (bare_expr by)
  all_makes = ap (from_some (onward bound count)) applies.makes ∙ run_onward behind.run bound (omega arith)

  -- the definition is the first of its word
  at : IsLocated v 0 i (decls_in n)
  at = located v 0 i (decls_in n) first

  number_is : at.at ≡ i
  number_is = omega (arith, at.number)

  decl_is : at.decl ≡ ndecl_of put.before
  decl_is = same_Some _ _ (sym (is_there v at.at at.decl (decls_in n) at.place) ∙ ap (slice_get (decls_in n)) number_is ∙ there_in m.decls i put.before put.there)

  found_is : f.decl ≡ ndecl_of put.before
  found_is = same_Some _ _ (sym f.there ∙ there_in m.decls i put.before put.there)

  right_is : right_side (ndecl_of put.before) ≡ Some f.right
  right_is = ap right_side (sym found_is) ∙ f.right_is

  word_is : v ≡ f.word
  word_is = same_word f.decl f.word v f.word_is (ap (is_definition v) (found_is ∙ sym decl_is) ∙ is_word v at.at at.decl (decls_in n) at.place)

  -- what is made of the definition
  decl_changed : changed_decl all as_they_are (outside declared) (1 ∷ q) (ndecl_of put.before) ≡ Some (ndecl_of put.after)
  decl_changed =
      decl_made all (outside declared) (1 ∷ q) (decl_of put.before) by (old, decl_of put.after)
      (ap (from_some (at_place all q (outside declared))) right_is ∙ sym (asked_of_found all (outside declared) q f.right) ∙ ap (from_some (λ t. all t.0 t.1)) applies.there ∙ all_makes)
      put.put

  changed_is : changed_module all as_they_are xs v (1 ∷ q) n ≡ Some (nmodule_of k)
  changed_is =
      ap (made (λ ds. NModuleOf m.name m.imports m.exports m.hidden ds)) (
      is_changed v all (outside declared) (1 ∷ q) at.at at.decl (decls_in n) at.place
      ∙ ap (λ d. made (λ e. slice_set (decls_in n) at.at e) (changed_decl all as_they_are (outside declared) (1 ∷ q) d)) decl_is
      ∙ ap (made (λ e. slice_set (decls_in n) at.at e)) decl_changed
      ∙ ap (λ j. Some (slice_set (decls_in n) j (ndecl_of put.after))) number_is
      ∙ ap Some (sym (set_is m.decls i put.after))
      )
      ∙ ap (λ z. Some (nmodule_of z)) (sym put.set)

  right_in : right_side_in (decls_in n) v ≡ Some f.right
  right_in = is_right v at.at at.decl (decls_in n) at.place ∙ ap right_side decl_is ∙ right_is

  fitted : FitsIn (room - length q) spare applies.part (nexpr_of a.new)
  fitted = fits_in (room - length q) spare applies.part (nexpr_of a.new) applies.fitted

  -- lets that are put in make nothing larger or deeper
  less : IsNoMore (bare_expr by) (nexpr_of a.new)
  less = run_no_more behind.run

  within : IsWithinLimits (nmodule_of k)
  within =
      (fits_is all xs v q n (nmodule_of k) f.right applies.part (bare_expr by) applies.around has.within changed_is right_in applies.there all_makes).1 (record {
        shallow = omega (arith, fitted.shallow, less.depth, some_depth (nexpr_of a.new));
        small = omega (arith, fitted.small, less.size, has.sum);
      })

  -- STEPS

  first_within : (j : NModule) → changed_module row as_they_are xs v (1 ∷ q) n ≡ Some j → IsWithinLimits j
  first_within j is =
      (fits_is row xs v q n j f.right applies.part (nexpr_of a.new) applies.around has.within is right_in applies.there applies.makes).1 (record {
        shallow = omega (arith, fitted.shallow, some_depth (nexpr_of a.new));
        small = omega (arith, fitted.small, has.sum);
      })

  -- the first step is that of the row
  first_rewrites : (j : NModule) → changed_module row as_they_are xs v (1 ∷ q) n ≡ Some j → Rewrites xs s n j
  first_rewrites j is =
      subst (λ z. Rewrites xs z n j) (sym f.step) (
      subst (λ w. Rewrites xs (step_of w a) n j) word_is (
      at_a_place a.row v (path_told a.row a.alternative q)
      (built_is a.row (made_built declared a.row a.alternative applies.around applies.part (nexpr_of a.new) applies.makes) xs v (path_told a.row a.alternative q) n j
      (told_is xs v n a.row a.alternative q ∙ is)) (first_within j is)
      )
      )

  -- it is a step of the phase
  step_in_phase : phase_of_row s.row ≡ phase.Simplify
  step_in_phase = ap (λ (z : Step). phase_of_row z.row) f.step ∙ built_in_phase a.row (made_built declared a.row a.alternative applies.around applies.part (nexpr_of a.new) applies.makes)

  -- the steps of lets are the same again
  let_is : a.row ≡ row_told.LetAtom → let_step v q ≡ s
  let_is is = ap (step_at v a.alternative q) (sym is) ∙ ap (λ w. step_of w a) word_is ∙ sym f.step

  close : bound + length q ≤ standard_limits.depth
  close = omega (arith, fitted.shallow, some_depth (nexpr_of a.new))

  steps_by : (c : ℕ) → changed_module (with_lets c) as_they_are xs v (1 ∷ q) n ≡ Some (nmodule_of k) → (1 ≤ c → a.row ≡ row_told.LetAtom) → Simplifies xs (entry.Step s ∷ lines_of c s) n (nmodule_of k)
  steps_by zero makes is =
      let same : changed_module row as_they_are xs v (1 ∷ q) n ≡ Some (nmodule_of k) =
      sym (same_in_module (with_lets zero) row (nexpr_of a.new) xs v q n
      (at_part (with_lets zero) xs v q n f.right applies.part (nexpr_of a.new) applies.around right_in applies.there (ap (from_some (onward bound zero)) applies.makes))
      (at_part row xs v q n f.right applies.part (nexpr_of a.new) applies.around right_in applies.there applies.makes))
      ∙ makes in
      takes_step s step_in_phase (first_rewrites (nmodule_of k) same) no_step
  steps_by (suc c) makes is =
      let two = module_twice row (onward bound (suc c)) xs v (1 ∷ q) n (nmodule_of k) makes in
      let rest = lets_taken xs v q bound close c two.0 (nmodule_of k) (first_within two.0 two.1) two.2 in
      takes_step s step_in_phase (first_rewrites two.0 two.1) (subst (λ z. Simplifies xs (lines_of (suc c) z) two.0 (nmodule_of k)) (let_is (is (omega arith))) rest)

  pub steps_simplify : Simplifies xs (entry.Step s ∷ lines_of count s) n (nmodule_of k)
  steps_simplify = steps_by count changed_is behind.row_is

  -- WHAT STANDS THEN

  -- what stood there
  old_is : bare_expr old ≡ applies.part
  old_is = part_is row (outside declared) applies.around q (decl_of put.before) (decl_of put.after) by old f.right applies.part put.put right_is applies.there

  -- the module may be larger by what is gained
  pub spare_left : nexpr_size (bare_expr by) ≤ spare + nexpr_size (bare_expr old)
  spare_left = omega (arith, fitted.small, less.size, ap nexpr_size old_is)

  pub spare_after : (t : ℕ) → t + nexpr_size (bare_expr by) ≡ spare + nexpr_size (bare_expr old) → HasSpare t (nmodule_of k)
  spare_after t sum = record {
    within = within;
    sum = omega (arith, sum, has.sum, ap nexpr_size old_is, size_after all xs v q n (nmodule_of k) f.right applies.part (bare_expr by) applies.around changed_is right_in applies.there all_makes);
  }

  -- words are defined where they were
  pub words_kept : (w : Word) → number_in (nmodule_of k) w ≡ number_in n w
  words_kept w =
      ap (λ z. number_in (nmodule_of z) w) put.set
      ∙ ap (λ ds. number_from 0 ds w) (set_is m.decls i put.after)
      ∙ words_stay w 0 i (ndecl_of put.before) (ndecl_of put.after) (decls_in n) (there_in m.decls i put.before put.there)
      (word_stays w by old q (decl_of put.before) (decl_of put.after) put.put)

  -- the declarations are the same, but for a right side
  righted : Righted (λ e f. ⊤) (decls_in n) (slice_set (decls_in n) i (ndecl_of put.after))
  righted = righted_at i (ndecl_of put.before) (ndecl_of put.after) (decls_in n) (there_in m.decls i put.before put.there) (λ es. right_side_alone by old q (decl_of put.before) (decl_of put.after) es put.put)

  -- each word has its place
  pub places_same : (v w : Word) → place_in (nmodule_of k ∷ xs) v w ≡ place_in (n ∷ xs) v w
  places_same v w =
      ap (λ z. place_in (nmodule_of z ∷ xs) v w) put.set
      ∙ ap (λ ds. place_in (NModuleOf m.name m.imports m.exports m.hidden ds ∷ xs) v w) (set_is m.decls i put.after)
      ∙ righted_places m.name m.imports m.exports m.hidden xs righted v w

  -- the same is declared
  pub declares_same : SameHeaders (decls_at (n ∷ xs)) (decls_at (nmodule_of k ∷ xs))
  declares_same =
      subst (λ z. SameHeaders (decls_at (n ∷ xs)) (decls_at (nmodule_of z ∷ xs))) (sym put.set) (
      subst (λ ds. SameHeaders (decls_at (n ∷ xs)) (decls_at (NModuleOf m.name m.imports m.exports m.hidden ds ∷ xs))) (sym (set_is m.decls i put.after)) (
      righted_headers m.name m.imports m.exports m.hidden xs righted
      )
      )
