-- What a row that is a function makes of a module is a rewrite of one place of the module, and so means the same.
use Rattle.std.proofs.Common.{◌≡◌, ℕ, zero, suc, List, [], ◌∷◌, Some, sym, ap, ◌∙◌, subst}
use Rattle.std.proofs.lemmas.List.Elements.{All-head}
use Rattle.fc_syntax.specs.Tree.{Word}
use Rattle.fc_log.specs.declared.log.Row.{Row}
use Rattle.fc_model.specs.Erasure.{no_scope}
use Rattle.fc_model.specs.Headers.{ndecls_in}
use Rattle.fc_model.specs.Kinding.{Modules, decls_at}
use Rattle.fc_model.specs.LintingRules.{DefinitionsHold, one_definition, def_holds, wrap_holds}
use Rattle.fc_model.specs.Nameless.{NTy, NExpr, NDecl, NModule, NModuleOf, NArgs, NBinds, NJoins, NAlts}
use Rattle.fc_model.specs.Typing.{no_context}
use Rattle.fc_model.specs.TypingLaws.{AreDeclaredKinded}
use Rattle.fc_model.specs.TypingRules.{HasType}
use Rattle.fc_model.proofs.DeclaredKinded.{linted_are_kinded}
use Rattle.fc_model.proofs.Sameness.{false_true}
use Rattle.fc_outlines.specs.RightSides.{Righted, righted_def, righted_wrap, righted_later}
use Rattle.fc_rows.specs.ChangingCoercions.{as_they_are}
use Rattle.fc_rows.specs.Rewriting.{changed_decls, changed_module, changed_right, row_result}
use Rattle.fc_rows.specs.Surroundings.{outside}
use Rattle.fc_row_types.specs.LintKept.{LintsWith}
use Rattle.fc_row_types.specs.TypesKept.{ExpressionRow, Holds, KeepsTypes, SparesAtoms}
use Rattle.fc_row_types.proofs.CoercionsChanged.{as_they_are_keeps}
use Rattle.fc_row_types.proofs.DeclarationsChanged.{decls_changed}
use Rattle.fc_row_types.proofs.Made.{made_inv, none_some}
use Rattle.fc_row_types.proofs.ModulesKept.{changes_keep_lint, outside_holds}
use Rattle.fc_row_types.proofs.RowsKept.{changes_keep_types, row_keeps, row_spares_atoms}
use Rattle.fc_meaning.proofs.HeldDeclarations.{AreHeld, modules_are_held}
use Rattle.fc_meaning.proofs.ScopesFit.{agrees, fits_closed}
use Rattle.fc_meaning.proofs.WrittenExpressions.{AreDeclsWritten, IsWritten}
use Rattle.fc_row_places.specs.NamelessChanges.{NPartRelation}
use Rattle.fc_row_places.specs.NamelessFacts.{NKnown}
use Rattle.fc_row_places.specs.NamelessPlaces.{NPlace, NOutside}
use Rattle.fc_reaching.specs.Numbering.{word_of}
use Rattle.fc_kept_meaning.specs.MeaningKept.{DeclarationsRewritten, MetIn, ModuleRewritten, rewritten_in_module, with_module}
use Rattle.fc_kept_meaning.specs.OnePlace.{AtOnePlace, at_here, at_head, at_argument, at_lambda, at_right, at_body, at_group_right, at_group_body, at_scrutinee, at_alternative, at_cast}
use Rattle.fc_kept_meaning.specs.OnePlace.{at_field, at_jump_argument, at_join_right, at_join_body, at_joins_right, at_joins_body, AtOneArg, first_arg, later_arg, AtOneBind, first_bind}
use Rattle.fc_kept_meaning.specs.OnePlace.{later_bind, AtOneJoin, first_join, later_join, AtOneAlt, first_alt, later_alt}
use Rattle.fc_kept_meaning.specs.PlaceRows.{PlaceRow}
use Rattle.fc_kept_meaning.proofs.ChangesKeepMeaning.{own_definitions}
use Rattle.fc_kept_meaning.proofs.ModulesKeepMeaning.{no_names, one_place_keeps_meaning, one_place_shows_same, ShowsTheSame}
use Rattle.fc_row_meaning.specs.PlacedRows.{around_all, RowAs}
use Rattle.fc_row_meaning.specs.RowMeaningLaws.{RowAgainst, RowKeepsMeaning}
use Rattle.fc_row_meaning.specs.SharedRights.{KeepsValues, RightsShare, rights_of_def, rights_of_wrap, same_right, Shares}
use Rattle.fc_row_meaning.proofs.PlacedWhereTold.{IsPlacedWhereTold}
use Rattle.fc_row_meaning.proofs.LocalsKnown.{all_told}
use Rattle.fc_row_meaning.proofs.NamesKnown.{names_are_told}
use Rattle.fc_row_meaning.proofs.PlacesChanged.{changes_are_placed}
use Rattle.fc_row_meaning.proofs.ValuesKept.{rights_share_themselves, row_keeps_values, shares_changed}

-- ONE RELATION FOR ANOTHER

module _ (R S : NPartRelation) (go : (c : NPlace) (e f : NExpr) → R c e f → S c e f) where
  mutual
    at_place : {c : NPlace} {e f : NExpr} → AtOnePlace R c e f → AtOnePlace S c e f
    at_place (at_here r) = at_here (go _ _ _ r)
    at_place (at_head w) = at_head (at_place w)
    at_place (at_argument w) = at_argument (at_place w)
    at_place (at_lambda w) = at_lambda (at_place w)
    at_place (at_right w) = at_right (at_place w)
    at_place (at_body w) = at_body (at_place w)
    at_place (at_group_right w) = at_group_right (at_bind w)
    at_place (at_group_body w) = at_group_body (at_place w)
    at_place (at_scrutinee w) = at_scrutinee (at_place w)
    at_place (at_alternative w) = at_alternative (at_alt w)
    at_place (at_cast w) = at_cast (at_place w)
    at_place (at_field w) = at_field (at_arg w)
    at_place (at_jump_argument w) = at_jump_argument (at_arg w)
    at_place (at_join_right w) = at_join_right (at_place w)
    at_place (at_join_body w) = at_join_body (at_place w)
    at_place (at_joins_right w) = at_joins_right (at_join w)
    at_place (at_joins_body w) = at_joins_body (at_place w)

    at_arg : {c : NPlace} {args more : NArgs} → AtOneArg R c args more → AtOneArg S c args more
    at_arg (first_arg w) = first_arg (at_place w)
    at_arg (later_arg w) = later_arg (at_arg w)

    at_bind : {c : NPlace} {bs cs : NBinds} → AtOneBind R c bs cs → AtOneBind S c bs cs
    at_bind (first_bind w) = first_bind (at_place w)
    at_bind (later_bind w) = later_bind (at_bind w)

    at_join : {c : NPlace} {js ks : NJoins} → AtOneJoin R c js ks → AtOneJoin S c js ks
    at_join (first_join w) = first_join (at_place w)
    at_join (later_join w) = later_join (at_join w)

    at_alt : {t : NTy} {e : NExpr} {all : NAlts} {c : NPlace} {alts blts : NAlts} → AtOneAlt R t e all c alts blts → AtOneAlt S t e all c alts blts
    at_alt (first_alt w) = first_alt (at_place w)
    at_alt (later_alt w) = later_alt (at_alt w)

-- DEFINITIONS

-- what a row makes is a rewrite of its place, where all that surroundings say is known
abbrev pub IsPlaceRow : RowAgainst → Type 1
IsPlaceRow row = (G : NKnown) → IsPlacedWhereTold G row

module _ (ms : Modules) (declared : AreDeclaredKinded ms) (held : AreHeld ms) (row : ExpressionRow) (spares : SparesAtoms row) (keeps : KeepsTypes ms row) (values : KeepsValues row) (holds : Holds ms (outside ms))
    (G : NKnown)
    (gives : (c : NPlace) (e f : NExpr) → RowAs ms row c e f → PlaceRow G c e f) where
  right_placed : (p : List ℕ) (e f : NExpr) (t : NTy) → changed_right row as_they_are (outside ms) p e ≡ Some f → HasType ms (outside ms).context e t → IsWritten e → AtOnePlace (PlaceRow G) NOutside e f
  right_placed [] e f t h typed w = none_some h
  right_placed (zero ∷ p) e f t h typed w = none_some h
  right_placed (suc zero ∷ p) e f t h typed w =
      at_place (RowAs ms row) (PlaceRow G) gives (changes_are_placed ms declared held row spares keeps values (outside ms) NOutside around_all holds p e f h t typed w)
  right_placed (suc (suc i) ∷ p) e f t h typed w = none_some h

  decls_placed : (p : List ℕ) {ds es : List NDecl} → Righted (λ e f. changed_right row as_they_are (outside ms) p e ≡ Some f) ds es → DefinitionsHold ms ds → AreDeclsWritten ds
      → DeclarationsRewritten (PlaceRow G) ds es
  decls_placed p (righted_def {t = t} {e = e} {f = f} r) (one_definition (def_holds k q) more) w = righted_def (right_placed p e f t r q w.0)
  decls_placed p (righted_wrap {t = t} {e = e} {f = f} r) (one_definition (wrap_holds k q) more) w = righted_wrap (right_placed p e f t r q w.0)
  decls_placed p (righted_later r) (one_definition h more) w = righted_later (decls_placed p r more w.1)

-- both sides of a changed definition share values and constructors
module _ (ms : Modules) (declared : AreDeclaredKinded ms) (held : AreHeld ms) (row : ExpressionRow) (spares : SparesAtoms row) (keeps : KeepsTypes ms row) (values : KeepsValues row)
    (holds : Holds ms (outside ms)) where
  right_shares : (p : List ℕ) (e f : NExpr) (t : NTy) → changed_right row as_they_are (outside ms) p e ≡ Some f → HasType ms (outside ms).context e t → Shares no_scope e f
  right_shares [] e f t h typed = none_some h
  right_shares (zero ∷ p) e f t h typed = none_some h
  right_shares (suc zero ∷ p) e f t h typed =
      shares_changed row values ms held no_context no_scope (agrees fits_closed) (outside ms) p e f h t t typed
      (changes_keep_types ms declared row keeps (λ s e f none r atom. false_true (sym (spares s e f r) ∙ atom)) as_they_are (as_they_are_keeps ms) p (outside ms) holds e f h t typed)
  right_shares (suc (suc i) ∷ p) e f t h typed = none_some h

  decls_share : (p : List ℕ) {ds es : List NDecl} → Righted (λ e f. changed_right row as_they_are (outside ms) p e ≡ Some f) ds es → DefinitionsHold ms ds → RightsShare ds es
  decls_share p (righted_def {t = t} {e = e} {f = f} {ds = ds} r) (one_definition (def_holds k q) more) = rights_of_def (right_shares p e f t r q) (rights_share_themselves ds)
  decls_share p (righted_wrap {t = t} {e = e} {f = f} {ds = ds} r) (one_definition (wrap_holds k q) more) = rights_of_wrap (right_shares p e f t r q) (rights_share_themselves ds)
  decls_share p (righted_later r) (one_definition h more) = same_right (decls_share p r more)

-- MODULES

-- a row that spares atoms and keeps types and values, and makes rewrites of places
row_keeps_meaning : (row : RowAgainst) → ((ms : Modules) → SparesAtoms (row ms)) → ((ms : Modules) → AreDeclaredKinded ms → KeepsTypes ms (row ms)) → ((ms : Modules) → KeepsValues (row ms))
    → IsPlaceRow row → RowKeepsMeaning row
row_keeps_meaning row spares keeps values gives xs w p (NModuleOf m imports exports hidden ds) k lints h wm wk P sp tells hp =
    let n = NModuleOf m imports exports hidden ds in
    let wn = All-head (λ x. AreDeclsWritten (ndecls_in x)) n xs wm in
    let ms = decls_at (n ∷ xs) in
    let declared = linted_are_kinded (n ∷ xs) lints.distinct lints.hold in
    let held = modules_are_held (n ∷ xs) lints.hold in
    let kept = changes_keep_lint (xs) n k lints (row ms) (keeps ms declared) (λ s e f none r atom. false_true (sym (spares ms s e f r) ∙ atom)) as_they_are (as_they_are_keeps ms) w p h in
    let q = made_inv (λ cs. NModuleOf m imports exports hidden cs) (changed_decls (row ms) as_they_are (outside ms) w p ds) k h in
    let one = decls_changed (row ms) as_they_are (outside ms) w p ds q.0 q.1 in
    let own = own_definitions xs n held in
    let wide = outside_holds ms held.definitions in
    let shares = subst (λ x. RightsShare ds (ndecls_in x)) q.2 (decls_share ms declared held (row ms) (spares ms) (keeps ms declared) (values ms) wide p one own) in
    let G = MetIn P (with_module k P) in
    let told = names_are_told xs n k P (ap word_of q.2) shares wm sp hp tells in
    let placed = decls_placed ms declared held (row ms) (spares ms) (keeps ms declared) (values ms) wide G (λ c e f r. gives G ms held declared c e f r (all_told G ms told r.surroundings c r.around)) p one own wn in
    one_place_keeps_meaning xs n k P (subst (ModuleRewritten (PlaceRow G) xs n) q.2 (rewritten_in_module placed)) held (modules_are_held (k ∷ xs) kept.0.hold) wn wk sp tells hp

-- A row that spares atoms and keeps types and values, and makes rewrites of places where nothing is known of names: what it makes of a module lints, and shows the same
-- whatever imports tell.
pub row_shows_same : (row : RowAgainst) → ((ms : Modules) → SparesAtoms (row ms)) → ((ms : Modules) → AreDeclaredKinded ms → KeepsTypes ms (row ms)) → ((ms : Modules) → KeepsValues (row ms))
    → ((ms : Modules) → AreDeclaredKinded ms → AreHeld ms → (c : NPlace) (e f : NExpr) → RowAs ms (row ms) c e f → PlaceRow no_names c e f)
    → (xs : List NModule) (w : Word) (p : List ℕ) (m k : NModule) → LintsWith xs m → changed_module (row (decls_at (m ∷ xs))) as_they_are xs w p m ≡ Some k → AreDeclsWritten (ndecls_in m)
    → AreDeclsWritten (ndecls_in k) → LintsWith xs k × ShowsTheSame m k
row_shows_same row spares keeps values gives xs w p (NModuleOf m imports exports hidden ds) k lints h wm wk =
    let n = NModuleOf m imports exports hidden ds in
    let ms = decls_at (n ∷ xs) in
    let declared = linted_are_kinded (n ∷ xs) lints.distinct lints.hold in
    let held = modules_are_held (n ∷ xs) lints.hold in
    let kept = changes_keep_lint (xs) n k lints (row ms) (keeps ms declared) (λ s e f none r atom. false_true (sym (spares ms s e f r) ∙ atom)) as_they_are (as_they_are_keeps ms) w p h in
    let q = made_inv (λ cs. NModuleOf m imports exports hidden cs) (changed_decls (row ms) as_they_are (outside ms) w p ds) k h in
    let one = decls_changed (row ms) as_they_are (outside ms) w p ds q.0 q.1 in
    let wide = outside_holds ms held.definitions in
    let placed = decls_placed ms declared held (row ms) (spares ms) (keeps ms declared) (values ms) wide no_names (gives ms declared held) p one (own_definitions xs n held) wm in
    (kept.0, one_place_shows_same xs n k (subst (ModuleRewritten (PlaceRow no_names) xs n) q.2 (rewritten_in_module placed)) held (modules_are_held (k ∷ xs) kept.0.hold) wm wk)

-- a row of the table, where what it makes are rewrites of places
pub table_row_keeps_meaning : (r : Row) (i : ℕ) → IsPlaceRow (λ ms. row_result ms r i) → RowKeepsMeaning (λ ms. row_result ms r i)
table_row_keeps_meaning r i gives =
    row_keeps_meaning (λ ms. row_result ms r i) (λ ms. row_spares_atoms ms r i) (λ ms declared. row_keeps ms declared r i) (λ ms. row_keeps_values ms r i) gives
