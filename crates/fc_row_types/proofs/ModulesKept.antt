-- A change of a definition by a row that keeps types keeps Lint.
use Rattle.std.proofs.Common.{◌≡◌, ℕ, zero, suc, All, Bool, true, false, if◌then◌else◌, List, [], ◌∷◌, Option, Some, None, Ok, refl, sym, subst}
use Rattle.std.proofs.lemmas.List.Elements.{All-cons, All-head, All-tail}
use Rattle.std.specs.List.{list_all}
use Rattle.std.specs.Str.{bytes_eq}
use Rattle.fc_syntax.specs.Tree.{Kind, Word}
use Rattle.fc_model.specs.Coercing.{Ends}
use Rattle.fc_model.specs.Kinding.{Modules, decls_at, decls_of_module}
use Rattle.fc_model.specs.LintingRules.{def_holds, wrap_holds, DefinitionsHold, no_definitions, one_definition, ModuleHolds, module_holds}
use Rattle.fc_model.specs.Nameless.{NCo, NTy, NExpr, NDecl, NData, NNew, NFamily, NAxiom, NDef, NWrap, NModule, NModuleOf}
use Rattle.fc_model.specs.Resolution.{no_word, plus_all}
use Rattle.fc_model.specs.ResolutionRules.{AreDistinct}
use Rattle.fc_model.specs.Typing.{def_type, no_context}
use Rattle.fc_model.specs.TypingLaws.{AreDeclaredKinded, HasDistinctTypes}
use Rattle.fc_model.specs.TypingRules.{HasType}
use Rattle.fc_model.proofs.DeclaredKinded.{linted_are_kinded}
use Rattle.fc_model.proofs.Parts.{err_ok, ok_ok}
use Rattle.fc_outlines.specs.Headers.{SameHeaders}
use Rattle.fc_outlines.specs.RightSides.{Righted, righted_def, righted_wrap, righted_later}
use Rattle.fc_outlines.proofs.HeadersAlone.{definitions_there}
use Rattle.fc_outlines.proofs.RightSides.{declared_same, defs_same, righted_headers, type_decls_righted, words_same}
use Rattle.fc_row_types.specs.TypesKept.{Holds, KeepsAtoms, KeepsProofs, KeepsTypes}
use Rattle.fc_row_types.specs.LintKept.{DefinesAlike, LintsWith}
use Rattle.fc_rows.specs.Rewriting.{changed_decls, changed_module, changed_right}
use Rattle.fc_rows.specs.Surroundings.{Is, Surroundings, known_definition, known_of, outside}
use Rattle.fc_row_types.proofs.ChangesKept.{kept}
use Rattle.fc_row_types.proofs.DeclarationsAlike.{type_decls_hold_alike}
use Rattle.fc_row_types.proofs.Holding.{known_of_is, none_point, unknown_is}
use Rattle.fc_row_types.proofs.InAlternative.{alternatives_hold}
use Rattle.fc_row_types.proofs.DeclarationsChanged.{decls_changed}
use Rattle.fc_row_types.proofs.Made.{made_inv, none_some}

-- OUTSIDE OF ALL BINDERS

known_definition_typed : (ms : Modules) (ds : List NDecl) → DefinitionsHold ms ds → (w : Word) (e : NExpr) (t : NTy) → known_definition ds w ≡ Is e → def_type ds w ≡ Ok t
    → HasType ms no_context e t
known_definition_typed ms [] h w e t k d = unknown_is k
known_definition_typed ms (NData n ps cs ∷ ds) (one_definition h more) w e t k d = known_definition_typed ms ds more w e t k d
known_definition_typed ms (NNew n ps u con ∷ ds) (one_definition h more) w e t k d = known_definition_typed ms ds more w e t k d
known_definition_typed ms (NFamily n ps j ∷ ds) (one_definition h more) w e t k d = known_definition_typed ms ds more w e t k d
known_definition_typed ms (NAxiom n ps u v ∷ ds) (one_definition h more) w e t k d = known_definition_typed ms ds more w e t k d
known_definition_typed ms (NDef n u f ∷ ds) (one_definition (def_holds p q) more) w e t k d = tested (bytes_eq n w) (known_definition_typed ms ds more w e t) k d
  where
    tested : (b : Bool) → (known_definition ds w ≡ Is e → def_type ds w ≡ Ok t → HasType ms no_context e t) → (if b then known_of f else known_definition ds w) ≡ Is e
        → (if b then Ok u else def_type ds w) ≡ Ok t → HasType ms no_context e t
    tested true later k d = subst (λ x. HasType ms no_context x t) (known_of_is f e k) (subst (λ y. HasType ms no_context f y) (ok_ok d) q)
    tested false later k d = later k d
known_definition_typed ms (NWrap n u f ∷ ds) (one_definition (wrap_holds p q) more) w e t k d = tested (bytes_eq n w) (known_definition_typed ms ds more w e t) k d
  where
    tested : (b : Bool) → (known_definition ds w ≡ Is e → def_type ds w ≡ Ok t → HasType ms no_context e t) → (if b then known_of f else known_definition ds w) ≡ Is e
        → (if b then Ok u else def_type ds w) ≡ Ok t → HasType ms no_context e t
    tested true later k d = subst (λ x. HasType ms no_context x t) (known_of_is f e k) (subst (λ y. HasType ms no_context f y) (ok_ok d) q)
    tested false later k d = later k d

-- the definitions of each module hold
abbrev HoldAll : Modules → Type 0
HoldAll ms = (o : Option Word) → DefinitionsHold ms (ms o)

pub outside_holds : (ms : Modules) → HoldAll ms → Holds ms (outside ms)
outside_holds ms hold = record {
  kinded = record { coercions = λ i e h. err_ok h; values = λ i t h. err_ok h; joins = λ i j h. err_ok h };
  lifted = λ i k h. err_ok h;
  locals = λ i e t k a. unknown_is k;
  rights = λ i e t k a. unknown_is k;
  names = λ n e t k v. known_definition_typed ms (ms n.module) (hold n.module) n.text e t k v;
  points = λ i ps e j p a. none_point p;
}

definitions_of : (ms : Modules) (ns : List NModule) → All (ModuleHolds ms) ns → (w : Word) → DefinitionsHold ms (decls_of_module ns w)
definitions_of ms [] hold w = no_definitions
definitions_of ms (NModuleOf m imports exports hidden ds ∷ ns) hold w =
    let n = NModuleOf m imports exports hidden ds in
    either (bytes_eq m w) (own (All-head (ModuleHolds ms) n ns hold)) (definitions_of ms ns (All-tail (ModuleHolds ms) n ns hold) w)
  where
    own : ModuleHolds ms (NModuleOf m imports exports hidden ds) → DefinitionsHold ms ds
    own (module_holds e h types definitions) = definitions

    either : (b : Bool) → DefinitionsHold ms ds → DefinitionsHold ms (decls_of_module ns w) → DefinitionsHold ms (if b then ds else decls_of_module ns w)
    either true p q = p
    either false p q = q

definitions_at : (ns : List NModule) → All (ModuleHolds (decls_at ns)) ns → HoldAll (decls_at ns)
definitions_at ns hold None = no_definitions
definitions_at ns hold (Some w) = definitions_of (decls_at ns) ns hold w

-- A CHANGE

module _ (ms : Modules) (declared : AreDeclaredKinded ms) (row : Surroundings → NExpr → Option NExpr) (keeps : KeepsTypes ms row) (atoms : KeepsAtoms row)
    (co : List Kind → List Ends → NCo → Option NCo) (proofs : KeepsProofs ms co) (s : Surroundings) (holds : Holds ms s) (same : s.context ≡ no_context) where
  right_kept : (p : List ℕ) (e f : NExpr) (t : NTy) → changed_right row co s p e ≡ Some f → HasType ms no_context e t → HasType ms no_context f t
  right_kept [] e f t h typed = none_some h
  right_kept (zero ∷ p) e f t h typed = none_some h
  right_kept (suc zero ∷ p) e f t h typed =
      subst (λ c. HasType ms c f t) same (kept ms declared (alternatives_hold ms declared) row keeps atoms co proofs s holds p e f h t (subst (λ c. HasType ms c e t) (sym same) typed))
  right_kept (suc (suc i) ∷ p) e f t h typed = none_some h

  -- definitions that held hold
  changed_hold : (p : List ℕ) {ds es : List NDecl} → Righted (λ e f. changed_right row co s p e ≡ Some f) ds es → DefinitionsHold ms ds → DefinitionsHold ms es
  changed_hold p (righted_def {t = t} {e = e} {f = f} r) (one_definition (def_holds k typed) more) = one_definition (def_holds k (right_kept p e f t r typed)) more
  changed_hold p (righted_wrap {t = t} {e = e} {f = f} r) (one_definition (wrap_holds k typed) more) = one_definition (wrap_holds k (right_kept p e f t r typed)) more
  changed_hold p (righted_later r) (one_definition h more) = one_definition h (changed_hold p r more)

-- THE MODULE AMONG ITS IMPORTS

-- what another right side leaves as it was
module _ (m : Word) (imports exports hidden : List Word) {R : NExpr → NExpr → Type 0} {ds es : List NDecl} (xs : List NModule) (r : Righted R ds es) where
  abbrev before : Modules
  before = decls_at (NModuleOf m imports exports hidden ds ∷ xs)

  abbrev after : Modules
  after = decls_at (NModuleOf m imports exports hidden es ∷ xs)

  same : SameHeaders before after
  same = righted_headers m imports exports hidden xs r

  module_there : {n : NModule} → ModuleHolds before n → ModuleHolds after n
  module_there (module_holds e h types definitions) = module_holds e h (type_decls_hold_alike before after same.alike types) (definitions_there before after same definitions)

  others_there : (ns : List NModule) → All (ModuleHolds before) ns → All (ModuleHolds after) ns
  others_there ns hold i d l = module_there (hold i d l)

  own_there : ModuleHolds before (NModuleOf m imports exports hidden ds) → (DefinitionsHold before ds → DefinitionsHold before es)
      → ModuleHolds after (NModuleOf m imports exports hidden es)
  own_there (module_holds e h types definitions) go =
      module_holds (subst (λ ws. list_all (plus_all ws no_word) exports ≡ true) (declared_same r) e) (subst (λ ws. list_all (plus_all ws no_word) hidden ≡ true) (declared_same r) h)
      (type_decls_hold_alike before after same.alike (type_decls_righted r types))
      (definitions_there before after same (go definitions))

-- a change by a row that keeps types, at a place of a module that lints, gives a module that lints, with all definitions at the same types
pub changes_keep_lint : (xs : List NModule) (n k : NModule) → LintsWith xs n → (row : Surroundings → NExpr → Option NExpr) → KeepsTypes (decls_at (n ∷ xs)) row → KeepsAtoms row
    → (co : List Kind → List Ends → NCo → Option NCo) → KeepsProofs (decls_at (n ∷ xs)) co → (w : Word) (p : List ℕ) → changed_module row co xs w p n ≡ Some k → LintsWith xs k × DefinesAlike n k
changes_keep_lint xs (NModuleOf m imports exports hidden ds) k lints row keeps atoms co proofs w p h =
    let n = NModuleOf m imports exports hidden ds in
    let ms = decls_at (n ∷ xs) in
    let declared = linted_are_kinded (n ∷ xs) lints.distinct lints.hold in
    let q = made_inv (λ cs. NModuleOf m imports exports hidden cs) (changed_decls row co (outside ms) w p ds) k h in
    let r = decls_changed row co (outside ms) w p ds q.0 q.1 in
    let hold = changed_hold ms declared row keeps atoms co proofs (outside ms) (outside_holds ms (definitions_at (n ∷ xs) lints.hold)) refl p r in
    let own = own_there m imports exports hidden xs r (All-head (ModuleHolds ms) n xs lints.hold) hold in
    let others = others_there m imports exports hidden xs r xs (All-tail (ModuleHolds ms) n xs lints.hold) in
    let o = NModuleOf m imports exports hidden q.0 in
    let words = subst (λ ws. AreDistinct no_word ws) (words_same r) (All-head HasDistinctTypes n xs lints.distinct) in
    let all : LintsWith xs o × DefinesAlike n o = (
      record {
        distinct = All-cons HasDistinctTypes o xs words (All-tail HasDistinctTypes n xs lints.distinct);
        hold = All-cons (ModuleHolds (decls_at (o ∷ xs))) o xs own others;
      },
      λ v. sym (defs_same r v),
    ) in
    subst (λ x. LintsWith xs x × DefinesAlike n x) q.2 all
