-- A module that stands among others stands among them as it is told.
use Rattle.std.proofs.Common.{◌≡◌, Bool, true, false, List, [], ◌∷◌, refl, sym, subst}
use Rattle.std.proofs.lemmas.List.Elements.{All-cons, All-head, All-tail}
use Rattle.std.specs.List.{list_all}
use Rattle.fc_syntax.specs.Tree.{Word, KStar}
use Rattle.fc_model.specs.Calling.{con_decl}
use Rattle.fc_model.specs.Coercing.{axiom_decl}
use Rattle.fc_model.specs.Kinding.{Modules, decls_at, type_decl}
use Rattle.fc_model.specs.LintingRules.{def_holds, wrap_holds, DefinitionsHold, no_definitions, one_definition, ModuleHolds, module_holds}
use Rattle.fc_model.specs.LintingRules.{TypeDeclsHold, no_type_decls, one_type_decl, def_declares_no_type}
use Rattle.fc_model.specs.Nameless.{NDecl, NData, NNew, NFamily, NAxiom, NDef, NWrap, NModule, NModuleOf}
use Rattle.fc_model.specs.Resolution.{no_word, plus_all}
use Rattle.fc_model.specs.ResolutionRules.{AreDistinct}
use Rattle.fc_model.specs.Typing.{def_type}
use Rattle.fc_model.specs.TypingLaws.{HasDistinctTypes}
use Rattle.fc_model.specs.TypingRules.{typed_fail}
use Rattle.fc_outlines.specs.Headers.{SameHeaders}
use Rattle.fc_outlines.proofs.HeadersAlone.{definitions_there}
use Rattle.fc_rows.specs.Telling.{told_declarations}
use Rattle.fc_row_types.proofs.DeclarationsAlike.{type_decls_hold_alike}
use Rattle.fc_replay_types.specs.ReplaysKept.{Stands}
use Rattle.fc_set_types.proofs.HeadersKept.{same_axioms, same_constructors, same_types, told_declared_words, told_defined_words, told_definitions, told_type_words, told_types}
use Rattle.fc_outlines.proofs.RightSides.{same_among}

-- WHAT IS TOLD HOLDS

module _ (ms : Modules) where
  told_types_hold : (bs : List Bool) (ds : List NDecl) → TypeDeclsHold ms ds → TypeDeclsHold ms (told_declarations bs ds)
  told_types_hold bs [] no_type_decls = no_type_decls
  told_types_hold bs (NData n ps cs ∷ ds) (one_type_decl h more) = one_type_decl h (told_types_hold bs ds more)
  told_types_hold bs (NNew n ps t con ∷ ds) (one_type_decl h more) = one_type_decl h (told_types_hold bs ds more)
  told_types_hold bs (NFamily n ps k ∷ ds) (one_type_decl h more) = one_type_decl h (told_types_hold bs ds more)
  told_types_hold bs (NAxiom n ps t u ∷ ds) (one_type_decl h more) = one_type_decl h (told_types_hold bs ds more)
  told_types_hold [] (NDef n t e ∷ ds) (one_type_decl h more) = one_type_decl def_declares_no_type (told_types_hold [] ds more)
  told_types_hold [] (NWrap n t e ∷ ds) (one_type_decl h more) = one_type_decl def_declares_no_type (told_types_hold [] ds more)
  told_types_hold (true ∷ bs) (NDef n t e ∷ ds) (one_type_decl h more) = one_type_decl h (told_types_hold bs ds more)
  told_types_hold (true ∷ bs) (NWrap n t e ∷ ds) (one_type_decl h more) = one_type_decl h (told_types_hold bs ds more)
  told_types_hold (false ∷ bs) (NDef n t e ∷ ds) (one_type_decl h more) = one_type_decl def_declares_no_type (told_types_hold bs ds more)
  told_types_hold (false ∷ bs) (NWrap n t e ∷ ds) (one_type_decl h more) = one_type_decl def_declares_no_type (told_types_hold bs ds more)

  -- a failure has the type of the definition
  told_definitions_hold : (bs : List Bool) (ds : List NDecl) → DefinitionsHold ms ds → DefinitionsHold ms (told_declarations bs ds)
  told_definitions_hold bs [] no_definitions = no_definitions
  told_definitions_hold bs (NData n ps cs ∷ ds) (one_definition h more) = one_definition h (told_definitions_hold bs ds more)
  told_definitions_hold bs (NNew n ps t con ∷ ds) (one_definition h more) = one_definition h (told_definitions_hold bs ds more)
  told_definitions_hold bs (NFamily n ps k ∷ ds) (one_definition h more) = one_definition h (told_definitions_hold bs ds more)
  told_definitions_hold bs (NAxiom n ps t u ∷ ds) (one_definition h more) = one_definition h (told_definitions_hold bs ds more)
  told_definitions_hold [] (NDef n t e ∷ ds) (one_definition (def_holds k p) more) = one_definition (def_holds k (typed_fail KStar k refl)) (told_definitions_hold [] ds more)
  told_definitions_hold [] (NWrap n t e ∷ ds) (one_definition (wrap_holds k p) more) = one_definition (def_holds k (typed_fail KStar k refl)) (told_definitions_hold [] ds more)
  told_definitions_hold (true ∷ bs) (NDef n t e ∷ ds) (one_definition h more) = one_definition h (told_definitions_hold bs ds more)
  told_definitions_hold (true ∷ bs) (NWrap n t e ∷ ds) (one_definition h more) = one_definition h (told_definitions_hold bs ds more)
  told_definitions_hold (false ∷ bs) (NDef n t e ∷ ds) (one_definition (def_holds k p) more) = one_definition (def_holds k (typed_fail KStar k refl)) (told_definitions_hold bs ds more)
  told_definitions_hold (false ∷ bs) (NWrap n t e ∷ ds) (one_definition (wrap_holds k p) more) = one_definition (def_holds k (typed_fail KStar k refl)) (told_definitions_hold bs ds more)

-- AMONG MODULES

module _ (m : Word) (imports exports hidden : List Word) (bs : List Bool) (ds : List NDecl) (xs : List NModule) where
  abbrev own : NModule
  own = NModuleOf m imports exports hidden ds

  abbrev told : NModule
  told = NModuleOf m imports exports hidden (told_declarations bs ds)

  told_headers : SameHeaders (decls_at (own ∷ xs)) (decls_at (told ∷ xs))
  told_headers =
      let same = sym (told_types bs ds) in
      record {
        alike = record {
          types = λ o w. same_among m imports exports hidden xs (λ cs. type_decl cs w) (same_types ds (told_declarations bs ds) same w) o;
          constructors = λ o w. same_among m imports exports hidden xs (λ cs. con_decl cs w) (same_constructors ds (told_declarations bs ds) same w) o;
          axioms = λ o w. same_among m imports exports hidden xs (λ cs. axiom_decl o cs w) (same_axioms ds (told_declarations bs ds) same o w) o;
        };
        values = λ n. same_among m imports exports hidden xs (λ cs. def_type cs n.text) (sym (told_definitions bs ds n.text)) n.module;
      }

  module_there : {n : NModule} → ModuleHolds (decls_at (own ∷ xs)) n → ModuleHolds (decls_at (told ∷ xs)) n
  module_there (module_holds e h types definitions) =
      module_holds e h (type_decls_hold_alike (decls_at (own ∷ xs)) (decls_at (told ∷ xs)) told_headers.alike types)
      (definitions_there (decls_at (own ∷ xs)) (decls_at (told ∷ xs)) told_headers definitions)

  told_holds : {ms : Modules} → ModuleHolds ms own → ModuleHolds ms told
  told_holds {ms = ms} (module_holds e h types definitions) =
      let words = sym (told_declared_words bs ds) in
      module_holds (subst (λ ws. list_all (plus_all ws no_word) exports ≡ true) words e) (subst (λ ws. list_all (plus_all ws no_word) hidden ≡ true) words h)
      (told_types_hold ms bs ds types) (told_definitions_hold ms bs ds definitions)

  pub told_stands : Stands xs own → Stands xs told
  told_stands stands = record {
    lints = record {
      distinct = All-cons HasDistinctTypes told xs (subst (AreDistinct no_word) (sym (told_type_words bs ds)) (All-head HasDistinctTypes own xs stands.lints.distinct))
          (All-tail HasDistinctTypes own xs stands.lints.distinct);
      hold = All-cons (ModuleHolds (decls_at (told ∷ xs))) told xs (told_holds (module_there (All-head (ModuleHolds (decls_at (own ∷ xs))) own xs stands.lints.hold)))
          (λ i d l. module_there (All-tail (ModuleHolds (decls_at (own ∷ xs))) own xs stands.lints.hold i d l));
    };
    distinct = subst (AreDistinct no_word) (sym (told_defined_words bs ds)) stands.distinct;
    others = stands.others;
    apart = stands.apart;
  }
