-- A change in the definition of a word is a change of one right side.
use Rattle.std.proofs.Common.{◌≡◌, ℕ, List, [], ◌∷◌, Some, subst}
use Rattle.std.specs.Str.{bytes_eq}
use Rattle.fc_syntax.specs.Tree.{Word}
use Rattle.fc_model.specs.Nameless.{NDecl, NData, NNew, NFamily, NAxiom, NDef, NWrap}
use Rattle.fc_outlines.specs.RightSides.{Righted, righted_def, righted_wrap, righted_later}
use Rattle.fc_rows.specs.Changing.{made}
use Rattle.fc_rows.specs.Rewriting.{changed_decls, changed_right}
use Rattle.fc_rows.specs.Surroundings.{Surroundings}
use Rattle.fc_row_types.specs.TypesKept.{CoercionRow, ExpressionRow}
use Rattle.fc_row_types.proofs.Made.{either_way, made_inv, none_some}

module _ (row : ExpressionRow) (co : CoercionRow) (s : Surroundings) where
  abbrev OneChanged : List ℕ → List NDecl → List NDecl → Type 0
  OneChanged p ds es = Righted (λ e f. changed_right row co s p e ≡ Some f) ds es

  -- a change behind a declaration
  behind : (w : Word) (p : List ℕ) (d : NDecl) (ds es : List NDecl) → made (λ rest. d ∷ rest) (changed_decls row co s w p ds) ≡ Some es
      → ((rest : List NDecl) → changed_decls row co s w p ds ≡ Some rest → OneChanged p ds rest) → OneChanged p (d ∷ ds) es
  behind w p d ds es h later =
      let m = made_inv (λ rest. d ∷ rest) (changed_decls row co s w p ds) es h in subst (OneChanged p (d ∷ ds)) m.2 (righted_later (later m.0 m.1))

  pub decls_changed : (w : Word) (p : List ℕ) (ds es : List NDecl) → changed_decls row co s w p ds ≡ Some es → OneChanged p ds es
  decls_changed w p [] es h = none_some h
  decls_changed w p (NDef n t e ∷ ds) es h =
      either_way (OneChanged p (NDef n t e ∷ ds)) (bytes_eq n w) _ _ es h
      (λ q. let m = made_inv (λ f. NDef n t f ∷ ds) (changed_right row co s p e) es q in subst (OneChanged p (NDef n t e ∷ ds)) m.2 (righted_def m.1))
      (λ q. behind w p (NDef n t e) ds es q (decls_changed w p ds))
  decls_changed w p (NWrap n t e ∷ ds) es h =
      either_way (OneChanged p (NWrap n t e ∷ ds)) (bytes_eq n w) _ _ es h
      (λ q. let m = made_inv (λ f. NWrap n t f ∷ ds) (changed_right row co s p e) es q in subst (OneChanged p (NWrap n t e ∷ ds)) m.2 (righted_wrap m.1))
      (λ q. behind w p (NWrap n t e) ds es q (decls_changed w p ds))
  decls_changed w p (NData n ps cs ∷ ds) es h = behind w p (NData n ps cs) ds es h (decls_changed w p ds)
  decls_changed w p (NNew n ps t con ∷ ds) es h = behind w p (NNew n ps t con) ds es h (decls_changed w p ds)
  decls_changed w p (NFamily n ps k ∷ ds) es h = behind w p (NFamily n ps k) ds es h (decls_changed w p ds)
  decls_changed w p (NAxiom n ps t u ∷ ds) es h = behind w p (NAxiom n ps t u) ds es h (decls_changed w p ds)
