-- A view is closed where the declarations of its modules mention modules in view alone.
use Rattle.std.proofs.Common.{◌≡◌, ℕ, ◌+◌, Bool, true, false, if◌then◌else◌, bytes_eq, List, [], ◌∷◌, ◌++◌, length, Option, Some, None, Result, Ok, subst}
use Rattle.fc_syntax.specs.Tree.{Word}
use Rattle.fc_model.specs.Calling.{Constructor, con_among, con_decl, first_of}
use Rattle.fc_model.specs.Coercing.{Axiom, axiom_decl, family_axiom, newtype_axiom}
use Rattle.fc_model.specs.Faulting.{F}
use Rattle.fc_model.specs.Nameless.{NTy, NParam, NConDecl, NConOf, NDecl, NData, NNew, NFamily, NAxiom, NDef, NWrap}
use Rattle.fc_model.specs.Typing.{def_type}
use Rattle.fc_headers.specs.NamelessHeaders.{modules_in_binders, modules_in_decl, modules_in_decls, modules_in_expr, modules_in_type, modules_in_types}
use Rattle.fc_views.specs.Views.{AreInView, AreTypesInView, HeadersCloseViews, HeadersMentionFewer, IsModuleInView, View, modules_in_header, modules_in_headers}
use Rattle.fc_views.proofs.TypesInView.{words_apart, words_in_both, declared_in, modules_of_two, to_variables_in, type_in}

module _ (view : View) where
  -- CONSTRUCTORS

  abbrev IsConstructorInView : Constructor → Type 0
  IsConstructorInView k = AreInView view (modules_in_binders k.binders ++ modules_in_types k.fields)

  -- what is found is one of the two
  found_here : (b : Bool) (x k : Constructor) (o : Option Constructor) → (if b then Some x else o) ≡ Some k → IsConstructorInView x → (o ≡ Some k → IsConstructorInView k)
      → IsConstructorInView k
  found_here true x k o h p more = let e : x ≡ k = cc in subst IsConstructorInView e p
  found_here false x k o h p more = more h

  found_among : (d : Word) (ps : List NParam) (i : ℕ) (cs : List NConDecl) (w : Word) (k : Constructor) → con_among d ps i cs w ≡ Some k
      → AreInView view (modules_in_decl (NData d ps cs)) → IsConstructorInView k
  found_among d ps i [] w k h v = absurd (cc)
  found_among d ps i (NConOf n bs fields ∷ cs) w k h v =
      let p = words_apart view (modules_in_binders bs ++ modules_in_types fields) (modules_in_decl (NData d ps cs)) v in
      found_here (bytes_eq n w) (record { data_word = d; params = ps; number = i; binders = bs; fields = fields }) k (con_among d ps (i + 1) cs w) h p.0
      (λ g. found_among d ps (i + 1) cs w k g p.1)

  first_found : (a b : Option Constructor) (k : Constructor) → first_of a b ≡ Some k → (a ≡ Some k → IsConstructorInView k) → (b ≡ Some k → IsConstructorInView k)
      → IsConstructorInView k
  first_found (Some x) b k h p q = p h
  first_found None b k h p q = q h

  constructor_found : (ds : List NDecl) (w : Word) (k : Constructor) → con_decl ds w ≡ Some k → AreInView view (modules_in_headers ds) → IsConstructorInView k
  constructor_found [] w k h v = absurd (cc)
  constructor_found (NData n ps cs ∷ ds) w k h v =
      let p = words_apart view (modules_in_decl (NData n ps cs)) (modules_in_headers ds) v in
      first_found (con_among n ps 0 cs w) (con_decl ds w) k h (λ g. found_among n ps 0 cs w k g p.0) (λ g. constructor_found ds w k g p.1)
  constructor_found (NNew n ps t con ∷ ds) w k h v = let p = words_apart view (modules_in_type t) (modules_in_headers ds) v in constructor_found ds w k h p.1
  constructor_found (NFamily n ps j ∷ ds) w k h v = constructor_found ds w k h v
  constructor_found (NAxiom n ps t u ∷ ds) w k h v =
      let p = words_apart view (modules_in_type t ++ modules_in_type u) (modules_in_headers ds) v in
      constructor_found ds w k h p.1
  constructor_found (NDef n t e ∷ ds) w k h v = let p = words_apart view (modules_in_type t) (modules_in_headers ds) v in constructor_found ds w k h p.1
  constructor_found (NWrap n t e ∷ ds) w k h v = let p = words_apart view (modules_in_type t) (modules_in_headers ds) v in constructor_found ds w k h p.1

  -- AXIOMS

  abbrev IsAxiomInView : Axiom → Type 0
  IsAxiomInView a = AreTypesInView view a.ends.left a.ends.right

  axiom_here : (b : Bool) (x a : Axiom) (o : Option Axiom) → (if b then Some x else o) ≡ Some a → IsAxiomInView x → (o ≡ Some a → IsAxiomInView a) → IsAxiomInView a
  axiom_here true x a o h p more = let e : x ≡ a = cc in subst IsAxiomInView e p
  axiom_here false x a o h p more = more h

  newtype_in : (m : Option Word) (n : Word) (ps : List NParam) (t : NTy) → IsModuleInView view m → AreInView view (modules_in_type t) → IsAxiomInView (newtype_axiom m n ps t)
  newtype_in m n ps t named v = modules_of_two view (to_variables_in view (length ps) 0 (declared_in {n = record { «module» = m; text = n }} named)) (type_in view t v)

  axiom_found : (m : Option Word) (ds : List NDecl) (w : Word) (a : Axiom) → axiom_decl m ds w ≡ Some a → IsModuleInView view m → AreInView view (modules_in_headers ds)
      → IsAxiomInView a
  axiom_found m [] w a h named v = absurd (cc)
  axiom_found m (NData n ps cs ∷ ds) w a h named v =
      let p = words_apart view (modules_in_decl (NData n ps cs)) (modules_in_headers ds) v in
      axiom_found m ds w a h named p.1
  axiom_found m (NNew n ps t con ∷ ds) w a h named v =
      let p = words_apart view (modules_in_type t) (modules_in_headers ds) v in
      axiom_here (bytes_eq con w) (newtype_axiom m n ps t) a (axiom_decl m ds w) h (newtype_in m n ps t named p.0) (λ g. axiom_found m ds w a g named p.1)
  axiom_found m (NFamily n ps j ∷ ds) w a h named v = axiom_found m ds w a h named v
  axiom_found m (NAxiom n ps t u ∷ ds) w a h named v =
      let p = words_apart view (modules_in_type t ++ modules_in_type u) (modules_in_headers ds) v in
      axiom_here (bytes_eq n w) (family_axiom ps t u) a (axiom_decl m ds w) h p.0 (λ g. axiom_found m ds w a g named p.1)
  axiom_found m (NDef n t e ∷ ds) w a h named v = let p = words_apart view (modules_in_type t) (modules_in_headers ds) v in axiom_found m ds w a h named p.1
  axiom_found m (NWrap n t e ∷ ds) w a h named v = let p = words_apart view (modules_in_type t) (modules_in_headers ds) v in axiom_found m ds w a h named p.1

  -- DEFINITIONS

  value_here : (b : Bool) (x t : NTy) (o : Result NTy F) → (if b then Ok x else o) ≡ Ok t → AreInView view (modules_in_type x) → (o ≡ Ok t → AreInView view (modules_in_type t))
      → AreInView view (modules_in_type t)
  value_here true x t o h p more = let e : x ≡ t = cc in subst (λ y. AreInView view (modules_in_type y)) e p
  value_here false x t o h p more = more h

  value_found : (ds : List NDecl) (w : Word) (t : NTy) → def_type ds w ≡ Ok t → AreInView view (modules_in_headers ds) → AreInView view (modules_in_type t)
  value_found [] w t h v = absurd (cc)
  value_found (NData n ps cs ∷ ds) w t h v = let p = words_apart view (modules_in_decl (NData n ps cs)) (modules_in_headers ds) v in value_found ds w t h p.1
  value_found (NNew n ps u con ∷ ds) w t h v = let p = words_apart view (modules_in_type u) (modules_in_headers ds) v in value_found ds w t h p.1
  value_found (NFamily n ps j ∷ ds) w t h v = value_found ds w t h v
  value_found (NAxiom n ps u x ∷ ds) w t h v = let p = words_apart view (modules_in_type u ++ modules_in_type x) (modules_in_headers ds) v in value_found ds w t h p.1
  value_found (NDef n u e ∷ ds) w t h v =
      let p = words_apart view (modules_in_type u) (modules_in_headers ds) v in
      value_here (bytes_eq n w) u t (def_type ds w) h p.0 (λ g. value_found ds w t g p.1)
  value_found (NWrap n u e ∷ ds) w t h v =
      let p = words_apart view (modules_in_type u) (modules_in_headers ds) v in
      value_here (bytes_eq n w) u t (def_type ds w) h p.0 (λ g. value_found ds w t g p.1)

  -- RIGHT SIDES

  header_fewer : (d : NDecl) → AreInView view (modules_in_decl d) → AreInView view (modules_in_header d)
  header_fewer (NData n ps cs) v = v
  header_fewer (NNew n ps t con) v = v
  header_fewer (NFamily n ps k) v = v
  header_fewer (NAxiom n ps t u) v = v
  header_fewer (NDef n t e) v = let p = words_apart view (modules_in_type t) (modules_in_expr e) v in p.0
  header_fewer (NWrap n t e) v = let p = words_apart view (modules_in_type t) (modules_in_expr e) v in p.0

-- THE LAWS

pub headers_close_views : HeadersCloseViews
headers_close_views view ms mention = record {
  constructors = λ n k named found. constructor_found view (ms n.module) n.text k found (mention n.module named);
  axioms = λ n a named found. axiom_found view n.module (ms n.module) n.text a found named (mention n.module named);
  values = λ n t named found. value_found view (ms n.module) n.text t found (mention n.module named);
}

pub headers_mention_fewer : HeadersMentionFewer
headers_mention_fewer view [] v = v
headers_mention_fewer view (d ∷ ds) v =
    let p = words_apart view (modules_in_decl d) (modules_in_decls ds) v in
    words_in_both view (modules_in_header d) (modules_in_headers ds) (header_fewer view d p.0) (headers_mention_fewer view ds p.1)
