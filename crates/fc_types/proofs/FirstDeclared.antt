-- The first declaration of a word in src means the first declaration of the word.
use Rattle.std.proofs.Common.{◌≡◌, refl, ap, ℕ, ◌+◌, Bool, true, false, List, [], ◌∷◌, Option, Some, None, Ok, if◌then◌else◌}
use Rattle.std.specs.Option.{option_and_then, option_map}
use Rattle.std.specs.Str.{bytes_eq}
use Rattle.fc_syntax.specs.Tree.{Word}
use Rattle.fc_syntax.specs.declared.module.ConDecl.{ConDecl}
use Rattle.fc_syntax.specs.declared.module.Decl.{Decl}
use Rattle.fc_syntax.specs.declared.module.Decl.TheVariants as D
use Rattle.fc_syntax.specs.declared.module.Module.{Module}
use Rattle.fc_syntax.specs.declared.module.Param.{Param}
use Rattle.fc_syntax.specs.declared.ty.Ref.{Ref}
use Rattle.fc_syntax.specs.declared.ty.Ty.{Ty}
use Rattle.fc_model.specs.Kinding.{decls_at, decls_of_module, type_decl}
use Rattle.fc_model.specs.NamelessView.{ncons_of, ndecl_of, ndecls_of, nmodules_of, nparams_of, nty_of}
use Rattle.fc_model.specs.Calling.{con_among, con_decl, first_of}
use Rattle.fc_model.specs.Coercing.{axiom_decl}
use Rattle.fc_model.specs.Typing.{def_type}
use Rattle.fc_types.specs.FirstDeclared.{Numbered, decls_among, first_axiom, first_constructor, first_definition, first_type_decl, numbered_among}
use Rattle.fc_types.specs.Tables.{at, at_place, found}
use Rattle.fc_types.specs.TableViews.{HasAxioms, HasConstructors, HasDefinitions, HasTypes, axiom_of, constructor_at, constructor_of, numbered, owned_axiom}
use Rattle.fc_types.specs.declared.keys.WordKey.{WordKey}
use Rattle.fc_types.specs.declared.tables.DeclaredAxiom.{DeclaredAxiom}
use Rattle.fc_types.specs.declared.tables.DeclaredCon.{DeclaredCon}
use Rattle.indexmap.specs.IndexMap.{IndexMap}
use denote.Ref.{Bor}

mapped : {X Y Z : Type 0} (f : X → Y) (g : Y → Z) (o : Option X) → option_map (λ x. g (f x)) o ≡ option_map g (option_map f o)
mapped f g (Some x) = refl
mapped f g None = refl

pub types_view : (ds : List (Decl ℕ Ref)) (w : Word) → option_map ndecl_of (first_type_decl ds w) ≡ type_decl (ndecls_of ds) w
types_view [] w = refl
types_view (D.DataType n ps cs ∷ ds) w = elim (bytes_eq n w) as (λ b. option_map ndecl_of (if b then Some (D.DataType n ps cs) else first_type_decl ds w) ≡ (if b then Some (ndecl_of (D.DataType n ps cs)) else type_decl (ndecls_of ds) w)) [ true ↦ refl | false ↦ types_view ds w ]
types_view (D.NewType n ps t con ∷ ds) w = elim (bytes_eq n w) as (λ b. option_map ndecl_of (if b then Some (D.NewType n ps t con) else first_type_decl ds w) ≡ (if b then Some (ndecl_of (D.NewType n ps t con)) else type_decl (ndecls_of ds) w)) [ true ↦ refl | false ↦ types_view ds w ]
types_view (D.Family n ps k ∷ ds) w = elim (bytes_eq n w) as (λ b. option_map ndecl_of (if b then Some (D.Family n ps k) else first_type_decl ds w) ≡ (if b then Some (ndecl_of (D.Family n ps k)) else type_decl (ndecls_of ds) w)) [ true ↦ refl | false ↦ types_view ds w ]
types_view (D.Axiom n ps t u ∷ ds) w = types_view ds w
types_view (D.Def n t e ∷ ds) w = types_view ds w
types_view (D.Wrap n t e ∷ ds) w = types_view ds w

-- the first axiom is that of the first declaration that has one
axiom_found_first : (o : Option Word) (m : Word) (d : Decl ℕ Ref) (b : Bool) (r : Option (Word × Decl ℕ Ref))
    → option_and_then (axiom_of o) (option_map (λ p. ndecl_of p.1) (if b then Some (m, d) else r)) ≡ (if b then axiom_of o (ndecl_of d) else option_and_then (axiom_of o) (option_map (λ p. ndecl_of p.1) r))
axiom_found_first o m d true r = refl
axiom_found_first o m d false r = refl

axioms_view : (o : Option Word) (m : Word) (ds : List (Decl ℕ Ref)) (w : Word) → option_and_then (axiom_of o) (option_map (λ p. ndecl_of p.1) (first_axiom m ds w)) ≡ axiom_decl o (ndecls_of ds) w
axioms_view o m [] w = refl
axioms_view o m (D.DataType n ps cs ∷ ds) w = axioms_view o m ds w
axioms_view o m (D.NewType n ps t con ∷ ds) w = rw (axiom_found_first o m (D.NewType n ps t con) (bytes_eq con w) (first_axiom m ds w), axioms_view o m ds w) refl
axioms_view o m (D.Family n ps k ∷ ds) w = axioms_view o m ds w
axioms_view o m (D.Axiom n ps t u ∷ ds) w = rw (axiom_found_first o m (D.Axiom n ps t u) (bytes_eq n w) (first_axiom m ds w), axioms_view o m ds w) refl
axioms_view o m (D.Def n t e ∷ ds) w = axioms_view o m ds w
axioms_view o m (D.Wrap n t e ∷ ds) w = axioms_view o m ds w

pub definitions_view : (ds : List (Decl ℕ Ref)) (w : Word) → found (option_map nty_of (first_definition ds w)) ≡ def_type (ndecls_of ds) w
definitions_view [] w = refl
definitions_view (D.DataType n ps cs ∷ ds) w = definitions_view ds w
definitions_view (D.NewType n ps t con ∷ ds) w = definitions_view ds w
definitions_view (D.Family n ps k ∷ ds) w = definitions_view ds w
definitions_view (D.Axiom n ps t u ∷ ds) w = definitions_view ds w
definitions_view (D.Def n t e ∷ ds) w = elim (bytes_eq n w) as (λ b. found (option_map nty_of (if b then Some t else first_definition ds w)) ≡ (if b then Ok (nty_of t) else def_type (ndecls_of ds) w)) [ true ↦ refl | false ↦ definitions_view ds w ]
definitions_view (D.Wrap n t e ∷ ds) w = elim (bytes_eq n w) as (λ b. found (option_map nty_of (if b then Some t else first_definition ds w)) ≡ (if b then Ok (nty_of t) else def_type (ndecls_of ds) w)) [ true ↦ refl | false ↦ definitions_view ds w ]

numbered_view : (m d : Word) (ps : List Param) (i : ℕ) (cs : List (ConDecl ℕ)) (w : Word) → option_map constructor_at (numbered_among m d ps i cs w) ≡ con_among d (nparams_of ps) i (ncons_of cs) w
numbered_view m d ps i [] w = refl
numbered_view m d ps i (c ∷ cs) w =
    let here : Numbered = record { «module» = m; data_word = d; params = ps; number = i; con = c } in
    elim (bytes_eq c.name w) as (λ b. option_map constructor_at (if b then Some here else numbered_among m d ps (i + 1) cs w) ≡ (if b then Some (constructor_at here) else con_among d (nparams_of ps) (i + 1) (ncons_of cs) w)) [
      | true ↦ refl
      | false ↦ numbered_view m d ps (i + 1) cs w
    ]

first_mapped : {X Y : Type 0} (f : X → Y) (o p : Option X) → option_map f (first_of o p) ≡ first_of (option_map f o) (option_map f p)
first_mapped f (Some x) p = refl
first_mapped f None p = refl

pub constructors_view : (m : Word) (ds : List (Decl ℕ Ref)) (w : Word) → option_map constructor_at (first_constructor m ds w) ≡ con_decl (ndecls_of ds) w
constructors_view m [] w = refl
constructors_view m (D.DataType n ps cs ∷ ds) w = rw (first_mapped constructor_at (numbered_among m n ps 0 cs w) (first_constructor m ds w), numbered_view m n ps 0 cs w, constructors_view m ds w) refl
constructors_view m (D.NewType n ps t con ∷ ds) w = constructors_view m ds w
constructors_view m (D.Family n ps k ∷ ds) w = constructors_view m ds w
constructors_view m (D.Axiom n ps t u ∷ ds) w = constructors_view m ds w
constructors_view m (D.Def n t e ∷ ds) w = constructors_view m ds w
constructors_view m (D.Wrap n t e ∷ ds) w = constructors_view m ds w

-- the declarations of the first module of a word
decls_view : (ms : List (Module ℕ Ref)) (m : Word) → decls_of_module (nmodules_of ms) m ≡ ndecls_of (decls_among ms m)
decls_view [] m = refl
decls_view (x ∷ xs) m = elim (bytes_eq x.name m) as (λ b. (if b then ndecls_of x.decls else decls_of_module (nmodules_of xs) m) ≡ ndecls_of (if b then x.decls else decls_among xs m)) [ true ↦ refl | false ↦ decls_view xs m ]

-- what a table with the first declarations has at a name of the module o and the word w
pub type_found : {S : Type 0} (table : IndexMap WordKey (Bor (Decl ℕ Ref)) S) (ms : List (Module ℕ Ref)) (o : Option Word) (w : Word) (r : Option (Bor (Decl ℕ Ref)))
    → r ≡ at_place table o w → HasTypes ms table → option_map (λ d. ndecl_of d.now) r ≡ type_decl (decls_at (nmodules_of ms) o) w
type_found table ms None w r e has = rw e refl
type_found table ms (Some m) w r e has = rw (e, decls_view ms m, ← types_view (decls_among ms m) w, ← has m w) (mapped (λ d. d.now) ndecl_of (at table m w))

pub axiom_found : {S : Type 0} (table : IndexMap WordKey DeclaredAxiom S) (ms : List (Module ℕ Ref)) (o : Option Word) (w : Word) (r : Option DeclaredAxiom)
    → r ≡ at_place table o w → HasAxioms ms table → option_and_then (axiom_of o) (option_map (λ a. ndecl_of a.decl.now) r) ≡ axiom_decl o (decls_at (nmodules_of ms) o) w
axiom_found table ms None w r e has = rw e refl
axiom_found table ms (Some m) w r e has =
    rw (e, decls_view ms m, ← axioms_view (Some m) m (decls_among ms m) w, ← has m w) (ap (option_and_then (axiom_of (Some m))) (mapped owned_axiom (λ p. ndecl_of p.1) (at table m w)))

pub definition_found : {S : Type 0} (table : IndexMap WordKey (Bor (Ty ℕ)) S) (ms : List (Module ℕ Ref)) (o : Option Word) (w : Word) (r : Option (Bor (Ty ℕ)))
    → r ≡ at_place table o w → HasDefinitions ms table → found (option_map (λ t. nty_of t.now) r) ≡ def_type (decls_at (nmodules_of ms) o) w
definition_found table ms None w r e has = rw e refl
definition_found table ms (Some m) w r e has = rw (e, decls_view ms m, ← definitions_view (decls_among ms m) w, ← has m w) (ap found (mapped (λ t. t.now) nty_of (at table m w)))

pub constructor_found : {S : Type 0} (table : IndexMap WordKey DeclaredCon S) (ms : List (Module ℕ Ref)) (o : Option Word) (w : Word) (r : Option DeclaredCon)
    → r ≡ at_place table o w → HasConstructors ms table → option_map constructor_of r ≡ con_decl (decls_at (nmodules_of ms) o) w
constructor_found table ms None w r e has = rw e refl
constructor_found table ms (Some m) w r e has = rw (e, decls_view ms m, ← constructors_view m (decls_among ms m) w, ← has m w) (mapped numbered constructor_at (at table m w))
