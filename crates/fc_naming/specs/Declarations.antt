-- What each function that puts names back in declarations promises of its answer.
use Rattle.std.specs.Prelude.{◌≡◌, true, List, Option, Some, None, map, reverse}
use Rattle.std.specs.List.{list_all}
use Rattle.fc_syntax.specs.Tree.{Word, Ty, Binder, ConDecl, ConOf, Decl, Module}
use Rattle.fc_model.specs.Declaring.{coercion_words, con_words, ncoercion_words, ncon_words, nterm_words, ntype_words, nwords_by, term_words, type_words, words_by}
use Rattle.fc_model.specs.Formed.{con_formed, decl_formed, is_lower_word, named_words, IsFormed}
use Rattle.fc_model.specs.Nameless.{NTy, NBinder}
use Rattle.fc_model.specs.Resolution.{Top, Locals, WordSet, Words, no_word, no_words, enter_all, ntop_of}
use Rattle.fc_model.specs.ResolutionRules.{AreDistinct, ResolvesBinders, ResolvesTys, ResolvesCons, ResolvesDecl, ResolvesDecls, Resolves}
use Rattle.fc_model.specs.Worded.{WTy, WBinder, WConDecl, WDecl, WModule, bare_binders, bare_con, bare_decl, bare_decls, bare_module, bare_tys}
use Rattle.fc_formed.specs.FormedTrees.{IsFormedModule, bare_words}
use Rattle.fc_used_words.specs.Scoped.{in_binders, nothing_around, HoldsTys, HoldsBinders, HoldsCons, HoldsDecl, HoldsDecls, IsScoped, is_meant}
use Rattle.fc_used_words.specs.Standing.{is_found, is_found_by}
use Rattle.fc_naming.specs.Named.{AreLower}

-- CONSTRUCTORS

-- sets for the scope of binders, which is the types below them, and for the binders themselves
pub record FieldsUse (top : Top) (s : Locals) (ns : List NBinder) (ts : List NTy) (ws : Words) : Type 0 where
  pub binders : HoldsBinders (is_found top s) nothing_around ns → HoldsBinders (is_found_by top ws s) nothing_around ns
  pub fields : HoldsTys (is_found top s) (in_binders ns nothing_around) ts → HoldsTys (is_found_by top ws s) (in_binders ns nothing_around) ts

-- a constructor keeps its word, its parts are those of a nameless one whose names are all found in these locals, and it is of the text form if
-- that one and the locals are
pub data IsNamedCon (top : Top) (s : Locals) : WConDecl → ConDecl → Type 0 where
  con_named : {n : Word} {cs : List WBinder} {bs : List Binder} {ts : List WTy} {fields : List Ty}
      → (HoldsBinders (is_found top s) nothing_around (bare_binders cs) → HoldsTys (is_found top s) (in_binders (bare_binders cs) nothing_around) (bare_tys ts)
      → ResolvesBinders top s no_words bs (bare_binders cs))
      → (HoldsBinders (is_found top s) nothing_around (bare_binders cs) → HoldsTys (is_found top s) (in_binders (bare_binders cs) nothing_around) (bare_tys ts)
      → ResolvesTys top (enter_all bs s).types fields (bare_tys ts))
      → (AreLower s → con_formed bare_words (ConOf n cs ts) ≡ true → con_formed named_words (ConOf n bs fields) ≡ true) → IsNamedCon top s (ConOf n cs ts) (ConOf n bs fields)

pub record IsNamedCons (top : Top) (s : Locals) (n : List WConDecl) (t : List ConDecl) : Type 0 where
  pub words : con_words t ≡ ncon_words (map bare_con n)
  pub resolves : (earlier : WordSet) → AreDistinct earlier (con_words t) → HoldsCons (is_found top s) nothing_around (map bare_con n) → ResolvesCons top s earlier t (map bare_con n)
  pub formed : AreLower s → list_all (con_formed bare_words) n ≡ true → list_all (con_formed named_words) t ≡ true

-- PARAMETERS

-- parameters have lower words of their own, with nothing else changed; and the words for look-ups are theirs, the last one first
pub record HaveWords {X Y : Type 0} (word : Y → Word) (bare : Y → X) (n t : List Y) (names : List Word) : Type 0 where
  pub distinct : AreDistinct no_word (map word t)
  pub same : map bare t ≡ map bare n
  pub lower : list_all is_lower_word (map word t) ≡ true
  pub reversed : names ≡ reverse (map word t)

-- DECLARATIONS

-- a declaration declares the same words, is that of a nameless one whose names all mean something, behind other words, and is of the text form
-- if that one is
pub record IsNamedDecl (top : Top) (n : WDecl) (t : Decl) : Type 0 where
  pub types : type_words t ≡ ntype_words (bare_decl n)
  pub terms : term_words t ≡ nterm_words (bare_decl n)
  pub coercions : coercion_words t ≡ ncoercion_words (bare_decl n)
  pub resolves : (ws : Words) → AreDistinct ws.types (type_words t) → AreDistinct ws.terms (term_words t) → AreDistinct ws.coercions (coercion_words t)
      → HoldsDecl (is_meant top) (bare_decl n) → ResolvesDecl top ws t (bare_decl n)
  pub formed : decl_formed bare_words n ≡ true → decl_formed named_words t ≡ true

pub record IsNamedDecls (top : Top) (n : List WDecl) (t : List Decl) : Type 0 where
  pub types : words_by type_words t ≡ nwords_by ntype_words (bare_decls n)
  pub terms : words_by term_words t ≡ nwords_by nterm_words (bare_decls n)
  pub coercions : words_by coercion_words t ≡ nwords_by ncoercion_words (bare_decls n)
  pub resolves : (ws : Words) → AreDistinct ws.types (words_by type_words t) → AreDistinct ws.terms (words_by term_words t)
      → AreDistinct ws.coercions (words_by coercion_words t) → HoldsDecls (is_meant top) (bare_decls n) → ResolvesDecls top ws t (bare_decls n)
  pub formed : list_all (decl_formed bare_words) n ≡ true → list_all (decl_formed named_words) t ≡ true

-- MODULES

-- a module is that of a nameless one whose names all mean something, if this is what that declares and imports, and it is of the text form if
-- that one is
pub record IsNamedModule (top : Top) (n : WModule) (t : Module) : Type 0 where
  pub resolves : top ≡ ntop_of (bare_module n) → IsScoped (bare_module n) → Resolves t (bare_module n)
  pub formed : IsFormedModule (bare_module n) → IsFormed t

-- a nameless module is named back exactly where it is scoped
abbrev pub IsNamedBack : WModule → Option Module → Type 0
IsNamedBack n (Some t) = IsScoped (bare_module n) × Resolves t (bare_module n) × (IsFormedModule (bare_module n) → IsFormed t)
IsNamedBack n None = IsScoped (bare_module n) → ⊥
