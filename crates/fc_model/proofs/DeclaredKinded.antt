-- What the modules of a set that lints define and construct has types of kind `*`, and both sides of each of their axioms have one
-- kind; so none of these has variables from outside.
use Rattle.std.proofs.Common.{◌≡◌, ℕ, suc, ◌+◌, All, Bool, true, false, if◌then◌else◌, List, [], ◌∷◌, ◌++◌, ◌⊎◌, inl, inr, length, map, reverse, Option, Some, None, Result}
use Rattle.std.proofs.Common.{Ok, bytes_eq, refl, sym, ap, ◌∙◌, subst, append_assoc, append-nil, length-append, arith}
use Rattle.std.proofs.lemmas.Bool.{and_parts}
use Rattle.std.proofs.lemmas.List.{length-reverse, reverse-append}
use Rattle.std.proofs.lemmas.List.Elements.{All-head, All-tail}
use Rattle.std.specs.List.{list_all}
use Rattle.fc_syntax.specs.declared.ty.Name.{Name}
use Rattle.fc_syntax.specs.Tree.{Word, Kind, KStar, Decl}
use Rattle.fc_model.specs.Calling.{Constructor, applied_to_variables, con_among, con_decl, constructed_type, first_of, constructor_type, data_name, over_binders, type_count}
use Rattle.fc_model.specs.Coercing.{Axiom, axiom_decl, family_axiom, newtype_axiom}
use Rattle.fc_model.specs.CoercionLaws.{HaveOneKind}
use Rattle.fc_model.specs.Declaring.{ntype_words, nwords_by}
use Rattle.fc_model.specs.Faulting.{F, at_distance}
use Rattle.fc_model.specs.Kinding.{Modules, HasHeadKind, HasKind, kind_application, kind_coforall, kind_declared, kind_forall, kind_function, kind_variable, arrows}
use Rattle.fc_model.specs.Kinding.{decls_at, decls_of_module, decl_kind, is_lifted, name_kind, param_kinds, type_decl}
use Rattle.fc_model.specs.LintingRules.{AreValueTypes, no_types, one_type, ConHolds, holds_fields, holds_type, holds_coercion, ConsHold, no_cons, one_con}
use Rattle.fc_model.specs.LintingRules.{data_holds, newtype_holds, family_holds, axiom_holds, def_declares_no_type, wrap_declares_no_type, TypeDeclsHold, no_type_decls}
use Rattle.fc_model.specs.LintingRules.{one_type_decl}
use Rattle.fc_model.specs.LintingRules.{def_holds, wrap_holds, data_defines_nothing, newtype_defines_nothing, family_defines_nothing, axiom_defines_nothing}
use Rattle.fc_model.specs.LintingRules.{DefinitionsHold, no_definitions, one_definition, ModuleHolds, module_holds}
use Rattle.fc_model.specs.Nameless.{NTy, NTVar, NTCon, NTApp, NBinder, NBValue, NBType, NParam, NParamOf, NConDecl, NDecl, NData, NNew, NFamily, NAxiom, NDef, NWrap, NModule, NModuleOf}
use Rattle.fc_model.specs.Resolution.{Top, Words, WordSet, no_word, plus}
use Rattle.fc_model.specs.ResolutionRules.{AreDistinct, no_words_left, one_word_more, resolves_module, ResolvesDecls, resolves_no_decls, resolves_decls, resolves_data}
use Rattle.fc_model.specs.ResolutionRules.{resolves_newtype, resolves_family, resolves_equation, resolves_def, resolves_wrap}
use Rattle.fc_model.specs.Typing.{def_type}
use Rattle.fc_model.specs.TypingLaws.{HasDistinctTypes, LintedAreKinded, ResolvedHaveDistinctTypes}
use Rattle.fc_model.proofs.Parts.{err_ok, ok_ok}
use Rattle.fc_model.proofs.Sameness.{bytes_eq_eq, bytes_eq_refl, false_true, name_of}

-- DISTINCT WORDS

decls_distinct : (top : Top) (ws : Words) (ds : List Decl) (cs : List NDecl) → ResolvesDecls top ws ds cs → AreDistinct ws.types (nwords_by ntype_words cs)
decls_distinct top ws ds cs resolves_no_decls = no_words_left
decls_distinct top ws ds cs (resolves_decls (resolves_data new ps bs) rest) = one_word_more new (decls_distinct top _ _ _ rest)
decls_distinct top ws ds cs (resolves_decls (resolves_newtype new ps t con) rest) = one_word_more new (decls_distinct top _ _ _ rest)
decls_distinct top ws ds cs (resolves_decls (resolves_family new ps) rest) = one_word_more new (decls_distinct top _ _ _ rest)
decls_distinct top ws ds cs (resolves_decls (resolves_equation new ps t u) rest) = decls_distinct top _ _ _ rest
decls_distinct top ws ds cs (resolves_decls (resolves_def new t e) rest) = decls_distinct top _ _ _ rest
decls_distinct top ws ds cs (resolves_decls (resolves_wrap new t e) rest) = decls_distinct top _ _ _ rest

pub resolved_have_distinct_types : ResolvedHaveDistinctTypes
resolved_have_distinct_types m n (resolves_module p) = decls_distinct _ _ _ _ p

distinct_inv : (e : WordSet) (w : Word) (ws : List Word) → AreDistinct e (w ∷ ws) → (e w ≡ false) × AreDistinct (plus w e) ws
distinct_inv e w ws (one_word_more new rest) = (new, rest)

-- a word that is in a set with one more, or is the one
not_before : (b s : Bool) → (if b then true else s) ≡ false → (b ≡ false) × (s ≡ false)
not_before true s h = false_true (sym h)
not_before false s h = (refl, h)

abbrev some_of : {X : Type 0} → X → Option X
some_of x = Some x

if_some : {X : Type 0} (b : Bool) (o p : Option X) (x : X) → (if b then o else p) ≡ Some x → ((b ≡ true) × (o ≡ Some x)) ⊎ ((b ≡ false) × (p ≡ Some x))
if_some true o p x h = inl (refl, h)
if_some false o p x h = inr (refl, h)

either : {X Y Z : Type 0} → X ⊎ Y → (X → Z) → (Y → Z) → Z
either (inl x) f g = f x
either (inr y) f g = g y

some_some : {X : Type 0} {x y : X} → some_of x ≡ some_of y → x ≡ y
some_some h = cc

if_ok : {X : Type 0} (b : Bool) (x : X) (r : Result X F) (y : X) → (if b then Ok x else r) ≡ Ok y → (Y : Type 0) → (x ≡ y → Y) → (r ≡ Ok y → Y) → Y
if_ok true x r y h Y here there = here (ok_ok h)
if_ok false x r y h Y here there = there h

-- the word of what is found behind another is none of those before
new_behind : (e : WordSet) (n w : Word) (o p : Option NDecl) (d : NDecl) → e n ≡ false → (p ≡ Some d → plus n e w ≡ false) → (if bytes_eq n w then o else p) ≡ Some d → e w ≡ false
new_behind e n w o p d new later h =
    either (if_some (bytes_eq n w) o p d h) (λ q. subst (λ x. e x ≡ false) (bytes_eq_eq n w q.0) new) (λ q. (not_before (bytes_eq n w) (e w) (later q.1)).1)

-- the word of a type that is found is none of those before
found_is_new : (e : WordSet) (ds : List NDecl) (w : Word) (d : NDecl) → AreDistinct e (nwords_by ntype_words ds) → type_decl ds w ≡ Some d → e w ≡ false
found_is_new e [] w d distinct h = absurd cc
found_is_new e (NAxiom n ps t u ∷ ds) w d distinct h = found_is_new e ds w d distinct h
found_is_new e (NDef n t b ∷ ds) w d distinct h = found_is_new e ds w d distinct h
found_is_new e (NWrap n t b ∷ ds) w d distinct h = found_is_new e ds w d distinct h
found_is_new e (NData n ps cs ∷ ds) w d distinct h =
    let p = distinct_inv e n (nwords_by ntype_words ds) distinct in
    new_behind e n w (Some (NData n ps cs)) (type_decl ds w) d p.0 (λ later. found_is_new (plus n e) ds w d p.1 later) h
found_is_new e (NNew n ps t con ∷ ds) w d distinct h =
    let p = distinct_inv e n (nwords_by ntype_words ds) distinct in
    new_behind e n w (Some (NNew n ps t con)) (type_decl ds w) d p.0 (λ later. found_is_new (plus n e) ds w d p.1 later) h
found_is_new e (NFamily n ps k ∷ ds) w d distinct h =
    let p = distinct_inv e n (nwords_by ntype_words ds) distinct in
    new_behind e n w (Some (NFamily n ps k)) (type_decl ds w) d p.0 (λ later. found_is_new (plus n e) ds w d p.1 later) h

-- what is found behind a type of another word is found past it
type_behind : (e : WordSet) (n : Word) (d : NDecl) (ds : List NDecl) → ((w : Word) → type_decl (d ∷ ds) w ≡ (if bytes_eq n w then Some d else type_decl ds w))
    → AreDistinct (plus n e) (nwords_by ntype_words ds) → (w : Word) (x : NDecl) → type_decl ds w ≡ Some x → type_decl (d ∷ ds) w ≡ Some x
type_behind e n d ds past distinct w x h =
    let other = (not_before (bytes_eq n w) (e w) (found_is_new (plus n e) ds w x distinct h)).0 in
    past w ∙ ap (λ b. if b then Some d else type_decl ds w) other ∙ h

-- CONSTRUCTORS

-- a constructor of data that is the first type of its word, and holds
record IsFound (ms : Modules) (ds : List NDecl) (k : Constructor) : Type 0 where
  cons : List NConDecl
  declared : type_decl ds k.data_word ≡ Some (NData k.data_word k.params cons)
  lifted : list_all is_lifted (param_kinds k.params) ≡ true
  holds : ConHolds ms (reverse (param_kinds k.params)) k.binders k.fields

abbrev con_of : Word → List NParam → ℕ → List NBinder → List NTy → Constructor
con_of d ps i bs ts = record { data_word = d; params = ps; number = i; binders = bs; fields = ts }

con_among_found : (ms : Modules) (ks : List Kind) (d : Word) (ps : List NParam) (i : ℕ) (cs : List NConDecl) (w : Word) (k : Constructor) → ConsHold ms ks cs
    → con_among d ps i cs w ≡ Some k → (k.data_word ≡ d) × (k.params ≡ ps) × ConHolds ms ks k.binders k.fields
con_among_found ms ks d ps i cs w k no_cons h = absurd cc
con_among_found ms ks d ps i cs w k (one_con {n = n} {bs = bs} {ts = ts} {cs = rest} c more) h =
    either (if_some (bytes_eq n w) (Some (con_of d ps i bs ts)) (con_among d ps (i + 1) rest w) k h)
    (λ q. subst (λ x. (x.data_word ≡ d) × (x.params ≡ ps) × ConHolds ms ks x.binders x.fields) (some_some q.1) (refl, refl, c))
    (λ q. con_among_found ms ks d ps (i + 1) rest w k more q.1)

first_of_inv : {X : Type 0} (o p : Option X) (x : X) → first_of o p ≡ Some x → (o ≡ Some x) ⊎ (p ≡ Some x)
first_of_inv (Some y) p x h = inl h
first_of_inv None p x h = inr h

found_behind : (ms : Modules) (e : WordSet) (n : Word) (d : NDecl) (ds : List NDecl) (k : Constructor)
    → ((w : Word) → type_decl (d ∷ ds) w ≡ (if bytes_eq n w then Some d else type_decl ds w)) → AreDistinct (plus n e) (nwords_by ntype_words ds) → IsFound ms ds k → IsFound ms (d ∷ ds) k
found_behind ms e n d ds k past distinct f =
    record { cons = f.cons; declared = type_behind e n d ds past distinct k.data_word _ f.declared; lifted = f.lifted; holds = f.holds }

-- what is found behind what declares no type is found past it
found_past : (ms : Modules) (d : NDecl) (ds : List NDecl) (k : Constructor) → ((w : Word) → type_decl (d ∷ ds) w ≡ type_decl ds w) → IsFound ms ds k → IsFound ms (d ∷ ds) k
found_past ms d ds k past f = record { cons = f.cons; declared = past k.data_word ∙ f.declared; lifted = f.lifted; holds = f.holds }

found_here : (ms : Modules) (n : Word) (ps : List NParam) (cs : List NConDecl) (ds : List NDecl) (k : Constructor) → list_all is_lifted (param_kinds ps) ≡ true
    → (k.data_word ≡ n) × (k.params ≡ ps) × ConHolds ms (reverse (param_kinds ps)) k.binders k.fields → IsFound ms (NData n ps cs ∷ ds) k
found_here ms n ps cs ds k l q = record {
  cons = cs;
  declared = rw (q.0, q.1, bytes_eq_refl n) refl;
  lifted = subst (λ x. list_all is_lifted (param_kinds x) ≡ true) (sym q.1) l;
  holds = subst (λ x. ConHolds ms (reverse (param_kinds x)) k.binders k.fields) (sym q.1) q.2;
}

con_found : (ms : Modules) (e : WordSet) (ds : List NDecl) (w : Word) (k : Constructor) → TypeDeclsHold ms ds → AreDistinct e (nwords_by ntype_words ds) → con_decl ds w ≡ Some k
    → IsFound ms ds k
con_found ms e ds w k no_type_decls distinct h = absurd cc
con_found ms e ds w k (one_type_decl {ds = rest} (data_holds {n = n} {ps = ps} {cs = cs} l c roles) more) distinct h =
    let p = distinct_inv e n (nwords_by ntype_words rest) distinct in
    either (first_of_inv (con_among n ps 0 cs w) (con_decl rest w) k h)
    (λ q. found_here ms n ps cs rest k l (con_among_found ms (reverse (param_kinds ps)) n ps 0 cs w k c q))
    (λ q. found_behind ms e n (NData n ps cs) rest k (λ v. refl) p.1 (con_found ms (plus n e) rest w k more p.1 q))
con_found ms e ds w k (one_type_decl {ds = rest} (newtype_holds {n = n} {con = con} {ps = ps} {t = t} l c roles) more) distinct h =
    let p = distinct_inv e n (nwords_by ntype_words rest) distinct in
    found_behind ms e n (NNew n ps t con) rest k (λ v. refl) p.1 (con_found ms (plus n e) rest w k more p.1 h)
con_found ms e ds w k (one_type_decl {ds = rest} (family_holds {n = n} {ks = ks} {k = j} l c) more) distinct h =
    let p = distinct_inv e n (nwords_by ntype_words rest) distinct in
    found_behind ms e n (NFamily n ks j) rest k (λ v. refl) p.1 (con_found ms (plus n e) rest w k more p.1 h)
con_found ms e ds w k (one_type_decl {ds = rest} (axiom_holds j l t u f) more) distinct h = found_past ms _ rest k (λ v. refl) (con_found ms e rest w k more distinct h)
con_found ms e ds w k (one_type_decl {ds = rest} def_declares_no_type more) distinct h = found_past ms _ rest k (λ v. refl) (con_found ms e rest w k more distinct h)
con_found ms e ds w k (one_type_decl {ds = rest} wrap_declares_no_type more) distinct h = found_past ms _ rest k (λ v. refl) (con_found ms e rest w k more distinct h)

-- KINDS

reverse_more : (k : Kind) (ks ls : List Kind) → reverse (k ∷ ks) ++ ls ≡ reverse ks ++ k ∷ ls
reverse_more k ks ls = ap (λ x. x ++ ls) (reverse-append (k ∷ []) ks) ∙ append_assoc (reverse ks) (k ∷ []) ls

at_end : (xs : List Kind) (k : Kind) (ls : List Kind) → at_distance (xs ++ k ∷ ls) (length xs) ≡ Ok k
at_end [] k ls = refl
at_end (x ∷ xs) k ls = at_end xs k ls

-- a parameter stands behind what is inside of it and the parameters after it
param_at : (inside later : List Kind) (k : Kind) (ls : List Kind) → at_distance (inside ++ (reverse later ++ k ∷ ls)) (length later + length inside) ≡ Ok k
param_at inside later k ls =
    let long : length later + length inside ≡ length (inside ++ reverse later) = omega (arith, length-append inside (reverse later), length-reverse later) in
    ap (λ x. at_distance x (length later + length inside)) (sym (append_assoc inside (reverse later) (k ∷ ls)))
    ∙ ap (at_distance ((inside ++ reverse later) ++ k ∷ ls)) long ∙ at_end (inside ++ reverse later) k ls

param_count : (ps : List NParam) → length ps ≡ length (param_kinds ps)
param_count [] = refl
param_count (NParamOf k r ∷ ps) = ap suc (param_count ps)

module _ (ms : Modules) where
  -- data applied to its parameters
  applied_kinded : (ps ls : List Kind) (t : NTy) (ks inside : List Kind) → ks ≡ inside ++ (reverse ps ++ ls) → ((args : ℕ) → HasHeadKind ms ks args t (arrows ps KStar))
      → HasKind ms ks (applied_to_variables t (length ps) (length inside)) KStar
  applied_kinded [] ls t ks inside e known = known 0
  applied_kinded (k ∷ ps) ls t ks inside e known =
      let behind : ks ≡ inside ++ (reverse ps ++ k ∷ ls) = e ∙ ap (λ x. inside ++ x) (reverse_more k ps ls) in
      let at : at_distance ks (length ps + length inside) ≡ Ok k = ap (λ x. at_distance x (length ps + length inside)) behind ∙ param_at inside ps k ls in
      applied_kinded ps (k ∷ ls) (NTApp t (NTVar (length ps + length inside))) ks inside behind (λ args. kind_application (known (suc args)) (kind_variable at))

  fields_kinded : (ks : List Kind) (ts : List NTy) (t : NTy) → AreValueTypes ms ks ts → HasKind ms ks t KStar → HasKind ms ks (over_binders (map NBValue ts) t) KStar
  fields_kinded ks ts t no_types h = h
  fields_kinded ks ts t (one_type {ts = rest} k p v more) h = kind_function k KStar p (fields_kinded ks rest t more h) v refl

  types_kinded : (ps ks : List Kind) (bs : List NBinder) (t : NTy) → list_all is_lifted ps ≡ true → HasKind ms (reverse ps ++ ks) (over_binders bs t) KStar
      → HasKind ms ks (over_binders (map NBType ps ++ bs) t) KStar
  types_kinded [] ks bs t l h = h
  types_kinded (k ∷ ps) ks bs t l h =
      let p = and_parts (is_lifted k) (list_all is_lifted ps) l in
      kind_forall p.0 (types_kinded ps (k ∷ ks) bs t p.1 (subst (λ x. HasKind ms x (over_binders bs t) KStar) (reverse_more k ps ks) h))

  module _ (t : NTy) (ps : List Kind) (known : (ks : List Kind) (args : ℕ) → HasHeadKind ms ks args t (arrows ps KStar)) where
    -- what a constructor constructs, behind this many type variables of its own
    abbrev whole : ℕ → NTy
    whole d = applied_to_variables t (length ps) d

    con_kinded : (inside ks : List Kind) (bs : List NBinder) (ts : List NTy) → ks ≡ inside ++ (reverse ps ++ []) → ConHolds ms ks bs ts
        → HasKind ms ks (over_binders (bs ++ map NBValue ts) (whole (type_count bs + length inside))) KStar
    con_kinded inside ks bs ts e (holds_fields fs) =
        let long : length inside ≡ 0 + length inside = omega arith in
        fields_kinded ks ts (whole (0 + length inside)) fs (subst (λ d. HasKind ms ks (whole d) KStar) long (applied_kinded ps [] t ks inside e (known ks)))
    con_kinded inside ks bs ts e (holds_type {k = k} {bs = rest} l more) =
        let long : type_count rest + length (k ∷ inside) ≡ suc (type_count rest) + length inside = omega arith in
        kind_forall l (subst (λ d. HasKind ms (k ∷ ks) (over_binders (rest ++ map NBValue ts) (whole d)) KStar) long (con_kinded (k ∷ inside) (k ∷ ks) rest ts (ap (λ x. k ∷ x) e) more))
    con_kinded inside ks bs ts e (holds_coercion {bs = rest} k p q more) = kind_coforall k KStar p q (con_kinded inside ks rest ts e more) refl

  declared_kind : (n : Name) (k : Constructor) → IsFound ms (ms n.module) k → (args : ℕ) → name_kind ms (data_name n k.data_word) args ≡ Ok (arrows (param_kinds k.params) KStar)
  declared_kind n k f args = ap (λ d. decl_kind d args) f.declared

  constructor_kinded : (n : Name) (k : Constructor) → IsFound ms (ms n.module) k → HasKind ms [] (constructor_type n k) KStar
  constructor_kinded n k f =
      let ps = param_kinds k.params in
      let none : reverse ps ≡ reverse ps ++ [] = sym (append-nil (reverse ps)) in
      let known : (ks : List Kind) (args : ℕ) → HasHeadKind ms ks args (NTCon (data_name n k.data_word)) (arrows ps KStar) = λ ks args. kind_declared (declared_kind n k f args) in
      let long : type_count k.binders + 0 ≡ type_count k.binders = omega arith in
      let inner = con_kinded (NTCon (data_name n k.data_word)) ps known [] (reverse ps) k.binders k.fields none f.holds in
      let counted : HasKind ms (reverse ps) (over_binders (k.binders ++ map NBValue k.fields) (constructed_type n k)) KStar =
      subst (λ d. HasKind ms (reverse ps) (over_binders (k.binders ++ map NBValue k.fields) (applied_to_variables (NTCon (data_name n k.data_word)) (length k.params) d)) KStar) long
      (subst (λ m. HasKind ms (reverse ps) (over_binders (k.binders ++ map NBValue k.fields) (applied_to_variables (NTCon (data_name n k.data_word)) m (type_count k.binders + 0))) KStar)
      (sym (param_count k.params)) inner) in
      types_kinded ps [] (k.binders ++ map NBValue k.fields) (constructed_type n k) f.lifted
      (subst (λ x. HasKind ms x (over_binders (k.binders ++ map NBValue k.fields) (constructed_type n k)) KStar) none counted)

  -- AXIOMS

  -- a newtype at its parameters is of the kind of what it holds
  newtype_kinded : (m : Option Word) (n con : Word) (ps : List NParam) (t : NTy) → type_decl (ms m) n ≡ Some (NNew n ps t con) → HasKind ms (reverse (param_kinds ps)) t KStar
      → HaveOneKind ms (reverse (param_kinds ps)) (applied_to_variables (NTCon (name_of m n)) (length ps) 0) t
  newtype_kinded m n con ps t found h =
      let ks = param_kinds ps in
      let none : reverse ks ≡ reverse ks ++ [] = sym (append-nil (reverse ks)) in
      let known : (args : ℕ) → HasHeadKind ms (reverse ks) args (NTCon (name_of m n)) (arrows ks KStar) = λ args. kind_declared (ap (λ d. decl_kind d args) found) in
      let left = applied_kinded ks [] (NTCon (name_of m n)) (reverse ks) [] none known in
      (KStar, subst (λ i. HasKind ms (reverse ks) (applied_to_variables (NTCon (name_of m n)) i 0) KStar) (sym (param_count ps)) left, h)

  -- both sides of an axiom have one kind, where the types that are found among the declarations are those of the module
  axiom_kinded : (m : Option Word) (e : WordSet) (ds : List NDecl) (w : Word) (a : Axiom) → TypeDeclsHold ms ds → AreDistinct e (nwords_by ntype_words ds)
      → ((v : Word) (d : NDecl) → type_decl ds v ≡ Some d → type_decl (ms m) v ≡ Some d) → axiom_decl m ds w ≡ Some a → HaveOneKind ms (reverse a.params) a.ends.left a.ends.right
  axiom_kinded m e ds w a no_type_decls distinct found h = absurd cc
  axiom_kinded m e ds w a (one_type_decl {ds = rest} (data_holds {n = n} {ps = ps} {cs = cs} l c roles) more) distinct found h =
      let p = distinct_inv e n (nwords_by ntype_words rest) distinct in
      axiom_kinded m (plus n e) rest w a more p.1 (λ v d q. found v d (type_behind e n (NData n ps cs) rest (λ x. refl) p.1 v d q)) h
  axiom_kinded m e ds w a (one_type_decl {ds = rest} (newtype_holds {n = n} {con = con} {ps = ps} {t = t} l c roles) more) distinct found h =
      let p = distinct_inv e n (nwords_by ntype_words rest) distinct in
      let here = newtype_kinded m n con ps t (found n (NNew n ps t con) (rw (bytes_eq_refl n) refl)) c in
      either (if_some (bytes_eq con w) (Some (newtype_axiom m n ps t)) (axiom_decl m rest w) a h)
      (λ q. subst (λ x. HaveOneKind ms (reverse x.params) x.ends.left x.ends.right) (some_some q.1) here)
      (λ q. axiom_kinded m (plus n e) rest w a more p.1 (λ v d r. found v d (type_behind e n (NNew n ps t con) rest (λ x. refl) p.1 v d r)) q.1)
  axiom_kinded m e ds w a (one_type_decl {ds = rest} (family_holds {n = n} {ks = ks} {k = k} l c) more) distinct found h =
      let p = distinct_inv e n (nwords_by ntype_words rest) distinct in
      axiom_kinded m (plus n e) rest w a more p.1 (λ v d q. found v d (type_behind e n (NFamily n ks k) rest (λ x. refl) p.1 v d q)) h
  axiom_kinded m e ds w a (one_type_decl {ds = rest} (axiom_holds {n = n} {ks = ks} {t = t} {u = u} k l p q f) more) distinct found h =
      either (if_some (bytes_eq n w) (Some (family_axiom ks t u)) (axiom_decl m rest w) a h)
      (λ r. subst (λ x. HaveOneKind ms (reverse x.params) x.ends.left x.ends.right) (some_some r.1) (k, p, q))
      (λ r. axiom_kinded m e rest w a more distinct found r.1)
  axiom_kinded m e ds w a (one_type_decl {ds = rest} def_declares_no_type more) distinct found h = axiom_kinded m e rest w a more distinct found h
  axiom_kinded m e ds w a (one_type_decl {ds = rest} wrap_declares_no_type more) distinct found h = axiom_kinded m e rest w a more distinct found h

-- MODULES

definition_kinded : (ms : Modules) (ds : List NDecl) (w : Word) (t : NTy) → DefinitionsHold ms ds → def_type ds w ≡ Ok t → HasKind ms [] t KStar
definition_kinded ms ds w t no_definitions h = err_ok h
definition_kinded ms ds w t (one_definition {ds = rest} (def_holds {n = n} {t = u} k p) more) h =
    if_ok (bytes_eq n w) u (def_type rest w) t h (HasKind ms [] t KStar) (λ e. subst (λ x. HasKind ms [] x KStar) e k) (λ e. definition_kinded ms rest w t more e)
definition_kinded ms ds w t (one_definition {ds = rest} (wrap_holds {n = n} {t = u} k p) more) h =
    if_ok (bytes_eq n w) u (def_type rest w) t h (HasKind ms [] t KStar) (λ e. subst (λ x. HasKind ms [] x KStar) e k) (λ e. definition_kinded ms rest w t more e)
definition_kinded ms ds w t (one_definition {ds = rest} data_defines_nothing more) h = definition_kinded ms rest w t more h
definition_kinded ms ds w t (one_definition {ds = rest} newtype_defines_nothing more) h = definition_kinded ms rest w t more h
definition_kinded ms ds w t (one_definition {ds = rest} family_defines_nothing more) h = definition_kinded ms rest w t more h
definition_kinded ms ds w t (one_definition {ds = rest} axiom_defines_nothing more) h = definition_kinded ms rest w t more h

-- SETS

-- the declarations of a module of a set in which each holds against all
pub record Held (ms : Modules) (ds : List NDecl) : Type 0 where
  pub types : TypeDeclsHold ms ds
  pub definitions : DefinitionsHold ms ds
  pub distinct : AreDistinct no_word (nwords_by ntype_words ds)

nothing_held : (ms : Modules) → Held ms []
nothing_held ms = record { types = no_type_decls; definitions = no_definitions; distinct = no_words_left }

either_held : (ms : Modules) (ds rest : List NDecl) (b : Bool) → Held ms ds → Held ms rest → Held ms (if b then ds else rest)
either_held ms ds rest true here there = here
either_held ms ds rest false here there = there

declarations_held : (ms : Modules) (m : Word) (imports exports hidden : List Word) (ds : List NDecl) → AreDistinct no_word (nwords_by ntype_words ds)
    → ModuleHolds ms (NModuleOf m imports exports hidden ds) → Held ms ds
declarations_held ms m imports exports hidden ds distinct (module_holds e h types definitions) = record { types = types; definitions = definitions; distinct = distinct }

all_held : (ms : Modules) (ns : List NModule) → All HasDistinctTypes ns → All (ModuleHolds ms) ns → (w : Word) → Held ms (decls_of_module ns w)
all_held ms [] distinct hold w = nothing_held ms
all_held ms (NModuleOf m imports exports hidden ds ∷ ns) distinct hold w =
    let n = NModuleOf m imports exports hidden ds in
    either_held ms ds (decls_of_module ns w) (bytes_eq m w)
    (declarations_held ms m imports exports hidden ds (All-head HasDistinctTypes n ns distinct) (All-head (ModuleHolds ms) n ns hold))
    (all_held ms ns (All-tail HasDistinctTypes n ns distinct) (All-tail (ModuleHolds ms) n ns hold) w)

held_at : (ns : List NModule) → All HasDistinctTypes ns → All (ModuleHolds (decls_at ns)) ns → (o : Option Word) → Held (decls_at ns) (decls_at ns o)
held_at ns distinct hold None = nothing_held (decls_at ns)
held_at ns distinct hold (Some w) = all_held (decls_at ns) ns distinct hold w

pub linted_are_kinded : LintedAreKinded
linted_are_kinded ns distinct hold =
    let ms = decls_at ns in
    let held : (o : Option Word) → Held ms (ms o) = held_at ns distinct hold in
    record {
      values = λ v t p. definition_kinded ms (ms v.module) v.text t (held v.module).definitions p;
      constructors = λ v k p. constructor_kinded ms v k (con_found ms no_word (ms v.module) v.text k (held v.module).types (held v.module).distinct p);
      data_types = λ v k p. declared_kind ms v k (con_found ms no_word (ms v.module) v.text k (held v.module).types (held v.module).distinct p);
      axioms = λ v a p. axiom_kinded ms v.module no_word (ms v.module) v.text a (held v.module).types (held v.module).distinct (λ w d q. q) p;
    }
