-- What modules declare of types is known by their declarations of types alone, and replays and telling leave these as they were.
use Rattle.std.proofs.Common.{◌≡◌, ◌∙◌, ℕ, Bool, true, false, if◌then◌else◌, List, [], ◌∷◌, ◌++◌, Option, Some, refl, sym, ap}
use Rattle.std.specs.Str.{bytes_eq}
use Rattle.fc_syntax.specs.Tree.{Word}
use Rattle.fc_log.specs.declared.log.Entry.{Entry}
use Rattle.fc_log.specs.declared.log.Row.{Row}
use Rattle.fc_log.specs.declared.log.Step.{Step}
use Rattle.fc_model.specs.Calling.{con_among, con_decl, first_of}
use Rattle.fc_model.specs.Coercing.{axiom_decl}
use Rattle.fc_model.specs.Declaring.{ndecl_words, ndeclared_words, ntype_words, nwords_by}
use Rattle.fc_model.specs.Headers.{ndecls_in}
use Rattle.fc_model.specs.Kinding.{decls_at, type_decl}
use Rattle.fc_model.specs.Nameless.{NTy, NExpr, NFail, NDecl, NData, NNew, NFamily, NAxiom, NDef, NWrap, NModule, NModuleOf}
use Rattle.fc_model.specs.Typing.{def_type}
use Rattle.fc_model.proofs.CallsKept.{from_some_inv}
use Rattle.fc_reaching.specs.Reaching.{defined_words}
use Rattle.fc_outlines.specs.RightSides.{Righted, righted_def, righted_wrap, righted_later}
use Rattle.fc_rows.specs.ChangingCoercions.{as_they_are}
use Rattle.fc_rows.specs.Dropping.{with_needed}
use Rattle.fc_rows.specs.Replaying.{Replays, at_end, past_mark, past_step, Rewrites, at_a_place, of_the_module}
use Rattle.fc_rows.specs.Rewriting.{changed_decls, changed_module, looked_at, rewritten, row_result, without_definitions}
use Rattle.fc_rows.specs.Surroundings.{outside}
use Rattle.fc_rows.specs.Telling.{told_declarations}
use Rattle.fc_row_types.proofs.DeclarationsChanged.{decls_changed}
use Rattle.fc_row_types.proofs.Made.{made_inv}
use Rattle.fc_set_types.specs.SetsReplayed.{type_declarations}

-- DECLARATIONS OF TYPES

types_alone : (ds : List NDecl) (w : Word) → type_decl (type_declarations ds) w ≡ type_decl ds w
types_alone [] w = refl
types_alone (NData n ps cs ∷ ds) w = ap (λ o. if bytes_eq n w then Some (NData n ps cs) else o) (types_alone ds w)
types_alone (NNew n ps t con ∷ ds) w = ap (λ o. if bytes_eq n w then Some (NNew n ps t con) else o) (types_alone ds w)
types_alone (NFamily n ps k ∷ ds) w = ap (λ o. if bytes_eq n w then Some (NFamily n ps k) else o) (types_alone ds w)
types_alone (NAxiom n ps t u ∷ ds) w = types_alone ds w
types_alone (NDef n t e ∷ ds) w = types_alone ds w
types_alone (NWrap n t e ∷ ds) w = types_alone ds w

constructors_alone : (ds : List NDecl) (w : Word) → con_decl (type_declarations ds) w ≡ con_decl ds w
constructors_alone [] w = refl
constructors_alone (NData n ps cs ∷ ds) w = ap (λ o. first_of (con_among n ps 0 cs w) o) (constructors_alone ds w)
constructors_alone (NNew n ps t con ∷ ds) w = constructors_alone ds w
constructors_alone (NFamily n ps k ∷ ds) w = constructors_alone ds w
constructors_alone (NAxiom n ps t u ∷ ds) w = constructors_alone ds w
constructors_alone (NDef n t e ∷ ds) w = constructors_alone ds w
constructors_alone (NWrap n t e ∷ ds) w = constructors_alone ds w

axioms_alone : (m : Option Word) (ds : List NDecl) (w : Word) → axiom_decl m (type_declarations ds) w ≡ axiom_decl m ds w
axioms_alone m [] w = refl
axioms_alone m (NData n ps cs ∷ ds) w = axioms_alone m ds w
axioms_alone m (NNew n ps t con ∷ ds) w = rw (axioms_alone m ds w) refl
axioms_alone m (NFamily n ps k ∷ ds) w = axioms_alone m ds w
axioms_alone m (NAxiom n ps t u ∷ ds) w = rw (axioms_alone m ds w) refl
axioms_alone m (NDef n t e ∷ ds) w = axioms_alone m ds w
axioms_alone m (NWrap n t e ∷ ds) w = axioms_alone m ds w

module _ (ds es : List NDecl) (same : type_declarations ds ≡ type_declarations es) where
  pub same_types : (w : Word) → type_decl ds w ≡ type_decl es w
  same_types w = sym (types_alone ds w) ∙ ap (λ xs. type_decl xs w) same ∙ types_alone es w

  pub same_constructors : (w : Word) → con_decl ds w ≡ con_decl es w
  same_constructors w = sym (constructors_alone ds w) ∙ ap (λ xs. con_decl xs w) same ∙ constructors_alone es w

  pub same_axioms : (m : Option Word) (w : Word) → axiom_decl m ds w ≡ axiom_decl m es w
  same_axioms m w = sym (axioms_alone m ds w) ∙ ap (λ xs. axiom_decl m xs w) same ∙ axioms_alone m es w

-- REPLAYS

righted_declare : {R : NExpr → NExpr → Type 0} {ds es : List NDecl} → Righted R ds es → type_declarations es ≡ type_declarations ds
righted_declare (righted_def r) = refl
righted_declare (righted_wrap r) = refl
righted_declare (righted_later {d = NData n ps cs} r) = ap (λ xs. NData n ps cs ∷ xs) (righted_declare r)
righted_declare (righted_later {d = NNew n ps t con} r) = ap (λ xs. NNew n ps t con ∷ xs) (righted_declare r)
righted_declare (righted_later {d = NFamily n ps k} r) = ap (λ xs. NFamily n ps k ∷ xs) (righted_declare r)
righted_declare (righted_later {d = NAxiom n ps t u} r) = ap (λ xs. NAxiom n ps t u ∷ xs) (righted_declare r)
righted_declare (righted_later {d = NDef n t e} r) = righted_declare r
righted_declare (righted_later {d = NWrap n t e} r) = righted_declare r

-- a definition that stays or goes declares no type
unseen : (d : NDecl) (b : Bool) (ds es : List NDecl) → type_declarations (d ∷ ds) ≡ es → type_declarations ds ≡ es → type_declarations (if b then d ∷ ds else ds) ≡ es
unseen d true ds es p q = p
unseen d false ds es p q = q

left_declare : (keep : Word → Bool) (ds : List NDecl) → type_declarations (without_definitions keep ds) ≡ type_declarations ds
left_declare keep [] = refl
left_declare keep (NDef n t e ∷ ds) = unseen (NDef n t e) (keep n) (without_definitions keep ds) (type_declarations ds) (left_declare keep ds) (left_declare keep ds)
left_declare keep (NWrap n t e ∷ ds) = unseen (NWrap n t e) (keep n) (without_definitions keep ds) (type_declarations ds) (left_declare keep ds) (left_declare keep ds)
left_declare keep (NData n ps cs ∷ ds) = ap (λ xs. NData n ps cs ∷ xs) (left_declare keep ds)
left_declare keep (NNew n ps t con ∷ ds) = ap (λ xs. NNew n ps t con ∷ xs) (left_declare keep ds)
left_declare keep (NFamily n ps k ∷ ds) = ap (λ xs. NFamily n ps k ∷ xs) (left_declare keep ds)
left_declare keep (NAxiom n ps t u ∷ ds) = ap (λ xs. NAxiom n ps t u ∷ xs) (left_declare keep ds)

-- the second has the declarations of types of the first
abbrev DeclaresTypes : NModule → NModule → Type 0
DeclaresTypes n k = type_declarations (ndecls_in k) ≡ type_declarations (ndecls_in n)

row_declares : (xs : List NModule) (r : Row) (w : Word) (p : List ℕ) (n k : NModule) → rewritten xs r w p n ≡ Some k → DeclaresTypes n k
row_declares xs r w p (NModuleOf m imports exports hidden ds) k h =
    let n = NModuleOf m imports exports hidden ds in
    let row = row_result (decls_at (n ∷ xs)) r in
    let q = from_some_inv (λ q. changed_module (row q.1) as_they_are xs w q.0 n) (looked_at r p) k h in
    let c = made_inv (λ cs. NModuleOf m imports exports hidden cs) (changed_decls (row q.0.1) as_they_are (outside (decls_at (n ∷ xs))) w q.0.0 ds) k q.2 in
    ap (λ x. type_declarations (ndecls_in x)) (sym c.2) ∙ righted_declare (decls_changed (row q.0.1) as_they_are (outside (decls_at (n ∷ xs))) w q.0.0 ds c.0 c.1)

left_module_declares : (keep : Word → Bool) (n k : NModule) → k ≡ with_needed keep n → DeclaresTypes n k
left_module_declares keep (NModuleOf m imports exports hidden ds) k h = ap (λ x. type_declarations (ndecls_in x)) h ∙ left_declare keep ds

step_declares : {xs : List NModule} {s : Step} {n k : NModule} → Rewrites xs s n k → DeclaresTypes n k
step_declares {xs = xs} {n = n} {k = k} (at_a_place r w p h within) = row_declares xs r w p n k h
step_declares {n = n} {k = k} (of_the_module drops) = left_module_declares drops.keep n k drops.left

pub replay_declares : {xs : List NModule} {es : List Entry} {n k : NModule} → Replays xs es n k → type_declarations (ndecls_in k) ≡ type_declarations (ndecls_in n)
replay_declares at_end = refl
replay_declares (past_mark p rest) = replay_declares rest
replay_declares (past_step s step rest) = replay_declares rest ∙ step_declares step

-- TELLING

-- what sees of a definition only its word and its type sees of what is told what it saw before
module _ {X : Type 0} (f : List NDecl → X) (behind : (d : NDecl) (ds es : List NDecl) → f ds ≡ f es → f (d ∷ ds) ≡ f (d ∷ es))
    (def : (n : Word) (t : NTy) (e : NExpr) (ds : List NDecl) → f (NDef n t (NFail t) ∷ ds) ≡ f (NDef n t e ∷ ds))
    (wrap : (n : Word) (t : NTy) (e : NExpr) (ds : List NDecl) → f (NDef n t (NFail t) ∷ ds) ≡ f (NWrap n t e ∷ ds)) where
  told_same : (bs : List Bool) (ds : List NDecl) → f (told_declarations bs ds) ≡ f ds
  told_same bs [] = refl
  told_same bs (NData n ps cs ∷ ds) = behind (NData n ps cs) (told_declarations bs ds) ds (told_same bs ds)
  told_same bs (NNew n ps t con ∷ ds) = behind (NNew n ps t con) (told_declarations bs ds) ds (told_same bs ds)
  told_same bs (NFamily n ps k ∷ ds) = behind (NFamily n ps k) (told_declarations bs ds) ds (told_same bs ds)
  told_same bs (NAxiom n ps t u ∷ ds) = behind (NAxiom n ps t u) (told_declarations bs ds) ds (told_same bs ds)
  told_same [] (NDef n t e ∷ ds) = behind (NDef n t (NFail t)) (told_declarations [] ds) ds (told_same [] ds) ∙ def n t e ds
  told_same [] (NWrap n t e ∷ ds) = behind (NDef n t (NFail t)) (told_declarations [] ds) ds (told_same [] ds) ∙ wrap n t e ds
  told_same (true ∷ bs) (NDef n t e ∷ ds) = behind (NDef n t e) (told_declarations bs ds) ds (told_same bs ds)
  told_same (true ∷ bs) (NWrap n t e ∷ ds) = behind (NWrap n t e) (told_declarations bs ds) ds (told_same bs ds)
  told_same (false ∷ bs) (NDef n t e ∷ ds) = behind (NDef n t (NFail t)) (told_declarations bs ds) ds (told_same bs ds) ∙ def n t e ds
  told_same (false ∷ bs) (NWrap n t e ∷ ds) = behind (NDef n t (NFail t)) (told_declarations bs ds) ds (told_same bs ds) ∙ wrap n t e ds

types_behind : (d : NDecl) (ds es : List NDecl) → type_declarations ds ≡ type_declarations es → type_declarations (d ∷ ds) ≡ type_declarations (d ∷ es)
types_behind (NData n ps cs) ds es h = ap (λ xs. NData n ps cs ∷ xs) h
types_behind (NNew n ps t con) ds es h = ap (λ xs. NNew n ps t con ∷ xs) h
types_behind (NFamily n ps k) ds es h = ap (λ xs. NFamily n ps k ∷ xs) h
types_behind (NAxiom n ps t u) ds es h = ap (λ xs. NAxiom n ps t u ∷ xs) h
types_behind (NDef n t e) ds es h = h
types_behind (NWrap n t e) ds es h = h

definitions_behind : (w : Word) (d : NDecl) (ds es : List NDecl) → def_type ds w ≡ def_type es w → def_type (d ∷ ds) w ≡ def_type (d ∷ es) w
definitions_behind w (NData n ps cs) ds es h = h
definitions_behind w (NNew n ps t con) ds es h = h
definitions_behind w (NFamily n ps k) ds es h = h
definitions_behind w (NAxiom n ps t u) ds es h = h
definitions_behind w (NDef n t e) ds es h = rw h refl
definitions_behind w (NWrap n t e) ds es h = rw h refl

words_behind : (d : NDecl) (ds es : List NDecl) → defined_words ds ≡ defined_words es → defined_words (d ∷ ds) ≡ defined_words (d ∷ es)
words_behind (NData n ps cs) ds es h = h
words_behind (NNew n ps t con) ds es h = h
words_behind (NFamily n ps k) ds es h = h
words_behind (NAxiom n ps t u) ds es h = h
words_behind (NDef n t e) ds es h = ap (λ ws. n ∷ ws) h
words_behind (NWrap n t e) ds es h = ap (λ ws. n ∷ ws) h

pub told_types : (bs : List Bool) (ds : List NDecl) → type_declarations (told_declarations bs ds) ≡ type_declarations ds
told_types bs ds = told_same type_declarations types_behind (λ n t e es. refl) (λ n t e es. refl) bs ds

pub told_definitions : (bs : List Bool) (ds : List NDecl) (w : Word) → def_type (told_declarations bs ds) w ≡ def_type ds w
told_definitions bs ds w = told_same (λ es. def_type es w) (definitions_behind w) (λ n t e es. refl) (λ n t e es. refl) bs ds

pub told_defined_words : (bs : List Bool) (ds : List NDecl) → defined_words (told_declarations bs ds) ≡ defined_words ds
told_defined_words bs ds = told_same defined_words words_behind (λ n t e es. refl) (λ n t e es. refl) bs ds

pub told_declared_words : (bs : List Bool) (ds : List NDecl) → ndeclared_words (told_declarations bs ds) ≡ ndeclared_words ds
told_declared_words bs ds = told_same ndeclared_words (λ d cs es h. ap (λ ws. ndecl_words d ++ ws) h) (λ n t e es. refl) (λ n t e es. refl) bs ds

pub told_type_words : (bs : List Bool) (ds : List NDecl) → nwords_by ntype_words (told_declarations bs ds) ≡ nwords_by ntype_words ds
told_type_words bs ds = told_same (nwords_by ntype_words) (λ d cs es h. ap (λ ws. ntype_words d ++ ws) h) (λ n t e es. refl) (λ n t e es. refl) bs ds
