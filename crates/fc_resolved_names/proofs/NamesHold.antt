-- What is said of each name that is found holds of the names of declarations that resolve.
use Rattle.std.proofs.Common.{◌≡◌, ℕ, suc, ◌+◌, arith, length, List, [], ◌∷◌, map, reverse, Some, None, Ok, refl, ◌∙◌, subst}
use Rattle.std.proofs.lemmas.List.{length-map, length-reverse}
use Rattle.fc_syntax.specs.Hints.{param_hint, plain_hint}
use Rattle.fc_syntax.specs.declared.ty.Name.{Name}
use Rattle.fc_syntax.specs.Tree.{Word, Ty, ConDecl, Decl}
use Rattle.fc_model.specs.Nameless.{NTy, NConDecl, NDecl}
use Rattle.fc_model.specs.Resolution.{Locals, Top, WordSet, Words, declared_name, enter_all, in_params, index_of, no_locals}
use Rattle.fc_model.specs.ResolutionRules.{ResolvesTys, resolves_no_types, resolves_types}
use Rattle.fc_model.specs.ResolutionRules.{ResolvesCons, resolves_no_constructors, resolves_constructors}
use Rattle.fc_model.specs.ResolutionRules.{ResolvesDecl, resolves_data, resolves_newtype, resolves_family, resolves_equation, resolves_def, resolves_wrap, ResolvesDecls, resolves_no_decls, resolves_decls}
use Rattle.fc_model.specs.Worded.{bare_param, bare_plain}
use Rattle.fc_used_words.specs.Scoped.{Counts, in_binders, in_parameters, in_type, nothing_around, Saying, HoldsTys, HoldsCons, HoldsDecl, HoldsDecls}
use Rattle.fc_resolved_names.proofs.Obeying.{AreSaid, Goes, Reaches, binders_obey, expr_obeys, found_below, in_all_binders, ty_obeys}

-- it is said of the definitions of the module itself
abbrev pub IsSaidOfOwn : Top → Saying → Type 0
IsSaidOfOwn top P = (w : Word) (m : Name) → declared_name top top.terms top.offers.terms None w ≡ Ok m → P.definition m

module _ (top : Top) (P : Saying) (goes : Goes P) (said : AreSaid top P) (own : IsSaidOfOwn top P) where
  -- PARAMETERS

  -- a type in scope is found below as many binders
  type_found : (vs : List Word) (w : Word) (i : ℕ) → index_of vs w ≡ Some i → P.type_at (length vs) i
  type_found [] w i h = absurd cc
  type_found (v ∷ vs) w i h = found_below (λ j. P.type_at (suc (length vs)) j) v w vs i (goes.type_here (length vs)) (λ j g. goes.type_past (length vs) j (type_found vs w j g)) h

  -- parameters are types in scope, the last of them the innermost
  parameters_in : {X : Type 0} (xs : List X) (k : Counts) → (in_parameters xs k).types ≡ length xs + k.types
  parameters_in [] k = omega arith
  parameters_in (x ∷ xs) k = parameters_in xs (in_type k) ∙ omega arith

  parameters_around : {X : Type 0} (xs : List X) (k : Counts) → in_parameters xs k ≡ record k { types = (in_parameters xs k).types }
  parameters_around [] k = refl
  parameters_around (x ∷ xs) k = parameters_around xs (in_type k)

  in_parameters_reach : {X Y : Type 0} (word : X → Word) (bare : X → Y) (ps : List X) → Reaches top P (in_params (map word ps)) (in_parameters (map bare ps) nothing_around)
  in_parameters_reach word bare ps =
      let many : length (reverse (map word ps)) ≡ (in_parameters (map bare ps) nothing_around).types =
      omega (arith, length-reverse (map word ps), length-map ps word, length-map ps bare, parameters_in (map bare ps) nothing_around) in
      record {
        types = λ w i h. subst (λ n. P.type_at n i) many (type_found (reverse (map word ps)) w i h);
        values = λ w i h. absurd cc;
        joins = λ w i h. absurd cc;
        coercions = λ w i h. absurd cc;
        definitions = λ w m nowhere h. own w m h;
      }

  nothing_reach : Reaches top P no_locals nothing_around
  nothing_reach = record { types = λ w i h. absurd cc; values = λ w i h. absurd cc; joins = λ w i h. absurd cc; coercions = λ w i h. absurd cc; definitions = λ w m nowhere h. own w m h }

  -- DECLARATIONS

  tys_obey : (k : Counts) (s : Locals) {ts : List Ty} {us : List NTy} → Reaches top P s k → ResolvesTys top s.types ts us → HoldsTys P k us
  tys_obey k s r resolves_no_types = tt
  tys_obey k s r (resolves_types t ts) = (ty_obeys goes said t s k refl r, tys_obey k s r ts)

  constructors_obey : (k : Counts) {s : Locals} {earlier : WordSet} {cs : List ConDecl} {ds : List NConDecl} → Reaches top P s k → ResolvesCons top s earlier cs ds → HoldsCons P k ds
  constructors_obey k r resolves_no_constructors = tt
  constructors_obey k {s = s} r (resolves_constructors {bs = bs} {cs = cs} new binders ts rest) =
      ((binders_obey goes said binders k r, tys_obey (in_binders cs k) (enter_all bs s) (in_all_binders goes said binders k r) ts), constructors_obey k r rest)

  decl_obeys : {ws : Words} {d : Decl} {c : NDecl} → ResolvesDecl top ws d c → HoldsDecl P c
  decl_obeys (resolves_data {ps = ps} new distinct cs) = constructors_obey (in_parameters (map bare_param ps) nothing_around) (in_parameters_reach param_hint bare_param ps) cs
  decl_obeys (resolves_newtype {ps = ps} new distinct t con) =
      ty_obeys goes said t (in_params (map param_hint ps)) (in_parameters (map bare_param ps) nothing_around) refl (in_parameters_reach param_hint bare_param ps)
  decl_obeys (resolves_family new distinct) = tt
  decl_obeys (resolves_equation {ps = ps} new distinct t u) =
      let s = in_params (map plain_hint ps) in
      let k = in_parameters (map bare_plain ps) nothing_around in
      let r = in_parameters_reach plain_hint bare_plain ps in
      (ty_obeys goes said t s k refl r, ty_obeys goes said u s k refl r)
  decl_obeys (resolves_def new t e) = (ty_obeys goes said t no_locals nothing_around refl nothing_reach, expr_obeys goes said e nothing_around nothing_reach)
  decl_obeys (resolves_wrap new t e) = (ty_obeys goes said t no_locals nothing_around refl nothing_reach, expr_obeys goes said e nothing_around nothing_reach)

  pub names_hold : {ws : Words} {ds : List Decl} {cs : List NDecl} → ResolvesDecls top ws ds cs → HoldsDecls P cs
  names_hold resolves_no_decls = tt
  names_hold (resolves_decls d rest) = (decl_obeys d, names_hold rest)
