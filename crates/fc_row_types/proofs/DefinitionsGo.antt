-- Definitions that nothing that stays mentions go, and Lint is kept.
use Rattle.std.proofs.Common.{◌≡◌, All, Bool, true, false, if◌then◌else◌, List, [], ◌∷◌, ◌++◌, Option, Some, None, Ok, refl, sym, ap, ◌∙◌, subst}
use Rattle.std.proofs.lemmas.Bool.{and_parts}
use Rattle.std.proofs.lemmas.List.Elements.{All-cons, All-head, All-tail}
use Rattle.std.specs.List.{list_all}
use Rattle.std.specs.Str.{bytes_eq}
use Rattle.fc_syntax.specs.declared.ty.Name.{Name}
use Rattle.fc_syntax.specs.Tree.{Word}
use Rattle.fc_model.specs.Calling.{con_decl}
use Rattle.fc_model.specs.Coercing.{axiom_decl}
use Rattle.fc_model.specs.Declaring.{ndecl_words, ndeclared_words, ntype_words, nwords_by}
use Rattle.fc_model.specs.Kinding.{Modules, decls_at, decls_of_module, type_decl}
use Rattle.fc_model.specs.LintingRules.{DefinitionsHold, one_definition, ModuleHolds, module_holds, TypeDeclsHold, one_type_decl}
use Rattle.fc_model.specs.Nameless.{NTy, NDecl, NData, NNew, NFamily, NAxiom, NDef, NWrap, NModule, NModuleOf}
use Rattle.fc_model.specs.Resolution.{WordSet, no_word, plus, plus_all}
use Rattle.fc_model.specs.ResolutionRules.{AreDistinct}
use Rattle.fc_model.specs.Typing.{def_type}
use Rattle.fc_model.specs.TypingLaws.{HasDistinctTypes}
use Rattle.fc_model.proofs.UnderHeader.{both}
use Rattle.fc_model.proofs.Sameness.{bytes_eq_eq, bytes_eq_refl, false_true}
use Rattle.fc_row_types.specs.DefinitionsDropped.{DroppedDefinitionsKeepLint, StaysClosed, mention_kept, stay_closed}
use Rattle.fc_row_types.specs.LintKept.{LintsWith}
use Rattle.fc_model.specs.Headers.{ndecls_in}
use Rattle.fc_reaching.specs.Reaching.{names_in}
use Rattle.fc_rows.specs.Rewriting.{without_definitions}
use Rattle.fc_outlines.specs.Headers.{DeclareAlike}
use Rattle.fc_outlines.proofs.Alike.{first_among, later_among, HaveTypes}
use Rattle.fc_row_types.proofs.DeclarationsAlike.{MentionAlike, MentionsAlike, none_mention, one_mentions, definitions_hold_alike, type_decls_hold_alike}
use Rattle.fc_rows.specs.Dropping.{is_kept}

module _ (keep : Word → Bool) where
  -- what does not look at definitions
  unseen : {X : Type 0} (f : List NDecl → X) (d : NDecl) (b : Bool) (ds : List NDecl) (x : X) → f (d ∷ ds) ≡ x → f ds ≡ x → f (if b then d ∷ ds else ds) ≡ x
  unseen f d true ds x p q = p
  unseen f d false ds x p q = q

  types_stay : (ds : List NDecl) (w : Word) → type_decl (without_definitions keep ds) w ≡ type_decl ds w
  types_stay [] w = refl
  types_stay (NDef n t e ∷ ds) w = unseen (λ c. type_decl c w) (NDef n t e) (keep n) (without_definitions keep ds) (type_decl ds w) (types_stay ds w) (types_stay ds w)
  types_stay (NWrap n t e ∷ ds) w = unseen (λ c. type_decl c w) (NWrap n t e) (keep n) (without_definitions keep ds) (type_decl ds w) (types_stay ds w) (types_stay ds w)
  types_stay (NData n ps cs ∷ ds) w = rw (types_stay ds w) refl
  types_stay (NNew n ps t con ∷ ds) w = rw (types_stay ds w) refl
  types_stay (NFamily n ps k ∷ ds) w = rw (types_stay ds w) refl
  types_stay (NAxiom n ps t u ∷ ds) w = types_stay ds w

  constructors_stay : (ds : List NDecl) (w : Word) → con_decl (without_definitions keep ds) w ≡ con_decl ds w
  constructors_stay [] w = refl
  constructors_stay (NDef n t e ∷ ds) w = unseen (λ c. con_decl c w) (NDef n t e) (keep n) (without_definitions keep ds) (con_decl ds w) (constructors_stay ds w) (constructors_stay ds w)
  constructors_stay (NWrap n t e ∷ ds) w = unseen (λ c. con_decl c w) (NWrap n t e) (keep n) (without_definitions keep ds) (con_decl ds w) (constructors_stay ds w) (constructors_stay ds w)
  constructors_stay (NData n ps cs ∷ ds) w = rw (constructors_stay ds w) refl
  constructors_stay (NNew n ps t con ∷ ds) w = constructors_stay ds w
  constructors_stay (NFamily n ps k ∷ ds) w = constructors_stay ds w
  constructors_stay (NAxiom n ps t u ∷ ds) w = constructors_stay ds w

  axioms_stay : (ds : List NDecl) (m : Option Word) (w : Word) → axiom_decl m (without_definitions keep ds) w ≡ axiom_decl m ds w
  axioms_stay [] m w = refl
  axioms_stay (NDef n t e ∷ ds) m w = unseen (λ c. axiom_decl m c w) (NDef n t e) (keep n) (without_definitions keep ds) (axiom_decl m ds w) (axioms_stay ds m w) (axioms_stay ds m w)
  axioms_stay (NWrap n t e ∷ ds) m w = unseen (λ c. axiom_decl m c w) (NWrap n t e) (keep n) (without_definitions keep ds) (axiom_decl m ds w) (axioms_stay ds m w) (axioms_stay ds m w)
  axioms_stay (NData n ps cs ∷ ds) m w = axioms_stay ds m w
  axioms_stay (NNew n ps t con ∷ ds) m w = rw (axioms_stay ds m w) refl
  axioms_stay (NFamily n ps k ∷ ds) m w = axioms_stay ds m w
  axioms_stay (NAxiom n ps t u ∷ ds) m w = rw (axioms_stay ds m w) refl

  words_stay : (ds : List NDecl) → nwords_by ntype_words (without_definitions keep ds) ≡ nwords_by ntype_words ds
  words_stay [] = refl
  words_stay (NDef n t e ∷ ds) = unseen (nwords_by ntype_words) (NDef n t e) (keep n) (without_definitions keep ds) (nwords_by ntype_words ds) (words_stay ds) (words_stay ds)
  words_stay (NWrap n t e ∷ ds) = unseen (nwords_by ntype_words) (NWrap n t e) (keep n) (without_definitions keep ds) (nwords_by ntype_words ds) (words_stay ds) (words_stay ds)
  words_stay (NData n ps cs ∷ ds) = ap (λ ws. n ∷ ws) (words_stay ds)
  words_stay (NNew n ps t con ∷ ds) = ap (λ ws. n ∷ ws) (words_stay ds)
  words_stay (NFamily n ps k ∷ ds) = ap (λ ws. n ∷ ws) (words_stay ds)
  words_stay (NAxiom n ps t u ∷ ds) = words_stay ds

  -- a word that stays is not one that goes
  other_word : (n w : Word) → keep w ≡ true → keep n ≡ false → bytes_eq n w ≡ false
  other_word n w stays goes = tested (bytes_eq n w) refl
    where
      tested : (b : Bool) → bytes_eq n w ≡ b → b ≡ false
      tested true e = false_true (sym goes ∙ ap keep (bytes_eq_eq n w e) ∙ stays)
      tested false e = refl

  -- a definition that stays is found
  def_stays : (n : Word) (d : NDecl) (t : NTy) (ds : List NDecl) (w : Word) → keep w ≡ true → ((v : Word) (es : List NDecl) → def_type (d ∷ es) v ≡ (if bytes_eq n v then Ok t else def_type es v))
      → def_type (without_definitions keep ds) w ≡ def_type ds w → (b : Bool) → keep n ≡ b
      → def_type (if b then d ∷ without_definitions keep ds else without_definitions keep ds) w ≡ (if bytes_eq n w then Ok t else def_type ds w)
  def_stays n d t ds w stays def rest true e = def w (without_definitions keep ds) ∙ ap (λ r. if bytes_eq n w then Ok t else r) rest
  def_stays n d t ds w stays def rest false e = rest ∙ ap (λ b. if b then Ok t else def_type ds w) (sym (other_word n w stays e))

  pub defs_stay : (ds : List NDecl) (w : Word) → keep w ≡ true → def_type (without_definitions keep ds) w ≡ def_type ds w
  defs_stay [] w h = refl
  defs_stay (NDef n t e ∷ ds) w h = def_stays n (NDef n t e) t ds w h (λ v es. refl) (defs_stay ds w h) (keep n) refl
  defs_stay (NWrap n t e ∷ ds) w h = def_stays n (NWrap n t e) t ds w h (λ v es. refl) (defs_stay ds w h) (keep n) refl
  defs_stay (NData n ps cs ∷ ds) w h = defs_stay ds w h
  defs_stay (NNew n ps t con ∷ ds) w h = defs_stay ds w h
  defs_stay (NFamily n ps k ∷ ds) w h = defs_stay ds w h
  defs_stay (NAxiom n ps t u ∷ ds) w h = defs_stay ds w h

  -- DECLARED WORDS

  abbrev Has : WordSet → WordSet → Word → Type 0
  Has s z w = s w ≡ true → z w ≡ true

  plus_more : (n : Word) (s z : WordSet) (w : Word) → Has s z w → Has (plus n s) (plus n z) w
  plus_more n s z w h = tested (bytes_eq n w)
    where
      tested : (b : Bool) → (if b then true else s w) ≡ true → (if b then true else z w) ≡ true
      tested true q = refl
      tested false q = h q

  plus_less : (n : Word) (s z : WordSet) (w : Word) → bytes_eq n w ≡ false → Has s z w → Has (plus n s) z w
  plus_less n s z w e h q = h (subst (λ b. (if b then true else s w) ≡ true) e q)

  all_more : (ws : List Word) (s z : WordSet) (w : Word) → Has s z w → Has (plus_all ws s) (plus_all ws z) w
  all_more [] s z w h = h
  all_more (n ∷ ws) s z w h = all_more ws (plus n s) (plus n z) w (plus_more n s z w h)

  all_append : (vs ws : List Word) (s : WordSet) → plus_all (vs ++ ws) s ≡ plus_all ws (plus_all vs s)
  all_append [] ws s = refl
  all_append (v ∷ vs) ws s = all_append vs ws (plus v s)

  abbrev Rest : List NDecl → List NDecl → Word → Type 0
  Rest ds es w = (s z : WordSet) → Has s z w → Has (plus_all (ndeclared_words ds) s) (plus_all (ndeclared_words es) z) w

  -- a definition that stays, or goes and is not of this word
  one_declared : (n : Word) (d : NDecl) (ds es : List NDecl) (w : Word) → keep w ≡ true → ndecl_words d ≡ n ∷ [] → Rest ds es w → (b : Bool) → keep n ≡ b
      → Rest (d ∷ ds) (if b then d ∷ es else es) w
  one_declared n d ds es w k words rest true q s z h = rw words (rest (plus n s) (plus n z) (plus_more n s z w h))
  one_declared n d ds es w k words rest false q s z h = rw words (rest (plus n s) z (plus_less n s z w (other_word n w k q) h))

  -- any other declaration stays
  other_declared : (d : NDecl) (ds es : List NDecl) (w : Word) → Rest ds es w → Rest (d ∷ ds) (d ∷ es) w
  other_declared d ds es w rest s z h =
      rw (all_append (ndecl_words d) (ndeclared_words ds) s, all_append (ndecl_words d) (ndeclared_words es) z)
      (rest (plus_all (ndecl_words d) s) (plus_all (ndecl_words d) z) (all_more (ndecl_words d) s z w h))

  declared_stay : (ds : List NDecl) (w : Word) → keep w ≡ true → Rest ds (without_definitions keep ds) w
  declared_stay [] w k s z h = h
  declared_stay (NDef n t e ∷ ds) w k s z h = one_declared n (NDef n t e) ds (without_definitions keep ds) w k refl (declared_stay ds w k) (keep n) refl s z h
  declared_stay (NWrap n t e ∷ ds) w k s z h = one_declared n (NWrap n t e) ds (without_definitions keep ds) w k refl (declared_stay ds w k) (keep n) refl s z h
  declared_stay (NData n ps cs ∷ ds) w k s z h = other_declared (NData n ps cs) ds (without_definitions keep ds) w (declared_stay ds w k) s z h
  declared_stay (NNew n ps t con ∷ ds) w k s z h = other_declared (NNew n ps t con) ds (without_definitions keep ds) w (declared_stay ds w k) s z h
  declared_stay (NFamily n ps j ∷ ds) w k s z h = other_declared (NFamily n ps j) ds (without_definitions keep ds) w (declared_stay ds w k) s z h
  declared_stay (NAxiom n ps t u ∷ ds) w k s z h = other_declared (NAxiom n ps t u) ds (without_definitions keep ds) w (declared_stay ds w k) s z h

  listed_stay : (ds : List NDecl) (ws : List Word) → list_all keep ws ≡ true → list_all (plus_all (ndeclared_words ds) no_word) ws ≡ true
      → list_all (plus_all (ndeclared_words (without_definitions keep ds)) no_word) ws ≡ true
  listed_stay ds [] k h = refl
  listed_stay ds (w ∷ ws) k h =
      let p = and_parts (keep w) (list_all keep ws) k in
      let q = and_parts (plus_all (ndeclared_words ds) no_word w) (list_all (plus_all (ndeclared_words ds) no_word) ws) h in
      both (plus_all (ndeclared_words (without_definitions keep ds)) no_word w) (list_all (plus_all (ndeclared_words (without_definitions keep ds)) no_word) ws)
      (declared_stay ds w p.0 no_word no_word (λ x. x) q.0) (listed_stay ds ws p.1 q.1)

  -- AGAINST WHAT IS LEFT

  module _ (m : Word) (imports exports hidden : List Word) (ds : List NDecl) (xs : List NModule) where
    abbrev before : Modules
    before = decls_at (NModuleOf m imports exports hidden ds ∷ xs)

    abbrev after : Modules
    after = decls_at (NModuleOf m imports exports hidden (without_definitions keep ds) ∷ xs)

    where_same : {X : Type 0} (f : List NDecl → X) → f (without_definitions keep ds) ≡ f ds → (o : Option Word) → f (before o) ≡ f (after o)
    where_same f h None = refl
    where_same f h (Some w) = either (bytes_eq m w)
      where
        either : (b : Bool) → f (if b then ds else decls_of_module xs w) ≡ f (if b then without_definitions keep ds else decls_of_module xs w)
        either true = sym h
        either false = refl

    alike : DeclareAlike before after
    alike = record {
      types = λ o w. where_same (λ d. type_decl d w) (types_stay ds w) o;
      constructors = λ o w. where_same (λ d. con_decl d w) (constructors_stay ds w) o;
      axioms = λ o w. where_same (λ d. axiom_decl o d w) (axioms_stay ds o w) o;
    }

    -- a name that is kept has its type
    name_stays : (o : Option Word) (v : Word) → is_kept keep m (record { «module» = o; text = v }) ≡ true → (t : NTy) → def_type (before o) v ≡ Ok t → def_type (after o) v ≡ Ok t
    name_stays None v k t h = h
    name_stays (Some w) v k t h = either (bytes_eq m w) refl h
      where
        either : (b : Bool) → bytes_eq m w ≡ b → def_type (if b then ds else decls_of_module xs w) v ≡ Ok t
            → def_type (if b then without_definitions keep ds else decls_of_module xs w) v ≡ Ok t
        either true e h =
            let same : bytes_eq w m ≡ true = ap (λ x. bytes_eq x m) (sym (bytes_eq_eq m w e)) ∙ bytes_eq_refl m in
            defs_stay ds v (subst (λ b. (if b then keep v else true) ≡ true) same k) ∙ h
        either false e h = h

    names_stay : (names : List Name) → list_all (is_kept keep m) names ≡ true → HaveTypes before after alike names
    names_stay [] k n a = elim a [ ]
    names_stay (n ∷ names) k v first_among = name_stays n.module n.text (and_parts (is_kept keep m n) (list_all (is_kept keep m) names) k).0
    names_stay (n ∷ names) k v (later_among a) = names_stay names (and_parts (is_kept keep m n) (list_all (is_kept keep m) names) k).1 v a

    all_kept : (cs : List NDecl) → mention_kept keep m cs ≡ true → MentionAlike before after alike cs
    all_kept [] k = none_mention
    all_kept (NDef n t e ∷ cs) k = let p = and_parts (list_all (is_kept keep m) (names_in e)) (mention_kept keep m cs) k in one_mentions (names_stay (names_in e) p.0) (all_kept cs p.1)
    all_kept (NWrap n t e ∷ cs) k = let p = and_parts (list_all (is_kept keep m) (names_in e)) (mention_kept keep m cs) k in one_mentions (names_stay (names_in e) p.0) (all_kept cs p.1)
    all_kept (NData n ps ks ∷ cs) k = one_mentions tt (all_kept cs k)
    all_kept (NNew n ps t con ∷ cs) k = one_mentions tt (all_kept cs k)
    all_kept (NFamily n ps j ∷ cs) k = one_mentions tt (all_kept cs k)
    all_kept (NAxiom n ps t u ∷ cs) k = one_mentions tt (all_kept cs k)

    -- what stays of the module's own declarations
    one_stays : (d : NDecl) (cs : List NDecl) (x : Bool) → (b : Bool) → (if b then x else true) ≡ true → (x ≡ true → MentionsAlike before after alike d)
        → MentionAlike before after alike cs → MentionAlike before after alike (if b then d ∷ cs else cs)
    one_stays d cs x true k go more = one_mentions (go k) more
    one_stays d cs x false k go more = more

    own_kept : (cs : List NDecl) → stay_closed keep m cs ≡ true → MentionAlike before after alike (without_definitions keep cs)
    own_kept [] k = none_mention
    own_kept (NDef n t e ∷ cs) k =
        let p = and_parts (if keep n then list_all (is_kept keep m) (names_in e) else true) (stay_closed keep m cs) k in
        one_stays (NDef n t e) (without_definitions keep cs) (list_all (is_kept keep m) (names_in e)) (keep n) p.0 (names_stay (names_in e)) (own_kept cs p.1)
    own_kept (NWrap n t e ∷ cs) k =
        let p = and_parts (if keep n then list_all (is_kept keep m) (names_in e) else true) (stay_closed keep m cs) k in
        one_stays (NWrap n t e) (without_definitions keep cs) (list_all (is_kept keep m) (names_in e)) (keep n) p.0 (names_stay (names_in e)) (own_kept cs p.1)
    own_kept (NData n ps ks ∷ cs) k = one_mentions tt (own_kept cs k)
    own_kept (NNew n ps t con ∷ cs) k = one_mentions tt (own_kept cs k)
    own_kept (NFamily n ps j ∷ cs) k = one_mentions tt (own_kept cs k)
    own_kept (NAxiom n ps t u ∷ cs) k = one_mentions tt (own_kept cs k)

    -- declarations and definitions that stay hold
    some_hold : (d : NDecl) (cs : List NDecl) (b : Bool) → TypeDeclsHold before (d ∷ cs) → (TypeDeclsHold before cs → TypeDeclsHold before (without_definitions keep cs))
        → TypeDeclsHold before (if b then d ∷ without_definitions keep cs else without_definitions keep cs)
    some_hold d cs true (one_type_decl h more) go = one_type_decl h (go more)
    some_hold d cs false (one_type_decl h more) go = go more

    type_decls_stay : (cs : List NDecl) → TypeDeclsHold before cs → TypeDeclsHold before (without_definitions keep cs)
    type_decls_stay [] h = h
    type_decls_stay (NDef n t e ∷ cs) h = some_hold (NDef n t e) cs (keep n) h (type_decls_stay cs)
    type_decls_stay (NWrap n t e ∷ cs) h = some_hold (NWrap n t e) cs (keep n) h (type_decls_stay cs)
    type_decls_stay (NData n ps ks ∷ cs) h = some_hold (NData n ps ks) cs true h (type_decls_stay cs)
    type_decls_stay (NNew n ps t con ∷ cs) h = some_hold (NNew n ps t con) cs true h (type_decls_stay cs)
    type_decls_stay (NFamily n ps j ∷ cs) h = some_hold (NFamily n ps j) cs true h (type_decls_stay cs)
    type_decls_stay (NAxiom n ps t u ∷ cs) h = some_hold (NAxiom n ps t u) cs true h (type_decls_stay cs)

    some_defined : (d : NDecl) (cs : List NDecl) (b : Bool) → DefinitionsHold before (d ∷ cs) → (DefinitionsHold before cs → DefinitionsHold before (without_definitions keep cs))
        → DefinitionsHold before (if b then d ∷ without_definitions keep cs else without_definitions keep cs)
    some_defined d cs true (one_definition h more) go = one_definition h (go more)
    some_defined d cs false (one_definition h more) go = go more

    definitions_stay : (cs : List NDecl) → DefinitionsHold before cs → DefinitionsHold before (without_definitions keep cs)
    definitions_stay [] h = h
    definitions_stay (NDef n t e ∷ cs) h = some_defined (NDef n t e) cs (keep n) h (definitions_stay cs)
    definitions_stay (NWrap n t e ∷ cs) h = some_defined (NWrap n t e) cs (keep n) h (definitions_stay cs)
    definitions_stay (NData n ps ks ∷ cs) h = some_defined (NData n ps ks) cs true h (definitions_stay cs)
    definitions_stay (NNew n ps t con ∷ cs) h = some_defined (NNew n ps t con) cs true h (definitions_stay cs)
    definitions_stay (NFamily n ps j ∷ cs) h = some_defined (NFamily n ps j) cs true h (definitions_stay cs)
    definitions_stay (NAxiom n ps t u ∷ cs) h = some_defined (NAxiom n ps t u) cs true h (definitions_stay cs)

    other_alike : (x : NModule) → mention_kept keep m (ndecls_in x) ≡ true → ModuleHolds before x → ModuleHolds after x
    other_alike (NModuleOf o is es hs cs) k (module_holds e h types definitions) =
        module_holds e h (type_decls_hold_alike before after alike types) (definitions_hold_alike before after alike definitions (all_kept cs k))

    others_stay : (ns : List NModule) → All (λ x. mention_kept keep m (ndecls_in x) ≡ true) ns → All (ModuleHolds before) ns → All (ModuleHolds after) ns
    others_stay ns k hold i x l = other_alike _ (k i x l) (hold i x l)

    own_stays : StaysClosed keep xs m exports hidden ds → ModuleHolds before (NModuleOf m imports exports hidden ds)
        → ModuleHolds after (NModuleOf m imports exports hidden (without_definitions keep ds))
    own_stays stays (module_holds e h types definitions) =
        module_holds (listed_stay ds exports stays.exported e) (listed_stay ds hidden stays.hidden_words h)
        (type_decls_hold_alike before after alike (type_decls_stay ds types))
        (definitions_hold_alike before after alike (definitions_stay ds definitions) (own_kept ds stays.own))

  -- definitions go from a module that lints, where nothing that stays mentions them, and what is left lints, at the same types
  pub definitions_go : (xs : List NModule) (m : Word) (imports exports hidden : List Word) (ds : List NDecl) → LintsWith xs (NModuleOf m imports exports hidden ds)
      → StaysClosed keep xs m exports hidden ds → LintsWith xs (NModuleOf m imports exports hidden (without_definitions keep ds))
      × ((w : Word) → keep w ≡ true → def_type (without_definitions keep ds) w ≡ def_type ds w)
  definitions_go xs m imports exports hidden ds lints stays =
      let n = NModuleOf m imports exports hidden ds in
      let o = NModuleOf m imports exports hidden (without_definitions keep ds) in
      let ms = decls_at (n ∷ xs) in
      let words = subst (λ ws. AreDistinct no_word ws) (sym (words_stay ds)) (All-head HasDistinctTypes n xs lints.distinct) in (
        record {
          distinct = All-cons HasDistinctTypes o xs words (All-tail HasDistinctTypes n xs lints.distinct);
          hold = All-cons (ModuleHolds (decls_at (o ∷ xs))) o xs (own_stays m imports exports hidden ds xs stays (All-head (ModuleHolds ms) n xs lints.hold))
              (others_stay m imports exports hidden ds xs xs stays.others (All-tail (ModuleHolds ms) n xs lints.hold));
        },
        defs_stay ds,
      )

pub definitions_stay_linted : DroppedDefinitionsKeepLint
definitions_stay_linted keep xs m imports exports hidden ds lints stays = definitions_go keep xs m imports exports hidden ds lints stays
