-- Constructors, parameters and declarations that are named: one step a form.
use Rattle.std.proofs.Common.{◌≡◌, ◌<◌, ◌≤◌, ◌+◌, ◌++◌, ℕ, true, false, List, [], ◌∷◌, take, map, reverse, length, get_or, refl, sym, ap, ◌∙◌, subst}
use Rattle.std.specs.Prelude.{◌&&◌}
use Rattle.std.specs.List.{list_all}
use Rattle.std.proofs.lemmas.Bool.{and_parts}
use Rattle.std.proofs.lemmas.List.{append-nil, append_assoc, map-append, reverse-append, take_all}
use Rattle.std.proofs.lemmas.List.Folds.{list_all-append}
use Rattle.fc_syntax.specs.Hints.{param_hint, plain_hint}
use Rattle.fc_syntax.specs.declared.module.ConDecl as RustConDecl
use Rattle.fc_syntax.specs.declared.module.Decl as RustDecl
use Rattle.fc_syntax.specs.declared.ty.Ref.{Ref}
use Rattle.fc_syntax.specs.View.{con_of, cons_of, decl_of, decls_of}
use Rattle.fc_syntax.specs.declared.ty.Name.{Name}
use Rattle.fc_syntax.specs.Tree.{Word, Kind, Ty, Binder, Expr, Param, ParamOf, Plain, PlainOf, ConDecl, ConOf, Decl, DData, DNew, DFamily, DAxiom, DDef, DWrap}
use Rattle.fc_model.specs.Declaring.{coercion_words, term_words, type_words, words_by}
use Rattle.fc_model.specs.Formed.{field_binders_formed, field_coercions_formed, is_lower_word, named_words, param_formed, plain_formed}
use Rattle.fc_model.specs.Nameless.{NTy, NExpr, NParam, NConDecl, NData, NNew, NFamily, NAxiom}
use Rattle.fc_model.specs.Resolution.{Top, Locals, Words, WordSet, no_locals, no_word, no_words, plus, plus_all, with_type, in_params, behind}
use Rattle.fc_model.specs.ResolutionRules.{AreDistinct, no_words_left, one_word_more, ResolvesTys, ResolvesTy, ResolvesCons, ResolvesDecl}
use Rattle.fc_model.specs.ResolutionRules.{resolves_no_constructors, resolves_constructors, resolves_data, resolves_newtype, resolves_family, resolves_equation, resolves_def, resolves_wrap, resolves_no_decls, resolves_decls}
use Rattle.fc_model.specs.Worded.{WTy, WBinder, WConDecl, WDecl, WExpr, bare_binders, bare_con, bare_expr, bare_param, bare_plain, bare_ty, bare_tys}
use Rattle.fc_model.proofs.Sameness.{false_true}
use Rattle.fc_scope.specs.ScopeWords.{with_types}
use Rattle.fc_formed.specs.FormedTrees.{bare_words}
use Rattle.fc_used_words.specs.Scoped.{Counts, Saying, HoldsTy, HoldsCons, HoldsExpr, in_parameters, in_type, nothing_around, is_meant}
use Rattle.fc_used_words.specs.Standing.{is_found, is_found_by, more_types}
use Rattle.fc_used_words.proofs.Both.{Follows, both_cons, both_expr, both_ty}
use Rattle.fc_used_words.proofs.Collecting.{take_item}
use Rattle.fc_used_words.proofs.Keeping.{Same, below_same, beyond_near}
use Rattle.fc_naming.specs.Named.{AreLower, IsNamedTy, IsNamedTys, IsNamedExpr, IsWordFor, TakeWords, none_take, more_take, value_takes, type_takes, coercion_takes}
use Rattle.fc_naming.specs.BinderWords.{FieldWords}
use Rattle.fc_naming.specs.Declarations.{FieldsUse, IsNamedCon, con_named, IsNamedCons, HaveWords, IsNamedDecl, IsNamedDecls}
use Rattle.fc_naming.proofs.Each.{AreEach, each_more, each_none}
use Rattle.fc_naming.proofs.Groups.{distinct_end, none_within, plus_all_end, words_enter, words_resolve, words_tys}
use Rattle.fc_naming.proofs.Lower.{and_keeps, both, coercion_lower, none_lower, type_lower}
use Rattle.fc_naming.proofs.Naming.{By, found_by, found_meant, is_declared, takes_type}

-- CONSTRUCTORS

-- the types and then the coercions before the fields
coercions_formed : {top : Top} {s t : Locals} {taken more : Words} {cs : List WBinder} {bs : List Binder} → TakeWords top s taken cs bs t more → AreLower s → field_coercions_formed bare_words cs ≡ true
    → (field_coercions_formed named_words bs ≡ true) × AreLower t
coercions_formed none_take l h = (refl, l)
coercions_formed (more_take (value_takes free low p) rest) l h = false_true h
coercions_formed (more_take (type_takes free low) rest) l h = false_true h
coercions_formed (more_take (coercion_takes free low p q) rest) l h =
    let k = and_parts _ _ h in
    let r = coercions_formed rest (coercion_lower l low) k.1 in
    (both (both low (and_keeps (λ e. e) (and_keeps (p.formed l) (q.formed l)) k.0)) r.0, r.1)

binders_formed : {top : Top} {s t : Locals} {taken more : Words} {cs : List WBinder} {bs : List Binder} → TakeWords top s taken cs bs t more → AreLower s → field_binders_formed bare_words cs ≡ true
    → (field_binders_formed named_words bs ≡ true) × AreLower t
binders_formed none_take l h = (refl, l)
binders_formed (more_take (value_takes free low p) rest) l h = false_true h
binders_formed (more_take (type_takes free low) rest) l h =
    let r = binders_formed rest (type_lower l low) h in
    (both low r.0, r.1)
binders_formed (more_take (coercion_takes free low p q) rest) l h =
    let k = and_parts _ _ h in
    let r = coercions_formed rest (coercion_lower l low) k.1 in
    (both (both low (and_keeps (λ e. e) (and_keeps (p.formed l) (q.formed l)) k.0)) r.0, r.1)

con_from : {top : Top} {s t : Locals} {taken more : Words} (n : Word) {cs : List WBinder} {bs : List Binder} {ts : List WTy} {fields : List Ty} → FieldsUse top s (bare_binders cs) (bare_tys ts) taken
    → TakeWords top s taken cs bs t more → IsNamedTys top t ts fields → IsNamedCon top s (ConOf n cs ts) (ConOf n bs fields)
con_from {top = top} {s = s} {t = t} {taken = taken} {more = more} n {cs = cs} {bs = bs} {ts = ts} {fields = fields} u d p = con_named
    (λ h g. words_resolve top s t taken more cs bs d no_words (none_within taken) (u.binders h))
    (λ h g. subst (λ (z : Locals). ResolvesTys top z.types fields (bare_tys ts)) (sym (words_enter top s t taken more cs bs d))
    (p.resolves (words_tys top s t taken more cs bs d (bare_tys ts) (u.fields g))))
    (λ l h. let k = and_parts _ _ h in let j = and_parts _ _ k.1 in let r = binders_formed d l j.0 in both k.0 (both r.0 (p.formed r.1 j.1)))

pub field_words : {top : Top} {s t : Locals} {taken more : Words} {cs ds : List WBinder} {ts : List NTy} {bs : List Binder} → ds ≡ cs → FieldsUse top s (bare_binders cs) ts taken → TakeWords top s taken ds bs t more
    → FieldWords top s cs ts bs t
field_words {top = top} {s = s} {t = t} {taken = taken} {more = more} {bs = bs} e u d = record { taken = taken; more = more; uses = u; take = subst (λ (xs : List WBinder). TakeWords top s taken xs bs t more) e d }

pub named_con : {top : Top} {s t : Locals} {n m : Word} {cs : List WBinder} {bs : List Binder} {ts us : List WTy} {fields : List Ty} → FieldWords top s cs (bare_tys ts) bs t → IsNamedTys top t us fields → us ≡ ts → n ≡ m
    → IsNamedCon top s (ConOf m cs ts) (ConOf n bs fields)
named_con {top = top} {s = s} {t = t} {n = n} {cs = cs} {bs = bs} {ts = ts} {fields = fields} w p f is =
    subst (λ (v : Word). IsNamedCon top s (ConOf v cs ts) (ConOf n bs fields)) is (con_from n w.uses w.take (subst (λ (xs : List WTy). IsNamedTys top t xs fields) f p))

first_new : {earlier : WordSet} {w : Word} {ws : List Word} → AreDistinct earlier (w ∷ ws) → earlier w ≡ false
first_new (one_word_more new rest) = new

others_new : {earlier : WordSet} {w : Word} {ws : List Word} → AreDistinct earlier (w ∷ ws) → AreDistinct (plus w earlier) ws
others_new (one_word_more new rest) = rest

con_first : {top : Top} {s : Locals} {n : WConDecl} {c : ConDecl} {ns : List WConDecl} {cs : List ConDecl} → IsNamedCon top s n c → IsNamedCons top s ns cs → IsNamedCons top s (n ∷ ns) (c ∷ cs)
con_first (con_named {n = n} f g x) rest = record {
  words = ap (λ (ws : List Word). n ∷ ws) rest.words;
  resolves = λ earlier d h. resolves_constructors (first_new d) (f h.0.0 h.0.1) (g h.0.0 h.0.1) (rest.resolves (plus n earlier) (others_new d) h.1);
  formed = λ l. and_keeps (x l) (rest.formed l);
}

pub named_cons : {top : Top} {s : Locals} (items : List (RustConDecl.ConDecl ℕ)) (out : List (RustConDecl.ConDecl Word)) → AreEach (λ x y. IsNamedCon top s (con_of x) (con_of y)) items out
    → IsNamedCons top s (cons_of items) (cons_of out)
named_cons _ _ each_none = record { words = refl; resolves = λ earlier d h. resolves_no_constructors; formed = λ l h. refl }
named_cons _ _ (each_more p rest) = con_first p (named_cons _ _ rest)

-- PARAMETERS

-- parameters that are gone through, and the words that they took
pub record TookWords {I X Y : Type 0} (of : I → Y) (word : Y → Word) (bare : Y → X) (items out : List I) (names : List Word) (taken : WordSet) : Type 0 where
  pub own : HaveWords word bare (map of items) (map of out) names
  pub taken_then : taken ≡ plus_all (map word (map of out)) no_word

pub took_start : {I X Y : Type 0} (of : I → Y) (word : Y → Word) (bare : Y → X) (items out : List I) (names : List Word) (taken : WordSet) → out ≡ [] → names ≡ [] → taken ≡ no_word
    → TookWords of word bare (take 0 items) out names taken
took_start of word bare items out names taken e f g =
    subst (λ (o : List _). TookWords of word bare [] o names taken) (sym e) (record { own = record { distinct = no_words_left; same = refl; lower = refl; reversed = f }; taken_then = g })

-- one item more at the end
mapped_end : {I Y Z : Type 0} (of : I → Y) (f : Y → Z) (items longer : List I) (x : I) → longer ≡ items ++ x ∷ [] → map f (map of longer) ≡ map f (map of items) ++ f (of x) ∷ []
mapped_end of f items longer x e = ap (λ o. map f (map of o)) e ∙ ap (map f) (map-append of items (x ∷ [])) ∙ map-append f (map of items) (of x ∷ [])

pub took_step : {I X Y : Type 0} (of : I → Y) (word : Y → Word) (bare : Y → X) (items : List I) (i : ℕ) (x : I) (out longer : List I) (y : I) (names further : List Word) (mid more : WordSet)
    → i < length items → x ≡ get_or items i x → TookWords of word bare (take i items) out names mid → bare (of y) ≡ bare (of x) → IsWordFor mid (word (of x)) (word (of y)) → more ≡ plus (word (of y)) mid
    → longer ≡ out ++ y ∷ [] → further ≡ word (of y) ∷ names → TookWords of word bare (take (i + 1) items) longer further more
took_step of word bare items i x out longer y names further mid more low is a same c grown pushed added =
    let v = word (of y) in
    let one = take_item items i x low is in
    let here = mapped_end of word out longer y pushed in
    record {
      own = record {
        distinct = subst (λ (ws : List Word). AreDistinct no_word ws) (sym here) (distinct_end no_word (map word (map of out)) v a.own.distinct (ap (λ (z : WordSet). z v) (sym a.taken_then) ∙ c.free));
        same = mapped_end of bare out longer y pushed ∙ ap (λ b. map bare (map of out) ++ b ∷ []) same ∙ ap (λ bs. bs ++ bare (of x) ∷ []) a.own.same
            ∙ sym (mapped_end of bare (take i items) (take (i + 1) items) x one);
        lower = ap (list_all is_lower_word) here ∙ list_all-append is_lower_word (map word (map of out)) (v ∷ []) ∙ both a.own.lower (both c.lower refl);
        reversed = added ∙ ap (λ ns. v ∷ ns) a.own.reversed ∙ sym (ap reverse here ∙ reverse-append (map word (map of out)) (v ∷ []));
      };
      taken_then = grown ∙ ap (plus v) a.taken_then ∙ sym (ap (λ ws. plus_all ws no_word) here ∙ plus_all_end no_word (map word (map of out)) v);
    }

pub took_all : {I X Y : Type 0} (of : I → Y) (word : Y → Word) (bare : Y → X) (items : List I) (i : ℕ) (out : List I) (names : List Word) (taken : WordSet) → length items ≤ i
    → TookWords of word bare (take i items) out names taken → HaveWords word bare (map of items) (map of out) names
took_all of word bare items i out names taken h a = subst (λ (l : List _). HaveWords word bare (map of l) (map of out) names) (take_all i items h) a.own

-- the scope of the parameters
names_in : {X Y : Type 0} {word : Y → Word} {bare : Y → X} {n t : List Y} {names : List Word} → HaveWords word bare n t names → with_types names no_locals ≡ in_params (map word t)
names_in {word = word} {t = t} w = ap (λ (ns : List Word). with_types ns no_locals) w.reversed ∙ ap (λ (ts : List Word). record no_locals { types = ts }) (append-nil (reverse (map word t)))

abbrev enter_types : List Word → Locals → Locals
enter_types [] s = s
enter_types (w ∷ ws) s = enter_types ws (with_type w s)

types_entered : (ws : List Word) (s : Locals) → enter_types ws s ≡ with_types (reverse ws) s
types_entered [] s = refl
types_entered (w ∷ ws) s =
    types_entered ws (with_type w s) ∙ ap (λ (ts : List Word). record s { types = ts }) (sym (append_assoc (reverse ws) (w ∷ []) s.types)) ∙ ap (λ (ts : List Word). with_types ts s) (sym (reverse-append (w ∷ []) ws))

types_lower : (ws : List Word) {s : Locals} → AreLower s → list_all is_lower_word ws ≡ true → AreLower (enter_types ws s)
types_lower [] l h = l
types_lower (w ∷ ws) l h = let k = and_parts _ _ h in types_lower ws (type_lower l k.0) k.1

params_lower : {X Y : Type 0} {word : Y → Word} {bare : Y → X} {n t : List Y} {names : List Word} → HaveWords word bare n t names → AreLower (with_types names no_locals)
params_lower {word = word} {t = t} w =
    subst AreLower (types_entered (map word t) no_locals ∙ ap (λ (ns : List Word). with_types ns no_locals) (sym w.reversed)) (types_lower (map word t) none_lower w.lower)

params_test : (ps : List Param) → list_all (param_formed named_words) ps ≡ list_all is_lower_word (map param_hint ps)
params_test [] = refl
params_test (ParamOf a k r ∷ ps) = ap (λ b. is_lower_word a && b) (params_test ps)

plains_test : (ps : List Plain) → list_all (plain_formed named_words) ps ≡ list_all is_lower_word (map plain_hint ps)
plains_test [] = refl
plains_test (PlainOf a k ∷ ps) = ap (λ b. is_lower_word a && b) (plains_test ps)

in_parameters_type : {X : Type 0} (ps : List X) (k : Counts) → in_parameters ps (in_type k) ≡ in_type (in_parameters ps k)
in_parameters_type [] k = refl
in_parameters_type (p ∷ ps) k = in_parameters_type ps (in_type k)

-- no word of a type is taken
abbrev no_types : Words
no_types = record { types = no_word; terms = λ w. true; coercions = λ w. true }

meant_by : (top : Top) → Follows (is_meant top) (is_meant top) (is_found_by top no_types no_locals) Same
meant_by top = below_same (is_meant top) (is_meant top) (is_found_by top no_types no_locals) (record {
  type_at = λ k i a b. beyond_near _ k i a;
  value_at = λ k i a b. beyond_near _ k i a;
  join_at = λ k i a b. beyond_near _ k i a;
  coercion_at = λ k i a b. beyond_near _ k i a;
  type_name = λ n a b. is_declared top top.types top.offers.types n a;
  axiom_name = λ n a b. is_declared top top.coercions top.offers.coercions n a;
  constructor = λ n a b. is_declared top top.terms top.offers.terms n a;
  definition = λ n a b. (is_declared top top.terms top.offers.terms n a, λ own. (refl, refl));
})

-- what means something below parameters is found below their words
module _ (top : Top) (Q : Saying → Counts → Type 0) (move : (A C : Saying) (R : Counts → Counts → Type 0) → Follows A A C R → (k l : Counts) → R k l → Q A k → Q C l) where
  below_words : {X Y : Type 0} (word : Y → Word) (bare : Y → X) (ps : List Y) (ws : Words) (s : Locals) → AreDistinct ws.types (map word ps)
      → Q (is_found_by top ws s) (in_parameters (map bare ps) nothing_around) → Q (is_found top (enter_types (map word ps) s)) nothing_around
  below_words word bare [] ws s d q = move _ _ Same (found_by top ws s) nothing_around nothing_around refl q
  below_words word bare (p ∷ ps) ws s (one_word_more free rest) q =
      below_words word bare ps (more_types (word p) ws) (with_type (word p) s) rest
      (move _ _ (By in_type) (takes_type top ws s (word p) free) (in_parameters (map bare ps) (in_type nothing_around)) (in_parameters (map bare ps) nothing_around)
      (in_parameters_type (map bare ps) nothing_around) q)

  params_found : {X Y : Type 0} {word : Y → Word} {bare : Y → X} {n ps : List Y} {names : List Word} → HaveWords word bare n ps names
      → Q (is_meant top) (in_parameters (map bare n) nothing_around) → Q (is_found top (with_types names no_locals)) nothing_around
  params_found {X = X} {word = word} {bare = bare} {ps = ps} w q =
      let around = in_parameters (map bare ps) nothing_around in
      subst (λ (s : Locals). Q (is_found top s) nothing_around) (types_entered (map word ps) no_locals ∙ ap (λ (ns : List Word). with_types ns no_locals) (sym w.reversed))
      (below_words word bare ps no_types no_locals w.distinct
      (move _ _ Same (meant_by top) around around refl (subst (λ (xs : List X). Q (is_meant top) (in_parameters xs nothing_around)) (sym w.same) q)))

cons_found : (top : Top) (cs : List NConDecl) {X Y : Type 0} {word : Y → Word} {bare : Y → X} {n ps : List Y} {names : List Word} → HaveWords word bare n ps names
    → HoldsCons (is_meant top) (in_parameters (map bare n) nothing_around) cs → HoldsCons (is_found top (with_types names no_locals)) nothing_around cs
cons_found top cs w h = params_found top (λ P k. HoldsCons P k cs) (λ A C R f k l r q. both_cons A A C R f k l r cs q q) w h

ty_found : (top : Top) (t : NTy) {X Y : Type 0} {word : Y → Word} {bare : Y → X} {n ps : List Y} {names : List Word} → HaveWords word bare n ps names
    → HoldsTy (is_meant top) (in_parameters (map bare n) nothing_around) t → HoldsTy (is_found top (with_types names no_locals)) nothing_around t
ty_found top t w h = params_found top (λ P k. HoldsTy P k t) (λ A C R f k l r q. both_ty A A C R f k l r t q q) w h

-- DECLARATIONS

pub named_data : {top : Top} {n : Word} {ns ps : List Param} {names : List Word} {ncs : List WConDecl} {cs : List ConDecl} → HaveWords param_hint bare_param ns ps names
    → IsNamedCons top (with_types names no_locals) ncs cs → {d : WDecl} → d ≡ DData n ns ncs → IsNamedDecl top d (DData n ps cs)
named_data {top = top} {n = n} {ns = ns} {ps = ps} {names = names} {ncs = ncs} {cs = cs} w c is =
    subst (λ (d : WDecl). IsNamedDecl top d (DData n ps cs)) (sym is) (record {
      types = refl;
      terms = c.words;
      coercions = refl;
      resolves = λ ws a b e h. subst (λ (xs : List NParam). ResolvesDecl top ws (DData n ps cs) (NData n xs (map bare_con ncs))) w.same (resolves_data (first_new a) w.distinct
          (subst (λ (s : Locals). ResolvesCons top s ws.terms cs (map bare_con ncs)) (names_in w) (c.resolves ws.terms b (cons_found top (map bare_con ncs) w h))));
      formed = λ h.
          let k = and_parts _ _ h in
          let j = and_parts _ _ k.1 in
          both k.0 (both (params_test ps ∙ w.lower) (c.formed (params_lower w) j.1));
    })

pub named_newtype : {top : Top} {n con : Word} {ns ps : List Param} {names : List Word} {a : WTy} {t : Ty} → HaveWords param_hint bare_param ns ps names
    → IsNamedTy top (with_types names no_locals) a t → {d : WDecl} → d ≡ DNew n ns a con → IsNamedDecl top d (DNew n ps t con)
named_newtype {top = top} {n = n} {con = con} {ns = ns} {ps = ps} {names = names} {a = a} {t = t} w p is =
    subst (λ (d : WDecl). IsNamedDecl top d (DNew n ps t con)) (sym is) (record {
      types = refl;
      terms = refl;
      coercions = refl;
      resolves = λ ws x b e h. subst (λ (xs : List NParam). ResolvesDecl top ws (DNew n ps t con) (NNew n xs (bare_ty a) con)) w.same (resolves_newtype (first_new x) w.distinct
          (subst (λ (s : Locals). ResolvesTy top s.types t (bare_ty a)) (names_in w) (p.resolves (ty_found top (bare_ty a) w h))) (first_new e));
      formed = λ h.
          let k = and_parts _ _ h in
          let j = and_parts _ _ k.1 in
          both k.0 (both (params_test ps ∙ w.lower) (p.formed (params_lower w) j.1));
    })

pub named_family : {top : Top} {n : Word} {ns ps : List Plain} {names : List Word} {k : Kind} → HaveWords plain_hint bare_plain ns ps names
    → {d : WDecl} → d ≡ DFamily n ns k → IsNamedDecl top d (DFamily n ps k)
named_family {top = top} {n = n} {ns = ns} {ps = ps} {k = k} w is =
    subst (λ (d : WDecl). IsNamedDecl top d (DFamily n ps k)) (sym is) (record {
      types = refl;
      terms = refl;
      coercions = refl;
      resolves = λ ws x b e h. subst (λ (xs : List Kind). ResolvesDecl top ws (DFamily n ps k) (NFamily n xs k)) w.same (resolves_family (first_new x) w.distinct);
      formed = and_keeps (λ h. h) (λ h. plains_test ps ∙ w.lower);
    })

pub named_equation : {top : Top} {n : Word} {ns ps : List Plain} {names : List Word} {a b : WTy} {t u : Ty} → HaveWords plain_hint bare_plain ns ps names
    → IsNamedTy top (with_types names no_locals) a t → IsNamedTy top (with_types names no_locals) b u → {d : WDecl} → d ≡ DAxiom n ns a b → IsNamedDecl top d (DAxiom n ps t u)
named_equation {top = top} {n = n} {ns = ns} {ps = ps} {names = names} {a = a} {b = b} {t = t} {u = u} w p q is =
    subst (λ (d : WDecl). IsNamedDecl top d (DAxiom n ps t u)) (sym is) (record {
      types = refl;
      terms = refl;
      coercions = refl;
      resolves = λ ws x y e h. subst (λ (xs : List Kind). ResolvesDecl top ws (DAxiom n ps t u) (NAxiom n xs (bare_ty a) (bare_ty b))) w.same (resolves_equation (first_new e) w.distinct
          (subst (λ (s : Locals). ResolvesTy top s.types t (bare_ty a)) (names_in w) (p.resolves (ty_found top (bare_ty a) w h.0)))
          (subst (λ (s : Locals). ResolvesTy top s.types u (bare_ty b)) (names_in w) (q.resolves (ty_found top (bare_ty b) w h.1))));
      formed = λ h.
          let k = and_parts _ _ h in
          let j = and_parts _ _ k.1 in
          let l = params_lower w in
          both k.0 (both (plains_test ps ∙ w.lower) (and_keeps (p.formed l) (q.formed l) j.1));
    })

ty_meant : (top : Top) (t : NTy) → HoldsTy (is_meant top) nothing_around t → HoldsTy (is_found top no_locals) nothing_around t
ty_meant top t h = both_ty _ _ _ _ (found_meant top) nothing_around nothing_around refl t h h

expr_meant : (top : Top) (e : NExpr) → HoldsExpr (is_meant top) nothing_around e → HoldsExpr (is_found top no_locals) nothing_around e
expr_meant top e h = both_expr _ _ _ _ (found_meant top) nothing_around nothing_around refl e h h

pub named_def : {top : Top} {n : Word} {a : WTy} {t : Ty} {e : WExpr} {f : Expr} → IsNamedTy top no_locals a t → IsNamedExpr top no_locals e f → {d : WDecl} → d ≡ DDef n a e → IsNamedDecl top d (DDef n t f)
named_def {top = top} {n = n} {a = a} {t = t} {e = e} {f = f} p q is = subst (λ (d : WDecl). IsNamedDecl top d (DDef n t f)) (sym is) (record {
  types = refl;
  terms = refl;
  coercions = refl;
  resolves = λ ws x y z h. resolves_def (first_new y) (p.resolves (ty_meant top (bare_ty a) h.0)) (q.resolves (expr_meant top (bare_expr e) h.1));
  formed = and_keeps (λ h. h) (and_keeps (p.formed none_lower) (q.formed none_lower));
})

pub named_wrap : {top : Top} {n : Word} {a : WTy} {t : Ty} {e : WExpr} {f : Expr} → IsNamedTy top no_locals a t → IsNamedExpr top no_locals e f → {d : WDecl} → d ≡ DWrap n a e → IsNamedDecl top d (DWrap n t f)
named_wrap {top = top} {n = n} {a = a} {t = t} {e = e} {f = f} p q is = subst (λ (d : WDecl). IsNamedDecl top d (DWrap n t f)) (sym is) (record {
  types = refl;
  terms = refl;
  coercions = refl;
  resolves = λ ws x y z h. resolves_wrap (first_new y) (p.resolves (ty_meant top (bare_ty a) h.0)) (q.resolves (expr_meant top (bare_expr e) h.1));
  formed = and_keeps (λ h. h) (and_keeps (p.formed none_lower) (q.formed none_lower));
})

-- SOME DECLARATIONS

first_distinct : (earlier : WordSet) (vs ws : List Word) → AreDistinct earlier (vs ++ ws) → AreDistinct earlier vs
first_distinct earlier [] ws d = no_words_left
first_distinct earlier (v ∷ vs) ws (one_word_more new rest) = one_word_more new (first_distinct (plus v earlier) vs ws rest)

rest_distinct : (earlier : WordSet) (vs ws : List Word) → AreDistinct earlier (vs ++ ws) → AreDistinct (plus_all vs earlier) ws
rest_distinct earlier [] ws d = d
rest_distinct earlier (v ∷ vs) ws (one_word_more new rest) = rest_distinct (plus v earlier) vs ws rest

joined : {vs us ws xs : List Word} → vs ≡ us → ws ≡ xs → vs ++ ws ≡ us ++ xs
joined {us = us} {ws = ws} e f = ap (λ (zs : List Word). zs ++ ws) e ∙ ap (λ (zs : List Word). us ++ zs) f

decl_first : {top : Top} {n : WDecl} {d : Decl} {ns : List WDecl} {ds : List Decl} → IsNamedDecl top n d → IsNamedDecls top ns ds → IsNamedDecls top (n ∷ ns) (d ∷ ds)
decl_first {d = d} {ds = ds} p rest = record {
  types = joined p.types rest.types;
  terms = joined p.terms rest.terms;
  coercions = joined p.coercions rest.coercions;
  resolves = λ ws a b c h. resolves_decls
      (p.resolves ws (first_distinct _ (type_words d) (words_by type_words ds) a) (first_distinct _ (term_words d) (words_by term_words ds) b)
      (first_distinct _ (coercion_words d) (words_by coercion_words ds) c) h.0)
      (rest.resolves (behind d ws) (rest_distinct _ (type_words d) (words_by type_words ds) a) (rest_distinct _ (term_words d) (words_by term_words ds) b)
      (rest_distinct _ (coercion_words d) (words_by coercion_words ds) c) h.1);
  formed = and_keeps p.formed rest.formed;
}

pub named_decls : {top : Top} (items : List (RustDecl.Decl ℕ Ref)) (out : List (RustDecl.Decl Word Name)) → AreEach (λ x y. IsNamedDecl top (decl_of x) (decl_of y)) items out
    → IsNamedDecls top (decls_of items) (decls_of out)
named_decls _ _ each_none = record { types = refl; terms = refl; coercions = refl; resolves = λ ws a b c h. resolves_no_decls; formed = λ h. refl }
named_decls _ _ (each_more p rest) = decl_first p (named_decls _ _ rest)
