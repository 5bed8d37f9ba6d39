-- The definitions of a module that are needed mention no definition of it that is not.
use Rattle.std.proofs.Common.{◌≡◌, ◌↔◌, Bool, true, false, ◌&&◌, if◌then◌else◌, List, [], ◌∷◌, Option, Some, Ok, refl, sym, subst}
use Rattle.std.proofs.lemmas.Bool.{and_from, and_parts, or_left, or_right}
use Rattle.std.proofs.lemmas.List.Elements.{All-head, All-weaker}
use Rattle.std.specs.List.{list_all, list_any}
use Rattle.std.specs.Str.{bytes_eq}
use Rattle.fc_syntax.specs.declared.ty.Name.{Name}
use Rattle.fc_syntax.specs.Tree.{Word}
use Rattle.fc_model.specs.Headers.{ndecls_in}
use Rattle.fc_model.specs.Kinding.{Modules, decls_at, decls_of_module, same_name, same_word}
use Rattle.fc_model.specs.LintingRules.{DefinitionsHold, one_definition, def_holds, wrap_holds, ModuleHolds, module_holds}
use Rattle.fc_model.specs.Nameless.{NTy, NExpr, NDecl, NData, NNew, NFamily, NAxiom, NDef, NWrap, NModule, NModuleOf}
use Rattle.fc_model.specs.Planning.{is_among}
use Rattle.fc_model.specs.Resolution.{WordSet, no_word, plus}
use Rattle.fc_model.specs.ResolutionRules.{AreDistinct, one_word_more}
use Rattle.fc_model.specs.Typing.{def_type, no_context, value_type}
use Rattle.fc_model.specs.TypingRules.{HasType}
use Rattle.fc_model.proofs.Parts.{err_ok}
use Rattle.fc_model.proofs.Sameness.{bytes_eq_refl, false_true, same_word_eq}
use Rattle.fc_reaching.specs.Reaching.{MentionsDefinition, ReachesDefinition, at_once, through, defined_words, name_in, names_in, right_side}
use Rattle.fc_outlines.proofs.Alike.{Among, first_among, later_among}
use Rattle.fc_rows.specs.Dropping.{IsNeeded, is_kept, is_offered, needed_by_others, needed_by_one}
use Rattle.fc_row_types.specs.DefinitionsDropped.{mention_kept, stay_closed, StaysClosed}
use Rattle.fc_replay_types.specs.ReplaysKept.{MentionsNothingOf, Stands}
use Rattle.fc_replay_types.proofs.NamesDeclared.{typed_are_declared}

-- LISTS

-- a test that each name of a list passes
all_pass : (test : Name → Bool) (names : List Name) → ((n : Name) → Among n names → test n ≡ true) → list_all test names ≡ true
all_pass test [] pass = refl
all_pass test (n ∷ names) pass = and_from (test n) (list_all test names) (pass n first_among) (all_pass test names (λ m a. pass m (later_among a)))

-- a name of a list is found in it
among_found : (m n : Name) (names : List Name) → same_name m n ≡ true → Among n names → list_any (same_name m) names ≡ true
among_found m n (x ∷ names) same first_among = or_left (same_name m x) (list_any (same_name m) names) same
among_found m n (x ∷ names) same (later_among a) = or_right (same_name m x) (list_any (same_name m) names) (among_found m n names same a)
among_found m n [] same a = elim a [ ]

-- words that are all among others
listed_pass : (keep : Word → Bool) (ws : List Word) → ((w : Word) → is_among ws w ≡ true → keep w ≡ true) → list_all keep ws ≡ true
listed_pass keep [] pass = refl
listed_pass keep (w ∷ ws) pass =
    and_from (keep w) (list_all keep ws) (pass w (or_left (bytes_eq w w) (is_among ws w) (bytes_eq_refl w))) (listed_pass keep ws (λ v a. pass v (or_right (bytes_eq w v) (is_among ws v) a)))

-- a word that is neither this one nor among those before
pub not_before : (b c : Bool) → (if b then true else c) ≡ false → c ≡ false
not_before true c h = false_true (sym h)
not_before false c h = h

past_other : (b c : Bool) (r e : NExpr) (later : Option NExpr) → (if b then true else c) ≡ false → later ≡ Some e → (if b then Some r else later) ≡ Some e
past_other true c r e later h found = false_true (sym h)
past_other false c r e later h found = found

-- DEFINITIONS

-- a word has this right side, in one of the definitions
pub data Defines : List NDecl → Word → NExpr → Type 0 where
  defines_here : {w : Word} {t : NTy} {e : NExpr} {ds : List NDecl} → Defines (NDef w t e ∷ ds) w e
  wraps_here : {w : Word} {t : NTy} {e : NExpr} {ds : List NDecl} → Defines (NWrap w t e ∷ ds) w e
  defines_later : {d : NDecl} {w : Word} {e : NExpr} {ds : List NDecl} → Defines ds w e → Defines (d ∷ ds) w e

-- each right side has a type
right_typed : (ms : Modules) {ds : List NDecl} {w : Word} {e : NExpr} → Defines ds w e → DefinitionsHold ms ds → (t : NTy) × HasType ms no_context e t
right_typed ms (defines_here {t = t}) (one_definition (def_holds k h) more) = (t, h)
right_typed ms (wraps_here {t = t}) (one_definition (wrap_holds k h) more) = (t, h)
right_typed ms (defines_later d) (one_definition h more) = right_typed ms d more

-- a word among distinct ones behind others is none of those before
other_word : {ds : List NDecl} {w : Word} {e : NExpr} → Defines ds w e → (earlier : WordSet) → AreDistinct earlier (defined_words ds) → earlier w ≡ false
other_word defines_here earlier (one_word_more new rest) = new
other_word wraps_here earlier (one_word_more new rest) = new
other_word (defines_later {d = NData n ps cs} d) earlier words = other_word d earlier words
other_word (defines_later {d = NNew n ps t con} d) earlier words = other_word d earlier words
other_word (defines_later {d = NFamily n ps k} d) earlier words = other_word d earlier words
other_word (defines_later {d = NAxiom n ps t u} d) earlier words = other_word d earlier words
other_word (defines_later {d = NDef n t r} {w = w} d) earlier (one_word_more new rest) = not_before (bytes_eq n w) (earlier w) (other_word d (plus n earlier) rest)
other_word (defines_later {d = NWrap n t r} {w = w} d) earlier (one_word_more new rest) = not_before (bytes_eq n w) (earlier w) (other_word d (plus n earlier) rest)

-- where words are distinct the only right side is the first
only_right : {ds : List NDecl} {w : Word} {e : NExpr} → Defines ds w e → (earlier : WordSet) → AreDistinct earlier (defined_words ds) → right_side ds w ≡ Some e
only_right (defines_here {w = w}) earlier words = rw (bytes_eq_refl w) refl
only_right (wraps_here {w = w}) earlier words = rw (bytes_eq_refl w) refl
only_right (defines_later {d = NData n ps cs} d) earlier words = only_right d earlier words
only_right (defines_later {d = NNew n ps t con} d) earlier words = only_right d earlier words
only_right (defines_later {d = NFamily n ps k} d) earlier words = only_right d earlier words
only_right (defines_later {d = NAxiom n ps t u} d) earlier words = only_right d earlier words
only_right (defines_later {d = NDef n t r} {w = w} {e = e} {ds = ds} d) earlier (one_word_more new rest) =
    past_other (bytes_eq n w) (earlier w) r e (right_side ds w) (other_word d (plus n earlier) rest) (only_right d (plus n earlier) rest)
only_right (defines_later {d = NWrap n t r} {w = w} {e = e} {ds = ds} d) earlier (one_word_more new rest) =
    past_other (bytes_eq n w) (earlier w) r e (right_side ds w) (other_word d (plus n earlier) rest) (only_right d (plus n earlier) rest)

-- what has a type has a right side
typed_right : (ds : List NDecl) (w : Word) (t : NTy) → def_type ds w ≡ Ok t → (e : NExpr) × (right_side ds w ≡ Some e)
typed_right [] w t h = err_ok h
typed_right (NData n ps cs ∷ ds) w t h = typed_right ds w t h
typed_right (NNew n ps u con ∷ ds) w t h = typed_right ds w t h
typed_right (NFamily n ps k ∷ ds) w t h = typed_right ds w t h
typed_right (NAxiom n ps u v ∷ ds) w t h = typed_right ds w t h
typed_right (NDef n u r ∷ ds) w t h = either (bytes_eq n w) h (typed_right ds w t)
  where
    either : (b : Bool) → (if b then Ok u else def_type ds w) ≡ Ok t → (def_type ds w ≡ Ok t → (e : NExpr) × (right_side ds w ≡ Some e)) → (e : NExpr) × ((if b then Some r else right_side ds w) ≡ Some e)
    either true h later = (r, refl)
    either false h later = later h
typed_right (NWrap n u r ∷ ds) w t h = either (bytes_eq n w) h (typed_right ds w t)
  where
    either : (b : Bool) → (if b then Ok u else def_type ds w) ≡ Ok t → (def_type ds w ≡ Ok t → (e : NExpr) × (right_side ds w ≡ Some e)) → (e : NExpr) × ((if b then Some r else right_side ds w) ≡ Some e)
    either true h later = (r, refl)
    either false h later = later h

-- WHAT IS NEEDED

-- what is mentioned by one that is needed is needed
mentioned_needed : (n : NModule) (v w : Word) → MentionsDefinition n v w → IsNeeded n v → IsNeeded n w
mentioned_needed n v w m (needed_by_others u offered) = needed_by_one u w offered (at_once u w m)
mentioned_needed n v w m (needed_by_one u x offered reaches) = needed_by_one u w offered (further reaches m)
  where
    further : {a b : Word} → ReachesDefinition n a b → MentionsDefinition n b w → ReachesDefinition n a w
    further (at_once a b k) last = through b a w k (at_once b w last)
    further (through b a c k more) last = through b a w k (further more last)

module _ (m : Word) (imports exports hidden : List Word) (ds : List NDecl) (xs : List NModule) (stands : Stands xs (NModuleOf m imports exports hidden ds)) (keep : Word → Bool)
    (needed : (w : Word) → (keep w ≡ true) ↔ IsNeeded (NModuleOf m imports exports hidden ds) w) where
  abbrev own : NModule
  own = NModuleOf m imports exports hidden ds

  abbrev among : Modules
  among = decls_at (own ∷ xs)

  hold : DefinitionsHold among ds
  hold = definitions (All-head (ModuleHolds among) own xs stands.lints.hold)
    where
      definitions : ModuleHolds among own → DefinitionsHold among ds
      definitions (module_holds e h types defs) = defs

  -- a definition that stays mentions none that goes
  name_kept : (v : Word) (e : NExpr) → right_side ds v ≡ Some e → keep v ≡ true → (n : Name) → Among n (names_in e) → (t : NTy) → value_type among n ≡ Ok t → is_kept keep m n ≡ true
  name_kept v e right kept n a t typed = tested (same_word n.module (Some m)) refl
    where
      here : n.module ≡ Some m → keep n.text ≡ true
      here e' =
          let o = typed_right ds n.text t (subst (λ b. def_type (if b then ds else decls_of_module xs m) n.text ≡ Ok t) (bytes_eq_refl m) (subst (λ x. def_type (among x) n.text ≡ Ok t) e' typed)) in
          let same : same_name (name_in own n.text) n ≡ true = subst (λ x. same_word (Some m) x && bytes_eq n.text n.text ≡ true) (sym e') (rw (bytes_eq_refl m, bytes_eq_refl n.text) refl) in
          (needed n.text).1 (mentioned_needed own v n.text (record { right = e; defined = right; mentioned = among_found (name_in own n.text) n (names_in e) same a; other = o.0; other_defined = o.1 }) ((needed v).0 kept))

      tested : (b : Bool) → same_word n.module (Some m) ≡ b → (if b then keep n.text else true) ≡ true
      tested true q = here (same_word_eq n.module (Some m) q)
      tested false q = refl

  -- so no name that it mentions is of one that goes
  pub mention_kept_names : (v : Word) (e : NExpr) → Defines ds v e → keep v ≡ true → (n : Name) → Among n (names_in e) → is_kept keep m n ≡ true
  mention_kept_names v e d kept n a =
      let typed = right_typed among d hold in
      let p = typed_are_declared among typed.1 n a in
      name_kept v e (only_right d no_word stands.distinct) kept n a p.0 p.1

  names_kept : (v : Word) (e : NExpr) → Defines ds v e → keep v ≡ true → list_all (is_kept keep m) (names_in e) ≡ true
  names_kept v e d kept = all_pass (is_kept keep m) (names_in e) (mention_kept_names v e d kept)

  if_kept : (b c : Bool) → (b ≡ true → c ≡ true) → (if b then c else true) ≡ true
  if_kept true c h = h refl
  if_kept false c h = refl

  closed : (cs : List NDecl) → ((v : Word) (e : NExpr) → Defines cs v e → Defines ds v e) → stay_closed keep m cs ≡ true
  closed [] part = refl
  closed (NDef n t e ∷ cs) part =
      and_from (if keep n then list_all (is_kept keep m) (names_in e) else true) (stay_closed keep m cs)
      (if_kept (keep n) (list_all (is_kept keep m) (names_in e)) (names_kept n e (part n e defines_here))) (closed cs (λ v r d. part v r (defines_later d)))
  closed (NWrap n t e ∷ cs) part =
      and_from (if keep n then list_all (is_kept keep m) (names_in e) else true) (stay_closed keep m cs)
      (if_kept (keep n) (list_all (is_kept keep m) (names_in e)) (names_kept n e (part n e wraps_here))) (closed cs (λ v r d. part v r (defines_later d)))
  closed (NData n ps ks ∷ cs) part = closed cs (λ v r d. part v r (defines_later d))
  closed (NNew n ps t con ∷ cs) part = closed cs (λ v r d. part v r (defines_later d))
  closed (NFamily n ps k ∷ cs) part = closed cs (λ v r d. part v r (defines_later d))
  closed (NAxiom n ps t u ∷ cs) part = closed cs (λ v r d. part v r (defines_later d))

  -- what mentions nothing of the module mentions nothing that goes
  kept_more : (names : List Name) → list_all (is_kept (λ w. false) m) names ≡ true → list_all (is_kept keep m) names ≡ true
  kept_more [] h = refl
  kept_more (n ∷ names) h =
      let p = and_parts (is_kept (λ w. false) m n) (list_all (is_kept (λ w. false) m) names) h in
      and_from (is_kept keep m n) (list_all (is_kept keep m) names) (either (same_word n.module (Some m)) p.0) (kept_more names p.1)
    where
      either : (b : Bool) → (if b then false else true) ≡ true → (if b then keep n.text else true) ≡ true
      either true q = false_true q
      either false q = refl

  mention_more : (cs : List NDecl) → mention_kept (λ w. false) m cs ≡ true → mention_kept keep m cs ≡ true
  mention_more [] h = refl
  mention_more (NDef n t e ∷ cs) h =
      let p = and_parts (list_all (is_kept (λ w. false) m) (names_in e)) (mention_kept (λ w. false) m cs) h in
      and_from (list_all (is_kept keep m) (names_in e)) (mention_kept keep m cs) (kept_more (names_in e) p.0) (mention_more cs p.1)
  mention_more (NWrap n t e ∷ cs) h =
      let p = and_parts (list_all (is_kept (λ w. false) m) (names_in e)) (mention_kept (λ w. false) m cs) h in
      and_from (list_all (is_kept keep m) (names_in e)) (mention_kept keep m cs) (kept_more (names_in e) p.0) (mention_more cs p.1)
  mention_more (NData n ps ks ∷ cs) h = mention_more cs h
  mention_more (NNew n ps t con ∷ cs) h = mention_more cs h
  mention_more (NFamily n ps k ∷ cs) h = mention_more cs h
  mention_more (NAxiom n ps t u ∷ cs) h = mention_more cs h

  pub offered_kept : (w : Word) → is_offered own w ≡ true → keep w ≡ true
  offered_kept w h = (needed w).1 (needed_by_others w h)

  pub needed_stays : StaysClosed keep xs m exports hidden ds
  needed_stays = record {
    exported = listed_pass keep exports (λ w h. offered_kept w (or_left (is_among exports w) (is_among hidden w) h));
    hidden_words = listed_pass keep hidden (λ w h. offered_kept w (or_right (is_among exports w) (is_among hidden w) h));
    own = closed ds (λ v e d. d);
    others = All-weaker (MentionsNothingOf m) (λ x. mention_kept keep m (ndecls_in x) ≡ true) (λ x. mention_more (ndecls_in x)) xs stands.apart;
  }
