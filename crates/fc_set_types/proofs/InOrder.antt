-- Modules each of which stands among those before it that its imports reach: all that some imports reach hold together.
use Rattle.std.proofs.Common.{◌≡◌, ◌∙◌, All, Bool, true, false, if◌then◌else◌, List, [], ◌∷◌, ◌++◌, ◌⊎◌, inl, inr, Some, None, refl, sym, ap, subst}
use Rattle.std.proofs.lemmas.Bool.{and_from, and_parts}
use Rattle.std.proofs.lemmas.List.Elements.{All-cons, All-from_recursion, All-head, recursion_from_All}
use Rattle.std.specs.List.{AllByRecursion as Each, list_all}
use Rattle.std.specs.Str.{bytes_eq}
use Rattle.fc_syntax.specs.declared.ty.Name.{Name}
use Rattle.fc_syntax.specs.Tree.{Word}
use Rattle.fc_model.specs.Headers.{ndecls_in}
use Rattle.fc_model.specs.Kinding.{decls_at, decls_of_module, same_word}
use Rattle.fc_model.specs.LintingRules.{ModuleHolds}
use Rattle.fc_model.specs.Nameless.{NDecl, NData, NNew, NFamily, NAxiom, NDef, NWrap, NModule, NModuleOf}
use Rattle.fc_model.specs.Planning.{is_among}
use Rattle.fc_model.specs.TypingLaws.{HasDistinctTypes}
use Rattle.fc_model.proofs.Sameness.{false_true, same_word_eq}
use Rattle.fc_reaching.specs.Numbering.{word_of}
use Rattle.fc_reaching.specs.Reaching.{names_in}
use Rattle.fc_rows.specs.Telling.{reached_among, reached_by_imports}
use Rattle.fc_rows.specs.Dropping.{is_kept}
use Rattle.fc_row_types.specs.DefinitionsDropped.{mention_kept}
use Rattle.fc_replay_types.specs.ReplaysKept.{MentionsNothingOf, Stands}
use Rattle.fc_views.specs.Views.{IsModuleInView, IsNameInView, names_in_decls}
use Rattle.fc_views.proofs.NamesInView.{names_are_in_view}
use Rattle.fc_views.proofs.TypesInView.{each_apart}
use Rattle.fc_set_types.specs.SetsReplayed.{is_one_of}
use Rattle.fc_set_types.proofs.Growing.{AreHeadedAlike, Grow, headed_by, module_grows}
use Rattle.fc_set_types.proofs.Mentions.{SeesDeclared, module_mentions}
use Rattle.fc_set_types.proofs.Reached.{HaveOwnNames, among_second, decided, not_reached, nothing_declared, other_name, reached_found, reached_more}

-- of modules, the last built first, each has a new name and stands among those before it that its imports reach
pub data StandInOrder : List NModule → Type 0 where
  none_stand : StandInOrder []
  one_stands : {x : NModule} {xs : List NModule} → is_one_of xs (word_of x) ≡ false → Stands (reached_by_imports x xs) x → StandInOrder xs → StandInOrder (x ∷ xs)

pub own_names : {xs : List NModule} → StandInOrder xs → HaveOwnNames xs
own_names none_stand = tt
own_names (one_stands new stands rest) = (new, own_names rest)

pub types_in_order : {xs : List NModule} → StandInOrder xs → Each HasDistinctTypes xs
types_in_order none_stand = tt
types_in_order (one_stands {x = x} {xs = xs} new stands rest) = (All-head HasDistinctTypes x (reached_by_imports x xs) stands.lints.distinct, types_in_order rest)

-- MORE MODULES

-- behind a module of another name
pub grow_behind : (x : NModule) (xs : List NModule) → is_one_of xs (word_of x) ≡ false → Grow xs (x ∷ xs)
grow_behind (NModuleOf m imports exports hidden ds) xs new w =
    decided (is_one_of xs w)
    (λ p. inr (headed_by (decls_of_module xs w) (if bytes_eq m w then ds else decls_of_module xs w)
    (sym (ap (λ b. if b then ds else decls_of_module xs w) (other_name xs m w new p))))) (λ p. inl (nothing_declared xs w p))

module _ (vs ws : List Word) (xs : List NModule) (own : HaveOwnNames xs) (more : (u : Word) → is_among vs u ≡ true → is_among ws u ≡ true) where
  -- what more words reach
  reached_grow : Grow (reached_among vs xs) (reached_among ws xs)
  reached_grow w =
      decided (is_one_of (reached_among vs xs) w)
      (λ p. inr (headed_by (decls_of_module (reached_among vs xs) w) (decls_of_module (reached_among ws xs) w)
      (sym (reached_found vs xs own w p) ∙ reached_found ws xs own w (reached_more vs ws xs w more p))))
      (λ p. inl (nothing_declared (reached_among vs xs) w p))

-- each behind one module
grow_both : (x : NModule) (xs ys : List NModule) → Grow xs ys → Grow (x ∷ xs) (x ∷ ys)
grow_both (NModuleOf m imports exports hidden ds) xs ys grow w = either (bytes_eq m w) (grow w)
  where
    either : (b : Bool) → (decls_of_module xs w ≡ []) ⊎ AreHeadedAlike (decls_of_module xs w) (decls_of_module ys w)
        → ((if b then ds else decls_of_module xs w) ≡ []) ⊎ AreHeadedAlike (if b then ds else decls_of_module xs w) (if b then ds else decls_of_module ys w)
    either true h = inr (headed_by ds ds refl)
    either false h = h

-- TOGETHER

abbrev pub HoldTogether : List NModule → Type 0
HoldTogether xs = All (ModuleHolds (decls_at xs)) xs

-- a module that stands among what it reaches holds with more
with_one : (x : NModule) (near far : List NModule) → is_one_of far (word_of x) ≡ false → Grow near far → HoldTogether (x ∷ near) → HoldTogether far → HoldTogether (x ∷ far)
with_one x near far new grow own hold =
    All-cons (ModuleHolds (decls_at (x ∷ far))) x far
    (module_grows (x ∷ near) (x ∷ far) (grow_both x near far grow) own x (All-head (ModuleHolds (decls_at (x ∷ near))) x near own))
    (λ i d l. module_grows far (x ∷ far) (grow_behind x far new) hold _ (hold i d l))

-- all that some words reach hold against all that they reach
pub reached_hold : (ws : List Word) (xs : List NModule) → StandInOrder xs → HoldTogether (reached_among ws xs)
reached_hold ws [] none_stand = All-from_recursion (ModuleHolds (decls_at [])) [] tt
reached_hold ws (NModuleOf m imports exports hidden ds ∷ xs) (one_stands new stands rest) =
    let x = NModuleOf m imports exports hidden ds in
    let far = reached_hold (ws ++ imports) xs rest in
    tested (is_among ws m)
    (with_one x (reached_among imports xs) (reached_among (ws ++ imports) xs) (not_reached (ws ++ imports) xs m new)
    (reached_grow imports (ws ++ imports) xs (own_names rest) (among_second ws imports)) stands.lints.hold far)
    (reached_hold ws xs rest)
  where
    tested : (b : Bool) → HoldTogether (NModuleOf m imports exports hidden ds ∷ reached_among (ws ++ imports) xs) → HoldTogether (reached_among ws xs)
        → HoldTogether (if b then NModuleOf m imports exports hidden ds ∷ reached_among (ws ++ imports) xs else reached_among ws xs)
    tested true p q = p
    tested false p q = q

-- a module that is none of these declares nothing
pub names_see : (xs : List NModule) → SeesDeclared (is_one_of xs) (decls_at xs)
names_see xs None = inl refl
names_see xs (Some w) = decided (is_one_of xs w) (λ p. inl (and_from (is_one_of xs w) true p refl)) (λ p. inr (nothing_declared xs w p))

-- what holds together mentions nothing of a module of another name
module _ (xs : List NModule) (m : Word) (new : is_one_of xs m ≡ false) (hold : HoldTogether xs) where
  name_kept : (n : Name) → IsNameInView (is_one_of xs) n → is_kept (λ w. false) m n ≡ true
  name_kept n v = tested (same_word n.module (Some m)) refl
    where
      tested : (b : Bool) → same_word n.module (Some m) ≡ b → (if b then false else true) ≡ true
      tested true e =
          let here : IsModuleInView (is_one_of xs) (Some m) = subst (IsModuleInView (is_one_of xs)) (same_word_eq n.module (Some m) e) v in
          let p = and_parts (is_one_of xs m) true here in
          false_true (sym new ∙ p.0)
      tested false e = refl

  names_kept : (names : List Name) → Each (IsNameInView (is_one_of xs)) names → list_all (is_kept (λ w. false) m) names ≡ true
  names_kept [] h = refl
  names_kept (n ∷ names) h = and_from (is_kept (λ w. false) m n) (list_all (is_kept (λ w. false) m) names) (name_kept n h.0) (names_kept names h.1)

  decls_kept : (ds : List NDecl) → Each (IsNameInView (is_one_of xs)) (names_in_decls ds) → mention_kept (λ w. false) m ds ≡ true
  decls_kept [] h = refl
  decls_kept (NDef n t e ∷ ds) h =
      let p = each_apart (IsNameInView (is_one_of xs)) (names_in e) (names_in_decls ds) h in
      and_from (list_all (is_kept (λ w. false) m) (names_in e)) (mention_kept (λ w. false) m ds) (names_kept (names_in e) p.0) (decls_kept ds p.1)
  decls_kept (NWrap n t e ∷ ds) h =
      let p = each_apart (IsNameInView (is_one_of xs)) (names_in e) (names_in_decls ds) h in
      and_from (list_all (is_kept (λ w. false) m) (names_in e)) (mention_kept (λ w. false) m ds) (names_kept (names_in e) p.0) (decls_kept ds p.1)
  decls_kept (NData n ps cs ∷ ds) h = decls_kept ds h
  decls_kept (NNew n ps t con ∷ ds) h = decls_kept ds h
  decls_kept (NFamily n ps k ∷ ds) h = decls_kept ds h
  decls_kept (NAxiom n ps t u ∷ ds) h = decls_kept ds h

  module_apart : (x : NModule) → ModuleHolds (decls_at xs) x → MentionsNothingOf m x
  module_apart x h =
      let names = names_are_in_view (is_one_of xs) (ndecls_in x) (module_mentions (is_one_of xs) (decls_at xs) (names_see xs) h) in
      decls_kept (ndecls_in x) (recursion_from_All (IsNameInView (is_one_of xs)) (names_in_decls (ndecls_in x)) names)

  pub together_apart : All (MentionsNothingOf m) xs
  together_apart i d l = module_apart _ (hold i d l)
