-- What modules mention of a module that is still to be replayed: those behind it only what it offers, and those that were replayed before it nothing.
use Rattle.std.proofs.Common.{◌≡◌, Bool, true, false, if◌then◌else◌, List, [], ◌∷◌, ◌++◌, Some, refl, sym, subst, ◌∙◌}
use Rattle.std.proofs.lemmas.Bool.{and_parts, or_right}
use Rattle.std.proofs.lemmas.List.Elements.{All-from_recursion, recursion_from_All}
use Rattle.std.specs.List.{AllByRecursion as Each, list_all}
use Rattle.std.specs.Str.{bytes_eq}
use Rattle.fc_syntax.specs.declared.ty.Name.{Name}
use Rattle.fc_syntax.specs.Tree.{Word}
use Rattle.fc_model.specs.Erasure.{erased, no_scope}
use Rattle.fc_model.specs.Headers.{ndecls_in}
use Rattle.fc_model.specs.Kinding.{same_word}
use Rattle.fc_model.specs.Nameless.{NExpr, NDecl, NData, NNew, NFamily, NAxiom, NDef, NWrap, NModule}
use Rattle.fc_model.specs.Programs.{Mentions, program_of, right_side}
use Rattle.fc_model.specs.Terms.{Term}
use Rattle.fc_model.proofs.Sameness.{false_true, same_word_eq}
use Rattle.fc_headers.specs.NamelessHeaders.{modules_in_decls}
use Rattle.fc_reaching.specs.Numbering.{word_of}
use Rattle.fc_reaching.specs.Reaching.{names_in}
use Rattle.fc_outlines.proofs.Alike.{Among, first_among, later_among}
use Rattle.fc_rows.specs.Dropping.{is_offered}
use Rattle.fc_meaning.proofs.HeldDeclarations.{declared_have}
use Rattle.fc_meaning.proofs.Optional.{found_has, none_some, some_is}
use Rattle.fc_kept_meaning.specs.MeaningKept.{MayBeAsked, OthersKeepOut, with_module}
use Rattle.fc_replay_meaning.proofs.ErasedMentions.{erased_mentions}
use Rattle.fc_views.specs.Views.{AreInView, IsModuleInView, IsNameInView, names_in_decls}
use Rattle.fc_views.proofs.NamesInView.{names_are_in_view}
use Rattle.fc_views.proofs.TypesInView.{each_apart}
use Rattle.fc_set_types.specs.SetsReplayed.{LintInOrder, none_lint, one_lints, is_offered_by, is_one_of, may_use, may_use_of}
use Rattle.fc_set_types.proofs.Reached.{by_or, other_name}

-- RIGHT SIDES

module _ (N : Name → Type 0) where
  each_among : (names : List Name) → Each N names → (n : Name) → Among n names → N n
  each_among [] h n a = elim a [ ]
  each_among (m ∷ names) h n first_among = h.0
  each_among (m ∷ names) h n (later_among a) = each_among names h.1 n a

  -- the erasure of the first right side, or of another
  first_mentions : (n w : Word) (d : NExpr) (ds : List NDecl) (t : Term) → Each N (names_in d ++ names_in_decls ds) → (Each N (names_in_decls ds) → right_side ds w ≡ Some t → Mentions N t)
      → (if bytes_eq n w then Some (erased no_scope d) else right_side ds w) ≡ Some t → Mentions N t
  first_mentions n w d ds t h later e =
      let p = each_apart N (names_in d) (names_in_decls ds) h in
      found_has (Mentions N) Some (λ x y same. some_is same) (bytes_eq n w) (erased no_scope d) t (right_side ds w)
      (erased_mentions N no_scope d (each_among (names_in d) p.0)) (later p.1) e

  -- the erasure of a right side mentions what that does
  right_mentions : (ds : List NDecl) → Each N (names_in_decls ds) → (w : Word) (t : Term) → right_side ds w ≡ Some t → Mentions N t
  right_mentions [] h w t e = absurd (none_some e)
  right_mentions (NData n ps cs ∷ ds) h w t e = right_mentions ds h w t e
  right_mentions (NNew n ps u con ∷ ds) h w t e = right_mentions ds h w t e
  right_mentions (NFamily n ps k ∷ ds) h w t e = right_mentions ds h w t e
  right_mentions (NAxiom n ps u v ∷ ds) h w t e = right_mentions ds h w t e
  right_mentions (NDef n u d ∷ ds) h w t e = first_mentions n w d ds t h (λ r. right_mentions ds r w t) e
  right_mentions (NWrap n u d ∷ ds) h w t e = first_mentions n w d ds t h (λ r. right_mentions ds r w t) e

-- the names that the right sides of a module mention are of these
abbrev pub NamesAre : (Name → Type 0) → NModule → Type 0
NamesAre N x = Each N (names_in_decls (ndecls_in x))

-- the program of modules that have such names mentions these alone
program_mentions : (N : Name → Type 0) (xs : List NModule) → Each (NamesAre N) xs → (x : Name) (t : Term) → program_of xs x ≡ Some t → Mentions N t
program_mentions N xs h x t e =
    declared_have (λ ds. (w : Word) (t : Term) → right_side ds w ≡ Some t → Mentions N t) (right_mentions N [] tt) xs
    (All-from_recursion (λ k. (w : Word) (t : Term) → right_side (ndecls_in k) w ≡ Some t → Mentions N t) xs (all xs h)) x.module x.text t e
  where
    all : (ys : List NModule) → Each (NamesAre N) ys → Each (λ k. (w : Word) (t : Term) → right_side (ndecls_in k) w ≡ Some t → Mentions N t) ys
    all [] h = tt
    all (y ∷ ys) h = (right_mentions N (ndecls_in y) h.0, all ys h.1)

-- and keeps out of the module that is put into it
pub placed_keeps_out : (n : NModule) (xs : List NModule) → Each (NamesAre (MayBeAsked n)) xs → OthersKeepOut (with_module n (program_of xs)) n
placed_keeps_out n xs h x t other found = tested (same_word x.module (Some (word_of n))) refl found
  where
    tested : (b : Bool) → same_word x.module (Some (word_of n)) ≡ b → (if b then right_side (ndecls_in n) x.text else program_of xs x) ≡ Some t → Mentions (MayBeAsked n) t
    tested true own e = absurd (other own)
    tested false own e = program_mentions (MayBeAsked n) xs h x t e

-- the modules that a module mentions are of these
abbrev pub MentionsAmong : List NModule → NModule → Type 0
MentionsAmong xs d = AreInView (is_one_of xs) (modules_in_decls (ndecls_in d))

-- MODULES BEHIND

module _ (n : NModule) where
  -- it is among these modules, the first of its name
  abbrev pub IsFirst : List NModule → Type 0
  IsFirst before = (is_one_of before (word_of n) ≡ true) × ((w : Word) → is_offered_by before (word_of n) w ≡ true → is_offered n w ≡ true)

  use_asked : (before : List NModule) (x : NModule) → IsFirst before → is_one_of before (word_of x) ≡ false → (y : Name) → may_use before x y ≡ true → MayBeAsked n y
  use_asked before x first new y used own =
      let at = same_word_eq y.module (Some (word_of n)) own in
      let u : may_use_of before (word_of x) (Some (word_of n)) y.text ≡ true = subst (λ o. may_use_of before (word_of x) o y.text ≡ true) at used in
      by_or (bytes_eq (word_of x) (word_of n)) (is_offered_by before (word_of n) y.text) u
      (λ e. false_true (sym (other_name before (word_of x) (word_of n) new first.0) ∙ e)) (first.1 y.text)

  uses_asked : (before : List NModule) (x : NModule) → IsFirst before → is_one_of before (word_of x) ≡ false → (names : List Name) → list_all (may_use before x) names ≡ true
      → Each (MayBeAsked n) names
  uses_asked before x first new [] h = tt
  uses_asked before x first new (y ∷ names) h =
      let p = and_parts (may_use before x y) (list_all (may_use before x) names) h in
      (use_asked before x first new y p.0, uses_asked before x first new names p.1)

  -- it is so behind a module of another name
  first_behind : (before : List NModule) (x : NModule) → IsFirst before → is_one_of before (word_of x) ≡ false → IsFirst (x ∷ before)
  first_behind before x first new = (
    or_right (bytes_eq (word_of x) (word_of n)) (is_one_of before (word_of n)) first.0,
    λ w h. first.1 w (subst (λ b. (if b then is_offered x w else is_offered_by before (word_of n) w) ≡ true) (other_name before (word_of x) (word_of n) new first.0) h),
  )

  pub later_asked : {all before xs : List NModule} → LintInOrder all before xs → IsFirst before → Each (NamesAre (MayBeAsked n)) xs
  later_asked none_lint first = tt
  later_asked {before = before} (one_lints {n = x} lints more) first =
      (uses_asked before x first lints.new (names_in_decls (ndecls_in x)) lints.uses, later_asked more (first_behind before x first lints.new))

  -- MODULES BEFORE

  unseen_asked : (done : List NModule) → is_one_of done (word_of n) ≡ false → (y : Name) → IsNameInView (is_one_of done) y → MayBeAsked n y
  unseen_asked done new y v own =
      let here : IsModuleInView (is_one_of done) (Some (word_of n)) = subst (IsModuleInView (is_one_of done)) (same_word_eq y.module (Some (word_of n)) own) v in
      let p = and_parts (is_one_of done (word_of n)) true here in
      false_true (sym new ∙ p.0)

  unseen_all : (done : List NModule) → is_one_of done (word_of n) ≡ false → (names : List Name) → Each (IsNameInView (is_one_of done)) names → Each (MayBeAsked n) names
  unseen_all done new [] h = tt
  unseen_all done new (y ∷ names) h = (unseen_asked done new y h.0, unseen_all done new names h.1)

  pub earlier_asked : (done : List NModule) → is_one_of done (word_of n) ≡ false → (xs : List NModule) → Each (MentionsAmong done) xs
      → Each (NamesAre (MayBeAsked n)) xs
  earlier_asked done new [] h = tt
  earlier_asked done new (d ∷ xs) h =
      let names = recursion_from_All (IsNameInView (is_one_of done)) (names_in_decls (ndecls_in d)) (names_are_in_view (is_one_of done) (ndecls_in d) h.0) in
      (unseen_all done new (names_in_decls (ndecls_in d)) names, earlier_asked done new xs h.1)
