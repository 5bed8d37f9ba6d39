-- Each main expression over the exports of modules that are replayed is one over those of what is left, and shows the same.
use Rattle.std.proofs.Common.{◌≡◌, ◌∙◌, Bool, true, false, if◌then◌else◌, List, [], ◌∷◌, Option, Some, None, Ok, refl, sym, ap, subst}
use Rattle.std.proofs.lemmas.Bool.{or_left}
use Rattle.std.specs.Str.{bytes_eq}
use Rattle.fc_syntax.specs.declared.ty.Name.{Name}
use Rattle.fc_syntax.specs.Tree.{Word}
use Rattle.fc_log.specs.declared.log.Entry.{Entry}
use Rattle.fc_model.specs.Erasure.{erased, no_scope}
use Rattle.fc_model.specs.Headers.{ndecls_in}
use Rattle.fc_model.specs.Kinding.{decls_at, decls_of_module}
use Rattle.fc_model.specs.Nameless.{NExpr, NTy, NDecl, NData, NNew, NFamily, NAxiom, NDef, NWrap, NModule, NModuleOf}
use Rattle.fc_model.specs.Planning.{is_among}
use Rattle.fc_model.specs.Programs.{IsExported, exports_at, exports_of_module, right_side}
use Rattle.fc_model.specs.Terms.{Term}
use Rattle.fc_model.specs.Typing.{def_type}
use Rattle.fc_model.proofs.Parts.{err_ok}
use Rattle.fc_reaching.specs.Numbering.{word_of}
use Rattle.fc_rows.specs.Dropping.{is_offered}
use Rattle.fc_meaning.proofs.Optional.{none_some}
use Rattle.fc_meaning.proofs.WrittenMeans.{mentions_more}
use Rattle.fc_set_types.specs.SetsReplayed.{AreKept, IsHeadedFrom, IsKept, ReplayedInOrder, none_replayed, one_replayed, is_offered_by}
use Rattle.fc_set_types.proofs.SetsKept.{replayed_sets_keep_lint}
use Rattle.fc_set_meaning.specs.SetMeaning.{MainExpressionsShowTheSame, MayBeAskedOf, is_asked_of}
use Rattle.fc_set_meaning.proofs.Headers.{exports_in, header_exports, header_word, headed_decls, headed_exports, headed_word}
use Rattle.fc_set_meaning.proofs.SetsMeant.{replayed_sets_keep_meaning}

-- EXPORTS ARE OFFERED

exported_offered : (ns : List NModule) (m w : Word) → is_among (exports_of_module ns m) w ≡ true → is_offered_by ns m w ≡ true
exported_offered [] m w h = h
exported_offered (NModuleOf v imports exports hidden ds ∷ ns) m w h = either (bytes_eq v m) h (exported_offered ns m w)
  where
    either : (b : Bool) → is_among (if b then exports else exports_of_module ns m) w ≡ true → (is_among (exports_of_module ns m) w ≡ true → is_offered_by ns m w ≡ true)
        → (if b then is_offered (NModuleOf v imports exports hidden ds) w else is_offered_by ns m w) ≡ true
    either true h p = or_left (is_among exports w) (is_among hidden w) h
    either false h p = p h

exported_asked : (ns : List NModule) (o : Option Word) (w : Word) → is_among (exports_at ns o) w ≡ true → is_asked_of ns o w ≡ true
exported_asked ns None w h = h
exported_asked ns (Some m) w h = exported_offered ns m w h

-- DEFINITIONS AND THEIR TYPES

abbrev IsDefined : List NDecl → Word → Type 0
IsDefined ds w = (t : Term) × (right_side ds w ≡ Some t)

abbrev IsTyped : List NDecl → Word → Type 0
IsTyped ds w = (t : NTy) × (def_type ds w ≡ Ok t)

-- either the first definition has the word, or another
module _ (ds : List NDecl) (w : Word) (t : NTy) (e : NExpr) where
  first_typed : (b : Bool) (u : Term) → (if b then Some (erased no_scope e) else right_side ds w) ≡ Some u → (IsDefined ds w → IsTyped ds w)
      → (v : NTy) × ((if b then Ok t else def_type ds w) ≡ Ok v)
  first_typed true u h p = (t, refl)
  first_typed false u h p = p (u, h)

  first_defined : (b : Bool) (v : NTy) → (if b then Ok t else def_type ds w) ≡ Ok v → (IsTyped ds w → IsDefined ds w)
      → (u : Term) × ((if b then Some (erased no_scope e) else right_side ds w) ≡ Some u)
  first_defined true v h p = (erased no_scope e, refl)
  first_defined false v h p = p (v, h)

defined_typed : (ds : List NDecl) (w : Word) → IsDefined ds w → IsTyped ds w
defined_typed [] w d = absurd (none_some d.1)
defined_typed (NData n ps cs ∷ ds) w d = defined_typed ds w d
defined_typed (NNew n ps t con ∷ ds) w d = defined_typed ds w d
defined_typed (NFamily n ps k ∷ ds) w d = defined_typed ds w d
defined_typed (NAxiom n ps t u ∷ ds) w d = defined_typed ds w d
defined_typed (NDef n t e ∷ ds) w d = first_typed ds w t e (bytes_eq n w) d.0 d.1 (defined_typed ds w)
defined_typed (NWrap n t e ∷ ds) w d = first_typed ds w t e (bytes_eq n w) d.0 d.1 (defined_typed ds w)

typed_defined : (ds : List NDecl) (w : Word) → IsTyped ds w → IsDefined ds w
typed_defined [] w d = err_ok d.1
typed_defined (NData n ps cs ∷ ds) w d = typed_defined ds w d
typed_defined (NNew n ps t con ∷ ds) w d = typed_defined ds w d
typed_defined (NFamily n ps k ∷ ds) w d = typed_defined ds w d
typed_defined (NAxiom n ps t u ∷ ds) w d = typed_defined ds w d
typed_defined (NDef n t e ∷ ds) w d = first_defined ds w t e (bytes_eq n w) d.0 d.1 (typed_defined ds w)
typed_defined (NWrap n t e ∷ ds) w d = first_defined ds w t e (bytes_eq n w) d.0 d.1 (typed_defined ds w)

-- WHAT IS LEFT

first_exports : (n : NModule) (ns : List NModule) (m : Word) → exports_of_module (n ∷ ns) m ≡ (if bytes_eq (word_of n) m then exports_in n else exports_of_module ns m)
first_exports (NModuleOf v imports exports hidden ds) ns m = refl

first_decls : (n : NModule) (ns : List NModule) (m : Word) → decls_of_module (n ∷ ns) m ≡ (if bytes_eq (word_of n) m then ndecls_in n else decls_of_module ns m)
first_decls (NModuleOf v imports exports hidden ds) ns m = refl

module _ (xs : List NModule) (n left k : NModule) (kept : IsKept xs n left) (heads : IsHeadedFrom left k) (ns ks : List NModule) (m : Word) where
  named_alike : word_of k ≡ word_of n
  named_alike = headed_word heads ∙ header_word n left kept.offers.header

  one_exports : exports_of_module ks m ≡ exports_of_module ns m → exports_of_module (k ∷ ks) m ≡ exports_of_module (n ∷ ns) m
  one_exports same =
      first_exports k ks m
      ∙ ap (λ v. if bytes_eq v m then exports_in k else exports_of_module ks m) named_alike
      ∙ ap (λ ws. if bytes_eq (word_of n) m then ws else exports_of_module ks m) (headed_exports heads ∙ header_exports n left kept.offers.header)
      ∙ ap (λ ws. if bytes_eq (word_of n) m then exports_in n else ws) same
      ∙ sym (first_exports n ns m)

  one_defined : (w : Word) → (is_offered_by ns m w ≡ true → IsDefined (decls_of_module ns m) w → IsDefined (decls_of_module ks m) w)
      → is_offered_by (n ∷ ns) m w ≡ true → IsDefined (decls_of_module (n ∷ ns) m) w → IsDefined (decls_of_module (k ∷ ks) m) w
  one_defined w later offered d =
      subst (λ ds. IsDefined ds w) (sym (first_decls k ks m ∙ ap (λ v. if bytes_eq v m then ndecls_in k else decls_of_module ks m) named_alike))
      (either (bytes_eq (word_of n) m) offered (subst (λ ds. IsDefined ds w) (first_decls n ns m) d))
    where
      either : (b : Bool) → (if b then is_offered n w else is_offered_by ns m w) ≡ true → IsDefined (if b then ndecls_in n else decls_of_module ns m) w
          → IsDefined (if b then ndecls_in k else decls_of_module ks m) w
      either true o p =
          let q = defined_typed (ndecls_in n) w p in
          subst (λ ds. IsDefined ds w) (sym (headed_decls heads)) (typed_defined (ndecls_in left) w (q.0, kept.offers.types w o ∙ q.1))
      either false o p = later o p

same_exports : {before : List NModule} {es : List (List Entry)} {ns ks : List NModule} (replayed : ReplayedInOrder before es ns ks) → AreKept replayed → (m : Word)
    → exports_of_module ks m ≡ exports_of_module ns m
same_exports none_replayed kept m = refl
same_exports (one_replayed {n = n} {left = left} {k = k} {ns = ns} {ks = ks} bs replays heads more) kept m = one_exports _ n left k kept.0 heads ns ks m (same_exports more kept.1 m)

still_defined : {before : List NModule} {es : List (List Entry)} {ns ks : List NModule} (replayed : ReplayedInOrder before es ns ks) → AreKept replayed → (m w : Word)
    → is_offered_by ns m w ≡ true → IsDefined (decls_of_module ns m) w → IsDefined (decls_of_module ks m) w
still_defined none_replayed kept m w = λ o d. d
still_defined (one_replayed {n = n} {left = left} {k = k} {ns = ns} {ks = ks} bs replays heads more) kept m w = one_defined _ n left k kept.0 heads ns ks m w (still_defined more kept.1 m w)

module _ {es : List (List Entry)} {ns ks : List NModule} (replayed : ReplayedInOrder [] es ns ks) (kept : AreKept replayed) where
  exported_there : (o : Option Word) (w : Word) → is_among (exports_at ns o) w ≡ true → IsDefined (decls_at ns o) w → (is_among (exports_at ks o) w ≡ true) × IsDefined (decls_at ks o) w
  exported_there None w h d = (h, d)
  exported_there (Some m) w h d =
      (subst (λ ws. is_among ws w ≡ true) (sym (same_exports replayed kept m)) h, still_defined replayed kept m w (exported_offered ns m w h) d)

  still_exported : (x : Name) → IsExported ns x → IsExported ks x
  still_exported x e = let there = exported_there x.module x.text e.0 (e.1, e.2) in (there.0, there.1.0, there.1.1)

-- THE LAW

pub main_expressions_show_the_same : MainExpressionsShowTheSame
main_expressions_show_the_same es ns ks lints written replayed t main =
    let kept = replayed_sets_keep_lint es ns ks lints replayed in
    let asked = mentions_more (IsExported ns) (MayBeAskedOf ns) (λ x e. exported_asked ns x.module x.text e.0) t main.exported in (
      record { sorted = main.sorted; exported = mentions_more (IsExported ns) (IsExported ks) (still_exported replayed kept.0) t main.exported },
      replayed_sets_keep_meaning es ns ks lints written replayed t main.sorted asked,
    )
