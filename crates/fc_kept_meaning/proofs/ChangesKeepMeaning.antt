-- Where parts of right sides change that are under one another in both directions, the program shows the same.
use Rattle.std.proofs.Common.{◌≡◌, Bool, true, false, List, [], ◌∷◌, if◌then◌else◌, bytes_eq, Option, Some, None, refl, sym, ap, ◌∙◌, subst}
use Rattle.fc_syntax.specs.Tree.{Word}
use Rattle.fc_syntax.specs.declared.ty.Name.{Name}
use Rattle.fc_model.specs.Erasure.{erased, no_scope}
use Rattle.fc_model.specs.Headers.{ndecls_in}
use Rattle.fc_model.specs.Kinding.{decls_at, decls_of_module, same_word}
use Rattle.fc_model.specs.LintingRules.{DefinitionsHold}
use Rattle.fc_model.specs.Nameless.{NDecl, NData, NNew, NFamily, NAxiom, NDef, NWrap, NModule, NModuleOf}
use Rattle.fc_model.specs.Programs.{right_side}
use Rattle.fc_model.specs.Stepping.{Program}
use Rattle.fc_model.specs.Terms.{Term, IsSorted}
use Rattle.fc_model.proofs.Sameness.{bytes_eq_refl}
use Rattle.fc_meaning.specs.Laws.{SortedProgram}
use Rattle.fc_meaning.proofs.WrittenExpressions.{AreDeclsWritten}
use Rattle.fc_counted.specs.Changes.{PartRelation, Change}
use Rattle.fc_counted.specs.CountingLaws.{DefinitionChange, ProgramChange, SeesSame}
use Rattle.fc_counted.specs.Places.{Outside, sorts_in}
use Rattle.fc_counted.proofs.ChangedPrograms.{change_same}
use Rattle.fc_term_rows.specs.Facts.{Known}
use Rattle.fc_term_rows.specs.FactsMet.{GlobalsMeet, DefinesAll}
use Rattle.fc_term_rows.specs.TermRows.{TermRow}
use Rattle.fc_term_rows.proofs.TermRowsHold.{rows_see_same}
use Rattle.fc_row_places.specs.NamelessChanges.{NPartRelation}
use Rattle.fc_row_places.specs.RowPlaceLaws.{PartsErase}
use Rattle.fc_row_places.proofs.ErasedChanges.{erased_change}
use Rattle.fc_reaching.specs.Numbering.{word_of}
use Rattle.fc_kept_meaning.specs.MeaningKept.{IsOwn, with_module, HoldsModule, LintsAmong, DeclarationsChange, no_changed_declarations, same_declaration, changed_def, changed_wrap}
use Rattle.fc_meaning.proofs.SortedErasure.{AreRightsSorted, right_side_sorted, rights_sorted}

-- RIGHT SIDES

-- the definitions of a module that lints among its imports hold
pub own_definitions : (xs : List NModule) (m : NModule) → LintsAmong xs m → DefinitionsHold (decls_at (m ∷ xs)) (ndecls_in m)
own_definitions xs (NModuleOf own imports exports hidden ds) held =
    let m = NModuleOf own imports exports hidden ds in
    subst (λ b. DefinitionsHold (decls_at (m ∷ xs)) (if b then ds else decls_of_module xs own)) (bytes_eq_refl own) (held.definitions (Some own))

pub linted_rights : (xs : List NModule) (m : NModule) → LintsAmong xs m → AreDeclsWritten (ndecls_in m) → AreRightsSorted (ndecls_in m)
linted_rights xs m held w = rights_sorted (own_definitions xs m held) held w

pub with_module_sorted : (n : NModule) (P : Program) → SortedProgram P → AreRightsSorted (ndecls_in n) → SortedProgram (with_module n P)
with_module_sorted n P sp s x t e = go (same_word x.module (Some (word_of n))) e
  where
    go : (b : Bool) → (if b then right_side (ndecls_in n) x.text else P x) ≡ Some t → IsSorted [] t
    go true q = right_side_sorted (ndecls_in n) x.text t s q
    go false q = sp x t q

-- CHANGES

module _ (R : NPartRelation) (TermsRewritten : PartRelation) (rows : PartsErase R TermsRewritten) where
  found_change : (b : Bool) (t u : Term) (o p : Option Term) → Change TermsRewritten Outside t u → DefinitionChange TermsRewritten o p
      → DefinitionChange TermsRewritten (if b then Some t else o) (if b then Some u else p)
  found_change true t u o p w v = w
  found_change false t u o p w v = v

  same_definition : (o : Option Term) → ((t : Term) → o ≡ Some t → IsSorted [] t) → DefinitionChange TermsRewritten o o
  unfolding sorts_in
  same_definition None s = tt
  same_definition (Some t) s = change_same TermsRewritten Outside t (s t refl)

  right_change : {ds es : List NDecl} → DeclarationsChange R ds es → AreDeclsWritten ds → AreDeclsWritten es → AreRightsSorted ds → AreRightsSorted es → (w : Word)
      → DefinitionChange TermsRewritten (right_side ds w) (right_side es w)
  unfolding sorts_in
  right_change no_changed_declarations wd we s r w = tt
  right_change (same_declaration {d = NData n ps cs} h) wd we s r w = right_change h wd.1 we.1 s.1 r.1 w
  right_change (same_declaration {d = NNew n ps t con} h) wd we s r w = right_change h wd.1 we.1 s.1 r.1 w
  right_change (same_declaration {d = NFamily n ps k} h) wd we s r w = right_change h wd.1 we.1 s.1 r.1 w
  right_change (same_declaration {d = NAxiom n ps t u} h) wd we s r w = right_change h wd.1 we.1 s.1 r.1 w
  right_change (same_declaration {d = NDef n t e} {ds = ds} {es = es} h) wd we s r w =
      found_change (bytes_eq n w) (erased no_scope e) (erased no_scope e) (right_side ds w) (right_side es w) (change_same TermsRewritten Outside (erased no_scope e) s.0)
      (right_change h wd.1 we.1 s.1 r.1 w)
  right_change (same_declaration {d = NWrap n t e} {ds = ds} {es = es} h) wd we s r w =
      found_change (bytes_eq n w) (erased no_scope e) (erased no_scope e) (right_side ds w) (right_side es w) (change_same TermsRewritten Outside (erased no_scope e) s.0)
      (right_change h wd.1 we.1 s.1 r.1 w)
  right_change (changed_def {w = n} {e = e} {f = f} {ds = ds} {es = es} c h) wd we s r w =
      found_change (bytes_eq n w) (erased no_scope e) (erased no_scope f) (right_side ds w) (right_side es w) (erased_change R TermsRewritten rows c tt wd.0 we.0 s.0 r.0)
      (right_change h wd.1 we.1 s.1 r.1 w)
  right_change (changed_wrap {w = n} {e = e} {f = f} {ds = ds} {es = es} c h) wd we s r w =
      found_change (bytes_eq n w) (erased no_scope e) (erased no_scope f) (right_side ds w) (right_side es w) (erased_change R TermsRewritten rows c tt wd.0 we.0 s.0 r.0)
      (right_change h wd.1 we.1 s.1 r.1 w)

  pub module_change : (m n : NModule) → word_of m ≡ word_of n → DeclarationsChange R (ndecls_in m) (ndecls_in n) → AreDeclsWritten (ndecls_in m) → AreDeclsWritten (ndecls_in n)
      → AreRightsSorted (ndecls_in m) → AreRightsSorted (ndecls_in n)
      → (P : Program) → SortedProgram P → HoldsModule P m → ProgramChange TermsRewritten P (with_module n P)
  module_change m n same ch wd we s r P sp holds x = go (same_word x.module (Some (word_of n))) refl
    where
      go : (b : Bool) → same_word x.module (Some (word_of n)) ≡ b → DefinitionChange TermsRewritten (P x) (if b then right_side (ndecls_in n) x.text else P x)
      go true e =
          let own : IsOwn m x = ap (λ w. same_word x.module (Some w)) same ∙ e in
          subst (λ o. DefinitionChange TermsRewritten o (right_side (ndecls_in n) x.text)) (sym (holds x own)) (right_change ch wd we s r x.text)
      go false e = same_definition (P x) (λ t q. sp x t q)

-- changes of parts keep what is shown
pub changes_keep_meaning : (R : NPartRelation) (G : Known) (D : Name → Term → Type 0) → PartsErase R (TermRow G D) → (xs : List NModule) (m n : NModule) → word_of m ≡ word_of n
    → DeclarationsChange R (ndecls_in m) (ndecls_in n)
    → LintsAmong xs m → LintsAmong xs n → AreDeclsWritten (ndecls_in m) → AreDeclsWritten (ndecls_in n) → (P : Program) → SortedProgram P → HoldsModule P m
    → GlobalsMeet P G → GlobalsMeet (with_module n P) G → DefinesAll P D → DefinesAll (with_module n P) D → (t : Term) → IsSorted [] t → SeesSame P (with_module n P) t
changes_keep_meaning R G D rows xs m n same ch lm ln wm wn P sp holds pm qm pd qd =
    let s = linted_rights xs m lm wm in
    let r = linted_rights xs n ln wn in
    rows_see_same P (with_module n P) sp (with_module_sorted n P sp r) G D pm qm pd qd (module_change R (TermRow G D) rows m n same ch wm wn s r P sp holds)
