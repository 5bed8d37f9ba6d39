-- What is found next in the definition of a number of the first of some modules, or that nothing is.
use Rattle.std.proofs.Common.{◌≡◌, ℕ, List, [], ◌∷◌, Option, Some, None, refl, sym, ap, ◌∙◌}
use Rattle.std.specs.Prelude.{slice_get}
use Rattle.std.proofs.lemmas.Option.{none-some, same_Some}
use Rattle.fc_syntax.specs.Tree.{Word}
use Rattle.fc_syntax.specs.declared.module.Decl as RustDecl
use Rattle.fc_syntax.specs.declared.module.Module as RustModule
use Rattle.fc_syntax.specs.declared.ty.Ref.{Ref}
use Rattle.fc_log.specs.declared.log.Step.{Step}
use Rattle.fc_model.specs.Kinding.{decls_at}
use Rattle.fc_model.specs.Nameless.{NExpr}
use Rattle.fc_model.specs.NamelessView.{ndecl_of, nmodules_of}
use Rattle.fc_rows.specs.Surroundings.{outside}
use Rattle.fc_search_laws.specs.Searching.{Answered, Applies, Beyond, Quiet, found_within, searched}
use Rattle.fc_search_laws.proofs.Searched.{always_answers}
use Rattle.fc_apply.specs.Definitions.{right_side}
use Rattle.fc_row_search.specs.Spots.{applying_of}
use Rattle.fc_row_search.specs.declared.spots.Applying.{Applying}
use Rattle.fc_simplify.specs.Phase.{IsSettled, room}
use Rattle.fc_simplify.specs.Steps.{step_of}
use Rattle.fc_simplify.specs.Taking.{IsNext, word_of}
use Rattle.fc_simplify.proofs.Taken.{there_in}

-- WHAT IS FOUND OF THE WHOLE

found_some : (o : Option Answered) (a : Applying) → Some (applying_of a) ≡ found_within [] o → o ≡ Some (applying_of a)
found_some None a h = absurd (none-some _ (sym h))
found_some (Some (Applies r i p x)) a h = sym h
found_some (Some Quiet) a h = absurd (none-some _ (sym h))
found_some (Some Beyond) a h = sym h

found_none : (o : Option Answered) (a : Answered) → o ≡ Some a → None ≡ found_within [] o → o ≡ Some Quiet
found_none None a is h = absurd (none-some _ is)
found_none (Some (Applies r i p x)) a is h = absurd (none-some _ h)
found_none (Some Quiet) a is h = refl
found_none (Some Beyond) a is h = absurd (none-some _ h)

-- IN A DEFINITION

module _ (spare i : ℕ) where
  -- the declaration is no definition
  pub none_there : (ms : List (RustModule.Module ℕ Ref)) (m : RustModule.Module ℕ Ref) (d : RustDecl.Decl ℕ Ref) → slice_get ms 0 ≡ Some m → slice_get m.decls i ≡ Some d → None ≡ right_side (ndecl_of d)
      → IsSettled spare i (nmodules_of ms)
  none_there [] m d first there none = tt
  none_there (k ∷ ms) m d first there none = λ c e at right.
      let same : slice_get k.decls i ≡ Some d = ap (λ z. slice_get z.decls i) (same_Some _ _ first) ∙ there in
      let is : ndecl_of d ≡ c = same_Some _ _ (sym (there_in k.decls i d same) ∙ at) in
      absurd (none-some e (none ∙ ap right_side is ∙ right))

  -- nothing is found in it
  pub quiet_there : (ms : List (RustModule.Module ℕ Ref)) (m : RustModule.Module ℕ Ref) (d : RustDecl.Decl ℕ Ref) (f : NExpr) (from : List ℕ) → slice_get ms 0 ≡ Some m → slice_get m.decls i ≡ Some d
      → Some f ≡ right_side (ndecl_of d) → from ≡ [] → None ≡ found_within [] (searched (decls_at (nmodules_of ms)) spare room from (outside (decls_at (nmodules_of ms))) f)
      → IsSettled spare i (nmodules_of ms)
  quiet_there [] m d f from first there right whole none = tt
  quiet_there (k ∷ ms) m d f from first there right whole none = λ c e at is.
      let declared = decls_at (nmodules_of (k ∷ ms)) in
      let same : slice_get k.decls i ≡ Some d = ap (λ z. slice_get z.decls i) (same_Some _ _ first) ∙ there in
      let decl : ndecl_of d ≡ c = same_Some _ _ (sym (there_in k.decls i d same) ∙ at) in
      let part : f ≡ e = same_Some _ _ (right ∙ ap right_side decl ∙ is) in
      let answer = always_answers declared spare room from (outside declared) f in
      ap (λ p. searched declared spare room p (outside declared) e) (sym whole)
      ∙ ap (searched declared spare room from (outside declared)) (sym part)
      ∙ found_none (searched declared spare room from (outside declared) f) answer.0 answer.1 none

  -- this is found in it
  pub next_there : (ms : List (RustModule.Module ℕ Ref)) (m : RustModule.Module ℕ Ref) (d : RustDecl.Decl ℕ Ref) (w : Word) (f : NExpr) (from : List ℕ) (a : Applying) (s : Step)
      → slice_get ms 0 ≡ Some m → slice_get m.decls i ≡ Some d → Some w ≡ word_of (ndecl_of d) → Some f ≡ right_side (ndecl_of d)
      → Some (applying_of a) ≡ found_within [] (searched (decls_at (nmodules_of ms)) spare room from (outside (decls_at (nmodules_of ms))) f) → s ≡ step_of w a → IsNext spare i a s (nmodules_of ms)
  next_there [] m d w f from a s first there word right is step = absurd (none-some _ first)
  next_there (k ∷ ms) m d w f from a s first there word right is step = record {
    decl = ndecl_of d;
    word = w;
    right = f;
    from = from;
    there = there_in k.decls i d (ap (λ z. slice_get z.decls i) (same_Some _ _ first) ∙ there);
    word_is = sym word;
    right_is = sym right;
    found = found_some (searched (decls_at (nmodules_of (k ∷ ms))) spare room from (outside (decls_at (nmodules_of (k ∷ ms)))) f) a is;
    step = step;
  }
