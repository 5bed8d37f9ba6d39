-- What lints is scoped: each distance in it reaches a binder, and each name in it is known.
use Rattle.std.proofs.Common.{◌≡◌, ◌∙◌, true, false, bytes_eq, if◌then◌else◌, List, [], ◌∷◌, Option, Some, None, refl, sym, ap, subst}
use Rattle.std.specs.Cmp.Lexicographic.{nat_list_eq_equiv}
use Rattle.std.specs.List.{list_all}
use Rattle.std.proofs.lemmas.Bool.{and_parts}
use Rattle.fc_syntax.specs.Tree.{Word}
use Rattle.fc_model.specs.Declaring.{ncoercion_words, nterm_words, ntype_words, nwords_by}
use Rattle.fc_model.specs.Kinding.{decls_at, decls_of_module}
use Rattle.fc_model.specs.Mentioning.{in_name}
use Rattle.fc_model.specs.Nameless.{NDecl, NModule, NModuleOf}
use Rattle.fc_model.specs.Resolution.{Top, WordSet, all_words, no_word, ntop_of, plus, plus_all}
use Rattle.fc_model.proofs.Sameness.{bytes_eq_eq}
use Rattle.fc_used_words.specs.Scoped.{IsKnownIn, is_meant}
use Rattle.fc_used_words.proofs.Keeping.{by_test}
use Rattle.fc_scoped.specs.LintedAreScoped.{LintedAreScoped}
use Rattle.fc_scoped.proofs.LintedNames.{IsSaidInReach, IsSaidOfDeclared, linted_names_hold}

-- WORDS OF OTHER MODULES

same_put_in : (ws : List Word) (s t : WordSet) (w : Word) → s w ≡ t w → plus_all ws s w ≡ plus_all ws t w
same_put_in [] s t w h = h
same_put_in (v ∷ ws) s t w h = same_put_in ws (plus v s) (plus v t) w (ap (λ b. if bytes_eq v w then true else b) h)

-- a word is in a set as it is without another word
without_other : (ws : List Word) (m w : Word) → bytes_eq w m ≡ false → plus_all ws (plus m no_word) w ≡ plus_all ws no_word w
without_other ws m w other = same_put_in ws (plus m no_word) no_word w (rw (nat_list_eq_equiv.symm m w ∙ other) refl)

-- WHAT IS DECLARED IS KNOWN

module _ (ns : List NModule) (m : Word) (imports exports hidden : List Word) (ds : List NDecl) (among : decls_of_module ns m ≡ ds) where
  abbrev own : Top
  own = ntop_of (NModuleOf m imports exports hidden ds)

  abbrev mentioned : WordSet
  mentioned = plus_all imports (plus m no_word)

  -- a word that a module declares is known where that is this module, or one that this one imports
  is_known : (words : NDecl → List Word) (o : Option Word) (w : Word) → list_all mentioned (in_name o) ≡ true → plus_all (nwords_by words (decls_at ns o)) no_word w ≡ true
      → IsKnownIn own (plus_all (nwords_by words ds) no_word) all_words o w
  is_known words None w h declared = absurd cc
  is_known words (Some v) w h declared =
      by_test (bytes_eq v m)
      (λ same. rw same (subst (λ es. plus_all (nwords_by words es) no_word w ≡ true) (ap (λ x. decls_of_module ns x) (bytes_eq_eq v m same) ∙ among) declared))
      (λ other. rw (other, sym (without_other imports m v other) ∙ (and_parts (mentioned v) true h).0) refl)

  are_known : IsSaidOfDeclared (decls_at ns) (is_meant own) mentioned
  are_known = record {
    type_name = λ n h declared. is_known ntype_words n.module n.text h declared;
    axiom_name = λ n h declared. is_known ncoercion_words n.module n.text h declared;
    constructor = λ n h declared. is_known nterm_words n.module n.text h declared;
    definition = λ n h declared. is_known nterm_words n.module n.text h declared;
  }

-- THE LAW

in_reach_is_meant : (top : Top) → IsSaidInReach (is_meant top)
in_reach_is_meant top = record { type_at = λ many i h. h; value_at = λ many i h. h; join_at = λ many i h. h; coercion_at = λ many i h. h }

pub linted_are_scoped : LintedAreScoped
linted_are_scoped ns (NModuleOf m imports exports hidden ds) among distinct imported holds =
    let top = ntop_of (NModuleOf m imports exports hidden ds) in
    let names = linted_names_hold (decls_at ns) (is_meant top) _ (in_reach_is_meant top) (are_known ns m imports exports hidden ds among) holds imported in
    (distinct.0, distinct.1, distinct.2, names)
