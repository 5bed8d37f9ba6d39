-- Modules whose names are put back.
use Rattle.std.proofs.Common.{◌≡◌, List, sym, ap, ◌∙◌, subst}
use Rattle.fc_syntax.specs.Tree.{Word, Decl, ModuleOf}
use Rattle.fc_model.specs.Declaring.{coercion_words, nterm_words, ntype_words, nwords_by, term_words, words_by}
use Rattle.fc_model.specs.Nameless.{NModuleOf}
use Rattle.fc_model.specs.Resolution.{Top, no_word, no_words, offers_all, plus_all, top_of, ntop_of}
use Rattle.fc_model.specs.ResolutionRules.{AreDistinct, Resolves, ResolvesDecls, resolves_module}
use Rattle.fc_model.specs.Worded.{WDecl, bare_decls}
use Rattle.fc_formed.proofs.WithWords.{formed_with_words}
use Rattle.fc_used_words.specs.Scoped.{HoldsDecls, IsScoped, is_meant}
use Rattle.fc_naming.specs.Declarations.{IsNamedDecls, IsNamedModule}
use Rattle.fc_naming.proofs.Lower.{and_keeps}

-- the named module declares and imports the same
same_top : {top : Top} (m : Word) (imports exports hidden : List Word) (ns : List WDecl) (ds : List Decl) → IsNamedDecls top ns ds
    → top_of (ModuleOf m imports exports hidden ds) ≡ ntop_of (NModuleOf m imports exports hidden (bare_decls ns))
same_top m imports exports hidden ns ds p =
    let ms = bare_decls ns in
    ap (λ (ws : List Word). record { own = m; imports = plus_all imports no_word; offers = offers_all; types = plus_all ws no_word; terms = plus_all (words_by term_words ds) no_word; coercions = plus_all (words_by coercion_words ds) no_word }) p.types
    ∙ ap (λ (ws : List Word). record { own = m; imports = plus_all imports no_word; offers = offers_all; types = plus_all (nwords_by ntype_words ms) no_word; terms = plus_all ws no_word; coercions = plus_all (words_by coercion_words ds) no_word }) p.terms
    ∙ ap (λ (ws : List Word). record { own = m; imports = plus_all imports no_word; offers = offers_all; types = plus_all (nwords_by ntype_words ms) no_word; terms = plus_all (nwords_by nterm_words ms) no_word; coercions = plus_all ws no_word }) p.coercions

resolved : {top : Top} {m : Word} {imports exports hidden : List Word} {ns : List WDecl} {ds : List Decl} → IsNamedDecls top ns ds → top ≡ ntop_of (NModuleOf m imports exports hidden (bare_decls ns))
    → IsScoped (NModuleOf m imports exports hidden (bare_decls ns)) → Resolves (ModuleOf m imports exports hidden ds) (NModuleOf m imports exports hidden (bare_decls ns))
resolved {top = top} {m = m} {imports = imports} {exports = exports} {hidden = hidden} {ns = ns} {ds = ds} p is (a, b, c, h) =
    resolves_module (subst (λ (t : Top). ResolvesDecls t no_words ds (bare_decls ns)) (is ∙ sym (same_top m imports exports hidden ns ds p))
    (p.resolves no_words (subst (λ (ws : List Word). AreDistinct no_word ws) (sym p.types) a) (subst (λ (ws : List Word). AreDistinct no_word ws) (sym p.terms) b)
    (subst (λ (ws : List Word). AreDistinct no_word ws) (sym p.coercions) c) (subst (λ (t : Top). HoldsDecls (is_meant t) (bare_decls ns)) (sym is) h)))

named_module : {top : Top} {m : Word} {imports exports hidden : List Word} {ns : List WDecl} {ds : List Decl} → IsNamedDecls top ns ds
    → IsNamedModule top (ModuleOf m imports exports hidden ns) (ModuleOf m imports exports hidden ds)
named_module {m = m} {imports = imports} {exports = exports} {hidden = hidden} {ns = ns} p = record {
  resolves = λ is scoped. resolved p is scoped;
  formed = λ h. and_keeps (λ e. e) (and_keeps (λ e. e) p.formed) ((formed_with_words (ModuleOf m imports exports hidden ns)).1 h);
}

pub named_back : {top : Top} {m n : Word} {imports exports hidden is es hs : List Word} {ms ns : List WDecl} {ds : List Decl} → IsNamedDecls top ms ds → ms ≡ ns
    → n ≡ m → is ≡ imports → es ≡ exports → hs ≡ hidden → IsNamedModule top (ModuleOf m imports exports hidden ns) (ModuleOf n is es hs ds)
named_back {top = top} {m = m} {n = n} {imports = imports} {exports = exports} {hidden = hidden} {is = is} {es = es} {hs = hs} {ns = ns} {ds = ds} p same a b c d =
    subst (λ (x : Word). IsNamedModule top (ModuleOf m imports exports hidden ns) (ModuleOf x is es hs ds)) (sym a)
    (subst (λ (xs : List Word). IsNamedModule top (ModuleOf m imports exports hidden ns) (ModuleOf m xs es hs ds)) (sym b)
    (subst (λ (xs : List Word). IsNamedModule top (ModuleOf m imports exports hidden ns) (ModuleOf m imports xs hs ds)) (sym c)
    (subst (λ (xs : List Word). IsNamedModule top (ModuleOf m imports exports hidden ns) (ModuleOf m imports exports xs ds)) (sym d)
    (named_module (subst (λ (xs : List WDecl). IsNamedDecls top xs ds) same p)))))
