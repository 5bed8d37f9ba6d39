-- Words that are entered one behind the other, and the modules of a scope.
use Rattle.std.proofs.Common.{◌≡◌, ℕ, ◌+◌, Bool, true, false, if◌then◌else◌, List, [], ◌∷◌, ◌++◌, drop, bytes_eq, refl, sym, ap, ◌∙◌, subst}
use Rattle.fc_syntax.specs.Tree.{Word}
use Rattle.fc_model.specs.Resolution.{Locals, Top, WordSet, no_locals, no_word, plus, plus_all}
use Rattle.fc_scope.specs.ScopeWords.{with_binders, with_joins}
use Rattle.fc_scope.specs.declared.binders.Binders.{Binders}
use Rattle.fc_named_subst.specs.Scopes.{AreJoinsBefore, AreNamesBefore, enter_word, enter_words, top_among, word_text, word_texts, words_but}
use Rattle.fc_named_subst.specs.Substituted.{IsApart}
use Rattle.fc_named_subst.specs.declared.scope.ScopeWord.{ScopeWord}
use Rattle.fc_named_subst.specs.declared.scope.ScopeWord.TheVariants.{JoinPoint, Name}

-- ONE WORD MORE

pub enter_more : (ws : List ScopeWord) (w : ScopeWord) (s : Locals) → enter_words (ws ++ w ∷ []) s ≡ enter_word w (enter_words ws s)
enter_more [] w s = refl
enter_more (v ∷ vs) w s = enter_more vs w (enter_word v s)

pub texts_more : (ws : List ScopeWord) (w : ScopeWord) (s : WordSet) → plus_all (word_texts (ws ++ w ∷ [])) s ≡ plus (word_text w) (plus_all (word_texts ws) s)
texts_more [] w s = refl
texts_more (v ∷ vs) w s = texts_more vs w (plus (word_text v) s)

-- THE OWN MODULE

not_imported : (own : Word) (ms : List Word) (s : WordSet) → s own ≡ false → plus_all (words_but own ms) s own ≡ false
not_imported own [] s h = h
not_imported own (m ∷ ms) s h = by (bytes_eq m own) refl (λ t g. not_imported own ms t g)
  where
    by : (b : Bool) → bytes_eq m own ≡ b → ((t : WordSet) → t own ≡ false → plus_all (words_but own ms) t own ≡ false)
        → plus_all (if b then words_but own ms else m ∷ words_but own ms) s own ≡ false
    by true same more = more s h
    by false same more = more (plus m s) (rw same h)

pub apart_among : (top : Top) (ms : List Word) (ws : WordSet) → top ≡ top_among ms ws → IsApart top
apart_among top ms ws is = record { imports = subst (λ (t : Top). t.imports t.own ≡ false) (sym is) (not_imported [] ms no_word refl) }

-- WORDS AT THE FRONT

pub no_names_before : (words : List ScopeWord) → AreNamesBefore words (record { types = []; values = []; coercions = [] }) 0
no_names_before words = record { same = λ s. refl }

pub one_name_before : (words : List ScopeWord) (names more : Binders) (i : ℕ) (w : Word) → AreNamesBefore words names i → drop i words ≡ Name w ∷ drop (i + 1) words
    → more ≡ record { types = w ∷ names.types; values = w ∷ names.values; coercions = w ∷ names.coercions } → AreNamesBefore words more (i + 1)
one_name_before words names more i w f e is = record {
  same = λ s.
      f.same s ∙ ap (λ ws. enter_words ws (with_binders names s)) e
      ∙ ap (λ (b : Binders). enter_words (drop (i + 1) words) (with_binders b s)) (sym is);
}

pub no_joins_before : (words : List ScopeWord) → AreJoinsBefore words [] 0
no_joins_before words = record { same = λ s. refl }

pub one_join_before : (words : List ScopeWord) (names more : List Word) (i : ℕ) (w : Word) → AreJoinsBefore words names i → drop i words ≡ JoinPoint w ∷ drop (i + 1) words
    → more ≡ w ∷ names → AreJoinsBefore words more (i + 1)
one_join_before words names more i w f e is = record {
  same = λ s.
      f.same s ∙ ap (λ ws. enter_words ws (with_joins names s)) e
      ∙ ap (λ (n : List Word). enter_words (drop (i + 1) words) (with_joins n s)) (sym is);
}

-- what holds of a table of what words mean, and of words in a slice, holds of what they are
pub carried : {t u : Top} {ws vs : List ScopeWord} → t ≡ u → ws ≡ vs → (P : Top → Locals → Type 0) → P t (enter_words ws no_locals) → P u (enter_words vs no_locals)
carried {u = u} {ws = ws} same is P h = subst (λ (xs : List ScopeWord). P u (enter_words xs no_locals)) is (subst (λ (t : Top). P t (enter_words ws no_locals)) same h)
