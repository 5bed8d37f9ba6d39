-- What stands in a scope.
use Rattle.std.specs.Prelude.{List, [], ◌∷◌, drop, if◌then◌else◌, ℕ, ◌≡◌}
use Rattle.std.specs.Str.{bytes_eq}
use Rattle.fc_syntax.specs.Tree.{Word}
use Rattle.fc_model.specs.Resolution.{Join, Locals, Top, Value, WordSet, no_locals, no_word, offers_all, plus_all, with_term}
use Rattle.fc_scope.specs.ScopeWords.{with_binders, with_joins}
use Rattle.fc_scope.specs.declared.binders.Binders.{Binders}
use Rattle.fc_named_subst.specs.declared.scope.ScopeWord.{ScopeWord}
use Rattle.fc_named_subst.specs.declared.scope.ScopeWord.TheVariants.{Name, JoinPoint}
use Rattle.fc_named_subst.specs.declared.scope.Scope.{Scope}

-- THE WORDS IN SCOPE

-- a word that is one of a type, of a value and of a coercion, the innermost of each
abbrev pub with_name : Word → Locals → Locals
with_name w s = record { types = w ∷ s.types; terms = Value w ∷ s.terms; coercions = w ∷ s.coercions }

abbrev pub enter_word : ScopeWord → Locals → Locals
enter_word (Name w) s = with_name w s
enter_word (JoinPoint w) s = with_term (Join w) s

-- words, the outermost first
abbrev pub enter_words : List ScopeWord → Locals → Locals
enter_words [] s = s
enter_words (w ∷ ws) s = enter_words ws (enter_word w s)

abbrev pub locals_of_scope : Scope → Locals
locals_of_scope s = enter_words s.words.items no_locals

abbrev pub word_text : ScopeWord → Word
word_text (Name w) = w
word_text (JoinPoint w) = w

abbrev pub word_texts : List ScopeWord → List Word
word_texts [] = []
word_texts (w ∷ ws) = word_text w ∷ word_texts ws

-- whether a word was put in, as whatever
abbrev pub in_scope : Scope → WordSet
in_scope s = plus_all (word_texts s.words.items) no_word

-- THE MODULES

-- the modules that names with a dot may name
abbrev pub modules_named : Scope → List Word
modules_named s = s.modules.items

-- the words that are not this one
abbrev pub words_but : Word → List Word → List Word
words_but own [] = []
words_but own (w ∷ ws) = if bytes_eq w own then words_but own ws else w ∷ words_but own ws

-- What words mean, local ones aside, in a module that declares these words, as whatever is asked for, and imports these modules. Its name is the empty word, which names none of them.
abbrev pub top_among : List Word → WordSet → Top
top_among ms ws = record { own = []; imports = plus_all (words_but [] ms) no_word; offers = offers_all; types = ws; terms = ws; coercions = ws }

abbrev pub top_of : Scope → Top
top_of s = top_among (modules_named s) (in_scope s)

-- THE WORDS AT THE FRONT

-- the words are these binders, and then the words from this number on
pub record AreNamesBefore (words : List ScopeWord) (names : Binders) (count : ℕ) : Type 0 where
  pub same : (s : Locals) → enter_words words s ≡ enter_words (drop count words) (with_binders names s)

-- the words are these join points, and then the words from this number on
pub record AreJoinsBefore (words : List ScopeWord) (names : List Word) (count : ℕ) : Type 0 where
  pub same : (s : Locals) → enter_words words s ≡ enter_words (drop count words) (with_joins names s)
