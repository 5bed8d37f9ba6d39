-- Modules that words reach by imports, one after the other.
use Rattle.std.proofs.Common.{◌≡◌, ℕ, Bool, true, false, ◌||◌, List, [], ◌∷◌, ◌++◌, bytes_eq, if◌then◌else◌, refl, sym, ap, ◌∙◌}
use Rattle.std.proofs.lemmas.List.{append_assoc, map-append}
use Rattle.std.proofs.lemmas.List.Folds.{list_any-append}
use Rattle.fc_syntax.specs.Tree.{Word}
use Rattle.fc_syntax.specs.declared.module.Module as RustModule
use Rattle.fc_syntax.specs.declared.ty.Ref.{Ref}
use Rattle.fc_model.specs.Nameless.{NModule}
use Rattle.fc_model.specs.NamelessView.{nmodule_of, nmodules_of}
use Rattle.fc_model.specs.Planning.{is_among}
use Rattle.fc_model.specs.Resolution.{WordSet, no_word, plus_all}
use Rattle.fc_model.proofs.Lists.{words_alone, words_put_in}
use Rattle.fc_rows.specs.Telling.{reached_among, reached_by_imports}

abbrev Form : Type 0
Form = RustModule.Module ℕ Ref

-- these are reached so far, by words that are in the set, which reach of the others what is left of all
pub record AreReached (words : WordSet) (reached : List Form) (rest : List Form) (whole : List NModule) : Type 0 where
  pub by : List Word
  pub in_set : (w : Word) → words w ≡ is_among by w
  pub all : nmodules_of reached ++ reached_among by (nmodules_of rest) ≡ whole

either_way : (a b : Bool) → (a || b) ≡ (b || a)
either_way true true = refl
either_way true false = refl
either_way false true = refl
either_way false false = refl

-- the set with the words of a list, beside the words before
words_added : (words : WordSet) (by ws : List Word) → ((w : Word) → words w ≡ is_among by w) → (w : Word) → plus_all ws words w ≡ is_among (by ++ ws) w
words_added words by ws same w =
    words_put_in ws words w ∙ ap (λ b. is_among ws w || b) (same w) ∙ either_way (is_among ws w) (is_among by w) ∙ sym (list_any-append (λ v. bytes_eq v w) by ws)

pub reached_start : (m : Form) (words : WordSet) (none : List Form) (rest : List Form) → words ≡ plus_all m.imports no_word → none ≡ [] → AreReached words none rest (reached_by_imports (nmodule_of m) (nmodules_of rest))
reached_start m words none rest is empty = record {
  by = m.imports;
  in_set = λ w. ap (λ (s : WordSet). s w) is ∙ words_alone m.imports w;
  all = ap (λ xs. nmodules_of xs ++ reached_among m.imports (nmodules_of rest)) empty;
}

-- a module that is reached
pub reached_more : (words further : WordSet) (reached more : List Form) (x copy : Form) (rest : List Form) (whole : List NModule) → words x.name ≡ true → further ≡ plus_all x.imports words
    → nmodule_of copy ≡ nmodule_of x → more ≡ reached ++ copy ∷ [] → AreReached words reached (x ∷ rest) whole → AreReached further more rest whole
reached_more words further reached more x copy rest whole has grown same pushed so_far =
    let by = so_far.by in
    let behind = reached_among (by ++ x.imports) (nmodules_of rest) in
    record {
      by = by ++ x.imports;
      in_set = λ w. ap (λ (s : WordSet). s w) grown ∙ words_added words by x.imports so_far.in_set w;
      all = ap (λ xs. nmodules_of xs ++ behind) pushed ∙ ap (λ xs. xs ++ behind) (map-append nmodule_of reached (copy ∷ [])) ∙ append_assoc (nmodules_of reached) (nmodule_of copy ∷ []) behind
          ∙ ap (λ n. nmodules_of reached ++ (n ∷ behind)) same
          ∙ ap (λ b. nmodules_of reached ++ (if b then nmodule_of x ∷ behind else reached_among by (nmodules_of rest))) (sym (sym (so_far.in_set x.name) ∙ has))
          ∙ so_far.all;
    }

-- a module that is not
pub reached_same : (words : WordSet) (reached : List Form) (x : Form) (rest : List Form) (whole : List NModule) → words x.name ≡ false → AreReached words reached (x ∷ rest) whole → AreReached words reached rest whole
reached_same words reached x rest whole not so_far =
    let by = so_far.by in
    let behind = reached_among (by ++ x.imports) (nmodules_of rest) in
    record {
      by = by;
      in_set = so_far.in_set;
      all = ap (λ b. nmodules_of reached ++ (if b then nmodule_of x ∷ behind else reached_among by (nmodules_of rest))) (sym (sym (so_far.in_set x.name) ∙ not)) ∙ so_far.all;
    }
