-- The program of modules, with one of them in first place, and with another module in its place.
use Rattle.std.proofs.Common.{◌≡◌, ◌∙◌, Bool, true, false, if◌then◌else◌, List, [], ◌∷◌, ◌++◌, Option, Some, None, refl, sym, ap}
use Rattle.std.proofs.Math.Path.{fun_ext}
use Rattle.std.proofs.lemmas.Bool.{or_parts}
use Rattle.std.specs.Str.{bytes_eq}
use Rattle.fc_syntax.specs.Tree.{Word}
use Rattle.fc_model.specs.Kinding.{decls_at, decls_of_module, same_word}
use Rattle.fc_model.specs.Nameless.{NModule, NModuleOf}
use Rattle.fc_model.specs.Programs.{program_of, right_side}
use Rattle.fc_model.proofs.Sameness.{bytes_eq_eq, bytes_eq_refl, false_true}
use Rattle.fc_reaching.specs.Numbering.{word_of}
use Rattle.fc_kept_meaning.specs.MeaningKept.{with_module}
use Rattle.fc_set_types.specs.SetsReplayed.{is_one_of}

-- two words are the same or not in both directions
swapped : (v w : Word) → bytes_eq v w ≡ bytes_eq w v
swapped v w = either (bytes_eq v w) refl (bytes_eq w v) refl
  where
    either : (b : Bool) → bytes_eq v w ≡ b → (c : Bool) → bytes_eq w v ≡ c → b ≡ c
    either true e true f = refl
    either true e false f = false_true (sym f ∙ ap (bytes_eq w) (bytes_eq_eq v w e) ∙ bytes_eq_refl w)
    either false e true f = false_true (sym e ∙ ap (bytes_eq v) (bytes_eq_eq w v f) ∙ bytes_eq_refl v)
    either false e false f = refl

-- what is defined by modules that declare the same is the same
pub same_programs : (xs ys : List NModule) → ((w : Word) → decls_of_module xs w ≡ decls_of_module ys w) → program_of xs ≡ program_of ys
same_programs xs ys same = fun_ext (λ x. at x.module x.text)
  where
    at : (o : Option Word) (w : Word) → right_side (decls_at xs o) w ≡ right_side (decls_at ys o) w
    at None w = refl
    at (Some v) w = ap (λ ds. right_side ds w) (same v)

-- the first of some modules stands in the program of the others
pub first_placed : (n : NModule) (xs : List NModule) → program_of (n ∷ xs) ≡ with_module n (program_of xs)
first_placed (NModuleOf m imports exports hidden ds) xs = fun_ext (λ x. at x.module x.text)
  where
    either : (v w : Word) (b c : Bool) → b ≡ c → right_side (if b then ds else decls_of_module xs v) w ≡ (if c then right_side ds w else right_side (decls_of_module xs v) w)
    either v w true true e = refl
    either v w false false e = refl
    either v w true false e = false_true (sym e)
    either v w false true e = false_true e

    at : (o : Option Word) (w : Word)
        → right_side (decls_at (NModuleOf m imports exports hidden ds ∷ xs) o) w ≡ (if same_word o (Some m) then right_side ds w else right_side (decls_at xs o) w)
    at None w = refl
    at (Some v) w = either v w (bytes_eq m v) (bytes_eq v m) (swapped m v)

-- a module whose name is new declares the same before others and behind them
pub moved : (n : NModule) (done xs : List NModule) → is_one_of done (word_of n) ≡ false → (w : Word) → decls_of_module (done ++ n ∷ xs) w ≡ decls_of_module (n ∷ done ++ xs) w
moved n [] xs new w = refl
moved (NModuleOf m imports exports hidden ds) (NModuleOf v further shown more es ∷ done) xs new w =
    let p = or_parts (bytes_eq v m) (is_one_of done m) new in
    either p.0 (bytes_eq v w) refl (bytes_eq m w) refl (moved (NModuleOf m imports exports hidden ds) done xs p.1 w)
  where
    either : bytes_eq v m ≡ false → (b : Bool) → bytes_eq v w ≡ b → (c : Bool) → bytes_eq m w ≡ c
        → decls_of_module (done ++ NModuleOf m imports exports hidden ds ∷ xs) w ≡ (if c then ds else decls_of_module (done ++ xs) w)
        → (if b then es else decls_of_module (done ++ NModuleOf m imports exports hidden ds ∷ xs) w) ≡ (if c then ds else if b then es else decls_of_module (done ++ xs) w)
    either other true e true f h = false_true (sym other ∙ ap (λ u. bytes_eq u m) (bytes_eq_eq v w e) ∙ ap (bytes_eq w) (bytes_eq_eq m w f) ∙ bytes_eq_refl w)
    either other true e false f h = refl
    either other false e c f h = h
