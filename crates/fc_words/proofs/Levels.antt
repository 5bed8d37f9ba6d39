-- The words behind the name of a command decide: what is asked for, from the walk over them.
use Rattle.std.proofs.Common.{◌≡◌, ◌∙◌, List, [], ◌∷◌, ◌++◌, refl, sym, ap, append_assoc, append-nil, codes, fold, Some, false, true}
use Rattle.std.specs.Prelude.{is_some, option_and_then}
use Rattle.clap.specs.Faults.{check_fault, defaults_fault, entered_fault, fault_of, level_fault, settle_fault, turn_fault, walk_fault}
use Rattle.clap.specs.Kinds.{Kinds, or_else}
use Rattle.clap.specs.Simple.{App, Shape, built, entered, filled, marked_built, names_of, new_shape, subcommand_of, with_index}
use Rattle.clap.specs.Walk.{Names, Row, Rule, Text, Walk, finished, idle, nothing_held, settled, walk, walk_from, walked, with_default}
use Rattle.fc_words.specs.Asking.{asked, asked_by, unless_refused}
use Rattle.fc_words.specs.Commands.{coreopt_app, files_rule, grow_rule, out_rule, small_rule, ticks_rule}

-- the commands with numbers
pub data Numbered : Type 0 where
  build : Numbered
  why : Numbered

-- the commands
pub data Level : Type 0 where
  numbered : (n : Numbered) → Level
  lint : Level

abbrev pub name_at : Level → Text
name_at (numbered build) = codes "build"
name_at (numbered why) = codes "why"
name_at lint = codes "lint"

abbrev pub the_rule : Rule
the_rule = with_index 1 (filled files_rule)

-- what stands behind the numbers
abbrev pub behind : Numbered → List Rule
behind build = filled out_rule ∷ the_rule ∷ []
behind why = the_rule ∷ []

abbrev pub rules_at : Level → List Rule
rules_at (numbered n) = filled ticks_rule ∷ filled small_rule ∷ filled grow_rule ∷ behind n
rules_at lint = the_rule ∷ []

abbrev pub shape_at : Level → Shape
shape_at l = record (marked_built (new_shape (name_at l))) { rules = rules_at l; no_binary_name = true; disable_help_flag = true; disable_help_subcommand = true }

-- the walk from w over the words fails nowhere, and ends at these rows, once the last argument is used
pub record Ends (l : Level) (w : Walk) (words : List Text) (rows : List Row) : Type 0 where
  pub walks : walk_fault (shape_at l) [] w words ≡ []
  pub rows_are : (settled (rules_at l) (fold (walked (rules_at l) []) w words).held).rows ≡ rows
  pub settles : settle_fault (rules_at l) false (fold (walked (rules_at l) []) w words).held ≡ []

-- one more word in front
pub ends_from : (l : Level) (w next : Walk) (word : Text) (words : List Text) (rows : List Row) → turn_fault (shape_at l) [] w word ≡ []
    → walked (rules_at l) [] w word ≡ next → Ends l next words rows → Ends l w (word ∷ words) rows
unfolding walk_fault
ends_from l w next word words rows turn step ends = record {
  walks = ap (λ k. or_else k (walk_fault (shape_at l) [] (walked (rules_at l) [] w word) words)) turn
      ∙ ap (λ v. walk_fault (shape_at l) [] v words) step ∙ ends.walks;
  rows_are = ap (λ v. (settled (rules_at l) (fold (walked (rules_at l) []) v words).held).rows) step ∙ ends.rows_are;
  settles = ap (λ v. settle_fault (rules_at l) false (fold (walked (rules_at l) []) v words).held) step ∙ ends.settles;
}

-- THE WORD OF THE COMMAND

abbrev stop_state : Text → List Text → Walk
stop_state n xs = record { held = nothing_held; waiting = idle; position = 1; is_trailing = false; stopped = Some (n, xs) }

fold_stop : (c : List Rule) (names : Names) (n : Text) (xs rest : List Text) → fold (walked c names) (stop_state n xs) rest ≡ stop_state n (xs ++ rest)
unfolding walked
fold_stop c names n xs [] = ap (stop_state n) (sym (append-nil xs))
fold_stop c names n xs (word ∷ rest) = fold_stop c names n (xs ++ word ∷ []) rest ∙ ap (stop_state n) (append_assoc xs (word ∷ []) rest)

fault_stop : (s : Shape) (names : Names) (n : Text) (xs rest : List Text) → walk_fault s names (stop_state n xs) rest ≡ []
unfolding walked walk_fault
fault_stop s names n xs [] = refl
fault_stop s names n xs (word ∷ rest) = fault_stop s names n (xs ++ word ∷ []) rest

abbrev pub top : App
top = built coreopt_app

walk_top : (l : Level) (rest : List Text) → walk top.top.rules (names_of top) nothing_held (name_at l ∷ rest) ≡ stop_state (name_at l) rest
unfolding walked
walk_top (numbered build) rest = fold_stop top.top.rules (names_of top) (codes "build") [] rest
walk_top (numbered why) rest = fold_stop top.top.rules (names_of top) (codes "why") [] rest
walk_top lint rest = fold_stop top.top.rules (names_of top) (codes "lint") [] rest

-- what fails after the walk over the word
abbrev rest_of : Walk → Kinds
rest_of w = or_else (entered_fault top w.stopped) (or_else (settle_fault top.top.rules top.top.args_override_self w.held)
    (or_else (defaults_fault (settled top.top.rules w.held).rows top.top.rules)
    (check_fault top.top (finished top.top.rules w.held) (is_some (entered top w.stopped)))))

-- no word behind the name fails here
stop_passes : (n : Text) (rest : List Text) (w : Walk) → w ≡ stop_state n rest → rest_of (stop_state n rest) ≡ []
    → or_else (walk_fault top.top (names_of top) (stop_state n []) rest) (rest_of w) ≡ []
stop_passes n rest w stops passes = ap (λ k. or_else k (rest_of w)) (fault_stop top.top (names_of top) n [] rest) ∙ ap rest_of stops ∙ passes

top_passes : (l : Level) (rest : List Text) → level_fault (shape_at l) [] nothing_held rest false [] ≡ [] → fault_of coreopt_app (name_at l ∷ rest) ≡ []
unfolding walked walk_fault defaults_fault
top_passes (numbered build) rest e = stop_passes (codes "build") rest _ (walk_top (numbered build) rest) (ap (λ k. or_else k []) e)
top_passes (numbered why) rest e = stop_passes (codes "why") rest _ (walk_top (numbered why) rest) (ap (λ k. or_else k []) e)
top_passes lint rest e = stop_passes (codes "lint") rest _ (walk_top lint rest) (ap (λ k. or_else k []) e)

top_rows : (l : Level) (rest : List Text) → subcommand_of coreopt_app (name_at l ∷ rest)
    ≡ Some (name_at l, finished (rules_at l) (walk (rules_at l) [] nothing_held rest).held)
top_rows (numbered build) rest = ap (λ (w : Walk). entered top w.stopped) (walk_top (numbered build) rest)
top_rows (numbered why) rest = ap (λ (w : Walk). entered top w.stopped) (walk_top (numbered why) rest)
top_rows lint rest = ap (λ (w : Walk). entered top w.stopped) (walk_top lint rest)

-- THE LEVEL

all_pass : (a b c d : Kinds) → a ≡ [] → b ≡ [] → c ≡ [] → d ≡ [] → or_else a (or_else [] (or_else b (or_else c d))) ≡ []
all_pass a b c d no_a no_b no_c no_d =
    ap (λ k. or_else k (or_else b (or_else c d))) no_a ∙ ap (λ k. or_else k (or_else c d)) no_b ∙ ap (λ k. or_else k d) no_c ∙ no_d

level_passes : (l : Level) (words : List Text) (rows : List Row) → Ends l (walk_from nothing_held) words rows → defaults_fault rows (rules_at l) ≡ []
    → check_fault (shape_at l) (fold with_default rows (rules_at l)) false ≡ [] → level_fault (shape_at l) [] nothing_held words false [] ≡ []
level_passes l words rows ends defaults checks = all_pass _ _ _ _ ends.walks ends.settles
    (ap (λ rs. defaults_fault rs (rules_at l)) ends.rows_are ∙ defaults)
    (ap (λ rs. check_fault (shape_at l) (fold with_default rs (rules_at l)) false) ends.rows_are ∙ checks)

-- what is asked for, where the walk behind the word of the command ends well
pub asked_at : (l : Level) (words : List Text) (rows : List Row) → Ends l (walk_from nothing_held) words rows → defaults_fault rows (rules_at l) ≡ []
    → check_fault (shape_at l) (fold with_default rows (rules_at l)) false ≡ [] → asked (name_at l ∷ words) ≡ asked_by (name_at l, fold with_default rows (rules_at l))
asked_at l words rows ends defaults checks =
    ap (λ k. unless_refused k (option_and_then asked_by (subcommand_of coreopt_app (name_at l ∷ words))))
    (top_passes l words (level_passes l words rows ends defaults checks))
    ∙ ap (option_and_then asked_by) (top_rows l words)
    ∙ ap (λ rs. asked_by (name_at l, fold with_default rs (rules_at l))) ends.rows_are
