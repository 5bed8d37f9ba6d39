-- What filters keep of names.
use Rattle.std.proofs.Common.{◌≡◌, refl, sym, ap, ◌∙◌, Bool, true, false, not, if◌then◌else◌, List, [], ◌∷◌, ◌++◌, append_assoc, append-nil, Option, Some, None}
use Rattle.std.specs.List.{filter}
use Rattle.std.specs.Str.{bytes_eq}
use Rattle.std.proofs.Math.Path.{fun_ext}
use Rattle.std.proofs.lemmas.List.Elements.{filter_agree, filter-append}
use Rattle.fc_syntax.specs.declared.ty.Name.{Name}
use Rattle.fc_syntax.specs.Tree.{Word}
use Rattle.fc_model.specs.Resolution.{WordSet, no_word, plus}
use Rattle.fc_free.specs.Bound.{either}
use Rattle.fc_free.specs.Free.{is_bound_by, of_one, without}
use Rattle.fc_free.proofs.BoundWords.{bound_none}

-- two filters in a row are one
pub filter_both : {X : Type 0} (p q : X → Bool) (xs : List X) → filter p (filter q xs) ≡ filter (λ x. if q x then p x else false) xs
filter_both p q [] = refl
filter_both {X} p q (x ∷ xs) = first (q x) (filter_both p q xs)
  where
    first : (b : Bool) → filter p (filter q xs) ≡ filter (λ y. if q y then p y else false) xs
        → filter p (if b then x ∷ filter q xs else filter q xs) ≡ (if (if b then p x else false) then x ∷ filter (λ y. if q y then p y else false) xs else filter (λ y. if q y then p y else false) xs)
    first true h = ap (λ (ys : List X). if p x then x ∷ ys else ys) h
    first false h = h

-- no word binds a name
pub without_none : (ns : List Name) → without no_word ns ≡ ns
without_none [] = refl
without_none (n ∷ ns) =
    ap (λ b. if not b then n ∷ without no_word ns else without no_word ns) (bound_none n.module n.text) ∙ ap (λ ms. n ∷ ms) (without_none ns)

-- names that words of two sets do not bind
pub without_either : (s t : WordSet) (ns : List Name) → without (either s t) ns ≡ without t (without s ns)
without_either s t ns =
    filter_agree (λ n. not (is_bound_by (either s t) n.module n.text)) (λ n. if not (is_bound_by s n.module n.text) then not (is_bound_by t n.module n.text) else false) (λ n. agree n.module n.text) ns
    ∙ sym (filter_both (λ n. not (is_bound_by t n.module n.text)) (λ n. not (is_bound_by s n.module n.text)) ns)
  where
    neither : (a b : Bool) → not (if a then true else b) ≡ (if not a then not b else false)
    neither true b = refl
    neither false b = refl

    agree : (m : Option Word) (w : Word) → not (is_bound_by (either s t) m w) ≡ (if not (is_bound_by s m w) then not (is_bound_by t m w) else false)
    agree None w = neither (s w) (t w)
    agree (Some m) w = refl

pub without_plus : (x : Word) (s : WordSet) (ns : List Name) → without (plus x s) ns ≡ without s (without (of_one x) ns)
without_plus x s ns = ap (λ t. without t ns) (fun_ext (λ w. one (bytes_eq x w) (s w))) ∙ without_either (of_one x) s ns
  where
    one : (a b : Bool) → (if a then true else b) ≡ (if (if a then true else false) then true else b)
    one true b = refl
    one false b = refl

-- names behind others
pub without_both : (s : WordSet) (ms ns : List Name) → without s (ms ++ ns) ≡ without s ms ++ without s ns
without_both s ms ns = filter-append (λ n. not (is_bound_by s n.module n.text)) ms ns

pub ruleset kept_rules = (without_none, without_either, without_plus, without_both, append-nil, append_assoc)

-- what is found in a piece behind words
pub found_behind : (s t u : WordSet) (ns before : List Name) → s ≡ u → before ++ without (either s t) ns ≡ before ++ without t (without u ns)
found_behind s t u ns before same = ap (λ xs. before ++ xs) (without_either s t ns ∙ ap (λ w. without t (without w ns)) same)

-- what is found in a group of binders, whose right sides stand behind them where it is recursive, and in what it is for
pub found_group : (r : Bool) (s t u : WordSet) (sides body before between after : List Name) → s ≡ u → between ≡ before ++ without (if r then either s t else t) sides → after ≡ between ++ without (either s t) body
    → after ≡ before ++ without t ((if r then without u sides else sides) ++ without u body)
found_group r s t u sides body before between after same first second =
    second ∙ found_behind s t u body between same ∙ ap (λ xs. xs ++ without t (without u body)) (first ∙ right_sides r) ∙ append_assoc before (without t (if r then without u sides else sides)) (without t (without u body))
    ∙ ap (λ xs. before ++ xs) (sym (without_both t (if r then without u sides else sides) (without u body)))
  where
    right_sides : (b : Bool) → before ++ without (if b then either s t else t) sides ≡ before ++ without t (if b then without u sides else sides)
    right_sides true = found_behind s t u sides before same
    right_sides false = refl
