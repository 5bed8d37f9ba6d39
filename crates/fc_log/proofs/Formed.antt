-- What a text spells is a formed log.
use Rattle.std.proofs.Common.{◌≡◌, ℕ, ◌^◌, ◌<◌, Bool, true, false, List, [], ◌∷◌, map, refl, sym, ◌∙◌, subst, arith, Option, Some, None}
use Rattle.std.specs.Prelude.{All, codes, if◌then◌else◌, ◌&&◌}
use Rattle.std.specs.List.{list_all, slice_split}
use Rattle.std.specs.Str.{bytes_eq}
use Rattle.std.specs.Str.Parse.{digits_value}
use Rattle.std.proofs.lemmas.Bool.{and_parts, true≢false}
use Rattle.std.proofs.lemmas.List.{length-map}
use Rattle.std.proofs.lemmas.List.Elements.{All-nil, All-cons}
use Rattle.std.proofs.lemmas.List.Splits.{length-slice_split}
use Rattle.fc_syntax.specs.Tree.{Word}
use Rattle.fc_syntax.specs.Tokens.{is_dot, is_in_range, is_literal, is_lower_name, is_number, literal_value}
use Rattle.fc_syntax.specs.declared.fault.Place.{Place}
use Rattle.fc_syntax.specs.declared.fault.Place.TheVariants as place
use Rattle.fc_lex.proofs.Literals.{number_short}
use Rattle.fc_log.specs.declared.log.Answer.{Answer}
use Rattle.fc_log.specs.declared.log.Answer.TheVariants as answer
use Rattle.fc_log.specs.declared.log.Row.{Row}
use Rattle.fc_log.specs.declared.log.Row.TheVariants as row
use Rattle.fc_log.specs.Grammar.{answer_of, def_of, is_def_dead, is_fold, is_part_number, is_path, is_written_literal, no_leading_zero, path_of, place_of, step_at}
use Rattle.fc_log.specs.Texts.{IsAnswer, IsFormedEntry, of_fold, of_module, of_part, IsPath}
use Rattle.fc_log.proofs.Numerals.{literal_fits}

-- ROWS

dead_is : (r : Row) → is_def_dead r ≡ true → r ≡ row.DefDead
dead_is row.DefDead h = refl
dead_is r h = absurd (true≢false (sym h))

pub fold_is : (r : Row) → is_fold r ≡ true → r ≡ row.Fold
fold_is row.Fold h = refl
fold_is r h = absurd (true≢false (sym h))

-- WORDS

-- the definition of a step
abbrev pub FitsRow : Row → Option Word → Type 0
FitsRow r None = is_def_dead r ≡ true
FitsRow r (Some w) = (is_def_dead r ≡ false) × (is_lower_name w ≡ true)

def_by : (r : Row) (w : List ℕ) (d : Option Word) (p q s : Bool) → is_def_dead r ≡ p → is_lower_name w ≡ s → (if p then (if q then Some None else None) else (if s then Some (Some w) else None)) ≡ Some d → FitsRow r d
def_by r w d true true s e f h = subst (FitsRow r) (let k : None ≡ d = cc in k) e
def_by r w d true false s e f h = absurd (cc)
def_by r w d false q true e f h = subst (FitsRow r) (let k : Some w ≡ d = cc in k) (e, f)
def_by r w d false q false e f h = absurd (cc)

pub def_fits : (r : Row) (w : List ℕ) (d : Option Word) → def_of r w ≡ Some d → FitsRow r d
def_fits r w d h = def_by r w d (is_def_dead r) (bytes_eq w (codes "-")) (is_lower_name w) refl refl h

-- the place of a step
abbrev pub StandsFor : Row → Place → Type 0
StandsFor r place.Nowhere = is_def_dead r ≡ true
StandsFor r (place.Parts ns) = (is_def_dead r ≡ false) × IsPath ns
StandsFor r (place.Byte n) = ⊥

values_small : (ws : List (List ℕ)) → list_all is_part_number ws ≡ true → All (λ n. n < 10 ^ 9) (map (digits_value 10) ws)
values_small [] h = All-nil (λ n. n < 10 ^ 9)
values_small (w ∷ ws) h =
    let p = and_parts (is_part_number w) (list_all is_part_number ws) h in
    All-cons (λ n. n < 10 ^ 9) (digits_value 10 w) (map (digits_value 10) ws) (number_short w (and_parts (is_number w) (no_leading_zero w) p.0).0) (values_small ws p.1)

path_formed : (w : List ℕ) → is_path w ≡ true → IsPath (path_of w)
path_formed w h = record { some_part = omega (arith, length-map (slice_split is_dot w) (digits_value 10), length-slice_split is_dot w); each = values_small (slice_split is_dot w) h }

place_by : (r : Row) (w : List ℕ) (x : Place) (p q s : Bool) → is_def_dead r ≡ p → is_path w ≡ s → (if p then (if q then Some place.Nowhere else None) else (if s then Some (place.Parts (path_of w)) else None)) ≡ Some x → StandsFor r x
place_by r w x true true s e f h = subst (StandsFor r) (let k : place.Nowhere ≡ x = cc in k) e
place_by r w x true false s e f h = absurd (cc)
place_by r w x false q true e f h = subst (StandsFor r) (let k : place.Parts (path_of w) ≡ x = cc in k) (e, path_formed w f)
place_by r w x false q false e f h = absurd (cc)

pub place_stands : (r : Row) (w : List ℕ) (x : Place) → place_of r w ≡ Some x → StandsFor r x
place_stands r w x h = place_by r w x (is_def_dead r) (bytes_eq w (codes "-")) (is_path w) refl refl h

answer_by : (w : List ℕ) (a : Answer) (p q r s : Bool) → is_written_literal w ≡ r → is_in_range w ≡ s
    → (if p then Some answer.First else if q then Some answer.Second else if r && s then Some (answer.Literal (literal_value w)) else None) ≡ Some a → IsAnswer a
answer_by w a true q r s e f h = subst IsAnswer (let k : answer.First ≡ a = cc in k) tt
answer_by w a false true r s e f h = subst IsAnswer (let k : answer.Second ≡ a = cc in k) tt
answer_by w a false false true true e f h =
    subst IsAnswer (let k : answer.Literal (literal_value w) ≡ a = cc in k) (literal_fits w (and_parts (is_literal w) _ e).0 f)
answer_by w a false false true false e f h = absurd (cc)
answer_by w a false false false s e f h = absurd (cc)

pub answer_formed : (w : List ℕ) (a : Answer) → answer_of w ≡ Some a → IsAnswer a
answer_formed w a h = answer_by w a (bytes_eq w (codes "first")) (bytes_eq w (codes "second")) (is_written_literal w) (is_in_range w) refl refl h

-- STEPS

pub part_formed : (r : Row) (d : Option Word) (p : Place) → is_fold r ≡ false → FitsRow r d → StandsFor r p → IsFormedEntry (step_at r d p None)
part_formed r None place.Nowhere f e s = subst (λ r. IsFormedEntry (step_at r None place.Nowhere None)) (sym (dead_is r e)) of_module
part_formed r None (place.Parts ns) f e s = absurd (true≢false (sym e ∙ s.0))
part_formed r (Some w) place.Nowhere f e s = absurd (true≢false (sym s ∙ e.0))
part_formed r (Some w) (place.Parts ns) f e s = of_part r w ns e.0 f e.1 s.1
part_formed r d (place.Byte n) f e s = absurd s

pub fold_formed : (d : Option Word) (p : Place) (a : Answer) → FitsRow row.Fold d → StandsFor row.Fold p → IsAnswer a → IsFormedEntry (step_at row.Fold d p (Some a))
fold_formed None p a e s h = absurd (true≢false (sym e))
fold_formed (Some w) place.Nowhere a e s h = absurd (true≢false (sym s))
fold_formed (Some w) (place.Parts ns) a e s h = of_fold w ns a e.1 s.1 h
fold_formed (Some w) (place.Byte n) a e s h = absurd s
