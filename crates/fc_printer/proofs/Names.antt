-- Names, and the names of modules, are words to the grammar.
use Rattle.std.proofs.Common.{◌≡◌, ℕ, true, false, List, [], ◌∷◌, ◌++◌, refl, sym, ◌∙◌, ap, subst, arith, if◌then◌else◌, Option, Some, None}
use Rattle.std.specs.Prelude.{Ok, ◌&&◌, ◌||◌, ◌==◌, not, is_none}
use Rattle.std.specs.List.{list_all, list_any, after_last, before_last}
use Rattle.std.proofs.lemmas.Bool.{and_parts, and_from, true≢false}
use Rattle.std.proofs.lemmas.Bool.Decides.{nat_tests}
use Rattle.std.proofs.lemmas.List.Folds.{list_all-append}
use Rattle.fc_syntax.specs.declared.keyword.Keyword.{Keyword}
use Rattle.fc_syntax.specs.declared.token.TokenKind.TheVariants as kind
use Rattle.fc_syntax.specs.Tree.{Word}
use Rattle.fc_syntax.specs.Tokens.{is_plain, is_dot, is_name, is_name_byte, is_lower_letter, is_upper_letter, is_lower_name, is_upper_name, is_plain_name, is_module_name, is_module_part, word_kind}
use Rattle.fc_syntax.proofs.NameWords.{name_is_plain, name_kind, name_parts, starting_kind, undotted, upper_starts}
use Rattle.fc_model.specs.Words.{Lower, Upper, LowerOf, UpperOf, Other, dotted_tok, keyword_of, name_in_tok, name_tok, sign_or_name, sign_tok, undotted_tok}
use Rattle.fc_model.specs.Formed.{is_lower_word, is_upper_word}
use Rattle.fc_printer.proofs.Lexed.{IsWord}
use Rattle.fc_printer.proofs.FormWords.{module_no_keyword, no_sign}
use Rattle.fc_printer.proofs.ModuleNames.{before_dot, behind_dot, has_dot, module_is_plain, module_starts, or_right, part_is_upper}

-- no name has a dot
name_undotted : (w : List ℕ) → is_plain_name w ≡ true → list_any is_dot w ≡ false
name_undotted [] h = refl
name_undotted (b ∷ bs) h = undotted b bs h

-- a name without a dot
no_keyword : (o : Option Keyword) (w : Word) → is_none o ≡ true → undotted_tok o w ≡ sign_or_name (sign_tok w) w
no_keyword None w h = refl
no_keyword (Some k) w h = absurd (true≢false (sym h))

name_word : (w : Word) → is_plain_name w ≡ true → is_none (keyword_of w) ≡ true → IsWord w (name_tok w)
name_word [] h k = absurd (true≢false (sym h))
name_word (b ∷ bs) h k =
    let w = b ∷ bs in
    record {
      plain = name_is_plain b bs (name_parts b bs h);
      lexed_as = λ at. name_kind at b bs h;
      is = ap (λ x. if x then dotted_tok (keyword_of (after_last is_dot w)) (before_last is_dot w) (after_last is_dot w) else undotted_tok (keyword_of w) w) (name_undotted w h)
          ∙ no_keyword (keyword_of w) w k ∙ ap (λ s. sign_or_name s w) (no_sign w h);
    }

-- a name in a module
in_module_is_name : (m w : List ℕ) → is_module_name m ≡ true → is_plain_name w ≡ true → is_name (m ++ 46 ∷ w) ≡ true
in_module_is_name m w h k =
    let x = m ++ 46 ∷ w in
    let e = name_undotted w k in
    ap (λ y. is_plain_name y && (not (list_any is_dot x) || is_module_name (before_last is_dot x))) (behind_dot m w e)
    ∙ ap (λ y. y && (not (list_any is_dot x) || is_module_name (before_last is_dot x))) k ∙ or_right (not (list_any is_dot x)) (is_module_name (before_last is_dot x)) (ap is_module_name (before_dot m w e) ∙ h)

in_module_kind : (m w : List ℕ) → is_module_name m ≡ true → is_plain_name w ≡ true → (at : ℕ) → word_kind at (m ++ 46 ∷ w) ≡ Ok kind.Word
in_module_kind [] w h k at = absurd (true≢false (sym h))
in_module_kind (b ∷ bs) w h k at =
    starting_kind at b (bs ++ 46 ∷ w) (upper_starts b (module_starts b bs h)) (in_module_is_name (b ∷ bs) w h k)

dotted_is : (o : Option Keyword) (m w : Word) → is_none o ≡ true → is_module_name m ≡ true → dotted_tok o m w ≡ name_in_tok m w
dotted_is None m w h k = ap (λ x. if x then name_in_tok m w else Other) k
dotted_is (Some x) m w h k = absurd (true≢false (sym h))

plain_name_is_plain : (w : List ℕ) → is_plain_name w ≡ true → list_all is_plain w ≡ true
plain_name_is_plain [] h = refl
plain_name_is_plain (b ∷ bs) h = name_is_plain b bs (name_parts b bs h)

in_module_word : (m w : Word) → is_module_name m ≡ true → is_plain_name w ≡ true → is_none (keyword_of w) ≡ true → IsWord (m ++ 46 ∷ w) (name_in_tok m w)
in_module_word m w h k n =
    let x = m ++ 46 ∷ w in
    let e = name_undotted w k in
    record {
      plain = list_all-append is_plain m (46 ∷ w) ∙ and_from (list_all is_plain m) (list_all is_plain w) (module_is_plain m h) (plain_name_is_plain w k);
      lexed_as = in_module_kind m w h k;
      is = ap (λ y. if y then dotted_tok (keyword_of (after_last is_dot x)) (before_last is_dot x) (after_last is_dot x) else undotted_tok (keyword_of x) x) (has_dot m w)
          ∙ ap (λ y. dotted_tok (keyword_of y) (before_last is_dot x) y) (behind_dot m w e) ∙ ap (λ y. dotted_tok (keyword_of w) y w) (before_dot m w e) ∙ dotted_is (keyword_of w) m w n h;
    }

-- lower and upper names
upper_is_no_lower : (b : ℕ) → is_upper_letter b ≡ true → ((is_lower_letter b || b == 95) || b == 36) ≡ false
upper_is_no_lower b h = grind (arith, nat_tests)

upper_no_lower : (w : Word) → is_upper_name w ≡ true → is_lower_name w ≡ false
upper_no_lower [] h = refl
upper_no_lower (b ∷ bs) h = ap (λ x. x && list_all is_name_byte bs) (upper_is_no_lower b (and_parts (is_upper_letter b) (list_all is_name_byte bs) h).0)

pub lower_word : (w : Word) → is_lower_word w ≡ true → IsWord w (Lower w)
lower_word w h =
    let p = and_parts (is_lower_name w) (is_none (keyword_of w)) h in
    subst (IsWord w) (ap (λ x. if x then Lower w else if is_upper_name w then Upper w else Other) p.0) (name_word w (ap (λ x. x || is_upper_name w) p.0) p.1)

pub upper_word : (w : Word) → is_upper_word w ≡ true → IsWord w (Upper w)
upper_word w h =
    let p = and_parts (is_upper_name w) (is_none (keyword_of w)) h in
    subst (IsWord w) (ap (λ x. if x then Lower w else if is_upper_name w then Upper w else Other) (upper_no_lower w p.0) ∙ ap (λ x. if x then Upper w else Other) p.0)
    (name_word w (or_right (is_lower_name w) (is_upper_name w) p.0) p.1)

pub lower_in_word : (m w : Word) → is_module_name m ≡ true → is_lower_word w ≡ true → IsWord (m ++ 46 ∷ w) (LowerOf m w)
lower_in_word m w k h =
    let p = and_parts (is_lower_name w) (is_none (keyword_of w)) h in
    subst (IsWord (m ++ 46 ∷ w)) (ap (λ x. if x then LowerOf m w else if is_upper_name w then UpperOf m w else Other) p.0) (in_module_word m w k (ap (λ x. x || is_upper_name w) p.0) p.1)

pub upper_in_word : (m w : Word) → is_module_name m ≡ true → is_upper_word w ≡ true → IsWord (m ++ 46 ∷ w) (UpperOf m w)
upper_in_word m w k h =
    let p = and_parts (is_upper_name w) (is_none (keyword_of w)) h in
    subst (IsWord (m ++ 46 ∷ w)) (ap (λ x. if x then LowerOf m w else if is_upper_name w then UpperOf m w else Other) (upper_no_lower w p.0) ∙ ap (λ x. if x then UpperOf m w else Other) p.0)
    (in_module_word m w k (or_right (is_lower_name w) (is_upper_name w) p.0) p.1)

-- a part of the name of a module is an upper word
pub part_is_word : (w : Word) → is_module_part w ≡ true → is_upper_word w ≡ true
part_is_word w h = and_from (is_upper_name w) (is_none (keyword_of w)) (part_is_upper w h) (module_no_keyword w h)
